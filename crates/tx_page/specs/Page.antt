-- What a page shows, from its head to its end.
use Rattle.std.specs.Prelude.{ℕ, Bool, true, false, List, [], ◌∷◌, ◌++◌, Option, None, Some, is_some}
use Rattle.std.specs.Borrow.{Bor}
use Rattle.tx_rank.specs.declared.ranking.Ranking.{Ranking}
use Rattle.tx_rank.specs.declared.ranking.Ranking.TheVariants.{Found, Fails}
use Rattle.tx_page_change.specs.declared.change.Change.{Change}
use Rattle.tx_page_change.specs.StepTexts.{change_texts}
use Rattle.tx_page.specs.declared.subject.Subject.{Subject}
use Rattle.tx_page_change.specs.CrewTexts.{crews_texts}
use Rattle.tx_page.specs.Decision.{decision_texts}
use Rattle.tx_page.specs.Heading.{heading_texts}
use Rattle.tx_page.specs.WrongTexts.{wrong_texts}
use Rattle.tx_page.specs.CodeTexts.{codes_texts}
use Rattle.tx_page.specs.OutageTexts.{outages_texts}
use Rattle.tx_svg.specs.ListTexts.{pictures_texts}
use Rattle.tx_page.specs.NetworkTexts.{network_texts}

-- a word for what is down, if there is one
abbrev pub down_texts : Option (Bor (List ℕ)) → List (List ℕ)
down_texts None = []
down_texts (Some word) = word.now ∷ []

module _ {A : Type 0} where
  -- a certificate was found
  abbrev pub is_safe : Ranking A → Bool
  is_safe (Found cert) = true
  is_safe (Fails findings) = false

  -- what was judged, and the verdict: of the plan, or of the change from an old one, if one is asked
  -- for
  abbrev pub first_texts : Subject A → (safe : Bool) → Option (Change A) → List (List ℕ)
  first_texts s safe None = heading_texts s.name.now s.digest s.version.now s.plan.now safe
      s.limits.limit s.limits.spare
  first_texts s safe (Some change) = decision_texts s change safe

  -- the change, if one is asked for, and the work at each exchange
  abbrev pub asked_change_texts : (safe : Bool) → Option (Change A) → List (List ℕ)
  asked_change_texts safe None = []
  asked_change_texts safe (Some change) = change_texts safe change ++ crews_texts safe change

  -- the verdict, what is down, what is wrong, the change, the codes, the outages, the lists and the
  -- network
  abbrev pub page_texts : Subject A → List (List ℕ)
  page_texts s =
      first_texts s (is_safe s.ranking.now) s.change
      ++ (down_texts s.down ++ (down_texts s.down_exchange
      ++ (wrong_texts s.plan.now s.limits.spare s.ranking.now
      ++ (asked_change_texts (is_safe s.ranking.now) s.change
      ++ (codes_texts s.plan.now s.grade.now.codes.items
      ++ (outages_texts s.plan.now s.risks.now s.outcomes.now (is_some s.grade.now.plan)
      ++ (pictures_texts s.plan.now s.grade.now s.pictures.now
      ++ network_texts s.plan.now)))))))
