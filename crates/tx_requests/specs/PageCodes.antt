-- Of which codes a page has pictures.
use Rattle.std.specs.Prelude.{◌≡◌, ℕ, Bool, true, false, not, ◌||◌, ◌==◌, if◌then◌else◌, List, Option, None, Some, is_none, length, option_map, string_bytes}
use Rattle.std.specs.List.{list_any, position, range_with_len}
use Rattle.std.specs.Option.{option_map_or}
use Rattle.std.specs.Str.{bytes_eq}
use Rattle.tx_plan.specs.Plan.{Plan, code_named, figures_of}
use Rattle.tx_plan.specs.Routes.{route_list, is_barred}
use Rattle.tx_rank.specs.declared.finding.Finding.{Finding}
use Rattle.tx_rank.specs.declared.finding.Finding.TheVariants.{Ambiguous, Loop, Short, Long}
use Rattle.tx_rank.specs.declared.ranking.Ranking.{Ranking}
use Rattle.tx_rank.specs.declared.ranking.Ranking.TheVariants.{Found, Fails}
use Rattle.tx_order.specs.Switchings.{plans_of}
use Rattle.tx_commands.specs.declared.page.PageRequest.{PageRequest}
use Rattle.tx_files.specs.declared.page_reading.PageTexts.{PageTexts}
use Rattle.tx_files.specs.declared.two_plans.PlanText.{PlanText}
use Rattle.tx_files.specs.Names.{names_in, is_named, name_at}
use Rattle.tx_requests.specs.declared.page_change.FoundChange.{FoundChange}
use Rattle.tx_files.specs.declared.fault.CommandFault.{CommandFault}
use Rattle.tx_files.specs.declared.fault.CommandFault.TheVariants.{NoSuchName}
use Rattle.tx_files.specs.declared.missing.Named.TheVariants.{Code}
use Rattle.tx_files.specs.Missing.{missing}

-- the place of the first name in a word of which the plan has no code
abbrev pub first_missing : Plan → List ℕ → Option ℕ
first_missing p word = position (λ w. is_none (code_named p w)) (names_in word)

-- the same, if there is a word
abbrev pub missing_code : Plan → Option (List ℕ) → Option ℕ
missing_code p None = None
missing_code p (Some word) = first_missing p word

-- the first name in a word of which a plan has no code
abbrev pub IsNoCode : Plan → Option (List ℕ) → CommandFault → Type 0
IsNoCode p word fault = (place : ℕ) × (missing_code p word ≡ Some place)
    × (fault ≡ NoSuchName (missing p Code place (name_at word place)))

-- a bar is set or lifted
abbrev pub is_switched : (was is : Bool) → Bool
is_switched true is = not is
is_switched false is = is

-- an exchange has another list or another bar for a code in the new plan
abbrev pub differs_at : (old new : Plan) → (c x : ℕ) → Bool
differs_at old new c x = not (bytes_eq (route_list old x c) (route_list new x c))
    || is_switched (is_barred old x c) (is_barred new x c)

-- one of the exchanges has
abbrev pub differs : (old new : Plan) → (c : ℕ) → Bool
differs old new c = list_any (differs_at old new c) (range_with_len 0 (length new.exchanges))

module _ {A : Type 0} where
  -- a finding is about a code
  abbrev pub is_about : ℕ → Finding A → Bool
  is_about c (Ambiguous shorter longer) = (shorter == c) || (longer == c)
  is_about c (Loop k w) = k == c
  is_about c (Short k w) = k == c
  is_about c (Long k w) = k == c

  -- one of the findings is
  abbrev pub has_finding : ℕ → Ranking A → Bool
  has_finding c (Found cert) = false
  has_finding c (Fails findings) = list_any (is_about c) findings.items

  -- a change touches the code of these figures: the old plan does not have it, or an exchange has
  -- another list or bar for it over the joined network, where it has the index of the old plan
  abbrev pub is_touched : Option (PlanText A) → Option (FoundChange A) → List ℕ → Bool
  is_touched None change figures = false
  is_touched (Some old) None figures = false
  is_touched (Some old) (Some f) figures =
      option_map_or (differs (plans_of f.switching).old (plans_of f.switching).new)
      (code_named old.plan figures) true

  -- A page has the picture of a code: with `--all-codes` of each one, with `--code` of those that it
  -- names, and else of those with a finding and those that the change touches.
  abbrev pub is_shown : PageRequest → PageTexts A → Ranking A → Option (FoundChange A) → ℕ → Bool
  is_shown r t ranking change c =
      if r.all_codes then true
      else option_map_or (is_named (figures_of t.plan.plan c)) (option_map string_bytes r.code)
      (has_finding c ranking || is_touched t.old change (figures_of t.plan.plan c))
