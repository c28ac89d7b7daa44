-- The report of a change, as it is written.
use Rattle.std.specs.Prelude.{ℕ, List, [], ◌++◌, length, codes}
use Rattle.std.specs.List.{flat_map}
use Rattle.tx_plan.specs.Plan.{Plan}
use Rattle.tx_rank.specs.declared.finding.Finding.{Finding}
use Rattle.tx_rank.specs.Report.{asked_line, finding_line, verdict_line}
use Rattle.tx_join.specs.Differences.{differ}
use Rattle.tx_join.specs.Steps.{part, before_text, after_text}
use Rattle.tx_join.specs.ListCounts.{lists_line}
use Rattle.tx_plantext.specs.ChangedLists.{changes}
use Rattle.tx_change.specs.declared.judging.ChangeVerdict.{ChangeVerdict}
use Rattle.tx_change.specs.declared.judging.ChangeVerdict.TheVariants.{Sound, Unsound, NewUnsound}

-- each list that is switched, and the list that it replaces, after a word where a part comes before
-- them
abbrev pub switched_lists : (old new before after : Plan) → List ℕ
switched_lists old new before after =
    part (differ old new) (codes "SWITCH\n") ++ changes before.routes after

module _ {A : Type 0} where
  -- a finding after a word
  abbrev pub finding_after : (word : List ℕ) → Plan → Finding A → List ℕ
  finding_after word p f = word ++ finding_line p f

  -- a line for each finding, after a word
  abbrev pub findings_after : (word : List ℕ) → Plan → List (Finding A) → List ℕ
  findings_after word p findings = flat_map (finding_after word p) findings

  -- these lines, and the verdict
  abbrev pub verdict_after : (word : List ℕ) → Plan → List (Finding A) → List ℕ
  verdict_after word p findings =
      findings_after word p findings ++ verdict_line (length findings)

  -- what was found of the mixtures, by the names of the joined network, or of the new plan as it
  -- is, by its own names after the word NEW, and the verdict
  abbrev pub verdict_text : (before new : Plan) → ChangeVerdict A → List ℕ
  verdict_text before new (Sound cert) = codes "VERDICT YES\n"
  verdict_text before new (Unsound findings) = verdict_after [] before findings.items
  verdict_text before new (NewUnsound findings) = verdict_after (codes "NEW ") new findings.items

  -- The report: what was asked, what is done before, the lists that are switched, what is done
  -- after, how many lists there are, a line for each finding, and the verdict
  abbrev pub change_report : (old new before after : Plan) → (limit spare : ℕ)
      → ChangeVerdict A → List ℕ
  change_report old new before after limit spare verdict =
      asked_line (codes "CHANGE") limit spare ++ (before_text old new
      ++ (switched_lists old new before after ++ (after_text old new
      ++ (lists_line old new ++ verdict_text before new verdict))))
