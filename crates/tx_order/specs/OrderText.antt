-- The report of an order, as it is written.
use Rattle.std.specs.Prelude.{ℕ, ◌+◌, Bool, true, false, List, [], ◌++◌, length, codes, decimal}
use Rattle.std.specs.List.{flat_map, range_with_len}
use Rattle.tx_plan.specs.Plan.{Plan, figures_of, exchange_name}
use Rattle.tx_plan.specs.Routes.{route_list, is_barred}
use Rattle.tx_rank.specs.declared.finding.Finding.{Finding}
use Rattle.tx_rank.specs.Report.{asked_line, findings_of, no_line}
use Rattle.tx_join.specs.Steps.{before_text, after_text}
use Rattle.tx_join.specs.ListCounts.{lists_line}
use Rattle.tx_plantext.specs.ChangedLists.{line_unless_same}
use Rattle.tx_change.specs.ChangeReport.{findings_after, verdict_after}
use Rattle.tx_order.specs.declared.judging.OrderVerdict.{OrderVerdict}
use Rattle.tx_order.specs.declared.judging.OrderVerdict.TheVariants.{Ordered, NoOrder, NewUnsound}
use Rattle.tx_order.specs.Ordered.{Order, plan_before, stages_in}

-- an exchange and a code after a word
abbrev pub pair_line : Plan → (word : List ℕ) → (x c : ℕ) → List ℕ
pair_line p word x c =
    word ++ (exchange_name p x ++ (codes " " ++ (figures_of p c ++ codes "\n")))

-- whether the exchange was barred for the code, and whether it is now: a bar that is set, one that
-- is lifted, or nothing
abbrev pub bar_line : Plan → (x c : ℕ) → (before now : Bool) → List ℕ
bar_line p x c false false = []
bar_line p x c false true = pair_line p (codes "BAR ") x c
bar_line p x c true false = pair_line p (codes "UNBAR ") x c
bar_line p x c true true = []

-- what is switched at an exchange for a code from one plan to another: the bar and the list, with
-- the one that it replaces, by the names of p
abbrev pub entry_lines : (p before after : Plan) → (x c : ℕ) → List ℕ
entry_lines p before after x c =
    bar_line p x c (is_barred before x c) (is_barred after x c)
    ++ line_unless_same p c x (route_list before x c) (route_list after x c)

-- at an exchange, by codes
abbrev pub exchange_lines : (p before after : Plan) → (x : ℕ) → List ℕ
exchange_lines p before after x =
    flat_map (entry_lines p before after x) (range_with_len 0 (length p.codes))

-- at all exchanges
abbrev pub switched_lines : (p before after : Plan) → List ℕ
switched_lines p before after =
    flat_map (exchange_lines p before after) (range_with_len 0 (length p.exchanges))

-- the number of a stage, from 1
abbrev pub stage_line : ℕ → List ℕ
stage_line s = codes "STAGE " ++ (decimal (s + 1) ++ codes "\n")

-- a stage with its number, and what it switches
abbrev pub stage_text : Order → ℕ → List ℕ
stage_text o s = stage_line s
    ++ switched_lines o.transition.new (plan_before o s) (plan_before o (s + 1))

-- the stages of an order
abbrev pub stages_text : Order → List ℕ
stages_text o = flat_map (stage_text o) (range_with_len 0 (stages_in o))

module _ {A : Type 0} where
  -- where there is no order: the findings of the old plan and of the new one, and NO with their
  -- number
  abbrev pub no_order_text : Plan → (before after : List (Finding A)) → List ℕ
  no_order_text p before after = findings_after (codes "OLD ") p before
      ++ (findings_after (codes "NEW ") p after ++ no_line (length before + length after))

  -- the stages, if there are any
  abbrev pub found_text : OrderVerdict A → List ℕ
  found_text (Ordered o) = stages_text o
  found_text (NoOrder plans before after) = []
  found_text (NewUnsound findings) = []

  -- YES, or what is wrong with both plans over the joined network, or with the new plan as it is, by
  -- its own names
  abbrev pub verdict_text : (new : Plan) → OrderVerdict A → List ℕ
  verdict_text new (Ordered o) = codes "VERDICT YES\n"
  verdict_text new (NoOrder plans before after) =
      no_order_text plans.old (findings_of before) (findings_of after)
  verdict_text new (NewUnsound findings) = verdict_after (codes "NEW ") new findings.items

  -- The report: what was asked, after the word that says which order it is; what is done before the
  -- first stage, the stages, with the lists that are replaced, what is done after the last one, how
  -- many lists there are, and the verdict
  abbrev pub order_report : (word : List ℕ) → (old new : Plan) → (limit spare : ℕ)
      → OrderVerdict A → List ℕ
  order_report word old new limit spare verdict = asked_line word limit spare
      ++ (before_text old new ++ (found_text verdict ++ (after_text old new
      ++ (lists_line old new ++ verdict_text new verdict))))
