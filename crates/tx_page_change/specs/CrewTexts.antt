-- What a page shows of the work at each exchange.
use Rattle.std.specs.Prelude.{ℕ, ◌+◌, Bool, if◌then◌else◌, List, [], ◌∷◌, ◌++◌, length}
use Rattle.std.specs.List.{list_any, range_with_len}
use Rattle.std.specs.Option.{option_map_or}
use Rattle.tx_plan.specs.Plan.{Plan, exchange_name, exchange_named}
use Rattle.tx_plan.specs.Routes.{route_list, is_barred}
use Rattle.tx_order.specs.Ordered.{Order, plan_before, stages_in}
use Rattle.tx_order.specs.declared.switching.Switching.{Switching}
use Rattle.tx_order.specs.declared.switching.Switching.TheVariants.{Ordered, NoOrder}
use Rattle.tx_order.specs.Switchings.{plans_of}
use Rattle.tx_svg.specs.Indexed.{texts_below}
use Rattle.tx_page_change.specs.ChangeTexts.{is_switched, exchange_texts, stage_title}
use Rattle.tx_page_change.specs.StepTexts.{bare, alone_in}
use Rattle.tx_page_change.specs.declared.change.Change.{Change}

-- an exchange has another list or bar for a code
abbrev pub has_work_for : (before after : Plan) → (x c : ℕ) → Bool
has_work_for before after x c = is_switched (route_list before x c) (route_list after x c)
    (is_barred before x c) (is_barred after x c)

-- it has for some code
abbrev pub has_work : (p before after : Plan) → (x : ℕ) → Bool
has_work p before after x =
    list_any (has_work_for before after x) (range_with_len 0 (length p.codes))

-- what is done at an exchange, under a title and its name; nothing, if nothing is
abbrev pub work_texts : (title : List (List ℕ)) → (p before after : Plan) → (x : ℕ)
    → List (List ℕ)
work_texts title p before after x = if has_work p before after x
    then title ++ (exchange_name p x ∷ exchange_texts p before after x) else []

-- the same at the exchange of this name, if the plan has it
abbrev pub named_work_texts : (title : List (List ℕ)) → (p before after : Plan) → List ℕ
    → List (List ℕ)
named_work_texts title p before after name =
    option_map_or (work_texts title p before after) (exchange_named p name) []

-- what a stage switches at an exchange
abbrev pub stage_work_texts : Order → (x s : ℕ) → List (List ℕ)
stage_work_texts o x s = work_texts (stage_title o s) o.transition.new (plan_before o s)
    (plan_before o (s + 1)) x

module _ {A : Type 0} where
  -- what is switched at an exchange, stage by stage; or all that differs there
  abbrev pub switched_work_texts : (safe : Bool) → Switching A → ℕ → List (List ℕ)
  switched_work_texts safe (Ordered o) x = if safe
      then texts_below (stages_in o) (stage_work_texts o x)
      else work_texts [] o.transition.new o.transition.old o.transition.new x
  switched_work_texts safe (NoOrder plans before after) x =
      work_texts [] plans.new plans.old plans.new x

  -- what is done at an exchange of the joined network: before the stages, in each, and after them
  abbrev pub crew_texts : (safe : Bool) → Change A → ℕ → List (List ℕ)
  crew_texts safe c x =
      named_work_texts [] c.new.plan.now (bare c.new.plan.now)
      (alone_in c.new.plan.now c.old.plan.now) (exchange_name (plans_of c.switching.now).new x)
      ++ (switched_work_texts safe c.switching.now x
      ++ named_work_texts [] c.old.plan.now (alone_in c.old.plan.now c.new.plan.now)
      (bare c.old.plan.now) (exchange_name (plans_of c.switching.now).new x))

  -- that at each exchange, if it is asked for
  abbrev pub crews_texts : (safe : Bool) → Change A → List (List ℕ)
  crews_texts safe c = if c.by_exchange
      then texts_below (length (plans_of c.switching.now).new.exchanges) (crew_texts safe c) else []
