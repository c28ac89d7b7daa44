-- What a page shows of the way from an old plan to a new one, in numbers.
use Rattle.std.specs.Prelude.{ℕ, ◌+◌, Bool, false, not, if◌then◌else◌, List, [], ◌∷◌, ◌++◌, length, count_by, sum_by}
use Rattle.std.specs.List.{range_with_len}
use Rattle.std.specs.Str.{bytes_eq}
use Rattle.tx_html.specs.Amounts.{amount}
use Rattle.tx_plan.specs.Plan.{Plan}
use Rattle.tx_plan.specs.Routes.{route_list}
use Rattle.tx_order.specs.Ordered.{Order, plan_before, stages_in}
use Rattle.tx_order.specs.declared.switching.Switching.{Switching}
use Rattle.tx_order.specs.declared.switching.Switching.TheVariants.{Ordered, NoOrder}
use Rattle.tx_svg.specs.Indexed.{texts_below}
use Rattle.tx_page_change.specs.declared.change.Change.{Change}
use Rattle.tx_page_change.specs.ChangeTexts.{order_word}
use Rattle.tx_page_change.specs.StepTexts.{bare, alone_in}

-- an exchange has another list for a code
abbrev pub is_other_list : (before after : Plan) → (x c : ℕ) → Bool
is_other_list before after x c = not (bytes_eq (route_list before x c) (route_list after x c))

-- how many lists differ at an exchange
abbrev pub lists_differing_at : (p before after : Plan) → (x : ℕ) → ℕ
lists_differing_at p before after x =
    count_by (is_other_list before after x) (range_with_len 0 (length p.codes))

-- and at all exchanges
abbrev pub lists_differing : (p before after : Plan) → ℕ
lists_differing p before after =
    sum_by (lists_differing_at p before after) (range_with_len 0 (length p.exchanges))

-- how many lists a stage switches
abbrev pub stage_lists : Order → ℕ → List (List ℕ)
stage_lists o s =
    amount (lists_differing o.transition.new (plan_before o s) (plan_before o (s + 1))) ∷ []

-- how many lists are put there before the first stage
abbrev pub lists_put : (old new : Plan) → ℕ
lists_put old new = lists_differing new (bare new) (alone_in new old)

-- how many go after the last one
abbrev pub lists_gone : (old new : Plan) → ℕ
lists_gone old new = lists_differing old (alone_in old new) (bare old)

-- how many stages there are, and how many lists are put there, switched in each stage, and go
abbrev pub way_texts : (old new : Plan) → Order → List (List ℕ)
way_texts old new o = amount (stages_in o) ∷ amount (lists_put old new)
    ∷ (texts_below (stages_in o) (stage_lists o) ++ amount (lists_gone old new) ∷ [])

module _ {A : Type 0} where
  -- the way, if there is an order and the new plan is safe; or that there is none
  abbrev pub asked_way_texts : (safe : Bool) → Change A → Switching A → List (List ℕ)
  asked_way_texts safe c (Ordered o) =
      if safe then way_texts c.old.plan.now c.new.plan.now o else order_word false ∷ []
  asked_way_texts safe c (NoOrder plans before after) = order_word false ∷ []
