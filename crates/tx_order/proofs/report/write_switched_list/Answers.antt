use Rattle.tx_order.proofs.Common.{◌≡◌, ℕ, ◌+◌, ◌<◌, Bool, false, cond, List, [], ◌++◌, sym, ap, ◌∙◌, true≢false, bytes_eq-Decides, bytes_eq, puts_is, Plan, route_list, Order, IsOrderKept, plan_before, stages_in}
use Rattle.tx_plantext.specs.ChangedLists.{list_line, was_line, line_unless_same}
use Rattle.tx_order.proofs.Ordered.{new_after}
use Rattle.tx_order.proofs.report.write_switched_list.Goals as goal

-- another list than before is the new one
new_line : (o : Order) → IsOrderKept o → (s x c : ℕ) (old now : List ℕ) (b : Bool) → s < stages_in o → old ≡ route_list (plan_before o s) x c → now ≡ route_list (plan_before o (s + 1)) x c → b ≡ bytes_eq old now → b ≡ false
    → line_unless_same o.transition.new c x (route_list (plan_before o s) x c) (route_list (plan_before o (s + 1)) x c) ≡ list_line o.transition.new c x (route_list o.transition.new x c) ++ was_line o.transition.new old
new_line o k s x c old now b h is is' e none =
    let apart : bytes_eq (route_list (plan_before o s) x c) (route_list (plan_before o (s + 1)) x c) ≡ false = (λ i. bytes_eq (sym is i) (sym is' i)) ∙ (sym e ∙ none) in
    let new = new_after o k s x c h (λ same. true≢false (sym ((bytes_eq-Decides (route_list (plan_before o s) x c) (route_list (plan_before o (s + 1)) x c)).1 same) ∙ apart)) in
    ap (λ t. cond t [] (list_line o.transition.new c x (route_list (plan_before o (s + 1)) x c) ++ was_line o.transition.new (route_list (plan_before o s) x c))) apart
    ∙ (λ i. list_line o.transition.new c x (new i) ++ was_line o.transition.new (sym is i))

pub returns : goal.returns
returns g c =
    let o = c.args.order.now in
    let x = c.args.exchange in
    let code = c.args.code in
    let old = c.list-old.result.now in
    puts_is (new_line o c.rules.ensures.kept c.args.stage x code old c.list.result.now c.eq.result c.requires c.list-old.ensures c.list.ensures c.eq.ensures c.if-eq.false
    ∙ sym (ap (λ (p : Plan). list_line p code x (route_list p x code) ++ was_line p old) c.new_plan.ensures)) c.write_new_list.ensures
