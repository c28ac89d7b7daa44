use Rattle.tx_plan.proofs.Common.{◌≡◌, ◌∙◌, ap, sym, true, List, ℕ, is_name, Plan, exchange_named}
use Rattle.tx_plan.proofs.Absent.{unnamed, too_long, short_name}
use Rattle.tx_plan.proofs.plan.Plan.exchange_named.Goals as goal

pub returns-then-name-gt8 : goal.returns-then-name-gt8
returns-then-name-gt8 g c =
    sym (unnamed is_name (λ (x : List ℕ). x) (λ x. is_name x ≡ true) c.args.name.now c.self.inside.exchanges.keys (λ x h. h) (too_long is_name 8 short_name c.args.name.now c.if-name-gt8.true) c.self.invariant.exchanges)
    ∙ ap (λ (p : Plan). exchange_named p c.args.name.now) c.self.view_is
