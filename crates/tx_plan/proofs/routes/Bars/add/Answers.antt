use Rattle.tx_plan.proofs.Common.{◌≡◌, ◌∙◌, ap, ◌++◌, ◌∷◌, [], if◌then◌else◌, false, list_any, Pair}
use Rattle.tx_plan.proofs.PairRows.{same_pair, turned}
use Rattle.tx_plan.proofs.routes.Bars.add.Goals as goal

pub returns-clause-ok : goal.returns-clause-ok
returns-clause-ok g c =
    let p : Pair = c.args.pair in
    let keys = c.self.inside.pairs.keys in
    let absent : list_any (same_pair p) keys ≡ false = (λ i. list_any (λ q. turned p q i) (c.self.view_is i)) ∙ c.requires in
    c.in_ok-insert.ensures.keys ∙ ap (λ b. if b then keys else keys ++ p ∷ []) absent ∙ ap (λ l. l ++ p ∷ []) c.self.view_is
