-- The law of `==` on pairs.
use Rattle.std.specs.Prelude.{◌≡◌, true, ◌==◌, ◌&&◌}
use Rattle.std.proofs.Common.{eqb-true}
use Rattle.std.proofs.lemmas.Bool.{and_parts}
use Rattle.tx_plan.specs.declared.ids.Pair.{Pair}

pub same_pair-is : (p q : Pair) → ((p.exchange == q.exchange) && (p.code == q.code)) ≡ true → p ≡ q
same_pair-is p q h =
    let r = and_parts (p.exchange == q.exchange) (p.code == q.code) h in
    λ i. record {
      exchange = eqb-true p.exchange q.exchange r.0 i;
      code = eqb-true p.code q.code r.1 i;
    }
