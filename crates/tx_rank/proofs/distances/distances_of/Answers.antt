use Rattle.tx_rank.proofs.Common.{◌≡◌, ◌∙◌, ◌++◌, ap, sym, length, take, drop, arith, take-append_seam}
use Rattle.tx_rank.proofs.distances.distances_of.Goals as goal

pub returns : goal.returns
returns g c =
    let new = c.measure.new.distances in
    let old = c.in_ok-distances.distances in
    let rest = drop (length new) old.items in
    let v = ap length c.deref_mut.ensures.value in
    let a = c.measure.auto.distances in
    let e = c.in_ok-distances.ensures.len in
    let n = c.exchanges.ensures in
    let k = old.ok.0 in
    let fits : length new ≡ old.len = omega arith in
    ap length (ap (λ k. take k (new ++ rest)) (sym fits) ∙ take-append_seam new rest) ∙ omega arith
