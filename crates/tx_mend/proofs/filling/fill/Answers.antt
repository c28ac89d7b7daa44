use Rattle.tx_mend.proofs.Common.{ℕ, ◌∙◌, List, sym, ap, ◌<◌, length, arith, filter, flat_map, indexes, outgoing, flat_map-append}
use Rattle.tx_mend.specs.Lists.{leads_to, filled}
use Rattle.tx_mend.proofs.Placed.{flat_more, indexes_split}
use Rattle.tx_mend.proofs.Dropping.{filled_append}
use Rattle.tx_mend.proofs.Filled.{filled_full}
use Rattle.tx_mend.proofs.filling.fill.Goals as goal

pub loop-lower-preserved : goal.loop-lower-preserved
loop-lower-preserved g c = λ of e.
    let p = c.args.plan.now in
    let x = c.args.exchange in
    let s = c.args.limits.spare in
    let n = c.loop-lower.lower in
    let f : ℕ → List ℕ = λ m. filter (λ g. leads_to p of m x g) (outgoing p x) in
    c.fill_at.ensures of e ∙ ap (λ (l : List ℕ). filled s c.loop-lower.list.items (filter (λ g. leads_to p of n x g) l)) c.requires.seizable ∙ ap (λ (l : List ℕ). filled s l (f n)) (c.loop-lower.invariant of e)
    ∙ sym (filled_append s c.args.list.now.items (flat_map f (indexes n)) (f n)) ∙ ap (filled s c.args.list.now.items) (sym (flat_more f n))

pub returns-then-len-from : goal.returns-then-len-from
returns-then-len-from g c = λ of e.
    let p = c.args.plan.now in
    let x = c.args.exchange in
    let s = c.args.limits.spare in
    let n = c.loop-lower.lower in
    let start = c.args.list.now.items in
    let f : ℕ → List ℕ = λ m. filter (λ g. leads_to p of m x g) (outgoing p x) in
    let t = c.loop-lower-test.true in
    let k = indexes_split c.args.rank n (omega arith) in
    let a = flat_map f (indexes n) in
    let b = flat_map f k.0 in
    let here = c.loop-lower.invariant of e in
    let same = c.len.ensures in
    let more = c.if-len-from.true in
    let at = c.from.ensures in
    let full : s < length c.loop-lower.list.items = omega arith in
    sym (ap (filled s start) (ap (flat_map f) k.1 ∙ flat_map-append f (indexes n) k.0) ∙ filled_append s start a b ∙ ap (λ (l : List ℕ). filled s l b) (sym here) ∙ filled_full s c.loop-lower.list.items b full)
