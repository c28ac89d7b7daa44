use Rattle.tx_join.proofs.Common.{◌≡◌, ℕ, Bool, refl, false, true, not, ◌∙◌, ap, sym, is_some, arith, range_with_len, is_known, count_of_entries}
use Rattle.tx_join.proofs.Found.{any_find, found_at, fails_next}
use Rattle.tx_join.proofs.NoDifference.{none_below}
use Rattle.tx_join.proofs.differences.has_alone.Goals as goal

pub loop-index-preserved : goal.loop-index-preserved
loop-index-preserved g c =
    let test : ℕ → Bool = λ (i : ℕ). not (is_known c.args.entries c.args.plan.now c.args.other.now i) in
    let here : not (is_known c.args.entries c.args.plan.now c.args.other.now c.loop-index.index) ≡ false = ap not (sym c.is_known.ensures ∙ c.if-not-is_known.false) in
    fails_next test c.loop-index.index c.loop-index.index false c.loop-index.invariant refl (sym here) refl

pub returns-then-not-is_known : goal.returns-then-not-is_known
returns-then-not-is_known g c =
    let t = c.loop-index-test.true in
    let test : ℕ → Bool = λ (i : ℕ). not (is_known c.args.entries c.args.plan.now c.args.other.now i) in
    let n = count_of_entries c.args.entries c.args.plan.now in
    let here : not (is_known c.args.entries c.args.plan.now c.args.other.now c.loop-index.index) ≡ true = ap not (sym c.is_known.ensures ∙ c.if-not-is_known.true) in
    sym (any_find test (range_with_len 0 n) ∙ ap is_some (found_at test n c.loop-index.index c.loop-index.invariant (omega arith) here))

pub returns : goal.returns
returns g c =
    let t = c.loop-index-test.false in
    let test : ℕ → Bool = λ (i : ℕ). not (is_known c.args.entries c.args.plan.now c.args.other.now i) in
    sym (none_below test (count_of_entries c.args.entries c.args.plan.now) (λ k l. c.loop-index.invariant k (omega (arith, t, l))))
