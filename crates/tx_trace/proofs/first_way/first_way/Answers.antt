use Rattle.tx_trace.proofs.Common.{◌≡◌, ◌<◌, ◌++◌, ◌∷◌, [], ℕ, List, length, Some, None, true, sym, subst, arith, set, end_of, before_end, next_step, AreMarksOf}
use Rattle.tx_trace.proofs.FirstWay.{IsGoing, going_on, ended}
use Rattle.tx_trace.proofs.first_way.first_way.Goals as goal

pub loop-code-preserved : goal.loop-code-preserved
loop-code-preserved g c =
    let p = c.args.plan.now in
    let x = c.args.start in
    let i = c.loop-code.invariant in
    let way = c.loop-code.way.items in
    let marks = c.loop-code.passed.items in
    let s = c.in-Some.step in
    let marked = subst (AreMarksOf (before_end x way)) (sym c.deref.ensures.value) i.marked in
    let less : length way < length p.exchanges = let t = c.loop-code-test.true in let a = c.len.ensures in let b = c.exchanges-in-loop-code.ensures.count in let k = c.loop-code.way.ok.0 in omega arith in
    let next = subst (λ (w : List (ℕ × ℕ)). c.loop-code.last ≡ end_of x w → AreMarksOf (before_end x w) c.deref.result.now → Some s ≡ next_step p c.args.code x w) c.deref-in-loop-code.ensures.value (c.in-Some.ensures.next x) in
    let on = going_on p c.args.code x c.loop-code.last way marks s i less (next i.at marked) c.in-Some.ensures.within in
    subst (λ (l : List (ℕ × ℕ)). IsGoing p c.args.code x s.1 l (set marks c.index.result true)) (sym c.in_ok-push-in-Some.ensures.items)
    (subst (λ (k : ℕ). IsGoing p c.args.code x s.1 (way ++ s ∷ []) (set marks k true)) (sym c.index.ensures) on)

pub returns-in-None : goal.returns-in-None
returns-in-None g c =
    let x = c.args.start in
    let i = c.loop-code.invariant in
    let way = c.loop-code.way.items in
    let marked = subst (AreMarksOf (before_end x way)) (sym c.deref.ensures.value) i.marked in
    let next = subst (λ (w : List (ℕ × ℕ)). c.loop-code.last ≡ end_of x w → AreMarksOf (before_end x w) c.deref.result.now → None ≡ next_step c.args.plan.now c.args.code x w) c.deref-in-loop-code.ensures.value (c.in-None.ensures.next x) in
    ended c.args.plan.now c.args.code x c.loop-code.last way c.loop-code.passed.items i (next i.at marked)
