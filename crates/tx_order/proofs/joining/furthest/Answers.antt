use Rattle.tx_order.proofs.Common.{◌≡◌, ℕ, ◌+◌, ◌<◌, inl, inr, sym, subst, ◌∙◌, arith, true≢false, cases_lt, IsSafeBetween}
use Rattle.tx_order.proofs.TwoFronts.{next_safe, less_safe}
use Rattle.tx_order.proofs.joining.furthest.Goals as goal

pub loop-good-init : goal.loop-good-init
loop-good-init g c =
    let w = c.args.transition.now in
    let from = c.requires.from in
    let last = c.levels-last.ensures in
    let next = next_safe w c.rules.ensures c.args.code c.args.from c.requires.code in
    let unsafe = λ (safe : IsSafeBetween w c.args.code c.args.from c.levels-last.result). true≢false (sym (c.in_ok-joins.ensures.1 safe) ∙ c.if-branch.false) in
    let apart : c.args.from + 1 < c.levels-last.result = elim (cases_lt (c.args.from + 1) c.levels-last.result) [
      | inl h ↦ h
      | inr h ↦ let e : c.args.from + 1 ≡ c.levels-last.result = omega arith in absurd (unsafe (subst (λ (k : ℕ). IsSafeBetween w c.args.code c.args.from k) e next))
    ] in
    record { up = omega arith; apart = apart; within = omega arith; safe = next; unsafe = unsafe }

pub returns-clause-furthest : goal.returns-clause-furthest
returns-clause-furthest g c = λ more above within safe.
    let i = c.loop-good.invariant in
    let up = i.up in
    let apart = i.apart in
    let t = c.loop-good-test.false in
    i.unsafe (less_safe c.args.transition.now c.args.code c.args.from c.loop-good.bad more (omega arith) (omega arith) safe)
