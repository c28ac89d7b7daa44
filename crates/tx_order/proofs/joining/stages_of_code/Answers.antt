use Rattle.tx_order.proofs.Common.{◌≡◌, ℕ, List, length, refl, sym, ap, subst, ◌∙◌, arith, true≢false, levels_of, front_of, AreStages, AreAllStages, AreAlikeFor, plan_front}
use Rattle.tx_order.proofs.TwoFronts.{something_switched}
use Rattle.tx_order.proofs.Ordered.{no_ends, one_end_more, reached_more}
use Rattle.tx_order.proofs.joining.stages_of_code.Goals as goal
use Rattle.tx_order.proofs.joining.stages_of_code.Goals.{then-loop-from-test+else-not-is_same, else-loop-from-test}

pub loop-from-init : goal.loop-from-init
loop-from-init g c =
    let w = c.args.transition.now in
    record {
      stages = subst (λ (ends : List ℕ). AreStages w c.args.code ends) (sym c.new-ends.ensures) (no_ends w c.args.code);
      reached = ap (λ (ends : List ℕ). front_of w.limit ends (length ends)) c.new-ends.ensures;
      within = omega arith;
    }

pub loop-from-preserved : goal.loop-from-preserved
loop-from-preserved g c =
    let w = c.args.transition.now in
    let code = c.args.code in
    let from = c.loop-from.from in
    let to = c.in_ok-to.to in
    let i = c.loop-from.invariant in
    let t = c.in_ok-to.ensures in
    let left : AreAlikeFor code (plan_front w from) (plan_front w (levels_of w.limit)) → ⊥ = λ same.
    let alike = subst (λ n. AreAlikeFor code (plan_front w from) (plan_front w n)) (sym c.levels-last.ensures) same in
    true≢false (sym (c.is_same.ensures.1 alike) ∙ c.if-not-is_same.true) in
    let used = something_switched w c.rules.ensures code from to c.requires.code t.within t.furthest left in
    let pushed = sym c.in_ok-push.ensures in
    record {
      stages = subst (λ (ends : List ℕ). AreStages w code ends) pushed (one_end_more w code c.loop-from.ends from to i.stages i.reached t.up t.within t.safe t.furthest used);
      reached = subst (λ (ends : List ℕ). front_of w.limit ends (length ends) ≡ to) pushed (reached_more w code c.loop-from.ends to);
      within = t.within;
    }

pub returns : goal.returns
returns g c =
    let w = c.args.transition.now in
    let code = c.args.code in
    let i = c.loop-from.invariant in
    let last = c.levels-last.ensures in
    let done : AreAlikeFor code (plan_front w c.loop-from.from) (plan_front w (levels_of w.limit)) → AreAllStages w code c.loop-from.ends = λ same. record {
      stages = i.stages;
      done = subst (λ n. AreAlikeFor code (plan_front w n) (plan_front w (levels_of w.limit))) (sym i.reached) same;
    } in
    elim c.loop-from-test.branch [
      | then-loop-from-test+else-not-is_same b ↦ done (subst (λ n. AreAlikeFor code (plan_front w c.loop-from.from) (plan_front w n)) last (b.is_same.ensures.0 b.if-not-is_same.false))
      | else-loop-from-test b ↦
          let h = b.loop-from-test.false in
          let within = i.within in
          let e : c.loop-from.from ≡ levels_of w.limit = omega arith in
          done (subst (λ n. AreAlikeFor code (plan_front w n) (plan_front w (levels_of w.limit))) (sym e) (record { lists = λ x. refl; bars = λ x. refl }))
    ]
