use Rattle.tx_rank.proofs.Common.{◌∙◌, refl, sym, subst, ℕ, IsLoop}
use Rattle.tx_rank.specs.inner.Marks.{IsAdvanced, IsTrail}
use Rattle.tx_rank.specs.declared.explore.Progress.{Progress}
use Rattle.tx_rank.proofs.Passes.{ends, goes_on}
use Rattle.tx_rank.proofs.explore.explore.Goals as goal

pub loop-init : goal.loop-init
loop-init g c = record { exploring = record { same = refl; marked = c.requires.marked; hand = c.requires.hand; grew = λ x r h. h }; tried = c.requires.tried }

pub advance-requires-clause-marked : goal.advance-requires-clause-marked
advance-requires-clause-marked g c = c.loop.invariant.exploring.marked

pub advance-requires-clause-hand : goal.advance-requires-clause-hand
advance-requires-clause-hand g c = c.loop.invariant.exploring.hand

pub advance-requires-clause-tried : goal.advance-requires-clause-tried
advance-requires-clause-tried g c = c.loop.invariant.tried

pub returns-in-Done-clause-start : goal.returns-in-Done-clause-start
returns-in-Done-clause-start g c = c.advance.ensures.start ∙ c.loop.invariant.exploring.same

pub returns-in-Closed-clause-start : goal.returns-in-Closed-clause-start
returns-in-Closed-clause-start g c = c.advance.ensures.start ∙ c.loop.invariant.exploring.same

pub returns-in-Done-clause-closed : goal.returns-in-Done-clause-closed
returns-in-Done-clause-closed g c = λ h. let bad : ⊥ = cc in absurd bad

pub returns-in-Done-clause-done : goal.returns-in-Done-clause-done
returns-in-Done-clause-done g c = λ _.
    let n = g.N.CodeNet.net c.args.net.now in
    let new = c.advance.new.search in
    let step = subst (λ (p : Progress). IsAdvanced n c.loop.search.start p c.loop.search.marks.items new.marks.items new.steps.items) c.in-Done.is c.in_ok-advance.ensures.ok in
    ends n c.args.search.now.start c.args.search.now.marks.items c.loop.search.start new.start c.loop.search.steps.items c.loop.search.marks.items new.marks.items c.loop.invariant.exploring c.advance.ensures.start step

pub returns-in-Closed-clause-closed : goal.returns-in-Closed-clause-closed
returns-in-Closed-clause-closed g c = λ _.
    let n = g.N.CodeNet.net c.args.net.now in
    let new = c.advance.new.search in
    let step = subst (λ (p : Progress). IsAdvanced n c.loop.search.start p c.loop.search.marks.items new.marks.items new.steps.items) c.in-Closed.is c.in_ok-advance.ensures.ok in
    subst (λ (x : ℕ). IsLoop n x new.steps.items) (sym c.advance.ensures.start) step

pub returns-in-Closed-clause-done : goal.returns-in-Closed-clause-done
returns-in-Closed-clause-done g c = λ h. let bad : ⊥ = cc in absurd bad

pub loop-preserved : goal.loop-preserved
loop-preserved g c =
    let n = g.N.CodeNet.net c.args.net.now in
    let new = c.advance.new.search in
    let step = subst (λ (p : Progress). IsAdvanced n c.loop.search.start p c.loop.search.marks.items new.marks.items new.steps.items) c.in-More.is c.in_ok-advance.ensures.ok in
    record {
      exploring = goes_on n c.args.search.now.start c.args.search.now.marks.items c.loop.search.start new.start c.loop.search.steps.items new.steps.items c.loop.search.marks.items new.marks.items c.loop.invariant.exploring c.advance.ensures.start step;
      tried = subst (λ (x : ℕ). IsTrail n new.marks.items x new.steps.items new.before.items new.last) (sym c.advance.ensures.start) (c.in_ok-advance.ensures.tried c.in-More.is);
    }

pub loop-smaller : goal.loop-smaller
loop-smaller g c =
    let n = g.N.CodeNet.net c.args.net.now in
    let new = c.advance.new.search in
    let step = subst (λ (p : Progress). IsAdvanced n c.loop.search.start p c.loop.search.marks.items new.marks.items new.steps.items) c.in-More.is c.in_ok-advance.ensures.ok in
    step.nearer
