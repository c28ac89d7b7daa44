use Rattle.tx_lint.proofs.Common.{◌∙◌, ◌≤◌, length, fold, sym, ap, arith, take_all, Gathering, gathered_on, no_gathering, fault_held, gathering_held}
use Rattle.std.proofs.lemmas.List.Folds.{fold-map}
use Rattle.tx_lint.proofs.Gathered.{gathered_next, on_held}
use Rattle.tx_lint.proofs.gathering.gather.Goals as goal

pub loop-i-preserved : goal.loop-i-preserved
loop-i-preserved g c =
    let next = gathered_next c.args.faults.now c.loop-i.i _ (gathering_held c.loop-i.gathering) _
    c.loop-i-test.true c.loop-i.invariant.so_far c.loop-i.invariant.few c.in_ok-take.ensures in
    record { so_far = next.0; few = next.1 }

pub returns : goal.returns
returns g c =
    let faults = c.args.faults.now in
    let t = c.loop-i-test.false in
    let all : length faults ≤ c.loop-i.i = omega arith in
    c.told.ensures
    ∙ ap (λ (s : Gathering). s.told) (c.loop-i.invariant.so_far
    ∙ ap (fold on_held no_gathering) (take_all c.loop-i.i faults all)
    ∙ sym (fold-map gathered_on fault_held no_gathering faults))
