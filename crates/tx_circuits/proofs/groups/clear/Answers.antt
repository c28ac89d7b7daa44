use Rattle.tx_circuits.proofs.Common.{◌≡◌, ◌∙◌, ◌≤◌, ◌++◌, length, map, take, drop, ap, state_of}
use Rattle.std.proofs.lemmas.List.{take_all, drop_all, append-nil}
use Rattle.tx_circuits.proofs.Sound.{with_cleared, cleared_more, states_cleared}
use Rattle.tx_circuits.proofs.groups.clear.Goals as goal

pub loop-slot-preserved : goal.loop-slot-preserved
loop-slot-preserved c = cleared_more c.args.slots.now c.loop-slot.slots c.loop-slot.slot-index _ _ c.loop-slot-test.true c.loop-slot.auto.slots c.loop-slot.invariant c.cleared-slot.ensures

pub returns-clause-states : goal.returns-clause-states
returns-clause-states c =
    let old = c.args.slots.now in
    let i = c.loop-slot.slot-index in
    let done : length old ≤ i = c.loop-slot-test.false in
    let all : map with_cleared (take i old) ++ drop i old ≡ map with_cleared old = (λ j. map with_cleared (take_all i old done j) ++ drop_all i old done j) ∙ append-nil (map with_cleared old) in
    c.relist.ensures.states ∙ ap (map state_of) (c.loop-slot.invariant ∙ all) ∙ states_cleared old
