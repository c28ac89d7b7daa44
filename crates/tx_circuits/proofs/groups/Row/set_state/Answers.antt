use Rattle.tx_circuits.proofs.Common.{◌∙◌, List, map, sym, ap, subst, Slot, state_of, IsSound}
use Rattle.tx_circuits.proofs.Kept.{slots_length, part_here, part_apart}
use Rattle.tx_circuits.proofs.groups.Row.set_state.Goals as goal

pub returns-clause-sound : goal.returns-clause-sound
returns-clause-sound c =
    let long = c.set_state.auto.slots ∙ slots_length c.args.slots.now c.args.self.now c.requires.within in
    subst (λ (l : List Slot). IsSound l c.set_state.new.lists) (sym (part_here c.args.slots.now c.args.self.now c.set_state.new.slots c.requires.within long)) c.set_state.ensures.sound

pub returns-clause-states : goal.returns-clause-states
returns-clause-states c =
    let long = c.set_state.auto.slots ∙ slots_length c.args.slots.now c.args.self.now c.requires.within in
    ap (map state_of) (part_here c.args.slots.now c.args.self.now c.set_state.new.slots c.requires.within long) ∙ c.set_state.ensures.states

pub returns-clause-rest : goal.returns-clause-rest
returns-clause-rest c =
    let long = c.set_state.auto.slots ∙ slots_length c.args.slots.now c.args.self.now c.requires.within in
    part_apart c.args.slots.now c.args.self.now c.set_state.new.slots c.requires.within long
