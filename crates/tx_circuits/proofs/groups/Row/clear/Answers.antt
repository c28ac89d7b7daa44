use Rattle.tx_circuits.proofs.Common.{◌∙◌, List, map, sym, ap, subst, Slot, state_of, IsSound}
use Rattle.tx_circuits.proofs.Kept.{slots_length, part_here, part_apart}
use Rattle.tx_circuits.proofs.groups.Row.clear.Goals as goal

pub returns-clause-sound : goal.returns-clause-sound
returns-clause-sound c =
    let long = c.clear-self.auto.slots ∙ slots_length c.args.slots.now c.args.self.now c.requires.within in
    subst (λ (l : List Slot). IsSound l c.clear-self.result) (sym (part_here c.args.slots.now c.args.self.now c.clear-self.new.slots c.requires.within long)) c.clear-self.ensures.sound

pub returns-clause-states : goal.returns-clause-states
returns-clause-states c =
    let long = c.clear-self.auto.slots ∙ slots_length c.args.slots.now c.args.self.now c.requires.within in
    ap (map state_of) (part_here c.args.slots.now c.args.self.now c.clear-self.new.slots c.requires.within long) ∙ c.clear-self.ensures.states

pub returns-clause-rest : goal.returns-clause-rest
returns-clause-rest c =
    let long = c.clear-self.auto.slots ∙ slots_length c.args.slots.now c.args.self.now c.requires.within in
    part_apart c.args.slots.now c.args.self.now c.clear-self.new.slots c.requires.within long
