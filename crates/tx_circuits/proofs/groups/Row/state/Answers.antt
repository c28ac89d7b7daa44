use Rattle.tx_circuits.proofs.Common.{◌∙◌, ◌-◌, ◌<◌, ◌≤◌, map, sym, arith, state_of, group_slots}
use Rattle.tx_circuits.proofs.Kept.{numbered_at, slot_at}
use Rattle.tx_circuits.proofs.groups.Row.state.Goals as goal

pub returns : goal.returns
returns c =
    let n = c.args.number in
    let some : 0 < n = omega (arith, c.if-number-eq0.false) in
    let few : n ≤ c.args.self.now.count = c.if-number-self.false in
    sym (numbered_at (map state_of (group_slots c.args.slots.now c.args.self.now)) n some ∙ slot_at c.args.slots.now c.args.self.now (n - 1) _ c.requires (omega arith))
