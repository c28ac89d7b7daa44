use Rattle.tx_circuits.proofs.Common.{◌≡◌, ◌∙◌, suc, ◌-◌, ◌<◌, List, length, map, sym, ap, subst, slice_set, arith, length-map, take_at, with_items_is, Slot, Row, state_of, IsSound, group_slots, group_state, with_state, AreApart, AreKept}
use Rattle.tx_circuits.proofs.Kept.{entry_at, kept_updated, view_updated, set_numbered_at}
use Rattle.tx_circuits.proofs.Members.{known}
use Rattle.tx_circuits.proofs.Steps.{state_in}
use Rattle.tx_circuits.proofs.groups.Groups.set_state.Goals as goal

pub set_state-requires-clause-sound : goal.set_state-requires-clause-sound
set_state-requires-clause-sound g c =
    let slots = c.self.inside.slots.items in
    let rows = c.self.inside.rows.items in
    let row = c.index_mut-row.result.now in
    let at = entry_at slots rows c.args.self.now c.args.circuit.now.group c.index.result row c.self.view_is c.index.ensures c.index_mut-row.ensures.value (state_in c.args.self.now c.args.circuit.now c.requires) in
    subst (λ (l : List Slot). IsSound (group_slots l row) row.lists) (sym c.as_mut_slice.ensures.value) (c.self.invariant.sound c.index.result row at)

pub index_mut-row-requires : goal.index_mut-row-requires
index_mut-row-requires g c =
    let rows = c.self.inside.rows.items in
    let long : length rows ≡ length c.args.self.now = sym (length-map rows (group_state c.self.inside.slots.items)) ∙ ap length c.self.view_is in
    let lt = state_in c.args.self.now c.args.circuit.now c.requires in
    omega (arith, long, lt, c.index.ensures, c.self.inside.rows.ok.0)

pub invariant_of-self : goal.invariant_of-self
invariant_of-self g c =
    let slots = c.self.inside.slots.items in
    let rows = c.self.inside.rows.items in
    let row = c.index_mut-row.result.now in
    let at = entry_at slots rows c.args.self.now c.args.circuit.now.group c.index.result row c.self.view_is c.index.ensures c.index_mut-row.ensures.value (state_in c.args.self.now c.args.circuit.now c.requires) in
    let new = c.set_state.new.slots in
    let long : length new ≡ length slots = c.set_state.auto.slots ∙ ap length c.as_mut_slice.ensures.value in
    let len : length new ≡ c.self.inside.slots.len = c.set_state.auto.slots ∙ c.as_mut_slice.ensures.len in
    let rest = λ (s : Row) (a : AreApart row s). c.set_state.ensures.rest s a ∙ ap (λ (l : List Slot). group_slots l s) c.as_mut_slice.ensures.value in
    subst (λ (l : List Slot). AreKept l (slice_set rows c.index.result c.set_state.new.self)) (sym (take_at new _ c.self.inside.slots.len len))
    (kept_updated slots rows c.args.self.now c.self.invariant c.self.view_is c.args.circuit.now.group c.index.result c.index.ensures row at new long c.set_state.new.self c.set_state.ensures.row c.set_state.ensures.sound rest)

pub returns : goal.returns
returns g c =
    let slots = c.self.inside.slots.items in
    let rows = c.self.inside.rows.items in
    let row = c.index_mut-row.result.now in
    let at = entry_at slots rows c.args.self.now c.args.circuit.now.group c.index.result row c.self.view_is c.index.ensures c.index_mut-row.ensures.value (state_in c.args.self.now c.args.circuit.now c.requires) in
    let new = c.set_state.new.slots in
    let long : length new ≡ length slots = c.set_state.auto.slots ∙ ap length c.as_mut_slice.ensures.value in
    let len : length new ≡ c.self.inside.slots.len = c.set_state.auto.slots ∙ c.as_mut_slice.ensures.len in
    let rest = λ (s : Row) (a : AreApart row s). c.set_state.ensures.rest s a ∙ ap (λ (l : List Slot). group_slots l s) c.as_mut_slice.ensures.value in
    let some : 0 < c.args.circuit.now.number = (let k = known c.args.self.now c.args.circuit.now c.requires in let e : c.args.circuit.now.number ≡ suc k.index = k.number in omega arith) in
    ap (λ (l : List Slot). map (group_state l) (slice_set rows c.index.result c.set_state.new.self)) (with_items_is c.self.inside.slots new len)
    ∙ view_updated slots rows c.args.self.now c.self.invariant c.self.view_is c.args.circuit.now.group c.index.result c.index.ensures row at new long c.set_state.new.self c.set_state.ensures.row c.set_state.ensures.sound rest
    (with_state c.args.circuit.now c.args.to)
    (λ j. record {
      head = row.head;
      states = (c.set_state.ensures.states ∙ ap (λ (l : List Slot). slice_set (map state_of (group_slots l row)) (c.args.circuit.now.number - 1) c.args.to) c.as_mut_slice.ensures.value
          ∙ set_numbered_at (map state_of (group_slots slots row)) c.args.circuit.now.number c.args.to some) j;
    })
