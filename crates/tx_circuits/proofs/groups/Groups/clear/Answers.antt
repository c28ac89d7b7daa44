use Rattle.tx_circuits.proofs.Common.{◌≡◌, ◌∙◌, ◌≤◌, List, length, map, sym, ap, subst, slice_set, arith, take_at, with_items_is, Slot, Row, state_of, cleared_state, group_slots, group_state, AreApart, AreKept}
use Rattle.tx_circuits.proofs.Kept.{entry_at, slots_length, kept_updated, view_updated}
use Rattle.tx_circuits.proofs.groups.Groups.clear.Goals as goal

pub clear-requires-clause-short : goal.clear-requires-clause-short
clear-requires-clause-short g c =
    let slots = c.self.inside.slots.items in
    let rows = c.self.inside.rows.items in
    let row = c.index_mut-row.result.now in
    let at = entry_at slots rows c.args.self.now c.args.group c.index.result row c.self.view_is c.index.ensures c.index_mut-row.ensures.value c.requires in
    let short : length (group_slots slots row) ≤ 240 = (c.self.invariant.sound c.index.result row at).short in
    let long : length (group_slots slots row) ≡ row.count = slots_length slots row (c.self.invariant.within c.index.result row at) in
    omega arith

pub invariant_of-self : goal.invariant_of-self
invariant_of-self g c =
    let slots = c.self.inside.slots.items in
    let rows = c.self.inside.rows.items in
    let row = c.index_mut-row.result.now in
    let at = entry_at slots rows c.args.self.now c.args.group c.index.result row c.self.view_is c.index.ensures c.index_mut-row.ensures.value c.requires in
    let new = c.clear.new.slots in
    let long : length new ≡ length slots = c.clear.auto.slots ∙ ap length c.as_mut_slice.ensures.value in
    let len : length new ≡ c.self.inside.slots.len = c.clear.auto.slots ∙ c.as_mut_slice.ensures.len in
    let rest = λ (s : Row) (a : AreApart row s). c.clear.ensures.rest s a ∙ ap (λ (l : List Slot). group_slots l s) c.as_mut_slice.ensures.value in
    subst (λ (l : List Slot). AreKept l (slice_set rows c.index.result c.clear.new.self)) (sym (take_at new _ c.self.inside.slots.len len))
    (kept_updated slots rows c.args.self.now c.self.invariant c.self.view_is c.args.group c.index.result c.index.ensures row at new long c.clear.new.self c.clear.ensures.row c.clear.ensures.sound rest)

pub returns : goal.returns
returns g c =
    let slots = c.self.inside.slots.items in
    let rows = c.self.inside.rows.items in
    let row = c.index_mut-row.result.now in
    let at = entry_at slots rows c.args.self.now c.args.group c.index.result row c.self.view_is c.index.ensures c.index_mut-row.ensures.value c.requires in
    let new = c.clear.new.slots in
    let long : length new ≡ length slots = c.clear.auto.slots ∙ ap length c.as_mut_slice.ensures.value in
    let len : length new ≡ c.self.inside.slots.len = c.clear.auto.slots ∙ c.as_mut_slice.ensures.len in
    let rest = λ (s : Row) (a : AreApart row s). c.clear.ensures.rest s a ∙ ap (λ (l : List Slot). group_slots l s) c.as_mut_slice.ensures.value in
    ap (λ (l : List Slot). map (group_state l) (slice_set rows c.index.result c.clear.new.self)) (with_items_is c.self.inside.slots new len)
    ∙ view_updated slots rows c.args.self.now c.self.invariant c.self.view_is c.args.group c.index.result c.index.ensures row at new long c.clear.new.self c.clear.ensures.row c.clear.ensures.sound rest
    (λ t. record t { states = map cleared_state t.states })
    (λ j. record { head = row.head; states = (c.clear.ensures.states ∙ ap (λ (l : List Slot). map cleared_state (map state_of (group_slots l row))) c.as_mut_slice.ensures.value) j })
