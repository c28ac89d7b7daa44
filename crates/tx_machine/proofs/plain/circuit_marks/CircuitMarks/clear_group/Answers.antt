use Rattle.tx_machine.proofs.Common.{not, ◌==◌, ap, sym, ◌∙◌, subst, length, with_items_is, Circuits, IsCleared, circuits_of}
use Rattle.std.specs.FinSet as set
use Rattle.tx_machine.proofs.Bits.{group_cleared}
use Rattle.tx_machine.proofs.plain.circuit_marks.CircuitMarks.clear_group.Goals as goal

pub returns : goal.returns
returns g c =
    let group = c.args.group in
    let cleared = subst (λ at. IsCleared at 240 c.self.inside.bits.items c.clear_from.new.bits) c.index.ensures (subst (λ bits. IsCleared c.index.result 240 bits c.clear_from.new.bits) c.as_mut_slice.ensures.value c.clear_from.ensures) in
    let same = with_items_is c.self.inside.bits c.clear_from.new.bits (cleared.long ∙ sym (ap length c.as_mut_slice.ensures.value) ∙ c.as_mut_slice.ensures.len) in
    (λ i. record { marked = circuits_of (same i); groups = c.self.inside.groups })
    ∙ (λ i. record { marked = group_cleared group c.self.inside.bits.items c.clear_from.new.bits cleared i; groups = c.self.inside.groups })
    ∙ ap (λ (v : Circuits). record { marked = set.retain v.marked (λ x. not (x.group == group)); groups = v.groups }) c.self.view_is
