use Rattle.tx_machine.proofs.Common.{◌∙◌, ap, sym, subst, length, false, slice_set, with_items_is, Circuits, HasMark, circuits_of, index_of}
use Rattle.std.specs.FinSet as set
use Rattle.tx_machine.proofs.Bits.{circuit_taken, length_put}
use Rattle.tx_machine.proofs.plain.circuit_marks.CircuitMarks.clear.Goals as goal

pub returns : goal.returns
returns g c =
    let x = c.args.circuit.now in
    let bits = c.self.inside.bits.items in
    let made = c.put_at.ensures ∙ ap (λ bits. slice_set bits (index_of x) false) c.as_mut_slice.ensures.value in
    let same = with_items_is c.self.inside.bits c.put_at.new.bits (ap length made ∙ length_put bits (index_of x) false ∙ sym (ap length c.as_mut_slice.ensures.value) ∙ c.as_mut_slice.ensures.len) in
    (λ i. record { marked = circuits_of (same i); groups = c.self.inside.groups })
    ∙ (λ i. record { marked = circuits_of (made i); groups = c.self.inside.groups })
    ∙ (λ i. record { marked = circuit_taken c.self.inside.groups bits x c.self.invariant (subst (λ (v : Circuits). HasMark v.groups x) (sym c.self.view_is) c.requires) i; groups = c.self.inside.groups })
    ∙ ap (λ (v : Circuits). record { marked = set.remove v.marked x; groups = v.groups }) c.self.view_is
