use Rattle.tx_machine.proofs.Common.{◌≡◌, ◌+◌, ◌*◌, ◌-◌, ◌&&◌, ap, sym, ◌∙◌, get_or, false, arith, inl, inr, Circuits, index_of}
use Rattle.std.specs.FinSet as set
use Rattle.std.proofs.lemmas.List.{get_or_read}
use Rattle.tx_machine.proofs.Bits.{in_circuits, well, well_within, not_well, not_grouped}
use Rattle.tx_machine.proofs.plain.circuit_marks.CircuitMarks.has.Goals as goal

pub returns-then-number-le240 : goal.returns-then-number-le240
returns-then-number-le240 g c =
    let x = c.args.circuit.now in
    let bits = c.self.inside.bits.items in
    let long = c.self.invariant in
    let grouped = c.if-group-self.true in
    let first = c.if-number-ge1.true in
    let last = c.if-number-le240.true in
    get_or_read bits (240 * c.index-group.result + (x.number - 1)) c.index.result.now (omega arith) c.index.ensures false
    ∙ (λ i. get_or bits (240 * c.index-group.ensures i + (x.number - 1)) false)
    ∙ sym (in_circuits bits x ∙ ap (λ w. w && get_or bits (index_of x) false) (well_within x c.if-number-ge1.true c.if-number-le240.true))
    ∙ ap (λ (v : Circuits). set.contains v.marked x) c.self.view_is

pub returns-else-group-self : goal.returns-else-group-self
returns-else-group-self g c =
    let x = c.args.circuit.now in
    let bits = c.self.inside.bits.items in
    let same = c.index-group.ensures in
    let none : (well x && get_or bits (index_of x) false) ≡ false = elim c.else-group-self.either [
      | inl e ↦ let f = e.2 in ap (λ w. w && get_or bits (index_of x) false) (not_well x (λ a b. let w : ⊥ = omega arith in w))
      | inr e ↦ elim e [
        | inl e ↦ let f = e.1 in ap (λ w. w && get_or bits (index_of x) false) (not_well x (λ a b. let w : ⊥ = omega arith in w))
        | inr e ↦ not_grouped c.self.inside.groups bits x c.self.invariant (omega arith)
      ]
    ] in
    sym (in_circuits bits x ∙ none)
    ∙ ap (λ (v : Circuits). set.contains v.marked x) c.self.view_is
