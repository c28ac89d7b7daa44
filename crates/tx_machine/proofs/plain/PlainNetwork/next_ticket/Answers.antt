use Rattle.tx_machine.proofs.Common.{◌≡◌, ◌≢◌, refl, [], ap, ◌∙◌, sym, arith, drop, eqb-true, slice_get, eqb-false, Net, drained}
use Rattle.std.proofs.lemmas.List.{nil_from_length}
use Rattle.std.proofs.lemmas.Option.{slice_get_read}
use Rattle.tx_machine.proofs.Marking.{ticket_step}
use Rattle.tx_machine.proofs.Whole.{whole_room}
use Rattle.tx_machine.proofs.plain.PlainNetwork.next_ticket.Goals as goal

pub returns-then-is_empty-clause-first : goal.returns-then-is_empty-clause-first
returns-then-is_empty-clause-first g c =
    let tickets = c.self.inside.tickets in
    let none : tickets.items ≡ [] = nil_from_length tickets.items (sym tickets.ok.0 ∙ eqb-true tickets.len 0 (sym c.is_empty.ensures ∙ c.if-is_empty.true)) in
    ap (λ l. slice_get l 0) (sym none) ∙ ap (λ (n : Net). slice_get n.state.tickets 0) c.self.view_is

pub returns-then-is_empty-clause-rest : goal.returns-then-is_empty-clause-rest
returns-then-is_empty-clause-rest g c =
    let tickets = c.self.inside.tickets in
    let none : tickets.items ≡ [] = nil_from_length tickets.items (sym tickets.ok.0 ∙ eqb-true tickets.len 0 (sym c.is_empty.ensures ∙ c.if-is_empty.true)) in
    let same = ap (λ (n : Net). n.state.tickets) (sym c.self.view_is) ∙ none in
    ap (λ ts. drained c.args.self.now.state ts) (same ∙ ap (drop 1) (sym same))

pub returns-else-is_empty-clause-first : goal.returns-else-is_empty-clause-first
returns-else-is_empty-clause-first g c =
    let tickets = c.self.inside.tickets in
    let some : tickets.len ≢ 0 = eqb-false tickets.len 0 (sym c.is_empty.ensures ∙ c.if-is_empty.false) in
    sym (slice_get_read tickets.items tickets.len 0 c.remove.result tickets.ok.0 (omega arith) c.remove.ensures.value) ∙ ap (λ (n : Net). slice_get n.state.tickets 0) c.self.view_is

pub returns-else-is_empty-clause-rest : goal.returns-else-is_empty-clause-rest
returns-else-is_empty-clause-rest g c = ticket_step _ _ c.self.view_is _ c.remove.ensures.items

pub remove-requires : goal.remove-requires
remove-requires g c =
    let tickets = c.self.inside.tickets in
    let some : tickets.len ≢ 0 = eqb-false tickets.len 0 (sym c.is_empty.ensures ∙ c.if-is_empty.false) in
    omega arith

pub invariant_of-self : goal.invariant_of-self
invariant_of-self g c =
    let n = c.self.inside in
    let r = c.self.invariant.room in
    whole_room n.plan.now n.calls n.tickets n.marks n.numbers c.self.invariant n.calls c.remove.new.self refl (omega (arith, c.remove.ensures.len, c.remove.ensures.capacity))
