use Rattle.tx_machine.proofs.Common.{◌≡◌, true, false, ◌&&◌, not, sym, ap, ◌∙◌, and-false, not-true, not-false, list_any, is_free_at, carries, seizes_from, Net, call_seen, net_of}
use Rattle.std.specs.FinSet as set
use Rattle.tx_machine.proofs.Views.{any_map}
use Rattle.tx_machine.proofs.plain.Plain.is_free.Goals as goal
use Rattle.tx_machine.proofs.plain.Plain.is_free.Goals.{then-not-carried_by, else-not-carried_by, then-not-has, else-not-has}

pub returns-then-not-has-2 : goal.returns-then-not-has-2
returns-then-not-has-2 g c =
    let n = c.self.inside in
    let x = c.args.circuit.now in
    let p = n.plan.now in
    let s = (net_of p n.calls.items n.marks n.faulty.items n.away.items n.numbers n.events n.tickets.items).state in
    let carried = c.carried_by.ensures ∙ ap (list_any (λ d. carries (call_seen d) x)) c.as_slice.ensures.value ∙ any_map (λ d. carries d x) call_seen n.calls.items in
    let seized = c.seized_from.ensures ∙ ap (list_any (λ d. seizes_from p (call_seen d) x c.args.exchange)) c.as_slice-then-not-has-2.ensures.value ∙ any_map (λ d. seizes_from p d x c.args.exchange) call_seen n.calls.items in
    let uncarried : list_any (λ d. carries d x) s.calls ≡ false = elim c.if-not-has.branch [
      | then-not-has w ↦ elim c.if-not-carried_by.branch [ then-not-carried_by u ↦ sym carried ∙ u.if-not-carried_by.true | else-not-carried_by u ↦ absurd (let bad : ⊥ = cc in bad) ]
      | else-not-has w ↦ absurd (let bad : ⊥ = cc in bad)
    ] in
    let idle : set.contains n.marks.releasing.marked x ≡ false = elim c.if-not-has.branch [
      | then-not-has w ↦ elim c.if-not-carried_by.branch [ then-not-carried_by u ↦ sym u.has.ensures ∙ not-true _ (sym u.value-is ∙ w.if-not-has.true) | else-not-carried_by u ↦ absurd (let bad : ⊥ = cc in bad) ]
      | else-not-has w ↦ absurd (let bad : ⊥ = cc in bad)
    ] in
    let in_service : set.contains n.marks.out.marked x ≡ false = elim c.if-not-has.branch [
      | then-not-has w ↦ sym w.has-then-not-has.ensures ∙ not-true _ (sym w.value-is ∙ c.if-not-has-2.true)
      | else-not-has w ↦ absurd (let bad : ⊥ = cc in bad)
    ] in
    (λ i. not (seized i))
    ∙ sym (λ i. not (uncarried i) && (not (idle i) && (not (in_service i) && not (list_any (λ d. seizes_from p d x c.args.exchange) s.calls))))
    ∙ ap (λ (v : Net). is_free_at v.plan v.state c.args.exchange x) c.self.view_is

pub returns-else-not-has-2 : goal.returns-else-not-has-2
returns-else-not-has-2 g c =
    let n = c.self.inside in
    let x = c.args.circuit.now in
    let p = n.plan.now in
    let s = (net_of p n.calls.items n.marks n.faulty.items n.away.items n.numbers n.events n.tickets.items).state in
    let carried = c.carried_by.ensures ∙ ap (list_any (λ d. carries (call_seen d) x)) c.as_slice.ensures.value ∙ any_map (λ d. carries d x) call_seen n.calls.items in
    let by_call = list_any (λ d. carries d x) s.calls in
    let left = not (list_any (λ d. seizes_from p d x c.args.exchange) s.calls) in
    let taken : is_free_at p s c.args.exchange x ≡ false = elim c.if-not-has.branch [
      | then-not-has w ↦
          let out = sym w.has-then-not-has.ensures ∙ not-false _ (sym w.value-is ∙ c.if-not-has-2.false) in
          (λ i. not by_call && (not (set.contains n.marks.releasing.marked x) && (not (out i) && left))) ∙ ap (λ b. not by_call && b) (and-false (not (set.contains n.marks.releasing.marked x))) ∙ and-false (not by_call)
      | else-not-has w ↦ elim c.if-not-carried_by.branch [
        | then-not-carried_by u ↦
            let releasing = sym u.has.ensures ∙ not-false _ (sym u.value-is ∙ w.if-not-has.false) in
            (λ i. not by_call && (not (releasing i) && (not (set.contains n.marks.out.marked x) && left))) ∙ and-false (not by_call)
        | else-not-carried_by u ↦
            let by = sym carried ∙ u.if-not-carried_by.false in
            (λ i. not (by i) && (not (set.contains n.marks.releasing.marked x) && (not (set.contains n.marks.out.marked x) && left)))
      ]
    ] in
    c.if-not-has-2.false ∙ sym taken ∙ ap (λ (v : Net). is_free_at v.plan v.state c.args.exchange x) c.self.view_is
