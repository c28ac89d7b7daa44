use Rattle.tx_circuits.proofs.Common.{◌∙◌, List, ◌∷◌, [], ◌++◌, map, sym, ap, subst, replicate, Row, GroupState, group_state, idle, AreKept}
use Rattle.tx_text.proofs.Writing.{on_err}
use Rattle.tx_circuits.proofs.Kept.{kept_without, view_without, kept_with, view_with}
use Rattle.tx_circuits.proofs.groups.Groups.add.Goals as goal

pub invariant_of-self-in_err-push : goal.invariant_of-self-in_err-push
invariant_of-self-in_err-push g c =
    let new = c.append_group.new.slots.items in
    subst (λ (r : List Row). AreKept new r) (sym c.in_err-push.ensures.items)
    (kept_without c.self.inside.slots.items new c.self.inside.rows.items c.self.invariant c.args.head c.args.count c.in_ok-row.row c.in_ok-row.ensures.ok)

pub returns-in_err-push-clause-err : goal.returns-in_err-push-clause-err
returns-in_err-push-clause-err g c =
    let new = c.append_group.new.slots.items in
    on_err c.from_residual-in_err-push.result
    (ap (map (group_state new)) c.in_err-push.ensures.items
    ∙ view_without c.self.inside.slots.items new c.self.inside.rows.items c.self.invariant c.args.head c.args.count c.in_ok-row.row c.in_ok-row.ensures.ok ∙ c.self.view_is)

pub invariant_of-self-2 : goal.invariant_of-self-2
invariant_of-self-2 g c =
    let new = c.append_group.new.slots.items in
    subst (λ (r : List Row). AreKept new r) (sym c.in_ok-push.ensures.items)
    (kept_with c.self.inside.slots.items new c.self.inside.rows.items c.self.invariant c.args.head c.args.count c.in_ok-row.row c.in_ok-row.ensures.ok)

pub returns-clause-ok : goal.returns-clause-ok
returns-clause-ok g c =
    let new = c.append_group.new.slots.items in
    ap (map (group_state new)) c.in_ok-push.ensures.items
    ∙ view_with c.self.inside.slots.items new c.self.inside.rows.items c.self.invariant c.args.head c.args.count c.in_ok-row.row c.in_ok-row.ensures.ok
    ∙ ap (λ (l : List GroupState). l ++ record { head = c.args.head; states = replicate c.args.count idle } ∷ []) c.self.view_is
