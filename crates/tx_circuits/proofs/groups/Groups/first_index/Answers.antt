use Rattle.tx_circuits.proofs.Common.{◌≡◌, ◌∙◌, Option, sym, ap, subst, IfSome, First, Other, GroupState, group_slots, group_state, first_index}
use Rattle.tx_circuits.proofs.Kept.{entry_at, view_at}
use Rattle.tx_circuits.proofs.Heads.{first_index_is}
use Rattle.tx_circuits.proofs.groups.Groups.first_index.Goals as goal

pub returns-in-First : goal.returns-in-First
returns-in-First g c =
    let slots = c.self.inside.slots.items in
    let rows = c.self.inside.rows.items in
    let row = c.index-2.result.now in
    let at = entry_at slots rows c.args.self.now c.args.group c.index.result row c.self.view_is c.index.ensures c.index-2.ensures c.requires in
    subst (λ (o : Option GroupState). IfSome o (λ t. row.lists.first.least ≡ first_index t c.args.end)) (sym (view_at slots rows c.args.self.now c.args.group c.index.result row c.self.view_is c.index.ensures at))
    (first_index_is (group_slots slots row) row.lists row.head First (c.self.invariant.sound c.index.result row at) ∙ ap (first_index (group_state slots row)) (sym c.in-First.is))

pub returns-in-Other : goal.returns-in-Other
returns-in-Other g c =
    let slots = c.self.inside.slots.items in
    let rows = c.self.inside.rows.items in
    let row = c.index-2.result.now in
    let at = entry_at slots rows c.args.self.now c.args.group c.index.result row c.self.view_is c.index.ensures c.index-2.ensures c.requires in
    subst (λ (o : Option GroupState). IfSome o (λ t. row.lists.other.greatest ≡ first_index t c.args.end)) (sym (view_at slots rows c.args.self.now c.args.group c.index.result row c.self.view_is c.index.ensures at))
    (first_index_is (group_slots slots row) row.lists row.head Other (c.self.invariant.sound c.index.result row at) ∙ ap (first_index (group_state slots row)) (sym c.in-Other.is))
