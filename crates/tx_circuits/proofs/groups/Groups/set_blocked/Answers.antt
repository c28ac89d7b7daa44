use Rattle.tx_circuits.proofs.Common.{◌∙◌, refl, group_state, change_at, with_blocked}
use Rattle.tx_circuits.proofs.Kept.{entry_at, kept_after}
use Rattle.tx_circuits.proofs.FreeLists.{map-set_change}
use Rattle.tx_circuits.proofs.groups.Groups.set_blocked.Goals as goal

pub invariant_of-self : goal.invariant_of-self
invariant_of-self g c =
    let slots = c.self.inside.slots.items in
    let rows = c.self.inside.rows.items in
    let row = c.index_mut.result.now in
    let at = entry_at slots rows c.args.self.now c.args.group c.index.result row c.self.view_is c.index.ensures c.index_mut.ensures.value c.requires in
    kept_after slots rows c.self.invariant c.index.result row at slots _ refl refl refl (c.self.invariant.sound c.index.result row at) (λ h s ne e. refl)

pub returns : goal.returns
returns g c =
    let slots = c.self.inside.slots.items in
    let rows = c.self.inside.rows.items in
    let row = c.index_mut.result.now in
    let at = entry_at slots rows c.args.self.now c.args.group c.index.result row c.self.view_is c.index.ensures c.index_mut.ensures.value c.requires in
    map-set_change (group_state slots) (group_state slots) (with_blocked c.args.to) rows c.index.result row _ at refl (λ h s ne e. refl)
    ∙ (λ i. change_at (with_blocked c.args.to) (c.index.ensures i) (c.self.view_is i))
