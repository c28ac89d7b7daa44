use Rattle.tx_machine.proofs.Common.{◌<◌, ap, sym, ◌∙◌, subst, false, slice_set, Groups, groups_of}
use Rattle.std.specs.FinSet as set
use Rattle.tx_machine.proofs.Bits.{group_taken}
use Rattle.tx_machine.proofs.plain.group_marks.GroupMarks.clear.Goals as goal

pub returns : goal.returns
returns g c =
    let x = c.args.group in
    let bits = c.self.inside.bits.items in
    (λ i. record { marked = groups_of (slice_set bits (c.index.ensures i) false); groups = c.self.inside.groups })
    ∙ (λ i. record { marked = group_taken bits x (subst (λ n. x < n) (sym c.self.invariant) (subst (λ (v : Groups). x < v.groups) (sym c.self.view_is) c.requires)) i; groups = c.self.inside.groups })
    ∙ ap (λ (v : Groups). record { marked = set.remove v.marked x; groups = v.groups }) c.self.view_is
