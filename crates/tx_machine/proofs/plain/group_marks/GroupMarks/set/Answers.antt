use Rattle.tx_machine.proofs.Common.{◌<◌, ap, sym, ◌∙◌, subst, true, slice_set, Groups, groups_of}
use Rattle.std.specs.FinSet as set
use Rattle.tx_machine.proofs.Bits.{group_put}
use Rattle.tx_machine.proofs.plain.group_marks.GroupMarks.set.Goals as goal

pub returns : goal.returns
returns g c =
    let x = c.args.group in
    let bits = c.self.inside.bits.items in
    (λ i. record { marked = groups_of (slice_set bits (c.index.ensures i) true); groups = c.self.inside.groups })
    ∙ (λ i. record { marked = group_put bits x (subst (λ n. x < n) (sym c.self.invariant) (subst (λ (v : Groups). x < v.groups) (sym c.self.view_is) c.requires)) i; groups = c.self.inside.groups })
    ∙ ap (λ (v : Groups). record { marked = set.insert v.marked x; groups = v.groups }) c.self.view_is
