use Rattle.tx_machine.proofs.Common.{ap, sym, ◌∙◌, arith, false, Groups}
use Rattle.std.specs.FinSet as set
use Rattle.std.proofs.lemmas.Bool.{le-ltb}
use Rattle.std.proofs.lemmas.List.{get_or_past}
use Rattle.tx_machine.proofs.Bits.{in_groups}
use Rattle.tx_machine.proofs.plain.group_marks.GroupMarks.has.Goals as goal

pub returns-else-index-self : goal.returns-else-index-self
returns-else-index-self g c =
    let bits = c.self.inside.bits.items in
    let long = c.self.invariant in
    let at = c.index.ensures in
    let past = c.if-index-self.false in
    le-ltb c.index.result c.self.inside.groups past
    ∙ sym (in_groups bits c.args.group ∙ get_or_past bits c.args.group false (omega arith))
    ∙ ap (λ (v : Groups). set.contains v.marked c.args.group) c.self.view_is
