use Rattle.tx_rank.proofs.Common.{some, puts_wrote, puts_then}
use Rattle.tx_rank.proofs.grade_text.write_grade.Goals as goal

pub returns : goal.returns
returns g c =
    puts_wrote _ some (puts_then c.write_bounds.ensures (puts_then (rw c.deref.ensures.value at c.write_codes.ensures) (rw c.deref-2.ensures.value at c.write_why.ensures))) c.finish.ensures
