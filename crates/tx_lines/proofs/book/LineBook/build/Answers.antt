use Rattle.tx_lines.proofs.Common.{ap, sym, ◌==◌, ◌&&◌, in_range}
use Rattle.std.proofs.lemmas.List.Sorted.{list_any-IsPermutation}
use Rattle.tx_text.specs.Words.{are_figures}
use Rattle.tx_lines.proofs.book.LineBook.build.Goals as goal

pub returns-clause-lines : goal.returns-clause-lines
returns-clause-lines g c = λ code number.
    ap (λ b. are_figures 1 9 number && b) (sym (list_any-IsPermutation (λ r. (r.code == code) && in_range number r) c.args.plan.now.ranges c.in_ok-ranges.ranges c.in_ok-ranges.ensures))
