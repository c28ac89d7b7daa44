use Rattle.tx_fill.proofs.Common.{◌∙◌, ◌+◌, ap, length, arith, figures}
use Rattle.tx_fill.proofs.LinesAt.{figures_in}
use Rattle.tx_fill.proofs.call_lines.line_in.Goals as goal

pub padded-requires : goal.padded-requires
padded-requires c =
    let f = figures_in 1 9 c.args.range.now.low c.bytes-width.ensures.figures in
    let some = f.0 in
    let few = f.1 in
    let wide = ap length c.bytes-width.ensures.value in
    let fits = c.requires in
    let v = c.value_of.ensures.value in
    record { some = omega arith; few = omega arith; fits = rw wide (omega arith) }

pub returns : goal.returns
returns c =
    let wide = ap length c.bytes-width.ensures.value in
    let number = c.padded.ensures
    ∙ (λ j. figures (wide j) (c.value_of.ensures.value j + c.args.index)) in
    λ j. record { code = c.args.range.now.code; national = number j }
