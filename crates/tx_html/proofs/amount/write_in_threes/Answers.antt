use Rattle.std.proofs.Common.{◌-◌, ◌<◌, length, arith}
use Rattle.std.proofs.lemmas.List.{get_or_default}
use Rattle.tx_html.proofs.Threes.{no_figure_put, figure_put, all_figures_put}
use Rattle.tx_html.proofs.amount.write_in_threes.Goals as goal

pub loop-i-init : goal.loop-i-init
loop-i-init g c = no_figure_put

pub loop-i-preserved : goal.loop-i-preserved
loop-i-preserved g c =
    let figures = c.args.figures.now in
    let low : c.loop-i.i < length figures = omega (arith, c.loop-i-test.true) in
    figure_put ((length figures - c.loop-i.i) - 1) low (get_or_default figures c.loop-i.i _ _ low) (omega (arith, low)) c.loop-i.invariant c.write_byte.ensures (rw c.gap.ensures at c.write_escaped.ensures)

pub returns : goal.returns
returns g c = all_figures_put c.loop-i-test.false c.loop-i.invariant
