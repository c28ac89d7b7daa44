use Rattle.std.proofs.Common.{drop, sym, ap, length, arith}
use Rattle.tx_plantext.proofs.Cuts.{cut_at, no_cut}
use Rattle.tx_plantext.proofs.text_lines.cut_line.Goals as goal

pub returns-in-Some : goal.returns-in-Some
returns-in-Some c =
    cut_at c.args.text.now c.split_at.result.0.now c.split_at.result.1.now _ _ c.lf_or_len.ensures.index c.split_at.ensures.front c.split_at.ensures.back
    (omega (arith, ap length c.in-Some.ensures.cases.0)) (sym (ap (drop 1) c.in-Some.ensures.cases.0))

pub returns-in-None : goal.returns-in-None
returns-in-None c = no_cut c.args.text.now c.split_at.result.0.now c.split_at.result.1.now _ c.lf_or_len.ensures.index c.split_at.ensures.front c.split_at.ensures.back c.in-None.ensures.cases
