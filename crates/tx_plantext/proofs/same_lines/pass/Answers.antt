use Rattle.std.proofs.Common.{◌∙◌, sym}
use Rattle.tx_plantext.proofs.AmongLines.{found, passed_over}
use Rattle.tx_plantext.proofs.same_lines.pass.Goals as goal

pub returns-then-eq : goal.returns-then-eq
returns-then-eq c = λ _. found c.args.lines.now c.lines.lines c.next.new.self c.in-Some.other.now c.lines.invariant c.in-Some.ensures.steps c.args.line.now (sym c.eq.ensures ∙ c.if-eq.true)

pub lines-preserved : goal.lines-preserved
lines-preserved c = passed_over c.args.lines.now c.lines.lines c.next.new.self c.in-Some.other.now c.lines.invariant c.in-Some.ensures.steps
