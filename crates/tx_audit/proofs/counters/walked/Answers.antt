use Rattle.tx_audit.proofs.Common.{◌∙◌, ap, figures_of}
use Rattle.tx_text.specs.Words.{figures_of as keyed_of}
use Rattle.tx_audit.proofs.Writable.{code_keyed}
use Rattle.tx_audit.proofs.counters.walked.Goals as goal

pub unreachable-requires : goal.unreachable-requires
unreachable-requires g c =
    c.in_default-read.not-Some (figures_of c.args.plan.now c.args.code) (c.read.ensures ∙ ap keyed_of c.code_figures.ensures.value ∙ code_keyed c.args.plan.now c.first_line.ensures.rules c.args.code c.requires)
