use Rattle.tx_lines.proofs.Common.{ap, ◌∙◌, unwrap_or, no_mark, Faulty, Away, Engaged}
use Rattle.tx_lines.proofs.Sets.{marks_of}
use Rattle.tx_lines.proofs.book.LineBook.status.Goals as goal

pub returns-clause-faulty : goal.returns-clause-faulty
returns-clause-faulty g c = marks_of c.self.inside.ranges c.self.inside.statuses c.args.self.now c.args.line.now _ c.self.view_is (c.unwrap_or.ensures ∙ ap (λ o. unwrap_or o no_mark) (c.copied.ensures ∙ c.get.ensures.value)) Faulty

pub returns-clause-away : goal.returns-clause-away
returns-clause-away g c = marks_of c.self.inside.ranges c.self.inside.statuses c.args.self.now c.args.line.now _ c.self.view_is (c.unwrap_or.ensures ∙ ap (λ o. unwrap_or o no_mark) (c.copied.ensures ∙ c.get.ensures.value)) Away

pub returns-clause-engaged : goal.returns-clause-engaged
returns-clause-engaged g c = marks_of c.self.inside.ranges c.self.inside.statuses c.args.self.now c.args.line.now _ c.self.view_is (c.unwrap_or.ensures ∙ ap (λ o. unwrap_or o no_mark) (c.copied.ensures ∙ c.get.ensures.value)) Engaged
