use Rattle.std.proofs.Common.{sym, ◌∙◌}
use Rattle.std.proofs.lemmas.List.{same_from_push}
use Rattle.tx_rank.proofs.explore.take_last.Goals as goal

pub returns-in-Some-clause-others : goal.returns-in-Some-clause-others
returns-in-Some-clause-others g c = λ front last e. (same_from_push c.pop.new.self.items front c.in-Some.last last (sym c.in-Some.ensures.items ∙ e)).0

pub returns-in-Some-clause-last : goal.returns-in-Some-clause-last
returns-in-Some-clause-last g c = λ front last e. (same_from_push c.pop.new.self.items front c.in-Some.last last (sym c.in-Some.ensures.items ∙ e)).1
