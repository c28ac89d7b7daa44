use Rattle.tx_lines.proofs.Common.{ap, ◌∙◌, Book}
use Rattle.indexmap.specs.IndexMap as index
use Rattle.tx_lines.proofs.Sets.{book_along}
use Rattle.tx_lines.proofs.book.LineBook.reserve_one.Goals as goal

pub returns-in_err-reserve-clause-rest : goal.returns-in_err-reserve-clause-rest
returns-in_err-reserve-clause-rest g c =
    book_along c.self.inside.ranges c.self.inside.statuses c.reserve.new.self c.reserve.ensures.entries
    ∙ ap (λ (b : Book). record b { room = index.spare c.reserve.new.self }) c.self.view_is

pub returns-in_ok-reserve-clause-rest : goal.returns-in_ok-reserve-clause-rest
returns-in_ok-reserve-clause-rest g c =
    book_along c.self.inside.ranges c.self.inside.statuses c.reserve.new.self c.reserve.ensures.entries
    ∙ ap (λ (b : Book). record b { room = index.spare c.reserve.new.self }) c.self.view_is
