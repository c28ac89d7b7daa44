use Rattle.tx_lines.proofs.Common.{◌∙◌, ap, sym, ◌==◌, ◌&&◌, true, false, ℕ, List, list_any, in_range, Book}
use Rattle.tx_plan.specs.Rules.{is_national}
use Rattle.tx_plan.proofs.LineFound.{line_if}
use Rattle.tx_lines.proofs.book.LineBook.find.Goals as goal

pub returns-then-has : goal.returns-then-has
returns-then-has g c =
    let n = c.in_ok-national.national in
    line_if c.args.code (is_national c.args.national.now) true c.args.national.now n (λ w. list_any (λ r. (r.code == c.args.code) && in_range w r) c.args.self.now.ranges) c.in_ok-national.ensures
    (sym c.if-has.true ∙ c.has.ensures ∙ ap (λ (w : List ℕ). list_any (λ r. (r.code == c.args.code) && in_range w r) c.self.inside.ranges) c.bytes.ensures.value
    ∙ ap (λ (b : Book). list_any (λ r. (r.code == c.args.code) && in_range n r) b.ranges) c.self.view_is)

pub returns-else-has : goal.returns-else-has
returns-else-has g c =
    let n = c.in_ok-national.national in
    line_if c.args.code (is_national c.args.national.now) false c.args.national.now n (λ w. list_any (λ r. (r.code == c.args.code) && in_range w r) c.args.self.now.ranges) c.in_ok-national.ensures
    (sym c.if-has.false ∙ c.has.ensures ∙ ap (λ (w : List ℕ). list_any (λ r. (r.code == c.args.code) && in_range w r) c.self.inside.ranges) c.bytes.ensures.value
    ∙ ap (λ (b : Book). list_any (λ r. (r.code == c.args.code) && in_range n r) b.ranges) c.self.view_is)
