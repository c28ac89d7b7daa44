use Rattle.tx_lines.proofs.Common.{◌-◌, ◌<◌, ◌==◌, ◌&&◌, length, sym, ap, ◌∙◌, subst, arith, slice_get, list_any, in_range, LineRange, IsInOrder}
use Rattle.std.proofs.lemmas.Option.{slice_get_read}
use Rattle.tx_lines.proofs.Order.{none_starts, last_start}
use Rattle.tx_lines.proofs.ranges.Ranges.has.Goals as goal

pub returns-then-after-eq0 : goal.returns-then-after-eq0
returns-then-after-eq0 g c =
    let xs = c.deref.result.now in
    let same = c.deref.ensures.value ∙ c.self.view_is in
    let ordered : IsInOrder xs = subst IsInOrder (sym c.deref.ensures.value) c.self.invariant.0 in
    none_starts xs ordered c.args.code c.args.number.now c.starting_by-after.result c.starting_by-after.ensures.point c.if-after-eq0.true
    ∙ ap (list_any (λ (r : LineRange). (r.code == c.args.code) && in_range c.args.number.now r)) same

pub returns : goal.returns
returns g c =
    let xs = c.deref.result.now in
    let same = c.deref.ensures.value ∙ c.self.view_is in
    let ordered : IsInOrder xs = subst IsInOrder (sym c.deref.ensures.value) c.self.invariant.0 in
    let after = c.starting_by-after.result in
    let within = c.starting_by-after.ensures.within in
    let some = c.if-after-eq0.false in
    let low : after - 1 < length xs = omega arith in
    let range = c.index-range.result.now in
    c.reaches.ensures
    ∙ last_start xs ordered c.args.code c.args.number.now after c.starting_by-after.ensures.point (after - 1) (omega arith) range (ap (λ l. slice_get l (after - 1)) c.deref.ensures.value ∙ slice_get_read c.self.inside.ranges.items (length c.self.inside.ranges.items) (after - 1) range (λ i. length c.self.inside.ranges.items) (let e = ap length c.deref.ensures.value in omega arith) c.index-range.ensures)
    ∙ ap (list_any (λ (r : LineRange). (r.code == c.args.code) && in_range c.args.number.now r)) same
