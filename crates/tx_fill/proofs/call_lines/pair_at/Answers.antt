use Rattle.tx_fill.proofs.Common.{◌≡◌, ◌+◌, ◌==◌, Bool, true, false, refl, ◌∙◌, sym, ap, slice_get, if◌then◌else◌, home_of}
use mir.Val.{bool_byte}
use Rattle.tx_fill.specs.CallLines.{lines_of, called_from}
use Rattle.tx_fill.specs.declared.call_lines.Whose.TheVariants.{At, Of}
use Rattle.tx_fill.proofs.LinesAt.{got_behind, zip_both, zip_first, zip_second}
use Rattle.tx_fill.proofs.call_lines.pair_at.Goals as goal

one_if : (b : Bool) → bool_byte b ≡ (if b then 1 else 0)
one_if true = refl
one_if false = refl

pub returns-in_err-line-clause-pair : goal.returns-in_err-line-clause-pair
returns-in_err-line-clause-pair g c =
    let p = c.args.plan.now in
    c.from_residual.ensures
    ∙ sym (zip_first (lines_of p (At c.args.exchange)) (called_from p c.args.exchange c.args.code) c.args.index
    (sym c.in_err-line.ensures.line))

pub returns-in_err-called-clause-pair : goal.returns-in_err-called-clause-pair
returns-in_err-called-clause-pair g c =
    let p = c.args.plan.now in
    let x = c.args.exchange in
    let all = lines_of p (Of c.args.code) in
    let own = rw (c.eq.ensures, c.home.ensures) at c.from-own.ensures in
    let place = own ∙ one_if (home_of p c.args.code == x) in
    c.from_residual-in_err-called.ensures
    ∙ sym (zip_second (lines_of p (At x)) (called_from p x c.args.code) c.args.index
    (got_behind _ all c.args.index ∙ ap (λ k. slice_get all (k + c.args.index)) (sym place) ∙ sym c.in_err-called.ensures.line))

pub returns-clause-pair : goal.returns-clause-pair
returns-clause-pair g c =
    let p = c.args.plan.now in
    let x = c.args.exchange in
    let all = lines_of p (Of c.args.code) in
    let own = rw (c.eq.ensures, c.home.ensures) at c.from-own.ensures in
    let place = own ∙ one_if (home_of p c.args.code == x) in
    sym (zip_both (lines_of p (At x)) (called_from p x c.args.code) c.args.index _ _
    (sym c.in_ok-line.ensures.line)
    (got_behind _ all c.args.index ∙ ap (λ k. slice_get all (k + c.args.index)) (sym place) ∙ sym c.in_ok-called.ensures.line))
