use Rattle.tx_audit.proofs.Common.{◌≡◌, ◌-◌, ◌<◌, ◌==◌, ◌∙◌, sym, ap, length, true, false, Some, None, refl, arith, is_some, find, range_with_len, home_of, first_code, first_range, calls_from}
use Rattle.std.proofs.lemmas.Bool.{not-true, not-false, and_left, and_right}
use Rattle.tx_audit.proofs.Loops.{code_past, code_here, line_found, no_line_found}
use Rattle.tx_audit.proofs.free_line.first_line.Goals as goal

pub loop-index-preserved-then-ne : goal.loop-index-preserved-then-ne
loop-index-preserved-then-ne g c =
    let p = c.args.plan.now in
    let within : c.loop-index.index < length p.codes = let e = c.codes-index-end.ensures.count in let t = c.loop-index-test.true in omega arith in
    let home = c.home.ensures ∙ ap (home_of p) c.of-code.ensures in
    let away : (home_of p c.loop-index.index == c.args.start) ≡ false = ap (λ x. x == c.args.start) (sym home) ∙ not-true _ (sym c.ne.ensures ∙ c.if-ne.true) in
    c.loop-index.invariant ∙ code_past (calls_from p c.args.start) c.loop-index.index (length p.codes) within (and_left (home_of p c.loop-index.index == c.args.start) _ away)

pub loop-index-preserved : goal.loop-index-preserved
loop-index-preserved g c =
    let p = c.args.plan.now in
    let within : c.loop-index.index < length p.codes = let e = c.codes-index-end.ensures.count in let t = c.loop-index-test.true in omega arith in
    let none : first_range p c.loop-index.index ≡ None = ap (first_range p) (sym c.of-code.ensures) ∙ sym c.first_range.ensures ∙ c.in_default.is in
    c.loop-index.invariant ∙ code_past (calls_from p c.args.start) c.loop-index.index (length p.codes) within (and_right (home_of p c.loop-index.index == c.args.start) _ (ap is_some none))

pub loop-index-init : goal.loop-index-init
loop-index-init g c =
    let p = c.args.plan.now in
    let all : length p.codes ≡ length p.codes - 0 = omega arith in
    ap (λ n. find (calls_from p c.args.start) (range_with_len 0 n)) all

pub returns-in-Some-clause-line : goal.returns-in-Some-clause-line
returns-in-Some-clause-line g c =
    let p = c.args.plan.now in
    let i = c.loop-index.index in
    let within : i < length p.codes = let e = c.codes-index-end.ensures.count in let t = c.loop-index-test.true in omega arith in
    let home = c.home.ensures ∙ ap (home_of p) c.of-code.ensures in
    let here : (home_of p i == c.args.start) ≡ true = ap (λ x. x == c.args.start) (sym home) ∙ not-false _ (sym c.ne.ensures ∙ c.if-ne.false) in
    let range : first_range p i ≡ Some c.in-Some.range = ap (first_range p) (sym c.of-code.ensures) ∙ sym c.first_range.ensures ∙ c.in-Some.is in
    let calls : calls_from p c.args.start i ≡ true = rw (here, range) refl in
    rw c.of-code.ensures (sym (line_found p c.args.start i c.in-Some.range (c.loop-index.invariant ∙ code_here (calls_from p c.args.start) i (length p.codes) within calls) range))

pub returns-clause-line : goal.returns-clause-line
returns-clause-line g c =
    let p = c.args.plan.now in
    let i = c.loop-index.index in
    let over : length p.codes - i ≡ 0 = let e = c.codes-index-end.ensures.count in let t = c.loop-index-test.false in omega arith in
    let none : first_code p c.args.start ≡ None = c.loop-index.invariant ∙ ap (λ n. find (calls_from p c.args.start) (range_with_len i n)) over in
    sym (no_line_found p c.args.start none)
