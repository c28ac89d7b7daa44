use Rattle.tx_risk_report.proofs.Common.{◌≡◌, ◌++◌, ◌∷◌, ◌-◌, ◌∙◌, [], suc, length, refl, sym, ap, arith, append-nil, append_assoc, flat_map, puts_is, puts_none, puts_then}
use Rattle.std.proofs.lemmas.Bool.{ltb-true, ltb-false}
use Rattle.std.proofs.lemmas.Option.{slice_get_read, slice_get_past}
use Rattle.tx_rank.specs.Report.{step_text}
use Rattle.tx_risk.specs.Outages.{step_then, steps_from}
use Rattle.tx_risk_report.proofs.cut_lines.write_steps.Goals as goal

pub loop-left-init : goal.loop-left-init
loop-left-init g c = record { written = []; puts = puts_none; rest = refl }

pub loop-left-preserved : goal.loop-left-preserved
loop-left-preserved g c =
    let text = step_text c.args.plan.now in
    let legs = c.args.legs.now in
    let i = c.loop-left.invariant in
    let left = c.loop-left.left in
    let place = c.loop-left.place in
    let leg = c.in-Some.leg.now in
    let some = c.loop-left-test.true in
    let one : left ≡ suc (left - 1) = omega arith in
    let at = slice_get_read legs (length legs) place leg refl
    (ltb-true place (length legs) (sym c.in-Some.ensures.lookup.0)) c.in-Some.ensures.lookup.1 in
    let on : steps_from legs left place ≡ (leg.group, leg.to) ∷ steps_from legs (left - 1) leg.next =
    ap (λ n. steps_from legs n place) one ∙ ap (λ o. step_then o (steps_from legs (left - 1))) at in
    record {
      written = i.written ++ text (leg.group, leg.to);
      puts = puts_then i.puts c.write_step.ensures;
      rest = append_assoc i.written (text (leg.group, leg.to)) (flat_map text (steps_from legs (left - 1) leg.next))
          ∙ ap (λ l. i.written ++ flat_map text l) (sym on) ∙ i.rest;
    }

pub returns-in_default : goal.returns-in_default
returns-in_default g c =
    let text = step_text c.args.plan.now in
    let legs = c.args.legs.now in
    let i = c.loop-left.invariant in
    let left = c.loop-left.left in
    let place = c.loop-left.place in
    let some = c.loop-left-test.true in
    let one : left ≡ suc (left - 1) = omega arith in
    let none = slice_get_past legs place (ltb-false place (length legs) (sym c.in_default.ensures.lookup.0)) in
    let end : steps_from legs left place ≡ [] =
    ap (λ n. steps_from legs n place) one ∙ ap (λ o. step_then o (steps_from legs (left - 1))) none in
    puts_is (sym i.rest ∙ ap (λ l. i.written ++ flat_map text l) end ∙ append-nil i.written) i.puts

pub returns : goal.returns
returns g c =
    let text = step_text c.args.plan.now in
    let legs = c.args.legs.now in
    let i = c.loop-left.invariant in
    let none = c.loop-left-test.false in
    let zero : c.loop-left.left ≡ 0 = omega arith in
    let end : steps_from legs c.loop-left.left c.loop-left.place ≡ [] =
    ap (λ n. steps_from legs n c.loop-left.place) zero in
    puts_is (sym i.rest ∙ ap (λ l. i.written ++ flat_map text l) end ∙ append-nil i.written) i.puts
