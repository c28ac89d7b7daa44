use Rattle.tx_check.proofs.Common.{◌≡◌, None, ap, ◌∙◌, option_or, ambiguous_of}
use Rattle.tx_check.specs.Checks.{ranks_for, foremost, check_faults, ambiguous_faults, home_not_zero_faults, origin_unranked_faults, too_high_faults, too_short_faults, target_unranked_faults, not_lower_faults}
use Rattle.tx_check.proofs.Judging.{ambiguous_first, ambiguous_past, at_one, at_two, at_three, at_four, at_rest, none_of}
use Rattle.tx_check.proofs.checker.first_fault.Goals as goal

pub returns-in-Some : goal.returns-in-Some
unfolding check_faults
returns-in-Some g c =
    let p = c.args.plan.now in
    let ranks = ranks_for p c.args.cert.now in
    let one = ambiguous_faults p in
    let two = home_not_zero_faults p ranks in
    let three = origin_unranked_faults p ranks in
    let four = too_high_faults p ranks c.args.limits.limit in
    let five = too_short_faults p ranks c.args.limits.spare in
    let six = target_unranked_faults p ranks in
    let seven = not_lower_faults p ranks in
    at_one one two three four five six seven _ (ambiguous_first (ambiguous_of p.codes) c.in-Some.pair c.in-Some.ensures)

pub returns-in-Some-home_fault : goal.returns-in-Some-home_fault
unfolding check_faults
returns-in-Some-home_fault g c =
    let p = c.args.plan.now in
    let ranks = ranks_for p c.args.cert.now in
    let one = ambiguous_faults p in
    let two = home_not_zero_faults p ranks in
    let three = origin_unranked_faults p ranks in
    let four = too_high_faults p ranks c.args.limits.limit in
    let five = too_short_faults p ranks c.args.limits.spare in
    let six = target_unranked_faults p ranks in
    let seven = not_lower_faults p ranks in
    at_two one two three four five six seven (ambiguous_past (ambiguous_of p.codes) (none_of c.ambiguous.result c.in_default.not-Some ∙ c.ambiguous.ensures)) c.in-Some-home_fault.fault c.in-Some-home_fault.ensures

pub returns-in-Some-origin_fault : goal.returns-in-Some-origin_fault
unfolding check_faults
returns-in-Some-origin_fault g c =
    let p = c.args.plan.now in
    let ranks = ranks_for p c.args.cert.now in
    let one = ambiguous_faults p in
    let two = home_not_zero_faults p ranks in
    let three = origin_unranked_faults p ranks in
    let four = too_high_faults p ranks c.args.limits.limit in
    let five = too_short_faults p ranks c.args.limits.spare in
    let six = target_unranked_faults p ranks in
    let seven = not_lower_faults p ranks in
    at_three one two three four five six seven (ambiguous_past (ambiguous_of p.codes) (none_of c.ambiguous.result c.in_default.not-Some ∙ c.ambiguous.ensures)) (none_of c.home_fault.result c.in_default-home_fault.not-Some ∙ c.home_fault.ensures) c.in-Some-origin_fault.fault c.in-Some-origin_fault.ensures

pub returns-in-Some-height_fault : goal.returns-in-Some-height_fault
unfolding check_faults
returns-in-Some-height_fault g c =
    let p = c.args.plan.now in
    let ranks = ranks_for p c.args.cert.now in
    let one = ambiguous_faults p in
    let two = home_not_zero_faults p ranks in
    let three = origin_unranked_faults p ranks in
    let four = too_high_faults p ranks c.args.limits.limit in
    let five = too_short_faults p ranks c.args.limits.spare in
    let six = target_unranked_faults p ranks in
    let seven = not_lower_faults p ranks in
    at_four one two three four five six seven (ambiguous_past (ambiguous_of p.codes) (none_of c.ambiguous.result c.in_default.not-Some ∙ c.ambiguous.ensures)) (none_of c.home_fault.result c.in_default-home_fault.not-Some ∙ c.home_fault.ensures) (none_of c.origin_fault.result c.in_default-origin_fault.not-Some ∙ c.origin_fault.ensures) c.in-Some-height_fault.fault c.in-Some-height_fault.ensures

pub returns : goal.returns
unfolding check_faults
returns g c =
    let p = c.args.plan.now in
    let ranks = ranks_for p c.args.cert.now in
    let one = ambiguous_faults p in
    let two = home_not_zero_faults p ranks in
    let three = origin_unranked_faults p ranks in
    let four = too_high_faults p ranks c.args.limits.limit in
    let five = too_short_faults p ranks c.args.limits.spare in
    let six = target_unranked_faults p ranks in
    let seven = not_lower_faults p ranks in
    let p1 = ambiguous_past (ambiguous_of p.codes) (none_of c.ambiguous.result c.in_default.not-Some ∙ c.ambiguous.ensures) in
    let p2 : None ≡ foremost two = none_of c.home_fault.result c.in_default-home_fault.not-Some ∙ c.home_fault.ensures in
    let p3 : None ≡ foremost three = none_of c.origin_fault.result c.in_default-origin_fault.not-Some ∙ c.origin_fault.ensures in
    let p4 : None ≡ foremost four = none_of c.height_fault.result c.in_default-height_fault.not-Some ∙ c.height_fault.ensures in
    let lists = c.list_faults-lists in
    c.or-2.ensures ∙ ap (λ o. option_or o lists.result.not_lower) c.or.ensures
    ∙ at_rest one two three four five six seven p1 p2 p3 p4 lists.result.short lists.result.unranked lists.result.not_lower (ap (λ w. w.short) lists.ensures) (ap (λ w. w.unranked) lists.ensures) (ap (λ w. w.not_lower) lists.ensures)
