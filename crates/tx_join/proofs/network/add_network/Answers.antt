use Rattle.tx_join.proofs.Common.{◌∙◌, ap, sym, subst, Plan, IsPlan, with_exchanges, with_codes, with_ranges, with_groups, KnowsExchanges, KnowsCodes}
use Rattle.tx_join.proofs.JoinedNetwork.{network_rules}
use Rattle.tx_join.proofs.Stages.{old_exchanges, new_exchanges, old_codes, new_codes, old_ranges, old_groups, new_groups, rules_1, rules_2, rules_3, rules_4, rules_5, rules_6, old_exchanges_known, new_exchanges_known, old_codes_known}
use Rattle.tx_join.proofs.network.add_network.Goals as goal

pub add_exchanges-requires : goal.add_exchanges-requires
add_exchanges-requires g c =
    let old = c.args.old.now in
    let new = c.args.new.now in
    let b0 = c.requires.none in
    record { rules = subst (λ (b : Plan). IsPlan (with_exchanges b old)) (sym b0) (subst IsPlan (sym (old_exchanges old new c.requires.plans)) (rules_1 old new c.requires.plans)) }

pub add_exchanges-requires-2 : goal.add_exchanges-requires-2
add_exchanges-requires-2 g c =
    let old = c.args.old.now in
    let new = c.args.new.now in
    let b0 = c.requires.none in
    let b1 = c.in_ok-add_exchanges.ensures.added ∙ ap (λ (b : Plan). with_exchanges b old) b0 ∙ old_exchanges old new c.requires.plans in
    record { rules = subst (λ (b : Plan). IsPlan (with_exchanges b new)) (sym b1) (subst IsPlan (sym (new_exchanges old new c.requires.plans)) (rules_2 old new c.requires.plans)) }

pub add_codes-requires : goal.add_codes-requires
add_codes-requires g c =
    let old = c.args.old.now in
    let new = c.args.new.now in
    let b0 = c.requires.none in
    let b1 = c.in_ok-add_exchanges.ensures.added ∙ ap (λ (b : Plan). with_exchanges b old) b0 ∙ old_exchanges old new c.requires.plans in
    let b2 = c.in_ok-add_exchanges-2.ensures.added ∙ ap (λ (b : Plan). with_exchanges b new) b1 ∙ new_exchanges old new c.requires.plans in
    record { rules = subst (λ (b : Plan). IsPlan (with_codes b old)) (sym b2) (subst IsPlan (sym (old_codes old new c.requires.plans)) (rules_3 old new c.requires.plans)); homes = subst (λ (b : Plan). KnowsExchanges b old) (sym b2) (old_exchanges_known old new c.requires.plans) }

pub add_codes-requires-2 : goal.add_codes-requires-2
add_codes-requires-2 g c =
    let old = c.args.old.now in
    let new = c.args.new.now in
    let b0 = c.requires.none in
    let b1 = c.in_ok-add_exchanges.ensures.added ∙ ap (λ (b : Plan). with_exchanges b old) b0 ∙ old_exchanges old new c.requires.plans in
    let b2 = c.in_ok-add_exchanges-2.ensures.added ∙ ap (λ (b : Plan). with_exchanges b new) b1 ∙ new_exchanges old new c.requires.plans in
    let b3 = c.in_ok-add_codes.ensures.added ∙ ap (λ (b : Plan). with_codes b old) b2 ∙ old_codes old new c.requires.plans in
    record { rules = subst (λ (b : Plan). IsPlan (with_codes b new)) (sym b3) (subst IsPlan (sym (new_codes old new c.requires.plans)) (rules_4 old new c.requires.plans)); homes = subst (λ (b : Plan). KnowsExchanges b new) (sym b3) (new_exchanges_known old new c.requires.plans) }

pub add_ranges-requires : goal.add_ranges-requires
add_ranges-requires g c =
    let old = c.args.old.now in
    let new = c.args.new.now in
    let b0 = c.requires.none in
    let b1 = c.in_ok-add_exchanges.ensures.added ∙ ap (λ (b : Plan). with_exchanges b old) b0 ∙ old_exchanges old new c.requires.plans in
    let b2 = c.in_ok-add_exchanges-2.ensures.added ∙ ap (λ (b : Plan). with_exchanges b new) b1 ∙ new_exchanges old new c.requires.plans in
    let b3 = c.in_ok-add_codes.ensures.added ∙ ap (λ (b : Plan). with_codes b old) b2 ∙ old_codes old new c.requires.plans in
    let b4 = c.in_ok-add_codes-2.ensures.added ∙ ap (λ (b : Plan). with_codes b new) b3 ∙ new_codes old new c.requires.plans in
    record { rules = subst (λ (b : Plan). IsPlan (with_ranges b old)) (sym b4) (subst IsPlan (sym (old_ranges old new c.requires.plans)) (rules_5 old new c.requires.plans)); codes = subst (λ (b : Plan). KnowsCodes b old) (sym b4) (old_codes_known old new c.requires.plans) }

pub add_groups-requires : goal.add_groups-requires
add_groups-requires g c =
    let old = c.args.old.now in
    let new = c.args.new.now in
    let b0 = c.requires.none in
    let b1 = c.in_ok-add_exchanges.ensures.added ∙ ap (λ (b : Plan). with_exchanges b old) b0 ∙ old_exchanges old new c.requires.plans in
    let b2 = c.in_ok-add_exchanges-2.ensures.added ∙ ap (λ (b : Plan). with_exchanges b new) b1 ∙ new_exchanges old new c.requires.plans in
    let b3 = c.in_ok-add_codes.ensures.added ∙ ap (λ (b : Plan). with_codes b old) b2 ∙ old_codes old new c.requires.plans in
    let b4 = c.in_ok-add_codes-2.ensures.added ∙ ap (λ (b : Plan). with_codes b new) b3 ∙ new_codes old new c.requires.plans in
    let b5 = c.in_ok-add_ranges.ensures.added ∙ ap (λ (b : Plan). with_ranges b old) b4 ∙ old_ranges old new c.requires.plans in
    record { rules = subst (λ (b : Plan). IsPlan (with_groups b old new)) (sym b5) (subst IsPlan (sym (old_groups old new c.requires.plans)) (rules_6 old new c.requires.plans)); ends = subst (λ (b : Plan). KnowsExchanges b old) (sym b5) (old_exchanges_known old new c.requires.plans) }

pub add_groups-requires-2 : goal.add_groups-requires-2
add_groups-requires-2 g c =
    let old = c.args.old.now in
    let new = c.args.new.now in
    let b0 = c.requires.none in
    let b1 = c.in_ok-add_exchanges.ensures.added ∙ ap (λ (b : Plan). with_exchanges b old) b0 ∙ old_exchanges old new c.requires.plans in
    let b2 = c.in_ok-add_exchanges-2.ensures.added ∙ ap (λ (b : Plan). with_exchanges b new) b1 ∙ new_exchanges old new c.requires.plans in
    let b3 = c.in_ok-add_codes.ensures.added ∙ ap (λ (b : Plan). with_codes b old) b2 ∙ old_codes old new c.requires.plans in
    let b4 = c.in_ok-add_codes-2.ensures.added ∙ ap (λ (b : Plan). with_codes b new) b3 ∙ new_codes old new c.requires.plans in
    let b5 = c.in_ok-add_ranges.ensures.added ∙ ap (λ (b : Plan). with_ranges b old) b4 ∙ old_ranges old new c.requires.plans in
    let b6 = c.in_ok-add_groups.ensures.added ∙ ap (λ (b : Plan). with_groups b old new) b5 ∙ old_groups old new c.requires.plans in
    record { rules = subst (λ (b : Plan). IsPlan (with_groups b new old)) (sym b6) (subst IsPlan (sym (new_groups old new c.requires.plans)) (network_rules old new c.requires.plans)); ends = subst (λ (b : Plan). KnowsExchanges b new) (sym b6) (new_exchanges_known old new c.requires.plans) }

pub returns-clause-added : goal.returns-clause-added
returns-clause-added g c =
    let old = c.args.old.now in
    let new = c.args.new.now in
    let b0 = c.requires.none in
    let b1 = c.in_ok-add_exchanges.ensures.added ∙ ap (λ (b : Plan). with_exchanges b old) b0 ∙ old_exchanges old new c.requires.plans in
    let b2 = c.in_ok-add_exchanges-2.ensures.added ∙ ap (λ (b : Plan). with_exchanges b new) b1 ∙ new_exchanges old new c.requires.plans in
    let b3 = c.in_ok-add_codes.ensures.added ∙ ap (λ (b : Plan). with_codes b old) b2 ∙ old_codes old new c.requires.plans in
    let b4 = c.in_ok-add_codes-2.ensures.added ∙ ap (λ (b : Plan). with_codes b new) b3 ∙ new_codes old new c.requires.plans in
    let b5 = c.in_ok-add_ranges.ensures.added ∙ ap (λ (b : Plan). with_ranges b old) b4 ∙ old_ranges old new c.requires.plans in
    let b6 = c.in_ok-add_groups.ensures.added ∙ ap (λ (b : Plan). with_groups b old new) b5 ∙ old_groups old new c.requires.plans in
    c.in_ok-add_groups-2.ensures.added ∙ ap (λ (b : Plan). with_groups b new old) b6 ∙ new_groups old new c.requires.plans
