-- The joined plans obey the rules of a plan, and have the lists and bars of both plans.
use Rattle.tx_join.proofs.Common.{length, refl, sym, Plan, IsPlan, joined_network, joined_old, joined_new, CanBeJoined, HasNetwork, AreOverBoth, HaveTheirLists}
use Rattle.tx_join.proofs.JoinedNetwork.{has_old, has_new, circuits, network_rules}
use Rattle.tx_join.proofs.Rows.{exchange_stays, code_stays, group_stays}
use Rattle.tx_join.proofs.PlansOver.{made_rules, own_list, own_bar, new_barred, same_list, same_bar, no_more}

module _ (old new : Plan) (can : CanBeJoined old new) where
  abbrev joined : Plan
  joined = joined_network old new

  old_has : HasNetwork joined old
  old_has = has_old old new can

  new_has : HasNetwork joined new
  new_has = has_new old new can

  pub before_rules : IsPlan (joined_old old new)
  before_rules = made_rules joined old new (length old.codes) can.old_rules can.new_rules old_has new_has (network_rules old new can)

  pub after_rules : IsPlan (joined_new old new)
  after_rules = made_rules joined new old (length old.codes) can.new_rules can.old_rules new_has old_has (network_rules old new can)

  -- what a plan over the joined network has is what the network has
  as_before : (p : Plan) → HasNetwork joined p → HasNetwork (joined_old old new) p
  as_before p h = record {
    exchanges = record { there = h.exchanges.there; named = h.exchanges.named };
    codes = record { there = h.codes.there; named = h.codes.named; home = h.codes.home };
    groups = record { there = h.groups.there; named = h.groups.named; first = h.groups.first; second = h.groups.second; direction = h.groups.direction };
  }

  pub over_both : AreOverBoth old new (joined_old old new) (joined_new old new)
  over_both = record {
    before_rules = before_rules;
    after_rules = after_rules;
    same = record { exchanges = refl; codes = refl; ranges = refl; groups = refl };
    has_old = as_before old old_has;
    has_new = as_before new new_has;
    circuits = circuits old new can;
    lines = refl;
    exchange_stays = exchange_stays old new can.old_rules can.new_rules;
    code_stays = code_stays old new can.old_rules can.new_rules;
    group_stays = group_stays old new can.old_rules can.new_rules;
  }

  pub their_lists : HaveTheirLists old new (joined_old old new) (joined_new old new)
  their_lists =
      let n = length old.codes in
      let o = can.old_rules in
      let w = can.new_rules in
      record {
        old_lists = λ x c l m. own_list joined old new n o w old_has new_has x c (record { exchange = l; code = m });
        old_bars = λ x c l m k. own_bar joined old new n o w old_has new_has x c (record { exchange = l; code = m }) k;
        new_lists = λ x c l m. own_list joined new old n w o new_has old_has x c (record { exchange = l; code = m });
        new_bars = λ x c l m k. own_bar joined new old n w o new_has old_has x c (record { exchange = l; code = m }) k;
        old_alone = λ x c l m none. (sym (same_list joined new old n w o new_has old_has x c none), sym (same_bar joined new old n w o new_has old_has x c none));
        new_alone = λ x c l m none. (same_list joined old new n o w old_has new_has x c none, same_bar joined old new n o w old_has new_has x c none);
        before_no_more = λ x c l m none other_none. no_more joined old new n o w old_has new_has x c none other_none;
        after_no_more = λ x c l m none other_none. no_more joined new old n w o new_has old_has x c other_none none;
        before_closed = λ x c l m k away. new_barred joined old new n o w old_has new_has x c l m k away;
        after_closed = λ x c l m k away. new_barred joined new old n w o new_has old_has x c l m k away;
      }
