use Rattle.tx_risk.proofs.Common.{◌≡◌, ◌≢◌, ◌+◌, ◌∙◌, ◌++◌, ◌∷◌, [], ℕ, List, length, length-append, append-nil, append_assoc, slice_get_within, Vec, Some, not, refl, sym, ap, subst, arith, set, take_all, Among, route_list, filter_among, net_of, got_at, among_at, is_net, Leg, Ways, Step, Left, IsLeft, gone, left_net, nearest_step, has_way_home, ways_in, Grows}
use Rattle.tx_risk.proofs.Ordering.{leads_left}
use Rattle.tx_risk.proofs.LeftLists.{listed_away}
use Rattle.tx_risk.proofs.Legs.{leg_of, ways_after}
use Rattle.tx_risk.proofs.Measuring.{AreKept, nearest_is, kept_first, kept_next, kept_same, few_steps}
use Rattle.tx_risk.proofs.nearest.ways_of.Goals as goal
use Rattle.tx_risk.proofs.nearest.ways_of.Goals.{in-Some+in_ok-push, in_default}

-- an exchange with a step is not the home
away_from : (l : Left) → IsLeft l → (kept : List Ways) (x : ℕ) (s : Step) → nearest_step (left_net l) kept x ≡ Some s
    → x ≢ (left_net l).home
away_from l is kept x s e =
    let m = (nearest_is (left_net l) kept x s e).listed in
    (listed_away l.plan is.rules l.code x s.group
    (filter_among (λ h. not (gone l h)) s.group (route_list l.plan x l.code) m).0).1

pub loop-index-init : goal.loop-index-init
loop-index-init g c =
    let l = c.args.left.now in
    let is = c.dead_ends_kept.ensures.rules in
    record {
      kept = kept_first (left_net l) c.args.legs.now.items c.args.order.now c.args.dead_ends.now c.requires.order
          c.requires.dead_ends (leads_left (gone l) (net_of l.plan l.code) (is_net l.plan is.rules l.code is.code))
          c.in_ok-kept.kept.items c.args.from c.in_ok-kept.ensures.kept c.requires.before;
      grown = record { more = []; added = sym (append-nil c.args.legs.now.items); few = omega arith };
      short = omega arith;
    }

pub dead_ends_kept-requires : goal.dead_ends_kept-requires
dead_ends_kept-requires g c = λ x m. (c.requires.dead_ends.dead x m).0

pub overflow_add-step : goal.overflow_add-step
overflow_add-step g c =
    let left = c.args.left.now in
    let n = left_net left in
    let l = c.loop-index in
    let order = c.args.order.now in
    let x = c.index-order-index.result in
    let kept = l.kept.items in
    let step = c.in-Some.step in
    let at = got_at order order l.index x refl c.loop-index-test.true c.index-order-index.is in
    let is : nearest_step n kept x ≡ Some step =
    ap (λ (k : List Ways). nearest_step n k x) (sym c.deref.ensures.value) ∙ sym c.nearest_step.ensures ∙ c.in-Some.is in
    let rules = c.dead_ends_kept.ensures.rules in
    let steps = few_steps n l.legs.items order c.args.dead_ends.now c.requires.order c.requires.dead_ends kept l.index x at
    l.invariant.kept (away_from left rules kept x step is) step is in
    let within = slice_get_within order l.index x at in
    let few = c.requires.order.few in
    let all = rules.rules.few_exchanges in
    omega arith

pub overflow_cast-first : goal.overflow_cast-first
overflow_cast-first g c =
    let l = c.loop-index in
    let order = c.args.order.now in
    let x = c.index-order-index.result in
    let at = got_at order order l.index x refl c.loop-index-test.true c.index-order-index.is in
    let within = slice_get_within order l.index x at in
    let few = c.requires.order.few in
    let all = c.dead_ends_kept.ensures.rules.rules.few_exchanges in
    let short = l.invariant.short in
    let room = c.requires.room in
    let e = c.len-first.ensures in
    let k = l.legs.ok.0 in
    omega arith

pub index_mut-requires : goal.index_mut-requires
index_mut-requires g c =
    let l = c.loop-index in
    let order = c.args.order.now in
    let x = c.index-order-index.result in
    let at = got_at order order l.index x refl c.loop-index-test.true c.index-order-index.is in
    let w = c.requires.order.within x (among_at order l.index x at) in
    let e = c.index.ensures in
    let long = l.invariant.kept.long in
    omega arith

pub loop-index-preserved : goal.loop-index-preserved
loop-index-preserved g c =
    let left = c.args.left.now in
    let n = left_net left in
    let l = c.loop-index in
    let legs = l.legs.items in
    let order = c.args.order.now in
    let ends = c.args.dead_ends.now in
    let x = c.index-order-index.result in
    let kept = l.kept.items in
    let at = got_at order order l.index x refl c.loop-index-test.true c.index-order-index.is in
    let says : nearest_step n kept x ≡ c.nearest_step.result =
    ap (λ (k : List Ways). nearest_step n k x) (sym c.deref.ensures.value) ∙ sym c.nearest_step.ensures in
    let rules = c.dead_ends_kept.ensures.rules in
    let within = slice_get_within order l.index x at in
    let few = c.requires.order.few in
    let all = rules.rules.few_exchanges in
    let grown = l.invariant.grown in
    let short = l.invariant.short in
    elim c.match-nearest_step.branch [
      | in-Some+in_ok-push w ↦ (
          let step = w.in-Some.step in
          let is = says ∙ w.in-Some.is in
          let leg = leg_of kept step in
          let onward : w.ways_at-onward.result ≡ ways_in kept step.to =
          w.ways_at-onward.ensures ∙ ap (λ (k : List Ways). ways_in k step.to) w.deref-in-Some-2.ensures.value in
          let new = kept_next n legs order ends c.requires.order c.requires.dead_ends kept l.index x at l.invariant.kept
          (away_from left rules kept x step is) step is w.has_way_home-home.result
          (w.has_way_home-home.ensures ∙ ap (λ (k : List Ways). has_way_home n k x) w.deref-in-Some.ensures.value) in
          let ways_to : Ways → ℕ → Ways = λ u k. record {
            dead_end = Some (step.distance + 1);
            end = u.end;
            first = k;
            home = w.has_way_home-home.result;
          } in
          let place : w.len-first.result ≡ length legs = let e = w.len-first.ensures in let k = l.legs.ok.0 in omega arith in
          let legs_are : c.match-nearest_step.legs.items ≡ legs ++ leg ∷ [] =
          ap (λ (v : Vec _ _). v.items) w.legs-is ∙ w.in_ok-push.ensures.items
          ∙ ap (λ (u : Ways). legs ++ record { group = step.group; to = step.to; next = u.first } ∷ []) onward in
          let kept_are : c.match-nearest_step.kept.items ≡ set kept x (ways_after kept legs step w.has_way_home-home.result) =
          ap (λ (v : Vec _ _). v.items) w.kept-is
          ∙ ap (λ (k : ℕ). set kept k (ways_to w.ways_at-onward.result w.len-first.result)) w.index.ensures
          ∙ ap (λ (u : Ways). set kept x (ways_to u w.len-first.result)) onward
          ∙ ap (λ (k : ℕ). set kept x (ways_to (ways_in kept step.to) k)) place in
          let long = ap length legs_are ∙ length-append legs (leg ∷ []) in
          record {
            kept = subst (λ (s : List Leg). AreKept n s order ends (l.index + 1) c.match-nearest_step.kept.items)
                (sym legs_are) (subst (λ (k : List Ways). AreKept n (legs ++ leg ∷ []) order ends (l.index + 1) k)
                (sym kept_are) new);
            grown = record {
              more = grown.more ++ leg ∷ [];
              added = legs_are ∙ ap (λ (s : List Leg). s ++ leg ∷ []) grown.added
                  ∙ append_assoc c.args.legs.now.items grown.more (leg ∷ []);
              few =
                  let a = ap length grown.added ∙ length-append c.args.legs.now.items grown.more in
                  let b = length-append grown.more (leg ∷ []) in
                  omega arith;
            };
            short = omega arith;
          })
      | in_default w ↦ record {
        kept = subst (λ (s : List Leg). AreKept n s order ends (l.index + 1) c.match-nearest_step.kept.items)
            (sym (ap (λ (v : Vec _ _). v.items) w.legs-is))
            (subst (λ (k : List Ways). AreKept n legs order ends (l.index + 1) k)
            (sym (ap (λ (v : Vec _ _). v.items) w.kept-is)) (kept_same n legs order ends c.requires.order c.requires.dead_ends kept l.index x at l.invariant.kept
            (says ∙ w.in_default.is)));
        grown = subst (Grows c.args.legs.now.items) (sym (ap (λ (v : Vec _ _). v.items) w.legs-is)) grown;
        short = let e = ap (λ (v : Vec _ _). length v.items) w.legs-is in omega arith;
      }
    ]

pub returns-clause-ways : goal.returns-clause-ways
returns-clause-ways g c = λ x r.
    let l = c.loop-index in
    let order = c.args.order.now in
    l.invariant.kept.first x (subst (Among x)
    (sym (take_all l.index order (let t = c.loop-index-test.false in omega arith)))
    (c.requires.order.reached x r))

pub returns-clause-grown : goal.returns-clause-grown
returns-clause-grown g c = c.loop-index.invariant.grown
