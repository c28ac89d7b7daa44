-- The call goes along a cut, and the last list is blocked.
use Rattle.std.proofs.Common.{◌≡◌, ◌≢◌, ℕ, zero, suc, cond, Option, ◌+◌, ◌*◌, ◌<◌, ◌≤◌, Bool, true, false, not, List, [], ◌∷◌, ◌++◌, inl, inr, map, length, Some, None, refl, sym, ap, subst, arith}
use Rattle.std.proofs.lemmas.Bool.{false≢true, or_right, both_ways, cases_eq}
use Rattle.std.proofs.lemmas.Option.{slice_get_within}
use Rattle.std.specs.Prelude.{filter, slice_get, is_some}
use Rattle.std.specs.List.{AllByRecursion, range_with_len}
use Rattle.std.specs.Ordering.{nat_cmp}
use Rattle.std.specs.FinSet as set
use Rattle.tx_plan.specs.Plan.{Plan, Group, figures_of}
use Rattle.tx_plan.specs.Rules.{IsPlan, EachPair}
use Rattle.tx_plan.specs.Routes.{route_list, is_origin_for}
use Rattle.tx_plan.specs.Among.{Among}
use Rattle.tx_plan.proofs.ByIndex.{entry_at}
use Rattle.tx_machine.specs.Refusals.{is_group}
use Rattle.tx_machine.proofs.Lists.{all_from_mem}
use Rattle.tx_machine.proofs.Steps.{all_mem}
use Rattle.tx_plan.proofs.Among.{filter_among, among_filter}
use Rattle.tx_rank.specs.Walks.{Goes, net_of, end_of, IsWalk}
use Rattle.tx_machine.specs.declared.event.Event.{Event}
use Rattle.tx_machine.specs.declared.event.Event.TheVariants.{Key, Route, Block}
use Rattle.tx_machine.specs.declared.open_call.Phase.TheVariants.{Standing}
use Rattle.tx_machine.specs.declared.reply.Reply.TheVariants.{Answered}
use Rattle.tx_machine.specs.declared.cause.Service.TheVariants.{Nc}
use Rattle.tx_machine.specs.Call.{Call}
use Rattle.tx_machine.specs.State.{State, opening}
use Rattle.tx_machine.specs.InUse.{is_down, first_free, choice}
use Rattle.tx_machine.specs.Step.{step}
use Rattle.tx_machine.proofs.Playing.{Plays, plays_one, plays_then, shut, shut_out, shut_among}
use Rattle.tx_machine.proofs.OneCall.{alone, on_way, none_circuit, routed_there, nc_step, blocks}
use Rattle.tx_audit.specs.Counter.{walk_events}
use Rattle.tx_audit.proofs.Choices.{first_in_none, none_of}
use Rattle.tx_audit.proofs.Listed.{listed_known}
use Rattle.tx_audit.proofs.Showing.{Gone, gone}
use Rattle.tx_audit.proofs.Passing.{no_turn}
use Rattle.tx_rank.proofs.PassedOnce.{before_once}
use Rattle.tx_risk.specs.Risks.{Risk, net_without, IsCut}
use Rattle.tx_risk.proofs.LeftLists.{left_goes}
use Rattle.tx_risk.proofs.Ways.{is_among}
use Rattle.tx_risk_report.specs.Shown.{IsDownAlone, IsAloneOnWay, IsShown}

-- with all groups
goes_whole : (p : Plan) (risk : Risk) (code x : ℕ) (steps : List (ℕ × ℕ))
    → Goes (net_without p risk code) x steps → Goes (net_of p code) x steps
goes_whole p risk code x [] g = tt
goes_whole p risk code x (s ∷ steps) g = (
  g.0,
  (filter_among (λ g. not (risk g)) s.0 (route_list p x code) g.1).0,
  g.2,
  goes_whole p risk code s.1 steps g.3,
)

-- THE GROUPS OF A RISK
range_from : (n a q : ℕ) → Among q (range_with_len a n) → (a ≤ q) × (q < a + n)
range_from zero a q m = absurd m
range_from (suc n) a q (inl e) = (omega arith, omega arith)
range_from (suc n) a q (inr m) = let r = range_from n (a + 1) q m in let l = r.0 in let h = r.1 in
    (omega arith, omega arith)

in_range : (n a q : ℕ) → a ≤ q → q < a + n → Among q (range_with_len a n)
in_range zero a q l h = absurd (omega arith)
in_range (suc n) a q l h =
    elim (cases_eq a q) [
      | inl e ↦ inl e
      | inr ne ↦
          inr (in_range n (a + 1) q (omega arith) (omega arith))
    ]

range_once : (t : ℕ → Bool) (n a : ℕ) → EachPair (λ x y. x ≢ y) (filter t (range_with_len a n))
range_once t zero a = tt
range_once t (suc n) a =
    elim (t a) as (λ b. EachPair (λ x y. x ≢ y) (cond b (a ∷ filter t (range_with_len (a + 1) n))
    (filter t (range_with_len (a + 1) n)))) [
      | true ↦ (
        all_from_mem (λ y. a ≢ y) (filter t (range_with_len (a + 1) n))
            (λ z m e. let l = (range_from n (a + 1) z
            (filter_among t z (range_with_len (a + 1) n) m).0).0 in absurd (omega arith)),
        range_once t n (a + 1),
      )
      | false ↦ range_once t n (a + 1)
    ]

range_few : (t : ℕ → Bool) (n a : ℕ) → length (filter t (range_with_len a n)) ≤ n
range_few t zero a = omega arith
range_few t (suc n) a =
    let i = range_few t n (a + 1) in
    elim (t a) as (λ b. length (cond b (a ∷ filter t (range_with_len (a + 1) n))
    (filter t (range_with_len (a + 1) n))) ≤ suc n) [ true ↦ omega arith | false ↦ omega arith ]

module _ (p : Plan) (ok : IsPlan p) (risk : Risk) (c x : ℕ) (steps : List (ℕ × ℕ))
    (within : c < length p.codes) (origin : is_origin_for p x c ≡ true)
    (cut : IsCut (net_without p risk c) x steps) where
  goes : Goes (net_of p c) x steps
  goes = goes_whole p risk c x steps cut.dead.goes

  abbrev list : List ℕ
  list = filter risk (range_with_len 0 (length p.groups))

  known_below : (g : ℕ) → is_group p g ≡ true → g < length p.groups
  known_below g h = at (slice_get p.groups g) refl h
    where
      at : (o : Option Group) → slice_get p.groups g ≡ o → is_some o ≡ true → g < length p.groups
      at None e h = absurd (false≢true h)
      at (Some r) e h = slice_get_within p.groups g r e

  below_known : (g : ℕ) → g < length p.groups → is_group p g ≡ true
  below_known g h = ap is_some (entry_at p.groups g h).1

  list_all : (g : ℕ) → g < length p.groups → risk g ≡ true → Among g list
  list_all g l r = among_filter risk g (range_with_len 0 (length p.groups))
      (in_range (length p.groups) 0 g (omega arith) (omega arith)) r

  list_known : AllByRecursion (λ g. is_group p g ≡ true) list
  list_known = all_from_mem (λ g. is_group p g ≡ true) list
      (λ g m. let l = (range_from (length p.groups) 0 g
      (filter_among risk g (range_with_len 0 (length p.groups)) m).0).1 in
      below_known g (omega arith))

  -- the last list is among them
  last_in : (g : ℕ) → Among g (route_list p (end_of x steps) c) → Among g list
  last_in g m = list_all g
      (known_below g (all_mem (λ g. is_group p g ≡ true) (route_list p (end_of x steps) c) g
      (listed_known p ok (end_of x steps) c) m))
      (left_goes risk (route_list p (end_of x steps) c) g cut.dead.none m)

  walk : IsWalk (net_of p c) x steps
  walk = record { origin = origin; goes = goes }

  -- the call stands at the end of the walk
  there : Gone p c x steps
  there = gone p ok c within x steps walk (before_once x steps cut.once)
      (no_turn p c x steps goes cut.once)

  abbrev keyed : List ℕ
  keyed = figures_of p c

  module _ (g : Gone p c x steps) where
    abbrev call : Call
    call = on_way g.line keyed g.hops Standing

    abbrev closed : State
    closed = alone call (shut g.blocked list) (g.count + length list)

    abbrev front : List Event
    front = Key g.line keyed ∷ walk_events p c x steps

    abbrev events : List Event
    events = front ++ map Block list

    room : g.count + length list ≤ 1 + 34 * 256 + 4096
    room = let f = range_few risk (length p.groups) 0 in let few = ok.few_groups in let l = g.few in
        omega arith

    plays_all : Plays p (opening 0 0) events closed
    plays_all =
        let l = room in
        plays_then p (opening 0 0) (alone call g.blocked g.count) closed front
        (map Block list) g.plays
        (blocks p call g.blocked g.count list list_known (range_once risk (length p.groups) 0)
        (λ h m. g.up h) (omega arith))

    none_left : choice p closed (end_of x steps) c ≡ None
    none_left = first_in_none (first_free p closed (end_of x steps))
        (route_list p (end_of x steps) c)
        (λ h m. none_of p g.line keyed g.hops (shut g.blocked list) (g.count + length list)
        (end_of x steps) h (shut_among g.blocked list h (last_in h m)))

    answered_nc : (step p closed (Route 1)).0 ≡ Answered Nc
    answered_nc =
        let l = room in
        nc_step p g.line keyed g.hops (shut g.blocked list) (g.count + length list) c
        (end_of x steps) (routed_there p g.line keyed g.hops c
        (end_of x steps) g.placed cut.dead.away) (omega arith) none_left

    down_alone : IsDownAlone p risk closed
    down_alone = record {
      all = λ g' l r'. or_right _ _ (shut_among g.blocked list g' (list_all g' l r'));
      only = λ g' h. elim (is_among g' list) [
        | inl m ↦ (filter_among risk g' (range_with_len 0 (length p.groups)) m).1
        | inr apart ↦
            let e = shut_out g.blocked list g' (g.up g') apart in
            let none : set.contains {R = nat_cmp} set.empty g' ≡ false =
            set.contains-empty nat_cmp g' in
            let up : is_down closed g' ≡ false = rw (none, e) refl in
            absurd (both_ways _ up h)
      ];
    }

    alone_on_way : IsAloneOnWay p c x steps closed
    alone_on_way = record {
      call = call;
      alone = refl;
      start = g.home;
      keyed = g.placed.code';
      way = g.way;
      free = λ exchange y h. let f = none_circuit y in rw (h, f) refl;
    }

    shown : IsShown p risk c x steps events
    shown =
        let last = plays_then p (opening 0 0) closed (step p closed (Route 1)).1 events
        (Route 1 ∷ []) plays_all (plays_one p closed (step p closed (Route 1)).1 (Route 1)
        (Answered Nc) (λ i. (answered_nc i, (step p closed (Route 1)).1)) refl) in
        let at = sym plays_all.leads in
        record {
          unrefused = last.unrefused;
          nc = subst (λ t. (step p t (Route 1)).0 ≡ Answered Nc) at answered_nc;
          down = subst (IsDownAlone p risk) at down_alone;
          on_way = subst (IsAloneOnWay p c x steps) at alone_on_way;
        }

  pub cut_shown : (events : List Event) × IsShown p risk c x steps events
  cut_shown = (events there, shown there)
