-- Steps by legs, to which more legs are added.
use Rattle.tx_risk.proofs.Common.{◌≡◌, ◌≢◌, ℕ, zero, suc, ◌+◌, Bool, List, [], ◌∷◌, ◌++◌, length, length-append, Option, Some, None, refl, sym, ap, ◌∙◌, subst, arith, slice_get, slice_get-get_or, slice_get_within, Among, Net, end_of, Plan, Risk, Outage, Cut, Leg, Ways, Step, IsCut, IsDeadEnd, net_without, AreCutsBelow, AreWaysFrom, ways_in}
use Rattle.std.proofs.Math.Seq.{get_or-append_seam}
use Rattle.tx_plan.proofs.Lists.{slice_get_left}
use Rattle.tx_risk.specs.Outages.{step_then, steps_from, IsCutAs}
use Rattle.tx_risk.specs.inner.Nearest.{IsWayBy}

-- legs keep their places
pub steps_more : (legs more : List Leg) (n k : ℕ) → length (steps_from legs n k) ≡ n
    → steps_from (legs ++ more) n k ≡ steps_from legs n k
steps_more legs more zero k long = refl
steps_more legs more (suc n) k long = at (slice_get legs k) refl (λ j l. steps_more legs more n j l)
  where
    at : (o : Option Leg) → slice_get legs k ≡ o
        → ((j : ℕ) → length (steps_from legs n j) ≡ n → steps_from (legs ++ more) n j ≡ steps_from legs n j)
        → steps_from (legs ++ more) (suc n) k ≡ steps_from legs (suc n) k
    at None e again = let none = ap (λ o. length (step_then o (steps_from legs n))) (sym e) ∙ long in
        absurd (omega arith)
    at (Some leg) e again =
        let there = slice_get_left legs more k (slice_get_within legs k leg e) ∙ e in
        let rest = ap (λ o. length (step_then o (steps_from legs n))) (sym e) ∙ long in
        ap (λ o. step_then o (steps_from (legs ++ more) n)) there
        ∙ ap (λ l. (leg.group, leg.to) ∷ l) (again leg.next (omega arith))
        ∙ ap (λ o. step_then o (steps_from legs n)) (sym e)

module _ (n : Net) (legs : List Leg) where
  way_more : (more : List Leg) (x d k e : ℕ) → IsWayBy n legs x d k e → IsWayBy n (legs ++ more) x d k e
  way_more more x d k e w =
      let same = steps_more legs more d k w.long in
      record {
        dead = subst (IsDeadEnd n x) (sym same) w.dead;
        long = ap length same ∙ w.long;
        ends = ap (end_of x) same ∙ w.ends;
      }

  pub ways_more : (more : List Leg) (x : ℕ) (w : Ways) → AreWaysFrom n legs x w
      → AreWaysFrom n (legs ++ more) x w
  ways_more more x w h = record {
    way = λ d e. way_more more x d w.first w.end (h.way d e);
    least = h.least;
    home = h.home;
  }

  -- one leg more leads to where a way goes on
  pub way_next : (l : Leg) (x d e : ℕ) → x ≢ n.home → Among l.group (n.list x) → n.far l.group x ≡ Some l.to
      → IsWayBy n legs l.to d l.next e → IsWayBy n (legs ++ l ∷ []) x (d + 1) (length legs) e
  way_next l x d e away listed leads w =
      let last = slice_get-get_or (legs ++ l ∷ []) (length legs) l
      (let c = length-append legs (l ∷ []) in omega arith) ∙ ap Some (get_or-append_seam legs l [] l) in
      let one : d + 1 ≡ suc d = omega arith in
      let is : steps_from (legs ++ l ∷ []) (d + 1) (length legs) ≡ (l.group, l.to) ∷ steps_from legs d l.next =
      ap (λ c. steps_from (legs ++ l ∷ []) c (length legs)) one
      ∙ ap (λ o. step_then o (steps_from (legs ++ l ∷ []) d)) last
      ∙ ap (λ t. (l.group, l.to) ∷ t) (steps_more legs (l ∷ []) d l.next w.long) in
      record {
        dead = subst (IsDeadEnd n x) (sym is) (record {
          goes = (away, listed, leads, w.dead.goes);
          away = w.dead.away;
          none = w.dead.none;
        });
        long = ap length is ∙ (let c = w.long in omega arith);
        ends = ap (end_of x) is ∙ w.ends;
      }

-- the leg of a step, and the ways by it
abbrev pub leg_of : List Ways → Step → Leg
leg_of kept s = record { group = s.group; to = s.to; next = (ways_in kept s.to).first }

abbrev pub ways_after : List Ways → List Leg → Step → (home : Bool) → Ways
ways_after kept legs s home = record {
  dead_end = Some (s.distance + 1);
  end = (ways_in kept s.to).end;
  first = length legs;
  home = home;
}

-- cuts stay what they are
cut_more : (n : Net) (code : ℕ) (legs more : List Leg) (c : Cut) → IsCutAs n code legs c
    → IsCutAs n code (legs ++ more) c
cut_more n code legs more c k =
    let same = steps_more legs more c.steps c.first k.long in
    record {
      of_code = k.of_code;
      cut = subst (IsCut n c.start) (sym same) k.cut;
      long = ap length same ∙ k.long;
      ends = ap (end_of c.start) same ∙ k.ends;
      shortest = k.shortest;
      stray = k.stray;
    }

pub cuts_more : (p : Plan) (risk : Risk) (o : Outage) (legs more : List Leg) (c : ℕ) (cuts : List Cut)
    → AreCutsBelow p risk o legs c cuts → AreCutsBelow p risk o (legs ++ more) c cuts
cuts_more p risk o legs more zero cuts e = e
cuts_more p risk o legs more (suc c) cuts (front, last, e, a, b) = (
  front,
  last,
  e,
  cuts_more p risk o legs more c front a,
  record {
    each = λ d m. cut_more (net_without p risk c) c legs more d (b.each d m);
    asked = b.asked;
    order = b.order;
    all = b.all;
  },
)
