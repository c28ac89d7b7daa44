-- The cuts of one code, one exchange after another.
use Rattle.tx_risk.proofs.Common.{◌≡◌, ℕ, ◌+◌, ◌<◌, true, List, [], ◌∷◌, ◌++◌, map, inl, inr, length, Some, None, refl, sym, ap, subst, ◌∙◌, arith, append_assoc, append-nil, cases_eq, and_parts, none-some, same_Some, map-append, Plan, IsPlan, EachPair, is_origin_for, is_net, Among, among_left, among_right, among_cases, among_all, pairs_put, Net, Goes, AllDiffer, net_of, passed, certifies_code, Ways, Cut, Leg, Outage, Risk, net_without, IsCut, Left, left_net, AreWaysFrom, Adds, AreCuts, AreCutsBefore}
use Rattle.tx_rank.specs.Heights.{IsReached}
use Rattle.tx_rank.proofs.Ranks.{once_down}
use Rattle.tx_risk.specs.Outages.{is_asked, IsCutAs, start_at}
use Rattle.tx_risk.specs.Survivals.{HasGrade}
use Rattle.tx_risk.proofs.Ordering.{goes_left}

module _ (l : Left) (o : Outage) (legs : List Leg) where
  abbrev Before : ℕ → List Cut → Type 0
  Before i cuts = AreCutsBefore l o legs i cuts

  pub before_none : (old : List Cut) → Adds (Before 0) old old
  before_none old = record {
    mine = [];
    added = sym (append-nil old);
    these = record {
      each = λ c m. absurd m;
      asked = λ c m. absurd m;
      order = tt;
      below = λ y m. absurd m;
      all = λ x steps a c less. absurd (omega arith);
    };
  }

  pub before_all : (old new : List Cut) (i : ℕ) → ((x : ℕ) → is_asked l.plan o l.code x ≡ true → x < i)
      → Adds (Before i) old new → Adds (AreCuts l o legs) old new
  before_all old new i few b = record {
    mine = b.mine;
    added = b.added;
    these = record {
      each = b.these.each;
      asked = b.these.asked;
      order = b.these.order;
      all = λ x steps a c. b.these.all x steps a c (few x a);
    };
  }

  -- the exchange at index i is not in question, or there is no cut from it
  pub before_skip : (old new : List Cut) (i : ℕ) → Adds (Before i) old new
      → ((steps : List (ℕ × ℕ)) → is_asked l.plan o l.code i ≡ true
      → IsCut (left_net l) i steps → ⊥)
      → Adds (Before (i + 1)) old new
  before_skip old new i b none = record {
    mine = b.mine;
    added = b.added;
    these = record {
      each = b.these.each;
      asked = b.these.asked;
      order = b.these.order;
      below = λ y m. let k = b.these.below y m in omega arith;
      all = λ x steps a c less. elim (cases_eq x i) [
        | inl q ↦ absurd (none steps (subst (λ y. is_asked l.plan o l.code y ≡ true) q a)
            (subst (λ y. IsCut (left_net l) y steps) q c))
        | inr ne ↦ b.these.all x steps a c (omega arith)
      ];
    };
  }

  -- its cut was added
  pub before_more : (old new : List Cut) (i : ℕ) (c : Cut) → Adds (Before i) old new
      → start_at c ≡ i → IsCutAs (left_net l) l.code legs c → is_asked l.plan o l.code i ≡ true
      → Adds (Before (i + 1)) old (new ++ c ∷ [])
  before_more old new i c b at is ask =
      let t = b.these in
      let f : map start_at (b.mine ++ c ∷ []) ≡ map start_at b.mine ++ start_at c ∷ [] =
      map-append start_at b.mine (c ∷ []) in
      record {
        mine = b.mine ++ c ∷ [];
        added = ap (λ cuts. cuts ++ c ∷ []) b.added ∙ append_assoc old b.mine (c ∷ []);
        these = record {
          each = λ d m. elim (among_cases d b.mine (c ∷ []) m) [
            | inl a ↦ t.each d a
            | inr k ↦
                elim k [
                  | inl q ↦ subst (IsCutAs (left_net l) l.code legs) q is
                  | inr z ↦
                      absurd z
                ]
          ];
          asked = λ d m. elim (among_cases d b.mine (c ∷ []) m) [
            | inl a ↦ t.asked d a
            | inr k ↦
                elim k [
                  | inl q ↦ subst (λ (e : Cut). is_asked l.plan o l.code (start_at e) ≡ true) q
                      (ap (is_asked l.plan o l.code) at ∙ ask)
                  | inr z ↦ absurd z
                ]
          ];
          order = subst (EachPair (λ x y. x < y)) (sym f)
              (pairs_put (λ x y. x < y) (map start_at b.mine) (start_at c) t.order
              (among_all (λ x. x < start_at c) (map start_at b.mine) (λ y m. let k = t.below y m in
              omega arith)));
          below = λ y m. elim (among_cases y (map start_at b.mine) (start_at c ∷ [])
              (subst (Among y) f m)) [
                | inl a ↦ let k = t.below y a in omega arith
                | inr k ↦
                    elim k [ inl q ↦ omega arith | inr z ↦ absurd z ]
              ];
          all = λ x steps a k less. subst (Among x) (sym f) (elim (cases_eq x i) [
            | inl q ↦ among_right x (map start_at b.mine) (start_at c ∷ []) (inl (at ∙ sym q))
            | inr ne ↦ among_left x (map start_at b.mine) (start_at c ∷ [])
                (t.all x steps a k (omega arith))
          ]);
        };
      }

-- without a way to a dead end there is no cut
pub none_cut : (n : Net) (legs : List Leg) (x : ℕ) (w : Ways) (steps : List (ℕ × ℕ)) → AreWaysFrom n legs x w
    → w.dead_end ≡ None → IsCut n x steps → ⊥
none_cut n legs x w steps h e c = none-some _ (sym e ∙ (h.least steps c.dead).1)

-- a cut by a shortest way to a dead end
pub cut_as : (n : Net) (legs : List Leg) (code x d : ℕ) (w : Ways) → AreWaysFrom n legs x w
    → w.dead_end ≡ Some d → ((steps : List (ℕ × ℕ)) → Goes n x steps → AllDiffer (passed x steps))
    → IsCutAs n code legs (record { code = code; start = x; end = w.end; first = w.first; steps = d; stray = w.home })
cut_as n legs code x d w h e once =
    let k = h.way d e in
    record {
      of_code = refl;
      cut = record { dead = k.dead; once = once _ k.dead.goes };
      long = k.long;
      ends = k.ends;
      shortest = λ steps c.
          let m = h.least steps c.dead in
          let same = same_Some _ _ (sym e ∙ m.1) in
          let few = m.2 in
          omega arith;
      stray = h.home;
    }

-- where a plan has a grade no walk passes an exchange twice
pub graded_once : (p : Plan) (risk : Risk) (code x : ℕ) (steps : List (ℕ × ℕ)) → HasGrade p
    → code < length p.codes → is_origin_for p x code ≡ true
    → Goes (net_without p risk code) x steps → AllDiffer (passed x steps)
graded_once p risk code x steps grade within origin goes =
    let n = net_of p code in
    let ranks = grade.2.0 in
    let cert = certifies_code p ranks grade.0 grade.1 grade.2.1 code within in
    let o = cert.origins x origin in
    once_down n (ranks code) (record { lower = cert.lower }) x o.0 steps o.1
    (goes_left risk n x steps goes)

-- an exchange in question is one where calls may start
pub asked_origin : (p : Plan) (o : Outage) (code x : ℕ) → is_asked p o code x ≡ true
    → is_origin_for p x code ≡ true
asked_origin p o code x a = (and_parts (is_origin_for p x code) _ a).0

-- and is one of the plan
pub asked_within : (p : Plan) → IsPlan p → (o : Outage) (code : ℕ) → code < length p.codes → (x : ℕ)
    → is_asked p o code x ≡ true → x < length p.exchanges
asked_within p ok o code within x a =
    (is_net p ok code within).origins x (asked_origin p o code x a)

-- so a walk leads there
pub asked_reached : (l : Left) (o : Outage) (x : ℕ) → is_asked l.plan o l.code x ≡ true
    → IsReached (left_net l) x
asked_reached l o x a = record {
  start = x;
  steps = [];
  walk = record { origin = asked_origin l.plan o l.code x a; goes = tt };
  ends = refl;
}
