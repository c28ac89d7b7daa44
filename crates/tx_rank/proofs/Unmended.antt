-- The findings that no limit and no spare number mend.
use Rattle.tx_rank.proofs.Common.{◌≡◌, ◌≢◌, ℕ, zero, suc, ◌+◌, ◌<◌, ◌≤◌, true, false, eqb, eqb-true, List, [], ◌∷◌, length, inl, inr, Some, None, refl, sym, subst, arith, ne_eqb, or_cases, false≢true, Plan, IsPlan, Among, Finding, Ambiguous, Loop, Short, Long, Net, AllDiffer, Goes, net_of, passed, IsLong, IsNet, IsTrueOf, AreFindingsOfCode, AreFindingsBelow, AreFindings, looped, straight, AreUnmended}
use Rattle.std.specs.List.{IsDistinct, list_any, AllByRecursion}
use Rattle.std.proofs.lemmas.Map.Steps.{length-le_from_distinct_below}
use Rattle.tx_rank.proofs.Nets.{is_net}
use Rattle.tx_rank.proofs.Listing.{all_true}

-- NO WALK IS LONGER THAN THE EXCHANGES

pub passed_count : (x : ℕ) (steps : List (ℕ × ℕ)) → length (passed x steps) ≡ length steps + 1
passed_count x [] = refl
passed_count x (s ∷ steps) = let e = passed_count s.1 steps in omega arith

pub all_distinct : (xs : List ℕ) → AllDiffer xs → IsDistinct eqb xs
unfolding IsDistinct
all_distinct [] d = tt
all_distinct (x ∷ xs) d = (each x xs d.0, all_distinct xs d.1)
  where
    each : (x : ℕ) (ys : List ℕ) → AllByRecursion (λ y. x ≢ y) ys → AllByRecursion (λ y. eqb x y ≡ false) ys
    each x [] h = tt
    each x (y ∷ ys) h = (ne_eqb x y h.0, each x ys h.1)

pub any_among : (q : ℕ) (xs : List ℕ) → list_any (eqb q) xs ≡ true → Among q xs
any_among q [] h = absurd (false≢true h)
any_among q (x ∷ xs) h = elim (or_cases (eqb q x) (list_any (eqb q) xs) h) [ inl a ↦ inl (sym (eqb-true q x a)) | inr b ↦ inr (any_among q xs b) ]

module _ (n : Net) (net : IsNet n) where
  pub passed_below : (x : ℕ) (steps : List (ℕ × ℕ)) → Goes n x steps → x < n.exchanges → (u : ℕ) → Among u (passed x steps) → u < n.exchanges
  passed_below x [] goes h u m = elim m [ inl e ↦ subst (λ k. k < n.exchanges) e h | inr b ↦ absurd b ]
  passed_below x (s ∷ steps) goes h u (inl e) = subst (λ k. k < n.exchanges) e h
  passed_below x (s ∷ steps) goes h u (inr m) =
      let l = net.leads x s.0 goes.1 in
      let far = l.1 in
      let far' = goes.2 in
      let same : l.0 ≡ s.1 = cc in
      passed_below s.1 steps goes.3 (subst (λ k. k < n.exchanges) same l.2) u m

  long_few : (limit x : ℕ) (steps : List (ℕ × ℕ)) → IsLong n limit x steps → limit + 2 ≤ n.exchanges
  long_few limit x steps l =
      let below : (q : ℕ) → list_any (eqb q) (passed x steps) ≡ true → q < n.exchanges = λ q h. passed_below x steps l.walk.goes (net.origins x l.walk.origin) q (any_among q (passed x steps) h) in
      let few = length-le_from_distinct_below (passed x steps) n.exchanges (all_distinct (passed x steps) l.once) below in
      let e = passed_count x steps in
      let k = l.long in
      omega arith

-- so none of a plan is longer than 256 steps
pub no_long : (p : Plan) → IsPlan p → (c : ℕ) → c < length p.codes
    → (x : ℕ) (steps : List (ℕ × ℕ)) → IsLong (net_of p c) 255 x steps → ⊥
no_long p ok c h x steps l =
    let f = long_few (net_of p c) (is_net p ok c h) 255 x steps l in
    let few = ok.few_exchanges in
    omega arith

-- WHATEVER THE LIMIT

module _ {A : Type 0} (p : Plan) where
  module _ (ok : IsPlan p) (limit : ℕ) (high : length p.exchanges ≤ limit) where
    code_unmended : (c : ℕ) → c < length p.codes → (fs : List (Finding A)) → AreFindingsOfCode (net_of p c) c 255 0 fs → AreFindingsOfCode (net_of p c) c limit 0 fs
    code_unmended c h fs (looped w l e) = looped w l e
    code_unmended c h fs (straight none shorts s None l e) = straight none shorts s None (λ x steps long. let f = long_few (net_of p c) (is_net p ok c h) limit x steps long in absurd (omega arith)) e
    code_unmended c h fs (straight none shorts s (Some w) l e) =
        absurd (no_long p ok c h w.start w.steps l)

    below_unmended : (c : ℕ) → c ≤ length p.codes → (fs : List (Finding A)) → AreFindingsBelow p 255 0 c fs → AreFindingsBelow p limit 0 c fs
    below_unmended zero h fs l = l
    below_unmended (suc c) h fs l = (l.0, l.1, l.2, below_unmended c (omega arith) l.0 l.3, code_unmended c (omega arith) l.1 l.4)

  pub unmended : IsPlan p → (fs : List (Finding A)) → AreFindings p 255 0 fs → AreUnmended p fs
  unmended ok fs l limit high = record { rest = l.rest; joined = l.joined; codes = below_unmended ok limit high (length p.codes) (omega arith) l.rest l.codes }

  -- EACH IS TRUE, whatever the limit and the spare number

  abbrev AllTrue : ℕ → ℕ → List (Finding A) → Type 0
  AllTrue limit spare = AllByRecursion (IsTrueOf p limit spare)

  one_true : (k limit spare : ℕ) (f : Finding A) → IsTrueOf p k 0 f → IsTrueOf p (k + 1) 0 f → IsTrueOf p limit spare f
  one_true k limit spare (Ambiguous a b) h i = h
  one_true k limit spare (Loop c w) h i = h
  one_true k limit spare (Short c w) h i = (h.0, let s = h.1 in record { walk = s.walk; once = s.once; away = s.away; few = let f = s.few in omega arith })
  one_true k limit spare (Long c w) h i = absurd (let a = h.1.long in let b = i.1.long in omega arith)

  both_true : (k limit spare : ℕ) (fs : List (Finding A)) → AllTrue k 0 fs → AllTrue (k + 1) 0 fs → AllTrue limit spare fs
  both_true k limit spare [] h i = tt
  both_true k limit spare (f ∷ fs) h i = (one_true k limit spare f h.0 i.0, both_true k limit spare fs h.1 i.1)

  pub unmended_true : (fs : List (Finding A)) → AreUnmended p fs → (limit spare : ℕ) → AllTrue limit spare fs
  unmended_true fs u limit spare =
      let k = length p.exchanges in
      both_true k limit spare fs (all_true p k 0 fs (u k (omega arith))) (all_true p (k + 1) 0 fs (u (k + 1) (omega arith)))
