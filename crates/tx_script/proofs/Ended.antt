-- How many calls ended by each cause, and one call more.
use Rattle.tx_script.proofs.Common.{◌≡◌, ℕ, ◌+◌, ◌^◌, ◌<◌, ◌≤◌, ◌==◌, cond, List, [], ◌∷◌, ◌++◌, length, drop, get_or, Option, Some, None, inl, inr, refl, sym, ap, ap₂, ◌∙◌, subst, eq-eqb, arith, append-nil, append_assoc, sum_by_push, count_by-le-length, count_by, flat_map, Cause, cause_text, Ended, first_of, none_in, ALL, calls_line, ended_by}
use Rattle.std.proofs.lemmas.Bool.{ne_eqb, cases_eq, cases_lt}
use Rattle.std.proofs.lemmas.List.{get_or-set_same, get_or-set_other, get_or-replicate, get_or_past, length-set, length-replicate}
use Rattle.std.specs.Prelude.{replicate, slice_get, option_map, IfSome}
use Rattle.tx_machine.specs.declared.cause.Cause.TheVariants.{Service as ByService, ClearedByCaller, ClearedByCalled, Lost as ByLoss}
use Rattle.tx_machine.specs.declared.cause.Service.TheVariants.{Occ, Nc, Np, Der, Abs, Na}
use Rattle.tx_machine.specs.Causes.{index_of}
use Rattle.tx_script.specs.inner.Counting.{Counted, AreFew, count_for, ends_counted, one_counted, one_ended, all_ended}

-- the counts stand by the indexes of the causes
pub record AreEnded (ts : List Ended) (calls : List ℕ) : Type 0 where
  pub all : length calls ≡ 9
  pub each : (k : ℕ) → k < 9 → get_or calls k 0 ≡ count_by (λ t. index_of t.cause == k) ts

pub index_within : (c : Cause) → index_of c < 9
index_within (ByService Occ) = omega arith
index_within (ByService Nc) = omega arith
index_within (ByService Np) = omega arith
index_within (ByService Der) = omega arith
index_within (ByService Abs) = omega arith
index_within (ByService Na) = omega arith
index_within ClearedByCaller = omega arith
index_within ClearedByCalled = omega arith
index_within ByLoss = omega arith

plus_zero : (n : ℕ) → n ≡ n + 0
plus_zero n = omega arith

-- one call more ended
pub ended_more : (ts : List Ended) (t : Ended) (calls : List ℕ) → AreEnded ts calls → AreEnded (ts ++ t ∷ []) (one_ended calls t.cause)
ended_more ts t calls are = record {
  all = length-set calls (index_of t.cause) _ ∙ are.all;
  each = λ k l. elim (cases_eq (index_of t.cause) k) [
    | inl e ↦
        subst (λ z. get_or (one_ended calls t.cause) z 0 ≡ count_by (λ t. index_of t.cause == z) (ts ++ t ∷ [])) e
        (get_or-set_same calls (index_of t.cause) _ 0 (let a = are.all in let b = index_within t.cause in omega arith)
        ∙ ap (λ z. z + 1) (are.each (index_of t.cause) (index_within t.cause))
        ∙ ap (λ b. count_by (λ u. index_of u.cause == index_of t.cause) ts + cond b 1 0) (sym (eq-eqb (index_of t.cause) (index_of t.cause) refl))
        ∙ sym (sum_by_push (λ (u : Ended). cond (index_of u.cause == index_of t.cause) 1 0) ts t))
    | inr ne ↦
        get_or-set_other calls (index_of t.cause) k _ 0 (λ e. ne (sym e)) ∙ are.each k l
        ∙ plus_zero (count_by (λ u. index_of u.cause == k) ts)
        ∙ ap (λ b. count_by (λ u. index_of u.cause == k) ts + cond b 1 0) (sym (ne_eqb (index_of t.cause) k ne))
        ∙ sym (sum_by_push (λ (u : Ended). cond (index_of u.cause == k) 1 0) ts t)
  ];
}

-- the calls of an event ended
pub ended_all : (ts more : List Ended) (calls : List ℕ) → AreEnded ts calls → AreEnded (ts ++ more) (all_ended calls more)
ended_all ts [] calls are = subst (λ l. AreEnded l calls) (sym (append-nil ts)) are
ended_all ts (t ∷ more) calls are = subst (λ l. AreEnded l (all_ended (one_ended calls t.cause) more)) (append_assoc ts (t ∷ []) more) (ended_all (ts ++ t ∷ []) more (one_ended calls t.cause) (ended_more ts t calls are))

-- no call ended yet
pub none_ended : (calls : List ℕ) → calls ≡ replicate 9 0 → AreEnded [] calls
none_ended calls e = subst (λ l. AreEnded [] l) (sym e) (record { all = length-replicate {A = ℕ} 9 0; each = λ k l. get_or-replicate {A = ℕ} 9 k 0 0 l })

-- a count is at most that of all calls
pub ended_within : (ts : List Ended) (calls : List ℕ) → AreEnded ts calls → (k : ℕ) → get_or calls k 0 ≤ length ts
ended_within ts calls are k = elim (cases_lt k 9) [
  | inl l ↦ (let c = count_by-le-length (λ (t : Ended). index_of t.cause == k) ts in let e = are.each k l in omega arith)
  | inr l ↦ (let e = get_or_past calls k 0 (let a = are.all in omega arith) in omega arith)
]

-- one call more adds at most one to a count
pub one_within : (calls : List ℕ) (cause : Cause) (k : ℕ) → get_or (one_ended calls cause) k 0 ≤ get_or calls k 0 + 1
one_within calls cause k = elim (cases_eq (index_of cause) k) [
  | inl e ↦ subst (λ z. get_or (one_ended calls cause) z 0 ≤ get_or calls z 0 + 1) e (elim (cases_lt (index_of cause) (length calls)) [
    | inl l ↦ (let q = get_or-set_same calls (index_of cause) (get_or calls (index_of cause) 0 + 1) 0 l in omega arith)
    | inr l ↦ (let q = get_or_past (one_ended calls cause) (index_of cause) 0 (let n = length-set calls (index_of cause) (get_or calls (index_of cause) 0 + 1) in omega arith) in omega arith)
  ])
  | inr ne ↦ (let q = get_or-set_other calls (index_of cause) k (get_or calls (index_of cause) 0 + 1) 0 (λ e. ne (sym e)) in omega arith)
]

-- ---- tickets that are taken out of a network and counted, one after another

-- there is room to count so many calls more
abbrev pub HasRoom : Option Counted → ℕ → Type 0
HasRoom None n = Unit {0}
HasRoom (Some c) n = (k : ℕ) → get_or c.calls k 0 + n < 2 ^ 64

pub room_first : (counts : Option Counted) (n : ℕ) → AreFew counts → n < 2 ^ 63 + 1 → HasRoom counts n
room_first None n few l = tt
room_first (Some c) n few l = λ k. let f = few k in omega arith

module _ (left : List Ended) (t : Ended) (h : slice_get left 0 ≡ Some t) where
  split : left ≡ t ∷ drop 1 left
  split = first_of left t h

  pub ends_more : (counts : Option Counted) → option_map (ends_counted (drop 1 left)) (option_map (one_counted t.cause) counts) ≡ option_map (ends_counted left) counts
  ends_more counts = by counts ∙ ap (λ l. option_map (ends_counted l) counts) (sym split)
    where
      by : (counts : Option Counted) → option_map (ends_counted (drop 1 left)) (option_map (one_counted t.cause) counts) ≡ option_map (ends_counted (t ∷ drop 1 left)) counts
      by None = refl
      by (Some c) = refl

  pub room_more : (counts : Option Counted) → HasRoom counts (length left) → HasRoom (option_map (one_counted t.cause) counts) (length (drop 1 left))
  room_more None room = tt
  room_more (Some c) room = λ k. let n = ap length split in let r = room k in let o = one_within c.calls t.cause k in omega arith

  pub room_for_one : (counts : Option Counted) → HasRoom counts (length left) → IfSome counts (λ c. count_for c.calls t.cause + 1 < 2 ^ 64)
  room_for_one None room = tt
  room_for_one (Some c) room = let n = ap length split in let r = room (index_of t.cause) in omega arith

pub ends_none : (left : List Ended) (counts : Option Counted) → slice_get left 0 ≡ None → counts ≡ option_map (ends_counted left) counts
ends_none left counts h = by counts ∙ ap (λ l. option_map (ends_counted l) counts) (sym (none_in left h))
  where
    by : (counts : Option Counted) → counts ≡ option_map (ends_counted []) counts
    by None = refl
    by (Some c) = refl

-- ---- what is told of them

flat_causes : (f h : Cause → List ℕ) (cs : List Cause) → ((c : Cause) → f c ≡ h c) → flat_map f cs ≡ flat_map h cs
flat_causes f h [] e = refl
flat_causes f h (c ∷ cs) e = ap₂ (λ (x y : List ℕ). x ++ y) (e c) (flat_causes f h cs e)

pub ended_told : (ts : List Ended) (calls : List ℕ) → AreEnded ts calls
    → flat_map (λ c. calls_line (cause_text c) (get_or calls (index_of c) 0)) ALL ≡ flat_map (λ c. calls_line (cause_text c) (ended_by ts c)) ALL
ended_told ts calls are = flat_causes (λ c. calls_line (cause_text c) (get_or calls (index_of c) 0)) (λ c. calls_line (cause_text c) (ended_by ts c)) ALL (λ c. ap (calls_line (cause_text c)) (are.each (index_of c) (index_within c)))
