-- Faults that are gathered one after another.
use Rattle.tx_lint.proofs.Common.{◌≡◌, ℕ, zero, suc, ◌+◌, ◌<◌, ◌≤◌, List, [], ◌∷◌, ◌++◌, map, length, fold, take, get_or, Option, Some, None, refl, sym, ap, subst, ◌∙◌, arith, AllByRecursion, Fault, fault_held, told_held, AreFew}
use Rattle.std.specs.Prelude.{slice_get, set, option_and_then}
use Rattle.std.proofs.lemmas.List.Sums.{fold_more}
use Rattle.tx_lint.specs.declared.fault.Fault.{Fault as FaultHeld}
use Rattle.tx_lint.specs.declared.gathering.Told.{Told as ToldHeld}
use Rattle.tx_lint.specs.Gathered.{Told, Gathering, count_at, cause_in, gathered_by, gathered_on, name_needed, no_gathering}

-- a bound that is one greater holds too
few_more : (n : ℕ) (ts : List Told) → AllByRecursion (λ t. t.needing < n) ts
    → AllByRecursion (λ t. t.needing < n + 1) ts
few_more n [] all = tt
few_more n (t ∷ ts) all = (omega (arith, all.0), few_more n ts all.1)

few_counted : (n : ℕ) (ts : List Told) (i : ℕ) → AllByRecursion (λ t. t.needing < n) ts
    → AllByRecursion (λ t. t.needing < n + 1) (count_at ts i)
few_counted n [] i all = tt
few_counted n (t ∷ ts) zero all = (omega (arith, all.0), few_more n ts all.1)
few_counted n (t ∷ ts) (suc i) all = (omega (arith, all.0), few_counted n ts i all.1)

few_told : (n : ℕ) (ts : List Told) (f : Fault) → AllByRecursion (λ t. t.needing < n) ts
    → AllByRecursion (λ t. t.needing < n + 1) (ts ++ record { fault = f; needing = 0 } ∷ [])
few_told n [] f all = (omega arith, tt)
few_told n (t ∷ ts) f all = (omega (arith, all.0), few_told n ts f all.1)

-- one fault more counts at most once
pub few_on : (n : ℕ) (g : Gathering) (f : Fault) → AreFew n g → AreFew (n + 1) (gathered_on g f)
few_on n g f few = by (option_and_then (cause_in g.missing) (name_needed f))
  where
    by : (o : Option ℕ) → AreFew (n + 1) (gathered_by g f o)
    by (Some i) = few_counted n g.told i few
    by None = few_told n g.told f few

-- one fault more, as it is held
abbrev pub on_held : Gathering → FaultHeld → Gathering
on_held g f = gathered_on g (fault_held f)

-- the next fault was taken
pub gathered_next : (faults : List FaultHeld) (i : ℕ) (d : FaultHeld) (old new : Gathering)
    → i < length faults → old ≡ fold on_held no_gathering (take i faults) → AreFew (i + 1) old
    → new ≡ on_held old (get_or faults i d)
    → (new ≡ fold on_held no_gathering (take (i + 1) faults)) × AreFew ((i + 1) + 1) new
gathered_next faults i d old new low before few more = (
  more ∙ ap (λ g. on_held g (get_or faults i d)) before ∙ sym (fold_more on_held no_gathering faults i d low),
  subst (AreFew ((i + 1) + 1)) (sym more) (few_on (i + 1) old (fault_held (get_or faults i d)) few),
)

-- the one that is there has a small count
pub few_at : (n : ℕ) (ts : List ToldHeld) (i : ℕ) (t : ToldHeld)
    → AllByRecursion (λ s. s.needing < n) (map told_held ts) → slice_get ts i ≡ Some t
    → t.needing < n
few_at n [] i t all at = absurd (let bad : ⊥ = cc in bad)
few_at n (s ∷ ts) zero t all at = let e : s ≡ t = cc in subst (λ (k : ToldHeld). k.needing < n) e all.0
few_at n (s ∷ ts) (suc i) t all at = few_at n ts i t all.1 at

-- the count of the one that is there is written
pub counted_at : (ts : List ToldHeld) (i : ℕ) (t : ToldHeld) → slice_get ts i ≡ Some t
    → map told_held (set ts i (record t { needing = t.needing + 1 })) ≡ count_at (map told_held ts) i
counted_at [] i t at = absurd (let bad : ⊥ = cc in bad)
counted_at (s ∷ ts) zero t at =
    let e : s ≡ t = cc in
    ap (λ (k : ToldHeld). record (told_held k) { needing = k.needing + 1 } ∷ map told_held ts) (sym e)
counted_at (s ∷ ts) (suc i) t at = ap (λ l. told_held s ∷ l) (counted_at ts i t at)

-- none is there, and none is counted
pub none_at : (ts : List ToldHeld) (i : ℕ) → length ts ≤ i
    → map told_held ts ≡ count_at (map told_held ts) i
none_at [] i out = refl
none_at (t ∷ ts) zero out = absurd (omega (arith, out))
none_at (t ∷ ts) (suc i) out = ap (λ l. told_held t ∷ l) (none_at ts i (omega (arith, out)))
