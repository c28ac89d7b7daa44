-- No fault is lost where some are counted at others.
use Rattle.tx_lint.proofs.Common.{◌≡◌, ℕ, zero, suc, ◌+◌, ◌<◌, Bool, true, false, ◌||◌, if◌then◌else◌, List, [], ◌∷◌, ◌++◌, map, length, fold, Option, Some, None, refl, sym, ap, subst, ◌∙◌, arith, append_assoc, append-nil, map-append, AllByRecursion, list_any, option_map_or, Fault, Gathering, gathered_on, no_gathering}
use Rattle.std.specs.Prelude.{is_some, option_and_then, sum_by}
use Rattle.std.specs.Map.{lookup}
use Rattle.std.specs.Str.{bytes_eq}
use Rattle.std.proofs.Math.Bool.{or-false}
use Rattle.std.proofs.lemmas.List.{length_push}
use Rattle.std.proofs.lemmas.List.Folds.{list_any-append}
use Rattle.std.proofs.lemmas.List.Sums.{sum_by-cons, sum_by_push}
use Rattle.std.proofs.lemmas.Slice.Eq.{bytes_eq-Decides}
use Rattle.indexmap.specs.IndexMap.{insert_entry}
use Rattle.tx_lint.specs.Gathered.{Told, cause_in, count_at, gathered_by, name_left, name_needed, noted}
use Rattle.tx_lint.specs.Laws.{is_named, misses, comes_of, told_after, NoFaultIsLost}

-- MISSING NAMES

-- a name is missing
abbrev is_missing : (n : List ℕ) → List (List ℕ × ℕ) → Bool
is_missing n es = is_some (lookup (bytes_eq n) es)

missing_entry : (n k : List ℕ) (i : ℕ) (es : List (List ℕ × ℕ))
    → is_missing n ((k, i) ∷ es) ≡ (bytes_eq n k || is_missing n es)
missing_entry n k i es = by (bytes_eq n k)
  where
    by : (b : Bool) → is_some (if b then Some i else lookup (bytes_eq n) es) ≡ (b || is_missing n es)
    by true = refl
    by false = refl

twice : (a s : Bool) → (a || s) ≡ (a || (a || s))
twice true s = refl
twice false s = refl

swapped : (a b s : Bool) → (a || (b || s)) ≡ (b || (a || s))
swapped true true s = refl
swapped true false s = refl
swapped false b s = refl

missing_inserted : (n k : List ℕ) (i : ℕ) (es : List (List ℕ × ℕ))
    → is_missing n (insert_entry bytes_eq es k i) ≡ (bytes_eq n k || is_missing n es)
missing_inserted n k i [] = missing_entry n k i []
missing_inserted n k i (e ∷ es) = by (bytes_eq k e.0) refl (missing_inserted n k i es)
  where
    there : (bytes_eq n e.0 || is_missing n es) ≡ is_missing n (e ∷ es)
    there = sym (missing_entry n e.0 e.1 es)

    by : (b : Bool) → bytes_eq k e.0 ≡ b
        → is_missing n (insert_entry bytes_eq es k i) ≡ (bytes_eq n k || is_missing n es)
        → is_missing n (if b then (e.0, i) ∷ es else e ∷ insert_entry bytes_eq es k i)
        ≡ (bytes_eq n k || is_missing n (e ∷ es))
    by true h rest =
        let same : e.0 ≡ k = sym ((bytes_eq-Decides k e.0).0 h) in
        missing_entry n e.0 i es ∙ ap (λ w. bytes_eq n w || is_missing n es) same
        ∙ twice (bytes_eq n k) (is_missing n es)
        ∙ ap (λ w. bytes_eq n k || (bytes_eq n w || is_missing n es)) (sym same)
        ∙ ap (λ s. bytes_eq n k || s) there
    by false h rest =
        missing_entry n e.0 e.1 (insert_entry bytes_eq es k i) ∙ ap (λ s. bytes_eq n e.0 || s) rest
        ∙ swapped (bytes_eq n e.0) (bytes_eq n k) (is_missing n es)
        ∙ ap (λ s. bytes_eq n k || s) there

missing_noted : (o : Option (List ℕ)) (i : ℕ) (es : List (List ℕ × ℕ)) (n : List ℕ)
    → is_missing n (noted o i es) ≡ (is_named n o || is_missing n es)
missing_noted None i es n = refl
missing_noted (Some k) i es n = missing_inserted n k i es

-- THE FAULTS THAT THEY COME FROM

-- each name is missing by one of the first m faults that are told
abbrev AreWithin : (m : ℕ) → List (List ℕ × ℕ) → Type 0
AreWithin m es = AllByRecursion (λ e. e.1 < m) es

within_more : (m : ℕ) (es : List (List ℕ × ℕ)) → AreWithin m es → AreWithin (m + 1) es
within_more m [] all = tt
within_more m (e ∷ es) all = (let low = all.0 in omega arith, within_more m es all.1)

within_inserted : (m : ℕ) (k : List ℕ) (i : ℕ) (es : List (List ℕ × ℕ)) → i < m → AreWithin m es
    → AreWithin m (insert_entry bytes_eq es k i)
within_inserted m k i [] low all = (low, tt)
within_inserted m k i (e ∷ es) low all = by (bytes_eq k e.0) (within_inserted m k i es low all.1)
  where
    by : (b : Bool) → AreWithin m (insert_entry bytes_eq es k i)
        → AreWithin m (if b then (e.0, i) ∷ es else e ∷ insert_entry bytes_eq es k i)
    by true rest = (low, all.1)
    by false rest = (all.0, rest)

within_noted : (m : ℕ) (o : Option (List ℕ)) (i : ℕ) (es : List (List ℕ × ℕ)) → i < m
    → AreWithin m es → AreWithin m (noted o i es)
within_noted m None i es low all = all
within_noted m (Some k) i es low all = within_inserted m k i es low all

found_within : (m : ℕ) (t : List ℕ → Bool) (es : List (List ℕ × ℕ)) (i : ℕ) → AreWithin m es
    → lookup t es ≡ Some i → i < m
found_within m t [] i all at = absurd (let bad : ⊥ = cc in bad)
found_within m t (e ∷ es) i all at = by (t e.0) at (found_within m t es i all.1)
  where
    by : (b : Bool) → (if b then Some e.1 else lookup t es) ≡ Some i
        → (lookup t es ≡ Some i → i < m) → i < m
    by true h rest = let same : e.1 ≡ i = cc in let low = all.0 in omega (arith, same, low)
    by false h rest = rest h

cause_within : (m : ℕ) (w : Option (List ℕ)) (es : List (List ℕ × ℕ)) (i : ℕ) → AreWithin m es
    → option_and_then (cause_in es) w ≡ Some i → i < m
cause_within m None es i all at = absurd (let bad : ⊥ = cc in bad)
cause_within m (Some n) es i all at = found_within m (bytes_eq n) es i all at

-- WHAT IS COUNTED

-- the faults that are told, and those that are counted
abbrev all_in : List Told → ℕ
all_in ts = length ts + sum_by (λ t. t.needing) ts

counted_faults : (ts : List Told) (i : ℕ)
    → map (λ t. t.fault) (count_at ts i) ≡ map (λ t. t.fault) ts
counted_faults [] i = refl
counted_faults (t ∷ ts) zero = refl
counted_faults (t ∷ ts) (suc i) = ap (λ l. t.fault ∷ l) (counted_faults ts i)

counted_long : (ts : List Told) (i : ℕ) → length (count_at ts i) ≡ length ts
counted_long [] i = refl
counted_long (t ∷ ts) zero = refl
counted_long (t ∷ ts) (suc i) = ap suc (counted_long ts i)

counted_more : (ts : List Told) (i : ℕ) → i < length ts → all_in (count_at ts i) ≡ all_in ts + 1
counted_more [] i low = absurd (omega (arith, low))
counted_more (t ∷ ts) zero low =
    let counts : List Told → ℕ = sum_by (λ k. k.needing) in
    let now : counts (count_at (t ∷ ts) zero) ≡ (t.needing + 1) + counts ts =
    sum_by-cons (λ k. k.needing) (record t { needing = t.needing + 1 }) ts in
    let was : counts (t ∷ ts) ≡ t.needing + counts ts = sum_by-cons (λ k. k.needing) t ts in
    omega (arith, now, was)
counted_more (t ∷ ts) (suc i) low =
    let counts : List Told → ℕ = sum_by (λ k. k.needing) in
    let more = counted_more ts i (omega (arith, low)) in
    let now : counts (count_at (t ∷ ts) (suc i)) ≡ t.needing + counts (count_at ts i) =
    sum_by-cons (λ k. k.needing) t (count_at ts i) in
    let was : counts (t ∷ ts) ≡ t.needing + counts ts = sum_by-cons (λ k. k.needing) t ts in
    omega (arith, more, now, was)

all_pushed : (ts : List Told) (t : Told) → t.needing ≡ 0 → all_in (ts ++ t ∷ []) ≡ all_in ts + 1
all_pushed ts t none =
    let a = length_push ts t in
    let b = sum_by_push (λ k. k.needing) ts t in
    omega (arith, a, b, none)

-- ONE FAULT AFTER ANOTHER

-- these faults were gathered: the names that they miss are missing
record AreGathered (before : List Fault) (g : Gathering) : Type 0 where
  pub names : (n : List ℕ) → is_missing n g.missing ≡ list_any (misses n) before
  pub within : AreWithin (length g.told) g.missing

module _ (before : List Fault) (g : Gathering) (s : AreGathered before g) where
  -- whether a fault comes of one before
  comes_by : (w : Option (List ℕ)) → is_some (option_and_then (cause_in g.missing) w)
      ≡ option_map_or (λ n. list_any (misses n) before) w false
  comes_by None = refl
  comes_by (Some n) = s.names n

  -- what it needs then is missing already
  needed_missing : (w : Option (List ℕ)) (i : ℕ) (n : List ℕ)
      → option_and_then (cause_in g.missing) w ≡ Some i → is_named n w ≡ true
      → list_any (misses n) before ≡ true
  needed_missing None i n at is = absurd (let bad : ⊥ = cc in bad)
  needed_missing (Some m) i n at is =
      ap (λ k. list_any (misses k) before) ((bytes_eq-Decides n m).0 is) ∙ sym (s.names m) ∙ ap is_some at

  -- one fault more, which is misses more
  more_missed : (f : Fault) (n : List ℕ) → list_any (misses n) (before ++ f ∷ [])
      ≡ (list_any (misses n) before || misses n f)
  more_missed f n = list_any-append (misses n) before (f ∷ [])
      ∙ ap (λ b. list_any (misses n) before || b) (or-false (misses n f))

  old_name : (a b x : Bool) → (b ≡ true → x ≡ true) → (a || x) ≡ (x || (a || b))
  old_name a b x h = grind arith

  new_name : (a b x : Bool) → (a || (b || x)) ≡ (x || (a || b))
  new_name a b x = grind arith

  gathered_more : (f : Fault) (o : Option ℕ)
      → option_and_then (cause_in g.missing) (name_needed f) ≡ o
      → AreGathered (before ++ f ∷ []) (gathered_by g f o)
  gathered_more f (Some i) at =
      let low = cause_within (length g.told) (name_needed f) g.missing i s.within at in
      record {
        names = λ n. missing_noted (name_left f) i g.missing n
            ∙ ap (λ x. is_named n (name_left f) || x) (s.names n)
            ∙ old_name (is_named n (name_left f)) (is_named n (name_needed f))
            (list_any (misses n) before) (needed_missing (name_needed f) i n at)
            ∙ sym (more_missed f n);
        within = subst (λ k. AreWithin k (noted (name_left f) i g.missing)) (sym (counted_long g.told i))
            (within_noted (length g.told) (name_left f) i g.missing low s.within);
      }
  gathered_more f None at =
      let i = length g.told in
      let missing = noted (name_left f) i (noted (name_needed f) i g.missing) in
      record {
        names = λ n. missing_noted (name_left f) i (noted (name_needed f) i g.missing) n
            ∙ ap (λ x. is_named n (name_left f) || x) (missing_noted (name_needed f) i g.missing n
            ∙ ap (λ x. is_named n (name_needed f) || x) (s.names n))
            ∙ new_name (is_named n (name_left f)) (is_named n (name_needed f))
            (list_any (misses n) before)
            ∙ sym (more_missed f n);
        within = subst (λ k. AreWithin k missing) (sym (length_push g.told (record { fault = f; needing = 0 })))
            (within_noted (i + 1) (name_left f) i (noted (name_needed f) i g.missing) (omega arith)
            (within_noted (i + 1) (name_needed f) i g.missing (omega arith)
            (within_more i g.missing s.within)));
      }

-- what is told of some faults behind others that were gathered
abbrev told_on : Gathering → List Fault → List Told
told_on g fs = (fold gathered_on g fs).told

record LosesNoneOf (before : List Fault) (g : Gathering) (fs : List Fault) : Type 0 where
  pub told : map (λ t. t.fault) (told_on g fs) ≡ map (λ t. t.fault) g.told ++ told_after before fs
  pub counted : all_in (told_on g fs) ≡ all_in g.told + length fs

none_lost : (before : List Fault) (g : Gathering) → AreGathered before g → (fs : List Fault)
    → LosesNoneOf before g fs
none_lost before g s [] =
    record { told = sym (append-nil (map (λ t. t.fault) g.told)); counted = omega arith }
none_lost before g s (f ∷ fs) =
    by (option_and_then (cause_in g.missing) (name_needed f)) refl
    (λ o at. none_lost (before ++ f ∷ []) (gathered_by g f o) (gathered_more before g s f o at) fs)
  where
    rest : List Fault
    rest = told_after (before ++ f ∷ []) fs

    here : (o : Option ℕ) → option_and_then (cause_in g.missing) (name_needed f) ≡ o
        → comes_of before f ≡ is_some o
    here o at = sym (comes_by before g s (name_needed f)) ∙ ap is_some at

    told_here : (o : Option ℕ) → option_and_then (cause_in g.missing) (name_needed f) ≡ o
        → told_after before (f ∷ fs) ≡ (if is_some o then rest else f ∷ rest)
    told_here o at = ap (λ b. if b then rest else f ∷ rest) (here o at)

    by : (o : Option ℕ) → option_and_then (cause_in g.missing) (name_needed f) ≡ o
        → ((o : Option ℕ) → option_and_then (cause_in g.missing) (name_needed f) ≡ o
        → LosesNoneOf (before ++ f ∷ []) (gathered_by g f o) fs) → LosesNoneOf before g (f ∷ fs)
    by (Some i) at next =
        let low = cause_within (length g.told) (name_needed f) g.missing i s.within at in
        let n = next (Some i) at in
        let same = ap (λ o. fold gathered_on (gathered_by g f o) fs) at in
        record {
          told = ap (λ r. map (λ t. t.fault) r.told) same ∙ n.told
              ∙ ap (λ l. l ++ rest) (counted_faults g.told i)
              ∙ ap (λ l. map (λ t. t.fault) g.told ++ l) (sym (told_here (Some i) at));
          counted = ap (λ r. all_in r.told) same ∙ n.counted
              ∙ ap (λ k. k + length fs) (counted_more g.told i low) ∙ omega arith;
        }
    by None at next =
        let n = next None at in
        let same = ap (λ o. fold gathered_on (gathered_by g f o) fs) at in
        let t : Told = record { fault = f; needing = 0 } in
        record {
          told = ap (λ r. map (λ t. t.fault) r.told) same ∙ n.told
              ∙ ap (λ l. l ++ rest) (map-append (λ (k : Told). k.fault) g.told (t ∷ []))
              ∙ append_assoc (map (λ k. k.fault) g.told) (f ∷ []) rest
              ∙ ap (λ l. map (λ t. t.fault) g.told ++ l) (sym (told_here None at));
          counted = ap (λ r. all_in r.told) same ∙ n.counted
              ∙ ap (λ k. k + length fs) (all_pushed g.told t refl) ∙ omega arith;
        }

pub none_is_lost : NoFaultIsLost
none_is_lost fs =
    let n = none_lost [] no_gathering (record { names = λ n. refl; within = tt }) fs in
    let none : 0 + 0 + length fs ≡ length fs = omega arith in
    record { told = n.told; counted = n.counted ∙ none }
