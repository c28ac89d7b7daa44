-- The events of a finding can be written.
use Rattle.tx_audit.proofs.Common.{◌≡◌, ℕ, zero, suc, ◌+◌, ◌^◌, ◌<◌, ◌==◌, true, false, ◌&&◌, nat_le, List, [], ◌∷◌, ◌++◌, map, length, Option, Some, None, refl, sym, ap, subst, inl, inr, arith, slice_get_within, if◌then◌else◌, slice_get, is_some, option_and_then, option_map, option_map_or, Plan, Code, Group, figures_of, route_list, Line, LineRange, entry_at, Among, Finding, Ambiguous, Loop, Short, Long, IsTrueOf, Walk, end_of, Event, Route, Confirm, Block, Unblock, is_group, find_mem, at_index, all_mem, IsWritable, first_range, first_code, calls_from, low_line, first_line, listed_before, step_events, walk_events, shut_events, walked_by, events_along, turns_on_one, counter_of}
use Rattle.std.proofs.lemmas.Bool.{false≢true, and_parts, and_from, leb-true, le-leb}
use Rattle.std.specs.List.{AllByRecursion, list_all, range_with_len}
use Rattle.tx_text.specs.Words.{is_figure, are_figures, figures_of as keyed_of}
use Rattle.tx_plan.specs.Rules.{IsPlan, IsCode, IsRange, is_national}
use Rattle.tx_audit.proofs.Listed.{listed_known, before_all}

all_append : {A : Type 0} (P : A → Type 0) (xs ys : List A) → AllByRecursion P xs → AllByRecursion P ys → AllByRecursion P (xs ++ ys)
all_append P [] ys h k = k
all_append P (x ∷ xs) ys h k = (h.0, all_append P xs ys h.1 k)

-- a code's figures are as many as may be keyed
keyed_width : (p : Plan) → IsPlan p → (c : ℕ) → c < length p.codes → are_figures 1 12 (figures_of p c) ≡ true
keyed_width p ok c within =
    let row = entry_at p.codes c within in
    let f = (at_index (IsCode p) p.codes ok.codes c row.0 row.1).figures in
    let e : figures_of p c ≡ row.0.figures = ap (λ o. option_map_or (λ (k : Code). k.figures) o []) row.1 in
    subst (λ (text : List ℕ). are_figures 1 12 text ≡ true) (sym e) (wide row.0.figures f)
  where
    wide : (text : List ℕ) → are_figures 2 3 text ≡ true → are_figures 1 12 text ≡ true
    wide text h =
        let a = and_parts (nat_le 2 (length text) && nat_le (length text) 3) (list_all is_figure text) h in
        let b = and_parts (nat_le 2 (length text)) (nat_le (length text) 3) a.0 in
        let low = leb-true 2 (length text) b.0 in
        let high = leb-true (length text) 3 b.1 in
        and_from (nat_le 1 (length text) && nat_le (length text) 12) (list_all is_figure text) (and_from (nat_le 1 (length text)) (nat_le (length text) 12) (le-leb 1 (length text) (omega arith)) (le-leb (length text) 12 (omega arith))) a.1

-- and so they may be keyed
pub code_keyed : (p : Plan) → IsPlan p → (c : ℕ) → c < length p.codes → keyed_of (figures_of p c) ≡ Some (figures_of p c)
code_keyed p ok c within = let t = keyed_width p ok c within in rw t refl

group_within : (p : Plan) (g : ℕ) → is_group p g ≡ true → g < length p.groups
group_within p g h = at (slice_get p.groups g) refl h
  where
    at : (o : Option Group) → slice_get p.groups g ≡ o → is_some o ≡ true → g < length p.groups
    at None e t = absurd (false≢true t)
    at (Some r) e t = slice_get_within p.groups g r e

module _ (p : Plan) (ok : IsPlan p) where
  blocks_writable : (gs : List ℕ) → AllByRecursion (λ g. is_group p g ≡ true) gs → AllByRecursion (IsWritable p) (map Block gs)
  blocks_writable [] h = tt
  blocks_writable (g ∷ gs) h = ((group_within p g h.0, tt), blocks_writable gs h.1)

  unblocks_writable : (gs : List ℕ) → AllByRecursion (λ g. is_group p g ≡ true) gs → AllByRecursion (IsWritable p) (map Unblock gs)
  unblocks_writable [] h = tt
  unblocks_writable (g ∷ gs) h = ((group_within p g h.0, tt), unblocks_writable gs h.1)

  -- the first call of a run has number 1
  first_call : Unit {0} × (1 < 2 ^ 32)
  first_call = (tt, omega arith)

  walk_writable : (c x : ℕ) (steps : List (ℕ × ℕ)) → AllByRecursion (IsWritable p) (walk_events p c x steps)
  walk_writable c x [] = tt
  walk_writable c x (s ∷ steps) =
      let list = route_list p x c in
      let f = listed_before s.0 list in
      let known = before_all (λ g. is_group p g ≡ true) s.0 list (listed_known p ok x c) in
      all_append (IsWritable p) (step_events list s.0) (walk_events p c s.1 steps)
      (all_append (IsWritable p) (map Block f) (Route 1 ∷ (map Unblock f ++ (Confirm 1 ∷ []))) (blocks_writable f known)
      (first_call, all_append (IsWritable p) (map Unblock f) (Confirm 1 ∷ []) (unblocks_writable f known) (first_call, tt)))
      (walk_writable c s.1 steps)

  shut_writable : (c x : ℕ) → AllByRecursion (IsWritable p) (shut_events p c x)
  shut_writable c x = all_append (IsWritable p) (map Block (route_list p x c)) (Route 1 ∷ []) (blocks_writable (route_list p x c) (listed_known p ok x c)) (first_call, tt)

  -- the line that calls is one of a code of the plan
  below : (a n k : ℕ) → Among k (range_with_len a n) → k < a + n
  below a zero k m = elim m [ ]
  below a (suc n) k (inl e) = omega arith
  below a (suc n) k (inr m) = let r = below (a + 1) n k m in omega arith

  line_within : (x : ℕ) (l : Line) → first_line p x ≡ Some l → l.code < length p.codes
  line_within x l h = at (first_code p x) refl h
    where
      by_range : (d : ℕ) (o : Option LineRange) → option_map (low_line d) o ≡ Some l → l.code ≡ d
      by_range d None e = let bad : ⊥ = cc in absurd bad
      by_range d (Some r) e = let same : low_line d r ≡ l = cc in ap (λ (k : Line). k.code) (sym same)

      at : (o : Option ℕ) → first_code p x ≡ o → option_and_then (λ code. option_map (low_line code) (first_range p code)) o ≡ Some l → l.code < length p.codes
      at None e h = let bad : ⊥ = cc in absurd bad
      at (Some d) e h =
          let m = below 0 (length p.codes) d (find_mem (calls_from p x) (range_with_len 0 (length p.codes)) d e).0 in
          let same = by_range d (first_range p d) h in
          omega arith

  line_national : (x : ℕ) (l : Line) → first_line p x ≡ Some l → is_national l.national ≡ true
  line_national x l h = at (first_code p x) h
    where
      by_range : (d : ℕ) (o : Option LineRange) → first_range p d ≡ o → option_map (low_line d) o ≡ Some l → is_national l.national ≡ true
      by_range d None f e = let bad : ⊥ = cc in absurd bad
      by_range d (Some r) f e =
          let same : low_line d r ≡ l = cc in
          let range = all_mem (IsRange p) p.ranges r ok.ranges (find_mem (λ (q : LineRange). q.code == d) p.ranges r f).0 in
          subst (λ (k : Line). is_national k.national ≡ true) same range.low

      at : (o : Option ℕ) → option_and_then (λ code. option_map (low_line code) (first_range p code)) o ≡ Some l → is_national l.national ≡ true
      at None e = let bad : ⊥ = cc in absurd bad
      at (Some d) e = by_range d (first_range p d) refl e

  from_writable : (c : ℕ) → c < length p.codes → (w : Walk) (last events : List Event) → AllByRecursion (IsWritable p) last → events_along p c w last ≡ Some events → AllByRecursion (IsWritable p) events
  from_writable c within w last events h e = at (first_line p w.start) refl e
    where
      at : (o : Option Line) → first_line p w.start ≡ o → option_map (walked_by p c w last) o ≡ Some events → AllByRecursion (IsWritable p) events
      at None f e = let bad : ⊥ = cc in absurd bad
      at (Some l) f e =
          let same : walked_by p c w last l ≡ events = cc in
          subst (AllByRecursion (IsWritable p)) same
          ((line_within w.start l f, (line_national w.start l f, keyed_width p ok c within)), all_append (IsWritable p) (walk_events p c w.start w.steps) last (walk_writable c w.start w.steps) h)

  pub counter_writable : {A : Type 0} (limit spare : ℕ) (f : Finding A) (events : List Event) → IsTrueOf p limit spare f → counter_of p f ≡ Some events → AllByRecursion (IsWritable p) events
  counter_writable limit spare (Ambiguous a b) events t e = let bad : ⊥ = cc in absurd bad
  counter_writable limit spare (Loop c w) events t e =
      elim (turns_on_one p w.steps) as (λ b. (if b then None else events_along p c w []) ≡ Some events → AllByRecursion (IsWritable p) events) [
        | true ↦ λ q. let bad : ⊥ = cc in absurd bad
        | false ↦ λ q. from_writable c t.0 w [] events tt q
      ] e
  counter_writable limit spare (Short c w) events t e = from_writable c t.0 w (shut_events p c (end_of w.start w.steps)) events (shut_writable c (end_of w.start w.steps)) e
  counter_writable limit spare (Long c w) events t e = from_writable c t.0 w [] events tt e
