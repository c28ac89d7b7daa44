-- The circuits that are taken, as they are marked, and one event more.
use Rattle.std.proofs.Common.{◌≡◌, ◌≢◌, ℕ, zero, suc, ◌+◌, ◌<◌, ◌≤◌, ◌==◌, Bool, true, false, not, ◌&&◌, ◌||◌, cond, List, [], ◌∷◌, ◌++◌, length, get_or, Option, Some, None, inl, inr, refl, sym, ap, ap₂, ◌∙◌, subst, eq-eqb, arith}
use Rattle.tx_script.proofs.Common.{false≢true, and_parts, ne_eqb, cases_eq, get_or-set_same, get_or-set_other, get_or-replicate, length-replicate, length-set, sum_by_push, count_by, flat_map, list_any, range_with_len, circuit_cmp, same_circuit, Plan, Group, Circuit, Event, Key, Route, Confirm, Clear, Released, Fail, Restore, Block, Unblock, CircuitOut, CircuitIn, LineFault, LineMend, LineAway, LineBack, Reply, State, Moment, is_refused, IsFresh, NoneReleasing, peak_line}
use Rattle.std.specs.Prelude.{if◌then◌else◌, max, slice_get, slice_set, replicate}
use Rattle.std.specs.Option.{option_map_or}
use Rattle.std.specs.FinSet as set
use Rattle.tx_plan.specs.Rules.{IsPlan, IsGroup}
use Rattle.tx_plan.specs.Circuits.{count_of, upward}
use Rattle.tx_machine.specs.declared.reply.Reply.TheVariants.{Keyed, Seized, At, Connected, Answered, HeadOn, Cleared, Done, Lost, Refused}
use Rattle.tx_machine.proofs.Lists.{at_index}
use Rattle.tx_script.specs.declared.group_use.GroupUse.{GroupUse}
use Rattle.tx_script.specs.Taken.{uses, is_taken, taken_of, peak}
use Rattle.tx_script.specs.inner.Counting.{still, count_in, with_mark, with_most, no_marks, idle, use_at, change_at, uses_after}

-- ---- counts over the numbers of a group

less : (a b : Bool) → (a ≡ true → b ≡ true) → cond a 1 0 ≤ cond b 1 0
less true true e = omega arith
less true false e = absurd (false≢true (e refl))
less false true e = omega arith
less false false e = omega arith

upward_same : (f h : ℕ → Bool) (k : ℕ) → ((n : ℕ) → n ≤ k → f n ≡ h n) → count_by f (upward k) ≡ count_by h (upward k)
upward_same f h zero e = refl
upward_same f h (suc k) e =
    sum_by_push (λ n. cond (f n) 1 0) (upward k) (suc k)
    ∙ ap (λ z. z + cond (f (suc k)) 1 0) (upward_same f h k (λ n l. e n (omega arith)))
    ∙ ap (λ z. count_by h (upward k) + cond z 1 0) (e (suc k) (omega arith))
    ∙ sym (sum_by_push (λ n. cond (h n) 1 0) (upward k) (suc k))

upward_less : (f h : ℕ → Bool) (k : ℕ) → ((n : ℕ) → n ≤ k → f n ≡ true → h n ≡ true) → count_by f (upward k) ≤ count_by h (upward k)
upward_less f h zero e = omega arith
upward_less f h (suc k) e =
    let a = sum_by_push (λ n. cond (f n) 1 0) (upward k) (suc k) in
    let b = sum_by_push (λ n. cond (h n) 1 0) (upward k) (suc k) in
    let rest = upward_less f h k (λ n l. e n (omega arith)) in
    let one = less (f (suc k)) (h (suc k)) (e (suc k) (omega arith)) in
    omega arith

at_most_one : (b : Bool) → cond b 1 0 ≤ 1
at_most_one true = omega arith
at_most_one false = omega arith

pub count_within : (taken : List Bool) (n : ℕ) → count_in taken n ≤ n
count_within taken zero = omega arith
count_within taken (suc n) =
    let a = sum_by_push (λ k. cond (get_or taken k false) 1 0) (upward n) (suc n) in
    let b = count_within taken n in
    let c = at_most_one (get_or taken (suc n) false) in
    omega arith

-- ---- peaks

max_three : (a b c : ℕ) → max a (max b c) ≡ max (max a b) c
max_three a b c = omega arith

max_least : (a b : ℕ) → b ≤ a → max a b ≡ a
max_least a b l = omega arith

max_turned : (a : ℕ) → max a 0 ≡ max 0 a
max_turned a = omega arith

peak_push : (p : Plan) (g : ℕ) (ms : List Moment) (m : Moment) → peak p g (ms ++ m ∷ []) ≡ max (peak p g ms) (taken_of p g m.after)
peak_push p g [] m = max_turned (taken_of p g m.after)
peak_push p g (x ∷ ms) m = ap (max (taken_of p g x.after)) (peak_push p g ms m) ∙ max_three (taken_of p g x.after) (peak p g ms) (taken_of p g m.after)

-- ---- one group

abbrev pub nth : ℕ → ℕ → Circuit
nth g n = record { group = g; number = n }

-- what is kept of a group tells which of its circuits are taken, and the most that were after an event
pub record IsGroupUse (p : Plan) (ms : List Moment) (s : State) (g : ℕ) (u : GroupUse) : Type 0 where
  pub few : count_of p g ≤ 240
  pub size : length u.taken ≡ 241
  pub taken : (n : ℕ) → n ≤ 240 → get_or u.taken n false ≡ is_taken s (nth g n)
  pub most : u.most ≡ peak p g ms
  pub within : taken_of p g s ≤ u.most

module _ (p : Plan) (ms : List Moment) (s : State) (g : ℕ) (m : Moment) where
  -- no more circuits are taken than before
  no_more : (u : GroupUse) → IsGroupUse p ms s g u → (taken : List Bool) → length taken ≡ 241 → ((n : ℕ) → n ≤ 240 → get_or taken n false ≡ is_taken m.after (nth g n)) → ((n : ℕ) → is_taken m.after (nth g n) ≡ true → is_taken s (nth g n) ≡ true) → IsGroupUse p (ms ++ m ∷ []) m.after g (record u { taken = taken })
  no_more u is taken size tells fewer =
      let fall : taken_of p g m.after ≤ taken_of p g s = upward_less (λ n. is_taken m.after (nth g n)) (λ n. is_taken s (nth g n)) (count_of p g) (λ n l h. fewer n h) in
      let w = is.within in
      let top = ap (λ z. z) is.most in
      record {
        few = is.few;
        size = size;
        taken = tells;
        most = is.most ∙ sym (peak_push p g ms m ∙ max_least (peak p g ms) (taken_of p g m.after) (omega arith));
        within = omega arith;
      }

  -- as many as before
  as_many : (u : GroupUse) → IsGroupUse p ms s g u → ((n : ℕ) → is_taken m.after (nth g n) ≡ is_taken s (nth g n)) → IsGroupUse p (ms ++ m ∷ []) m.after g u
  as_many u is same = no_more u is u.taken is.size (λ n l. is.taken n l ∙ sym (same n)) (λ n h. sym (same n) ∙ h)

  -- another mark on one circuit
  mark_same : (u : GroupUse) (k : ℕ) (b : Bool) → length u.taken ≡ 241 → (n : ℕ) → n ≤ 240 → k ≡ n → get_or (slice_set u.taken k b) n false ≡ b
  mark_same u k b size n l e = subst (λ z. get_or (slice_set u.taken k b) z false ≡ b) e (get_or-set_same u.taken k b false (omega arith))

  -- a circuit of the group is seized
  one_more : (u : GroupUse) → IsGroupUse p ms s g u → (k : ℕ) → ((n : ℕ) → is_taken m.after (nth g n) ≡ ((k == n) || is_taken s (nth g n))) → IsGroupUse p (ms ++ m ∷ []) m.after g (with_most (count_of p g) (with_mark k true u))
  one_more u is k law =
      let tells : (n : ℕ) → n ≤ 240 → get_or (slice_set u.taken k true) n false ≡ is_taken m.after (nth g n) = told in
      let all : count_in (slice_set u.taken k true) (count_of p g) ≡ taken_of p g m.after =
      upward_same (λ n. get_or (slice_set u.taken k true) n false) (λ n. is_taken m.after (nth g n)) (count_of p g) (λ n l. let f = is.few in tells n (omega arith)) in
      let top : max u.most (count_in (slice_set u.taken k true) (count_of p g)) ≡ peak p g (ms ++ m ∷ []) =
      ap (λ z. max z (count_in (slice_set u.taken k true) (count_of p g))) is.most ∙ ap (max (peak p g ms)) all ∙ sym (peak_push p g ms m) in
      record {
        few = is.few;
        size = length-set u.taken k true ∙ is.size;
        taken = tells;
        most = top;
        within = reached (taken_of p g m.after) (count_in (slice_set u.taken k true) (count_of p g)) u.most all;
      }
    where
      reached : (a b c : ℕ) → b ≡ a → a ≤ max c b
      reached a b c e = omega arith

      told : (n : ℕ) → n ≤ 240 → get_or (slice_set u.taken k true) n false ≡ is_taken m.after (nth g n)
      told n l = elim (cases_eq k n) [
        | inl e ↦ mark_same u k true is.size n l e ∙ sym (law n ∙ ap (λ b. b || is_taken s (nth g n)) (eq-eqb k n e))
        | inr ne ↦ get_or-set_other u.taken k n true false (λ e. ne (sym e)) ∙ is.taken n l ∙ sym (law n ∙ ap (λ b. b || is_taken s (nth g n)) (ne_eqb k n ne))
      ]

  -- a circuit of the group is released
  one_less : (u : GroupUse) → IsGroupUse p ms s g u → (k : ℕ) → ((n : ℕ) → is_taken m.after (nth g n) ≡ (not (k == n) && is_taken s (nth g n))) → IsGroupUse p (ms ++ m ∷ []) m.after g (with_mark k false u)
  one_less u is k law = no_more u is (slice_set u.taken k false) (length-set u.taken k false ∙ is.size) told (λ n h. (and_parts (not (k == n)) (is_taken s (nth g n)) (sym (law n) ∙ h)).1)
    where
      told : (n : ℕ) → n ≤ 240 → get_or (slice_set u.taken k false) n false ≡ is_taken m.after (nth g n)
      told n l = elim (cases_eq k n) [
        | inl e ↦ mark_same u k false is.size n l e ∙ sym (law n ∙ ap (λ b. not b && is_taken s (nth g n)) (eq-eqb k n e))
        | inr ne ↦ get_or-set_other u.taken k n false false (λ e. ne (sym e)) ∙ is.taken n l ∙ sym (law n ∙ ap (λ b. not b && is_taken s (nth g n)) (ne_eqb k n ne))
      ]

  -- the group failed
  none_left : (u : GroupUse) → IsGroupUse p ms s g u → ((n : ℕ) → is_taken m.after (nth g n) ≡ false) → IsGroupUse p (ms ++ m ∷ []) m.after g (no_marks u)
  none_left u is law = no_more u is (replicate 241 false) (length-replicate 241 false) (λ n l. get_or-replicate 241 n false false (omega arith) ∙ sym (law n)) (λ n h. absurd (false≢true (sym (law n) ∙ h)))

-- ---- all groups

-- there is a row for each group of the plan
pub record AreGroupUses (p : Plan) (ms : List Moment) (s : State) (us : List GroupUse) : Type 0 where
  pub all : length us ≡ length p.groups
  pub each : (g : ℕ) → g < length us → IsGroupUse p ms s g (use_at us g)

module _ (p : Plan) (ms : List Moment) (s : State) (m : Moment) (us : List GroupUse) (are : AreGroupUses p ms s us) where
  -- no group changes
  none_changes : ((y : Circuit) → is_taken m.after y ≡ is_taken s y) → AreGroupUses p (ms ++ m ∷ []) m.after us
  none_changes same = record { all = are.all; each = λ g l. as_many p ms s g m (use_at us g) (are.each g l) (λ n. same (nth g n)) }

  -- one group changes
  one_changes : (i : ℕ) (change : GroupUse → GroupUse) → (i < length us → IsGroupUse p (ms ++ m ∷ []) m.after i (change (use_at us i))) → ((g n : ℕ) → i ≢ g → is_taken m.after (nth g n) ≡ is_taken s (nth g n))
      → AreGroupUses p (ms ++ m ∷ []) m.after (change_at i change us)
  one_changes i change mine others = record {
    all = length-set us i (change (use_at us i)) ∙ are.all;
    each = λ g l. at g (let q = length-set us i (change (use_at us i)) in omega arith);
  }
    where
      at : (g : ℕ) → g < length us → IsGroupUse p (ms ++ m ∷ []) m.after g (use_at (change_at i change us) g)
      at g l = elim (cases_eq i g) [
        | inl e ↦ subst (λ z. IsGroupUse p (ms ++ m ∷ []) m.after z (use_at (change_at i change us) z)) e
            (subst (λ u. IsGroupUse p (ms ++ m ∷ []) m.after i u) (sym (get_or-set_same us i (change (use_at us i)) idle (omega arith))) (mine (omega arith)))
        | inr ne ↦ subst (λ u. IsGroupUse p (ms ++ m ∷ []) m.after g u) (sym (get_or-set_other us i g (change (use_at us i)) idle (λ e. ne (sym e)))) (as_many p ms s g m (use_at us g) (are.each g l) (λ n. others g n ne))
      ]

  module _ (x : Circuit) where
    mine : (n : ℕ) → same_circuit x (nth x.group n) ≡ (x.number == n)
    mine n = ap (λ b. b && (x.number == n)) (eq-eqb x.group x.group refl)

    other's : (g n : ℕ) → x.group ≢ g → same_circuit x (nth g n) ≡ false
    other's g n ne = ap (λ b. b && (x.number == n)) (ne_eqb x.group g ne)

    seized : ((y : Circuit) → is_taken m.after y ≡ (same_circuit x y || is_taken s y)) → AreGroupUses p (ms ++ m ∷ []) m.after (change_at x.group (λ u. with_most (count_of p x.group) (with_mark x.number true u)) us)
    seized law = one_changes x.group (λ u. with_most (count_of p x.group) (with_mark x.number true u))
        (λ l. one_more p ms s x.group m (use_at us x.group) (are.each x.group l) x.number (λ n. law (nth x.group n) ∙ ap (λ b. b || is_taken s (nth x.group n)) (mine n)))
        (λ g n ne. law (nth g n) ∙ ap (λ b. b || is_taken s (nth g n)) (other's g n ne))

    released : ((y : Circuit) → is_taken m.after y ≡ (not (same_circuit x y) && is_taken s y)) → AreGroupUses p (ms ++ m ∷ []) m.after (change_at x.group (with_mark x.number false) us)
    released law = one_changes x.group (with_mark x.number false)
        (λ l. one_less p ms s x.group m (use_at us x.group) (are.each x.group l) x.number (λ n. law (nth x.group n) ∙ ap (λ b. not b && is_taken s (nth x.group n)) (mine n)))
        (λ g n ne. law (nth g n) ∙ ap (λ b. not b && is_taken s (nth g n)) (other's g n ne))

  failed : (i : ℕ) → ((y : Circuit) → is_taken m.after y ≡ (not (y.group == i) && is_taken s y)) → AreGroupUses p (ms ++ m ∷ []) m.after (change_at i no_marks us)
  failed i law = one_changes i no_marks
      (λ l. none_left p ms s i m (use_at us i) (are.each i l) (λ n. law (nth i n) ∙ ap (λ b. not b && is_taken s (nth i n)) (eq-eqb i i refl)))
      (λ g n ne. law (nth g n) ∙ ap (λ b. not b && is_taken s (nth g n)) (ne_eqb g i (λ e. ne (sym e))))

  routed_step : (n : ℕ) (r : Reply) → ((y : Circuit) → is_taken m.after y ≡ still (Route n) r y (is_taken s y)) → AreGroupUses p (ms ++ m ∷ []) m.after (uses_after p (Route n) r us)
  routed_step n (Keyed k) law = none_changes law
  routed_step n (Seized x) law = seized x law
  routed_step n (At x) law = none_changes law
  routed_step n (Connected l) law = none_changes law
  routed_step n (Answered k) law = none_changes law
  routed_step n (HeadOn a b c d) law = none_changes law
  routed_step n Cleared law = none_changes law
  routed_step n Done law = none_changes law
  routed_step n (Lost k) law = none_changes law
  routed_step n (Refused k) law = none_changes law

  -- one event more
  pub uses_step : (e : Event) (r : Reply) → ((y : Circuit) → is_taken m.after y ≡ still e r y (is_taken s y)) → AreGroupUses p (ms ++ m ∷ []) m.after (uses_after p e r us)
  uses_step (Route n) r law = routed_step n r law
  uses_step (Released x) r law = at (is_refused r) law
    where
      at : (b : Bool) → ((y : Circuit) → is_taken m.after y ≡ (if b then is_taken s y else not (same_circuit x y) && is_taken s y)) → AreGroupUses p (ms ++ m ∷ []) m.after (if b then us else change_at x.group (with_mark x.number false) us)
      at true law = none_changes law
      at false law = released x law
  uses_step (Fail g) r law = at (is_refused r) law
    where
      at : (b : Bool) → ((y : Circuit) → is_taken m.after y ≡ (if b then is_taken s y else not (y.group == g) && is_taken s y)) → AreGroupUses p (ms ++ m ∷ []) m.after (if b then us else change_at g no_marks us)
      at true law = none_changes law
      at false law = failed g law
  uses_step (Key line keyed) r law = none_changes law
  uses_step (Confirm n) r law = none_changes law
  uses_step (Clear n party) r law = none_changes law
  uses_step (Restore g) r law = none_changes law
  uses_step (Block g) r law = none_changes law
  uses_step (Unblock g) r law = none_changes law
  uses_step (CircuitOut x) r law = none_changes law
  uses_step (CircuitIn x) r law = none_changes law
  uses_step (LineFault l) r law = none_changes law
  uses_step (LineMend l) r law = none_changes law
  uses_step (LineAway l) r law = none_changes law
  uses_step (LineBack l) r law = none_changes law

-- ---- at the start

none_at : (b : Bool) → b ≡ false → cond b 1 0 ≤ 0
none_at true e = absurd (false≢true (sym e))
none_at false e = omega arith

upward_none : (f : ℕ → Bool) (k : ℕ) → ((n : ℕ) → f n ≡ false) → count_by f (upward k) ≤ 0
upward_none f zero e = omega arith
upward_none f (suc k) e =
    let a = sum_by_push (λ n. cond (f n) 1 0) (upward k) (suc k) in
    let z = none_at (f (suc k)) (e (suc k)) in
    let rest = upward_none f k e in
    omega arith

-- nothing is taken where there are no calls and no circuit is releasing
none_taken : (s : State) → IsFresh s → NoneReleasing s → (y : Circuit) → is_taken s y ≡ false
none_taken s fresh released y =
    ap (λ (r : set.FinSet circuit_cmp). set.contains r y || list_any (uses y) s.calls) released
    ∙ ap (λ b. b || list_any (uses y) s.calls) (set.contains-empty circuit_cmp y)
    ∙ ap (list_any (uses y)) fresh.no_calls

past : (rows : List Group) (g : ℕ) → slice_get rows g ≡ None → g < length rows → ⊥
past [] g e l = omega arith
past (r ∷ rows) zero e l = cc
past (r ∷ rows) (suc g) e l = past rows g e (omega arith)

few_of : (p : Plan) → IsPlan p → (g : ℕ) → g < length p.groups → count_of p g ≤ 240
few_of p ok g l = at (slice_get p.groups g) refl
  where
    at : (o : Option Group) → slice_get p.groups g ≡ o → count_of p g ≤ 240
    at None e = absurd (past p.groups g e l)
    at (Some r) e = subst (λ o. option_map_or (λ (r : Group). r.count) o 0 ≤ 240) (sym e) ((at_index (IsGroup p) p.groups ok.groups g r e).few)

pub none_used : (p : Plan) → IsPlan p → (s : State) → IsFresh s → NoneReleasing s → AreGroupUses p [] s (replicate (length p.groups) idle)
none_used p ok s fresh released = record { all = length-replicate (length p.groups) idle; each = λ g l. at g (let q = length-replicate (length p.groups) idle in omega arith) }
  where
    at : (g : ℕ) → g < length p.groups → IsGroupUse p [] s g (use_at (replicate (length p.groups) idle) g)
    at g l =
        let none = none_taken s fresh released in
        subst (λ u. IsGroupUse p [] s g u) (sym (get_or-replicate (length p.groups) g idle idle l)) (record {
          few = few_of p ok g l;
          size = length-replicate 241 false;
          taken = λ n l. get_or-replicate 241 n false false (omega arith) ∙ sym (none (nth g n));
          most = refl;
          within = upward_none (λ n. is_taken s (nth g n)) (count_of p g) (λ n. none (nth g n));
        })

-- ---- what is told of it

flat_same : (f h : ℕ → List ℕ) (a n : ℕ) → ((g : ℕ) → g < a + n → f g ≡ h g) → flat_map f (range_with_len a n) ≡ flat_map h (range_with_len a n)
flat_same f h a zero e = refl
flat_same f h a (suc n) e = ap₂ (λ (x y : List ℕ). x ++ y) (e a (omega arith)) (flat_same f h (a + 1) n (λ g l. e g (omega arith)))

pub peaks_told : (p : Plan) (ms : List Moment) (s : State) (us : List GroupUse) → AreGroupUses p ms s us
    → flat_map (λ g. peak_line p g (use_at us g).most) (range_with_len 0 (length p.groups)) ≡ flat_map (λ g. peak_line p g (peak p g ms)) (range_with_len 0 (length p.groups))
peaks_told p ms s us are = flat_same (λ g. peak_line p g (use_at us g).most) (λ g. peak_line p g (peak p g ms)) 0 (length p.groups) (λ g l. ap (peak_line p g) ((are.each g (let q = are.all in omega arith)).most))
