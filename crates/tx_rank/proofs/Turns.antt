-- What the turns of a ranking pass keep.
use Rattle.tx_rank.proofs.Common.{◌≡◌, ◌≢◌, ℕ, zero, suc, ◌+◌, ◌*◌, ◌<◌, ◌≤◌, List, [], ◌∷◌, ◌++◌, ◌⊎◌, inl, inr, Some, None, refl, sym, ap, subst, ◌∙◌, arith, true, false, eqb, eqb-true, eqb-false, slice_get, set, length-set, option_and_then, Among, among_left, among_right, among_cases, Net, AllDiffer, end_of, before_end, passed, IsWalk, IsLoop, Mark, Unseen, Open, Ranked}
use Rattle.std.proofs.lemmas.Option.{slice_get_within}
use Rattle.tx_rank.specs.inner.Marks.{rank_of, cost_of, rank_in, cost, IsSettled, IsMarked, IsInHand, Grew, NoneOpen, IsOnward, IsTop, IsStep, IsEnd}
use Rattle.tx_rank.proofs.Ways.{once_push, once_pop, end_push, passed_push, before_push, end_passed, goes_push, goes_pop}

module _ {A : Type 0} where
  pub set_same : (xs : List A) (i : ℕ) (a b : A) → slice_get xs i ≡ Some a → slice_get (set xs i b) i ≡ Some b
  set_same [] i a b h = cc
  set_same (x ∷ xs) zero a b h = refl
  set_same (x ∷ xs) (suc i) a b h = set_same xs i a b h

  pub set_other : (xs : List A) (i j : ℕ) (b : A) → i ≢ j → slice_get (set xs i b) j ≡ slice_get xs j
  set_other [] i j b h = refl
  set_other (x ∷ xs) zero zero b h = absurd (h refl)
  set_other (x ∷ xs) zero (suc j) b h = refl
  set_other (x ∷ xs) (suc i) zero b h = refl
  set_other (x ∷ xs) (suc i) (suc j) b h = set_other xs i j b (λ e. h (ap suc e))

pub cost_set : (marks : List Mark) (i : ℕ) (a b : Mark) → slice_get marks i ≡ Some a → cost (set marks i b) + cost_of a ≡ cost marks + cost_of b
cost_set [] i a b h = cc
cost_set (m ∷ marks) zero a b h = let same : m ≡ a = cc in let e : cost_of m ≡ cost_of a = ap cost_of same in omega arith
cost_set (m ∷ marks) (suc i) a b h = let i = cost_set marks i a b h in omega arith

module _ (marks : List Mark) (x : ℕ) (a b : Mark) (was : slice_get marks x ≡ Some a) where
  pub rank_set : rank_in (set marks x b) x ≡ rank_of b
  rank_set = ap (option_and_then rank_of) (set_same marks x a b was)

  pub rank_other : (y : ℕ) → x ≢ y → rank_in (set marks x b) y ≡ rank_in marks y
  rank_other y h = ap (option_and_then rank_of) (set_other marks x y b h)

  -- where x had no rank, ranks stay
  pub grew_set : rank_of a ≡ None → Grew marks (set marks x b)
  grew_set free y r ranked =
      elim (eqb x y) as (λ t. eqb x y ≡ t → rank_in (set marks x b) y ≡ Some r) [
        | true ↦ λ e. let same : x ≡ y = eqb-true x y e in let bad : ⊥ = let z = ap (rank_in marks) same in let w = ap (option_and_then rank_of) was in cc in absurd bad
        | false ↦ λ e. rank_other y (eqb-false x y e) ∙ ranked
      ] refl

-- a fact of a rank stays where ranks stay
pub settled_grows : (n : Net) (old new : List Mark) (x r : ℕ) → Grew old new → IsSettled n (rank_in old) x r → IsSettled n (rank_in new) x r
settled_grows n old new x r grew s =
    record {
      positive = s.positive;
      lower = λ g m. let l = s.lower g m in record { to = l.to; rank = l.rank; leads = l.leads; ranked = grew l.to l.rank l.ranked; below = l.below };
      tight = elim s.tight [ inl e ↦ inl e | inr t ↦ inr (t.0, t.1, t.2, t.3, t.4, grew t.1 t.2 t.5, t.6) ];
    }

module _ (n : Net) (marks : List Mark) (start : ℕ) where
  -- the last exchange of the walk in hand is not the home
  pub end_away : (steps : List (ℕ × ℕ)) → IsMarked n marks → IsInHand n marks start steps → end_of start steps ≢ n.home
  end_away steps m h e =
      let o = h.on (end_of start steps) (end_passed start steps) in
      let r : rank_in marks (end_of start steps) ≡ None = ap (option_and_then rank_of) o in
      let z = ap (rank_in marks) e in let k = m.home in let bad : ⊥ = cc in bad

  pub walk_on : (steps : List (ℕ × ℕ)) (s : ℕ × ℕ) → IsMarked n marks → IsInHand n marks start steps → IsOnward n marks (end_of start steps) s → IsWalk n start (steps ++ s ∷ [])
  walk_on steps s m h on = record { origin = h.walk.origin; goes = goes_push n start steps s h.walk.goes (end_away steps m h) on.listed on.leads }

  -- a step to an open exchange closes a loop
  pub closes : (steps : List (ℕ × ℕ)) (s : ℕ × ℕ) → IsMarked n marks → IsInHand n marks start steps → IsOnward n marks (end_of start steps) s → slice_get marks s.1 ≡ Some Open → IsLoop n start (steps ++ s ∷ [])
  closes steps s m h on open' =
      let P : List ℕ → Type 0 = λ l. Among s.1 l in
      let b = sym (before_push start steps s) in
      record {
        walk = walk_on steps s m h on;
        again = subst (λ (y : ℕ). Among y (before_end start (steps ++ s ∷ []))) (sym (end_push start steps s)) (subst P b (h.only s.1 open'));
        once = subst AllDiffer b h.once;
      }

  -- a step to an exchange that was not seen makes the walk longer
  pub marks_open : (x : ℕ) → IsMarked n marks → slice_get marks x ≡ Some Unseen → IsMarked n (set marks x Open)
  marks_open x m was =
      let grew = grew_set marks x Unseen Open was refl in
      record {
        long = length-set marks x Open ∙ m.long;
        home = grew n.home 0 m.home;
        settled = λ y r ranked away. settled_grows n marks (set marks x Open) y r grew (m.settled y r (back y r ranked) away);
        ranked = λ y r ranked away. m.ranked y r (back y r ranked) away;
        small = λ y r ranked. let a = m.small y r (back y r ranked) in let c = cost_set marks x Unseen Open was in omega arith;
      }
    where
      back : (y r : ℕ) → rank_in (set marks x Open) y ≡ Some r → rank_in marks y ≡ Some r
      back y r ranked =
          elim (eqb x y) as (λ t. eqb x y ≡ t → rank_in marks y ≡ Some r) [
            | true ↦ λ e. let same = eqb-true x y e in let z = ap (rank_in (set marks x Open)) same in let w = rank_set marks x Unseen Open was in let bad : ⊥ = cc in absurd bad
            | false ↦ λ e. sym (rank_other marks x Unseen Open was y (eqb-false x y e)) ∙ ranked
          ] refl

  pub hand_on : (steps : List (ℕ × ℕ)) (s : ℕ × ℕ) → IsMarked n marks → IsInHand n marks start steps → IsOnward n marks (end_of start steps) s → slice_get marks s.1 ≡ Some Unseen → IsInHand n (set marks s.1 Open) start (steps ++ s ∷ [])
  hand_on steps s m h on was =
      let e = sym (passed_push start steps s) in
      record {
        walk = walk_on steps s m h on;
        once = subst AllDiffer e (once_push (passed start steps) s.1 h.once apart);
        on = λ y mem. elim (among_cases y (passed start steps) (s.1 ∷ []) (subst (λ (l : List ℕ). Among y l) (sym e) mem)) [
          | inl l ↦ set_other marks s.1 y Open (λ (q : s.1 ≡ y). apart (subst (λ (k : ℕ). Among k (passed start steps)) (sym q) l)) ∙ h.on y l
          | inr r ↦ elim r [ inl q ↦ ap (slice_get (set marks s.1 Open)) (sym q) ∙ set_same marks s.1 Unseen Open was | inr b ↦ absurd b ]
        ];
        only = λ y open'. subst (λ (l : List ℕ). Among y l) e (
            elim (eqb s.1 y) as (λ t. eqb s.1 y ≡ t → Among y (passed start steps ++ s.1 ∷ [])) [
              | true ↦ λ q. among_right y (passed start steps) (s.1 ∷ []) (inl (eqb-true s.1 y q))
              | false ↦ λ q. among_left y (passed start steps) (s.1 ∷ []) (h.only y (sym (set_other marks s.1 y Open (eqb-false s.1 y q)) ∙ open'))
            ] refl
            );
      }
    where
      apart : Among s.1 (passed start steps) → ⊥
      apart mem = let o = h.on s.1 mem in let bad : ⊥ = cc in bad

  -- the first exchange of a walk
  pub hand_first : NoneOpen marks → n.is_origin start ≡ true → slice_get marks start ≡ Some Unseen → IsInHand n (set marks start Open) start []
  hand_first none origin was =
      record {
        walk = record { origin = origin; goes = tt };
        once = (tt, tt);
        on = λ y mem. elim mem [ inl q ↦ ap (slice_get (set marks start Open)) (sym q) ∙ set_same marks start Unseen Open was | inr b ↦ absurd b ];
        only = λ y open'. elim (eqb start y) as (λ t. eqb start y ≡ t → Among y (start ∷ [])) [
          | true ↦ λ q. inl (eqb-true start y q)
          | false ↦ λ q. absurd (none y (sym (set_other marks start y Open (eqb-false start y q)) ∙ open'))
        ] refl;
      }

  -- the last exchange of the walk in hand is ranked
  pub marks_settle : (steps : List (ℕ × ℕ)) (top : ℕ) → IsMarked n marks → IsInHand n marks start steps → IsTop n marks (end_of start steps) (n.list (end_of start steps)) top → IsMarked n (set marks (end_of start steps) (Ranked (suc top)))
  marks_settle steps top m h t =
      let x = end_of start steps in
      let was = h.on x (end_passed start steps) in
      let new = set marks x (Ranked (suc top)) in
      let grew : Grew marks new = grew_set marks x Open (Ranked (suc top)) was refl in
      let c : cost new + 1 ≡ cost marks + 0 = cost_set marks x Open (Ranked (suc top)) was in
      let low : top + cost marks ≤ 2 * n.exchanges =
      elim t.tight [
        | inl z ↦ let a = m.small n.home 0 m.home in omega arith
        | inr q ↦ m.small q.1 top q.4
      ]
      in
      record {
        long = length-set marks x (Ranked (suc top)) ∙ m.long;
        home = grew n.home 0 m.home;
        settled = λ y r ranked away. elim (cases y r ranked) [
          | inl same ↦ let P : ℕ → Type 0 = λ k. IsSettled n (rank_in new) k r in subst P same.0 (let Q : ℕ → Type 0 = λ k. IsSettled n (rank_in new) x k in subst Q same.1 (fresh grew))
          | inr old ↦ settled_grows n marks new y r grew (m.settled y r old away)
        ];
        ranked = λ y r ranked away. elim (cases y r ranked) [
          | inl same ↦ record { start = start; steps = steps; walk = h.walk; ends = same.0 }
          | inr old ↦ m.ranked y r old away
        ];
        small = λ y r ranked. elim (cases y r ranked) [
          | inl same ↦ let e = same.1 in omega arith
          | inr old ↦ let a = m.small y r old in omega arith
        ];
      }
    where
      cases : (y r : ℕ) → rank_in (set marks (end_of start steps) (Ranked (suc top))) y ≡ Some r → ((end_of start steps ≡ y) × (suc top ≡ r)) ⊎ (rank_in marks y ≡ Some r)
      cases y r ranked =
          let x = end_of start steps in
          let was = h.on x (end_passed start steps) in
          elim (eqb x y) as (λ b. eqb x y ≡ b → ((x ≡ y) × (suc top ≡ r)) ⊎ (rank_in marks y ≡ Some r)) [
            | true ↦ λ e. let same = eqb-true x y e in let z = ap (rank_in (set marks x (Ranked (suc top)))) same in let w = rank_set marks x Open (Ranked (suc top)) was in inl (same, cc)
            | false ↦ λ e. inr (sym (rank_other marks x Open (Ranked (suc top)) was y (eqb-false x y e)) ∙ ranked)
          ] refl

      fresh : Grew marks (set marks (end_of start steps) (Ranked (suc top))) → IsSettled n (rank_in (set marks (end_of start steps) (Ranked (suc top)))) (end_of start steps) (suc top)
      fresh grew =
          record {
            positive = omega arith;
            lower = λ g mem. let l = t.lower g mem in record { to = l.to; rank = l.rank; leads = l.leads; ranked = grew l.to l.rank l.ranked; below = l.below };
            tight = elim t.tight [ inl z ↦ inl (ap suc z) | inr q ↦ inr (q.0, q.1, top, q.2, q.3, grew q.1 top q.4, refl) ];
          }

  pub hand_back : (steps : List (ℕ × ℕ)) (s : ℕ × ℕ) (top : ℕ) → IsInHand n marks start (steps ++ s ∷ []) → IsInHand n (set marks s.1 (Ranked (suc top))) start steps
  hand_back steps s top h =
      let parts = once_pop (passed start steps) s.1 (subst AllDiffer (passed_push start steps s) h.once) in
      record {
        walk = record { origin = h.walk.origin; goes = goes_pop n start steps s h.walk.goes };
        once = parts.0;
        on = λ y mem. set_other marks s.1 y (Ranked (suc top)) (λ (q : s.1 ≡ y). parts.1 (subst (λ (k : ℕ). Among k (passed start steps)) (sym q) mem)) ∙ h.on y (subst (λ (l : List ℕ). Among y l) (sym (passed_push start steps s)) (among_left y (passed start steps) (s.1 ∷ []) mem));
        only = λ y open'. elim (eqb s.1 y) as (λ b. eqb s.1 y ≡ b → Among y (passed start steps)) [
          | true ↦ λ e. let same = eqb-true s.1 y e in let z = ap (slice_get (set marks s.1 (Ranked (suc top)))) same in let w = set_same marks s.1 Open (Ranked (suc top)) was in let bad : ⊥ = cc in absurd bad
          | false ↦ λ e. elim (among_cases y (passed start steps) (s.1 ∷ []) (subst (λ (l : List ℕ). Among y l) (passed_push start steps s) (h.only y (sym (set_other marks s.1 y (Ranked (suc top)) (eqb-false s.1 y e)) ∙ open')))) [
            | inl l ↦ l
            | inr r ↦ elim r [ inl q ↦ absurd (eqb-false s.1 y e q) | inr b ↦ absurd b ]
          ]
        ] refl;
      }
    where
      was : slice_get marks s.1 ≡ Some Open
      was = h.on s.1 (subst (λ (l : List ℕ). Among s.1 l) (sym (passed_push start steps s)) (among_right s.1 (passed start steps) (s.1 ∷ []) (inl refl)))

  -- the first exchange is ranked, and nothing is open
  pub hand_done : (top : ℕ) → IsInHand n marks start [] → NoneOpen (set marks start (Ranked (suc top)))
  hand_done top h y open' =
      elim (eqb start y) as (λ b. eqb start y ≡ b → ⊥) [
        | true ↦ λ e. let same = eqb-true start y e in let z = ap (slice_get (set marks start (Ranked (suc top)))) same in let w = set_same marks start Open (Ranked (suc top)) (h.on start (inl refl)) in let bad : ⊥ = cc in bad
        | false ↦ λ e. elim (h.only y (sym (set_other marks start y (Ranked (suc top)) (eqb-false start y e)) ∙ open')) [ inl q ↦ eqb-false start y e q | inr b ↦ b ]
      ] refl

pub end_within : (n : Net) (marks : List Mark) (start : ℕ) (steps : List (ℕ × ℕ)) → IsMarked n marks → IsInHand n marks start steps → end_of start steps < n.exchanges
end_within n marks start steps m h = let w = slice_get_within marks (end_of start steps) Open (h.on (end_of start steps) (end_passed start steps)) in let l = m.long in omega arith

pub went_on : (n : Net) (marks : List Mark) (start : ℕ) (steps : List (ℕ × ℕ)) (g y : ℕ) → IsMarked n marks → IsInHand n marks start steps → IsOnward n marks (end_of start steps) (g, y) → slice_get marks y ≡ Some Unseen → IsStep n start marks (set marks y Open) (steps ++ (g, y) ∷ [])
went_on n marks start steps g y m h on was =
    record {
      marked = marks_open n marks start y m was;
      hand = hand_on n marks start steps (g, y) m h on was;
      nearer = let c = cost_set marks y Unseen Open was in omega arith;
      grew = grew_set marks y Unseen Open was refl;
    }

module _ (n : Net) (marks : List Mark) (start : ℕ) (steps : List (ℕ × ℕ)) (x top : ℕ) (m : IsMarked n marks) (h : IsInHand n marks start steps) (at_end : x ≡ end_of start steps) (t : IsTop n marks x (n.list x) top) where
  here : IsTop n marks (end_of start steps) (n.list (end_of start steps)) top
  here = subst (λ (k : ℕ). IsTop n marks k (n.list k) top) at_end t

  was : slice_get marks (end_of start steps) ≡ Some Open
  was = h.on (end_of start steps) (end_passed start steps)

  marked_at : IsMarked n (set marks x (Ranked (suc top)))
  marked_at = subst (λ (k : ℕ). IsMarked n (set marks k (Ranked (suc top)))) (sym at_end) (marks_settle n marks start steps top m h here)

  was_at : slice_get marks x ≡ Some Open
  was_at = ap (slice_get marks) at_end ∙ was

  pub settled_back : (front : List (ℕ × ℕ)) (s : ℕ × ℕ) → steps ≡ front ++ s ∷ [] → IsStep n start marks (set marks x (Ranked (suc top))) front
  settled_back front s e =
      record {
        marked = marked_at;
        hand = subst (λ (k : ℕ). IsInHand n (set marks k (Ranked (suc top))) start front) (sym (at_end ∙ ap (end_of start) e ∙ end_push start front s)) (hand_back n marks start front s top (subst (λ (l : List (ℕ × ℕ)). IsInHand n marks start l) e h));
        nearer = let c = cost_set marks x Open (Ranked (suc top)) was_at in omega arith;
        grew = grew_set marks x Open (Ranked (suc top)) was_at refl;
      }

  pub settled_done : steps ≡ [] → IsEnd n start marks (set marks x (Ranked (suc top)))
  settled_done e =
      let first : x ≡ start = at_end ∙ ap (end_of start) e in
      record {
        marked = marked_at;
        none = subst (λ (k : ℕ). NoneOpen (set marks k (Ranked (suc top)))) (sym first) (hand_done n marks start top (subst (λ (l : List (ℕ × ℕ)). IsInHand n marks start l) e h));
        rank = suc top;
        ranked = subst (λ (k : ℕ). rank_in (set marks x (Ranked (suc top))) k ≡ Some (suc top)) first (rank_set marks x Open (Ranked (suc top)) was_at);
        grew = grew_set marks x Open (Ranked (suc top)) was_at refl;
      }
