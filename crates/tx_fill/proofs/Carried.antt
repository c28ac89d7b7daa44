-- Calls that are carried, one step after another.
use Rattle.tx_fill.proofs.Common.{◌≡◌, ℕ, zero, suc, ◌+◌, ◌-◌, ◌<◌, ◌≤◌, ◌==◌, Bool, true, false, List, [], ◌∷◌, length, drop, Some, None, refl, sym, ap, ◌∙◌, arith, slice_get, if◌then◌else◌, slice_get_within, get_or_from_slice_get, drop_more, Plan, full_number, Line, Event, Key, Route, Confirm, Reply, Ended, State, ticket_taken, step}
use Rattle.std.proofs.lemmas.Bool.{ne_eqb}
use Rattle.std.proofs.Math.Seq.{drop-nil}
use Rattle.tx_machine.specs.declared.reply.Reply.TheVariants.{Keyed, Seized, At, Connected, Answered, HeadOn, Cleared, Done, Lost, Refused}
use Rattle.tx_machine.proofs.Lists.{first_of, none_in}
use Rattle.tx_fill.specs.Fills.{is_seized, carried, most_circuits, goes_on as after_key, called, filled}

-- ONE CALL, BY THE REPLIES TO ITS EVENTS
at_plan : (p q : Plan) (s : State) (e : Event) (r : Reply × State) → q ≡ p → step q s e ≡ r
    → step p s e ≡ r
at_plan p q s e r same stepped = ap (λ k. step k s e) (sym same) ∙ stepped

module _ (p : Plan) (n k : ℕ) (s t : State) (r : Reply) (routed : step p s (Route n) ≡ (r, t)) where
  abbrev by_reply : Reply × State → State
  by_reply q = if is_seized q.0 then carried p n k (step p q.1 (Confirm n)).1 else q.1

  abbrev by_seizing : Bool → State
  by_seizing b = if b then carried p n k (step p t (Confirm n)).1 else t

  no_more : is_seized r ≡ false → carried p n (suc k) s ≡ t
  unfolding carried
  no_more none = ap by_reply routed ∙ ap by_seizing none

  goes_on : (u : State) (v : Reply) → is_seized r ≡ true → step p t (Confirm n) ≡ (v, u)
      → carried p n (suc k) s ≡ carried p n k u
  unfolding carried
  goes_on u v some confirmed =
      ap by_reply routed ∙ ap by_seizing some ∙ ap (λ (w : Reply × State). carried p n k w.1) confirmed

-- by the rounds of a loop
module _ (p : Plan) (n most i : ℕ) (s z : State) (so_far : carried p n (most - i) s ≡ z) where
  pub carried_out : most ≤ i → s ≡ z
  unfolding carried
  carried_out all =
      let none : most - i ≡ 0 = omega arith in
      sym (ap (λ k. carried p n k s) none) ∙ so_far

  module _ (q : Plan) (t : State) (r : Reply) (low : i < most) (plan : q ≡ p)
      (routed : step q s (Route n) ≡ (r, t)) where
    one_round : carried p n (suc (most - (i + 1))) s ≡ z
    one_round =
        let round : suc (most - (i + 1)) ≡ most - i = omega arith in
        ap (λ k. carried p n k s) round ∙ so_far

    pub carried_stop : is_seized r ≡ false → t ≡ z
    carried_stop none =
        sym (no_more p n (most - (i + 1)) s t r (at_plan p q s (Route n) (r, t) plan routed) none)
        ∙ one_round

    pub carried_more : (w : Plan) (u : State) (v : Reply) → is_seized r ≡ true → w ≡ p
        → step w t (Confirm n) ≡ (v, u) → carried p n (most - (i + 1)) u ≡ z
    carried_more w u v some same confirmed =
        sym (goes_on p n (most - (i + 1)) s t r (at_plan p q s (Route n) (r, t) plan routed) u v some
        (at_plan p w t (Confirm n) (v, u) same confirmed)) ∙ one_round

-- a call that was keyed, and one that was not
module _ (p q : Plan) (k : Line × Line) (s t : State) (r : Reply) (figures : List ℕ)
    (plan : q ≡ p) (full : figures ≡ full_number p k.1) (keyed : step q s (Key k.0 figures) ≡ (r, t))
  where
    after_is : called p k s ≡ after_key p r t
    after_is =
        ap (λ (w : Reply × State). after_key p w.0 w.1)
        (ap (λ l. step p s (Key k.0 l)) (sym full) ∙ at_plan p q s (Key k.0 figures) (r, t) plan keyed)

    pub call_keyed : (u : State) (n : ℕ) → r ≡ Keyed n → u ≡ carried p n (most_circuits p) t
        → u ≡ called p k s
    call_keyed u n is carried_is =
        carried_is ∙ ap (λ v. after_key p v t) (sym is) ∙ sym after_is

    pub call_refused : after_key p r t ≡ t → t ≡ called p k s
    call_refused stays = sym stays ∙ sym after_is

-- what is no number of a call
pub not_keyed : (p : Plan) (t : State) (r : Reply) → ((n : ℕ) → r ≡ Keyed n → ⊥)
    → after_key p r t ≡ t
not_keyed p t r h = grind arith

-- ONE CALL AFTER ANOTHER
none_dropped : (xs : List (Line × Line)) (j : ℕ) → slice_get xs j ≡ None → drop j xs ≡ []
none_dropped [] j h = drop-nil j
none_dropped (x ∷ xs) zero h = absurd (let bad : ⊥ = cc in bad)
none_dropped (x ∷ xs) (suc j) h = none_dropped xs j h

-- nothing is taken where no ticket is
none_taken : (s : State) → s.tickets ≡ [] → ticket_taken s ≡ s
none_taken s none = ap (λ (l : List Ended). record s { tickets = l }) (ap (drop 1) none ∙ sym none)

module _ (p : Plan) (pairs : List (Line × Line)) (i : ℕ) where
  left_at : (k : Line × Line) → slice_get pairs i ≡ Some k → drop i pairs ≡ k ∷ drop (i + 1) pairs
  left_at k at =
      drop_more pairs i k (slice_get_within pairs i k at)
      ∙ ap (λ x. x ∷ drop (i + 1) pairs) (get_or_from_slice_get pairs i k k at)

  module _ (k : Line × Line) (at : slice_get pairs i ≡ Some k) (s t z : State)
      (so_far : filled p (drop i pairs) s ≡ z) (called_is : t ≡ called p k s) where
    abbrev by_tickets : List Ended → State
    by_tickets l = if length l == 0 then filled p (drop (i + 1) pairs) t else t

    next_is : z ≡ by_tickets t.tickets
    unfolding filled
    next_is =
        sym so_far ∙ ap (λ l. filled p l s) (left_at k at)
        ∙ ap (λ (u : State). if length u.tickets == 0 then filled p (drop (i + 1) pairs) u else u)
        (sym called_is)

    -- the call has ended
    pub has_ended : (x : Ended) → slice_get t.tickets 0 ≡ Some x → t ≡ z
    has_ended x some =
        let long = ap length (first_of t.tickets x some) in
        let other : (length t.tickets == 0) ≡ false =
        ne_eqb (length t.tickets) 0 (λ none. absurd (omega arith)) in
        sym (next_is ∙ ap (λ b. if b then filled p (drop (i + 1) pairs) t else t) other)

    -- it stands
    pub stands : (u : State) → u ≡ ticket_taken t → slice_get t.tickets 0 ≡ None
        → (u.tickets ≡ []) × (filled p (drop (i + 1) pairs) u ≡ z)
    stands u taken none =
        let fresh = none_in t.tickets none in
        let same : u ≡ t = taken ∙ none_taken t fresh in (
          ap (λ (w : State). w.tickets) same ∙ fresh,
          ap (filled p (drop (i + 1) pairs)) same ∙ sym (next_is ∙ ap by_tickets fresh),
        )

  -- no pair is left
  pub all_called : (s z : State) → filled p (drop i pairs) s ≡ z → s.tickets ≡ []
      → slice_get pairs i ≡ None → (None ≡ slice_get z.tickets 0) × (s ≡ ticket_taken z)
  unfolding filled
  all_called s z so_far fresh none =
      let same : s ≡ z = ap (λ l. filled p l s) (sym (none_dropped pairs i none)) ∙ so_far in (
        ap (λ l. slice_get l 0) (sym fresh) ∙ ap (λ (w : State). slice_get w.tickets 0) same,
        sym (none_taken s fresh) ∙ ap ticket_taken same,
      )
