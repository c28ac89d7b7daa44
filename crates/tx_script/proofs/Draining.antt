-- Tickets that are taken out of a network one after another, and written.
use Rattle.tx_script.proofs.Common.{◌≡◌, ℕ, ◌+◌, ◌<◌, List, [], ◌∷◌, ◌++◌, length, drop, Option, Some, None, refl, sym, ap, ◌∙◌, append_assoc, append-nil, subst, arith, length-append, slice_get, flat_map, append_known, StopsIn, append_known-nil, append_known_twice, Plan, Ended, drained, first_of, none_in, ticket_text, StopsAtTicket}
use Rattle.std.proofs.lemmas.List.Concat.{flat_map-append}
use Rattle.tx_machine.specs.State.{State, ticket_taken}

-- some of a network's tickets were taken and written, so many, and some are left
pub record IsDraining (p : Plan) (s t : State) (a b : Option (List ℕ)) (n : ℕ) : Type 0 where
  pub done : List Ended
  pub left : List Ended
  pub whole : s.tickets ≡ done ++ left
  pub count : n ≡ length done
  pub state : t ≡ drained s left
  pub wrote : b ≡ append_known a (flat_map (ticket_text p) done)

module _ (p : Plan) (s : State) (a : Option (List ℕ)) where
  abbrev f : Ended → List ℕ
  f = ticket_text p

  pub drain_start : IsDraining p s s a a 0
  drain_start = record { done = []; left = s.tickets; whole = refl; count = refl; state = refl; wrote = append_known-nil a }

  module _ (t : State) (b : Option (List ℕ)) (n : ℕ) (d : IsDraining p s t a b n) where
    left_is : t.tickets ≡ d.left
    left_is = ap (λ (u : State). u.tickets) d.state

    -- no ticket is left
    pub drain_end : (u : State) → slice_get t.tickets 0 ≡ None → u ≡ ticket_taken t → (u ≡ drained s []) × (n ≡ length s.tickets) × (b ≡ append_known a (flat_map f s.tickets))
    drain_end u h e =
        let none : d.left ≡ [] = sym left_is ∙ none_in t.tickets h in
        let all : s.tickets ≡ d.done = d.whole ∙ ap (λ l. d.done ++ l) none ∙ append-nil d.done in (
          e ∙ ap (λ (v : State). record v { tickets = drop 1 v.tickets }) d.state ∙ ap (λ (l : List Ended). drained s (drop 1 l)) none,
          d.count ∙ ap length (sym all),
          d.wrote ∙ ap (λ l. append_known a (flat_map f l)) (sym all),
        )

    module _ (x : Ended) (h : slice_get t.tickets 0 ≡ Some x) where
      rest : List Ended
      rest = drop 1 d.left

      split : d.left ≡ x ∷ rest
      unfolding rest
      split = first_of d.left x (ap (λ l. slice_get l 0) (sym left_is) ∙ h)

      parts : s.tickets ≡ d.done ++ x ∷ rest
      parts = d.whole ∙ ap (λ l. d.done ++ l) split

      now : (u : State) → u ≡ ticket_taken t → u ≡ drained s rest
      unfolding rest
      now u e = e ∙ ap (λ (v : State). record v { tickets = drop 1 v.tickets }) d.state

      -- one ticket more was written
      pub drain_more : (u : State) (c : Option (List ℕ)) → u ≡ ticket_taken t → c ≡ append_known b (f x) → IsDraining p s u a c (n + 1)
      drain_more u c e w = record {
        done = d.done ++ x ∷ [];
        left = rest;
        whole = parts ∙ sym (append_assoc d.done (x ∷ []) rest);
        count = (let l = length-append d.done (x ∷ []) in let k = d.count in omega arith);
        state = now u e;
        wrote = w ∙ ap (λ l. append_known l (f x)) d.wrote ∙ append_known_twice a (flat_map f d.done) (f x) ∙ ap (append_known a) (ap (λ l. flat_map f d.done ++ l) (sym (append-nil (f x))) ∙ sym (flat_map-append f d.done (x ∷ [])));
      }

      -- there is room to count it
      pub drain_within : n < length s.tickets
      drain_within = let l = length-append d.done (x ∷ rest) in let k = d.count in let w = ap length parts in omega arith

      -- a write failed in it
      pub drain_stop : (u : State) (c : Option (List ℕ)) → u ≡ ticket_taken t → StopsIn b c (f x) → StopsAtTicket p s.tickets s u a c
      drain_stop u c e stop = record { written = d.done; hand = x; left = rest; whole = parts; front = subst (λ z. StopsIn z c (f x)) d.wrote stop; network = now u e }

      pub drain_smaller : (u : State) → u ≡ ticket_taken t → length u.tickets < length t.tickets
      drain_smaller u e = let i = ap (λ (v : State). length v.tickets) (now u e) in let l = ap length (left_is ∙ split) in omega arith
