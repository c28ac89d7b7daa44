-- What a walk says of the exchanges that its call passes.
use Rattle.tx_audit.proofs.Common.{◌≡◌, ◌≢◌, ℕ, ◌==◌, Bool, true, false, List, [], ◌∷◌, inl, inr, map, Some, refl, sym, ap, ◌∙◌, subst, eqb-true, eq-eqb, filter, Plan, home_of, other_end, Among, NoneTwice, two_ends, is_transit, is_single, turns_on_one}
use Rattle.std.proofs.lemmas.Bool.{ne_eqb, eqb-false, or_from, and_left, not_from_false}
use Rattle.tx_rank.specs.Walks.{AllDiffer, Goes, net_of, end_of, before_end, passed}
use Rattle.tx_rank.proofs.Ways.{once_first, end_passed}
use Rattle.tx_machine.proofs.Lists.{none_any}

pub passed_is : (x : ℕ) (steps : List (ℕ × ℕ)) → passed x steps ≡ x ∷ map (λ s. s.1) steps
passed_is x [] = refl
passed_is x (s ∷ steps) = ap (λ l. x ∷ l) (passed_is s.1 steps)

-- where the last exchange came before, one is passed twice
pub twice : (x : ℕ) (steps : List (ℕ × ℕ)) → Among (end_of x steps) (before_end x steps) → NoneTwice (λ y z. y == z) (passed x steps) → ⊥
twice x [] m n = m
twice x (s ∷ steps) (inl e) n =
    let new = none_any (λ y. x == y) (passed s.1 steps) (end_of s.1 steps) n.0 (end_passed s.1 steps) in
    eqb-false x (end_of s.1 steps) new e
twice x (s ∷ steps) (inr m) n = twice s.1 steps m n.1

-- where nothing repeats, no walk turns back
module _ (p : Plan) (c : ℕ) where
  pub no_turn : (x : ℕ) (steps : List (ℕ × ℕ)) → Goes (net_of p c) x steps → AllDiffer (passed x steps) → turns_on_one p steps ≡ false
  no_turn x [] goes once = refl
  no_turn x (s ∷ []) goes once = refl
  no_turn x (s ∷ t ∷ []) goes once = at (s.0 == t.0) refl
    where
      at : (b : Bool) → (s.0 == t.0) ≡ b → is_single p s.0 t.0 ≡ false
      at false e = and_left (s.0 == t.0) _ e
      at true e =
          let same = eqb-true s.0 t.0 e in
          let on : other_end p s.0 s.1 ≡ Some t.1 = ap (λ g. other_end p g s.1) same ∙ goes.3.2 in
          let back = two_ends p s.0 s.1 x t.1 s.1 on goes.2 (λ q. once.0.0 (sym q)) in
          absurd (once.0.1.0 back)
  no_turn x (s ∷ t ∷ u ∷ steps) goes once = no_turn s.1 (t ∷ u ∷ steps) goes.3 once.1

  -- a walk that does not end at home is away from it all the way
  all_away : (x : ℕ) (steps : List (ℕ × ℕ)) → Goes (net_of p c) x steps → end_of x steps ≢ home_of p c → (u : ℕ) → Among u (passed x steps) → u ≢ home_of p c
  all_away x [] goes away u (inl e) = λ q. away (e ∙ q)
  all_away x [] goes away u (inr m) = absurd m
  all_away x (s ∷ steps) goes away u (inl e) = λ q. goes.0 (e ∙ q)
  all_away x (s ∷ steps) goes away u (inr m) = all_away s.1 steps goes.3 away u m

all_pass : (t : ℕ → Bool) (xs : List ℕ) → ((u : ℕ) → Among u xs → t u ≡ true) → filter t xs ≡ xs
all_pass t [] h = refl
all_pass t (x ∷ xs) h = let e = h x (inl refl) in rw e (ap (λ l. x ∷ l) (all_pass t xs (λ u m. h u (inr m))))

-- where nothing repeats and the walk does not end at home, all exchanges after the first are transits
pub transits_are : (p : Plan) (c x : ℕ) (steps : List (ℕ × ℕ)) → Goes (net_of p c) x steps → AllDiffer (passed x steps) → end_of x steps ≢ home_of p c
    → filter (is_transit p x (Some c)) (x ∷ map (λ s. s.1) steps) ≡ map (λ s. s.1) steps
transits_are p c x steps goes once away =
    let e = eq-eqb x x refl in
    rw e (all_pass (is_transit p x (Some c)) (map (λ s. s.1) steps) each)
  where
    each : (u : ℕ) → Among u (map (λ s. s.1) steps) → is_transit p x (Some c) u ≡ true
    each u m =
        let in' : Among u (passed x steps) = subst (Among u) (sym (passed_is x steps)) (inr m) in
        let d : AllDiffer (x ∷ map (λ s. s.1) steps) = subst AllDiffer (passed_is x steps) once in
        let new : u ≡ x → ⊥ = λ q. once_first x (map (λ s. s.1) steps) d (subst (λ k. Among k (map (λ s. s.1) steps)) q m) in
        let far : home_of p c ≡ u → ⊥ = λ q. all_away p c x steps goes away u in' (sym q) in
        not_from_false _ (or_from (u == x) (home_of p c == u) (ne_eqb u x new) (ne_eqb (home_of p c) u far))
