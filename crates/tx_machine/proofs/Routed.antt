-- What becomes of a call that is routed, by what is found of it.
use Rattle.tx_machine.proofs.Common.{◌≡◌, ℕ, suc, ◌+◌, ◌<◌, ◌≤◌, ◌==◌, Bool, true, false, not, ◌&&◌, ◌⊎◌, inl, inr, List, [], ◌∷◌, length, drop, get_or, Option, Some, None, is_some, refl, sym, ap, subst, ◌∙◌, eqb-true, arith, nat_tests, if◌then◌else◌, Plan, home_of, figures_of, code_of, is_line, is_barred, Circuit, Line, Service, Occ, Np, Der, Abs, Na, Hop, Reply, Call, exchange_of, is_first, State, first_in, choice, line_answer, is_engaged, routed, routed_for, at_line, at_trunk, line_of, answered, IsKeyedLine}
use Rattle.std.proofs.lemmas.List.{at_drop_more, at_drop_all}
use Rattle.std.specs.FinSet as set
use Rattle.tx_machine.specs.declared.reply.Reply.TheVariants.{Seized, Connected as ConnectedTo}
use Rattle.tx_machine.proofs.Steps.{free_line, prefix-is, code_begins}

-- A CALL WITHOUT HOPS
some : (n : ℕ) → false ≡ (suc n == 0)
some n = grind (arith, nat_tests)

pub first_is_empty : (hops : List Hop) (len : ℕ) → len ≡ length hops → is_first hops ≡ (len == 0)
first_is_empty hops len e = by hops ∙ ap (λ n. n == 0) (sym e)
  where
    by : (hops : List Hop) → is_first hops ≡ (length hops == 0)
    by [] = refl
    by (h ∷ hops) = some (length hops)

-- WHERE A CALL IS
module _ (p : Plan) (s : State) (c : Call) (code : ℕ) (begins : code_of p c.keyed ≡ Some code) where
  abbrev at_home : Reply × State
  at_home = at_line p s c (line_of p code c.keyed) (line_answer p s (line_of p code c.keyed))

  abbrev on_the_way : Reply × State
  on_the_way = at_trunk p s c (choice p s (exchange_of p c) code)

  -- it is not barred where it stands, or has gone over a circuit
  abbrev pub IsLet : Type 0
  IsLet = (is_first c.hops ≡ false) ⊎ (is_barred p (exchange_of p c) code ≡ false)

  is_let : IsLet → (is_first c.hops && is_barred p (exchange_of p c) code) ≡ false
  is_let h = elim h [ inl f ↦ ap (λ x. x && is_barred p (exchange_of p c) code) f | inr z ↦ ap (λ x. is_first c.hops && x) z ∙ neither (is_first c.hops) ]
    where
      neither : (x : Bool) → (x && false) ≡ false
      neither true = refl
      neither false = refl

  pub routed_barred : is_first c.hops ≡ true → is_barred p (exchange_of p c) code ≡ true → routed p s c ≡ answered p c.number Na s
  routed_barred f z = ap (routed_for p s c) begins ∙ (λ i. if f i && z i then answered p c.number Na s else if home_of p code == exchange_of p c then at_home else on_the_way)

  pub routed_home : IsLet → (home_of p code == exchange_of p c) ≡ true → routed p s c ≡ at_home
  routed_home l h = ap (routed_for p s c) begins ∙ (λ i. if is_let l i then answered p c.number Na s else if h i then at_home else on_the_way)

  pub routed_trunk : IsLet → (home_of p code == exchange_of p c) ≡ false → routed p s c ≡ on_the_way
  routed_trunk l h = ap (routed_for p s c) begins ∙ (λ i. if is_let l i then answered p c.number Na s else if h i then at_home else on_the_way)

-- THE FIRST CIRCUIT IN A LIST OF GROUPS, AS IT IS LOOKED THROUGH
module _ (look : ℕ → Option Circuit) (gs : List ℕ) (i : ℕ) where
  here : (g : ℕ) (b : Bool) → i < length gs → g ≡ get_or gs i g → is_some (look g) ≡ b → first_in look (drop i gs) ≡ (if b then look g else first_in look (drop (i + 1) gs))
  here g b low at e =
      at_drop_more (first_in look) gs i g low
      ∙ ap (λ h. first_in look (h ∷ drop (i + 1) gs)) (sym at)
      ∙ ap (λ c. if c then look g else first_in look (drop (i + 1) gs)) e

  -- the group at an index has a circuit
  pub first_here : (g : ℕ) → i < length gs → g ≡ get_or gs i g → is_some (look g) ≡ true → first_in look (drop i gs) ≡ look g
  first_here g low at e = here g true low at e

  -- it has none
  pub first_past : (g : ℕ) → i < length gs → g ≡ get_or gs i g → is_some (look g) ≡ false → first_in look (drop i gs) ≡ first_in look (drop (i + 1) gs)
  first_past g low at e = here g false low at e

  -- no group is left
  pub first_none : length gs ≤ i → first_in look (drop i gs) ≡ None
  first_none all = at_drop_all (first_in look) gs i all

-- WHAT THE STEP TELLS OF THE CALL
module _ (p : Plan) (s : State) (c : Call) where
  -- a call that is connected has keyed the line, which is free
  pub connects : (l : Line) → (routed p s c).0 ≡ ConnectedTo l → IsKeyedLine p c l × (is_engaged s l ≡ false)
  connects l e = at (code_of p c.keyed) refl e
    where
      line : (code : ℕ) → code_of p c.keyed ≡ Some code → (home_of p code == exchange_of p c) ≡ true → (o : Option Service) → line_answer p s (line_of p code c.keyed) ≡ o
          → (at_line p s c (line_of p code c.keyed) o).0 ≡ ConnectedTo l → IsKeyedLine p c l × (is_engaged s l ≡ false)
      line code q here None a e =
          let same : line_of p code c.keyed ≡ l = cc in
          let f = free_line p s (line_of p code c.keyed) a in
          subst (λ (m : Line). IsKeyedLine p c m × (is_engaged s m ≡ false)) same (record { known = f.0; at_home = sym (eqb-true _ _ here); keyed = prefix-is (figures_of p code) c.keyed (code_begins p c.keyed code q) }, f.1)
      line code q here (Some service) a e = let bad : ⊥ = cc in absurd bad

      trunk : (o : Option Circuit) → (at_trunk p s c o).0 ≡ ConnectedTo l → ⊥
      trunk None e = cc
      trunk (Some x) e = cc

      test : (code : ℕ) → code_of p c.keyed ≡ Some code → (z h : Bool) → (home_of p code == exchange_of p c) ≡ h
          → (if z then answered p c.number Na s else if h then at_line p s c (line_of p code c.keyed) (line_answer p s (line_of p code c.keyed)) else at_trunk p s c (choice p s (exchange_of p c) code)).0 ≡ ConnectedTo l
          → IsKeyedLine p c l × (is_engaged s l ≡ false)
      test code q true h here e = let bad : ⊥ = cc in absurd bad
      test code q false true here e = line code q here (line_answer p s (line_of p code c.keyed)) refl e
      test code q false false here e = absurd (trunk (choice p s (exchange_of p c) code) e)

      at : (o : Option ℕ) → code_of p c.keyed ≡ o → (routed_for p s c o).0 ≡ ConnectedTo l → IsKeyedLine p c l × (is_engaged s l ≡ false)
      at None q e = let bad : ⊥ = cc in absurd bad
      at (Some code) q e = test code q (is_first c.hops && is_barred p (exchange_of p c) code) (home_of p code == exchange_of p c) refl e

  -- a circuit that is seized was chosen
  pub seizes : (x : Circuit) → (routed p s c).0 ≡ Seized x → (code : ℕ) × (choice p s (exchange_of p c) code ≡ Some x)
  seizes x e = at (code_of p c.keyed) e
    where
      line : (l : Line) (o : Option Service) → (at_line p s c l o).0 ≡ Seized x → ⊥
      line l None e = cc
      line l (Some service) e = cc

      trunk : (o : Option Circuit) → (at_trunk p s c o).0 ≡ Seized x → o ≡ Some x
      trunk None e = let bad : ⊥ = cc in absurd bad
      trunk (Some y) e = let same : y ≡ x = cc in ap Some same

      test : (code : ℕ) (z h : Bool) → (if z then answered p c.number Na s else if h then at_line p s c (line_of p code c.keyed) (line_answer p s (line_of p code c.keyed)) else at_trunk p s c (choice p s (exchange_of p c) code)).0 ≡ Seized x
          → (code : ℕ) × (choice p s (exchange_of p c) code ≡ Some x)
      test code true h e = let bad : ⊥ = cc in absurd bad
      test code false true e = absurd (line (line_of p code c.keyed) (line_answer p s (line_of p code c.keyed)) e)
      test code false false e = (code, trunk (choice p s (exchange_of p c) code) e)

      at : (o : Option ℕ) → (routed_for p s c o).0 ≡ Seized x → (code : ℕ) × (choice p s (exchange_of p c) code ≡ Some x)
      at None e = let bad : ⊥ = cc in absurd bad
      at (Some code) e = test code (is_first c.hops && is_barred p (exchange_of p c) code) (home_of p code == exchange_of p c) e
