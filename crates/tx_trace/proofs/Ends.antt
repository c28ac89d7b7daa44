-- Where the groups of a list lead, and marks of exchanges.
use Rattle.tx_trace.proofs.Common.{◌≡◌, ◌≢◌, ℕ, ◌<◌, Bool, true, false, eqb, eqb-true, ◌||◌, List, [], ◌∷◌, ◌++◌, length, cond, inl, inr, Option, Some, None, refl, sym, ap, subst, ◌∙◌, arith, slice_get, eqb-false, eq-eqb, ne_eqb, set, length-set, Plan, home_of, route_list, other_end, Among, is_in, far_ends, AreMarksOf}
use Rattle.std.specs.List.{filter_map, cons_option}
use Rattle.std.proofs.lemmas.List.Folds.{list_any-append}
use Rattle.tx_rank.proofs.Turns.{set_same, set_other}

-- ---- far ends

module _ {A B : Type 0} (h : A → Option B) (y : B) where
  filter_map_among : (xs : List A) → Among y (filter_map h xs) → (x : A) × Among x xs × (h x ≡ Some y)
  filter_map_among [] m = absurd m
  filter_map_among (x ∷ xs) m =
      elim (h x) as (λ o. h x ≡ o → Among y (cons_option o (filter_map h xs)) → (w : A) × Among w (x ∷ xs) × (h w ≡ Some y)) [
        | None ↦ λ e n. let r = filter_map_among xs n in (r.0, inr r.1, r.2)
        | Some z ↦ λ e n. elim n [
          | inl q ↦ (x, inl refl, e ∙ ap (λ k. Some k) q)
          | inr k ↦ (let r = filter_map_among xs k in (r.0, inr r.1, r.2))
        ]
      ] refl m

  among_filter_map : (x : A) (xs : List A) → Among x xs → h x ≡ Some y → Among y (filter_map h xs)
  among_filter_map x [] m e = absurd m
  among_filter_map x (w ∷ xs) (inl q) e = subst (λ o. Among y (cons_option o (filter_map h xs))) (sym (ap h q ∙ e)) (inl refl)
  among_filter_map x (w ∷ xs) (inr m) e =
      let rest = among_filter_map x xs m e in
      elim (h w) as (λ o. Among y (cons_option o (filter_map h xs))) [ None ↦ rest | Some z ↦ inr rest ]

-- a group in the list of y leads to z, and y is not the home
pub record LeadsTo (p : Plan) (c y z : ℕ) : Type 0 where
  pub away : y ≢ home_of p c
  pub group : ℕ
  pub listed : Among group (route_list p y c)
  pub leads : other_end p group y ≡ Some z

module _ (p : Plan) (c : ℕ) where
  pub far_ends-home : (y : ℕ) → y ≡ home_of p c → far_ends p c y ≡ []
  far_ends-home y e = ap (λ b. cond b [] (filter_map (λ g. other_end p g y) (route_list p y c))) (eq-eqb y (home_of p c) e)

  pub far_ends-away : (y : ℕ) → y ≢ home_of p c → far_ends p c y ≡ filter_map (λ g. other_end p g y) (route_list p y c)
  far_ends-away y n = ap (λ b. cond b [] (filter_map (λ g. other_end p g y) (route_list p y c))) (ne_eqb y (home_of p c) n)

  pub leads_to : (y z : ℕ) → Among z (far_ends p c y) → LeadsTo p c y z
  leads_to y z m =
      elim (eqb y (home_of p c)) as (λ b. eqb y (home_of p c) ≡ b → Among z (cond b [] (filter_map (λ g. other_end p g y) (route_list p y c))) → LeadsTo p c y z) [
        | true ↦ λ e n. absurd n
        | false ↦ λ e n. let r = filter_map_among (λ g. other_end p g y) z (route_list p y c) n in record { away = eqb-false y (home_of p c) e; group = r.0; listed = r.1; leads = r.2 }
      ] refl m

  pub among_ends : (y z : ℕ) → LeadsTo p c y z → Among z (far_ends p c y)
  among_ends y z l = subst (Among z) (sym (far_ends-away y l.away)) (among_filter_map (λ g. other_end p g y) z l.group (route_list p y c) l.listed l.leads)

-- ---- marks

is_in-push : (z : ℕ) (xs : List ℕ) (y : ℕ) → is_in z (xs ++ y ∷ []) ≡ (is_in z xs || (eqb y z || false))
is_in-push z xs y = list_any-append (λ w. eqb w z) xs (y ∷ [])

or_false : (a b : Bool) → b ≡ false → (a || (b || false)) ≡ a
or_false true b e = refl
or_false false b e = ap (λ k. k || false) e

or_true : (a b : Bool) → b ≡ true → (a || (b || false)) ≡ true
or_true true b e = refl
or_true false b e = ap (λ k. k || false) e

pub marks_push : (xs : List ℕ) (y : ℕ) (marks : List Bool) → AreMarksOf xs marks → y < length marks → AreMarksOf (xs ++ y ∷ []) (set marks y true)
marks_push xs y marks m within = λ z h.
    let l = length-set marks y true in
    elim (eqb y z) as (λ b. eqb y z ≡ b → slice_get (set marks y true) z ≡ Some (is_in z (xs ++ y ∷ []))) [
      | true ↦ λ e.
          let same = eqb-true y z e in
          ap (slice_get (set marks y true)) (sym same) ∙ set_same marks y (is_in y xs) true (m y within) ∙ ap (λ k. Some k) (sym (is_in-push z xs y ∙ or_true (is_in z xs) (eqb y z) e))
      | false ↦ λ e. set_other marks y z true (eqb-false y z e) ∙ m z (omega (arith, h, l)) ∙ ap (λ k. Some k) (sym (is_in-push z xs y ∙ or_false (is_in z xs) (eqb y z) e))
    ] refl

-- what was read of a mark
pub mark_read : (xs : List ℕ) (marks : List Bool) (y : ℕ) (b : Bool) → AreMarksOf xs marks → y < length marks → slice_get marks y ≡ Some b → b ≡ is_in y xs
mark_read xs marks y b m h at = let e = m y h in cc
