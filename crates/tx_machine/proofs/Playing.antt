-- Runs without refusals, and blocked groups.
use Rattle.tx_machine.proofs.Common.{◌≡◌, ℕ, ◌==◌, true, false, not, ◌&&◌, ◌||◌, List, [], ◌∷◌, ◌++◌, ◌⊎◌, inl, inr, refl, sym, ap, ◌∙◌, subst, eqb-true, arith, nat_cmp, Plan, Among, Event, Reply, State, state_after, step, is_refused}
use Rattle.std.proofs.lemmas.Bool.{false≢true, ne_eqb, or_from, or_left, or_right}
use Rattle.std.specs.Cmp.{nat_cmp_total, unsigned_tied}
use Rattle.std.specs.FinSet as set
use Rattle.tx_machine.specs.Unrefused.{NoneRefused}

-- RUNS WITHOUT REFUSALS

-- the events lead from s to t, and none of them is refused
pub record Plays (p : Plan) (s : State) (events : List Event) (t : State) : Type 0 where
  pub unrefused : NoneRefused p s events
  pub leads : state_after p s events ≡ t

module _ (p : Plan) where
  pub plays_none : (s : State) → Plays p s [] s
  plays_none s = record { unrefused = tt; leads = refl }

  pub plays_first : (s t u : State) (e : Event) (es : List Event) (r : Reply) → step p s e ≡ (r, t) → is_refused r ≡ false → Plays p t es u → Plays p s (e ∷ es) u
  plays_first s t u e es r h fine x =
      record {
        unrefused = subst (λ (q : Reply × State). (is_refused q.0 ≡ false) × NoneRefused p q.1 es) (sym h) (fine, x.unrefused);
        leads = subst (λ (q : Reply × State). state_after p q.1 es ≡ u) (sym h) x.leads;
      }

  pub plays_one : (s t : State) (e : Event) (r : Reply) → step p s e ≡ (r, t) → is_refused r ≡ false → Plays p s (e ∷ []) t
  plays_one s t e r h fine = plays_first s t t e [] r h fine (plays_none t)

  pub plays_then : (s t u : State) (es fs : List Event) → Plays p s es t → Plays p t fs u → Plays p s (es ++ fs) u
  plays_then s t u [] fs x y = subst (λ q. Plays p q fs u) (sym x.leads) y
  plays_then s t u (e ∷ es) fs x y =
      let r = plays_then (step p s e).1 t u es fs (record { unrefused = x.unrefused.1; leads = x.leads }) y in
      record { unrefused = (x.unrefused.0, r.unrefused); leads = r.leads }

-- BLOCKED GROUPS

abbrev pub Groups : Type 0
Groups = set.FinSet nat_cmp

-- some more groups are blocked
abbrev pub shut : Groups → List ℕ → Groups
shut b [] = b
shut b (g ∷ gs) = shut (set.insert b g) gs

-- some groups are not blocked any more
abbrev pub opened : Groups → List ℕ → Groups
opened b [] = b
opened b (g ∷ gs) = opened (set.remove b g) gs

-- no group is blocked
abbrev pub AllUp : Groups → Type 0
AllUp b = (g : ℕ) → set.contains b g ≡ false

in_insert : (b : Groups) (g h : ℕ) → set.contains (set.insert b g) h ≡ ((h == g) || set.contains b h)
in_insert b g h = set.contains-insert nat_cmp_total b g h ∙ ap (λ t. t || set.contains b h) (unsigned_tied h g)

in_remove : (b : Groups) (g h : ℕ) → set.contains (set.remove b g) h ≡ (not (h == g) && set.contains b h)
in_remove b g h = set.contains-remove nat_cmp_total b g h ∙ ap (λ t. not t && set.contains b h) (unsigned_tied h g)

inserted : (b : Groups) (g : ℕ) → set.contains (set.insert b g) g ≡ true
inserted b g = in_insert b g g ∙ or_left (g == g) _ (let e : (g == g) ≡ true = search (arith, refl) in e)

kept_in : (b : Groups) (g h : ℕ) → set.contains b h ≡ true → set.contains (set.insert b g) h ≡ true
kept_in b g h e = in_insert b g h ∙ or_right (h == g) _ e

kept_out : (b : Groups) (g h : ℕ) → set.contains b h ≡ false → (h ≡ g → ⊥) → set.contains (set.insert b g) h ≡ false
kept_out b g h e ne = in_insert b g h ∙ or_from (h == g) _ (ne_eqb h g ne) e

pub still_in : (b : Groups) (g h : ℕ) → set.contains b h ≡ true → (h ≡ g → ⊥) → set.contains (set.remove b g) h ≡ true
still_in b g h e ne = let n = ne_eqb h g ne in in_remove b g h ∙ rw (n, e) refl

still_out : (b : Groups) (g h : ℕ) → set.contains b h ≡ false → set.contains (set.remove b g) h ≡ false
still_out b g h e = in_remove b g h ∙ elim (not (h == g)) as (λ t. (t && set.contains b h) ≡ false) [ true ↦ e | false ↦ refl ]

gone : (b : Groups) (g h : ℕ) → h ≡ g → set.contains (set.remove b g) h ≡ false
gone b g h e = let t : (h == g) ≡ true = search (arith, e) in in_remove b g h ∙ rw t refl

pub shut_out : (b : Groups) (gs : List ℕ) (h : ℕ) → set.contains b h ≡ false → (Among h gs → ⊥) → set.contains (shut b gs) h ≡ false
shut_out b [] h e away = e
shut_out b (g ∷ gs) h e away = shut_out (set.insert b g) gs h (kept_out b g h e (λ q. away (inl (sym q)))) (λ m. away (inr m))

shut_in : (b : Groups) (gs : List ℕ) (h : ℕ) → set.contains b h ≡ true → set.contains (shut b gs) h ≡ true
shut_in b [] h e = e
shut_in b (g ∷ gs) h e = shut_in (set.insert b g) gs h (kept_in b g h e)

pub shut_among : (b : Groups) (gs : List ℕ) (h : ℕ) → Among h gs → set.contains (shut b gs) h ≡ true
shut_among b [] h m = absurd m
shut_among b (g ∷ gs) h (inl e) = shut_in (set.insert b g) gs h (subst (λ k. set.contains (set.insert b g) k ≡ true) e (inserted b g))
shut_among b (g ∷ gs) h (inr m) = shut_among (set.insert b g) gs h m

opened_out : (b : Groups) (gs : List ℕ) (h : ℕ) → set.contains b h ≡ false → set.contains (opened b gs) h ≡ false
opened_out b [] h e = e
opened_out b (g ∷ gs) h e = opened_out (set.remove b g) gs h (still_out b g h e)

opened_among : (b : Groups) (gs : List ℕ) (h : ℕ) → Among h gs → set.contains (opened b gs) h ≡ false
opened_among b [] h m = absurd m
opened_among b (g ∷ gs) h (inl e) = opened_out (set.remove b g) gs h (gone b g h (sym e))
opened_among b (g ∷ gs) h (inr m) = opened_among (set.remove b g) gs h m

among_or_not : (h : ℕ) (gs : List ℕ) → Among h gs ⊎ (Among h gs → ⊥)
among_or_not h [] = inr (λ m. m)
among_or_not h (g ∷ gs) =
    elim (h == g) as (λ t. (h == g) ≡ t → Among h (g ∷ gs) ⊎ (Among h (g ∷ gs) → ⊥)) [
      | true ↦ λ e. inl (inl (sym (eqb-true h g e)))
      | false ↦ λ e. elim (among_or_not h gs) [ inl m ↦ inl (inr m) | inr n ↦ inr (λ m. elim m [ inl q ↦ false≢true (sym e ∙ search (arith, q)) | inr k ↦ n k ]) ]
    ] refl

-- groups that were blocked and are not any more
pub all_up_again : (b : Groups) (gs : List ℕ) → AllUp b → AllUp (opened (shut b gs) gs)
all_up_again b gs up h =
    elim (among_or_not h gs) [
      | inl m ↦ opened_among (shut b gs) gs h m
      | inr n ↦ opened_out (shut b gs) gs h (shut_out b gs h (up h) n)
    ]
