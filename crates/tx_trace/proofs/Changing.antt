-- The ways of calls that do not go alike, one after another.
use Rattle.tx_trace.proofs.Common.{◌≡◌, ℕ, Bool, true, false, List, [], ◌∷◌, ◌++◌, map, cond, Option, None, refl, sym, ap, ◌∙◌, append-nil, AllByRecursion, flat_map, Pair, Plan}
use Rattle.tx_trace.specs.declared.way_changes.WayChange.{WayChange}
use Rattle.tx_trace.specs.WayChanges.{go_alike, changed, same_calls, changed_since, changed_at, AreWaysIn, calls_of}

map_push : {A B : Type 0} (f : A → B) (xs : List A) (x : A) → map f (xs ++ x ∷ []) ≡ map f xs ++ f x ∷ []
map_push f [] x = refl
map_push f (y ∷ xs) x = ap (λ l. f y ∷ l) (map_push f xs x)

pub flat_map-map : {A B C : Type 0} (g : A → B) (f : B → List C) (xs : List A) → flat_map f (map g xs) ≡ flat_map (λ x. f (g x)) xs
flat_map-map g f [] = refl
flat_map-map g f (x ∷ xs) = ap (λ l. f (g x) ++ l) (flat_map-map g f xs)

module _ {A : Type 0} (p q : Plan) (ws : List (WayChange A)) where
  pub all_more : (w : WayChange A) → AllByRecursion (AreWaysIn p q) ws → AreWaysIn p q w → AllByRecursion (AreWaysIn p q) (ws ++ w ∷ [])
  all_more w a h = by ws a
    where
      by : (vs : List (WayChange A)) → AllByRecursion (AreWaysIn p q) vs → AllByRecursion (AreWaysIn p q) (vs ++ w ∷ [])
      by [] b = (h, tt)
      by (v ∷ vs) b = (b.0, by vs b.1)

  pub one_more : (w : WayChange A) → go_alike p q w.ways.calls w.were.calls ≡ false → map calls_of (ws ++ w ∷ []) ≡ map calls_of ws ++ changed p q w.ways.calls w.were.calls
  one_more w e = map_push calls_of ws w ∙ ap (λ (b : Bool). map calls_of ws ++ cond b [] (calls_of w ∷ [])) (sym e)

  pub no_more : (k j : Pair) → go_alike p q k j ≡ true → map calls_of ws ≡ map calls_of ws ++ changed p q k j
  no_more k j e = sym (append-nil (map calls_of ws)) ∙ ap (λ (b : Bool). map calls_of ws ++ cond b [] ((k, j) ∷ [])) (sym e)

-- those of the calls of one exchange for one code
module _ (p q : Plan) (c x : ℕ) where
  pub since_is : (o : Option Pair) → o ≡ same_calls p q c x → changed_since p q (record { exchange = x; code = c }) o ≡ changed_at p q c x
  since_is o e = ap (changed_since p q (record { exchange = x; code = c })) e

  pub none_since : (items : List (Pair × Pair)) → None ≡ same_calls p q c x → items ≡ items ++ changed_at p q c x
  none_since items e = sym (append-nil items) ∙ ap (λ l. items ++ l) (since_is None e)
