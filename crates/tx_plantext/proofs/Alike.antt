-- Lists that are alike at each index, and entries that are.
use Rattle.tx_plantext.proofs.Common.{◌≡◌, ℕ, suc, ◌<◌, Bool, true, List, [], ◌∷◌, length, Option, Some, refl, sym, ap, ◌∙◌, slice_get, option_map_or, bytes_eq, bytes_eq-Decides, Direction, OneWay, Plan, Code, Group, exchange_name, figures_of, home_of, group_name, entry_at}
use Rattle.tx_plan.specs.Circuits.{direction_of, count_of, ends_of}
use Rattle.tx_plan.specs.Mixtures.{SameNetwork}
use Rattle.tx_plantext.specs.declared.difference.NetworkList.TheVariants.{Exchanges, Codes, Ranges, Groups}
use Rattle.tx_plantext.specs.Difference.{SameList}

pub alike : {A : Type 0} (xs ys : List A) → ((i : ℕ) → slice_get xs i ≡ slice_get ys i) → xs ≡ ys
alike [] [] h = refl
alike [] (y ∷ ys) h = let s = h 0 in let bad : ⊥ = cc in absurd bad
alike (x ∷ xs) [] h = let s = h 0 in let bad : ⊥ = cc in absurd bad
alike (x ∷ xs) (y ∷ ys) h =
    let head : x ≡ y = let s = h 0 in cc in
    let tail = alike xs ys (λ i. h (suc i)) in
    λ k. head k ∷ tail k

pub one_network : (p q : Plan) → SameList Exchanges p q → SameList Codes p q → SameList Ranges p q → SameList Groups p q → SameNetwork p q
one_network p q a b c d = record { exchanges = alike p.exchanges q.exchanges a; codes = alike p.codes q.codes b; ranges = alike p.ranges q.ranges c; groups = alike p.groups q.groups d }

-- entries at an index are alike if what they are made of is
entries_alike : {A : Type 0} (xs ys : List A) (i : ℕ) → i < length xs → i < length ys → ((x y : A) → slice_get xs i ≡ Some x → slice_get ys i ≡ Some y → x ≡ y) → slice_get xs i ≡ slice_get ys i
entries_alike xs ys i l m h = let a = entry_at xs i l in let b = entry_at ys i m in a.1 ∙ (ap (λ k. Some k) (h a.0 b.0 a.1 b.1) ∙ sym b.1)

-- a part of an entry
part : {A B : Type 0} (f : A → B) (d : B) (o p : Option A) (x y : A) → o ≡ Some x → p ≡ Some y → option_map_or f o d ≡ option_map_or f p d → f x ≡ f y
part f d o p x y a b e = sym (ap (λ k. option_map_or f k d) a) ∙ (e ∙ ap (λ k. option_map_or f k d) b)

module _ (p q : Plan) (i : ℕ) where
  pub exchange_alike : (a b : List ℕ) (r : Bool) → i < length p.exchanges → i < length q.exchanges → a ≡ exchange_name p i → b ≡ exchange_name q i → r ≡ bytes_eq a b
      → (r ≡ true → slice_get p.exchanges i ≡ slice_get q.exchanges i) × (slice_get p.exchanges i ≡ slice_get q.exchanges i → r ≡ true)
  exchange_alike a b r l m ea eb er = (
    λ t.
        let same : exchange_name p i ≡ exchange_name q i = sym ea ∙ ((bytes_eq-Decides a b).0 (sym er ∙ t) ∙ eb) in
        entries_alike p.exchanges q.exchanges i l m (λ y z hy hz. part (λ name. name) [] (slice_get p.exchanges i) (slice_get q.exchanges i) y z hy hz same),
    λ e. er ∙ (bytes_eq-Decides a b).1 (ea ∙ ap (λ o. option_map_or (λ name. name) o []) e ∙ sym eb),
  )

  pub code_alike : (h k : ℕ) (a b : List ℕ) (r : Bool) → i < length p.codes → i < length q.codes → h ≡ home_of p i → k ≡ home_of q i → h ≡ k → a ≡ figures_of p i → b ≡ figures_of q i → r ≡ bytes_eq a b
      → (r ≡ true → slice_get p.codes i ≡ slice_get q.codes i) × (slice_get p.codes i ≡ slice_get q.codes i → r ≡ true)
  code_alike h k a b r l m eh ek hk ea eb er = (
    λ t.
        let same : figures_of p i ≡ figures_of q i = sym ea ∙ ((bytes_eq-Decides a b).0 (sym er ∙ t) ∙ eb) in
        let home : home_of p i ≡ home_of q i = sym eh ∙ (hk ∙ ek) in
        entries_alike p.codes q.codes i l m (λ y z hy hz.
        let f = part (λ (c : Code). c.figures) [] (slice_get p.codes i) (slice_get q.codes i) y z hy hz same in
        let g = part (λ (c : Code). c.home) 0 (slice_get p.codes i) (slice_get q.codes i) y z hy hz home in
        λ j. record { figures = f j; home = g j }),
    λ e. er ∙ (bytes_eq-Decides a b).1 (ea ∙ ap (λ o. option_map_or (λ (c : Code). c.figures) o []) e ∙ sym eb),
  )

  pub ends_apart : (e f : ℕ × ℕ) → e ≡ ends_of p i → f ≡ ends_of q i → slice_get p.groups i ≡ slice_get q.groups i → e ≡ f
  ends_apart a b ea eb e = ea ∙ ap (λ o. option_map_or (λ (r : Group). (r.a, r.b)) o (0, 0)) e ∙ sym eb

  pub group_alike : (n o : ℕ × ℕ) (d e : Direction) (h k : ℕ) (a b : List ℕ) (r : Bool) → i < length p.groups → i < length q.groups → n ≡ ends_of p i → o ≡ ends_of q i → n ≡ o → d ≡ direction_of p i → e ≡ direction_of q i → d ≡ e
      → h ≡ count_of p i → k ≡ count_of q i → h ≡ k → a ≡ group_name p i → b ≡ group_name q i → r ≡ bytes_eq a b
      → (r ≡ true → slice_get p.groups i ≡ slice_get q.groups i) × (slice_get p.groups i ≡ slice_get q.groups i → r ≡ true)
  group_alike n o d e h k a b r l m en eo both ed ee de eh ek hk ea eb er = (
    λ t.
        let same : group_name p i ≡ group_name q i = sym ea ∙ ((bytes_eq-Decides a b).0 (sym er ∙ t) ∙ eb) in
        let ends : ends_of p i ≡ ends_of q i = sym en ∙ (both ∙ eo) in
        let turn : direction_of p i ≡ direction_of q i = sym ed ∙ (de ∙ ee) in
        let count : count_of p i ≡ count_of q i = sym eh ∙ (hk ∙ ek) in
        entries_alike p.groups q.groups i l m (λ y z hy hz.
        let f = part (λ (g : Group). g.name) [] (slice_get p.groups i) (slice_get q.groups i) y z hy hz same in
        let u = part (λ (g : Group). (g.a, g.b)) (0, 0) (slice_get p.groups i) (slice_get q.groups i) y z hy hz ends in
        let v = part (λ (g : Group). g.direction) OneWay (slice_get p.groups i) (slice_get q.groups i) y z hy hz turn in
        let w = part (λ (g : Group). g.count) 0 (slice_get p.groups i) (slice_get q.groups i) y z hy hz count in
        λ j. record { name = f j; a = (u j).0; b = (u j).1; direction = v j; count = w j }),
    λ s. er ∙ (bytes_eq-Decides a b).1 (ea ∙ ap (λ k. option_map_or (λ (g : Group). g.name) k []) s ∙ sym eb),
  )
