-- A group that is tried beside all that stay by ranks in a list.
use Rattle.tx_mend.proofs.Common.{◌≡◌, ℕ, suc, ◌+◌, ◌<◌, Bool, true, false, ◌||◌, ◌&&◌, ◌==◌, nat_lt, List, [], ◌∷◌, ◌++◌, length, map, take, get_or, Option, refl, sym, ap, ◌∙◌, arith, append-nil, filter, option_and_then, if◌then◌else◌, fold, flat_map, range_with_len, option_map_or, flat_map-append, Plan, home_of, IsPlan, route_list, indexes, RanksOfCode, ranked_in, ranks_origins, stays_by, list_with, can_follow_keeping, rank_keeping, put_back, rank_list, ranked}
use Rattle.std.proofs.lemmas.List.{take_more}
use Rattle.std.proofs.lemmas.List.Sums.{fold-append}
use Rattle.tx_mend.proofs.Placed.{got_index, flat_more}
use Rattle.tx_mend.proofs.Tables.{length_ranks}
use Rattle.tx_mend.proofs.Local.{same_all, across_same, kept_same}

-- a list of ranks has at each index what is read there
pub ranked_list : (p : Plan) (ranks : List (Option ℕ)) → length ranks ≡ length p.exchanges → ranks ≡ rank_list p (ranked ranks)
ranked_list p ranks h = from 0 ranks (ranked ranks) (λ i l. let z : 0 + i ≡ i = omega arith in ap (ranked ranks) z) ∙ ap (λ n. map (ranked ranks) (indexes n)) h
  where
    from : (a : ℕ) (xs : List (Option ℕ)) (of : RanksOfCode) → ((i : ℕ) → i < length xs → of (a + i) ≡ ranked xs i) → xs ≡ map of (range_with_len a (length xs))
    from a [] of h = refl
    from a (x ∷ xs) of h =
        let z : a ≡ a + 0 = omega arith in
        let here : of a ≡ x = ap of z ∙ h 0 (omega arith) in
        ap (λ y. y ∷ xs) (sym here) ∙ ap (λ l. of a ∷ l) (from (a + 1) xs of (λ i l. let k : (a + 1) + i ≡ a + suc i = omega arith in ap of k ∙ h (suc i) (omega arith)))

module _ (p : Plan) (ok : IsPlan p) (ranks : List (Option ℕ)) (of : RanksOfCode) (e : ranks ≡ rank_list p of) where
  ranked_is : (x : ℕ) → x < length p.exchanges → ranked ranks x ≡ of x
  ranked_is x h = ap (λ (o : Option (Option ℕ)). option_and_then (λ r. r) o) (got_index of (length p.exchanges) x ranks e h)

  same_ranks : map (ranked ranks) (indexes (length p.exchanges)) ≡ map of (indexes (length p.exchanges))
  same_ranks = same_all (ranked ranks) of (length p.exchanges) ranked_is

  pub stays_is : (x g : ℕ) → x < length p.exchanges → stays_by p (ranked ranks) x g ≡ stays_by p of x g
  stays_is x g h = λ i. option_map_or (λ r. option_map_or (λ m. nat_lt m r) (across_same p ok (ranked ranks) of same_ranks x g i) false) (ranked_is x h i) true

  list_with_is : (c y g x : ℕ) → x < length p.exchanges → list_with p c (ranked ranks) y g x ≡ list_with p c of y g x
  list_with_is c y g x h = λ i. filter (λ k. stays_is x k h i || ((x == y) && (k == g))) (route_list p x c)

  -- the ranks after the rounds of a trial
  pub tried_is : (c limit spare y g : ℕ) → rank_list p (ranked_in (home_of p c) (can_follow_keeping p spare (list_with p c (ranked ranks) y g)) (suc limit)) ≡ rank_list p (rank_keeping p c limit spare (list_with p c of y g))
  tried_is c limit spare y g = same_all _ _ (length p.exchanges) (kept_same p ok (home_of p c) spare (list_with p c (ranked ranks) y g) (list_with p c of y g) (list_with_is c y g) (suc limit))

-- WHAT COMES OF IT

module _ (p : Plan) (c limit spare : ℕ) (of : RanksOfCode) (x g : ℕ) where
  abbrev Tried : RanksOfCode
  Tried = rank_keeping p c limit spare (list_with p c of x g)

  abbrev Next : Bool → Bool → RanksOfCode
  Next a b = if a then of else (if b then Tried else of)

  pub put_stays : stays_by p of x g ≡ true → rank_list p of ≡ rank_list p (put_back p c limit spare of (x, g))
  put_stays h = sym (ap (λ a. rank_list p (Next a (ranks_origins p c Tried))) h)

  pub put_lost : stays_by p of x g ≡ false → ranks_origins p c Tried ≡ false → rank_list p of ≡ rank_list p (put_back p c limit spare of (x, g))
  put_lost h k = sym (λ i. rank_list p (Next (h i) (k i)))

  pub put_taken : stays_by p of x g ≡ false → ranks_origins p c Tried ≡ true → rank_list p Tried ≡ rank_list p (put_back p c limit spare of (x, g))
  put_taken h k = sym (λ i. rank_list p (Next (h i) (k i)))

-- one more of a row of lists is gone through
pub fold_more : {A B : Type 0} (f : B → A → B) (start : B) (rows : ℕ → List A) (n : ℕ) → fold f start (flat_map rows (indexes (n + 1))) ≡ fold f (fold f start (flat_map rows (indexes n))) (rows n)
fold_more f start rows n = ap (fold f start) (flat_more rows n) ∙ fold-append f start (flat_map rows (indexes n)) (rows n)

-- the rows of one more entry are gone through
pub fold_taken : {A B C : Type 0} (f : B → A → B) (start : B) (rows : C → List A) (xs : List C) (i : ℕ) (x : C) → i < length xs → x ≡ get_or xs i x
    → fold f start (flat_map rows (take (i + 1) xs)) ≡ fold f (fold f start (flat_map rows (take i xs))) (rows x)
fold_taken f start rows xs i x low is =
    let before = flat_map rows (take i xs) in
    ap (λ l. fold f start (flat_map rows l)) (take_more xs i x low)
    ∙ ap (fold f start) (flat_map-append rows (take i xs) (get_or xs i x ∷ []) ∙ ap (λ l. before ++ l) (append-nil (rows (get_or xs i x))) ∙ ap (λ y. before ++ rows y) (sym is))
    ∙ fold-append f start before (rows x)

-- what is made of ranks is as long, if it is so for whatever ranks they are
pub still_long : (p : Plan) (f : RanksOfCode → RanksOfCode) (ranks next : List (Option ℕ)) → length ranks ≡ length p.exchanges
    → ((of : RanksOfCode) → ranks ≡ rank_list p of → next ≡ rank_list p (f of)) → length next ≡ length p.exchanges
still_long p f ranks next long made = length_ranks p next (f (ranked ranks)) (made (ranked ranks) (ranked_list p ranks long))
