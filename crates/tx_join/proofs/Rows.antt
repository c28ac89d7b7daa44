-- The names and the entries of the joined network.
use Rattle.tx_join.proofs.Common.{◌≡◌, ◌≢◌, ℕ, ◌<◌, Bool, true, false, not, List, [], ◌∷◌, ◌++◌, length, map, Some, unwrap_or, refl, sym, ap, ◌∙◌, subst, filter, find, slice_get, position, list_any, option_map, option_map_or, option_or, bytes_eq, map-append, find-append, slice_get-map, bytes_eq-Decides, Plan, Code, Group, exchange_name, figures_of, group_name, IsPlan, EachPair, entry_at, exchange_back, code_back, group_back, joined_network, joined_code, joined_group, widened, exchange_in, code_in, group_in, KnowsExchanges, KnowsCodes, KnowsGroups}
use Rattle.tx_plan.proofs.Filtered.{find_in}
use Rattle.tx_plan.proofs.Tables.{list_any-map, position-map}
use Rattle.tx_join.proofs.Found.{none_found, find-map, filter-map, pairs_mapped, pairs_unmapped}
use Rattle.tx_join.proofs.United.{named, united, in_first, in_second, united_differ, index_stays}

-- THE KEYS OF JOINED ENTRIES

module _ {A : Type 0} (key : A → List ℕ) where
  pub keys_kept : (h : A → A) → ((x : A) → key (h x) ≡ key x) → (xs : List A) → map key (map h xs) ≡ map key xs
  keys_kept h k [] = refl
  keys_kept h k (x ∷ xs) = λ i. k x i ∷ keys_kept h k xs i

  abbrev pub has_key : List A → List ℕ → Bool
  has_key xs w = list_any (λ x. bytes_eq w (key x)) xs

  -- those of the first list, and the others of the second
  pub keys_joined : (zs xs ys : List A) (g : A → A) → ((x : A) → key (g x) ≡ key x) → map key zs ≡ map key xs → map key (zs ++ map g (filter (λ y. not (has_key xs (key y))) ys)) ≡ united (map key xs) (map key ys)
  keys_joined zs xs ys g k e =
      let same : (w : List ℕ) → has_key xs w ≡ named (map key xs) w = λ w. sym (list_any-map (bytes_eq w) key xs) in
      let rest : map key (map g (filter (λ y. not (has_key xs (key y))) ys)) ≡ filter (λ w. not (named (map key xs) w)) (map key ys) =
      keys_kept g k (filter (λ y. not (has_key xs (key y))) ys)
      ∙ (ap (λ (s : A → Bool). map key (filter s ys)) (λ j y. not (same (key y) j)) ∙ sym (filter-map (λ w. not (named (map key xs) w)) key ys)) in
      map-append key zs (map g (filter (λ y. not (has_key xs (key y))) ys)) ∙ (λ i. e i ++ rest i)

  module _ (js xs ys : List A) (keys : map key js ≡ united (map key xs) (map key ys)) where
    pub has_first : (w : List ℕ) → has_key xs w ≡ true → has_key js w ≡ true
    has_first w h = sym (list_any-map (bytes_eq w) key js) ∙ ap (λ l. named l w) keys ∙ in_first (map key xs) (map key ys) w (list_any-map (bytes_eq w) key xs ∙ h)

    pub has_second : (w : List ℕ) → has_key ys w ≡ true → has_key js w ≡ true
    has_second w h = sym (list_any-map (bytes_eq w) key js) ∙ ap (λ l. named l w) keys ∙ in_second (map key xs) (map key ys) w (list_any-map (bytes_eq w) key ys ∙ h)

    module _ (n : EachPair (λ x y. key x ≢ key y) xs) (m : EachPair (λ x y. key x ≢ key y) ys) where
      pub keys_differ : EachPair (λ x y. key x ≢ key y) js
      keys_differ = pairs_unmapped key (λ v w. v ≢ w) js
          (subst (λ l. EachPair (λ v w. v ≢ w) l) (sym keys) (united_differ (map key xs) (map key ys) (pairs_mapped key (λ v w. v ≢ w) xs n) (pairs_mapped key (λ v w. v ≢ w) ys m)))

      -- a key of the first list keeps its index
      pub place_stays : (i : ℕ) (x : A) → slice_get xs i ≡ Some x → position (λ z. bytes_eq (key x) (key z)) js ≡ Some i
      place_stays i x e = sym (position-map (bytes_eq (key x)) key js) ∙ ap (position (bytes_eq (key x))) keys
          ∙ index_stays (map key xs) (map key ys) (pairs_mapped key (λ v w. v ≢ w) xs n) (pairs_mapped key (λ v w. v ≢ w) ys m) i (key x) (slice_get-map key xs i ∙ ap (option_map key) e)

  -- an entry of the first list is found before any of the second
  pub found_first : (t : A → Bool) (zs ys : List A) (z : A) → find t zs ≡ Some z → find t (zs ++ ys) ≡ Some z
  found_first t zs ys z e = find-append t zs ys ∙ ap (λ o. option_or o (find t ys)) e

  -- one that is not in the first is found in the second, as it is there
  pub found_second : (w : List ℕ) (zs xs ys : List A) (g : A → A) → ((x : A) → key (g x) ≡ key x) → has_key zs w ≡ false → has_key xs w ≡ false → find (λ x. bytes_eq w (key x)) (zs ++ map g (filter (λ y. not (has_key xs (key y))) ys)) ≡ option_map g (find (λ x. bytes_eq w (key x)) ys)
  found_second w zs xs ys g k h none =
      let t = λ (x : A). bytes_eq w (key x) in
      let s = λ (y : A). not (has_key xs (key y)) in
      find-append t zs (map g (filter s ys))
      ∙ ap (λ o. option_or o (find t (map g (filter s ys)))) (none_found t zs h)
      ∙ find-map t g (filter s ys)
      ∙ ap (λ (u : A → Bool). option_map g (find u (filter s ys))) (λ j x. bytes_eq w (k x j))
      ∙ ap (option_map g) (find_in t s (λ z e. ap (λ v. not (has_key xs v)) (sym ((bytes_eq-Decides w (key z)).0 e)) ∙ ap not none) ys)

-- WHAT IT HAS OF BOTH PLANS

module _ (old new : Plan) where
  abbrev joined : Plan
  joined = joined_network old new

  pub code_keys : map (λ (c : Code). c.figures) joined.codes ≡ united (map (λ (c : Code). c.figures) old.codes) (map (λ (c : Code). c.figures) new.codes)
  code_keys = keys_joined (λ (c : Code). c.figures) old.codes old.codes new.codes (joined_code old new) (λ c. refl) refl

  pub group_keys : map (λ (g : Group). g.name) joined.groups ≡ united (map (λ (g : Group). g.name) old.groups) (map (λ (g : Group). g.name) new.groups)
  group_keys = keys_joined (λ (g : Group). g.name) (map (widened new) old.groups) old.groups new.groups (joined_group old new) (λ g. refl) (keys_kept (λ (g : Group). g.name) (widened new) (λ g. refl) old.groups)

  module _ (ok : IsPlan old) (new_ok : IsPlan new) where
    pub knows_old_exchanges : KnowsExchanges joined old
    knows_old_exchanges x l = in_first old.exchanges new.exchanges (exchange_name old x) (exchange_back old ok x l).there

    pub knows_new_exchanges : KnowsExchanges joined new
    knows_new_exchanges x l = in_second old.exchanges new.exchanges (exchange_name new x) (exchange_back new new_ok x l).there

    pub knows_old_codes : KnowsCodes joined old
    knows_old_codes c l = has_first (λ (c : Code). c.figures) joined.codes old.codes new.codes code_keys (figures_of old c) (code_back old ok c l).there

    pub knows_new_codes : KnowsCodes joined new
    knows_new_codes c l = has_second (λ (c : Code). c.figures) joined.codes old.codes new.codes code_keys (figures_of new c) (code_back new new_ok c l).there

    pub knows_old_groups : KnowsGroups joined old
    knows_old_groups g l = has_first (λ (g : Group). g.name) joined.groups old.groups new.groups group_keys (group_name old g) (group_back old ok g l).there

    pub knows_new_groups : KnowsGroups joined new
    knows_new_groups g l = has_second (λ (g : Group). g.name) joined.groups old.groups new.groups group_keys (group_name new g) (group_back new new_ok g l).there

    -- what the old plan has keeps its index
    pub exchange_stays : (x : ℕ) → x < length old.exchanges → exchange_in joined old x ≡ x
    exchange_stays x l =
        let e = entry_at old.exchanges x l in
        let at : exchange_name old x ≡ e.0 = ap (λ o. option_map_or (λ name. name) o []) e.1 in
        ap (λ w. unwrap_or (position (bytes_eq w) joined.exchanges) 0) at
        ∙ ap (λ o. unwrap_or o 0) (index_stays old.exchanges new.exchanges ok.exchanges_differ new_ok.exchanges_differ x e.0 e.1)

    pub code_stays : (c : ℕ) → c < length old.codes → code_in joined old c ≡ c
    code_stays c l =
        let e = entry_at old.codes c l in
        let at : figures_of old c ≡ e.0.figures = ap (λ o. option_map_or (λ (r : Code). r.figures) o []) e.1 in
        ap (λ w. unwrap_or (position (λ (r : Code). bytes_eq w r.figures) joined.codes) 0) at
        ∙ ap (λ o. unwrap_or o 0) (place_stays (λ (r : Code). r.figures) joined.codes old.codes new.codes code_keys ok.codes_differ new_ok.codes_differ c e.0 e.1)

    pub group_stays : (g : ℕ) → g < length old.groups → group_in joined old g ≡ g
    group_stays g l =
        let e = entry_at old.groups g l in
        let at : group_name old g ≡ e.0.name = ap (λ o. option_map_or (λ (r : Group). r.name) o []) e.1 in
        ap (λ w. unwrap_or (position (λ (r : Group). bytes_eq w r.name) joined.groups) 0) at
        ∙ ap (λ o. unwrap_or o 0) (place_stays (λ (r : Group). r.name) joined.groups old.groups new.groups group_keys ok.groups_differ new_ok.groups_differ g e.0 e.1)
