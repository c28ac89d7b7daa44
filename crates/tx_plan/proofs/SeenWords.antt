-- What is seen of a route's words.
use Rattle.tx_plan.proofs.Common.{◌≡◌, ℕ, ◌<◌, ◌≤◌, nat_lt, Bool, true, false, not, ◌&&◌, ◌||◌, ◌==◌, List, [], ◌∷◌, ◌++◌, length, map, refl, sym, ap, ◌∙◌, eqb-true, eq-eqb, arith, list_any, bytes_eq, bytes_eq-Decides, Plan, Group, has_group, group_at, none_twice, OneWay}
use Rattle.std.proofs.lemmas.Bool.{le-ltb, or_parts, not-false}
use Rattle.std.proofs.lemmas.List.{append-nil, length-map}
use Rattle.tx_plan.specs.inner.Distinct.{differ}
use Rattle.tx_plan.proofs.Lists.{one_word, below, same_tests}

-- two declared names are one exactly where they name one group
index_is_word : (p : Plan) (v w : List ℕ) → has_group p v ≡ true → has_group p w ≡ true → (group_at p w == group_at p v) ≡ bytes_eq v w
index_is_word p v w h k =
    same_tests (group_at p w == group_at p v) (bytes_eq v w)
    (λ e. (bytes_eq-Decides v w).1 (one_word (λ (g : Group). g.name) (record { name = []; a = 0; b = 0; direction = OneWay; count = 0 }) v w p.groups h k (sym (eqb-true (group_at p w) (group_at p v) e))))
    (λ e. eq-eqb (group_at p w) (group_at p v) (ap (group_at p) (sym ((bytes_eq-Decides v w).0 e))))

any_as_words : (p : Plan) (v : List ℕ) (ws : List (List ℕ)) → has_group p v ≡ true → list_any (λ g. not (has_group p g)) ws ≡ false
    → list_any (λ y. y == group_at p v) (map (group_at p) ws) ≡ list_any (bytes_eq v) ws
any_as_words p v [] h k = refl
any_as_words p v (w ∷ ws) h k =
    let n = or_parts (not (has_group p w)) (list_any (λ g. not (has_group p g)) ws) k in
    ap (λ b. b || list_any (λ y. y == group_at p v) (map (group_at p) ws)) (index_is_word p v w h (not-false (has_group p w) n.0)) ∙ ap (λ b. bytes_eq v w || b) (any_as_words p v ws h n.1)

-- of declared groups no index stands there twice exactly where no word does
pub differ_as_words : (p : Plan) (ws : List (List ℕ)) → list_any (λ g. not (has_group p g)) ws ≡ false → differ (map (group_at p) ws) ≡ none_twice ws
differ_as_words p [] h = refl
differ_as_words p (w ∷ ws) h =
    let n = or_parts (not (has_group p w)) (list_any (λ g. not (has_group p g)) ws) h in
    ap (λ b. not b && differ (map (group_at p) ws)) (any_as_words p w ws (not-false (has_group p w) n.0) n.1) ∙ ap (λ b. not (list_any (bytes_eq w) ws) && b) (differ_as_words p ws n.1)

-- the groups of all words
pub all_seen : (f : List ℕ → ℕ) (list : List ℕ) (words rest : List (List ℕ)) → rest ≡ [] → map f words ≡ list ++ map f rest → list ≡ map f words
all_seen f list words rest e l = sym (l ∙ ap (λ r. list ++ map f r) e ∙ append-nil list)

-- whether there were more than 16 words, where all were seen
pub many_seen : (many : Bool) (f : List ℕ → ℕ) (list : List ℕ) (words rest : List (List ℕ)) → rest ≡ [] → (many ≡ true → 16 < length words) → (many ≡ false → length list ≤ 16)
    → (many ≡ false → map f words ≡ list ++ map f rest) → many ≡ nat_lt 16 (length words)
many_seen true f list words rest e m s l = sym (below 16 (length words) (m refl))
many_seen false f list words rest e m s l =
    let n = s refl in let k = ap length (all_seen f list words rest e (l refl)) in let j = length-map words f in sym (le-ltb 16 (length words) (omega (arith, n, k, j)))
