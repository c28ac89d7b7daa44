-- A plan text, part by part.
use Rattle.tx_plantext.proofs.Common.{◌≡◌, ℕ, zero, suc, ◌+◌, ◌<◌, ◌≤◌, Bool, nat_lt, List, [], ◌∷◌, ◌++◌, map, length, take, codes, Option, None, Some, refl, sym, ap, ◌∙◌, append_assoc, append-nil, add-one, inl, inr, option_map_or, option_map, decimal, take_all, Puts, puts_is, puts_then, Direction, Plan, Route, exchange_name, figures_of, group_name, home_of, route_list, IsPlan, entry_at}
use Rattle.std.specs.Prelude.{if◌then◌else◌}
use Rattle.std.specs.List.{flat_map, slice_get}
use Rattle.std.proofs.lemmas.Bool.{cases_lt, lt-ltb, le-ltb}
use Rattle.std.proofs.lemmas.Option.{slice_get_past}
use Rattle.tx_text.specs.Written.{joined, line_written}
use Rattle.tx_plan.specs.Circuits.{direction_of, count_of, ends_of}
use Rattle.tx_plantext.specs.PlanWritten.{plan_written, has_bars, head_of, exchange_words, code_words, range_words, direction_word, group_words, route_words, bar_words, lines_of_list, line_at}
use Rattle.tx_plan.proofs.ListFound.{list_found}

-- ---- the lines of a list

module _ {A : Type 0} (words : A → List (List ℕ)) where
  lines_more : (xs : List A) (i : ℕ) → lines_of_list words (take (suc i) xs) ≡ lines_of_list words (take i xs) ++ line_at words xs i
  lines_more [] zero = refl
  lines_more [] (suc i) = refl
  lines_more (x ∷ xs) zero = append-nil (line_written (words x))
  lines_more (x ∷ xs) (suc i) = ap (λ l. line_written (words x) ++ l) (lines_more xs i) ∙ sym (append_assoc (line_written (words x)) (lines_of_list words (take i xs)) (line_at words xs i))

  module _ {W : Type 0} {taken : W → Option (List ℕ)} {failed : W → Bool} (xs : List A) (i : ℕ) where
    -- the line of one more
    pub list_more : {a b c : W} → Puts taken failed a b (lines_of_list words (take i xs)) → Puts taken failed b c (line_at words xs i) → Puts taken failed a c (lines_of_list words (take (i + 1) xs))
    list_more v w = rw (add-one, lines_more xs i) (puts_then v w)

    -- those of all
    pub list_done : {a b : W} → length xs ≤ i → Puts taken failed a b (lines_of_list words (take i xs)) → Puts taken failed a b (lines_of_list words xs)
    list_done all v = puts_is (ap (lines_of_list words) (sym (take_all i xs all))) v

  -- the lines of a list come first
  pub lines_first : (xs : List A) (rest : List (List (List ℕ))) (end : List ℕ) → flat_map line_written (map words xs ++ rest) ++ end ≡ lines_of_list words xs ++ (flat_map line_written rest ++ end)
  lines_first [] rest end = refl
  lines_first (x ∷ xs) rest end =
      append_assoc (line_written (words x)) (flat_map line_written (map words xs ++ rest)) end ∙ ap (λ l. line_written (words x) ++ l) (lines_first xs rest end)
      ∙ sym (append_assoc (line_written (words x)) (lines_of_list words xs) (flat_map line_written rest ++ end))

  pub lines_last : (xs : List A) (end : List ℕ) → flat_map line_written (map words xs) ++ end ≡ lines_of_list words xs ++ end
  lines_last xs end = ap (λ (l : List (List (List ℕ))). flat_map line_written l ++ end) (sym (append-nil (map words xs))) ∙ lines_first xs [] end

  -- no line past the end of the list
  pub line_past : (xs : List A) (i : ℕ) → slice_get xs i ≡ None → line_at words xs i ≡ []
  line_past xs i e = rw e refl

regroup : (a b c d e f end : List ℕ) → a ++ (b ++ (c ++ (d ++ (e ++ (f ++ end))))) ≡ (a ++ (b ++ c)) ++ ((d ++ (e ++ f)) ++ end)
regroup a b c d e f end = simp append_assoc

-- the text of a plan, list by list
pub plan_cut : (p : Plan) → plan_written p ≡ line_written (head_of (has_bars p)) ++ ((lines_of_list exchange_words p.exchanges ++ (lines_of_list (code_words p) p.codes ++ lines_of_list (range_words p) p.ranges))
    ++ ((lines_of_list (group_words p) p.groups ++ (lines_of_list (route_words p) p.routes ++ lines_of_list (bar_words p) p.bars)) ++ codes "END\n"))
plan_cut p =
    let end = codes "END\n" in
    ap (λ (l : List ℕ). line_written (head_of (has_bars p)) ++ l)
    (lines_first exchange_words p.exchanges _ end
    ∙ ap (λ (l : List ℕ). lines_of_list exchange_words p.exchanges ++ l) (lines_first (code_words p) p.codes _ end
    ∙ ap (λ (l : List ℕ). lines_of_list (code_words p) p.codes ++ l) (lines_first (range_words p) p.ranges _ end
    ∙ ap (λ (l : List ℕ). lines_of_list (range_words p) p.ranges ++ l) (lines_first (group_words p) p.groups _ end
    ∙ ap (λ (l : List ℕ). lines_of_list (group_words p) p.groups ++ l) (lines_first (route_words p) p.routes (map (bar_words p) p.bars) end
    ∙ ap (λ (l : List ℕ). lines_of_list (route_words p) p.routes ++ l) (lines_last (bar_words p) p.bars end)))))
    ∙ regroup (lines_of_list exchange_words p.exchanges) (lines_of_list (code_words p) p.codes) (lines_of_list (range_words p) p.ranges) (lines_of_list (group_words p) p.groups) (lines_of_list (route_words p) p.routes) (lines_of_list (bar_words p) p.bars) end)

-- ---- one line

module _ {A : Type 0} where
  pub none_at : (xs : List A) (i : ℕ) → ◌≡◌ {A = Option ℕ} None (if nat_lt i (length xs) then Some i else None) → slice_get xs i ≡ None
  none_at xs i e =
      elim (cases_lt i (length xs)) [
        | inl l ↦ let t = lt-ltb i (length xs) l in let q = rw t at e in absurd (let z : ⊥ = cc in z)
        | inr l ↦ slice_get_past xs i l
      ]

  pub some_at : (xs : List A) (i j : ℕ) → Some j ≡ (if nat_lt i (length xs) then Some i else None) → (x : A) × (slice_get xs i ≡ Some x) × (j ≡ i)
  some_at xs i j e =
      elim (cases_lt i (length xs)) [
        | inl l ↦ let t = lt-ltb i (length xs) l in let q = rw t at e in let x = entry_at xs i l in (x.0, x.1, let z : j ≡ i = cc in z)
        | inr l ↦ let t = le-ltb i (length xs) l in let q = rw t at e in absurd (let z : ⊥ = cc in z)
      ]

pub code_text : (p : Plan) (i j home : ℕ) (figures name : List ℕ) → Some j ≡ (if nat_lt i (length p.codes) then Some i else None) → figures ≡ figures_of p j → home ≡ home_of p j → name ≡ exchange_name p home
    → line_at (code_words p) p.codes i ≡ codes "CODE " ++ (figures ++ (codes " " ++ (name ++ (codes "\n" ++ []))))
code_text p i j home figures name e f h n =
    let x = some_at p.codes i j e in
    let at = x.1 in
    let same = x.2 in
    rw (n, h, f, same, at) (simp append_assoc)

group_line : (name first second way number : List ℕ) → line_written (codes "GROUP" ∷ name ∷ first ∷ second ∷ way ∷ number ∷ [])
    ≡ (codes "GROUP " ++ (name ++ (codes " " ++ (first ++ (codes " " ++ (second ++ (codes " " ++ []))))))) ++ (way ++ (codes " " ++ number ++ codes "\n"))
group_line name first second way number = simp append_assoc

abbrev pub group_head : List ℕ → List ℕ → List ℕ → List ℕ
group_head name first second = codes "GROUP " ++ (name ++ (codes " " ++ (first ++ (codes " " ++ (second ++ (codes " " ++ []))))))

abbrev pub group_end : ℕ → List ℕ
group_end count = codes " " ++ decimal count ++ codes "\n"

pub group_text : (p : Plan) (i j count : ℕ) (ends : ℕ × ℕ) (direction : Direction) (name first second : List ℕ) → Some j ≡ (if nat_lt i (length p.groups) then Some i else None)
    → name ≡ group_name p j → ends ≡ ends_of p j → first ≡ exchange_name p ends.0 → second ≡ exchange_name p ends.1 → direction ≡ direction_of p j → count ≡ count_of p j
    → line_at (group_words p) p.groups i ≡ group_head name first second ++ (direction_word direction ++ group_end count)
group_text p i j count ends direction name first second e n b f s d k =
    let x = some_at p.groups i j e in
    let at = x.1 in
    let same = x.2 in
    rw (k, d, s, f, b, n, same, at) (group_line x.0.name (exchange_name p x.0.a) (exchange_name p x.0.b) (direction_word x.0.direction) (decimal x.0.count))

-- the words after the first, each with a space before it
joined_after : (p : Plan) (w : List ℕ) (gs : List ℕ) → joined (w ∷ map (group_name p) gs) ≡ w ++ flat_map (λ g. codes " " ++ group_name p g) gs
joined_after p w [] = sym (append-nil w)
joined_after p w (g ∷ gs) = ap (λ l. w ++ 32 ∷ l) (joined_after p (group_name p g) gs)

route_line : (p : Plan) (name figures : List ℕ) (gs : List ℕ) → line_written (codes "ROUTE" ∷ name ∷ figures ∷ map (group_name p) gs)
    ≡ (codes "ROUTE " ++ (name ++ (codes " " ++ (figures ++ [])))) ++ (flat_map (λ g. codes " " ++ group_name p g) gs ++ codes "\n")
route_line p name figures gs =
    ap (λ (l : List ℕ). (codes "ROUTE " ++ (name ++ 32 ∷ l)) ++ codes "\n") (joined_after p figures gs)
    ∙ cut name figures (flat_map (λ g. codes " " ++ group_name p g) gs)
  where
    cut : (a b c : List ℕ) → (codes "ROUTE " ++ (a ++ 32 ∷ (b ++ c))) ++ codes "\n" ≡ (codes "ROUTE " ++ (a ++ (codes " " ++ (b ++ [])))) ++ (c ++ codes "\n")
    cut a b c = simp (append_assoc, append-nil)

route_there : (o : Option Route) (at : ℕ × ℕ) → ◌≡◌ {A = Option (ℕ × ℕ)} (Some at) (option_map (λ (r : Route). (r.exchange, r.code)) o) → (r : Route) × (o ≡ Some r) × (at.0 ≡ r.exchange) × (at.1 ≡ r.code)
route_there None at e = absurd (let z : ⊥ = cc in z)
route_there (Some r) at e = let same : ◌≡◌ {A = ℕ × ℕ} at (r.exchange, r.code) = cc in (r, refl, ap (λ (z : ℕ × ℕ). z.0) same, ap (λ (z : ℕ × ℕ). z.1) same)

abbrev pub route_head : List ℕ → List ℕ → List ℕ
route_head name figures = codes "ROUTE " ++ (name ++ (codes " " ++ (figures ++ [])))

abbrev pub route_end : Plan → List ℕ → List ℕ
route_end p groups = flat_map (λ g. codes " " ++ group_name p g) groups ++ codes "\n"

-- the route of an exchange for a code
pub named_route : (p : Plan) (x c : ℕ) (name figures groups : List ℕ) → name ≡ exchange_name p x → figures ≡ figures_of p c → groups ≡ route_list p x c
    → line_written (route_words p (record { exchange = x; code = c; groups = route_list p x c })) ≡ route_head name figures ++ route_end p groups
named_route p x c name figures groups n f l = rw (l, n, f) (route_line p (exchange_name p x) (figures_of p c) (route_list p x c))

-- the route at an index is that of its exchange for its code
pub route_placed : (p : Plan) (i : ℕ) (at : ℕ × ℕ) → IsPlan p → ◌≡◌ {A = Option (ℕ × ℕ)} (Some at) (option_map (λ (r : Route). (r.exchange, r.code)) (slice_get p.routes i))
    → line_at (route_words p) p.routes i ≡ line_written (route_words p (record { exchange = at.0; code = at.1; groups = route_list p at.0 at.1 }))
route_placed p i at h e =
    let q = route_there (slice_get p.routes i) at e in
    let r = q.0 in
    let listed : r.groups ≡ route_list p at.0 at.1 = sym (list_found p i r h q.1) ∙ (λ k. route_list p (sym q.2 k) (sym q.3 k)) in
    ap (λ (o : Option Route). option_map_or (λ z. line_written (route_words p z)) o []) q.1
    ∙ (λ k. line_written (route_words p (record { exchange = sym q.2 k; code = sym q.3 k; groups = listed k })))
