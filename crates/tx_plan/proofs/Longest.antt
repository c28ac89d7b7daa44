-- The longest code, from the last index down.
use Rattle.tx_plan.proofs.Common.{◌≡◌, ℕ, zero, suc, ◌+◌, ◌-◌, ◌<◌, ◌≤◌, Bool, true, false, not, ◌&&◌, ◌||◌, List, [], ◌∷◌, drop, length, Option, Some, None, inl, inr, refl, ap, sym, ◌∙◌, subst, arith, enumerate_from, option_map, option_map_or, Plan, Code, figures_of, Among}
use Rattle.std.specs.Prelude.{filter, if◌then◌else◌, is_some, is_none, nat_lt, slice_get}
use Rattle.tx_plan.specs.Codes.{is_prefix, longer, longest}

pub longest_among : (es : List (ℕ × Code)) (e : ℕ × Code) → longest es ≡ Some e → Among e es
longest_among [] e h = let bad : ⊥ = cc in absurd bad
longest_among (d ∷ es) e h = by (longest es) (longest_among es) h
  where
    by : (o : Option (ℕ × Code)) → ((f : ℕ × Code) → o ≡ Some f → Among f es) → longer d o ≡ Some e → Among e (d ∷ es)
    by None k h = let s : d ≡ e = cc in inl s
    by (Some f) k h =
        elim (nat_lt (length f.1.figures) (length d.1.figures)) as (λ b. (if b then Some d else Some f) ≡ Some e → Among e (d ∷ es)) [
          | true ↦ λ m. let s : d ≡ e = cc in inl s
          | false ↦ λ m. let s : e ≡ f = cc in inr (subst (λ w. Among w es) (sym s) (k f refl))
        ] h

-- the codes from an index on that begin the figures
abbrev pub codes_from : Plan → List ℕ → ℕ → List (ℕ × Code)
codes_from p keyed index = filter (λ e. is_prefix e.1.figures keyed) (enumerate_from index (drop index p.codes))

abbrev pub width_of : Option (ℕ × Code) → ℕ
width_of None = 0
width_of (Some e) = length e.1.figures

pub record IsBest (p : Plan) (keyed : List ℕ) (index : ℕ) (best : Option ℕ) (width : ℕ) : Type 0 where
  pub within : index ≤ length p.codes
  pub code : option_map (λ e. e.0) (longest (codes_from p keyed index)) ≡ best
  pub width_is : width_of (longest (codes_from p keyed index)) ≡ width

module _ (p : Plan) (keyed : List ℕ) (index : ℕ) (best : Option ℕ) (width : ℕ) where
  row_at : (cs : List Code) (n : ℕ) → n < length cs → (c : Code) × (slice_get cs n ≡ Some c) × (drop n cs ≡ c ∷ drop (suc n) cs)
  row_at [] n h = absurd (omega arith)
  row_at (c ∷ cs) zero h = (c, refl, refl)
  row_at (c ∷ cs) (suc n) h = row_at cs n (omega arith)

  -- at one code more
  from_row : suc index ≤ length p.codes → (c : Code) × (figures_of p index ≡ c.figures) × (codes_from p keyed index ≡ (if is_prefix c.figures keyed then (index, c) ∷ codes_from p keyed (suc index) else codes_from p keyed (suc index)))
  from_row h =
      let r = row_at p.codes index (omega arith) in (
        r.0,
        ap (λ o. option_map_or (λ c. c.figures) o []) r.1,
        ap (λ cs. filter (λ e. is_prefix e.1.figures keyed) (enumerate_from index cs)) r.2
            ∙ ap (λ n. if is_prefix r.0.figures keyed then (index, r.0) ∷ filter (λ e. is_prefix e.1.figures keyed) (enumerate_from n (drop (suc index) p.codes)) else filter (λ e. is_prefix e.1.figures keyed) (enumerate_from n (drop (suc index) p.codes))) (let q : index + 1 ≡ suc index = omega arith in q),
      )

  abbrev pub is_longer : Bool
  is_longer = is_prefix (figures_of p index) keyed && (is_none best || nat_lt width (length (figures_of p index)))

  pub best_step : IsBest p keyed (suc index) best width → (b : Bool) → is_longer ≡ b → IsBest p keyed index (if b then Some index else best) (if b then length (figures_of p index) else width)
  best_step inv b is =
      let r = from_row inv.within in
      let t = ap (λ f. is_prefix f keyed && (is_none best || nat_lt width (length f))) (sym r.1) ∙ is in
      let found = at r.0 (longest (codes_from p keyed (suc index))) inv.code inv.width_is (is_prefix r.0.figures keyed) refl b t in
      record {
        within = (let w = inv.within in omega arith);
        code = ap (λ es. option_map (λ e. e.0) (longest es)) r.2 ∙ ap (option_map (λ e. e.0)) (pick r.0 (is_prefix r.0.figures keyed)) ∙ found.0;
        width_is = ap (λ es. width_of (longest es)) r.2 ∙ ap width_of (pick r.0 (is_prefix r.0.figures keyed)) ∙ found.1 ∙ ap (λ f. if b then length f else width) (sym r.1);
      }
    where
      pick : (c : Code) (t : Bool) → longest (if t then (index, c) ∷ codes_from p keyed (suc index) else codes_from p keyed (suc index)) ≡ (if t then longer (index, c) (longest (codes_from p keyed (suc index))) else longest (codes_from p keyed (suc index)))
      pick c true = refl
      pick c false = refl

      at : (c : Code) (o : Option (ℕ × Code)) → option_map (λ e. e.0) o ≡ best → width_of o ≡ width → (t : Bool) → is_prefix c.figures keyed ≡ t → (b : Bool) → (t && (is_none best || nat_lt width (length c.figures))) ≡ b → (option_map (λ e. e.0) (if t then longer (index, c) o else o) ≡ (if b then Some index else best)) × (width_of (if t then longer (index, c) o else o) ≡ (if b then length c.figures else width))
      at c o e w false q true i = let bad : ⊥ = cc in absurd bad
      at c o e w false q false i = (e, w)
      at c None e w true q b i = none b (ap (λ z. is_none z || nat_lt width (length c.figures)) e ∙ i)
        where
          none : (b : Bool) → true ≡ b → (Some index ≡ (if b then Some index else best)) × (length c.figures ≡ (if b then length c.figures else width))
          none true i = (refl, refl)
          none false i = let bad : ⊥ = cc in absurd bad
      at c (Some f) e w true q b i = some b (ap (λ z. z || nat_lt (length f.1.figures) (length c.figures)) (ap is_none e) ∙ ap (λ n. is_none best || nat_lt n (length c.figures)) w ∙ i)
        where
          some : (b : Bool) → nat_lt (length f.1.figures) (length c.figures) ≡ b → (option_map (λ e. e.0) (if nat_lt (length f.1.figures) (length c.figures) then Some (index, c) else Some f) ≡ (if b then Some index else best)) × (width_of (if nat_lt (length f.1.figures) (length c.figures) then Some (index, c) else Some f) ≡ (if b then length c.figures else width))
          some true i = (ap (λ z. option_map (λ e. e.0) (if z then Some (index, c) else Some f)) i, ap (λ z. width_of (if z then Some (index, c) else Some f)) i)
          some false i = (ap (λ z. option_map (λ e. e.0) (if z then Some (index, c) else Some f)) i ∙ e, ap (λ z. width_of (if z then Some (index, c) else Some f)) i ∙ w)

pub best_found : (p : Plan) (keyed : List ℕ) (index : ℕ) (best : Option ℕ) (width : ℕ) → IsBest p keyed index best width → 0 < index → (code : ℕ) → code ≡ index - 1 → (text : List ℕ) → text ≡ figures_of p code → (first : Bool) → first ≡ is_none best → (b : Bool) → b ≡ (is_prefix text keyed && (first || nat_lt width (length text))) → IsBest p keyed (index - 1) (if b then Some code else best) (if b then length text else width)
best_found p keyed index best width inv h code e text f first g b i =
    let up : suc code ≡ index = omega arith in
    let t : is_longer p keyed code best width ≡ b = ap (λ (w : List ℕ). is_prefix w keyed && (is_none best || nat_lt width (length w))) (sym f) ∙ ap (λ z. is_prefix text keyed && (z || nat_lt width (length text))) (sym g) ∙ sym i in
    let r = best_step p keyed code best width (subst (λ n. IsBest p keyed n best width) (sym up) inv) b t in
    subst (λ n. IsBest p keyed n (if b then Some code else best) (if b then length text else width)) e (subst (λ (w : List ℕ). IsBest p keyed code (if b then Some code else best) (if b then length w else width)) (sym f) r)

pub none_is : (o : Option ℕ) (r : Bool) → is_some o ≡ not r → r ≡ is_none o
none_is None true e = refl
none_is None false e = let bad : ⊥ = cc in absurd bad
none_is (Some x) true e = let bad : ⊥ = cc in absurd bad
none_is (Some x) false e = refl
