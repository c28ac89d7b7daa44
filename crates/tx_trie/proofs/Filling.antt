-- The nodes, as one code of a plan after another is put in.
use Rattle.std.proofs.Common.{◌≡◌, ℕ, ◌+◌, ◌<◌, ◌≤◌, ◌==◌, Bool, true, false, ◌⊎◌, List, [], ◌∷◌, ◌++◌, take, map, length, length-set, get_or, replicate, Option, Some, None, option_map, refl, ap, sym, ◌∙◌, subst, inl, inr, eqb-true, arith}
use Rattle.std.proofs.lemmas.Bool.{eqb-false, cases_lt}
use Rattle.std.proofs.lemmas.List.{length-replicate, get_or-replicate, get_or_past, get_or-set_same, get_or-set_other, map_push, take_all}
use Rattle.tx_trie.proofs.Common.{same_Some, Plan, Code, figures_of, home_of, code_of_row, node_of, AreFirst, IsTrie, spelled}
use Rattle.std.specs.Prelude.{slice_get, slice_set, position}
use Rattle.std.specs.Str.{bytes_eq}
use Rattle.tx_plan.specs.Rules.{IsPlan, IsCode, is_code}
use Rattle.tx_plan.proofs.ByIndex.{entry_at, all_at, index_back, take_next}
use Rattle.tx_trie.proofs.Nodes.{node_within, node_once}

-- the code at an index
pub code_is : (p : Plan) (n : ℕ) → n < length p.codes → slice_get p.codes n ≡ Some (record { figures = figures_of p n; home = home_of p n })
code_is p n within = let e = entry_at p.codes n within in let q = e.1 in rw q refl

-- one row more
pub rows_more : (p : Plan) (n : ℕ) → n < length p.codes → (rows new : List (List ℕ × ℕ)) (figures : List ℕ) (home : ℕ) → map code_of_row rows ≡ take n p.codes → new ≡ rows ++ (figures, home) ∷ [] → figures ≡ figures_of p n → home ≡ home_of p n
    → map code_of_row new ≡ take (n + 1) p.codes
rows_more p n within rows new figures home are push f h =
    ap (map code_of_row) push ∙ map_push code_of_row rows (figures, home) ∙ (λ k. are k ++ record { figures = f k; home = h k } ∷ []) ∙ sym (take_next p.codes n _ (code_is p n within))

pub is_none : {A : Type 0} (P : Option A → Type 0) → ((a : A) → P (Some a) → ⊥) → (o : Option A) → P o → o ≡ None
is_none P never None h = refl
is_none P never (Some a) h = absurd (never a h)

pub no_code : (codes : List Code) (nodes : List (Option ℕ)) → nodes ≡ replicate 2000 None → length nodes ≡ 2000 → AreFirst codes 0 nodes
no_code codes nodes bare long = record {
  long = long;
  gives = λ m i h. let none : get_or nodes m None ≡ None = ap (λ t. get_or t m None) bare ∙ nothing None 2000 m in let bad : ⊥ = cc in absurd bad;
  finds = λ i c l at. absurd (omega arith);
}
  where
    nothing : {A : Type 0} (a : A) (n m : ℕ) → get_or (replicate n a) m a ≡ a
    nothing a n m = elim (cases_lt m n) [ inl l ↦ get_or-replicate n m a a l | inr r ↦ get_or_past (replicate n a) m a (simp length-replicate (omega arith)) ]

module _ (p : Plan) (rules : IsPlan p) where
  form : (i : ℕ) (c : Code) → slice_get p.codes i ≡ Some c → is_code c.figures ≡ true
  form i c at = (all_at (IsCode p) p.codes i c rules.codes at).figures

  pub figures_form : (n : ℕ) → n < length p.codes → (figures : List ℕ) → figures ≡ figures_of p n → is_code figures ≡ true
  figures_form n within figures is = ap is_code is ∙ form n _ (code_is p n within)

  -- codes at one node are one
  one_code : (i j : ℕ) (c d : Code) → slice_get p.codes i ≡ Some c → slice_get p.codes j ≡ Some d → node_of c.figures ≡ node_of d.figures → i ≡ j
  one_code i j c d at there e =
      let same = node_once c.figures d.figures (spelled c.figures (form i c at)) (spelled d.figures (form j d there)) e in
      same_Some i j (sym (index_back (λ (r : Code). r.figures) p.codes i c rules.codes_differ at) ∙ ap (λ t. position (λ (r : Code). bytes_eq t r.figures) p.codes) same ∙ index_back (λ (r : Code). r.figures) p.codes j d rules.codes_differ there)

  -- one code more
  pub one_more : (n : ℕ) (c : Code) (nodes : List (Option ℕ)) → slice_get p.codes n ≡ Some c → AreFirst p.codes n nodes → AreFirst p.codes (n + 1) (slice_set nodes (node_of c.figures) (Some n))
  one_more n c nodes at are = record {
    long = simp length-set are.long;
    gives = λ m i h. given m i (m == node_of c.figures) refl h;
    finds = λ i d l there. found i d l there (cases_lt i n);
  }
    where
      low : node_of c.figures < length nodes
      low = let within = node_within c.figures (spelled c.figures (form n c at)) in let l = are.long in omega arith

      given : (m i : ℕ) (b : Bool) → (m == node_of c.figures) ≡ b → get_or (slice_set nodes (node_of c.figures) (Some n)) m None ≡ Some i → (i < n + 1) × (option_map (λ (c : Code). node_of c.figures) (slice_get p.codes i) ≡ Some m)
      given m i true t h =
          let e = eqb-true m (node_of c.figures) t in
          let s : Some n ≡ Some i = sym (get_or-set_same nodes (node_of c.figures) (Some n) None low) ∙ ap (λ k. get_or (slice_set nodes (node_of c.figures) (Some n)) k None) (sym e) ∙ h in
          let is = same_Some n i s in
          (omega arith, ap (λ k. option_map (λ (c : Code). node_of c.figures) (slice_get p.codes k)) (sym is) ∙ ap (option_map (λ (c : Code). node_of c.figures)) at ∙ ap Some (sym e))
      given m i false t h =
          let g = are.gives m i (sym (get_or-set_other nodes (node_of c.figures) m (Some n) None (eqb-false m (node_of c.figures) t)) ∙ h) in
          (omega (arith, g.0), g.1)

      found : (i : ℕ) (d : Code) → i < n + 1 → slice_get p.codes i ≡ Some d → (i < n) ⊎ (n ≤ i) → get_or (slice_set nodes (node_of c.figures) (Some n)) (node_of d.figures) None ≡ Some i
      found i d l there (inl before) =
          get_or-set_other nodes (node_of c.figures) (node_of d.figures) (Some n) None (λ e. let same = one_code i n d c there at e in absurd (omega arith)) ∙ are.finds i d before there
      found i d l there (inr last) =
          let same : i ≡ n = omega arith in
          let is = same_Some d c (sym there ∙ ap (slice_get p.codes) same ∙ at) in
          ap (λ (r : Code). get_or (slice_set nodes (node_of c.figures) (Some n)) (node_of r.figures) None) is ∙ get_or-set_same nodes (node_of c.figures) (Some n) None low ∙ ap Some (sym same)

  -- the same, as a write says it
  pub filled : (n : ℕ) → n < length p.codes → (nodes new : List (Option ℕ)) (at code : ℕ) (figures : List ℕ) → AreFirst p.codes n nodes → new ≡ slice_set nodes at (Some code) → at ≡ node_of figures → figures ≡ figures_of p n → code ≡ n → AreFirst p.codes (n + 1) new
  filled n within nodes new at code figures are is node text index =
      subst (AreFirst p.codes (n + 1)) (sym (is ∙ (λ k. slice_set nodes ((node ∙ ap (λ w. node_of w) text) k) (Some (index k))))) (one_more n _ nodes (code_is p n within) are)

  -- all codes
  pub all_in : (n : ℕ) (codes : List Code) (nodes : List (Option ℕ)) → n ≡ length p.codes → codes ≡ take n p.codes → AreFirst p.codes n nodes → (codes ≡ p.codes) × IsTrie codes nodes
  all_in n codes nodes end are first =
      let same : codes ≡ p.codes = are ∙ take_all n p.codes (omega arith) in
      let trie : IsTrie p.codes nodes = record { forms = form; all = subst (λ k. AreFirst p.codes k nodes) end first } in
      (same, subst (λ l. IsTrie l nodes) (sym same) trie)
