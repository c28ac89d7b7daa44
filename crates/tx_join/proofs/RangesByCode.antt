-- The lines of a code as one range, by the index of the code.
use Rattle.tx_join.proofs.Common.{◌≡◌, ℕ, ◌<◌, true, false, ◌&&◌, ◌==◌, List, [], length, Some, None, is_some, sym, ap, ◌∙◌, eqb-true, eq-eqb, list_any, option_map_or, bytes_eq, false_from_ne_true, slice_get-get_or, bytes_eq-Decides, Plan, Code, code_named, figures_of, IsPlan, all_map, code_back, is_range, has_range, is_range_of}
use Rattle.std.proofs.lemmas.Bool.Decides.{same_from_decides}
use Rattle.std.proofs.lemmas.List.Quantifiers.{position-Some}
use Rattle.tx_join.proofs.Found.{find_same, find_fails, any_find}

module _ (p : Plan) (ok : IsPlan p) (figures : List ℕ) where
  -- the code of some figures has these figures
  figures_back : (c : ℕ) → code_named p figures ≡ Some c → figures_of p c ≡ figures
  figures_back c e =
      let none : Code = record { figures = []; home = 0 } in
      let at = position-Some (λ (k : Code). bytes_eq figures k.figures) p.codes c none e in
      ap (λ o. option_map_or (λ (k : Code). k.figures) o []) (slice_get-get_or p.codes c none at.0) ∙ sym ((bytes_eq-Decides figures _).0 at.1)

  -- a code of these figures is the one that they name
  index_back : (d c : ℕ) → d < length p.codes → code_named p figures ≡ Some c → bytes_eq (figures_of p d) figures ≡ true → d ≡ c
  index_back d c l e h =
      let same : Some d ≡ Some c = sym (code_back p ok d l).back ∙ ap (code_named p) ((bytes_eq-Decides (figures_of p d) figures).0 h) ∙ e in
      cc

  same_code : (d c : ℕ) → d < length p.codes → code_named p figures ≡ Some c → bytes_eq (figures_of p d) figures ≡ (d == c)
  same_code d c l e = same_from_decides (bytes_eq (figures_of p d) figures) (d == c)
      (λ h. index_back d c l e h, λ h. (bytes_eq-Decides (figures_of p d) figures).1 (ap (figures_of p) h ∙ figures_back c e))
      (eqb-true d c, eq-eqb d c)

  module _ (low high : List ℕ) where
    pub range_by_index : (c : ℕ) → code_named p figures ≡ Some c → list_any (is_range_of c low high) p.ranges ≡ has_range p figures low high
    range_by_index c e =
        let is = is_range p figures low high in
        let by = is_range_of c low high in
        sym (any_find is p.ranges
        ∙ ap is_some (find_same is by p.ranges (all_map p.ranges (λ r h. ap (λ b. b && (bytes_eq r.low low && bytes_eq r.high high)) (same_code r.code c h.code e)) ok.ranges))
        ∙ sym (any_find by p.ranges))

    pub range_of_no_code : code_named p figures ≡ None → has_range p figures low high ≡ false
    range_of_no_code e =
        let is = is_range p figures low high in
        any_find is p.ranges ∙ ap is_some (find_fails is p.ranges (all_map p.ranges (λ r h. ap (λ b. b && (bytes_eq r.low low && bytes_eq r.high high)) (other r.code h.code)) ok.ranges))
      where
        other : (d : ℕ) → d < length p.codes → bytes_eq (figures_of p d) figures ≡ false
        other d l = false_from_ne_true (bytes_eq (figures_of p d) figures)
            (λ h. let bad : Some d ≡ None = sym (code_back p ok d l).back ∙ ap (code_named p) ((bytes_eq-Decides (figures_of p d) figures).0 h) ∙ e in cc)
