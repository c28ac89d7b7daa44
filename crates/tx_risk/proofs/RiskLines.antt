-- A line of risks declares risks for the plan.
use Rattle.std.proofs.Common.{◌≡◌, ◌≢◌, ℕ, ◌==◌, ◌&&◌, Bool, true, false, not, List, [], ◌∷◌, ◌++◌, inl, inr, Option, Some, None, Result, Ok, Err, IfErr, refl, sym, ap, ◌∙◌, subst, codes}
use Rattle.tx_risk.proofs.Common.{and_parts, both_ways, not-true, not-false, if◌then◌else◌, list_any, filter_map, AllByRecursion, bytes_eq, Plan, group_named, has_group, EachPair, among_cases, all_among, among_all, pairs_put, none_any, Declared}
use Rattle.std.specs.List.{cons_option}
use Rattle.std.proofs.lemmas.Bool.{or_parts}
use Rattle.std.proofs.lemmas.List.Quantifiers.{position-Some}
use Rattle.tx_plan.specs.Plan.{Group}
use Rattle.tx_plan.specs.declared.ids.Direction.TheVariants.{OneWay}
use Rattle.tx_risk.proofs.RisksIn.{named_within}
use Rattle.std.proofs.lemmas.Slice.Eq.{bytes_eq-Decides}
use Rattle.tx_text.specs.Words.{is_name}
use Rattle.tx_plan.proofs.Lists.{placed}
use Rattle.tx_plan.specs.Declaring.{first_true, none_twice}
use Rattle.tx_risk.specs.NamedRisks.{NamedRisk, IsNamedRisk, AreRisksFor}
use Rattle.tx_risk.specs.declared.fault.RiskWord.TheVariants.{UnknownWord, WrongCount, BadName, Duplicate, UnknownName, RepeatedGroup}
use Rattle.tx_risk.specs.declared.fault.RiskWord.{RiskWord}
use Rattle.tx_risk.specs.RiskText.{declare, has_unknown, risk_line, with_risk, unless, is_memory}

pub no_risks : (p : Plan) (risks : List NamedRisk) → risks ≡ [] → AreRisksFor p risks
no_risks p risks e = subst (AreRisksFor p) (sym e) (record { each = tt; differ = tt })

module _ (p : Plan) where
  -- two words that name one group are one
  one_word : (v w : List ℕ) (g : ℕ) → group_named p v ≡ Some g → group_named p w ≡ Some g
      → bytes_eq v w ≡ true
  one_word v w g d e =
      let none : Group = record { name = []; a = 0; b = 0; direction = OneWay; count = 0 } in
      let a = (position-Some (λ (r : Group). bytes_eq v r.name) p.groups g none d).1 in
      let b = (position-Some (λ (r : Group). bytes_eq w r.name) p.groups g none e).1 in
      (bytes_eq-Decides v w).1 ((bytes_eq-Decides _ _).0 a ∙ sym ((bytes_eq-Decides _ _).0 b))

  -- another group than those that other words name
  apart_from : (v : List ℕ) (g : ℕ) (ws : List (List ℕ)) → group_named p v ≡ Some g
      → list_any (bytes_eq v) ws ≡ false
      → AllByRecursion (λ h. g ≢ h) (filter_map (group_named p) ws)
  apart_from v g [] d h = tt
  apart_from v g (w ∷ ws) d h =
      let n = or_parts (bytes_eq v w) (list_any (bytes_eq v) ws) h in
      by _ refl n.0 (apart_from v g ws d n.1)
    where
      by : (o : Option ℕ) → group_named p w ≡ o → bytes_eq v w ≡ false
          → AllByRecursion (λ h. g ≢ h) (filter_map (group_named p) ws)
          → AllByRecursion (λ h. g ≢ h) (cons_option o (filter_map (group_named p) ws))
      by None e n k = k
      by (Some h) e n k = (λ s. both_ways _ n (one_word v w h (d ∙ ap Some s) e), k)

  -- words none of which stands there twice name no group twice
  groups_differ : (ws : List (List ℕ)) → none_twice ws ≡ true
      → EachPair (λ g h. g ≢ h) (filter_map (group_named p) ws)
  groups_differ [] t = tt
  groups_differ (w ∷ ws) t =
      let b = and_parts (not (list_any (bytes_eq w) ws)) (none_twice ws) t in
      by _ refl (groups_differ ws b.1) (not-true _ b.0)
    where
      by : (o : Option ℕ) → group_named p w ≡ o
          → EachPair (λ g h. g ≢ h) (filter_map (group_named p) ws)
          → list_any (bytes_eq w) ws ≡ false
          → EachPair (λ g h. g ≢ h) (cons_option o (filter_map (group_named p) ws))
      by None e k n = k
      by (Some g) e k n = (apart_from w g ws e n, k)

  -- one or more, if each word names one
  names_some : (w : List ℕ) (ws : List (List ℕ)) → has_unknown p (w ∷ ws) ≡ false
      → filter_map (group_named p) (w ∷ ws) ≢ []
  names_some w ws known e =
      let n = or_parts (not (has_group p w)) (has_unknown p ws) known in
      let is = placed (λ (g : Group). bytes_eq w g.name) p.groups (not-false _ n.0) in
      let bad : ⊥ = let t = rw is at e in cc in bad

module _ (p : Plan) (risks : List NamedRisk) (name : List ℕ) (u : List ℕ) (us : List (List ℕ))
    (proper : not (is_name name) ≡ false)
    (own : list_any (λ (r : NamedRisk). bytes_eq name r.name) risks ≡ false)
    (once : not (none_twice (u ∷ us)) ≡ false) where
  abbrev added : NamedRisk
  added = record {
    name = name;
    groups = filter_map (group_named p) (u ∷ us);
    unknown = has_unknown p (u ∷ us);
  }

  fits : IsNamedRisk p added
  fits = record {
    name = not-false _ proper;
    some = names_some p u us;
    known = named_within p (λ w. w) (u ∷ us);
    differ = groups_differ p (u ∷ us) (not-false _ once);
  }

  pub added_fits : AreRisksFor p risks → AreRisksFor p (with_risk p risks name (u ∷ us))
  added_fits ok = record {
    each = among_all (IsNamedRisk p) (risks ++ added ∷ [])
        (λ r m. elim (among_cases r risks (added ∷ []) m) [
          | inl a ↦ all_among (IsNamedRisk p) risks r ok.each a
          | inr b ↦ elim b [ inl e ↦ subst (IsNamedRisk p) e fits | inr z ↦ absurd z ]
        ]);
    differ = pairs_put (λ (r s : NamedRisk). r.name ≢ s.name) risks added ok.differ
        (among_all (λ (r : NamedRisk). r.name ≢ name) risks (λ r m e.
        both_ways _ (none_any (λ (r : NamedRisk). bytes_eq name r.name) risks r own m)
        ((bytes_eq-Decides name r.name).1 (sym e))));
  }

ok_is : {A E : Type 0} {a b : A} → ◌≡◌ {A = Result A E} (Ok a) (Ok b) → a ≡ b
ok_is e = cc

no_ok : {A E : Type 0} {a : A} {x : E} → ◌≡◌ {A = Result A E} (Err x) (Ok a) → ⊥
no_ok e = cc

line_fits : (p : Plan) (v : ℕ) (risks new : List NamedRisk) (ws : List (List ℕ))
    → AreRisksFor p risks → risk_line p v risks ws ≡ Ok new → AreRisksFor p new
line_fits p v risks new [] ok e = absurd (no_ok e)
line_fits p v risks new (name ∷ []) ok e = absurd (no_ok e)
line_fits p v risks new (name ∷ u ∷ us) ok e = by _ _ _ _ refl refl refl refl e
  where
    by : (a b c d : Bool) → not (is_name name) ≡ a
        → list_any (λ (r : NamedRisk). bytes_eq name r.name) risks ≡ b
        → ((v == 1) && has_unknown p (u ∷ us)) ≡ c → not (none_twice (u ∷ us)) ≡ d
        → unless (first_true ((a, BadName) ∷ (b, Duplicate) ∷ (c, UnknownName) ∷
        (d, RepeatedGroup) ∷ []))
        (with_risk p risks name (u ∷ us)) ≡ Ok new → AreRisksFor p new
    by true b c d qa qb qc qd e = absurd (no_ok e)
    by false true c d qa qb qc qd e = absurd (no_ok e)
    by false false true d qa qb qc qd e = absurd (no_ok e)
    by false false false true qa qb qc qd e = absurd (no_ok e)
    by false false false false qa qb qc qd e =
        subst (AreRisksFor p) (ok_is e) (added_fits p risks name u us qa qb qd ok)

pub risk_fits : (p : Plan) (v : ℕ) (risks new : List NamedRisk) (ws : List (List ℕ))
    → AreRisksFor p risks → declare p v risks ws ≡ Ok new → AreRisksFor p new
unfolding declare
risk_fits p v risks new [] ok e = absurd (no_ok e)
risk_fits p v risks new (w ∷ ws) ok e =
    elim (bytes_eq w (codes "RISK")) as (λ b. (if b then risk_line p v risks ws
    else if bytes_eq w (codes "END") then Err WrongCount else Err UnknownWord) ≡ Ok new
    → AreRisksFor p new) [
      | true ↦ λ e. line_fits p v risks new ws ok e
      | false ↦ λ e. elim (bytes_eq w (codes "END")) as (λ b. (if b then Err WrongCount
          else Err UnknownWord) ≡ Ok new → AreRisksFor p new) [
            | true ↦ λ e. absurd (no_ok e)
            | false ↦ λ e. absurd (no_ok e)
          ] e
    ] e

-- what a line leaves
pub line_keeps : (p : Plan) (v : ℕ) (risks new : List NamedRisk) (ws : List (List ℕ))
    (r : Result (Unit {0}) RiskWord) → AreRisksFor p risks
    → Declared is_memory (declare p v risks ws) new r → IfErr r (λ _. new ≡ risks)
    → AreRisksFor p new
line_keeps p v risks new ws (Ok x) ok d same = risk_fits p v risks new ws ok d
line_keeps p v risks new ws (Err x) ok d same = subst (AreRisksFor p) (sym same) ok
