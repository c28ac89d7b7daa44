-- Risks of one plan as risks of another.
use Rattle.tx_risk.proofs.Common.{◌≡◌, ◌≢◌, ◌<◌, ◌+◌, ◌∙◌, ℕ, zero, suc, Bool, false, List, [], ◌∷◌, ◌++◌, map, take, get_or, length, Option, Some, None, refl, sym, ap, bytes_eq, map-append, take_more, Plan, group_name, group_named, EachPair}
use Rattle.std.specs.List.{AllByRecursion, filter_map, cons_option, list_any, slice_get}
use Rattle.std.proofs.lemmas.List.Elements.{filter_map-append}
use Rattle.tx_plan.proofs.ByIndex.{all_at, take_next, bytes_apart, entry_at, index_within}
use Rattle.tx_risk.specs.NamedRisks.{NamedRisk, AreRisksFor, AreWithin, risk_name, named_groups, names_unknown, risk_in, risks_in}

-- what is found of one element more
pub found_next : (h : ℕ → Option ℕ) (xs : List ℕ) (i x : ℕ) (o : Option ℕ) (old new : List ℕ)
    → i < length xs → x ≡ get_or xs i x → old ≡ filter_map h (take i xs) → h x ≡ o
    → new ≡ old ++ cons_option o [] → new ≡ filter_map h (take (i + 1) xs)
found_next h xs i x o old new low at so is more =
    more ∙ ap (λ l. l ++ cons_option o []) so
    ∙ ap (λ k. filter_map h (take i xs) ++ cons_option k []) (sym is)
    ∙ sym (filter_map-append h (take i xs) (x ∷ []))
    ∙ ap (filter_map h) (ap (λ y. take i xs ++ y ∷ []) at ∙ sym (take_more xs i x low))

module _ (q p : Plan) where
  -- a risk of which no one before has the name
  fresh_at : (risks : List NamedRisk) (i : ℕ) (r : NamedRisk) → EachPair (λ r s. r.name ≢ s.name) risks
      → slice_get risks i ≡ Some r
      → list_any (λ s. bytes_eq r.name s.name) (map (risk_in q p) (take i risks)) ≡ false
  fresh_at risks zero r d e = refl
  fresh_at [] (suc i) r d e = refl
  fresh_at (s ∷ risks) (suc i) r d e =
      let apart = bytes_apart r.name s.name
      (λ same. all_at (λ (t : NamedRisk). s.name ≢ t.name) risks i r d.0 e (sym same)) in
      rw apart (fresh_at risks i r d.1 e)

  pub fresh : (risks new : List NamedRisk) (i : ℕ) → AreRisksFor q risks → i < length risks
      → new ≡ map (risk_in q p) (take i risks)
      → list_any (λ r. bytes_eq (risk_name risks i) r.name) new ≡ false
  fresh risks new i ok low e =
      let r = entry_at risks i low in
      rw (r.1, e) (fresh_at risks i r.0 ok.differ r.1)

  -- one risk more
  pub risks_next : (risks old new : List NamedRisk) (i : ℕ) (groups : List ℕ)
      (unknown : Bool) → i < length risks
      → old ≡ map (risk_in q p) (take i risks)
      → groups ≡ filter_map (λ g. group_named p (group_name q g)) (named_groups risks i)
      → unknown ≡ names_unknown risks i
      → new ≡ old ++ record { name = risk_name risks i; groups = groups; unknown = unknown } ∷ []
      → new ≡ map (risk_in q p) (take (i + 1) risks)
  risks_next risks old new i groups unknown low so is told more =
      let r = entry_at risks i low in
      let one : groups ≡ (risk_in q p r.0).groups = rw r.1 at is in
      let name : risk_name risks i ≡ r.0.name = rw r.1 refl in
      let others : unknown ≡ r.0.unknown = rw r.1 at told in
      more ∙ ap (λ l. l ++ record { name = risk_name risks i; groups = groups; unknown = unknown } ∷ []) so
      ∙ (λ k. map (risk_in q p) (take i risks)
      ++ record { name = name k; groups = one k; unknown = others k } ∷ [])
      ∙ sym (map-append (risk_in q p) (take i risks) (r.0 ∷ []))
      ∙ ap (map (risk_in q p)) (sym (take_next risks i r.0 r.1))

module _ (p : Plan) where
  -- THE GROUPS THAT NAMES NAME ARE THE PLAN'S
  found_more : (name rest : List ℕ) → AllByRecursion (λ g. g < length p.groups) rest
      → (o : Option ℕ) → group_named p name ≡ o
      → AllByRecursion (λ g. g < length p.groups) (cons_option o rest)
  found_more name rest h None e = h
  found_more name rest h (Some g) e = (index_within _ p.groups g e, h)

  pub named_within : {A : Type 0} (f : A → List ℕ) (xs : List A)
      → AllByRecursion (λ g. g < length p.groups) (filter_map (λ x. group_named p (f x)) xs)
  named_within f [] = tt
  named_within f (x ∷ xs) = found_more (f x) _ (named_within f xs) (group_named p (f x)) refl

pub all_within : (q p : Plan) (risks : List NamedRisk) → AreWithin p (risks_in q p risks)
all_within q p [] = tt
all_within q p (r ∷ risks) = (named_within p (group_name q) r.groups, all_within q p risks)
