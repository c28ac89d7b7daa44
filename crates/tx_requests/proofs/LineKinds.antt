-- What a line adds to a plan: a code, a group, or neither.
use Rattle.std.proofs.Common.{◌≡◌, ◌⊎◌, ℕ, ◌==◌, Bool, true, false, ◌&&◌, ◌||◌, cond, Option, None, Some, List, [], ◌∷◌, ◌++◌, Ok, Err, codes, inl, inr, refl, sym, ap, ◌∙◌}
use Rattle.std.specs.List.{list_any}
use Rattle.std.specs.Str.{bytes_eq}
use Rattle.std.proofs.lemmas.Bool.{or_cases, false≢true}
use Rattle.std.proofs.lemmas.List.Folds.{list_any-append}
use Rattle.std.proofs.lemmas.Slice.Eq.{bytes_eq-Decides}
use Rattle.tx_plan.specs.declared.refusal.PlanRefusal.{PlanRefusal}
use Rattle.tx_plan.specs.declared.ids.Direction.{Direction}
use Rattle.tx_plan.specs.Plan.{Plan, Code, Group}
use Rattle.tx_plan.specs.Declaring.{has_code, has_group}
use Rattle.tx_plantext.specs.declared.fault.PlanWord.{PlanWord}
use Rattle.tx_plantext.specs.PlanText.{Said, unless, declare, exchange_line, code_line, lines_line, group_line, group_by, route_line, bar_line, direction_of, count_of}

-- words that begin with these two
abbrev pub Begins : (word name : List ℕ) → List (List ℕ) → Type 0
Begins word name ws = (rest : List (List ℕ)) × (ws ≡ word ∷ name ∷ rest)

-- one entry more: it has the name, or one before it
grown : {A : Type 0} (key : A → List ℕ) (name : List ℕ) (xs : List A) (x : A)
    → list_any (λ y. bytes_eq name (key y)) (xs ++ x ∷ []) ≡ true
    → (list_any (λ y. bytes_eq name (key y)) xs ≡ true) ⊎ (name ≡ key x)
grown {A} key name xs x h =
    let t = λ (y : A). bytes_eq name (key y) in
    elim (or_cases (list_any t xs) (t x || false) (sym (list_any-append t xs (x ∷ [])) ∙ h)) [
      | inl a ↦ inl a
      | inr b ↦ elim (or_cases (t x) false b) [ inl e ↦ inr ((bytes_eq-Decides name (key x)).0 e) | inr bad ↦ absurd (false≢true bad) ]
    ]

module _ (m : Plan) where
  no_err : {X : Type 0} (x : PlanWord) → ◌≡◌ {A = Said} (Err x) (Ok m) → X
  no_err x h = let z : ⊥ = cc in absurd z

  -- nothing refused it
  made : (r : Option PlanRefusal) (q : Plan) → unless r q ≡ Ok m → q ≡ m
  made None q h = cc
  made (Some x) q h = no_err _ h

  -- a test that was passed, or not
  tested : {X : Type 0} (b : Bool) (x y : Said) → (b ≡ true → x ≡ Ok m → X) → (y ≡ Ok m → X) → cond b x y ≡ Ok m → X
  tested true x y f g h = f refl h
  tested false x y f g h = g h

  module _ (name : List ℕ) (p : Plan) where
    -- what m has of this name the plan p has, or a line of these words begins with it
    pub record Grows (ws : List (List ℕ)) : Type 0 where
      pub code : has_code m name ≡ true → (has_code p name ≡ true) ⊎ Begins (codes "CODE") name ws
      pub group : has_group m name ≡ true → (has_group p name ≡ true) ⊎ Begins (codes "GROUP") name ws

    -- a plan that has the codes and the groups of p
    kept : {ws : List (List ℕ)} (q : Plan) → q ≡ m → has_code q name ≡ has_code p name → has_group q name ≡ has_group p name → Grows ws
    kept q e c g = record {
      code = λ h. inl (sym c ∙ ap (λ (r : Plan). has_code r name) e ∙ h);
      group = λ h. inl (sym g ∙ ap (λ (r : Plan). has_group r name) e ∙ h);
    }

    exchange_kind : (ws us : List (List ℕ)) → exchange_line p ws ≡ Ok m → Grows us
    exchange_kind [] us h = no_err _ h
    exchange_kind (x ∷ []) us h = kept _ (made _ _ h) refl refl
    exchange_kind (x ∷ y ∷ ws) us h = no_err _ h

    code_kind : (w : List ℕ) (ws : List (List ℕ)) → w ≡ codes "CODE" → code_line p ws ≡ Ok m → Grows (w ∷ ws)
    code_kind w [] e h = no_err _ h
    code_kind w (a ∷ []) e h = no_err _ h
    code_kind w (a ∷ b ∷ []) e h =
        let is = made _ _ h in
        record {
          code = λ k. elim (grown (λ (c : Code). c.figures) name p.codes _ (ap (λ (r : Plan). has_code r name) is ∙ k)) [
            | inl old ↦ inl old
            | inr s ↦ inr (b ∷ [], λ i. e i ∷ sym s i ∷ b ∷ [])
          ];
          group = λ k. inl (ap (λ (r : Plan). has_group r name) is ∙ k);
        }
    code_kind w (a ∷ b ∷ c ∷ ws) e h = no_err _ h

    lines_kind : (ws us : List (List ℕ)) → lines_line p ws ≡ Ok m → Grows us
    lines_kind [] us h = no_err _ h
    lines_kind (a ∷ []) us h = no_err _ h
    lines_kind (a ∷ b ∷ []) us h = no_err _ h
    lines_kind (a ∷ b ∷ c ∷ []) us h = kept _ (made _ _ h) refl refl
    lines_kind (a ∷ b ∷ c ∷ d ∷ ws) us h = no_err _ h

    group_by_kind : (w a b c : List ℕ) (o : Option Direction) (n : ℕ) (rest : List (List ℕ)) → w ≡ codes "GROUP" → group_by p a b c o n ≡ Ok m → Grows (w ∷ a ∷ rest)
    group_by_kind w a b c None n rest e h = no_err _ h
    group_by_kind w a b c (Some d) n rest e h =
        let is = made _ _ h in
        record {
          code = λ k. inl (ap (λ (r : Plan). has_code r name) is ∙ k);
          group = λ k. elim (grown (λ (g : Group). g.name) name p.groups _ (ap (λ (r : Plan). has_group r name) is ∙ k)) [
            | inl old ↦ inl old
            | inr s ↦ inr (rest, λ i. e i ∷ sym s i ∷ rest)
          ];
        }

    group_kind : (w : List ℕ) (ws : List (List ℕ)) → w ≡ codes "GROUP" → group_line p ws ≡ Ok m → Grows (w ∷ ws)
    group_kind w [] e h = no_err _ h
    group_kind w (a ∷ []) e h = no_err _ h
    group_kind w (a ∷ b ∷ []) e h = no_err _ h
    group_kind w (a ∷ b ∷ c ∷ []) e h = no_err _ h
    group_kind w (a ∷ b ∷ c ∷ d ∷ []) e h = no_err _ h
    group_kind w (a ∷ b ∷ c ∷ d ∷ f ∷ []) e h = group_by_kind w a b c (direction_of d) (count_of f) _ e h
    group_kind w (a ∷ b ∷ c ∷ d ∷ f ∷ g ∷ ws) e h = no_err _ h

    route_kind : (ws us : List (List ℕ)) → route_line p ws ≡ Ok m → Grows us
    route_kind [] us h = no_err _ h
    route_kind (a ∷ []) us h = no_err _ h
    route_kind (a ∷ b ∷ gs) us h = kept _ (made _ _ h) refl refl

    bar_kind : (ws us : List (List ℕ)) → bar_line p ws ≡ Ok m → Grows us
    bar_kind [] us h = no_err _ h
    bar_kind (a ∷ []) us h = no_err _ h
    bar_kind (a ∷ b ∷ []) us h = kept _ (made _ _ h) refl refl
    bar_kind (a ∷ b ∷ c ∷ ws) us h = no_err _ h

    pub grows : (v : ℕ) (ws : List (List ℕ)) → declare v p ws ≡ Ok m → Grows ws
    unfolding declare
    grows v [] h = no_err _ h
    grows v (w ∷ ws) h =
        tested (bytes_eq w (codes "EXCHANGE")) _ _ (λ e k. exchange_kind ws _ k)
        (λ k. tested (bytes_eq w (codes "CODE")) _ _ (λ e q. code_kind w ws ((bytes_eq-Decides w _).0 e) q)
        (λ k. tested (bytes_eq w (codes "LINES")) _ _ (λ e q. lines_kind ws _ q)
        (λ k. tested (bytes_eq w (codes "GROUP")) _ _ (λ e q. group_kind w ws ((bytes_eq-Decides w _).0 e) q)
        (λ k. tested (bytes_eq w (codes "ROUTE")) _ _ (λ e q. route_kind ws _ q)
        (λ k. tested ((v == 2) && bytes_eq w (codes "BAR")) _ _ (λ e q. bar_kind ws _ q)
        (λ k. tested (bytes_eq w (codes "END")) _ _ (λ e q. no_err _ q) (λ q. no_err _ q) k) k) k) k) k) k) h
