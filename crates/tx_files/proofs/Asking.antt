-- What is asked of a plan by names.
use Rattle.std.proofs.Common.{◌≡◌, ℕ, ◌+◌, ◌<◌, ◌≤◌, List, [], ◌∷◌, ◌++◌, Option, None, Some, Result, Ok, Err, length, get_or, drop, refl, sym, ap, subst, ◌∙◌, append_assoc, append-nil, arith}
use Rattle.std.specs.Str.{bytes_eq}
use Rattle.std.proofs.lemmas.List.{at_drop_more, at_drop_all, length_push}
use Rattle.std.proofs.lemmas.List.Quantifiers.{position-Some}
use Rattle.tx_plan.specs.Plan.{Plan, exchange_named, code_named, group_named}
use Rattle.tx_files.specs.Asked.{group_before, groups_named, all_asked, asked_of}

-- THE GROUPS of some names

-- those groups, and then what the names behind them come to
abbrev pub behind : List ℕ → Result (List ℕ) ℕ → Result (List ℕ) ℕ
behind gs (Ok more) = Ok (gs ++ more)
behind gs (Err place) = Err (length gs + place)

none_behind : (r : Result (List ℕ) ℕ) → r ≡ behind [] r
none_behind (Ok more) = refl
none_behind (Err place) = ap Err (omega arith)

one_behind : (gs : List ℕ) (g : ℕ) (r : Result (List ℕ) ℕ)
    → behind gs (group_before (Some g) r) ≡ behind (gs ++ g ∷ []) r
one_behind gs g (Ok more) = ap Ok (sym (append_assoc gs (g ∷ []) more))
one_behind gs g (Err place) =
    let size = length_push gs g in
    ap Err (omega arith)

module _ (p : Plan) (names : List (List ℕ)) where
  pub no_name : groups_named p names ≡ behind [] (groups_named p names)
  no_name = none_behind (groups_named p names)

  module _ (gs : List ℕ) (n : ℕ) where
    named_at : (w : List ℕ) (o : Option ℕ) → (n < length names) × (w ≡ get_or names n w)
        → o ≡ group_named p w
        → groups_named p (drop n names) ≡ group_before o (groups_named p (drop (n + 1) names))
    unfolding groups_named
    named_at w o here is =
        at_drop_more (groups_named p) names n w here.0
        ∙ ap (λ (v : List ℕ). group_before (group_named p v) (groups_named p (drop (n + 1) names)))
        (sym here.1)
        ∙ ap (λ (k : Option ℕ). group_before k (groups_named p (drop (n + 1) names))) (sym is)

    -- the next name has a group
    pub next_named : (w : List ℕ) (g : ℕ) → (n < length names) × (w ≡ get_or names n w)
        → Some g ≡ group_named p w
        → behind gs (groups_named p (drop n names))
        ≡ behind (gs ++ g ∷ []) (groups_named p (drop (n + 1) names))
    next_named w g here is =
        ap (behind gs) (named_at w (Some g) here is)
        ∙ one_behind gs g (groups_named p (drop (n + 1) names))

    -- it has none
    pub next_unnamed : (w : List ℕ) → (n < length names) × (w ≡ get_or names n w)
        → None ≡ group_named p w
        → behind gs (groups_named p (drop n names)) ≡ Err (length gs)
    next_unnamed w here is = ap (behind gs) (named_at w None here is) ∙ ap Err (omega arith)

    -- there is no name more
    pub all_named : length names ≤ n → behind gs (groups_named p (drop n names)) ≡ Ok gs
    unfolding groups_named
    all_named done =
        ap (behind gs) (at_drop_all (groups_named p) names n done) ∙ ap Ok (append-nil gs)

-- WHAT WAS ASKED FOR

-- a code that is named is one of the plan's
pub named_within : (p : Plan) (figures : List ℕ) (c : ℕ) → Some c ≡ code_named p figures
    → c < length p.codes
named_within p figures c e =
    (position-Some (λ k. bytes_eq figures k.figures) p.codes c
    (record { figures = []; home = 0 }) (sym e)).0

-- and so is an exchange
exchange_within : (p : Plan) (name : List ℕ) (x : ℕ) → Some x ≡ exchange_named p name
    → x < length p.exchanges
exchange_within p name x e = (position-Some (bytes_eq name) p.exchanges x [] (sym e)).0

all_known : (p : Plan) (name figures : List ℕ) (word : Option (List ℕ)) (x c : Option ℕ)
    (groups : Result (List ℕ) ℕ) (a : ℕ × ℕ × List ℕ)
    → x ≡ exchange_named p name → c ≡ code_named p figures
    → all_asked p name figures word x c groups ≡ Ok a
    → (a.0 < length p.exchanges) × (a.1 < length p.codes)
all_known p name figures word None c groups a e f is = let bad : ⊥ = cc in absurd bad
all_known p name figures word (Some x) None groups a e f is = let bad : ⊥ = cc in absurd bad
all_known p name figures word (Some x) (Some c) (Err place) a e f is =
    let bad : ⊥ = cc in absurd bad
all_known p name figures word (Some x) (Some c) (Ok groups) a e f is =
    let same : (x, c, groups) ≡ a = cc in
    subst (λ (b : ℕ × ℕ × List ℕ). (b.0 < length p.exchanges) × (b.1 < length p.codes)) same
    (exchange_within p name x e, named_within p figures c f)

-- the exchange and the code are the plan's
pub asked_known : (p : Plan) (name figures : List ℕ) (groups : Option (List ℕ))
    (a : ℕ × ℕ × List ℕ) → asked_of p name figures groups ≡ Ok a
    → (a.0 < length p.exchanges) × (a.1 < length p.codes)
asked_known p name figures groups a is =
    all_known p name figures groups (exchange_named p name) (code_named p figures) _ a refl refl is
