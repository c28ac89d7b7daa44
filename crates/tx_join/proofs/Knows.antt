-- A plan that knows the names of another one has its exchanges, codes and groups, each under an index
-- of its own.
use Rattle.tx_join.proofs.Common.{◌≡◌, ℕ, ◌<◌, true, List, [], length, Option, Some, sym, ap, ◌∙◌, option_map_or, bytes_eq, bytes_eq-Decides, Plan, Code, Group, exchange_named, code_named, group_named, exchange_name, figures_of, group_name, IsPlan, exchange_back, code_back, group_back, exchange_in, code_in, group_in, KnowsExchanges, KnowsCodes, KnowsGroups}
use Rattle.tx_plan.proofs.Growing.{exchange_within, code_within}
use Rattle.tx_plan.proofs.Lists.{placed_within}
use Rattle.tx_join.proofs.Found.{entry_found}

pub same_word : (w z : List ℕ) → bytes_eq w z ≡ true → z ≡ w
same_word w z h = sym ((bytes_eq-Decides w z).0 h)

module _ (q p : Plan) where
  -- THEY ARE THERE
  module _ (knows : KnowsExchanges q p) (x : ℕ) (l : x < length p.exchanges) where
    pub exchange_there : exchange_in q p x < length q.exchanges
    exchange_there = exchange_within q (exchange_name p x) (knows x l)

    pub exchange_named_so : exchange_name q (exchange_in q p x) ≡ exchange_name p x
    exchange_named_so =
        let e = entry_found (bytes_eq (exchange_name p x)) q.exchanges (knows x l) in
        ap (λ o. option_map_or (λ name. name) o []) e.1.at ∙ same_word (exchange_name p x) e.0 e.1.passes

  module _ (knows : KnowsCodes q p) (c : ℕ) (l : c < length p.codes) where
    pub code_there : code_in q p c < length q.codes
    code_there = code_within q (figures_of p c) (knows c l)

    pub code_named_so : figures_of q (code_in q p c) ≡ figures_of p c
    code_named_so =
        let e = entry_found (λ (k : Code). bytes_eq (figures_of p c) k.figures) q.codes (knows c l) in
        ap (λ o. option_map_or (λ (k : Code). k.figures) o []) e.1.at ∙ same_word (figures_of p c) e.0.figures e.1.passes

  module _ (knows : KnowsGroups q p) (g : ℕ) (l : g < length p.groups) where
    pub group_there : group_in q p g < length q.groups
    group_there = placed_within (λ (k : Group). bytes_eq (group_name p g) k.name) q.groups (knows g l)

    pub group_named_so : group_name q (group_in q p g) ≡ group_name p g
    group_named_so =
        let e = entry_found (λ (k : Group). bytes_eq (group_name p g) k.name) q.groups (knows g l) in
        ap (λ o. option_map_or (λ (k : Group). k.name) o []) e.1.at ∙ same_word (group_name p g) e.0.name e.1.passes

  -- NO TWO ARE ONE
  module _ (ok : IsPlan p) where
    -- two of one name are one
    apart : (name there : ℕ → List ℕ) (place : ℕ → ℕ) (named : List ℕ → Option ℕ) (x y : ℕ) → named (name x) ≡ Some x → named (name y) ≡ Some y → there (place x) ≡ name x → there (place y) ≡ name y → place x ≡ place y → x ≡ y
    apart name there place named x y b d n m e =
        let s : Some x ≡ Some y = sym b ∙ ap named (sym n ∙ ap there e ∙ m) ∙ d in
        cc

    pub exchanges_apart : ((x : ℕ) → x < length p.exchanges → exchange_name q (exchange_in q p x) ≡ exchange_name p x) → (x y : ℕ) → x < length p.exchanges → y < length p.exchanges → exchange_in q p x ≡ exchange_in q p y → x ≡ y
    exchanges_apart named x y l m e = apart (exchange_name p) (exchange_name q) (exchange_in q p) (exchange_named p) x y (exchange_back p ok x l).back (exchange_back p ok y m).back (named x l) (named y m) e

    pub codes_apart : ((c : ℕ) → c < length p.codes → figures_of q (code_in q p c) ≡ figures_of p c) → (c d : ℕ) → c < length p.codes → d < length p.codes → code_in q p c ≡ code_in q p d → c ≡ d
    codes_apart named x y l m e = apart (figures_of p) (figures_of q) (code_in q p) (code_named p) x y (code_back p ok x l).back (code_back p ok y m).back (named x l) (named y m) e

    pub groups_apart : ((g : ℕ) → g < length p.groups → group_name q (group_in q p g) ≡ group_name p g) → (g h : ℕ) → g < length p.groups → h < length p.groups → group_in q p g ≡ group_in q p h → g ≡ h
    groups_apart named x y l m e = apart (group_name p) (group_name q) (group_in q p) (group_named p) x y (group_back p ok x l).back (group_back p ok y m).back (named x l) (named y m) e
