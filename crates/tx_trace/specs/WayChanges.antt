-- Which calls of a plan go another way than in an old plan. What they pass is compared by name,
-- since the plans may be of different networks.
use Rattle.std.specs.Prelude.{◌≡◌, ℕ, Bool, ◌==◌, ◌&&◌, if◌then◌else◌, List, [], ◌∷◌, length, Option, None, Some}
use Rattle.std.specs.List.{flat_map, list_all, list_any, range_with_len, zip}
use Rattle.std.specs.Str.{bytes_eq}
use Rattle.tx_plan.specs.declared.ids.Pair.{Pair}
use Rattle.tx_plan.specs.Plan.{Plan, exchange_name, figures_of, group_name}
use Rattle.tx_plan.specs.Declaring.{pair_named}
use Rattle.tx_plan.specs.Routes.{is_origin_for}
use Rattle.tx_trace.specs.declared.way_changes.Ways.{Ways}
use Rattle.tx_trace.specs.declared.way_changes.WayChange.{WayChange}
use Rattle.tx_trace.specs.Ways.{first_way, all_met}

-- the first way of such calls, and the exchanges to which they may come
abbrev pub first_of : Plan → Pair → List (ℕ × ℕ)
first_of p k = first_way p k.code k.exchange

abbrev pub met_of : Plan → Pair → List ℕ
met_of p k = all_met p k.code k.exchange

-- a step of the plan p, and one of q, are by groups of one name to exchanges of one name
abbrev pub is_same_step : (p q : Plan) → (s t : ℕ × ℕ) → Bool
is_same_step p q s t = bytes_eq (group_name p s.0) (group_name q t.0)
    && bytes_eq (exchange_name p s.1) (exchange_name q t.1)

-- the steps at the same places are
abbrev pub are_same_steps : (p q : Plan) → (way other : List (ℕ × ℕ)) → Bool
are_same_steps p q way other = list_all (λ e. is_same_step p q e.0 e.1) (zip way other)

-- two ways have the same steps
abbrev pub is_same_way : (p q : Plan) → (way other : List (ℕ × ℕ)) → Bool
is_same_way p q way other = (length way == length other) && are_same_steps p q way other

-- one of these exchanges has the name
abbrev pub is_named : Plan → List ℕ → (name : List ℕ) → Bool
is_named p ys name = list_any (λ y. bytes_eq (exchange_name p y) name) ys

-- each exchange of the plan p has the name of one of those of q
abbrev pub are_named : (p q : Plan) → (xs ys : List ℕ) → Bool
are_named p q xs ys = list_all (λ x. is_named q ys (exchange_name p x)) xs

-- the calls k of the plan p and the calls j of q have the same first way, and may come to the same
-- exchanges
abbrev pub go_alike : (p q : Plan) → (k j : Pair) → Bool
go_alike p q k j = is_same_way p q (first_of p k) (first_of q j)
    && (are_named p q (met_of p k) (met_of q j) && are_named q p (met_of q j) (met_of p k))

-- both, if they do not go alike
abbrev pub changed : (p q : Plan) → (k j : Pair) → List (Pair × Pair)
changed p q k j = if go_alike p q k j then [] else (k, j) ∷ []

-- these calls, if they may start
abbrev pub if_started : Plan → Option Pair → Option Pair
if_started q None = None
if_started q (Some j) = if is_origin_for q j.exchange j.code then Some j else None

-- the calls of q for the code c of p from its exchange x, if they may start in both
abbrev pub same_calls : (p q : Plan) → (c x : ℕ) → Option Pair
same_calls p q c x = if is_origin_for p x c
    then if_started q (pair_named q (exchange_name p x) (figures_of p c)) else None

-- those that do not go alike, if there are any in q
abbrev pub changed_since : (p q : Plan) → Pair → Option Pair → List (Pair × Pair)
changed_since p q k None = []
changed_since p q k (Some j) = changed p q k j

-- for the code c, and from the exchange x of p
abbrev pub changed_at : (p q : Plan) → (c x : ℕ) → List (Pair × Pair)
changed_at p q c x = let k : Pair = record { exchange = x; code = c } in
    changed_since p q k (same_calls p q c x)

-- those for one code
abbrev pub changed_for : (p q : Plan) → (c : ℕ) → List (Pair × Pair)
changed_for p q c = flat_map (changed_at p q c) (range_with_len 0 (length p.exchanges))

-- All calls of p that may start in both plans and do not go as in q, with those of q: by codes, and
-- then by exchanges
abbrev pub changed_calls : (p q : Plan) → List (Pair × Pair)
changed_calls p q = flat_map (changed_for p q) (range_with_len 0 (length p.codes))

module _ {A : Type 0} where
  -- the ways of some calls
  pub record AreWaysOf (p : Plan) (w : Ways A) : Type 0 where
    pub first : w.first.items ≡ first_of p w.calls
    pub met : w.met.items ≡ met_of p w.calls

  -- those of the calls of both plans
  abbrev pub AreWaysIn : (p q : Plan) → WayChange A → Type 0
  AreWaysIn p q w = AreWaysOf p w.ways × AreWaysOf q w.were

  -- these calls
  abbrev pub calls_of : WayChange A → Pair × Pair
  calls_of w = (w.ways.calls, w.were.calls)
