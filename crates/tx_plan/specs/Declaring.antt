-- What each declaration adds to a plan, and why it may be refused.
use Rattle.std.specs.Prelude.{◌≡◌, ◌⊎◌, ℕ, Bool, true, false, not, ◌&&◌, ◌||◌, ◌==◌, nat_lt, nat_le, if◌then◌else◌, List, [], ◌∷◌, ◌++◌, length, map, Option, Some, None, is_none, unwrap_or, Result, Ok, Err}
use Rattle.std.specs.List.{list_any}
use Rattle.std.specs.Option.{option_map_or}
use Rattle.std.specs.Str.{bytes_eq}
use Rattle.tx_text.specs.Words.{is_name}
pub use Rattle.tx_text.specs.Words.{none_twice}
pub use Rattle.tx_plan.specs.Numbers.{shares}
use Rattle.tx_plan.specs.Plan.{Plan, exchange_named, code_named, group_named, home_of}
use Rattle.tx_plan.specs.Lines.{at_most}
use Rattle.tx_plan.specs.Circuits.{may_seize}
use Rattle.tx_plan.specs.Routes.{is_barred}
use Rattle.tx_plan.specs.Rules.{is_code, is_national}
use Rattle.tx_plan.specs.declared.ids.Direction.{Direction}
use Rattle.tx_plan.specs.declared.ids.Pair.{Pair}
use Rattle.tx_plan.specs.declared.refusal.PlanRefusal.{PlanRefusal}
use Rattle.tx_plan.specs.declared.refusal.PlanRefusal.TheVariants.{WrongCount, BadName, BadCode, BadNumber, Duplicate, Unknown, RangeOrder, Overlap, SameEnds, NotOutgoing, RepeatedGroup, RouteAtHome, TooMany, BarAtHome, NoMemory}

-- the first refusal that applies, of a list of tests and refusals
abbrev pub first_true : {R : Type 0} → List (Bool × R) → Option R
first_true [] = None
first_true (t ∷ ts) = if t.0 then Some t.1 else first_true ts

-- What a call of the builder answers. Ok: nothing refuses the declaration, and it was added. Err:
-- nothing changed, and it is the first refusal, or lack of memory where no refusal applies.
abbrev pub Declares : Option PlanRefusal → Plan
    → Plan → Plan → Result (Unit {0}) PlanRefusal → Type 0
Declares refusal old next new (Ok x) = (refusal ≡ None) × (new ≡ next)
Declares refusal old next new (Err e) = (new ≡ old)
    × ((refusal ≡ Some e) ⊎ ((refusal ≡ None) × (e ≡ NoMemory)))

-- an exchange of this name is declared
abbrev pub has_exchange : Plan → List ℕ → Bool
has_exchange p name = list_any (bytes_eq name) p.exchanges

-- a code of these figures is declared
abbrev pub has_code : Plan → List ℕ → Bool
has_code p figures = list_any (λ c. bytes_eq figures c.figures) p.codes

-- a group of this name is declared
abbrev pub has_group : Plan → List ℕ → Bool
has_group p name = list_any (λ g. bytes_eq name g.name) p.groups

-- both indexes as a pair, if there are both
abbrev pub pair_of : Option ℕ → Option ℕ → Option Pair
pair_of None c = None
pair_of (Some x) None = None
pair_of (Some x) (Some c) = Some (record { exchange = x; code = c })

-- the exchange and the code of two words, where both are declared
abbrev pub pair_named : Plan → List ℕ → List ℕ → Option Pair
pair_named p exchange code = pair_of (exchange_named p exchange) (code_named p code)

-- a route of exchange x for code c is declared
abbrev pub has_route : Plan → ℕ → ℕ → Bool
has_route p x c = list_any (λ r. (r.exchange == x) && (r.code == c)) p.routes

-- a test of a pair, which fails where it is not declared
abbrev pub holds_at : Option Pair → (ℕ → ℕ → Bool) → Bool
holds_at pair test = option_map_or (λ x. test x.exchange x.code) pair false

-- the range shares a number with a declared one of its code
abbrev pub overlaps : Plan → Option ℕ → List ℕ → List ℕ → Bool
overlaps p code low high = option_map_or (λ c. list_any (shares c low high) p.ranges) code false

-- from low to high, in numbers of one width
abbrev pub is_ordered : List ℕ → List ℕ → Bool
is_ordered low high = (length low == length high) && at_most low high

-- a group that was declared, and that the exchange of the pair may not seize
abbrev pub is_not_outgoing : Plan → Option Pair → List ℕ → Bool
is_not_outgoing p pair g =
    holds_at pair (λ x c. option_map_or (λ i. not (may_seize p i x)) (group_named p g) false)

-- Each list of refusals has them in their order, each with the test of whether it applies. This is
-- that of an exchange.
abbrev pub exchange_refusals : Plan → List ℕ → List (Bool × PlanRefusal)
exchange_refusals p name =
    (not (is_name name), BadName)
    ∷ (has_exchange p name, Duplicate)
    ∷ (nat_le 256 (length p.exchanges), TooMany) ∷ []

-- those of a code: there are but 1,100 codes, so the last is never met
abbrev pub code_refusals : Plan → List ℕ → List ℕ → List (Bool × PlanRefusal)
code_refusals p code home =
    (not (is_name home), BadName)
    ∷ (not (is_code code), BadCode)
    ∷ (has_code p code, Duplicate)
    ∷ (not (has_exchange p home), Unknown)
    ∷ (nat_le 1100 (length p.codes), TooMany) ∷ []

-- those of a range of lines
abbrev pub lines_refusals : Plan → List ℕ → List ℕ → List ℕ → List (Bool × PlanRefusal)
lines_refusals p code low high =
    (not (is_code code), BadCode)
    ∷ (not (is_national low) || not (is_national high), BadNumber)
    ∷ (not (has_code p code), Unknown)
    ∷ (not (is_ordered low high), RangeOrder)
    ∷ (overlaps p (code_named p code) low high, Overlap)
    ∷ (nat_le 4096 (length p.ranges), TooMany) ∷ []

-- those of a group
abbrev pub group_refusals : Plan → List ℕ → List ℕ → List ℕ → ℕ → List (Bool × PlanRefusal)
group_refusals p name a b count =
    (not (is_name name) || (not (is_name a) || not (is_name b)), BadName)
    ∷ (not (nat_le 1 count && nat_le count 240), BadNumber)
    ∷ (has_group p name, Duplicate)
    ∷ (not (has_exchange p a) || not (has_exchange p b), Unknown)
    ∷ (bytes_eq a b, SameEnds)
    ∷ (nat_le 4096 (length p.groups), TooMany) ∷ []

-- what the words of a route alone refuse
abbrev pub route_word_refusals : List ℕ → List ℕ → List (List ℕ) → List (Bool × PlanRefusal)
route_word_refusals exchange code groups =
    (length groups == 0, WrongCount)
    ∷ (not (is_name exchange) || list_any (λ g. not (is_name g)) groups, BadName)
    ∷ (not (is_code code), BadCode) ∷ []

-- what is refused of the groups of a declared pair
abbrev pub route_group_refusals : Plan → Option Pair → List (List ℕ) → List (Bool × PlanRefusal)
route_group_refusals p pair groups =
    (list_any (is_not_outgoing p pair) groups, NotOutgoing)
    ∷ (not (none_twice groups), RepeatedGroup)
    ∷ (holds_at pair (λ x c. home_of p c == x), RouteAtHome)
    ∷ (nat_lt 16 (length groups), TooMany) ∷ []

-- what is refused of a route by the plan
abbrev pub route_plan_refusals : Plan → Option Pair → List (List ℕ) → List (Bool × PlanRefusal)
route_plan_refusals p pair groups = (holds_at pair (has_route p), Duplicate) ∷ (
  is_none pair
      || list_any (λ g. not (has_group p g)) groups,
  Unknown,
) ∷ route_group_refusals p pair groups

-- those of a route: of its words first
abbrev pub route_refusals : Plan → List ℕ → List ℕ → List (List ℕ) → List (Bool × PlanRefusal)
route_refusals p exchange code groups = route_word_refusals exchange code groups
    ++ route_plan_refusals p (pair_named p exchange code) groups

-- those of a bar
abbrev pub bar_refusals : Plan → List ℕ → List ℕ → List (Bool × PlanRefusal)
bar_refusals p exchange code =
    (not (is_name exchange), BadName)
    ∷ (not (is_code code), BadCode)
    ∷ (holds_at (pair_named p exchange code) (is_barred p), Duplicate)
    ∷ (is_none (pair_named p exchange code), Unknown)
    ∷ (holds_at (pair_named p exchange code) (λ x c. home_of p c == x), BarAtHome) ∷ []

-- the index of the exchange of a name, which is declared
abbrev pub exchange_at : Plan → List ℕ → ℕ
exchange_at p name = unwrap_or (exchange_named p name) 0

-- the index of the code of these figures, which is declared
abbrev pub code_at : Plan → List ℕ → ℕ
code_at p figures = unwrap_or (code_named p figures) 0

-- the index of the group of a name, which is declared
abbrev pub group_at : Plan → List ℕ → ℕ
group_at p name = unwrap_or (group_named p name) 0

-- the plan with one exchange more
abbrev pub with_exchange : Plan → List ℕ → Plan
with_exchange p name = record p { exchanges = p.exchanges ++ name ∷ [] }

-- the plan with one code more
abbrev pub with_code : Plan → List ℕ → List ℕ → Plan
with_code p code home =
    record p { codes = p.codes ++ record { figures = code; home = exchange_at p home } ∷ [] }

-- the plan with one range more
abbrev pub with_lines : Plan → List ℕ → List ℕ → List ℕ → Plan
with_lines p code low high =
    record p { ranges = p.ranges ++ record { code = code_at p code; low = low; high = high } ∷ [] }

-- the plan with one group more
abbrev pub with_group : Plan → List ℕ → List ℕ → List ℕ → Direction → ℕ → Plan
with_group p name a b direction count = record p {
  groups = p.groups ++ record {
    name = name;
    a = exchange_at p a;
    b = exchange_at p b;
    direction = direction;
    count = count;
  } ∷ [];
}

-- the plan with one route more
abbrev pub with_route : Plan → List ℕ → List ℕ → List (List ℕ) → Plan
with_route p exchange code groups = record p {
  routes = p.routes ++ record {
    exchange = exchange_at
        p exchange;
    code = code_at p code;
    groups = map (group_at p) groups;
  } ∷ [];
}

-- the plan with one bar more
abbrev pub with_bar : Plan → List ℕ → List ℕ → Plan
with_bar p exchange code = record p {
  bars =
      p.bars ++ record { exchange = exchange_at p exchange; code = code_at p code } ∷ [];
}
