-- The text of a plan, revised for another plan of its network: what it says, and which lines stand
-- in it.
use Rattle.std.specs.Prelude.{◌≡◌, ℕ, ◌==◌, ◌||◌, Bool, true, false, if◌then◌else◌, List, [], ◌∷◌, map, filter, length, Ok, codes, Option, None}
use Rattle.std.specs.Cmp.Lexicographic.{pointwise}
use Rattle.std.specs.List.{slice_split}
use Rattle.std.specs.Option.{option_map_or}
use Rattle.std.specs.Str.{bytes_eq}
use Rattle.tx_text.specs.Text.{is_lf, without_cr}
use Rattle.tx_text.specs.Words.{words_of}
use Rattle.tx_text.specs.Told.{AtEnd}
use Rattle.tx_plan.specs.declared.ids.Pair.{Pair}
use Rattle.tx_plan.specs.Declaring.{pair_named}
use Rattle.tx_plan.specs.Mixtures.{SameNetwork}
use Rattle.tx_plan.specs.Plan.{Plan, group_name}
use Rattle.tx_plan.specs.Routes.{route_list, is_barred}
use Rattle.tx_plan.specs.Rules.{IsPlan}
use Rattle.tx_plantext.specs.PlanText.{plan_of}

-- A text says a plan but for the order of its lists and bars: a plan of the same network with the
-- same list, and the same bar, of each exchange for each code.
pub record SaysAs (q : Plan) (text : List ℕ) : Type 0 where
  pub plan : Plan
  pub read : plan_of AtEnd text ≡ Ok plan
  pub rules : IsPlan plan
  pub network : SameNetwork q plan
  pub lists : (x c : ℕ) → route_list plan x c ≡ route_list q x c
  pub bars : (x c : ℕ) → is_barred plan x c ≡ is_barred q x c

module _ (q : Plan) where
  -- the exchange and the code that the words after ROUTE or BAR begin with, if the plan has both
  abbrev pub pair_of : List (List ℕ) → Option Pair
  pair_of [] = None
  pair_of (x ∷ []) = None
  pair_of (x ∷ c ∷ ws) = pair_named q x c

  -- after ROUTE: the plan has this list
  abbrev pub says_list : List (List ℕ) → Bool
  says_list [] = false
  says_list (x ∷ []) = false
  says_list (x ∷ c ∷ groups) = option_map_or (λ k. pointwise bytes_eq groups
      (map (group_name q) (route_list q k.exchange k.code))) (pair_named q x c) false

  -- after BAR: it has this bar
  abbrev pub says_bar : List (List ℕ) → Bool
  says_bar ws = option_map_or (λ k. is_barred q k.exchange k.code) (pair_of ws) false

  -- after PLAN: its text can begin so, since it has no bars or the version is the second
  abbrev pub says_header : List (List ℕ) → Bool
  says_header [] = false
  says_header (version ∷ ws) = length q.bars == 0 || bytes_eq version (codes "2")

  -- the words of a line say what the plan says too
  abbrev pub words_say_too : List (List ℕ) → Bool
  words_say_too [] = true
  words_say_too (w ∷ ws) =
      if bytes_eq w (codes "PLAN") then says_header ws
      else if bytes_eq w (codes "ROUTE") then says_list ws
      else if bytes_eq w (codes "BAR") then says_bar ws
      else true

  -- A line of the text of a plan says what this plan, of the same network, says too: it is the line
  -- of a list or a bar that this plan has, a header that its text can have, or any other line.
  abbrev pub says_too : List ℕ → Bool
  says_too line = words_say_too (words_of (without_cr line))

-- The first lines stand among the second ones, in their order.
pub data StandAmong : List (List ℕ) → List (List ℕ) → Type 0 where
  none : (ys : List (List ℕ)) → StandAmong [] ys
  this : (x : List ℕ) (xs ys : List (List ℕ)) → StandAmong xs ys → StandAmong (x ∷ xs) (x ∷ ys)
  later : (y : List ℕ) (xs ys : List (List ℕ)) → StandAmong xs ys → StandAmong xs (y ∷ ys)

-- Each line of a text that says what a plan says too stands in another text as it is, in order.
abbrev pub SameLinesStand : (text : List ℕ) → Plan → (revised : List ℕ) → Type 0
SameLinesStand text q revised =
    StandAmong (filter (says_too q) (slice_split is_lf text)) (slice_split is_lf revised)

-- The text of a plan, revised for a plan of its network
pub record IsRevised (text : List ℕ) (q : Plan) (revised : List ℕ) : Type 0 where
  pub says : SaysAs q revised
  pub same_lines : SameLinesStand text q revised
