-- What the joined plans have of the old plan and of the new one.
use Rattle.std.specs.Prelude.{◌≡◌, ◌≢◌, ℕ, ◌<◌, ◌≤◌, nat_lt, max, if◌then◌else◌, true, false, not, List, [], ◌++◌, length, map, filter, None}
use Rattle.tx_plan.specs.declared.ids.Pair.{Pair}
use Rattle.tx_plan.specs.Plan.{Plan, exchange_name, figures_of, group_name, home_of}
use Rattle.tx_plan.specs.Rules.{IsPlan}
use Rattle.tx_plan.specs.Declaring.{has_code}
use Rattle.tx_plan.specs.Routes.{route_list, is_barred}
use Rattle.tx_plan.specs.Circuits.{ends_of, direction_of, count_of}
use Rattle.tx_plan.specs.Certified.{Ranks, IsCertified}
use Rattle.tx_plan.specs.Mixtures.{SameNetwork}
use Rattle.tx_plantext.specs.PlanWritten.{route_words, bar_words}
use Rattle.tx_join.specs.Joined.{circuits_named, exchange_in, code_in, group_in, has_both, routes_alone, bars_alone, bars_below, joined_old, joined_new}
use Rattle.tx_join.specs.Differences.{differ}
use Rattle.tx_join.specs.Refusals.{join_refusal}

-- Two plans that have a joined network
pub record CanBeJoined (old new : Plan) : Type 0 where
  pub old_rules : IsPlan old
  pub new_rules : IsPlan new
  pub unrefused : join_refusal old new ≡ None

-- it holds of two such plans, and of both over their joined network
abbrev pub OfJoined : ((old new before after : Plan) → Type 0) → Type 0
OfJoined Holds = (old new : Plan) → CanBeJoined old new
    → Holds old new (joined_old old new) (joined_new old new)

-- THE NETWORK

-- each exchange of p is in q, by its name
pub record HasExchanges (q p : Plan) : Type 0 where
  pub there : (x : ℕ) → x < length p.exchanges → exchange_in q p x < length q.exchanges
  pub named : (x : ℕ) → x < length p.exchanges
      → exchange_name q (exchange_in q p x) ≡ exchange_name p x

-- each code, at the same home
pub record HasCodes (q p : Plan) : Type 0 where
  pub there : (c : ℕ) → c < length p.codes → code_in q p c < length q.codes
  pub named : (c : ℕ) → c < length p.codes → figures_of q (code_in q p c) ≡ figures_of p c
  pub home : (c : ℕ) → c < length p.codes
      → home_of q (code_in q p c) ≡ exchange_in q p (home_of p c)

-- each group, with the same ends and the same direction
pub record HasGroups (q p : Plan) : Type 0 where
  pub there : (g : ℕ) → g < length p.groups → group_in q p g < length q.groups
  pub named : (g : ℕ) → g < length p.groups → group_name q (group_in q p g) ≡ group_name p g
  pub first : (g : ℕ) → g < length p.groups
      → (ends_of q (group_in q p g)).0 ≡ exchange_in q p (ends_of p g).0
  pub second : (g : ℕ) → g < length p.groups
      → (ends_of q (group_in q p g)).1 ≡ exchange_in q p (ends_of p g).1
  pub direction : (g : ℕ) → g < length p.groups
      → direction_of q (group_in q p g) ≡ direction_of p g

-- all of these
pub record HasNetwork (q p : Plan) : Type 0 where
  pub exchanges : HasExchanges q p
  pub codes : HasCodes q p
  pub groups : HasGroups q p

-- The joined plans are plans of one network, which has that of the old plan, with its lines, and
-- that of the new one. Each group has the greater of the numbers of circuits that they give it.
-- What the old plan has is known there by the same indexes.
pub record AreOverBoth (old new before after : Plan) : Type 0 where
  pub before_rules : IsPlan before
  pub after_rules : IsPlan after
  pub same : SameNetwork before after
  pub has_old : HasNetwork before old
  pub has_new : HasNetwork before new
  pub circuits : (g : ℕ) → g < length before.groups → count_of before g
      ≡ max (circuits_named old (group_name before g)) (circuits_named new (group_name before g))
  pub lines : before.ranges ≡ old.ranges
  pub exchange_stays : (x : ℕ) → x < length old.exchanges → exchange_in before old x ≡ x
  pub code_stays : (c : ℕ) → c < length old.codes → code_in before old c ≡ c
  pub group_stays : (g : ℕ) → g < length old.groups → group_in before old g ≡ g

-- LISTS AND BARS

-- q has the lists of p, for each exchange and each code of p
abbrev pub HasLists : (q p : Plan) → Type 0
HasLists q p = (x c : ℕ) → x < length p.exchanges → c < length p.codes
    → route_list q (exchange_in q p x) (code_in q p c) ≡ map (group_in q p) (route_list p x c)

-- q has the bars of p, for each exchange, and each code that the old plan has too
abbrev pub HasBars : (old q p : Plan) → Type 0
HasBars old q p = (x c : ℕ) → x < length p.exchanges → c < length p.codes
    → code_in q p c < length old.codes
    → is_barred q (exchange_in q p x) (code_in q p c) ≡ is_barred p x c

-- no list and no bar of an exchange and a code that one plan alone has is switched
abbrev pub SwitchesShared : (p before after : Plan) → Type 0
SwitchesShared p before after = (x c : ℕ) → x < length before.exchanges → c < length before.codes
    → has_both p before x c ≡ false
    → (route_list before x c ≡ route_list after x c) × (is_barred before x c ≡ is_barred after x c)

-- a code that the old plan does not have is barred but at home
abbrev pub BarsNewCodes : (old p : Plan) → Type 0
BarsNewCodes old p = (x c : ℕ) → length old.codes ≤ c → x < length p.exchanges
    → c < length p.codes → home_of p c ≢ x → is_barred p x c ≡ true

-- where neither plan has both the exchange and the code, p has no list, and no bar for a code of the
-- old plan
abbrev pub HasNoMore : (old new p : Plan) → Type 0
HasNoMore old new p = (x c : ℕ) → x < length p.exchanges → c < length p.codes
    → has_both old p x c ≡ false → has_both new p x c ≡ false
    → (route_list p x c ≡ []) × (c < length old.codes → is_barred p x c ≡ false)

-- The old plan over the joined network has the lists and bars of the old plan, and the new plan
-- over it those of the new one. What one plan alone has is in both, and there is no more.
pub record HaveTheirLists (old new before after : Plan) : Type 0 where
  pub old_lists : HasLists before old
  pub old_bars : HasBars old before old
  pub new_lists : HasLists after new
  pub new_bars : HasBars old after new
  pub old_alone : SwitchesShared new before after
  pub new_alone : SwitchesShared old before after
  pub before_no_more : HasNoMore old new before
  pub after_no_more : HasNoMore old new after
  pub before_closed : BarsNewCodes old before
  pub after_closed : BarsNewCodes old after

-- BEFORE AND AFTER

-- the bars for codes of the old plan, where the plan q knows the codes of p by its own indexes
abbrev pub open_bars : (old q p : Plan) → List Pair → List Pair
open_bars old q p bars = filter (λ b. nat_lt (code_in q p b.code) (length old.codes)) bars

-- the bars of p for codes that the old plan does not have
abbrev pub new_bars : (old p : Plan) → List Pair → List Pair
new_bars old p bars = filter (λ b. not (has_code old (figures_of p b.code))) bars

-- By the lines of lists and bars: the plan before the switching has those of the old plan, and those
-- that the new one has alone, which are put there before. The plan after it has those of the new
-- plan, and those that the old one has alone, which go then. Bars are those for codes of the old
-- plan: all others are closed meanwhile. Once these are opened, their bars are those that were put
-- there.
pub record LeadOver (old new before after : Plan) : Type 0 where
  pub lists_put : map (route_words before) before.routes
      ≡ map (route_words old) old.routes ++ map (route_words new) (routes_alone new old)
  pub lists_left : map (route_words after) after.routes
      ≡ map (route_words new) new.routes ++ map (route_words old) (routes_alone old new)
  pub bars_put : map (bar_words before) (bars_below (length old.codes) before.bars)
      ≡ map (bar_words old) (open_bars old before old old.bars)
      ++ map (bar_words new) (open_bars old before new (bars_alone new old))
  pub bars_left : map (bar_words after) (bars_below (length old.codes) after.bars)
      ≡ map (bar_words new) (open_bars old after new new.bars)
      ++ map (bar_words old) (open_bars old after old (bars_alone old new))
  pub bars_opened : new_bars old new (bars_alone new old) ≡ new_bars old new new.bars

-- ONE NETWORK

-- plans of one network are their own joined plans, and do not differ beside lists and bars
pub record AreOwnJoined (old new : Plan) : Type 0 where
  pub none : join_refusal old new ≡ None
  pub before : joined_old old new ≡ old
  pub after : joined_new old new ≡ new
  pub nothing : differ old new ≡ false

-- the ranks of exchanges that a plan has
abbrev pub ranks_within : Plan → Ranks → Ranks
ranks_within p ranks c x = if nat_lt x (length p.exchanges) then ranks c x else None

-- what certifies the old plan over the joined network certifies, at its own exchanges, the old plan
-- as it is
abbrev pub CertifiesOld : (old new before after : Plan) → Type 0
CertifiesOld old new before after = (ranks : Ranks) (limit spare : ℕ)
    → IsCertified before ranks limit spare
    → IsCertified old (ranks_within old ranks) limit spare
