-- The warnings of a plan: what keeps to the format, and is of no use or most likely not meant.
use Rattle.std.specs.Prelude.{◌≡◌, ◌↔◌, ℕ, ◌<◌, nat_lt, Bool, true, not, ◌&&◌, ◌||◌, ◌==◌, if◌then◌else◌, List, [], ◌∷◌, ◌++◌, length, map, filter, slice_get}
use Rattle.std.specs.List.{list_any, list_all, flat_map, range_with_len}
use Rattle.std.specs.Option.{option_map_or}
use Rattle.tx_plan.specs.Plan.{Plan, Route as RouteRow, home_of, figures_of}
use Rattle.tx_plan.specs.Codes.{is_prefix}
use Rattle.tx_plan.specs.Routes.{route_list, is_origin, is_origin_for}
use Rattle.tx_rank.specs.Walks.{net_of}
use Rattle.tx_rank.specs.Heights.{IsReached}
use Rattle.tx_risk.specs.NamedRisks.{NamedRisk}
use Rattle.tx_risk.specs.Outages.{risk_of}
use Rattle.tx_risk.specs.declared.outage.Outage.TheVariants.{Named}
use Rattle.tx_lint.specs.declared.entry.Entry.{Entry}
use Rattle.tx_lint.specs.declared.entry.Entry.TheVariants.{Header, Exchange, Code, Lines, Group, Route, Bar}
use Rattle.tx_lint.specs.declared.warning.Warning.{Warning}
use Rattle.tx_lint.specs.declared.warning.Warning.TheVariants.{NothingToJudge, NoLines, UnusedGroup, UnusedList, NoList, UnusedBar, Ambiguous, SharedRisk, Unlisted, NoGroup}

-- the code c has lines
abbrev pub has_lines : Plan → (c : ℕ) → Bool
has_lines p c = list_any (λ r. r.code == c) p.ranges

-- the group g is in a list
abbrev pub is_listed : Plan → (g : ℕ) → Bool
is_listed p g = list_any (λ r. list_any (λ h. h == g) r.groups) p.routes

-- calls for the code c may start at x, which is not its home, and x has no list for it
abbrev pub wants_list : Plan → (x c : ℕ) → Bool
wants_list p x c =
    (is_origin_for p x c && not (home_of p c == x)) && length (route_list p x c) == 0

-- the code d is shorter than the code c, and begins it
abbrev pub begins : Plan → (d c : ℕ) → Bool
begins p d c = is_prefix (figures_of p d) (figures_of p c)
    && nat_lt (length (figures_of p d)) (length (figures_of p c))

-- no exchange has a list for the code c, and the home of the code is not the only exchange
abbrev pub is_unlisted : Plan → (c : ℕ) → Bool
is_unlisted p c = not (list_any (λ r. r.code == c) p.routes) && nat_lt 1 (length p.exchanges)

-- all of these groups go with the named risk at index k
abbrev pub lie_in : Plan → List NamedRisk → (k : ℕ) → List ℕ → Bool
lie_in p risks k groups = list_all (risk_of p risks (Named k)) groups

-- where calls come: `comes c x` says whether some call for the code c may come to x
abbrev pub Coming : Type 0
Coming = (c x : ℕ) → Bool

-- it says so of each code: a walk for the code ends at x
abbrev pub TellsWhereCallsCome : Plan → Coming → Type 0
TellsWhereCallsCome p comes =
    (c x : ℕ) → c < length p.codes → (comes c x ≡ true) ↔ IsReached (net_of p c) x

-- the code c is at home at x, and has no lines
abbrev pub is_mute : Plan → (x c : ℕ) → Bool
is_mute p x c = (home_of p c == x) && not (has_lines p c)

-- x has a list for the code c, and no call for it comes there
abbrev pub is_idle : Plan → Coming → (x c : ℕ) → Bool
is_idle p comes x c = not (length (route_list p x c) == 0) && not (comes c x)

-- no group leads to x or from it, and x is not the only exchange
abbrev pub is_alone : Plan → (x : ℕ) → Bool
is_alone p x = not (list_any (λ g. (g.a == x) || (g.b == x)) p.groups)
    && nat_lt 1 (length p.exchanges)

-- the warning, if there is reason for it
abbrev pub warned_if : Bool → Warning → List Warning
warned_if reason w = if reason then w ∷ [] else []

-- the codes for which a test holds, in order
abbrev pub codes_where : Plan → (ℕ → Bool) → List ℕ
codes_where p test = filter test (range_with_len 0 (length p.codes))

-- one warning of these codes, if there are any: it has the first, and how many more there are
abbrev pub warned_once : (ℕ → ℕ → Warning) → List ℕ → List Warning
warned_once warning [] = []
warned_once warning (c ∷ cs) = warning c (length cs) ∷ []

-- the warnings of an exchange: those of missing lists come in order of the codes
abbrev pub exchange_warnings : Plan → Coming → (x : ℕ) → List Warning
exchange_warnings p comes x =
    warned_once NoLines (codes_where p (is_mute p x))
    ++ (warned_once UnusedList (codes_where p (is_idle p comes x))
    ++ (flat_map (λ c. warned_if (wants_list p x c) (NoList c)) (range_with_len 0 (length p.codes))
    ++ warned_if (is_alone p x) (NoGroup x)))

-- the warnings of a code: those of codes that begin it come in order of these
abbrev pub code_warnings : Plan → (c : ℕ) → List Warning
code_warnings p c =
    flat_map (λ d. warned_if (begins p d c) (Ambiguous d)) (range_with_len 0 (length p.codes))
    ++ warned_if (is_unlisted p c) (Unlisted c)

-- the warnings of a list, in order of the risks
abbrev pub list_warnings : Plan → List NamedRisk → RouteRow → List Warning
list_warnings p risks r = flat_map (λ k. warned_if (lie_in p risks k r.groups) (SharedRisk k))
    (range_with_len 0 (length risks))

-- The warnings of an entry
abbrev pub entry_warnings : Plan → List NamedRisk → Coming → Entry → List Warning
entry_warnings p risks comes Header = warned_if (length p.ranges == 0) NothingToJudge
entry_warnings p risks comes (Exchange x) = exchange_warnings p comes x
entry_warnings p risks comes (Code c) = code_warnings p c
entry_warnings p risks comes (Lines i) = []
entry_warnings p risks comes (Group g) = warned_if (not (is_listed p g)) (UnusedGroup g)
entry_warnings p risks comes (Route i) =
    option_map_or (list_warnings p risks) (slice_get p.routes i) []
entry_warnings p risks comes (Bar i) = option_map_or
    (λ b. warned_if (not (is_origin p b.exchange)) UnusedBar) (slice_get p.bars i) []

-- All warnings, each with the line of its entry, in order of the entries; those of an exchange in
-- order of the codes
abbrev pub warnings : Plan → List NamedRisk → Coming → List (ℕ × Entry) → List (ℕ × Warning)
warnings p risks comes entries =
    flat_map (λ e. map (λ w. (e.0, w)) (entry_warnings p risks comes e.1)) entries
