-- The laws of mending.
use Rattle.std.specs.Prelude.{◌≡◌, ◌↔◌, ◌⊎◌, ◌<◌, ◌≤◌, ◌+◌, ◌==◌, ℕ, suc, Bool, not, true, List, [], ◌++◌, length, filter, Some, None, is_some}
use Rattle.std.specs.List.{list_any}
use Rattle.tx_plan.specs.Plan.{Plan}
use Rattle.tx_plan.specs.Routes.{route_list}
use Rattle.tx_plan.specs.Circuits.{other_end}
use Rattle.tx_plan.specs.Among.{Among}
use Rattle.tx_plan.specs.Rules.{IsPlan, EachPair}
use Rattle.tx_plan.specs.Ambiguous.{ambiguous_of}
use Rattle.tx_plan.specs.Certified.{Ranks, IsCertified}
use Rattle.tx_rank.specs.Walks.{net_of}
use Rattle.tx_rank.specs.Heights.{IsReached}
use Rattle.tx_mend.specs.Routings.{IsRouting, IsFalling, CanBeServed, CanBeKept, CanBeMended}
use Rattle.tx_mend.specs.LeastRanks.{RanksOfCode, outgoing, rank_across, least_rank, keeps_routes}
use Rattle.tx_mend.specs.KeptRanks.{kept_rank}
use Rattle.tx_mend.specs.Lists.{mended_list}
use Rattle.tx_mend.specs.declared.cause.Cause.{Cause}
use Rattle.tx_mend.specs.declared.cause.Cause.TheVariants.{Rank, Groups}
use Rattle.tx_mend.specs.Mended.{mended}
use Rattle.tx_mend.specs.Unserved.{cause_of, unserved}

-- Least ranks are attained: along some routes of the network the least ranks fall, for all codes at
-- once.
abbrev pub LeastRanksAreAttained : Type 0
LeastRanksAreAttained = (p : Plan) → IsPlan p → (limit spare : ℕ) → spare ≤ 15
    → (q : Plan) × IsRouting p q × ((code : ℕ) → code < length p.codes
    → IsFalling q (λ c. least_rank p c limit spare) code limit spare)

-- An exchange has a least rank exactly where it can be served.
abbrev pub LeastRanksServe : Type 0
LeastRanksServe = (p : Plan) → IsPlan p → (code limit spare x : ℕ) → code < length p.codes
    → spare ≤ 15
    → (is_some (least_rank p code limit spare x) ≡ true) ↔ CanBeServed p code limit spare x

-- A code keeps its routes exactly where some ranks certify them for it.
abbrev pub KeepsWhatCanBeKept : Type 0
KeepsWhatCanBeKept = (p : Plan) → IsPlan p → (code limit spare : ℕ) → code < length p.codes
    → (keeps_routes p code limit spare ≡ true) ↔ CanBeKept p code limit spare

-- The mended plan is one of the same network, and each pair has its mended list.
pub record IsMendedPlan (p : Plan) (limit spare : ℕ) (q : Plan) : Type 0 where
  pub routing : IsRouting p q
  pub lists : (x code : ℕ) → x < length p.exchanges → code < length p.codes
      → route_list q x code ≡ mended_list p limit spare code x

-- so it is of the mended plan of every plan
abbrev pub MendedIsMended : Type 0
MendedIsMended = (p : Plan) → IsPlan p → (limit spare : ℕ) → spare ≤ 15
    → IsMendedPlan p limit spare (mended p limit spare)

-- Exactness: the mended plan is certified by some ranks exactly where no code begins another and no
-- origin is unserved, and then alone any routes of the network are certified by any ranks.
pub record MendsWhatCanBeMended (p : Plan) (limit spare : ℕ) : Type 0 where
  pub mends : unserved p limit spare ≡ [] → ambiguous_of p.codes ≡ None
      → (ranks : Ranks) × IsCertified (mended p limit spare) ranks limit spare
  pub can_be : CanBeMended p limit spare
      → (unserved p limit spare ≡ []) × (ambiguous_of p.codes ≡ None)

-- so it is of every plan
abbrev pub MendingIsExact : Type 0
MendingIsExact = (p : Plan) → IsPlan p → (limit spare : ℕ) → spare ≤ 15
    → MendsWhatCanBeMended p limit spare

-- The plan q has the same lists as the plan p for each code whose routes in p can be certified.
abbrev pub KeepsSafeLists : (p q : Plan) → (limit spare : ℕ) → Type 0
KeepsSafeLists p q limit spare = (x code : ℕ) → x < length p.exchanges → code < length p.codes
    → CanBeKept p code limit spare → route_list q x code ≡ route_list p x code

-- A group g of the list of x in the plan p could stay beside those that stay in the plan q: some
-- routes of the network, which some ranks certify for the code, have all of these in their lists.
pub record CouldStay (p q : Plan) (limit spare x code g : ℕ) : Type 0 where
  pub routing : Plan
  pub same : IsRouting p routing
  pub certified : CanBeKept routing code limit spare
  pub others : (y h : ℕ) → Among h (route_list p y code) → Among h (route_list q y code)
      → Among h (route_list routing y code)
  pub itself : Among g (route_list routing x code)

-- each group that could stay does
abbrev pub KeepsAllThatCouldStay : (p q : Plan) → (limit spare : ℕ) → Type 0
KeepsAllThatCouldStay p q limit spare = (x code g : ℕ) → x < length p.exchanges
    → code < length p.codes → Among g (route_list p x code)
    → CouldStay p q limit spare x code g → Among g (route_list q x code)

-- a group that is new in a list of the plan q is needed there: calls come to the exchange, and
-- without it the list would have no more groups than spare
abbrev pub AddsWhatIsNeeded : (p q : Plan) → (spare : ℕ) → Type 0
AddsWhatIsNeeded p q spare = (x code g : ℕ) → x < length p.exchanges → code < length p.codes
    → Among g (route_list q x code) → (Among g (route_list p x code) → ⊥)
    → IsReached (net_of q code) x × (length (route_list q x code) ≡ suc spare)

-- each list of the plan q begins with the groups of the list in the plan p that stay, in order
abbrev pub KeepsOrder : (p q : Plan) → Type 0
KeepsOrder p q = (x code : ℕ) → x < length p.exchanges → code < length p.codes
    → (added : List ℕ) × (route_list q x code
    ≡ filter (λ g. list_any (λ h. h == g) (route_list q x code)) (route_list p x code) ++ added)

-- of two groups of x the first one leads to a smaller rank, or to the same and is declared before
pub record ComesFirst (p : Plan) (ranks : RanksOfCode) (x g h : ℕ) : Type 0 where
  pub rank : ℕ
  pub other : ℕ
  pub to_rank : rank_across p ranks x g ≡ Some rank
  pub to_other : rank_across p ranks x h ≡ Some other
  pub smaller : (rank < other) ⊎ ((rank ≡ other) × (g < h))

-- the groups that are new in a list of the plan q come by the kept ranks to which they lead, and
-- then in order of declaration
abbrev pub AddsInOrder : (p q : Plan) → (limit spare : ℕ) → Type 0
AddsInOrder p q limit spare = (x code : ℕ) → x < length p.exchanges → code < length p.codes
    → EachPair (ComesFirst p (kept_rank p code limit spare) x)
    (filter (λ g. not (list_any (λ h. h == g) (route_list p x code))) (route_list q x code))

-- each list of an exchange to which no calls come in the plan q stays as it is
abbrev pub KeepsUnreachedLists : (p q : Plan) → Type 0
KeepsUnreachedLists p q = (x code : ℕ) → x < length p.exchanges → code < length p.codes
    → (IsReached (net_of q code) x → ⊥) → route_list q x code ≡ route_list p x code

-- Least change: the mended lists keep all that could stay, in its order, and add what is needed.
-- Where no calls come they stay.
pub record ChangesLeast (p q : Plan) (limit spare : ℕ) : Type 0 where
  pub all : KeepsAllThatCouldStay p q limit spare
  pub needed : AddsWhatIsNeeded p q spare
  pub order : KeepsOrder p q
  pub added : AddsInOrder p q limit spare
  pub unreached : KeepsUnreachedLists p q

-- so it is of the mended plan of every plan that can be mended
abbrev pub MendingChangesLeast : Type 0
MendingChangesLeast = (p : Plan) → IsPlan p → (limit spare : ℕ) → spare ≤ 15
    → CanBeMended p limit spare → ChangesLeast p (mended p limit spare) limit spare

-- A plan that is certified stays as it is.
abbrev pub CertifiedStays : Type 0
CertifiedStays = (p : Plan) → IsPlan p → (ranks : Ranks) (limit spare : ℕ)
    → IsCertified p ranks limit spare → mended p limit spare ≡ p

-- a group leads from x to an exchange that can be served for a code
pub record LeadsToServed (p : Plan) (code limit spare x g : ℕ) : Type 0 where
  pub to : ℕ
  pub leads : other_end p g x ≡ Some to
  pub served : CanBeServed p code limit spare to

-- n of the groups that x may seize do: those that pass a test which tells exactly that
pub record AreLeadingOn (p : Plan) (code limit spare x n : ℕ) : Type 0 where
  pub test : ℕ → Bool
  pub passes : (g : ℕ) → (test g ≡ true) ↔ LeadsToServed p code limit spare x g
  pub count : length (filter test (outgoing p x)) ≡ n

-- A cause is true: with the rank r the exchange can be served with each limit from r - 1 on, and
-- with no smaller one; with n groups it cannot with any limit, and n of its groups lead to exchanges
-- that can be served, which is too few.
abbrev pub IsTrueCause : Plan → (code limit spare x : ℕ) → Cause → Type 0
IsTrueCause p code limit spare x (Rank r) = (limit + 1 < r)
    × ((other : ℕ) → other ≤ 254 → CanBeServed p code other spare x ↔ (r ≤ other + 1))
IsTrueCause p code limit spare x (Groups n) = AreLeadingOn p code limit spare x n × (n ≤ spare)
    × ((other : ℕ) → other ≤ 254 → CanBeServed p code other spare x → ⊥)

-- so it is of each exchange that cannot be served
abbrev pub CausesAreTrue : Type 0
CausesAreTrue = (p : Plan) → IsPlan p → (code limit spare x : ℕ) → code < length p.codes
    → spare ≤ 15 → limit ≤ 253 → (CanBeServed p code limit spare x → ⊥)
    → IsTrueCause p code limit spare x (cause_of p code limit spare x)
