-- The faults that a check of a plan and its ranks can find, one list for each clause, each in order
-- of declaration.
use Rattle.std.specs.Prelude.{◌≡◌, ℕ, ◌+◌, ◌<◌, ◌==◌, Bool, false, not, ◌&&◌, nat_lt, nat_le, if◌then◌else◌, List, [], ◌∷◌, ◌++◌, length, Option, Some, None, is_some, is_none, option_and_then}
use Rattle.std.specs.List.{flat_map, range_with_len}
use Rattle.tx_plan.specs.Plan.{Plan, home_of}
use Rattle.tx_plan.specs.Ambiguous.{ambiguous_of}
use Rattle.tx_plan.specs.Routes.{route_list, is_origin_for}
use Rattle.tx_plan.specs.Circuits.{other_end}
use Rattle.tx_plan.specs.Certified.{Ranks, IsCertified}
use Rattle.tx_plan.specs.Rules.{IsPlan}
use Rattle.tx_cert.specs.Certificate.{Certificate, rank_at}
use Rattle.tx_check.specs.declared.fault.CheckFault.{CheckFault}
use Rattle.tx_check.specs.declared.fault.CheckFault.TheVariants.{Ambiguous, HomeNotZero, OriginUnranked, TooHigh, Short, TargetUnranked, NotLower}
use Rattle.tx_check.specs.declared.verdict.Verdict.{Verdict}
use Rattle.tx_check.specs.declared.verdict.Verdict.TheVariants.{Yes, No}

-- the ranks that a certificate gives to the plan's exchanges
abbrev pub ranks_for : Plan → Certificate → Ranks
ranks_for p t code exchange = if nat_lt exchange (length p.exchanges)
    then rank_at t code exchange else None

-- what is found at each code
abbrev pub at_codes : {A : Type 0} → Plan → (ℕ → List A) → List A
at_codes p found = flat_map found (range_with_len 0 (length p.codes))

-- what is found at each exchange
abbrev pub at_exchanges : {A : Type 0} → Plan → (ℕ → List A) → List A
at_exchanges p found = flat_map found (range_with_len 0 (length p.exchanges))

-- what is found at each pair, by codes and then by exchanges
abbrev pub at_pairs : {A : Type 0} → Plan → (ℕ → ℕ → List A) → List A
at_pairs p found = at_codes p (λ code. at_exchanges p (found code))

-- a fault, where it is one
abbrev pub fault_if : Bool → CheckFault → List CheckFault
fault_if b fault = if b then fault ∷ [] else []

-- RANKS

-- it is ranked, and this is its rank
abbrev pub is_rank : Option ℕ → ℕ → Bool
is_rank None n = false
is_rank (Some rank) n = rank == n

-- it is ranked above this
abbrev pub is_above : Option ℕ → ℕ → Bool
is_above None n = false
is_above (Some rank) n = nat_lt n rank

-- it is ranked, and not below this
abbrev pub is_at_least : Option ℕ → ℕ → Bool
is_at_least None n = false
is_at_least (Some rank) n = nat_le n rank

-- the rank of an exchange other than the code's home
abbrev pub rank_away : Plan → Ranks → ℕ → ℕ → Option ℕ
rank_away p ranks code exchange = if exchange == home_of p code then None else ranks code exchange

-- the rank of the exchange that a group leads to
abbrev pub rank_beyond : Plan → Ranks → ℕ → ℕ → ℕ → Option ℕ
rank_beyond p ranks code exchange group = option_and_then (ranks code) (other_end p group exchange)

-- K1: a code begins another
abbrev pub ambiguous_fault : Option (ℕ × ℕ) → List CheckFault
ambiguous_fault None = []
ambiguous_fault (Some pair) = Ambiguous pair.0 pair.1 ∷ []

-- the fault of K1, if there is one
abbrev pub ambiguous_faults : Plan → List CheckFault
ambiguous_faults p = ambiguous_fault (ambiguous_of p.codes)

-- K2: the home's rank is not 0
abbrev pub home_not_zero_at : Plan → Ranks → ℕ → List CheckFault
home_not_zero_at p ranks code =
    fault_if (not (is_rank (ranks code (home_of p code)) 0)) (HomeNotZero code)

-- all faults of K2, by codes
abbrev pub home_not_zero_faults : Plan → Ranks → List CheckFault
home_not_zero_faults p ranks = at_codes p (home_not_zero_at p ranks)

-- K3: an origin has no rank
abbrev pub origin_unranked_at : Plan → Ranks → ℕ → ℕ → List CheckFault
origin_unranked_at p ranks code exchange = fault_if
    (is_origin_for p exchange code && is_none (ranks code exchange)) (OriginUnranked code exchange)

-- all faults of K3, by codes and then by exchanges
abbrev pub origin_unranked_faults : Plan → Ranks → List CheckFault
origin_unranked_faults p ranks = at_pairs p (origin_unranked_at p ranks)

-- K4: a rank is above the limit and one
abbrev pub too_high_at : Ranks → ℕ → ℕ → ℕ → List CheckFault
too_high_at ranks limit code exchange =
    fault_if (is_above (ranks code exchange) (limit + 1)) (TooHigh code exchange)

-- all faults of K4, by codes and then by exchanges
abbrev pub too_high_faults : Plan → Ranks → ℕ → List CheckFault
too_high_faults p ranks limit = at_pairs p (too_high_at ranks limit)

-- K5: the list of a ranked exchange other than the home has no more groups than are to spare
abbrev pub too_short_at : Plan → Ranks → ℕ → ℕ → ℕ → List CheckFault
too_short_at p ranks spare code exchange = fault_if (is_some (rank_away p ranks code exchange)
    && nat_le (length (route_list p exchange code)) spare) (Short code exchange)

-- all faults of K5, by codes and then by exchanges
abbrev pub too_short_faults : Plan → Ranks → ℕ → List CheckFault
too_short_faults p ranks spare = at_pairs p (too_short_at p ranks spare)

-- K6: a group in such a list leads to an exchange without rank
abbrev pub target_unranked_by : Plan → Ranks → ℕ → ℕ → Option ℕ → List CheckFault
target_unranked_by p ranks code exchange None = []
target_unranked_by p ranks code exchange (Some rank) = flat_map
    (λ g. fault_if (is_none (rank_beyond p ranks code exchange g)) (TargetUnranked code exchange g))
    (route_list p exchange code)

-- the faults of K6 for a code at an exchange
abbrev pub target_unranked_at : Plan → Ranks → ℕ → ℕ → List CheckFault
target_unranked_at p ranks code exchange =
    target_unranked_by p ranks code exchange (rank_away p ranks code exchange)

-- all faults of K6, by codes and then by exchanges
abbrev pub target_unranked_faults : Plan → Ranks → List CheckFault
target_unranked_faults p ranks = at_pairs p (target_unranked_at p ranks)

-- K7: a group in such a list leads to an exchange whose rank is not smaller
abbrev pub not_lower_by : Plan → Ranks → ℕ → ℕ → Option ℕ → List CheckFault
not_lower_by p ranks code exchange None = []
not_lower_by p ranks code exchange (Some rank) =
    flat_map (λ g. fault_if (is_at_least (rank_beyond p ranks code exchange g) rank)
    (NotLower code exchange g)) (route_list p exchange code)

-- the faults of K7 for a code at an exchange
abbrev pub not_lower_at : Plan → Ranks → ℕ → ℕ → List CheckFault
not_lower_at p ranks code exchange =
    not_lower_by p ranks code exchange (rank_away p ranks code exchange)

-- all faults of K7, by codes and then by exchanges
abbrev pub not_lower_faults : Plan → Ranks → List CheckFault
not_lower_faults p ranks = at_pairs p (not_lower_at p ranks)

-- all faults, by the number of their clause
unfoldable pub check_faults : Plan → Ranks → ℕ → ℕ → List CheckFault
check_faults p ranks limit spare = ambiguous_faults p ++ (home_not_zero_faults p ranks
    ++ (origin_unranked_faults p ranks ++ (too_high_faults p ranks limit ++ (too_short_faults
    p ranks spare ++ (target_unranked_faults p ranks ++ not_lower_faults p ranks)))))

-- The verdict: Yes where there is no fault, else No with the first
abbrev pub verdict_of : List CheckFault → Verdict
verdict_of [] = Yes
verdict_of (fault ∷ faults) = No fault

-- only exchanges of the plan are ranked
abbrev pub RanksOnly : Plan → Ranks → Type 0
RanksOnly p ranks = (code exchange rank : ℕ) → ranks code exchange ≡ Some rank
    → exchange < length p.exchanges

-- THE LAW: there is no fault exactly where the plan is certified by these ranks
pub record FaultlessIsCertified : Type 0 where
  pub certified : (p : Plan) (ranks : Ranks) (limit spare : ℕ) → IsPlan p
      → RanksOnly p ranks → check_faults p ranks limit spare ≡ [] → IsCertified p ranks limit spare
  pub faultless : (p : Plan) (ranks : Ranks) (limit spare : ℕ)
      → IsPlan p → IsCertified p ranks limit spare → check_faults p ranks limit spare ≡ []

-- the first of some faults
abbrev pub foremost : List CheckFault → Option CheckFault
foremost [] = None
foremost (fault ∷ faults) = Some fault
