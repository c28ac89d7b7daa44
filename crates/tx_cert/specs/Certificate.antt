-- Certificates: a map from codes and exchanges to ranks.
use Rattle.std.specs.Prelude.{◌≡◌, ℕ, ◌<◌, ◌≤◌, length, Option, Some}
use Rattle.std.specs.Ordering.{ordering_then, nat_cmp}
use Rattle.std.specs.declared.cmp.Ordering.{Ordering}
use Rattle.std.specs.FinMap as map
use Rattle.tx_plan.specs.Plan.{Plan}
use Rattle.tx_plan.specs.Certified.{Ranks}

-- a code and an exchange
abbrev pub Pair : Type 0
Pair = ℕ × ℕ

-- by code, and then by exchange
abbrev pub pair_cmp : Pair → Pair → Ordering
pair_cmp a b = ordering_then (nat_cmp a.0 b.0) (nat_cmp a.1 b.1)

-- A certificate for so many codes and exchanges: a map from a code and an exchange to the rank of
-- that exchange for that code.
pub record Certificate : Type 0 where
  pub codes : ℕ
  pub exchanges : ℕ
  pub ranks : map.FinMap pair_cmp ℕ

-- no exchange is ranked
abbrev pub no_ranks : ℕ → ℕ → Certificate
no_ranks codes exchanges = record { codes = codes; exchanges = exchanges; ranks = map.empty }

-- a certificate of a plan in which no exchange is ranked
abbrev pub no_ranks_for : Plan → Certificate
no_ranks_for p = no_ranks (length p.codes) (length p.exchanges)

-- the rank of an exchange for a code, if it has one
abbrev pub rank_at : Certificate → ℕ → ℕ → Option ℕ
rank_at t code exchange = map.get t.ranks (code, exchange)

-- the ranks of a certificate, as the rules of a certified plan take them
abbrev pub ranks_of : Certificate → Ranks
ranks_of t = rank_at t

-- an exchange gets a rank for a code, in place of one that it had
abbrev pub with_rank : Certificate → ℕ → ℕ → ℕ → Certificate
with_rank t code exchange rank = record t { ranks = map.insert t.ranks (code, exchange) rank }

-- only its own codes and exchanges are ranked, and no rank is above 65,535
pub record IsCertificate (t : Certificate) : Type 0 where
  pub own_codes : (c x r : ℕ) → rank_at t c x ≡ Some r → c < t.codes
  pub own_exchanges : (c x r : ℕ) → rank_at t c x ≡ Some r → x < t.exchanges
  pub small : (c x r : ℕ) → rank_at t c x ≡ Some r → r ≤ 65535

-- it is made for the codes and the exchanges of the plan
pub record IsCertificateOf (p : Plan) (t : Certificate) : Type 0 where
  pub codes : t.codes ≡ length p.codes
  pub exchanges : t.exchanges ≡ length p.exchanges
  pub rules : IsCertificate t
