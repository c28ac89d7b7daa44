-- What a trace keeps.
use Rattle.std.specs.Prelude.{◌≡◌, ℕ, ◌<◌, length, Option, option_and_then}
use Rattle.tx_plan.specs.Plan.{Plan}
use Rattle.tx_plan.specs.Among.{Among}
use Rattle.tx_cert.specs.Certificate.{Certificate, rank_at}
use Rattle.tx_trace.specs.declared.tracing.Trace.{Trace}
use Rattle.tx_trace.specs.Ways.{far_ends, first_way, all_met}
use Rattle.tx_trace.specs.Heights.{rank_from}

-- the rank of an exchange, where there is a certificate that has one
abbrev pub rank_told : Option Certificate → (c y : ℕ) → Option ℕ
rank_told cert c y = option_and_then (λ t. rank_at t c y) cert

-- The trace of a code from an exchange: the first way, the exchanges met, and the ranks of those to
-- which their groups lead
pub record IsTraceOf {A : Type 0} (p : Plan) (t : Trace A) : Type 0 where
  pub code : t.code < length p.codes
  pub exchange : t.exchange < length p.exchanges
  pub first : t.first.items ≡ first_way p t.code t.exchange
  pub met : t.met.items ≡ all_met p t.code t.exchange
  pub ranks : (y z : ℕ) → Among y t.met.items → Among z (far_ends p t.code y)
      → rank_told t.ranks t.code z ≡ rank_from p t.code t.exchange z
