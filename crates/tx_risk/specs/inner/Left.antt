-- What a risk leaves of a plan, for one code.
use Rattle.std.specs.Prelude.{ℕ, ◌<◌, Bool, List, length}
use Rattle.tx_plan.specs.Plan.{Plan}
use Rattle.tx_plan.specs.Rules.{IsPlan}
use Rattle.tx_rank.specs.Walks.{Net}
use Rattle.tx_risk.specs.Risks.{Risk, net_without}
use Rattle.tx_risk.specs.inner.Marked.{marked}

-- a plan, which of its groups go, and a code
pub record Left : Type 0 where
  pub plan : Plan
  pub marks : List Bool
  pub code : ℕ

-- the plan obeys its rules, and has the code
pub record IsLeft (l : Left) : Type 0 where
  pub rules : IsPlan l.plan
  pub code : l.code < length l.plan.codes

-- the groups that go
abbrev pub gone : Left → Risk
gone l = marked l.marks

-- the network for the code, without them
abbrev pub left_net : Left → Net
left_net l = net_without l.plan (gone l) l.code
