-- The cuts of one code, as they are added.
use Rattle.std.specs.Prelude.{◌≡◌, ℕ, ◌<◌, true, List, ◌++◌, map}
use Rattle.tx_plan.specs.Rules.{EachPair}
use Rattle.tx_plan.specs.Among.{Among}
use Rattle.tx_risk.specs.declared.cut.Cut.{Cut}
use Rattle.tx_risk.specs.declared.cut.Leg.{Leg}
use Rattle.tx_risk.specs.declared.outage.Outage.{Outage}
use Rattle.tx_risk.specs.Risks.{IsCut}
use Rattle.tx_risk.specs.Outages.{is_asked, IsCutAs, start_at, AreCutsOfCode}
use Rattle.tx_risk.specs.inner.Left.{Left, gone, left_net}

-- these were added
pub record Adds (AreThese : List Cut → Type 0) (old new : List Cut) : Type 0 where
  pub mine : List Cut
  pub added : new ≡ old ++ mine
  pub these : AreThese mine

-- those of the code
abbrev pub AreCuts : Left → Outage → List Leg → List Cut → Type 0
AreCuts l o legs cuts = AreCutsOfCode l.plan (gone l) o legs l.code cuts

-- those from the exchanges before index i
pub record AreCutsBefore (l : Left) (o : Outage) (legs : List Leg) (i : ℕ) (cuts : List Cut) : Type 0 where
  pub each : (c : Cut) → Among c cuts → IsCutAs (left_net l) l.code legs c
  pub asked : (c : Cut) → Among c cuts → is_asked l.plan o l.code (start_at c) ≡ true
  pub order : EachPair (λ x y. x < y) (map start_at cuts)
  pub below : (y : ℕ) → Among y (map start_at cuts) → y < i
  pub all : (x : ℕ) (steps : List (ℕ × ℕ)) → is_asked l.plan o l.code x ≡ true
      → IsCut (left_net l) x steps → x < i → Among x (map start_at cuts)
