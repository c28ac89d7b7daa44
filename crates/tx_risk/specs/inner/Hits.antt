-- Lists of which an outage leaves nothing.
use Rattle.std.specs.Prelude.{◌≡◌, ℕ, ◌<◌, Bool, true, not, ◌&&◌, ◌==◌, List, length, is_some}
use Rattle.std.specs.List.{list_all}
use Rattle.tx_plan.specs.Plan.{Plan}
use Rattle.tx_plan.specs.Among.{Among}
use Rattle.tx_plan.specs.Circuits.{other_end}
use Rattle.tx_plan.specs.Routes.{route_list}
use Rattle.tx_risk.specs.declared.outage.Outage.{Outage}
use Rattle.tx_risk.specs.declared.outage.Outage.TheVariants.{Exchange}
use Rattle.tx_risk.specs.Risks.{Risk, groups_of}
use Rattle.tx_risk.specs.inner.Left.{Left, gone}

-- the ends of the first groups, if they go, are among these
abbrev pub AreEnds : Plan → Risk → ℕ → List ℕ → Type 0
AreEnds p risk i ends =
    (g x : ℕ) → g < i → risk g ≡ true → is_some (other_end p g x) ≡ true → Among x ends

-- x has a list for the code, and nothing is left of it
abbrev pub is_emptied : Left → (x : ℕ) → Bool
is_emptied l x =
    not (length (route_list l.plan x l.code) == 0)
    && list_all (gone l) (route_list l.plan x l.code)

-- where an exchange fails, all groups of which it is an end go
abbrev pub TakesItsGroups : Plan → Risk → Outage → Type 0
TakesItsGroups p risk (Exchange x) = (g : ℕ) → groups_of p x g ≡ true → risk g ≡ true
TakesItsGroups p risk o = Unit {0}
