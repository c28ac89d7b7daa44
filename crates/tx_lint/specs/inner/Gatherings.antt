-- What is held while faults are gathered.
use Rattle.std.specs.Prelude.{ℕ, ◌<◌, map}
use Rattle.std.specs.List.{AllByRecursion}
use Rattle.tx_lint.specs.declared.gathering.Gathering.{Gathering as GatheringHeld}
use Rattle.tx_lint.specs.Gathered.{Gathering}
use Rattle.tx_lint.specs.Lints.{told_held}

-- the faults that are told, and the missing names, as they are held
abbrev pub gathering_held : {A : Type 0} → GatheringHeld A → Gathering
gathering_held g = record { told = map told_held g.told.items; missing = g.missing.entries }

-- fewer lines than n need what any line has left undeclared
abbrev pub AreFew : (n : ℕ) → Gathering → Type 0
AreFew n g = AllByRecursion (λ t. t.needing < n) g.told
