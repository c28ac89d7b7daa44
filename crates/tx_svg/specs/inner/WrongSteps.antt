-- Which steps the walks of findings take.
use Rattle.std.specs.Prelude.{ℕ, Bool, false, ◌&&◌, ◌||◌, ◌==◌, List, [], ◌∷◌}
use Rattle.std.specs.List.{list_any}
use Rattle.tx_rank.specs.declared.finding.Finding.{Finding}
use Rattle.tx_rank.specs.declared.finding.Finding.TheVariants.{Ambiguous, Loop, Short, Long}

-- one of the steps from x leads from one exchange to another
abbrev pub goes : (x : ℕ) → List (ℕ × ℕ) → (from to : ℕ) → Bool
goes x [] from to = false
goes x (s ∷ steps) from to = ((x == from) && (s.1 == to)) || goes s.1 steps from to

module _ {A : Type 0} where
  -- the walk of a finding of the code has such a step
  abbrev pub has_step : (code from to : ℕ) → Finding A → Bool
  has_step code from to (Ambiguous a b) = false
  has_step code from to (Loop c w) = (c == code) && goes w.start w.steps from to
  has_step code from to (Short c w) = (c == code) && goes w.start w.steps from to
  has_step code from to (Long c w) = (c == code) && goes w.start w.steps from to

  -- that of one of the findings has
  abbrev pub is_wrong : List (Finding A) → (code from to : ℕ) → Bool
  is_wrong findings code from to = list_any (has_step code from to) findings
