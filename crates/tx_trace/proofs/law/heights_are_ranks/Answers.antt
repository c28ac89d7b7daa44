use Rattle.tx_trace.proofs.Common.{Option, Some, None, ◌≡◌, ℕ, refl, sym, subst, false≢true, height}
use Rattle.std.specs.Prelude.{IsSome}
use Rattle.tx_trace.proofs.Longest.{height_longest, ranked_height, height_ranked}
use Rattle.tx_trace.proofs.law.heights_are_ranks.Goals as goal

some_of : (o : Option ℕ) → IsSome o → (h : ℕ) × (o ≡ Some h)
some_of None h = absurd (false≢true h)
some_of (Some h) k = (h, refl)

pub returns-clause-ranked : goal.returns-clause-ranked
returns-clause-ranked c = λ p d x ok known there. (
  λ some. let h = some_of (height p d x) some in height_ranked p d ok known x h.0 h.1,
  λ ranked. let h = ranked_height p d ok known x there ranked in subst IsSome (sym h.1) refl,
)

pub returns-clause-longest : goal.returns-clause-longest
returns-clause-longest c = λ p d x h ok known e. height_longest p d ok known x h e
