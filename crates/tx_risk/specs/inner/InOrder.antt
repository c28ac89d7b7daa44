-- The order of cuts, for a search.
use Rattle.std.specs.Prelude.{ℕ, Bool, Option, Some, None, nat_lt, ◌&&◌, ◌||◌, ◌==◌, if◌then◌else◌}
use Rattle.tx_risk.specs.declared.cut.Cut.{Cut}
use Rattle.tx_risk.specs.Outages.{start_at}

module _ (code x : ℕ) where
  -- a cut comes before a code and a start
  abbrev pub comes_before : Cut → Bool
  comes_before c = nat_lt c.code code || ((c.code == code) && nat_lt (start_at c) x)

  -- it is of this code and this start
  abbrev pub is_at : Cut → Bool
  is_at c = (c.code == code) && (start_at c == x)

  -- whether it is stray, if it is
  abbrev pub stray_of : Cut → Option Bool
  stray_of c = if is_at c then Some c.stray else None
