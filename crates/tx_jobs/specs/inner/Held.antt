-- What is true of the bytes that were read ahead.
use Rattle.std.specs.Prelude.{◌≡◌, ◌≤◌, length}
use Rattle.tx_jobs.specs.declared.held.Held.TheInside.{Inside}

-- the part that is still to be given lies within the buffer
pub record IsHeld (h : Inside) : Type 0 where
  pub order : h.from ≤ h.to
  pub within : h.to ≤ 4096
  pub room : length h.bytes ≡ 4096
