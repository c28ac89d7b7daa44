use Rattle.std.proofs.Common.{◌≡◌, drop}
use Rattle.tx_jobs.specs.inner.Seen.{line_seen}
use Rattle.tx_jobs.proofs.seen.Seen.with_bytes.Given as goal

-- what is seen with the bytes that are left is what is seen with all of them
abbrev pub invariant-loop-byte : goal.invariant-loop-byte
invariant-loop-byte l = line_seen l.fn.self l.bytes ≡ line_seen l.seen (drop l.byte-index l.bytes)
