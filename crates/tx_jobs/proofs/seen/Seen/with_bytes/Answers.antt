use Rattle.tx_jobs.proofs.Common.{◌≡◌, ◌∙◌, sym, arith, rules, Other}
use Rattle.tx_jobs.proofs.Taking.{seen_on, seen_all, seen_other}
use Rattle.tx_jobs.proofs.seen.Seen.with_bytes.Goals as goal

pub loop-byte-preserved : goal.loop-byte-preserved
loop-byte-preserved c = rw c.in_line-seen.ensures (c.loop-byte.invariant ∙ seen_on c.loop-byte.seen c.args.bytes.now c.loop-byte.byte-index (omega (arith, c.loop-byte-test.true)))

pub returns-after-loop-byte : goal.returns-after-loop-byte
returns-after-loop-byte c = sym (c.loop-byte.invariant ∙ seen_all c.loop-byte.seen c.args.bytes.now c.loop-byte.byte-index (omega (arith, c.loop-byte-test.false)))

pub returns-then-eq : goal.returns-then-eq
returns-then-eq c = let is : c.loop-byte.seen ≡ Other = search rules in sym (c.loop-byte.invariant ∙ seen_other c.loop-byte.seen _ is)
