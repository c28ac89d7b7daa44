use Rattle.tx_jobs.proofs.Common.{◌≡◌, ◌-◌, length, take, drop, arith, length-drop, take_all}
use Rattle.tx_jobs.proofs.Taking.{taken_none, taken_more}
use Rattle.tx_jobs.proofs.seen.Seen.take.Goals as goal

pub loop-taken-init : goal.loop-taken-init
loop-taken-init c = taken_none c.args.self.now c.args.bytes.now

pub loop-taken-preserved : goal.loop-taken-preserved
loop-taken-preserved c =
    let bytes = c.args.bytes.now in
    let i = c.loop-taken.taken in
    let line = c.take_line-taken in
    let rest : take (length bytes - i) (drop i bytes) ≡ drop i bytes = take_all (length bytes - i) (drop i bytes) (omega (arith, length-drop i bytes)) in
    taken_more c.args.self.now bytes c.loop-taken.self line.new.self i line.result _ rest (omega (arith, c.loop-taken-test.true)) c.loop-taken.invariant line.ensures.within line.ensures.some line.ensures.end
