use Rattle.std.proofs.Common.{◌≡◌, arith, length, ◌∙◌, refl}
use Rattle.tx_rank.proofs.Writing.{writing_more, writing_all}
use Rattle.tx_rank.proofs.written.put_ranks.Goals as goal

pub loop-index-preserved : goal.loop-index-preserved
loop-index-preserved g c =
    let e = c.put_rank.ensures in
    writing_more c.args.cert.now c.loop-index.cert c.put_rank.new.cert c.args.marks.now c.args.code c.loop-index.index c.loop-index.invariant e.here e.others e.codes e.exchanges

pub loop-index-init : goal.loop-index-init
loop-index-init g c = record { here = λ x h. absurd (omega arith); blank = λ x h. c.requires.blank x; others = λ d x h. refl; codes = refl; exchanges = refl }

pub put_rank-requires-clause-index : goal.put_rank-requires-clause-index
put_rank-requires-clause-index g c = let e = c.exchanges-index-end.ensures in let t = c.loop-index-test.true in omega arith

pub put_rank-requires-clause-long : goal.put_rank-requires-clause-long
put_rank-requires-clause-long g c = c.requires.long

pub put_rank-requires-clause-exchanges : goal.put_rank-requires-clause-exchanges
put_rank-requires-clause-exchanges g c = c.loop-index.invariant.exchanges ∙ c.requires.exchanges

pub put_rank-requires-clause-blank : goal.put_rank-requires-clause-blank
put_rank-requires-clause-blank g c = c.loop-index.invariant.blank c.loop-index.index (omega arith)

pub returns : goal.returns
returns g c =
    let at : c.loop-index.index ≡ length c.args.marks.now = let t = c.loop-index-test.false in let a = c.loop-index.auto.index-end in let e = c.exchanges-index-end.ensures in let l = c.requires.long in omega arith in
    record {
      here = writing_all c.args.cert.now c.loop-index.cert c.args.marks.now c.args.code c.loop-index.index c.loop-index.invariant at;
      others = c.loop-index.invariant.others;
      codes = c.loop-index.invariant.codes;
      exchanges = c.loop-index.invariant.exchanges;
    }
