use Rattle.tx_script.proofs.Common.{codes, refl, arith, rules, text_from_reads}
use Rattle.tx_script.proofs.event_words.party_of.Goals as goal

pub returns-in-CALLER : goal.returns-in-CALLER
returns-in-CALLER c = let e = text_from_reads c.args.word.now (codes "CALLER") (omega arith) (search rules) in rw e refl

pub returns-in-CALLED : goal.returns-in-CALLED
returns-in-CALLED c = let e = text_from_reads c.args.word.now (codes "CALLED") (omega arith) (search rules) in rw e refl
