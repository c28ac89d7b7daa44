use Rattle.tx_script.proofs.Common.{codes, refl, arith, rules, text_from_reads}
use Rattle.tx_script.proofs.event_words.Verb.read.Goals as goal

pub returns-in-ROUTE : goal.returns-in-ROUTE
returns-in-ROUTE c = let e = text_from_reads c.args.word.now (codes "ROUTE") (omega arith) (search rules) in rw e refl

pub returns-in-CLEAR : goal.returns-in-CLEAR
returns-in-CLEAR c = let e = text_from_reads c.args.word.now (codes "CLEAR") (omega arith) (search rules) in rw e refl

pub returns-in-BLOCK : goal.returns-in-BLOCK
returns-in-BLOCK c = let e = text_from_reads c.args.word.now (codes "BLOCK") (omega arith) (search rules) in rw e refl

pub returns-in-FAULT : goal.returns-in-FAULT
returns-in-FAULT c = let e = text_from_reads c.args.word.now (codes "FAULT") (omega arith) (search rules) in rw e refl

pub returns-in-CONFIRM : goal.returns-in-CONFIRM
returns-in-CONFIRM c = let e = text_from_reads c.args.word.now (codes "CONFIRM") (omega arith) (search rules) in rw e refl

pub returns-in-RESTORE : goal.returns-in-RESTORE
returns-in-RESTORE c = let e = text_from_reads c.args.word.now (codes "RESTORE") (omega arith) (search rules) in rw e refl

pub returns-in-UNBLOCK : goal.returns-in-UNBLOCK
returns-in-UNBLOCK c = let e = text_from_reads c.args.word.now (codes "UNBLOCK") (omega arith) (search rules) in rw e refl

pub returns-in-RELEASED : goal.returns-in-RELEASED
returns-in-RELEASED c = let e = text_from_reads c.args.word.now (codes "RELEASED") (omega arith) (search rules) in rw e refl
