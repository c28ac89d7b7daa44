use Rattle.tx_requests.proofs.Common.{length, arith, rules, tests, any_from_yields_List}
use Rattle.std.proofs.lemmas.Iterator.{YieldsList-from_range}
use Rattle.tx_requests.specs.PageCodes.{differs_at}
use Rattle.tx_requests.proofs.page_codes.differs.Goals as goal

pub returns : goal.returns
returns g c =
    let n = length c.args.new.now.exchanges in
    any_from_yields_List (differs_at c.args.old.now c.args.new.now c.args.code) _ _ _ c.any.ensures.ran
    (YieldsList-from_range 0 n n (cc) (omega arith)) (λ x b q k. search (rules, tests))
