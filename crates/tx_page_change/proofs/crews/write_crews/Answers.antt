use Rattle.tx_page_change.proofs.Common.{length, ap, if◌then◌else◌, sets_is, sets_then, texts_below}
use Rattle.std.proofs.Common.{[]}
use Rattle.tx_order.specs.Switchings.{plans_of}
use Rattle.tx_page_change.specs.CrewTexts.{crew_texts}
use Rattle.tx_page_change.proofs.crews.write_crews.Goals as goal

pub returns-then-change : goal.returns-then-change
returns-then-change g c =
    let h = c.args.change.now in
    sets_is (ap (λ b. if b then texts_below (length (plans_of h.switching.now).new.exchanges) (crew_texts c.args.safe h) else []) c.if-change.true) (sets_then c.set.ensures c.write_each.ensures)
