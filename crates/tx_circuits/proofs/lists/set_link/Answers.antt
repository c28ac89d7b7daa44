use Rattle.tx_circuits.proofs.Common.{◌∙◌, None, ap, Slot, ahead, links_of, back, opposite, state_of}
use Rattle.tx_circuits.proofs.Columns.{column_here, column_there, column_same, column-set_same}
use Rattle.tx_circuits.proofs.lists.set_link.Goals as goal

pub returns : goal.returns
returns c = record {
  here = column_here (λ (s : Slot). ahead c.args.way (links_of c.args.end s)) c.args.slots.now c.args.index c.with_link.result None c.requires ∙ c.with_link.ensures.here;
  apart = λ k ne. column_there (λ (s : Slot). ahead c.args.way (links_of c.args.end s)) c.args.slots.now c.args.index k c.with_link.result None ne;
  turned = λ k. column_same (λ (s : Slot). ahead (back c.args.way) (links_of c.args.end s)) c.args.slots.now c.args.index k c.with_link.result _ None
      c.with_link.ensures.turned c.requires;
  other = λ w k. column_same (λ (s : Slot). ahead w (links_of (opposite c.args.end) s)) c.args.slots.now c.args.index k c.with_link.result _ None
      (ap (ahead w) c.with_link.ensures.other) c.requires;
  states = column-set_same state_of c.args.slots.now c.args.index c.with_link.result _ c.with_link.ensures.state c.requires;
}
