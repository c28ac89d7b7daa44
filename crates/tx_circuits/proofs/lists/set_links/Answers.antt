use Rattle.tx_circuits.proofs.Common.{◌∙◌, None, ap, Slot, ahead, links_of, opposite, state_of}
use Rattle.tx_circuits.proofs.Columns.{column_here, column_there, column_same, column-set_same}
use Rattle.tx_circuits.proofs.lists.set_links.Goals as goal

pub returns : goal.returns
returns c = record {
  here = λ way. column_here (λ (s : Slot). ahead way (links_of c.args.end s)) c.args.slots.now c.args.index c.with_links.result None c.requires ∙ ap (ahead way) c.with_links.ensures.here;
  apart = λ way k ne. column_there (λ (s : Slot). ahead way (links_of c.args.end s)) c.args.slots.now c.args.index k c.with_links.result None ne;
  other = λ way k. column_same (λ (s : Slot). ahead way (links_of (opposite c.args.end) s)) c.args.slots.now c.args.index k c.with_links.result _ None
      (ap (ahead way) c.with_links.ensures.other) c.requires;
  states = column-set_same state_of c.args.slots.now c.args.index c.with_links.result _ c.with_links.ensures.state c.requires;
}
