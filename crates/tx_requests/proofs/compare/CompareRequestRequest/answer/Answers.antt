use Rattle.std.proofs.Common.{refl}
use Rattle.tx_requests.proofs.compare.CompareRequestRequest.answer.Goals as goal

pub returns : goal.returns
returns g c =
    let is = c.named_only-only.ensures in
    record {
      texts = refl;
      outages = rw is at c.in_ok-outages.ensures;
      new = rw is at c.in_ok-new.ensures;
      old = rw is at c.in_ok-old.ensures;
    }
