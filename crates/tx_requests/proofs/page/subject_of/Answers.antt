use Rattle.std.proofs.Common.{refl}
use Rattle.tx_requests.proofs.page.subject_of.Goals as goal

pub returns : goal.returns
returns g c = record {
  name = rw (c.as_bytes.ensures.value, c.as_slice-text.ensures.value) at c.title_of.ensures;
  digest = rw c.as_slice-text.ensures.value at c.digest.ensures;
  version = refl;
  plan = refl;
  limits = refl;
  down = c.groups_asked.ensures;
  down_exchange = c.exchange_asked.ensures;
  risks = refl;
  ranking = refl;
  grade = refl;
  change = c.shown_change.ensures;
  outcomes = c.as_slice.ensures.value;
  pictures = c.as_slice-2.ensures.value;
}
