use Rattle.tx_order.proofs.Common.{subst, Plan, AreListsOf}
use Rattle.tx_order.proofs.Ordered.{is_order_of}
use Rattle.tx_order.proofs.switching.asked_of.Goals as goal

pub returns : goal.returns
returns g c =
    let o = c.args.order.now in
    record {
      common = c.in_ok-cert.ensures.common;
      fits = c.in_ok-cert.ensures.fits;
      before = c.in_ok-before.ensures;
      after = c.in_ok-after.ensures;
      old = subst (λ (p : Plan). AreListsOf p c.in_ok-old.old) (is_order_of o c.rules.ensures.kept).first c.in_ok-old.ensures;
    }
