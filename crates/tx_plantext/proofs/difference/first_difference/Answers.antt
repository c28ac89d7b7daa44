use Rattle.tx_plantext.proofs.Alike.{one_network}
use Rattle.tx_plantext.proofs.difference.first_difference.Goals as goal

pub returns : goal.returns
returns g c = one_network c.args.old.now c.args.new.now (λ i. c.in_default.ensures i) (λ i. c.in_default-first_apart.ensures i) (λ i. c.in_default-first_apart-2.ensures i) (λ i. c.in_default-first_apart-3.ensures i)
