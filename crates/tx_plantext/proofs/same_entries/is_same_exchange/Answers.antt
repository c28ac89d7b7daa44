use Rattle.tx_plantext.proofs.Alike.{exchange_alike}
use Rattle.tx_plantext.proofs.same_entries.is_same_exchange.Goals as goal

pub returns : goal.returns
returns g c = exchange_alike c.args.old.now c.args.new.now c.args.exchange _ _ c.eq.result c.requires.old c.requires.new c.exchange_name.ensures.value c.exchange_name-2.ensures.value c.eq.ensures
