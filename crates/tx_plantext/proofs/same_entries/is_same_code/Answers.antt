use Rattle.std.proofs.Common.{sym, eqb-true}
use Rattle.tx_plantext.proofs.Alike.{code_alike}
use Rattle.tx_plantext.proofs.same_entries.is_same_code.Goals as goal

pub returns-then-eq : goal.returns-then-eq
returns-then-eq g c =
    code_alike c.args.old.now c.args.new.now c.args.code c.home.result c.home-2.result _ _ c.eq-then-eq.result c.requires.old c.requires.new c.home.ensures c.home-2.ensures
    (eqb-true c.home.result c.home-2.result (sym c.if-eq.ensures)) c.code_figures.ensures.value c.code_figures-then-eq.ensures.value c.eq-then-eq.ensures
