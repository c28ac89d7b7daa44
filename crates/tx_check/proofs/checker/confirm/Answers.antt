use Rattle.std.proofs.Common.{sym, ◌∙◌}
use Rattle.tx_check.proofs.OwnRanks.{certified_for}
use Rattle.tx_check.proofs.checker.confirm.Goals as goal

pub unreachable-requires : goal.unreachable-requires
unreachable-requires g c =
    let yes = c.check.ensures.yes (certified_for c.args.plan.now c.args.cert.now c.args.limits.limit c.args.limits.spare c.requires.fits c.requires.certified) in
    let no = c.in-No.is in
    cc

pub returns : goal.returns
returns g c =
    let is = c.in-Yes.is in
    record {
      fits = c.requires.fits;
      certified = c.requires.certified;
      yes = sym c.check.ensures.verdict ∙ is;
      sound = c.check.ensures.sound is;
      few_routes = c.check.ensures.few_routes is;
    }
