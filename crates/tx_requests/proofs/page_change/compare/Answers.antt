use Rattle.std.proofs.Common.{◌∙◌, ap}
use Rattle.tx_requests.specs.Page.{if_both}
use Rattle.tx_requests.proofs.page_change.compare.Goals as goal

pub returns : goal.returns
returns g c =
    let counted = if_both c.args.before.now.grade.plan c.args.after.now.grade.plan in
    record {
      beside = c.beside-comparison.result;
      are = record {
        network_is = c.beside-comparison.ensures.network_is;
        risks_are = c.beside-comparison.ensures.risks_are;
        outages_are = c.beside-comparison.ensures.outages_are ∙ c.as_slice-3.ensures.value ∙ c.in_ok-outages.ensures;
        new_is = cc;
        old_is = cc;
      };
      worse_is = c.if_both-worse.ensures ∙ ap counted c.count_worse_outages.ensures;
      better_is = c.if_both-better.ensures ∙ ap counted c.count_better_outages.ensures;
    }
