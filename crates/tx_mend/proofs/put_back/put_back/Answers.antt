use Rattle.tx_mend.proofs.Common.{◌∙◌, length, sym, ap, list_with, rank_keeping}
use Rattle.tx_mend.proofs.Trying.{put_stays, put_lost, put_taken, still_long}
use Rattle.tx_mend.proofs.put_back.put_back.Goals as goal

pub stays-requires-clause-long : goal.stays-requires-clause-long
stays-requires-clause-long g c = ap length c.deref.ensures.value ∙ c.requires.long

pub tried_ranks-requires : goal.tried_ranks-requires
tried_ranks-requires g c = ap length c.deref-2.ensures.value ∙ c.requires.long

pub all_ranked-requires-clause-long : goal.all_ranked-requires-clause-long
all_ranked-requires-clause-long g c =
    let t = c.args.task.now in
    let p = t.plan.now in
    ap length c.deref-3.ensures.value
    ∙ still_long p (λ of. rank_keeping p c.args.code t.limits.limit t.limits.spare (list_with p c.args.code of c.args.exchange c.args.group)) c.args.ranks.now.items c.in_ok-tried.tried.items c.requires.long
    (λ of e. c.in_ok-tried.ensures of (c.deref-2.ensures.value ∙ e))

pub returns-then-stays : goal.returns-then-stays
returns-then-stays g c = λ of e.
    let t = c.args.task.now in
    e ∙ put_stays t.plan.now c.args.code t.limits.limit t.limits.spare of c.args.exchange c.args.group (sym (c.stays.ensures of (c.deref.ensures.value ∙ e)) ∙ c.if-stays.true)

pub returns-then-all_ranked : goal.returns-then-all_ranked
returns-then-all_ranked g c = λ of e.
    let t = c.args.task.now in
    let p = t.plan.now in
    let kept = rank_keeping p c.args.code t.limits.limit t.limits.spare (list_with p c.args.code of c.args.exchange c.args.group) in
    let tried = c.in_ok-tried.ensures of (c.deref-2.ensures.value ∙ e) in
    tried ∙ put_taken p c.args.code t.limits.limit t.limits.spare of c.args.exchange c.args.group (sym (c.stays.ensures of (c.deref.ensures.value ∙ e)) ∙ c.if-stays.false)
    (sym (c.all_ranked.ensures kept (c.deref-3.ensures.value ∙ tried)) ∙ c.if-all_ranked.true)

pub returns-else-all_ranked : goal.returns-else-all_ranked
returns-else-all_ranked g c = λ of e.
    let t = c.args.task.now in
    let p = t.plan.now in
    let kept = rank_keeping p c.args.code t.limits.limit t.limits.spare (list_with p c.args.code of c.args.exchange c.args.group) in
    let tried = c.in_ok-tried.ensures of (c.deref-2.ensures.value ∙ e) in
    e ∙ put_lost p c.args.code t.limits.limit t.limits.spare of c.args.exchange c.args.group (sym (c.stays.ensures of (c.deref.ensures.value ∙ e)) ∙ c.if-stays.false)
    (sym (c.all_ranked.ensures kept (c.deref-3.ensures.value ∙ tried)) ∙ c.if-all_ranked.false)
