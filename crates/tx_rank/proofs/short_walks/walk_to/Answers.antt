use Rattle.tx_rank.proofs.Common.{sym, ◌∙◌, subst, List, ℕ, arith, rank_in}
use Rattle.tx_rank.proofs.Tracing.{IsBack, back_within, back_more, back_smaller, is_linked, no_link, back_none}
use Rattle.tx_rank.proofs.short_walks.walk_to.Goals as goal

pub loop-link-smaller : goal.loop-link-smaller
loop-link-smaller g c =
    let n = g.N.CodeNet.net c.args.net.now in
    let l = c.requires.linked.true_of c.loop-link.at c.in-Some.link c.in-Some.ensures in
    back_smaller n (rank_in c.args.marks.now) c.requires.passed.ranks c.args.exchange c.loop-link.at c.in-Some.link.0 c.in-Some.link.1 c.loop-link.steps.items c.loop-link.invariant l

pub loop-link-preserved : goal.loop-link-preserved
loop-link-preserved g c =
    let n = g.N.CodeNet.net c.args.net.now in
    let ranks = rank_in c.args.marks.now in
    let l = c.requires.linked.true_of c.loop-link.at c.in-Some.link c.in-Some.ensures in
    let b = back_more n ranks c.requires.passed.ranks c.args.exchange c.loop-link.at c.in-Some.link.0 c.in-Some.link.1 c.loop-link.steps.items c.loop-link.invariant l in
    subst (λ (s : List (ℕ × ℕ)). IsBack n ranks c.args.exchange c.in-Some.link.1 s) (sym c.in_ok-push-in-Some.ensures.items) b

pub unreachable-requires : goal.unreachable-requires
unreachable-requires g c =
    let n = g.N.CodeNet.net c.args.net.now in
    no_link c.args.links.now c.loop-link.at (is_linked n (rank_in c.args.marks.now) c.requires.passed.ranks c.args.links.now c.args.exchange c.loop-link.at c.loop-link.steps.items c.requires.linked.all c.loop-link.invariant (sym c.is_origin.ensures ∙ c.loop-link-test.true)) c.in-None.ensures

pub is_origin-requires : goal.is_origin-requires
is_origin-requires g c = back_within (g.N.CodeNet.net c.args.net.now) (rank_in c.args.marks.now) c.requires.passed.ranks c.args.exchange c.loop-link.at c.loop-link.steps.items c.loop-link.invariant

pub link_at-requires : goal.link_at-requires
link_at-requires g c =
    let w = back_within (g.N.CodeNet.net c.args.net.now) (rank_in c.args.marks.now) c.requires.passed.ranks c.args.exchange c.loop-link.at c.loop-link.steps.items c.loop-link.invariant in
    let l = c.requires.linked.long in
    omega arith

pub loop-link-init : goal.loop-link-init
loop-link-init g c =
    let n = g.N.CodeNet.net c.args.net.now in
    subst (λ (s : List (ℕ × ℕ)). IsBack n (rank_in c.args.marks.now) c.args.exchange c.args.exchange s) (sym c.new-steps.ensures.items) (back_none n (rank_in c.args.marks.now) c.requires.passed.ranks c.args.exchange c.requires.ranked c.requires.away)
