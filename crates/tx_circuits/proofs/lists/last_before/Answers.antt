use Rattle.tx_circuits.proofs.Common.{◌<◌, ◌≤◌, ◌+◌, ◌∙◌, sym, subst, arith, IsFirst, IsLast, free_at, rank_of}
use Rattle.tx_circuits.proofs.Indexes.{free_within}
use Rattle.tx_circuits.proofs.Before.{left_from, rank_below, Reached, reached_none, reached_next, reached_past, reached_end, left_falls}
use Rattle.tx_circuits.proofs.lists.last_before.Goals as goal

pub loop-rest-init : goal.loop-rest-init
loop-rest-init c =
    let free = free_at c.args.end c.args.slots.now in
    let rank = rank_of c.args.way in
    reached_none free rank c.rank-limit.result c.begins-rest.result (subst (IsFirst free rank 0) (sym c.begins-rest.ensures) (c.requires.listed c.args.way).begins)

pub rank-requires : goal.rank-requires
rank-requires c =
    let free = free_at c.args.end c.args.slots.now in
    let rank = rank_of c.args.way in
    let reached = subst (Reached free rank c.rank-limit.result c.loop-rest.last) c.in-Some.is c.loop-rest.invariant in
    let within = free_within c.args.end c.args.slots.now c.in-Some.p reached.2.0 in
    let short = c.requires.short in
    omega (arith, within, short)

pub links_at-requires : goal.links_at-requires
links_at-requires c =
    let free = free_at c.args.end c.args.slots.now in
    let rank = rank_of c.args.way in
    let reached = subst (Reached free rank c.rank-limit.result c.loop-rest.last) c.in-Some.is c.loop-rest.invariant in
    free_within c.args.end c.args.slots.now c.in-Some.p reached.2.0

pub loop-rest-preserved : goal.loop-rest-preserved
loop-rest-preserved c =
    let free = free_at c.args.end c.args.slots.now in
    let rank = rank_of c.args.way in
    let p = c.in-Some.p in
    let reached = subst (Reached free rank c.rank-limit.result c.loop-rest.last) c.in-Some.is c.loop-rest.invariant in
    let next = subst (IsFirst free rank (rank p + 1)) (sym (c.ahead-rest.ensures ∙ c.links_at.ensures c.args.way)) ((c.requires.listed c.args.way).goes_on p reached.2.0) in
    reached_next free rank c.rank-limit.result p c.loop-rest.last c.ahead-rest.result reached (subst (λ n. n < c.rank-limit.result) c.rank.ensures c.if-rank-limit.false) next

pub loop-rest-smaller : goal.loop-rest-smaller
loop-rest-smaller c =
    let free = free_at c.args.end c.args.slots.now in
    let rank = rank_of c.args.way in
    let p = c.in-Some.p in
    let reached = subst (Reached free rank c.rank-limit.result c.loop-rest.last) c.in-Some.is c.loop-rest.invariant in
    let next = subst (IsFirst free rank (rank p + 1)) (sym (c.ahead-rest.ensures ∙ c.links_at.ensures c.args.way)) ((c.requires.listed c.args.way).goes_on p reached.2.0) in
    let within = free_within c.args.end c.args.slots.now p reached.2.0 in
    let short = c.requires.short in
    subst (λ r. left_from rank c.ahead-rest.result < left_from rank r) (sym c.in-Some.is) (left_falls free rank p c.ahead-rest.result next (rank_below c.args.way p (omega (arith, within, short))))

pub returns-then-rank-limit : goal.returns-then-rank-limit
returns-then-rank-limit c =
    let free = free_at c.args.end c.args.slots.now in
    let rank = rank_of c.args.way in
    let reached = subst (Reached free rank c.rank-limit.result c.loop-rest.last) c.in-Some.is c.loop-rest.invariant in
    subst (λ n. IsLast free rank n c.loop-rest.last) c.rank-limit.ensures
    (reached_past free rank c.rank-limit.result c.in-Some.p c.loop-rest.last reached (subst (λ n. c.rank-limit.result ≤ n) c.rank.ensures c.if-rank-limit.true))

pub returns-in_default : goal.returns-in_default
returns-in_default c =
    let free = free_at c.args.end c.args.slots.now in
    let rank = rank_of c.args.way in
    subst (λ n. IsLast free rank n c.loop-rest.last) c.rank-limit.ensures
    (reached_end free rank c.rank-limit.result c.loop-rest.last (subst (Reached free rank c.rank-limit.result c.loop-rest.last) c.in_default.is c.loop-rest.invariant))
