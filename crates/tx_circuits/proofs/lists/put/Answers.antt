use Rattle.tx_circuits.proofs.Common.{◌+◌, ◌<◌, true, length, sym, subst, arith, Way, Up, Down, IsFirst, IsLast, with, free_at, chain, rank_of, ahead, back}
use Rattle.tx_circuits.proofs.Linked.{put, with_here, with_there, to_first, are_ranked}
use Rattle.tx_circuits.proofs.Indexes.{free_within, free_below, last_within, not_itself, each_way}
use Rattle.tx_circuits.proofs.lists.put.Goals as goal

pub insert-requires-clause-above : goal.insert-requires-clause-above
insert-requires-clause-above c =
    last_within (free_at c.args.end c.args.slots.now) (rank_of Down) (rank_of Down c.args.index) (length c.args.slots.now) (free_within c.args.end c.args.slots.now) c.neighbours-links.result.above
    (c.neighbours-links.ensures Down)

pub insert-requires-clause-below : goal.insert-requires-clause-below
insert-requires-clause-below c =
    last_within (free_at c.args.end c.args.slots.now) (rank_of Up) (rank_of Up c.args.index) (length c.args.slots.now) (free_within c.args.end c.args.slots.now) c.neighbours-links.result.below
    (c.neighbours-links.ensures Up)

pub insert-requires-clause-apart : goal.insert-requires-clause-apart
insert-requires-clause-apart c =
    let free = free_at c.args.end c.args.slots.now in
    let i = c.args.index in
    each_way _
    (not_itself free (rank_of Down) (rank_of Down i) i c.requires.taken c.neighbours-links.result.above (c.neighbours-links.ensures Down))
    (not_itself free (rank_of Up) (rank_of Up i) i c.requires.taken c.neighbours-links.result.below (c.neighbours-links.ensures Up))

pub returns-clause-listed : goal.returns-clause-listed
returns-clause-listed c =
    let end = c.args.end in
    let slots = c.args.slots.now in
    let i = c.args.index in
    let short = c.requires.short in
    let i_in : i < 240 = (let a : i < length slots = c.requires.index in omega arith) in
    let free = free_at end slots in
    let inside = free_below end slots short in
    let links = c.neighbours-links.result in
    let one = λ (w : Way) (behind : IsLast free (rank_of (back w)) (rank_of (back w) i) (ahead w links)).
    put free (with free i true) (rank_of w) (are_ranked w free inside) i i_in (with_here free i true) c.requires.taken (λ k ne. with_there free i k true ne)
    (chain end w slots c.args.list.now) (chain end w c.insert.new.slots c.insert.new.list) (c.requires.listed w)
    (subst (IsFirst free (rank_of w) (rank_of w i + 1)) (sym (c.insert.ensures.placed w)) (to_first free inside i i_in w (ahead w links) behind))
    (ahead (back w) links) (c.neighbours-links.ensures w) (c.insert.ensures.joined w) (c.insert.ensures.rest w) in
    each_way _ (one Up (c.neighbours-links.ensures Down)) (one Down (c.neighbours-links.ensures Up))
