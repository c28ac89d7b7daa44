use Rattle.tx_circuits.proofs.Common.{◌<◌, length, arith, Up, Down, free_at, chain}
use Rattle.tx_circuits.proofs.Indexes.{free_below, beside, each_way}
use Rattle.tx_circuits.proofs.lists.neighbours.Goals as goal

pub returns-then-index-slots : goal.returns-then-index-slots
returns-then-index-slots c =
    let end = c.args.end in
    let slots = c.args.slots.now in
    let short = c.requires.short in
    let i_in : c.args.index < 240 = (let a : c.args.index < length slots = c.requires.index in omega arith) in
    each_way _ c.last_before-below.ensures
    (beside (free_at end slots) (free_below end slots short) c.args.index i_in c.requires.taken Up (chain end Up slots c.args.list.now) (c.requires.listed Up)
    c.last_before-below.result c.follow.result c.follow.ensures c.last_before-below.ensures)

pub returns-else-index-slots : goal.returns-else-index-slots
returns-else-index-slots c =
    let end = c.args.end in
    let slots = c.args.slots.now in
    let short = c.requires.short in
    let i_in : c.args.index < 240 = (let a : c.args.index < length slots = c.requires.index in omega arith) in
    each_way _
    (beside (free_at end slots) (free_below end slots short) c.args.index i_in c.requires.taken Down (chain end Down slots c.args.list.now) (c.requires.listed Down)
    c.last_before-above.result c.follow-else-index-slots.result c.follow-else-index-slots.ensures c.last_before-above.ensures)
    c.last_before-above.ensures
