use Rattle.tx_circuits.proofs.Common.{◌≡◌, ◌∙◌, ◌+◌, ◌<◌, ◌≤◌, length, map, sym, ap, arith, length-map, First, Other, free_at, link_at, state_of, until, list_of}
use Rattle.tx_circuits.proofs.Indexes.{each_end, free_within}
use Rattle.tx_circuits.proofs.Sound.{are_sound, listed_along, empty_listed, until_alike}
use Rattle.tx_circuits.proofs.Appending.{until_all}
use Rattle.tx_circuits.proofs.groups.relist.Goals as goal

pub loop-index-init : goal.loop-index-init
loop-index-init c = (λ end. empty_listed end c.args.slots.now c.new-lists.result c.new-lists.ensures, λ i. map state_of c.args.slots.now)

pub append-requires-clause-listed : goal.append-requires-clause-listed
append-requires-clause-listed c = c.loop-index.invariant.0 First

pub append-requires-in-loop-index-clause-listed : goal.append-requires-in-loop-index-clause-listed
append-requires-in-loop-index-clause-listed c =
    listed_along (until c.loop-index.index (free_at Other c.loop-index.slots)) (until c.loop-index.index (free_at Other c.append.new.slots)) Other c.loop-index.slots c.append.new.slots c.loop-index.lists.other
    (until_alike c.loop-index.index Other c.loop-index.slots c.append.new.slots c.append.ensures.states) c.append.ensures.other (c.loop-index.invariant.0 Other)

pub loop-index-preserved : goal.loop-index-preserved
loop-index-preserved c =
    let i = c.loop-index.index in
    let zero_ = c.loop-index.slots in
    let one = c.append.new.slots in
    let two = c.append-in-loop-index.new.slots in (
      each_end _
          (listed_along (until (i + 1) (free_at First zero_)) (until (i + 1) (free_at First two)) First one two c.append.new.list
          (until_alike (i + 1) First zero_ two (c.append-in-loop-index.ensures.states ∙ c.append.ensures.states)) c.append-in-loop-index.ensures.other c.append.ensures.listed)
          (listed_along (until (i + 1) (free_at Other one)) (until (i + 1) (free_at Other two)) Other two two c.append-in-loop-index.new.list
          (until_alike (i + 1) Other one two c.append-in-loop-index.ensures.states) (λ way k j. link_at Other way two k) c.append-in-loop-index.ensures.listed),
      c.append-in-loop-index.ensures.states ∙ c.append.ensures.states ∙ c.loop-index.invariant.1,
    )

pub returns-clause-sound : goal.returns-clause-sound
returns-clause-sound c =
    let slots = c.loop-index.slots in
    let long : length slots ≡ length c.args.slots.now = sym (length-map slots state_of) ∙ ap length c.loop-index.invariant.1 ∙ length-map c.args.slots.now state_of in
    let short = c.requires.short in
    let done : length c.args.slots.now ≤ c.loop-index.index = c.loop-index-test.false in
    are_sound slots c.loop-index.lists (omega arith)
    (λ end. listed_along (until c.loop-index.index (free_at end slots)) (free_at end slots) end slots slots (list_of end c.loop-index.lists)
    (until_all (free_at end slots) c.loop-index.index (λ k f. let a : k < length slots = free_within end slots k f in let b : k < c.loop-index.index = omega arith in b)) (λ way k j. link_at end way slots k)
    (c.loop-index.invariant.0 end))
