use Rattle.tx_circuits.proofs.Common.{◌≡◌, ◌∙◌, ℕ, ◌+◌, ◌<◌, true, Option, Some, None, length, sym, subst, arith, refl, Way, Up, Down, IsFirst, IsLast, free_at, chain, rank_of, until}
use Rattle.tx_circuits.proofs.Linked.{put, are_ranked}
use Rattle.tx_circuits.proofs.Indexes.{free_here, free_within, first_within, each_way}
use Rattle.tx_circuits.proofs.Sound.{listed_along}
use Rattle.tx_circuits.proofs.Appending.{until_is, until_other, until_now, until_before, until_skips, greatest_last, none_above, none_after, greatest_next, not_greatest}
use Rattle.tx_circuits.proofs.groups.append.Goals as goal

pub returns-then-not-is_free-clause-listed : goal.returns-then-not-is_free-clause-listed
returns-then-not-is_free-clause-listed c =
    let end = c.args.end in
    let slots = c.args.slots.now in
    let i = c.args.index in
    let taken = free_here end slots i _ c.requires.index ∙ sym c.is_free.ensures ∙ c.if-not-is_free.true in
    listed_along (until i (free_at end slots)) (until (i + 1) (free_at end slots)) end slots slots c.args.list.now (until_skips (free_at end slots) i taken) (λ way k. refl) c.requires.listed

pub insert-requires-clause-below : goal.insert-requires-clause-below
insert-requires-clause-below c =
    let end = c.args.end in
    let slots = c.args.slots.now in
    first_within (until c.args.index (free_at end slots)) (rank_of Down) 0 (length slots) (λ k f. free_within end slots k (until_is (free_at end slots) c.args.index k f).1) c.args.list.now.greatest
    (c.requires.listed Down).begins

pub insert-requires-clause-apart : goal.insert-requires-clause-apart
insert-requires-clause-apart c =
    let slots = c.args.slots.now in
    let short = c.requires.short in
    let i_in : c.args.index < 240 = (let a : c.args.index < length slots = c.requires.index in omega arith) in
    each_way _ (λ e. absurd cc) (not_greatest (free_at c.args.end slots) c.args.index i_in c.args.list.now.greatest (c.requires.listed Down).begins)

pub returns-clause-listed : goal.returns-clause-listed
returns-clause-listed c =
    let end = c.args.end in
    let slots = c.args.slots.now in
    let i = c.args.index in
    let short = c.requires.short in
    let i_in : i < 240 = (let a : i < length slots = c.requires.index in omega arith) in
    let free = free_at end slots in
    let inside = λ (k : ℕ) (f : until i free k ≡ true). let a : k < i = (until_is free i k f).0 in let b : k < 240 = omega arith in b in
    let now = free_here end slots i _ c.requires.index ∙ sym c.is_free.ensures ∙ c.if-not-is_free.false in
    let greatest = c.args.list.now.greatest in
    let one = λ (w : Way) (q r : Option ℕ) (placed : chain end w c.insert.new.slots c.insert.new.list (Some i) ≡ r) (last : IsLast (until i free) (rank_of w) (rank_of w i) q)
    (found : IsFirst (until i free) (rank_of w) (rank_of w i + 1) r) (joined : chain end w c.insert.new.slots c.insert.new.list q ≡ Some i).
    put (until i free) (until (i + 1) free) (rank_of w) (are_ranked w (until i free) inside) i i_in (until_now free i now) (until_before free i) (until_other free i)
    (chain end w slots c.args.list.now) (chain end w c.insert.new.slots c.insert.new.list) (c.requires.listed w)
    (subst (IsFirst (until i free) (rank_of w) (rank_of w i + 1)) (sym placed) found) q last joined in
    each_way _
    (one Up greatest None (c.insert.ensures.placed Up) (greatest_last free i i_in greatest (c.requires.listed Down).begins) (none_after free i i_in) (c.insert.ensures.joined Up) (c.insert.ensures.rest Up))
    (one Down None greatest (c.insert.ensures.placed Down) (none_above free i i_in) (greatest_next free i i_in greatest (c.requires.listed Down).begins) (c.insert.ensures.joined Down) (c.insert.ensures.rest Down))
