use Rattle.tx_circuits.proofs.Common.{◌≡◌, ◌≢◌, ◌∙◌, ℕ, ◌+◌, ◌<◌, true, false, List, Option, length, sym, subst, arith, IfSome, End, FreeList, Way, Up, Down, Slot, IsFirst, with, free_at, chain, link_at, rank_of, ahead, back, IsListed}
use Rattle.tx_circuits.proofs.Linked.{take, with_here, with_there, to_last, are_ranked}
use Rattle.tx_circuits.proofs.Indexes.{free_within, free_below, first_within, each_way}
use Rattle.tx_circuits.proofs.lists.take.Goals as goal

-- what follows a free circuit in a way lies in the group
module _ (end : End) (slots : List Slot) (list : FreeList) (listed : IsListed (free_at end slots) end slots list) (i : ℕ) (free : free_at end slots i ≡ true) where
  next_within : (way : Way) (r : Option ℕ) → r ≡ link_at end way slots i → IfSome r (λ k. k < length slots)
  next_within way r e =
      subst (λ (r : Option ℕ). IfSome r (λ k. k < length slots)) (sym e)
      (first_within (free_at end slots) (rank_of way) (rank_of way i + 1) (length slots) (free_within end slots) (link_at end way slots i) ((listed way).goes_on i free))

pub lead-requires : goal.lead-requires
lead-requires c = next_within c.args.end c.args.slots.now c.args.list.now c.requires.listed c.args.index c.requires.free Down _ (c.links_at-links.ensures Down)

pub lead-requires-2 : goal.lead-requires-2
lead-requires-2 c =
    subst (λ (n : ℕ). IfSome c.links_at-links.result.above (λ k. k < n)) (sym c.lead.auto.slots)
    (next_within c.args.end c.args.slots.now c.args.list.now c.requires.listed c.args.index c.requires.free Up _ (c.links_at-links.ensures Up))

pub returns-clause-listed : goal.returns-clause-listed
returns-clause-listed c =
    let end = c.args.end in
    let slots = c.args.slots.now in
    let i = c.args.index in
    let short = c.requires.short in
    let i_in : i < 240 = (let a : i < length slots = c.requires.index in omega arith) in
    let free = free_at end slots in
    let inside = free_below end slots short in
    let one = λ (w : Way) (joined : chain end w c.lead-2.new.slots c.lead-2.new.list (ahead (back w) c.links_at-links.result) ≡ link_at end w slots i)
    (rest : (k : Option ℕ) → k ≢ ahead (back w) c.links_at-links.result → chain end w c.lead-2.new.slots c.lead-2.new.list k ≡ chain end w slots c.args.list.now k).
    take free (with free i false) (rank_of w) (are_ranked w free inside) i (with_here free i false) c.requires.free (λ k ne. with_there free i k false ne)
    (chain end w slots c.args.list.now) (chain end w c.lead-2.new.slots c.lead-2.new.list) (c.requires.listed w) (ahead (back w) c.links_at-links.result)
    (to_last free inside i i_in w (ahead (back w) c.links_at-links.result)
    (subst (IsFirst free (rank_of (back w)) (rank_of (back w) i + 1)) (sym (c.links_at-links.ensures (back w))) ((c.requires.listed (back w)).goes_on i c.requires.free)))
    joined rest in
    each_way _
    (one Up (c.lead-2.ensures.turned c.links_at-links.result.below ∙ c.lead.ensures.here ∙ c.links_at-links.ensures Up) (λ k ne. c.lead-2.ensures.turned k ∙ c.lead.ensures.apart k ne))
    (one Down (c.lead-2.ensures.here ∙ c.links_at-links.ensures Down) (λ k ne. c.lead-2.ensures.apart k ne ∙ c.lead.ensures.turned k))
