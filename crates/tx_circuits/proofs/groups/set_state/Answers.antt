use Rattle.tx_circuits.proofs.Common.{◌≡◌, ◌∙◌, ◌<◌, ◌≤◌, ℕ, Bool, length, List, sym, ap, subst, slice_set, map, arith, length-set, length-map, map-set, End, First, Other, CircuitState, with, free_at, is_free, state_of, IsListed}
use Rattle.tx_circuits.proofs.Indexes.{each_end}
use Rattle.tx_circuits.proofs.Sound.{are_linked, are_sound, listed_along, free_alike, after_write}
use Rattle.tx_circuits.proofs.groups.set_state.Goals as goal

pub relink-requires-clause-listed : goal.relink-requires-clause-listed
relink-requires-clause-listed c = are_linked c.args.slots.now c.args.lists.now c.requires.sound First

pub relink-requires-2-clause-listed : goal.relink-requires-2-clause-listed
relink-requires-2-clause-listed c =
    let old = c.args.slots.now in
    let one = c.relink.new.slots in
    listed_along (free_at Other old) (free_at Other one) Other old one c.args.lists.now.other (λ k. sym (free_alike Other old one c.relink.ensures.states k)) c.relink.ensures.other
    (are_linked old c.args.lists.now c.requires.sound Other)

pub returns-clause-states : goal.returns-clause-states
returns-clause-states c =
    map-set state_of c.relink-2.new.slots c.args.index _ ∙ ap (λ (l : List CircuitState). slice_set l c.args.index c.args.to) (c.relink-2.ensures.states ∙ c.relink.ensures.states)

pub returns-clause-sound : goal.returns-clause-sound
returns-clause-sound c =
    let old = c.args.slots.now in
    let one = c.relink.new.slots in
    let two = c.relink-2.new.slots in
    let i = c.args.index in
    let to = c.args.to in
    let states : map state_of two ≡ map state_of old = c.relink-2.ensures.states ∙ c.relink.ensures.states in
    let len : length two ≡ length old = sym (length-map two state_of) ∙ ap length states ∙ length-map old state_of in
    let inside : i < length two = (let a : i < length old = c.requires.index in omega arith) in
    let still = λ (end : End) (f g : ℕ → Bool) (e : (k : ℕ) → f k ≡ g k). let same : f ≡ g = (λ j k. e k j) in
    ap (λ (h : ℕ → Bool). with h i (is_free end to)) same in
    are_sound _ _ (let a : length old ≤ 240 = c.requires.sound.short in simp length-set (omega arith))
    (each_end _
    (after_write two i _ to inside First c.relink.new.list
    (listed_along (with (free_at First old) i (is_free First to)) (with (free_at First two) i (is_free First to)) First one two c.relink.new.list
    (λ k. ap (λ (h : ℕ → Bool). h k) (still First (free_at First old) (free_at First two) (λ k. sym (free_alike First old two states k)))) c.relink-2.ensures.other c.relink.ensures.listed))
    (after_write two i _ to inside Other c.relink-2.new.list
    (subst (λ (h : ℕ → Bool). IsListed h Other two c.relink-2.new.list)
    (still Other (free_at Other one) (free_at Other two) (λ k. sym (free_alike Other one two c.relink-2.ensures.states k))) c.relink-2.ensures.listed)))
