-- The parts of the engine after the call under a key ended.
use Rattle.tx_engine.proofs.Common.{◌≡◌, ℕ, suc, ◌+◌, ◌<◌, Bool, true, false, not, cond, List, [], ◌∷◌, ◌++◌, length, Some, None, refl, ap, ◌∙◌, arith, deque_len, deque_capacity, filter, Plan, Among, Cause, Call, is_numbered, Ended, end_call, ticket_of, Book, is_line_of, Table, Kept, KeptCalls, kept_at, Changes, calls_in, CanGiveBack, given_back, freed_lines, state_seen, EngineState, AreSound, IsSound, state_of}
use Rattle.tx_engine.proofs.Sorted.{sorted_mem}
use Rattle.tx_engine.proofs.Together.{may_end, together_after, state_after}
use Rattle.tx_engine.proofs.Filters.{alone}
use Rattle.tx_engine.proofs.Keyed.{keyed_removed, hop_room_removed}

length_split : (t : Call → Bool) (cs : List Call) → length (filter (λ c. not (t c)) cs) + length (filter t cs) ≡ length cs
length_split t [] = refl
length_split t (c ∷ cs) =
    elim (t c) as (λ b. length (cond (not b) (c ∷ filter (λ c. not (t c)) cs) (filter (λ c. not (t c)) cs)) + length (cond b (c ∷ filter t cs) (filter t cs)) ≡ suc (length cs)) [
      | true ↦ let r = length_split t cs in omega arith
      | false ↦ let r = length_split t cs in omega arith
    ]

module _ {A : Type 0} (n : EngineState A) (sound : IsSound n) (key : ℕ) (k : Kept) (was : kept_at n.calls key ≡ Some k) where
  abbrev p : Plan
  p = n.plan.now

  in' : Among k.call (calls_in n.calls)
  in' = sorted_mem n.calls.slots key k was

  pub may_give_back : CanGiveBack p k.call n.circuits
  may_give_back = may_end p (calls_in n.calls) n.circuits n.lines n.numbers sound.together k.call in'

  fewer : length (filter (λ d. not (is_numbered k.call.number d)) (calls_in n.calls)) + 1 ≡ length (calls_in n.calls)
  fewer = let a = length_split (is_numbered k.call.number) (calls_in n.calls) in let e = ap length (alone k.call (calls_in n.calls) sound.together.inv.order in') in omega arith

  pub has_ticket_room : deque_len n.tickets < deque_capacity n.tickets
  has_ticket_room = let a = sound.ticket_room in let f = fewer in omega arith

  module _ (c : KeptCalls) (b : Book) (t : Table) (up : Changes n.calls c key None) (calls : calls_in c ≡ filter (λ d. not (is_numbered k.call.number d)) (calls_in n.calls))
      (free : b ≡ record n.lines { engaged = freed_lines k.call n.lines.engaged; room = b.room }) (back : t ≡ given_back p k.call n.circuits) where
    pub sound_ended : (made room : ℕ) → made ≡ deque_len n.tickets + 1 → room ≡ deque_capacity n.tickets → AreSound p n.codes c n.keys b t n.numbers made room
    sound_ended made room one same = record {
      rules = sound.rules;
      codes_are = sound.codes_are;
      lines = λ code number. ap (λ (z : Book). is_line_of z.ranges code number) free ∙ sound.lines code number;
      together = together_after p (calls_in n.calls) n.circuits n.lines k.call in' k.call.number refl (calls_in c) t b calls back free n.numbers sound.together;
      keyed = keyed_removed p n.calls c key n.keys up sound.keyed;
      hop_room = hop_room_removed n.calls c key up sound.hop_room;
      ticket_room = (let a = sound.ticket_room in let e = ap length calls in let f = fewer in omega arith);
    }

    pub state_ended : (cause : Cause) (tickets : List Ended) → tickets ≡ n.tickets.items ++ ticket_of p cause (n.events + 1) k.call ∷ []
        → state_seen (calls_in c) t b n.numbers n.events tickets ≡ end_call p cause k.call.number (state_of n)
    state_ended cause tickets more =
        state_after p (calls_in n.calls) n.circuits n.lines k.call in' k.call.number refl (calls_in c) t b calls back free cause n.numbers (n.events + 1) n.events n.tickets.items tickets sound.together refl more
