-- Two calls that meet on a circuit.
use Rattle.tx_engine.proofs.Common.{◌≡◌, ◌≢◌, ℕ, true, [], length, Some, refl, sym, ap, subst, ◌∙◌, arith, deque_len, deque_capacity, Plan, Among, Circuit, Calling, Call, exchange_of, far_of, thrown_back, collide, set_call, Table, Kept, KeptCalls, kept_at, Changes, calls_in, keys_of, pick, state_seen, AreTogether, CanThrowOff, thrown_off, EngineState, AreSound, IsSound, IsUnder, is_first_end, state_of}
use Rattle.std.specs.FinSet as set
use Rattle.tx_engine.proofs.Sorted.{sorted_mem}
use Rattle.tx_engine.proofs.Thrown.{IsRival, told_one, only_rival, rival_is, thrown_in_turn}
use Rattle.tx_engine.proofs.Together.{may_throw, thrown_together}
use Rattle.tx_engine.specs.inner.Meeting.{AreMeeting, AreThrown}
use Rattle.tx_engine.proofs.Keyed.{keyed_updated, hop_room_updated}
use Rattle.tx_engine.proofs.Changing.{length_set}
use Rattle.tx_engine.proofs.Leading.{seizer_kept}

-- the rival of a call whose circuit is seized at its far end, and where its key is found
module _ {A : Type 0} (n : EngineState A) (sound : IsSound n) (number key : ℕ) (x : Circuit) (k : Kept) (at : IsUnder n.calls number key k) (calling : k.call.phase ≡ Calling x)
    (far : ℕ) (is_far : far ≡ far_of n.plan.now k.call x) (seized : set.contains n.circuits.seized (x, far) ≡ true) where
  in' : Among k.call (calls_in n.calls)
  in' = sorted_mem n.calls.slots key k at.kept

  told : (d : Call) × IsRival n.plan.now (state_of n) k.call x d
  told = told_one n.plan.now (state_of n) sound.together.inv k.call in' x calling sound.rules n.circuits sound.together.used (ap (λ z. set.contains n.circuits.seized (x, z)) (sym is_far) ∙ seized)

  pub meeting : (other : ℕ) → other ≡ pick (is_first_end n.plan.now x far) (keys_of n.keys x) → (d : Kept) × AreMeeting n key other x k d
  meeting other is =
      let r = told.1 in
      let f = seizer_kept n.plan.now n.calls n.keys sound.keyed x told.0 r.open' r.calls in
      let exchange : exchange_of n.plan.now told.0 ≡ far = r.far ∙ sym is_far in (
        f.0,
        record {
          one = at.kept;
          two = ap (kept_at n.calls) (is ∙ ap (λ z. pick (is_first_end n.plan.now x z) (keys_of n.keys x)) (sym exchange)) ∙ f.1;
          calls = calling;
          met = only_rival n.plan.now (state_of n) sound.together.inv k.call in' x calling told.0 r ∙ ap Some (sym f.2);
        },
      )

module _ {A : Type 0} (n : EngineState A) (sound : IsSound n) (key other : ℕ) (x : Circuit) (k d : Kept) (m : AreMeeting n key other x k d) where
  abbrev p : Plan
  p = n.plan.now

  first_in' : Among k.call (calls_in n.calls)
  first_in' = sorted_mem n.calls.slots key k m.one

  pub rivals : IsRival p (state_of n) k.call x d.call
  rivals = rival_is p (state_of n) k.call x d.call m.met

  rivals_seen : IsRival p (state_seen (calls_in n.calls) n.circuits n.lines n.numbers 0 []) k.call x d.call
  rivals_seen = record { open' = rivals.open'; other = rivals.other; calls = rivals.calls; far = rivals.far }

  pub may_throw_off : CanThrowOff p k.call d.call x n.circuits
  may_throw_off = may_throw p (calls_in n.calls) n.circuits n.lines n.numbers sound.together k.call first_in' x m.calls d.call rivals_seen

  pub keys_differ : other ≢ key
  keys_differ e =
      let one : Some d ≡ Some k = sym m.two ∙ ap (kept_at n.calls) e ∙ m.one in
      let same : d ≡ k = cc in
      rivals.other (ap (λ (z : Kept). z.call.number) same)

  module _ (t : Table) (thrown_is : t ≡ thrown_off p k.call d.call x n.circuits) (c1 c2 : KeptCalls)
      (up1 : Changes n.calls c1 key (Some (record k { call = thrown_back k.call }))) (calls1 : calls_in c1 ≡ set_call k.call.number thrown_back (calls_in n.calls))
      (up2 : Changes c1 c2 other (Some (record d { call = thrown_back d.call }))) (calls2 : calls_in c2 ≡ set_call d.call.number thrown_back (calls_in c1)) where
    both_calls : calls_in c2 ≡ (collide k.call.number d.call.number x (state_of n)).calls
    both_calls = calls2 ∙ ap (set_call d.call.number thrown_back) calls1 ∙ thrown_in_turn k.call.number d.call.number (calls_in n.calls)

    pub sound_thrown : AreSound p n.codes c2 n.keys n.lines t n.numbers (deque_len n.tickets) (deque_capacity n.tickets)
    sound_thrown = record {
      rules = sound.rules;
      codes_are = sound.codes_are;
      lines = sound.lines;
      together = subst (λ z. AreTogether p z t n.lines n.numbers) (sym both_calls) (subst (λ z. AreTogether p (collide k.call.number d.call.number x (state_of n)).calls z n.lines n.numbers) (sym thrown_is)
          (thrown_together p (calls_in n.calls) n.circuits n.lines n.numbers sound.together k.call first_in' x m.calls d.call rivals_seen));
      keyed = keyed_updated p c1 c2 other n.keys n.keys
          (keyed_updated p n.calls c1 key n.keys n.keys sound.keyed sound.keyed.all (record k { call = thrown_back k.call }) up1 (λ y g. let bad : ⊥ = cc in absurd bad) (sound.keyed.carriers key k m.one) (λ i d ne q y g. refl) (λ i d ne q y m g. refl))
          sound.keyed.all (record d { call = thrown_back d.call }) up2 (λ y g. let bad : ⊥ = cc in absurd bad) (sound.keyed.carriers other d m.two) (λ i d ne q y g. refl) (λ i d ne q y m g. refl);
      hop_room = hop_room_updated c1 c2 other (record d { call = thrown_back d.call }) up2
          (hop_room_updated n.calls c1 key (record k { call = thrown_back k.call }) up1 sound.hop_room (λ y g. let bad : ⊥ = cc in absurd bad)) (λ y g. let bad : ⊥ = cc in absurd bad);
      ticket_room = (let a = ap length calls1 ∙ length_set k.call.number thrown_back (calls_in n.calls) in let z = ap length calls2 ∙ length_set d.call.number thrown_back (calls_in c1) in let q = sound.ticket_room in omega arith);
    }

    pub state_thrown : state_seen (calls_in c2) t n.lines n.numbers n.events n.tickets.items ≡ collide k.call.number d.call.number x (state_of n)
    state_thrown = λ i. state_seen (both_calls i) (thrown_is i) n.lines n.numbers n.events n.tickets.items

    pub kept_thrown : AreThrown c2 key other k d
    kept_thrown = record { one = up2.others key (λ e. keys_differ (sym e)) ∙ up1.changed; two = up2.changed }
