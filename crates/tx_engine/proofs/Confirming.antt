-- A Confirm where no other call has seized the circuit.
use Rattle.tx_engine.proofs.Common.{◌≡◌, ◌≢◌, inl, inr, ℕ, ◌<◌, Bool, true, false, List, [], ◌∷◌, Some, None, refl, sym, ap, subst, ◌∙◌, deque_len, deque_capacity, if◌then◌else◌, unwrap_or, option_map, false_from_ne_true, same_circuit, same_circuit-is, Plan, other_end, Among, Circuit, among_cases, Hop, Calling, Confirm, Call, exchange_of, circuits_carried, far_of, carried_on, rival, confirmed, confirmed_by, set_call, accepted, with_call, Table, IsSeizedBy, with_held, Kept, KeptCalls, kept_at, Changes, calls_in, HasKeys, keys_at, keys_of, pick, EndKeys, AreTogether, state_seen, EngineState, AreSound, IsSound, IsUnder, is_first_end, state_of}
use Rattle.std.specs.FinSet as set
use Rattle.std.proofs.lemmas.List.{map_push}
use Rattle.tx_machine.specs.declared.reply.Reply.TheVariants.{At}
use Rattle.tx_engine.proofs.Sorted.{sorted_mem, distinct_rising}
use Rattle.tx_engine.proofs.Thrown.{told_alone}
use Rattle.tx_engine.proofs.Going.{may_hold, carried_together, nobody_else}
use Rattle.tx_engine.proofs.Keyed.{keys_stay, keys_here, keys_else}
use Rattle.tx_engine.proofs.Changing.{sound_after}

module _ {A : Type 0} (n : EngineState A) (sound : IsSound n) (number key : ℕ) (x : Circuit) (k : Kept) (at : IsUnder n.calls number key k) (calling : k.call.phase ≡ Calling x) where
  abbrev p : Plan
  p = n.plan.now

  in' : Among k.call (calls_in n.calls)
  in' = sorted_mem n.calls.slots key k at.kept

  far_is : other_end p x.group (exchange_of p k.call) ≡ Some (far_of p k.call x)
  far_is = let r = (sound.together.inv.each k.call in').calling x calling in r.1 ∙ ap Some (sym (ap (λ o. unwrap_or o 0) r.1))

  apart : (i : ℕ) (d : Kept) → i ≢ key → kept_at n.calls i ≡ Some d → d.call.number ≢ k.call.number
  apart i d ne q e = ne (distinct_rising n.calls.slots sound.together.inv.order i key d k q at.kept e)

  pub has_keys : HasKeys n.keys x
  has_keys = sound.keyed.all x ((sound.together.inv.each k.call in').planned x calling)

  pub has_room : (e : Kept) → kept_at n.calls key ≡ Some e → 0 < e.room
  has_room e was = let both : Some k ≡ Some e = sym at.kept ∙ was in let one : k ≡ e = cc in subst (λ (z : Kept). 0 < z.room) one (sound.hop_room key k at.kept x calling)

  module _ (far : ℕ) (is_far : far ≡ far_of p k.call x) (unseized : set.contains n.circuits.seized (x, far) ≡ false) where
    alone : rival p (state_seen (calls_in n.calls) n.circuits n.lines n.numbers 0 []) k.call x ≡ None
    alone = told_alone p (state_seen (calls_in n.calls) n.circuits n.lines n.numbers 0 []) n.circuits sound.together.used k.call x (ap (λ z. set.contains n.circuits.seized (x, z)) (sym is_far) ∙ unseized)

    pub may_hold_it : (e : ℕ) × IsSeizedBy n.circuits x e
    may_hold_it = may_hold p (calls_in n.calls) n.circuits n.lines n.numbers sound.together k.call in' x calling alone

    nobody : (d : Call) → Among d (calls_in n.calls) → d.number ≢ k.call.number → d.phase ≡ Calling x → ⊥
    nobody = nobody_else p (calls_in n.calls) n.circuits n.lines n.numbers sound.together k.call in' x calling alone

    module _ (t : Table) (held : t ≡ with_held n.circuits x) (ks : List (List EndKeys))
        (keys : (y : Circuit) → keys_at ks y ≡ (if same_circuit y x then option_map (λ _. record { first = key; other = key }) (keys_at n.keys y) else keys_at n.keys y))
        (c : KeptCalls) (r : ℕ) (up : Changes n.calls c key (Some (record { call = carried_on x far k.call; room = r }))) (calls : calls_in c ≡ set_call k.call.number (carried_on x far) (calls_in n.calls)) where
      both : (g : Bool) → pick g (record { first = key; other = key }) ≡ key
      both true = refl
      both false = refl

      key_x : (g : Bool) → pick g (keys_of ks x) ≡ key
      key_x g = ap (pick g) (keys_here n.keys ks x (λ _. record { first = key; other = key }) has_keys keys) ∙ both g

      key_else : (y : Circuit) (g : Bool) → (same_circuit y x ≡ true → ⊥) → pick g (keys_of ks y) ≡ pick g (keys_of n.keys y)
      key_else y g ne = ap (pick g) (keys_else n.keys ks x (λ _. record { first = key; other = key }) has_keys keys y (false_from_ne_true (same_circuit y x) ne))

      -- what it carried has its key
      key_kept : (y : Circuit) → Among y (circuits_carried k.call) → (g : Bool) → pick g (keys_of ks y) ≡ key
      key_kept y m g = key_else y g (λ q. (sound.together.inv.each k.call in').own x (subst (λ z. Among z (circuits_carried k.call)) (same_circuit-is y x q) m) calling) ∙ sound.keyed.carriers key k at.kept y m g

      pub sound_confirmed : AreSound p n.codes c ks n.lines t n.numbers (deque_len n.tickets) (deque_capacity n.tickets)
      sound_confirmed = sound_after p n.codes n.calls n.keys n.lines n.circuits n.numbers (deque_len n.tickets) (deque_capacity n.tickets) sound key k at.kept c (record { call = carried_on x far k.call; room = r }) (carried_on x far) n.lines t ks up calls refl
          (subst (λ z. AreTogether p (set_call k.call.number (carried_on x far) (calls_in n.calls)) z n.lines n.numbers) (sym held)
          (carried_together p (calls_in n.calls) n.circuits n.lines n.numbers sound.together k.call in' x calling alone far (far_is ∙ ap Some (sym is_far))))
          (λ y q. keys_stay n.keys ks x (λ _. record { first = key; other = key }) has_keys keys y (sound.keyed.all y q))
          (λ y g. let bad : ⊥ = cc in absurd bad)
          (λ y m g. elim (among_cases y (circuits_carried k.call) (x ∷ []) (subst (λ l. Among y l) (map_push (λ (h : Hop). h.circuit) k.call.hops (record { circuit = x; far = far })) m)) [
            | inl o ↦ key_kept y o g
            | inr o ↦ elim o [ inl e ↦ ap (λ z. pick g (keys_of ks z)) (sym e) ∙ key_x g | inr bad ↦ absurd bad ]
          ])
          (λ i d ne q y g. key_else y (is_first_end p y (exchange_of p d.call)) (λ tie. nobody d.call (sorted_mem n.calls.slots i d q) (apart i d ne q) (g ∙ ap Calling (same_circuit-is y x tie))))
          (λ i d ne q y m g. key_else y g (λ tie.
          (sound.together.inv.pairs k.call d.call in' (sorted_mem n.calls.slots i d q) (λ e. apart i d ne q (sym e))).right x calling (subst (λ z. Among z (circuits_carried d.call)) (same_circuit-is y x tie) m)))
          (λ y g. let bad : ⊥ = cc in absurd bad)

      pub step_confirmed : accepted p (state_of n) (Confirm number) ≡ (At far, state_seen (calls_in c) t n.lines n.numbers n.events n.tickets.items)
      step_confirmed =
          ap (λ o. with_call o (state_of n) (λ c. confirmed p (state_of n) c c.phase)) at.open'
          ∙ ap (λ z. confirmed p (state_of n) k.call z) calling
          ∙ ap (λ o. confirmed_by p (state_of n) k.call x o) alone
          ∙ (λ i. (At (sym is_far i), record (state_of n) { calls = set_call k.call.number (carried_on x (sym is_far i)) (calls_in n.calls) }))
          ∙ (λ i. (At far, state_seen (sym calls i) (sym held i) n.lines n.numbers n.events n.tickets.items))
