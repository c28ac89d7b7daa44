-- In every run each call goes by the lists.
use Rattle.tx_risk.proofs.Common.{◌≡◌, ◌≢◌, ℕ, false, not, List, [], ◌∷◌, ◌++◌, inl, inr, map, Option, Some, refl, sym, ap, subst, eqb-false, Plan, home_of, code_of, route_list, Among, among_filter, Circuit, Event, Hop, Calling, State, step, Holds, Moves, stays, connects, seizes_one, goes_on, falls_back, IsNew, came, Goes, end_of, Risk, net_without}
use Rattle.tx_machine.specs.Call.{Call, last_exchange, start_of, exchange_of}
use Rattle.tx_machine.specs.Passed.{Joins}
use Rattle.tx_machine.proofs.Changes.{not_standing}

-- from x on, each hop is by a group in the list of the exchange before it, which is not the home
abbrev pub ByLists : Plan → ℕ → ℕ → List Hop → Type 0
ByLists p code x [] = Unit {0}
ByLists p code x (h ∷ hops) = (x ≢ home_of p code) × Among h.circuit.group (route_list p x code)
    × ByLists p code h.far hops

pub record IsListed (p : Plan) (c : Call) : Type 0 where
  pub hops : (code : ℕ) → code_of p c.keyed ≡ Some code → ByLists p code (start_of p c) c.hops
  pub calling : (x : Circuit) → c.phase ≡ Calling x → (code : ℕ) → code_of p c.keyed ≡ Some code
      → (exchange_of p c ≢ home_of p code) × Among x.group (route_list p (exchange_of p c) code)

module _ (p : Plan) where
  by_more : (code x : ℕ) (hops : List Hop) (h : Hop) → ByLists p code x hops
      → last_exchange x hops ≢ home_of p code
      → Among h.circuit.group (route_list p (last_exchange x hops) code)
      → ByLists p code x (hops ++ h ∷ [])
  by_more code x [] h b away m = (away, m, tt)
  by_more code x (k ∷ hops) h b away m = (b.0, b.1, by_more code k.far hops h b.2 away m)

  one_code : {o : Option ℕ} {m n : ℕ} → o ≡ Some m → o ≡ Some n → m ≡ n
  one_code e f = cc

  moves_listed : (e : Event) (c c' : Call) → IsListed p c → Moves p e c c' → IsListed p c'
  moves_listed e c c' h (stays q) = subst (IsListed p) q h
  moves_listed e c c' h (connects l event stands q) =
      subst (IsListed p) q (record {
        hops = h.hops;
        calling = λ x i. let bad : ⊥ = cc in
            absurd bad;
      })
  moves_listed e c c' h (seizes_one x code event stands keyed open' away listed q) =
      subst (IsListed p) q (record {
        hops = h.hops;
        calling = λ y i k f.
            let same : x ≡ y = cc in
            let codes : code ≡ k = one_code keyed f in
            subst (λ k. (exchange_of p c ≢ home_of p k)
            × Among y.group (route_list p (exchange_of p c) k)) codes (
              λ z. eqb-false _ _ away (sym z),
              subst (λ (y : Circuit). Among y.group (route_list p (exchange_of p c) code)) same
                  listed,
            );
      })
  moves_listed e c c' h (goes_on x calls q) =
      subst (IsListed p) q (record {
        hops = λ code f. let b = h.calling x calls code f in
            by_more code (start_of p c) c.hops _ (h.hops code f) b.0 b.1;
        calling = λ y i. absurd (not_standing i);
      })
  moves_listed e c c' h (falls_back x calls first q) =
      subst (IsListed p) q (record { hops = h.hops; calling = λ y i. absurd (not_standing i) })

  new_listed : (n : ℕ) (e : Event) (c : Call) → IsNew p n e c → IsListed p c
  new_listed n e c new =
      subst (IsListed p) new.call
      (record { hops = λ code i. tt; calling = λ x i. absurd (not_standing i) })

  abbrev pub AllListed : List Call → Type 0
  AllListed cs = (c : Call) → Among c cs → IsListed p c

  pub step_listed : (s : State) → Holds p s → AllListed s.calls → (e : Event)
      → AllListed (step p s e).1.calls
  step_listed s h listed e c m = elim (came p s h e c m) [
    | inl (b, mb, moves) ↦ moves_listed e b c (listed b mb) moves
    | inr new ↦ new_listed s.numbers e c new
  ]

-- THE WAY OF A CALL
abbrev pub steps_of : List Hop → List (ℕ × ℕ)
steps_of hops = map (λ h. (h.circuit.group, h.far)) hops

pub end_steps : (x : ℕ) (hops : List Hop) → end_of x (steps_of hops) ≡ last_exchange x hops
end_steps x [] = refl
end_steps x (h ∷ hops) = end_steps h.far hops

pub goes_outside : (p : Plan) (risk : Risk) (code x : ℕ) (hops : List Hop) → ByLists p code x hops
    → Joins p x hops → ((h : Hop) → Among h hops → risk h.circuit.group ≡ false)
    → Goes (net_without p risk code) x (steps_of hops)
goes_outside p risk code x [] b j clear = tt
goes_outside p risk code x (h ∷ hops) b j clear = (
  b.0,
  among_filter (λ g. not (risk g)) h.circuit.group (route_list p x code) b.1
      (ap not (clear h (inl refl))),
  j.1,
  goes_outside p risk code h.far hops b.2 j.2
      (λ k m. clear k (inr m)),
)
