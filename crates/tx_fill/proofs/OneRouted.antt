-- What a call that stands comes to when it is routed, and when its circuit is confirmed, while all
-- others are connected.
use Rattle.std.proofs.Common.{◌≡◌, ◌≢◌, ℕ, ◌+◌, ◌-◌, ◌^◌, ◌<◌, ◌≤◌, ◌==◌, nat_le, eqb-true, true, false, not, ◌&&◌, List, [], ◌∷◌, ◌⊎◌, inl, inr, length, Option, Some, None, refl, sym, ap, ◌∙◌, subst, arith}
use Rattle.std.specs.Prelude.{if◌then◌else◌, filter, is_none}
use Rattle.std.proofs.lemmas.Bool.{eqb-false, not-true, lt-leb, false≢true}
use Rattle.std.proofs.lemmas.List.{length_push}
use Rattle.tx_fill.proofs.Common.{Plan, home_of, Among, Circuit, Line, Route, Confirm, Reply, State, Holds, is_seized}
use Rattle.tx_plan.specs.Codes.{code_of}
use Rattle.tx_plan.specs.Declaring.{first_true}
use Rattle.tx_plan.specs.Routes.{is_barred}
use Rattle.tx_plan.proofs.Among.{map_among, filter_among}
use Rattle.tx_machine.specs.declared.cause.Service.{Service}
use Rattle.tx_machine.specs.declared.cause.Service.TheVariants.{Nc, Np, Na}
use Rattle.tx_machine.specs.declared.open_call.Phase.{Phase}
use Rattle.tx_machine.specs.declared.open_call.Phase.TheVariants.{Standing, Calling, Connected}
use Rattle.tx_machine.specs.declared.refusal.Refusal.TheVariants.{UnknownCall, NotStanding, NotCalling, Exhausted}
use Rattle.tx_machine.specs.Call.{Call, call_of, exchange_of, is_first, is_numbered, is_standing, is_calling, is_connected}
use Rattle.tx_machine.specs.Confirming.{carried_on, confirmed, confirmed_by, far_of, rival}
use Rattle.tx_machine.specs.Ending.{answered}
use Rattle.tx_machine.specs.InUse.{choice, is_calling_on, seizes_from}
use Rattle.tx_machine.specs.Lines.{line_answer}
use Rattle.tx_machine.specs.Refusals.{is_other}
use Rattle.tx_machine.specs.Routing.{set_call, in_phase, at_line, at_trunk, line_of, routed, routed_for}
use Rattle.tx_machine.specs.Step.{step, counted, unless_refused, with_call}
use Rattle.tx_machine.proofs.Lists.{find_mem, find_none}
use Rattle.tx_engine.proofs.Filters.{find_nobody}

-- WHAT HOLDS OF CALLS
abbrev pub AreConnected : List Call → Type 0
AreConnected cs = (c : Call) → Among c cs → is_connected c.phase ≡ true

-- but perhaps of the one of a number
abbrev pub OthersAre : (n : ℕ) → List Call → Type 0
OthersAre n cs = (c : Call) → Among c cs → c.number ≢ n → is_connected c.phase ≡ true

-- of the one of a number
abbrev pub OfCall : (n : ℕ) → List Call → (Call → Type 0) → Type 0
OfCall n cs Holds = (c : Call) → Among c cs → c.number ≡ n → Holds c

-- it stands after so many hops, or has seized a circuit there
abbrev pub StandsAfter : (k : ℕ) → Call → Type 0
StandsAfter k c = (c.phase ≡ Standing) × (length c.hops ≡ k)

abbrev pub CallsAfter : (k : ℕ) → Call → Type 0
CallsAfter k c = ((x : Circuit) × (c.phase ≡ Calling x)) × (length c.hops ≡ k)

none_numbered : (n : ℕ) (cs : List Call) → call_of n cs ≡ None → (c : Call) → Among c cs → c.number ≢ n
none_numbered n cs none c m = eqb-false c.number n (find_none (is_numbered n) cs c none m)

ended : (n : ℕ) (cs : List Call) → OthersAre n cs → AreConnected (filter (λ c. not (is_numbered n c)) cs)
ended n cs others c m =
    let r = filter_among (λ (d : Call). not (is_numbered n d)) c cs m in
    others c r.0 (eqb-false c.number n (not-true (c.number == n) r.1))

-- the call of a number changes
module _ (n : ℕ) (f : Call → Call) (same : (c : Call) → (f c).number ≡ c.number) (cs : List Call) where
  set_from : (c : Call) → Among c (set_call n f cs)
      → ((b : Call) × Among b cs × (b.number ≡ n) × (f b ≡ c)) ⊎ (Among c cs × (c.number ≢ n))
  set_from c m =
      let r = map_among (λ (d : Call). if d.number == n then f d else d) c cs m in
      elim (r.0.number == n) as (λ b. (r.0.number == n) ≡ b → (if b then f r.0 else r.0) ≡ c
      → ((b : Call) × Among b cs × (b.number ≡ n) × (f b ≡ c)) ⊎ (Among c cs × (c.number ≢ n))) [
        | true ↦ λ t e. inl (r.0, r.1, eqb-true r.0.number n t, e)
        | false ↦ λ t e. inr (
          subst (λ (z : Call). Among z cs) e r.1,
          λ q. eqb-false r.0.number n t (ap (λ (z : Call). z.number) e ∙ q),
        )
      ] refl r.2

  others_set : OthersAre n cs → OthersAre n (set_call n f cs)
  others_set others c m other = elim (set_from c m) [
    | inl k ↦ absurd (other (ap (λ (z : Call). z.number) (sym k.3) ∙ same k.0 ∙ k.2))
    | inr k ↦ others c k.0 k.1
  ]

  all_set : ((c : Call) → is_connected (f c).phase ≡ true) → OthersAre n cs → AreConnected (set_call n f cs)
  all_set made others c m = elim (set_from c m) [
    | inl k ↦ ap (λ (z : Call). is_connected z.phase) (sym k.3) ∙ made k.0
    | inr k ↦ others c k.0 k.1
  ]

  of_set : (P Q : Call → Type 0) → ((c : Call) → P c → Q (f c)) → OfCall n cs P → OfCall n (set_call n f cs) Q
  of_set P Q step of c m is = elim (set_from c m) [
    | inl k ↦ subst Q k.3 (step k.0 (of k.0 k.1 k.2))
    | inr k ↦ absurd (k.1 is)
  ]

-- ITS ROUTE
module _ (p : Plan) (k : ℕ) (s : State) where
  pub record Ends (r : Reply × State) : Type 0 where
    pub unseized : is_seized r.0 ≡ false
    pub all : AreConnected r.1.calls
    pub numbers : r.1.numbers ≡ s.numbers
    pub events : r.1.events ≤ s.events + 1

  pub record Waits (n : ℕ) (r : Reply × State) : Type 0 where
    pub seized : is_seized r.0 ≡ true
    pub others : OthersAre n r.1.calls
    pub calling : OfCall n r.1.calls (CallsAfter k)
    pub numbers : r.1.numbers ≡ s.numbers
    pub events : r.1.events ≤ s.events + 1

  abbrev pub Comes : (n : ℕ) → Reply × State → Type 0
  Comes n r = Ends r ⊎ Waits n r

  module _ (c : Call) (others : OthersAre c.number s.calls) (long : OfCall c.number s.calls (StandsAfter k)) where
    answers : (service : Service) → Comes c.number (counted (answered p c.number service s))
    answers service = inl (record { unseized = refl; all = ended c.number s.calls others; numbers = refl; events = omega arith })

    at_home : (l : Line) (o : Option Service) → Comes c.number (counted (at_line p s c l o))
    at_home l None = inl (record {
      unseized = refl;
      all = all_set c.number (in_phase (Connected l)) (λ d. refl) s.calls (λ d. refl) others;
      numbers = refl;
      events = omega arith;
    })
    at_home l (Some service) = answers service

    away : (o : Option Circuit) → Comes c.number (counted (at_trunk p s c o))
    away None = answers Nc
    away (Some x) = inr (record {
      seized = refl;
      others = others_set c.number (in_phase (Calling x)) (λ d. refl) s.calls others;
      calling = of_set c.number (in_phase (Calling x)) (λ d. refl) s.calls (StandsAfter k) (CallsAfter k)
          (λ d h. ((x, refl), h.1)) long;
      numbers = refl;
      events = omega arith;
    })

    by_code : (o : Option ℕ) → Comes c.number (counted (routed_for p s c o))
    by_code None = answers Np
    by_code (Some code) =
        let l = line_of p code c.keyed in
        let home = at_line p s c l (line_answer p s l) in
        let trunk = at_trunk p s c (choice p s (exchange_of p c) code) in
        elim (is_first c.hops && is_barred p (exchange_of p c) code) as (λ b. Comes c.number
        (counted (if b then answered p c.number Na s else if home_of p code == exchange_of p c then home else trunk))) [
          | true ↦ answers Na
          | false ↦
              elim (home_of p code == exchange_of p c) as (λ b. Comes c.number (counted (if b then home else trunk))) [
                | true ↦ at_home l (line_answer p s l)
                | false ↦ away (choice p s (exchange_of p c) code)
              ]
        ]

  module _ (n : ℕ) (others : OthersAre n s.calls) (long : OfCall n s.calls (StandsAfter k)) (few : s.events < 2 ^ 64 - 1) where
    abbrev route_of : Option Call → Reply × State
    route_of o = unless_refused (first_true ((is_none o, UnknownCall) ∷ ((is_other is_standing o, NotStanding)
        ∷ ((nat_le (2 ^ 64 - 1) s.events, Exhausted) ∷ [])))) s (counted (with_call o s (λ c. routed p s c)))

    pub comes : Comes n (step p s (Route n))
    comes = by (call_of n s.calls) refl
      where
        by : (o : Option Call) → call_of n s.calls ≡ o → Comes n (route_of o)
        by None e = inl (record {
          unseized = refl;
          all = λ c m. others c m (none_numbered n s.calls e c m);
          numbers = refl;
          events = omega arith;
        })
        by (Some c) e =
            let f = find_mem (is_numbered n) s.calls c e in
            let same = eqb-true c.number n f.1 in
            let stands : not (is_standing c.phase) ≡ false = ap (λ (h : Phase). not (is_standing h)) (long c f.0 same).0 in
            let room : nat_le (2 ^ 64 - 1) s.events ≡ false = lt-leb (2 ^ 64 - 1) s.events few in
            rw (stands, room) (subst (λ (m : ℕ). Comes m (counted (routed p s c))) same (by_code c
            (subst (λ (m : ℕ). OthersAre m s.calls) (sym same) others)
            (subst (λ (m : ℕ). OfCall m s.calls (StandsAfter k)) (sym same) long) (code_of p c.keyed)))

-- ITS CONFIRMATION
module _ (p : Plan) (k : ℕ) (t : State) (n : ℕ) (others : OthersAre n t.calls) (long : OfCall n t.calls (CallsAfter k)) where
  pub record Goes (u : State) : Type 0 where
    pub rest : OthersAre n u.calls
    pub stands : OfCall n u.calls (StandsAfter (k + 1))
    pub numbers : u.numbers ≡ t.numbers
    pub events : u.events ≤ t.events + 1

  not_calling : (phase : Phase) (x : Circuit) → is_connected phase ≡ true → is_calling_on phase x ≡ false
  not_calling Standing x e = absurd (false≢true e)
  not_calling (Calling y) x e = absurd (false≢true e)
  not_calling (Connected l) x e = refl

  no_rival : (c : Call) (x : Circuit) → c.number ≡ n → rival p t c x ≡ None
  no_rival c x same = find_nobody (λ (d : Call). not (d.number == c.number) && seizes_from p d x (far_of p c x)) t.calls each
    where
      each : (d : Call) → Among d t.calls → (not (d.number == c.number) && seizes_from p d x (far_of p c x)) ≡ false
      each d m =
          elim (d.number == c.number) as (λ b. (d.number == c.number) ≡ b → (not b && seizes_from p d x (far_of p c x)) ≡ false) [
            | true ↦ λ e. refl
            | false ↦ λ e. ap (λ b. b && (exchange_of p d == far_of p c x))
                (not_calling d.phase x (others d m (λ q. eqb-false d.number c.number e (q ∙ sym same))))
          ] refl

  went : (c : Call) (x : Circuit) → c.number ≡ n → (o : Option Call) → rival p t c x ≡ o → o ≡ None
      → Goes (counted (confirmed_by p t c x o)).1
  went c x same None e none =
      let far = far_of p c x in
      let at = λ (m : ℕ). set_call m (carried_on x far) t.calls in
      record {
        rest = subst (λ (m : ℕ). OthersAre n (at m)) (sym same)
            (others_set n (carried_on x far) (λ d. refl) t.calls others);
        stands = subst (λ (m : ℕ). OfCall n (at m) (StandsAfter (k + 1))) (sym same)
            (of_set n (carried_on x far) (λ d. refl) t.calls (CallsAfter k) (StandsAfter (k + 1))
            (λ d h. (refl, length_push d.hops (record { circuit = x; far = far }) ∙ ap (λ i. i + 1) h.1)) long);
        numbers = refl;
        events = omega arith;
      }
  went c x same (Some d) e none = absurd (let bad : ⊥ = cc in bad)

  module _ (few : t.events < 2 ^ 64 - 1) where
    abbrev confirm_of : Option Call → Reply × State
    confirm_of o = unless_refused (first_true ((is_none o, UnknownCall) ∷ ((is_other is_calling o, NotCalling)
        ∷ ((nat_le (2 ^ 64 - 1) t.events, Exhausted) ∷ [])))) t (counted (with_call o t (λ c. confirmed p t c c.phase)))

    pub confirms : Goes (step p t (Confirm n)).1
    confirms = by (call_of n t.calls) refl
      where
        by : (o : Option Call) → call_of n t.calls ≡ o → Goes (confirm_of o).1
        by None e = record {
          rest = others;
          stands = λ c m is. absurd (none_numbered n t.calls e c m is);
          numbers = refl;
          events = omega arith;
        }
        by (Some c) e =
            let f = find_mem (is_numbered n) t.calls c e in
            let same = eqb-true c.number n f.1 in
            let seized = (long c f.0 same).0 in
            let calls : not (is_calling c.phase) ≡ false = ap (λ (h : Phase). not (is_calling h)) seized.1 in
            let room : nat_le (2 ^ 64 - 1) t.events ≡ false = lt-leb (2 ^ 64 - 1) t.events few in
            rw (calls, room) (subst (λ (h : Phase). Goes (counted (confirmed p t c h)).1) (sym seized.1)
            (went c seized.0 same (rival p t c seized.0) refl (no_rival c seized.0 same)))
