-- What holds of the calls, as they change.
use Rattle.tx_machine.proofs.Common.{◌≡◌, ℕ, ◌+◌, ◌≤◌, ◌==◌, Bool, true, false, List, [], ◌∷◌, ◌++◌, ◌⊎◌, inl, inr, map, refl, ap, sym, ◌∙◌, subst, arith, eqb-true, filter, if◌then◌else◌, Circuit, Line, Call, is_calling, circuits_used, set_call, keyed_call, Among, among_cases, among_map, filter_among, map_among, call_seen, HasRoom, IsReady, AreMarked, AreHeld, OpenCall}
use Rattle.tx_machine.specs.declared.open_call.Phase.TheVariants.{Calling}

pub held_none : (groups numbers : ℕ) → AreHeld groups numbers []
held_none groups numbers = record { marked = λ c m. elim m [ ]; one = λ c d m n e. elim m [ ]; given = λ c m. elim m [ ] }

module _ (groups numbers : ℕ) (cs : List Call) (h : AreHeld groups numbers cs) where
  pub held_filter : (keeps : Call → Bool) → AreHeld groups numbers (filter keeps cs)
  held_filter keeps =
      let old = λ (c : Call) (m : Among c (filter keeps cs)). (filter_among keeps c cs m).0 in
      record { marked = λ c m. h.marked c (old c m); one = λ c d m n e. h.one c d (old c m) (old d n) e; given = λ c m. h.given c (old c m) }

  -- a new call
  pub held_more : (line : Line) (keyed : List ℕ) (event : ℕ) → AreHeld groups (numbers + 1) (cs ++ keyed_call (numbers + 1) line keyed event ∷ [])
  held_more line keyed event = record {
    marked = λ c m. elim (cases c m) [ inl o ↦ h.marked c o | inr e ↦ subst (λ c. AreMarked groups (circuits_used c)) e (λ x n. elim n [ ]) ];
    one = λ c d m n e. elim (cases c m) [
      | inl a ↦ elim (cases d n) [ inl b ↦ h.one c d a b e | inr f ↦ let le = h.given c a in let q : numbers + 1 ≡ d.number = ap (λ (z : Call). z.number) f in absurd (omega arith) ]
      | inr f ↦ elim (cases d n) [ inl b ↦ let le = h.given d b in let q : numbers + 1 ≡ c.number = ap (λ (z : Call). z.number) f in absurd (omega arith) | inr k ↦ sym f ∙ k ]
    ];
    given = λ c m. elim (cases c m) [ inl o ↦ let le = h.given c o in omega arith | inr f ↦ let q : numbers + 1 ≡ c.number = ap (λ (z : Call). z.number) f in omega arith ];
  }
    where
      cases : (c : Call) → Among c (cs ++ keyed_call (numbers + 1) line keyed event ∷ []) → Among c cs ⊎ (keyed_call (numbers + 1) line keyed event ≡ c)
      cases c m = elim (among_cases c cs (keyed_call (numbers + 1) line keyed event ∷ []) m) [ inl o ↦ inl o | inr r ↦ elim r [ inl e ↦ inr e | inr b ↦ absurd b ] ]

  -- calls of one number change
  pub held_set : (n : ℕ) (f : Call → Call) → ((c : Call) → (f c).number ≡ c.number) → ((c : Call) → Among c cs → c.number ≡ n → AreMarked groups (circuits_used (f c))) → AreHeld groups numbers (set_call n f cs)
  held_set n f same marked = record {
    marked = λ c m. let q = from c m in elim (q.0.number == n) as (λ b. (q.0.number == n) ≡ b → (if b then f q.0 else q.0) ≡ c → AreMarked groups (circuits_used c)) [
      | true ↦ λ t e. subst (λ c. AreMarked groups (circuits_used c)) e (marked q.0 q.1 (eqb-true q.0.number n t))
      | false ↦ λ t e. subst (λ c. AreMarked groups (circuits_used c)) e (h.marked q.0 q.1)
    ] refl q.2;
    one = λ c d m k e. let q = from c m in let r = from d k in sym q.2 ∙ ap F (h.one q.0 r.0 q.1 r.1 (sym (number q.0) ∙ ap (λ (z : Call). z.number) q.2 ∙ e ∙ sym (ap (λ (z : Call). z.number) r.2) ∙ number r.0)) ∙ r.2;
    given = λ c m. let q = from c m in subst (λ k. k ≤ numbers) (sym (number q.0) ∙ ap (λ (z : Call). z.number) q.2) (h.given q.0 q.1);
  }
    where
      F : Call → Call
      F c = if c.number == n then f c else c

      from : (c : Call) → Among c (set_call n f cs) → (b : Call) × Among b cs × ((if b.number == n then f b else b) ≡ c)
      from c m = map_among (λ (b : Call). if b.number == n then f b else b) c cs m

      number : (c : Call) → (if c.number == n then f c else c).number ≡ c.number
      number c = elim (c.number == n) as (λ b. (if b then f c else c).number ≡ c.number) [ true ↦ same c | false ↦ refl ]

-- the calls with the number of a call that seizes a circuit have room
pub calling_ready : {A : Type 0} (groups numbers n : ℕ) (calls : List (OpenCall A)) → AreHeld groups numbers (map call_seen calls) → ((c : OpenCall A) → Among c calls → HasRoom c) → (k : Call) (x : Circuit) → Among k (map call_seen calls) → k.number ≡ n → k.phase ≡ Calling x → (c : OpenCall A) → Among c calls → IsReady n c
calling_ready groups numbers n calls h room k x m e p c mc en =
    let same = h.one (call_seen c) k (among_map call_seen c calls mc) m (en ∙ sym e) in
    room c mc (ap is_calling (ap (λ (z : Call). z.phase) same ∙ p))
