-- Under a certificate each answer NC is excused.
use Rattle.std.proofs.Common.{◌≡◌, ℕ, zero, suc, ◌<◌, ◌≤◌, ◌==◌, true, false, not, cond, ◌&&◌, List, [], ◌∷◌, ◌⊎◌, inl, inr, map, Option, Some, None, refl, sym, ap, subst, eqb-true, leb-true, arith}
use Rattle.tx_machine.proofs.Common.{false≢true, and_parts, eqb-false, not-false, cases_eq, if◌then◌else◌, nat_le, find, slice_get, option_map_or, Plan, Group, home_of, Ranks, IsCertified, is_line, code_of, route_list, is_barred, is_circuit, downward, upward, order_at, circuits_at, Among, Circuit, Line, among_left, among_map, among_right, Event, Key, Route, Confirm, Clear, Released, Fail, Restore, Block, Unblock, CircuitOut, CircuitIn, LineFault, LineMend, LineAway, LineBack, Service, Occ, Np, Der, Abs, Na, Refusal, Reply, Answered, Phase, Standing, Calling, Connected, Call, exchange_of, call_of, is_numbered, is_first, State, is_free_at, is_down, first_free, choice, seizes_from, is_engaged, line_answer, refusal, end_calls, at_line, at_trunk, line_of, routed_for, confirmed_by, rival, confirmed, far_of, with_call, accepted, counted, unless_refused, step, Holds, IsRanked}
use Rattle.std.specs.FinSet as set
use Rattle.tx_machine.specs.declared.cause.Cause.TheVariants.{Service as ByService}
use Rattle.tx_machine.specs.Excused.{HadCollided, IsExcusedTo, IsExcused}
use Rattle.tx_machine.proofs.Lists.{find_mem, find_none, all_from_mem}
use Rattle.tx_machine.proofs.Uses.{first_in-none}
use Rattle.tx_machine.proofs.Unrefused.{route_stands}
use Rattle.tx_machine.proofs.Ranks.{AreLed, ranked_index, code_within}

-- THE CIRCUITS OF A GROUP
pub in_downward : (n k : ℕ) → 0 < k → k ≤ n → Among k (downward n)
in_downward zero k l h = absurd (omega arith)
in_downward (suc n) k l h = elim (cases_eq (suc n) k) [ inl e ↦ inl e | inr e ↦ inr (in_downward n k l (omega arith)) ]

pub in_upward : (n k : ℕ) → 0 < k → k ≤ n → Among k (upward n)
in_upward zero k l h = absurd (omega arith)
in_upward (suc n) k l h = elim (cases_eq (suc n) k) [ inl e ↦ among_right k (upward n) (suc n ∷ []) (inl e) | inr e ↦ among_left k (upward n) (suc n ∷ []) (in_upward n k l (omega arith)) ]

pub circuit_listed : (p : Plan) (x : Circuit) (g exchange : ℕ) → is_circuit p x ≡ true → x.group ≡ g → Among x (circuits_at p g exchange)
circuit_listed p x g exchange h e = subst (λ k. Among x (circuits_at p k exchange)) e (at (slice_get p.groups x.group) h)
  where
    at : (o : Option Group) → option_map_or (λ r. nat_le 1 x.number && nat_le x.number r.count) o false ≡ true → Among x (option_map_or (λ (r : Group). map (λ n. record { group = x.group; number = n }) (order_at r exchange)) o [])
    at None h = absurd (false≢true h)
    at (Some r) h =
        let b = and_parts (nat_le 1 x.number) (nat_le x.number r.count) h in
        let one = leb-true 1 x.number b.0 in let few = leb-true x.number r.count b.1 in
        among_map (λ n. record { group = x.group; number = n }) x.number (order_at r exchange)
        (elim (r.a == exchange) as (λ c. Among x.number (if c then upward r.count else downward r.count)) [ true ↦ in_upward r.count x.number (omega arith) few | false ↦ in_downward r.count x.number (omega arith) few ])

-- a group in which none was found
none_there : (p : Plan) (s : State) (exchange g : ℕ) → first_free p s exchange g ≡ None → (is_down s g ≡ true) ⊎ ((x : Circuit) → is_circuit p x ≡ true → x.group ≡ g → is_free_at p s exchange x ≡ false)
none_there p s exchange g h =
    elim (is_down s g) as (λ b. (if b then None else find (is_free_at p s exchange) (circuits_at p g exchange)) ≡ None → (b ≡ true) ⊎ ((x : Circuit) → is_circuit p x ≡ true → x.group ≡ g → is_free_at p s exchange x ≡ false)) [
      | true ↦ λ e. inl refl
      | false ↦ λ e. inr (λ x c q. find_none (is_free_at p s exchange) (circuits_at p g exchange) x e (circuit_listed p x g exchange c q))
    ] h

-- no line answers NC
line_excused : (p : Plan) (spare : ℕ) (s : State) (n : ℕ) (l : Line) (service : Service) → line_answer p s l ≡ Some service → IsExcusedTo p spare s (Some n) service
line_excused p spare s n l service h =
    elim (is_line p l) as (λ a. (if not a then Some Np else if set.contains s.faulty l then Some Der else if set.contains s.away l then Some Abs else if is_engaged s l then Some Occ else None) ≡ Some service → IsExcusedTo p spare s (Some n) service) [
      | false ↦ λ e. by Np (cc) tt
      | true ↦ elim (set.contains s.faulty l) as (λ b. (if b then Some Der else if set.contains s.away l then Some Abs else if is_engaged s l then Some Occ else None) ≡ Some service → IsExcusedTo p spare s (Some n) service) [
        | true ↦ λ e. by Der (cc) tt
        | false ↦ elim (set.contains s.away l) as (λ b. (if b then Some Abs else if is_engaged s l then Some Occ else None) ≡ Some service → IsExcusedTo p spare s (Some n) service) [
          | true ↦ λ e. by Abs (cc) tt
          | false ↦ elim (is_engaged s l) as (λ b. (if b then Some Occ else None) ≡ Some service → IsExcusedTo p spare s (Some n) service) [ true ↦ λ e. by Occ (cc) tt | false ↦ λ e. let bad : ⊥ = cc in absurd bad ]
        ]
      ]
    ] h
  where
    by : (other : Service) → other ≡ service → IsExcusedTo p spare s (Some n) other → IsExcusedTo p spare s (Some n) service
    by other e u = subst (IsExcusedTo p spare s (Some n)) e u

-- a call is found by its number
found : (cs : List Call) (c : Call) → Among c cs → ((d : Call) → Among d cs → d.number ≡ c.number → d ≡ c) → call_of c.number cs ≡ Some c
found [] c m one = elim m [ ]
found (d ∷ cs) c m one =
    elim (d.number == c.number) as (λ b. (d.number == c.number) ≡ b → (cond b (Some d) (call_of c.number cs)) ≡ Some c) [
      | true ↦ λ t. ap Some (one d (inl refl) (eqb-true _ _ t))
      | false ↦ λ t. elim m [ inl e ↦ absurd (eqb-false _ _ t (ap (λ (z : Call). z.number) e)) | inr m ↦ found cs c m (λ d m. one d (inr m)) ]
    ] refl

module _ (p : Plan) (spare : ℕ) (s : State) (n : ℕ) (c : Call) (here : call_of n s.calls ≡ Some c) (ranks : Ranks) (limit : ℕ) (cert : IsCertified p ranks limit spare) (ranked : IsRanked p ranks c) where
  line_reply : (l : Line) (o : Option Service) → line_answer p s l ≡ o → IsExcused p spare s (Route n) (at_line p s c l o).0
  line_reply l None e = tt
  line_reply l (Some service) e = line_excused p spare s n l service e

  trunk_reply : (code : ℕ) → code_of p c.keyed ≡ Some code → (is_first c.hops && is_barred p (exchange_of p c) code) ≡ false → (home_of p code == exchange_of p c) ≡ false → (o : Option Circuit) → choice p s (exchange_of p c) code ≡ o → IsExcused p spare s (Route n) (at_trunk p s c o).0
  trunk_reply code e open' away (Some x) a = tt
  trunk_reply code e open' away None a =
      let r = ranked_index p ranks limit spare cert c ranked code e open' in
      let down = cert.lists code (exchange_of p c) r.0 (code_within p c.keyed code e) r.1 (λ i. eqb-false _ _ away (sym i)) in
      record {
        call = c;
        open' = here;
        code = code;
        keyed = e;
        taken = record {
          many = down.enough;
          each = all_from_mem _ (route_list p (exchange_of p c) code) (λ g i. none_there p s (exchange_of p c) g (first_in-none (first_free p s (exchange_of p c)) (route_list p (exchange_of p c) code) g a i));
        };
      }

  route_reply : (o : Option ℕ) → code_of p c.keyed ≡ o → IsExcused p spare s (Route n) (routed_for p s c o).0
  route_reply None e = tt
  route_reply (Some code) e =
      elim (is_first c.hops && is_barred p (exchange_of p c) code) as (λ b. (is_first c.hops && is_barred p (exchange_of p c) code) ≡ b → IsExcused p spare s (Route n) (if b then answer Na else if home_of p code == exchange_of p c then line else trunk).0) [
        | true ↦ λ b. tt
        | false ↦ λ b. elim (home_of p code == exchange_of p c) as (λ b. (home_of p code == exchange_of p c) ≡ b → IsExcused p spare s (Route n) (if b then line else trunk).0) [
          | true ↦ λ q. line_reply (line_of p code c.keyed) _ refl
          | false ↦ λ q. trunk_reply code e b q _ refl
        ] refl
      ] refl
    where
      answer : Service → Reply × State
      answer service = (Answered service, end_calls p (ByService service) (is_numbered c.number) s)

      line : Reply × State
      line = at_line p s c (line_of p code c.keyed) (line_answer p s (line_of p code c.keyed))

      trunk : Reply × State
      trunk = at_trunk p s c (choice p s (exchange_of p c) code)

module _ (p : Plan) (spare : ℕ) (s : State) (h : Holds p s) (n : ℕ) (c : Call) (m : Among c s.calls) where
  had : (d : Call) → Among d s.calls → not d.collided ≡ false → HadCollided s d.number
  had d m e = record { call = d; open' = found s.calls d m (λ k i q. h.one k d i m q); collided = not-false _ e }

  meet_reply : (x : Circuit) (o : Option Call) → rival p s c x ≡ o → IsExcused p spare s (Confirm n) (confirmed_by p s c x o).0
  meet_reply x None e = tt
  meet_reply x (Some d) e = (had c m, had d (find_mem (λ d. not (d.number == c.number) && seizes_from p d x (far_of p c x)) s.calls d e).0)

  confirm_reply : (phase : Phase) → IsExcused p spare s (Confirm n) (confirmed p s c phase).0
  confirm_reply Standing = tt
  confirm_reply (Calling x) = meet_reply x _ refl
  confirm_reply (Connected l) = tt

module _ (p : Plan) (ranks_of : ℕ → Ranks) (limit spare : ℕ) (s : State) (h : Holds p s) (led : AreLed p ranks_of limit spare s.calls) where
  with_reply : (e : Event) (n : ℕ) (act : Call → Reply × State) → ((c : Call) → Among c s.calls → call_of n s.calls ≡ Some c → IsExcused p spare s e (act c).0) → IsExcused p spare s e (with_call (call_of n s.calls) s act).0
  with_reply e n act each = at (call_of n s.calls) refl
    where
      at : (o : Option Call) → call_of n s.calls ≡ o → IsExcused p spare s e (with_call o s act).0
      at None q = tt
      at (Some c) q = each c (find_mem (λ c. c.number == n) s.calls c q).0 q

  accepted_reply : (e : Event) → refusal p s e ≡ None → IsExcused p spare s e (accepted p s e).0
  accepted_reply (Key line keyed) none = tt
  accepted_reply (Route n) none = with_reply (Route n) n _ (λ c m q. route_reply p spare s n c q (ranks_of c.number) limit (led.certified c m (route_stands p s n none c q)) (led.ranked c m) _ refl)
  accepted_reply (Confirm n) none = with_reply (Confirm n) n _ (λ c m q. confirm_reply p spare s h n c m c.phase)
  accepted_reply (Clear n party) none = tt
  accepted_reply (Released x) none = tt
  accepted_reply (Fail g) none = tt
  accepted_reply (Restore g) none = tt
  accepted_reply (Block g) none = tt
  accepted_reply (Unblock g) none = tt
  accepted_reply (CircuitOut x) none = tt
  accepted_reply (CircuitIn x) none = tt
  accepted_reply (LineFault l) none = tt
  accepted_reply (LineMend l) none = tt
  accepted_reply (LineAway l) none = tt
  accepted_reply (LineBack l) none = tt

  pub step_excused : (e : Event) → IsExcused p spare s e (step p s e).0
  step_excused e = at (refusal p s e) refl
    where
      at : (o : Option Refusal) → refusal p s e ≡ o → IsExcused p spare s e (unless_refused o s (counted (accepted p s e))).0
      at (Some r) q = tt
      at None q = accepted_reply e q
