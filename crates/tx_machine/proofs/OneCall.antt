-- What Key, Block, Unblock, Route and Confirm do to a network with one call.
use Rattle.tx_machine.proofs.Common.{◌≡◌, ◌≢◌, ℕ, ◌+◌, ◌-◌, ◌^◌, ◌<◌, ◌≤◌, ◌==◌, true, false, ◌&&◌, nat_le, List, [], ◌∷◌, ◌++◌, inl, inr, map, length, Some, None, refl, sym, subst, arith, AllByRecursion, circuit_cmp, line_cmp, Plan, home_of, EachPair, code_of, is_line, is_barred, other_end, Circuit, Line, Among, Key, Route, Confirm, Block, Unblock, Hop, Nc, Call, last_exchange, is_first, State, opening, choice, is_group, step}
use Rattle.std.proofs.lemmas.Bool.{lt-leb, ne_eqb, and_left}
use Rattle.std.specs.FinSet as set
use Rattle.tx_machine.specs.declared.open_call.Phase.{Phase}
use Rattle.tx_machine.specs.declared.open_call.Phase.TheVariants.{Standing, Calling}
use Rattle.tx_machine.specs.declared.reply.Reply.TheVariants.{Keyed, Seized, At, Answered, Done}
use Rattle.tx_machine.proofs.Uses.{last_more}
use Rattle.tx_machine.proofs.Playing.{Groups, Plays, plays_none, plays_first, shut, opened, shut_out, still_in}

-- one call, these groups blocked, and so many events accepted
abbrev pub alone : Call → Groups → ℕ → State
alone c b n =
    record {
      calls = c ∷ [];
      failed = set.empty;
      blocked = b;
      releasing = set.empty;
      out = set.empty;
      faulty = set.empty;
      away = set.empty;
      numbers = 1;
      events = n;
      tickets = [];
    }

-- its one call, of number 1
abbrev pub on_way : Line → List ℕ → List Hop → Phase → Call
on_way line keyed hops phase = record { number = 1; line = line; keyed = keyed; keyed_at = 1; hops = hops; phase = phase; collided = false }

-- a hop as a step of a walk: by its group to its exchange
abbrev pub step_of : Hop → ℕ × ℕ
step_of h = (h.circuit.group, h.far)

room : (n : ℕ) → n < 2 ^ 64 - 1 → nat_le (2 ^ 64 - 1) n ≡ false
room n h = lt-leb (2 ^ 64 - 1) n h

pub none_circuit : (x : Circuit) → set.contains {R = circuit_cmp} set.empty x ≡ false
none_circuit x = set.contains-empty circuit_cmp x

none_line : (l : Line) → set.contains {R = line_cmp} set.empty l ≡ false
none_line l = set.contains-empty line_cmp l

-- the first of some that differ is none of the others
first_apart : (g : ℕ) (gs : List ℕ) → AllByRecursion (λ h. g ≢ h) gs → Among g gs → ⊥
first_apart g [] d m = m
first_apart g (h ∷ gs) d (inl e) = d.0 (sym e)
first_apart g (h ∷ gs) d (inr m) = first_apart g gs d.1 m

module _ (p : Plan) where
  pub key_step : (line : Line) (keyed : List ℕ) → is_line p line ≡ true → step p (opening 0 0) (Key line keyed) ≡ (Keyed 1, alone (on_way line keyed [] Standing) set.empty 1)
  key_step line keyed known = let f = none_line line in rw (known, f) refl

  block_step : (c : Call) (b : Groups) (n g : ℕ) → is_group p g ≡ true → set.contains b g ≡ false → n < 2 ^ 64 - 1 → step p (alone c b n) (Block g) ≡ (Done, alone c (set.insert b g) (n + 1))
  block_step c b n g known up few = let r = room n few in rw (known, up, r) refl

  unblock_step : (c : Call) (b : Groups) (n g : ℕ) → is_group p g ≡ true → set.contains b g ≡ true → n < 2 ^ 64 - 1 → step p (alone c b n) (Unblock g) ≡ (Done, alone c (set.remove b g) (n + 1))
  unblock_step c b n g known down few = let r = room n few in rw (known, down, r) refl

  -- where a call is routed by a trunk
  pub record IsRouted (line : Line) (keyed : List ℕ) (hops : List Hop) (code x : ℕ) : Type 0 where
    pub code' : code_of p keyed ≡ Some code
    pub at : last_exchange (home_of p line.code) hops ≡ x
    pub admitted : (is_first hops && is_barred p x code) ≡ false
    pub away : (home_of p code == x) ≡ false

  -- where the call stands, and that it is not barred there
  pub record IsPlaced (line : Line) (keyed : List ℕ) (hops : List Hop) (code x : ℕ) : Type 0 where
    pub code' : code_of p keyed ≡ Some code
    pub at : last_exchange (home_of p line.code) hops ≡ x
    pub admitted : (is_first hops && is_barred p x code) ≡ false

  pub routed_there : (line : Line) (keyed : List ℕ) (hops : List Hop) (code x : ℕ) → IsPlaced line keyed hops code x → x ≢ home_of p code → IsRouted line keyed hops code x
  routed_there line keyed hops code x i away = record { code' = i.code'; at = i.at; admitted = i.admitted; away = ne_eqb (home_of p code) x (λ e. away (sym e)) }

  not_first : (hops : List Hop) (h : Hop) → is_first (hops ++ h ∷ []) ≡ false
  not_first [] h = refl
  not_first (k ∷ hops) h = refl

  pub placed_next : (line : Line) (keyed : List ℕ) (hops : List Hop) (code x : ℕ) (h : Hop) → IsPlaced line keyed hops code x → IsPlaced line keyed (hops ++ h ∷ []) code h.far
  placed_next line keyed hops code x h i = record { code' = i.code'; at = last_more (home_of p line.code) hops h; admitted = and_left (is_first (hops ++ h ∷ [])) _ (not_first hops h) }

  module _ (line : Line) (keyed : List ℕ) (hops : List Hop) (b : Groups) (n code x : ℕ) (h : IsRouted line keyed hops code x) (few : n < 2 ^ 64 - 1) where
    pub route_step : (y : Circuit) → choice p (alone (on_way line keyed hops Standing) b n) x code ≡ Some y
        → step p (alone (on_way line keyed hops Standing) b n) (Route 1) ≡ (Seized y, alone (on_way line keyed hops (Calling y)) b (n + 1))
    route_step y e =
        let r = room n few in
        let k = h.code' in
        let a = h.at in
        let u = h.admitted in
        let w = h.away in
        rw (r, k, a, u, w, e) refl

    pub nc_step : choice p (alone (on_way line keyed hops Standing) b n) x code ≡ None → (step p (alone (on_way line keyed hops Standing) b n) (Route 1)).0 ≡ Answered Nc
    nc_step e =
        let r = room n few in
        let k = h.code' in
        let a = h.at in
        let u = h.admitted in
        let w = h.away in
        rw (r, k, a, u, w, e) refl

    -- it goes on over the circuit that it has seized
    pub confirm_step : (y : Circuit) (z : ℕ) → other_end p y.group x ≡ Some z
        → step p (alone (on_way line keyed hops (Calling y)) b n) (Confirm 1) ≡ (At z, alone (on_way line keyed (hops ++ record { circuit = y; far = z } ∷ []) Standing) b (n + 1))
    confirm_step y z e =
        let r = room n few in
        let a = h.at in
        rw (r, a, e) refl

  -- SEVERAL GROUPS

  pub blocks : (c : Call) (b : Groups) (n : ℕ) (gs : List ℕ) → AllByRecursion (λ g. is_group p g ≡ true) gs → EachPair (λ x y. x ≢ y) gs → ((g : ℕ) → Among g gs → set.contains b g ≡ false) → n + length gs ≤ 2 ^ 64 - 1
      → Plays p (alone c b n) (map Block gs) (alone c (shut b gs) (n + length gs))
  blocks c b n [] known once up few = subst (λ k. Plays p (alone c b n) [] (alone c b k)) (let e : n ≡ n + 0 = omega arith in e) (plays_none p (alone c b n))
  blocks c b n (g ∷ gs) known once up few =
      let rest = blocks c (set.insert b g) (n + 1) gs known.1 once.1
      (λ h m. shut_out b (g ∷ []) h (up h (inr m)) (λ k. elim k [ inl e ↦ first_apart g gs once.0 (subst (λ q. Among q gs) (sym e) m) | inr z ↦ z ])) (omega arith) in
      let e : (n + 1) + length gs ≡ n + length (g ∷ gs) = omega arith in
      plays_first p (alone c b n) (alone c (set.insert b g) (n + 1)) _ (Block g) (map Block gs) Done (block_step c b n g known.0 (up g (inl refl)) (omega arith)) refl
      (subst (λ k. Plays p (alone c (set.insert b g) (n + 1)) (map Block gs) (alone c (shut (set.insert b g) gs) k)) e rest)

  pub unblocks : (c : Call) (b : Groups) (n : ℕ) (gs : List ℕ) → AllByRecursion (λ g. is_group p g ≡ true) gs → EachPair (λ x y. x ≢ y) gs → ((g : ℕ) → Among g gs → set.contains b g ≡ true) → n + length gs ≤ 2 ^ 64 - 1
      → Plays p (alone c b n) (map Unblock gs) (alone c (opened b gs) (n + length gs))
  unblocks c b n [] known once down few = subst (λ k. Plays p (alone c b n) [] (alone c b k)) (let e : n ≡ n + 0 = omega arith in e) (plays_none p (alone c b n))
  unblocks c b n (g ∷ gs) known once down few =
      let rest = unblocks c (set.remove b g) (n + 1) gs known.1 once.1
      (λ h m. still_in b g h (down h (inr m)) (λ e. first_apart g gs once.0 (subst (λ q. Among q gs) e m))) (omega arith) in
      let e : (n + 1) + length gs ≡ n + length (g ∷ gs) = omega arith in
      plays_first p (alone c b n) (alone c (set.remove b g) (n + 1)) _ (Unblock g) (map Unblock gs) Done (unblock_step c b n g known.0 (down g (inl refl)) (omega arith)) refl
      (subst (λ k. Plays p (alone c (set.remove b g) (n + 1)) (map Unblock gs) (alone c (opened (set.remove b g) gs) k)) e rest)
