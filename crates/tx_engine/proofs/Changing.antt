-- The parts of the engine at the opening, with more room, after a new call, and after one call changed.
use Rattle.tx_engine.proofs.Common.{◌≡◌, ◌≢◌, ℕ, suc, ◌+◌, ◌<◌, ◌≤◌, Bool, true, false, List, [], ◌∷◌, ◌++◌, length, Some, None, refl, sym, ap, subst, ◌∙◌, arith, slice_index_or, line_cmp, circuit_cmp, IsPlan, is_circuit, Among, Circuit, Line, Hop, Standing, Calling, Call, exchange_of, circuits_carried, set_call, keyed_call, Inv, Book, is_line_of, Kept, KeptCalls, kept_at, Changes, calls_in, sorted_calls, HasKeys, keys_of, pick, EndKeys, AreTogether, AreSound, is_first_end}
use Rattle.std.specs.FinSet as set
use Rattle.tx_plan.specs.Plan.{Plan, Code}
use Rattle.tx_plan.specs.Lines.{is_line_at, is_line}
use Rattle.tx_machine.proofs.Invariant.{inv_opening}
use Rattle.tx_machine.proofs.Changes.{not_standing}
use Rattle.tx_circuits.specs.Table.{Table, all_free, seat_cmp}
use Rattle.tx_engine.proofs.Sorted.{sorted_mem}
use Rattle.tx_engine.proofs.Going.{keyed_together}
use Rattle.tx_engine.proofs.Keyed.{keyed_updated, hop_room_updated}

pub length_set : (n : ℕ) (f : Call → Call) (cs : List Call) → length (set_call n f cs) ≡ length cs
length_set n f [] = refl
length_set n f (c ∷ cs) = ap suc (length_set n f cs)

length_push : (cs : List Call) (c : Call) → length (cs ++ c ∷ []) ≡ length cs + 1
length_push [] c = refl
length_push (d ∷ cs) c = let r = length_push cs c in omega arith

-- a new call, with some hops
abbrev pub keyed_with : ℕ → Line → List ℕ → ℕ → List Hop → Call
keyed_with n line keyed event hops = record { number = n; line = line; keyed = keyed; keyed_at = event; hops = hops; phase = Standing; collided = false }

-- a book with more room shows the same lines engaged
pub together_in : (p : Plan) (cs : List Call) (t : Table) (b b' : Book) (numbers : ℕ) → b'.engaged ≡ b.engaged → AreTogether p cs t b numbers → AreTogether p cs t b' numbers
together_in p cs t b b' numbers engaged k = record { inv = k.inv; used = k.used; engaged = λ l. ap (λ (z : set.FinSet line_cmp). set.contains z l) engaged ∙ k.engaged l }

-- THE OPENING
pub sound_opening : (p : Plan) (codes : List Code) (c : KeptCalls) (ks : List (List EndKeys)) (b : Book) (t : Table) (numbers made room : ℕ) → IsPlan p → codes ≡ p.codes → c.slots ≡ []
    → ((x : Circuit) → is_circuit p x ≡ true → HasKeys ks x) → ((code : ℕ) (number : List ℕ) → is_line_of b.ranges code number ≡ is_line_at p code number) → b.engaged ≡ set.empty → t ≡ all_free p → made ≡ 0
    → AreSound p codes c ks b t numbers made room
sound_opening p codes c ks b t numbers made room ok codes_are none keys lines idle free zero' =
    let calls : calls_in c ≡ [] = ap sorted_calls none in
    let nothing : (key : ℕ) (e : Kept) → kept_at c key ≡ Some e → ⊥ = λ key e at. elim (subst (λ (s : List Call). Among e.call s) calls (sorted_mem c.slots key e at)) [ ] in
    record {
      rules = ok;
      codes_are = codes_are;
      lines = lines;
      together = subst (λ s. AreTogether p s t b numbers) (sym calls) (record {
        inv = subst (λ (r : set.FinSet circuit_cmp). Inv p [] r numbers) (sym (ap (λ (z : Table). z.releasing) free)) (inv_opening p numbers);
        used = record {
          groups = ap (λ (z : Table). z.groups) free;
          carried = λ x. ap (λ (z : Table). set.contains z.carried x) free ∙ set.contains-empty circuit_cmp x;
          seized = λ x e. ap (λ (z : Table). set.contains z.seized (x, e)) free ∙ set.contains-empty seat_cmp (x, e);
        };
        engaged = λ l. ap (λ (z : set.FinSet line_cmp). set.contains z l) idle ∙ set.contains-empty line_cmp l;
      });
      keyed = record { all = keys; seizers = λ key e at. absurd (nothing key e at); carriers = λ key e at. absurd (nothing key e at) };
      hop_room = λ key e at. absurd (nothing key e at);
      ticket_room = (let n = ap length calls in omega arith);
    }

module _ (p : Plan) (codes : List Code) (c : KeptCalls) (ks : List (List EndKeys)) (b : Book) (t : Table) (numbers made room : ℕ) (sound : AreSound p codes c ks b t numbers made room) where
  -- ROOM
  pub sound_room : (c' : KeptCalls) (b' : Book) (made' room' : ℕ) → c'.slots ≡ c.slots → b'.ranges ≡ b.ranges → b'.engaged ≡ b.engaged → made' + length (calls_in c) ≤ room' → AreSound p codes c' ks b' t numbers made' room'
  sound_room c' b' made' room' slots ranges engaged more =
      let calls : calls_in c' ≡ calls_in c = ap sorted_calls slots in
      let at : (key : ℕ) (e : Kept) → kept_at c' key ≡ Some e → kept_at c key ≡ Some e = λ key e h. ap (λ s. slice_index_or s key None) (sym slots) ∙ h in
      record {
        rules = sound.rules;
        codes_are = sound.codes_are;
        lines = λ code number. ap (λ r. is_line_of r code number) ranges ∙ sound.lines code number;
        together = subst (λ s. AreTogether p s t b' numbers) (sym calls) (together_in p (calls_in c) t b b' numbers engaged sound.together);
        keyed = record { all = sound.keyed.all; seizers = λ key e h. sound.keyed.seizers key e (at key e h); carriers = λ key e h. sound.keyed.carriers key e (at key e h) };
        hop_room = λ key e h. sound.hop_room key e (at key e h);
        ticket_room = (let n = ap length calls in omega (arith, more));
      }

  -- A NEW CALL
  pub sound_key : (c' : KeptCalls) (b' : Book) (key : ℕ) (e : Kept) (line : Line) (keyed : List ℕ) (event : ℕ) → is_line p line ≡ true → set.contains b.engaged line ≡ false
      → Changes c c' key (Some e) → e.call ≡ keyed_call (numbers + 1) line keyed event → calls_in c' ≡ calls_in c ++ keyed_call (numbers + 1) line keyed event ∷ []
      → b'.ranges ≡ b.ranges → b'.engaged ≡ set.insert b.engaged line → made + (length (calls_in c) + 1) ≤ room
      → AreSound p codes c' ks b' t (numbers + 1) made room
  sound_key c' b' key e line keyed event known free up seen calls ranges engaged more =
      record {
        rules = sound.rules;
        codes_are = sound.codes_are;
        lines = λ code number. ap (λ r. is_line_of r code number) ranges ∙ sound.lines code number;
        together = subst (λ s. AreTogether p s t b' (numbers + 1)) (sym calls) (together_in p _ t (record b { engaged = set.insert b.engaged line; room = b.room }) b' (numbers + 1) engaged (keyed_together p (calls_in c) t b numbers sound.together line keyed event b.room known free));
        keyed = keyed_updated p c c' key ks ks sound.keyed sound.keyed.all e up
            (λ x f. absurd (not_standing (ap (λ (z : Call). z.phase) (sym seen) ∙ f)))
            (λ x m. absurd (subst (λ (z : Call). Among x (circuits_carried z)) seen m))
            (λ k d ne was x f. refl) (λ k d ne was x m f. refl);
        hop_room = hop_room_updated c c' key e up sound.hop_room (λ x f. absurd (not_standing (ap (λ (z : Call). z.phase) (sym seen) ∙ f)));
        ticket_room = (let n = ap length calls ∙ length_push (calls_in c) (keyed_call (numbers + 1) line keyed event) in omega (arith, more));
      }

  -- ONLY THE TABLE CHANGES
  pub sound_table : (t' : Table) → AreTogether p (calls_in c) t' b numbers → AreSound p codes c ks b t' numbers made room
  sound_table t' k = record { rules = sound.rules; codes_are = sound.codes_are; lines = sound.lines; together = k; keyed = sound.keyed; hop_room = sound.hop_room; ticket_room = sound.ticket_room }

  -- ONE CALL CHANGES
  module _ (key : ℕ) (k : Kept) (was : kept_at c key ≡ Some k) where
    pub inside : Among k.call (calls_in c)
    inside = sorted_mem c.slots key k was

    pub sound_after : (c' : KeptCalls) (e : Kept) (f : Call → Call) (b' : Book) (t' : Table) (ks' : List (List EndKeys))
        → Changes c c' key (Some e) → calls_in c' ≡ set_call k.call.number f (calls_in c) → b'.ranges ≡ b.ranges
        → AreTogether p (set_call k.call.number f (calls_in c)) t' b' numbers
        → ((x : Circuit) → is_circuit p x ≡ true → HasKeys ks' x)
        → ((x : Circuit) → e.call.phase ≡ Calling x → pick (is_first_end p x (exchange_of p e.call)) (keys_of ks' x) ≡ key)
        → ((x : Circuit) → Among x (circuits_carried e.call) → (f : Bool) → pick f (keys_of ks' x) ≡ key)
        → ((i : ℕ) (d : Kept) → i ≢ key → kept_at c i ≡ Some d → (x : Circuit) → d.call.phase ≡ Calling x → pick (is_first_end p x (exchange_of p d.call)) (keys_of ks' x) ≡ pick (is_first_end p x (exchange_of p d.call)) (keys_of ks x))
        → ((i : ℕ) (d : Kept) → i ≢ key → kept_at c i ≡ Some d → (x : Circuit) → Among x (circuits_carried d.call) → (f : Bool) → pick f (keys_of ks' x) ≡ pick f (keys_of ks x))
        → ((x : Circuit) → e.call.phase ≡ Calling x → 0 < e.room)
        → AreSound p codes c' ks' b' t' numbers made room
    sound_after c' e f b' t' ks' up calls ranges together all seizers carriers other_seizers other_carriers hop = record {
      rules = sound.rules;
      codes_are = sound.codes_are;
      lines = λ code number. ap (λ r. is_line_of r code number) ranges ∙ sound.lines code number;
      together = subst (λ z. AreTogether p z t' b' numbers) (sym calls) together;
      keyed = keyed_updated p c c' key ks ks' sound.keyed all e up seizers carriers other_seizers other_carriers;
      hop_room = hop_room_updated c c' key e up sound.hop_room hop;
      ticket_room = (let n = ap length calls ∙ length_set k.call.number f (calls_in c) in let r = sound.ticket_room in omega arith);
    }

    -- room for a hop
    pub sound_hop : (c' : KeptCalls) (r : ℕ) → Changes c c' key (Some (record k { room = r })) → calls_in c' ≡ calls_in c → k.room ≤ r → AreSound p codes c' ks b t numbers made room
    sound_hop c' r up calls more = record {
      rules = sound.rules;
      codes_are = sound.codes_are;
      lines = sound.lines;
      together = subst (λ z. AreTogether p z t b numbers) (sym calls) sound.together;
      keyed = keyed_updated p c c' key ks ks sound.keyed sound.keyed.all (record k { room = r }) up (sound.keyed.seizers key k was) (sound.keyed.carriers key k was) (λ i d ne at x f. refl) (λ i d ne at x m f. refl);
      hop_room = hop_room_updated c c' key (record k { room = r }) up sound.hop_room (λ x f. let h = sound.hop_room key k was x f in omega (arith, more));
      ticket_room = (let n = ap length calls in let r = sound.ticket_room in omega arith);
    }
