-- Calls that begin and go on: the parts stay together.
use Rattle.tx_engine.proofs.Common.{◌≡◌, ◌≢◌, ℕ, ◌+◌, ◌==◌, Bool, true, false, not, ◌&&◌, ◌||◌, List, [], ◌∷◌, ◌++◌, Some, None, refl, sym, ap, ◌∙◌, eq-eqb, eqb-true, and_parts, and_from, both_ways, ne_eqb, false_from_ne_true, if◌then◌else◌, unwrap_or, list_any, list_any-append, or-false, or_comm, and-false, and-true, circuit_cmp, same_circuit, same_line, circuits_total, circuit_tie, lines_total, line_tie, same_circuit-is, same_circuit-itself, list_any-map, Plan, is_line, is_circuit, other_end, Among, Circuit, Line, Hop, Phase, Standing, Calling, Connected, Call, exchange_of, carries, seizes, seizes_from, is_calling_on, is_free_at, takes_part, is_connected_to, set_call, in_phase, far_of, carried_on, rival, keyed_call, IsKeyedLine, Inv, any_none, mem_any, find_none, Book, seats_total, exact_seats, seat_tie, state_seen, AreTogether}
use Rattle.std.specs.FinSet as set
use Rattle.tx_machine.proofs.Uses.{is_free, two_ends}
use Rattle.tx_machine.proofs.Changes.{key_keeps, connect_keeps, seize_keeps, carry_keeps}
use Rattle.tx_circuits.specs.Table.{Table, Seat, IsSeizedBy, with_held, is_free_at as is_free_in}
use Rattle.tx_engine.proofs.Filters.{any_alike}
use Rattle.tx_engine.proofs.After.{any_before, any_rest, rest, rest_mem, seizing_from, seizes_at}

module _ (p : Plan) (cs : List Call) (rel : set.FinSet circuit_cmp) (numbers : ℕ) (inv : Inv p cs rel numbers) (c : Call) (m : Among c cs) where
  -- a test of all calls, where one changes
  pub any_set : (f : Call → Call) (t : Call → Bool) → list_any t (set_call c.number f cs) ≡ (t (f c) || list_any t (rest p cs rel numbers inv c m))
  any_set f t =
      list_any-map t (λ k. if k.number == c.number then f k else k) cs
      ∙ any_before p cs rel numbers inv c m (λ k. t (if k.number == c.number then f k else k))
      ∙ (λ i. t (if eq-eqb c.number c.number refl i then f c else c) || any_alike (λ k. t (if k.number == c.number then f k else k)) t (rest p cs rel numbers inv c m) (λ k q. ap (λ b. t (if b then f k else k)) (ne_eqb k.number c.number (rest_mem p cs rel numbers inv c m k q).1)) i)

  -- of what the change leaves alone nothing changes
  pub any_same : (f : Call → Call) (t : Call → Bool) → t (f c) ≡ t c → list_any t (set_call c.number f cs) ≡ list_any t cs
  any_same f t e = any_set f t ∙ ap (λ b. b || list_any t (rest p cs rel numbers inv c m)) e ∙ sym (any_before p cs rel numbers inv c m t)

  -- what the call did not do before it may do now
  pub any_more : (f : Call → Call) (t : Call → Bool) → t c ≡ false → list_any t (set_call c.number f cs) ≡ (t (f c) || list_any t cs)
  any_more f t e = any_set f t ∙ ap (λ b. t (f c) || b) (sym (any_rest p cs rel numbers inv c m t e))

module _ (p : Plan) (cs : List Call) (t : Table) (b : Book) (numbers : ℕ) (k : AreTogether p cs t b numbers) where
  -- A LINE CALLS
  pub keyed_together : (line : Line) (keyed : List ℕ) (event room : ℕ) → is_line p line ≡ true → set.contains b.engaged line ≡ false
      → AreTogether p (cs ++ keyed_call (numbers + 1) line keyed event ∷ []) t (record b { engaged = set.insert b.engaged line; room = room }) (numbers + 1)
  keyed_together line keyed event room known free =
      let c = keyed_call (numbers + 1) line keyed event in
      let after : (f : Call → Bool) → list_any f (cs ++ c ∷ []) ≡ (f c || list_any f cs) = λ f. list_any-append f cs (c ∷ []) ∙ ap (λ z. list_any f cs || z) (or-false (f c)) ∙ or_comm (list_any f cs) (f c) in
      record {
        inv = key_keeps p (state_seen cs t b numbers 0 []) k.inv line keyed event known (sym (k.engaged line) ∙ free);
        used = record { groups = k.used.groups; carried = λ x. k.used.carried x ∙ sym (after (λ d. carries d x)); seized = λ x e. k.used.seized x e ∙ sym (after (λ d. seizes_from p d x e)) };
        engaged = λ l. set.contains-insert lines_total b.engaged line l ∙ (λ i. line_tie l line i || k.engaged l i) ∙ ap (λ z. z || list_any (λ d. takes_part d l) cs) (sym (or-false (same_line line l))) ∙ sym (after (λ d. takes_part d l));
      }

  module _ (c : Call) (m : Among c cs) where
    -- A CALL IS CONNECTED
    pub connected_together : (l : Line) (room : ℕ) → c.phase ≡ Standing → IsKeyedLine p c l → set.contains b.engaged l ≡ false
        → AreTogether p (set_call c.number (in_phase (Connected l)) cs) t (record b { engaged = set.insert b.engaged l; room = room }) numbers
    connected_together l room stands right free =
        let f = in_phase (Connected l) in
        record {
          inv = connect_keeps p (state_seen cs t b numbers 0 []) k.inv c m l right (sym (k.engaged l) ∙ free);
          used = record {
            groups = k.used.groups;
            carried = λ x. k.used.carried x ∙ sym (any_same p cs t.releasing numbers k.inv c m f (λ d. carries d x) refl);
            seized = λ x e. k.used.seized x e ∙ sym (any_same p cs t.releasing numbers k.inv c m f (λ d. seizes_from p d x e) (ap (λ (z : Phase). is_calling_on z x && (exchange_of p c == e)) (sym stands)));
          };
          engaged = λ n.
              set.contains-insert lines_total b.engaged l n
              ∙ (λ i. line_tie n l i || k.engaged n i)
              ∙ ap (λ z. same_line l n || z) (any_before p cs t.releasing numbers k.inv c m (λ d. takes_part d n) ∙ ap (λ (z : Phase). (same_line c.line n || is_connected_to z n) || list_any (λ d. takes_part d n) (rest p cs t.releasing numbers k.inv c m)) stands)
              ∙ three (same_line c.line n) (same_line l n) (list_any (λ d. takes_part d n) (rest p cs t.releasing numbers k.inv c m))
              ∙ sym (any_set p cs t.releasing numbers k.inv c m f (λ d. takes_part d n));
        }
      where
        three : (a m r : Bool) → (m || ((a || false) || r)) ≡ ((a || m) || r)
        three true true r = refl
        three true false r = refl
        three false true r = refl
        three false false r = refl

    -- A CALL SEIZES A CIRCUIT
    -- what the table sees as free, the machine does
    pub free_told : (x : Circuit) (exchange : ℕ) → is_free_in t exchange x ≡ is_free_at p (state_seen cs t b numbers 0 []) exchange x
    free_told x exchange = λ i. not (k.used.carried x i) && (not (set.contains t.releasing x) && (not (set.contains t.out x) && not (k.used.seized x exchange i)))

    pub seized_together : (x : Circuit) (y : ℕ) → c.phase ≡ Standing → is_circuit p x ≡ true → other_end p x.group (exchange_of p c) ≡ Some y → is_free_in t (exchange_of p c) x ≡ true
        → AreTogether p (set_call c.number (in_phase (Calling x)) cs) (record t { seized = set.insert t.seized (x, exchange_of p c) }) b numbers
    seized_together x y stands known to free =
        let f = in_phase (Calling x) in
        record {
          inv = seize_keeps p (state_seen cs t b numbers 0 []) k.inv c m x y stands known to (is_free p (state_seen cs t b numbers 0 []) (exchange_of p c) x (sym (free_told x (exchange_of p c)) ∙ free));
          used = record {
            groups = k.used.groups;
            carried = λ z. k.used.carried z ∙ sym (any_same p cs t.releasing numbers k.inv c m f (λ d. carries d z) refl);
            seized = λ z e.
                set.contains-insert seats_total t.seized (x, exchange_of p c) (z, e)
                ∙ (λ i. seat_tie x z (exchange_of p c) e i || k.used.seized z e i)
                ∙ sym (any_more p cs t.releasing numbers k.inv c m f (λ d. seizes_from p d z e) (ap (λ (q : Phase). is_calling_on q z && (exchange_of p c == e)) stands));
          };
          engaged = λ l. k.engaged l ∙ sym (any_same p cs t.releasing numbers k.inv c m f (λ d. takes_part d l) (ap (λ (z : Phase). same_line c.line l || is_connected_to z l) (sym stands)));
        }

    -- A CALL GOES ON OVER ITS CIRCUIT
    module _ (x : Circuit) (calls : c.phase ≡ Calling x) (alone : rival p (state_seen cs t b numbers 0 []) c x ≡ None) where
      -- no other call has seized it
      pub nobody_else : (d : Call) → Among d cs → d.number ≢ c.number → d.phase ≡ Calling x → ⊥
      nobody_else d i ne e =
          let to = (k.inv.each c m).calling x calls in
          let to' = (k.inv.each d i).calling x e in
          let there : exchange_of p d ≡ far_of p c x = two_ends p x.group (exchange_of p c) (exchange_of p d) to.0 to'.0 to.1 to'.1 (λ q. (k.inv.pairs c d m i (λ n. ne (sym n))).ends x calls e q) ∙ sym (ap (λ o. unwrap_or o 0) to.1) in
          both_ways _ (find_none (λ d. not (d.number == c.number) && seizes_from p d x (far_of p c x)) cs d alone i) (and_from (not (d.number == c.number)) (seizes_from p d x (far_of p c x)) (ap not (ne_eqb d.number c.number ne)) (seizes_at p d x (far_of p c x) e there))

      unseized_rest : (e : ℕ) → list_any (λ d. seizes_from p d x e) (rest p cs t.releasing numbers k.inv c m) ≡ false
      unseized_rest e = any_none (λ d. seizes_from p d x e) (rest p cs t.releasing numbers k.inv c m) (λ d i. let r = rest_mem p cs t.releasing numbers k.inv c m d i in false_from_ne_true (seizes_from p d x e) (λ s. nobody_else d r.0 r.1 (seizing_from p d x e s).0))

      -- the table may hold it
      pub may_hold : (e : ℕ) × IsSeizedBy t x e
      may_hold = (
        exchange_of p c,
        record {
          this = k.used.seized x (exchange_of p c) ∙ mem_any (λ d. seizes_from p d x (exchange_of p c)) cs c m (seizes_at p c x (exchange_of p c) calls refl);
          no_other = λ e s. sym (eqb-true (exchange_of p c) e (and_parts (seizes c x) (exchange_of p c == e) (this_one (seizes_from p c x e) (list_any (λ d. seizes_from p d x e) (rest p cs t.releasing numbers k.inv c m)) (sym (any_before p cs t.releasing numbers k.inv c m (λ d. seizes_from p d x e)) ∙ sym (k.used.seized x e) ∙ s) (unseized_rest e))).1);
        },
      )
        where
          this_one : (a r : Bool) → (a || r) ≡ true → r ≡ false → a ≡ true
          this_one true r h f = refl
          this_one false r h f = sym f ∙ h

      pub carried_together : (far : ℕ) → other_end p x.group (exchange_of p c) ≡ Some far → AreTogether p (set_call c.number (carried_on x far) cs) (with_held t x) b numbers
      carried_together far to =
          let f = carried_on x far in
          let others = rest p cs t.releasing numbers k.inv c m in
          record {
            inv = carry_keeps p (state_seen cs t b numbers 0 []) k.inv c m x far calls to alone;
            used = record {
              groups = k.used.groups;
              carried = λ y.
                  set.contains-insert circuits_total t.carried x y
                  ∙ (λ i. circuit_tie x y i || k.used.carried y i)
                  ∙ ap (λ z. same_circuit x y || z) (any_before p cs t.releasing numbers k.inv c m (λ d. carries d y))
                  ∙ pushed (same_circuit x y) (carries c y) (list_any (λ d. carries d y) others)
                  ∙ ap (λ z. z || list_any (λ d. carries d y) others) (sym (list_any-append (λ (h : Hop). same_circuit h.circuit y) c.hops (record { circuit = x; far = far } ∷ [])))
                  ∙ sym (any_set p cs t.releasing numbers k.inv c m f (λ d. carries d y));
              seized = λ y e.
                  set.contains-retain t.seized (λ s. not (same_circuit s.0 x)) (y, e) (λ z q. ap (λ (w : Seat). not (same_circuit w.0 x)) (sym (exact_seats (y, e) z q)))
                  ∙ ap (λ z. z && not (same_circuit y x)) (k.used.seized y e ∙ any_before p cs t.releasing numbers k.inv c m (λ d. seizes_from p d y e))
                  ∙ let_go y e (same_circuit y x) refl
                  ∙ sym (any_set p cs t.releasing numbers k.inv c m f (λ d. seizes_from p d y e));
            };
            engaged = λ l. k.engaged l ∙ sym (any_same p cs t.releasing numbers k.inv c m f (λ d. takes_part d l) (ap (λ (z : Phase). same_line c.line l || is_connected_to z l) (sym calls)));
          }
        where
          pushed : (a b r : Bool) → (a || (b || r)) ≡ ((b || (a || false)) || r)
          pushed true true r = refl
          pushed true false r = refl
          pushed false true r = refl
          pushed false false r = refl

          let_go : (y : Circuit) (e : ℕ) (z : Bool) → same_circuit y x ≡ z → ((seizes_from p c y e || list_any (λ d. seizes_from p d y e) (rest p cs t.releasing numbers k.inv c m)) && not z) ≡ list_any (λ d. seizes_from p d y e) (rest p cs t.releasing numbers k.inv c m)
          let_go y e true q = and-false _ ∙ sym (ap (λ w. list_any (λ d. seizes_from p d w e) (rest p cs t.releasing numbers k.inv c m)) (same_circuit-is y x q) ∙ unseized_rest e)
          let_go y e false q = and-true _ ∙ ap (λ z. z || list_any (λ d. seizes_from p d y e) (rest p cs t.releasing numbers k.inv c m)) (false_from_ne_true (seizes_from p c y e) (λ s.
              let g = seizing_from p c y e s in
              let here : Calling y ≡ Calling x = sym g.0 ∙ calls in
              let one : y ≡ x = cc in
              both_ways (same_circuit y x) q (ap (same_circuit y) (sym one) ∙ same_circuit-itself y)))
