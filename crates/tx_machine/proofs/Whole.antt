-- What the fields keep, as they change.
use Rattle.std.proofs.Common.{◌≡◌, ℕ, ◌+◌, ◌≤◌, ◌==◌, Bool, true, false, not, ◌&&◌, ◌||◌, List, [], ◌∷◌, ◌++◌, inl, inr, map, length, refl, ap, sym, ◌∙◌, subst, arith, eqb-true, vec_len, vec_capacity, Some, None, Option, Result, Ok, Err}
use Rattle.std.specs.Prelude.{filter, Vec, OnErr, nat_le, slice_get, if◌then◌else◌}
use Rattle.tx_machine.proofs.Common.{with_items, option_map_or, flat_map, with_items_is, map_push, false≢true, and_parts, slice_get_within, Plan, Group, is_circuit, Among, Circuit, Line, at_least, among_cases, among_left, among_right, filter_among, Hop, Ended, Call, is_numbered, is_calling, circuit_called, call_of, thrown_back, keyed_call, circuits_used, circuits_carried, seizes, set_call, given_up, Circuits, HasMark, AreFor, call_seen, changed_call, HasRoom, IsReady, ends_by, is_given, AreMarked, OpenCall, Change, To, Carry, ThrowBack, Ends}
use Rattle.tx_plan.specs.Rules.{IsPlan, IsGroup}
use Rattle.tx_machine.specs.declared.open_call.Phase.{Phase}
use Rattle.tx_machine.specs.declared.open_call.Phase.TheVariants.{Standing, Calling, Connected}
use Rattle.tx_machine.proofs.Lists.{find_mem, at_index}
use Rattle.tx_machine.specs.declared.plain.marks.Marks.{Marks}
use Rattle.tx_machine.specs.inner.Whole.{AreHeld, IsWhole}
use Rattle.tx_machine.proofs.Views.{any_filter, filter_map_seen}
use Rattle.tx_machine.proofs.Holding.{held_filter, held_set, held_more, calling_ready}

pub circuit_marked : (p : Plan) → IsPlan p → (x : Circuit) → is_circuit p x ≡ true → HasMark (length p.groups) x
circuit_marked p ok x h = at (slice_get p.groups x.group) refl h
  where
    at : (o : Option Group) → slice_get p.groups x.group ≡ o → option_map_or (λ r. nat_le 1 x.number && nat_le x.number r.count) o false ≡ true → HasMark (length p.groups) x
    at None e h = absurd (false≢true h)
    at (Some r) e h =
        let t = and_parts (nat_le 1 x.number) (nat_le x.number r.count) h in
        let few = (at_index (IsGroup p) p.groups ok.groups x.group r e).few in
        let last = at_least x.number r.count t.1 in
        record { group = slice_get_within p.groups x.group r e; first = at_least 1 x.number t.0; last = omega arith }

changed_number : (change : Change) (c : Call) → (changed_call change c).number ≡ c.number
changed_number (To phase) c = refl
changed_number (Carry h) c = refl
changed_number ThrowBack c = refl

module _ (groups numbers n : ℕ) (cs : List Call) (h : AreHeld groups numbers cs) where
  pub marks_to : (phase : Phase) → ((x : Circuit) → phase ≡ Calling x → HasMark groups x) → (c : Call) → Among c cs → c.number ≡ n → AreMarked groups (circuits_used (changed_call (To phase) c))
  marks_to phase new c m e x i = elim (among_cases x (circuits_carried c) (circuit_called phase) i) [ inl o ↦ h.marked c m x (among_left x (circuits_carried c) (circuit_called c.phase) o) | inr q ↦ new x (called phase q) ]
    where
      called : (phase : Phase) → Among x (circuit_called phase) → phase ≡ Calling x
      called Standing m = absurd m
      called (Connected l) m = absurd m
      called (Calling y) (inl e) = ap Calling e
      called (Calling y) (inr m) = absurd m

  pub marks_back : (c : Call) → Among c cs → c.number ≡ n → AreMarked groups (circuits_used (changed_call ThrowBack c))
  marks_back c m e x i = elim (among_cases x (circuits_carried c) [] i) [ inl o ↦ h.marked c m x (among_left x (circuits_carried c) (circuit_called c.phase) o) | inr q ↦ absurd q ]

  pub marks_carry : (hop : Hop) (k : Call) → Among k cs → k.number ≡ n → k.phase ≡ Calling hop.circuit → (c : Call) → Among c cs → c.number ≡ n → AreMarked groups (circuits_used (changed_call (Carry hop) c))
  marks_carry hop k mk ek pk c m e x i =
      let same = h.one k c mk m (ek ∙ sym e) in
      let p : c.phase ≡ Calling hop.circuit = ap (λ (z : Call). z.phase) (sym same) ∙ pk in
      elim (among_cases x (map (λ (h : Hop). h.circuit) (c.hops ++ hop ∷ [])) [] i) [
        | inl o ↦ elim (among_cases x (circuits_carried c) (hop.circuit ∷ []) (subst (λ l. Among x l) (map_push (λ (h : Hop). h.circuit) c.hops hop) o)) [
          | inl a ↦ h.marked c m x (among_left x (circuits_carried c) (circuit_called c.phase) a)
          | inr b ↦ h.marked c m x (among_right x (circuits_carried c) (circuit_called c.phase) (subst (λ ph. Among x (circuit_called ph)) (sym p) b))
        ]
        | inr q ↦ absurd q
      ]

module _ {A : Type 0} (p : Plan) (calls : Vec (OpenCall A) A) (tickets : Vec Ended A) (marks : Marks A) (numbers : ℕ) (w : IsWhole p calls tickets marks numbers) where
  -- other calls
  pub whole_calls : (calls' : Vec (OpenCall A) A) → vec_len calls' ≡ vec_len calls → AreHeld (length p.groups) numbers (map call_seen calls'.items) → ((c : OpenCall A) → Among c calls'.items → HasRoom c) → IsWhole p calls' tickets marks numbers
  whole_calls calls' len held hops = record {
    rules = w.rules;
    room = (let r = w.room in omega arith);
    held = held;
    hops = hops;
    marks_all = w.marks_all;
  }

  -- calls in place of these, as they are seen
  pub whole_same : (now new : List (OpenCall A)) → now ≡ calls.items → length now ≡ vec_len calls → map call_seen new ≡ map call_seen now → length new ≡ length now → (((c : OpenCall A) → Among c now → HasRoom c) → (c : OpenCall A) → Among c new → HasRoom c) → IsWhole p (with_items calls new) tickets marks numbers
  whole_same now new e len seen same room =
      let items = with_items_is calls new (same ∙ len) in
      whole_calls (with_items calls new) refl
      (subst (AreHeld (length p.groups) numbers) (ap (map call_seen) (sym e) ∙ sym seen ∙ ap (map call_seen) (sym items)) w.held)
      (λ c m. room (subst (λ l. (c : OpenCall A) → Among c l → HasRoom c) (sym e) w.hops) c (subst (λ l. Among c l) items m))

  pub whole_changed : (n : ℕ) (change : Change) (now new : List (OpenCall A)) → now ≡ calls.items → length now ≡ vec_len calls → map call_seen new ≡ set_call n (changed_call change) (map call_seen now) → length new ≡ length now → (((c : OpenCall A) → Among c now → HasRoom c) → (c : OpenCall A) → Among c new → HasRoom c) → ((c : Call) → Among c (map call_seen calls.items) → c.number ≡ n → AreMarked (length p.groups) (circuits_used (changed_call change c))) → IsWhole p (with_items calls new) tickets marks numbers
  whole_changed n change now new e len seen same room marked =
      let items = with_items_is calls new (same ∙ len) in
      whole_calls (with_items calls new) refl
      (subst (AreHeld (length p.groups) numbers) (ap (λ l. set_call n (changed_call change) (map call_seen l)) (sym e) ∙ sym seen ∙ ap (map call_seen) (sym items)) (held_set (length p.groups) numbers (map call_seen calls.items) w.held n (changed_call change) (changed_number change) marked))
      (λ c m. room (subst (λ l. (c : OpenCall A) → Among c l → HasRoom c) (sym e) w.hops) c (subst (λ l. Among c l) items m))

  -- the calls of a number of which one seizes a circuit have room
  pub whole_ready : (now : List (OpenCall A)) → now ≡ calls.items → (n : ℕ) (k : Call) (x : Circuit) → call_of n (map call_seen calls.items) ≡ Some k → k.phase ≡ Calling x → (c : OpenCall A) → Among c now → IsReady n c
  whole_ready now e n k x f q c m =
      let r = find_mem (λ (c : Call). c.number == n) (map call_seen calls.items) k f in
      calling_ready (length p.groups) numbers n calls.items w.held w.hops k x r.0 (eqb-true k.number n r.1) q c (subst (λ l. Among c l) e m)

  -- other marks, for as many groups
  pub whole_marks : (marks' : Marks A) → AreFor (length p.groups) marks' → IsWhole p calls tickets marks' numbers
  whole_marks marks' all = record { rules = w.rules; room = w.room; held = w.held; hops = w.hops; marks_all = all }

  pub whole_ended : (ends : Ends) (calls' : Vec (OpenCall A) A) (tickets' : Vec Ended A) (releasing' : Circuits) → calls'.items ≡ filter (λ c. not (ends_by ends (call_seen c))) calls.items → vec_len tickets' + vec_len calls' ≤ vec_capacity tickets' → releasing'.groups ≡ marks.releasing.groups → IsWhole p calls' tickets' (record marks { releasing = releasing' }) numbers
  whole_ended ends calls' tickets' releasing' kept room e = record {
    rules = w.rules;
    room = room;
    held = subst (AreHeld (length p.groups) numbers) (sym (filter_map_seen (λ c. not (ends_by ends c)) call_seen calls.items) ∙ ap (map call_seen) (sym kept)) (held_filter (length p.groups) numbers (map call_seen calls.items) w.held (λ c. not (ends_by ends c)));
    hops = λ c m. w.hops c (filter_among (λ c. not (ends_by ends (call_seen c))) c calls.items (subst (λ l. Among c l) kept m)).0;
    marks_all = record { failed = w.marks_all.failed; blocked = w.marks_all.blocked; releasing = e ∙ w.marks_all.releasing; out = w.marks_all.out };
  }

pub seen_same : {A : Type 0} (calls : Vec (OpenCall A) A) (now new : List (OpenCall A)) → now ≡ calls.items → length now ≡ vec_len calls → map call_seen new ≡ map call_seen now → length new ≡ length now → map call_seen (with_items calls new).items ≡ map call_seen calls.items
seen_same calls now new e len seen same = ap (map call_seen) (with_items_is calls new (same ∙ len)) ∙ seen ∙ ap (map call_seen) e

pub seen_changed : {A : Type 0} (calls : Vec (OpenCall A) A) (n : ℕ) (change : Change) (now new : List (OpenCall A)) → now ≡ calls.items → length now ≡ vec_len calls → map call_seen new ≡ set_call n (changed_call change) (map call_seen now) → length new ≡ length now → map call_seen (with_items calls new).items ≡ set_call n (changed_call change) (map call_seen calls.items)
seen_changed calls n change now new e len seen same = ap (map call_seen) (with_items_is calls new (same ∙ len)) ∙ seen ∙ ap (λ l. set_call n (changed_call change) (map call_seen l)) e

-- two calls that are thrown back one after the other
pub thrown_twice : (a b : ℕ) (cs : List Call) → set_call b (changed_call ThrowBack) (set_call a (changed_call ThrowBack) cs) ≡ map (λ k. if is_numbered a k || is_numbered b k then thrown_back k else k) cs
thrown_twice a b [] = refl
thrown_twice a b (c ∷ cs) = λ i. one (is_numbered a c) i ∷ thrown_twice a b cs i
  where
    two : (t : Bool) → (if t then thrown_back (thrown_back c) else thrown_back c) ≡ thrown_back c
    two true = refl
    two false = refl

    one : (t : Bool) → (if is_numbered b (if t then thrown_back c else c) then thrown_back (if t then thrown_back c else c) else (if t then thrown_back c else c)) ≡ (if t || is_numbered b c then thrown_back c else c)
    one true = two (is_numbered b c)
    one false = refl

pub err_with : {T E : Type 0} (r : Result T E) (P : Type 0) → P → OnErr r P
err_with (Ok x) P h = tt
err_with (Err x) P h = h

module _ {A : Type 0} (p : Plan) (calls : Vec (OpenCall A) A) (tickets : Vec Ended A) (marks : Marks A) (numbers : ℕ) (w : IsWhole p calls tickets marks numbers) where
  -- more room
  pub whole_room : (calls' : Vec (OpenCall A) A) (tickets' : Vec Ended A) → calls'.items ≡ calls.items → vec_len tickets' + vec_len calls' ≤ vec_capacity tickets' → IsWhole p calls' tickets' marks numbers
  whole_room calls' tickets' e room = record {
    rules = w.rules;
    room = room;
    held = subst (λ l. AreHeld (length p.groups) numbers (map call_seen l)) (sym e) w.held;
    hops = subst (λ l. (c : OpenCall A) → Among c l → HasRoom c) (sym e) w.hops;
    marks_all = w.marks_all;
  }

  -- one more call
  pub whole_more : (calls' : Vec (OpenCall A) A) (tickets' : Vec Ended A) (c : OpenCall A) (line : Line) (keyed : List ℕ) (event : ℕ) → calls'.items ≡ calls.items ++ c ∷ [] → call_seen c ≡ keyed_call (numbers + 1) line keyed event → vec_len tickets' + vec_len calls' ≤ vec_capacity tickets' → IsWhole p calls' tickets' marks (numbers + 1)
  whole_more calls' tickets' c line keyed event e is room = record {
    rules = w.rules;
    room = room;
    held = subst (AreHeld (length p.groups) (numbers + 1)) (ap (λ k. map call_seen calls.items ++ k ∷ []) (sym is) ∙ sym (map_push call_seen calls.items c) ∙ ap (map call_seen) (sym e)) (held_more (length p.groups) numbers (map call_seen calls.items) w.held line keyed event);
    hops = λ d m. elim (among_cases d calls.items (c ∷ []) (subst (λ l. Among d l) e m)) [
      | inl o ↦ w.hops d o
      | inr q ↦ elim q [ inl f ↦ subst HasRoom f (λ t. absurd (false≢true (sym (ap (λ (z : Call). is_calling z.phase) is) ∙ t))) | inr b ↦ absurd b ]
    ];
    marks_all = w.marks_all;
  }

-- what is given up, in the words of the machine
pub given_same : (ends : Ends) (calls : List Call) → filter (is_given ends calls) (flat_map circuits_used (filter (ends_by ends) calls)) ≡ given_up (filter (ends_by ends) calls) (filter (λ c. not (ends_by ends c)) calls)
given_same ends calls = λ i. filter (λ x. not (any_filter (λ c. not (ends_by ends c)) (λ c. seizes c x) calls i)) (flat_map circuits_used (filter (ends_by ends) calls))
