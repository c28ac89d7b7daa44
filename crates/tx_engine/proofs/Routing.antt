-- A Route that connects a call, and one that seizes a circuit.
use Rattle.tx_engine.proofs.Common.{◌≡◌, ℕ, ◌<◌, Bool, true, false, List, Some, None, refl, sym, ap, subst, ◌∙◌, deque_len, deque_capacity, if◌then◌else◌, find, option_map, same_circuit, same_circuit-is, Plan, Among, Circuit, Line, Calling, Connected, Connect, Seize, Reply, Call, exchange_of, State, is_engaged, set_call, in_phase, IsKeyedLine, find_mem, Book, Kept, KeptCalls, Changes, kept_at, calls_in, HasKeys, keys_at, keys_of, pick, with_key, EndKeys, AreTogether, EngineState, IsDecided, AreSound, IsSound, is_first_end, state_of}
use Rattle.std.specs.FinSet as set
use Rattle.tx_plan.specs.Routes.{route_list}
use Rattle.tx_plan.specs.Circuits.{may_seize, other_end, circuits_at, is_circuit}
use Rattle.tx_machine.specs.InUse.{circuits_carried, first_free, choice}
use Rattle.tx_machine.proofs.Steps.{listed_leads, listed_may}
use Rattle.tx_machine.proofs.Routed.{connects, seizes}
use Rattle.tx_machine.proofs.Uses.{first_in-is, chosen, IsChosen}
use Rattle.tx_circuits.specs.Table.{Table, plan_of, is_down, is_free_at as table_frees, first_free as table_first}
use Rattle.tx_circuits.proofs.Unnamed.{is_circuit-same, may_seize-same}
use Rattle.tx_engine.proofs.Sorted.{sorted_mem}
use Rattle.tx_engine.proofs.Going.{connected_together, seized_together}
use Rattle.tx_engine.proofs.Keyed.{keys_stay, keys_here, keys_else, pick_same, pick_other, ends_same}
use Rattle.tx_engine.proofs.Deciding.{first_is}
use Rattle.tx_engine.proofs.Changing.{sound_after, together_in}

-- where the call under a key stands
pub stands_there : (p : Plan) (c : KeptCalls) (key here : ℕ) (k e : Kept) → kept_at c key ≡ Some k → kept_at c key ≡ Some e → here ≡ exchange_of p e.call → here ≡ exchange_of p k.call
stands_there p c key here k e a b h =
    let both : Some e ≡ Some k = sym b ∙ a in
    let one : e ≡ k = cc in
    h ∙ ap (λ (z : Kept). exchange_of p z.call) one

free_by_table : (t : Table) (exchange g : ℕ) (x : Circuit) → table_first t exchange g ≡ Some x → table_frees t exchange x ≡ true
free_by_table t exchange g x h = by (is_down t g) h
  where
    by : (z : Bool) → (if z then None else find (table_frees t exchange) (circuits_at (plan_of t) g exchange)) ≡ Some x → table_frees t exchange x ≡ true
    by true e = absurd (let bad : ⊥ = cc in bad)
    by false e = (find_mem (table_frees t exchange) (circuits_at (plan_of t) g exchange) x e).1

module _ {A : Type 0} (n : EngineState A) (sound : IsSound n) (key : ℕ) (k : Kept) where
  abbrev p : Plan
  p = n.plan.now

  abbrev t : Table
  t = n.circuits

  abbrev exchange : ℕ
  exchange = exchange_of p k.call

  -- CONNECTED
  module _ (l : Line) (d : IsDecided n key k (Connect l)) where
    in_connect : Among k.call (calls_in n.calls)
    in_connect = sorted_mem n.calls.slots key k d.kept

    told_line : IsKeyedLine p k.call l × (is_engaged (state_of n) l ≡ false)
    told_line = connects p (state_of n) k.call l (ap (λ (z : Reply × State). z.0) d.decides)

    pub sound_connected : (b : Book) → b.ranges ≡ n.lines.ranges → b.engaged ≡ set.insert n.lines.engaged l
        → (c : KeptCalls) → Changes n.calls c key (Some (record k { call = in_phase (Connected l) k.call })) → calls_in c ≡ set_call k.call.number (in_phase (Connected l)) (calls_in n.calls)
        → AreSound p n.codes c n.keys b t n.numbers (deque_len n.tickets) (deque_capacity n.tickets)
    sound_connected b ranges engaged c up calls =
        sound_after p n.codes n.calls n.keys n.lines t n.numbers (deque_len n.tickets) (deque_capacity n.tickets) sound key k d.kept c (record k { call = in_phase (Connected l) k.call }) (in_phase (Connected l)) b t n.keys up calls ranges
        (together_in p (set_call k.call.number (in_phase (Connected l)) (calls_in n.calls)) t (record n.lines { engaged = set.insert n.lines.engaged l; room = b.room }) b n.numbers engaged
        (connected_together p (calls_in n.calls) t n.lines n.numbers sound.together k.call in_connect l b.room d.stands told_line.0 (sound.together.engaged l ∙ told_line.1)))
        sound.keyed.all (λ x e. let bad : ⊥ = cc in absurd bad) (sound.keyed.carriers key k d.kept) (λ i d ne q x e. refl) (λ i d ne q x m y. refl) (λ x e. let bad : ⊥ = cc in absurd bad)

  -- SEIZES
  module _ (x : Circuit) (pl : ℕ) (at : pl ≡ exchange) (d : IsDecided n key k (Seize x)) where
    in_seize : Among k.call (calls_in n.calls)
    in_seize = sorted_mem n.calls.slots key k d.kept

    told : (code : ℕ) × (choice p (state_of n) exchange code ≡ Some x)
    told = seizes p (state_of n) k.call x (ap (λ (z : Reply × State). z.0) d.decides)

    listed : (g : ℕ) × Among g (route_list p exchange told.0) × (first_free p (state_of n) exchange g ≡ Some x)
    listed = first_in-is (first_free p (state_of n) exchange) (route_list p exchange told.0) x told.1

    taken : IsChosen p (state_of n) exchange listed.0 x
    taken = chosen p (state_of n) exchange listed.0 x listed.2

    pub known : is_circuit (plan_of t) x ≡ true
    known = is_circuit-same p t sound.together.used.groups x ∙ taken.planned

    pub may : may_seize (plan_of t) x.group pl ≡ true
    may = ap (may_seize (plan_of t) x.group) at ∙ may_seize-same p t sound.together.used.groups x.group exchange
        ∙ ap (λ g. may_seize p g exchange) taken.group ∙ listed_may p sound.rules exchange told.0 listed.0 listed.1

    free_here : table_frees t exchange x ≡ true
    free_here = free_by_table t exchange listed.0 x (first_is p (calls_in n.calls) n.lines t n.numbers n.events n.tickets.items sound.together exchange listed.0 ∙ listed.2)

    pub free : table_frees t pl x ≡ true
    free = ap (λ z. table_frees t z x) at ∙ free_here

    pub has_keys : HasKeys n.keys x
    has_keys = sound.keyed.all x taken.planned

    leads : (y : ℕ) × (other_end p x.group exchange ≡ Some y)
    leads = subst (λ g. (y : ℕ) × (other_end p g exchange ≡ Some y)) (sym taken.group) (listed_leads p sound.rules exchange told.0 listed.0 listed.1)

    module _ (first : Bool) (first_here : first ≡ is_first_end p x pl) (t2 : Table) (seized : t2 ≡ record t { seized = set.insert t.seized (x, pl) }) (ks2 : List (List EndKeys))
        (keys : (y : Circuit) → keys_at ks2 y ≡ (if same_circuit y x then option_map (with_key first key) (keys_at n.keys y) else keys_at n.keys y))
        (c2 : KeptCalls) (e : Kept) (call_is : e.call ≡ in_phase (Calling x) k.call) (up : Changes n.calls c2 key (Some e)) (calls : calls_in c2 ≡ set_call k.call.number (in_phase (Calling x)) (calls_in n.calls)) (hop : 0 < e.room) where
      -- the keys of an end that is not the one that was seized
      else_kept : (y : Circuit) (g : Bool) → (same_circuit y x ≡ true → g ≡ first → ⊥) → pick g (keys_of ks2 y) ≡ pick g (keys_of n.keys y)
      else_kept y g apart = by (same_circuit y x) refl
        where
          by : (z : Bool) → same_circuit y x ≡ z → pick g (keys_of ks2 y) ≡ pick g (keys_of n.keys y)
          by false q = ap (pick g) (keys_else n.keys ks2 x (with_key first key) has_keys keys y q)
          by true q =
              let same = same_circuit-is y x q in
              ap (λ z. pick g (keys_of ks2 z)) same ∙ ap (pick g) (keys_here n.keys ks2 x (with_key first key) has_keys keys) ∙ pick_other g first key (keys_of n.keys x) (apart q) ∙ ap (λ z. pick g (keys_of n.keys z)) (sym same)

      pub sound_seized : AreSound p n.codes c2 ks2 n.lines t2 n.numbers (deque_len n.tickets) (deque_capacity n.tickets)
      sound_seized = sound_after p n.codes n.calls n.keys n.lines t n.numbers (deque_len n.tickets) (deque_capacity n.tickets) sound key k d.kept c2 e (in_phase (Calling x)) n.lines t2 ks2 up calls refl
          (subst (λ z. AreTogether p (set_call k.call.number (in_phase (Calling x)) (calls_in n.calls)) z n.lines n.numbers) (sym (seized ∙ ap (λ z. record t { seized = set.insert t.seized (x, z) }) at))
          (seized_together p (calls_in n.calls) t n.lines n.numbers sound.together k.call in_seize x leads.0 d.stands taken.planned leads.1 free_here))
          (λ y q. keys_stay n.keys ks2 x (with_key first key) has_keys keys y (sound.keyed.all y q))
          (λ y g.
          let same : Calling x ≡ Calling y = ap (λ (z : Call). z.phase) (sym call_is) ∙ g in
          let one : x ≡ y = cc in
          let stays : exchange_of p e.call ≡ pl = ap (exchange_of p) call_is ∙ sym at in
          (λ i. pick (is_first_end p (sym one i) (stays i)) (keys_of ks2 (sym one i)))
          ∙ ap (λ z. pick z (keys_of ks2 x)) (sym first_here) ∙ ap (pick first) (keys_here n.keys ks2 x (with_key first key) has_keys keys) ∙ pick_same first key (keys_of n.keys x))
          (λ y m g.
          let old = subst (λ (z : Call). Among y (circuits_carried z)) call_is m in
          else_kept y g (λ q s. taken.free.carried k.call in_seize (subst (λ z. Among z (circuits_carried k.call)) (same_circuit-is y x q) old)) ∙ sound.keyed.carriers key k d.kept y old g)
          (λ i e ne q y g. else_kept y (is_first_end p y (exchange_of p e.call)) (λ tie same.
          let e_in = sorted_mem n.calls.slots i e q in
          let one = same_circuit-is y x tie in
          let e_calls = g ∙ ap Calling one in
          let e_leads = (sound.together.inv.each e.call e_in).calling x e_calls in
          let flags : is_first_end p x (exchange_of p e.call) ≡ is_first_end p x exchange = ap (λ z. is_first_end p z (exchange_of p e.call)) (sym one) ∙ same ∙ first_here ∙ ap (is_first_end p x) at in
          taken.free.seized e.call e_in e_calls (ends_same p x.group (exchange_of p e.call) exchange e_leads.0 leads.0 e_leads.1 leads.1 flags)))
          (λ i e ne q y m g. else_kept y g (λ tie s. taken.free.carried e.call (sorted_mem n.calls.slots i e q) (subst (λ z. Among z (circuits_carried e.call)) (same_circuit-is y x tie) m)))
          (λ y g. hop)
