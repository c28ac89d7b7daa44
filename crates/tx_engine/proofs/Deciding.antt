-- What the states of lines and circuits tell of the machine's.
use Rattle.tx_engine.proofs.Common.{◌≡◌, ℕ, not, ◌&&◌, List, Some, None, sym, ap, subst, ◌∙◌, if◌then◌else◌, find, Plan, Circuit, Decision, Route, Call, State, Net, refusal, with_call, accepted, carried_out, Ended, Book, Kept, kept_at, EngineState, IsDecided, state_seen, AreTogether, IsUnder, state_of}
use Rattle.std.specs.FinSet as set
use Rattle.tx_machine.specs.Routing.{routed}
use Rattle.tx_machine.proofs.Unrefused.{route_stands}
use Rattle.tx_machine.specs.InUse.{first_free, is_free_at, is_down}
use Rattle.tx_circuits.specs.Table.{Table, is_free_at as table_frees, first_free as table_first}
use Rattle.tx_circuits.proofs.Unnamed.{circuits_at-same}

module _ (p : Plan) (cs : List Call) (b : Book) (t : Table) (numbers events : ℕ) (tickets : List Ended) (together : AreTogether p cs t b numbers) where
  abbrev here : State
  here = state_seen cs t b numbers events tickets

  free_is : (exchange : ℕ) (x : Circuit) → table_frees t exchange x ≡ is_free_at p here exchange x
  free_is exchange x = λ i. not (together.used.carried x i) && (not (set.contains t.releasing x) && (not (set.contains t.out x) && not (together.used.seized x exchange i)))

  pub first_is : (exchange g : ℕ) → table_first t exchange g ≡ first_free p here exchange g
  first_is exchange g = λ i. if is_down here g then None else find (λ x. free_is exchange x i) (circuits_at-same p t together.used.groups g exchange i)

-- a network decides for the call that it keeps under a key
module _ {A : Type 0} (n : EngineState A) (v : Net) (view : record { plan = n.plan.now; state = state_of n } ≡ v) (number key : ℕ) (none : refusal v.plan v.state (Route number) ≡ None)
    (k e : Kept) (under : IsUnder n.calls number key k) (at : kept_at n.calls key ≡ Some e) (d : Decision) (decides : routed v.plan v.state e.call ≡ carried_out v.plan v.state e.call.number d) where
  one : e ≡ k
  one = let both : Some e ≡ Some k = sym at ∙ under.kept in cc

  pub is_decided : IsDecided n key k d
  is_decided = record {
    kept = under.kept;
    stands = route_stands n.plan.now (state_of n) number (subst (λ (v : Net). refusal v.plan v.state (Route number) ≡ None) (sym view) none) k.call under.open';
    decides = subst (λ (v : Net). routed v.plan v.state k.call ≡ carried_out v.plan v.state k.call.number d) (sym view)
        (subst (λ (k : Kept). routed v.plan v.state k.call ≡ carried_out v.plan v.state k.call.number d) one decides);
  }

  -- and the step does what was decided
  pub is_routed : accepted v.plan v.state (Route number) ≡ carried_out n.plan.now (state_of n) k.call.number d
  is_routed = ap (λ (v : Net). accepted v.plan v.state (Route number)) (sym view) ∙ ap (λ o. with_call o (state_of n) (λ c. routed n.plan.now (state_of n) c)) under.open' ∙ is_decided.decides
