-- Tickets that are taken out of a network one after another.
use Rattle.tx_audit.proofs.Common.{◌≡◌, ◌<◌, List, [], ◌∷◌, ◌++◌, length, drop, Some, None, refl, sym, ap, ◌∙◌, append_assoc, append-nil, arith, slice_get, Plan}
use Rattle.tx_machine.specs.Ended.{Ended}
use Rattle.tx_machine.specs.State.{Net, State, ticket_taken}
use Rattle.tx_machine.specs.Drained.{drained}
use Rattle.tx_machine.proofs.Lists.{first_of, none_in}

-- these tickets were taken out of the first network, and the second is left
pub record IsTaken (n m : Net) (taken : List Ended) : Type 0 where
  pub whole : n.state.tickets ≡ taken ++ m.state.tickets
  pub same : m ≡ record n { state = drained n.state m.state.tickets }

pub taken_none : (n : Net) → IsTaken n n []
taken_none n = record { whole = refl; same = refl }

module _ (n m : Net) (taken : List Ended) (t : IsTaken n m taken) (k : Net) (plan : k.plan ≡ m.plan) (state : k.state ≡ ticket_taken m.state) where
  left : k.state.tickets ≡ drop 1 m.state.tickets
  left = ap (λ (s : State). s.tickets) state

  kept : k ≡ record n { state = drained n.state k.state.tickets }
  kept =
      ap (λ (p : Plan). record { plan = p; state = k.state }) (plan ∙ ap (λ (z : Net). z.plan) t.same)
      ∙ ap (λ (s : State). record n { state = s }) (state ∙ ap (λ (z : Net). ticket_taken z.state) t.same ∙ ap (drained n.state) (sym left))

  pub taken_more : (x : Ended) → slice_get m.state.tickets 0 ≡ Some x → IsTaken n k (taken ++ x ∷ [])
  taken_more x h = record {
    whole = t.whole ∙ ap (λ l. taken ++ l) (first_of m.state.tickets x h) ∙ ap (λ l. taken ++ x ∷ l) (sym left) ∙ sym (append_assoc taken (x ∷ []) k.state.tickets);
    same = kept;
  }

  pub taken_fewer : (x : Ended) → slice_get m.state.tickets 0 ≡ Some x → length k.state.tickets < length m.state.tickets
  taken_fewer x h = let a = ap length left in let b = ap length (first_of m.state.tickets x h) in omega arith

  pub taken_all : slice_get m.state.tickets 0 ≡ None → (taken ≡ n.state.tickets) × (k ≡ record n { state = drained n.state [] })
  taken_all h =
      let none = none_in m.state.tickets h in (
        sym (t.whole ∙ ap (λ l. taken ++ l) none ∙ append-nil taken),
        kept ∙ ap (λ (l : List Ended). record n { state = drained n.state l }) (left ∙ ap (drop 1) none),
      )
