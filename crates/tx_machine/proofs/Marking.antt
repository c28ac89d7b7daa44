-- The state after a ticket is taken, and the reply and the state after a group fails.
use Rattle.tx_machine.proofs.Common.{◌≡◌, ℕ, ap, ◌∙◌, sym, not, ◌==◌, length, drop, List, Reply, uses_group, end_calls, Ended, failed_at}
use Rattle.std.specs.List.{filter}
use Rattle.std.specs.FinSet as set
use Rattle.tx_machine.specs.declared.reply.Reply.TheVariants.{Lost as LostReply}
use Rattle.tx_machine.specs.declared.cause.Cause.TheVariants.{Lost as ByLoss}
use Rattle.tx_machine.specs.State.{State, Net, ticket_taken}

module _ (v w : Net) (e : w ≡ v) where
  pub ticket_step : (new : List Ended) → new ≡ drop 1 w.state.tickets → record w.state { tickets = new } ≡ ticket_taken v.state
  ticket_step new is = ap (λ (l : List Ended). record w.state { tickets = l }) is ∙ ap (λ (n : Net). ticket_taken n.state) e

-- a group fails: its calls end, to t, and then its marks change, to w
pub fail_step : (s t w : Net) (g k : ℕ) → k ≡ length (filter (uses_group g) s.state.calls) → t ≡ record s { state = end_calls s.plan ByLoss (uses_group g) s.state } → w ≡ record t { state = record t.state { failed = set.insert t.state.failed g; releasing = set.retain t.state.releasing (λ x. not (x.group == g)) } } → ◌≡◌ {A = Reply × State} (LostReply (length (filter (uses_group g) s.state.calls)), failed_at s.plan g s.state) (LostReply k, w.state)
fail_step s t w g k lost ended is =
    ap (λ (n : ℕ). (LostReply n, failed_at s.plan g s.state)) (sym lost)
    ∙ ap (λ (n : Net). (LostReply k, n.state)) (sym (is ∙ ap (λ (n : Net). record n { state = record n.state { failed = set.insert n.state.failed g; releasing = set.retain n.state.releasing (λ x. not (x.group == g)) } }) ended))
