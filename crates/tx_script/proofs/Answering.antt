-- The answer to one event.
use Rattle.tx_script.proofs.Common.{◌≡◌, ℕ, ◌+◌, ◌≤◌, Bool, List, [], ◌++◌, length, drop, Option, inl, inr, sym, ap, ◌∙◌, subst, arith, flat_map, append_known, StopsIn, Plan, Event, Reply, Ended, State, step, moment, reply_text, ticket_text, is_refused, Answered, drained, count_of, StopsAtTicket, IsUntold, tickets_made, moment_text}
use Rattle.tx_script.proofs.Balance.{parties, step_within}

-- what an event does to a network whose tickets were taken
pub record IsAnswer (p : Plan) (s : State) (e : Event) (reply : Reply) (t : State) : Type 0 where
  pub replied : (moment p s e).reply ≡ reply
  pub after : (moment p s e).after ≡ t
  pub made : tickets_made (moment p s e) ≡ t.tickets
  pub text : moment_text p (moment p s e) ≡ reply_text p reply ++ flat_map (ticket_text p) t.tickets
  pub few : length t.tickets ≤ length s.calls + 1

pub is_answer : (p q : Plan) (s : State) (e : Event) (reply : Reply) (t : State) → q ≡ p → s.tickets ≡ [] → step q s e ≡ (reply, t) → IsAnswer p s e reply t
is_answer p q s e reply t same none h =
    let i : step p s e ≡ (reply, t) = ap (λ k. step k s e) (sym same) ∙ h in
    let r : (step p s e).0 ≡ reply = ap (λ n. n.0) i in
    let a : (step p s e).1 ≡ t = ap (λ n. n.1) i in
    let m : tickets_made (moment p s e) ≡ t.tickets = ap (λ (l : List Ended). drop (length l) (step p s e).1.tickets) none ∙ ap (λ (u : State). u.tickets) a in
    let w = step_within p s e in
    let c = ap parties a in
    let l = ap length none in
    record {
      replied = r;
      after = a;
      made = m;
      text = ap (λ r. reply_text p r ++ flat_map (ticket_text p) (tickets_made (moment p s e))) r ∙ ap (λ l. reply_text p reply ++ flat_map (ticket_text p) l) m;
      few = omega arith;
    }

module _ (p : Plan) (s : State) (e : Event) (reply : Reply) (t : State) (a b : Option (List ℕ)) where
  -- the write of the reply failed
  pub untold_reply : IsAnswer p s e reply t → StopsIn a b (reply_text p reply) → IsUntold p (moment p s e) t a b
  untold_reply i stop = inl (record {
    front = subst (λ r. StopsIn a b (reply_text p r)) (sym i.replied) stop;
    network = sym (ap (λ (l : List Ended). drained (moment p s e).after l) i.made ∙ ap (λ (u : State). drained u t.tickets) i.after);
  })

  -- the write of a ticket failed
  pub untold_tickets : (u : State) (c : Option (List ℕ)) → IsAnswer p s e reply t → b ≡ append_known a (reply_text p reply) → StopsAtTicket p t.tickets t u b c → IsUntold p (moment p s e) u a c
  untold_tickets u c i wrote stop = inr (record {
    written = stop.written;
    hand = stop.hand;
    left = stop.left;
    whole = i.made ∙ stop.whole;
    front = subst (λ z. StopsIn (append_known z (flat_map (ticket_text p) stop.written)) c (ticket_text p stop.hand)) (wrote ∙ ap (λ r. append_known a (reply_text p r)) (sym i.replied)) stop.front;
    network = stop.network ∙ ap (λ (v : State). drained v stop.left) (sym i.after);
  })

-- what is counted of it
pub counted_as : (p : Plan) (s : State) (e : Event) (reply : Reply) (t : State) → IsAnswer p s e reply t → (refused : Bool) (tickets : ℕ) → refused ≡ is_refused reply → tickets ≡ length t.tickets
    → ◌≡◌ {A = Answered} (record { refused = refused; tickets = tickets }) (count_of (moment p s e))
counted_as p s e reply t i refused tickets r n =
    let a : refused ≡ is_refused (moment p s e).reply = r ∙ ap is_refused (sym i.replied) in
    let b : tickets ≡ length (tickets_made (moment p s e)) = n ∙ ap length (sym i.made) in
    ap (λ (k : Bool). record { refused = k; tickets = tickets }) a ∙ ap (λ (k : ℕ). record { refused = is_refused (moment p s e).reply; tickets = k }) b
