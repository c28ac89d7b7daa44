-- A run of one event more, over a network whose tickets are taken after each.
use Rattle.tx_script.proofs.Common.{◌≡◌, ◌+◌, ◌≤◌, cond, List, [], ◌∷◌, ◌++◌, length, drop, refl, sym, ap, ◌∙◌, arith, length-append, count_by, sum_by, Plan, Event, Ended, State, step, Moment, moment, run, state_after, is_refused, tickets_made, moment_text, settled_state, next}
use Rattle.std.proofs.lemmas.List.Sums.{sum_by_push, sum_by-cons}
use Rattle.std.proofs.Math.Seq.{drop-append_seam}
use Rattle.tx_machine.specs.Drained.{drained, IsAppending}
use Rattle.tx_machine.proofs.Appending.{appends}
use Rattle.tx_script.proofs.Balance.{step_within}

pub run_push : (p : Plan) (s : State) (es : List Event) (e : Event) → run p s (es ++ e ∷ []) ≡ run p s es ++ moment p (state_after p s es) e ∷ []
run_push p s [] e = refl
run_push p s (f ∷ es) e = ap (λ ms. moment p s f ∷ ms) (run_push p (step p s f).1 es e)

state_push : (p : Plan) (s : State) (es : List Event) (e : Event) → state_after p s (es ++ e ∷ []) ≡ (step p (state_after p s es) e).1
state_push p s [] e = refl
state_push p s (f ∷ es) e = state_push p (step p s f).1 es e

pub length_run : (p : Plan) (s : State) (es : List Event) → length (run p s es) ≡ length es
length_run p s [] = refl
length_run p s (e ∷ es) = let n = length_run p (step p s e).1 es in omega arith

-- what the tickets that were taken before do to a moment: nothing but that they are gone
module _ (p : Plan) (s : State) (e : Event) where
  abbrev law : IsAppending s [] (step p s e) (step p (drained s []) e)
  law = appends p s [] e

  pub reply_same : (moment p (drained s []) e).reply ≡ (moment p s e).reply
  reply_same = law.reply

  pub made_same : tickets_made (moment p (drained s []) e) ≡ tickets_made (moment p s e)
  made_same = ap (λ (t : State). t.tickets) law.state ∙ sym (drop-append_seam s.tickets law.made) ∙ ap (drop (length s.tickets)) (sym law.tickets)

  pub after_same : (ts : List Ended) → drained (moment p (drained s []) e).after ts ≡ drained (moment p s e).after ts
  after_same ts = ap (λ (t : State). drained t ts) law.state

  pub text_same : moment_text p (moment p (drained s []) e) ≡ moment_text p (moment p s e)
  text_same = cc (reply_same, made_same)

-- one event more
pub record IsOneMore (p : Plan) (s : State) (es : List Event) (e : Event) : Type 0 where
  pub network : settled_state p s (es ++ e ∷ []) ≡ drained (next p s es e).after []
  pub refused : count_by (λ m. is_refused m.reply) (run p s (es ++ e ∷ [])) ≡ count_by (λ m. is_refused m.reply) (run p s es) + cond (is_refused (next p s es e).reply) 1 0
  pub tickets : sum_by (λ m. length (tickets_made m)) (run p s (es ++ e ∷ [])) ≡ sum_by (λ m. length (tickets_made m)) (run p s es) + length (tickets_made (next p s es e))

pub one_more : (p : Plan) (s : State) (es : List Event) (e : Event) → IsOneMore p s es e
one_more p s es e =
    let ms = run p s es in
    let pushed = run_push p s es e in
    record {
      network = ap (λ (u : State). drained u []) (state_push p s es e);
      refused = ap (count_by (λ m. is_refused m.reply)) pushed ∙ sum_by_push (λ (m : Moment). cond (is_refused m.reply) 1 0) ms (next p s es e);
      tickets = ap (sum_by (λ m. length (tickets_made m))) pushed ∙ sum_by_push (λ (m : Moment). length (tickets_made m)) ms (next p s es e);
    }

-- no more tickets than events, where there were no calls
pub few_tickets : (p : Plan) (s : State) (es : List Event) → sum_by (λ m. length (tickets_made m)) (run p s es) + length (state_after p s es).calls ≤ length s.calls + length es
few_tickets p s [] = omega arith
few_tickets p s (e ∷ es) =
    let a = appends p s [] e in
    let next = (step p s e).1 in
    let made : length (drop (length s.tickets) next.tickets) ≡ length a.made = ap (λ l. length (drop (length s.tickets) l)) a.tickets ∙ ap length (drop-append_seam s.tickets a.made) in
    let all : length next.tickets ≡ length s.tickets + length a.made = ap length a.tickets ∙ length-append s.tickets a.made in
    let sum = sum_by-cons (λ (m : Moment). length (tickets_made m)) (moment p s e) (run p next es) in
    let one = step_within p s e in
    let more = few_tickets p next es in
    omega arith
