-- A run of one event more.
use Rattle.std.proofs.Common.{◌≡◌, ℕ, zero, suc, ◌+◌, ◌<◌, true, List, [], ◌∷◌, ◌++◌, take, drop, length, get_or, append_assoc, take-append-drop, None, sym, ap, ◌∙◌, arith}
use Rattle.std.proofs.lemmas.List.{drop_more}
use Rattle.tx_machine.proofs.Common.{Plan, Event, Reply, State, refusal, replies, state_after}
use Rattle.tx_machine.specs.Step.{step, takes_memory}
use Rattle.tx_machine.specs.Driven.{StopsAt}

-- after the first events and the one at that index
pub record IsOneMore (p : Plan) (s : State) (events : List Event) (at : ℕ) (e : Event) : Type 0 where
  pub replies : replies p s (take (suc at) events) ≡ replies p s (take at events) ++ (step p (state_after p s (take at events)) e).0 ∷ []
  pub state : state_after p s (take (suc at) events) ≡ (step p (state_after p s (take at events)) e).1

pub one_more : (p : Plan) (s : State) (events : List Event) (at : ℕ) (e : Event) → at < length events → e ≡ get_or events at e → IsOneMore p s events at e
one_more p s [] at e l h = absurd (omega arith)
one_more p s (f ∷ events) zero e l h = record { replies = ap (λ f. (step p s f).0 ∷ []) (sym h); state = ap (λ f. (step p s f).1) (sym h) }
one_more p s (f ∷ events) (suc at) e l h =
    let i = one_more p (step p s f).1 events at e (omega arith) h in
    record { replies = ap (λ rs. (step p s f).0 ∷ rs) i.replies; state = i.state }

-- one more event is applied, and its reply pushed
pub driven_more : (p q : Plan) (s u t : State) (events : List Event) (at : ℕ) (e : Event) (reply : Reply) (old items new : List Reply) → at < length events → e ≡ get_or events at e → q ≡ p
    → items ≡ old ++ replies p s (take at events) → u ≡ state_after p s (take at events) → step q u e ≡ (reply, t) → new ≡ items ++ reply ∷ []
    → (new ≡ old ++ replies p s (take (at + 1) events)) × (t ≡ state_after p s (take (at + 1) events))
driven_more p q s u t events at e reply old items new l h plan was here stepped pushed =
    let i = one_more p s events at e l h in
    let more : suc at ≡ at + 1 = omega arith in
    let made : step p (state_after p s (take at events)) e ≡ (reply, t) = ap (λ k. step k (state_after p s (take at events)) e) (sym plan) ∙ ap (λ u. step q u e) (sym here) ∙ stepped in (
      pushed ∙ ap (λ rs. rs ++ reply ∷ []) was ∙ append_assoc old (replies p s (take at events)) (reply ∷ []) ∙ ap (λ r. old ++ (replies p s (take at events) ++ r ∷ [])) (sym (ap (λ n. n.0) made))
          ∙ ap (λ rs. old ++ rs) (sym i.replies) ∙ ap (λ n. old ++ replies p s (take n events)) more,
      sym (ap (λ n. n.1) made) ∙ sym i.state ∙ ap (λ n. state_after p s (take n events)) more,
    )

-- memory ran out at the next event
pub driven_stop : (p q : Plan) (s u t : State) (events : List Event) (at : ℕ) (e : Event) (old items : List Reply) → at < length events → e ≡ get_or events at e → q ≡ p
    → items ≡ old ++ replies p s (take at events) → u ≡ state_after p s (take at events) → t ≡ u → (takes_memory e ≡ true) × (refusal q u e ≡ None) → StopsAt p s events old t items
driven_stop p q s u t events at e old items l h plan was here same memory = record {
  done = take at events;
  hand = e;
  left = drop (at + 1) events;
  whole = sym (take-append-drop at events) ∙ ap (λ es. take at events ++ es) (drop_more events at e l ∙ ap (λ f. f ∷ drop (at + 1) events) (sym h));
  replies = was;
  state = same ∙ here;
  asks = memory.0;
  unrefused = ap (λ v. refusal p v e) same ∙ ap (λ k. refusal k u e) (sym plan) ∙ memory.1;
}
