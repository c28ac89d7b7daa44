-- Events that are applied in turn, and groups that are full.
use Rattle.std.proofs.Common.{◌≡◌, ℕ, ◌+◌, ◌<◌, Bool, true, false, cond, ◌==◌, ◌&&◌, ◌||◌, List, [], ◌∷◌, ◌++◌, map, take, length, get_or, refl, sym, ap, ◌∙◌, arith, append-nil, Option, Some, None}
use Rattle.tx_fill.proofs.Common.{filter, range_with_len, option_map_or, entry_at, Event, Block, Refusal, Reply, refusal, State, Net, opening, state_after, step, accepted, counted, unless_refused, line_pairs}
use Rattle.std.proofs.lemmas.Bool.{eq-eqb}
use Rattle.std.proofs.lemmas.List.{take_more, map-append, map-id}
use Rattle.std.proofs.lemmas.List.FromFn.{filter_of_map_range_with_len_more}
use Rattle.tx_plan.specs.Plan.{Plan, Group}
use Rattle.tx_plan.specs.Circuits.{is_both, ends_of, may_seize, may_seize_row}
use Rattle.tx_fill.specs.Fills.{filled, fill_state}

state_push : (p : Plan) (s : State) (es : List Event) (e : Event)
    → state_after p s (es ++ e ∷ []) ≡ (step p (state_after p s es) e).1
state_push p s [] e = refl
state_push p s (d ∷ es) e = state_push p (step p s d).1 es e

-- one event more of a list
pub events_more : {X : Type 0} (event : X → Event) (p q : Plan) (s t u : State) (xs : List X)
    (i : ℕ) (x : X) (r : Reply) → i < length xs → x ≡ get_or xs i x → q ≡ p
    → t ≡ state_after p s (map event (take i xs)) → step q t (event x) ≡ (r, u)
    → u ≡ state_after p s (map event (take (i + 1) xs))
events_more event p q s t u xs i x r low is plan so stepped =
    let front = map event (take i xs) in
    let made : step p (state_after p s front) (event x) ≡ (r, u) =
    ap (λ k. step k (state_after p s front) (event x)) (sym plan)
    ∙ ap (λ w. step q w (event x)) (sym so) ∙ stepped in
    sym (ap (λ n. n.1) made) ∙ sym (state_push p s front (event x))
    ∙ ap (state_after p s) (ap (λ y. front ++ event y ∷ []) is
    ∙ sym (map-append event (take i xs) (get_or xs i x ∷ []))
    ∙ ap (map event) (sym (take_more xs i x low)))

-- a network whose groups were blocked
blocks_fresh : (p : Plan) (s : State) (groups : List ℕ)
    → (state_after p s (map Block groups)).tickets ≡ s.tickets
blocks_fresh p s [] = refl
blocks_fresh p s (g ∷ groups) =
    blocks_fresh p (step p s (Block g)).1 groups ∙ by (refusal p s (Block g))
  where
    by : (o : Option Refusal)
        → (unless_refused o s (counted (accepted p s (Block g)))).1.tickets ≡ s.tickets
    by None = refl
    by (Some r) = refl

module _ (p : Plan) (down : List ℕ) (x c : ℕ) (n : Net)
    (fresh : n ≡ record { plan = p; state = opening 0 0 }) (b : State)
    (blocked : b ≡ state_after n.plan n.state (map Block down)) where
  blocked_is : b ≡ state_after p (opening 0 0) (map Block down)
  blocked_is = blocked ∙ ap (λ (m : Net). state_after m.plan m.state (map Block down)) fresh

  pub no_tickets : b.tickets ≡ []
  no_tickets = ap (λ (s : State). s.tickets) blocked_is ∙ blocks_fresh p (opening 0 0) down

  pub filled_is : filled p (line_pairs p x c) b ≡ fill_state p down x c
  filled_is = ap (filled p (line_pairs p x c)) blocked_is

-- the first end of a group may seize it
pub first_end : (p : Plan) (g : ℕ) → g < length p.groups → may_seize p g (ends_of p g).0 ≡ true
first_end p g low =
    let r = entry_at p.groups g low in
    let same = eq-eqb r.0.a r.0.a refl in
    ap (λ (o : Option Group). option_map_or (λ k. may_seize_row k
    (option_map_or {U = ℕ × ℕ} (λ (k : Group). (k.a, k.b)) o (0, 0)).0) o false) r.1
    ∙ ap (λ b. b || (is_both r.0.direction && (r.0.b == r.0.a))) same

-- the groups before an index that pass a test, and one more
module _ (t : ℕ → Bool) (i : ℕ) (old new : List ℕ)
    (so_far : old ≡ filter t (range_with_len 0 i)) where
  one_more : filter t (range_with_len 0 (i + 1))
      ≡ filter t (range_with_len 0 i) ++ cond (t i) (i ∷ []) []
  one_more =
      let same : (n : ℕ) → filter t (range_with_len 0 n) ≡ filter t (map (λ x. x) (range_with_len 0 n)) =
      λ n. ap (filter t) (sym (map-id (range_with_len 0 n))) in
      same (i + 1) ∙ filter_of_map_range_with_len_more t (λ x. x) 0 i i (omega arith)
      ∙ ap (λ l. l ++ cond (t i) (i ∷ []) []) (sym (same i))

  pub group_put : t i ≡ true → new ≡ old ++ i ∷ [] → new ≡ filter t (range_with_len 0 (i + 1))
  group_put passes put =
      put ∙ ap (λ l. l ++ i ∷ []) so_far
      ∙ ap (λ b. filter t (range_with_len 0 i) ++ cond b (i ∷ []) []) (sym passes) ∙ sym one_more

  pub group_passed : t i ≡ false → new ≡ old → new ≡ filter t (range_with_len 0 (i + 1))
  group_passed fails same =
      same ∙ so_far ∙ sym (append-nil (filter t (range_with_len 0 i)))
      ∙ ap (λ b. filter t (range_with_len 0 i) ++ cond b (i ∷ []) []) (sym fails) ∙ sym one_more
