-- Plans on the way are alike for a code if they are at each exchange.
use Rattle.tx_order.proofs.Common.{◌≡◌, ℕ, ◌<◌, ◌≤◌, ◌==◌, ◌&&◌, ◌||◌, false, List, [], ◌∷◌, length, inl, inr, refl, sym, ap, ◌∙◌, arith, Pair, Plan, IsPlan, IsBar, route_list, is_barred, SameNetwork, AreAlikeFor}
use Rattle.std.specs.List.{list_any, AllByRecursion}
use Rattle.std.proofs.lemmas.Bool.{cases_lt, and_left, ne_eqb}
use Rattle.tx_change.proofs.JoinedNets.{none_past}

-- an exchange that the plan has not is not barred
none_barred : (p : Plan) → IsPlan p → (x c : ℕ) → length p.exchanges ≤ x → is_barred p x c ≡ false
none_barred p ok x c past = each p.bars ok.bars
  where
    each : (bars : List Pair) → AllByRecursion (IsBar p) bars → list_any (λ b. (b.exchange == x) && (b.code == c)) bars ≡ false
    each [] h = refl
    each (b ∷ bars) h =
        let within = h.0.exchange in
        let here : ((b.exchange == x) && (b.code == c)) ≡ false = and_left (b.exchange == x) (b.code == c) (ne_eqb b.exchange x (λ e. absurd (omega arith))) in
        ap (λ t. t || list_any (λ b. (b.exchange == x) && (b.code == c)) bars) here ∙ each bars h.1

pub alike_all : (p q : Plan) (c : ℕ) → IsPlan p → IsPlan q → SameNetwork p q → ((x : ℕ) → x < length p.exchanges → (route_list p x c ≡ route_list q x c) × (is_barred p x c ≡ is_barred q x c)) → AreAlikeFor c p q
alike_all p q c ok okay same each =
    let long = ap length same.exchanges in
    record {
      lists = λ x. elim (cases_lt x (length p.exchanges)) [
        | inl h ↦ (each x h).0
        | inr past ↦ none_past p ok x c past ∙ sym (none_past q okay x c (omega arith))
      ];
      bars = λ x. elim (cases_lt x (length p.exchanges)) [
        | inl h ↦ (each x h).1
        | inr past ↦ none_barred p ok x c past ∙ sym (none_barred q okay x c (omega arith))
      ];
    }
