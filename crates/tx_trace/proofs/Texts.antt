-- The lines of a trace, one after another.
use Rattle.std.proofs.Common.{◌≡◌, ◌≢◌, ℕ, ◌+◌, ◌<◌, true, false, eqb, List, [], ◌∷◌, ◌++◌, length, get_or, cond, inl, inr, Option, Some, None, refl, sym, ap, ◌∙◌, arith, append_assoc, append-nil, codes}
use Rattle.std.specs.Prelude.{decimal}
use Rattle.tx_trace.proofs.Common.{flat_map, enumerate_from, option_map_or, other_end, route_list, Among, among_at, all_met}
use Rattle.std.proofs.lemmas.Bool.{eqb-true, eqb-false}
use Rattle.std.proofs.lemmas.List.FromFn.{get_or-enumerate_from}
use Rattle.tx_plan.specs.Plan.{Plan, home_of, exchange_name, group_name}
use Rattle.tx_plan.proofs.Among.{indexes_among}
use Rattle.tx_trace.specs.declared.tracing.Trace.{Trace}
use Rattle.tx_trace.specs.Heights.{rank_from}
use Rattle.tx_trace.specs.TraceText.{down_line, rank_text, home_line, place_text, place_line, list_lines, met_lines}
use Rattle.tx_trace.specs.Traces.{rank_told, IsTraceOf}
use Rattle.tx_trace.proofs.Ends.{among_ends}

-- a blank and the name of a group
abbrev pub name_after : Plan → ℕ → List ℕ
name_after p g = codes " " ++ group_name p g

-- the line of groups that are down
pub down_none : (p : Plan) (down : List ℕ) → eqb (length down) 0 ≡ true → down_line p down ≡ []
down_none p [] none = refl
down_none p (g ∷ gs) none = let long = eqb-true (length (g ∷ gs)) 0 none in absurd (omega arith)

pub down_some : (p : Plan) (down : List ℕ) → eqb (length down) 0 ≡ false
    → down_line p down ≡ codes "DOWN" ++ (flat_map (name_after p) down ++ codes "\n")
down_some p [] some = let bad : ⊥ = cc in absurd bad
down_some p (g ∷ gs) some = refl

-- the line of a group, as far as the rank
abbrev pub place_front : Plan → (y place g z : ℕ) → List ℕ
place_front p y place g z = codes "LIST " ++ (exchange_name p y ++ (codes " " ++ (decimal place ++ (codes " " ++ (group_name p g ++ (codes " " ++ (exchange_name p z ++ [])))))))

place_cut : (a b c d e f g h rest : List ℕ) → a ++ (b ++ (c ++ (d ++ (e ++ (f ++ (g ++ (h ++ rest))))))) ≡ (a ++ (b ++ (c ++ (d ++ (e ++ (f ++ (g ++ (h ++ [])))))))) ++ rest
place_cut a b c d e f g h rest = simp (append_assoc, append-nil)

pub place_is : (p : Plan) (ranks : ℕ → Option ℕ) (y place g z : ℕ) → Some z ≡ other_end p g y → place_line p ranks y place g ≡ place_front p y place g z ++ (rank_text (ranks z) ++ codes "\n")
place_is p ranks y place g z e =
    ap (λ (o : Option ℕ). option_map_or (place_text p ranks y place g) o []) (sym e)
    ∙ place_cut (codes "LIST ") (exchange_name p y) (codes " ") (decimal place) (codes " ") (group_name p g) (codes " ") (exchange_name p z) (rank_text (ranks z) ++ codes "\n")

-- the group at a place, with its number
pub numbered : (xs : List ℕ) (i x : ℕ) → i < length xs → x ≡ get_or xs i x → (i + 1, x) ≡ get_or (enumerate_from 1 xs) i (i + 1, x)
numbered xs i x low is =
    let e = get_or-enumerate_from 1 xs i (i + 1, x) low in
    let z : i + 1 ≡ 1 + i = omega arith in
    (λ k. (z k, is k)) ∙ sym e

flat_map-same : {A : Type 0} (f g : A → List ℕ) (xs : List A) → ((x : A) → Among x xs → f x ≡ g x) → flat_map f xs ≡ flat_map g xs
flat_map-same f g [] h = refl
flat_map-same f g (x ∷ xs) h = let a = h x (inl refl) in let b = flat_map-same f g xs (λ y m. h y (inr m)) in λ i. a i ++ b i

module _ (p : Plan) (c : ℕ) (told ranks : ℕ → Option ℕ) where
  -- lines that tell the same ranks
  place_same : (y place g : ℕ) → ((z : ℕ) → other_end p g y ≡ Some z → told z ≡ ranks z) → place_line p told y place g ≡ place_line p ranks y place g
  place_same y place g same =
      elim (other_end p g y) as (λ o. other_end p g y ≡ o → option_map_or (place_text p told y place g) o [] ≡ option_map_or (place_text p ranks y place g) o []) [
        | None ↦ λ e. refl
        | Some z ↦ λ e. told_same z y place g (same z e)
      ] refl
    where
      told_same : (z y place g : ℕ) → told z ≡ ranks z → place_text p told y place g z ≡ place_text p ranks y place g z
      told_same z y place g r = ap (λ (o : Option ℕ). place_text p (λ w. o) y place g z) r

  pub lines_same : (y : ℕ) → (y ≢ home_of p c → (g z : ℕ) → Among g (route_list p y c) → other_end p g y ≡ Some z → told z ≡ ranks z) → met_lines p c told y ≡ met_lines p c ranks y
  lines_same y same =
      elim (eqb y (home_of p c)) as (λ b. eqb y (home_of p c) ≡ b → cond b (home_line p y) (list_lines p c told y) ≡ cond b (home_line p y) (list_lines p c ranks y)) [
        | true ↦ λ e. refl
        | false ↦ λ e.
            flat_map-same (λ (k : ℕ × ℕ). place_line p told y k.0 k.1) (λ (k : ℕ × ℕ). place_line p ranks y k.0 k.1) (enumerate_from 1 (route_list p y c))
            (λ k m. let at = indexes_among 1 k (route_list p y c) m in place_same y k.0 k.1 (λ z leads. same (eqb-false y (home_of p c) e) k.1 z (among_at (route_list p y c) at.0 k.1 at.1) leads))
      ] refl

-- the lines that a trace tells
pub trace_lines : {A : Type 0} (p : Plan) (t : Trace A) → IsTraceOf p t → flat_map (met_lines p t.code (rank_from p t.code t.exchange)) (all_met p t.code t.exchange) ≡ flat_map (met_lines p t.code (rank_told t.ranks t.code)) t.met.items
trace_lines p t is =
    sym (flat_map-same (met_lines p t.code (rank_told t.ranks t.code)) (met_lines p t.code (rank_from p t.code t.exchange)) t.met.items
    (λ y m. lines_same p t.code (rank_told t.ranks t.code) (rank_from p t.code t.exchange) y (λ away g z listed leads. is.ranks y z m (among_ends p t.code y z (record { away = away; group = g; listed = listed; leads = leads })))
    ) ∙ ap (flat_map (met_lines p t.code (rank_from p t.code t.exchange))) is.met)
