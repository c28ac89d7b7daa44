-- The short walks of one code, as they are added to the findings.
use Rattle.tx_rank.proofs.Common.{◌≡◌, ℕ, ◌+◌, ◌<◌, true, false, eqb, eqb-true, List, [], ◌∷◌, ◌++◌, map, inl, inr, Option, refl, sym, ap, subst, ◌∙◌, arith, append_assoc, append-nil, eqb-false, Among, among_left, among_right, among_cases, among_all, Finding, Short, Net, Walk, end_of, IsWalk, IsShort, end_at, AreSettled, IsShortAt, AddsShorts, AddsBelow}
use Rattle.std.proofs.lemmas.List.{map-append}
use Rattle.tx_plan.specs.Rules.{EachPair}
use Rattle.tx_plan.proofs.ByIndex.{pairs_put}
use Rattle.tx_rank.proofs.Walked.{short_true, short_at}

module _ {A : Type 0} (n : Net) (code spare : ℕ) where
  module _ (ranks : ℕ → Option ℕ) (done : AreSettled n ranks) where
    -- no walk to the exchange at index i is short
    pub below_skip : (old new : List (Finding A)) (i : ℕ) → AddsBelow n code spare i old new → (IsShortAt n ranks spare i → ⊥) → AddsBelow n code spare (i + 1) old new
    below_skip old new i b none =
        record {
          walks = b.walks;
          added = b.added;
          each = b.each;
          order = b.order;
          below = λ y m. let k = b.below y m in omega arith;
          all = λ x steps s h. elim (eqb (end_of x steps) i) as (λ t. eqb (end_of x steps) i ≡ t → Among (end_of x steps) (map end_at b.walks)) [
            | true ↦ λ q. absurd (none (subst (IsShortAt n ranks spare) (eqb-true (end_of x steps) i q) (short_at n ranks done spare x steps s)))
            | false ↦ λ q. let d = eqb-false (end_of x steps) i q in b.all x steps s (omega arith)
          ] refl;
        }

    -- one was added
    pub below_more : (old new : List (Finding A)) (i : ℕ) (w : Walk) → AddsBelow n code spare i old new → IsShortAt n ranks spare i → IsWalk n w.start w.steps → end_of w.start w.steps ≡ i → AddsBelow n code spare (i + 1) old (new ++ Short code w ∷ [])
    below_more old new i w b short walk at =
        let f : map end_at (b.walks ++ w ∷ []) ≡ map end_at b.walks ++ end_at w ∷ [] = map-append end_at b.walks (w ∷ []) in
        let is : IsShort n spare w.start w.steps = short_true n ranks done spare i w.start w.steps walk at short.away short.few in
        record {
          walks = b.walks ++ w ∷ [];
          added = ap (λ l. l ++ Short code w ∷ []) b.added ∙ append_assoc old (map (Short code) b.walks) (Short code w ∷ []) ∙ ap (λ l. old ++ l) (sym (map-append (Short code) b.walks (w ∷ [])));
          each = λ v m. elim (among_cases v b.walks (w ∷ []) m) [ inl a ↦ b.each v a | inr c ↦ elim c [ inl q ↦ subst (λ (k : Walk). IsShort n spare k.start k.steps) q is | inr z ↦ absurd z ] ];
          order = subst (EachPair (λ x y. x < y)) (sym f) (pairs_put (λ x y. x < y) (map end_at b.walks) (end_at w) b.order (among_all (λ x. x < end_at w) (map end_at b.walks) (λ y m. let k = b.below y m in omega arith)));
          below = λ y m. elim (among_cases y (map end_at b.walks) (end_at w ∷ []) (subst (Among y) f m)) [ inl a ↦ let k = b.below y a in omega arith | inr c ↦ elim c [ inl q ↦ omega arith | inr z ↦ absurd z ] ];
          all = λ x steps s h. subst (Among (end_of x steps)) (sym f) (
              elim (eqb (end_of x steps) i) as (λ t. eqb (end_of x steps) i ≡ t → Among (end_of x steps) (map end_at b.walks ++ end_at w ∷ [])) [
                | true ↦ λ q. among_right (end_of x steps) (map end_at b.walks) (end_at w ∷ []) (inl (at ∙ sym (eqb-true (end_of x steps) i q)))
                | false ↦ λ q. let d = eqb-false (end_of x steps) i q in among_left (end_of x steps) (map end_at b.walks) (end_at w ∷ []) (b.all x steps s (omega arith))
              ] refl
              );
        }

    -- before the first exchange
    pub below_none : (old : List (Finding A)) → AddsBelow n code spare 0 old old
    below_none old = record { walks = []; added = sym (append-nil old); each = λ w m. absurd m; order = tt; below = λ y m. absurd m; all = λ x steps s h. absurd (omega arith) }

    pub below_all : (old new : List (Finding A)) (i : ℕ) → i ≡ n.exchanges → AddsBelow n code spare i old new → AddsShorts n code spare old new
    below_all old new i e b =
        record {
          walks = b.walks;
          added = b.added;
          found = record { each = b.each; order = b.order; all = λ x steps s. let a = short_at n ranks done spare x steps s in let w = done.within (end_of x steps) a.rank a.ranked in b.all x steps s (omega arith) };
        }

    -- no walk is short
    pub none_short : (old : List (Finding A)) → ((x : ℕ) → IsShortAt n ranks spare x → ⊥) → AddsShorts n code spare old old
    none_short old none =
        record {
          walks = [];
          added = sym (append-nil old);
          found = record { each = λ w m. absurd m; order = tt; all = λ x steps s. absurd (none (end_of x steps) (short_at n ranks done spare x steps s)) };
        }
