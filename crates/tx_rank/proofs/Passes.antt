-- What the loops of a ranking pass keep.
use Rattle.std.proofs.Common.{◌≡◌, ℕ, zero, suc, ◌+◌, ◌*◌, ◌<◌, ◌≤◌, true, false, List, length, ◌⊎◌, inl, inr, Option, Some, None, refl, sym, ap, subst, ◌∙◌, arith, Bool, eqb, eqb-true, ltb, get_or, Result, Ok, Err, replicate}
use Rattle.std.specs.Prelude.{slice_get, IfOk}
use Rattle.tx_rank.proofs.Common.{option_and_then, slice_get-get_or, slice_get_past, eqb-false, length-replicate, set, length-set, Net, IsNet, rank_of, rank_in, cost, IsMarked, IsInHand, Grew, NoneOpen, IsStep, IsEnd, IsPassing, IsPassed, Mark, Unseen, Open, Ranked}
use borrow.Author.Tests.{ltb-true, ltb-false}
use Rattle.tx_rank.proofs.Turns.{set_same, set_other, cost_set}

-- of the loop over the walks from one origin
pub record IsExploring (n : Net) (origin : ℕ) (old : List Mark) (start : ℕ) (steps : List (ℕ × ℕ)) (marks : List Mark) : Type 0 where
  pub same : start ≡ origin
  pub marked : IsMarked n marks
  pub hand : IsInHand n marks start steps
  pub grew : Grew old marks

pub goes_on : (n : Net) (origin : ℕ) (old : List Mark) (start start' : ℕ) (steps steps' : List (ℕ × ℕ)) (marks marks' : List Mark) → IsExploring n origin old start steps marks → start' ≡ start → IsStep n start marks marks' steps' → IsExploring n origin old start' steps' marks'
goes_on n origin old start start' steps steps' marks marks' i e s =
    record {
      same = e ∙ i.same;
      marked = s.marked;
      hand = subst (λ (k : ℕ). IsInHand n marks' k steps') (sym e) s.hand;
      grew = λ x r ranked. s.grew x r (i.grew x r ranked);
    }

pub ends : (n : Net) (origin : ℕ) (old : List Mark) (start start' : ℕ) (steps : List (ℕ × ℕ)) (marks marks' : List Mark) → IsExploring n origin old start steps marks → start' ≡ start → IsEnd n start marks marks' → IsEnd n start' old marks'
ends n origin old start start' steps marks marks' i e s =
    record { marked = s.marked; none = s.none; rank = s.rank; ranked = ap (rank_in marks') e ∙ s.ranked; grew = λ x r ranked. s.grew x r (i.grew x r ranked) }

pub rank_within : (marks : List Mark) (x r : ℕ) → rank_in marks x ≡ Some r → x < length marks
rank_within marks x r h =
    elim (ltb x (length marks)) as (λ b. ltb x (length marks) ≡ b → x < length marks) [
      | true ↦ λ e. omega (arith, ltb-true)
      | false ↦ λ e. let over : length marks ≤ x = omega (arith, ltb-false) in let z = ap (option_and_then rank_of) (slice_get_past marks x over) in let bad : ⊥ = cc in absurd bad
    ] refl

pub passing_skip : (n : Net) (marks : List Mark) (i : ℕ) → IsPassing n marks i → (n.is_origin i ≡ true → (r : ℕ) × (rank_in marks i ≡ Some r)) → IsPassing n marks (i + 1)
passing_skip n marks i p here =
    record {
      marked = p.marked;
      none = p.none;
      origins = λ x h origin. elim (eqb x i) as (λ b. eqb x i ≡ b → (r : ℕ) × (rank_in marks x ≡ Some r)) [
        | true ↦ λ e. let same = eqb-true x i e in let q = here (ap n.is_origin (sym same) ∙ origin) in (q.0, ap (rank_in marks) same ∙ q.1)
        | false ↦ λ e. let d = eqb-false x i e in p.origins x (omega arith) origin
      ] refl;
    }

pub passing_end : (n : Net) (marks marks' : List Mark) (i : ℕ) → IsPassing n marks i → IsEnd n i marks marks' → IsPassing n marks' (i + 1)
passing_end n marks marks' i p e =
    passing_skip n marks' i (record { marked = e.marked; none = e.none; origins = λ x h origin. let o = p.origins x h origin in (o.0, e.grew x o.0 o.1) }) (λ _. (e.rank, e.ranked))

pub passed_all : (n : Net) (marks : List Mark) (i : ℕ) → IsNet n → i ≡ n.exchanges → IsPassing n marks i → IsPassed n marks
passed_all n marks i net e p =
    record {
      long = p.marked.long;
      ranks = record {
        home = p.marked.home;
        origins = λ x o. p.origins x (let w = net.origins x o in omega arith) o;
        settled = p.marked.settled;
        ranked = p.marked.ranked;
        low = λ x r h. let s = p.marked.small x r h in omega arith;
        within = λ x r h. let w = rank_within marks x r h in let l = p.marked.long in omega arith;
      };
    }

pub unseen_at : (marks : List Mark) (x : ℕ) → x < length marks → NoneOpen marks → rank_in marks x ≡ None → slice_get marks x ≡ Some Unseen
unseen_at marks x h none free =
    let g = slice_get-get_or marks x Unseen h in by_mark (get_or marks x Unseen) g
  where
    by_mark : (m : Mark) → slice_get marks x ≡ Some m → slice_get marks x ≡ Some Unseen
    by_mark Unseen g = g
    by_mark Open g = absurd (none x g)
    by_mark (Ranked r) g = let z = ap (option_and_then rank_of) g in let bad : ⊥ = cc in absurd bad

pub done_from : {E : Type 0} (n : Net) (start origin : ℕ) (old mid new : List Mark) (r : Result Bool E) → IfOk r (λ closed. closed ≡ false → IsEnd n start mid new) → start ≡ origin → Grew old mid → IfOk r (λ closed. closed ≡ false → IsEnd n origin old new)
done_from n start origin old mid new (Err e) h same grew = h
done_from n start origin old mid new (Ok closed) h same grew =
    λ f. let e = h f in
    record { marked = e.marked; none = e.none; rank = e.rank; ranked = ap (rank_in new) (sym same) ∙ e.ranked; grew = λ x r ranked. e.grew x r (grew x r ranked) }

pub unseen_first : (n : Net) (marks : List Mark) (x : ℕ) → IsNet n → IsMarked n marks → NoneOpen marks → n.is_origin x ≡ true → rank_in marks x ≡ None → slice_get marks x ≡ Some Unseen
unseen_first n marks x ok m none origin free = let w = ok.origins x origin in let l = m.long in unseen_at marks x (omega arith) none free

pub passing_from : {E : Type 0} (n : Net) (marks new : List Mark) (i origin : ℕ) (r : Result Bool E) → IsPassing n marks i → origin ≡ i → IfOk r (λ closed. closed ≡ false → IsEnd n origin marks new) → IfOk r (λ closed. closed ≡ false → IsPassing n new (i + 1))
passing_from n marks new i origin (Err e) p same h = h
passing_from n marks new i origin (Ok closed) p same h = λ f. passing_end n marks new i p (subst (λ (k : ℕ). IsEnd n k marks new) same (h f))

-- the marks before a pass
pub fresh_only : (k x : ℕ) (m : Mark) → slice_get (replicate k Unseen) x ≡ Some m → m ≡ Unseen
fresh_only zero x m h = let bad : ⊥ = cc in absurd bad
fresh_only (suc k) zero m h = cc
fresh_only (suc k) (suc x) m h = fresh_only k x m h

pub fresh_at : (k x : ℕ) → x < k → slice_get (replicate k Unseen) x ≡ Some Unseen
fresh_at zero x h = absurd (omega arith)
fresh_at (suc k) zero h = refl
fresh_at (suc k) (suc x) h = fresh_at k x (omega arith)

pub fresh_cost : (k : ℕ) → cost (replicate k Unseen) ≡ 2 * k
fresh_cost zero = refl
fresh_cost (suc k) = let i = fresh_cost k in omega arith

module _ (n : Net) (ok : IsNet n) where
  first : List Mark
  first = set (replicate n.exchanges Unseen) n.home (Ranked 0)

  at_home : slice_get (replicate n.exchanges Unseen) n.home ≡ Some Unseen
  at_home = fresh_at n.exchanges n.home ok.home

  first_only : (x : ℕ) (m : Mark) → slice_get (set (replicate n.exchanges Unseen) n.home (Ranked 0)) x ≡ Some m → ((x ≡ n.home) × (m ≡ Ranked 0)) ⊎ (m ≡ Unseen)
  first_only x m h =
      elim (eqb n.home x) as (λ b. eqb n.home x ≡ b → ((x ≡ n.home) × (m ≡ Ranked 0)) ⊎ (m ≡ Unseen)) [
        | true ↦ λ e. let same = eqb-true n.home x e in let z = ap (slice_get (set (replicate n.exchanges Unseen) n.home (Ranked 0))) same in let w = set_same (replicate n.exchanges Unseen) n.home Unseen (Ranked 0) at_home in inl (sym same, cc)
        | false ↦ λ e. inr (fresh_only n.exchanges x m (sym (set_other (replicate n.exchanges Unseen) n.home x (Ranked 0) (eqb-false n.home x e)) ∙ h))
      ] refl

  first_ranked : (x r : ℕ) → rank_in (set (replicate n.exchanges Unseen) n.home (Ranked 0)) x ≡ Some r → (x ≡ n.home) × (r ≡ 0)
  first_ranked x r h = by_get (slice_get (set (replicate n.exchanges Unseen) n.home (Ranked 0)) x) refl h
    where
      by_mark : (m : Mark) → rank_of m ≡ Some r → ((x ≡ n.home) × (m ≡ Ranked 0)) ⊎ (m ≡ Unseen) → (x ≡ n.home) × (r ≡ 0)
      by_mark m e (inl a) = (a.0, let z = ap rank_of a.1 in cc)
      by_mark m e (inr u) = let z = ap rank_of u in let bad : ⊥ = cc in absurd bad

      by_get : (o : Option Mark) → slice_get (set (replicate n.exchanges Unseen) n.home (Ranked 0)) x ≡ o → option_and_then rank_of o ≡ Some r → (x ≡ n.home) × (r ≡ 0)
      by_get None g e = let bad : ⊥ = cc in absurd bad
      by_get (Some m) g e = by_mark m e (first_only x m g)

  pub first_marked : IsMarked n (set (replicate n.exchanges Unseen) n.home (Ranked 0))
  first_marked =
      record {
        long = length-set (replicate n.exchanges Unseen) n.home (Ranked 0) ∙ length-replicate n.exchanges Unseen;
        home = ap (option_and_then rank_of) (set_same (replicate n.exchanges Unseen) n.home Unseen (Ranked 0) at_home);
        settled = λ x r h away. absurd (away (first_ranked x r h).0);
        ranked = λ x r h away. absurd (away (first_ranked x r h).0);
        small = λ x r h. let z = (first_ranked x r h).1 in let c = cost_set (replicate n.exchanges Unseen) n.home Unseen (Ranked 0) at_home in let f = fresh_cost n.exchanges in omega arith;
      }

  pub first_none : NoneOpen (set (replicate n.exchanges Unseen) n.home (Ranked 0))
  first_none x h = elim (first_only x Open h) [ inl a ↦ let e = a.1 in let bad : ⊥ = cc in bad | inr u ↦ let bad : ⊥ = cc in bad ]

pub first_marks : (n : Net) (marks : List Mark) (size home : ℕ) → IsNet n → marks ≡ replicate size Unseen → size ≡ n.exchanges → home ≡ n.home → IsMarked n (set marks home (Ranked 0)) × NoneOpen (set marks home (Ranked 0))
first_marks n marks size home ok e s h =
    let same : set (replicate n.exchanges Unseen) n.home (Ranked 0) ≡ set marks home (Ranked 0) = λ i. set (sym (e ∙ ap (λ k. replicate k Unseen) s) i) (sym h i) (Ranked 0) in
    (subst (IsMarked n) same (first_marked n ok), subst NoneOpen same (first_none n ok))
