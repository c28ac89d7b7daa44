-- What was tried of the lists of a walk in hand, as the walk grows and shrinks at its end.
use Rattle.tx_rank.proofs.Common.{◌≡◌, ℕ, List, [], ◌∷◌, ◌++◌, take, inl, inr, refl, sym, ap, subst, ◌∙◌, Net, end_of, before_end, passed, Tried, Mark}
use Rattle.tx_rank.specs.inner.Marks.{Grew, IsTop, IsTried, AreTried, IsTrail}
use Rattle.tx_rank.proofs.Ways.{end_push, before_push}

pub passed_end : (x : ℕ) (steps : List (ℕ × ℕ)) → passed x steps ≡ before_end x steps ++ end_of x steps ∷ []
passed_end x [] = refl
passed_end x (s ∷ steps) = ap (λ l. x ∷ l) (passed_end s.1 steps)

-- the exchanges before the end of a walk that is one step longer
pub before_longer : (x : ℕ) (steps : List (ℕ × ℕ)) (s : ℕ × ℕ) → before_end x (steps ++ s ∷ []) ≡ before_end x steps ++ end_of x steps ∷ []
before_longer x steps s = before_push x steps s ∙ passed_end x steps

module _ (n : Net) where
  module _ (old new : List Mark) (grew : Grew old new) where
    top_grows : (x : ℕ) (groups : List ℕ) (top : ℕ) → IsTop n old x groups top → IsTop n new x groups top
    top_grows x groups top t =
        record {
          lower = λ g m. let l = t.lower g m in record { to = l.to; rank = l.rank; leads = l.leads; ranked = grew l.to l.rank l.ranked; below = l.below };
          tight = elim t.tight [ inl e ↦ inl e | inr q ↦ inr (q.0, q.1, q.2, q.3, grew q.1 top q.4) ];
        }

    tried_grows : (x : ℕ) (t : Tried) → IsTried n old x t → IsTried n new x t
    tried_grows x t h = record { list = h.list; count = h.count; top = top_grows x (take t.count (n.list x)) t.top h.top }

    all_grow : (xs : List ℕ) (ts : List Tried) → AreTried n old xs ts → AreTried n new xs ts
    all_grow [] [] h = tt
    all_grow [] (t ∷ ts) h = absurd h
    all_grow (x ∷ xs) [] h = absurd h
    all_grow (x ∷ xs) (t ∷ ts) h = (tried_grows x t h.0, all_grow xs ts h.1)

  one_more : (marks : List Mark) (xs : List ℕ) (ts : List Tried) (x : ℕ) (t : Tried) → AreTried n marks xs ts → IsTried n marks x t → AreTried n marks (xs ++ x ∷ []) (ts ++ t ∷ [])
  one_more marks [] [] x t h k = (k, tt)
  one_more marks [] (u ∷ ts) x t h k = absurd h
  one_more marks (y ∷ xs) [] x t h k = absurd h
  one_more marks (y ∷ xs) (u ∷ ts) x t h k = (h.0, one_more marks xs ts x t h.1 k)

  record HasLast (marks : List Mark) (xs : List ℕ) (x : ℕ) (ts : List Tried) : Type 0 where
    front : List Tried
    last : Tried
    is : ts ≡ front ++ last ∷ []
    others : AreTried n marks xs front
    here : IsTried n marks x last

  has_last : (marks : List Mark) (xs : List ℕ) (x : ℕ) (ts : List Tried) → AreTried n marks (xs ++ x ∷ []) ts → HasLast marks xs x ts
  has_last marks [] x [] h = absurd h
  has_last marks [] x (t ∷ []) h = record { front = []; last = t; is = refl; others = tt; here = h.0 }
  has_last marks [] x (t ∷ u ∷ ts) h = absurd h.1
  has_last marks (y ∷ xs) x [] h = absurd h
  has_last marks (y ∷ xs) x (t ∷ ts) h =
      let q = has_last marks xs x ts h.1 in
      record { front = t ∷ q.front; last = q.last; is = ap (λ l. t ∷ l) q.is; others = (h.0, q.others); here = q.here }

  -- a step more, to an exchange whose list was not tried yet
  pub trail_on : (old new : List Mark) (start : ℕ) (steps : List (ℕ × ℕ)) (s : ℕ × ℕ) (before : List Tried) (last next : Tried) → Grew old new → IsTrail n old start steps before last → IsTried n new s.1 next → IsTrail n new start (steps ++ s ∷ []) (before ++ last ∷ []) next
  trail_on old new start steps s before last next grew h k =
      record {
        lists = subst (λ (l : List ℕ). AreTried n new l (before ++ last ∷ [])) (sym (before_longer start steps s))
            (one_more new (before_end start steps) before (end_of start steps) last (all_grow old new grew (before_end start steps) before h.lists) (tried_grows old new grew (end_of start steps) last h.list));
        list = subst (λ (x : ℕ). IsTried n new x next) (sym (end_push start steps s)) k;
      }

  -- a step back
  pub trail_back : (old new : List Mark) (start : ℕ) (steps front : List (ℕ × ℕ)) (s : ℕ × ℕ) (before before' : List Tried) (last last' : Tried) → steps ≡ front ++ s ∷ [] → Grew old new → IsTrail n old start steps before last
      → ((f : List Tried) (t : Tried) → before ≡ f ++ t ∷ [] → before' ≡ f) → ((f : List Tried) (t : Tried) → before ≡ f ++ t ∷ [] → last' ≡ t) → IsTrail n new start front before' last'
  trail_back old new start steps front s before before' last last' e grew h others lasts =
      let all = subst (λ (l : List ℕ). AreTried n old l before) (ap (before_end start) e ∙ before_longer start front s) h.lists in
      let q = has_last old (before_end start front) (end_of start front) before all in
      record {
        lists = subst (λ (l : List Tried). AreTried n new (before_end start front) l) (sym (others q.front q.last q.is)) (all_grow old new grew (before_end start front) q.front q.others);
        list = subst (λ (t : Tried). IsTried n new (end_of start front) t) (sym (lasts q.front q.last q.is)) (tried_grows old new grew (end_of start front) q.last q.here);
      }

-- the first exchange of a walk
pub trail_first : (n : Net) (marks : List Mark) (start : ℕ) (before : List Tried) (last : Tried) → before ≡ [] → IsTried n marks start last → IsTrail n marks start [] before last
trail_first n marks start before last e h = record { lists = subst (λ (l : List Tried). AreTried n marks [] l) (sym e) tt; list = h }
