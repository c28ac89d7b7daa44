-- Lines that declare one list of a plan.
use Rattle.tx_plantext.proofs.Common.{◌≡◌, ℕ, ◌<◌, Bool, false, List, [], ◌∷◌, ◌++◌, map, length, Option, None, Result, Ok, refl, sym, ◌∙◌, subst, append_assoc, append-nil, AllByRecursion, IsWrittenLine, LeadsTo, PlanRefusal, Plan, first_true, unless}
use Rattle.tx_text.specs.Frame.{is_end}

-- no test applies
pub none_true : (ts : List (Bool × PlanRefusal)) → AllByRecursion (λ t. t.0 ≡ false) ts → first_true ts ≡ None
none_true [] h = refl
none_true (t ∷ ts) h = let e = h.0 in rw e (none_true ts h.1)

pub unless-none : (r : Option PlanRefusal) (p q : Plan) → r ≡ None → p ≡ q → unless r p ≡ Ok q
unless-none r p q h e = rw (h, e) refl

module _ {S W A : Type 0} (declare : ℕ → S → List (List ℕ) → Result S W) (v : ℕ) (state : List A → S) (words : A → List (List ℕ)) where
  -- the line of an entry adds that entry
  pub record IsLineOf (front : List A) (x : A) : Type 0 where
    pub adds : declare v (state front) (words x) ≡ Ok (state (front ++ x ∷ []))
    pub no_end : is_end (words x) ≡ false
    pub some : 0 < length (words x)
    pub written : IsWrittenLine (words x)

  pub list_leads : (front xs : List A) (rest : List (List (List ℕ))) (r : S)
      → ((f : List A) (x : A) (b : List A) → f ++ x ∷ b ≡ front ++ xs → IsLineOf f x)
      → LeadsTo declare v (state (front ++ xs)) rest r → LeadsTo declare v (state front) (map words xs ++ rest) r
  list_leads front [] rest r h l = subst (λ (ys : List A). LeadsTo declare v (state ys) rest r) (append-nil front) l
  list_leads front (x ∷ xs) rest r h l =
      let d = h front x xs refl in
      let e = append_assoc front (x ∷ []) xs in (
        state (front ++ x ∷ []),
        d.adds,
        d.no_end,
        d.some,
        d.written,
        list_leads (front ++ x ∷ []) xs rest r (λ f y b q. h f y b (q ∙ e)) (subst (λ (ys : List A). LeadsTo declare v (state ys) rest r) (sym e) l),
      )
