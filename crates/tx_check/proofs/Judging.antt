-- The verdict on what was found first.
use Rattle.tx_check.proofs.Common.{option_or, if◌then◌else◌, ◌≡◌, ℕ, ◌<◌, Bool, true, false, nat_lt, List, [], ◌∷◌, ◌++◌, length, Option, Some, None, refl, sym, ap, ◌∙◌, ltb-true, Plan, IsCertified, IsPlan, Certificate, rank_at, CheckFault}
use Rattle.tx_check.specs.declared.fault.CheckFault.TheVariants.{Ambiguous}
use Rattle.tx_check.specs.declared.verdict.Verdict.TheVariants.{Yes, No}
use Rattle.tx_check.specs.Checks.{ranks_for, RanksOnly, ambiguous_fault, check_faults, verdict_of, foremost}
use Rattle.tx_check.proofs.Finding.{nothing}
use Rattle.tx_check.proofs.Faultless.{certified_of, faultless_of}

pub first_here : (xs ys : List CheckFault) (x : CheckFault) → Some x ≡ foremost xs → Some x ≡ foremost (xs ++ ys)
first_here [] ys x h = absurd (let z : ⊥ = cc in z)
first_here (y ∷ xs) ys x h = h

pub first_past : (xs ys : List CheckFault) (r : Option CheckFault) → None ≡ foremost xs → r ≡ foremost ys → r ≡ foremost (xs ++ ys)
first_past [] ys r h k = k
first_past (y ∷ xs) ys r h k = absurd (let z : ⊥ = cc in z)

pub ambiguous_first : (o : Option (ℕ × ℕ)) (x : ℕ × ℕ) → Some x ≡ o → Some (Ambiguous x.0 x.1) ≡ foremost (ambiguous_fault o)
ambiguous_first None x h = absurd (let z : ⊥ = cc in z)
ambiguous_first (Some y) x h = let e : x ≡ y = cc in ap (λ (w : ℕ × ℕ). Some (Ambiguous w.0 w.1)) e

pub ambiguous_past : (o : Option (ℕ × ℕ)) → None ≡ o → None ≡ foremost (ambiguous_fault o)
ambiguous_past None h = refl
ambiguous_past (Some y) h = absurd (let z : ⊥ = cc in z)

module _ (one two three four five six seven : List CheckFault) where
  abbrev all : List CheckFault
  all = one ++ (two ++ (three ++ (four ++ (five ++ (six ++ seven)))))

  pub at_one : (x : CheckFault) → Some x ≡ foremost one → Some x ≡ foremost all
  at_one x h = first_here one _ x h

  module _ (p1 : None ≡ foremost one) where
    pub at_two : (x : CheckFault) → Some x ≡ foremost two → Some x ≡ foremost all
    at_two x h = first_past one _ (Some x) p1 (first_here two _ x h)

    module _ (p2 : None ≡ foremost two) where
      pub at_three : (x : CheckFault) → Some x ≡ foremost three → Some x ≡ foremost all
      at_three x h = first_past one _ (Some x) p1 (first_past two _ (Some x) p2 (first_here three _ x h))

      module _ (p3 : None ≡ foremost three) where
        pub at_four : (x : CheckFault) → Some x ≡ foremost four → Some x ≡ foremost all
        at_four x h = first_past one _ (Some x) p1 (first_past two _ (Some x) p2 (first_past three _ (Some x) p3 (first_here four _ x h)))

        module _ (p4 : None ≡ foremost four) where
          at_five : (x : CheckFault) → Some x ≡ foremost five → Some x ≡ foremost all
          at_five x h = first_past one _ (Some x) p1 (first_past two _ (Some x) p2 (first_past three _ (Some x) p3 (first_past four _ (Some x) p4 (first_here five _ x h))))

          module _ (p5 : None ≡ foremost five) where
            at_six : (x : CheckFault) → Some x ≡ foremost six → Some x ≡ foremost all
            at_six x h = first_past one _ (Some x) p1 (first_past two _ (Some x) p2 (first_past three _ (Some x) p3 (first_past four _ (Some x) p4 (first_past five _ (Some x) p5 (first_here six _ x h)))))

            at_seven : (r : Option CheckFault) → None ≡ foremost six → r ≡ foremost seven → r ≡ foremost all
            at_seven r p6 h = first_past one _ r p1 (first_past two _ r p2 (first_past three _ r p3 (first_past four _ r p4 (first_past five _ r p5 (first_past six _ r p6 h)))))

          -- the first of the last three clauses
          pub at_rest : (s u n : Option CheckFault) → s ≡ foremost five → u ≡ foremost six → n ≡ foremost seven → option_or (option_or s u) n ≡ foremost all
          at_rest (Some x) u n e5 e6 e7 = at_five x e5
          at_rest None (Some x) n e5 e6 e7 = at_six e5 x e6
          at_rest None None n e5 e6 e7 = at_seven e5 n e6 e7

-- no case is left but none
pub none_of : {A : Type 0} (o : Option A) → ((x : A) → o ≡ Some x → ⊥) → None ≡ o
none_of None h = refl
none_of (Some x) h = absurd (h x refl)

pub ranks_only : (p : Plan) (t : Certificate) → RanksOnly p (ranks_for p t)
ranks_only p t c x r h = by (nat_lt x (length p.exchanges)) refl h
  where
    by : (b : Bool) → nat_lt x (length p.exchanges) ≡ b → (if b then rank_at t c x else None) ≡ Some r → x < length p.exchanges
    by true e k = ltb-true x (length p.exchanges) e
    by false e k = absurd (let z : ⊥ = cc in z)

pub yes_of : (fs : List CheckFault) → None ≡ foremost fs → Yes ≡ verdict_of fs
yes_of [] h = refl
yes_of (f ∷ fs) h = absurd (let z : ⊥ = cc in z)

pub no_of : (fs : List CheckFault) (f : CheckFault) → Some f ≡ foremost fs → No f ≡ verdict_of fs
no_of [] f h = absurd (let z : ⊥ = cc in z)
no_of (g ∷ fs) f h = let e : f ≡ g = cc in ap No e

pub certified_from : (p : Plan) (t : Certificate) (limit spare : ℕ) → IsPlan p → None ≡ foremost (check_faults p (ranks_for p t) limit spare) → IsCertified p (ranks_for p t) limit spare
certified_from p t limit spare h e = certified_of p (ranks_for p t) limit spare h (ranks_only p t) (nothing (check_faults p (ranks_for p t) limit spare) (sym e))

pub not_certified : (p : Plan) (t : Certificate) (limit spare : ℕ) (f : CheckFault) → IsPlan p → Some f ≡ foremost (check_faults p (ranks_for p t) limit spare) → IsCertified p (ranks_for p t) limit spare → ⊥
not_certified p t limit spare f h e k = let q = e ∙ ap foremost (faultless_of p (ranks_for p t) limit spare h k) in let z : ⊥ = cc in z
