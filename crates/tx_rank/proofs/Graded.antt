-- What the grades of codes come to together.
use Rattle.tx_rank.proofs.Common.{◌≡◌, ◌≢◌, ℕ, zero, suc, ◌+◌, ◌<◌, List, [], ◌∷◌, ◌++◌, length, inl, inr, Option, Some, None, refl, sym, ap, subst, ◌∙◌, arith, length-append, AllByRecursion, cases_lt, Plan, IsPlan, ambiguous_of, Ranks, IsCertified, Certificate, ranks_of, Bounds, Finding, net_of, IsTrueOf, AreFindingsOfCode, looped, straight, Certifies, IsRankedBelow, RanksByHeight}
use Rattle.std.specs.Prelude.{◌↔◌, slice_get, IfSome, IfNone}
use Rattle.std.proofs.lemmas.Option.{slice_get_within}
use Rattle.tx_rank.specs.Grades.{IsGrade, CanBeCertified, CanBeCertifiedFor, NothingIsWrong, AreCodeGrades, AreRanksOfGrades, AreUnmended}
use Rattle.tx_rank.specs.inner.Together.{together}
use Rattle.tx_rank.proofs.Origins.{at_push}
use Rattle.tx_rank.proofs.Certifying.{certifies_code, certified_codes, distinct_none, none_distinct, none_true}
use Rattle.tx_rank.proofs.Listing.{some_true, ranked_listed, ranked_heights, ranked_certified}
use Rattle.tx_rank.proofs.Walked.{certified_no_loop, certified_no_short}
use Rattle.tx_rank.proofs.Bounding.{bounds_both, bounds_same, clear_code}
use Rattle.tx_rank.proofs.Unmended.{no_long, unmended, unmended_true}

-- TWO GRADES

module _ (P : ℕ → ℕ → Type 0) where
  module _ (Q R : ℕ → ℕ → Type 0) where
    grade_both : (a b : Option Bounds) → IsGrade P a → IsGrade Q b
        → ((l s : ℕ) → R l s ↔ (P l s × Q l s)) → IsGrade R (together a b)
    grade_both (Some a) (Some b) p q split = bounds_both P Q R a b _ p q refl refl split
    grade_both (Some a) None p q split = λ l s r. q l s ((split l s).0 r).1
    grade_both None b p q split = λ l s r. p l s ((split l s).0 r).0

  module _ (Q : ℕ → ℕ → Type 0) where
    grade_same : (g : Option Bounds) → IsGrade P g → ((l s : ℕ) → P l s ↔ Q l s) → IsGrade Q g
    grade_same (Some b) p same = bounds_same P Q b p same
    grade_same None p same = λ l s q. p l s ((same l s).1 q)

-- ONE CODE

module _ {A : Type 0} (p : Plan) (ok : IsPlan p) (c : ℕ) (within : c < length p.codes) where
  -- what is found of a code without a spare group, no numbers mend
  pub ungraded_code : (mine : List (Finding A)) → AreFindingsOfCode (net_of p c) c 255 0 mine
      → mine ≢ [] → IsGrade (CanBeCertifiedFor p c) None
  ungraded_code mine (looped w loop e) some l s k =
      certified_no_loop (net_of p c) k.0 l s k.1 w.start w.steps loop
  ungraded_code mine (straight none [] each None long e) some l s k = some e
  ungraded_code mine (straight none [] each (Some w) long e) some l s k =
      no_long p ok c within w.start w.steps long
  ungraded_code mine (straight none (w ∷ ws) each long is_long e) some l s k =
      let short = each.each w (inl refl) in
      certified_no_short (net_of p c) k.0 l s k.1 w.start w.steps
      (record {
        walk = short.walk;
        once = short.once;
        away = short.away;
        few = let f = short.few in omega arith;
      })

-- CODE AFTER CODE

-- no codes are ambiguous, and some ranks certify each code before c
abbrev pub CanBeCertifiedBelow : Plan → (c limit spare : ℕ) → Type 0
CanBeCertifiedBelow p c limit spare =
    (ambiguous_of p.codes ≡ None) × ((d : ℕ) → d < c → CanBeCertifiedFor p d limit spare)

-- the grades of the codes before c, together and one by one
pub record IsGradedBelow (p : Plan) (c : ℕ) (plan : Option Bounds)
    (codes : List (ℕ × Option Bounds)) : Type 0 where
  pub all : IsGrade (CanBeCertifiedBelow p c) plan
  pub long : length codes ≡ c
  pub each : (d : ℕ) (q : ℕ × Option Bounds) → slice_get codes d ≡ Some q
      → (q.0 ≡ d) × IsGrade (CanBeCertifiedFor p d) q.1

pub none_at : {X : Type 0} (d : ℕ) (x : X) → slice_get [] d ≡ Some x → ⊥
none_at zero x e = cc
none_at (suc d) x e = cc

module _ (p : Plan) where
  -- before the first code, where no codes are ambiguous
  pub graded_first : (b : Bounds) → ambiguous_of p.codes ≡ None → b.limit ≡ 0 → b.spare ≡ 15
      → IsGradedBelow p 0 (Some b) []
  graded_first b none limit spare =
      record {
        all = record {
          few = omega arith;
          exactly = λ l s h. (
            λ k. (omega arith, omega arith),
            λ k. (none, λ d less. absurd (omega arith)),
          );
        };
        long = refl;
        each = λ d q at. absurd (none_at d q at);
      }

  -- and where two are
  pub graded_none : ambiguous_of p.codes ≢ None → IsGradedBelow p 0 None []
  graded_none some =
      record { all = λ l s k. some k.0; long = refl; each = λ d q at. absurd (none_at d q at) }

  pub graded_next : (c : ℕ) (plan alone : Option Bounds) (codes : List (ℕ × Option Bounds))
      → IsGradedBelow p c plan codes → IsGrade (CanBeCertifiedFor p c) alone
      → IsGradedBelow p (c + 1) (together plan alone) (codes ++ (c, alone) ∷ [])
  graded_next c plan alone codes g one =
      record {
        all = grade_both (CanBeCertifiedBelow p c) (CanBeCertifiedFor p c)
            (CanBeCertifiedBelow p (c + 1)) plan alone g.all one
            (λ l s. (
              λ r. ((r.0, λ d h. r.1 d (omega arith)), r.1 c (omega arith)),
              λ k. (
                k.0.0,
                λ d h. elim (cases_lt d c) [
                  | inl before ↦ k.0.1 d before
                  | inr not_before ↦
                      let here : d ≡ c = omega arith in
                      subst (λ (y : ℕ). CanBeCertifiedFor p y l s) (sym here) k.1
                ],
              ),
            ));
        long = let l = g.long in simp length-append (omega arith);
        each = λ d e at. elim (at_push codes (c, alone) e d at) [
          | inl m ↦ g.each d e m
          | inr m ↦
              let here : d ≡ c = m.0 ∙ g.long in
              let own = subst (λ (y : ℕ × Option Bounds). IsGrade (CanBeCertifiedFor p c) y.1)
              (sym m.1) one in (
                ap (λ (y : ℕ × Option Bounds). y.0) m.1 ∙ sym here,
                subst (λ (k : ℕ). IsGrade (CanBeCertifiedFor p k) e.1) (sym here) own,
              )
        ];
      }

  -- the ranks of one code more, which are its heights if it has a grade
  pub heights_next : (c : ℕ) (alone : Option Bounds) (codes : List (ℕ × Option Bounds))
      (old new : Ranks) → length codes ≡ c → AreRanksOfGrades p old codes
      → ((d x : ℕ) → d ≢ c → new d x ≡ old d x)
      → IfSome alone (λ _. RanksByHeight (net_of p c) (new c))
      → AreRanksOfGrades p new (codes ++ (c, alone) ∷ [])
  heights_next c alone codes old new long before others here d b at =
      elim (at_push codes (c, alone) (d, Some b) d at) [
        | inl m ↦
            let low = slice_get_within codes d (d, Some b) m in
            let away : d ≢ c = λ e. absurd (omega (arith, low, e, long)) in
            let same : old d ≡ new d = λ i x. sym (others d x away) i in
            subst (RanksByHeight (net_of p d)) same (before d b m)
        | inr m ↦
            let is : alone ≡ Some b = ap (λ (q : ℕ × Option Bounds). q.1) (sym m.1) in
            let own = subst (λ (o : Option Bounds).
            IfSome o (λ _. RanksByHeight (net_of p c) (new c))) is here in
            subst (λ (k : ℕ). RanksByHeight (net_of p k) (new k)) (sym (m.0 ∙ long)) own
      ]

  -- what certifies each code certifies the plan
  module _ (l s : ℕ) where
    of_codes : CanBeCertifiedBelow p (length p.codes) l s → CanBeCertified p l s
    of_codes k = (ranks, certified_codes p ranks l s (none_distinct p.codes k.0) right)
      where
        ranks : Ranks
        ranks d = elim (cases_lt d (length p.codes)) [ inl h ↦ (k.1 d h).0 | inr h ↦ λ x. None ]

        right : (d : ℕ) → d < length p.codes → Certifies (net_of p d) (ranks d) l s
        right d h = elim (cases_lt d (length p.codes)) as (λ t. Certifies (net_of p d)
            (elim t [ inl i ↦ (k.1 d i).0 | inr i ↦ λ x. None ]) l s) [
              | inl i ↦ (k.1 d i).1
              | inr i ↦ absurd (omega arith)
            ]

    to_codes : CanBeCertified p l s → CanBeCertifiedBelow p (length p.codes) l s
    to_codes k =
        (distinct_none p.codes k.1.no_prefix, λ d h. (k.0 d, certifies_code p k.0 l s k.1 d h))

-- ALL CODES

module _ (p : Plan) (ok : IsPlan p) (c : ℕ) (all : c ≡ length p.codes) (plan : Option Bounds)
    (codes : List (ℕ × Option Bounds)) (g : IsGradedBelow p c plan codes) where
  pub graded_plan : IsGrade (CanBeCertified p) plan
  graded_plan =
      grade_same (CanBeCertifiedBelow p (length p.codes)) (CanBeCertified p) plan
      (subst (λ k. IsGrade (CanBeCertifiedBelow p k) plan) all g.all)
      (λ l s. (of_codes p l s, to_codes p l s))

  pub graded_codes : AreCodeGrades p codes
  graded_codes = record { long = g.long ∙ all; each = g.each }

  module _ {A : Type 0} (cert : Certificate) (findings : List (Finding A))
      (r : IsRankedBelow p 255 0 c cert findings) where
    pub graded_listed : AreUnmended p findings
    graded_listed = unmended p ok findings (ranked_listed p 255 0 c cert findings r all)

    pub graded_true : (limit spare : ℕ) → AllByRecursion (IsTrueOf p limit spare) findings
    graded_true = unmended_true p findings graded_listed

    -- nothing is found where some ranks certify the plan
    certified_clean : (l s : ℕ) → CanBeCertified p l s → findings ≡ []
    certified_clean l s k = none_of_them findings (graded_true l s)
      where
        none_of_them : (fs : List (Finding A)) → AllByRecursion (IsTrueOf p l s) fs → fs ≡ []
        none_of_them [] each = refl
        none_of_them (f ∷ fs) each = absurd (none_true p k.0 l s k.1 f each.0)

    pub graded_clean : IfSome plan (λ _. findings ≡ [])
    graded_clean = at plan graded_plan
      where
        at : (o : Option Bounds) → IsGrade (CanBeCertified p) o → IfSome o (λ _. findings ≡ [])
        at None h = tt
        at (Some b) h =
            let own = (h.exactly b.limit b.spare h.few).1 (omega arith, omega arith) in
            certified_clean b.limit b.spare own

    -- something is found where none do
    pub graded_fails : IfNone plan (findings ≢ [])
    graded_fails = at plan graded_plan
      where
        at : (o : Option Bounds) → IsGrade (CanBeCertified p) o → IfNone o (findings ≢ [])
        at None h = λ e. h 255 0 (ranks_of cert, ranked_certified p 255 0 c cert findings r all e)
        at (Some b) h = tt

    -- where nothing is wrong these ranks certify the plan
    clear_certified : (l s : ℕ) → NothingIsWrong A p l s → IsCertified p (ranks_of cert) l s
    clear_certified l s none = at findings refl
      where
        at : (fs : List (Finding A)) → findings ≡ fs → IsCertified p (ranks_of cert) l s
        at [] e =
            let heights = ranked_heights p 255 0 c cert findings r all e in
            let own = ranked_certified p 255 0 c cert findings r all e in
            certified_codes p (ranks_of cert) l s own.no_prefix
            (λ d h. clear_code p (ranks_of cert) heights own d h l s none)
        at (f ∷ fs) e =
            let some : findings ≢ [] = λ empty. let bad : ⊥ = cc in bad in
            absurd (some_true p l s findings (graded_true l s) some none)

    -- nothing is wrong exactly where some ranks do
    pub graded_clear : IsGrade (NothingIsWrong A p) plan
    graded_clear =
        grade_same (CanBeCertified p) (NothingIsWrong A p) plan graded_plan
        (λ l s. (λ k. none_true p k.0 l s k.1, λ none. (ranks_of cert, clear_certified l s none)))

    pub graded_ranks : IfSome plan (λ b. IsCertified p (ranks_of cert) b.limit b.spare)
    graded_ranks = at plan graded_clear
      where
        at : (o : Option Bounds) → IsGrade (NothingIsWrong A p) o
            → IfSome o (λ b. IsCertified p (ranks_of cert) b.limit b.spare)
        at None h = tt
        at (Some b) h =
            clear_certified b.limit b.spare
            ((h.exactly b.limit b.spare h.few).1 (omega arith, omega arith))
