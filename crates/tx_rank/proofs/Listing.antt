-- The findings of a plan, code after code.
use Rattle.tx_rank.proofs.Common.{◌≡◌, ◌≢◌, ℕ, zero, suc, ◌+◌, ◌<◌, ◌≤◌, true, false, eqb, eqb-true, List, [], ◌∷◌, ◌++◌, length, map, inl, inr, Option, Some, None, refl, sym, ap, subst, ◌∙◌, arith, append_assoc, append-nil, eqb-false, AllByRecursion, Plan, ambiguous_of, IsCertified, Among, Finding, Short, Walk, net_of, IsShort, RanksByHeight, AreHeights, looped, straight, Certifies, IsJudged, IsRankedBelow}
use Rattle.tx_plan.proofs.Filtered.{all_joined}
use Rattle.tx_cert.specs.Certificate.{Certificate, rank_at, no_ranks_for, ranks_of}
use Rattle.tx_cert.proofs.Ranks.{none_ranked}
use Rattle.tx_rank.specs.Findings.{IsTrueOf, IsLongIfAny, long_findings, AreFindingsOfCode, AreFindingsBelow, pair_findings, AreFindings}
use Rattle.tx_rank.proofs.Certifying.{none_distinct, certified_codes}

-- NOTHING IN FRONT AND NOTHING BEHIND

pub none_of : {X : Type 0} (xs : List X) → length xs ≡ 0 → xs ≡ []
none_of [] h = refl
none_of (x ∷ xs) h = absurd (omega arith)

pub front_none : {X : Type 0} (xs ys : List X) → xs ++ ys ≡ [] → xs ≡ []
front_none [] ys e = refl
front_none (x ∷ xs) ys e = absurd (let bad : ⊥ = cc in bad)

pub back_none : {X : Type 0} (xs ys : List X) → xs ++ ys ≡ [] → ys ≡ []
back_none [] ys e = e
back_none (x ∷ xs) ys e = absurd (let bad : ⊥ = cc in bad)

pub no_pair : {A : Type 0} (o : Option (ℕ × ℕ)) → pair_findings {A = A} o ≡ [] → o ≡ None
no_pair None e = refl
no_pair (Some q) e = absurd (let bad : ⊥ = cc in bad)

-- EACH FINDING IS TRUE

pair_true : (A : Type 0) (p : Plan) (limit spare : ℕ) (o : Option (ℕ × ℕ)) → ambiguous_of p.codes ≡ o → AllByRecursion (IsTrueOf p limit spare) (pair_findings {A = A} o)
pair_true A p limit spare None e = tt
pair_true A p limit spare (Some q) e = (e, tt)

module _ {A : Type 0} (p : Plan) (limit spare : ℕ) where
  abbrev AllTrue : List (Finding A) → Type 0
  AllTrue = AllByRecursion (IsTrueOf p limit spare)

  code_true : (c : ℕ) (fs : List (Finding A)) → c < length p.codes → AreFindingsOfCode (net_of p c) c limit spare fs → AllTrue fs
  code_true c fs h (looped w l e) = subst AllTrue (sym e) ((h, l), tt)
  code_true c fs h (straight none shorts s long l e) = subst AllTrue (sym e) (all_joined (IsTrueOf p limit spare) (map (Short c) shorts) (long_findings c long) (shorts_true shorts s.each) (long_true long l))
    where
      shorts_true : (ws : List Walk) → ((w : Walk) → Among w ws → IsShort (net_of p c) spare w.start w.steps) → AllTrue (map (Short c) ws)
      shorts_true [] each = tt
      shorts_true (w ∷ ws) each = ((h, each w (inl refl)), shorts_true ws (λ v m. each v (inr m)))

      long_true : (o : Option Walk) → IsLongIfAny (net_of p c) limit o → AllTrue (long_findings c o)
      long_true None l = tt
      long_true (Some w) l = ((h, l), tt)

  below_true : (c : ℕ) (fs : List (Finding A)) → c ≤ length p.codes → AreFindingsBelow p limit spare c fs → AllTrue fs
  below_true zero fs h e = subst AllTrue (sym e) tt
  below_true (suc c) fs h l = subst AllTrue (sym l.2) (all_joined (IsTrueOf p limit spare) l.0 l.1 (below_true c l.0 (omega arith) l.3) (code_true c l.1 (omega arith) l.4))

  pub all_true : (fs : List (Finding A)) → AreFindings p limit spare fs → AllTrue fs
  all_true fs l = subst AllTrue (sym l.joined) (all_joined (IsTrueOf p limit spare) (pair_findings (ambiguous_of p.codes)) l.rest (pair_true A p limit spare (ambiguous_of p.codes) refl) (below_true (length p.codes) l.rest (omega arith) l.codes))

  -- a finding in a list that is not empty
  pub some_true : (fs : List (Finding A)) → AllTrue fs → fs ≢ [] → ((f : Finding A) → IsTrueOf p limit spare f → ⊥) → ⊥
  some_true [] all some none = some refl
  some_true (f ∷ fs) all some none = none f all.0

-- CODE AFTER CODE

module _ {A : Type 0} (p : Plan) (limit spare : ℕ) where
  -- before the first code
  pub ranked_first : (cert : Certificate) (findings : List (Finding A)) → cert ≡ no_ranks_for p → findings ≡ pair_findings (ambiguous_of p.codes) → IsRankedBelow p limit spare 0 cert findings
  ranked_first cert findings e f =
      record {
        rest = [];
        joined = f ∙ sym (append-nil (pair_findings (ambiguous_of p.codes)));
        listed = refl;
        heights = λ _ d h. absurd (omega arith);
        certified = λ _ d h. absurd (omega arith);
        blank = λ d x h. ap (λ t. rank_at t d x) e ∙ none_ranked (length p.codes) (length p.exchanges) d x;
        codes = ap (λ t. t.codes) e;
        exchanges = ap (λ t. t.exchanges) e;
      }

  module _ (c : ℕ) (cert cert' : Certificate) (old new : List (Finding A))
      (r : IsRankedBelow p limit spare c cert old) (j : IsJudged (net_of p c) c limit spare old new (rank_at cert' c))
      (others : (d x : ℕ) → d ≢ c → rank_at cert' d x ≡ rank_at cert d x) where
    -- what held of the ranks of the codes before, and holds of those of this code
    each_code : (P : ℕ → (ℕ → Option ℕ) → Type 0) → ((d : ℕ) → d < c → P d (rank_at cert d)) → P c (rank_at cert' c) → (d : ℕ) → d < c + 1 → P d (rank_at cert' d)
    each_code P before here d h =
        elim (eqb d c) as (λ b. eqb d c ≡ b → P d (rank_at cert' d)) [
          | true ↦ λ e. subst (λ (k : ℕ). P k (rank_at cert' k)) (sym (eqb-true d c e)) here
          | false ↦ λ e.
              let away = eqb-false d c e in
              let same : rank_at cert d ≡ rank_at cert' d = λ i x. sym (others d x away) i in
              subst (P d) same (before d (omega arith))
        ] refl

    pub ranked_next : cert'.codes ≡ cert.codes → cert'.exchanges ≡ cert.exchanges → IsRankedBelow p limit spare (c + 1) cert' new
    ranked_next codes exchanges =
        record {
          rest = r.rest ++ j.mine;
          joined = j.added ∙ ap (λ l. l ++ j.mine) r.joined ∙ append_assoc (pair_findings (ambiguous_of p.codes)) r.rest j.mine;
          listed = let next : suc c ≡ c + 1 = omega arith in subst (λ k. AreFindingsBelow p limit spare k (r.rest ++ j.mine)) next (r.rest, j.mine, refl, r.listed, j.listed);
          heights = λ e. each_code (λ d ranks. RanksByHeight (net_of p d) ranks) (r.heights (front_none r.rest j.mine e)) (j.heights (back_none r.rest j.mine e));
          certified = λ e. each_code (λ d ranks. Certifies (net_of p d) ranks limit spare) (r.certified (front_none r.rest j.mine e)) (j.certified (back_none r.rest j.mine e));
          blank = λ d x h. others d x (λ q. absurd (omega arith)) ∙ r.blank d x (omega arith);
          codes = codes ∙ r.codes;
          exchanges = exchanges ∙ r.exchanges;
        }

  module _ (c : ℕ) (cert : Certificate) (findings : List (Finding A)) (r : IsRankedBelow p limit spare c cert findings) (all : c ≡ length p.codes) where
    pub ranked_listed : AreFindings p limit spare findings
    ranked_listed = record { rest = r.rest; joined = r.joined; codes = subst (λ k. AreFindingsBelow p limit spare k r.rest) all r.listed }

    module _ (none : findings ≡ []) where
      pub ranked_heights : AreHeights p (ranks_of cert)
      ranked_heights d h = r.heights (back_none (pair_findings (ambiguous_of p.codes)) r.rest (sym r.joined ∙ none)) d (omega arith)

      pub ranked_certified : IsCertified p (ranks_of cert) limit spare
      ranked_certified =
          certified_codes p (ranks_of cert) limit spare
          (none_distinct p.codes (no_pair (ambiguous_of p.codes) (front_none (pair_findings (ambiguous_of p.codes)) r.rest (sym r.joined ∙ none))))
          (λ d h. r.certified (back_none (pair_findings (ambiguous_of p.codes)) r.rest (sym r.joined ∙ none)) d (omega arith))
