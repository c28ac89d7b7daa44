-- The findings of a change, code after code.
use Rattle.std.proofs.Common.{◌≡◌, ◌≢◌, ℕ, zero, suc, ◌+◌, ◌<◌, ◌≤◌, true, false, eqb, eqb-true, List, [], ◌∷◌, ◌++◌, length, map, inl, inr, Option, Some, None, Result, Ok, Err, IfOk, refl, sym, ap, subst, ◌∙◌, arith, append_assoc, append-nil}
use Rattle.tx_change.proofs.Common.{eqb-false, AllByRecursion, Plan, IsPlan, Ranks, Among, Finding, Short, Certifies, CanBeCertified, IsJudged, SameNetwork, EachMixture, AreCommon, mixture_certified, change_net, IsTrueOfChange, shown_by, IsShown, IsChangedBelow}
use Rattle.tx_plan.proofs.Lists.{all_map}
use Rattle.tx_plan.specs.Ambiguous.{ambiguous_of}
use Rattle.tx_cert.specs.Certificate.{Certificate, rank_at, no_ranks_for, ranks_of}
use Rattle.tx_cert.proofs.Ranks.{none_ranked}
use Rattle.tx_rank.specs.Walks.{Walk, IsShort}
use Rattle.tx_rank.specs.Heights.{RanksByHeight}
use Rattle.tx_rank.specs.Findings.{IsLongIfAny, long_findings, AreFindingsOfCode, pair_findings}
use Rattle.tx_rank.specs.Findings.AreFindingsOfCode.{looped, straight}
use Rattle.tx_rank.proofs.Certifying.{none_distinct, none_true}
use Rattle.tx_rank.proofs.Listing.{front_none, back_none, no_pair}
use Rattle.tx_plan.proofs.Filtered.{all_joined}
use Rattle.tx_change.specs.ChangeFindings.{AreChangeFindingsBelow, AreChangeFindings}
use Rattle.tx_change.proofs.CommonRanks.{common_codes}
use Rattle.tx_change.proofs.ShownWalks.{shown_mixture, shown_true}

-- what common ranks certify
pub each_certified : (old new : Plan) (limit spare : ℕ) → SameNetwork old new → (ranks : Ranks) → AreCommon old new ranks limit spare → EachMixture old new (λ m. CanBeCertified m limit spare)
each_certified old new limit spare same ranks both m mix = (ranks, mixture_certified old new m ranks limit spare same both mix)

-- EACH FINDING IS TRUE

pair_true : (A : Type 0) (old new : Plan) (limit spare : ℕ) (o : Option (ℕ × ℕ)) → ambiguous_of old.codes ≡ o → AllByRecursion (IsTrueOfChange old new limit spare) (pair_findings {A = A} o)
pair_true A old new limit spare None e = tt
pair_true A old new limit spare (Some q) e = (e, tt)

module _ {A : Type 0} (old new : Plan) (limit spare : ℕ) where
  abbrev AllTrue : List (Finding A) → Type 0
  AllTrue = AllByRecursion (IsTrueOfChange old new limit spare)

  code_true : (c : ℕ) (fs : List (Finding A)) → c < length old.codes → AreFindingsOfCode (change_net old new c) c limit spare fs → AllTrue fs
  code_true c fs h (looped w l e) = subst AllTrue (sym e) ((h, l), tt)
  code_true c fs h (straight none shorts s long l e) = subst AllTrue (sym e) (all_joined (IsTrueOfChange old new limit spare) (map (Short c) shorts) (long_findings c long) (shorts_true shorts s.each) (long_true long l))
    where
      shorts_true : (ws : List Walk) → ((w : Walk) → Among w ws → IsShort (change_net old new c) spare w.start w.steps) → AllTrue (map (Short c) ws)
      shorts_true [] each = tt
      shorts_true (w ∷ ws) each = ((h, each w (inl refl)), shorts_true ws (λ v m. each v (inr m)))

      long_true : (o : Option Walk) → IsLongIfAny (change_net old new c) limit o → AllTrue (long_findings c o)
      long_true None l = tt
      long_true (Some w) l = ((h, l), tt)

  below_true : (c : ℕ) (fs : List (Finding A)) → c ≤ length old.codes → AreChangeFindingsBelow old new limit spare c fs → AllTrue fs
  below_true zero fs h e = subst AllTrue (sym e) tt
  below_true (suc c) fs h l = subst AllTrue (sym l.2) (all_joined (IsTrueOfChange old new limit spare) l.0 l.1 (below_true c l.0 (omega arith) l.3) (code_true c l.1 (omega arith) l.4))

  pub changes_true : (fs : List (Finding A)) → AreChangeFindings old new limit spare fs → AllByRecursion (IsTrueOfChange old new limit spare) fs
  changes_true fs l = subst AllTrue (sym l.joined) (all_joined (IsTrueOfChange old new limit spare) (pair_findings (ambiguous_of old.codes)) l.rest (pair_true A old new limit spare (ambiguous_of old.codes) refl) (below_true (length old.codes) l.rest (omega arith) l.codes))

  module _ (ok : IsPlan old) (new_ok : IsPlan new) (same : SameNetwork old new) where
    -- each is true of the mixture that it shows
    pub changes_shown : (fs : List (Finding A)) → AreChangeFindings old new limit spare fs → AllByRecursion (IsShown old new limit spare) fs
    changes_shown fs l = all_map fs (λ f h. (shown_mixture old new limit spare ok new_ok same f, shown_true old new limit spare ok new_ok same f h)) (changes_true fs l)

    -- where each mixture can be certified, no finding is true
    pub nothing_found : EachMixture old new (λ m. CanBeCertified m limit spare) → (f : Finding A) → IsTrueOfChange old new limit spare f → ⊥
    nothing_found each f h =
        let c = each (shown_by old new spare f) (shown_mixture old new limit spare ok new_ok same f) in
        none_true (shown_by old new spare f) c.0 limit spare c.1 f (shown_true old new limit spare ok new_ok same f h)

  some_true : (fs : List (Finding A)) → AllTrue fs → fs ≢ [] → ((f : Finding A) → IsTrueOfChange old new limit spare f → ⊥) → ⊥
  some_true [] all some none = some refl
  some_true (f ∷ fs) all some none = none f all.0

  -- a list of findings that is not empty
  pub some_found : (fs : List (Finding A)) → AreChangeFindings old new limit spare fs → fs ≢ [] → ((f : Finding A) → IsTrueOfChange old new limit spare f → ⊥) → ⊥
  some_found fs l some none = some_true fs (changes_true fs l) some none

-- CODE AFTER CODE

module _ {A : Type 0} (old new : Plan) (limit spare : ℕ) where
  -- before the first code
  pub changed_first : (cert : Certificate) (findings : List (Finding A)) → cert ≡ no_ranks_for old → findings ≡ pair_findings (ambiguous_of old.codes) → IsChangedBelow old new limit spare 0 cert findings
  changed_first cert findings e f =
      record {
        rest = [];
        joined = f ∙ sym (append-nil (pair_findings (ambiguous_of old.codes)));
        listed = refl;
        heights = λ _ d h. absurd (omega arith);
        certified = λ _ d h. absurd (omega arith);
        blank = λ d x h. ap (λ t. rank_at t d x) e ∙ none_ranked (length old.codes) (length old.exchanges) d x;
        codes = ap (λ t. t.codes) e;
        exchanges = ap (λ t. t.exchanges) e;
      }

  module _ (c : ℕ) (cert cert' : Certificate) (before after : List (Finding A))
      (r : IsChangedBelow old new limit spare c cert before) (j : IsJudged (change_net old new c) c limit spare before after (rank_at cert' c))
      (others : (d x : ℕ) → d ≢ c → rank_at cert' d x ≡ rank_at cert d x) where
    each_code : (P : ℕ → (ℕ → Option ℕ) → Type 0) → ((d : ℕ) → d < c → P d (rank_at cert d)) → P c (rank_at cert' c) → (d : ℕ) → d < c + 1 → P d (rank_at cert' d)
    each_code P was here d h =
        elim (eqb d c) as (λ b. eqb d c ≡ b → P d (rank_at cert' d)) [
          | true ↦ λ e. subst (λ (k : ℕ). P k (rank_at cert' k)) (sym (eqb-true d c e)) here
          | false ↦ λ e.
              let away = eqb-false d c e in
              let same : rank_at cert d ≡ rank_at cert' d = λ i x. sym (others d x away) i in
              subst (P d) same (was d (omega arith))
        ] refl

    pub changed_next : cert'.codes ≡ cert.codes → cert'.exchanges ≡ cert.exchanges → IsChangedBelow old new limit spare (c + 1) cert' after
    changed_next codes exchanges =
        record {
          rest = r.rest ++ j.mine;
          joined = j.added ∙ ap (λ l. l ++ j.mine) r.joined ∙ append_assoc (pair_findings (ambiguous_of old.codes)) r.rest j.mine;
          listed = let next : suc c ≡ c + 1 = omega arith in subst (λ k. AreChangeFindingsBelow old new limit spare k (r.rest ++ j.mine)) next (r.rest, j.mine, refl, r.listed, j.listed);
          heights = λ e. each_code (λ d ranks. RanksByHeight (change_net old new d) ranks) (r.heights (front_none r.rest j.mine e)) (j.heights (back_none r.rest j.mine e));
          certified = λ e. each_code (λ d ranks. Certifies (change_net old new d) ranks limit spare) (r.certified (front_none r.rest j.mine e)) (j.certified (back_none r.rest j.mine e));
          blank = λ d x h. others d x (λ q. absurd (omega arith)) ∙ r.blank d x (omega arith);
          codes = codes ∙ r.codes;
          exchanges = exchanges ∙ r.exchanges;
        }

  -- a code was ranked, if there was memory
  pub changed_code : {E : Type 0} (c : ℕ) (cert cert' : Certificate) (before after : List (Finding A)) (result : Result (Unit {0}) E) → IsChangedBelow old new limit spare c cert before
      → IfOk result (λ _. IsJudged (change_net old new c) c limit spare before after (rank_at cert' c)) → IfOk result (λ _. (d x : ℕ) → d ≢ c → rank_at cert' d x ≡ rank_at cert d x)
      → cert'.codes ≡ cert.codes → cert'.exchanges ≡ cert.exchanges → IfOk result (λ _. IsChangedBelow old new limit spare (c + 1) cert' after)
  changed_code c cert cert' before after (Err e) r j o codes exchanges = j
  changed_code c cert cert' before after (Ok u) r j o codes exchanges = changed_next c cert cert' before after r j o codes exchanges

  module _ (c : ℕ) (cert : Certificate) (findings : List (Finding A)) (r : IsChangedBelow old new limit spare c cert findings) (all : c ≡ length old.codes) where
    module _ (none : findings ≡ []) where
      pub changed_common : SameNetwork old new → AreCommon old new (ranks_of cert) limit spare
      changed_common same =
          common_codes old new same (ranks_of cert) limit spare
          (none_distinct old.codes (no_pair (ambiguous_of old.codes) (front_none (pair_findings (ambiguous_of old.codes)) r.rest (sym r.joined ∙ none))))
          (λ d h. r.certified (back_none (pair_findings (ambiguous_of old.codes)) r.rest (sym r.joined ∙ none)) d (omega arith))
