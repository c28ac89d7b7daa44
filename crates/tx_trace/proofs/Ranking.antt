-- The ranks of a trace are those that ranking the code from its exchange finds.
use Rattle.tx_trace.proofs.Common.{◌≡◌, ◌≢◌, ℕ, ◌<◌, List, [], ◌∷◌, ◌++◌, length, map, cond, inl, Option, Some, None, refl, sym, ap, subst, ◌∙◌, is_some, eq-eqb, Plan, IsPlan, Among, IsNet, Certifies, IsReached, RanksByHeight, height, net_from, passed_below}
use Rattle.tx_cert.specs.Certificate.{Certificate, rank_at}
use Rattle.tx_rank.specs.declared.finding.Finding.{Finding}
use Rattle.tx_rank.specs.declared.finding.Finding.TheVariants.{Short}
use Rattle.tx_rank.specs.Walks.{Net, Walk, IsShort}
use Rattle.tx_rank.specs.Findings.{IsLongIfAny, long_findings, AreFindingsOfCode}
use Rattle.tx_rank.specs.Findings.AreFindingsOfCode.{looped, straight}
use Rattle.tx_rank.specs.Judged.{IsJudged}
use Rattle.tx_rank.proofs.Ways.{end_passed}
use Rattle.tx_rank.proofs.Walked.{certified_no_loop, certified_no_short, certified_no_long}
use Rattle.tx_trace.specs.inner.Marked.{AreRanksFrom}
use Rattle.tx_trace.proofs.Heights.{is_net_from, heights_certify, height_fits, height_is}

abbrev short_findings : (A : Type 0) → ℕ → List Walk → List (Finding A)
short_findings A code ws = map (Short code) ws

-- where ranks certify a code, nothing is found
module _ {A : Type 0} (n : Net) (net : IsNet n) (ranks : ℕ → Option ℕ) (limit spare : ℕ) (c : Certifies n ranks limit spare) (code : ℕ) where
  pub none_found : (fs : List (Finding A)) → AreFindingsOfCode n code limit spare fs → fs ≡ []
  none_found fs (looped w l e) = absurd (certified_no_loop n ranks limit spare c w.start w.steps l)
  none_found fs (straight none shorts s long l e) = e ∙ nothing shorts long s.each l
    where
      nothing : (ws : List Walk) (long : Option Walk) → ((w : Walk) → Among w ws → IsShort n spare w.start w.steps) → IsLongIfAny n limit long → short_findings A code ws ++ long_findings code long ≡ []
      nothing [] None each l = refl
      nothing [] (Some w) each l = absurd (certified_no_long n ranks limit spare c net.listed w.start w.steps l)
      nothing (w ∷ ws) long each l = absurd (certified_no_short n ranks limit spare c w.start w.steps (each w (inl refl)))

module _ (p : Plan) (c x : ℕ) where
  -- calls come to where they start
  pub start_reached : IsReached (net_from p c x) x
  start_reached = record { start = x; steps = []; walk = record { origin = eq-eqb x x refl; goes = tt }; ends = refl }

  module _ (ok : IsPlan p) (known : c < length p.codes) (there : x < length p.exchanges) where
    reached_within : (y : ℕ) → IsReached (net_from p c x) y → y < length p.exchanges
    reached_within y r =
        let start = (is_net_from p ok c known x there).origins r.start r.walk.origin in
        subst (λ k. k < length p.exchanges) r.ends (passed_below (net_from p c x) (is_net_from p ok c known x there) r.start r.steps r.walk.goes start _ (end_passed r.start r.steps))

    pub ranked_from : (cert : Certificate) → RanksByHeight (net_from p c x) (rank_at cert c) → Certifies (net_from p c x) (rank_at cert c) 255 0 → AreRanksFrom p c x (Some cert)
    ranked_from cert heights certified = λ y reached.
        let net = is_net_from p ok c known x there in
        let has : (z : ℕ) → IsReached (net_from p c x) z → (r : ℕ) × (rank_at cert c z ≡ Some r) × (height p c z ≡ Some r) = λ z h.
        let r = heights.reached z h in
        let fits = height_fits (net_from p c x) net (rank_at cert c) (record { lower = certified.lower }) z r.0 r.1 (heights.heights z r.0 r.1) (reached_within z h) in
        (r.0, r.1, height_is p c x (rank_at cert c) heights certified (length p.exchanges) z r.0 r.1 fits) in
        let here = has y reached in
        let start = has x start_reached in
        here.1 ∙ sym here.2 ∙ sym (ap (λ o. cond (is_some o) (height p c y) None) start.2)

    pub unranked_from : {A : Type 0} (mine : List (Finding A)) → mine ≢ [] → AreFindingsOfCode (net_from p c x) c 255 0 mine → AreRanksFrom p c x None
    unranked_from mine some listed = λ y reached.
        elim (height p c x) as (λ o. height p c x ≡ o → None ≡ cond (is_some o) (height p c y) None) [
          | None ↦ λ e. refl
          | Some h ↦ λ e. absurd (some (none_found (net_from p c x) (is_net_from p ok c known x there) (height p c) 255 0 (heights_certify p ok c known x h e) c mine listed))
        ] refl

-- what ranking a code adds to no findings
module _ {A : Type 0} (n : Net) (code limit spare : ℕ) (old new : List (Finding A)) (ranks : ℕ → Option ℕ) (j : IsJudged n code limit spare old new ranks) (none : old ≡ []) where
  pub mine_all : new ≡ j.mine
  mine_all = j.added ∙ ap (λ l. l ++ j.mine) none
