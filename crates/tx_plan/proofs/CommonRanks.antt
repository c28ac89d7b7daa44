-- Ranks that certify two plans of a network certify each mixture of them.
use Rattle.tx_plan.proofs.Common.{◌≡◌, ◌≢◌, ℕ, ◌<◌, true, List, inl, inr, length, Some, sym, ap, ◌∙◌, subst, AllByRecursion, slice_get, is_prefix, Plan, Code, home_of, route_list}
use Rattle.tx_plan.proofs.Lists.{all_map}
use Rattle.tx_plan.specs.Certified.{Ranks, LeadsLower, LeadsDown, IsCertified}
use Rattle.tx_plan.specs.Mixtures.{SameNetwork, IsMixture, AreCommon}
use Rattle.tx_plan.proofs.Networks.{same_back, same_along, homes_same, ends_same, origin_as}

module _ (p q : Plan) (same : SameNetwork p q) (ranks : Ranks) (limit spare : ℕ) (cert : IsCertified p ranks limit spare) where
  module _ (x c r : ℕ) (within : c < length q.codes) (ranked : ranks c x ≡ Some r) where
    -- an exchange with the same list
    leads_as : route_list q x c ≡ route_list p x c → x ≢ home_of q c → LeadsDown q ranks spare c x r
    leads_as e away =
        let l = cert.lists c x r (subst (λ n. c < n) (ap length (sym same.codes)) within) ranked (λ h. away (h ∙ sym (homes_same p q same c))) in
        record {
          enough = subst (λ (gs : List ℕ). spare < length gs) (sym e) l.enough;
          each = subst (AllByRecursion (LeadsLower q ranks c x r)) (sym e) (all_map (route_list p x c) (λ g k. record { to = k.to; leads = ends_same p q same g x ∙ k.leads; lower = k.lower }) l.each);
        }

module _ (old new m : Plan) (ranks : Ranks) (limit spare : ℕ) (same : SameNetwork old new) (both : AreCommon old new ranks limit spare) (mix : IsMixture old new m) where
  a : SameNetwork old m
  a = mix.network

  b : SameNetwork new m
  b = same_along new old m (same_back old new same) mix.network

  pub mixture_certified : IsCertified m ranks limit spare
  mixture_certified =
      let within = λ (c : ℕ) (h : c < length m.codes). subst (λ n. c < n) (ap length (sym a.codes)) h in
      record {
        no_prefix = subst (λ codes. (i j : ℕ) (c d : Code) → slice_get codes i ≡ Some c → slice_get codes j ≡ Some d → is_prefix c.figures d.figures ≡ true → c.figures ≡ d.figures) a.codes both.before.no_prefix;
        homes = λ c h. ap (ranks c) (homes_same old m a c) ∙ both.before.homes c (within c h);
        origins = λ c x h o. elim (mix.bars x c) [
          | inl e ↦ both.before.origins c x (within c h) (sym (origin_as old m a x c e) ∙ o)
          | inr e ↦ both.after.origins c x (subst (λ n. c < n) (ap length (sym b.codes)) h) (sym (origin_as new m b x c e) ∙ o)
        ];
        low = λ c x r h ranked. both.before.low c x r (within c h) ranked;
        lists = λ c x r h ranked away. elim (mix.lists x c) [
          | inl e ↦ leads_as old m a ranks limit spare both.before x c r h ranked e away
          | inr e ↦ leads_as new m b ranks limit spare both.after x c r h ranked e away
        ];
      }
