-- What certifies the network of a change for each code certifies both plans, and the other way
use Rattle.tx_change.proofs.Common.{ℕ, ◌<◌, length, inl, inr, Option, sym, ap, ◌∙◌, subst, arith, Plan, Ranks, route_list, is_origin_for, net_of, Certifies, SameNetwork, AreCommon, homes_same, ends_same, change_net}
use Rattle.std.proofs.lemmas.Bool.{or_left, or_right, or_cases}
use Rattle.tx_plan.proofs.Among.{among_left, among_right, among_cases}
use Rattle.tx_rank.proofs.Certifying.{AreDistinct, certifies_code, certified_codes}

module _ (old new : Plan) (same : SameNetwork old new) (ranks : ℕ → Option ℕ) (limit spare c : ℕ) (cert : Certifies (change_net old new c) ranks limit spare) where
  old_certified : Certifies (net_of old c) ranks limit spare
  old_certified = record {
    home = cert.home;
    origins = λ x o. cert.origins x (or_left (is_origin_for old x c) (is_origin_for new x c) o);
    low = cert.low;
    enough = λ x r ranked away. let e = cert.enough x r ranked away in omega arith;
    lower = λ x r ranked away g m.
        let l = cert.lower x r ranked away g (among_left g (route_list old x c) (route_list new x c) m) in
        record { to = l.to; rank = l.rank; leads = l.leads; ranked = l.ranked; below = l.below };
  }

  new_certified : Certifies (net_of new c) ranks limit spare
  new_certified =
      let home = homes_same old new same c in
      record {
        home = ap ranks home ∙ cert.home;
        origins = λ x o. cert.origins x (or_right (is_origin_for old x c) (is_origin_for new x c) o);
        low = cert.low;
        enough = λ x r ranked away. let e = cert.enough x r ranked (λ q. away (q ∙ sym home)) in omega arith;
        lower = λ x r ranked away g m.
            let l = cert.lower x r ranked (λ q. away (q ∙ sym home)) g (among_right g (route_list old x c) (route_list new x c) m) in
            record { to = l.to; rank = l.rank; leads = ends_same old new same g x ∙ l.leads; ranked = l.ranked; below = l.below };
      }

module _ (old new : Plan) (same : SameNetwork old new) (ranks : Ranks) (limit spare : ℕ) where
  pub common_codes : AreDistinct old.codes → ((c : ℕ) → c < length old.codes → Certifies (change_net old new c) (ranks c) limit spare) → AreCommon old new ranks limit spare
  common_codes distinct each =
      record {
        before = certified_codes old ranks limit spare distinct (λ c h. old_certified old new same (ranks c) limit spare c (each c h));
        after = certified_codes new ranks limit spare (subst AreDistinct same.codes distinct)
            (λ c h. new_certified old new same (ranks c) limit spare c (each c (subst (λ n. c < n) (ap length (sym same.codes)) h)));
      }

-- and what certifies both plans certifies that network
module _ (old new : Plan) (same : SameNetwork old new) (ranks : Ranks) (limit spare : ℕ) (both : AreCommon old new ranks limit spare) (c : ℕ) (h : c < length old.codes) where
  pub common_certifies : Certifies (change_net old new c) (ranks c) limit spare
  common_certifies =
      let a = certifies_code old ranks limit spare both.before c h in
      let b = certifies_code new ranks limit spare both.after c (subst (λ n. c < n) (ap length same.codes) h) in
      let home = homes_same old new same c in
      record {
        home = a.home;
        origins = λ x o. elim (or_cases (is_origin_for old x c) (is_origin_for new x c) o) [ inl p ↦ a.origins x p | inr p ↦ b.origins x p ];
        low = a.low;
        enough = λ x r ranked away. let e = a.enough x r ranked away in let f = b.enough x r ranked (λ q. away (q ∙ home)) in omega arith;
        lower = λ x r ranked away g m. elim (among_cases g (route_list old x c) (route_list new x c) m) [
          | inl l ↦ let d = a.lower x r ranked away g l in record { to = d.to; rank = d.rank; leads = d.leads; ranked = d.ranked; below = d.below }
          | inr l ↦ let d = b.lower x r ranked (λ q. away (q ∙ home)) g l in record { to = d.to; rank = d.rank; leads = sym (ends_same old new same g x) ∙ d.leads; ranked = d.ranked; below = d.below }
        ];
      }
