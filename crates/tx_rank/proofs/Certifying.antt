-- From codes to plans: what certifies each code certifies the plan, and a certified plan has nothing wrong.
use Rattle.std.proofs.Common.{◌≡◌, ℕ, ◌<◌, ◌≤◌, true, false, ltb, nat_lt, List, length, Option, Some, None, refl, sym, ap, subst, ◌∙◌, arith}
use Rattle.tx_rank.proofs.Common.{slice_get, take_all, ltb-false, Plan, Code, route_list, ambiguous_of, Finding, Ambiguous, Loop, Short, Long, net_of, Certifies, IsTrueOf, all_among, among_all}
use Rattle.std.proofs.lemmas.Bool.{and_parts, and_from, ltb-true}
use Rattle.tx_plan.specs.Codes.{is_prefix}
use Rattle.tx_plan.specs.Certified.{Ranks, IsBelow, LeadsLower, IsCertified}
use Rattle.tx_plan.proofs.Ambiguity.{ambiguous-none, none-ambiguous}
use Rattle.tx_plan.proofs.Spelled.{prefix_is_take}
use Rattle.tx_rank.proofs.Walked.{certified_no_loop, certified_no_short, certified_no_long}

pub below_rank : (o : Option ℕ) (r : ℕ) → IsBelow o r → (m : ℕ) × (o ≡ Some m) × (m < r)
below_rank None r h = absurd h
below_rank (Some m) r h = (m, refl, h)

-- a prefix that is not shorter is the whole
pub prefix_whole : (front text : List ℕ) → is_prefix front text ≡ true → length text ≤ length front → front ≡ text
prefix_whole front text h l = prefix_is_take front text h ∙ take_all (length front) text l

-- no code begins another
abbrev pub AreDistinct : List Code → Type 0
AreDistinct codes = (i j : ℕ) (c d : Code) → slice_get codes i ≡ Some c → slice_get codes j ≡ Some d → is_prefix c.figures d.figures ≡ true → c.figures ≡ d.figures

module _ (codes : List Code) where
  pub none_distinct : ambiguous_of codes ≡ None → AreDistinct codes
  none_distinct e i j c d at_i at_j begins =
      elim (ltb (length c.figures) (length d.figures)) as (λ b. ltb (length c.figures) (length d.figures) ≡ b → c.figures ≡ d.figures) [
        | true ↦ λ t. absurd (none-ambiguous codes e i j c d (record { first = at_i; second = at_j; begins = and_from (is_prefix c.figures d.figures) (nat_lt (length c.figures) (length d.figures)) begins t }))
        | false ↦ λ t. prefix_whole c.figures d.figures begins (omega (arith, ltb-false))
      ] refl

  pub distinct_none : AreDistinct codes → ambiguous_of codes ≡ None
  distinct_none distinct =
      ambiguous-none codes (λ i j c d h.
      let parts = and_parts (is_prefix c.figures d.figures) (nat_lt (length c.figures) (length d.figures)) h.begins in
      let same : length c.figures ≡ length d.figures = ap length (distinct i j c d h.first h.second parts.0) in
      let less : length c.figures < length d.figures = ltb-true (length c.figures) (length d.figures) parts.1 in
      absurd (omega arith))

module _ (p : Plan) (ranks : Ranks) (limit spare : ℕ) where
  -- a certificate of the plan certifies each code
  pub certifies_code : IsCertified p ranks limit spare → (c : ℕ) → c < length p.codes → Certifies (net_of p c) (ranks c) limit spare
  certifies_code cert c h =
      record {
        home = cert.homes c h;
        origins = λ x origin. cert.origins c x h origin;
        low = λ x r ranked. cert.low c x r h ranked;
        enough = λ x r ranked away. (cert.lists c x r h ranked away).enough;
        lower = λ x r ranked away g m.
            let l = all_among (LeadsLower p ranks c x r) (route_list p x c) g (cert.lists c x r h ranked away).each m in
            let b = below_rank (ranks c l.to) r l.lower in
            record { to = l.to; rank = b.0; leads = l.leads; ranked = b.1; below = b.2 };
      }

  -- and back
  pub certified_codes : AreDistinct p.codes → ((c : ℕ) → c < length p.codes → Certifies (net_of p c) (ranks c) limit spare) → IsCertified p ranks limit spare
  certified_codes distinct each =
      record {
        no_prefix = distinct;
        homes = λ c h. (each c h).home;
        origins = λ c x h origin. (each c h).origins x origin;
        low = λ c x r h ranked. (each c h).low x r ranked;
        lists = λ c x r h ranked away. record {
          enough = (each c h).enough x r ranked away;
          each = among_all (LeadsLower p ranks c x r) (route_list p x c) (λ g m. let l = (each c h).lower x r ranked away g m in record { to = l.to; leads = l.leads; lower = subst (λ (o : Option ℕ). IsBelow o r) (sym l.ranked) l.below });
        };
      }

  -- nothing is wrong with a certified plan
  pub none_true : {A : Type 0} → IsCertified p ranks limit spare → (f : Finding A) → IsTrueOf p limit spare f → ⊥
  none_true cert (Ambiguous a b) h = let e = distinct_none p.codes cert.no_prefix in let bad : ⊥ = cc in bad
  none_true cert (Loop c w) h = certified_no_loop (net_of p c) (ranks c) limit spare (certifies_code cert c h.0) w.start w.steps h.1
  none_true cert (Short c w) h = certified_no_short (net_of p c) (ranks c) limit spare (certifies_code cert c h.0) w.start w.steps h.1
  none_true cert (Long c w) h = certified_no_long (net_of p c) (ranks c) limit spare (certifies_code cert c h.0) (λ x. omega arith) w.start w.steps h.1
