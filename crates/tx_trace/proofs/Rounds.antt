-- The exchanges met, one after another.
use Rattle.tx_trace.proofs.Common.{◌≡◌, ◌≢◌, ℕ, zero, suc, ◌+◌, ◌≤◌, true, false, cond, List, [], ◌∷◌, ◌++◌, length, take, inl, inr, Some, None, refl, sym, ap, subst, ◌∙◌, slice_get, filter_map, fold, option_map_or, Plan, home_of, route_list, other_end, Among, among_cases, IsReached, end_push, goes_push, take_next, is_in, far_ends, meet, meet_from, met_before, all_met, net_from}
use Rattle.std.proofs.lemmas.List.{take_all}
use Rattle.std.proofs.lemmas.List.Elements.{filter_map-append}
use Rattle.std.proofs.lemmas.List.Sums.{fold_push}
use Rattle.tx_trace.proofs.Ends.{LeadsTo, leads_to, far_ends-home, far_ends-away}

-- ---- one exchange

pub meet-new : (met : List ℕ) (y : ℕ) → false ≡ is_in y met → meet met y ≡ met ++ y ∷ []
meet-new met y e = ap (λ b. cond b met (met ++ y ∷ [])) (sym e)

-- ---- the ends of one list

module _ (p : Plan) (c x : ℕ) where
  abbrev pub ends_before : ℕ → List ℕ
  ends_before i = filter_map (λ g. other_end p g x) (take i (route_list p x c))

  pub ends-next : (i g y : ℕ) → slice_get (route_list p x c) i ≡ Some g → other_end p g x ≡ Some y → ends_before (i + 1) ≡ ends_before i ++ y ∷ []
  ends-next i g y at leads =
      ap (filter_map (λ g. other_end p g x)) (take_next (route_list p x c) i g at)
      ∙ filter_map-append (λ g. other_end p g x) (take i (route_list p x c)) (g ∷ [])
      ∙ (let last : filter_map (λ g. other_end p g x) (g ∷ []) ≡ y ∷ [] = rw leads refl in ap (λ l. ends_before i ++ l) last)

  pub met-next : (i g y : ℕ) (old met new : List ℕ) → slice_get (route_list p x c) i ≡ Some g → other_end p g x ≡ Some y → met ≡ fold meet old (ends_before i) → new ≡ meet met y → new ≡ fold meet old (ends_before (i + 1))
  met-next i g y old met new at leads e f = f ∙ ap (λ l. meet l y) e ∙ sym (fold_push meet old (ends_before i) y) ∙ ap (fold meet old) (sym (ends-next i g y at leads))

  pub met-ends : (i : ℕ) (old met : List ℕ) → x ≢ home_of p c → length (route_list p x c) ≤ i → met ≡ fold meet old (ends_before i) → met ≡ fold meet old (far_ends p c x)
  met-ends i old met away all e =
      e ∙ ap (fold meet old) (ap (filter_map (λ g. other_end p g x)) (take_all i (route_list p x c) all) ∙ sym (far_ends-away p c x away))

  pub met-home : (met : List ℕ) → x ≡ home_of p c → met ≡ fold meet met (far_ends p c x)
  met-home met e = ap (fold meet met) (sym (far_ends-home p c x e))

-- ---- where calls come

module _ (p : Plan) (c x : ℕ) where
  -- a call goes on
  pub reached_on : (y z : ℕ) → IsReached (net_from p c x) y → LeadsTo p c y z → IsReached (net_from p c x) z
  reached_on y z r l =
      let at = sym r.ends in
      record {
        start = r.start;
        steps = r.steps ++ (l.group, z) ∷ [];
        walk = record {
          origin = r.walk.origin;
          goes = goes_push (net_from p c x) r.start r.steps (l.group, z) r.walk.goes (λ e. l.away (at ∙ e)) (subst (λ (k : ℕ). Among l.group (route_list p k c)) at l.listed) (subst (λ (k : ℕ). other_end p l.group k ≡ Some z) at l.leads);
        };
        ends = end_push r.start r.steps (l.group, z);
      }

  abbrev AllReached : List ℕ → Type 0
  AllReached met = (y : ℕ) → Among y met → IsReached (net_from p c x) y

  reached_meet : (met : List ℕ) (y : ℕ) → AllReached met → IsReached (net_from p c x) y → AllReached (meet met y)
  reached_meet met y all r =
      elim (is_in y met) as (λ b. AllReached (cond b met (met ++ y ∷ []))) [
        | true ↦ all
        | false ↦ λ z m. elim (among_cases z met (y ∷ []) m) [ inl a ↦ all z a | inr q ↦ elim q [ inl e ↦ subst (IsReached (net_from p c x)) e r | inr f ↦ absurd f ] ]
      ]

  reached_fold : (met ys : List ℕ) → AllReached met → AllReached ys → AllReached (fold meet met ys)
  reached_fold met [] all ends = all
  reached_fold met (y ∷ ys) all ends = reached_fold (meet met y) ys (reached_meet met y all (ends y (inl refl))) (λ z m. ends z (inr m))

  reached_round : (i : ℕ) (met : List ℕ) → AllReached met → AllReached (meet_from p c i met)
  reached_round i met all =
      elim (slice_get met i) as (λ o. slice_get met i ≡ o → AllReached (fold meet met (option_map_or (far_ends p c) o []))) [
        | None ↦ λ e. all
        | Some y ↦ λ e. reached_fold met (far_ends p c y) all (λ z m. reached_on y z (all y (there met i y e)) (leads_to p c y z m))
      ] refl
    where
      there : (xs : List ℕ) (i y : ℕ) → slice_get xs i ≡ Some y → Among y xs
      there [] i y h = absurd (let bad : ⊥ = cc in bad)
      there (w ∷ xs) zero y h = let same : w ≡ y = cc in inl same
      there (w ∷ xs) (suc i) y h = inr (there xs i y h)

  met_reached : (k : ℕ) → IsReached (net_from p c x) x → AllReached (met_before p c x k)
  met_reached zero r = λ y m. elim m [ inl e ↦ subst (IsReached (net_from p c x)) e r | inr f ↦ absurd f ]
  met_reached (suc k) r = reached_round k (met_before p c x k) (met_reached k r)

  pub all_reached : IsReached (net_from p c x) x → AllReached (all_met p c x)
  all_reached r = met_reached (length p.exchanges) r
