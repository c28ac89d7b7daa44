-- The invariant makes each state safe.
use Rattle.tx_machine.proofs.Common.{◌≡◌, ◌≢◌, ℕ, zero, suc, ◌<◌, ◌==◌, Bool, true, false, ◌&&◌, List, [], ◌∷◌, ◌++◌, ◌⊎◌, inl, inr, length, Option, Some, None, refl, sym, ap, ◌∙◌, subst, eqb-true, eq-eqb, arith, and_parts, false_from_ne_true, if◌then◌else◌, slice_get, is_some, flat_map, option_map_or, same_circuit, same_line, same_circuit-is, same_line-is, Plan, Code, figures_of, LineRange, Ranks, IsCertified, after, is_prefix, Among, Line, among_cases, flat_among, Phase, Standing, Calling, Connected, Call, start_of, State, circuits_carried, NoneTwice, lines_of, Joins, IsKeyedLine, IsOnlyLine, OfConnected, JoinsAndCarriesOnce, TakesPartOnce, FallsInRank, IsSafeCall, IsSafe, IsKept, IsRising, Holds, IsRanked}
use Rattle.tx_plan.specs.Rules.{IsPlan, IsRange, is_national}
use Rattle.tx_plan.specs.Lines.{in_range, is_line, full_number}
use Rattle.tx_machine.proofs.Lists.{any_none, none_any, any_mem, all_from_mem, indexes_differ}
use Rattle.tx_machine.proofs.Steps.{all_mem}
use Rattle.tx_machine.proofs.Ranks.{few_transits, passed_once}

-- what holds of each line that a call is connected to
of_connected : {Q : Line → Type 0} (phase : Phase) → ((l : Line) → phase ≡ Connected l → Q l) → OfConnected phase Q
of_connected Standing k = tt
of_connected (Calling x) k = tt
of_connected (Connected l) k = k l refl

-- LISTS OF PARTS
none_twice_append : {A : Type 0} (same : A → A → Bool) (xs ys : List A) → NoneTwice same xs → NoneTwice same ys → ((x y : A) → Among x xs → Among y ys → same x y ≡ false) → NoneTwice same (xs ++ ys)
none_twice_append same [] ys n m h = m
none_twice_append same (x ∷ xs) ys n m h = (
  any_none (same x) (xs ++ ys) (λ z q. elim (among_cases z xs ys q) [ inl a ↦ none_any (same x) xs z n.0 a | inr b ↦ h x z (inl refl) b ]),
  none_twice_append same xs ys n.1 m (λ y z a b. h y z (inr a) b),
)

flat_once : {A : Type 0} (same : A → A → Bool) (f : Call → List A) (cs : List Call) → IsRising cs → ((c : Call) → Among c cs → NoneTwice same (f c)) → ((c d : Call) → Among c cs → Among d cs → c.number ≢ d.number → (x y : A) → Among x (f c) → Among y (f d) → same x y ≡ false) → NoneTwice same (flat_map f cs)
flat_once same f [] r each pairs = tt
flat_once same f (c ∷ cs) r each pairs =
    none_twice_append same (f c) (flat_map f cs) (each c (inl refl)) (flat_once same f cs r.1 (λ d m. each d (inr m)) (λ d e m q. pairs d e (inr m) (inr q)))
    (λ x y m q. let d = flat_among f y cs q in pairs c d.0 (inl refl) (inr d.1) (λ e. let l = r.0 d.0 d.1 in omega arith) x y m d.2)

-- FULL NUMBERS
-- of two beginnings of one text, one begins the other
begins : (a b x y : List ℕ) → a ++ x ≡ b ++ y → (is_prefix a b ≡ true) ⊎ (is_prefix b a ≡ true)
begins [] b x y e = inl refl
begins (i ∷ a) [] x y e = inr refl
begins (i ∷ a) (j ∷ b) x y e =
    let h : i ≡ j = cc in
    let t : a ++ x ≡ b ++ y = cc in
    elim (begins a b x y t) [
      | inl p ↦ inl (ap (λ c. is_some (if c then after a b else None)) (eq-eqb i j h) ∙ p)
      | inr p ↦ inr (ap (λ c. is_some (if c then after b a else None)) (eq-eqb j i (sym h)) ∙ p)
    ]

same_rest : (a x y : List ℕ) → a ++ x ≡ a ++ y → x ≡ y
same_rest [] x y e = e
same_rest (i ∷ a) x y e = let t : a ++ x ≡ a ++ y = cc in same_rest a x y t

code_of_line : (p : Plan) → IsPlan p → (l : Line) → is_line p l ≡ true → (c : Code) × (slice_get p.codes l.code ≡ Some c)
code_of_line p ok l h =
    let r = any_mem (λ (r : LineRange). (r.code == l.code) && in_range l.national r) p.ranges (and_parts (is_national l.national) _ h).1 in
    let e = eqb-true _ _ (and_parts _ _ r.2).0 in
    let b = (all_mem (IsRange p) p.ranges r.0 ok.ranges r.1).code in
    at (slice_get p.codes l.code) refl (subst (λ n. n < length p.codes) e b)
  where
    at : (o : Option Code) → slice_get p.codes l.code ≡ o → l.code < length p.codes → (c : Code) × (slice_get p.codes l.code ≡ Some c)
    at (Some c) q b = (c, q)
    at None q b = absurd (not_past p.codes l.code q b)
      where
        not_past : (cs : List Code) (i : ℕ) → slice_get cs i ≡ None → i < length cs → ⊥
        not_past [] i q b = omega arith
        not_past (c ∷ cs) zero q b = cc
        not_past (c ∷ cs) (suc i) q b = not_past cs i q (omega arith)

-- under a certificate a number is that of one line
one_line : (p : Plan) → IsPlan p → (ranks : Ranks) (limit spare : ℕ) → IsCertified p ranks limit spare → (l m : Line) → is_line p l ≡ true → is_line p m ≡ true → full_number p l ≡ full_number p m → m ≡ l
one_line p ok ranks limit spare cert l m hl hm e =
    let c = code_of_line p ok l hl in let d = code_of_line p ok m hm in
    let fc = ap (λ o. option_map_or (λ (c : Code). c.figures) o []) c.1 in
    let fd = ap (λ o. option_map_or (λ (c : Code). c.figures) o []) d.1 in
    let figures : c.0.figures ≡ d.0.figures = elim (begins (figures_of p l.code) (figures_of p m.code) l.national m.national e) [
      | inl b ↦ cert.no_prefix l.code m.code c.0 d.0 c.1 d.1 (ap (λ x. is_prefix x d.0.figures) (sym fc) ∙ ap (is_prefix (figures_of p l.code)) (sym fd) ∙ b)
      | inr b ↦ sym (cert.no_prefix m.code l.code d.0 c.0 d.1 c.1 (ap (λ x. is_prefix x c.0.figures) (sym fd) ∙ ap (is_prefix (figures_of p m.code)) (sym fc) ∙ b))
    ] in
    let code = indexes_differ (λ (c d : Code). c.figures ≡ d.figures) (λ _ _ e. sym e) p.codes ok.codes_differ l.code m.code c.0 d.0 c.1 d.1 figures in
    let rest = same_rest (figures_of p l.code) l.national m.national (e ∙ ap (λ k. figures_of p k ++ m.national) (sym code)) in
    λ i. record { code = sym code i; national = sym rest i }

-- IN EVERY RUN OF EVERY PLAN
module _ (p : Plan) (s : State) (h : Holds p s) where
  pub carried_once : JoinsAndCarriesOnce p s
  carried_once = record {
    joined = all_from_mem (λ c. Joins p (start_of p c) c.hops) s.calls (λ c m. (h.each c m).joined);
    once = flat_once same_circuit circuits_carried s.calls h.order (λ c m. (h.each c m).once)
        (λ c d m q ne x y a b. false_from_ne_true _ (λ e. (h.pairs c d m q ne).carried x a (subst (λ z. Among z (circuits_carried d)) (sym (same_circuit-is x y e)) b)));
  }

  pub part_once : TakesPartOnce p s
  part_once = record {
    once = flat_once same_line lines_of s.calls h.order (λ c m. (h.each c m).lines)
        (λ c d m q ne x y a b. false_from_ne_true _ (λ e. (h.pairs c d m q ne).lines x a (subst (λ z. Among z (lines_of d)) (sym (same_line-is x y e)) b)));
    keyed = all_from_mem (λ c. OfConnected c.phase (IsKeyedLine p c)) s.calls (λ c m. of_connected c.phase (λ l e. (h.each c m).connected l e));
  }

-- IN EVERY RUN OF A CERTIFIED PLAN
module _ (p : Plan) (ok : IsPlan p) (ranks : Ranks) (limit spare : ℕ) (cert : IsCertified p ranks limit spare) (c : Call) (kept : IsKept p c) (ranked : IsRanked p ranks c) where
  only_line : (l : Line) → c.phase ≡ Connected l → IsOnlyLine p c l
  only_line l e n hn f =
      let a = kept.connected l e in
      one_line p ok ranks limit spare cert l n a.known hn (a.keyed ∙ sym f)

  pub call_falls : FallsInRank p ranks limit c
  call_falls = record {
    falls = ranked.falls;
    once = passed_once p ranks limit spare cert c ranked;
    few = few_transits p ranks limit spare cert c ranked;
    only = of_connected c.phase only_line;
  }

  pub safe_call : IsSafeCall p limit c
  safe_call = record {
    joined = kept.joined;
    once = passed_once p ranks limit spare cert c ranked;
    few = few_transits p ranks limit spare cert c ranked;
    right = of_connected c.phase (λ l e. (kept.connected l e, only_line l e));
  }

pub safe_state : (p : Plan) (limit : ℕ) (s : State) → Holds p s → ((c : Call) → Among c s.calls → IsSafeCall p limit c) → IsSafe p limit s
safe_state p limit s h safe = record {
  calls = all_from_mem (IsSafeCall p limit) s.calls safe;
  circuits = (carried_once p s h).once;
  lines = (part_once p s h).once;
}
