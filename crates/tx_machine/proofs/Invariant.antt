-- The invariant under changes of the calls and of the releasing circuits.
use Rattle.tx_machine.proofs.Common.{◌≡◌, ◌≢◌, ℕ, ◌+◌, ◌<◌, ◌≤◌, ◌==◌, Bool, true, false, cond, List, [], ◌∷◌, ◌++◌, ◌⊎◌, inl, inr, map, refl, sym, ap, ◌∙◌, subst, eqb-true, arith, eqb-false, if◌then◌else◌, filter, circuit_cmp, Plan, Among, Circuit, among_cases, filter_among, map_among, Call, set_call, IsKept, AreApart, IsUnused, IsRising, Inv}
use Rattle.std.specs.FinSet as set

pub rising_filter : (keeps : Call → Bool) (cs : List Call) → IsRising cs → IsRising (filter keeps cs)
rising_filter keeps [] r = tt
rising_filter keeps (c ∷ cs) r =
    elim (keeps c) as (λ b. IsRising (cond b (c ∷ filter keeps cs) (filter keeps cs))) [
      | true ↦ (λ d m. r.0 d (filter_among keeps d cs m).0, rising_filter keeps cs r.1)
      | false ↦ rising_filter keeps cs r.1
    ]

pub rising_push : (cs : List Call) (c : Call) → IsRising cs → ((d : Call) → Among d cs → d.number < c.number) → IsRising (cs ++ c ∷ [])
rising_push [] c r h = (λ d m. elim m [ ], tt)
rising_push (b ∷ cs) c r h = (
  λ d m. elim (among_cases d cs (c ∷ []) m) [ inl o ↦ r.0 d o | inr e ↦ elim e [ inl e ↦ subst (λ z. b.number < z.number) e (h b (inl refl)) | inr z ↦ absurd z ] ],
  rising_push cs c r.1 (λ d m. h d (inr m)),
)

pub rising_map : (f : Call → Call) → ((c : Call) → (f c).number ≡ c.number) → (cs : List Call) → IsRising cs → IsRising (map f cs)
rising_map f same [] r = tt
rising_map f same (c ∷ cs) r = (
  λ d m. let q = map_among f d cs m in let below = r.0 q.0 q.1 in let a = same c in let b = same q.0 in let e = ap (λ (z : Call). z.number) q.2 in omega arith,
  rising_map f same cs r.1,
)

pub swapped : {p : Plan} {c d : Call} → AreApart p c d → AreApart p d c
swapped a = record {
  carried = λ x m n. a.carried x n m;
  left = λ x m n. a.right x n m;
  right = λ x m n. a.left x n m;
  ends = λ x m n e. a.ends x n m (sym e);
  lines = λ l m n. a.lines l n m;
}

pub inv_opening : (p : Plan) (n : ℕ) → Inv p [] set.empty n
inv_opening p n = record {
  each = λ c m. elim m [ ];
  pairs = λ c d m n ne. elim m [ ];
  idle = λ x h c m. elim m [ ];
  one = λ c d m n e. elim m [ ];
  given = λ c m. elim m [ ];
  order = tt;
}

module _ (p : Plan) (cs : List Call) (rel : set.FinSet circuit_cmp) (n : ℕ) (inv : Inv p cs rel n) where
  -- another set of releasing circuits
  pub inv_releasing : (rel' : set.FinSet circuit_cmp) → ((x : Circuit) → set.contains rel' x ≡ true → (c : Call) → Among c cs → IsUnused c x) → Inv p cs rel' n
  inv_releasing rel' idle = record { each = inv.each; pairs = inv.pairs; idle = idle; one = inv.one; given = inv.given; order = inv.order }

  -- fewer calls
  pub inv_filter : (keeps : Call → Bool) → Inv p (filter keeps cs) rel n
  inv_filter keeps =
      let old = λ (c : Call) (m : Among c (filter keeps cs)). (filter_among keeps c cs m).0 in
      record {
        each = λ c m. inv.each c (old c m);
        pairs = λ c d m k ne. inv.pairs c d (old c m) (old d k) ne;
        idle = λ x h c m. inv.idle x h c (old c m);
        one = λ c d m k e. inv.one c d (old c m) (old d k) e;
        given = λ c m. inv.given c (old c m);
        order = rising_filter keeps cs inv.order;
      }

  -- one more call
  pub inv_more : (c : Call) → c.number ≡ n + 1 → IsKept p c → ((d : Call) → Among d cs → AreApart p c d) → ((x : Circuit) → IsUnused c x) → Inv p (cs ++ c ∷ []) rel (n + 1)
  inv_more c new kept apart unused =
      let cases = λ (k : Call) (m : Among k (cs ++ c ∷ [])). among_cases k cs (c ∷ []) m in
      record {
        each = λ k m. elim (cases k m) [ inl o ↦ inv.each k o | inr e ↦ elim e [ inl e ↦ subst (IsKept p) e kept | inr b ↦ absurd b ] ];
        pairs = λ k l m q ne. elim (cases k m) [
          | inl a ↦ elim (cases l q) [ inl b ↦ inv.pairs k l a b ne | inr e ↦ elim e [ inl e ↦ subst (λ z. AreApart p k z) e (swapped (apart k a)) | inr b ↦ absurd b ] ]
          | inr e ↦ elim e [
            | inl e ↦ elim (cases l q) [ inl b ↦ subst (λ z. AreApart p z l) e (apart l b) | inr f ↦ elim f [ inl f ↦ absurd (ne (ap (λ (z : Call). z.number) (sym e ∙ f))) | inr b ↦ absurd b ] ]
            | inr b ↦ absurd b
          ]
        ];
        idle = λ x h k m. elim (cases k m) [ inl o ↦ inv.idle x h k o | inr e ↦ elim e [ inl e ↦ subst (λ z. IsUnused z x) e (unused x) | inr b ↦ absurd b ] ];
        one = λ k l m q same. elim (cases k m) [
          | inl a ↦ elim (cases l q) [ inl b ↦ inv.one k l a b same | inr e ↦ elim e [ inl e ↦ let le = inv.given k a in let f : c.number ≡ l.number = ap (λ (z : Call). z.number) e in absurd (omega arith) | inr b ↦ absurd b ] ]
          | inr e ↦ elim e [
            | inl e ↦ elim (cases l q) [ inl b ↦ let le = inv.given l b in let f : c.number ≡ k.number = ap (λ (z : Call). z.number) e in absurd (omega arith) | inr f ↦ elim f [ inl f ↦ sym e ∙ f | inr b ↦ absurd b ] ]
            | inr b ↦ absurd b
          ]
        ];
        given = λ k m. elim (cases k m) [ inl o ↦ let le = inv.given k o in omega arith | inr e ↦ elim e [ inl e ↦ let f : c.number ≡ k.number = ap (λ (z : Call). z.number) e in omega arith | inr b ↦ absurd b ] ];
        order = rising_push cs c inv.order (λ d m. let le = inv.given d m in omega arith);
      }

  module _ (c : Call) (in' : Among c cs) (f : Call → Call) where
    pub set_cases : (k : Call) → Among k (set_call c.number f cs) → (Among k cs × (k.number ≢ c.number)) ⊎ (f c ≡ k)
    set_cases k m =
        let r = map_among (λ (z : Call). if z.number == c.number then f z else z) k cs m in
        elim (r.0.number == c.number) as (λ b. (r.0.number == c.number) ≡ b → (if b then f r.0 else r.0) ≡ k → (Among k cs × (k.number ≢ c.number)) ⊎ (f c ≡ k)) [
          | true ↦ λ t e. inr (ap f (inv.one c r.0 in' r.1 (sym (eqb-true _ _ t))) ∙ e)
          | false ↦ λ t e. inl (subst (λ z. Among z cs) e r.1, λ q. eqb-false _ _ t (ap (λ (z : Call). z.number) e ∙ q))
        ] refl r.2

    number_set : (f c).number ≡ c.number → IsRising (set_call c.number f cs)
    number_set same = rising_set cs (λ z m. m) inv.order
      where
        kept : (z : Call) → Among z cs → (if z.number == c.number then f z else z).number ≡ z.number
        kept z m = elim (z.number == c.number) as (λ b. (z.number == c.number) ≡ b → (if b then f z else z).number ≡ z.number) [
          | true ↦ λ t. let e = inv.one c z in' m (sym (eqb-true _ _ t)) in ap (λ (y : Call). (f y).number) (sym e) ∙ same ∙ ap (λ (y : Call). y.number) e
          | false ↦ λ t. refl
        ] refl

        rising_set : (ds : List Call) → ((z : Call) → Among z ds → Among z cs) → IsRising ds → IsRising (map (λ (z : Call). if z.number == c.number then f z else z) ds)
        rising_set [] sub r = tt
        rising_set (d ∷ ds) sub r = (
          λ k m. let q = map_among (λ (z : Call). if z.number == c.number then f z else z) k ds m in
              subst (λ z. (if d.number == c.number then f d else d).number < z.number) q.2
              (let below = r.0 q.0 q.1 in let a = kept d (sub d (inl refl)) in let b = kept q.0 (sub q.0 (inr q.1)) in omega arith),
          rising_set ds (λ z m. sub z (inr m)) r.1,
        )

    -- one call changes
    pub inv_set : (f c).number ≡ c.number → IsKept p (f c) → ((d : Call) → Among d cs → d.number ≢ c.number → AreApart p (f c) d) → ((x : Circuit) → set.contains rel x ≡ true → IsUnused (f c) x) → Inv p (set_call c.number f cs) rel n
    inv_set same kept apart unused = record {
      each = λ k m. elim (set_cases k m) [ inl o ↦ inv.each k o.0 | inr e ↦ subst (IsKept p) e kept ];
      pairs = λ k l m q ne. elim (set_cases k m) [
        | inl a ↦ elim (set_cases l q) [ inl b ↦ inv.pairs k l a.0 b.0 ne | inr e ↦ subst (λ z. AreApart p k z) e (swapped (apart k a.0 a.1)) ]
        | inr e ↦ elim (set_cases l q) [ inl b ↦ subst (λ z. AreApart p z l) e (apart l b.0 b.1) | inr g ↦ absurd (ne (ap (λ (z : Call). z.number) (sym e ∙ g))) ]
      ];
      idle = λ x h k m. elim (set_cases k m) [ inl o ↦ inv.idle x h k o.0 | inr e ↦ subst (λ z. IsUnused z x) e (unused x h) ];
      one = λ k l m q eq. elim (set_cases k m) [
        | inl a ↦ elim (set_cases l q) [ inl b ↦ inv.one k l a.0 b.0 eq | inr e ↦ absurd (a.1 (eq ∙ ap (λ (z : Call). z.number) (sym e) ∙ same)) ]
        | inr e ↦ elim (set_cases l q) [ inl b ↦ absurd (b.1 (sym eq ∙ ap (λ (z : Call). z.number) (sym e) ∙ same)) | inr g ↦ sym e ∙ g ]
      ];
      given = λ k m. elim (set_cases k m) [ inl o ↦ inv.given k o.0 | inr e ↦ subst (λ z. z ≤ n) (sym same ∙ ap (λ (z : Call). z.number) e) (inv.given c in') ];
      order = number_set same;
    }
