-- Keys by circuit, and room for hops, when one call changes.
use Rattle.tx_engine.proofs.Common.{◌≡◌, ◌≢◌, inl, inr, ℕ, ◌<◌, ◌==◌, Bool, true, false, List, Option, Some, None, is_some, refl, sym, ap, subst, ◌∙◌, eqb-true, eq-eqb, eqb_tells, slice_get, if◌then◌else◌, option_and_then, option_map, option_map_or, same_circuit, same_circuit-itself, Plan, Group, is_circuit, other_end, ends_of, far_end, Among, Circuit, Calling, exchange_of, circuits_carried, an_end, Kept, KeptCalls, kept_at, Changes, EndKeys}
use Rattle.tx_engine.specs.inner.Keys.{HasKeys, keys_at, keys_of, pick, with_key, no_keys}
use Rattle.tx_engine.specs.inner.Sound.{AreKeyed, HasHopRoom, is_first_end}

-- KEYS BY CIRCUIT, AFTER THOSE OF ONE WERE WRITTEN
module _ (ks ks' : List (List EndKeys)) (x : Circuit) (w : EndKeys → EndKeys) (there : HasKeys ks x)
    (is : (y : Circuit) → keys_at ks' y ≡ (if same_circuit y x then option_map w (keys_at ks y) else keys_at ks y)) where
  pub keys_stay : (y : Circuit) → HasKeys ks y → HasKeys ks' y
  keys_stay y h = ap is_some (is y) ∙ by (same_circuit y x)
    where
      mapped : (o : Option EndKeys) → is_some o ≡ true → is_some (option_map w o) ≡ true
      mapped None h = h
      mapped (Some k) h = refl

      by : (b : Bool) → is_some (if b then option_map w (keys_at ks y) else keys_at ks y) ≡ true
      by true = mapped (keys_at ks y) h
      by false = h

  pub keys_here : keys_of ks' x ≡ w (keys_of ks x)
  keys_here = ap (λ o. option_map_or (λ (k : EndKeys). k) o no_keys) (is x ∙ ap (λ b. if b then option_map w (keys_at ks x) else keys_at ks x) (same_circuit-itself x)) ∙ by (keys_at ks x) there
    where
      by : (o : Option EndKeys) → is_some o ≡ true → option_map_or (λ (k : EndKeys). k) (option_map w o) no_keys ≡ w (option_map_or (λ (k : EndKeys). k) o no_keys)
      by None h = absurd (let bad : ⊥ = cc in bad)
      by (Some k) h = refl

  pub keys_else : (y : Circuit) → same_circuit y x ≡ false → keys_of ks' y ≡ keys_of ks y
  keys_else y ne = ap (λ o. option_map_or (λ (k : EndKeys). k) o no_keys) (is y ∙ ap (λ b. if b then option_map w (keys_at ks y) else keys_at ks y) ne)

pub pick_same : (first : Bool) (key : ℕ) (k : EndKeys) → pick first (with_key first key k) ≡ key
pick_same true key k = refl
pick_same false key k = refl

pub pick_other : (f first : Bool) (key : ℕ) (k : EndKeys) → (f ≡ first → ⊥) → pick f (with_key first key k) ≡ pick f k
pick_other true true key k ne = absurd (ne refl)
pick_other true false key k ne = refl
pick_other false true key k ne = refl
pick_other false false key k ne = absurd (ne refl)

-- two ends of a group that are both its first end, or both not, are one
pub ends_same : (p : Plan) (g x y a b : ℕ) → other_end p g x ≡ Some a → other_end p g y ≡ Some b → ((ends_of p g).0 == x) ≡ ((ends_of p g).0 == y) → x ≡ y
ends_same p g x y a b hx hy same = at (slice_get p.groups g) hx hy same
  where
    ends_at : Option Group → ℕ × ℕ
    ends_at o = option_map_or (λ (r : Group). (r.a, r.b)) o (0, 0)

    at : (o : Option Group) → option_and_then (λ r. far_end r x) o ≡ Some a → option_and_then (λ r. far_end r y) o ≡ Some b → ((ends_at o).0 == x) ≡ ((ends_at o).0 == y) → x ≡ y
    at None hx hy same = absurd (let bad : ⊥ = cc in bad)
    at (Some r) hx hy same = elim (an_end r x a hx) [
      | inl ex ↦ sym ex ∙ eqb-true r.a y (sym same ∙ eq-eqb r.a x ex)
      | inr ex ↦ elim (an_end r y b hy) [
        | inl ey ↦ sym (eqb-true r.a x (same ∙ eq-eqb r.a y ey)) ∙ ey
        | inr ey ↦ sym ex ∙ ey
      ]
    ]

-- WHAT IS KEPT UNDER A KEY CHANGED
module _ (p : Plan) (c c' : KeptCalls) (key : ℕ) (ks ks' : List (List EndKeys)) (keyed : AreKeyed p c ks) (all : (x : Circuit) → is_circuit p x ≡ true → HasKeys ks' x) where
  pub keyed_updated : (d : Kept) → Changes c c' key (Some d)
      → ((x : Circuit) → d.call.phase ≡ Calling x → pick (is_first_end p x (exchange_of p d.call)) (keys_of ks' x) ≡ key)
      → ((x : Circuit) → Among x (circuits_carried d.call) → (f : Bool) → pick f (keys_of ks' x) ≡ key)
      → ((k : ℕ) (e : Kept) → k ≢ key → kept_at c k ≡ Some e → (x : Circuit) → e.call.phase ≡ Calling x → pick (is_first_end p x (exchange_of p e.call)) (keys_of ks' x) ≡ pick (is_first_end p x (exchange_of p e.call)) (keys_of ks x))
      → ((k : ℕ) (e : Kept) → k ≢ key → kept_at c k ≡ Some e → (x : Circuit) → Among x (circuits_carried e.call) → (f : Bool) → pick f (keys_of ks' x) ≡ pick f (keys_of ks x))
      → AreKeyed p c' ks'
  keyed_updated d up seizes carries same_seizers same_carriers = record {
    all = all;
    seizers = λ k e at x f. elim (eqb_tells k key) [
      | inl h ↦ (let both : Some e ≡ Some d = sym at ∙ subst (λ j. kept_at c' j ≡ Some d) (sym h.1) up.changed in let one : e ≡ d = cc in
          ap (λ (z : Kept). pick (is_first_end p x (exchange_of p z.call)) (keys_of ks' x)) one ∙ seizes x (ap (λ (z : Kept). z.call.phase) (sym one) ∙ f) ∙ sym h.1)
      | inr h ↦ (let old : kept_at c k ≡ Some e = sym (up.others k h.1) ∙ at in same_seizers k e h.1 old x f ∙ keyed.seizers k e old x f)
    ];
    carriers = λ k e at x m y. elim (eqb_tells k key) [
      | inl h ↦ (let both : Some e ≡ Some d = sym at ∙ subst (λ j. kept_at c' j ≡ Some d) (sym h.1) up.changed in let one : e ≡ d = cc in
          carries x (subst (λ (z : Kept). Among x (circuits_carried z.call)) one m) y ∙ sym h.1)
      | inr h ↦ (let old : kept_at c k ≡ Some e = sym (up.others k h.1) ∙ at in same_carriers k e h.1 old x m y ∙ keyed.carriers k e old x m y)
    ];
  }

pub hop_room_updated : (c c' : KeptCalls) (key : ℕ) (d : Kept) → Changes c c' key (Some d) → HasHopRoom c → ((x : Circuit) → d.call.phase ≡ Calling x → 0 < d.room) → HasHopRoom c'
hop_room_updated c c' key d up room new k e at x f = elim (eqb_tells k key) [
  | inl h ↦ (let both : Some e ≡ Some d = sym at ∙ subst (λ j. kept_at c' j ≡ Some d) (sym h.1) up.changed in let one : e ≡ d = cc in
      subst (λ (z : Kept). 0 < z.room) (sym one) (new x (ap (λ (z : Kept). z.call.phase) (sym one) ∙ f)))
  | inr h ↦ room k e (sym (up.others k h.1) ∙ at) x f
]

-- what is kept after a removal was kept before
pub kept_before : (c c' : KeptCalls) (key k : ℕ) (e : Kept) → Changes c c' key None → kept_at c' k ≡ Some e → kept_at c k ≡ Some e
kept_before c c' key k e up at = elim (eqb_tells k key) [
  | inl h ↦ absurd (let bad : None ≡ Some e = sym up.changed ∙ subst (λ j. kept_at c' j ≡ Some e) h.1 at in cc)
  | inr h ↦ sym (up.others k h.1) ∙ at
]

pub keyed_removed : (p : Plan) (c c' : KeptCalls) (key : ℕ) (ks : List (List EndKeys)) → Changes c c' key None → AreKeyed p c ks → AreKeyed p c' ks
keyed_removed p c c' key ks up keyed = record {
  all = keyed.all;
  seizers = λ k e at x f. keyed.seizers k e (kept_before c c' key k e up at) x f;
  carriers = λ k e at x m f. keyed.carriers k e (kept_before c c' key k e up at) x m f;
}

pub hop_room_removed : (c c' : KeptCalls) (key : ℕ) → Changes c c' key None → HasHopRoom c → HasHopRoom c'
hop_room_removed c c' key up room k e at x f = room k e (kept_before c c' key k e up at) x f
