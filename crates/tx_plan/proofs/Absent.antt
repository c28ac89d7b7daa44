-- A word that is no name names nothing.
use Rattle.tx_plan.proofs.Common.{◌≡◌, ℕ, ◌<◌, ◌≤◌, Bool, true, false, not, ◌&&◌, ◌||◌, nat_le, List, [], ◌∷◌, length, Option, Some, None, is_some, refl, sym, ap, ◌∙◌, arith, position, bytes_eq, bytes_eq-Decides, is_code, IsPlan, IsGroup, Plan, Group, exchange_named, code_named, group_named, has_exchange, has_code, has_group}
use Rattle.std.specs.List.{AllByRecursion, list_all}
use Rattle.std.proofs.lemmas.Bool.{leb-true, and_parts}
use Rattle.std.proofs.Math.Bool.{or-false, or-true}
use Rattle.tx_text.specs.Words.{is_name, is_letter, is_figure}
use Rattle.tx_plan.proofs.Lists.{no_index, found_any}

same_not : (b : Bool) → (b ≡ true → true ≡ false) → b ≡ false
same_not true k = k refl
same_not false k = refl

-- entries whose words pass a test that the word fails
others : {A : Type 0} (ok : List ℕ → Bool) (word : A → List ℕ) (P : A → Type 0) (w : List ℕ) (xs : List A) → ((x : A) → P x → ok (word x) ≡ true) → ok w ≡ false → AllByRecursion P xs → AllByRecursion (λ x. bytes_eq w (word x) ≡ false) xs
others ok word P w [] k h all = tt
others ok word P w (x ∷ xs) k h all =
    (same_not (bytes_eq w (word x)) (λ e. sym (k x all.0) ∙ ap ok (sym ((bytes_eq-Decides w (word x)).0 e)) ∙ h), others ok word P w xs k h all.1)

pub unnamed : {A : Type 0} (ok : List ℕ → Bool) (word : A → List ℕ) (P : A → Type 0) (w : List ℕ) (xs : List A) → ((x : A) → P x → ok (word x) ≡ true) → ok w ≡ false → AllByRecursion P xs → position (λ x. bytes_eq w (word x)) xs ≡ None
unnamed ok word P w xs k h all = no_index (λ x. bytes_eq w (word x)) xs (others ok word P w xs k h all)

-- a text too long for the words that pass
pub too_long : (ok : List ℕ → Bool) (n : ℕ) → ((w : List ℕ) → ok w ≡ true → length w ≤ n) → (w : List ℕ) → n < length w → ok w ≡ false
too_long ok n short w h = same_not (ok w) (λ e. absurd (let s = short w e in omega (arith, s, h)))

pub short_name : (w : List ℕ) → is_name w ≡ true → length w ≤ 8
short_name [] e = absurd (cc)
short_name (b ∷ bs) e =
    let l = leb-true (length bs) 7 (and_parts (is_letter b && list_all (λ x. is_letter x || is_figure x) bs) (nat_le (length bs) 7) e).1 in omega (arith, l)

pub short_code : (w : List ℕ) → is_code w ≡ true → length w ≤ 3
short_code w e =
    leb-true (length w) 3 (and_parts (nat_le 2 (length w)) (nat_le (length w) 3) (and_parts (nat_le 2 (length w) && nat_le (length w) 3) (list_all is_figure w) e).0).1

-- nothing was found
pub none_found : {A : Type 0} (o : Option A) → ((x : A) → o ≡ Some x → ⊥) → false ≡ is_some o
none_found None h = refl
none_found (Some x) h = absurd (h x refl)

pub nothing : {A : Type 0} (o : Option A) → ((x : A) → o ≡ Some x → ⊥) → o ≡ None
nothing None h = refl
nothing (Some x) h = absurd (h x refl)

-- whether a look-up by a name found something is whether that is declared
module _ (p : Plan) (w : List ℕ) (o : Option ℕ) (b : Bool) where
  pub has_exchange-is : o ≡ exchange_named p w → b ≡ is_some o → has_exchange p w ≡ b
  has_exchange-is e h = sym (h ∙ ap is_some e ∙ found_any (bytes_eq w) p.exchanges)

  pub has_code-is : o ≡ code_named p w → b ≡ is_some o → has_code p w ≡ b
  has_code-is e h = sym (h ∙ ap is_some e ∙ found_any (λ c. bytes_eq w c.figures) p.codes)

  pub has_group-is : o ≡ group_named p w → b ≡ is_some o → has_group p w ≡ b
  has_group-is e h = sym (h ∙ ap is_some e ∙ found_any (λ g. bytes_eq w g.name) p.groups)

-- what is seen of a word that names a group, beside what was seen of the words before it
module _ (p : Plan) (w : List ℕ) (group : ℕ) (old : Bool) (found : Some group ≡ group_named p w)
  where
    found_name : IsPlan p → is_name w ≡ true
    found_name h = by_test (is_name w) refl
      where
        by_test : (b : Bool) → is_name w ≡ b → b ≡ true
        by_test true k = refl
        by_test false k = sym (ap is_some (found ∙ unnamed is_name (λ (r : Group). r.name) (IsGroup p)
            w p.groups (λ x g. g.name) k h.groups))

    kept : (right : Bool) → right ≡ true → old ≡ (old || not right)
    kept right e = sym (ap (λ b. old || not b) e ∙ or-false old)

    pub bad_kept : IsPlan p → old ≡ (old || not (is_name w))
    bad_kept h = kept (is_name w) (found_name h)

    pub unknown_kept : old ≡ (old || not (has_group p w))
    unknown_kept = kept (has_group p w) (has_group-is p w (Some group) true found refl)

pub unknown_found : (p : Plan) (w : List ℕ) (old : Bool) → None ≡ group_named p w
    → true ≡ (old || not (has_group p w))
unknown_found p w old none = sym (ap (λ b. old || not b) (has_group-is p w None false none refl)
    ∙ or-true old)
