-- The table of the groups that go with an outage.
use Rattle.tx_risk.proofs.Common.{◌≡◌, ℕ, ◌+◌, ◌<◌, Bool, true, false, List, [], ◌∷◌, ◌++◌, inl, inr, length, Option, Some, None, refl, sym, ap, ◌∙◌, arith, false_from_ne_true, none-some, slice_get, option_map_or, entry_at, at_push, Risk, marked}
use Rattle.std.proofs.lemmas.List.{length_push}

-- the first groups are marked as the risk says
pub record AreMarksBelow (risk : Risk) (i : ℕ) (marks : List Bool) : Type 0 where
  pub long : length marks ≡ i
  pub each : (g : ℕ) (b : Bool) → slice_get marks g ≡ Some b → b ≡ risk g

module _ (risk : Risk) where
  pub marks_first : (marks : List Bool) → marks ≡ [] → AreMarksBelow risk 0 marks
  marks_first marks e =
      record {
        long = ap length e;
        each = λ g b h. let q = ap (λ l. slice_get l g) e in
            let bad : ⊥ = cc in absurd bad;
      }

  pub marks_next : (i : ℕ) (marks : List Bool) (b : Bool) → AreMarksBelow risk i marks → b ≡ risk i
      → AreMarksBelow risk (i + 1) (marks ++ b ∷ [])
  marks_next i marks b m e = record {
    long = let n = length_push marks b in let l = m.long in omega arith;
    each = λ g c h. elim (at_push marks b c g h) [
      | inl a ↦ m.each g c a
      | inr q ↦
          q.1 ∙ e ∙ ap risk (sym (q.0 ∙ m.long))
    ];
  }

  -- no other group goes
  pub marks_all : (i : ℕ) (marks : List Bool) → ((g : ℕ) → risk g ≡ true → g < i)
      → AreMarksBelow risk i marks → (g : ℕ) → marked marks g ≡ risk g
  marks_all i marks few m g = at (slice_get marks g) refl
    where
      at : (o : Option Bool) → slice_get marks g ≡ o → option_map_or (λ b. b) o false ≡ risk g
      at (Some b) e = m.each g b e
      at None e = sym (false_from_ne_true _ (λ t.
          let l = few g t in
          let n = m.long in
          none-some _ (sym e ∙ (entry_at marks g (omega arith)).1)))

-- a risk that says the same of each group is the same
pub same_risk : (risk other : Risk) → ((g : ℕ) → risk g ≡ other g) → risk ≡ other
same_risk risk other each = λ i g. each g i
