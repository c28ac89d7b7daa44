-- Whether calls may start at each exchange, one exchange after another.
use Rattle.tx_rank.proofs.Common.{◌≡◌, ℕ, zero, suc, ◌+◌, Bool, List, [], ◌∷◌, ◌++◌, length, ◌⊎◌, inl, inr, Some, sym, ap, ◌∙◌, arith, slice_get, Plan, is_origin}
use Rattle.std.proofs.lemmas.List.{length_push}
use Rattle.tx_rank.specs.Judged.{AreOrigins}

pub record AreOriginsBelow (p : Plan) (i : ℕ) (origins : List Bool) : Type 0 where
  pub long : length origins ≡ i
  pub each : (x : ℕ) (b : Bool) → slice_get origins x ≡ Some b → b ≡ is_origin p x

pub at_push : {A : Type 0} (xs : List A) (y z : A) (i : ℕ) → slice_get (xs ++ y ∷ []) i ≡ Some z → (slice_get xs i ≡ Some z) ⊎ ((i ≡ length xs) × (z ≡ y))
at_push [] y z zero h = inr (cc, cc)
at_push [] y z (suc i) h = absurd (let bad : ⊥ = cc in bad)
at_push (x ∷ xs) y z zero h = inl h
at_push (x ∷ xs) y z (suc i) h = elim (at_push xs y z i h) [ inl a ↦ inl a | inr b ↦ inr (ap suc b.0, b.1) ]

pub origins_next : (p : Plan) (i : ℕ) (origins : List Bool) (b : Bool) → AreOriginsBelow p i origins → b ≡ is_origin p i → AreOriginsBelow p (i + 1) (origins ++ b ∷ [])
origins_next p i origins b o e =
    record {
      long = let n = length_push origins b in let l = o.long in omega arith;
      each = λ x z h. elim (at_push origins b z x h) [ inl a ↦ o.each x z a | inr q ↦ q.1 ∙ e ∙ ap (is_origin p) (sym (q.0 ∙ o.long)) ];
    }

pub origins_all : (p : Plan) (i : ℕ) (origins : List Bool) → AreOriginsBelow p i origins → i ≡ length p.exchanges → AreOrigins p origins
origins_all p i origins o e = record { long = o.long ∙ e; each = o.each }
