-- The faults or warnings of a text, by what was read of it.
use Rattle.std.proofs.Common.{◌≡◌, ◌≢◌, ◌==◌, ℕ, true, false, List, [], ◌∷◌, map, length, refl, sym, ap, subst, ◌∙◌, arith}
use Rattle.std.proofs.lemmas.Bool.{false≢true, eqb-true}
use Rattle.tx_lint.proofs.Common.{Plan, NamedRisk, Entry, Fault, Progress}
use Rattle.tx_lint.specs.declared.fault.Fault.{Fault as FaultHeld}
use Rattle.tx_lint.specs.Gathered.{Told, told_of}
use Rattle.tx_lint.specs.Lints.{Lint, Faults, AreWarningsOf, IsLintBy, fault_held}

-- some faults were reported
pub some_faults : (held : List FaultHeld) (fs : List Fault) (n : ℕ) → n ≡ length held
    → (n == 0) ≡ false → map fault_held held ≡ fs → fs ≢ []
some_faults [] fs n long some e none = false≢true (sym some ∙ ap (λ k. k == 0) long)
some_faults (f ∷ held) fs n long some e none = let bad : ⊥ = cc in bad

-- none were
pub no_faults : (held : List FaultHeld) (fs : List Fault) (n : ℕ) → n ≡ length held
    → (n == 0) ≡ true → map fault_held held ≡ fs → fs ≡ []
no_faults [] fs n long none e = sym e
no_faults (f ∷ held) fs n long none e =
    let zero = eqb-true n 0 none in absurd (omega (arith, zero, long))

-- of a text with faults
pub faulty_is : (faults : List Fault) (s : Progress) (risks : List NamedRisk) (told : List Told)
    → told ≡ told_of faults → faults ≢ [] → IsLintBy faults s risks (Faults told)
faulty_is [] s risks told e some = absurd (some refl)
faulty_is (f ∷ fs) s risks told e some = ap Faults e

-- of one without
pub right_is : (faults : List Fault) (s : Progress) (risks : List NamedRisk)
    (t : Plan × List (ℕ × Entry)) (l : Lint) → faults ≡ [] → t ≡ (s.plan, s.entries)
    → AreWarningsOf t.0 t.1 risks l → IsLintBy faults s risks l
right_is faults s risks t l none is w =
    subst (λ (fs : List Fault). IsLintBy fs s risks l) (sym none)
    (subst (λ (k : Plan × List (ℕ × Entry)). AreWarningsOf k.0 k.1 risks l) is w)
