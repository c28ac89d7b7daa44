-- When two circuits or two lines are one, and orders for sets of them.
use Rattle.std.specs.Prelude.{ℕ, Bool, ◌&&◌, ◌==◌, List, refl}
use Rattle.std.specs.Ordering.{ordering_then, nat_cmp}
use Rattle.std.specs.declared.cmp.Ordering.{Ordering}
use Rattle.std.specs.Cmp.Lexicographic.{slice_cmp}
use Rattle.std.specs.Coded.{Coded, code_by, coded×, coded_ℕ, coded_list}
use Rattle.std.specs.Str.{bytes_eq}
use Rattle.tx_plan.specs.declared.ids.Circuit.{Circuit}
use Rattle.tx_plan.specs.declared.ids.Line.{Line}

-- of one group, and with one number there
abbrev pub same_circuit : Circuit → Circuit → Bool
same_circuit x y = (x.group == y.group) && (x.number == y.number)

-- of one code, and with one national number
abbrev pub same_line : Line → Line → Bool
same_line l m = (l.code == m.code) && bytes_eq l.national m.national

-- by group, and then by number
abbrev pub circuit_cmp : Circuit → Circuit → Ordering
circuit_cmp x y = ordering_then (nat_cmp x.group y.group) (nat_cmp x.number y.number)

-- by code, and then by the figures
abbrev pub line_cmp : Line → Line → Ordering
line_cmp l m = ordering_then (nat_cmp l.code m.code) (slice_cmp nat_cmp l.national m.national)

-- circuits and lines as pairs, so that sets of them are values
abbrev pub coded_circuit : Coded Circuit
coded_circuit = code_by (ℕ × ℕ) (coded× coded_ℕ coded_ℕ)
    (λ x. (x.group, x.number)) (λ p. record { group = p.0; number = p.1 }) (λ _. refl)

-- lines as pairs
abbrev pub coded_line : Coded Line
coded_line = code_by (ℕ × List ℕ) (coded× coded_ℕ (coded_list coded_ℕ))
    (λ x. (x.code, x.national)) (λ p. record { code = p.0; national = p.1 }) (λ _. refl)
