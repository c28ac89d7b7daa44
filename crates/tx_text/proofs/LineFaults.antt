-- What is wrong with a line, and with a part of it.
use Rattle.tx_text.proofs.Common.{◌≡◌, ℕ, ◌+◌, ◌-◌, ◌<◌, ◌≤◌, ◌++◌, Bool, true, false, cond, eqb, Some, List, length, take, get_or, refl, ap, arith, length-take, length-append, lt-ltb, LineTooLong, line_fault}
use Rattle.std.proofs.Math.Seq.{take-length}
use Rattle.tx_text.specs.Text.{without_cr, bytes_fault, begun_fault}

cr_len : (line : List ℕ) (b : Bool) → length line ≤ length (cond b (take (length line - 1) line) line) + 1
cr_len line true = omega (arith, length-take (length line - 1) line)
cr_len line false = omega arith

pub length-without_cr : (line : List ℕ) → length line ≤ length (without_cr line) + 1
unfolding without_cr
length-without_cr line = cr_len line (eqb (get_or line (length line - 1) 0) 13)

taken : (line : List ℕ) (b : Bool) → take (length (cond b (take (length line - 1) line) line)) line ≡ cond b (take (length line - 1) line) line
taken line true = ap (λ n. take n line) (omega (arith, length-take (length line - 1) line))
taken line false = take-length line

pub take_without_cr : (line : List ℕ) → take (length (without_cr line)) line ≡ without_cr line
unfolding without_cr
take_without_cr line = taken line (eqb (get_or line (length line - 1) 0) 13)

-- a line that has no room is too long, whatever bytes follow
pub too_long : (lf : Bool) (begun front : List ℕ) → 513 < length begun + length front → Some LineTooLong ≡ line_fault lf (begun ++ front)
unfolding begun_fault bytes_fault
too_long true begun front h = rw (lt-ltb 512 (length (without_cr (begun ++ front))) (omega (arith, h, length-without_cr (begun ++ front), length-append begun front))) refl
too_long false begun front h = rw (lt-ltb 512 (length (without_cr (begun ++ front))) (omega (arith, h, length-without_cr (begun ++ front), length-append begun front))) refl
