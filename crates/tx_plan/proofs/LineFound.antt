-- A line that is found is the one that was asked for.
use Rattle.tx_plan.proofs.Common.{◌≡◌, ℕ, Bool, true, false, ◌&&◌, if◌then◌else◌, List, unwrap_or, Option, Some, None, ap, Line}

abbrev pub line_of : ℕ → List ℕ → Line
line_of code number = record { code = code; national = number }

pub line_if : (code : ℕ) (a b : Bool) (t n : List ℕ) (f : List ℕ → Bool) → Some n ≡ (if a then Some t else None) → b ≡ f n
    → (if b then Some (line_of code n) else None) ≡ (if a && f t then Some (line_of code t) else None)
line_if code true b t n f e h =
    let same : n ≡ t = ap (λ (o : Option (List ℕ)). unwrap_or o n) e in
    rw h (ap (λ w. if f w then Some (line_of code w) else None) same)
line_if code false b t n f e h = absurd (cc)
