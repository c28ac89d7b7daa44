-- A text with zeros after it, up to its room.
use Rattle.std.proofs.Common.{◌≡◌, ℕ, ◌-◌, ◌≤◌, List, ◌++◌, length, drop, replicate, ap, sym, ◌∙◌, arith}
use Rattle.std.proofs.Math.Seq.{take-append_seam}
use Rattle.std.proofs.lemmas.List.{append-nil, drop-replicate}
use Rattle.tx_text.specs.inner.Padded.{IsPadded, padded_to}

-- a text that fills its room
pub padded_full : (room : ℕ) (text : List ℕ) → length text ≡ room → text ≡ padded_to room text
padded_full room text full =
    let none : room - length text ≡ 0 = omega (arith, full) in
    sym (ap (λ n. text ++ replicate n 0) none ∙ append-nil text)

-- a text that is copied to the front of zeros
pub padded_copy : (room : ℕ) (text : List ℕ) → text ++ drop (length text) (replicate room 0) ≡ padded_to room text
padded_copy room text = ap (λ zs. text ++ zs) (drop-replicate (length text) room 0)

pub padded_text : (room : ℕ) (text : List ℕ) → length text ≤ room → IsPadded room (length text) (padded_to room text)
padded_text room text fits =
    let zeros = replicate (room - length text) 0 in
    let front = take-append_seam text zeros in
    record { fits = fits; short = ap length front; padded = ap (λ t. t ++ zeros) (sym front) }
