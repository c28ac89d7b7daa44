-- The value of figures, one after another.
use Rattle.std.proofs.Common.{◌≡◌, ℕ, ◌+◌, ◌-◌, ◌*◌, ◌^◌, ◌<◌, true, nat_le, List, length, take, get_or, sym, ap, ◌∙◌, arith, add-one}
use Rattle.tx_text.proofs.Common.{digits_value, and_parts, leb-true, is_figure}
use Rattle.std.specs.Char.{digit_value}
use Rattle.std.proofs.Math.Nat.{pow-suc}
use Rattle.std.proofs.lemmas.Str.{digit_value_digit}
use Rattle.std.proofs.lemmas.Int.Digits.{digits_value_more}

value_of_figure : (b : ℕ) → is_figure b ≡ true → (digit_value b ≡ b - 48) × (digit_value b < 10)
value_of_figure b h =
    let r = and_parts (nat_le 48 b) (nat_le b 57) h in
    let d = digit_value_digit b (leb-true 48 b r.0, leb-true b 57 r.1) in
    (omega (arith, d), omega (arith, d, leb-true b 57 r.1))

pub value_more : (text : List ℕ) (i v : ℕ) → i < length text → is_figure (get_or text i 0) ≡ true → v ≡ digits_value 10 (take i text) → v < 10 ^ i
    → (v * 10 + (get_or text i 0 - 48) ≡ digits_value 10 (take (i + 1) text)) × (v * 10 + (get_or text i 0 - 48) < 10 ^ (i + 1))
value_more text i v lt h e small =
    let d = value_of_figure (get_or text i 0) h in
    let p : 10 ^ (i + 1) ≡ 10 ^ i * 10 = rw add-one (pow-suc 10 i) in
    (ap (λ n. n * 10 + (get_or text i 0 - 48)) e ∙ ap (λ n. digits_value 10 (take i text) * 10 + n) (sym d.0) ∙ sym (digits_value_more 10 text i lt), omega (arith, p, d.0, d.1, small))
