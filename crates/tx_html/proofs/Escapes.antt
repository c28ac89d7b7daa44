-- Escaped texts.
use Rattle.std.proofs.Common.{◌≡◌, ℕ, Bool, true, false, List, [], ◌∷◌, ◌++◌, refl, ap, ◌∙◌}
use Rattle.std.specs.Prelude.{not, ◌&&◌, ◌||◌, ◌==◌, nat_le, if◌then◌else◌, codes}
use Rattle.std.specs.List.{list_any, list_all}
use Rattle.std.proofs.lemmas.Bool.{false≢true, and_parts, or_from}
use Rattle.std.proofs.lemmas.List.Folds.{list_any-append}
use Rattle.tx_html.specs.Escaped.{is_markup, is_plain, entity, escaped_byte, escaped, NoTextIsMarkup}

if_so : (t : Bool) (xs ys : List ℕ) → t ≡ true → (if t then xs else ys) ≡ xs
if_so true xs ys h = refl
if_so false xs ys h = absurd (false≢true h)

-- a text of plain bytes stands for itself
pub escaped_plain : (text : List ℕ) → list_all is_plain text ≡ true → escaped text ≡ text
escaped_plain [] h = refl
escaped_plain (b ∷ text) h =
    let parts = and_parts (is_plain b) (list_all is_plain text) h in
    ap (λ l. l ++ escaped text) (if_so (is_plain b) (b ∷ []) (entity b) parts.0) ∙ ap (λ l. b ∷ l) (escaped_plain text parts.1)

-- ---- no markup

none_of : (t : Bool) → not t ≡ true → (t || false) ≡ false
none_of true h = absurd (false≢true h)
none_of false h = refl

none_if : (t : Bool) (xs ys : List ℕ) → (t ≡ true → list_any is_markup xs ≡ false) → list_any is_markup ys ≡ false → list_any is_markup (if t then xs else ys) ≡ false
none_if true xs ys v w = v refl
none_if false xs ys v w = w

-- a plain byte is none
plain_none : (b : ℕ) → is_plain b ≡ true → list_any is_markup (b ∷ []) ≡ false
plain_none b h = none_of (is_markup b) (and_parts (not (is_markup b)) (not (b == 38) && (nat_le 32 b && not (b == 127))) h).0

-- nor is one in what stands for other bytes
entity_none : (b : ℕ) → list_any is_markup (entity b) ≡ false
entity_none b =
    none_if (b == 60) (codes "&lt;") _ (λ _. refl)
    (none_if (b == 62) (codes "&gt;") _ (λ _. refl)
    (none_if (b == 38) (codes "&amp;") _ (λ _. refl)
    (none_if (b == 34) (codes "&quot;") _ (λ _. refl)
    (none_if (b == 39) (codes "&#39;") (codes "?") (λ _. refl) refl))))

pub none_is_markup : NoTextIsMarkup
none_is_markup [] = refl
none_is_markup (b ∷ text) =
    list_any-append is_markup (escaped_byte b) (escaped text)
    ∙ or_from (list_any is_markup (escaped_byte b)) (list_any is_markup (escaped text)) (none_if (is_plain b) (b ∷ []) (entity b) (plain_none b) (entity_none b)) (none_is_markup text)
