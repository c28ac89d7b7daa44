-- The laws of `==` on lines, and what is hashed of a line.
use Rattle.std.specs.Prelude.{◌≡◌, true, ◌==◌, List, ℕ, [], ◌∷◌, ◌++◌, refl}
use Rattle.std.specs.Cmp.{IsEquivalence}
use Rattle.std.specs.Hash as fed
use Rattle.std.specs.Str.{bytes_eq}
use Rattle.std.proofs.Common.{ap, ◌∙◌, eqb-true, eq-eqb}
use Rattle.std.proofs.lemmas.Bool.{and_parts, and_from}
use Rattle.std.proofs.lemmas.Bool.Decides.{same_from_decides}
use Rattle.std.proofs.lemmas.Slice.Eq.{bytes_eq-Decides}
use Rattle.tx_text.specs.inner.Padded.{padded_to}
use Rattle.tx_plan.specs.declared.ids.Line.{Line}
use Rattle.tx_plan.specs.Orders.{same_line}

pub same_line-is : (l m : Line) → same_line l m ≡ true → l ≡ m
same_line-is l m h =
    let r = and_parts (l.code == m.code) (bytes_eq l.national m.national) h in
    λ i. record {
      code = eqb-true l.code m.code r.0 i;
      national = (bytes_eq-Decides l.national m.national).0 r.1 i;
    }

pub same_line-itself : (l : Line) → same_line l l ≡ true
same_line-itself l = and_from (l.code == l.code) (bytes_eq l.national l.national)
    (eq-eqb l.code l.code refl) ((bytes_eq-Decides l.national l.national).1 refl)

pub same_line_equiv : IsEquivalence same_line
same_line_equiv = record {
  refl = same_line-itself;
  symm = λ l m. same_from_decides {P = same_line m l ≡ true} (same_line l m)
      (same_line m l) (
        λ h. ap (λ z. same_line m z) (same_line-is l m h) ∙ same_line-itself m,
        λ h.
            ap (λ z. same_line l z) (same_line-is m l h) ∙ same_line-itself l,
      ) (λ h. h, λ h. h);
  congr = λ l m n h. ap (λ z. same_line z n) (same_line-is l m h);
}

-- the bytes of a line that are hashed: its code, and its figures with zeros after them up to nine
abbrev pub line_bytes : Line → List (List ℕ)
line_bytes l = fed.u16 l.code ++ padded_to 9 l.national ∷ []
