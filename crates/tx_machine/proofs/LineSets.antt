-- A set of lines without one.
use Rattle.tx_machine.proofs.Common.{◌≡◌, Bool, true, false, not, ◌&&◌, ◌||◌, cond, List, [], ◌∷◌, refl, ap, sym, ◌∙◌, filter, list_any, and-false, line_cmp, same_line, Line}
use Rattle.std.specs.FinSet as set
use Rattle.tx_plan.proofs.Named.{lines_total, exact_lines, line_tie, in_lines, same_line-is, same_line_equiv}

rest_any : (l q : Line) (ls : List Line) → list_any (λ m. same_line m q) (filter (λ m. not (same_line m l)) ls) ≡ (not (same_line q l) && list_any (λ m. same_line m q) ls)
rest_any l q [] = sym (and-false (not (same_line q l)))
rest_any l q (m ∷ ls) =
    elim (same_line m l) as (λ b. same_line m l ≡ b → list_any (λ m. same_line m q) (cond (not b) (m ∷ filter (λ m. not (same_line m l)) ls) (filter (λ m. not (same_line m l)) ls)) ≡ (not (same_line q l) && (same_line m q || list_any (λ m. same_line m q) ls))) [
      | true ↦ λ t. rest_any l q ls ∙ drop_one (same_line q l) (same_line m q) (list_any (λ m. same_line m q) ls) (λ e. ap (λ z. same_line z l) (sym (same_line-is m q e)) ∙ t)
      | false ↦ λ t. ap (λ b. same_line m q || b) (rest_any l q ls) ∙ keep_one (same_line q l) (same_line m q) (list_any (λ m. same_line m q) ls) (λ e. ap (λ z. same_line z l) (sym (same_line-is m q e)) ∙ t)
    ] refl
  where
    drop_one : (a b c : Bool) → (b ≡ true → a ≡ true) → (not a && c) ≡ (not a && (b || c))
    drop_one a false c h = refl
    drop_one a true c h = ap (λ z. not z && c) (h refl) ∙ sym (ap (λ z. not z && true) (h refl))

    keep_one : (a b c : Bool) → (b ≡ true → a ≡ false) → (b || (not a && c)) ≡ (not a && (b || c))
    keep_one a false c h = refl
    keep_one a true c h = sym (ap (λ z. not z && true) (h refl))

pub lines_without : (ls : List Line) (l : Line) → set.from_list {R = line_cmp} (filter (λ m. not (same_line m l)) ls) ≡ set.remove (set.from_list ls) l
lines_without ls l =
    set.same_set lines_total exact_lines _ _ (λ q.
    in_lines (filter (λ m. not (same_line m l)) ls) q ∙ rest_any l q ls
    ∙ sym (set.contains-remove lines_total (set.from_list ls) l q ∙ (λ i. not ((line_tie q l ∙ same_line_equiv.symm l q) i) && in_lines ls q i)))
