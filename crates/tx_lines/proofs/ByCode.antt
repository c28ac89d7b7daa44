-- The ranges of one code stand together.
use Rattle.tx_lines.proofs.Common.{◌≡◌, ℕ, refl, ◌++◌, ◌+◌, ◌<◌, ◌≤◌, ◌==◌, true, false, List, [], ◌∷◌, length, get_or, cond, nat_lt, ap, sym, ◌∙◌, subst, length-append, arith, nat_tests, IsPartitionedBy, IsPartitionPoint, ordering_then, is_le, nat_cmp, Ordering, Less, Equal, Greater, LineRange, IsInOrder, IsFirst, AreFirsts}
use Rattle.std.proofs.lemmas.Grind.{common_steps}
use Rattle.tx_lines.proofs.Order.{rises, first_part}

-- an order by the first part alone
pub below_first : (a b : ℕ) (o : Ordering) → a < b → is_le (ordering_then (nat_cmp a b) o) ≡ true
below_first a b o l = ap (λ t. is_le (ordering_then (cond t Less (cond (a == b) Equal Greater)) o)) (let q : nat_lt a b ≡ true = grind (arith, nat_tests) in q)

pub above_first : (a b : ℕ) (o : Ordering) → b < a → is_le (ordering_then (nat_cmp a b) o) ≡ false
above_first a b o l =
    ap (λ t. is_le (ordering_then (cond t Less (cond (a == b) Equal Greater)) o)) (let q : nat_lt a b ≡ false = grind (arith, nat_tests) in q)
    ∙ ap (λ t. is_le (ordering_then (cond t Equal Greater) o)) (let q : (a == b) ≡ false = grind (arith, nat_tests) in q)

-- the codes of ranges in order rise
pub codes_rise : (ranges : List LineRange) → IsInOrder ranges → (code : ℕ) → IsPartitionedBy (λ (r : LineRange). nat_lt r.code code) ranges
codes_rise ranges ordered code i j d l h p =
    let x = get_or ranges i d in
    let y = get_or ranges j d in
    let up = first_part x.code y.code _ (rises ranges ordered code [] i j d l h) in
    let k = up.0 in
    let m : y.code < code = grind (arith, nat_tests) in
    (let q : nat_lt x.code code ≡ true = grind (arith, nat_tests) in q)

-- how many ranges are of codes before one rises with it
pub firsts_rise : (ranges : List LineRange) (code first end : ℕ) → IsFirst ranges code first → IsFirst ranges (code + 1) end → first ≤ end
firsts_rise ranges code first end f e =
    elim (nat_lt end first) as (λ b. nat_lt end first ≡ b → first ≤ end) [
      | false ↦ λ q. grind (arith, nat_tests)
      | true ↦ λ q.
          let d : LineRange = record { code = 0; low = []; high = [] } in
          let l : end < first = grind (arith, nat_tests) in
          let w = f.within in
          let a : (get_or ranges end d).code < code = f.point.0 end d (omega arith) l in
          let b : code + 1 ≤ (get_or ranges end d).code = e.point.1 end d (omega arith) (omega arith) in
          absurd (omega arith)
    ] refl

-- from the tests of a search
pub first_from : (ranges : List LineRange) (code first : ℕ) → first ≤ length ranges → IsPartitionPoint (λ y. nat_lt y.code code ≡ true) (λ y. nat_lt y.code code ≡ false) ranges first → IsFirst ranges code first
first_from ranges code first within point = record {
  within = within;
  point = (λ j d l h. (let p = point.0 j d l h in grind (arith, nat_tests)), λ j d l h. (let p = point.1 j d l h in grind (arith, nat_tests)));
}

-- one code more
pub firsts_more : (ranges : List LineRange) (firsts : List ℕ) (first : ℕ) → AreFirsts ranges firsts → IsFirst ranges (length firsts) first → AreFirsts ranges (firsts ++ first ∷ [])
firsts_more ranges firsts first all one code h =
    let n = length-append firsts (first ∷ []) in
    elim (nat_lt code (length firsts)) as (λ b. nat_lt code (length firsts) ≡ b → IsFirst ranges code (get_or (firsts ++ first ∷ []) code 0)) [
      | true ↦ λ e.
          let l : code < length firsts = grind (arith, nat_tests) in
          let g : get_or (firsts ++ first ∷ []) code 0 ≡ get_or firsts code 0 = grind (arith, common_steps) in
          subst (λ x. IsFirst ranges code x) (sym g) (all code l)
      | false ↦ λ e.
          let l : length firsts ≤ code = grind (arith, nat_tests) in
          let m : length firsts ≡ code = omega arith in
          let g : get_or (firsts ++ first ∷ []) (length firsts) 0 ≡ first = grind (arith, common_steps) in
          subst (λ c. IsFirst ranges c (get_or (firsts ++ first ∷ []) c 0)) m (subst (λ x. IsFirst ranges (length firsts) x) (sym g) one)
    ] refl
