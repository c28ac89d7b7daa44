-- The line that calls, and the code that it keys.
use Rattle.tx_audit.proofs.Common.{◌≡◌, ℕ, zero, suc, ◌+◌, ◌<◌, ◌≤◌, ◌==◌, true, ◌&&◌, List, [], ◌∷◌, inl, inr, length, Option, Some, None, refl, sym, ap, ◌∙◌, subst, eqb-true, eq-eqb, arith, is_some, option_and_then, option_map, option_map_or, are_figures, Plan, Code, home_of, figures_of, IsPlan, IsRange, is_origin, Line, LineRange, entry_at, Among, first_range, calls_from, first_code, low_line, first_line}
use Rattle.std.proofs.lemmas.Bool.{false≢true, and_parts, and_from, cases_lt, lt-ltb, le-ltb}
use Rattle.std.specs.List.{range_with_len, enumerate_from}
use Rattle.std.specs.Ordering.{is_le}
use Rattle.std.specs.Cmp.Lexicographic.{nat_list_cmp_total}
use Rattle.std.proofs.lemmas.Cmp.{tied_itself}
use Rattle.tx_plan.proofs.Longest.{longest_among}
use Rattle.tx_rank.proofs.Certifying.{prefix_whole}
use Rattle.tx_plan.specs.Lines.{at_most, in_range, is_line}
use Rattle.tx_plan.specs.Codes.{after, is_prefix, codes_before, longer, longest, code_of}
use Rattle.tx_plan.proofs.Among.{among_indexes, among_filter, filter_among}
use Rattle.tx_machine.proofs.Lists.{any_mem, mem_any, find_mem, indexes_differ}
use Rattle.tx_machine.proofs.Steps.{all_mem, enumerated}
use Rattle.tx_audit.proofs.Choices.{find_some}

-- THE CODE THAT IS KEYED

after_itself : (xs : List ℕ) → after xs xs ≡ Some []
after_itself [] = refl
after_itself (x ∷ xs) = let e = eq-eqb x x refl in rw e (after_itself xs)

record IsLongest (es : List (ℕ × Code)) (e : ℕ × Code) : Type 0 where
  pub found : ℕ × Code
  pub longest' : longest es ≡ Some found
  pub long : length e.1.figures ≤ length found.1.figures

longest_most : (es : List (ℕ × Code)) (e : ℕ × Code) → Among e es → IsLongest es e
longest_most [] e m = elim m [ ]
longest_most (d ∷ es) e m = elim m [ inl q ↦ at (longest es) refl q | inr k ↦ later (longest_most es e k) ]
  where
    at : (o : Option (ℕ × Code)) → longest es ≡ o → d ≡ e → IsLongest (d ∷ es) e
    at None h q = record { found = d; longest' = ap (longer d) h; long = let l = ap (λ (c : ℕ × Code). length c.1.figures) q in omega arith }
    at (Some f) h q =
        elim (cases_lt (length f.1.figures) (length d.1.figures)) [
          | inl less ↦ (let t = lt-ltb (length f.1.figures) (length d.1.figures) less in record { found = d; longest' = ap (longer d) h ∙ rw t refl; long = let l = ap (λ (c : ℕ × Code). length c.1.figures) q in omega arith })
          | inr more ↦ (let t = le-ltb (length f.1.figures) (length d.1.figures) more in record { found = f; longest' = ap (longer d) h ∙ rw t refl; long = let l = ap (λ (c : ℕ × Code). length c.1.figures) q in omega arith })
        ]

    later : IsLongest es e → IsLongest (d ∷ es) e
    later r =
        elim (cases_lt (length r.found.1.figures) (length d.1.figures)) [
          | inl less ↦ (let t = lt-ltb (length r.found.1.figures) (length d.1.figures) less in record { found = d; longest' = ap (longer d) r.longest' ∙ rw t refl; long = let l = r.long in omega arith })
          | inr more ↦ (let t = le-ltb (length r.found.1.figures) (length d.1.figures) more in record { found = r.found; longest' = ap (longer d) r.longest' ∙ rw t refl; long = r.long })
        ]

-- the figures of a code are keyed figures for it
pub code_itself : (p : Plan) → IsPlan p → (c : ℕ) → c < length p.codes → code_of p (figures_of p c) ≡ Some c
code_itself p ok c within =
    let row = entry_at p.codes c within in
    let keyed : List ℕ = row.0.figures in
    let figures : figures_of p c ≡ keyed = ap (λ o. option_map_or (λ (k : Code). k.figures) o []) row.1 in
    let starts : is_prefix keyed keyed ≡ true = ap is_some (after_itself keyed) in
    let among = among_filter (λ (e : ℕ × Code). is_prefix e.1.figures keyed) (0 + c, row.0) (enumerate_from 0 p.codes) (among_indexes 0 c row.0 p.codes row.1) starts in
    let most = longest_most (codes_before p keyed) (0 + c, row.0) among in
    let d = most.found in
    let m = filter_among (λ (e : ℕ × Code). is_prefix e.1.figures keyed) d (enumerate_from 0 p.codes) (longest_among (codes_before p keyed) d most.longest') in
    let same = prefix_whole d.1.figures keyed m.1 most.long in
    let index = enumerated 0 p.codes d m.0 in
    let one = indexes_differ (λ (a b : Code). a.figures ≡ b.figures) (λ a b e. sym e) p.codes ok.codes_differ index.0 c d.1 row.0 index.2 row.1 same in
    let at : d.0 ≡ c = (let z = index.1 in omega arith) in
    ap (code_of p) figures ∙ ap (option_map (λ (e : ℕ × Code). e.0)) most.longest' ∙ ap Some at

-- THE LINE THAT CALLS

in_range_len : (a n k : ℕ) → k < n → Among (a + k) (range_with_len a n)
in_range_len a zero k h = absurd (omega arith)
in_range_len a (suc n) zero h = inl (let e : a ≡ a + 0 = omega arith in e)
in_range_len a (suc n) (suc k) h = inr (subst (λ z. Among z (range_with_len (a + 1) n)) (let e : (a + 1) + k ≡ a + suc k = omega arith in e) (in_range_len (a + 1) n k (omega arith)))

at_most_itself : (xs : List ℕ) → at_most xs xs ≡ true
at_most_itself xs = ap is_le (tied_itself nat_list_cmp_total xs)

-- the low end of a range is a line
low_is_line : (p : Plan) → IsPlan p → (c : ℕ) (r : LineRange) → Among r p.ranges → (r.code == c) ≡ true → is_line p (low_line c r) ≡ true
low_is_line p ok c r m e =
    let h = all_mem (IsRange p) p.ranges r ok.ranges m in
    let within : in_range r.low r ≡ true = and_from (length r.low == length r.low) _ (eq-eqb (length r.low) (length r.low) refl) (and_from (at_most r.low r.low) _ (at_most_itself r.low) h.order) in
    and_from (are_figures 1 9 r.low) _ h.low (mem_any (λ (q : LineRange). (q.code == c) && in_range r.low q) p.ranges r m (and_from (r.code == c) _ e within))

-- a line that calls from x
pub record IsCaller (p : Plan) (x : ℕ) : Type 0 where
  pub line : Line
  pub first : first_line p x ≡ Some line
  pub known : is_line p line ≡ true
  pub home : home_of p line.code ≡ x

pub caller : (p : Plan) → IsPlan p → (x : ℕ) → is_origin p x ≡ true → IsCaller p x
caller p ok x origin =
    let r = any_mem (λ (r : LineRange). home_of p r.code == x) p.ranges origin in
    let c = r.0.code in
    let within = (all_mem (IsRange p) p.ranges r.0 ok.ranges r.1).code in
    let some = find_some (λ (q : LineRange). q.code == c) p.ranges r.0 r.1 (eq-eqb c c refl) in
    let calls : calls_from p x c ≡ true = and_from (home_of p c == x) _ r.2 (ap is_some some.1) in
    let found = find_some (calls_from p x) (range_with_len 0 (length p.codes)) c (subst (λ z. Among z (range_with_len 0 (length p.codes))) (let e : 0 + c ≡ c = omega arith in e) (in_range_len 0 (length p.codes) c within)) calls in
    let d = found.0 in
    let true_of = and_parts (home_of p d == x) (is_some (first_range p d)) (find_mem (calls_from p x) (range_with_len 0 (length p.codes)) d found.1).1 in
    at d found.1 (eqb-true (home_of p d) x true_of.0) (first_range p d) refl true_of.1
  where
    at : (d : ℕ) → first_code p x ≡ Some d → home_of p d ≡ x → (o : Option LineRange) → first_range p d ≡ o → is_some o ≡ true → IsCaller p x
    at d f h None e t = absurd (false≢true t)
    at d f h (Some q) e t =
        let m = find_mem (λ (r : LineRange). r.code == d) p.ranges q e in
        record {
          line = low_line d q;
          first = ap (λ o. option_and_then (λ code. option_map (low_line code) (first_range p code)) o) f ∙ ap (option_map (low_line d)) e;
          known = low_is_line p ok d q m.0 m.1;
          home = h;
        }
