-- Certificate texts that were written read back.
use Rattle.tx_cert.proofs.Common.{◌≡◌, ℕ, zero, suc, ◌+◌, ◌*◌, ◌<◌, ◌≤◌, List, [], ◌∷◌, ◌++◌, length, Option, Some, None, Result, Ok, codes, refl, sym, ap, ◌∙◌, subst, arith, flat_map, range_with_len, Certificate, no_ranks, no_ranks_for, rank_at, IsCertificateOf}
use Rattle.std.specs.Fmt.{decimal}
use Rattle.tx_text.specs.Frame.{header_of}
use Rattle.tx_text.specs.inner.Written.{IsWrittenLine, LeadsTo}
use Rattle.tx_text.proofs.ReadBack.{reads_back}
use Rattle.tx_text.proofs.WrittenWords.{name_word, figures_word, number_word, number_back, line_of_short, fixed_word}
use Rattle.tx_plan.specs.Plan.{Plan, exchange_name, figures_of}
use Rattle.tx_plan.specs.Rules.{IsPlan}
use Rattle.tx_cert.specs.CertText.{declare, rank_lines, code_lines, cert_lines, ReadsBack}
use Rattle.tx_plan.proofs.NamesBack.{exchange_back, exchange_is_name, code_back, figures_are_code}
use Rattle.tx_cert.proofs.RanksSoFar.{so_far, none_yet, so_far_none, next_none, next_some, so_far_all}

-- lines that lead on, one after another
leads_on : {S W : Type 0} (f : ℕ → S → List (List ℕ) → Result S W) (v : ℕ) (a b c : S) (xs ys : List (List (List ℕ))) → LeadsTo f v a xs b → LeadsTo f v b ys c → LeadsTo f v a (xs ++ ys) c
leads_on f v a b c [] ys h k = subst (λ s. LeadsTo f v s ys c) (sym h) k
leads_on f v a b c (x ∷ xs) ys h k = (h.0, h.1, h.2, h.3, h.4, leads_on f v h.0 b c xs ys h.5 k)

module _ (p : Plan) (t : Certificate) (h : IsPlan p) (k : IsCertificateOf p t) where
  -- how many pairs stand before this one
  abbrev index : ℕ → ℕ → ℕ
  index c x = c * t.exchanges + x

  within : (x : ℕ) → x < length p.exchanges → x < t.exchanges
  within x m = rw k.exchanges m

  -- the line of a rank
  declared_rank : (c x r : ℕ) → c < length p.codes → x < length p.exchanges → rank_at t c x ≡ Some r → r ≤ 65535
      → declare p 1 (so_far t (index c x)) (codes "RANK" ∷ figures_of p c ∷ exchange_name p x ∷ decimal r ∷ []) ≡ Ok (so_far t (index c x + 1))
  unfolding declare
  declared_rank c x r l m e small =
      let code = (code_back p h c l).back in
      let exchange = (exchange_back p h x m).back in
      let number = number_back 65535 r small (omega arith) in
      let none = none_yet t k.rules c x (within x m) in
      rw (code, exchange, number, none) (ap Ok (next_some t k.rules c x (within x m) r e))

  rank_written : (c x r : ℕ) → c < length p.codes → x < length p.exchanges → r ≤ 65535 → IsWrittenLine (codes "RANK" ∷ figures_of p c ∷ exchange_name p x ∷ decimal r ∷ [])
  rank_written c x r l m small =
      line_of_short _ (fixed_word (codes "RANK") refl, (figures_word 2 3 (figures_of p c) (omega arith) (omega arith) (figures_are_code p h c l), (name_word (exchange_name p x) (exchange_is_name p h x m), (number_word r (omega (arith, small)), tt)))) (omega arith)

  -- at one pair
  pair_by : (c x : ℕ) (o : Option ℕ) → c < length p.codes → x < length p.exchanges → rank_at t c x ≡ o
      → LeadsTo (declare p) 1 (so_far t (index c x)) (rank_lines p c x o) (so_far t (index c x + 1))
  pair_by c x None l m e = next_none t k.rules c x (within x m) e
  pair_by c x (Some r) l m e =
      let s = k.rules.small c x r e in
      (so_far t (index c x + 1), declared_rank c x r l m e s, refl, omega arith, rank_written c x r l m s, refl)

  -- at some exchanges, for one code
  code_leads : (c x n : ℕ) → c < length p.codes → x + n ≡ length p.exchanges
      → LeadsTo (declare p) 1 (so_far t (index c x)) (code_lines p t c (range_with_len x n)) (so_far t (index (c + 1) 0))
  code_leads c x zero l e =
      let s : index c x ≡ index (c + 1) 0 = (let q = k.exchanges in omega (arith, q, e)) in
      ap (so_far t) s
  code_leads c x (suc n) l e =
      let s : index c x + 1 ≡ index c (x + 1) = omega arith in
      leads_on (declare p) 1 (so_far t (index c x)) (so_far t (index c x + 1)) (so_far t (index (c + 1) 0)) (rank_lines p c x (rank_at t c x)) (code_lines p t c (range_with_len (x + 1) n))
      (pair_by c x (rank_at t c x) l (omega (arith, e)) refl)
      (subst (λ i. LeadsTo (declare p) 1 (so_far t i) (code_lines p t c (range_with_len (x + 1) n)) (so_far t (index (c + 1) 0))) (sym s) (code_leads c (x + 1) n l (omega (arith, e))))

  -- for some codes
  codes_lead : (c n : ℕ) → c + n ≡ length p.codes
      → LeadsTo (declare p) 1 (so_far t (index c 0)) (flat_map (λ i. code_lines p t i (range_with_len 0 (length p.exchanges))) (range_with_len c n)) t
  codes_lead c zero e =
      let q = k.codes in let s : c ≡ t.codes = omega (arith, q, e) in let n : index c 0 ≡ t.codes * t.exchanges = rw s (omega arith) in ap (so_far t) n ∙ so_far_all t k.rules
  codes_lead c (suc n) e =
      leads_on (declare p) 1 (so_far t (index c 0)) (so_far t (index (c + 1) 0)) t (code_lines p t c (range_with_len 0 (length p.exchanges))) _
      (code_leads c 0 (length p.exchanges) (omega (arith, e)) (omega arith))
      (codes_lead (c + 1) n (omega (arith, e)))

  nothing_yet : no_ranks_for p ≡ so_far t (index 0 0)
  nothing_yet =
      let first : 0 ≡ index 0 0 = omega arith in
      (λ i. no_ranks (sym k.codes i) (sym k.exchanges i)) ∙ sym (so_far_none t) ∙ ap (so_far t) first

  lines_lead : LeadsTo (declare p) 1 (no_ranks_for p) (cert_lines p t) t
  lines_lead = subst (λ s. LeadsTo (declare p) 1 s (cert_lines p t) t) (sym nothing_yet) (codes_lead 0 (length p.codes) (omega arith))

head_written : IsWrittenLine (codes "CERT" ∷ codes "1" ∷ [])
head_written = line_of_short (codes "CERT" ∷ codes "1" ∷ []) (fixed_word (codes "CERT") refl, (fixed_word (codes "1") refl, tt)) (omega arith)

pub cert_back : ReadsBack
cert_back p t h k =
    reads_back (header_of (codes "CERT") 1) (declare p) 1 1 (no_ranks_for p) t (codes "CERT" ∷ codes "1" ∷ []) (cert_lines p t) head_written (omega arith) refl (lines_lead p t h k)
