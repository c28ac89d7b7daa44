-- The lines of codes, one after another.
use Rattle.std.proofs.Common.{◌≡◌, ◌≢◌, ℕ, ◌+◌, ◌<◌, Bool, List, [], ◌∷◌, ◌++◌, take, length, codes, Option, None, Some, sym, append_assoc}
use Rattle.std.proofs.lemmas.Option.{get_or_from_slice_get}
use Rattle.tx_trie.proofs.Common.{flat_map, Puts}
use Rattle.tx_text.specs.Written.{line_written}
use Rattle.tx_text.proofs.Writing.{some, some_last}
use Rattle.tx_text.proofs.Putting.{puts_more}
use Rattle.tx_plan.specs.Plan.{Plan, Code, figures_of, exchange_name, home_of}
use Rattle.tx_plan.specs.Ambiguous.{ambiguous_of}
use Rattle.tx_trie.specs.CodesText.{code_line, pair_line, codes_text}
use Rattle.tx_trie.proofs.Filling.{code_is}

abbrev line_of : Plan → ℕ → List ℕ
line_of p code = line_written (codes "CODE" ∷ figures_of p code ∷ exchange_name p (home_of p code) ∷ [])

-- a line by its parts
pub code_text : (p : Plan) (code home : ℕ) (figures name : List ℕ) → figures ≡ figures_of p code → home ≡ home_of p code → name ≡ exchange_name p home
    → line_of p code ≡ codes "CODE " ++ (figures ++ (codes " " ++ (name ++ (codes "\n" ++ []))))
code_text p code home figures name f h n = rw (n, h, f) (simp append_assoc)

module _ (p : Plan) (n : ℕ) (within : n < length p.codes) where
  abbrev its : Code
  its = record { figures = figures_of p n; home = home_of p n }

  -- that of one code more
  pub code_more : {W : Type 0} {taken : W → Option (List ℕ)} {failed : W → Bool} {a b c : W} → Puts taken failed a b (flat_map (code_line p) (take n p.codes)) → Puts taken failed b c (line_of p n)
      → Puts taken failed a c (flat_map (code_line p) (take (n + 1) p.codes))
  code_more v w = puts_more (code_line p) p.codes within (sym (get_or_from_slice_get p.codes n its its (code_is p n within))) v w

pair_some : (p : Plan) (pair : Option (ℕ × ℕ)) → pair_line p pair ≢ []
pair_some p None = some
pair_some p (Some q) = some

pub codes_some : (p : Plan) → codes_text p ≢ []
codes_some p = some_last (flat_map (code_line p) p.codes) _ (pair_some p (ambiguous_of p.codes))
