-- What a page shows of the lists.
use Rattle.std.specs.Prelude.{ℕ, ◌+◌, Bool, false, ◌||◌, nat_lt, if◌then◌else◌, List, [], ◌∷◌, ◌++◌, length, map, max, Option, None, Some, is_some, unwrap_or, slice_get, decimal}
use Rattle.std.specs.List.{flat_map, fold, range_with_len}
use Rattle.std.specs.Option.{option_map_or}
use Rattle.tx_plan.specs.Plan.{Plan, exchange_name, figures_of, group_name, home_of}
use Rattle.tx_plan.specs.Routes.{route_list}
use Rattle.tx_cert.specs.Certificate.{ranks_of}
use Rattle.tx_rank.specs.declared.plan_grade.Grade.{Grade}
use Rattle.tx_svg.specs.declared.picture.Picture.{Picture}
use Rattle.tx_svg.specs.Indexed.{texts_below}

-- an exchange with its list for a code, in the title of its box, and then its name in the box
abbrev pub box_texts : Plan → (c x : ℕ) → List (List ℕ)
box_texts p c x = exchange_name p x
    ∷ (map (group_name p) (route_list p x c) ++ exchange_name p x ∷ [])

-- the greatest rank of the first n exchanges, and 0 if none of them has one
abbrev pub greatest_rank : (ranks : ℕ → Option ℕ) → (n : ℕ) → ℕ
greatest_rank ranks n = fold max 0 (map (λ x. unwrap_or (ranks x) 0) (range_with_len 0 n))

-- the number of the column after the first n beside the home's
abbrev pub column_texts : ℕ → List (List ℕ)
column_texts n = decimal (n + 1) ∷ []

-- a rank, if there is one
abbrev pub rank_texts : Option ℕ → List (List ℕ)
rank_texts None = []
rank_texts (Some rank) = decimal rank ∷ []

module _ {A : Type 0} where
  -- the code has a grade
  abbrev pub is_graded : Grade A → ℕ → Bool
  is_graded g c = option_map_or (λ q. is_some q.1) (slice_get g.codes.items c) false

  -- the ranks from 1 to the greatest one, if the code has a grade
  abbrev pub ranks_texts : Plan → Grade A → ℕ → List (List ℕ)
  ranks_texts p g c = if is_graded g c
      then texts_below (greatest_rank (ranks_of g.ranks c) (length p.exchanges)) column_texts else []

  -- a picture is too large for a sheet: it has more than 36 exchanges, or more than 5 columns
  abbrev pub is_large : Plan → Picture A → Bool
  is_large p q = nat_lt 36 (length p.exchanges) || nat_lt 5 (length q.boxes.items)

  -- the rank of an exchange for a code, if the code has a grade
  abbrev pub rank_in : Grade A → (c x : ℕ) → Option ℕ
  rank_in g c x = if is_graded g c then ranks_of g.ranks c x else None

  -- an exchange with its rank and its list for a code
  abbrev pub row_texts : Plan → Grade A → (c x : ℕ) → List (List ℕ)
  row_texts p g c x = exchange_name p x
      ∷ (rank_texts (rank_in g c x) ++ map (group_name p) (route_list p x c))

  -- the table that is printed in place of a picture that is too large: the code, and each exchange
  abbrev pub table_texts : Plan → Grade A → Picture A → List (List ℕ)
  table_texts p g q = if is_large p q
      then figures_of p q.code ∷ texts_below (length p.exchanges) (row_texts p g q.code) else []

  -- a code, its home, its ranks, and all exchanges with their lists for it
  abbrev pub picture_texts : Plan → Grade A → Picture A → List (List ℕ)
  picture_texts p g q = (figures_of p q.code ∷ exchange_name p (home_of p q.code) ∷ [])
      ++ (ranks_texts p g q.code ++ (texts_below (length p.exchanges) (box_texts p q.code)
      ++ table_texts p g q))

  -- the lists for each code of these pictures
  abbrev pub pictures_texts : Plan → Grade A → List (Picture A) → List (List ℕ)
  pictures_texts p g pictures = flat_map (picture_texts p g) pictures
