-- Lines that are passed over one after another, and what stands among them.
use Rattle.tx_plantext.proofs.Common.{◌≡◌, ℕ, Bool, true, List, [], ◌∷◌, sym, subst, filter, bytes_eq, bytes_eq-Decides}
use Rattle.tx_plantext.specs.Revised.{StandAmong, none, this, later}

-- what stands among some lines stands among all
abbrev pub Within : (lines all : List (List ℕ)) → Type 0
Within lines all = (xs : List (List ℕ)) → StandAmong xs lines → StandAmong xs all

module _ (all lines rest : List (List ℕ)) (other : List ℕ) (inv : Within lines all) (cut : lines ≡ other ∷ rest) where
  pub passed_over : Within rest all
  passed_over xs h = inv xs (subst (StandAmong xs) (sym cut) (later other xs rest h))

  pub found : (line : List ℕ) → bytes_eq other line ≡ true → (xs : List (List ℕ)) → StandAmong xs rest → StandAmong (line ∷ xs) all
  found line same xs h =
      let is : other ≡ line = (bytes_eq-Decides other line).0 same in
      inv (line ∷ xs) (subst (StandAmong (line ∷ xs)) (sym cut) (subst (λ l. StandAmong (l ∷ xs) (other ∷ rest)) is (this other xs rest h)))

-- those of some lines that pass a test, if they stand among what is left of a text
module _ (test : List ℕ → Bool) (Goal : Type 0) (lines left : List (List ℕ)) (inv : StandAmong (filter test lines) left → Goal) where
  pub all_found : lines ≡ [] → Goal
  all_found e = inv (subst (λ ls. StandAmong (filter test ls) left) (sym e) (none left))
