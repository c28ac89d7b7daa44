-- What holds of the entries of all tables, as it holds of the table.
use Rattle.std.proofs.Common.{◌≡◌, ◌∙◌, ℕ, Bool, ◌||◌, List, [], ◌∷◌, ◌++◌, map, refl, sym, ap, append_assoc}
use Rattle.std.proofs.Math.Bool.{or_assoc}
use Rattle.tx_commands.proofs.Common.{Bor, flat_map, list_any}
use Rattle.tx_commands.specs.Entries.{Texts, texts}

-- the entries of a table, as the program has them
abbrev pub Entries : Type 0
Entries = List (List (Bor (List ℕ)))

abbrev pub all_texts : List (Bor Entries) → List Texts
all_texts = flat_map (λ t. map texts t.now)

module _ (P : Texts → Bool) where
  abbrev any_in : Entries → Bool
  any_in = list_any (λ e. P (texts e))

  any_joined : (es : Entries) (ts : List Texts)
      → list_any P (map texts es ++ ts) ≡ (any_in es || list_any P ts)
  any_joined [] ts = refl
  any_joined (e ∷ es) ts =
      ap (λ b. P (texts e) || b) (any_joined es ts)
      ∙ sym (or_assoc (P (texts e)) (any_in es) (list_any P ts))

  pub any_of : (tables : List (Bor Entries))
      → list_any (λ t. list_any (λ e. P (texts e)) t.now) tables
      ≡ list_any P (all_texts tables)
  any_of [] = refl
  any_of (t ∷ tables) =
      ap (λ b. any_in t.now || b) (any_of tables) ∙ sym (any_joined t.now (all_texts tables))

module _ (text : Texts → List ℕ) where
  abbrev texts_in : Entries → List ℕ
  texts_in = flat_map (λ e. text (texts e))

  texts_joined : (es : Entries) (ts : List Texts)
      → flat_map text (map texts es ++ ts) ≡ texts_in es ++ flat_map text ts
  texts_joined [] ts = refl
  texts_joined (e ∷ es) ts =
      ap (λ l. text (texts e) ++ l) (texts_joined es ts)
      ∙ sym (append_assoc (text (texts e)) (texts_in es) (flat_map text ts))

  pub text_of : (tables : List (Bor Entries))
      → flat_map (λ t. flat_map (λ e. text (texts e)) t.now) tables
      ≡ flat_map text (all_texts tables)
  text_of [] = refl
  text_of (t ∷ tables) =
      ap (λ l. texts_in t.now ++ l) (text_of tables)
      ∙ sym (texts_joined t.now (all_texts tables))
