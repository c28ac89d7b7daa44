-- What a page shows.
use Rattle.std.specs.Prelude.{◌≡◌, ℕ, Bool, true, false, List, [], ◌∷◌, ◌++◌, Option, None, Some, Result, Ok, Err, decimal}
use Rattle.std.specs.Io.KnownBytes.{append_known}
use Rattle.tx_text.specs.declared.sink.WriteFault.{WriteFault}
use Rattle.tx_html.specs.declared.part.Part.{Part}
use Rattle.tx_html.specs.declared.part.Part.TheVariants.{Own, Value, Size, Text, Count, Amount}
use Rattle.tx_html.specs.Amounts.{amount}
use Rattle.tx_html.specs.Escaped.{escaped}

-- the texts that a part of a page shows
abbrev pub part_texts : Part → List (List ℕ)
part_texts (Own words) = []
part_texts (Value words number) = []
part_texts (Size wide high) = []
part_texts (Text text) = text.now ∷ []
part_texts (Count number) = decimal number ∷ []
part_texts (Amount number) = amount number ∷ []

-- A text stands in the bytes, escaped, and Rest holds of what comes after it.
pub record StandsIn (text : List ℕ) (Rest : List ℕ → Type 0) (bytes : List ℕ) : Type 0 where
  pub before : List ℕ
  pub after : List ℕ
  pub cut : bytes ≡ before ++ (escaped text ++ after)
  pub rest : Rest after

-- These texts stand in the bytes one after another, each escaped. Before, between and after them
-- may be anything, such as markup.
abbrev pub Shows : List (List ℕ) → List ℕ → Type 0
Shows [] bytes = Unit {0}
Shows (t ∷ texts) bytes = StandsIn t (Shows texts) bytes

-- What a sink of pages has taken: its bytes and the texts that they show, each if the sink shows them
-- to contracts, and whether it failed.
pub record Seen : Type 0 where
  pub taken : Option (List ℕ)
  pub shown : Option (List (List ℕ))
  pub failed : Bool

-- that of a sink which keeps no list of texts
abbrev pub seen_by : {W : Type 0} → (taken : W → Option (List ℕ)) → (failed : W → Bool) → W → Seen
seen_by taken failed w = record { taken = taken w; shown = None; failed = failed w }

-- one text after another
abbrev pub append_texts : Option (List (List ℕ)) → List (List ℕ) → Option (List (List ℕ))
append_texts None texts = None
append_texts (Some before) texts = Some (before ++ texts)

-- These texts were shown, and no others: the sink took bytes in which they stand, and it did not
-- fail.
pub record HasShown (old new : Seen) (texts : List (List ℕ)) : Type 0 where
  pub bytes : List ℕ
  pub added : new.taken ≡ append_known old.taken bytes
  pub shows : Shows texts bytes
  pub exactly : new.shown ≡ append_texts old.shown texts
  pub mark : new.failed ≡ old.failed

-- Ok: these texts were shown, and no others. Err: the sink failed.
abbrev pub ShowedBy : (old new : Seen) → List (List ℕ) → Result (Unit {0}) WriteFault → Type 0
ShowedBy old new texts (Ok x) = HasShown old new texts
ShowedBy old new texts (Err e) = new.failed ≡ true

-- What a call that shows texts does to a sink of pages.
abbrev pub Showed : {W : Type 0} → (seen : W → Seen) → (old new : W) → List (List ℕ)
    → Result (Unit {0}) WriteFault → Type 0
Showed seen old new texts r = ShowedBy (seen old) (seen new) texts r

-- By the marks before and after: these texts were shown, and no others; or the sink failed, and a
-- failure stays one.
abbrev pub SetsBy : (failed_old failed_new : Bool) → (old new : Seen) → List (List ℕ) → Type 0
SetsBy false false old new texts = HasShown old new texts
SetsBy false true old new texts = Unit {0}
SetsBy true failed old new texts = failed ≡ true

-- What a call that sets texts on a page does to a sink of pages. It may go on after the sink failed.
pub record Sets {W : Type 0} (seen : W → Seen) (old new : W) (texts : List (List ℕ)) : Type 0 where
  pub by : SetsBy (seen old).failed (seen new).failed (seen old) (seen new) texts
