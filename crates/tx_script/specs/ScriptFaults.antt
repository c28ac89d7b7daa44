-- The codes and names of the faults of scripts, as they are printed.
use Rattle.std.specs.Prelude.{codes}
use Rattle.tx_text.specs.Rows.{Row, frame_row}
use Rattle.tx_text.specs.declared.frame.FaultKind.{FaultKind}
use Rattle.tx_text.specs.declared.frame.FaultKind.TheVariants.{Frame, Word}
use Rattle.tx_script.specs.declared.script_word.ScriptWord.{ScriptWord}
use Rattle.tx_script.specs.declared.script_word.ScriptWord.TheVariants.{UnknownWord, WrongCount, BadNumber, UnknownName}

-- the code and the name of what is wrong with the words of a line
abbrev pub word_row : ScriptWord → Row
word_row UnknownWord = (codes "S1", codes "UnknownWord")
word_row WrongCount = (codes "S2", codes "WrongCount")
word_row BadNumber = (codes "S3", codes "BadNumber")
word_row UnknownName = (codes "S4", codes "UnknownName")

-- the code and the name of a fault; a source that failed is no fault of a script, and has no code
abbrev pub fault_row : FaultKind ScriptWord → Row
fault_row (Frame k) = frame_row (codes "S5") (codes "S6") (codes "S7") (codes "") k
fault_row (Word w) = word_row w
