-- The codes and names of the faults of texts of risks, as they are printed.
use Rattle.std.specs.Prelude.{codes}
use Rattle.tx_text.specs.Rows.{Row, frame_row}
use Rattle.tx_text.specs.declared.frame.FaultKind.{FaultKind}
use Rattle.tx_text.specs.declared.frame.FaultKind.TheVariants.{Frame, Word}
use Rattle.tx_risk.specs.declared.fault.RiskWord.{RiskWord}
use Rattle.tx_risk.specs.declared.fault.RiskWord.TheVariants.{UnknownWord, WrongCount, BadName, Duplicate, UnknownName, RepeatedGroup, NoMemory}

-- of a fault of a line's words
abbrev pub word_row : RiskWord → Row
word_row UnknownWord = (codes "Q1", codes "UnknownWord")
word_row WrongCount = (codes "Q2", codes "WrongCount")
word_row BadName = (codes "Q3", codes "BadName")
word_row Duplicate = (codes "Q4", codes "Duplicate")
word_row UnknownName = (codes "Q5", codes "UnknownName")
word_row RepeatedGroup = (codes "Q6", codes "RepeatedGroup")
word_row NoMemory = (codes "Q10", codes "NoMemory")

-- the code and the name of a fault
abbrev pub fault_row : FaultKind RiskWord → Row
fault_row (Frame fault) = frame_row (codes "Q7") (codes "Q8") (codes "Q9") (codes "Q11") fault
fault_row (Word word) = word_row word
