-- The codes and names of the faults of certificate texts, as they are printed.
use Rattle.std.specs.Prelude.{codes}
use Rattle.tx_text.specs.Rows.{Row, frame_row}
use Rattle.tx_text.specs.declared.frame.FaultKind.{FaultKind}
use Rattle.tx_text.specs.declared.frame.FaultKind.TheVariants.{Frame, Word}
use Rattle.tx_cert.specs.declared.fault.CertWord.{CertWord}
use Rattle.tx_cert.specs.declared.fault.CertWord.TheVariants.{UnknownWord, WrongCount, UnknownName, BadNumber, Duplicate, NoMemory}

-- of a fault of a line's words
abbrev pub word_row : CertWord → Row
word_row UnknownWord = (codes "C1", codes "UnknownWord")
word_row WrongCount = (codes "C2", codes "WrongCount")
word_row UnknownName = (codes "C3", codes "UnknownName")
word_row BadNumber = (codes "C4", codes "BadNumber")
word_row Duplicate = (codes "C5", codes "Duplicate")
word_row NoMemory = (codes "C9", codes "NoMemory")

-- the code and the name of a fault
abbrev pub fault_row : FaultKind CertWord → Row
fault_row (Frame fault) = frame_row (codes "C6") (codes "C7") (codes "C8") (codes "C10") fault
fault_row (Word word) = word_row word
