-- The codes and names of the faults of plan texts, as they are printed.
use Rattle.std.specs.Prelude.{codes}
use Rattle.tx_text.specs.Rows.{Row, frame_row}
use Rattle.tx_text.specs.declared.frame.FaultKind.{FaultKind}
use Rattle.tx_text.specs.declared.frame.FaultKind.TheVariants.{Frame, Word}
use Rattle.tx_plan.specs.declared.refusal.PlanRefusal.{PlanRefusal}
use Rattle.tx_plan.specs.declared.refusal.PlanRefusal.TheVariants.{WrongCount, BadName, BadCode, BadNumber, Duplicate, Unknown, RangeOrder, Overlap, SameEnds, NotOutgoing, RepeatedGroup, RouteAtHome, TooMany, BarAtHome, NoMemory}
use Rattle.tx_plantext.specs.declared.fault.PlanWord.{PlanWord}
use Rattle.tx_plantext.specs.declared.fault.PlanWord.TheVariants.{UnknownWord, Refused}

-- of a refusal of the builder
abbrev pub refusal_row : PlanRefusal → Row
refusal_row WrongCount = (codes "P4", codes "WrongCount")
refusal_row BadName = (codes "P5", codes "BadName")
refusal_row BadCode = (codes "P6", codes "BadCode")
refusal_row BadNumber = (codes "P7", codes "BadNumber")
refusal_row Duplicate = (codes "P8", codes "Duplicate")
refusal_row Unknown = (codes "P9", codes "Unknown")
refusal_row RangeOrder = (codes "P10", codes "RangeOrder")
refusal_row Overlap = (codes "P11", codes "Overlap")
refusal_row SameEnds = (codes "P12", codes "SameEnds")
refusal_row NotOutgoing = (codes "P13", codes "NotOutgoing")
refusal_row RepeatedGroup = (codes "P14", codes "RepeatedGroup")
refusal_row RouteAtHome = (codes "P15", codes "RouteAtHome")
refusal_row TooMany = (codes "P16", codes "TooMany")
refusal_row NoMemory = (codes "P21", codes "NoMemory")
refusal_row BarAtHome = (codes "P22", codes "BarAtHome")

-- the code and the name of a fault
abbrev pub fault_row : FaultKind PlanWord → Row
fault_row (Frame k) = frame_row (codes "P17") (codes "P18") (codes "P19") (codes "P20") k
fault_row (Word UnknownWord) = (codes "P3", codes "UnknownWord")
fault_row (Word (Refused r)) = refusal_row r
