-- That events can be written is known in at most one way. A type that keeps it needs that.
use Rattle.std.specs.Prelude.{List}
use Rattle.std.specs.Coded.{Unit-prop, le_prop, ×_prop, Coded-set, coded_bool}
use Rattle.std.specs.List.{AllByRecursion, AllByRecursion-prop}
use Rattle.tx_plan.specs.Plan.{Plan}
use Rattle.tx_plan.specs.declared.ids.Circuit.{Circuit}
use Rattle.tx_machine.specs.declared.event.Event.{Event}
use Rattle.tx_machine.specs.declared.event.Event.TheVariants.{Key, Route, Confirm, Clear, Released, Fail, Restore, Block, Unblock, CircuitOut, CircuitIn, LineFault, LineMend, LineAway, LineBack}
use Rattle.tx_script.specs.Events.{FitsPlan, IsEvent, IsWritable, IsWritableCircuit}

IsWritableCircuit-prop : (p : Plan) (x : Circuit) → IsProp (IsWritableCircuit p x)
IsWritableCircuit-prop p x a b = λ i. record {
  group = le_prop a.group b.group i;
  some = le_prop a.some b.some i;
  few = le_prop a.few b.few i;
}

FitsPlan-prop : (p : Plan) (e : Event) → IsProp (FitsPlan p e)
FitsPlan-prop p (Key l keyed) = le_prop
FitsPlan-prop p (Route n) = Unit-prop
FitsPlan-prop p (Confirm n) = Unit-prop
FitsPlan-prop p (Clear n party) = Unit-prop
FitsPlan-prop p (Released x) = IsWritableCircuit-prop p x
FitsPlan-prop p (Fail g) = le_prop
FitsPlan-prop p (Restore g) = le_prop
FitsPlan-prop p (Block g) = le_prop
FitsPlan-prop p (Unblock g) = le_prop
FitsPlan-prop p (CircuitOut x) = IsWritableCircuit-prop p x
FitsPlan-prop p (CircuitIn x) = IsWritableCircuit-prop p x
FitsPlan-prop p (LineFault l) = le_prop
FitsPlan-prop p (LineMend l) = le_prop
FitsPlan-prop p (LineAway l) = le_prop
FitsPlan-prop p (LineBack l) = le_prop

IsEvent-prop : (e : Event) → IsProp (IsEvent e)
IsEvent-prop (Key l keyed) = ×_prop (Coded-set coded_bool _ _) (Coded-set coded_bool _ _)
IsEvent-prop (Route n) = le_prop
IsEvent-prop (Confirm n) = le_prop
IsEvent-prop (Clear n party) = le_prop
IsEvent-prop (Released x) = Unit-prop
IsEvent-prop (Fail g) = Unit-prop
IsEvent-prop (Restore g) = Unit-prop
IsEvent-prop (Block g) = Unit-prop
IsEvent-prop (Unblock g) = Unit-prop
IsEvent-prop (CircuitOut x) = Unit-prop
IsEvent-prop (CircuitIn x) = Unit-prop
IsEvent-prop (LineFault l) = Coded-set coded_bool _ _
IsEvent-prop (LineMend l) = Coded-set coded_bool _ _
IsEvent-prop (LineAway l) = Coded-set coded_bool _ _
IsEvent-prop (LineBack l) = Coded-set coded_bool _ _

IsWritable-prop : (p : Plan) (e : Event) → IsProp (IsWritable p e)
IsWritable-prop p e = ×_prop (FitsPlan-prop p e) (IsEvent-prop e)

-- the events of a script can be written
abbrev pub AreWritable : Plan → List Event → Type 0
AreWritable p events = AllByRecursion (IsWritable p) events

pub AreWritable-prop : (p : Plan) (events : List Event) → IsProp (AreWritable p events)
AreWritable-prop p events = AllByRecursion-prop (IsWritable p) (IsWritable-prop p) events
