-- The lines that a run prints: replies and tickets.
use Rattle.std.specs.Prelude.{ℕ, Bool, true, false, List, ◌++◌, codes, decimal}
use Rattle.std.specs.List.{flat_map}
use Rattle.tx_plan.specs.Plan.{Plan, exchange_name, figures_of, group_name}
use Rattle.tx_plan.specs.declared.ids.Circuit.{Circuit}
use Rattle.tx_plan.specs.declared.ids.Line.{Line}
use Rattle.tx_machine.specs.declared.cause.Cause.{Cause}
use Rattle.tx_machine.specs.declared.cause.Cause.TheVariants.{Service as ByService, ClearedByCaller, ClearedByCalled, Lost as ByLoss}
use Rattle.tx_machine.specs.declared.open_call.Hop.{Hop}
use Rattle.tx_machine.specs.declared.refusal.Refusal.{Refusal}
use Rattle.tx_machine.specs.declared.refusal.Refusal.TheVariants.{UnknownCall, NotStanding, NotCalling, NotConnected, UnknownLine, LineEngaged, LineOutOfOrder, AlreadySo, NotSo, NotReleasing, UnknownCircuit, Exhausted}
use Rattle.tx_machine.specs.declared.reply.Reply.{Reply}
use Rattle.tx_machine.specs.declared.reply.Reply.TheVariants.{Keyed, Seized, At, Connected, Answered, HeadOn, Cleared, Done, Lost, Refused}
use Rattle.tx_machine.specs.declared.cause.Service.{Service}
use Rattle.tx_machine.specs.declared.cause.Service.TheVariants.{Occ, Nc, Np, Der, Abs, Na}
use Rattle.tx_machine.specs.Ended.{Ended}

-- a group's name, a dot and the circuit's number, as G1.1
abbrev pub circuit_text : Plan → Circuit → List ℕ
circuit_text p x = group_name p x.group ++ (codes "." ++ decimal x.number)

-- a line's code and its national number
abbrev pub line_text : Plan → Line → List ℕ
line_text p l = figures_of p l.code ++ (codes " " ++ l.national)

-- the word of a service code
abbrev pub service_text : Service → List ℕ
service_text Occ = codes "OCC"
service_text Nc = codes "NC"
service_text Np = codes "NP"
service_text Der = codes "DER"
service_text Abs = codes "ABS"
service_text Na = codes "NA"

-- the service code, or who cleared, or that the call was lost
abbrev pub cause_text : Cause → List ℕ
cause_text (ByService s) = service_text s
cause_text ClearedByCaller = codes "CLRA"
cause_text ClearedByCalled = codes "CLRB"
cause_text ByLoss = codes "LOST"

-- a hop: its circuit, and the exchange that it leads to
abbrev pub hop_text : Plan → Hop → List ℕ
hop_text p h = codes " " ++ (circuit_text p h.circuit ++ (codes " " ++ exchange_name p h.far))

-- the call's number, its line and what was keyed
abbrev pub caller_text : Plan → Ended → List ℕ
caller_text p t = codes "T " ++ (decimal t.number ++ (codes " FROM " ++ (figures_of p t.line.code
    ++ (codes " " ++ (t.line.national ++ (codes " TO " ++ (t.keyed ++ codes " EV ")))))))

-- the events of its start and its end
abbrev pub events_text : Ended → List ℕ
events_text t = decimal t.keyed_at ++ (codes " " ++ (decimal t.ended_at ++ codes " BY "))

-- why it ended, and the exchange where it started
abbrev pub why_text : Plan → Ended → List ℕ
why_text p t = cause_text t.cause ++ (codes " VIA " ++ exchange_name p t.start)

-- The line of a ticket
abbrev pub ticket_text : Plan → Ended → List ℕ
ticket_text p t = caller_text p t
    ++ (events_text t ++ (why_text p t ++ (flat_map (hop_text p) t.path ++ codes "\n")))

-- the code of a refusal
abbrev pub refusal_text : Refusal → List ℕ
refusal_text UnknownCall = codes "M1"
refusal_text NotStanding = codes "M2"
refusal_text NotCalling = codes "M3"
refusal_text NotConnected = codes "M4"
refusal_text UnknownLine = codes "M5"
refusal_text LineEngaged = codes "M6"
refusal_text LineOutOfOrder = codes "M7"
refusal_text AlreadySo = codes "M8"
refusal_text NotSo = codes "M9"
refusal_text NotReleasing = codes "M10"
refusal_text UnknownCircuit = codes "M11"
refusal_text Exhausted = codes "M12"

-- whether a call of a head-on collision stands again, or ended
abbrev pub stands_text : Bool → List ℕ
stands_text true = codes " STANDS"
stands_text false = codes " NC"

-- The line of a reply
abbrev pub reply_text : Plan → Reply → List ℕ
reply_text p (Keyed n) = codes "KEYED " ++ (decimal n ++ codes "\n")
reply_text p (Seized x) = codes "SEIZED " ++ (circuit_text p x ++ codes "\n")
reply_text p (At x) = codes "AT " ++ (exchange_name p x ++ codes "\n")
reply_text p (Connected l) = codes "CONNECTED " ++ (line_text p l ++ codes "\n")
reply_text p (Answered s) = codes "ANSWERED " ++ (service_text s ++ codes "\n")
reply_text p (HeadOn a b a_stands b_stands) = codes "HEADON " ++ (decimal a
    ++ (stands_text a_stands ++ (codes " " ++ (decimal b ++ (stands_text b_stands ++ codes "\n")))))
reply_text p Cleared = codes "CLEARED\n"
reply_text p Done = codes "DONE\n"
reply_text p (Lost n) = codes "LOST " ++ (decimal n ++ codes "\n")
reply_text p (Refused r) = codes "REFUSED " ++ (refusal_text r ++ codes "\n")
