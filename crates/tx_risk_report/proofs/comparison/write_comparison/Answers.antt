use Rattle.tx_risk_report.proofs.Common.{some, puts_wrote}
use Rattle.tx_text.proofs.Wrote.{wrote_then}
use Rattle.std.proofs.Common.{ℕ, Bool, List, ◌++◌, Option, Ok, Err}
use Rattle.std.specs.Prelude.{IsErr}
use Rattle.std.proofs.lemmas.Bool.{false≢true}
use Rattle.tx_text.specs.declared.sink.WriteFault.{WriteFault}
use Rattle.tx_text.specs.Wrote.{WroteBy}
use Rattle.tx_text.proofs.Writing.{stops_first}
use Rattle.tx_text.proofs.Wrote.{Outcome}
use Rattle.tx_risk_report.proofs.comparison.write_comparison.Goals as goal

-- a text was not written, so neither was what follows it
stopped_first : (a b : Option (List ℕ)) (f g : Bool) (s t : List ℕ) (r : Outcome) (fault : WriteFault) → WroteBy a b f g s (Err fault) → IsErr r → WroteBy a b f g (s ++ t) r
stopped_first a b f g s t (Ok x) fault w bad = absurd (false≢true bad)
stopped_first a b f g s t (Err x) fault w bad = (stops_first t w.0, w.1)

pub returns-in-Some-Some : goal.returns-in-Some-Some
returns-in-Some-Some g c =
    rw (c.in-Some-Some.is-0, c.in-Some-Some.is-1) (puts_wrote _ some c.write_compared.ensures c.finish.ensures)

pub returns-in_ok-write_bytes-in-Some-None : goal.returns-in_ok-write_bytes-in-Some-None
returns-in_ok-write_bytes-in-Some-None g c =
    let none = c.in-Some-None.is-1 in
    rw (c.in-Some-None.is-0, none)
    (wrote_then _ _ _ _ _ _ _ _ _ c.in_ok-write_bytes-in-Some-None.ensures (rw (c.plan.ensures, none) at c.write_grade.ensures))

pub returns-in_err-write_bytes-in-Some-None : goal.returns-in_err-write_bytes-in-Some-None
returns-in_err-write_bytes-in-Some-None g c =
    rw (c.in-Some-None.is-0, c.in-Some-None.is-1)
    (stopped_first _ _ _ _ _ _ _ c.in_err-write_bytes-in-Some-None.field-0.0 c.in_err-write_bytes-in-Some-None.ensures c.from_residual.ensures.0)
