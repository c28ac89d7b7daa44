use Rattle.tx_requests.proofs.carrying.carry_left.Goals as goal
use Rattle.std.proofs.Common.{Result, Ok, Err}
use Rattle.std.specs.Prelude.{IfOk}

-- what is known of texts that were read is known of the request's
both_known : {T E : Type 0} (Known Fits : T → Type 0) (left : Result T E)
    → ((t : T) → Known t → Fits t) → IfOk left Known → IfOk left Fits
both_known Known Fits (Ok t) so h = so t h
both_known Known Fits (Err e) so h = tt

pub carry_out-requires : goal.carry_out-requires
carry_out-requires g c =
    both_known _ _ c.while_down-left.result c.requires.known c.while_down-left.ensures.known

pub while_down-left-requires : goal.while_down-left-requires
while_down-left-requires g c = c.requires.read

pub returns : goal.returns
returns g c = (c.while_down-left.result, c.while_down-left.ensures.left, c.carry_out.ensures)
