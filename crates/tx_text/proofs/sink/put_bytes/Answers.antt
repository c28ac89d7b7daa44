use Rattle.std.proofs.Common.{◌≡◌, ◌++◌, ◌∙◌, take, sym, ap, take-append-drop}
use Rattle.tx_text.proofs.Putting.{puts_call, puts_then, puts_is}
use Rattle.tx_text.proofs.sink.put_bytes.Goals as goal

pub loop-rest-preserved : goal.loop-rest-preserved
loop-rest-preserved g c end later =
    let rest = c.loop-rest.rest.now in
    let here = c.in-Ok.ensures in
    let cut : rest ≡ take c.in-Ok.n rest ++ c.split_at.result.1.now = sym (take-append-drop c.in-Ok.n rest) ∙ ap (λ l. take c.in-Ok.n rest ++ l) (sym c.split_at.ensures.back) in
    c.loop-rest.invariant end (puts_is cut (puts_then (puts_call here.bytes here.mark here.stays) later))
