use Rattle.tx_mend.proofs.Common.{[], sym, ap, ◌∙◌, if◌then◌else◌, puts_none, puts_is}
use Rattle.tx_mend.specs.MendText.{missing_text}
use Rattle.tx_mend.proofs.code_lines.write_for_code.Goals as goal

pub returns-then-eq : goal.returns-then-eq
returns-then-eq g c =
    let p = c.args.plan.now in
    let m = c.args.missing in
    puts_is (ap (λ b. if b then missing_text p m else []) (sym c.eq.ensures ∙ c.if-eq.true)) c.write_one.ensures

pub returns-else-eq : goal.returns-else-eq
returns-else-eq g c =
    let p = c.args.plan.now in
    let m = c.args.missing in
    puts_is (ap (λ b. if b then missing_text p m else []) (sym c.eq.ensures ∙ c.if-eq.false)) puts_none
