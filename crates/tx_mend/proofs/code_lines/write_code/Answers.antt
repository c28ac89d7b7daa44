use Rattle.tx_mend.proofs.Common.{◌∙◌, sym, ap, puts_none, puts_then, puts_is}
use Rattle.std.proofs.lemmas.Bool.{ne_eqb}
use Rattle.tx_mend.specs.MendText.{line_of_code}
use Rattle.tx_mend.proofs.code_lines.write_code.Goals as goal

pub returns-then-count-eq0 : goal.returns-then-count-eq0
returns-then-count-eq0 g c =
    puts_is (ap (line_of_code c.args.plan.now c.args.missing.now c.args.code) (sym c.count_of-count.ensures ∙ c.if-count-eq0.true)) puts_none

pub returns : goal.returns
returns g c =
    rw (← c.count_of-count.ensures) (rw (ne_eqb c.count_of-count.result 0 c.if-count-eq0.false)
    (puts_then c.put_bytes.ensures (puts_then (rw c.code_figures.ensures.value at c.put_bytes-2.ensures) (puts_then c.put_bytes-3.ensures
    (puts_then (rw (c.as_bytes.ensures.value, c.format.ensures.text) at c.put_bytes-4.ensures) (puts_then c.write_missing.ensures c.put_bytes-5.ensures))))))
