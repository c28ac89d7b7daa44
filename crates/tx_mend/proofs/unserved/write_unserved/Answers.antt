use Rattle.tx_mend.proofs.Common.{◌+◌, ℕ, length, ap, sym, puts_then}
use Rattle.tx_mend.proofs.unserved.write_unserved.Goals as goal

pub returns : goal.returns
returns g c =
    let count = ap (λ (n : ℕ). n + length c.args.unserved.now) c.pair_count.ensures in
    puts_then c.write_asked.ensures (puts_then c.write_pair.ensures (puts_then c.write_each.ensures (puts_then c.write_codes.ensures (rw (sym count) c.write_no.ensures))))
