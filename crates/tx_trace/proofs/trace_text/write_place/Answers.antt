use Rattle.tx_trace.proofs.Common.{puts_then, puts_is, rank_told}
use Rattle.tx_trace.proofs.Texts.{place_is}
use Rattle.tx_trace.proofs.trace_text.write_place.Goals as goal

pub returns : goal.returns
returns g c =
    let t = c.args.trace.now in
    puts_is (place_is c.args.plan.now (rank_told t.ranks t.code) c.args.exchange c.args.place c.args.group c.in-Some.to c.in-Some.ensures.value) (puts_then (rw (c.as_bytes-place.ensures.value, c.format.ensures.text, c.exchange_name-name.ensures.value, c.group_name-group.ensures.value, c.exchange_name-far.ensures.value) at c.put_parts.ensures) (rw c.rank.ensures at c.write_rank.ensures))
