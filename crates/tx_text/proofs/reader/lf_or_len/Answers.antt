use Rattle.tx_text.proofs.Common.{◌∙◌, arith, not, prefix_len-le-length, is_lf}
use Rattle.tx_text.proofs.Indexes.{found_or_len}
use Rattle.tx_text.proofs.reader.lf_or_len.Goals as goal

pub returns-clause-index : goal.returns-clause-index
returns-clause-index c = c.unwrap_or.ensures ∙ found_or_len is_lf c.args.piece.now c.memchr.result c.memchr.ensures

pub returns-clause-within : goal.returns-clause-within
returns-clause-within c =
    let found = found_or_len is_lf c.args.piece.now c.memchr.result c.memchr.ensures in
    omega (arith, c.unwrap_or.ensures, found, prefix_len-le-length (λ b. not (is_lf b)) c.args.piece.now)
