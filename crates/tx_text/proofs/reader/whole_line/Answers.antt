use Rattle.tx_text.proofs.Common.{length, take, ap, ◌∙◌, arith, lt-ltb, length-take}
use Rattle.tx_text.specs.Text.{without_cr}
use Rattle.tx_text.proofs.Feeding.{length-without_cr-le}
use Rattle.tx_text.proofs.reader.whole_line.Goals as goal

pub returns-in-None-clause-short : goal.returns-in-None-clause-short
returns-in-None-clause-short c =
    let front = take c.lf_or_len-len.result c.args.piece.now in
    omega (arith, ap length c.without_cr-line.ensures, length-without_cr-le front, length-take c.lf_or_len-len.result c.args.piece.now)

pub returns-in-None-clause-lf : goal.returns-in-None-clause-lf
returns-in-None-clause-lf c = lt-ltb _ _ (omega (arith, c.lf_or_len-len.ensures.index, c.lf_or_len-len.ensures.within))

pub returns-in-None-clause-shown : goal.returns-in-None-clause-shown
returns-in-None-clause-shown c =
    ap length (c.without_cr-line.ensures ∙ ap without_cr (ap (λ n. take n c.args.piece.now) c.lf_or_len-len.ensures.index))
