use Rattle.tx_rank.proofs.Common.{◌∙◌, ap, sym, rank_in}
use Rattle.tx_cert.specs.Certificate.{rank_at as ranked_at, with_rank}
use Rattle.tx_cert.proofs.Ranks.{rank_here, rank_there}
use Rattle.tx_rank.proofs.written.put_rank.Goals as goal

pub returns-in-Some-clause-others : goal.returns-in-Some-clause-others
returns-in-Some-clause-others g c = λ d x apart.
    ap (λ t. ranked_at t d x) c.set.ensures ∙ rank_there c.args.cert.now c.args.code c.exchange-exchange.result c.in-Some.rank d x (λ a b. apart a (b ∙ c.exchange-exchange.ensures))

pub returns-in-Some-clause-here : goal.returns-in-Some-clause-here
returns-in-Some-clause-here g c =
    let cert = c.args.cert.now in
    let x = c.exchange-exchange.result in
    let e = c.exchange-exchange.ensures in
    ap (λ t. ranked_at t c.args.code c.args.index) c.set.ensures ∙ ap (ranked_at (with_rank cert c.args.code x c.in-Some.rank) c.args.code) (sym e) ∙ rank_here cert c.args.code x c.in-Some.rank ∙ c.in-Some.ensures ∙ ap (rank_in c.args.marks.now) e

pub returns-in-None-clause-here : goal.returns-in-None-clause-here
returns-in-None-clause-here g c = c.requires.blank ∙ c.in-None.ensures ∙ ap (rank_in c.args.marks.now) c.exchange-exchange.ensures
