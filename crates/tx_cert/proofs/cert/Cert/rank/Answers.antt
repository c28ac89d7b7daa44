use Rattle.tx_cert.proofs.Common.{◌+◌, ◌*◌, inl, inr, ap, ◌∙◌, arith, Certificate, rank_at, Table}
use Rattle.tx_cert.proofs.Tables.{rank_read, rank_foreign}
use Rattle.tx_cert.proofs.cert.Cert.rank.Goals.{else-index-self-via-then-index-self+else-index-self-2, else-index-self-via-else-index-self}
use Rattle.tx_cert.proofs.cert.Cert.rank.Goals as goal

pub returns-then-index-self-2-clause-rank : goal.returns-then-index-self-2-clause-rank
returns-then-index-self-2-clause-rank g c =
    let t : Table = record { codes = c.self.inside.codes; exchanges = c.self.inside.exchanges; ranks = c.self.inside.ranks.items } in
    rank_read t c.self.invariant c.args.code c.args.exchange _ (omega arith) (omega arith)
    (λ i. c.index-then-index-self-2.ensures i * c.self.inside.exchanges + c.index-then-index-self-2-2.ensures i) c.index-then-index-self-2-3.result.now c.index-then-index-self-2-3.ensures
    ∙ ap (λ (t : Certificate). rank_at t c.args.code c.args.exchange) c.self.view_is

pub returns-else-index-self-clause-rank : goal.returns-else-index-self-clause-rank
returns-else-index-self-clause-rank g c =
    let t : Table = record { codes = c.self.inside.codes; exchanges = c.self.inside.exchanges; ranks = c.self.inside.ranks.items } in
    let e = c.index.ensures in
    rank_foreign t c.args.code c.args.exchange (elim c.else-index-self.branch [
      | else-index-self-via-then-index-self+else-index-self-2 w ↦ inr (omega arith)
      | else-index-self-via-else-index-self w ↦ inl (omega arith)
    ])
    ∙ ap (λ (t : Certificate). rank_at t c.args.code c.args.exchange) c.self.view_is
