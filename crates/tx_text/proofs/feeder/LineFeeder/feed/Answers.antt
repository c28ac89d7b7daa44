use Rattle.tx_text.proofs.Common.{◌≡◌, None, length, arith, rules, ap, Feed}
use Rattle.tx_text.proofs.FedOn.{added, ended_by_lf}
use Rattle.tx_text.proofs.feeder.LineFeeder.feed.Goals as goal

pub complete_line-requires-clause-fed : goal.complete_line-requires-clause-fed
complete_line-requires-clause-fed g c =
    let s = added c.args.self.now c.begin.new.self c.add.new.self c.split_at.result.0.now c.begin.ensures c.in_default-add.ensures.held in
    omega (arith, s.start, s.begun, c.split_at.ensures.front_len)

pub returns-then-line-clause-leaves : goal.returns-then-line-clause-leaves
returns-then-line-clause-leaves g c =
    let f = c.args.self.now in
    let free : f.fault ≡ None = search rules in
    let e = c.in_default-add.ensures in
    ended_by_lf f c.begin.new.self c.add.new.self c.complete_line.new.self c.args.piece.now c.split_at.result.0.now c.lf_or_len-index.result c.add.result (record { let_go = c.begin.ensures; index = c.lf_or_len-index.ensures.index; cut = c.split_at.ensures.front; lf = c.if-line.true; gives = c.add.ensures.gives; right = c.in_default-add.is; held = e.held }) free c.complete_line.ensures

pub returns-then-line-clause-counted : goal.returns-then-line-clause-counted
returns-then-line-clause-counted g c =
    let s = added c.args.self.now c.begin.new.self c.add.new.self c.split_at.result.0.now c.begin.ensures c.in_default-add.ensures.held in
    let e = c.complete_line.ensures in
    omega (arith, s.start, s.begun, c.split_at.ensures.front_len, ap (λ (x : Feed). x.start) e, ap (λ (x : Feed). length x.begun) e)

pub returns-then-line-clause-fits : goal.returns-then-line-clause-fits
returns-then-line-clause-fits g c =
    let s = added c.args.self.now c.begin.new.self c.add.new.self c.split_at.result.0.now c.begin.ensures c.in_default-add.ensures.held in
    let e = c.complete_line.ensures in
    (omega arith, omega (arith, s.start, s.begun, c.split_at.ensures.front_len, ap (λ (x : Feed). x.start) e, ap (λ (x : Feed). length x.begun) e))

pub returns-clause-counted : goal.returns-clause-counted
returns-clause-counted g c =
    let s = added c.args.self.now c.begin.new.self c.add.new.self c.split_at.result.0.now c.begin.ensures c.in_default-add.ensures.held in
    omega (arith, s.start, s.begun, c.split_at.ensures.front_len)

pub returns-clause-fits : goal.returns-clause-fits
returns-clause-fits g c =
    let s = added c.args.self.now c.begin.new.self c.add.new.self c.split_at.result.0.now c.begin.ensures c.in_default-add.ensures.held in
    (c.lf_or_len-index.ensures.within, omega (arith, s.start, s.begun, c.split_at.ensures.front_len))
