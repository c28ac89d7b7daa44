use Rattle.tx_change.proofs.Cleared.{is_right_change, verdict_cleared, verdict_denied, verdict_new_denied}
use Rattle.tx_change.proofs.judging.judge_change.Goals as goal

pub returns-in-Found-2 : goal.returns-in-Found-2
returns-in-Found-2 g c =
    let p = c.args.joined.now.old in
    let q = c.args.joined.now.new in
    let limit = c.args.limits.limit in
    let spare = c.args.limits.spare in
    let e = c.in_ok-cert.ensures in
    verdict_cleared g.row.A.Denot p q c.args.new.now limit spare c.in_ok-cert.field-0 (is_right_change g.row.A.Denot p q limit spare c.in_ok-cert.field-0 e.exactly e.fails e.shown e.listed e.cleared)
    c.in-Found.cert c.in-Found.is c.in_ok-judge-in-Found.field-0 c.in_ok-judge-in-Found.ensures c.in-Found-2.field-0 c.in-Found-2.is

pub returns-in-Fails-2 : goal.returns-in-Fails-2
returns-in-Fails-2 g c =
    let p = c.args.joined.now.old in
    let q = c.args.joined.now.new in
    let limit = c.args.limits.limit in
    let spare = c.args.limits.spare in
    let e = c.in_ok-cert.ensures in
    verdict_new_denied g.row.A.Denot p q c.args.new.now limit spare c.in_ok-cert.field-0 (is_right_change g.row.A.Denot p q limit spare c.in_ok-cert.field-0 e.exactly e.fails e.shown e.listed e.cleared)
    c.in-Found.cert c.in-Found.is c.in_ok-judge-in-Found.field-0 c.in_ok-judge-in-Found.ensures c.in-Fails-2.findings c.in-Fails-2.is

pub returns-in-Fails : goal.returns-in-Fails
returns-in-Fails g c =
    let p = c.args.joined.now.old in
    let q = c.args.joined.now.new in
    let limit = c.args.limits.limit in
    let spare = c.args.limits.spare in
    let e = c.in_ok-cert.ensures in
    verdict_denied g.row.A.Denot p q c.args.new.now limit spare c.in_ok-cert.field-0 (is_right_change g.row.A.Denot p q limit spare c.in_ok-cert.field-0 e.exactly e.fails e.shown e.listed e.cleared)
    c.in-Fails.findings c.in-Fails.is
