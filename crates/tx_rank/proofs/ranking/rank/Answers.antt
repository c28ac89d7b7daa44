use Rattle.tx_rank.proofs.Common.{◌≢◌, ◌∙◌, sym, ap, length, vec_len, [], arith, eqb-true, eqb-false, ranks_of}
use Rattle.tx_rank.proofs.Certifying.{none_true}
use Rattle.tx_rank.proofs.Listing.{none_of, all_true, some_true}
use Rattle.tx_rank.proofs.ranking.rank.Goals as goal

pub returns-then-is_empty-clause-certified : goal.returns-then-is_empty-clause-certified
returns-then-is_empty-clause-certified g c =
    let empty = eqb-true (vec_len c.rank_codes.new.findings) 0 (sym c.is_empty.ensures ∙ c.if-is_empty.true) in
    let none = none_of c.rank_codes.new.findings.items (omega arith) in
    c.in_ok-cert.ensures.certified none

pub returns-then-is_empty-clause-heights : goal.returns-then-is_empty-clause-heights
returns-then-is_empty-clause-heights g c =
    let empty = eqb-true (vec_len c.rank_codes.new.findings) 0 (sym c.is_empty.ensures ∙ c.if-is_empty.true) in
    let none = none_of c.rank_codes.new.findings.items (omega arith) in
    c.in_ok-cert.ensures.heights none

pub returns-then-is_empty-clause-found : goal.returns-then-is_empty-clause-found
returns-then-is_empty-clause-found g c =
    let empty = eqb-true (vec_len c.rank_codes.new.findings) 0 (sym c.is_empty.ensures ∙ c.if-is_empty.true) in
    let none = none_of c.rank_codes.new.findings.items (omega arith) in
    (λ _ f h. none_true c.args.plan.now (ranks_of c.in_ok-cert.cert) c.args.limit c.args.spare (c.in_ok-cert.ensures.certified none) f h, λ _. tt)

pub returns-clause-listed : goal.returns-clause-listed
returns-clause-listed g c = c.in_ok-cert.ensures.listed

pub returns-clause-each : goal.returns-clause-each
returns-clause-each g c = all_true c.args.plan.now c.args.limit c.args.spare c.rank_codes.new.findings.items c.in_ok-cert.ensures.listed

pub returns-clause-found : goal.returns-clause-found
returns-clause-found g c =
    let findings = c.rank_codes.new.findings in
    let full = eqb-false (vec_len findings) 0 (sym c.is_empty.ensures ∙ c.if-is_empty.false) in
    let some : findings.items ≢ [] = λ e. let l = ap length e in full (omega arith) in
    let each = all_true c.args.plan.now c.args.limit c.args.spare findings.items c.in_ok-cert.ensures.listed in
    (λ b. absurd b, λ none. some_true c.args.plan.now c.args.limit c.args.spare findings.items each some none)

pub returns-clause-wherever : goal.returns-clause-wherever
returns-clause-wherever g c = λ ranks cert.
    let findings = c.rank_codes.new.findings in
    let full = eqb-false (vec_len findings) 0 (sym c.is_empty.ensures ∙ c.if-is_empty.false) in
    let some : findings.items ≢ [] = λ e. let l = ap length e in full (omega arith) in
    let each = all_true c.args.plan.now c.args.limit c.args.spare findings.items c.in_ok-cert.ensures.listed in
    some_true c.args.plan.now c.args.limit c.args.spare findings.items each some (none_true c.args.plan.now ranks c.args.limit c.args.spare cert)

pub returns-then-is_empty-clause-fits : goal.returns-then-is_empty-clause-fits
returns-then-is_empty-clause-fits g c = record { codes = c.in_ok-cert.ensures.codes; exchanges = c.in_ok-cert.ensures.exchanges; rules = c.rules.ensures }

pub returns-then-is_empty-clause-wherever : goal.returns-then-is_empty-clause-wherever
returns-then-is_empty-clause-wherever g c = λ ranks cert. tt

pub returns-clause-fails : goal.returns-clause-fails
returns-clause-fails g c = λ e.
    let full = eqb-false (vec_len c.rank_codes.new.findings) 0 (sym c.is_empty.ensures ∙ c.if-is_empty.false) in
    let l = ap length e in full (omega arith)
