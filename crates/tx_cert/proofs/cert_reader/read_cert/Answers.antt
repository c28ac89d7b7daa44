use Rattle.tx_cert.proofs.Common.{◌≡◌, ℕ, List, Ok, Err, codes, true, false, refl, subst, AtEnd, exits_with, Plan, CertWord, no_ranks_for, IsCertificateOf}
use Rattle.tx_text.specs.Said.{line_declares}
use Rattle.tx_text.proofs.Beside.{answers_beside, kept_beside}
use Rattle.tx_cert.specs.CertText.{declare}
use Rattle.tx_cert.proofs.Reading.{slice_says}
use Rattle.tx_cert.proofs.cert_reader.read_cert.Goals as goal

-- a line of the text declares something
abbrev wanted : Plan → List ℕ → ℕ → Type 0
wanted p text n = line_declares (declare p) (codes "CERT") 1 (no_ranks_for p) n AtEnd text ≡ true

pub returns-in_err-start-clause-gives : goal.returns-in_err-start-clause-gives
returns-in_err-start-clause-gives g c =
    rw (exits_with c.from_residual.result c.in_err-start.field-0.0 c.from_residual.ensures.1, c.in_err-start.ensures.err) refl

pub returns-in_err-lines-clause-gives : goal.returns-in_err-lines-clause-gives
returns-in_err-lines-clause-gives g c =
    let p = c.args.plan.now in
    let x = c.in_err-lines.field-0.0 in
    let a = rw c.in_ok-start.ensures.ok at c.in_err-lines.ensures in
    rw (exits_with c.from_residual-in_err-lines.result x c.from_residual-in_err-lines.ensures.1)
    (slice_says p c.args.text.now (wanted p c.args.text.now) (Err (x.line, x.kind)) (answers_beside declare p (codes "CERT") 1 (no_ranks_for p) (λ (w : CertWord). false) c.args.text.now (Err (x.line, x.kind)) a))

pub returns-clause-gives : goal.returns-clause-gives
returns-clause-gives g c =
    let p = c.args.plan.now in
    let s = c.in_ok-lines.lines in
    let a = rw c.in_ok-start.ensures.ok at c.in_ok-lines.ensures in
    rw c.finish.ensures.cert
    (slice_says p c.args.text.now (wanted p c.args.text.now) (Ok s.1) (answers_beside declare p (codes "CERT") 1 (no_ranks_for p) (λ (w : CertWord). false) c.args.text.now (Ok s) a))

pub returns-clause-fits : goal.returns-clause-fits
returns-clause-fits g c =
    let p = c.args.plan.now in
    let s = c.in_ok-lines.lines in
    let a = rw c.in_ok-start.ensures.ok at c.in_ok-lines.ensures in
    subst (λ q. IsCertificateOf q c.finish.result) (kept_beside declare p (codes "CERT") 1 (no_ranks_for p) AtEnd c.args.text.now s a) c.finish.ensures.fits
