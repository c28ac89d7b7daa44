use Rattle.std.proofs.Common.{◌≢◌, ◌∙◌, sym, ap, length, vec_len, [], arith, eqb-true}
use Rattle.tx_change.proofs.Common.{eqb-false, ranks_of, sound_change}
use Rattle.tx_rank.proofs.Listing.{none_of}
use Rattle.tx_change.proofs.Listing.{each_certified, nothing_found, changes_shown, some_found}
use Rattle.tx_change.proofs.Cleared.{certificate_along, cleared}
use Rattle.tx_change.proofs.changing.change.Goals as goal

pub returns-clause-exactly : goal.returns-clause-exactly
returns-clause-exactly g c =
    let findings = c.change_codes.new.findings in
    let full = eqb-false (vec_len findings) 0 (sym c.is_empty.ensures ∙ c.if-is_empty.false) in
    let some : findings.items ≢ [] = λ e. let l = ap length e in full (omega arith) in (
      λ b. absurd b,
      λ each. some_found c.args.old.now c.args.new.now c.args.limits.limit c.args.limits.spare findings.items c.in_ok-cert.ensures.listed some
          (nothing_found c.args.old.now c.args.new.now c.args.limits.limit c.args.limits.spare c.rules.ensures c.rules-2.ensures c.requires.network each),
    )

pub returns-clause-found : goal.returns-clause-found
returns-clause-found g c =
    let findings = c.change_codes.new.findings in
    let full = eqb-false (vec_len findings) 0 (sym c.is_empty.ensures ∙ c.if-is_empty.false) in
    let some : findings.items ≢ [] = λ e. let l = ap length e in full (omega arith) in
    (λ b. absurd b, λ none. some_found c.args.old.now c.args.new.now c.args.limits.limit c.args.limits.spare findings.items c.in_ok-cert.ensures.listed some none)

pub returns-clause-shown : goal.returns-clause-shown
returns-clause-shown g c = changes_shown c.args.old.now c.args.new.now c.args.limits.limit c.args.limits.spare c.rules.ensures c.rules-2.ensures c.requires.network c.change_codes.new.findings.items c.in_ok-cert.ensures.listed

pub returns-then-is_empty : goal.returns-then-is_empty
returns-then-is_empty g c =
    let empty = eqb-true (vec_len c.change_codes.new.findings) 0 (sym c.is_empty.ensures ∙ c.if-is_empty.true) in
    let none = none_of c.change_codes.new.findings.items (omega arith) in
    let each = each_certified c.args.old.now c.args.new.now c.args.limits.limit c.args.limits.spare c.requires.network (ranks_of c.in_ok-cert.cert) (c.in_ok-cert.ensures.common none) in
    record {
      exactly = (λ _. each_certified c.args.old.now c.args.new.now c.args.limits.limit c.args.limits.spare c.requires.network (ranks_of c.in_ok-cert.cert) (c.in_ok-cert.ensures.common none), λ _. tt);
      found = (λ _. nothing_found c.args.old.now c.args.new.now c.args.limits.limit c.args.limits.spare c.rules.ensures c.rules-2.ensures c.requires.network each, λ _. tt);
      common = c.in_ok-cert.ensures.common none;
      cleared = cleared c.args.old.now c.args.new.now c.args.limits.limit c.args.limits.spare c.in_ok-cert.cert c.requires.network (c.in_ok-cert.ensures.common none) c.confirm.ensures c.confirm-then-is_empty.ensures;
      sound = sound_change c.args.old.now c.args.new.now (ranks_of c.in_ok-cert.cert) c.args.limits.limit c.args.limits.spare c.requires.network (c.in_ok-cert.ensures.common none);
      heights = c.in_ok-cert.ensures.heights none;
      fits = c.confirm.ensures.fits;
      fails = tt;
      shown = tt;
      listed = tt;
    }

pub confirm-requires-clause-fits : goal.confirm-requires-clause-fits
confirm-requires-clause-fits g c = record { codes = c.in_ok-cert.ensures.codes; exchanges = c.in_ok-cert.ensures.exchanges; rules = c.rules-then-is_empty.ensures }

pub confirm-requires-clause-certified : goal.confirm-requires-clause-certified
confirm-requires-clause-certified g c =
    let empty = eqb-true (vec_len c.change_codes.new.findings) 0 (sym c.is_empty.ensures ∙ c.if-is_empty.true) in
    (c.in_ok-cert.ensures.common (none_of c.change_codes.new.findings.items (omega arith))).before

pub confirm-requires-then-is_empty-clause-fits : goal.confirm-requires-then-is_empty-clause-fits
confirm-requires-then-is_empty-clause-fits g c = certificate_along c.args.old.now c.args.new.now c.in_ok-cert.cert c.requires.network c.confirm.ensures.fits

pub confirm-requires-then-is_empty-clause-certified : goal.confirm-requires-then-is_empty-clause-certified
confirm-requires-then-is_empty-clause-certified g c =
    let empty = eqb-true (vec_len c.change_codes.new.findings) 0 (sym c.is_empty.ensures ∙ c.if-is_empty.true) in
    (c.in_ok-cert.ensures.common (none_of c.change_codes.new.findings.items (omega arith))).after

pub change_codes-requires-clause-network : goal.change_codes-requires-clause-network
change_codes-requires-clause-network g c = record { network = c.requires.network; old_rules = c.rules.ensures; new_rules = c.rules-2.ensures }
