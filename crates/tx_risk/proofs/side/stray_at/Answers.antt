use Rattle.tx_risk.proofs.Common.{◌∙◌, length, refl, sym, ap, arith, rules, ltb-true, ltb-false, IsPartitionPoint-from_clause, comes_before}
use Rattle.std.proofs.lemmas.Option.{slice_get_read, slice_get_past}
use Rattle.tx_risk.proofs.Comparing.{parted, told_at, stray_at_point}
use Rattle.tx_risk.proofs.side.stray_at.Goals as goal

pub returns-in-Some : goal.returns-in-Some
returns-in-Some c =
    let cuts = c.args.cuts.now in let code = c.args.code in let x = c.args.start in
    let place = c.partition_point-place.result in
    let point = IsPartitionPoint-from_clause (comes_before code x) cuts place
    c.partition_point-place.ensures.partitioned (parted code x cuts c.requires) (λ a r q k. search rules) in
    c.stray_of.ensures
    ∙ ap (told_at code x) (sym (slice_get_read cuts (length cuts) place c.in-Some.cut.now refl
    (ltb-true place (length cuts) (sym c.in-Some.ensures.lookup.0)) c.in-Some.ensures.lookup.1))
    ∙ stray_at_point code x cuts place c.requires (λ k d a b. point.0 k d (omega arith) a)
    (λ d a. point.1 place d (omega arith) a)

pub returns-in-None : goal.returns-in-None
returns-in-None c =
    let cuts = c.args.cuts.now in let code = c.args.code in let x = c.args.start in
    let place = c.partition_point-place.result in
    let point = IsPartitionPoint-from_clause (comes_before code x) cuts place
    c.partition_point-place.ensures.partitioned (parted code x cuts c.requires) (λ a r q k. search rules) in
    ap (told_at code x) (sym (slice_get_past cuts place (ltb-false place (length cuts) (sym c.in-None.ensures.lookup.0))))
    ∙ stray_at_point code x cuts place c.requires (λ k d a b. point.0 k d (omega arith) a)
    (λ d a. point.1 place d (omega arith) a)
