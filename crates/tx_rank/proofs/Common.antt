-- The names that most proofs here cite, passed on from one place. Declares nothing.
pub use Rattle.std.proofs.Common.{Bool, List, None, Option, Some, [], ap, append-nil, append_assoc, arith, drop, eqb, eqb-true, false, get_or, inl, inr, is_some, length, length-append, ltb, map, refl, rules, subst, suc, sym, take, true, unwrap_or, vec_capacity, vec_len, zero, ℕ, ◌*◌, ◌++◌, ◌+◌, ◌-◌, ◌<◌, ◌==◌, ◌∙◌, ◌∷◌, ◌≡◌, ◌≢◌, ◌≤◌, ◌⊎◌}
pub use Rattle.std.proofs.Math.ListN.{length-set, set}
pub use Rattle.std.proofs.Math.Seq.{take-append_seam}
pub use Rattle.std.proofs.lemmas.Bool.{and_parts, cases_lt, eqb-false, false≢true, ltb-true, ne_eqb, or_cases}
pub use Rattle.std.proofs.lemmas.List.{length-replicate, take_all}
pub use Rattle.std.proofs.lemmas.Option.{slice_get-get_or, slice_get_past}
pub use Rattle.std.specs.List.{AllByRecursion, flat_map, list_any}
pub use Rattle.std.specs.Option.{option_and_then}
pub use Rattle.std.specs.Prelude.{not, replicate, slice_get, ◌↔◌}
pub use Rattle.tx_cert.specs.Certificate.{Certificate, rank_at, ranks_of}
pub use Rattle.tx_plan.proofs.Among.{all_among, among_all, among_cases, among_left, among_right}
pub use Rattle.tx_plan.proofs.ByIndex.{take_next}
pub use Rattle.tx_plan.specs.Ambiguous.{ambiguous_of}
pub use Rattle.tx_plan.specs.Among.{Among}
pub use Rattle.tx_plan.specs.Certified.{IsCertified, Ranks}
pub use Rattle.tx_plan.specs.Plan.{Code, Plan, home_of}
pub use Rattle.tx_plan.specs.Routes.{is_origin, is_origin_for, route_list}
pub use Rattle.tx_plan.specs.Rules.{IsPlan}
pub use Rattle.tx_rank.specs.Findings.{AreFindings, AreFindingsBelow, AreFindingsOfCode, IsTrueOf, end_at, pair_findings}
pub use Rattle.tx_rank.specs.Findings.AreFindingsOfCode.{looped, straight}
pub use Rattle.tx_rank.specs.GradeText.{code_line}
pub use Rattle.tx_rank.specs.Grades.{AreBounds, AreUnmended, CanBeCertifiedFor, IsGrade, NothingIsWrong, Suits}
pub use Rattle.tx_rank.specs.Heights.{AreHeights, IsReached, RanksByHeight}
pub use Rattle.tx_rank.specs.Judged.{IsJudged}
pub use Rattle.tx_rank.specs.Nets.{Certifies, IsNet}
pub use Rattle.tx_rank.specs.Reached.{is_marked}
pub use Rattle.tx_rank.specs.Report.{finding_line, step_text}
pub use Rattle.tx_rank.specs.Walks.{AllDiffer, Goes, IsLong, IsLoop, IsShort, IsWalk, Net, Walk, before_end, end_of, net_of, passed}
pub use Rattle.tx_rank.specs.declared.bounds.Bounds.{Bounds}
pub use Rattle.tx_rank.specs.declared.finding.Finding.{Finding}
pub use Rattle.tx_rank.specs.declared.finding.Finding.TheVariants.{Ambiguous, Long, Loop, Short}
pub use Rattle.tx_rank.specs.declared.list_scan.Tried.{Tried}
pub use Rattle.tx_rank.specs.declared.mark.Mark.{Mark}
pub use Rattle.tx_rank.specs.declared.mark.Mark.TheVariants.{Open, Ranked, Unseen}
pub use Rattle.tx_rank.specs.inner.Judged.{AddsBelow, AddsShorts, IsLongFound, IsRankedBelow, IsShortAt, LowOrigins}
pub use Rattle.tx_rank.specs.inner.Links.{AreLinks, IsLink, LinksAll, LinksBelow}
pub use Rattle.tx_rank.specs.inner.Marks.{AreSettled, Grew, IsEnd, IsInHand, IsLower, IsMarked, IsOnward, IsPassed, IsPassing, IsStep, IsTop, IsTrail, IsTried, NoneOpen, cost, rank_in, rank_of}
pub use Rattle.tx_text.proofs.Putting.{puts_all, puts_then, puts_wrote}
pub use Rattle.tx_text.proofs.Writing.{some}
pub use Rattle.tx_text.specs.Puts.{Puts}
pub use borrow.Author.Tests.{ltb-false}
