use Rattle.std.proofs.Common.{◌≡◌, ap, sym, subst, ◌∙◌, true, false, unwrap_or, Option, Some, None, Bool, IfSome}
use Rattle.tx_lines.proofs.Common.{if◌then◌else◌, same_line, Line, Status, with_mark, is_unmarked, no_mark, kept_status}
use Rattle.std.proofs.lemmas.Map.Made.{lookup_key_passes}
use Rattle.indexmap.specs.IndexMap.{Updates, get}
use Rattle.tx_plan.specs.inner.LineLaws.{same_line-is}
use Rattle.tx_lines.proofs.book.take_mark.Goals as goal

unmarked_goes : (s : Status) → is_unmarked s ≡ true → None ≡ kept_status s
unmarked_goes s h = sym (ap (λ (b : Bool). if b then None else Some s) h)

-- the stored line is the one that was asked for
pub returns-then-is_unmarked-clause-kept : goal.returns-then-is_unmarked-clause-kept
returns-then-is_unmarked-clause-kept g c =
    let old = c.args.statuses.now in
    let new = c.swap_remove_index-entry.new.self in
    let line = c.args.line.now in
    let stored = c.in-Some.field-0-1.now in
    let same = same_line-is line stored (lookup_key_passes (same_line line) old.entries stored (sym c.in-Some.ensures.key)) in
    let out = subst (λ r. IfSome r (λ p. Updates same_line old new p.0 None)) (c.swap_remove_index-entry.ensures.entry ∙ c.in-Some.ensures.entry) c.swap_remove_index-entry.ensures.updates in
    let gone = unmarked_goes (with_mark c.args.mark false c.in-Some.status.now) (ap is_unmarked (sym c.with_mark-left.ensures) ∙ sym c.is_unmarked.ensures ∙ c.if-is_unmarked.true)
    ∙ ap (λ (o : Option Status). kept_status (with_mark c.args.mark false (unwrap_or o no_mark))) c.in-Some.ensures.value in
    λ q.
    subst (λ (l : Line). get same_line new q ≡ (if same_line l q then None else get same_line old q)) (sym same) (out.0 q)
    ∙ ap (λ (o : Option Status). if same_line line q then o else get same_line old q) gone
