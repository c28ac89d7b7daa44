use Rattle.tx_trace.proofs.Common.{◌≡◌, ◌++◌, ◌∷◌, [], ℕ, List, Some, true, false, sym, subst, ◌∙◌, slice_get, set, AreMarksOf}
use Rattle.std.proofs.lemmas.Option.{slice_get-get_or}
use Rattle.tx_trace.proofs.Ends.{marks_push, mark_read}
use Rattle.tx_trace.proofs.Rounds.{meet-new}
use Rattle.tx_trace.proofs.meeting.meet.Goals as goal

pub returns-clause-marks : goal.returns-clause-marks
returns-clause-marks g c =
    let marks = c.args.marks.now in
    let met = c.args.met.now.items in
    let x = c.args.exchange in
    subst (λ (l : List ℕ). AreMarksOf l (set marks c.index-2.result true)) (sym c.in_ok-push.ensures.items)
    (subst (λ (k : ℕ). AreMarksOf (met ++ x ∷ []) (set marks k true)) (sym c.index-2.ensures) (marks_push met x marks c.requires.marks c.requires.within))

pub returns-clause-met : goal.returns-clause-met
returns-clause-met g c =
    let marks = c.args.marks.now in
    let met = c.args.met.now.items in
    let x = c.args.exchange in
    let at : slice_get marks x ≡ Some false = let e = slice_get-get_or marks x false c.requires.within in cc in
    c.in_ok-push.ensures.items ∙ sym (meet-new met x (mark_read met marks x false c.requires.marks c.requires.within at))
