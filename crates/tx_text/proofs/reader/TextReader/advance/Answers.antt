use Rattle.tx_text.proofs.Common.{◌≡◌, suc, refl, Bool, ap, ◌∙◌, sym, Ok, inl, inr, true, false, None, arith, reading_rest, reading_size, Reading, IsFeed}
use Rattle.tx_text.proofs.Sizes.{if_ok, on_ok, if_some, fed_left, fed_smaller, emptied}
use Rattle.tx_text.proofs.CallCounts.{went_none, went_same, went_more, calls_so_far, calls_more, gave_all}
use Rattle.tx_text.proofs.Exits.{exits_with}
use Rattle.tx_text.proofs.Framing.{on_none}
use Rattle.tx_text.proofs.Advancing.{says_at, adv_err, adv_line, on_empty, adv_cut, adv_end, after_fill, after_empty_fill}
use Rattle.tx_text.proofs.reader.TextReader.advance.Goals as goal

pub pieces-init : goal.pieces-init
pieces-init g c = record { says = on_none _ _; sound = c.requires; less = omega arith; went = went_none g.R.Source.called _ _; unmarked = refl }

pub returns-in_err-feed-clause-gives : goal.returns-in_err-feed-clause-gives
returns-in_err-feed-clause-gives g c =
    let r = c.pieces.self in
    let n = c.feed.new.self in
    let x = c.in_err-feed.field-0.0 in
    rw (exits_with c.from_residual.result x c.from_residual.ensures.1)
    (adv_err _ _ _ (reading_rest r) n.feed n.piece c.pieces.invariant.says x (reading_rest n) n.feed.line _ (says_at r n _ c.feed.ensures.known c.pieces.invariant.sound c.in_err-feed.ensures.gives c.feed.ensures.leaves))

pub returns-then-branch-clause-gives : goal.returns-then-branch-clause-gives
returns-then-branch-clause-gives g c =
    let r = c.pieces.self in
    let n = c.feed.new.self in
    adv_line _ _ _ (reading_rest r) n.feed n.piece c.pieces.invariant.says (says_at r n (Ok true) c.feed.ensures.known c.pieces.invariant.sound (ap Ok (sym c.if-branch.true) ∙ c.in_ok-feed.ensures.gives) c.feed.ensures.leaves)

pub returns-then-self-eq0-clause-gives : goal.returns-then-self-eq0-clause-gives
returns-then-self-eq0-clause-gives g c =
    let r = c.pieces.self in
    let n = c.feed.new.self in
    let s = says_at r n (Ok false) c.feed.ensures.known c.pieces.invariant.sound (ap Ok (sym c.if-branch.false) ∙ c.in_ok-feed.ensures.gives) c.feed.ensures.leaves in
    let none : 0 ≡ r.left = sym (ap (λ (x : Reading). x.left) (sym c.self.view_is) ∙ c.if-self-eq0.true) ∙ fed_left r n c.feed.ensures.leaves in
    let called = g.R.Source.called in
    let all = gave_all called c.args.self.now.left _ _ (went_same called _ _ 0 _ _ none c.pieces.invariant.went) in
    (adv_cut _ (on_empty _ _ _ (reading_rest r) n.feed n.piece c.pieces.invariant.says s) c.feed.ensures.known_after, inr all)

pub pieces-preserved : goal.pieces-preserved
pieces-preserved g c =
    let r = c.pieces.self in
    let n = c.feed.new.self in
    let i = c.pieces.invariant in
    let s = says_at r n (Ok false) c.feed.ensures.known i.sound (ap Ok (sym c.if-branch.false) ∙ c.in_ok-feed.ensures.gives) c.feed.ensures.leaves in
    record {
      says = after_fill _ _ _ _ n.feed c.fill.new.self (on_empty _ _ _ (reading_rest r) n.feed n.piece i.says s) c.fill.ensures.feed c.fill.ensures.bytes;
      sound = rw c.fill.ensures.feed s.0;
      less = omega (arith, c.fill.ensures.left, c.fill.ensures.short, emptied r n c.feed.ensures.leaves s.1, i.less);
      went = went_more g.R.Source.called _ _ _ _ _ (went_same g.R.Source.called _ _ (suc c.fill.new.self.left) _ _ (omega (arith, c.fill.ensures.left, fed_left r n c.feed.ensures.leaves)) i.went) (c.in_ok-fill.ensures.gave (ap Ok c.if-not-branch.false));
      unmarked = c.in_ok-fill.ensures.unmarked ∙ i.unmarked;
    }

pub returns-in_err-fill-clause-gives : goal.returns-in_err-fill-clause-gives
returns-in_err-fill-clause-gives g c =
    let r = c.pieces.self in
    let n = c.feed.new.self in
    let s = says_at r n (Ok false) c.feed.ensures.known c.pieces.invariant.sound (ap Ok (sym c.if-branch.false) ∙ c.in_ok-feed.ensures.gives) c.feed.ensures.leaves in
    let x = c.in_err-fill.field-0.0 in
    let e = c.in_err-fill.ensures.err in
    let fed = after_empty_fill _ _ _ _ n.feed c.fill.new.self (on_empty _ _ _ (reading_rest r) n.feed n.piece c.pieces.invariant.says s) c.fill.ensures.feed c.fill.ensures.bytes e.1 in
    let i : IsFeed c.fill.new.self.feed = rw c.fill.ensures.feed c.feed.ensures.known_after in
    rw (exits_with c.from_residual-in_err-fill.result x c.from_residual-in_err-fill.ensures.1, e.0) (adv_cut _ fed i, inl e.2)

pub returns-then-not-branch-clause-gives : goal.returns-then-not-branch-clause-gives
returns-then-not-branch-clause-gives g c =
    let r = c.pieces.self in
    let n = c.feed.new.self in
    let s = says_at r n (Ok false) c.feed.ensures.known c.pieces.invariant.sound (ap Ok (sym c.if-branch.false) ∙ c.in_ok-feed.ensures.gives) c.feed.ensures.leaves in
    let e = c.in_ok-fill.ensures.end (ap Ok c.if-not-branch.true) in
    let fed = after_empty_fill _ _ _ _ n.feed c.fill.new.self (on_empty _ _ _ (reading_rest r) n.feed n.piece c.pieces.invariant.says s) c.fill.ensures.feed c.fill.ensures.bytes e.0 in
    let i : IsFeed c.fill.new.self.feed = rw c.fill.ensures.feed c.feed.ensures.known_after in
    let z : c.fill.new.self.feed.fault ≡ None = rw c.fill.ensures.feed s.0 in
    rw (c.finish.ensures.gives, c.finish.ensures.leaves) (adv_end _ c.fill.new.self.feed fed i z e.1 _ _)

pub returns-then-branch-clause-falls : goal.returns-then-branch-clause-falls
returns-then-branch-clause-falls g c =
    let e = sym (ap Ok (sym c.if-branch.true) ∙ c.in_ok-feed.ensures.gives) in
    λ _. omega (arith, fed_smaller c.pieces.self c.feed.new.self e c.feed.ensures.leaves, c.pieces.invariant.less)

pub returns-then-not-branch-clause-falls : goal.returns-then-not-branch-clause-falls
returns-then-not-branch-clause-falls g c =
    let r = c.pieces.self in
    let n = c.feed.new.self in
    let s = says_at r n (Ok false) c.feed.ensures.known c.pieces.invariant.sound (ap Ok (sym c.if-branch.false) ∙ c.in_ok-feed.ensures.gives) c.feed.ensures.leaves in
    let e = ap reading_size c.finish.ensures.leaves in
    if_ok c.finish.result (λ (b : Bool) _. omega (arith, e, c.fill.ensures.left, c.fill.ensures.short, emptied r n c.feed.ensures.leaves s.1, c.pieces.invariant.less))

pub returns-in_err-feed-clause-calls : goal.returns-in_err-feed-clause-calls
returns-in_err-feed-clause-calls g c = calls_so_far g.R.Source.called _ _ _ _ c.pieces.invariant.went

pub returns-then-branch-clause-calls : goal.returns-then-branch-clause-calls
returns-then-branch-clause-calls g c = calls_so_far g.R.Source.called _ _ _ _ c.pieces.invariant.went

pub returns-then-self-eq0-clause-calls : goal.returns-then-self-eq0-clause-calls
returns-then-self-eq0-clause-calls g c = calls_so_far g.R.Source.called _ _ _ _ c.pieces.invariant.went

pub returns-then-branch-clause-went : goal.returns-then-branch-clause-went
returns-then-branch-clause-went g c =
    let n = c.feed.new.self in
    let w = went_same g.R.Source.called _ _ n.left _ _ (fed_left c.pieces.self n c.feed.ensures.leaves) c.pieces.invariant.went in
    λ _. if_some n.feed.line (λ l _. w)

pub returns-in_err-fill-clause-calls : goal.returns-in_err-fill-clause-calls
returns-in_err-fill-clause-calls g c =
    let w = went_same g.R.Source.called _ _ (suc c.fill.new.self.left) _ _ (omega (arith, c.fill.ensures.left, fed_left c.pieces.self c.feed.new.self c.feed.ensures.leaves)) c.pieces.invariant.went in
    calls_more g.R.Source.called _ _ _ _ _ w c.fill.ensures.call

pub returns-then-not-branch-clause-calls : goal.returns-then-not-branch-clause-calls
returns-then-not-branch-clause-calls g c =
    let w = went_same g.R.Source.called _ _ (suc c.fill.new.self.left) _ _ (omega (arith, c.fill.ensures.left, fed_left c.pieces.self c.feed.new.self c.feed.ensures.leaves)) c.pieces.invariant.went in
    calls_more g.R.Source.called _ _ _ _ _ w c.fill.ensures.call

pub returns-then-not-branch-clause-unmarked : goal.returns-then-not-branch-clause-unmarked
returns-then-not-branch-clause-unmarked g c = on_ok c.finish.result (c.in_ok-fill.ensures.unmarked ∙ c.pieces.invariant.unmarked)
