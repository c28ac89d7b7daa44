use Rattle.tx_lines.proofs.Common.{◌+◌, ◌≤◌, Bool, ap, sym, subst, ◌∙◌, if◌then◌else◌, spare, room_taken, with_mark_of}
use Rattle.tx_lines.proofs.Sets.{book_added, book_taken, room_there, room_after}
use Rattle.tx_lines.proofs.book.LineBook.set_mark.Goals as goal

pub add_mark-requires : goal.add_mark-requires
add_mark-requires g c = let m = c.self.inside.statuses in room_there c.self.inside.ranges m m c.args.self.now c.self.view_is c.args.line.now c.args.mark (c.requires c.if-on.true)

pub returns-then-on-clause-lines : goal.returns-then-on-clause-lines
returns-then-on-clause-lines g c =
    book_added c.self.inside.ranges c.self.inside.statuses c.add_mark.new.statuses c.args.self.now c.self.view_is c.args.line.now c.args.mark c.add_mark.ensures.updates.0
    ∙ ap (λ (on : Bool). record (with_mark_of c.args.line.now c.args.mark on c.args.self.now) { room = spare c.add_mark.new.statuses }) (sym c.if-on.true)

pub returns-then-on-clause-room : goal.returns-then-on-clause-room
returns-then-on-clause-room g c =
    subst (λ (on : Bool). c.args.self.now.room ≤ spare c.add_mark.new.statuses + (if on then room_taken c.args.self.now c.args.line.now else 0)) (sym c.if-on.true)
    (room_after c.self.inside.ranges c.self.inside.statuses c.add_mark.new.statuses c.args.self.now c.self.view_is c.args.line.now c.args.mark c.add_mark.ensures.room)

pub returns-else-on-clause-lines : goal.returns-else-on-clause-lines
returns-else-on-clause-lines g c =
    book_taken c.self.inside.ranges c.self.inside.statuses c.take_mark.new.statuses c.args.self.now c.self.view_is c.args.line.now c.args.mark c.take_mark.ensures.kept
    ∙ ap (λ (on : Bool). record (with_mark_of c.args.line.now c.args.mark on c.args.self.now) { room = spare c.take_mark.new.statuses }) (sym c.if-on.false)
