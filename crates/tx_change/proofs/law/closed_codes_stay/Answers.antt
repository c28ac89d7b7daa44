use Rattle.tx_join.specs.Joined.{joined_old, joined_new}
use Rattle.tx_join.proofs.TheirLists.{over_both, their_lists}
use Rattle.tx_change.proofs.Closed.{none_leaves}
use Rattle.tx_change.proofs.law.closed_codes_stay.Goals as goal

pub returns-clause-closed : goal.returns-clause-closed
returns-clause-closed c = λ old new code ok new_ok same closed new_closed. none_leaves old new code same closed new_closed

pub returns-clause-new : goal.returns-clause-new
returns-clause-new c = λ old new can code l m.
    let lists = their_lists old new can in
    none_leaves (joined_old old new) (joined_new old new) code (over_both old new can).same (λ x k away. lists.before_closed x code l k m away) (λ x k away. lists.after_closed x code l k m away)
