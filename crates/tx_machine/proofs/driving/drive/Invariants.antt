use Rattle.tx_machine.proofs.Common.{◌≡◌, ◌-◌, ◌≤◌, ◌+◌, ◌++◌, take, length, vec_len, vec_capacity, replies, state_after}
use Rattle.tx_machine.proofs.driving.drive.Given as goal

abbrev pub invariant-loop-at : goal.invariant-loop-at
invariant-loop-at g l =
    (l.at ≤ length l.events)
    × (g.N.Network.plan l.net ≡ g.N.Network.plan l.fn.net)
    × (l.replies.items ≡ l.fn.replies.items ++ replies (g.N.Network.plan l.fn.net) (g.N.Network.state l.fn.net) (take l.at l.events))
    × (g.N.Network.state l.net ≡ state_after (g.N.Network.plan l.fn.net) (g.N.Network.state l.fn.net) (take l.at l.events))
    × (vec_len l.replies + (length l.events - l.at) ≤ vec_capacity l.replies)

abbrev pub decreases-loop-at : goal.decreases-loop-at
decreases-loop-at g l = length l.events - l.at
