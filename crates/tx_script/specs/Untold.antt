-- Events whose lines were not all written.
use Rattle.std.specs.Prelude.{◌≡◌, ◌⊎◌, ℕ, List, ◌∷◌, ◌++◌, Option}
use Rattle.std.specs.List.{flat_map}
use Rattle.std.specs.Io.KnownBytes.{append_known}
use Rattle.tx_text.specs.Ends.{StopsIn}
use Rattle.tx_plan.specs.Plan.{Plan}
use Rattle.tx_machine.specs.Ended.{Ended}
use Rattle.tx_machine.specs.State.{State}
use Rattle.tx_machine.specs.Runs.{Moment}
use Rattle.tx_machine.specs.Drained.{drained}
use Rattle.tx_tickets.specs.Texts.{reply_text, ticket_text}
use Rattle.tx_script.specs.Output.{tickets_made}

-- In what follows t is the state of the network, and a and b are what was written before and is
-- written now.

-- A write failed in the reply's line, and no ticket was taken.
pub record StopsAtReply (p : Plan) (m : Moment) (t : State) (a b : Option (List ℕ)) : Type 0 where
  pub front : StopsIn a b (reply_text p m.reply)
  pub network : t ≡ drained m.after (tickets_made m)

-- A write failed in the line of one of these tickets of a network, and those before it were
-- written. They and this one were taken, and no other.
pub record StopsAtTicket (p : Plan) (tickets : List Ended)
    (s t : State) (a b : Option (List ℕ)) : Type 0 where
  pub written : List Ended
  pub hand : Ended
  pub left : List Ended
  pub whole : tickets ≡ written ++ hand ∷ left
  pub front : StopsIn (append_known a (flat_map (ticket_text p) written)) b (ticket_text p hand)
  pub network : t ≡ drained s left

-- The event was done, and a write failed in its reply's line, or, after that line, in a ticket's.
abbrev pub IsUntold : Plan → Moment → State → Option (List ℕ) → Option (List ℕ) → Type 0
IsUntold p m t a b = StopsAtReply p m t a b
    ⊎ StopsAtTicket p (tickets_made m) m.after t (append_known a (reply_text p m.reply)) b
