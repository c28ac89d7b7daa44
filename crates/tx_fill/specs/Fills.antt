-- Calls that are set up one after another.
use Rattle.std.specs.Prelude.{◌≡◌, ℕ, zero, suc, ◌+◌, ◌*◌, Bool, true, false, not, ◌&&◌, ◌==◌, if◌then◌else◌, List, [], ◌∷◌, length, map, filter, slice_get, is_none, Option, None, Some}
use Rattle.std.specs.List.{range_with_len}
use Rattle.std.specs.Option.{option_map}
use Rattle.tx_plan.specs.Plan.{Plan}
use Rattle.tx_plan.specs.Circuits.{ends_of}
use Rattle.tx_plan.specs.Lines.{full_number}
use Rattle.tx_plan.specs.declared.ids.Line.{Line}
use Rattle.tx_machine.specs.declared.cause.Cause.{Cause}
use Rattle.tx_machine.specs.declared.event.Event.{Event}
use Rattle.tx_machine.specs.declared.event.Event.TheVariants.{Key, Route, Confirm, Block, Released}
use Rattle.tx_machine.specs.declared.open_call.Hop.{Hop}
use Rattle.tx_machine.specs.declared.reply.Reply.{Reply}
use Rattle.tx_machine.specs.declared.reply.Reply.TheVariants.{Keyed, Seized}
use Rattle.tx_machine.specs.Call.{last_exchange}
use Rattle.tx_machine.specs.Ended.{Ended}
use Rattle.tx_machine.specs.InUse.{is_down, first_free}
use Rattle.tx_machine.specs.State.{State, opening, ticket_taken}
use Rattle.tx_machine.specs.Runs.{state_after}
use Rattle.tx_machine.specs.Step.{step}
use Rattle.tx_fill.specs.CallLines.{line_pairs}
use Rattle.tx_fill.specs.declared.filling.Fill.{Fill}

-- a circuit was seized
abbrev pub is_seized : Reply → Bool
is_seized (Seized x) = true
is_seized other = false

-- The call n is carried: it is routed, and while it seizes a circuit, this is confirmed and it is
-- routed again, over k circuits at most
unfoldable pub carried : Plan → (n k : ℕ) → State → State
carried p n zero s = s
carried p n (suc k) s =
    let routed = step p s (Route n) in
    if is_seized routed.0 then carried p n k (step p routed.1 (Confirm n)).1 else routed.1

-- one more than there can be circuits: a group has at most 240
abbrev pub most_circuits : Plan → ℕ
most_circuits p = 240 * length p.groups + 1

-- the call that was keyed is carried as far as it comes
abbrev pub goes_on : Plan → Reply → State → State
goes_on p (Keyed n) s = carried p n (most_circuits p) s
goes_on p other s = s

-- a line calls another one
abbrev pub called : Plan → Line × Line → State → State
called p k s =
    let keyed = step p s (Key k.0 (full_number p k.1)) in goes_on p keyed.0 keyed.1

-- Lines call in turn, each another one, until a call has ended
unfoldable pub filled : Plan → List (Line × Line) → State → State
filled p [] s = s
filled p (k ∷ pairs) s =
    let next = called p k s in if length next.tickets == 0 then filled p pairs next else next

-- The calls from x for the code c, while these groups are down: the state after them
abbrev pub fill_state : Plan → (down : List ℕ) → (x c : ℕ) → State
fill_state p down x c =
    filled p (line_pairs p x c) (state_after p (opening 0 0) (map Block down))

-- the circuits of a call that has ended are released
abbrev pub release_of : Hop → Event
release_of h = Released h.circuit

abbrev pub releases : Option Ended → List Event
releases None = []
releases (Some t) = map release_of t.path

-- the ticket of the call that has ended is taken, and its circuits are released
abbrev pub settled : Plan → State → State
settled p s = state_after p (ticket_taken s) (releases (slice_get s.tickets 0))

-- how a call ended, and where
abbrev pub end_of : Ended → Cause × ℕ
end_of t = (t.cause, last_exchange t.start t.path)

-- a group is full: it is not down, and its first end finds no circuit free
abbrev pub is_full : Plan → State → (g : ℕ) → Bool
is_full p s g = not (is_down s g) && is_none (first_free p s (ends_of p g).0 g)

-- What the calls came to: how many stand, how the next one ended and where, and which groups are
-- full
pub record IsFill {A : Type 0} (p : Plan) (down : List ℕ) (x c : ℕ) (f : Fill A) : Type 0 where
  pub calls : f.calls ≡ length (fill_state p down x c).calls
  pub next : f.next ≡ option_map end_of (slice_get (fill_state p down x c).tickets 0)
  pub full : f.full.items ≡ filter (is_full p (settled p (fill_state p down x c)))
      (range_with_len 0 (length p.groups))
