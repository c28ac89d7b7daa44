-- Where an order was stopped, and where it leads from there.
use Rattle.tx_files.proofs.Common.{◌≡◌, ℕ, Bool, true, false, Option, None, Some, Ok, Err, refl, inl, inr, Input, Plan, IsPlan, join_refusal, target_of, CommandFault}
use Rattle.tx_plan.specs.Mixtures.{SameNetwork}
use Rattle.tx_plan.proofs.Networks.{same_along, same_back}
use Rattle.tx_join.specs.declared.joining.Joined.{Joined}
use Rattle.tx_join.proofs.OneNetwork.{one_network}
use Rattle.tx_order.specs.declared.switching.Switching.TheVariants.{Ordered, NoOrder}
use Rattle.tx_commands.specs.declared.order.Stopped.{Stopped}
use Rattle.tx_files.specs.Stopped.{StopsAt, ReadsStopped}
use Rattle.tx_files.specs.TwoPlans.{AreNotJoined, IsJoin}

module _ {A : Type 0} where
  -- no plans were read
  pub none_read : (stopped : Option Stopped) (named : Bool) (old new text : Input) (fault : CommandFault)
      → AreNotJoined A old new fault → text.unread → ReadsStopped {A = A} stopped named old new text (Err fault)
  none_read None named old new text fault h unread = (h, unread)
  none_read (Some s) named old new text fault h unread = inl (fault, h, unread, refl)

  -- the plan to which the order leads keeps the rules
  pub target_rules : (p q : Plan) (j : Joined A) (back : Bool) → IsJoin p q j
      → IsPlan (target_of back j.old j.new)
  target_rules p q j true a = a.network.before_rules
  target_rules p q j false a = a.network.after_rules

  target_same : (p q : Plan) (j : Joined A) (back : Bool) → IsJoin p q j
      → SameNetwork j.old (target_of back j.old j.new)
  target_same p q j true a = record { exchanges = refl; codes = refl; ranges = refl; groups = refl }
  target_same p q j false a = a.network.same

  -- where an order was stopped is a plan of the network
  stopped_same : (old new p : Plan) (s : Stopped) (named : Bool) (text : Input)
      → StopsAt A old new s named text (Ok p) → SameNetwork old p
  stopped_same old new p s named text (inl e) = absurd (let bad : ⊥ = cc in bad)
  stopped_same old new p s named text (inr (Ordered o, right, (there, done, read, at))) =
      same_along old _ p (right.order.mixtures _).network at.mixture.network
  stopped_same old new p s named text (inr (NoOrder q before after, right, e)) =
      absurd (let bad : ⊥ = cc in bad)

  -- so it is joined with the plan to which the order leads
  pub joins_target : (p q : Plan) (j : Joined A) (s : Stopped) (named : Bool) (text : Input) (at : Plan)
      → IsJoin p q j → StopsAt A j.old j.new s named text (Ok at) → IsPlan at
      → join_refusal at (target_of s.back j.old j.new) ≡ None
  joins_target p q j s named text at a stops ok =
      let same = stopped_same j.old j.new at s named text stops in
      (one_network at (target_of s.back j.old j.new) ok (target_rules p q j s.back a)
      (same_along at j.old (target_of s.back j.old j.new) (same_back j.old at same) (target_same p q j s.back a))).none
