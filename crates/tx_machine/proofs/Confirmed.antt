-- A call that confirms.
use Rattle.tx_machine.proofs.Common.{◌≡◌, ℕ, Option, Some, length, ap, ◌∙◌, Plan, Circuit, HasMark, call_of, Call, State, confirmed, confirmed_by, rival}
use Rattle.tx_machine.specs.declared.open_call.Phase.TheVariants.{Calling}
use Rattle.tx_machine.specs.inner.Met.{IsOn, IsMet}
use Rattle.tx_machine.specs.declared.plain.confirm.Meeting.{Meeting}
use Rattle.tx_machine.specs.declared.plain.confirm.Meeting.TheVariants.{GoesOn, Collides}

pub confirms : (p : Plan) (s : State) (d : Call) (x : Circuit) (o : Option Call) → d.phase ≡ Calling x → rival p s d x ≡ o → confirmed p s d d.phase ≡ confirmed_by p s d x o
confirms p s d x o e r = ap (confirmed p s d) e ∙ ap (confirmed_by p s d x) r

pub met : (p : Plan) (s : State) (n : ℕ) (d : Call) (m : Meeting) → call_of n s.calls ≡ Some d → IsOn d.phase m → ((x : Circuit) → d.phase ≡ Calling x → HasMark (length p.groups) x) → IsMet p s n m
met p s n d (GoesOn h) e on marked = (d, e, on)
met p s n d (Collides x collided k other) e on marked = marked x on
