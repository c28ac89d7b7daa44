-- The numbers of the calls that use a group.
use Rattle.std.specs.Prelude.{◌≡◌, ℕ, Bool, true, ◌&&◌, ◌==◌, nat_le, List}
use Rattle.std.specs.List.{list_any}
use Rattle.tx_machine.specs.Call.{Call}
use Rattle.tx_machine.specs.InUse.{circuits_used}
use Rattle.tx_plan.specs.Among.{Among}

-- these are the numbers of the calls that pass the test, and of no others
pub record AreNumbersOf (test : Call → Bool) (calls : List Call) (numbers : List ℕ) : Type 0 where
  pub all : (c : Call) → Among c calls → test c ≡ true → Among c.number numbers
  pub only : (n : ℕ) → Among n numbers → (c : Call)
      × Among c calls × (test c ≡ true) × (c.number ≡ n)

-- a call uses one of the circuits of the group up to a number
abbrev pub uses_up_to : ℕ → ℕ → Call → Bool
uses_up_to g k c = list_any (λ x. (x.group == g) && nat_le x.number k) (circuits_used c)
