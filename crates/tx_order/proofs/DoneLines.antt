-- What a line of a text of what is done says.
use Rattle.tx_order.proofs.Common.{◌≡◌, ◌≢◌, ℕ, Bool, true, false, not, ◌||◌, List, length, arith, Order}
use mathlib.Core.Bool.{beq}
use Rattle.std.specs.Prelude.{Err}
use Rattle.tx_order.specs.declared.done.DoneWord.TheVariants.{WrongCount}
use Rattle.tx_order.specs.DoneText.{differ, pair_said}

-- the lists differ, or the bars do
pub where_apart : (r lists bars : Bool) → r ≡ lists → r ≡ true → r ≡ (lists || bars)
where_apart r lists bars e t = grind arith

pub where_alike : (r lists bars told : Bool) → r ≡ lists → r ≡ false → told ≡ bars
    → told ≡ (lists || bars)
where_alike r lists bars told e t h = grind arith

pub differ_is : (was is : Bool) → not (beq was is) ≡ differ was is
differ_is was is = grind arith

pub wrong_count : (o : Order) (n : ℕ) (words : List (List ℕ)) → length words ≢ 2
    → pair_said o n words ≡ Err WrongCount
wrong_count o n words other = grind arith
