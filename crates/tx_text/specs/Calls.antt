-- The calls of a source's `read`, one after another.
use Rattle.std.specs.Prelude.{◌≡◌, ◌⊎◌, ℕ, zero, suc, ◌+◌, ◌<◌, ◌≤◌, min, Bool, true, Result, Ok}
use Rattle.tx_text.specs.declared.source.ReadFault.{ReadFault}

-- how many calls a text may take that comes from a source
abbrev pub source_calls : ℕ
source_calls = 4294967295

-- how many calls a text may take that is in memory: more than any such text is long
abbrev pub slice_calls : ℕ
slice_calls = 2251799813685249

-- a count of calls and one more, up to the greatest number of 64 bits
abbrev pub one_call_more : ℕ → ℕ
one_call_more n = min (n + 1) 18446744073709551615

module _ {S : Type 0} (called : ℕ → Result ℕ ReadFault → S → S → Type 0) where
  -- One call for 4,096 bytes leads from the first value to the second, and it gave some.
  abbrev pub Gives : S → S → Type 0
  Gives a b = (n : ℕ) × (0 < n) × called 4096 (Ok n) a b

  -- So many calls lead from the first value to the second, each for 4,096 bytes, and each gave
  -- some.
  unfoldable pub Gave : ℕ → S → S → Type 0
  Gave zero a c = a ≡ c
  Gave (suc n) a c = (b : S) × Gave n a b × Gives b c

  -- At most so many calls lead from the first value to the second, each for 4,096 bytes: those
  -- before the last gave some.
  abbrev pub CallsAtMost : ℕ → S → S → Type 0
  CallsAtMost most a c = ((n : ℕ) × (n ≤ most) × Gave n a c)
      ⊎ ((n : ℕ) × (n < most) × (b : S) × Gave n a b × (r : Result ℕ ReadFault) × called 4096 r b c)

  -- The source failed, or all calls that were allowed gave bytes.
  abbrev pub Broken : Bool → ℕ → S → S → Type 0
  Broken failed allowed a c = (failed ≡ true) ⊎ Gave allowed a c
