-- How often a reader was called.
use Rattle.std.proofs.Common.{◌≡◌, ◌∙◌, ℕ, zero, suc, ◌≤◌, ap, sym, arith, inl, inr}
use Rattle.tx_text.specs.Calls.{Gave, source_calls}
use Rattle.tx_text.specs.ReadCalls.{Reads, counted, TellsWhy}

calls_of : (n : ℕ) (a c : Reads) → n ≤ 4294967295 → a.calls ≡ 0 → Gave counted n a c → c.calls ≡ n
unfolding Gave
calls_of zero a c few none g = ap (λ (r : Reads). r.calls) (sym g) ∙ none
calls_of (suc n) a c few none (b, g, (m, some, call)) = let before : b.calls ≡ n = calls_of n a b (omega (arith, few)) none g in omega (arith, call, before, few)

pub tells_why : (begin : Reads) → begin.calls ≡ 0 → TellsWhy begin
tells_why begin none later (inl failed) = inl failed
tells_why begin none later (inr g) = inr (calls_of source_calls begin later (omega arith) none g)
