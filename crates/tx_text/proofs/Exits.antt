-- The error of a `?`.
use Rattle.std.proofs.Common.{◌≡◌, Result, Err, ap, ◌∙◌}
use Rattle.std.specs.Result.{IsErrAnd}
use Rattle.std.proofs.lemmas.Result.{err_from_is_err_and}

-- an error that is made of x in one way alone
pub exits_with : {T E : Type 0} (r : Result T E) (x : E) → IsErrAnd r (λ y. y ≡ x) → r ≡ Err x
exits_with r x h = let e = err_from_is_err_and r h in e.1 ∙ ap Err e.2
