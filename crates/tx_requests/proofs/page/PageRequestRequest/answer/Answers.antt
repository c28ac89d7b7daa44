use Rattle.std.specs.Prelude.{◌⊎◌}
use Rattle.tx_requests.proofs.Common.{inl, inr, refl, exits_with, memory_stop}
use Rattle.tx_requests.proofs.page.PageRequestRequest.answer.Goals as goal

-- a cause among three
or_memory : {A B C : Type 0} → A ⊎ C → A ⊎ (B ⊎ C)
or_memory (inl a) = inl a
or_memory (inr c) = inr (inr c)

pub found_of-requires : goal.found_of-requires
found_of-requires g c = c.requires.risks

pub change_of-requires-clause-risks : goal.change_of-requires-clause-risks
change_of-requires-clause-risks g c = c.requires.risks

pub change_of-requires-clause-found : goal.change_of-requires-clause-found
change_of-requires-clause-found g c = c.in_ok-found.ensures

pub returns : goal.returns
returns g c = record {
  texts = refl;
  asked = rw c.as_deref.ensures.value at c.in_ok-refuse_missing.ensures.none;
  found = c.in_ok-found.ensures;
  change = c.in_ok-change.ensures.right;
  pictures = c.in_ok-pictures.ensures;
}

pub returns-in_err-refuse_missing : goal.returns-in_err-refuse_missing
returns-in_err-refuse_missing g c =
    rw (exits_with c.from_residual.result c.in_err-refuse_missing.field-0.0 c.from_residual.ensures.1)
    (or_memory (rw c.as_deref.ensures.value at c.in_err-refuse_missing.ensures.missing))

pub returns-in_err-change : goal.returns-in_err-change
returns-in_err-change g c =
    rw (exits_with c.from_residual-in_err-change.result c.in_err-change.field-0.0 c.from_residual-in_err-change.ensures.1)
    (inr (inl c.in_err-change.ensures.refused))

pub returns-in_err-found : goal.returns-in_err-found
returns-in_err-found g c =
    rw (exits_with c.from_residual-in_err-found.result memory_stop c.from_residual-in_err-found.ensures.1)
    (inr (inr refl))

pub returns-in_err-pictures : goal.returns-in_err-pictures
returns-in_err-pictures g c =
    rw (exits_with c.from_residual-in_err-pictures.result memory_stop c.from_residual-in_err-pictures.ensures.1)
    (inr (inr refl))
