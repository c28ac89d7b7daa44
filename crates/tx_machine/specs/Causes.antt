-- All causes for which a call may end, in order.
use Rattle.std.specs.Prelude.{ℕ, List, [], ◌∷◌}
use Rattle.tx_machine.specs.declared.cause.Cause.{Cause}
use Rattle.tx_machine.specs.declared.cause.Cause.TheVariants.{Service as ByService, ClearedByCaller, ClearedByCalled, Lost as ByLoss}
use Rattle.tx_machine.specs.declared.cause.Service.TheVariants.{Occ, Nc, Np, Der, Abs, Na}

-- all causes, in the order in which they are told
abbrev pub causes : List Cause
causes = ByService Occ ∷ ByService Nc ∷ ByService Np ∷ ByService Der ∷ ByService Abs ∷ ByService Na
    ∷ ClearedByCaller ∷ ClearedByCalled ∷ ByLoss ∷ []

-- the index of a cause among them
abbrev pub index_of : Cause → ℕ
index_of (ByService Occ) = 0
index_of (ByService Nc) = 1
index_of (ByService Np) = 2
index_of (ByService Der) = 3
index_of (ByService Abs) = 4
index_of (ByService Na) = 5
index_of ClearedByCaller = 6
index_of ClearedByCalled = 7
index_of ByLoss = 8
