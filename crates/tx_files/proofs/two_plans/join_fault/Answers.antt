use Rattle.std.proofs.Common.{ap, ◌∙◌, None}
use Rattle.tx_join.specs.declared.contradiction.Kind.TheVariants.{Code, Group}
use Rattle.tx_join.specs.Contradictions.{contradiction_of}
use Rattle.tx_files.specs.declared.fault.CommandFault.TheVariants.{Contradiction}
use Rattle.tx_files.proofs.two_plans.join_fault.Goals as goal

pub returns-in-OtherHome : goal.returns-in-OtherHome
returns-in-OtherHome g c =
    rw c.in-OtherHome.is
    (ap Contradiction (c.of-found.ensures ∙ (λ i. contradiction_of Code (c.code_figures-figures.ensures.value i) (c.homes_of-homes.ensures i) (c.deref.ensures.value i) (c.deref-in-OtherHome.ensures.value i))))

pub returns-in-OtherGroup : goal.returns-in-OtherGroup
returns-in-OtherGroup g c =
    rw c.in-OtherGroup.is
    (ap Contradiction (c.of-found-in-OtherGroup.ensures ∙ (λ i. contradiction_of Group (c.group_name-name.ensures.value i) None (c.deref-in-OtherGroup.ensures.value i) (c.deref-in-OtherGroup-2.ensures.value i))))
