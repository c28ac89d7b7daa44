use Rattle.tx_machine.proofs.Common.{ap, ◌∙◌, sym, subst, map, inl, refl, call_seen, is_given, with_more, circuit_called, Among, filter}
use Rattle.tx_machine.proofs.Giving.{more_none}
use Rattle.tx_machine.proofs.plain.ended_calls.give_phase.Goals as goal

pub give-requires : goal.give-requires
give-requires g c = c.requires c.in-Calling.circuit (subst (λ p. Among c.in-Calling.circuit (circuit_called p)) (sym c.in-Calling.is) (inl refl))

pub returns-in-Calling : goal.returns-in-Calling
returns-in-Calling g c = c.give.ensures ∙ ap (λ p. with_more c.args.releasing.now (filter (is_given c.args.ends.now (map call_seen c.args.calls.now)) (circuit_called p))) (sym c.in-Calling.is)

pub returns-in-Standing : goal.returns-in-Standing
returns-in-Standing g c = sym (ap (λ p. with_more c.args.releasing.now (filter (is_given c.args.ends.now (map call_seen c.args.calls.now)) (circuit_called p))) c.in-Standing.is ∙ more_none c.args.releasing.now)

pub returns-in-Connected : goal.returns-in-Connected
returns-in-Connected g c = sym (ap (λ p. with_more c.args.releasing.now (filter (is_given c.args.ends.now (map call_seen c.args.calls.now)) (circuit_called p))) c.in-Connected.is ∙ more_none c.args.releasing.now)
