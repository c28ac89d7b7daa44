use Rattle.tx_machine.proofs.Common.{ap, ◌∙◌, sym, list_any, Net, is_engaged, takes_part, call_seen, same_line, in_lines}
use Rattle.std.specs.FinSet as set
use Rattle.tx_machine.proofs.Views.{any_map}
use Rattle.tx_machine.proofs.plain.facts.PlainFacts.status.Goals as goal

pub returns-clause-faulty : goal.returns-clause-faulty
returns-clause-faulty g c =
    c.contains.ensures.value
    ∙ ap (list_any (λ m. same_line m c.args.line.now)) c.deref.ensures.value
    ∙ sym (in_lines c.self.inside.faulty.items c.args.line.now)
    ∙ ap (λ (n : Net). set.contains n.state.faulty c.args.line.now) c.self.view_is

pub returns-clause-away : goal.returns-clause-away
returns-clause-away g c =
    c.contains-2.ensures.value
    ∙ ap (list_any (λ m. same_line m c.args.line.now)) c.deref-2.ensures.value
    ∙ sym (in_lines c.self.inside.away.items c.args.line.now)
    ∙ ap (λ (n : Net). set.contains n.state.away c.args.line.now) c.self.view_is

pub returns-clause-engaged : goal.returns-clause-engaged
returns-clause-engaged g c =
    c.engaged_in.ensures
    ∙ ap (list_any (λ d. takes_part (call_seen d) c.args.line.now)) c.deref-3.ensures.value
    ∙ any_map (λ d. takes_part d c.args.line.now) call_seen c.self.inside.calls.items
    ∙ ap (λ (n : Net). is_engaged n.state c.args.line.now) c.self.view_is
