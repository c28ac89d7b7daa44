use Rattle.tx_fill.proofs.Common.{◌∙◌, ap, length, filter, slice_get, range_with_len, state_after, State, Net, ticket_taken}
use Rattle.std.specs.Option.{option_map}
use Rattle.tx_fill.specs.Fills.{end_of, releases, is_full}
use Rattle.tx_fill.proofs.Settled.{no_tickets, filled_is}
use Rattle.tx_fill.proofs.filling.fill_network.Goals as goal

pub call_in_turn-requires : goal.call_in_turn-requires
call_in_turn-requires g c =
    let b = c.in_ok-block.ensures in
    record {
      plan = b.plan ∙ ap (λ (n : Net). n.plan) c.requires;
      fresh = no_tickets c.args.plan.now c.args.down.now c.args.exchange c.args.code
          c.args.network.now c.requires _ b.state;
    }

pub full_groups-requires : goal.full_groups-requires
full_groups-requires g c =
    c.in_ok-next.ensures.plan ∙ c.in_ok-ended.ensures.plan ∙ c.in_ok-block.ensures.plan
    ∙ ap (λ (n : Net). n.plan) c.requires

pub returns : goal.returns
returns g c =
    let p = c.args.plan.now in
    let b = c.in_ok-block.ensures in
    let t = c.in_ok-ended.ensures in
    let n = c.in_ok-next.ensures in
    let all = filled_is p c.args.down.now c.args.exchange c.args.code c.args.network.now c.requires _
    b.state in
    let state = t.state ∙ ap ticket_taken all in
    let ended = t.ended ∙ ap (λ (s : State). slice_get s.tickets 0) all in
    let plan = t.plan ∙ b.plan ∙ ap (λ (m : Net). m.plan) c.requires in
    record {
      calls = c.open_calls-calls.ensures ∙ ap (λ (s : State). length s.calls) state;
      next = n.next ∙ ap (option_map end_of) ended;
      full = c.in_ok-full.ensures
          ∙ ap (λ (s : State). filter (is_full p s) (range_with_len 0 (length p.groups)))
          (n.state ∙ (λ j. state_after (plan j) (state j) (releases (ended j))));
    }
