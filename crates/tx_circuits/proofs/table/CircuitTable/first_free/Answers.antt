use Rattle.tx_circuits.proofs.Common.{refl, ◌≡◌, ◌∙◌, ℕ, suc, ◌+◌, true, false, Some, None, sym, ap, subst, arith, if◌then◌else◌, find, option_map, slice_get_within, is_circuit, circuits_at, Circuit, first_index, Table, plan_of, is_down, is_free_at, first_free, table_of}
use Rattle.tx_circuits.proofs.Reading.{first_is, first_known}
use Rattle.tx_circuits.proofs.Steps.{group_at, index_is, end_is_there}
use Rattle.tx_circuits.proofs.table.CircuitTable.first_free.Goals as goal

abbrev numbered_in : ℕ → ℕ → Circuit
numbered_in g n = record { group = g; number = n }

pub returns-then-is_down-clause-value : goal.returns-then-is_down-clause-value
returns-then-is_down-clause-value g c =
    let t = c.args.self.now in
    ap (λ b. if b then None else find (is_free_at t c.args.exchange) (circuits_at (plan_of t) c.args.group c.args.exchange)) (sym c.if-is_down.true ∙ c.is_down.ensures)

pub known_end-end-requires : goal.known_end-end-requires
known_end-end-requires g c = sym (end_is_there c.self.inside.groups c.args.self.now c.self.view_is c.args.group c.args.exchange) ∙ c.requires

pub first_index-requires : goal.first_index-requires
first_index-requires g c =
    let ts = c.self.inside.groups in
    let at = group_at ts c.args.group c.args.exchange c.known_end-end.result c.known_end-end.ensures in
    slice_get_within ts c.args.group at.group at.at

pub returns-in-Some : goal.returns-in-Some
returns-in-Some g c =
    let ts = c.self.inside.groups in
    let end = c.known_end-end.result in
    let at = group_at ts c.args.group c.args.exchange end c.known_end-end.ensures in
    let up : is_down (table_of ts) c.args.group ≡ false = ap (λ (t : Table). is_down t c.args.group) c.self.view_is ∙ sym c.is_down.ensures ∙ c.if-is_down.false in
    let first = first_is ts c.args.group c.args.exchange at.group at.at end at.seizes up in
    let index : Some c.in-Some.index ≡ first_index at.group end = index_is ts c.args.group end (Some c.in-Some.index) at.group c.in-Some.ensures at.at in
    let same : c.from.result ≡ c.in-Some.index = c.from.ensures in
    let number : suc c.in-Some.index ≡ c.from.result + 1 = omega arith in
    record {
      value =
          ap (λ (n : ℕ). Some (numbered_in c.args.group n)) (sym number) ∙ ap (option_map (λ k. numbered_in c.args.group (suc k))) index ∙ sym first
          ∙ ap (λ (t : Table). first_free t c.args.exchange c.args.group) c.self.view_is;
      known =
          subst (λ (z : Table × ℕ). is_circuit (plan_of z.0) (numbered_in c.args.group z.1) ≡ true) (λ i. (c.self.view_is i, number i))
          (first_known ts c.args.group c.args.exchange at.group at.at end at.seizes c.in-Some.index (sym index)).0;
      in_group = refl;
      free =
          subst (λ (z : Table × ℕ). is_free_at z.0 c.args.exchange (numbered_in c.args.group z.1) ≡ true) (λ i. (c.self.view_is i, number i))
          (first_known ts c.args.group c.args.exchange at.group at.at end at.seizes c.in-Some.index (sym index)).1;
    }

pub returns-in-None-clause-value : goal.returns-in-None-clause-value
returns-in-None-clause-value g c =
    let ts = c.self.inside.groups in
    let end = c.known_end-end.result in
    let at = group_at ts c.args.group c.args.exchange end c.known_end-end.ensures in
    let up : is_down (table_of ts) c.args.group ≡ false = ap (λ (t : Table). is_down t c.args.group) c.self.view_is ∙ sym c.is_down.ensures ∙ c.if-is_down.false in
    let first = first_is ts c.args.group c.args.exchange at.group at.at end at.seizes up in
    let index : None ≡ first_index at.group end = index_is ts c.args.group end None at.group c.in-None.ensures at.at in
    ap (option_map (λ k. numbered_in c.args.group (suc k))) index ∙ sym first ∙ ap (λ (t : Table). first_free t c.args.exchange c.args.group) c.self.view_is
