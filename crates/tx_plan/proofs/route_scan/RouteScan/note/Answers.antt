use Rattle.std.proofs.Common.{rules, ◌∙◌, ap}
use Rattle.tx_plan.specs.declared.route_scan.RouteScan.{RouteScan}
use Rattle.tx_plan.proofs.Absent.{bad_kept, unknown_kept, unknown_found}
use Rattle.tx_plan.proofs.route_scan.RouteScan.note.Goals as goal
use Rattle.tx_plan.proofs.route_scan.RouteScan.note.Goals.{in-Some+in-Some-pair+then-not-may_seize, in-Some+in-Some-pair+else-not-may_seize, in-Some+in_default, in-None}

pub returns-then-is_err-clause-bad : goal.returns-then-is_err-clause-bad
returns-then-is_err-clause-bad g c =
    let p = c.args.plan.now in
    let v = c.args.word.now in
    let old = c.args.self.now.bad in
    elim c.match-group_named.branch [
      | in-Some+in-Some-pair+then-not-may_seize w ↦
          ap (λ (s : RouteScan). s.bad) w.self-is
          ∙ bad_kept p v w.in-Some.group old w.in-Some.ensures w.rules.ensures
      | in-Some+in-Some-pair+else-not-may_seize w ↦
          ap (λ (s : RouteScan). s.bad) w.self-is
          ∙ bad_kept p v w.in-Some.group old w.in-Some.ensures w.rules.ensures
      | in-Some+in_default w ↦
          ap (λ (s : RouteScan). s.bad) w.self-is
          ∙ bad_kept p v w.in-Some.group old w.in-Some.ensures w.rules.ensures
      | in-None w ↦ search rules
    ]

pub returns-then-is_err-clause-unknown : goal.returns-then-is_err-clause-unknown
returns-then-is_err-clause-unknown g c =
    let p = c.args.plan.now in
    let v = c.args.word.now in
    let old = c.args.self.now.unknown in
    elim c.match-group_named.branch [
      | in-Some+in-Some-pair+then-not-may_seize w ↦
          ap (λ (s : RouteScan). s.unknown) w.self-is
          ∙ unknown_kept p v w.in-Some.group old w.in-Some.ensures
      | in-Some+in-Some-pair+else-not-may_seize w ↦
          ap (λ (s : RouteScan). s.unknown) w.self-is
          ∙ unknown_kept p v w.in-Some.group old w.in-Some.ensures
      | in-Some+in_default w ↦
          ap (λ (s : RouteScan). s.unknown) w.self-is
          ∙ unknown_kept p v w.in-Some.group old w.in-Some.ensures
      | in-None w ↦
          ap (λ (s : RouteScan). s.unknown) w.self-is ∙ unknown_found p v old w.in-None.ensures
    ]

pub returns-else-is_err-clause-bad : goal.returns-else-is_err-clause-bad
returns-else-is_err-clause-bad g c =
    let p = c.args.plan.now in
    let v = c.args.word.now in
    let old = c.args.self.now.bad in
    elim c.match-group_named.branch [
      | in-Some+in-Some-pair+then-not-may_seize w ↦
          ap (λ (s : RouteScan). s.bad) w.self-is
          ∙ bad_kept p v w.in-Some.group old w.in-Some.ensures w.rules.ensures
      | in-Some+in-Some-pair+else-not-may_seize w ↦
          ap (λ (s : RouteScan). s.bad) w.self-is
          ∙ bad_kept p v w.in-Some.group old w.in-Some.ensures w.rules.ensures
      | in-Some+in_default w ↦
          ap (λ (s : RouteScan). s.bad) w.self-is
          ∙ bad_kept p v w.in-Some.group old w.in-Some.ensures w.rules.ensures
      | in-None w ↦ search rules
    ]

pub returns-else-is_err-clause-unknown : goal.returns-else-is_err-clause-unknown
returns-else-is_err-clause-unknown g c =
    let p = c.args.plan.now in
    let v = c.args.word.now in
    let old = c.args.self.now.unknown in
    elim c.match-group_named.branch [
      | in-Some+in-Some-pair+then-not-may_seize w ↦
          ap (λ (s : RouteScan). s.unknown) w.self-is
          ∙ unknown_kept p v w.in-Some.group old w.in-Some.ensures
      | in-Some+in-Some-pair+else-not-may_seize w ↦
          ap (λ (s : RouteScan). s.unknown) w.self-is
          ∙ unknown_kept p v w.in-Some.group old w.in-Some.ensures
      | in-Some+in_default w ↦
          ap (λ (s : RouteScan). s.unknown) w.self-is
          ∙ unknown_kept p v w.in-Some.group old w.in-Some.ensures
      | in-None w ↦
          ap (λ (s : RouteScan). s.unknown) w.self-is ∙ unknown_found p v old w.in-None.ensures
    ]
