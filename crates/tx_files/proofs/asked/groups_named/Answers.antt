use Rattle.tx_files.proofs.Common.{◌≡◌, ◌∙◌, length, sym, lit<, arith, YieldsList-from_str_split, length_push, names_in}
use Rattle.std.proofs.lemmas.Iterator.Consumers.{YieldsList-at, YieldsList-turn, YieldsList-end}
use Rattle.tx_files.proofs.Asking.{no_name, next_named, next_unnamed, all_named}
use Rattle.tx_files.proofs.asked.groups_named.Goals as goal

pub loop-name-init : goal.loop-name-init
loop-name-init g c =
    rw c.new-groups.ensures.items (no_name c.args.plan.now (names_in c.args.word.now))

pub loop-name-preserved : goal.loop-name-preserved
loop-name-preserved g c =
    let items = c.split-name-items.ensures in
    let here = YieldsList-turn (YieldsList-at c.into_iter-name-iterator.ensures.into_iter_gives
    (YieldsList-from_str_split 44 c.args.word.now (lit< tt) items.text items.has_more items.pattern))
    c.loop-name.yielded _ c.loop-name.yielded_by _ _ c.in-Some.name c.in-Some.is
    c.next.ensures.steps in
    rw (c.in_ok-push-in-Some-group_named.ensures.items, length_push c.loop-name.yielded c.in-Some.name)
    (c.loop-name.invariant
    ∙ next_named c.args.plan.now (names_in c.args.word.now) c.loop-name.groups.items
    (length c.loop-name.yielded) c.in-Some.name.now c.in-Some-group_named.group here
    (rw c.as_bytes.ensures.value at c.in-Some-group_named.ensures))

pub returns-in-None-group_named : goal.returns-in-None-group_named
returns-in-None-group_named g c =
    let items = c.split-name-items.ensures in
    let here = YieldsList-turn (YieldsList-at c.into_iter-name-iterator.ensures.into_iter_gives
    (YieldsList-from_str_split 44 c.args.word.now (lit< tt) items.text items.has_more items.pattern))
    c.loop-name.yielded _ c.loop-name.yielded_by _ _ c.in-Some.name c.in-Some.is
    c.next.ensures.steps in
    let k = c.loop-name.groups.ok.0 in
    let size : c.len.result ≡ length c.loop-name.groups.items = omega arith in
    rw size (sym (c.loop-name.invariant
    ∙ next_unnamed c.args.plan.now (names_in c.args.word.now) c.loop-name.groups.items
    (length c.loop-name.yielded) c.in-Some.name.now here
    (rw c.as_bytes.ensures.value at c.in-None-group_named.ensures)))

pub returns : goal.returns
returns g c =
    let items = c.split-name-items.ensures in
    let over = YieldsList-end (YieldsList-at c.into_iter-name-iterator.ensures.into_iter_gives
    (YieldsList-from_str_split 44 c.args.word.now (lit< tt) items.text items.has_more items.pattern))
    c.loop-name.yielded _ c.loop-name.yielded_by _ _ c.in-None.is c.next.ensures.steps in
    let all = over.1 in
    sym (c.loop-name.invariant
    ∙ all_named c.args.plan.now (names_in c.args.word.now) c.loop-name.groups.items
    (length c.loop-name.yielded) (omega arith))
