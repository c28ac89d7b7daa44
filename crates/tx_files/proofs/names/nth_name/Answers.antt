use Rattle.tx_files.proofs.Common.{refl, sym, lit<, YieldsList-from_str_split}
use Rattle.std.proofs.lemmas.Iterator.Consumers.{nth_from_yields_List}
use Rattle.tx_files.proofs.names.nth_name.Goals as goal

pub returns-in-Some : goal.returns-in-Some
returns-in-Some c =
    let items = c.split.ensures in
    let found = nth_from_yields_List c.nth.result _ c.args.place c.nth.ensures.ran
    (YieldsList-from_str_split 44 c.args.word.now (lit< tt) items.text items.has_more items.pattern) in
    rw (c.as_bytes.ensures.value, sym found, c.in-Some.is) refl

pub returns-in-None : goal.returns-in-None
returns-in-None c =
    let items = c.split.ensures in
    let found = nth_from_yields_List c.nth.result _ c.args.place c.nth.ensures.ran
    (YieldsList-from_str_split 44 c.args.word.now (lit< tt) items.text items.has_more items.pattern) in
    rw (sym found, c.in-None.is) refl
