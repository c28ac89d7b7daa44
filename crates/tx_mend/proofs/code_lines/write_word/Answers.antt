use Rattle.std.proofs.Common.{[], ◌==◌, ◌∙◌, sym, ap, rules, tests}
use Rattle.std.specs.Prelude.{codes, if◌then◌else◌}
use Rattle.std.proofs.lemmas.Iterator.{YieldsList-from_slice}
use Rattle.std.proofs.lemmas.Iterator.Search.{any_from_yields_List}
use Rattle.tx_mend.proofs.Common.{puts_none, puts_is, Missing}
use Rattle.tx_mend.proofs.code_lines.write_word.Goals as goal

pub returns-else-any : goal.returns-else-any
returns-else-any g c =
    let missing = c.args.missing.now in
    let any = any_from_yields_List (λ (m : Missing). m.code == c.args.code) _ _ c.any.result c.any.ensures.ran (YieldsList-from_slice missing cc) (λ x b q k. search (rules, tests)) in
    puts_is (ap (λ b. if b then codes " MISSING" else []) (sym any ∙ c.if-any.false)) puts_none
