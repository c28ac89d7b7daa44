use Rattle.tx_commands.proofs.Common.{ℕ, List, option_map, Bor, get_or_default, texts_stopped, texts, told_text}
use Rattle.tx_commands.proofs.explanation.write_entries.Goals as goal

pub returns-in_err-write_told : goal.returns-in_err-write_told
returns-in_err-write_told g c =
    let text : List (Bor (List ℕ)) → List ℕ =
    λ e. told_text (option_map (λ l. l.now) c.args.line) (texts e) in
    let failed = c.in_err-write_told in
    texts_stopped text c.args.entries.now c.loop-i.i _ _ _ _ _ _ _ _ failed.field-0.0
    c.loop-i-test.true (get_or_default _ _ _ _ c.loop-i-test.true) c.loop-i.invariant
    failed.ensures c.from_residual.ensures.0
