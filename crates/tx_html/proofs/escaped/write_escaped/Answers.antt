use Rattle.std.proofs.Common.{◌∙◌, sym}
use Rattle.tx_text.proofs.Putting.{puts_is}
use Rattle.tx_html.proofs.Escapes.{escaped_plain}
use Rattle.tx_html.proofs.escaped.write_escaped.Goals as goal

pub returns-then-are_plain : goal.returns-then-are_plain
returns-then-are_plain g c = puts_is (escaped_plain c.args.text.now (sym c.are_plain.ensures ∙ c.if-are_plain.true)) c.put_bytes.ensures
