use Rattle.tx_html.proofs.Escapes.{none_is_markup}
use Rattle.tx_html.proofs.law.no_text_is_markup.Goals as goal

pub returns : goal.returns
returns c = none_is_markup
