use Rattle.tx_trie.proofs.CodesWritten.{code_text}
use Rattle.tx_trie.proofs.codes_writer.write_code.Goals as goal

pub returns : goal.returns
returns g c = rw (code_text c.args.plan.now c.args.code _ _ _ c.code_figures-figures.ensures.value c.home.ensures c.exchange_name-home.ensures.value) c.put_parts.ensures
