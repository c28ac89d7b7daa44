use Rattle.tx_files.proofs.RevisedText.{revised_text, written_text}
use Rattle.tx_files.proofs.revising.text_of_made.Goals as goal

pub returns-in-Ok-clause-made : goal.returns-in-Ok-clause-made
returns-in-Ok-clause-made g c = revised_text c.args.text.now c.args.made.now _ c.in-Ok.ensures

pub returns-in-Err-OtherPlan-clause-made : goal.returns-in-Err-OtherPlan-clause-made
returns-in-Err-OtherPlan-clause-made g c = written_text c.args.text.now c.args.made.now c.requires
