use Rattle.tx_text.proofs.InPieces.{pieces_lines}
use Rattle.tx_text.proofs.pieces.pieces_give_the_lines.Goals as goal

pub returns : goal.returns
returns c = pieces_lines
