-- What sets texts one after another.
use Rattle.tx_html.proofs.Showing.{sets_none, sets_end, sets_then, list_more, list_done, names_more, names_done}
use Rattle.tx_svg.proofs.Indexed.{below_more, below_done}

pub ruleset showing = (sets_none, sets_end, sets_then, list_more, list_done, names_more, names_done, below_more, below_done)
