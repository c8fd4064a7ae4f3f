use Rattle.page.proofs.Pages.{turn_moves}
use Rattle.page.proofs.turn.Goals as goal

pub returns : goal.returns
returns c = turn_moves c.requires.0 c.end_line-e.ensures.0 c.end_line-e.ensures.1 c.put_spaces-o.ensures.0 c.put_spaces-o.ensures.1
