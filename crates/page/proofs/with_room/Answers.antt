use Rattle.page.proofs.Pages.{rooms_here, rooms_turn}
use Rattle.page.proofs.with_room.Goals as goal

pub returns-then-p-w : goal.returns-then-p-w
returns-then-p-w c = rooms_here c.args.w c.requires.0 c.if-p-w.true

pub returns : goal.returns
returns c = rooms_turn c.args.w c.if-p-w.false c.turn.ensures.0 c.turn.ensures.1
