use Rattle.page.proofs.Pages.{pair_moves}
use Rattle.page.proofs.place_pair.Goals as goal

pub returns : goal.returns
returns c = pair_moves _ c.pair_width-w.ensures.0 c.pair_width-w.ensures.1 c.with_room-q.ensures c.put_pair-o.ensures
