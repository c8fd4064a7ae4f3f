-- `listing::list::list_text` meets its contract. Assumes nothing.
use Rattle.listing.proofs.list.list_text.Goals as goal

pub returns : goal.returns
returns c = c.list_with_room.ensures
