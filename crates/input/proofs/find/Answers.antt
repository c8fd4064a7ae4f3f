-- `input::find` meets its contract. Assumes nothing.
use Rattle.input.proofs.Reading.{found_some, not_found}
use Rattle.input.proofs.find.Goals as goal

pub returns-in-Some : goal.returns-in-Some
returns-in-Some c = found_some _ _ _ c.requires _ _ c.position_of.ensures c.in-Some.is

pub returns-in-None : goal.returns-in-None
returns-in-None c = not_found _ _ _ c.requires _ c.position_of.ensures c.in-None.is
