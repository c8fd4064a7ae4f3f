-- `input::has_key` meets its contract. Assumes nothing.
use Rattle.input.proofs.Reading.{key_found}
use Rattle.input.proofs.has_key.Goals as goal

pub returns : goal.returns
returns c = key_found _ _ _ c.starts_with.ensures.value
