-- `compile` meets its contract.
use Rattle.planner.proofs.compile.Goals as goal

pub returns : goal.returns
returns c = c.compile_with.ensures
