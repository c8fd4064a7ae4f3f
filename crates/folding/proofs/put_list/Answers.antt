use borrow.Author.Tests.{ne_eqb}
use Rattle.laws.specs.Slices.{heads_two}
use Rattle.folding.specs.Steps.{list_step}
use Rattle.folding.proofs.put_list.Goals as goal

pub returns : goal.returns
unfolding list_step
returns c = rw (c.if-hit.false, ne_eqb _ 0 c.if-kept-eq0.false, ne_eqb _ 1 c.if-kept-eq1.false, c.put-2.ensures, c.put.ensures) (heads_two _ _ _ _ _ c.requires.0 c.requires.1)
