use Rattle.walk.specs.Decode.{added}
use Rattle.survey.proofs.add_member.Goals as goal

pub returns : goal.returns
unfolding added
returns c = rw (c.bump-2.ensures, c.bump.ensures)
