use Rattle.accept.proofs.CountLaws.{mark_new}
use Rattle.accept.proofs.mark.Goals as goal

pub returns : goal.returns
returns c = mark_new c.args.marks.now c.args.v c.args.n c.requires.1 c.if-v-n.false c.requires.0 c.if-marks-v.false
