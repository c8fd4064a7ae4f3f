use Rattle.page.proofs.Bytes.{put_sets}
use Rattle.page.proofs.Pages.{begin_bare, begin_space, begin_turn}
use Rattle.page.proofs.begin.Goals as goal

pub returns-then-p : goal.returns-then-p
returns-then-p c = begin_bare c.args.w c.requires.0 c.if-p.true

pub returns-then-p-w : goal.returns-then-p-w
returns-then-p-w c = begin_space c.args.w c.requires.0 c.if-p.false c.if-p-w.true (put_sets c.put_byte.ensures) c.put_byte.ensures.size

pub returns : goal.returns
returns c = begin_turn c.args.w c.requires.0 c.if-p.false c.if-p-w.false c.turn.ensures.0 c.turn.ensures.1
