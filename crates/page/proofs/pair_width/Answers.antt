use native.Mathlib.Omega.{arith}
use Rattle.page.proofs.Pages.{width_plain, width_comma}
use Rattle.page.proofs.pair_width.Goals as goal

pub returns-then-more : goal.returns-then-more
returns-then-more c = (width_comma _ c.args.more _ c.numbers_width-w.ensures.0 c.if-more.true, omega (arith, c.numbers_width-w.ensures.1, c.requires))

pub returns : goal.returns
returns c = (width_plain _ c.args.more _ c.numbers_width-w.ensures.0 c.if-more.false, omega (arith, c.numbers_width-w.ensures.1, c.requires))
