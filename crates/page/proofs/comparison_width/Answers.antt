use Rattle.page.proofs.Comparisons.{comparison_measured}
use Rattle.page.proofs.comparison_width.Goals as goal

pub returns : goal.returns
returns c = comparison_measured _ _ _ _ _ _ c.requires.0 c.requires.1 c.requires.2 c.numbers_width-a.ensures.0 c.numbers_width-a.ensures.1 c.numbers_width-b.ensures.0 c.numbers_width-b.ensures.1 c.numbers_width.ensures.0 c.numbers_width.ensures.1
