use Rattle.tablewriter.proofs.Rows.{stars_free, stars_some}
use Rattle.tablewriter.proofs.write_stars.Goals as goal

pub returns-then-s-ne0 : goal.returns-then-s-ne0
returns-then-s-ne0 c = stars_free c.count_stars-s.ensures.0 c.if-s-ne0.true c.requires.1

pub returns : goal.returns
returns c = stars_some c.count_stars-s.ensures.0 c.if-s-ne0.false c.put_stars.ensures
