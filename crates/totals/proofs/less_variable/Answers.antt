-- The variable's coefficient is one less.
use borrow.Author.Rules.{rules}
use mir.Syntax.{w32}
use mir.Val.{SFits}
use mir.Facts.{to_z-of_z}
use Rattle.sums.specs.LinearSum.{sub_sum}
use Rattle.totals.proofs.less_variable.Goals as goal

pub add_variable-d-requires : goal.add_variable-d-requires
add_variable-d-requires c =
    let l : SFits w32 c.args.s.constant = search rules in
    rw (to_z-of_z l) (c.requires.0, (search rules, search rules), c.requires.2, c.requires.1)

pub returns : goal.returns
unfolding sub_sum
returns c =
    let l : SFits w32 c.args.s.constant = search rules in
    let d : SFits w32 c.add_variable-d.result.constant = search rules in
    rw (to_z-of_z d) (rw (to_z-of_z l) at c.add_variable-d.ensures.0)
