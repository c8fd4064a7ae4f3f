-- The other sum's arrays, its constant and its count.
use borrow.Author.Rules.{rules}
use mir.Syntax.{w32}
use mir.Val.{SFits}
use mir.Facts.{to_z-of_z}
use Rattle.totals.proofs.add_sum.Goals as goal

pub add_product-requires : goal.add_product-requires
add_product-requires c =
    let p = c.requires in
    let l : SFits w32 c.args.t.constant = search rules in
    rw (to_z-of_z l, to_z-of_z c.ranges.k) record { count_bound = (p.0, p.1, p.2, (search rules, search rules)); by_bound = (p.3, p.4) }

pub returns : goal.returns
returns c =
    let l : SFits w32 c.args.t.constant = search rules in
    rw (to_z-of_z l, to_z-of_z c.ranges.k) at c.add_product.ensures
