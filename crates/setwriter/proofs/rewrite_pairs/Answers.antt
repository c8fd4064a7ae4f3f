use native.Mathlib.Omega.{arith}
use Rattle.setwriter.proofs.Renumbered.{walked_stands, pairs_some, pairs_done}
use Rattle.setwriter.proofs.rewrite_pairs.Goals as goal

pub statement_end-next-requires : goal.statement_end-next-requires
statement_end-next-requires c = let h = c.requires.0.it in (record { stmt = c.requires.0.place.stmt; stands = walked_stands h }, omega (arith, h.stands.size))

pub rewrite_different-r-requires : goal.rewrite_different-r-requires
rewrite_different-r-requires c = (pairs_some c.requires.0.it c.requires.1, c.requires.2)

pub shape_of-work : goal.shape_of-work
shape_of-work c = c.rewrite_different-r.ensures.size

pub shape_of-out : goal.shape_of-out
shape_of-out c = c.rewrite_different-r.ensures.out_size

pub returns : goal.returns
returns c = λ x n h. pairs_done h c.requires.1 c.rewrite_different-r.ensures c.statement_end-next.ensures
