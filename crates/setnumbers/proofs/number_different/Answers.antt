use native.Mathlib.Omega.{arith}
use Rattle.setnumbers.proofs.Numbering.{pairs_first, row_asks, pairs_next, pairs_last}
use Rattle.setnumbers.proofs.number_different.Goals as goal

pub loop-rest-init : goal.loop-rest-init
loop-rest-init c = pairs_first _ _ _ _ _ c.requires.0 c.requires.1.low

pub skip_int-s-requires : goal.skip_int-s-requires
skip_int-s-requires c = (omega (arith, c.requires.1.long, c.loop-rest.invariant.1.kept.size), (c.loop-rest.invariant.0, omega arith))

pub number_row-d-requires : goal.number_row-d-requires
number_row-d-requires c = (c.loop-rest.invariant.0, (c.skip_int-s.ensures.inside, row_asks _ _ _ _ _ _ _ _ (omega arith) c.loop-rest.invariant _ _ c.skip_int-s.ensures c.requires.1))

pub loop-rest-preserved : goal.loop-rest-preserved
loop-rest-preserved c = pairs_next _ _ _ _ _ _ _ _ (omega arith) c.loop-rest.invariant _ _ c.skip_int-s.ensures _ c.number_row-d.ensures

pub shape_of-work : goal.shape_of-work
shape_of-work c = c.loop-rest.invariant.1.kept.size

pub shape_of-out : goal.shape_of-out
shape_of-out c = c.loop-rest.invariant.1.kept.room

pub returns : goal.returns
returns c = pairs_last _ _ _ _ _ _ _ _ (omega arith) c.loop-rest.invariant
