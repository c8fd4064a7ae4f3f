-- The cells are cleared, the pair is numbered; unless the walk is full then, it is written.
use native.Mathlib.Omega.{arith}
use Rattle.differing.proofs.PairAgain.{pair_starts, pair_numbered, pair_full, pair_placed, pair_fit, pair_written}
use Rattle.differing.proofs.rewrite_pair.Goals as goal

pub clear_pair-requires : goal.clear_pair-requires
clear_pair-requires c = (c.requires.3.long, (omega (arith, c.requires.1, c.requires.2), omega (arith, c.requires.1, c.requires.2)))

pub number_pair-d-requires : goal.number_pair-d-requires
number_pair-d-requires c = (pair_starts _ _ _ _ _ c.requires.3.low _ c.clear_pair.ensures c.requires.1 c.requires.3, c.requires.2)

pub returns-then-room-d : goal.returns-then-room-d
returns-then-room-d c = pair_full _ _ _ _ _ c.requires.0 _ (pair_numbered _ _ _ _ _ c.requires.3.low _ c.clear_pair.ensures _ c.number_pair-d.ensures) _ _ _ c.requires.4 (omega (arith, c.if-room-d.true))

pub write_pair-r-requires : goal.write_pair-r-requires
write_pair-r-requires c = let y = pair_numbered _ _ _ _ _ c.requires.3.low _ c.clear_pair.ensures _ c.number_pair-d.ensures in (pair_placed _ _ _ _ _ c.requires.0 _ y _ _ _ c.requires.4 c.requires.1 c.requires.3, c.requires.2, c.requires.4.room, pair_fit _ _ _ _ _ c.requires.0 _ y _ _ _ c.requires.4 c.requires.3)

pub returns : goal.returns
returns c = pair_written _ _ _ _ _ c.requires.0 _ (pair_numbered _ _ _ _ _ c.requires.3.low _ c.clear_pair.ensures _ c.number_pair-d.ensures) _ _ _ c.requires.4 c.requires.3.word _ _ c.write_pair-r.ensures _ c.bump-m.ensures
