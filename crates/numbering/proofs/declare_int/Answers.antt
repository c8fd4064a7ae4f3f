use Prim.Native.Nat.{◌+◌}
use lib.IntN.{pos}
use Rattle.numbering.specs.Leaf.{int_old, int_new, stays_few}
use Rattle.numbering.proofs.declare_int.Goals as goal

pub put_declared-requires : goal.put_declared-requires
put_declared-requires c = (c.requires.0, (c.requires.1.0, (c.requires.1.1.1.0, stays_few _ _ _ _ _ (pos (c.args.c.ints + 1)) c.requires.1.1.1.1.1 c.requires.0 c.store_number.ensures.0)))

pub returns-then-entry-eq0 : goal.returns-then-entry-eq0
returns-then-entry-eq0 c = int_new _ _ c.args.c (record { bools = c.requires.1.1.0; ints = c.requires.1.1.1.0; used = c.requires.1.1.1.1.0 }) _ _ _ _ _ _ _ c.requires.0 c.entry.ensures c.if-entry-eq0.true c.store_number.ensures.0 c.put_declared.ensures.0 c.count_int.ensures

pub returns : goal.returns
returns c = int_old _ _ c.args.c (record { bools = c.requires.1.1.0; ints = c.requires.1.1.1.0; used = c.requires.1.1.1.1.0 }) _ _ _ _ c.entry.ensures c.if-entry-eq0.false
