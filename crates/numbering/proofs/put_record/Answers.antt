use Prim.Native.Nat.{◌+◌, ◌*◌}
use Rattle.numbering.proofs.Stores.{four_stored}
use Rattle.numbering.proofs.put_record.Goals as goal

pub returns : goal.returns
returns c = four_stored c.args.out.now _ _ _ _ (c.args.records + 4 * c.args.k) c.args.kind c.args.x c.args.y c.args.z c.ranges.kind c.ranges.x c.ranges.y c.ranges.z c.store.ensures.0 c.store-2.ensures.0 c.store-3.ensures.0 c.store-4.ensures.0
