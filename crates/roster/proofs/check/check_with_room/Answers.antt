-- `check_with_room` meets its contract.
use native.Mathlib.Omega.{arith}
use Prim.Native.Nat.{◌-◌}
use lib.ListN.{length}
use Rattle.roster.proofs.Laws.{part_length, told_long, told_empty, told_other, told_lines, lines_room}
use Rattle.roster.proofs.check.check_with_room.Goals as goal

pub returns-then-n-gt65536 : goal.returns-then-n-gt65536
returns-then-n-gt65536 c = told_long c.args.text.now c.args.work.now _ _ _ _ c.clear.ensures c.put_bytes.ensures c.if-n-gt65536.true

pub returns-then-n-eq0 : goal.returns-then-n-eq0
returns-then-n-eq0 c = told_empty c.args.text.now c.args.work.now _ _ _ _ c.clear.ensures c.put_bytes-then-n-eq0.ensures c.if-n-eq0.true

pub returns-then-text-e-ne10 : goal.returns-then-text-e-ne10
returns-then-text-e-ne10 c = told_other c.args.text.now c.args.work.now _ _ _ _ c.clear.ensures c.put_bytes-then-text-e-ne10.ensures (omega (arith, c.if-n-gt65536.false)) c.if-text-e-ne10.true

pub slice_bounds-check_lines-end : goal.slice_bounds-check_lines-end
slice_bounds-check_lines-end c = part_length (length c.args.text.now - 1) c.args.text.now (omega arith)

pub check_lines-requires : goal.check_lines-requires
check_lines-requires c = lines_room c.args.text.now _ _ _ (length c.args.work.now) (omega (arith, c.if-n-gt65536.false)) c.requires c.clear.ensures

pub returns : goal.returns
returns c = told_lines c.args.text.now c.args.work.now _ _ _ _ _ c.clear.auto.s (omega (arith, c.if-n-gt65536.false)) c.if-text-e-ne10.false c.check_lines.ensures
