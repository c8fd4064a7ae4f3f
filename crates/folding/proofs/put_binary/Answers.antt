use native.Mathlib.Omega.{arith}
use Prim.Native.Nat.{◌+◌}
use mathlib.Core.Path.{◌≡◌, refl}
use denote.Enum.Declared.{tag_of}
use Rattle.fold.specs.Table.{op_num}
use Rattle.folding.specs.declared.Op.{Op}
use Rattle.folding.specs.declared.Op.TheVariants.{Xor, Iff, Imp}
use Rattle.folding.specs.contracts.Op.{the_type}
use Rattle.folding.specs.Known.{op_of}
use lib.IntN.{pos}
use Rattle.laws.specs.Slices.{heads_one, slice_join, moved_behind}
use Rattle.folding.specs.Steps.{binary_step}
use Rattle.folding.proofs.put_binary.Goals as goal

code_is : (o : Op) → tag_of the_type o + 15 ≡ 15 + op_num (op_of o)
code_is Xor = refl
code_is Iff = refl
code_is Imp = refl

pub returns-in-NotLeft : goal.returns-in-NotLeft
unfolding binary_step
returns-in-NotLeft c = rw (c.in-NotLeft.is, c.put.ensures) (heads_one _ _ _ _ (omega arith) (omega arith))

pub returns-in-NotRight : goal.returns-in-NotRight
unfolding binary_step
returns-in-NotRight c = rw c.in-NotRight.is (moved_behind c.args.work.now c.args.o (pos 14) c.args.m c.args.e _ _ (omega arith) (omega arith) (rw c.put-in-NotRight.ensures at c.shift-in-NotRight.ensures))

pub returns-in-Keep : goal.returns-in-Keep
unfolding binary_step
returns-in-Keep c = rw (c.in-Keep.is, c.put-in-Keep.ensures, code_is c.args.op, slice_join (c.args.o + 1) c.args.m c.args.e c.args.work.now (omega arith) (omega arith) (omega arith)) (heads_one _ _ _ _ (omega arith) (omega arith))
