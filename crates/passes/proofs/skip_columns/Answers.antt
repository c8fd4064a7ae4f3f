use native.Mathlib.Omega.{arith}
use Prim.Native.Nat.{◌+◌, ◌-◌}
use mathlib.Core.Path.{◌≡◌}
use Rattle.passes.proofs.PropStmtLaws.{columns_end, column_stands, columns_stand, columns_skip}
use Rattle.passes.proofs.skip_columns.Goals as goal

pub loop-init : goal.loop-init
loop-init c = let e : c.args.n - 0 ≡ c.args.n = omega arith in rw e (c.requires, λ r p. p)

pub skip_int-next-requires : goal.skip_int-next-requires
skip_int-next-requires c = column_stands _ _ _ (omega arith) c.loop.invariant.0

pub loop-preserved : goal.loop-preserved
loop-preserved c = let e : c.args.n - (c.loop.counter + 1) ≡ c.args.n - c.loop.counter - 1 = omega arith in rw e (columns_stand _ _ _ (omega arith) _ c.skip_int-next.ensures c.loop.invariant.0, λ r p. c.loop.invariant.1 r (columns_skip _ _ _ (omega arith) _ c.skip_int-next.ensures r p))

pub returns : goal.returns
returns c = c.loop.invariant.1 _ (columns_end _ _ _ (omega arith))
