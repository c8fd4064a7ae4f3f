use Prim.Native.Nat.{◌+◌, ◌-◌}
use mathlib.Core.Path.{◌≡◌, refl, ◌∙◌}
use native.Mathlib.Omega.{arith}
use Rattle.stmtwords.proofs.Words.{columns_more, columns_none}
use Rattle.stmtwords.proofs.columns_end.Goals as goal

pub loop-init : goal.loop-init
loop-init c = let e : c.args.count - 0 ≡ c.args.count = omega arith in rw e ((c.requires.1, refl))

pub skip_int-q-requires : goal.skip_int-q-requires
skip_int-q-requires c = (c.requires.0, (c.loop.invariant.0, omega arith))

pub loop-preserved : goal.loop-preserved
loop-preserved c = let e : c.args.count - (c.loop.counter + 1) ≡ c.args.count - c.loop.counter - 1 = omega arith in rw e ((c.skip_int-q.ensures.inside, columns_more _ _ _ _ _ (omega arith) c.skip_int-q.ensures ∙ c.loop.invariant.1))

pub returns : goal.returns
returns c = (columns_none _ _ _ (omega arith) ∙ c.loop.invariant.1, c.loop.invariant.0)
