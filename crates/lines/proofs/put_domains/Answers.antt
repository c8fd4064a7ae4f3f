-- `lines::put_domains` meets its contract. Assumes nothing.
use native.Mathlib.Omega.{arith}
use Prim.Native.Nat.{◌+◌, ◌-◌}
use mathlib.Core.Path.{◌≡◌}
use Rattle.lines.proofs.Writing.{showing_start, showing_out, showing_next, showing_done}
use Rattle.lines.proofs.put_domains.Goals as goal

pub loop-init : goal.loop-init
loop-init c = let e : c.args.n - 0 ≡ c.args.n = omega arith in rw e (showing_start _ _ _ _ _ _ c.requires)

pub returns-then-p-words : goal.returns-then-p-words
returns-then-p-words c = showing_out _ _ _ _ _ _ _ _ _ _ c.loop.invariant c.if-p-words.true

pub put_domain-p-requires : goal.put_domain-p-requires
put_domain-p-requires c = c.loop.invariant.high

pub loop-preserved : goal.loop-preserved
loop-preserved c = let e : c.args.n - (c.loop.counter + 1) ≡ c.args.n - c.loop.counter - 1 = omega arith in rw e (showing_next _ _ _ _ _ _ _ _ _ _ c.loop.invariant _ _ _ (omega arith) (omega (arith, c.loop.invariant.high, c.if-p-words.false)) c.put_domain-p.ensures)

pub returns : goal.returns
returns c = showing_done _ _ _ _ _ _ _ _ _ _ c.loop.invariant (omega arith)
