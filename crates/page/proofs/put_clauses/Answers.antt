use mathlib.Core.Path.{◌≡◌, refl, ◌∙◌}
use Prim.Native.Nat.{◌+◌, ◌-◌}
use native.Mathlib.Omega.{arith}
use Rattle.page.proofs.Bytes.{wrote_length}
use Rattle.page.proofs.Clauses.{clausing_start, clauses_next, clauses_done, clauses_out}
use Rattle.page.proofs.put_clauses.Goals as goal

pub loop-k-init : goal.loop-k-init
loop-k-init c = let e : c.args.n - 0 ≡ c.args.n = omega arith in rw e (omega arith, c.requires.1, omega arith, refl, clausing_start _ _ _ _)

pub shape_of-out-then-i-words : goal.shape_of-out-then-i-words
shape_of-out-then-i-words c = c.loop-k.invariant.3

pub returns-then-i-words : goal.returns-then-i-words
returns-then-i-words c = clauses_out c.loop-k.invariant.4 c.if-i-words.true

pub put_clause-r-requires : goal.put_clause-r-requires
put_clause-r-requires c = (omega (arith, c.loop-k.invariant.0, c.loop-k.invariant.1, c.requires.0), omega (arith, c.loop-k.invariant.2, c.loop-k.invariant.1, c.requires.0), c.requires.0, omega (arith, c.loop-k.invariant.1, c.if-i-words.false), c.requires.2)

pub overflow_add-k : goal.overflow_add-k
overflow_add-k c = record { fits = omega (arith, c.loop-k.invariant.2, c.loop-k.invariant.1, c.requires.0) }

pub loop-k-preserved : goal.loop-k-preserved
loop-k-preserved c = let e : c.args.n - (c.loop-k.k + 1) ≡ c.args.n - c.loop-k.k - 1 = omega arith in rw e (omega (arith, c.loop-k.invariant.0, c.put_clause-r.ensures.2), c.put_clause-r.ensures.1.high, omega (arith, c.loop-k.invariant.2, c.put_clause-r.ensures.3), wrote_length c.put_clause-r.ensures.0 ∙ c.loop-k.invariant.3, clauses_next c.loop-k.invariant.4 (omega arith) (omega (arith, c.loop-k.invariant.1, c.if-i-words.false)) c.put_clause-r.ensures.0 c.put_clause-r.ensures.1)

pub shape_of-out : goal.shape_of-out
shape_of-out c = c.loop-k.invariant.3

pub returns : goal.returns
returns c = clauses_done c.loop-k.invariant.4 (omega arith)
