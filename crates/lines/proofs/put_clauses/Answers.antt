-- `lines::put_clauses` meets its contract. Assumes nothing.
use native.Mathlib.Omega.{arith}
use Prim.Native.Nat.{◌+◌, ◌-◌}
use mathlib.Core.Path.{◌≡◌}
use Rattle.lines.specs.Lines.{print_clause, members}
use Rattle.lines.proofs.Writing.{showing_start, showing_out, showing_next, showing_done, sum_out, sum_next, sum_done}
use Rattle.lines.proofs.put_clauses.Goals as goal

pub loop-init : goal.loop-init
loop-init c = let e : c.args.n - 0 ≡ c.args.n = omega arith in rw e (showing_start _ _ _ _ _ _ c.requires, omega arith, omega arith)

pub returns-then-p-words : goal.returns-then-p-words
returns-then-p-words c = record { printed = showing_out _ _ _ _ _ _ _ _ _ _ c.loop.invariant.0 c.if-p-words.true; members_value = sum_out print_clause members c.args.words.now _ c.loop.p.next _ c.loop.p.members c.loop.invariant.1 c.if-p-words.true }

pub put_clause-q-requires : goal.put_clause-q-requires
put_clause-q-requires c = c.loop.invariant.0.high

pub overflow_add-p : goal.overflow_add-p
overflow_add-p c = record { fits = omega (arith, c.loop.invariant.2, c.put_clause-q.ensures.members_value.1, c.put_clause-q.ensures.printed.high) }

pub loop-preserved : goal.loop-preserved
loop-preserved c =
    let e : c.args.n - (c.loop.counter + 1) ≡ c.args.n - c.loop.counter - 1 = omega arith in
    rw e (
      showing_next _ _ _ _ _ _ _ _ _ _ c.loop.invariant.0 _ _ _ (omega arith) (omega (arith, c.loop.invariant.0.high, c.if-p-words.false)) c.put_clause-q.ensures.printed,
      sum_next print_clause members c.args.words.now _ c.loop.p.next _ c.loop.p.members c.loop.invariant.1 _ c.put_clause-q.result.next (omega arith) (omega (arith, c.loop.invariant.0.high, c.if-p-words.false)) c.put_clause-q.ensures.members_value.0 c.put_clause-q.ensures.printed.rest,
      omega (arith, c.loop.invariant.2, c.put_clause-q.ensures.members_value.1),
    )

pub returns : goal.returns
returns c = record { printed = showing_done _ _ _ _ _ _ _ _ _ _ c.loop.invariant.0 (omega arith); members_value = sum_done print_clause members c.args.words.now _ c.loop.p.next _ c.loop.p.members c.loop.invariant.1 (omega arith) }
