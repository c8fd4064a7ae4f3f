use Prim.Native.Nat.{◌-◌}
use native.Mathlib.Omega.{arith}
use Rattle.setwriter.proofs.Again.{sofar_start, sofar_at, sofar_behind, sofar_words, sofar_sizes, sofar_next, sofar_out, sofar_end, end_words}
use Rattle.setwriter.proofs.write_numbered.Goals as goal

pub loop-q-init : goal.loop-q-init
loop-q-init c = λ merge p f ss h. sofar_start h

pub write_again-r-requires : goal.write_again-r-requires
write_again-r-requires c =
    let h = c.requires.starts in
    let v = c.loop-q.invariant _ _ _ _ h in
    (sofar_at h v c.loop-q-test.true, sofar_behind h v)

pub shape_of-work-then-room-c : goal.shape_of-work-then-room-c
shape_of-work-then-room-c c = let h = c.requires.starts in (sofar_sizes h (c.loop-q.invariant _ _ _ _ h) c.write_again-r.ensures c.loop-q-test.true).0

pub shape_of-out-then-room-c : goal.shape_of-out-then-room-c
shape_of-out-then-room-c c = let h = c.requires.starts in (sofar_sizes h (c.loop-q.invariant _ _ _ _ h) c.write_again-r.ensures c.loop-q-test.true).1

pub returns-then-room-c : goal.returns-then-room-c
returns-then-room-c c = record {
  words = λ merge p f ss h. sofar_words h (c.loop-q.invariant merge p f ss h) c.write_again-r.ensures c.loop-q-test.true;
  clauses = λ merge p f ss h u. absurd (omega (arith, u, c.if-room-c.true));
  size = shape_of-work-then-room-c c;
}

pub loop-q-smaller : goal.loop-q-smaller
loop-q-smaller c =
    let h = c.requires.starts in
    let n = (sofar_next h (c.loop-q.invariant _ _ _ _ h) c.write_again-r.ensures c.loop-q-test.true (omega (arith, c.if-room-c.false))).1 in
    omega (arith, n.0, n.1)

pub loop-q-preserved : goal.loop-q-preserved
loop-q-preserved c = λ merge p f ss h. (sofar_next h (c.loop-q.invariant merge p f ss h) c.write_again-r.ensures c.loop-q-test.true (omega (arith, c.if-room-c.false))).0

pub shape_of-work : goal.shape_of-work
shape_of-work c = let h = c.requires.starts in (c.loop-q.invariant _ _ _ _ h).size

pub shape_of-out : goal.shape_of-out
shape_of-out c = let h = c.requires.starts in sofar_out h (c.loop-q.invariant _ _ _ _ h)

pub returns : goal.returns
returns c = record {
  words = λ merge p f ss h. end_words h (c.loop-q.invariant merge p f ss h) (omega (arith, c.loop-q-test.false));
  clauses = λ merge p f ss h u. sofar_end h (c.loop-q.invariant merge p f ss h) (omega (arith, c.loop-q-test.false));
  size = shape_of-work c;
}
