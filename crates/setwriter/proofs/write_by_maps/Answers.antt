use Prim.Native.Nat.{◌-◌}
use native.Mathlib.Omega.{arith}
use Rattle.setwriter.proofs.ByMaps.{sofar_start, sofar_at, sofar_behind, sofar_next, sofar_out, sofar_end}
use Rattle.setwriter.proofs.write_by_maps.Goals as goal

pub loop-q-init : goal.loop-q-init
loop-q-init c = λ merge p f ss h. sofar_start h

pub write_mapped-r-requires : goal.write_mapped-r-requires
write_mapped-r-requires c =
    let h = c.requires.mapped in
    let v = c.loop-q.invariant _ _ _ _ h in
    (sofar_at h v c.loop-q-test.true, sofar_behind h v)

pub loop-q-smaller : goal.loop-q-smaller
loop-q-smaller c =
    let h = c.requires.mapped in
    let n = (sofar_next h (c.loop-q.invariant _ _ _ _ h) c.write_mapped-r.ensures c.loop-q-test.true).1 in
    omega (arith, n.0, n.1)

pub loop-q-preserved : goal.loop-q-preserved
loop-q-preserved c = λ merge p f ss h. (sofar_next h (c.loop-q.invariant merge p f ss h) c.write_mapped-r.ensures c.loop-q-test.true).0

pub shape_of-work : goal.shape_of-work
shape_of-work c = let h = c.requires.mapped in (c.loop-q.invariant _ _ _ _ h).same.size

pub shape_of-out : goal.shape_of-out
shape_of-out c = let h = c.requires.mapped in sofar_out h (c.loop-q.invariant _ _ _ _ h)

pub returns : goal.returns
returns c = record {
  clauses = λ merge p f ss h. sofar_end h (c.loop-q.invariant merge p f ss h) (omega (arith, c.loop-q-test.false));
  same = let h = c.requires.mapped in (c.loop-q.invariant _ _ _ _ h).same;
}
