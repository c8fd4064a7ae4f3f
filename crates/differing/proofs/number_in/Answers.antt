-- A word below 1 holds no number.
use native.Mathlib.Omega.{arith}
use lib.IntN.{pos}
use lib.Signed.{lt_z}
use mir.Facts.{to_z-of_z, Fits-nat_abs}
use Rattle.laws.specs.Signed.{test_of}
use Rattle.totals.proofs.Numbers.{below_one, from_one, one_less}
use Rattle.differing.proofs.number_in.Goals as goal

pub returns-then-z-lt1 : goal.returns-then-z-lt1
returns-then-z-lt1 c = (below_one c.args.z (test_of (λ z. lt_z z (pos 1)) c.ranges.z c.if-z-lt1.true), omega arith)

pub overflow_cast-k : goal.overflow_cast-k
overflow_cast-k c =
    let f = c.ranges.z in
    rw (to_z-of_z f) (from_one c.args.z (test_of (λ z. lt_z z (pos 1)) f c.if-z-lt1.false), Fits-nat_abs tt f)

pub overflow_sub-result : goal.overflow_sub-result
overflow_sub-result c =
    let f = c.ranges.z in
    rw (to_z-of_z f) (one_less c.args.z f (test_of (λ z. lt_z z (pos 1)) f c.if-z-lt1.false)).0

pub returns : goal.returns
returns c =
    let f = c.ranges.z in
    let o = one_less c.args.z f (test_of (λ z. lt_z z (pos 1)) f c.if-z-lt1.false) in
    rw (to_z-of_z f) (o.1, o.2)
