use mathlib.Core.Path.{◌≡◌, refl, ◌∙◌}
use Prim.Native.Nat.{◌+◌, ◌*◌, ◌≤◌, min}
use lib.IntN.{nat_abs}
use mir.Facts.{to_z-of_z}
use Rattle.limits.specs.Total.{cap}
use Rattle.accept.proofs.Sizes.{small, product_small, add_stuck, add_light}
use borrow.Author.Rules.{rules}
use Rattle.accept.proofs.add_term.Goals as goal

size_is : (c : goal.After-unsigned_abs-n) → c.unsigned_abs-n.result ≡ nat_abs c.args.k
size_is c = c.unsigned_abs-n.ensures.value ∙ rw (to_z-of_z c.ranges.k) refl

pub returns-then-t-eq-LIMIT : goal.returns-then-t-eq-LIMIT
returns-then-t-eq-LIMIT c = add_stuck _ _ _ c.if-t-eq-LIMIT.true

pub overflow_mul-n : goal.overflow_mul-n
overflow_mul-n c = let k : c.unsigned_abs-n.result ≤ 2147483648 = rw (size_is c) (small c.args.k c.ranges.k) in let q = product_small c.unsigned_abs-n.result c.args.t k c.requires.0 in search rules

pub overflow_add-acc : goal.overflow_add-acc
overflow_add-acc c = let k : c.unsigned_abs-n.result ≤ 2147483648 = rw (size_is c) (small c.args.k c.ranges.k) in let q = product_small c.unsigned_abs-n.result c.args.t k c.requires.0 in let r : c.args.acc ≤ cap = c.requires.1 in search rules

pub returns : goal.returns
returns c =
    let e : c.min.result ≡ min (c.args.acc + nat_abs c.args.k * c.args.t) cap = c.min.ensures ∙ rw (c.unsigned_abs-n.ensures.value, to_z-of_z c.ranges.k) refl in
    e ∙ add_light (nat_abs c.args.k) c.args.t c.args.acc c.if-t-eq-LIMIT.false
