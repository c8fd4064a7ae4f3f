-- The signed leaves: the size of a word, the lower and the higher of two. Assumes nothing.
use mathlib.Core.Path.{◌≡◌, refl}
use mathlib.Core.Bool.{Bool, true, false, not, cond}
use Prim.Native.Nat.{ℕ, ◌+◌, ◌*◌, ◌≤◌, min}
use native.Mathlib.Omega.{arith}
use native.Mathlib.Nat.{mul-le-mul}
use lib.IntN.{ℤ, pos, negsuc, nat_abs}
use lib.Signed.{lt_z}
use Rattle.std.specs.Int.{int_min, int_max}
use mir.Syntax.{w32}
use borrow.Author.Tests.{ne_eqb}
use Rattle.limits.specs.Total.{cap, joined, product}
use mir.Val.{SFits}
use Rattle.laws.specs.Ints.{lower, higher}
use Rattle.laws.specs.Order.{leZ_not}

pub small : (z : ℤ) → SFits w32 z → nat_abs z ≤ 2147483648
small (pos n) f = omega (arith, f.sfits)
small (negsuc n) f = omega (arith, f.sfits)

-- a product of a word's size and a total
pub product_small : (n t : ℕ) → n ≤ 2147483648 → t ≤ 1073741824 → n * t ≤ 2305843009213693952
product_small n t h k = let l : n * t ≤ 2147483648 * 1073741824 = mul-le-mul h k in omega arith

-- ---- `add_term`

pub add_stuck : (k t acc : ℕ) → t ≡ cap → cap ≡ joined acc (product k t)
unfolding joined product
add_stuck k t acc e = rw e (omega arith)

pub add_light : (k t acc : ℕ) → (t ≡ cap → ⊥) → min (acc + k * t) cap ≡ joined acc (product k t)
unfolding joined product
add_light k t acc h = rw (ne_eqb t cap h) (omega arith)

-- the lower and the higher of two are what Rust's methods give
pub lower_min : (x y : ℤ) → int_min x y ≡ lower x y
lower_min x y = rw (leZ_not x y) (go (lt_z y x))
  where
    go : (b : Bool) → cond b y x ≡ cond (not b) x y
    go true = refl
    go false = refl

pub higher_max : (x y : ℤ) → int_max x y ≡ higher x y
higher_max x y = rw (leZ_not x y) (go (lt_z y x))
  where
    go : (b : Bool) → cond b x y ≡ cond (not b) y x
    go true = refl
    go false = refl
