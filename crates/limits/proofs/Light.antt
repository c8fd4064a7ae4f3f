-- What refusals 9 and 10 leave: a value of a domain is no larger than its weight, no statement weighs too much, few variables are written. Assumes nothing.
use Rattle.std.specs.Prelude.{◌≡◌, refl, Bool, true, false, ◌||◌, cond, List, [], ◌∷◌, ◌++◌, ℕ, ◌+◌, ◌≤◌, max, ℤ, pos, negsuc, nat_abs}
use Rattle.std.proofs.Common.{ap, arith, leb-true, ltb-false}
use Rattle.std.specs.Int.Signed.{le_z}
use Rattle.laws.specs.Bools.{and_l, and_r, never, or_pick, or_no_l, or_no_r}
use Rattle.laws.specs.Ints.{eqZ}
use Rattle.laws.specs.Lists.{any, different}
use Rattle.laws.specs.Order.{eqZ_is}
use Rattle.syntax.specs.Syntax.{Domain, Range, Enumerative, in_domain, IntExpr, Problem}
use Rattle.limits.specs.Limits.{largest, domain_weight, written, ifs, many_comparison, many_column, heavy_stmt, check}

between : (low x high : ℤ) → le_z low x ≡ true → le_z x high ≡ true → nat_abs x ≤ max (nat_abs low) (nat_abs high)
between low (pos b) (pos c) h k = omega (arith, leb-true b c k)
between low (pos b) (negsuc c) h k = never k
between (pos a) (negsuc b) high h k = never h
between (negsuc a) (negsuc b) high h k = omega (arith, leb-true b a h)

listed_small : (x : ℤ) (xs : List ℤ) → any (eqZ x) xs ≡ true → nat_abs x ≤ largest xs
listed_small x [] h = never h
listed_small x (y ∷ ys) h = or_pick (eqZ x y) (any (eqZ x) ys) h (λ e. omega (arith, ap nat_abs (eqZ_is x y e))) (λ e. omega (arith, listed_small x ys e))

pub value_light : (x : ℤ) (d : Domain) → in_domain x d ≡ true → nat_abs x ≤ domain_weight d
value_light x (Range low high) h = omega (arith, between low x high (and_l (le_z low x) (le_z x high) h) (and_r (le_z low x) (le_z x high) h))
value_light x (Enumerative xs) h = omega (arith, listed_small x xs h)

pub unrefused_light : (p : Problem) → check p ≡ 0 → any (heavy_stmt p.domains) p.stmts ≡ false
unfolding check
unrefused_light p h = go (any (heavy_stmt p.domains) p.stmts) _ h
  where
    go : (t : Bool) (k : ℕ) → cond t 9 k ≡ 0 → t ≡ false
    go true k h = absurd (omega arith)
    go false k h = refl

pub few_written : (a b : IntExpr) → many_comparison a b ≡ false → different (written a ++ written b) ≤ 64
unfolding many_comparison
few_written a b h = omega (arith, ltb-false 64 (different (written a ++ written b) + (ifs a + ifs b)) h)

pub few_in_column : (e : IntExpr) → many_column e ≡ false → different (written e) ≤ 63
unfolding many_column
few_in_column e h = omega (arith, ltb-false 63 (different (written e) + ifs e) h)

-- a test of each, beside that of what stands inside it
pub tests_none : (f g : IntExpr → Bool) (es : List IntExpr) → any (λ e. f e || g e) es ≡ false → any f es ≡ false
tests_none f g [] h = refl
tests_none f g (e ∷ es) h = rw (or_no_l (f e) (g e) (or_no_l (f e || g e) (any (λ x. f x || g x) es) h)) (tests_none f g es (or_no_r (f e || g e) (any (λ x. f x || g x) es) h))
