-- The first refusal that hits, of several tests. Assumes nothing.
use Prim.Native.Nat.{ℕ, ◌≤◌, min}
use mathlib.Core.Path.{◌≡◌, refl, ◌∙◌}
use mathlib.Core.Bool.{Bool, true, false, ◌||◌, cond}
use native.Mathlib.Omega.{arith}
use Rattle.laws.specs.Bools.{eq5}
use Rattle.std.specs.Prelude.{Option, Some, None}
use Rattle.accept.specs.declared.Limit.{Limit}
use Rattle.accept.specs.declared.Limit.TheVariants as limit
use Rattle.accept.specs.Limit.{hit}
use Rattle.accept.specs.Walk.{first_of}

pub hit_most : (h : Option Limit) → hit h ≤ 12
hit_most (Some limit.Weight) = omega arith
hit_most (Some limit.Variables) = omega arith
hit_most (Some limit.Span) = omega arith
hit_most None = omega arith

pub hit_some : (l : Limit) → hit (Some l) ≡ 12 → ⊥
hit_some limit.Weight e = omega arith
hit_some limit.Variables e = omega arith
hit_some limit.Span e = omega arith

at_least_11 : (a : Bool) → 11 ≤ cond a 11 12
at_least_11 true = omega arith
at_least_11 false = omega arith

at_least_10 : (a b : Bool) → 10 ≤ cond a 10 (cond b 11 12)
at_least_10 true b = omega arith
at_least_10 false b = omega (arith, at_least_11 b)

at_least_9 : (a b c : Bool) → 9 ≤ cond a 9 (cond b 10 (cond c 11 12))
at_least_9 true b c = omega arith
at_least_9 false b c = omega (arith, at_least_10 b c)

first_most : (f : ℕ → Bool) → first_of f ≤ 12
unfolding first_of
first_most f = go (f 9) (f 10) (f 11)
  where
    go : (a b c : Bool) → cond a 9 (cond b 10 (cond c 11 12)) ≤ 12
    go true b c = omega arith
    go false true c = omega arith
    go false false true = omega arith
    go false false false = omega arith

-- nothing was hit before
pub none_before : (f : ℕ → Bool) (k : ℕ) → k ≡ min 12 (first_of f) → k ≡ first_of f
none_before f k e = omega (arith, first_most f)

pub first_cong : (f g : ℕ → Bool) → ((m : ℕ) → f m ≡ g m) → first_of f ≡ first_of g
unfolding first_of
first_cong f g h = rw (h 9, h 10, h 11) refl

pub first_or : (f g : ℕ → Bool) → first_of (λ m. f m || g m) ≡ min (first_of f) (first_of g)
unfolding first_of
first_or f g = go (f 9) (g 9) (f 10) (g 10) (f 11) (g 11)
  where
    go : (a b c d e i : Bool) → cond (a || b) 9 (cond (c || d) 10 (cond (e || i) 11 12)) ≡ min (cond a 9 (cond c 10 (cond e 11 12))) (cond b 9 (cond d 10 (cond i 11 12)))
    go true b c d e i = omega (arith, at_least_9 b d i)
    go false true c d e i = omega (arith, at_least_10 c e)
    go false false true d e i = omega (arith, at_least_10 d i)
    go false false false true e i = omega (arith, at_least_11 e)
    go false false false false true i = omega (arith, at_least_11 i)
    go false false false false false true = omega arith
    go false false false false false false = omega arith

-- what was hit before, what one hits and what the rest hits
pub first_join : (f g : ℕ → Bool) (k k₀ k₁ x : ℕ) → k₁ ≡ min k₀ x → x ≡ first_of f → k ≡ min k₁ (first_of g) → k ≡ min k₀ (first_of (λ m. f m || g m))
first_join f g k k₀ k₁ x a b c = rw (first_or f g) (go (first_of f) (first_of g) b c)
  where
    go : (y z : ℕ) → x ≡ y → k ≡ min k₁ z → k ≡ min k₀ (min y z)
    go y z b c = omega arith

-- two that were found apart
pub first_both : (f g : ℕ → Bool) (k x y : ℕ) → k ≡ min x y → x ≡ first_of f → y ≡ first_of g → k ≡ first_of (λ m. f m || g m)
first_both f g k x y a b c = omega (arith, first_or f g)

-- an If's condition (c), its branches (b, d) and what stands inside them (a, e)
pub first_if : (c b a d e : ℕ → Bool) (kc kb ka ke z k' k : ℕ) → kc ≡ first_of c → kb ≡ first_of (λ m. b m || d m) → ka ≡ first_of a → ke ≡ first_of e
    → z ≡ min ka ke → k' ≡ min kb z → k ≡ min kc k' → k ≡ first_of (λ m. c m || ((b m || a m) || (d m || e m)))
first_if c b a d e kc kb ka ke z k' k pc pb pa pe hz hk' hk =
    let both : ℕ → Bool = λ m. (b m || d m) || (a m || e m) in
    let q : k' ≡ first_of both = first_both (λ m. b m || d m) (λ m. a m || e m) k' kb z hk' pb (first_both a e z ka ke hz pa pe) in
    first_both c both k kc k' hk pc q ∙ first_cong (λ m. c m || both m) (λ m. c m || ((b m || a m) || (d m || e m))) (λ m. regroup (c m) (b m) (d m) (a m) (e m))
  where
    regroup : (c b d a e : Bool) → c || ((b || d) || (a || e)) ≡ c || ((b || a) || (d || e))
    regroup = eq5 _ _ refl
