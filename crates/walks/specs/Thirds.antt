-- Sums of three parts, as an If has them.
use Rattle.std.specs.Prelude.{◌≡◌, List, ◌++◌, ℕ, suc, ◌+◌, ◌-◌, ◌≤◌, ◌<◌, max, ℤ, length}
use Rattle.std.proofs.Common.{arith, length-append}

module _ (a b c : ℕ) where
  pub zero_first : a + (b + c) ≡ 0 → a ≡ 0
  zero_first h = omega arith

  pub zero_second : a + (b + c) ≡ 0 → b ≡ 0
  zero_second h = omega arith

  pub zero_third : a + (b + c) ≡ 0 → c ≡ 0
  zero_third h = omega arith

  pub zero_three : a ≡ 0 → b ≡ 0 → c ≡ 0 → a + (b + c) ≡ 0
  zero_three h k l = omega arith

  module _ (k : ℕ) where
    pub most_first : max a (max b c) ≤ k → a ≤ k
    most_first h = omega arith

    pub most_second : max a (max b c) ≤ k → b ≤ k
    most_second h = omega arith

    pub most_third : max a (max b c) ≤ k → c ≤ k
    most_third h = omega arith

    pub most_three : a ≤ k → b ≤ k → c ≤ k → max a (max b c) ≤ k
    most_three h i j = omega arith

    -- from n on
    module _ (n : ℕ) where
      pub room_first : n + (a + (b + c)) ≤ k → n + a ≤ k
      room_first h = omega arith

      pub room_second : n + (a + (b + c)) ≤ k → n + a + b ≤ k
      room_second h = omega arith

      pub room_third : n + (a + (b + c)) ≤ k → n + a + b + c ≤ k
      room_third h = omega arith

  pub behind_three : (n : ℕ) → n + a + b + c ≡ n + (a + (b + c))
  behind_three n = omega arith

  pub taken_three : (n : ℕ) → n + a + b + c - n ≡ a + (b + c)
  taken_three n = omega arith

  pub size_three : (at : ℕ) → at + 1 + a + b + c - at ≡ 1 + a + b + c
  size_three at = omega arith

module _ (xs ys zs : List ℤ) where
  pub length_three : length (xs ++ (ys ++ zs)) ≡ length xs + (length ys + length zs)
  length_three = omega (arith, length-append xs (ys ++ zs), length-append ys zs)

  pub end_three : (at : ℕ) → at + 1 + length xs + length ys + length zs ≡ at + suc (length (xs ++ (ys ++ zs)))
  end_three at = omega (arith, length_three)

  pub whole_three : 1 + length xs + length ys + length zs ≡ suc (length (xs ++ (ys ++ zs)))
  whole_three = omega (arith, length_three)

  -- each has fewer words than the whole
  pub fewer_first : length xs < suc (length (xs ++ (ys ++ zs)))
  fewer_first = omega (arith, length_three)

  pub fewer_second : length ys < suc (length (xs ++ (ys ++ zs)))
  fewer_second = omega (arith, length_three)

  pub fewer_third : length zs < suc (length (xs ++ (ys ++ zs)))
  fewer_third = omega (arith, length_three)

-- ---- neighbours

pub le_same : (n : ℕ) → n ≤ n
le_same n = omega arith

pub le_more : (n k : ℕ) → n ≤ n + k
le_more n k = omega arith

pub lt_more : (n k : ℕ) → n < n + suc k
lt_more n k = omega arith

pub lt_next : (n : ℕ) → n < n + 1
lt_next n = omega arith

pub le_next : (n : ℕ) → n ≤ suc n
le_next n = omega arith

pub lt_suc : (n : ℕ) → n < suc n
lt_suc n = omega arith
