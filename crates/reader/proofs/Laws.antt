-- One reading after another, and readings repeated: that they passed, without what the definition makes of them. Assumes nothing.
use mathlib.Core.Path.{◌≡◌, refl, sym, ◌∙◌}
use mathlib.Core.List.{List, ◌∷◌}
use Prim.Native.Nat.{ℕ, zero, suc, ◌+◌, ◌-◌, ◌≤◌, ◌<◌}
use native.Mathlib.Omega.{arith}
use mathlib.Core.Bool.{true, false}
use lib.IntN.{ℤ, pos, negsuc}
use lib.Signed.{lt_z, le_z}
use borrow.Author.Tests.{le-ltb, leb-true}
use Rattle.laws.specs.Ints.{apart}
use Rattle.words.specs.Parse.{Parsed, ok, refuse, Parser, parse_then, times, number}
use Rattle.syntax.specs.Syntax.{BoolExpr, IntExpr, more, tmore}
use Rattle.read.specs.Read.{read_terms, read_members, read_rising}
use Rattle.reader.specs.Position.{passed, term_of}

-- ---- one after another

pub pass_then : {A B : Type 0} (x : Parsed A) (q : A → Parser B) (r : List ℤ) (v : Parsed (Unit {0})) → ok tt r ≡ passed x → ((a : A) → v ≡ passed (q a r)) → v ≡ passed (parse_then x q)
pass_then (ok a s) q r v h k = let e : r ≡ s = cc in rw (← e) (k a)
pass_then (refuse j) q r v h k = apart (cc)

pub pass_stop : {A B : Type 0} (x : Parsed A) (q : A → Parser B) (k : ℕ) → refuse k ≡ passed x → refuse k ≡ passed (parse_then x q)
pass_stop (ok a s) q k h = apart (cc)
pass_stop (refuse j) q k h = h

-- what is made of a part does not matter
pub pass_made : {A B : Type 0} (f : A → B) (x : Parsed A) → passed x ≡ passed (parse_then x (λ a r. ok (f a) r))
pass_made f (ok a r) = refl
pass_made f (refuse k) = refl

-- ---- repeated, with k of n behind

module _ {A : Type 0} (p : Parser A) where
  pub times_none : (n k : ℕ) (xs : List ℤ) → n ≤ k → ok tt xs ≡ passed (times (n - k) p xs)
  unfolding times
  times_none n k xs h = let e : n - k ≡ 0 = omega arith in rw e refl

  pub times_stop : (n k j : ℕ) (xs : List ℤ) → k < n → refuse j ≡ passed (p xs) → refuse j ≡ passed (times (n - k) p xs)
  unfolding times
  times_stop n k j xs l h = let e : n - k ≡ suc (n - k - 1) = omega arith in rw e (pass_stop (p xs) _ j h)

  pub times_more : (n k : ℕ) (xs r : List ℤ) → k < n → ok tt r ≡ passed (p xs) → passed (times (n - (k + 1)) p r) ≡ passed (times (n - k) p xs)
  unfolding times
  times_more n k xs r l h =
      let e : n - k ≡ suc (n - (k + 1)) = omega arith in
      rw e (pass_then (p xs) _ r _ h (λ a. pass_made _ (times (n - (k + 1)) p r)))

-- an expression's members and terms are readings repeated
members_first : (p : Parser BoolExpr) (n : ℕ) → ((r : List ℤ) → passed (times n p r) ≡ passed (read_members p n r)) → (x : Parsed BoolExpr)
    → passed (parse_then x (λ a r. parse_then (times n p r) (λ b s. ok (a ∷ b) s))) ≡ passed (parse_then x (λ a r. parse_then (read_members p n r) (λ b s. ok (more a b) s)))
members_first p n h (ok a r) = sym (pass_made _ (times n p r)) ∙ h r ∙ pass_made _ (read_members p n r)
members_first p n h (refuse k) = refl

pub members_times : (p : Parser BoolExpr) (n : ℕ) (xs : List ℤ) → passed (times n p xs) ≡ passed (read_members p n xs)
unfolding times read_members
members_times p zero xs = refl
members_times p (suc n) xs = members_first p n (members_times p n) (p xs)

terms_second : (p : Parser IntExpr) (n : ℕ) → ((r : List ℤ) → passed (times n (term_of p) r) ≡ passed (read_terms p n r)) → (k : ℤ) (x : Parsed IntExpr)
    → passed (parse_then x (λ e s. parse_then (times n (term_of p) s) (λ b t. ok (e ∷ b) t))) ≡ passed (parse_then x (λ e s. parse_then (read_terms p n s) (λ ts t. ok (tmore k e ts) t)))
terms_second p n h k (ok e s) = sym (pass_made _ (times n (term_of p) s)) ∙ h s ∙ pass_made _ (read_terms p n s)
terms_second p n h k (refuse j) = refl

terms_first : (p : Parser IntExpr) (n : ℕ) → ((r : List ℤ) → passed (times n (term_of p) r) ≡ passed (read_terms p n r)) → (x : Parsed ℤ)
    → passed (parse_then (parse_then x (λ k. p)) (λ a r. parse_then (times n (term_of p) r) (λ b s. ok (a ∷ b) s)))
    ≡ passed (parse_then x (λ k r. parse_then (p r) (λ e s. parse_then (read_terms p n s) (λ ts t. ok (tmore k e ts) t))))
terms_first p n h (ok k r) = terms_second p n h k (p r)
terms_first p n h (refuse j) = refl

pub terms_times : (p : Parser IntExpr) (n : ℕ) (xs : List ℤ) → passed (times n (term_of p) xs) ≡ passed (read_terms p n xs)
unfolding times read_terms term_of
terms_times p zero xs = refl
terms_times p (suc n) xs = terms_first p n (terms_times p n) (number xs)

module _ (p : Parser IntExpr) (n k j : ℕ) (xs : List ℤ) (l : k < n) where
  pub terms_no_value : refuse j ≡ number xs → refuse j ≡ passed (times (n - k) (term_of p) xs)
  unfolding term_of
  terms_no_value h = times_stop (term_of p) n k j xs l (rw (← h) refl)

  pub terms_no_int : (v : ℤ) (r : List ℤ) → ok v r ≡ number xs → refuse j ≡ passed (p r) → refuse j ≡ passed (times (n - k) (term_of p) xs)
  unfolding term_of
  terms_no_int v r h g = times_stop (term_of p) n k j xs l (rw (← h) g)

-- ---- rising values

not_above : (a b : ℤ) → le_z a b ≡ true → lt_z b a ≡ false
not_above (pos m) (pos n) h = le-ltb n m (leb-true m n h)
not_above (pos m) (negsuc n) h = absurd (let z : ◌≡◌ {A = ℕ} 0 1 = cc in omega arith)
not_above (negsuc m) (pos n) h = refl
not_above (negsuc m) (negsuc n) h = le-ltb m n (leb-true n m h)

module _ (n k : ℕ) (before : ℤ) (xs : List ℤ) where
  pub rising_none : n ≤ k → ok tt xs ≡ passed (read_rising (n - k) before xs)
  unfolding read_rising
  rising_none h = let e : n - k ≡ 0 = omega arith in rw e refl

  module _ (l : k < n) where
    pub rising_stop : (j : ℕ) → refuse j ≡ number xs → refuse j ≡ passed (read_rising (n - k) before xs)
    unfolding read_rising
    rising_stop j h = let e : n - k ≡ suc (n - (k + 1)) = omega arith in rw (e, ← h) refl

    pub rising_not : (w : ℤ) (r : List ℤ) → ok w r ≡ number xs → le_z w before ≡ true → refuse 7 ≡ passed (read_rising (n - k) before xs)
    unfolding read_rising
    rising_not w r h t = let e : n - k ≡ suc (n - (k + 1)) = omega arith in rw (e, ← h, not_above w before t) refl

    pub rising_more : (w : ℤ) (r : List ℤ) → ok w r ≡ number xs → lt_z before w ≡ true → passed (read_rising (n - (k + 1)) w r) ≡ passed (read_rising (n - k) before xs)
    unfolding read_rising
    rising_more w r h t = let e : n - k ≡ suc (n - (k + 1)) = omega arith in rw (e, ← h, t) (pass_made _ (read_rising (n - (k + 1)) w r))

-- ---- for the checks (src/, `tactic`)

pub ruleset after = (pass_then, pass_stop, pass_made)

pub ruleset again = (times_none, times_stop, times_more)

pub ruleset members = (members_times, times_none, times_stop, times_more)

pub ruleset terms = (terms_times, times_none, terms_no_value, terms_no_int, times_more, pass_then)

pub ruleset rising = (rising_none, rising_stop, rising_not, rising_more)
