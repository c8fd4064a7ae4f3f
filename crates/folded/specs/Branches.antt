-- "Each branch is held to 63 like a column" decides nothing in a comparison or in a column: the If counts as one itself.
-- What it decides is a branch of an AllDifferent's only expression, which is in no pair.
use Rattle.std.specs.Prelude.{◌≡◌, refl, Bool, true, false, ◌||◌, List, ◌++◌, ℕ, ◌+◌, ◌≤◌}
use Rattle.std.proofs.Common.{arith, ltb-false, le-ltb}
use Rattle.laws.specs.Lists.{different}
use Rattle.syntax.specs.Syntax.{IntExpr, IConst, IVar, Linear, If, Terms, tnil, tmore, BoolExpr, Const, Var, NVar, And, Or, Not, Xor, Iff, Imp, Cmp, Members, mnil, more}
use Rattle.limits.specs.Limits.{any_comparison, any_comparison_members, any_inside, any_inside_terms, written, written_terms, ifs, ifs_terms, many_comparison, many_column}
use Rattle.sums.proofs.RisingLaws.{among_left, among_right, different_part}

-- a part of a list has no more different numbers
first_few : (xs ys : List ℕ) → different xs ≤ different (xs ++ ys)
first_few xs ys = different_part xs (xs ++ ys) (λ v m. among_left v xs ys m)

rest_few : (xs ys : List ℕ) → different ys ≤ different (xs ++ ys)
rest_few xs ys = different_part ys (xs ++ ys) (λ v m. among_right v xs ys m)

-- without the limit of branches
abbrev free : IntExpr → Bool
free e = false

abbrev counted : IntExpr → ℕ
counted e = different (written e) + ifs e

held : (e : IntExpr) → counted e ≤ 63 → many_column e ≡ false
unfolding many_column
held e h = le-ltb 63 (counted e) h

-- where a test hits, what else is asked is no matter
unless_hit : (t a b : Bool) → (t ≡ false → a ≡ b) → t || a ≡ t || b
unless_hit true a b h = refl
unless_hit false a b h = h refl

sides_few : (a b : IntExpr) → many_comparison a b ≡ false → (counted a ≤ 64) × (counted b ≤ 64)
unfolding many_comparison
sides_few a b h =
    let l = ltb-false 64 (different (written a ++ written b) + (ifs a + ifs b)) h in
    (omega (arith, l, first_few (written a) (written b)), omega (arith, l, rest_few (written a) (written b)))

column_few : (e : IntExpr) → many_column e ≡ false → counted e ≤ 64
unfolding many_column
column_few e h = omega (arith, ltb-false 63 (different (written e) + ifs e) h)

mutual
  unfolding any_comparison written ifs

  inside_free : (e : IntExpr) → counted e ≤ 64 → any_inside many_comparison many_column e ≡ any_inside many_comparison free e
  inside_free (IConst c) h = refl
  inside_free (IVar v) h = refl
  inside_free (Linear ts) h = terms_free ts h
  inside_free (If i c t f) h =
      let a = first_few (written t) (written f) in
      let b = rest_few (written t) (written f) in
      rw (comparisons_free c, held t (omega arith), held f (omega arith), inside_free t (omega arith), inside_free f (omega arith)) refl

  terms_free : (ts : Terms) → different (written_terms ts) + ifs_terms ts ≤ 64 → any_inside_terms many_comparison many_column ts ≡ any_inside_terms many_comparison free ts
  terms_free tnil h = refl
  terms_free (tmore k e ts) h =
      let a = first_few (written e) (written_terms ts) in
      let b = rest_few (written e) (written_terms ts) in
      rw (inside_free e (omega arith), terms_free ts (omega arith)) refl

  -- in a comparison, wherever it stands
  pub comparisons_free : (e : BoolExpr) → any_comparison many_comparison many_column e ≡ any_comparison many_comparison free e
  comparisons_free (Const b) = refl
  comparisons_free (Var v) = refl
  comparisons_free (NVar n) = refl
  comparisons_free (And ms) = members_free ms
  comparisons_free (Or ms) = members_free ms
  comparisons_free (Not e) = comparisons_free e
  comparisons_free (Xor a b) = rw (comparisons_free a, comparisons_free b) refl
  comparisons_free (Iff a b) = rw (comparisons_free a, comparisons_free b) refl
  comparisons_free (Imp a b) = rw (comparisons_free a, comparisons_free b) refl
  comparisons_free (Cmp o a b) =
      unless_hit (many_comparison a b) (any_inside many_comparison many_column a || any_inside many_comparison many_column b) (any_inside many_comparison free a || any_inside many_comparison free b)
      (λ h. let k = sides_few a b h in rw (inside_free a k.0, inside_free b k.1) refl)

  members_free : (ms : Members) → any_comparison_members many_comparison many_column ms ≡ any_comparison_members many_comparison free ms
  members_free mnil = refl
  members_free (more e ms) = rw (comparisons_free e, members_free ms) refl

-- in a column
pub columns_free : (e : IntExpr) → many_column e || any_inside many_comparison many_column e ≡ many_column e || any_inside many_comparison free e
columns_free e = unless_hit (many_column e) (any_inside many_comparison many_column e) (any_inside many_comparison free e) (λ h. inside_free e (column_few e h))
