-- The bound of the emitted numbers that occur, one more than the greatest: "names only numbers below n" is a bound ≤ n. Booleans and integers apart.
-- What is bounded by n depends on the values of the numbers below n only.
use Rattle.std.specs.Prelude.{◌≡◌, refl, Bool, true, false, not, cond, List, [], ◌∷◌, ◌++◌, map, ℕ, suc, ◌≤◌, ◌<◌, max, eqb, ltb, ℤ, pos, negsuc, ◌+ℤ◌, ◌*ℤ◌}
use Rattle.std.proofs.Common.{ap, arith}
use Rattle.laws.specs.Ints.{is_zero}
use Rattle.laws.specs.Lists.{any, all, flat}
use Rattle.syntax.specs.Syntax.{IntExpr, IConst, IVar, Linear, If, Terms, tnil, tmore, BoolExpr, Const, Var, NVar, And, Or, Not, Xor, Iff, Imp, Cmp, Members, mnil, more}
use Rattle.syntax.specs.Satisfies.{Val, IVal, holds, holds_all, holds_any, int_value, terms_value}
use Rattle.sums.specs.LinearSum.{Term, term, LinearSum, linear_sum, constant, place, insert_coef, add_coef, add_terms, add_sum, mul_terms, mul_sum, sub_sum, sum_terms_value, sum_value}
use Rattle.clauses.specs.Clause.{BoolLit, lit, LinearLit, linear, Clause, clause, lit_true, linear_true, clause_true}
use Rattle.clauses.specs.Disjunction.{add_bool_each}

-- ---- bounds

abbrev pub lits_bound : List BoolLit → ℕ
lits_bound [] = 0
lits_bound (lit n g ∷ ls) = max (suc n) (lits_bound ls)

abbrev pub clauses_bound : List Clause → ℕ
clauses_bound [] = 0
clauses_bound (clause ls ks ∷ cs) = max (lits_bound ls) (clauses_bound cs)

abbrev pub lists_bound : List (List Clause) → ℕ
lists_bound [] = 0
lists_bound (cs ∷ css) = max (clauses_bound cs) (lists_bound css)

unfoldable mutual
  pub expr_bound : BoolExpr → ℕ
  expr_bound (Const b) = 0
  expr_bound (Var v) = 0
  expr_bound (NVar n) = suc n
  expr_bound (And ms) = members_bound ms
  expr_bound (Or ms) = members_bound ms
  expr_bound (Not e) = expr_bound e
  expr_bound (Xor a b) = max (expr_bound a) (expr_bound b)
  expr_bound (Iff a b) = max (expr_bound a) (expr_bound b)
  expr_bound (Imp a b) = max (expr_bound a) (expr_bound b)
  expr_bound (Cmp o a b) = max (int_bound a) (int_bound b)

  pub members_bound : Members → ℕ
  members_bound mnil = 0
  members_bound (more e ms) = max (expr_bound e) (members_bound ms)

  pub int_bound : IntExpr → ℕ
  int_bound (IConst c) = 0
  int_bound (IVar v) = 0
  int_bound (Linear ts) = terms_numbers ts
  int_bound (If i c t f) = max (expr_bound c) (max (int_bound t) (int_bound f))

  pub terms_numbers : Terms → ℕ
  terms_numbers tnil = 0
  terms_numbers (tmore k e ts) = max (int_bound e) (terms_numbers ts)

abbrev pub exprs_bound : List BoolExpr → ℕ
exprs_bound [] = 0
exprs_bound (e ∷ es) = max (expr_bound e) (exprs_bound es)

-- of the integers of a sum
abbrev pub terms_bound : List Term → ℕ
terms_bound [] = 0
terms_bound (term v a ∷ ts) = max (suc v) (terms_bound ts)

abbrev pub sum_bound : LinearSum → ℕ
sum_bound (linear_sum c ts) = terms_bound ts

-- expressions as they are read name no emitted number
abbrev pub NoNumbers : List IntExpr → Type 0
NoNumbers [] = Unit {0}
NoNumbers (e ∷ es) = (int_bound e ≤ 0) × NoNumbers es

-- of the integers of comparisons, clauses, members' lists
abbrev pub linears_bound : List LinearLit → ℕ
linears_bound [] = 0
linears_bound (linear o l ∷ ks) = max (sum_bound l) (linears_bound ks)

abbrev pub ints_bound : List Clause → ℕ
ints_bound [] = 0
ints_bound (clause ls ks ∷ cs) = max (linears_bound ks) (ints_bound cs)

abbrev pub int_lists_bound : List (List Clause) → ℕ
int_lists_bound [] = 0
int_lists_bound (cs ∷ css) = max (ints_bound cs) (int_lists_bound css)

pub linears_bound_append : (a b : List LinearLit) → linears_bound (a ++ b) ≡ max (linears_bound a) (linears_bound b)
linears_bound_append [] b = omega arith
linears_bound_append (linear o l ∷ a) b = rw (linears_bound_append a b) (omega arith)

pub ints_bound_append : (a b : List Clause) → ints_bound (a ++ b) ≡ max (ints_bound a) (ints_bound b)
ints_bound_append [] b = omega arith
ints_bound_append (clause ls ks ∷ a) b = rw (ints_bound_append a b) (omega arith)

pub ints_bound_add : (l : BoolLit) (cs : List Clause) → ints_bound (add_bool_each l cs) ≡ ints_bound cs
ints_bound_add l [] = refl
ints_bound_add l (clause ls ks ∷ cs) = rw (ints_bound_add l cs) refl

pub ints_bound_flat : (css : List (List Clause)) → ints_bound (flat css) ≡ int_lists_bound css
ints_bound_flat [] = refl
ints_bound_flat (cs ∷ css) = omega (arith, ints_bound_append cs (flat css), ints_bound_flat css)

-- ---- of lists

pub lits_bound_append : (a b : List BoolLit) → lits_bound (a ++ b) ≡ max (lits_bound a) (lits_bound b)
lits_bound_append [] b = omega arith
lits_bound_append (lit n g ∷ a) b = rw (lits_bound_append a b) (omega arith)

pub clauses_bound_append : (a b : List Clause) → clauses_bound (a ++ b) ≡ max (clauses_bound a) (clauses_bound b)
clauses_bound_append [] b = omega arith
clauses_bound_append (clause ls ks ∷ a) b = rw (clauses_bound_append a b) (omega arith)

pub clauses_bound_add : (n : ℕ) (g : Bool) (cs : List Clause) → clauses_bound (add_bool_each (lit n g) cs) ≤ max (suc n) (clauses_bound cs)
clauses_bound_add n g [] = omega arith
clauses_bound_add n g (clause ls ks ∷ cs) = rw (lits_bound_append ls (lit n g ∷ [])) (omega (arith, clauses_bound_add n g cs))

pub clauses_bound_flat : (css : List (List Clause)) → clauses_bound (flat css) ≡ lists_bound css
clauses_bound_flat [] = refl
clauses_bound_flat (cs ∷ css) = omega (arith, clauses_bound_append cs (flat css), clauses_bound_flat css)

exprs_bound_append : (a b : List BoolExpr) → exprs_bound (a ++ b) ≡ max (exprs_bound a) (exprs_bound b)
exprs_bound_append [] b = omega arith
exprs_bound_append (e ∷ a) b = rw (exprs_bound_append a b) (omega arith)

pub exprs_bound_le : (n : ℕ) (a b : List BoolExpr) → exprs_bound a ≤ n → exprs_bound b ≤ n → exprs_bound (a ++ b) ≤ n
exprs_bound_le n a b h k = rw (exprs_bound_append a b) (omega arith)

-- ---- of sums

unless_zero_bound : (z : Bool) (v : ℕ) (a : ℤ) (ts : List Term) → terms_bound (cond z ts (term v a ∷ ts)) ≤ max (suc v) (terms_bound ts)
unless_zero_bound true v a ts = omega arith
unless_zero_bound false v a ts = omega arith

place_bound : (b e : Bool) (v : ℕ) (a : ℤ) (w : ℕ) (c : ℤ) (ts r : List Term) → terms_bound r ≤ max (suc v) (terms_bound ts) → terms_bound (place b e v a w c ts r) ≤ max (suc v) (max (suc w) (terms_bound ts))
place_bound true e v a w c ts r h = omega arith
place_bound false true v a w c ts r h = omega (arith, unless_zero_bound (is_zero (c +ℤ a)) w (c +ℤ a) ts)
place_bound false false v a w c ts r h = omega arith

insert_bound : (v : ℕ) (a : ℤ) (ts : List Term) → terms_bound (insert_coef v a ts) ≤ max (suc v) (terms_bound ts)
unfolding insert_coef
insert_bound v a [] = omega arith
insert_bound v a (term w c ∷ ts) = place_bound (ltb v w) (eqb v w) v a w c ts (insert_coef v a ts) (insert_bound v a ts)

add_coef_bound : (z : Bool) (v : ℕ) (a : ℤ) (ts : List Term) → terms_bound (cond z ts (insert_coef v a ts)) ≤ max (suc v) (terms_bound ts)
add_coef_bound true v a ts = omega arith
add_coef_bound false v a ts = insert_bound v a ts

add_terms_bound : (ts us : List Term) → terms_bound (add_terms ts us) ≤ max (terms_bound ts) (terms_bound us)
unfolding add_terms add_coef
add_terms_bound ts [] = omega arith
add_terms_bound ts (term v a ∷ us) = omega (arith, add_terms_bound (add_coef v a ts) us, add_coef_bound (is_zero a) v a ts)

pub add_sum_bound : (a b : LinearSum) → sum_bound (add_sum a b) ≤ max (sum_bound a) (sum_bound b)
unfolding add_sum
add_sum_bound (linear_sum c ts) (linear_sum d us) = add_terms_bound ts us

mul_terms_bound : (k : ℤ) (ts : List Term) → terms_bound (mul_terms k ts) ≡ terms_bound ts
unfolding mul_terms
mul_terms_bound k [] = refl
mul_terms_bound k (term v a ∷ ts) = rw (mul_terms_bound k ts) refl

pub mul_sum_bound : (k : ℤ) (a : LinearSum) → sum_bound (mul_sum k a) ≤ sum_bound a
unfolding mul_sum
mul_sum_bound k (linear_sum c ts) = go (is_zero k)
  where
    go : (z : Bool) → sum_bound (cond z (constant (pos 0)) (linear_sum (c *ℤ k) (mul_terms k ts))) ≤ terms_bound ts
    go true = omega arith
    go false = omega (arith, mul_terms_bound k ts)

-- ---- values that agree below a bound

pub sub_sum_bound : (a b : LinearSum) → sum_bound (sub_sum a b) ≤ max (sum_bound a) (sum_bound b)
unfolding sub_sum
sub_sum_bound a b = omega (arith, add_sum_bound a (mul_sum (negsuc 0) b), mul_sum_bound (negsuc 0) b)

abbrev pub Same : {A : Type 0} → ℕ → (ℕ → A) → (ℕ → A) → Type 0
Same n ρ ρ' = (m : ℕ) → m < n → ρ m ≡ ρ' m

pub sum_terms_same : (n : ℕ) (ι ι' : IVal) → Same n ι ι' → (ts : List Term) → terms_bound ts ≤ n → sum_terms_value ι ts ≡ sum_terms_value ι' ts
sum_terms_same n ι ι' same [] h = refl
sum_terms_same n ι ι' same (term v a ∷ ts) h = rw (same v (omega arith), sum_terms_same n ι ι' same ts (omega arith)) refl

pub sum_same : (n : ℕ) (ι ι' : IVal) → Same n ι ι' → (l : LinearSum) → sum_bound l ≤ n → sum_value ι l ≡ sum_value ι' l
sum_same n ι ι' same (linear_sum c ts) h = rw (sum_terms_same n ι ι' same ts h) refl

linears_same : (n : ℕ) (ι ι' : IVal) → Same n ι ι' → (ks : List LinearLit) → linears_bound ks ≤ n → any (linear_true ι) ks ≡ any (linear_true ι') ks
linears_same n ι ι' same [] h = refl
linears_same n ι ι' same (linear o l ∷ ks) h = rw (sum_same n ι ι' same l (omega arith), linears_same n ι ι' same ks (omega arith)) refl

module _ (n : ℕ) (ρ ρ' : Val) (same : Same n ρ ρ') where
  lits_same : (ls : List BoolLit) → lits_bound ls ≤ n → any (lit_true ρ) ls ≡ any (lit_true ρ') ls
  lits_same [] h = refl
  lits_same (lit m g ∷ ls) h = rw (same m (omega arith), lits_same ls (omega arith)) refl

  pub clauses_same : (i : ℕ) (ι ι' : IVal) → Same i ι ι' → (cs : List Clause) → clauses_bound cs ≤ n → ints_bound cs ≤ i → all (clause_true ρ ι) cs ≡ all (clause_true ρ' ι') cs
  clauses_same i ι ι' e [] h k = refl
  clauses_same i ι ι' e (clause ls ks ∷ cs) h k = rw (lits_same ls (omega arith), linears_same i ι ι' e ks (omega arith), clauses_same i ι ι' e cs (omega arith) (omega arith)) refl

  module _ (δ : Val) (ε : IVal) where
    mutual
      unfolding holds expr_bound

      pub holds_same : (e : BoolExpr) → expr_bound e ≤ n → holds δ ε ρ e ≡ holds δ ε ρ' e
      holds_same (Const b) h = refl
      holds_same (Var v) h = refl
      holds_same (NVar m) h = same m h
      holds_same (And ms) h = holds_all_same ms h
      holds_same (Or ms) h = holds_any_same ms h
      holds_same (Not e) h = ap not (holds_same e h)
      holds_same (Xor a b) h = rw (holds_same a (omega arith), holds_same b (omega arith)) refl
      holds_same (Iff a b) h = rw (holds_same a (omega arith), holds_same b (omega arith)) refl
      holds_same (Imp a b) h = rw (holds_same a (omega arith), holds_same b (omega arith)) refl
      holds_same (Cmp o a b) h = rw (int_same a (omega arith), int_same b (omega arith)) refl

      holds_all_same : (ms : Members) → members_bound ms ≤ n → holds_all δ ε ρ ms ≡ holds_all δ ε ρ' ms
      holds_all_same mnil h = refl
      holds_all_same (more e ms) h = rw (holds_same e (omega arith), holds_all_same ms (omega arith)) refl

      holds_any_same : (ms : Members) → members_bound ms ≤ n → holds_any δ ε ρ ms ≡ holds_any δ ε ρ' ms
      holds_any_same mnil h = refl
      holds_any_same (more e ms) h = rw (holds_same e (omega arith), holds_any_same ms (omega arith)) refl

      pub int_same : (e : IntExpr) → int_bound e ≤ n → int_value δ ε ρ e ≡ int_value δ ε ρ' e
      int_same (IConst c) h = refl
      int_same (IVar v) h = refl
      int_same (Linear ts) h = terms_same ts h
      int_same (If i c t f) h = rw (holds_same c (omega arith), int_same t (omega arith), int_same f (omega arith)) refl

      terms_same : (ts : Terms) → terms_numbers ts ≤ n → terms_value δ ε ρ ts ≡ terms_value δ ε ρ' ts
      terms_same tnil h = refl
      terms_same (tmore k e ts) h = rw (int_same e (omega arith), terms_same ts (omega arith)) refl

-- expressions as they are read have their values whatever the emitted numbers'
pub values_same : (ρ ρ' : Val) (δ : Val) (ε : IVal) (es : List IntExpr) → NoNumbers es → map (int_value δ ε ρ) es ≡ map (int_value δ ε ρ') es
values_same ρ ρ' δ ε [] h = refl
values_same ρ ρ' δ ε (e ∷ es) h = rw (int_same 0 ρ ρ' (λ m k. absurd (omega arith)) δ ε e h.0, values_same ρ ρ' δ ε es h.1) refl
