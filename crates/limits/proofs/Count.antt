-- How many different variables are written, the numbers below n that a test marks, and how many Ifs. Assumes nothing.
use Rattle.std.specs.Prelude.{◌≡◌, refl, Bool, true, false, ◌||◌, cond, List, [], ◌∷◌, ◌++◌, ℕ, zero, suc, ◌+◌, ◌*◌, ◌≤◌, ◌<◌, eqb, length}
use Rattle.std.proofs.Common.{sym, ◌∙◌, arith, length-append, eqb-true, ne_eqb, le-ltb}
use Rattle.std.proofs.Math.Path.{ap}
use Rattle.std.proofs.Math.Dec.{ltb}
use Rattle.std.proofs.lemmas.Bool.{eqb-false}
use Rattle.laws.specs.Lists.{any, any_append, different}
use Rattle.syntax.specs.Syntax.{IntExpr, IConst, IVar, Linear, If, Terms, tnil, tmore, encode_int, encode_terms, BoolExpr, Const, Var, NVar, And, Or, Not, Xor, Iff, Imp, Cmp, encode_bool}
use Rattle.syntax.specs.Written.{EveryInt, EveryTerm, EveryIntOf}
use Rattle.limits.specs.Limits.{written, written_terms, ifs, ifs_terms, many_comparison, many_column}

-- how many numbers below n the test holds of
unfoldable pub marked : (ℕ → Bool) → ℕ → ℕ
marked f zero = 0
marked f (suc n) = cond (f n) (suc (marked f n)) (marked f n)

pub marked_cong : (f g : ℕ → Bool) (n : ℕ) → ((v : ℕ) → v < n → f v ≡ g v) → marked f n ≡ marked g n
unfolding marked
marked_cong f g zero h = refl
marked_cong f g (suc n) h = rw (h n (omega arith), marked_cong f g n (λ v l. h v (omega arith))) refl

marked_none : (n : ℕ) → marked (λ v. false) n ≡ 0
unfolding marked
marked_none zero = refl
marked_none (suc n) = marked_none n

-- one number more
marked_one : (x : ℕ) (f : ℕ → Bool) (n : ℕ) → x < n → f x ≡ false → marked (λ v. eqb v x || f v) n ≡ suc (marked f n)
unfolding marked
marked_one x f zero l h = absurd (omega arith)
marked_one x f (suc n) l h = go (eqb n x) refl (marked_one x f n)
  where
    apart : n ≡ x → (v : ℕ) → v < n → (eqb v x || f v) ≡ f v
    apart e v k = rw (ne_eqb v x (λ q. omega arith)) refl

    go : (t : Bool) → eqb n x ≡ t → (x < n → f x ≡ false → marked (λ v. eqb v x || f v) n ≡ suc (marked f n))
        → cond (t || f n) (suc (marked (λ v. eqb v x || f v) n)) (marked (λ v. eqb v x || f v) n) ≡ suc (cond (f n) (suc (marked f n)) (marked f n))
    go true q r =
        let e : n ≡ x = eqb-true n x q in
        let z : f n ≡ false = rw e h in
        rw z (ap suc (marked_cong (λ v. eqb v x || f v) f n (apart e)))
    go false q r = let ne = eqb-false n x q in rw (r (omega arith) h) (pick (f n))
      where
        pick : (t : Bool) → cond t (suc (suc (marked f n))) (suc (marked f n)) ≡ suc (cond t (suc (marked f n)) (marked f n))
        pick true = refl
        pick false = refl

-- every number of a list is below n
abbrev Below : ℕ → List ℕ → Type 0
Below n [] = Unit {0}
Below n (x ∷ xs) = (x < n) × Below n xs

-- the numbers of a list, as a test
abbrev pub among : List ℕ → ℕ → Bool
among xs v = any (eqb v) xs

different_marked : (n : ℕ) (xs : List ℕ) → Below n xs → different xs ≡ marked (among xs) n
different_marked n [] h = sym (marked_none n)
different_marked n (x ∷ xs) h = go (any (eqb x) xs) refl (different_marked n xs h.1)
  where
    same : any (eqb x) xs ≡ true → (v : ℕ) → v < n → any (eqb v) xs ≡ (eqb v x || any (eqb v) xs)
    same m v l = pick (eqb v x) refl
      where
        pick : (t : Bool) → eqb v x ≡ t → any (eqb v) xs ≡ (t || any (eqb v) xs)
        pick true q = rw (eqb-true v x q) m
        pick false q = refl

    go : (t : Bool) → any (eqb x) xs ≡ t → different xs ≡ marked (among xs) n → cond t (different xs) (suc (different xs)) ≡ marked (among (x ∷ xs)) n
    go true q r = r ∙ marked_cong (among xs) (among (x ∷ xs)) n (same q)
    go false q r = ap suc r ∙ sym (marked_one x (among xs) n h.0 q)

below_append : (n : ℕ) (xs ys : List ℕ) → Below n xs → Below n ys → Below n (xs ++ ys)
below_append n [] ys h k = k
below_append n (x ∷ xs) ys h k = (h.0, below_append n xs ys h.1 k)

-- written in one expression or in the other
abbrev pub either : IntExpr → IntExpr → ℕ → Bool
either a b v = among (written a) v || among (written b) v

module _ (n : ℕ) where
  mutual
    unfolding EveryIntOf written

    written_below : (e : IntExpr) → EveryInt (λ v. v < n) e → Below n (written e)
    written_below (IConst c) h = tt
    written_below (IVar v) h = (h, tt)
    written_below (Linear ts) h = written_terms_below ts h
    written_below (If i c t f) h = below_append n (written t) (written f) (written_below t h.1.0) (written_below f h.1.1)

    written_terms_below : (ts : Terms) → EveryTerm (λ v. v < n) ts → Below n (written_terms ts)
    written_terms_below tnil h = tt
    written_terms_below (tmore k e ts) h = below_append n (written e) (written_terms ts) (written_below e h.0) (written_terms_below ts h.1)

  pub many_comparison_marked : (a b : IntExpr) → EveryInt (λ v. v < n) a → EveryInt (λ v. v < n) b → many_comparison a b ≡ ltb 64 (marked (either a b) n + (ifs a + ifs b))
  unfolding many_comparison
  many_comparison_marked a b h k =
      ap (λ m. ltb 64 (m + (ifs a + ifs b)))
      (different_marked n (written a ++ written b) (below_append n (written a) (written b) (written_below a h) (written_below b k))
      ∙ marked_cong (among (written a ++ written b)) (either a b) n (λ v l. any_append (eqb v) (written a) (written b)))

  pub many_column_marked : (a : IntExpr) → EveryInt (λ v. v < n) a → many_column a ≡ ltb 63 (marked (among (written a)) n + ifs a)
  unfolding many_column
  many_column_marked a h = ap (λ m. ltb 63 (m + ifs a)) (different_marked n (written a) (written_below a h))

-- ---- few words write few variables and Ifs: each has two words at least

different_few : (xs : List ℕ) → different xs ≤ length xs
different_few [] = omega arith
different_few (x ∷ xs) = go (any (eqb x) xs) (different_few xs)
  where
    go : (t : Bool) → different xs ≤ length xs → cond t (different xs) (suc (different xs)) ≤ suc (length xs)
    go true h = omega arith
    go false h = omega arith

bool_some : (e : BoolExpr) → 1 ≤ length (encode_bool e)
unfolding encode_bool
bool_some (Const b) = omega arith
bool_some (Var v) = omega arith
bool_some (NVar n) = omega arith
bool_some (And ms) = omega arith
bool_some (Or ms) = omega arith
bool_some (Not e) = omega arith
bool_some (Xor a b) = omega arith
bool_some (Iff a b) = omega arith
bool_some (Imp a b) = omega arith
bool_some (Cmp o a b) = omega arith

mutual
  unfolding written ifs encode_int

  written_few : (e : IntExpr) → 2 * (length (written e) + ifs e) ≤ length (encode_int e)
  written_few (IConst c) = omega arith
  written_few (IVar v) = omega arith
  written_few (Linear ts) = omega (arith, written_terms_few ts)
  written_few (If i c t f) =
      omega (arith, bool_some c, written_few t, written_few f, length-append (written t) (written f), length-append (encode_bool c) (encode_int t ++ encode_int f), length-append (encode_int t) (encode_int f))

  written_terms_few : (ts : Terms) → 2 * (length (written_terms ts) + ifs_terms ts) ≤ length (encode_terms ts)
  written_terms_few tnil = omega arith
  written_terms_few (tmore k e ts) = omega (arith, written_few e, written_terms_few ts, length-append (written e) (written_terms ts), length-append (encode_int e) (encode_terms ts))

pub ifs_few : (e : IntExpr) → 2 * ifs e ≤ length (encode_int e)
ifs_few e = omega (arith, written_few e)

pub few_comparison : (a b : IntExpr) → length (encode_int a) + length (encode_int b) < 128 → many_comparison a b ≡ false
unfolding many_comparison
few_comparison a b h = le-ltb 64 (different (written a ++ written b) + (ifs a + ifs b)) (omega (arith, different_few (written a ++ written b), length-append (written a) (written b), written_few a, written_few b))

pub few_column : (e : IntExpr) → length (encode_int e) < 128 → many_column e ≡ false
unfolding many_column
few_column e h = le-ltb 63 (different (written e) + ifs e) (omega (arith, different_few (written e), written_few e))
