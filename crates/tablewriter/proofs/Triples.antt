-- Columns by their three words each: what the rows' code reads of them (rows/specs/Columns). Assumes nothing.
use mathlib.Core.Path.{◌≡◌, refl, ap}
use mathlib.Core.List.{List, [], ◌∷◌, ◌++◌, map}
use Prim.Native.Nat.{ℕ, zero, suc, ◌+◌, ◌*◌, ◌<◌}
use native.Mathlib.Omega.{arith}
use lib.IntN.{ℤ, pos}
use lib.ListN.{length, length-append}
use borrow.Author.Tests.{le-leb}
use Rattle.laws.specs.Lists.{flat}
use Rattle.syntax.specs.Syntax.{Domain}
use Rattle.words.specs.Exact.{Each}
use Rattle.sorting.specs.Columns.{word, domain_in, vars_of, domains_of, Placed, Column, Columns}

pub record Triple : Type 0 where
  pub number : ℕ
  pub count : ℤ
  pub from : ℤ

abbrev pub triple_words : Triple → List ℤ
triple_words t = pos t.number ∷ t.count ∷ t.from ∷ []

abbrev pub triples_words : List Triple → List ℤ
triples_words ts = flat (map triple_words ts)

abbrev pub Lies : List ℤ → Triple → Type 0
Lies set t = Placed set t.count t.from

abbrev pub domain_by : List ℤ → Triple → Domain
domain_by set t = domain_in set t.count t.from

pub words_length : (ts : List Triple) → length (triples_words ts) ≡ 3 * length ts
words_length [] = refl
words_length (t ∷ ts) = omega (arith, words_length ts)

-- ---- one more

pub words_more : (ts : List Triple) (t : Triple) → triples_words (ts ++ (t ∷ [])) ≡ triples_words ts ++ triple_words t
words_more [] t = refl
words_more (s ∷ ts) t = ap (λ (l : List ℤ). triple_words s ++ l) (words_more ts t)

pub each_more : (P : Triple → Type 0) (ts : List Triple) (t : Triple) → Each P ts → P t → Each P (ts ++ (t ∷ []))
each_more P [] t h p = (p, tt)
each_more P (s ∷ ts) t h p = (h.0, each_more P ts t h.1 p)

pub map_more : {A : Type 0} (f : Triple → A) (ts : List Triple) (t : Triple) (rest : List A) → map f (ts ++ (t ∷ [])) ++ rest ≡ map f ts ++ (f t ∷ rest)
map_more f [] t rest = refl
map_more f (s ∷ ts) t rest = ap (λ l. f s ∷ l) (map_more f ts t rest)

-- ---- what is read of them; r: the words behind them

module _ (set r : List ℤ) where
  pub numbers_read : (ts : List Triple) → vars_of (length ts) (triples_words ts ++ r) ≡ map (λ t. t.number) ts
  unfolding vars_of
  numbers_read [] = refl
  numbers_read (t ∷ ts) = ap (λ (l : List ℕ). t.number ∷ l) (numbers_read ts)

  pub domains_read : (ts : List Triple) → domains_of set (length ts) (triples_words ts ++ r) ≡ map (domain_by set) ts
  unfolding domains_of
  domains_read [] = refl
  domains_read (t ∷ ts) = ap (λ (l : List Domain). domain_by set t ∷ l) (domains_read ts)

  up : (j k : ℕ) → 3 * suc j + k ≡ suc (suc (suc (3 * j + k)))
  up j k = omega arith

  each_column : (ts : List Triple) → Each (Lies set) ts → (i : ℕ) → i < length ts → Column (triples_words ts ++ r) (3 * i)
  each_column [] h i k = absurd (omega arith)
  each_column (t ∷ ts) h zero k = record { named = le-leb 0 t.number (omega arith); sized = h.0.size }
  each_column (t ∷ ts) h (suc i) k =
      let c = each_column ts h.1 i (omega arith) in
      let e : 3 * suc i ≡ suc (suc (suc (3 * i))) = omega arith in
      record { named = rw e c.named; sized = rw (up i 1) c.sized }

  each_placed : (ts : List Triple) → Each (Lies set) ts → (i : ℕ) → i < length ts → Placed set (word (triples_words ts ++ r) (3 * i + 1)) (word (triples_words ts ++ r) (3 * i + 2))
  each_placed [] h i k = absurd (omega arith)
  each_placed (t ∷ ts) h zero k = h.0
  each_placed (t ∷ ts) h (suc i) k = rw (up i 1, up i 2) (each_placed ts h.1 i (omega arith))

  pub columns_read : (ts : List Triple) → Each (Lies set) ts → Columns set (length ts) (triples_words ts ++ r)
  columns_read ts h = record {
    words = omega (arith, words_length ts, length-append (triples_words ts) r);
    each = each_column ts h;
    placed = each_placed ts h;
  }
