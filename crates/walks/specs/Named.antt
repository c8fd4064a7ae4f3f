-- What the numbers of a log belong to: each declared variable and each If that is found again has one number of its own, which it keeps as the log grows.
-- That normalising keeps a log so is said in Constant.
use Rattle.std.proofs.Math.Path.{◌≡◌, refl}
use Rattle.std.proofs.Common.{sym, ◌∙◌, arith}
use Rattle.std.specs.Prelude.{Bool, ℕ, ◌≤◌, ◌<◌, ltb}
use Rattle.std.proofs.Math.Bool.{true, false, cond}
use Rattle.std.proofs.Math.Option.{none, some}
use mathlib.Core.List.{[], ◌∷◌}
use Rattle.std.proofs.Math.Dec.{eqb}
use borrow.Author.Tests.{eqb-true, eq-eqb, ne_eqb, ltb-true, ltb-false}
use Rattle.laws.specs.Same.{same_words, same_is}
use Rattle.laws.specs.Ints.{apart}
use Rattle.syntax.specs.Syntax.{IntExpr, encode_int}
use Rattle.syntax.specs.Unique.{int_unique_words}
use Rattle.clauses.specs.Log.{MadeInt, declared_int, column, chosen, binary, Made, bool, merged, int, added, defined, known, Log, next_int, get_int_var, get_if}
use Rattle.clauses.proofs.Grow.{get_int_below}
use Rattle.clauses.proofs.Since.{OnTop, here, over}

-- ---- keys

-- what may find a number again: a declared variable, an If; nothing
pub data Key : Type 0 where
  variable : ℕ → Key
  choice : IntExpr → Key
  nothing : Key

abbrev pub key_of : MadeInt → Key
key_of (declared_int v) = variable v
key_of (column l d) = nothing
key_of (chosen i e p q d) = choice e
key_of (binary i l a b) = nothing

-- of the number n
unfoldable pub key_at : Log → ℕ → Key
key_at [] n = nothing
key_at (bool m ∷ s) n = key_at s n
key_at (merged v w g ∷ s) n = key_at s n
key_at (int m ∷ s) n = cond (eqb n (next_int s)) (key_of m) (key_at s n)
key_at (added cs ∷ s) n = key_at s n
key_at (defined cs ∷ s) n = key_at s n
key_at (known e v ∷ s) n = key_at s n

pub key_new : (m : MadeInt) (s : Log) → key_at (int m ∷ s) (next_int s) ≡ key_of m
unfolding key_at
key_new m s = rw (eq-eqb (next_int s) (next_int s) refl) refl

key_step : (m : Made) (s : Log) (n : ℕ) → n < next_int s → key_at (m ∷ s) n ≡ key_at s n
unfolding key_at
key_step (bool m) s n l = refl
key_step (merged v w g) s n l = refl
key_step (int m) s n l = rw (ne_eqb n (next_int s) (λ e. omega arith)) refl
key_step (added cs) s n l = refl
key_step (defined cs) s n l = refl
key_step (known e v) s n l = refl

-- a number not given has none
key_beyond : (s : Log) (n : ℕ) → next_int s ≤ n → key_at s n ≡ nothing
unfolding key_at
key_beyond [] n l = refl
key_beyond (bool m ∷ s) n l = key_beyond s n l
key_beyond (merged v w g ∷ s) n l = key_beyond s n l
key_beyond (int m ∷ s) n l = rw (ne_eqb n (next_int s) (λ e. omega arith)) (key_beyond s n (omega arith))
key_beyond (added cs ∷ s) n l = key_beyond s n l
key_beyond (defined cs ∷ s) n l = key_beyond s n l
key_beyond (known e v ∷ s) n l = key_beyond s n l

more_ints : (m : Made) (s : Log) → next_int s ≤ next_int (m ∷ s)
more_ints (bool m) s = omega arith
more_ints (merged v w g) s = omega arith
more_ints (int m) s = omega arith
more_ints (added cs) s = omega arith
more_ints (defined cs) s = omega arith
more_ints (known e n) s = omega arith

pub top_ints : {s t : Log} → OnTop s t → next_int s ≤ next_int t
top_ints here = omega arith
top_ints (over {t} m a) = omega (arith, top_ints a, more_ints m t)

pub top_key : {s t : Log} → OnTop s t → (n : ℕ) → n < next_int s → key_at t n ≡ key_at s n
top_key here n l = refl
top_key (over {t} m a) n l = key_step m t n (omega (arith, top_ints a)) ∙ top_key a n l

pub variable_is : {X : Type 0} (v : ℕ) → variable v ≡ nothing → X
variable_is v h = let z : ◌≡◌ {A = ℕ} 0 1 = cc in apart z

pub choice_is : {X : Type 0} (e : IntExpr) → choice e ≡ nothing → X
choice_is e h = let z : ◌≡◌ {A = ℕ} 0 1 = cc in apart z

-- a number that has a key is given
pub choice_below : (e : IntExpr) (n : ℕ) (s : Log) → key_at s n ≡ choice e → n < next_int s
choice_below e n s h = go (ltb n (next_int s)) refl
  where
    go : (b : Bool) → ltb n (next_int s) ≡ b → n < next_int s
    go true l = ltb-true n (next_int s) l
    go false l = choice_is e (sym h ∙ key_beyond s n (ltb-false n (next_int s) l))

-- ---- a declared variable's number has its key

var_key_at : (s : Log) (v n w : ℕ) → (get_int_var v s ≡ some n → key_at s n ≡ variable v) → (b : Bool) → eqb v w ≡ b → cond b (some (next_int s)) (get_int_var v s) ≡ some n → key_at (int (declared_int w) ∷ s) n ≡ variable v
var_key_at s v n w old true e h = let q : next_int s ≡ n = cc in let z : v ≡ w = eqb-true v w e in rw (← q, z) (key_new (declared_int w) s)
var_key_at s v n w old false e h = key_step (int (declared_int w)) s n (get_int_below s v n h) ∙ old h

pub var_key : (s : Log) (v n : ℕ) → get_int_var v s ≡ some n → key_at s n ≡ variable v
unfolding get_int_var
var_key [] v n h = let z : ◌≡◌ {A = ℕ} 0 1 = cc in apart z
var_key (bool m ∷ s) v n h = key_step (bool m) s n (get_int_below s v n h) ∙ var_key s v n h
var_key (merged q r z ∷ s) v n h = key_step (merged q r z) s n (get_int_below s v n h) ∙ var_key s v n h
var_key (int (declared_int w) ∷ s) v n h = var_key_at s v n w (var_key s v n) (eqb v w) refl h
var_key (int (column l d) ∷ s) v n h = key_step (int (column l d)) s n (get_int_below s v n h) ∙ var_key s v n h
var_key (int (chosen i e p q d) ∷ s) v n h = key_step (int (chosen i e p q d)) s n (get_int_below s v n h) ∙ var_key s v n h
var_key (int (binary i l a b) ∷ s) v n h = key_step (int (binary i l a b)) s n (get_int_below s v n h) ∙ var_key s v n h
var_key (added cs ∷ s) v n h = key_step (added cs) s n (get_int_below s v n h) ∙ var_key s v n h
var_key (defined cs ∷ s) v n h = key_step (defined cs) s n (get_int_below s v n h) ∙ var_key s v n h
var_key (known e k ∷ s) v n h = key_step (known e k) s n (get_int_below s v n h) ∙ var_key s v n h

-- ---- named logs; Open: of each If that is found again

module _ (Open : IntExpr → Type 0) where
  -- a declared variable, and an If, gets its number once
  abbrev pub NamedMade : Made → Log → Type 0
  NamedMade (bool m) s = Unit {0}
  NamedMade (merged v w g) s = Unit {0}
  NamedMade (int (declared_int v)) s = get_int_var v s ≡ none
  NamedMade (int (column l d)) s = Unit {0}
  NamedMade (int (chosen i e p q d)) s = Unit {0}
  NamedMade (int (binary i l a b)) s = Unit {0}
  NamedMade (added cs) s = Unit {0}
  NamedMade (defined cs) s = Unit {0}
  NamedMade (known e v) s = (get_if e s ≡ none) × (key_at s v ≡ choice e) × Open e

  abbrev pub NamedBy : Log → Type 0
  NamedBy [] = Unit {0}
  NamedBy (m ∷ s) = NamedMade m s × NamedBy s

  -- an If that is found: its number has its key
  pub record FoundIf (e : IntExpr) (n : ℕ) (s : Log) : Type 0 where
    pub key : key_at s n ≡ choice e
    pub is_open : Open e

  found_step : (m : Made) (s : Log) (e : IntExpr) (n : ℕ) → FoundIf e n s → FoundIf e n (m ∷ s)
  found_step m s e n f = record { key = key_step m s n (choice_below e n s f.key) ∙ f.key; is_open = f.is_open }

  found_at : (s : Log) (e f : IntExpr) (n v : ℕ) → (get_if e s ≡ some n → FoundIf e n s) → (key_at s v ≡ choice f) → Open f → (b : Bool) → same_words (encode_int e) (encode_int f) ≡ b → cond b (some v) (get_if e s) ≡ some n → FoundIf e n (known f v ∷ s)
  found_at s e f n v old k o true q h =
      let z : v ≡ n = cc in
      let x : e ≡ f = int_unique_words e f (same_is (encode_int e) (encode_int f) q) in
      rw (x, ← z) (found_step (known f v) s f v (record { key = k; is_open = o }))
  found_at s e f n v old k o false q h = found_step (known f v) s e n (old h)

  pub if_found : (s : Log) → NamedBy s → (e : IntExpr) (n : ℕ) → get_if e s ≡ some n → FoundIf e n s
  unfolding get_if
  if_found [] l e n h = let z : ◌≡◌ {A = ℕ} 0 1 = cc in apart z
  if_found (bool m ∷ s) l e n h = found_step (bool m) s e n (if_found s l.1 e n h)
  if_found (merged q r z ∷ s) l e n h = found_step (merged q r z) s e n (if_found s l.1 e n h)
  if_found (int m ∷ s) l e n h = found_step (int m) s e n (if_found s l.1 e n h)
  if_found (added cs ∷ s) l e n h = found_step (added cs) s e n (if_found s l.1 e n h)
  if_found (defined cs ∷ s) l e n h = found_step (defined cs) s e n (if_found s l.1 e n h)
  if_found (known f v ∷ s) l e n h = found_at s e f n v (if_found s l.1 e n) l.0.1 l.0.2 (same_words (encode_int e) (encode_int f)) refl h

  -- ---- a number found is found ever after

  var_step : (m : Made) (s : Log) → NamedMade m s → (v n : ℕ) → get_int_var v s ≡ some n → get_int_var v (m ∷ s) ≡ some n
  unfolding get_int_var
  var_step (bool m) s l v n h = h
  var_step (merged w u g) s l v n h = h
  var_step (int (declared_int w)) s l v n h = go (eqb v w) refl
    where
      go : (b : Bool) → eqb v w ≡ b → cond b (some (next_int s)) (get_int_var v s) ≡ some n
      go false e = h
      go true e = let q : v ≡ w = eqb-true v w e in let k : get_int_var v s ≡ none = rw q l in let z : ◌≡◌ {A = ℕ} 0 1 = cc in apart z
  var_step (int (column x d)) s l v n h = h
  var_step (int (chosen i e p q d)) s l v n h = h
  var_step (int (binary i x a b)) s l v n h = h
  var_step (added cs) s l v n h = h
  var_step (defined cs) s l v n h = h
  var_step (known e k) s l v n h = h

  pub var_stays : {s t : Log} → OnTop s t → NamedBy t → (v n : ℕ) → get_int_var v s ≡ some n → get_int_var v t ≡ some n
  var_stays here l v n h = h
  var_stays (over {t} m a) l v n h = var_step m t l.0 v n (var_stays a l.1 v n h)

  if_step : (m : Made) (s : Log) → NamedMade m s → (e : IntExpr) (n : ℕ) → get_if e s ≡ some n → get_if e (m ∷ s) ≡ some n
  unfolding get_if
  if_step (bool m) s l e n h = h
  if_step (merged w u g) s l e n h = h
  if_step (int m) s l e n h = h
  if_step (added cs) s l e n h = h
  if_step (defined cs) s l e n h = h
  if_step (known f k) s l e n h = go (same_words (encode_int e) (encode_int f)) refl
    where
      go : (b : Bool) → same_words (encode_int e) (encode_int f) ≡ b → cond b (some k) (get_if e s) ≡ some n
      go false q = h
      go true q = let x : e ≡ f = int_unique_words e f (same_is (encode_int e) (encode_int f) q) in let y : get_if e s ≡ none = rw x l.0 in let z : ◌≡◌ {A = ℕ} 0 1 = cc in apart z

  pub if_stays : {s t : Log} → OnTop s t → NamedBy t → (e : IntExpr) (n : ℕ) → get_if e s ≡ some n → get_if e t ≡ some n
  if_stays here l e n h = h
  if_stays (over {t} m a) l e n h = if_step m t l.0 e n (if_stays a l.1 e n h)
