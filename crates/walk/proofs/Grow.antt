-- Logs grow, and a work slice whose maps agree with a later log agrees with an earlier one.
use Rattle.std.specs.Prelude.{◌≡◌, refl, Bool, true, false, cond, List, ◌∷◌, ℕ, suc, ◌≤◌, ◌<◌, ℤ, pos, negsuc, eqb}
use Rattle.std.proofs.Common.{ap, arith, eqb→eq, le-leb, eq-eqb}
use Rattle.std.proofs.Math.Option.{Option, none, some}
use Rattle.memory.specs.Places.{limit}
use Rattle.clauses.specs.Clause.{Clause, BoolLit, lit}
use Rattle.clauses.specs.Log.{declared, aux, declared_int, bool, int, added, Log, next_bool, next_int, number_of, negate_lit, get_bool_var, get_int_var}
use Rattle.walk.specs.Item.{int_entry, word_of, bool_at, signed}
use Rattle.clauses.proofs.Grow.{get_bool_below}
use Rattle.clauses.proofs.Since.{OnTop, here, over, top_then}

pub record Grows (s t : Log) : Type 0 where
  pub bools : next_bool s ≤ next_bool t
  pub ints : next_int s ≤ next_int t
  pub keep : (v : ℕ) (n : BoolLit) → get_bool_var v s ≡ some n → get_bool_var v t ≡ some n
  pub keep_int : (v n : ℕ) → get_int_var v s ≡ some n → get_int_var v t ≡ some n
  pub top : OnTop s t

pub same : {s : Log} → Grows s s
same = record { bools = omega arith; ints = omega arith; keep = λ v n h. h; keep_int = λ v n h. h; top = here }

pub then : {s t u : Log} → Grows s t → Grows t u → Grows s u
then a b = record {
  bools = omega (arith, a.bools, b.bools);
  ints = omega (arith, a.ints, b.ints);
  keep = λ v n h. b.keep v n (a.keep v n h);
  keep_int = λ v n h. b.keep_int v n (a.keep_int v n h);
  top = top_then a.top b.top;
}

pub grow_aux : (cs : List Clause) (s : Log) → Grows s (bool (aux cs) ∷ s)
unfolding get_bool_var get_int_var
grow_aux cs s = record { bools = omega arith; ints = omega arith; keep = λ v n h. h; keep_int = λ v n h. h; top = over (bool (aux cs)) here }

pub grow_added : (cs : List Clause) (s : Log) → Grows s (added cs ∷ s)
unfolding get_bool_var get_int_var
grow_added cs s = record { bools = omega arith; ints = omega arith; keep = λ v n h. h; keep_int = λ v n h. h; top = over (added cs) here }

-- a variable that is not there yet
kept : {X : Type 0} (v w : ℕ) (k n : X) (o p : Option X) → p ≡ none → o ≡ some n → (v ≡ w → o ≡ p) → (b : Bool) → eqb v w ≡ b → cond b (some k) o ≡ some n
kept v w k n o p l h q false e = h
kept v w k n o p l h q true e = let r : v ≡ w = eqb→eq v w (rw e tt) in let x : o ≡ p = q r in cc

pub grow_declared : (w : ℕ) (s : Log) → get_bool_var w s ≡ none → Grows s (bool (declared w) ∷ s)
unfolding get_bool_var get_int_var
grow_declared w s h = record {
  bools = omega arith;
  ints = omega arith;
  keep = λ v n q. kept v w (lit (next_bool s) false) n (get_bool_var v s) (get_bool_var w s) h q (λ r. ap (λ x. get_bool_var x s) r) (eqb v w) refl;
  keep_int = λ v n q. q;
  top = over (bool (declared w)) here;
}

pub grow_declared_int : (w : ℕ) (s : Log) → get_int_var w s ≡ none → Grows s (int (declared_int w) ∷ s)
unfolding get_bool_var get_int_var
grow_declared_int w s h = record {
  bools = omega arith;
  ints = omega arith;
  keep = λ v n q. q;
  keep_int = λ v n q. kept v w (next_int s) n (get_int_var v s) (get_int_var w s) h q (λ r. ap (λ x. get_int_var x s) r) (eqb v w) refl;
  top = over (int (declared_int w)) here;
}

-- ---- numbers lie below the counters

pub bool_below : (s : Log) (v : ℕ) (l : BoolLit) → get_bool_var v s ≡ some l → number_of l < next_bool s
bool_below s v l h = get_bool_below s v l h

pub bool_here : (v : ℕ) (s : Log) → get_bool_var v (bool (declared v) ∷ s) ≡ some (lit (next_bool s) false)
unfolding get_bool_var
bool_here v s = rw (eq-eqb v v refl)

pub int_here : (v : ℕ) (s : Log) → get_int_var v (int (declared_int v) ∷ s) ≡ some (next_int s)
unfolding get_int_var
int_here v s = rw (eq-eqb v v refl)

-- ---- the word of a literal

abbrev pub lit_word : BoolLit → ℤ
lit_word (lit n false) = pos (suc n)
lit_word (lit n true) = negsuc n

-- ---- the maps of a log

-- the maps have the log's literals and numbers, and the counters are below the limit
pub record Fit (w : List ℤ) (s : Log) : Type 0 where
  pub agree : (v : ℕ) (l : BoolLit) → get_bool_var v s ≡ some l → bool_at w v ≡ lit_word l
  pub agree_int : (v n : ℕ) → get_int_var v s ≡ some n → int_entry w v ≡ suc n
  pub small : next_bool s ≤ limit

pub back : {w : List ℤ} {s t : Log} → Grows s t → Fit w t → Fit w s
back g f = record {
  agree = λ v n h. f.agree v n (g.keep v n h);
  agree_int = λ v n h. f.agree_int v n (g.keep_int v n h);
  small = omega (arith, g.bools, f.small);
}

pub word_lit : (n : ℕ) (g : Bool) → n < limit → word_of (suc n) g ≡ lit_word (lit n g)
unfolding word_of
word_lit n false h = rw (le-leb (suc n) limit (omega arith))
word_lit n true h = rw (le-leb (suc n) limit (omega arith))

pub signed_lit : (l : BoolLit) (g : Bool) → number_of l < limit → signed (lit_word l) g ≡ lit_word (negate_lit g l)
unfolding signed
signed_lit (lit n false) false h = rw (le-leb (suc n) limit (omega arith))
signed_lit (lit n false) true h = rw (le-leb (suc n) limit (omega arith))
signed_lit (lit n true) false h = rw (le-leb (suc n) limit (omega arith))
signed_lit (lit n true) true h = rw (le-leb (suc n) limit (omega arith))
