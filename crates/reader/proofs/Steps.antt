-- What one expression's code and level ask to be read after it. Assumes nothing.
use mathlib.Core.Path.{◌≡◌, refl, sym, ap, ◌∙◌}
use mathlib.Core.List.{List}
use Prim.Native.Nat.{ℕ, zero, suc, ◌-◌}
use native.Mathlib.Numerals.{sub-one}
use lib.IntN.{ℤ}
use mir.Syntax.{w32}
use mir.Val.{SFits, of_z}
use Rattle.laws.specs.Signed.{value_is}
use Rattle.words.specs.Parse.{Parsed, ok, refuse, Parser, parse_then, seq_parser, word, up_to, count, index, number}
use Rattle.read.specs.Read.{kind_int, kind_bool, too_deep_int, too_deep_bool, step_int, step_bool, read_int, read_bool, read_terms}
use Rattle.reader.specs.Position.{passed, list_of, pair_of, comparison_of, if_of}
use Rattle.reader.proofs.Codes.{int_unknown, bool_unknown}
use Rattle.reader.proofs.Laws.{pass_made}

-- ---- the level

module _ (nb ni left : ℕ) (xs : List ℤ) where
  pub int_end : (k : ℕ) → refuse k ≡ word xs → refuse k ≡ passed (read_int nb ni left xs)
  unfolding read_int
  int_end k h = go left
    where
      go : (n : ℕ) → refuse k ≡ passed (read_int nb ni n xs)
      go zero = rw (← h) refl
      go (suc n) = rw (← h) refl

  pub bool_end : (k : ℕ) → refuse k ≡ word xs → refuse k ≡ passed (read_bool nb ni left xs)
  unfolding read_bool
  bool_end k h = go left
    where
      go : (n : ℕ) → refuse k ≡ passed (read_bool nb ni n xs)
      go zero = rw (← h) refl
      go (suc n) = rw (← h) refl

  module _ (w : ℤ) (r : List ℤ) (h : ok w r ≡ word xs) where
    pub int_deep : left ≡ 0 → refuse (too_deep_int (kind_int w)) ≡ passed (read_int nb ni left xs)
    unfolding read_int
    int_deep e = rw (e, ← h) refl

    pub bool_deep : left ≡ 0 → refuse (too_deep_bool (kind_bool w)) ≡ passed (read_bool nb ni left xs)
    unfolding read_bool
    bool_deep e = rw (e, ← h) refl

    pub int_step : (left ≡ 0 → ⊥) → passed (step_int nb ni (read_bool nb ni (left - 1)) (read_int nb ni (left - 1)) (kind_int w) r) ≡ passed (read_int nb ni left xs)
    unfolding read_int
    int_step z = go left z
      where
        go : (n : ℕ) → (n ≡ 0 → ⊥) → passed (step_int nb ni (read_bool nb ni (n - 1)) (read_int nb ni (n - 1)) (kind_int w) r) ≡ passed (read_int nb ni n xs)
        go zero z = absurd (z refl)
        go (suc n) z = rw (sub-one, ← h) refl

    pub bool_step : (left ≡ 0 → ⊥) → passed (step_bool nb ni (read_bool nb ni (left - 1)) (read_int nb ni (left - 1)) (kind_bool w) r) ≡ passed (read_bool nb ni left xs)
    unfolding read_bool
    bool_step z = go left z
      where
        go : (n : ℕ) → (n ≡ 0 → ⊥) → passed (step_bool nb ni (read_bool nb ni (n - 1)) (read_int nb ni (n - 1)) (kind_bool w) r) ≡ passed (read_bool nb ni n xs)
        go zero z = absurd (z refl)
        go (suc n) z = rw (sub-one, ← h) refl

-- ---- the code

seq_same : {A B C D : Type 0} (f : A → B → C) (g : A → B → D) (p : Parser A) (q : A → Parser B) (r : List ℤ) → passed (seq_parser f p q r) ≡ passed (seq_parser g p q r)
seq_same {A} {B} f g p q r = go (p r)
  where
    go : (x : Parsed A) → passed (parse_then x (λ a s. parse_then (q a s) (λ b t. ok (f a b) t))) ≡ passed (parse_then x (λ a s. parse_then (q a s) (λ b t. ok (g a b) t)))
    go (ok a s) = sym (pass_made (f a) (q a s)) ∙ pass_made (g a) (q a s)
    go (refuse k) = refl

counted_same : {A B : Type 0} (f : A → B) (p : ℕ → Parser A) (x : Parsed ℕ) → passed (parse_then x p) ≡ passed (parse_then x (λ n r. parse_then (p n r) (λ a s. ok (f a) s)))
counted_same f p (ok n r) = pass_made f (p n r)
counted_same f p (refuse k) = refl

-- a word that fits an i32 is the number that its bits are
module _ (nb ni left : ℕ) (xs : List ℤ) (w : ℤ) (r : List ℤ) (h : ok w r ≡ word xs) (z : left ≡ 0 → ⊥) (f : SFits w32 w) where
  pub int_const : of_z w32 w ≡ 20 → passed (number r) ≡ passed (read_int nb ni left xs)
  unfolding step_int kind_int
  int_const e = rw (value_is f e) (pass_made _ (number r)) ∙ int_step nb ni left xs w r h z

  int_var : of_z w32 w ≡ 21 → passed (index ni r) ≡ passed (read_int nb ni left xs)
  unfolding step_int kind_int
  int_var e = rw (value_is f e) (pass_made _ (index ni r)) ∙ int_step nb ni left xs w r h z

  pub int_var_ok : (i : ℕ) (s : List ℤ) → of_z w32 w ≡ 21 → ok i s ≡ index ni r → ok tt s ≡ passed (read_int nb ni left xs)
  int_var_ok i s e g = ap passed g ∙ int_var e

  pub int_var_stop : (k : ℕ) → of_z w32 w ≡ 21 → refuse k ≡ index ni r → refuse k ≡ passed (read_int nb ni left xs)
  int_var_stop k e g = ap passed g ∙ int_var e

  int_sum : of_z w32 w ≡ 22 → passed (parse_then (up_to 4096 4 r) (read_terms (read_int nb ni (left - 1)))) ≡ passed (read_int nb ni left xs)
  unfolding step_int kind_int count
  int_sum e = rw (value_is f e) (counted_same _ (read_terms (read_int nb ni (left - 1))) (count r)) ∙ int_step nb ni left xs w r h z

  pub int_sum_terms : (n : ℕ) (s : List ℤ) → of_z w32 w ≡ 22 → ok n s ≡ up_to 4096 4 r → passed (read_terms (read_int nb ni (left - 1)) n s) ≡ passed (read_int nb ni left xs)
  int_sum_terms n s e g = rw (← int_sum e, ← g) refl

  pub int_sum_stop : (k : ℕ) → of_z w32 w ≡ 22 → refuse k ≡ up_to 4096 4 r → refuse k ≡ passed (read_int nb ni left xs)
  int_sum_stop k e g = rw (← int_sum e, ← g) refl

  pub int_if : of_z w32 w ≡ 23 → passed (if_of (read_bool nb ni (left - 1)) (read_int nb ni (left - 1)) r) ≡ passed (read_int nb ni left xs)
  unfolding step_int kind_int if_of
  int_if e = rw (value_is f e) refl ∙ int_step nb ni left xs w r h z

  pub bool_const : of_z w32 w ≡ 10 → passed (up_to 1 4 r) ≡ passed (read_bool nb ni left xs)
  unfolding step_bool kind_bool
  bool_const e = rw (value_is f e) (pass_made _ (up_to 1 4 r)) ∙ bool_step nb ni left xs w r h z

  bool_var : of_z w32 w ≡ 11 → passed (index nb r) ≡ passed (read_bool nb ni left xs)
  unfolding step_bool kind_bool
  bool_var e = rw (value_is f e) (pass_made _ (index nb r)) ∙ bool_step nb ni left xs w r h z

  pub bool_var_ok : (i : ℕ) (s : List ℤ) → of_z w32 w ≡ 11 → ok i s ≡ index nb r → ok tt s ≡ passed (read_bool nb ni left xs)
  bool_var_ok i s e g = ap passed g ∙ bool_var e

  pub bool_var_stop : (k : ℕ) → of_z w32 w ≡ 11 → refuse k ≡ index nb r → refuse k ≡ passed (read_bool nb ni left xs)
  bool_var_stop k e g = ap passed g ∙ bool_var e

  pub bool_and : of_z w32 w ≡ 12 → passed (list_of (read_bool nb ni (left - 1)) r) ≡ passed (read_bool nb ni left xs)
  unfolding step_bool kind_bool list_of
  bool_and e = rw (value_is f e) (counted_same _ _ (count r)) ∙ bool_step nb ni left xs w r h z

  pub bool_or : of_z w32 w ≡ 13 → passed (list_of (read_bool nb ni (left - 1)) r) ≡ passed (read_bool nb ni left xs)
  unfolding step_bool kind_bool list_of
  bool_or e = rw (value_is f e) (counted_same _ _ (count r)) ∙ bool_step nb ni left xs w r h z

  pub bool_not : of_z w32 w ≡ 14 → passed (read_bool nb ni (left - 1) r) ≡ passed (read_bool nb ni left xs)
  unfolding step_bool kind_bool
  bool_not e = rw (value_is f e) (pass_made _ (read_bool nb ni (left - 1) r)) ∙ bool_step nb ni left xs w r h z

  pub bool_xor : of_z w32 w ≡ 15 → passed (pair_of (read_bool nb ni (left - 1)) r) ≡ passed (read_bool nb ni left xs)
  unfolding step_bool kind_bool pair_of
  bool_xor e = rw (value_is f e) (seq_same _ _ (read_bool nb ni (left - 1)) (λ a. read_bool nb ni (left - 1)) r) ∙ bool_step nb ni left xs w r h z

  pub bool_iff : of_z w32 w ≡ 16 → passed (pair_of (read_bool nb ni (left - 1)) r) ≡ passed (read_bool nb ni left xs)
  unfolding step_bool kind_bool pair_of
  bool_iff e = rw (value_is f e) (seq_same _ _ (read_bool nb ni (left - 1)) (λ a. read_bool nb ni (left - 1)) r) ∙ bool_step nb ni left xs w r h z

  pub bool_imp : of_z w32 w ≡ 17 → passed (pair_of (read_bool nb ni (left - 1)) r) ≡ passed (read_bool nb ni left xs)
  unfolding step_bool kind_bool pair_of
  bool_imp e = rw (value_is f e) (seq_same _ _ (read_bool nb ni (left - 1)) (λ a. read_bool nb ni (left - 1)) r) ∙ bool_step nb ni left xs w r h z

  pub bool_comparison : of_z w32 w ≡ 18 → passed (comparison_of (read_int nb ni (left - 1)) r) ≡ passed (read_bool nb ni left xs)
  unfolding step_bool kind_bool comparison_of
  bool_comparison e = rw (value_is f e) refl ∙ bool_step nb ni left xs w r h z

module _ (nb ni left : ℕ) (xs : List ℤ) (w : ℤ) (r : List ℤ) (h : ok w r ≡ word xs) (z : left ≡ 0 → ⊥) where
  pub int_none : (of_z w32 w ≡ 20 → ⊥) → (of_z w32 w ≡ 21 → ⊥) → (of_z w32 w ≡ 22 → ⊥) → (of_z w32 w ≡ 23 → ⊥) → refuse 5 ≡ passed (read_int nb ni left xs)
  unfolding step_int
  int_none a b c d = rw (int_unknown w a b c d) refl ∙ int_step nb ni left xs w r h z

  pub bool_none : (of_z w32 w ≡ 10 → ⊥) → (of_z w32 w ≡ 11 → ⊥) → (of_z w32 w ≡ 12 → ⊥) → (of_z w32 w ≡ 13 → ⊥) → (of_z w32 w ≡ 14 → ⊥)
      → (of_z w32 w ≡ 15 → ⊥) → (of_z w32 w ≡ 16 → ⊥) → (of_z w32 w ≡ 17 → ⊥) → (of_z w32 w ≡ 18 → ⊥) → refuse 5 ≡ passed (read_bool nb ni left xs)
  unfolding step_bool
  bool_none a b c d e g i j k = rw (bool_unknown w a b c d e g i j k) refl ∙ bool_step nb ni left xs w r h z

-- ---- for the checks (src/, `tactic`)

pub ruleset int_steps = (int_end, int_deep, int_const, int_var_ok, int_var_stop, int_sum_terms, int_sum_stop, int_if, int_none)

pub ruleset bool_steps = (bool_end, bool_deep, bool_const, bool_var_ok, bool_var_stop, bool_and, bool_or, bool_not, bool_xor, bool_iff, bool_imp, bool_comparison, bool_none)
