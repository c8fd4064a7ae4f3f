-- Declared integers met one after another: one that has its number is passed over, and each has its number from then on.
use Rattle.std.specs.Prelude.{◌≡◌, Bool, cond, ℕ, zero, suc, ◌+◌, ◌≤◌, ◌<◌, ℤ, pos, length, set}
use Rattle.std.proofs.Math.Path.{refl, ap}
use Rattle.std.proofs.Common.{sym, ◌∙◌, arith, get_or-set_same, get_or-set_other}
use Rattle.std.proofs.Math.Bool.{true, false}
use mathlib.Core.List.{List, [], ◌∷◌, ◌++◌}
use Rattle.std.proofs.Math.ListN.{length-set}
use Rattle.laws.specs.Bools.{never}
use Rattle.memory.specs.Places.{int_map, limit}
use Rattle.memory.specs.Number.{nat}
use Rattle.syntax.specs.Syntax.{Domain, domain_of}
use Rattle.syntax.specs.Words.{min_work_words, max_ints}
use Rattle.words.specs.Exact.{Each}
use Rattle.walk.specs.Item.{is_none, int_entry}
use Rattle.walks.specs.Item.{has_ifs}
use Rattle.walks.specs.Meet.{State, with_work, range_record, new_int, meet_int_var}
use Rattle.walks.specs.Cells.{word_kept}

-- ---- a number in the map

abbrev pub HasNumber : State → ℕ → Type 0
HasNumber st v = is_none (int_entry st.work v) ≡ false

some_none : (n : ℕ) → 0 < n → is_none n ≡ false
some_none zero h = absurd (omega arith)
some_none (suc n) h = refl

entry_other : (w : List ℤ) (u v : ℕ) (x : ℤ) → (v ≡ u → ⊥) → int_entry (set w (int_map + u) x) v ≡ int_entry w v
unfolding int_entry
entry_other w u v x h = ap nat (get_or-set_other w (int_map + u) (int_map + v) x (pos 0) (λ e. h (omega arith)))

entry_set : (w : List ℤ) (v n : ℕ) → int_map + v < length w → is_none (int_entry (set w (int_map + v) (pos (n + 1))) v) ≡ false
unfolding int_entry nat
entry_set w v n h = rw (get_or-set_same w (int_map + v) (pos (n + 1)) (pos 0) h) (some_none (n + 1) (omega arith))

-- the walk is not full, and the word for Ifs is 0
pub record Unmarked (cap : ℕ) (st : State) : Type 0 where
  pub size : min_work_words ≤ length st.work
  pub bools : st.bools ≤ limit
  pub used : st.used ≤ cap
  pub word : has_ifs st.work ≡ false

module _ (ds : List Domain) (rec cap : ℕ) where
  -- ---- one variable

  abbrev made : ℕ → State → State
  made v st = new_int ds rec cap (range_record (domain_of ds v)) (with_work (set st.work (int_map + v) (pos (st.ints + 1))) st)

  var_stays : (v : ℕ) (st : State) → HasNumber st v → meet_int_var ds rec cap v st ≡ st
  unfolding meet_int_var
  var_stays v st h = rw h refl

  var_met : (v : ℕ) (st : State) → v < max_ints → Unmarked cap st → HasNumber (meet_int_var ds rec cap v st) v
  unfolding meet_int_var new_int
  var_met v st l h = go (is_none (int_entry st.work v)) refl
    where
      go : (b : Bool) → is_none (int_entry st.work v) ≡ b → HasNumber (cond b (made v st) st) v
      go true e = entry_set st.work v st.ints (omega (arith, h.size))
      go false e = e

  var_kept : (u v : ℕ) (st : State) → HasNumber st v → HasNumber (meet_int_var ds rec cap u st) v
  unfolding meet_int_var new_int
  var_kept u v st h = go (is_none (int_entry st.work u)) refl
    where
      go : (b : Bool) → is_none (int_entry st.work u) ≡ b → HasNumber (cond b (made u st) st) v
      go true e = ap is_none (entry_other st.work u v (pos (st.ints + 1)) (λ i. never (sym h ∙ ap (λ (x : ℕ). is_none (int_entry st.work x)) i ∙ e))) ∙ h
      go false e = h

  var_unmarked : (v : ℕ) (st : State) → v < max_ints → Unmarked cap st → Unmarked cap (meet_int_var ds rec cap v st)
  unfolding meet_int_var new_int
  var_unmarked v st l h = go (is_none (int_entry st.work v))
    where
      go : (b : Bool) → Unmarked cap (cond b (made v st) st)
      go true = record { size = omega (arith, h.size, length-set st.work (int_map + v) (pos (st.ints + 1))); bools = h.bools; used = h.used; word = word_kept st.work (int_map + v) (pos (st.ints + 1)) (λ e. omega arith) ∙ h.word }
      go false = h

  -- ---- one after another

  unfoldable pub meet_vars : List ℕ → State → State
  meet_vars [] st = st
  meet_vars (v ∷ vs) st = meet_vars vs (meet_int_var ds rec cap v st)

  pub vars_append : (us vs : List ℕ) (st : State) → meet_vars (us ++ vs) st ≡ meet_vars vs (meet_vars us st)
  unfolding meet_vars
  vars_append [] vs st = refl
  vars_append (u ∷ us) vs st = vars_append us vs (meet_int_var ds rec cap u st)

  pub vars_stay : (vs : List ℕ) (st : State) → Each (HasNumber st) vs → meet_vars vs st ≡ st
  unfolding meet_vars
  vars_stay [] st h = refl
  vars_stay (v ∷ vs) st h = ap (meet_vars vs) (var_stays v st h.0) ∙ vars_stay vs st h.1

  number_kept : (us : List ℕ) (v : ℕ) (st : State) → HasNumber st v → HasNumber (meet_vars us st) v
  unfolding meet_vars
  number_kept [] v st h = h
  number_kept (u ∷ us) v st h = number_kept us v (meet_int_var ds rec cap u st) (var_kept u v st h)

  pub vars_kept : (us vs : List ℕ) (st : State) → Each (HasNumber st) vs → Each (HasNumber (meet_vars us st)) vs
  vars_kept us [] st h = tt
  vars_kept us (v ∷ vs) st h = (number_kept us v st h.0, vars_kept us vs st h.1)

  pub vars_met : (vs : List ℕ) (st : State) → Each (λ v. v < max_ints) vs → Unmarked cap st → Each (HasNumber (meet_vars vs st)) vs
  unfolding meet_vars
  vars_met [] st l h = tt
  vars_met (v ∷ vs) st l h =
      let s = meet_int_var ds rec cap v st in
      (number_kept vs v s (var_met v st l.0 h), vars_met vs s l.1 (var_unmarked v st l.0 h))

  pub vars_unmarked : (vs : List ℕ) (st : State) → Each (λ v. v < max_ints) vs → Unmarked cap st → Unmarked cap (meet_vars vs st)
  unfolding meet_vars
  vars_unmarked [] st l h = h
  vars_unmarked (v ∷ vs) st l h = vars_unmarked vs (meet_int_var ds rec cap v st) l.1 (var_unmarked v st l.0 h)
