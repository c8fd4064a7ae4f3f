-- The walk's leaves: declared variables, their numbers and records.
use Rattle.std.specs.Prelude.{◌≡◌, true, false, List, [], ◌∷◌, ℤ, nat_abs, ◌+ℤ◌, get_or, drop, set}
use Rattle.std.proofs.Math.Path.{refl}
use Rattle.std.proofs.Common.{ap, ◌∙◌, arith, length-set, drop-set-lt}
use Prim.Native.Nat.{ℕ, zero, suc, ◌+◌, ◌*◌, ◌≤◌, ◌<◌}
use Rattle.std.proofs.Math.IntN.{pos}
use Rattle.std.proofs.Math.ListN.{length}
use Rattle.std.proofs.Math.Seq.{sets, length-sets}
use Rattle.laws.specs.Ints.{is_zero}
use Rattle.memory.specs.Places.{bool_map, int_map}
use Rattle.memory.specs.Number.{nat}
use Rattle.syntax.specs.Syntax.{domain_of}
use Rattle.syntax.specs.Words.{max_bools, max_ints}
use Rattle.walk.specs.Item.{bump, bool_at, int_entry}
use Rattle.walk.proofs.NumberingSteps.{part_set}
use Rattle.walks.specs.Meet.{State, range_record, meet_bool, new_int, meet_int_var}
use Rattle.declared.specs.DomainTable.{word_at}
use Rattle.numbering.specs.Declares.{upper, declares_kept}
use Rattle.numbering.specs.Task.{state_of, Task, Low, Ready, Kept, kept_same, Done}
use Rattle.numbering.specs.declared.Progress.{Progress}

abbrev pub bool_task : ℕ → Task
bool_task v = record { fits = λ ds st. Unit {0}; meet = λ ds st. meet_bool v st }

abbrev pub int_var_task : ℕ → ℕ → ℕ → Task
int_var_task rec cap v = record { fits = λ ds st. Unit {0}; meet = λ ds st. meet_int_var ds rec cap v st }

-- a store between the words that are read and those behind the cells
pub kept_set : (w out out' : List ℤ) (c d : Progress) (i : ℕ) (x : ℤ) → bool_map ≤ i → i < upper → length out' ≡ length out → Kept (state_of w out c) (state_of (set w i x) out' d)
kept_set w out out' c d i x a b e = record { part = part_set w i x a; behind = drop-set-lt upper w i x b; size = length-set w i x; room = e }

-- the number of values stays a word where another word is set
pub stays_few : (rec cap v : ℕ) (st : State) (w' : List ℤ) (x : ℤ) → Ready (int_var_task rec cap v) st → v < max_ints → w' ≡ set st.work (int_map + v) x → nat_abs (word_at w' v 2) < 2147483647
stays_few rec cap v st w' x r h e = (declares_kept r.domains st.work w' (ap (drop upper) e ∙ drop-set-lt upper st.work (int_map + v) x (omega arith)) r.declares v h).few

module _ (w out : List ℤ) (c : Progress) (low : Low (state_of w out c)) where
  pub bool_old : (v : ℕ) (x : ℤ) → x ≡ bool_at w v → is_zero x ≡ false → Done (bool_task v) (state_of w out c) (state_of w out c)
  unfolding meet_bool
  bool_old v x e z = record { state = λ ds d f. rw (← e, z); kept = kept_same (state_of w out c); low = low }

  pub bool_new : (v : ℕ) (x : ℤ) (w' : List ℤ) (r : Progress) → v < max_bools → x ≡ bool_at w v → is_zero x ≡ true → w' ≡ set w (bool_map + v) (pos (c.bools + 1)) → r ≡ record { bools = bump c.bools 1; ints = c.ints; used = c.used }
      → Done (bool_task v) (state_of w out c) (state_of w' out r)
  unfolding meet_bool
  bool_new v x w' r h e z hw hr = rw (hr, hw) (record {
    state = λ ds d f. rw (← e, z);
    kept = kept_set w out out c _ (bool_map + v) (pos (c.bools + 1)) (omega arith) (omega arith) refl;
    low = record { bools = omega arith; ints = low.ints; used = low.used };
  })

  module _ (rec cap : ℕ) where
    pub int_old : (v x : ℕ) → x ≡ nat (get_or w (int_map + v) (pos 0)) → (x ≡ 0 → ⊥) → Done (int_var_task rec cap v) (state_of w out c) (state_of w out c)
    unfolding meet_int_var int_entry
    int_old v zero e z = absurd (z refl)
    int_old v (suc x) e z = record { state = λ ds d f. rw (← e); kept = kept_same (state_of w out c); low = low }

    -- the record from the table's words
    pub int_new : (v x : ℕ) (w' out' : List ℤ) (r : Progress) → v < max_ints → x ≡ nat (get_or w (int_map + v) (pos 0)) → x ≡ 0 → w' ≡ set w (int_map + v) (pos (c.ints + 1))
        → out' ≡ sets out (rec + 4 * c.ints) (pos 0 ∷ word_at w' v 0 ∷ word_at w' v 1 ∷ (word_at w' v 2 +ℤ pos 1) ∷ []) → r ≡ record { bools = c.bools; ints = bump c.ints 1; used = c.used }
        → Done (int_var_task rec cap v) (state_of w out c) (state_of w' out' r)
    unfolding meet_int_var int_entry new_int
    int_new v x w' out' r h e z hw ho hr =
        let k : Kept (state_of w out c) (state_of w' out' r) = rw hw (kept_set w out out' c r (int_map + v) (pos (c.ints + 1)) (omega arith) (omega arith) (ap length ho ∙ length-sets out (rec + 4 * c.ints) (pos 0 ∷ word_at w' v 0 ∷ word_at w' v 1 ∷ (word_at w' v 2 +ℤ pos 1) ∷ []))) in
        record {
          state = λ ds d f.
              let t = declares_kept ds w w' k.behind d v h in
              let o : out' ≡ sets out (rec + 4 * c.ints) (range_record (domain_of ds v)) = ho ∙ rw (t.lowest, t.highest, t.count) refl in
              rw (← e, z, hr) (rw (o, hw) refl);
          kept = k;
          low = rw hr (record { bools = low.bools; ints = omega arith; used = low.used });
        }
