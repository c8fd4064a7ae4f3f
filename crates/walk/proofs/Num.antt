-- The state of a log before the first walk: its maps and its count of Boolean numbers. A declared Boolean takes the next number.
use Rattle.std.specs.Prelude.{◌≡◌, refl, Bool, true, false, List, ◌∷◌, ◌≢◌, ℕ, suc, ◌+◌, ◌≤◌, ◌<◌, ℤ, pos, length, set, eqb}
use Rattle.std.proofs.Common.{sym, ap, ◌∙◌, arith, length-set, get_or-set_same, get_or-set_other, eqb→eq, eq-eqb, ne_eqb}
use Rattle.std.proofs.lemmas.Bool.{false≢true}
use Rattle.std.proofs.Math.Option.{Option, none, some}
use Rattle.memory.specs.Places.{bool_map, int_map, limit}
use Rattle.memory.specs.Number.{nat}
use Rattle.syntax.specs.Words.{max_bools, min_work_words, max_ints}
use Rattle.clauses.specs.Log.{declared, bool, Log, next_bool, get_bool_var, get_int_var, bool_var_at}
use Rattle.walk.specs.Item.{bump, int_entry, State, meet_bool, bool_at}
use Rattle.walk.proofs.Grow.{lit_word}
use Rattle.clauses.specs.Clause.{BoolLit, lit}
use Rattle.answer.specs.Answer.{bool_word}

abbrev pub code : Option ℕ → ℕ
code none = 0
code (some n) = suc n

pub record Numbered (st : State) (s : Log) : Type 0 where
  pub map : (v : ℕ) → v < max_bools → bool_at st.work v ≡ bool_word (get_bool_var v s)
  pub map_int : (v : ℕ) → v < max_ints → int_entry st.work v ≡ code (get_int_var v s)
  pub bools : st.bools ≡ next_bool s
  pub low : (v : ℕ) (n : BoolLit) → get_bool_var v s ≡ some n → v < max_bools
  pub size : min_work_words ≤ length st.work

pub word_some : (l : BoolLit) (o : Option BoolLit) → o ≡ some l → bool_word o ≡ lit_word l
word_some (lit n false) o e = rw e
word_some (lit n true) o e = rw e

-- ---- stores

pub bool_other : (w : List ℤ) (p : ℕ) (x : ℤ) (u : ℕ) → (bool_map + u ≡ p → ⊥) → bool_at (set w p x) u ≡ bool_at w u
unfolding bool_at
bool_other w p x u h = get_or-set_other w p (bool_map + u) x (pos 0) h

pub int_other : (w : List ℤ) (p : ℕ) (x : ℤ) (u : ℕ) → (int_map + u ≡ p → ⊥) → int_entry (set w p x) u ≡ int_entry w u
unfolding int_entry
int_other w p x u h = ap nat (get_or-set_other w p (int_map + u) x (pos 0) h)

bool_same : (w : List ℤ) (v n : ℕ) → bool_map + v < length w → bool_at (set w (bool_map + v) (pos n)) v ≡ pos n
unfolding bool_at
bool_same w v n h = get_or-set_same w (bool_map + v) (pos n) (pos 0) h

-- ---- a declared variable

pub bool_num : (v : ℕ) (st : State) (s : Log) (o : Option BoolLit) → get_bool_var v s ≡ o → v < max_bools → Numbered st s → next_bool (bool_var_at o v s).1 ≤ limit → Numbered (meet_bool v st) (bool_var_at o v s).1
unfolding meet_bool get_bool_var get_int_var
bool_num v st s (some (lit n false)) e hv h l = rw (h.map v hv ∙ ap bool_word e, ne_eqb (suc n) 0 (λ q. omega arith)) h
bool_num v st s (some (lit n true)) e hv h l = rw (h.map v hv ∙ ap bool_word e) h
bool_num v st s none e hv h l =
    let b : bump st.bools 1 ≡ suc (next_bool s) = omega (arith, h.bools) in
    let z : bool_at st.work v ≡ pos 0 = h.map v hv ∙ ap bool_word e in
    rw (z, b) (record {
      map = λ u hu. mp u hu (eqb u v) refl;
      map_int = λ u hu. int_other st.work (bool_map + v) _ u (λ q. omega arith) ∙ h.map_int u hu;
      bools = refl;
      low = λ u n q. lw u n (eqb u v) refl q;
      size = rw length-set h.size;
    })
  where
    mp : (u : ℕ) → u < max_bools → (c : Bool) → eqb u v ≡ c → bool_at (set st.work (bool_map + v) (pos (suc (next_bool s)))) u ≡ bool_word (get_bool_var u (bool (declared v) ∷ s))
    mp u hu true q = let p : u ≡ v = eqb→eq u v (rw q tt) in rw q (rw p (bool_same st.work v (suc (next_bool s)) (omega (arith, h.size))))
    mp u hu false q =
        let ne : u ≢ v = λ (p : u ≡ v). false≢true (sym q ∙ eq-eqb u v p) in
        rw q (bool_other st.work (bool_map + v) (pos (suc (next_bool s))) u (λ x. ne (omega arith)) ∙ h.map u hu)

    lw : (u : ℕ) (n : BoolLit) (c : Bool) → eqb u v ≡ c → get_bool_var u (bool (declared v) ∷ s) ≡ some n → u < max_bools
    lw u n true q f = let p : u ≡ v = eqb→eq u v (rw q tt) in omega arith
    lw u n false q f = h.low u n (rw q at f)
