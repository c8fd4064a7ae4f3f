-- The state of the first walk is that of a log: maps, counters, records, Ifs' cells; and there is room for the numbers to come (`budget`).
-- Steps that make no If: declared variables, numbers of disjunctions, clauses.
use Rattle.std.specs.Prelude.{◌≡◌, Bool, ◌≢◌, length}
use Rattle.std.proofs.Math.Path.{refl, sym, ap}
use Rattle.std.proofs.Common.{◌∙◌, arith, add-one, length-append}
use Rattle.std.proofs.Math.Bool.{true, false, cond}
use Rattle.std.proofs.Math.Option.{Option, none, some}
use mathlib.Core.List.{List, [], ◌∷◌, ◌++◌, append-nil, map, map-append}
use Prim.Native.Nat.{ℕ, zero, suc, ◌+◌, ◌-◌, ◌*◌, ◌≤◌, ◌<◌}
use Rattle.std.proofs.Math.IntN.{ℤ, pos}
use Rattle.std.proofs.Math.ListN.{get_or, set, length-set}
use Rattle.std.proofs.Math.Seq.{sets, get_or-set_same, get_or-set_other, take-set-le}
use Rattle.std.proofs.Math.Dec.{eqb}
use borrow.Author.Tests.{ne_eqb, eqb-true, eqb-false}
use Rattle.laws.specs.Ints.{is_zero}
use Rattle.laws.specs.Lists.{flat, flat_append}
use Rattle.laws.specs.Writes.{sets_append}
use Rattle.memory.specs.Places.{folded, folded_end, bool_map, int_map, maps_end, cells, limit}
use Rattle.memory.specs.Number.{nat}
use Rattle.syntax.specs.Syntax.{Domain, domain_of, IntExpr}
use Rattle.syntax.specs.Words.{max_bools, min_work_words, max_ints}
use Rattle.clauses.specs.Clause.{BoolLit, lit, Clause}
use Rattle.clauses.specs.Log.{MadeBool, MadeInt, declared_int, column, chosen, binary, declared, bool, merged, int, added, defined, known, Log, next_bool, next_int, get_bool_var, get_int_var, get_if, is_declared_int, made_ints, bool_var_at, int_var_at, convert_bool_var, convert_int_var}
use Rattle.clauses.proofs.Since.{OnTop, here, over}
use Rattle.answer.specs.Answer.{bool_word}
use Rattle.walk.specs.Item.{bump, is_none, bool_at, int_entry}
use Rattle.walk.specs.Decode.{read_part}
use Rattle.walk.proofs.Grow.{lit_word}
use Rattle.walk.proofs.Num.{code}
use Rattle.walks.specs.Item.{has_ifs, cell}
use Rattle.walks.specs.Meet.{State, with_work, more_bools, spend, meet_bool, range_record, new_int, meet_int_var}
use Rattle.walks.specs.Cells.{word_kept, Cells, Below, Places, cells_kept}

ne_less : (v k : ℕ) → v < suc k → (v ≡ k → ⊥) → v < k
ne_less v k l n = omega arith

-- ---- words without a number among so many

unfoldable pub blanks : (ℤ → Bool) → List ℤ → ℕ → ℕ → ℕ
blanks f w at zero = 0
blanks f w at (suc k) = cond (f (get_or w (at + k) (pos 0))) 1 0 + blanks f w at k

module _ (f : ℤ → Bool) (w : List ℤ) (at : ℕ) where
  pub blanks_other : (p : ℕ) (x : ℤ) (k : ℕ) → ((v : ℕ) → v < k → at + v ≡ p → ⊥) → blanks f (set w p x) at k ≡ blanks f w at k
  unfolding blanks
  blanks_other p x zero h = refl
  blanks_other p x (suc k) h = rw (get_or-set_other w p (at + k) x (pos 0) (h k (omega arith)), blanks_other p x k (λ v l. h v (omega arith))) refl

  pub blanks_same : (w' : List ℤ) (k : ℕ) → ((v : ℕ) → v < k → get_or w' (at + v) (pos 0) ≡ get_or w (at + v) (pos 0)) → blanks f w' at k ≡ blanks f w at k
  unfolding blanks
  blanks_same w' zero h = refl
  blanks_same w' (suc k) h = rw (h k (omega arith), blanks_same w' k (λ v l. h v (omega arith))) refl

  -- one less
  pub blanks_set : (v : ℕ) (x : ℤ) (k : ℕ) → v < k → at + k ≤ length w → f (get_or w (at + v) (pos 0)) ≡ true → f x ≡ false → suc (blanks f (set w (at + v) x) at k) ≡ blanks f w at k
  unfolding blanks
  blanks_set v x zero l r g h = absurd (omega arith)
  blanks_set v x (suc k) l r g h = go (λ m. blanks_set v x k m (omega arith) g h) (eqb v k) refl
    where
      go : (v < k → suc (blanks f (set w (at + v) x) at k) ≡ blanks f w at k) → (b : Bool) → eqb v k ≡ b → suc (cond (f (get_or (set w (at + v) x) (at + k) (pos 0))) 1 0 + blanks f (set w (at + v) x) at k) ≡ cond (f (get_or w (at + k) (pos 0))) 1 0 + blanks f w at k
      go i true e =
          let j : v ≡ k = eqb-true v k e in
          let y : get_or (set w (at + v) x) (at + k) (pos 0) ≡ x = ap (λ n. get_or (set w (at + v) x) (at + n) (pos 0)) (sym j) ∙ get_or-set_same w (at + v) x (pos 0) (omega arith) in
          let z : f (get_or w (at + k) (pos 0)) ≡ true = ap (λ n. f (get_or w (at + n) (pos 0))) (sym j) ∙ g in
          rw (y, h, z, blanks_other (at + v) x k (λ u m q. omega arith)) (omega arith)
      go i false e =
          let n : k ≢ v = λ q. eqb-false v k e (sym q) in
          rw (get_or-set_other w (at + v) (at + k) x (pos 0) (λ q. n (omega arith))) (omega (arith, i (ne_less v k l (eqb-false v k e))))

-- no number in a word of the Boolean map, of the integer map
abbrev pub no_int : ℤ → Bool
no_int x = is_none (nat x)

-- ---- records

abbrev pub made_record : List Domain → MadeInt → List ℤ
made_record ds (declared_int v) = range_record (domain_of ds v)
made_record ds (column l d) = range_record d
made_record ds (chosen i e l m d) = range_record d
made_record ds (binary i l a b) = pos 1 ∷ lit_word l ∷ a ∷ b ∷ []

unfoldable pub records_of : List Domain → Log → List ℤ
records_of ds s = flat (map (made_record ds) (made_ints s))

four : (ds : List Domain) (m : MadeInt) → length (made_record ds m) ≡ 4
four ds (declared_int v) = refl
four ds (column l d) = refl
four ds (chosen i e l m d) = refl
four ds (binary i l a b) = refl

pub records_more : (ds : List Domain) (m : MadeInt) (s : Log) → records_of ds (int m ∷ s) ≡ records_of ds s ++ made_record ds m
unfolding records_of made_ints
records_more ds m s = ap flat (map-append (made_record ds) (made_ints s) (m ∷ [])) ∙ flat_append (map (made_record ds) (made_ints s)) (made_record ds m ∷ []) ∙ ap (λ (x : List ℤ). records_of ds s ++ x) (append-nil (made_record ds m))

pub records_length : (ds : List Domain) (s : Log) → length (records_of ds s) ≡ 4 * next_int s
unfolding records_of made_ints
records_length ds [] = refl
records_length ds (bool m ∷ s) = records_length ds s
records_length ds (merged v w g ∷ s) = records_length ds s
records_length ds (int m ∷ s) = ap length (records_more ds m s) ∙ length-append (records_of ds s) (made_record ds m) ∙ omega (arith, records_length ds s, four ds m)
records_length ds (added cs ∷ s) = records_length ds s
records_length ds (defined cs ∷ s) = records_length ds s
records_length ds (known e v ∷ s) = records_length ds s

-- ---- the state of a log

-- a log with k Booleans more that are no variables', and clauses; Named: what the numbers of a log belong to
module _ (Named : Log → Type 0) where
  pub record Quiet (s t : Log) (k : ℕ) : Type 0 where
    pub bools : next_bool t ≡ next_bool s + k
    pub ints : next_int t ≡ next_int s
    pub keep : (v : ℕ) → get_bool_var v t ≡ get_bool_var v s
    pub keep_int : (v : ℕ) → get_int_var v t ≡ get_int_var v s
    pub ifs : (e : IntExpr) → get_if e t ≡ get_if e s
    pub made : made_ints t ≡ made_ints s
    pub top : OnTop s t
    pub named : Named s → Named t

-- what is known of names
pub record Names (Named : Log → Type 0) : Type 0 where
  pub bool_named : (m : MadeBool) (s : Log) → Named s → Named (bool m ∷ s)
  pub int_named : (v : ℕ) (s : Log) → get_int_var v s ≡ none → Named s → Named (int (declared_int v) ∷ s)
  pub added_named : (cs : List Clause) (s : Log) → Named s → Named (added cs ∷ s)
  pub defined_named : (cs : List Clause) (s : Log) → Named s → Named (defined cs ∷ s)
  pub other_named : (m : MadeInt) → ((v : ℕ) → is_declared_int v m ≡ false) → (s : Log) → Named s → Named (int m ∷ s)

-- rec: where the records begin; cap: the longest answer; with-ifs: whether the folded statements have Ifs; before: the output before the walk
module _ (ds : List Domain) (F : List ℤ) (Plain : IntExpr → Type 0) (parted : ℕ → Bool) (K : ℕ → Option IntExpr) (fixed : IntExpr → Bool) (rec cap : ℕ) (with_ifs : Bool) (before : List ℤ) (Named : Log → Type 0) where
  pub record Good (budget : ℕ) (st : State) (s : Log) : Type 0 where
    pub map : (v : ℕ) → v < max_bools → bool_at st.work v ≡ bool_word (get_bool_var v s)
    pub map_int : (v : ℕ) → v < max_ints → int_entry st.work v ≡ code (get_int_var v s)
    pub bools : st.bools ≡ next_bool s
    pub ints : st.ints ≡ next_int s
    pub low : (v : ℕ) (l : BoolLit) → get_bool_var v s ≡ some l → v < max_bools
    pub low_int : (v n : ℕ) → get_int_var v s ≡ some n → v < max_ints
    pub size : min_work_words ≤ length st.work
    pub words : read_part st.work ≡ F
    pub word : has_ifs st.work ≡ with_ifs
    pub records : st.out ≡ sets before rec (records_of ds s)
    pub cells : Cells ds F Plain parted K fixed st.work s
    pub below : Below ds F Plain parted K fixed s
    pub opens : (e : IntExpr) (v : ℕ) → get_if e s ≡ some v → fixed e ≡ false
    pub named : Named s
    pub used : st.used ≤ cap
    pub room : st.bools + st.ints + blanks is_zero st.work bool_map max_bools + blanks no_int st.work int_map max_ints + 4 * (cap - st.used) + budget ≤ limit

  pub good_less : (n m : ℕ) (st : State) (s : Log) → m ≤ n → Good n st s → Good m st s
  good_less n m st s l g = record {
    map = g.map;
    map_int = g.map_int;
    bools = g.bools;
    ints = g.ints;
    low = g.low;
    low_int = g.low_int;
    size = g.size;
    words = g.words;
    word = g.word;
    records = g.records;
    cells = g.cells;
    below = g.below;
    opens = g.opens;
    named = g.named;
    used = g.used;
    room = omega (arith, g.room);
  }

  -- ---- numbers of disjunctions, and clauses

  pub good_quiet : (P : Places ds F Plain parted K fixed) (k n : ℕ) (st : State) (s t : Log) → Quiet Named s t k → Good (k + n) st s → Good n (more_bools k st) t
  unfolding records_of
  good_quiet P k n st s t q g =
      let b : bump st.bools k ≡ st.bools + k = omega (arith, g.room) in
      record {
        map = λ v h. g.map v h ∙ ap bool_word (sym (q.keep v));
        map_int = λ v h. g.map_int v h ∙ ap code (sym (q.keep_int v));
        bools = b ∙ omega (arith, g.bools, q.bools);
        ints = g.ints ∙ sym q.ints;
        low = λ v l h. g.low v l (sym (q.keep v) ∙ h);
        low_int = λ v m h. g.low_int v m (sym (q.keep_int v) ∙ h);
        size = g.size;
        words = g.words;
        word = g.word;
        records = g.records ∙ ap (λ x. sets before rec (flat (map (made_record ds) x))) (sym q.made);
        cells = cells_kept ds F Plain parted K fixed st.work st.work s t (λ p l. refl) q.ifs q.top g.below P g.cells;
        below = λ e v h. omega (arith, g.below e v (sym (q.ifs e) ∙ h), q.ints);
        opens = λ e v h. g.opens e v (sym (q.ifs e) ∙ h);
        named = q.named g.named;
        used = g.used;
        room = rw b (omega (arith, g.room));
      }

  -- ---- declared variables; N: names are kept, P: the places of Ifs

  module _ (N : Names Named) (P : Places ds F Plain parted K fixed) where
    -- a store below the cells
    keeps_cells : (w : List ℤ) (p : ℕ) (x : ℤ) → p < maps_end → (q : ℕ) → folded < q → cell (set w p x) q ≡ cell w q
    unfolding cell
    keeps_cells w p x h q l = get_or-set_other w p (cells + q) x (pos 0) (λ e. omega arith)

    keeps_words : (w : List ℤ) (p : ℕ) (x : ℤ) → folded_end ≤ p → read_part (set w p x) ≡ read_part w
    unfolding read_part
    keeps_words w p x h = take-set-le folded_end w p x h

    bool_other : (w : List ℤ) (p : ℕ) (x : ℤ) (u : ℕ) → (bool_map + u ≡ p → ⊥) → bool_at (set w p x) u ≡ bool_at w u
    unfolding bool_at
    bool_other w p x u h = get_or-set_other w p (bool_map + u) x (pos 0) h

    int_other : (w : List ℤ) (p : ℕ) (x : ℤ) (u : ℕ) → (int_map + u ≡ p → ⊥) → int_entry (set w p x) u ≡ int_entry w u
    unfolding int_entry
    int_other w p x u h = ap nat (get_or-set_other w p (int_map + u) x (pos 0) h)

    -- a variable with a literal is passed over
    old_bool : (v : ℕ) (st : State) (s : Log) (n : ℕ) (g : Good n st s) (l : BoolLit) → v < max_bools → get_bool_var v s ≡ some l → is_zero (bool_at st.work v) ≡ false
    old_bool v st s n g (lit k false) h e = rw (g.map v h ∙ ap bool_word e) (ne_eqb (suc k) 0 (λ q. omega arith))
    old_bool v st s n g (lit k true) h e = rw (g.map v h ∙ ap bool_word e) refl

    new_bool : (v : ℕ) → v < max_bools → (n : ℕ) (st : State) (s : Log) → get_bool_var v s ≡ none → bool_at st.work v ≡ pos 0 → Good n st s → Good n (more_bools 1 (with_work (set st.work (bool_map + v) (pos (st.bools + 1))) st)) (bool (declared v) ∷ s)
    unfolding get_bool_var get_int_var get_if bool_at records_of made_ints
    new_bool v h n st s e z g =
        let w = set st.work (bool_map + v) (pos (st.bools + 1)) in
        let k : suc (blanks is_zero w bool_map max_bools) ≡ blanks is_zero st.work bool_map max_bools = blanks_set is_zero st.work bool_map v (pos (st.bools + 1)) max_bools h (omega (arith, g.size)) (rw z refl) (ne_eqb (st.bools + 1) 0 (λ q. omega arith)) in
        let j : blanks no_int w int_map max_ints ≡ blanks no_int st.work int_map max_ints = blanks_other no_int st.work int_map (bool_map + v) (pos (st.bools + 1)) max_ints (λ u m q. omega arith) in
        let b : bump st.bools 1 ≡ suc st.bools = omega (arith, g.room, k) in
        record {
          map = λ u l. mp u l (eqb u v) refl;
          map_int = λ u l. int_other st.work (bool_map + v) (pos (st.bools + 1)) u (λ q. omega arith) ∙ g.map_int u l;
          bools = b ∙ ap suc g.bools;
          ints = g.ints;
          low = λ u l q. lw u l (eqb u v) refl q;
          low_int = λ u m q. g.low_int u m q;
          size = rw length-set g.size;
          words = keeps_words st.work (bool_map + v) (pos (st.bools + 1)) (omega arith) ∙ g.words;
          word = word_kept st.work (bool_map + v) (pos (st.bools + 1)) (λ e. omega arith) ∙ g.word;
          records = g.records;
          cells = cells_kept ds F Plain parted K fixed st.work w s (bool (declared v) ∷ s) (λ p l. keeps_cells st.work (bool_map + v) (pos (st.bools + 1)) (omega arith) p l) (λ d. refl) (over (bool (declared v)) here) g.below P g.cells;
          below = λ d u q. g.below d u q;
          opens = λ d u q. g.opens d u q;
          named = N.bool_named (declared v) s g.named;
          used = g.used;
          room = rw b (omega (arith, g.room, k, j));
        }
      where
        mp : (u : ℕ) → u < max_bools → (c : Bool) → eqb u v ≡ c → bool_at (set st.work (bool_map + v) (pos (st.bools + 1))) u ≡ bool_word (get_bool_var u (bool (declared v) ∷ s))
        mp u l true q = let p : u ≡ v = eqb-true u v q in rw q (ap (λ x. get_or (set st.work (bool_map + v) (pos (st.bools + 1))) (bool_map + x) (pos 0)) p ∙ get_or-set_same st.work (bool_map + v) (pos (st.bools + 1)) (pos 0) (omega (arith, g.size)) ∙ ap pos (omega (arith, g.bools)))
        mp u l false q = rw q (bool_other st.work (bool_map + v) (pos (st.bools + 1)) u (λ x. eqb-false u v q (omega arith)) ∙ g.map u l)

        lw : (u : ℕ) (l : BoolLit) (c : Bool) → eqb u v ≡ c → get_bool_var u (bool (declared v) ∷ s) ≡ some l → u < max_bools
        lw u l true q f = let p : u ≡ v = eqb-true u v q in omega arith
        lw u l false q f = g.low u l (rw q at f)

    bool_good : (v : ℕ) → v < max_bools → (n : ℕ) (st : State) (s : Log) (o : Option BoolLit) → get_bool_var v s ≡ o → Good n st s → Good n (meet_bool v st) (bool_var_at o v s).1
    unfolding meet_bool
    bool_good v h n st s (some l) e g = rw (old_bool v st s n g l h e) g
    bool_good v h n st s none e g =
        let z : bool_at st.work v ≡ pos 0 = g.map v h ∙ ap bool_word e in
        rw z (new_bool v h n st s e z g)

    pub good_bool : (v : ℕ) → v < max_bools → (n : ℕ) (st : State) (s : Log) → Good n st s → Good n (meet_bool v st) (convert_bool_var v s).1
    unfolding convert_bool_var
    good_bool v h n st s g = bool_good v h n st s (get_bool_var v s) refl g

    -- ---- integers

    -- the records of one integer more
    records_new : (m : MadeInt) (st : State) (s : Log) → st.out ≡ sets before rec (records_of ds s) → st.ints ≡ next_int s → sets st.out (rec + 4 * st.ints) (made_record ds m) ≡ sets before rec (records_of ds (int m ∷ s))
    records_new m st s e i =
        let l : rec + 4 * st.ints ≡ rec + length (records_of ds s) = omega (arith, records_length ds s) in
        ap (λ (x : List ℤ). sets x (rec + 4 * st.ints) (made_record ds m)) e
        ∙ ap (λ k. sets (sets before rec (records_of ds s)) k (made_record ds m)) l
        ∙ sym (sets_append before rec (records_of ds s) (made_record ds m))
        ∙ ap (sets before rec) (sym (records_more ds m s))

    new_declared : (v : ℕ) → v < max_ints → (n : ℕ) (st : State) (s : Log) → get_int_var v s ≡ none → int_entry st.work v ≡ 0 → Good n st s
        → Good n (new_int ds rec cap (range_record (domain_of ds v)) (with_work (set st.work (int_map + v) (pos (st.ints + 1))) st)) (int (declared_int v) ∷ s)
    unfolding get_bool_var get_int_var get_if new_int int_entry
    new_declared v h n st s e z g =
        let x : ℤ = pos (st.ints + 1) in
        let w = set st.work (int_map + v) x in
        let k : suc (blanks no_int w int_map max_ints) ≡ blanks no_int st.work int_map max_ints = blanks_set no_int st.work int_map v x max_ints h (omega (arith, g.size)) (rw z refl) (unfold nat in none_suc st.ints) in
        let j : blanks is_zero w bool_map max_bools ≡ blanks is_zero st.work bool_map max_bools = blanks_other is_zero st.work bool_map (int_map + v) x max_bools (λ u m q. omega arith) in
        let b : bump st.ints 1 ≡ suc st.ints = omega (arith, g.room, k) in
        record {
          map = λ u l. bool_other st.work (int_map + v) x u (λ q. omega arith) ∙ g.map u l;
          map_int = λ u l. mp u l (eqb u v) refl;
          bools = g.bools;
          ints = b ∙ ap suc g.ints;
          low = λ u l q. g.low u l q;
          low_int = λ u m q. lw u m (eqb u v) refl q;
          size = rw length-set g.size;
          words = keeps_words st.work (int_map + v) x (omega arith) ∙ g.words;
          word = word_kept st.work (int_map + v) x (λ e. omega arith) ∙ g.word;
          records = records_new (declared_int v) st s g.records g.ints;
          cells = cells_kept ds F Plain parted K fixed st.work w s (int (declared_int v) ∷ s) (λ p l. keeps_cells st.work (int_map + v) x (omega arith) p l) (λ d. refl) (over (int (declared_int v)) here) g.below P g.cells;
          below = λ d u q. omega (arith, g.below d u q);
          opens = λ d u q. g.opens d u q;
          named = N.int_named v s e g.named;
          used = g.used;
          room = rw b (omega (arith, g.room, k, j));
        }
      where
        none_suc : (n : ℕ) → is_none (n + 1) ≡ false
        none_suc n = ap is_none (add-one n)

        mp : (u : ℕ) → u < max_ints → (c : Bool) → eqb u v ≡ c → int_entry (set st.work (int_map + v) (pos (st.ints + 1))) u ≡ code (get_int_var u (int (declared_int v) ∷ s))
        mp u l true q =
            let p : u ≡ v = eqb-true u v q in
            rw q (ap (λ x. nat (get_or (set st.work (int_map + v) (pos (st.ints + 1))) (int_map + x) (pos 0))) p ∙ ap nat (get_or-set_same st.work (int_map + v) (pos (st.ints + 1)) (pos 0) (omega (arith, g.size))) ∙ (unfold nat in omega (arith, g.ints)))
        mp u l false q = rw q (int_other st.work (int_map + v) (pos (st.ints + 1)) u (λ x. eqb-false u v q (omega arith)) ∙ g.map_int u l)

        lw : (u m : ℕ) (c : Bool) → eqb u v ≡ c → get_int_var u (int (declared_int v) ∷ s) ≡ some m → u < max_ints
        lw u m true q f = let p : u ≡ v = eqb-true u v q in omega arith
        lw u m false q f = g.low_int u m (rw q at f)

    int_good : (v : ℕ) → v < max_ints → (n : ℕ) (st : State) (s : Log) (o : Option ℕ) → get_int_var v s ≡ o → Good n st s → Good n (meet_int_var ds rec cap v st) (int_var_at o v s).1
    unfolding meet_int_var
    int_good v h n st s (some k) e g =
        let z : int_entry st.work v ≡ suc k = g.map_int v h ∙ ap code e in
        rw z g
    int_good v h n st s none e g =
        let z : int_entry st.work v ≡ 0 = g.map_int v h ∙ ap code e in
        rw z (new_declared v h n st s e z g)

    pub good_int : (v : ℕ) → v < max_ints → (n : ℕ) (st : State) (s : Log) → Good n st s → Good n (meet_int_var ds rec cap v st) (convert_int_var v s).1
    unfolding convert_int_var
    good_int v h n st s g = int_good v h n st s (get_int_var v s) refl g

    -- an integer that is no declared variable's
    pub good_new : (m : MadeInt) → ((v : ℕ) → is_declared_int v m ≡ false) → (n : ℕ) (st : State) (s : Log) → Good (suc n) st s → Good n (new_int ds rec cap (made_record ds m) st) (int m ∷ s)
    unfolding get_bool_var get_int_var get_if new_int
    good_new m q n st s g =
        let b : bump st.ints 1 ≡ suc st.ints = omega (arith, g.room) in
        record {
          map = λ u l. g.map u l;
          map_int = λ u l. rw (q u) (g.map_int u l);
          bools = g.bools;
          ints = b ∙ ap suc g.ints;
          low = λ u l r. g.low u l r;
          low_int = λ u k r. g.low_int u k (rw (q u) at r);
          size = g.size;
          words = g.words;
          word = g.word;
          records = records_new m st s g.records g.ints;
          cells = cells_kept ds F Plain parted K fixed st.work st.work s (int m ∷ s) (λ p l. refl) (λ e. refl) (over (int m) here) g.below P g.cells;
          below = λ e u r. omega (arith, g.below e u r);
          opens = λ e u r. g.opens e u r;
          named = N.other_named m q s g.named;
          used = g.used;
          room = rw b (omega (arith, g.room));
        }

  -- what is spent may be used for numbers
  pub good_spend : (k n : ℕ) (st : State) (s : Log) → cap < limit → bump st.used k ≤ cap → Good n st s → Good (4 * k + n) (spend k st) s
  good_spend k n st s c l g =
      let b : bump st.used k ≡ st.used + k = omega arith in
      record {
        map = g.map;
        map_int = g.map_int;
        bools = g.bools;
        ints = g.ints;
        low = g.low;
        low_int = g.low_int;
        size = g.size;
        words = g.words;
        word = g.word;
        records = g.records;
        cells = g.cells;
        below = g.below;
        opens = g.opens;
        named = g.named;
        used = l;
        room = rw b (omega (arith, g.room, g.used));
      }
