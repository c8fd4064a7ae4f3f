-- The state before the first statement: the map of the log that merging leaves, no integer, blank cells. It is such as the walks ask (`start_stands`),
-- with room for every set within the limits.
use Rattle.std.specs.Prelude.{◌≡◌, refl, Bool, true, false, cond, List, [], ◌∷◌, ℕ, zero, suc, ◌+◌, ◌*◌, ◌≤◌, ◌<◌, ℤ, pos, length, get_or}
use Rattle.std.proofs.Math.Path.{sym, ap}
use Rattle.std.proofs.Common.{◌∙◌, arith}
use Rattle.std.proofs.Math.Option.{Option, none, some}
use Rattle.laws.specs.Ints.{is_zero}
use Rattle.memory.specs.Places.{folded, folded_end, bool_map, int_map, limit}
use Rattle.syntax.specs.Syntax.{Domain, IntExpr}
use Rattle.syntax.specs.Words.{max_bools, min_work_words, max_ints}
use Rattle.clauses.specs.Clause.{BoolLit}
use Rattle.clauses.specs.Log.{declared, aux, side, bool, merged, int, added, defined, known, Log, next_bool, get_bool_var, get_int_var, get_if, made_ints}
use Rattle.clauses.specs.Merge.{WellMerged}
use Rattle.clauses.proofs.MergeLaws.{merged_no_ints, merged_no_ifs}
use Rattle.answer.specs.Answer.{bool_word}
use Rattle.walk.specs.Item.{bool_at, int_entry}
use Rattle.walk.specs.Decode.{read_part}
use Rattle.walk.proofs.Num.{code}
use Rattle.walks.specs.Item.{has_ifs, cell, unseen, seen_in}
use Rattle.walks.specs.Meet.{State}
use Rattle.walks.specs.Plain.{PlainInt}
use Rattle.walks.specs.Constant.{Named}
use Rattle.walks.specs.Distinct.{none_some, unseen_numbered, unseen_constant}
use Rattle.walks.specs.Cells.{Key, whole, own, Cells}
use Rattle.walks.specs.Good.{blanks, no_int, records_of}
use Rattle.walks.specs.Walked.{fixed}
use Rattle.walks.specs.KeyAt.{looked_up}
use Rattle.walks.specs.KeyPlaces.{column_places}
use Rattle.walks.specs.LowIfs.{none_low}
use Rattle.walks.specs.Reach.{none_light}
use Rattle.walks.specs.Rule.{GoodFor}
use Rattle.stages.specs.StatementsParts.{Standing}

-- n: how many numbers merging gave
abbrev pub start : List ℤ → List ℤ → ℕ → State
start w out n = record { work = w; out = out; bools = n; ints = 0; used = 0 }

-- the slice w before the first statement: F, the folded words; s, the log that merging leaves
pub record Begun (F : List ℤ) (with_ifs : Bool) (w : List ℤ) (n : ℕ) (s : Log) : Type 0 where
  pub map : (v : ℕ) → v < max_bools → bool_at w v ≡ bool_word (get_bool_var v s)
  pub map_int : (v : ℕ) → v < max_ints → int_entry w v ≡ 0
  pub bools : n ≡ next_bool s
  pub low : (v : ℕ) (l : BoolLit) → get_bool_var v s ≡ some l → v < max_bools
  pub size : min_work_words ≤ length w
  pub words : read_part w ≡ F
  pub word : has_ifs w ≡ with_ifs
  pub blank : (p : ℕ) → folded < p → p ≤ folded_end → cell w p ≡ pos 0

-- ---- the log has no integer and no If

no_made : (s : Log) → WellMerged s → made_ints s ≡ []
unfolding made_ints
no_made [] h = refl
no_made (bool (declared v) ∷ s) h = no_made s h.1
no_made (bool (aux cs) ∷ s) h = absurd h
no_made (bool (side e) ∷ s) h = absurd h
no_made (merged v u g ∷ s) h = no_made s h.1.1
no_made (int m ∷ s) h = absurd h
no_made (added cs ∷ s) h = absurd h
no_made (defined cs ∷ s) h = absurd h
no_made (known e n ∷ s) h = absurd h

pub no_int_var : (s : Log) → WellMerged s → (v : ℕ) → get_int_var v s ≡ none
unfolding get_int_var
no_int_var [] h v = refl
no_int_var (bool (declared x) ∷ s) h v = no_int_var s h.1 v
no_int_var (bool (aux cs) ∷ s) h v = absurd h
no_int_var (bool (side e) ∷ s) h v = absurd h
no_int_var (merged x u g ∷ s) h v = no_int_var s h.1.1 v
no_int_var (int m ∷ s) h v = absurd h
no_int_var (added cs ∷ s) h v = absurd h
no_int_var (defined cs ∷ s) h v = absurd h
no_int_var (known e n ∷ s) h v = absurd h

merged_named : (ds : List Domain) (s : Log) → WellMerged s → Named ds s
merged_named ds [] h = tt
merged_named ds (bool (declared v) ∷ s) h = (tt, merged_named ds s h.1)
merged_named ds (bool (aux cs) ∷ s) h = absurd h
merged_named ds (bool (side e) ∷ s) h = absurd h
merged_named ds (merged v u g ∷ s) h = (tt, merged_named ds s h.1.1)
merged_named ds (int m ∷ s) h = absurd h
merged_named ds (added cs ∷ s) h = absurd h
merged_named ds (defined cs ∷ s) h = absurd h
merged_named ds (known e n ∷ s) h = absurd h

blanks_most : (f : ℤ → Bool) (w : List ℤ) (at k : ℕ) → blanks f w at k ≤ k
unfolding blanks
blanks_most f w at zero = omega arith
blanks_most f w at (suc k) = omega (arith, one (f (get_or w (at + k) (pos 0))), blanks_most f w at k)
  where
    one : (b : Bool) → cond b 1 0 ≤ 1
    one true = omega arith
    one false = omega arith

-- ---- the state

-- as in walks' Rule; out: the output before the walk
module _ (ds : List Domain) (F : List ℤ) (parted : ℕ → Bool) (rec cap : ℕ) (with_ifs : Bool) (out : List ℤ) (low : cap < limit) (w : List ℤ) (n : ℕ) (s : Log) (merged-log : WellMerged s) (b : Begun F with_ifs w n s) where
  abbrev no_key : ℕ → Option IntExpr
  no_key = looked_up []

  is_unseen : (q : ℕ) → folded ≤ q → q < folded_end → seen_in (cell w (q + 1)) ≡ unseen
  is_unseen q l m = ap seen_in (b.blank (q + 1) (omega arith) (omega arith))

  no_own : {X : Type 0} (q : ℕ) (e : IntExpr) → looked_up [] q ≡ some e → X
  unfolding looked_up
  no_own q e h = none_some h

  key_unseen : (q : ℕ) (e : IntExpr) → Key ds F PlainInt parted no_key (fixed ds) q e → seen_in (cell w (q + 1)) ≡ unseen
  key_unseen q e (whole t d) = is_unseen q t.low t.high
  key_unseen q e (own k) = no_own q e k

  no_if : {X : Type 0} (e : IntExpr) (v : ℕ) → get_if e s ≡ some v → X
  no_if e v h = none_some (sym (merged_no_ifs s merged-log e) ∙ h)

  start_cells : Cells ds F PlainInt parted no_key (fixed ds) w s
  start_cells = record {
    number = λ q e v c k h. unseen_numbered (sym (key_unseen q e k) ∙ h);
    const = λ q e k h. unseen_constant (sym (key_unseen q e k) ∙ h);
    fresh = λ q e k h. merged_no_ifs s merged-log e;
    complete = λ e v p h. no_if e v h;
    unshared = λ q e v t d h. unseen_numbered (sym (is_unseen q t.low t.high) ∙ h);
  }

  start_good : (k : ℕ) → n + 768 + 4 * cap + k ≤ limit → GoodFor ds F parted rec cap with_ifs out low no_key k (start w out n) s
  unfolding records_of
  start_good k r = record {
    map = b.map;
    map_int = λ v l. b.map_int v l ∙ ap code (sym (no_int_var s merged-log v));
    bools = b.bools;
    ints = sym (merged_no_ints s merged-log);
    low = b.low;
    low_int = λ v m h. none_some (sym (no_int_var s merged-log v) ∙ h);
    size = b.size;
    words = b.words;
    word = b.word;
    records = rw (no_made s merged-log) refl;
    cells = start_cells;
    below = λ e v h. no_if e v h;
    opens = λ e v h. no_if e v h;
    named = merged_named ds s merged-log;
    used = omega arith;
    room = omega (arith, r, blanks_most is_zero w bool_map max_bools, blanks_most no_int w int_map max_ints);
  }

  pub start_stands : (k : ℕ) → n + 768 + 4 * cap + k ≤ limit → Standing ds F parted rec cap with_ifs out low folded k (start w out n) s
  start_stands k r = record {
    key = no_key;
    places = column_places ds F parted (fixed ds);
    state = start_good k r;
    ifs = none_low (next_bool s) s (merged_no_ifs s merged-log);
    light = none_light ds s (merged_no_ifs s merged-log);
    ahead = λ q e i t l m o. is_unseen q l m;
  }
