-- A table's column: its expression, of which nothing is split; unless the walk is full then and it is no declared variable, a new integer between its bounds.
use Rattle.std.specs.Prelude.{◌≡◌, Bool, cond, List, ℕ, ◌+◌, ◌*◌, ◌≤◌, ℤ, pos, nat_abs, length, set, eqb, ltb}
use Rattle.std.proofs.Math.Path.{refl, sym, ap, subst}
use Rattle.std.proofs.Common.{◌∙◌, arith, ne_eqb}
use Rattle.std.proofs.Math.Bool.{true, false}
use Rattle.std.proofs.lemmas.List.Edits.{sets}
use Rattle.std.proofs.Math.Seq.{length-sets}
use Rattle.memory.specs.Places.{cells, limit}
use Rattle.syntax.specs.Syntax.{Domain, Range, lower_bound, upper_bound}
use Rattle.syntax.specs.Words.{max_weight}
use Rattle.walk.specs.Item.{bump}
use Rattle.walk.specs.Decode.{word, read_part}
use Rattle.walk.specs.declared.Counters.{Counters}
use Rattle.walks.specs.Tree.{Splitting, never}
use Rattle.walks.specs.Form.{IntForm, const, ivar, sum, choice}
use Rattle.walks.specs.Decode.{IntRead, Reader, IntReader, if_step, int_step, decode, decode_int}
use Rattle.walks.specs.Item.{form_int_item}
use Rattle.walks.specs.Meet.{State, counters_of, range_record, range_of, is_full, new_int, form_meet_int}
use Rattle.walks.specs.Column.{number_column, meet_sum, meet_column}
use Rattle.declared.specs.DomainTable.{Declares}
use Rattle.scan.specs.Nodes.{int_level}
use Rattle.numbering.specs.Declares.{declares_kept}
use Rattle.numbering.specs.Task.{state_of, Task, Kept, kept_then, Done, Starts, starts_same}
use Rattle.numbering.specs.Fits.{Unless, BranchFits, int_fits}
use Rattle.numbering.specs.Leaf.{kept_set}
use Rattle.numbering.specs.Steps.{int_at}
use Rattle.numbering.specs.Make.{counters_in, counters_kept}
use Rattle.numbering.specs.declared.Progress.{Progress}

-- the bounds of a column's sum are words
pub record RangeFits (ds : List Domain) (w : List ℤ) (e : IntForm) (n : Counters) : Type 0 where
  pub sum : BranchFits ds w e n
  pub lowest : nat_abs (lower_bound (range_of (form_int_item ds e) w n)) ≤ max_weight
  pub highest : nat_abs (upper_bound (range_of (form_int_item ds e) w n)) ≤ max_weight

unfoldable pub column_task : (rec cap : ℕ) → List ℤ → ℕ → Task
column_task rec cap ws p = let e = (decode_int ws 64 never p 0).tree in record {
  fits = λ ds st. int_fits ds rec cap e st × (let a = form_meet_int ds rec cap e st in Unless (ltb cap a.used) (RangeFits ds a.work e (counters_of st)));
  meet = λ ds st. meet_column ds rec cap p e st;
}

-- ---- the integer of a column that is no declared variable; c: the counters before its expression, d: those behind

abbrev pub form_of : List ℤ → ℕ → IntForm
form_of w at = (decode_int (read_part w) 64 never at 0).tree

pub record SpanReady (w : List ℤ) (at : ℕ) (c d : Progress) : Type 0 where
  pub domains : List Domain
  pub declares : Declares domains w
  pub fits : RangeFits domains w (form_of w at) (counters_in w c)
  pub low : (c.bools ≤ limit) × (c.ints ≤ limit)
  pub room : d.ints ≤ limit

pub record Makes (rec at : ℕ) (c d : Progress) (w out w' out' : List ℤ) (r : Progress) : Type 0 where
  pub lowest : ℤ
  pub highest : ℤ
  pub range : (ds : List Domain) → Declares ds w → Range lowest highest ≡ range_of (form_int_item ds (form_of w at)) w (counters_in w c)
  pub written : out' ≡ sets out (rec + 4 * d.ints) (range_record (Range lowest highest))
  pub cell : w' ≡ set w (cells + at) (pos (d.ints + 1))
  pub count : r ≡ record { bools = d.bools; ints = bump d.ints 1; used = d.used }

-- ---- laws for the code

abbrev IsVariable : IntForm → Type 0
IsVariable (const c) = ⊥
IsVariable (ivar v) = Unit {0}
IsVariable (sum ts) = ⊥
IsVariable (choice q o c d t f) = ⊥

either_form : (b : Bool) (x y : IntRead) → (IsVariable x.tree → ⊥) → (IsVariable y.tree → ⊥) → IsVariable (cond b x y).tree → ⊥
either_form true x y i j = i
either_form false x y i j = j

other_code : (ws : List ℤ) (p : Splitting → Reader) (q : Splitting → IntReader) (m : Splitting) (at n k : ℕ) → (k ≡ 21 → ⊥) → IsVariable (int_step ws p q m at n k).tree → ⊥
unfolding int_step if_step
other_code ws p q m at n k ne = rw (ne_eqb k 21 ne) (either_form (eqb k 22) _ _ (λ z. z) (either_form (eqb k 23) _ _ (λ z. z) (λ z. z)))

variable_code : (ws : List ℤ) (p : Splitting → Reader) (q : Splitting → IntReader) (m : Splitting) (at n k : ℕ) → k ≡ 21 → IsVariable (int_step ws p q m at n k).tree
unfolding int_step
variable_code ws p q m at n k e = rw e tt

module _ (ds : List Domain) (rec cap p : ℕ) where
  meet_full : (e : IntForm) (st : State) → is_full ds rec cap (form_meet_int ds rec cap e st) ≡ true → meet_column ds rec cap p e st ≡ form_meet_int ds rec cap e st
  unfolding meet_column meet_sum
  meet_full (const c) st h = rw h refl
  meet_full (ivar v) st h = refl
  meet_full (sum ts) st h = rw h refl
  meet_full (choice q o c d t f) st h = rw h refl

  meet_variable : (e : IntForm) (st : State) → IsVariable e → meet_column ds rec cap p e st ≡ form_meet_int ds rec cap e st
  unfolding meet_column
  meet_variable (const c) st h = absurd h
  meet_variable (ivar v) st h = refl
  meet_variable (sum ts) st h = absurd h
  meet_variable (choice q o c d t f) st h = absurd h

  meet_other : (e : IntForm) (st : State) → (IsVariable e → ⊥) → is_full ds rec cap (form_meet_int ds rec cap e st) ≡ false
      → meet_column ds rec cap p e st ≡ (let a = form_meet_int ds rec cap e st in number_column ds rec cap p (range_of (form_int_item ds e) a.work (counters_of st)) a)
  unfolding meet_column meet_sum
  meet_other (const c) st n h = rw h refl
  meet_other (ivar v) st n h = absurd (n tt)
  meet_other (sum ts) st n h = rw h refl
  meet_other (choice q o c d t f) st n h = rw h refl

module _ (rec cap : ℕ) (w out : List ℤ) (c : Progress) (at : ℕ) (s : Starts (column_task rec cap (read_part w) at) (state_of w out c) rec at 0) where
  abbrev st : State
  st = state_of w out c

  abbrev own : List ℤ → Task
  own ws = int_at rec cap ws 64 never at 0

  abbrev Whole : Task
  Whole = column_task rec cap (read_part w) at

  own_fits : (ds : List Domain) → Whole.fits ds st → int_fits ds rec cap (form_of w at) st
  unfolding column_task
  own_fits ds f = f.0

  pub column_first : Starts (own (read_part w)) st rec at 0
  column_first = let r = s.ready in starts_same s s.inside s.low_base (record { domains = r.domains; declares = r.declares; fits = own_fits r.domains r.fits })

  module _ (w₁ out₁ : List ℤ) (d : Progress) (x : Done (own (read_part w)) st (state_of w₁ out₁ d)) where
    abbrev behind : State
    behind = state_of w₁ out₁ d

    met : (ds : List Domain) → Declares ds w → Whole.fits ds st → behind ≡ form_meet_int ds rec cap (form_of w at) st
    met ds h f = x.state ds h (own_fits ds f)

    full_is : (b : Bool) → b ≡ ltb cap d.used → (ds : List Domain) → Declares ds w → Whole.fits ds st → is_full ds rec cap (form_meet_int ds rec cap (form_of w at) st) ≡ b
    full_is b e ds h f = ap (λ (y : State). ltb cap y.used) (sym (met ds h f)) ∙ sym e

    pub column_full : true ≡ ltb cap d.used → Done Whole st behind
    unfolding column_task
    column_full e = record { state = λ ds h f. met ds h f ∙ sym (meet_full ds rec cap at (form_of w at) st (full_is true e ds h f)); kept = x.kept; low = x.low }

    module _ (k : ℕ) (hk : k ≡ word (read_part w₁) at) where
      code_is : decode_int (read_part w) 64 never at 0 ≡ int_step (read_part w) (decode (read_part w) 63) (decode_int (read_part w) 63) never at 0 k
      code_is = int_level (read_part w) 64 63 never at 0 k (λ z. omega arith) (omega arith) (hk ∙ ap (λ (ws : List ℤ). word ws at) x.kept.part)

      pub column_variable : k ≡ 21 → Done Whole st behind
      unfolding column_task
      column_variable e =
          let v : IsVariable (form_of w at) = subst (λ (r : IntRead). IsVariable r.tree) (sym code_is) (variable_code (read_part w) (decode (read_part w) 63) (decode_int (read_part w) 63) never at 0 k e) in
          record { state = λ ds h f. met ds h f ∙ sym (meet_variable ds rec cap at (form_of w at) st v); kept = x.kept; low = x.low }

      no_variable : (k ≡ 21 → ⊥) → IsVariable (form_of w at) → ⊥
      no_variable ne v = other_code (read_part w) (decode (read_part w) 63) (decode_int (read_part w) 63) never at 0 k ne (subst (λ (r : IntRead). IsVariable r.tree) code_is v)

    module _ (e : false ≡ ltb cap d.used) where
      range_fits : (ds : List Domain) → Declares ds w → Whole.fits ds st → RangeFits ds w₁ (form_of w at) (counters_of st)
      unfolding column_task
      range_fits ds h f = rw (← e) at (subst (λ (y : State). Unless (ltb cap y.used) (RangeFits ds y.work (form_of w at) (counters_of st))) (sym (met ds h f)) f.1)

      same_form : form_of w₁ at ≡ form_of w at
      same_form = ap (λ (ws : List ℤ). (decode_int ws 64 never at 0).tree) x.kept.part

      same_counters : counters_in w₁ c ≡ counters_of st
      same_counters = counters_kept st behind c x.kept

      pub column_ready : SpanReady w₁ at c d
      column_ready =
          let r = s.ready in
          record {
            domains = r.domains;
            declares = declares_kept r.domains w w₁ x.kept.behind r.declares;
            fits = subst (λ (n : Counters). RangeFits r.domains w₁ (form_of w₁ at) n) (sym same_counters) (subst (λ (g : IntForm). RangeFits r.domains w₁ g (counters_of st)) (sym same_form) (range_fits r.domains r.declares r.fits));
            low = (s.low.bools, s.low.ints);
            room = x.low.ints;
          }

      module _ (k : ℕ) (hk : k ≡ word (read_part w₁) at) (ne : k ≡ 21 → ⊥) (w' out' : List ℤ) (r : Progress) (y : Makes rec at c d w₁ out₁ w' out' r) where
        stored : (ds : List Domain) → state_of w' out' r ≡ number_column ds rec cap at (Range y.lowest y.highest) behind
        unfolding number_column new_int
        stored ds = rw (y.written, y.cell, y.count) refl

        range_is : (ds : List Domain) → Declares ds w → Range y.lowest y.highest ≡ range_of (form_int_item ds (form_of w at)) w₁ (counters_of st)
        range_is ds h = y.range ds (declares_kept ds w w₁ x.kept.behind h) ∙ ap (λ (n : Counters). range_of (form_int_item ds (form_of w₁ at)) w₁ n) same_counters ∙ ap (λ (i : IntForm). range_of (form_int_item ds i) w₁ (counters_of st)) same_form

        made_is : (ds : List Domain) → Declares ds w → state_of w' out' r ≡ number_column ds rec cap at (range_of (form_int_item ds (form_of w at)) w₁ (counters_of st)) behind
        made_is ds h = stored ds ∙ ap (λ (u : Domain). number_column ds rec cap at u behind) (range_is ds h)

        made_kept : Kept behind (state_of w' out' r)
        made_kept = rw y.cell (kept_set w₁ out₁ out' d r (cells + at) (pos (d.ints + 1)) (omega arith) (omega (arith, s.inside)) (ap length y.written ∙ length-sets out₁ (rec + 4 * d.ints) (range_record (Range y.lowest y.highest))))

        pub column_made : Done Whole st (state_of w' out' r)
        unfolding column_task
        column_made = record {
          state = λ ds h f.
              made_is ds h ∙ ap (λ (z : State). number_column ds rec cap at (range_of (form_int_item ds (form_of w at)) z.work (counters_of st)) z) (met ds h f) ∙ sym (meet_other ds rec cap at (form_of w at) st (no_variable k hk ne) (full_is false e ds h f));
          kept = kept_then x.kept made_kept;
          low = rw y.count (record { bools = x.low.bools; ints = omega arith; used = x.low.used });
        }
