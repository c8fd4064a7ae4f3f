-- The words of one column, and of one column after the other: what the calls give comes to. Assumes nothing.
use mathlib.Core.Path.{◌≡◌, refl, sym, ap, ◌∙◌}
use mathlib.Core.Bool.{false}
use mathlib.Core.List.{List, [], ◌++◌}
use Prim.Native.Nat.{ℕ, zero, suc, ◌+◌, ◌-◌, ◌≤◌}
use native.Mathlib.Omega.{arith}
use native.Mathlib.Numerals.{sub-one}
use lib.IntN.{ℤ, pos}
use lib.ListN.{length, get_or}
use Rattle.laws.specs.Writes.{cap, Wrote, Open, wrote_none, wrote_then, wrote_to, wrote_length, wrote_low}
use Rattle.memory.specs.Places.{cells, limit}
use Rattle.memory.specs.Number.{nat}
use Rattle.syntax.specs.Syntax.{Domain, Eq}
use Rattle.sums.specs.LinearSum.{singleton, sub_sum}
use Rattle.clauses.specs.Clause.{linear}
use Rattle.answer.specs.Answer.{linear_words}
use Rattle.walk.specs.Item.{bump, clause_text, lines_of}
use Rattle.walk.specs.Decode.{word, read_part}
use Rattle.walk.specs.declared.Counters.{Counters}
use Rattle.walks.specs.Form.{IntForm, const, ivar, sum, choice}
use Rattle.walks.specs.Item.{has_ifs, cell, equal_item, form_int_item}
use Rattle.walks.specs.Tree.{never}
use Rattle.walks.specs.Off.{int_form_off}
use Rattle.walks.specs.ColumnText.{column_number, column_end, column_text, column_lines}
use Rattle.stages.specs.Columns.{column_at, columns_end}
use Rattle.stages.specs.ColumnsText.{columns_count, columns_text, columns_lines}
use Rattle.rulewriter.specs.declared.Added.{Added as Parts}
use Rattle.rulewriter.specs.Domains.{alike}
use Rattle.rulewriter.specs.Places.{int_at}
use Rattle.rulewriter.specs.Making.{Puts}
use Rattle.tablewriter.specs.declared.Columned.{Columned}
use Rattle.tablewriter.specs.declared.Passed.{Passed}
use Rattle.tablewriter.specs.Columns.{Placed, form_at, item_at, Fits, AllFit, Added, ColumnPut, ColumnsPut}
use Rattle.tablewriter.specs.Describing.{PassedColumn}
use Rattle.tablewriter.proofs.Forms.{Own, own_at, variable_at}

-- ---- what a column's Ifs add

module _ (w : List ℤ) (p : ℕ) (n : Counters) {out : List ℤ} {o : ℕ} where
  pub registered_added : {out' : List ℤ} (r : Parts) → Puts ((int_at w 64 never p 0).adds w n) ((int_at w 64 never p 0).added w n) out o out' r → Added w p n out o out' r.o r.lines
  registered_added r x = record {
    wrote = λ ds. wrote_to (ap (λ (f : List ℤ → Counters → List ℤ). f w n) (alike [] ds (form_at w p)).adds) x.wrote;
    lines = λ ds. x.lines ∙ ap (λ (f : List ℤ → Counters → ℕ). f w n) (alike [] ds (form_at w p)).added;
  }

  pub none_added : has_ifs w ≡ false → Open out o → Added w p n out o out o 0
  none_added off h = record {
    wrote = λ ds. wrote_to (sym ((int_form_off w off ds (form_at w p)).adds n)) (wrote_none out o h.low);
    lines = λ ds. sym ((int_form_off w off ds (form_at w p)).added n);
  }

-- ---- one column

module _ (ds : List Domain) (p : ℕ) (w : List ℤ) (n : Counters) where
  -- the clause that a sum is the column's number
  abbrev clause_of : IntForm → ℕ → List ℤ
  clause_of e v = clause_text [] [] 1 (linear_words (linear Eq (sub_sum ((form_int_item ds e).total w n) (singleton v))))

  own_text : (e : IntForm) → Own e → column_text ds p e w n ≡ (form_int_item ds e).adds w n ++ clause_of e (column_number w p)
  unfolding column_text equal_item
  own_text (const c) h = refl
  own_text (ivar v) h = absurd h
  own_text (sum ts) h = refl
  own_text (choice q o c d t f) h = refl

  own_lines : (e : IntForm) → Own e → column_lines ds p e w n ≡ bump ((form_int_item ds e).added w n) 1
  unfolding column_lines equal_item lines_of
  own_lines (const c) h = refl
  own_lines (ivar v) h = absurd h
  own_lines (sum ts) h = refl
  own_lines (choice q o c d t f) h = refl

abbrev columned : ℕ → Counters → ℕ → ℕ → Columned
columned x e q c = record { next = x; n = e; at = q; clauses = c }

-- a: behind it
module _ {w : List ℤ} {p : ℕ} {n : Counters} {out : List ℤ} {o k : ℕ} {mid : List ℤ} {o₁ l₁ : ℕ} (x : Added w p n out o mid o₁ l₁) {a : Passed} (b : PassedColumn w p n a) {j : ℕ} (code : j ≡ word (read_part w) p) where
  pub variable_put : j ≡ 21 → {c : ℕ} → c ≡ bump k l₁ → ColumnPut w p n out o k mid (columned a.next a.n o₁ c)
  unfolding column_text column_lines
  variable_put e l =
      let f = variable_at w p j code e in
      record {
        wrote = λ ds. rw f (rw f at (x.wrote ds));
        lines = λ ds. l ∙ ap (bump k) (rw f (rw f at (x.lines ds)));
        behind = b.behind;
        next = b.next;
        inside = b.inside;
        low = b.low;
      }

  pub own_put : (j ≡ 21 → ⊥) → length out ≤ cap → {v : ℕ} → v ≡ nat (get_or w (cells + p) (pos 0)) - 1 → {out' : List ℤ} {q : ℕ}
      → ((ds : List Domain) → Wrote mid o₁ (clause_text [] [] 1 (linear_words (linear Eq (sub_sum ((item_at ds w p).total w n) (singleton v))))) out' q)
      → {c : ℕ} → c ≡ bump k (bump l₁ 1) → ColumnPut w p n out o k out' (columned a.next a.n q c)
  own_put z room {v} i y {c} l =
      let h = own_at w p j code z in
      record {
        wrote = λ ds.
            let g : column_number w p ≡ v = unfold column_number cell in sym i in
            wrote_to (sym (own_text ds p w n (form_at w p) h ∙ ap (λ (u : ℕ). (item_at ds w p).adds w n ++ clause_of ds p w n (form_at w p) u) g)) (wrote_then room (x.wrote ds) (y ds));
        lines = λ ds. l ∙ ap (λ (u : ℕ). bump k (bump u 1)) (x.lines ds) ∙ ap (bump k) (sym (own_lines ds p w n (form_at w p) h));
        behind = b.behind;
        next = b.next;
        inside = b.inside;
        low = b.low;
      }

-- ---- one after the other: whatever writes the columns that are left writes all

pub record Going (w : List ℤ) (at count : ℕ) (n : Counters) (out₀ : List ℤ) (o k : ℕ) (out : List ℤ) (p : ℕ) (e : Counters) (q c rest : ℕ) : Type 0 where
  pub placed : Placed w p e
  pub fit : AllFit (read_part w) rest p
  pub room : Open out q
  pub same : length out ≡ length out₀
  pub wrote : (ds : List Domain) (out' : List ℤ) (q' : ℕ) → Wrote out q (columns_text ds (read_part w) rest p w e) out' q' → Wrote out₀ o (columns_text ds (read_part w) count at w n) out' q'
  pub lines : (ds : List Domain) → bump c (columns_lines ds (read_part w) rest p w e) ≡ bump k (columns_lines ds (read_part w) count at w n)
  pub behind : (ds : List Domain) → columns_count ds (read_part w) rest p w e ≡ columns_count ds (read_part w) count at w n
  pub next : columns_end (read_part w) rest p ≡ columns_end (read_part w) count at
  pub few : c ≤ limit

module _ (w : List ℤ) (at count : ℕ) (n : Counters) (out₀ : List ℤ) (o k : ℕ) where
  pub going_start : Placed w at n → AllFit (read_part w) count at → Open out₀ o → k ≤ limit → Going w at count n out₀ o k out₀ at n o k count
  going_start a b c l = record { placed = a; fit = b; room = c; same = refl; wrote = λ ds out' q' x. x; lines = λ ds. refl; behind = λ ds. refl; next = refl; few = l }

  module _ (out : List ℤ) (p : ℕ) (e : Counters) (q c rest : ℕ) (v : Going w at count n out₀ o k out p e q c rest) where
    pub going_fits : (rest ≡ 0 → ⊥) → Fits (form_at w p)
    unfolding AllFit
    going_fits z = go rest v.fit z
      where
        go : (r : ℕ) → AllFit (read_part w) r p → (r ≡ 0 → ⊥) → Fits (form_at w p)
        go zero f z = absurd (z refl)
        go (suc r) f z = f.0

    pub going_end : rest ≡ 0 → ColumnsPut w at count n out₀ o k out (columned p e q c)
    going_end z = go rest z v
      where
        go : (r : ℕ) → r ≡ 0 → Going w at count n out₀ o k out p e q c r → ColumnsPut w at count n out₀ o k out (columned p e q c)
        go zero z v = record {
          wrote = λ ds. v.wrote ds out q (unfold columns_text in wrote_none out q v.room.low);
          lines = λ ds. let i : bump c 0 ≡ c = omega (arith, v.few) in sym i ∙ (unfold columns_lines in v.lines ds);
          behind = λ ds. unfold columns_count in v.behind ds;
          next = unfold columns_end in v.next;
          low = v.placed.low;
        }
        go (suc r) z v = absurd (omega arith)

    module _ (out' : List ℤ) (s : Columned) (x : ColumnPut w p e out q c out' s) where
      lines_on : (ds : List Domain) (r : ℕ) → Going w at count n out₀ o k out p e q c (suc r) → bump s.clauses (columns_lines ds (read_part w) r s.next w s.n) ≡ bump k (columns_lines ds (read_part w) count at w n)
      unfolding columns_lines
      lines_on ds r v =
          let l = column_lines ds p (form_at w p) w e in
          let m = columns_lines ds (read_part w) r (column_at (read_part w) p).end w (column_end ds p (form_at w p) w e) in
          let i : bump (bump c l) m ≡ bump c (bump l m) = omega arith in
          rw (x.next, x.behind ds, x.lines ds) (i ∙ v.lines ds)

      behind_on : (ds : List Domain) (r : ℕ) → Going w at count n out₀ o k out p e q c (suc r) → columns_count ds (read_part w) r s.next w s.n ≡ columns_count ds (read_part w) count at w n
      unfolding columns_count
      behind_on ds r v = rw (x.next, x.behind ds) (v.behind ds)

      pub going_next : (rest ≡ 0 → ⊥) → Going w at count n out₀ o k out' s.next s.n s.at s.clauses (rest - 1)
      going_next z = go rest z v
        where
          go : (r : ℕ) → (r ≡ 0 → ⊥) → Going w at count n out₀ o k out p e q c r → Going w at count n out₀ o k out' s.next s.n s.at s.clauses (r - 1)
          go zero z v = absurd (z refl)
          go (suc r) z v = rw sub-one (record {
            placed = record { size = v.placed.size; inside = x.inside; low = x.low };
            fit = unfold AllFit in rw x.next v.fit.1;
            room = record { low = wrote_low (x.wrote []); room = omega (arith, wrote_length (x.wrote []), v.room.room) };
            same = wrote_length (x.wrote []) ∙ v.same;
            wrote = λ ds u q' y. v.wrote ds u q' (unfold columns_text in rw (← x.next, ← x.behind ds) (wrote_then v.room.room (x.wrote ds) y));
            lines = λ ds. lines_on ds r v;
            behind = λ ds. behind_on ds r v;
            next = unfold columns_end in rw x.next v.next;
            few = omega (arith, x.lines []);
          })
