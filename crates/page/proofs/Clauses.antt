-- A law for each answer of the functions that write clauses and the sheet, over variables. Assumes nothing.
use mathlib.Core.Path.{◌≡◌, refl, sym, ap, ◌∙◌}
use mathlib.Core.Bool.{true}
use mathlib.Core.List.{List, [], ◌∷◌, ◌++◌, map, append_assoc, append-nil}
use Prim.Native.Nat.{ℕ, zero, suc, ◌+◌, ◌-◌, ◌*◌, ◌≤◌, ◌<◌}
use native.Mathlib.Omega.{arith}
use lib.IntN.{ℤ}
use lib.ListN.{length, take, drop, length-drop, drop_of_length-le}
use lib.Seq.{sets}
use Rattle.laws.specs.Lists.{flat, flat_append}
use Rattle.syntax.specs.Words.{max_answer_words}
use Rattle.decimal.specs.Decimal.{print_natural}
use Rattle.decimal.specs.Widths.{natural_short}
use Rattle.lines.specs.Lines.{count_word, literals, after_literals, print_comparisons, print_clause}
use Rattle.lines.specs.Output.{Stops}
use Rattle.page.specs.Sheet.{spaces, Item, literal_item, comparison_items, clause_items, Page, full, place_item, place_items, numbered, all_lines, sheet_lines, print_sheet}
use Rattle.page.specs.Writes.{Wrote, page_text, On, Moves, Shows, Starts}
use Rattle.page.specs.declared.Place.{Place}
use Rattle.page.proofs.Bytes.{Left, left_as, left_next, left_all, left_start, wrote_then, wrote_to, wrote_length}
use Rattle.page.proofs.Pages.{place, map-append}
use Rattle.page.proofs.Comparisons.{stop_short, stop_one}

-- ---- a clause's number

pub number_room : (k w : ℕ) → k < 100000000 → w ≡ length (print_natural k) → w ≤ 8
number_room k w h e = let s = natural_short 7 k (omega arith) in omega arith

pub clause_started : {out m₁ m₂ out' : List ℕ} {at o e w : ℕ} (k : ℕ) → k < 100000000 → w ≡ length (print_natural k) → Wrote out at (spaces (8 - w)) m₁ o → o ≡ at + (8 - w) → m₂ ≡ sets m₁ o (print_natural k) → Wrote m₂ (o + w) (spaces 2) out' e → e ≡ o + w + 2
    → Starts (numbered k) at out out' (place at e true)
unfolding numbered page_text
clause_started {out} {m₁} {m₂} {out'} {at} {o} {e} {w} k h n x a y z b =
    let s = number_room k w h n in
    let u : Wrote m₁ o (print_natural k) m₂ (o + w) = record { bytes = y; after = rw n refl } in
    let line : List ℕ = spaces (8 - length (print_natural k)) ++ (print_natural k ++ spaces 2) in
    let all : Wrote out at line out' e = wrote_to (ap (λ (m : ℕ). spaces (8 - m) ++ (print_natural k ++ spaces 2)) n) (wrote_then x (wrote_then u z)) in
    let f : e ≡ at + length line = all.after in
    record {
      line = record { low = omega arith; high = omega arith; start = λ t. omega arith };
      starts = refl;
      size = wrote_length all;
      page = record { bytes = all.bytes; after = f; column = f; bare = refl };
    }

-- ---- a clause

items_append : (is js : List Item) (P : Page) → place_items (is ++ js) P ≡ place_items js (place_items is P)
unfolding place_items
items_append [] js P = refl
items_append (i ∷ is) js P = items_append is js (place_item i P)

-- the last line is filled
on_end : {out₀ out out' : List ℕ} {base e : ℕ} {p : Place} (Q : Page) → On out₀ base Q out p → Wrote out p.at (spaces (80 - (p.at - p.line)) ++ (10 ∷ [])) out' e → Wrote out₀ base (flat (map full (all_lines Q))) out' e
unfolding page_text all_lines full
on_end {out₀} {out} {out'} {base} {e} {p} Q o w =
    let c : 80 - (p.at - p.line) ≡ 80 - length Q.line = let d = o.column in omega arith in
    let fill : List ℕ = spaces (80 - length Q.line) ++ (10 ∷ []) in
    let ls : List ℕ = flat (map full Q.lines) in
    let x : Wrote out₀ base (ls ++ Q.line) out p.at = record { bytes = o.bytes; after = o.after } in
    let y : Wrote out p.at fill out' e = wrote_to (ap (λ (k : ℕ). spaces k ++ (10 ∷ [])) c) w in
    let t : flat (map full (Q.lines ++ (Q.line ∷ []))) ≡ ls ++ (Q.line ++ fill) = ap flat (map-append Q.lines (Q.line ∷ [])) ∙ flat_append (map full Q.lines) (map full (Q.line ∷ [])) ∙ ap (λ (l : List ℕ). ls ++ l) (append-nil (Q.line ++ fill)) in
    wrote_to (append_assoc ls Q.line fill ∙ sym t) (wrote_then x y)

module _ (ws : List ℤ) (from n a b : ℕ) (m : n ≡ count_word (drop from ws)) (s₁ : Stops ws from 1 a) (s₂ : Stops ws a n b) where
  lits_are : take (b - a) (drop a ws) ≡ literals (drop from ws)
  lits_are = s₂.part ∙ rw (m, s₁.rest) refl

  after_are : drop b ws ≡ after_literals (drop from ws)
  after_are = s₂.rest ∙ rw (m, s₁.rest) refl

  pub lits_few : length ws ≤ max_answer_words → length (take (b - a) (drop a ws)) ≤ max_answer_words
  lits_few h = omega (arith, (stop_short ws a n b s₂).1)

  pub clause_written : {out o₁ o₂ o₃ out' : List ℕ} {s p q : Place} {at e next : ℕ} (k : ℕ) → from < length ws → Starts (numbered k) at out o₁ s → Moves (place_items (map literal_item (take (b - a) (drop a ws)))) (length (take (b - a) (drop a ws))) o₁ s o₂ p
      → Moves (place_items (comparison_items (count_word (drop b ws)) (drop 1 (drop b ws)))) (next - b) o₂ p o₃ q → Shows (print_comparisons (drop b ws)).rest ws b next → Wrote o₃ q.at (spaces (80 - (q.at - q.line)) ++ (10 ∷ [])) out' e → e ≡ q.line + 81
      → (Wrote out at (flat (map full (all_lines (place_items (clause_items (drop from ws)) (numbered k))))) out' e) × (Shows (print_clause (drop from ws)).rest ws from next) × (e + 81 * from ≤ at + 81 * next) × (from < next)
  unfolding clause_items print_clause
  clause_written {out} {o₁} {o₂} {o₃} {out'} {s} {p} {q} {at} {e} {next} k h st x y sh w f =
      let ls : List Item = map literal_item (literals (drop from ws)) in
      let ks : List Item = comparison_items (count_word (after_literals (drop from ws))) (drop 1 (after_literals (drop from ws))) in
      let o : On out at (place_items (comparison_items (count_word (drop b ws)) (drop 1 (drop b ws))) (place_items (map literal_item (take (b - a) (drop a ws))) (numbered k))) o₃ q = y.page out at _ (x.page out at (numbered k) st.page) in
      let g : place_items (comparison_items (count_word (drop b ws)) (drop 1 (drop b ws))) (place_items (map literal_item (take (b - a) (drop a ws))) (numbered k)) ≡ place_items (ls ++ ks) (numbered k) = rw (lits_are, after_are) (sym (items_append ls ks (numbered k))) in
      let z : Wrote out at (flat (map full (all_lines (place_items (comparison_items (count_word (drop b ws)) (drop 1 (drop b ws))) (place_items (map literal_item (take (b - a) (drop a ws))) (numbered k)))))) out' e = on_end _ o w in
      let i : a ≡ from + 1 = stop_one ws from a h s₁ in
      let l = (stop_short ws a n b s₂).2 in
      let u = x.few in
      let v = y.few in
      let t = st.starts in
      let c = s₂.low in
      let d = sh.low in
      (wrote_to (ap (λ (Q : Page). flat (map full (all_lines Q))) g) z, record { rest = sh.rest ∙ rw after_are refl; low = omega arith; high = sh.high }, omega arith, omega arith)

-- ---- clauses: `left` of them are still to come

abbrev pub text_of : ℕ → ℕ → List ℤ → List ℕ
text_of k n ws = flat (map full (sheet_lines k n ws))

text_suc : (k n : ℕ) (ws : List ℤ) → 0 < length ws → text_of k (suc n) ws ≡ flat (map full (all_lines (place_items (clause_items ws) (numbered k)))) ++ text_of (suc k) n (print_clause ws).rest
unfolding sheet_lines
text_suc k n [] h = absurd (omega arith)
text_suc k n (w ∷ ws) h =
    let ls : List (List ℕ) = all_lines (place_items (clause_items (w ∷ ws)) (numbered k)) in
    let rest : List (List ℕ) = sheet_lines (suc k) n (print_clause (w ∷ ws)).rest in
    ap flat (map-append ls rest) ∙ flat_append (map full ls) (map full rest)

text_none : (k n : ℕ) → text_of k n [] ≡ []
unfolding sheet_lines
text_none k zero = refl
text_none k (suc n) = refl

pub record Clausing (ws : List ℤ) (out₀ whole : List ℕ) (k left i : ℕ) (out : List ℕ) (o : ℕ) : Type 0 where
  pub still : Left out o (text_of k left (drop i ws)) out₀ 0 whole

pub clausing_start : (ws : List ℤ) (out : List ℕ) (from n : ℕ) → Clausing ws out (text_of 1 n (drop from ws)) 1 n from out 0
clausing_start ws out from n = record { still = left_start out 0 (text_of 1 n (drop from ws)) }

module _ {ws : List ℤ} {out₀ whole : List ℕ} {k left i : ℕ} {out : List ℕ} {o : ℕ} (inv : Clausing ws out₀ whole k left i out o) where
  pub clauses_next : {out' : List ℕ} {r next : ℕ} → 0 < left → i < length ws → Wrote out o (flat (map full (all_lines (place_items (clause_items (drop i ws)) (numbered k))))) out' r → Shows (print_clause (drop i ws)).rest ws i next → Clausing ws out₀ whole (k + 1) (left - 1) next out' r
  clauses_next {out'} {r} {next} h l w s =
      let z : left ≡ suc (left - 1) = omega arith in
      let y : suc k ≡ k + 1 = omega arith in
      let e : text_of k left (drop i ws) ≡ flat (map full (all_lines (place_items (clause_items (drop i ws)) (numbered k)))) ++ text_of (k + 1) (left - 1) (drop next ws) =
      ap (λ (m : ℕ). text_of k m (drop i ws)) z ∙ text_suc k (left - 1) (drop i ws) (omega (arith, length-drop i ws))
      ∙ ap (λ (x : List ℤ). flat (map full (all_lines (place_items (clause_items (drop i ws)) (numbered k)))) ++ text_of (suc k) (left - 1) x) (sym s.rest)
      ∙ ap (λ (m : ℕ). flat (map full (all_lines (place_items (clause_items (drop i ws)) (numbered k)))) ++ text_of m (left - 1) (drop next ws)) y in
      record { still = left_next (left_as e inv.still) w }

  pub clauses_done : left ≤ 0 → Wrote out₀ 0 whole out o
  unfolding sheet_lines
  clauses_done h = let z : left ≡ 0 = omega arith in left_all (left_as (ap (λ (m : ℕ). text_of k m (drop i ws)) z) inv.still)

  pub clauses_out : i ≡ length ws → Wrote out₀ 0 whole out o
  clauses_out h =
      let z : drop i ws ≡ [] = drop_of_length-le ws (let q : length ws ≤ i = omega arith in q) in
      left_all (left_as (ap (text_of k left) z ∙ text_none k left) inv.still)

pub sheet_written : {out out' : List ℕ} {r : ℕ} (ws : List ℤ) (from n a : ℕ) → n ≡ count_word (drop from ws) → Stops ws from 1 a → Wrote out 0 (flat (map full (sheet_lines 1 n (drop a ws)))) out' r → Wrote out 0 (print_sheet (drop from ws)) out' r
unfolding print_sheet
sheet_written ws from n a m s w = wrote_to (rw (m, s.rest) refl) w
