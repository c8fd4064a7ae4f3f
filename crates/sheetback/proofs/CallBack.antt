-- For every answer of the call: its sheet, read, gives back its clauses. Assumes nothing.
use Rattle.std.specs.Prelude.{◌≡◌, Bool, true, false, ◌||◌, cond, pos, ltb, drop}
use Rattle.std.proofs.Math.Path.{refl, sym, ap}
use Rattle.std.proofs.Common.{◌∙◌, arith, length-append, ltb-false}
use mathlib.Core.List.{List, [], ◌∷◌, ◌++◌, map}
use Rattle.std.proofs.Math.Option.{some}
use Prim.Native.Nat.{ℕ, zero, suc, ◌≤◌, ◌<◌}
use Rattle.std.proofs.Math.IntN.{ℤ}
use Rattle.std.proofs.Math.ListN.{length, length-map}
use Rattle.std.proofs.Math.Seq.{drop-append_seam}
use Rattle.laws.specs.Lists.{flat, counted, below, length_from}
use Rattle.syntax.specs.Words.{max_set_words, min_work_words, max_answer_words}
use Rattle.syntax.specs.Syntax.{Stmt, Problem}
use Rattle.words.specs.Parse.{Parsed, ok, refuse}
use Rattle.read.specs.Read.{read_set}
use Rattle.limits.specs.Limits.{check}
use Rattle.fold.specs.Fold.{Fixed}
use Rattle.fold.specs.Optimize.{Outcome, inconsistent, settled, optimize}
use Rattle.clauses.specs.Clause.{Clause}
use Rattle.answer.specs.Answer.{Answer, layout, answer_of, normalize, fixed_word, map_word, bool_word, emitted_words, clause_words}
use Rattle.answer.specs.Passes.{Decoded, decode}
use Rattle.answer.proofs.ReadBack.{answer_back}
use Rattle.call.specs.Call.{Result, compiled, contradiction, refused, measured, answered, checked, when_read, call_with}
use Rattle.call.specs.declared.Choices.{Choices}
use Rattle.lines.specs.Lines.{Shown, count_word, times, print_domain}
use Rattle.readback.proofs.Shown.{times_shown, domain_filled, domain_shown, clause_filled}
use Rattle.readback.proofs.ListingBack.{domain_text, bools_word, ints_word}
use Rattle.sheetback.specs.ReadSheet.{read_sheet}
use Rattle.sheetback.specs.Sheeted.{from_clauses, clauses_part, sheet_text}
use Rattle.sheetback.proofs.SheetBack.{clauses_sheet_back}

-- an answer laid out
pub record Laid (set ws : List ℤ) : Type 0 where
  pub it : Answer
  pub words : ws ≡ layout it
  pub fixed : length it.fixed ≡ count_word set
  pub bools : length it.bool_map ≡ count_word set
  pub ints : length it.int_map ≡ count_word (drop 1 set)
  pub few : length ws ≤ max_answer_words

-- ---- the clauses of a layout

layout_clauses : (a : Answer) (b i : ℕ) → length a.fixed ≡ b → length a.bool_map ≡ b → length a.int_map ≡ i → from_clauses b i (layout a) ≡ counted clause_words a.clauses
unfolding from_clauses layout
layout_clauses a b i f m n =
    let fs : List ℤ = map fixed_word a.fixed in
    let ms : List ℤ = map bool_word a.bool_map in
    let is : List ℤ = map map_word a.int_map in
    let rest : List ℤ = pos a.emitted_bools ∷ (counted emitted_words a.emitted_ints ++ counted clause_words a.clauses) in
    let d1 : drop b (fs ++ (ms ++ (is ++ rest))) ≡ ms ++ (is ++ rest) = rw (← f, ← length-map a.fixed fixed_word) (drop-append_seam fs (ms ++ (is ++ rest))) in
    let d2 : drop b (ms ++ (is ++ rest)) ≡ is ++ rest = rw (← m, ← length-map a.bool_map bool_word) (drop-append_seam ms (is ++ rest)) in
    let d3 : drop i (is ++ rest) ≡ rest = rw (← n, ← length-map a.int_map map_word) (drop-append_seam is rest) in
    let d : drop i (drop b (drop b (fs ++ (ms ++ (is ++ rest))))) ≡ rest = ap (λ (x : List ℤ). drop i (drop b x)) d1 ∙ ap (drop i) d2 ∙ d3 in
    ap (λ (es : List ℤ). (times print_domain (count_word (drop 1 es)) (drop 2 es)).rest) d ∙ ap (λ (x : Shown). x.rest) (times_shown print_domain emitted_words domain_text domain_filled domain_shown a.emitted_ints (counted clause_words a.clauses))

clauses_few : (cs : List Clause) → length cs ≤ length (flat (map clause_words cs))
clauses_few [] = omega arith
clauses_few (c ∷ cs) = omega (arith, clauses_few cs, clause_filled c, length-append (clause_words c) (flat (map clause_words cs)))

pub layout_few : (a : Answer) → length a.clauses < length (layout a)
unfolding layout
layout_few a =
    let ds : List ℤ = counted emitted_words a.emitted_ints in
    let cs : List ℤ = counted clause_words a.clauses in
    let is : List ℤ = map map_word a.int_map in
    let ms : List ℤ = map bool_word a.bool_map in
    let fs : List ℤ = map fixed_word a.fixed in
    omega (arith, clauses_few a.clauses, length-append ds cs, length-append is (pos a.emitted_bools ∷ (ds ++ cs)), length-append ms (is ++ (pos a.emitted_bools ∷ (ds ++ cs))), length-append fs (ms ++ (is ++ (pos a.emitted_bools ∷ (ds ++ cs)))))

-- the clauses that demand 3 reads in the answer's words
unfoldable pub answer_clauses : List ℤ → List ℤ → List Clause
answer_clauses set ws = (decode (count_word set) (count_word (drop 1 set)) ws).clauses

module _ {set ws : List ℤ} (l : Laid set ws) where
  pub decoded : answer_clauses set ws ≡ l.it.clauses
  unfolding answer_clauses
  decoded =
      ap (λ (x : List ℤ). (decode (count_word set) (count_word (drop 1 set)) x).clauses) l.words
      ∙ ap (λ (n : ℕ). (decode n (count_word (drop 1 set)) (layout l.it)).clauses) (sym l.fixed)
      ∙ ap (λ (n : ℕ). (decode (length l.it.fixed) n (layout l.it)).clauses) (sym l.ints)
      ∙ ap (λ (d : Decoded). d.clauses) (answer_back l.it (l.bools ∙ sym l.fixed))

  pub part_is : clauses_part set ws ≡ counted clause_words (answer_clauses set ws)
  unfolding clauses_part
  part_is = ap (from_clauses (count_word set) (count_word (drop 1 set))) l.words ∙ layout_clauses l.it (count_word set) (count_word (drop 1 set)) l.fixed l.bools l.ints ∙ ap (counted clause_words) (sym decoded)

  laid_back : read_sheet (sheet_text set ws) ≡ some (counted clause_words (answer_clauses set ws))
  unfolding sheet_text
  laid_back = rw part_is (clauses_sheet_back (answer_clauses set ws) (omega (arith, layout_few l.it, ap length l.words, ap length decoded, l.few)))

-- ---- the call

abbrev IfCompiled : List ℤ → Result → Type 0
IfCompiled set (compiled ws) = Laid set ws
IfCompiled set contradiction = Unit {0}
IfCompiled set (refused k) = Unit {0}

module _ (c : Choices) (set : List ℤ) (p : Problem) (r : List ℤ) (read : read_set set ≡ ok p r) where
  settled_laid : (f : Fixed) (ss : List Stmt) → length (layout (normalize c.merge p f ss)) ≤ max_answer_words → Laid set (layout (normalize c.merge p f ss))
  unfolding normalize answer_of
  settled_laid f ss h =
      let n : ℕ = p.bools in
      let m : ℕ = length p.domains in
      record {
        it = normalize c.merge p f ss;
        words = refl;
        fixed = length-map (below n) f ∙ length_from 0 n ∙ sym (bools_word set p r read);
        bools = length-map (below n) _ ∙ length_from 0 n ∙ sym (bools_word set p r read);
        ints = length-map (below m) _ ∙ length_from 0 m ∙ sym (ints_word set p r read);
        few = h;
      }

  measured_laid : (ws : List ℤ) (t u : Bool) → ltb max_answer_words (length ws) ≡ u → (length ws ≤ max_answer_words → Laid set ws) → IfCompiled set (cond (t || u) (refused 12) (compiled ws))
  measured_laid ws true u e h = tt
  measured_laid ws false true e h = tt
  measured_laid ws false false e h = h (ltb-false max_answer_words (length ws) e)

  answered_laid : (o : ℕ) (x : Outcome) → IfCompiled set (answered c o p x)
  unfolding answered measured
  answered_laid o inconsistent = tt
  answered_laid o (settled f ss) = let ws : List ℤ = layout (normalize c.merge p f ss) in measured_laid ws (ltb o (length ws)) (ltb max_answer_words (length ws)) refl (λ h. settled_laid f ss h)

  checked_laid : (o k : ℕ) → IfCompiled set (checked c o p k)
  unfolding checked
  checked_laid o zero = answered_laid o (optimize p)
  checked_laid o (suc k) = tt

read_laid : (c : Choices) (set : List ℤ) (o : ℕ) (q : Parsed Problem) → read_set set ≡ q → IfCompiled set (when_read c o q)
unfolding when_read
read_laid c set o (ok p r) e = checked_laid c set p r e o (check p)
read_laid c set o (refuse k) e = tt

either_laid : (set : List ℤ) (t : Bool) (x y : Result) → IfCompiled set x → IfCompiled set y → IfCompiled set (cond t x y)
either_laid set true x y h k = h
either_laid set false x y h k = k

call_if : (c : Choices) (set : List ℤ) (o w : ℕ) → IfCompiled set (call_with c set o w)
unfolding call_with
call_if c set o w = either_laid set (ltb w min_work_words) (refused 1) _ tt (either_laid set (ltb max_set_words (length set)) (refused 2) _ tt (read_laid c set o (read_set set) refl))

pub call_laid : (c : Choices) (set : List ℤ) (o w : ℕ) (ws : List ℤ) → call_with c set o w ≡ compiled ws → Laid set ws
call_laid c set o w ws e = go (call_with c set o w) e (call_if c set o w)
  where
    go : (x : Result) → x ≡ compiled ws → IfCompiled set x → Laid set ws
    go x e l = rw e at l

-- for all words, lengths and choices: the sheet of the call's answer, read, gives the words of the clauses that demand 3 reads in the answer
pub sheet_back : (c : Choices) (set : List ℤ) (out_length work_length : ℕ) (ws : List ℤ) → call_with c set out_length work_length ≡ compiled ws → read_sheet (sheet_text set ws) ≡ some (counted clause_words (answer_clauses set ws))
sheet_back c set o w ws e = laid_back (call_laid c set o w ws e)
