-- A law for each answer of the functions below the call with a sheet, over variables. Assumes nothing.
use mathlib.Core.Path.{◌≡◌, refl, sym, ap, ◌∙◌, subst}
use mathlib.Core.Bool.{true, false}
use mathlib.Core.List.{List, [], ◌∷◌, ◌++◌}
use Prim.Native.Nat.{ℕ, zero, suc, ◌+◌, ◌-◌, ◌*◌, ◌≤◌, ◌<◌}
use native.Mathlib.Omega.{arith}
use lib.IntN.{ℤ, pos}
use lib.Dec.{ltb}
use lib.ListN.{length, take, drop, set, length-append, length-replicate}
use lib.Seq.{sets, sets-eq, drop-nil, drop-drop}
use borrow.Author.Tests.{lt-ltb, le-ltb}
use Rattle.laws.specs.Slices.{zeros}
use Rattle.syntax.specs.Words.{max_answer_words}
use Rattle.call.specs.Call.{compiled, output_after}
use Rattle.lines.specs.Lines.{count_word, times, print_domain}
use Rattle.lines.specs.Output.{Stops}
use Rattle.page.specs.Sheet.{print_sheet}
use Rattle.page.specs.Writes.{Wrote}
use Rattle.sheetback.specs.Sheeted.{from_clauses, clauses_part, sheet_text, with_sheet, no_bytes, sheet_after}
use Rattle.sheets.specs.Contract.{sheeted_of, Answered, SomeAnswered, Finishes, compiled_words}
use Rattle.sheets.specs.declared.Sheeted.TheVariants.{Compiled, Refused}

-- ---- the place of the count of clauses

after_one : (w : ℤ) (ws : List ℤ) → (print_domain (w ∷ ws)).rest ≡ drop 4 (w ∷ ws)
unfolding print_domain
after_one w ws = refl

domains_drop : (n : ℕ) (ws : List ℤ) → (times print_domain n ws).rest ≡ drop (4 * n) ws
unfolding times
domains_drop zero ws = refl
domains_drop (suc n) [] = sym (drop-nil (4 * suc n))
domains_drop (suc n) (w ∷ ws) =
    let e : 4 + 4 * n ≡ 4 * suc n = omega arith in
    ap (λ (l : List ℤ). (times print_domain n l).rest) (after_one w ws) ∙ domains_drop n (drop 4 (w ∷ ws)) ∙ drop-drop (4 * n) 4 (w ∷ ws) ∙ ap (λ (k : ℕ). drop k (w ∷ ws)) e

pub clauses_found : (ws : List ℤ) (b i a₁ a₂ c d n e r : ℕ) → Stops ws 0 b a₁ → Stops ws a₁ b a₂ → Stops ws a₂ i c → Stops ws c 1 d → n ≡ count_word (drop d ws) → Stops ws c 2 e → Stops ws e (4 * n) r → (drop r ws ≡ from_clauses b i ws) × (r ≤ length ws)
unfolding from_clauses
clauses_found ws b i a₁ a₂ c d n e r s₁ s₂ s₃ s₄ m s₅ s₆ =
    let f : drop c ws ≡ drop i (drop b (drop b ws)) = s₃.rest ∙ ap (drop i) (s₂.rest ∙ ap (drop b) s₁.rest) in
    let g : (times print_domain (count_word (drop 1 (drop c ws))) (drop 2 (drop c ws))).rest ≡ (times print_domain (count_word (drop 1 (drop i (drop b (drop b ws))))) (drop 2 (drop i (drop b (drop b ws))))).rest = ap (λ (es : List ℤ). (times print_domain (count_word (drop 1 es)) (drop 2 es)).rest) f in
    let k : n ≡ count_word (drop 1 (drop c ws)) = m ∙ ap count_word s₄.rest in
    (s₆.rest ∙ ap (drop (4 * n)) s₅.rest ∙ sym (domains_drop n (drop 2 (drop c ws))) ∙ ap (λ (x : ℕ). (times print_domain x (drop 2 (drop c ws))).rest) k ∙ g, s₆.high)

pub sheet_of_words : {sheet sheet' : List ℕ} {r : ℕ} (set ws : List ℤ) (b i at : ℕ) → b ≡ count_word (drop 0 set) → i ≡ count_word (drop 1 set) → drop at ws ≡ from_clauses b i ws → Wrote sheet 0 (print_sheet (drop at ws)) sheet' r → Wrote sheet 0 (sheet_text set ws) sheet' r
unfolding sheet_text clauses_part
sheet_of_words {sheet} {sheet'} {r} set ws b i at hb hi e w =
    let f : drop at ws ≡ from_clauses (count_word set) (count_word (drop 1 set)) ws = e ∙ ap (λ (x : ℕ). from_clauses x i ws) hb ∙ ap (λ (x : ℕ). from_clauses (count_word set) x ws) hi in
    subst (λ (l : List ℤ). Wrote sheet 0 (print_sheet l) sheet' r) f w

-- ---- the end of the call

zeros_length : (n : ℕ) → length (zeros n) ≡ n
zeros_length n = length-replicate n (pos 0)

compiled_fits : (ws output : List ℤ) → output ≡ output_after (compiled ws) (length output) → length ws ≤ length output
unfolding output_after
compiled_fits ws output e = let z : ℕ = length output - length ws in omega (arith, ap length e, length-append ws (zeros z), zeros_length z)

pub some_fits : {set output : List ℤ} {n : ℕ} {sheet : List ℕ} → SomeAnswered set output n sheet → (n ≡ length (take n output)) × (n ≤ length output) × (length (take n output) ≤ max_answer_words)
some_fits {set} {output} {n} s =
    let a = s.answered in
    let e : take n output ≡ s.it = ap (λ (k : ℕ). take k output) a.count ∙ compiled_words s.it output a.left in
    let l = compiled_fits s.it output a.left in
    let f = a.few in
    let c = a.count in
    (omega (arith, ap length e), omega arith, omega (arith, ap length e))

drop_zeros : (k n : ℕ) → drop k (no_bytes n) ≡ no_bytes (n - k)
drop_zeros zero n = let e : n ≡ n - 0 = omega arith in ap no_bytes e
drop_zeros (suc k) zero = let e : 0 ≡ 0 - suc k = omega arith in ap no_bytes e
drop_zeros (suc k) (suc n) = drop_zeros k n ∙ ap no_bytes (let e : n - k ≡ suc n - suc k = omega arith in e)

module _ {set output : List ℤ} {n : ℕ} {sheet mid : List ℕ} {m : ℕ} (w : Wrote sheet 0 (sheet_text set (take n output)) mid m) where
  text_is : (ws : List ℤ) → Answered set ws output n sheet → sheet_text set (take n output) ≡ sheet_text set ws
  text_is ws a = ap (sheet_text set) (ap (λ (k : ℕ). take k output) a.count ∙ compiled_words ws output a.left)

  pub finish_fits : m ≤ length mid → length mid ≡ length sheet → Finishes set output output n sheet mid (Compiled n m)
  unfolding with_sheet sheeted_of sheet_after
  finish_fits h z = record {
    finishes = λ ws a.
        let t : List ℕ = sheet_text set ws in
        let e : sheet_text set (take n output) ≡ t = text_is ws a in
        let c : m ≡ length t = let f = w.after in omega (arith, ap length e) in
        let f : ltb (length sheet) (length t) ≡ false = le-ltb (length sheet) (length t) (omega arith) in
        let s : mid ≡ t ++ no_bytes (length sheet - length t) = w.bytes ∙ ap (sets sheet 0) e ∙ sets-eq t sheet 0 (omega arith) ∙ ap (λ (k : ℕ). t ++ drop k sheet) (let k : 0 + length t ≡ length t = omega arith in k) ∙ ap (λ (l : List ℕ). t ++ l) (ap (drop (length t)) a.cleared ∙ drop_zeros (length t) (length sheet)) in
        rw f (rw (a.count, c) refl, a.left, s);
  }

  pub finish_over : {out' : List ℤ} {sheet' : List ℕ} → length mid < m → length mid ≡ length sheet → out' ≡ zeros (length output) → sheet' ≡ no_bytes (length mid) → Finishes set output out' n sheet sheet' (Refused 13)
  unfolding with_sheet sheeted_of sheet_after output_after
  finish_over {out'} {sheet'} h z o s = record {
    finishes = λ ws a.
        let t : List ℕ = sheet_text set ws in
        let c : m ≡ length t = let f = w.after in omega (arith, ap length (text_is ws a)) in
        let f : ltb (length sheet) (length t) ≡ true = lt-ltb (length sheet) (length t) (omega arith) in
        rw f (refl, o, s ∙ ap no_bytes z);
  }
