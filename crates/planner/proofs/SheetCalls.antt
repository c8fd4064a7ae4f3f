-- The call with a sheet, by the answers of `compile`. Assumes nothing.
use mathlib.Core.Path.{◌≡◌, refl, sym, ap, ◌∙◌, subst}
use mathlib.Core.Logic.{◌↔◌}
use mathlib.Core.Bool.{Bool, true, false, cond}
use mathlib.Core.List.{List}
use mathlib.Core.Option.{some}
use Prim.Native.Nat.{ℕ, ◌-◌}
use native.Mathlib.Omega.{arith}
use lib.IntN.{ℤ}
use lib.Dec.{ltb}
use lib.ListN.{length, take}
use lib.Seq.{take-append_seam}
use Rattle.laws.specs.Lists.{counted}
use Rattle.laws.specs.Slices.{zeros}
use Rattle.answer.specs.Answer.{clause_words}
use Rattle.call.specs.Call.{Result, compiled, contradiction, refused, unchosen, call, output_after}
use Rattle.call.specs.Claim.{satisfied, Passed}
use Rattle.planner.specs.declared.Answer.{Answer}
use Rattle.planner.specs.declared.Answer.TheVariants as planned
use Rattle.planner.specs.Contract.{answer_of, Compiles}
use Rattle.sheetback.specs.ReadSheet.{read_sheet}
use Rattle.sheetback.specs.Sheeted.{sheet_text, with_sheet, sheet_call, no_bytes, sheet_after}
use Rattle.sheetback.proofs.CallBack.{answer_clauses, call_laid, sheet_back}
use Rattle.sheets.specs.Contract.{sheeted_of, Sheets, Answered, SomeAnswered, Finishes, compiled_words}
use Rattle.sheets.specs.declared.Sheeted.{Sheeted}
use Rattle.sheets.specs.declared.Sheeted.TheVariants as sheeted

differ : {X : Type 0} → ◌≡◌ {A = ℕ} 0 1 → X
differ z = absurd (omega arith)

same_first : {a b c d : ℕ} → sheeted.Compiled a b ≡ sheeted.Compiled c d → a ≡ c
same_first e = cc

same_second : {a b c d : ℕ} → sheeted.Compiled a b ≡ sheeted.Compiled c d → b ≡ d
same_second e = cc

-- what the call gave
record Gave (set out work out' : List ℤ) (n : ℕ) : Type 0 where
  pub words : List ℤ
  pub call_is : call set (length out) (length work) ≡ compiled words
  pub count : n ≡ length words
  pub left : out' ≡ output_after (compiled words) (length out')

module _ {set out work out' work' : List ℤ} {r : Answer} (c : Compiles unchosen set out work out' work' r) (same : length out' ≡ length out) where
  gave : (n : ℕ) → r ≡ planned.Compiled n → Gave set out work out' n
  unfolding answer_of
  gave n e = go (call set (length out) (length work)) refl
    where
      go : (x : Result) → call set (length out) (length work) ≡ x → Gave set out work out' n
      go (compiled ws) q =
          let a : planned.Compiled n ≡ planned.Compiled (length ws) = sym e ∙ c.answer ∙ ap answer_of q in
          record { words = ws; call_is = q; count = cc; left = c.output ∙ ap (λ (x : Result). output_after x (length out)) q ∙ ap (output_after (compiled ws)) (sym same) }
      go contradiction q = let a : planned.Compiled n ≡ planned.Contradiction = sym e ∙ c.answer ∙ ap answer_of q in differ (cc)
      go (refused k) q = let a : planned.Compiled n ≡ planned.Refused k = sym e ∙ c.answer ∙ ap answer_of q in differ (cc)

  answered : {sheet : List ℕ} (sheet₀ : List ℕ) (n : ℕ) (g : Gave set out work out' n) → sheet ≡ no_bytes (length sheet₀) → length sheet ≡ length sheet₀ → Answered set g.words out' n sheet
  answered sheet₀ n g z s = record { count = g.count; left = g.left; few = (call_laid unchosen set (length out) (length work) g.words g.call_is).few; cleared = z ∙ ap no_bytes (sym s) }

  pub some_answered : {sheet : List ℕ} (sheet₀ : List ℕ) (n : ℕ) → r ≡ planned.Compiled n → sheet ≡ no_bytes (length sheet₀) → length sheet ≡ length sheet₀ → SomeAnswered set out' n sheet
  some_answered sheet₀ n e z s = let g = gave n e in record { it = g.words; answered = answered sheet₀ n g z s }

  -- ---- each answer

  module _ (sheet₀ : List ℕ) where
    call_as : (x : Result) → call set (length out) (length work) ≡ x → sheet_call set (length out) (length work) (length sheet₀) ≡ with_sheet set (length sheet₀) x
    unfolding sheet_call
    call_as x e = ap (with_sheet set (length sheet₀)) e

    -- compiled, and the sheet written
    sheeted_words : {out'' : List ℤ} {sheet'' : List ℕ} {q : Sheeted} (n : ℕ) → r ≡ planned.Compiled n → (g : Gave set out work out' n) → sheet_call set (length out) (length work) (length sheet₀) ≡ compiled g.words
        → q ≡ sheeted.Compiled (length g.words) (length (sheet_text set g.words)) → out'' ≡ output_after (compiled g.words) (length out) → sheet'' ≡ sheet_after set (compiled g.words) (length sheet₀)
        → Sheets set out work out'' work' sheet₀ sheet'' q
    unfolding sheeted_of sheet_after
    sheeted_words {out''} {sheet''} {q} n e g x a b d =
        let ws : List ℤ = g.words in
        let t : List ℕ = sheet_text set g.words in
        let out_is : out'' ≡ out' = b ∙ ap (output_after (compiled ws)) (sym same) ∙ sym g.left in
        let words_are : take (length ws) out'' ≡ ws = ap (take (length ws)) out_is ∙ compiled_words ws out' g.left in
        let text_is : take (length t) sheet'' ≡ t = ap (take (length t)) d ∙ take-append_seam t (no_bytes (length sheet₀ - length t)) in
        record {
          answer = a ∙ ap (sheeted_of set) (sym x);
          output = b ∙ ap (λ (y : Result). output_after y (length out)) (sym x);
          bytes = d ∙ ap (λ (y : Result). sheet_after set y (length sheet₀)) (sym x);
          zeroed = c.zeroed;
          exact = λ k m h δ ε i.
              let p : sheeted.Compiled k m ≡ sheeted.Compiled (length ws) (length t) = sym h ∙ a in
              let j : n ≡ k = g.count ∙ sym (same_first p) in
              subst (λ (o : List ℤ). (satisfied set δ ε ≡ true) ↔ Passed set (compiled (take k o)) δ ε) (sym out_is) (c.exact k (e ∙ ap planned.Compiled j) δ ε i);
          unsatisfied = λ h. let p : sheeted.Compiled (length ws) (length t) ≡ sheeted.Contradiction = sym a ∙ h in differ (cc);
          back = λ k m h.
              let p : sheeted.Compiled k m ≡ sheeted.Compiled (length ws) (length t) = sym h ∙ a in
              ap (λ (j : ℕ). read_sheet (take j sheet'')) (same_second p) ∙ ap read_sheet text_is ∙ sheet_back unchosen set (length out) (length work) ws g.call_is
              ∙ ap (λ (l : List ℤ). some (counted clause_words (answer_clauses set l))) (sym (ap (λ (j : ℕ). take j out'') (same_first p) ∙ words_are));
        }

    -- no answer
    refused_words : {out'' : List ℤ} {sheet'' : List ℕ} (k : ℕ) → sheet_call set (length out) (length work) (length sheet₀) ≡ refused k → out'' ≡ zeros (length out) → sheet'' ≡ no_bytes (length sheet₀) → Sheets set out work out'' work' sheet₀ sheet'' (sheeted.Refused k)
    unfolding sheeted_of sheet_after output_after
    refused_words {out''} {sheet''} k x b d = record {
      answer = ap (sheeted_of set) (sym x);
      output = b ∙ ap (λ (y : Result). output_after y (length out)) (sym x);
      bytes = d ∙ ap (λ (y : Result). sheet_after set y (length sheet₀)) (sym x);
      zeroed = c.zeroed;
      exact = λ n m h. let p : sheeted.Refused k ≡ sheeted.Compiled n m = h in differ (cc);
      unsatisfied = λ h. let p : sheeted.Refused k ≡ sheeted.Contradiction = h in differ (cc);
      back = λ n m h. let p : sheeted.Refused k ≡ sheeted.Compiled n m = h in differ (cc);
    }

    pub sheets_compiled : {sheet : List ℕ} {out'' : List ℤ} {sheet'' : List ℕ} {q : Sheeted} (n : ℕ) → r ≡ planned.Compiled n → sheet ≡ no_bytes (length sheet₀) → length sheet ≡ length sheet₀ → Finishes set out' out'' n sheet sheet'' q → Sheets set out work out'' work' sheet₀ sheet'' q
    unfolding with_sheet sheeted_of sheet_after output_after
    sheets_compiled {sheet} {out''} {sheet''} {q} n e z s f =
        let g = gave n e in
        let a = f.finishes g.words (answered sheet₀ n g z s) in
        let x : ℕ → Result = λ k. with_sheet set k (compiled g.words) in
        go g (ltb (length sheet₀) (length (sheet_text set g.words))) refl
        (a.0 ∙ ap (λ (k : ℕ). sheeted_of set (x k)) s)
        (a.1 ∙ ap (λ (k : ℕ). output_after (x k) (length out')) s ∙ ap (output_after (x (length sheet₀))) same)
        (a.2 ∙ ap (λ (k : ℕ). sheet_after set (x k) k) s)
      where
        go : (g : Gave set out work out' n) (t : Bool) → ltb (length sheet₀) (length (sheet_text set g.words)) ≡ t → q ≡ sheeted_of set (with_sheet set (length sheet₀) (compiled g.words)) → out'' ≡ output_after (with_sheet set (length sheet₀) (compiled g.words)) (length out) → sheet'' ≡ sheet_after set (with_sheet set (length sheet₀) (compiled g.words)) (length sheet₀)
            → Sheets set out work out'' work' sheet₀ sheet'' q
        go g true h a b d =
            let y : with_sheet set (length sheet₀) (compiled g.words) ≡ refused 13 = ap (λ (t : Bool). cond t (refused 13) (compiled g.words)) h in
            subst (λ (v : Sheeted). Sheets set out work out'' work' sheet₀ sheet'' v) (sym (a ∙ ap (sheeted_of set) y)) (refused_words 13 (call_as (compiled g.words) g.call_is ∙ y) (b ∙ ap (λ (v : Result). output_after v (length out)) y) (d ∙ ap (λ (v : Result). sheet_after set v (length sheet₀)) y))
        go g false h a b d =
            let y : with_sheet set (length sheet₀) (compiled g.words) ≡ compiled g.words = ap (λ (t : Bool). cond t (refused 13) (compiled g.words)) h in
            sheeted_words n e g (call_as (compiled g.words) g.call_is ∙ y) (a ∙ ap (sheeted_of set) y) (b ∙ ap (λ (v : Result). output_after v (length out)) y) (d ∙ ap (λ (v : Result). sheet_after set v (length sheet₀)) y)

    pub sheets_refused : {sheet : List ℕ} (k : ℕ) → r ≡ planned.Refused k → sheet ≡ no_bytes (length sheet₀) → Sheets set out work out' work' sheet₀ sheet (sheeted.Refused k)
    unfolding answer_of with_sheet output_after
    sheets_refused {sheet} k e z = go (call set (length out) (length work)) refl
      where
        go : (x : Result) → call set (length out) (length work) ≡ x → Sheets set out work out' work' sheet₀ sheet (sheeted.Refused k)
        go (compiled ws) q = let a : planned.Refused k ≡ planned.Compiled (length ws) = sym e ∙ c.answer ∙ ap answer_of q in differ (cc)
        go contradiction q = let a : planned.Refused k ≡ planned.Contradiction = sym e ∙ c.answer ∙ ap answer_of q in differ (cc)
        go (refused j) q =
            let a : planned.Refused k ≡ planned.Refused j = sym e ∙ c.answer ∙ ap answer_of q in
            let i : j ≡ k = cc in
            refused_words k (call_as (refused j) q ∙ ap refused i) (c.output ∙ ap (λ (x : Result). output_after x (length out)) q) z

    pub sheets_contradiction : {sheet : List ℕ} → r ≡ planned.Contradiction → sheet ≡ no_bytes (length sheet₀) → Sheets set out work out' work' sheet₀ sheet sheeted.Contradiction
    unfolding answer_of with_sheet sheeted_of sheet_after output_after
    sheets_contradiction {sheet} e z = go (call set (length out) (length work)) refl
      where
        go : (x : Result) → call set (length out) (length work) ≡ x → Sheets set out work out' work' sheet₀ sheet sheeted.Contradiction
        go (compiled ws) q = let a : planned.Contradiction ≡ planned.Compiled (length ws) = sym e ∙ c.answer ∙ ap answer_of q in differ (cc)
        go (refused j) q = let a : planned.Contradiction ≡ planned.Refused j = sym e ∙ c.answer ∙ ap answer_of q in differ (cc)
        go contradiction q =
            let x : sheet_call set (length out) (length work) (length sheet₀) ≡ contradiction = call_as contradiction q in
            record {
              answer = ap (sheeted_of set) (sym x);
              output = c.output ∙ ap (λ (y : Result). output_after y (length out)) (q ∙ sym x);
              bytes = z ∙ ap (λ (y : Result). sheet_after set y (length sheet₀)) (sym x);
              zeroed = c.zeroed;
              exact = λ n m h. let p : sheeted.Contradiction ≡ sheeted.Compiled n m = h in differ (cc);
              unsatisfied = λ h. c.unsatisfied e;
              back = λ n m h. let p : sheeted.Contradiction ≡ sheeted.Compiled n m = h in differ (cc);
            }
