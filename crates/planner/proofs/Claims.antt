-- From the answer and the output to the whole contract: demand 3 of the words written.
use mathlib.Core.Path.{◌≡◌, refl, sym, ap, ◌∙◌, subst}
use mathlib.Core.Logic.{◌↔◌}
use mathlib.Core.Bool.{Bool, true, false}
use mathlib.Core.List.{List}
use Prim.Native.Nat.{ℕ, ◌-◌}
use lib.IntN.{ℤ}
use lib.ListN.{length, take}
use lib.Seq.{take_at}
use Rattle.laws.specs.Ints.{apart}
use Rattle.laws.specs.Slices.{zeros}
use Rattle.syntax.specs.Satisfies.{Val, IVal}
use Rattle.call.specs.Call.{Result, compiled, contradiction, refused, call_with, output_after}
use Rattle.call.specs.declared.Choices.{Choices}
use Rattle.call.specs.Claim.{within, satisfied, Passed, NotRefused}
use Rattle.call.proofs.Demand.{demand_3, demand_3_consequences}
use Rattle.planner.specs.declared.Answer.{Answer}
use Rattle.planner.specs.declared.Answer.TheVariants.{Compiled, Contradiction}
use Rattle.planner.specs.Contract.{answer_of, Compiles}
use Rattle.planner.specs.Steps.{Gives}

-- ---- demand 3 of a result

module _ (c : Choices) (set : List ℤ) (o n : ℕ) (δ : Val) (ε : IVal) (inside : within set ε ≡ true) where
  told : (x : Result) → call_with c set o n ≡ x → NotRefused x → (satisfied set δ ε ≡ true) ↔ Passed set x δ ε
  told x e h =
      subst (λ (y : Result). NotRefused y → (satisfied set δ ε ≡ true) ↔ Passed set y δ ε) e (λ k. demand_3 c set o n k δ ε inside) h

  words_told : (x : Result) → call_with c set o n ≡ x → (out' : List ℤ) (m : ℕ) → answer_of x ≡ Compiled m → out' ≡ output_after x o → (satisfied set δ ε ≡ true) ↔ Passed set (compiled (take m out')) δ ε
  unfolding answer_of output_after
  words_told (compiled ws) e out' m a z =
      let l : length ws ≡ m = cc in
      let t : ws ≡ take m out' = sym (ap (take m) z ∙ take_at ws (zeros (o - length ws)) m l) in
      subst (λ (us : List ℤ). (satisfied set δ ε ≡ true) ↔ Passed set (compiled us) δ ε) t (told (compiled ws) e (λ k f. apart (cc)))
  words_told contradiction e out' m a z = apart (cc)
  words_told (refused k) e out' m a z = apart (cc)

  not-true : (b : Bool) → (b ≡ true → ⊥) → b ≡ false
  not-true true h = absurd (h refl)
  not-true false h = refl

  none_told : (x : Result) → call_with c set o n ≡ x → answer_of x ≡ Contradiction → satisfied set δ ε ≡ false
  unfolding answer_of Passed
  none_told (compiled ws) e a = apart (cc)
  none_told contradiction e a = not-true (satisfied set δ ε) (told contradiction e (λ k f. apart (cc))).0
  none_told (refused k) e a = apart (cc)

pub compiles : (c : Choices) (set out work out' work' : List ℤ) (r : Answer) → Gives (call_with c set (length out) (length work)) (length out) out' r → work' ≡ zeros (length work) → Compiles c set out work out' work' r
compiles c set out work out' work' r g z =
    let x : Result = call_with c set (length out) (length work) in
    record {
      answer = g.answer;
      output = g.output;
      zeroed = z;
      exact = λ m e δ ε i. words_told c set (length out) (length work) δ ε i x refl out' m (sym g.answer ∙ e) g.output;
      unsatisfied = λ e δ ε i. none_told c set (length out) (length work) δ ε i x refl (sym g.answer ∙ e);
      consequences = demand_3_consequences;
    }
