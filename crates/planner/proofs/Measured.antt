-- Refusal 12, exactly; and the steps of `emit`.
use mathlib.Core.Path.{◌≡◌, refl, sym, ap, ◌∙◌, subst}
use mathlib.Core.Bool.{Bool, true, false, ◌||◌, cond}
use mathlib.Core.List.{List, ◌++◌}
use Prim.Native.Nat.{ℕ, ◌≤◌, ◌<◌, min}
use native.Mathlib.Omega.{arith}
use lib.IntN.{ℤ}
use lib.ListN.{length, take, drop}
use lib.Seq.{sets, length-take-le}
use lib.Dec.{ltb}
use borrow.Author.Tests.{lt-ltb, le-ltb, ltb-false}
use Rattle.laws.specs.Slices.{zeros}
use Rattle.syntax.specs.Words.{max_answer_words}
use Rattle.syntax.specs.Syntax.{Stmt, Problem}
use Rattle.fold.specs.Fold.{Fixed}
use Rattle.answer.specs.Answer.{layout, normalize}
use Rattle.call.specs.Call.{Result, compiled, refused, measured, output_after}
use Rattle.planner.specs.declared.Answer.{Answer}
use Rattle.planner.specs.declared.Answer.TheVariants as answer
use Rattle.planner.specs.Contract.{answer_of}
use Rattle.planner.specs.Steps.{Gives, Writes, SomeWrites, WrittenAnswer, Emits, SomeEmits, EmitPost}
use Rattle.planner.proofs.Zeros.{sets_part}

measured_fits : (n : ℕ) (ws : List ℤ) → length ws ≤ n → length ws ≤ max_answer_words → measured n ws ≡ compiled ws
unfolding measured
measured_fits n ws h k = rw (le-ltb n (length ws) h, le-ltb max_answer_words (length ws) k) refl

measured_long : (n : ℕ) (ws : List ℤ) → min n max_answer_words < length ws → measured n ws ≡ refused 12
unfolding measured
measured_long n ws h = go (ltb n (length ws)) refl
  where
    go : (t : Bool) → ltb n (length ws) ≡ t → cond (t || ltb max_answer_words (length ws)) (refused 12) (compiled ws) ≡ refused 12
    go true e = refl
    go false e = rw (lt-ltb max_answer_words (length ws) (omega (arith, ltb-false n (length ws) e))) refl

-- a result is what its steps gave
pub gives_to : {x y : Result} {n : ℕ} {out' : List ℤ} {r : Answer} → y ≡ x → Gives x n out' r → Gives y n out' r
gives_to {x} {y} {n} {out'} {r} e g = subst (λ (z : Result). Gives z n out' r) (sym e) g

gives_long : (n : ℕ) (ws out' : List ℤ) → min n max_answer_words < length ws → out' ≡ zeros n → Gives (measured n ws) n out' (answer.Refused 12)
unfolding answer_of output_after
gives_long n ws out' h e = gives_to (measured_long n ws h) (record { answer = refl; output = e })

-- room: as much of the output as an answer can fill
gives_words : (out ws part : List ℤ) (room words : ℕ) → out ≡ zeros (length out) → room ≡ min (length out) max_answer_words → words ≡ length ws → words ≤ room
    → part ≡ sets (take room out) 0 ws → Gives (measured (length out) ws) (length out) (part ++ drop room out) (answer.Compiled words)
unfolding answer_of output_after
gives_words out ws part room words z er ew h e =
    let n : ℕ = length out in
    gives_to (measured_fits n ws (omega arith) (omega arith)) (record {
      answer = ap answer.Compiled ew;
      output = ap (λ (x : List ℤ). x ++ drop room out) e ∙ ap (λ (x : List ℤ). sets (take room x) 0 ws ++ drop room x) z ∙ sets_part n room ws (omega arith) (omega arith);
    })

-- ---- the steps of `emit`

module _ (merge : Bool) (set' w : List ℤ) (b i end : ℕ) (out : List ℤ) (room : ℕ) (cut : room ≡ min (length out) max_answer_words) where
  part_size : length (take room out) ≡ room
  part_size = length-take-le room out (omega arith)

  writes : (p : Problem) (f : Fixed) (ss : List Stmt) → Emits p f ss set' w b i end out → Writes p f ss set' w b i end (take room out)
  writes p f ss h = record { held = h.held; bools = h.bools; part = omega (arith, part_size) }

  pub some_writes : SomeEmits set' w b i end out → SomeWrites set' w b i end (take room out)
  some_writes s = record { it = s.it; fixed = s.fixed; stmts = s.stmts; writes = writes s.it s.fixed s.stmts s.emits }

  module _ (part : List ℤ) (words : ℕ) (wa : WrittenAnswer merge set' w b i end (take room out) part words) where
    pub emit_compiled : words ≤ room → EmitPost merge set' w b i end out (part ++ drop room out) (answer.Compiled words)
    emit_compiled l p f ss h =
        let x = wa p f ss (writes p f ss h) in
        gives_words out (layout (normalize merge p f ss)) part room words h.zeroed cut (x.exact (omega (arith, part_size))) l (x.words (omega (arith, part_size)))

    pub emit_long : room < words → (out' : List ℤ) → out' ≡ zeros (length out) → EmitPost merge set' w b i end out out' (answer.Refused 12)
    emit_long l out' e p f ss h = gives_long (length out) (layout (normalize merge p f ss)) out' (omega (arith, (wa p f ss (writes p f ss h)).long (omega (arith, part_size)), part_size)) e
