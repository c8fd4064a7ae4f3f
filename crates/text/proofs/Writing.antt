-- A law for each answer of the functions that print the listing, over variables. Assumes nothing.
use mathlib.Core.Path.{◌≡◌, refl, ap, ◌∙◌}
use mathlib.Core.List.{List, [], ◌∷◌}
use Prim.Native.Nat.{ℕ, min}
use lib.IntN.{ℤ}
use lib.ListN.{length, drop}
use lib.Seq.{sets}
use Rattle.decimal.specs.Bytes.{line_feed, bools_key, ints_key, fixed_key, emitted_key, clauses_key, total_key, compiled_line, contradiction_line, refused_start, unread_line}
use Rattle.decimal.specs.Decimal.{print_natural}
use Rattle.decimal.specs.Puts.{Puts, puts_then, puts_as, text_result}
use Rattle.lines.specs.Lines.{count_word, times, print_domain, print_clause, total}
use Rattle.lines.specs.Output.{Printed, Stops, line_of}
use Rattle.text.specs.Listing.{print_clauses, print_emitted, print_compiled, print_answer}
use Rattle.text.specs.declared.Answer.{Answer}
use Rattle.text.specs.declared.Answer.TheVariants as answer

-- ---- the last lines, the whole

pub rest_shown : (ws : List ℤ) (from n a : ℕ) (out : List ℕ) (at : ℕ) (o₁ : List ℕ) (i₁ c t : ℕ) (o₂ : List ℕ) (i₂ d : ℕ) (o₃ : List ℕ) (i₃ : ℕ) (o₄ : List ℕ) (i₄ : ℕ) (out' : List ℕ) (r : ℕ)
    → n ≡ count_word (drop from ws) → Stops ws from 1 a → Printed (times print_clause n (drop a ws)) ws a out at o₁ i₁ c → t ≡ total n (drop a ws)
    → Printed (line_of clauses_key 1 (drop from ws)) ws from o₁ i₁ o₂ i₂ d → Puts o₂ i₂ total_key o₃ i₃ → Puts o₃ i₃ (print_natural t) o₄ i₄ → Puts o₄ i₄ (line_feed ∷ []) out' r
    → Puts out at (print_clauses (drop from ws)) out' r
unfolding line_of print_clauses
rest_shown ws from n a out at o₁ i₁ c t o₂ i₂ d o₃ i₃ o₄ i₄ out' r m s p e q x u y =
    puts_as _ (rw (e, m, s.rest) refl) (puts_then p.text (puts_then q.text (puts_then x (puts_then u y))))

pub emitted_shown : (ws : List ℤ) (from a n : ℕ) (out : List ℕ) (at : ℕ) (o₁ : List ℕ) (i₁ b : ℕ) (o₂ : List ℕ) (i₂ c : ℕ) (out' : List ℕ) (r : ℕ)
    → Stops ws from 1 a → n ≡ count_word (drop a ws) → Printed (line_of emitted_key 2 (drop from ws)) ws from out at o₁ i₁ b → Printed (times print_domain n (drop b ws)) ws b o₁ i₁ o₂ i₂ c → Puts o₂ i₂ (print_clauses (drop c ws)) out' r
    → Puts out at (print_emitted (drop from ws)) out' r
unfolding line_of print_emitted
emitted_shown ws from a n out at o₁ i₁ b o₂ i₂ c out' r s m p q y =
    let k : n ≡ count_word (drop 1 (drop from ws)) = m ∙ ap count_word s.rest in
    puts_as _ (rw (q.rest, p.rest, k) refl) (puts_then p.text (puts_then q.text y))

pub compiled_shown : (ws : List ℤ) (bools ints : ℕ) (out : List ℕ) (o₁ : List ℕ) (i₁ : ℕ) (o₂ : List ℕ) (i₂ a : ℕ) (o₃ : List ℕ) (i₃ b : ℕ) (o₄ : List ℕ) (i₄ c : ℕ) (out' : List ℕ) (r : ℕ)
    → Puts out 0 compiled_line o₁ i₁ → Printed (line_of fixed_key bools (drop 0 ws)) ws 0 o₁ i₁ o₂ i₂ a → Printed (line_of bools_key bools (drop a ws)) ws a o₂ i₂ o₃ i₃ b → Printed (line_of ints_key ints (drop b ws)) ws b o₃ i₃ o₄ i₄ c → Puts o₄ i₄ (print_emitted (drop c ws)) out' r
    → Puts out 0 (print_compiled bools ints ws) out' r
unfolding line_of print_compiled
compiled_shown ws bools ints out o₁ i₁ o₂ i₂ a o₃ i₃ b o₄ i₄ c out' r x p q u y =
    let e : drop a ws ≡ drop bools ws = p.rest in
    let f : drop b ws ≡ drop bools (drop bools ws) = q.rest ∙ ap (drop bools) e in
    let g : drop c ws ≡ drop ints (drop bools (drop bools ws)) = u.rest ∙ ap (drop ints) f in
    puts_as _ (rw (e, f, g) refl) (puts_then x (puts_then p.text (puts_then q.text (puts_then u.text y))))

pub refused_shown : (k : ℕ) (out : List ℕ) (o₁ : List ℕ) (i₁ : ℕ) (o₂ : List ℕ) (i₂ : ℕ) (out' : List ℕ) (r : ℕ) → Puts out 0 refused_start o₁ i₁ → Puts o₁ i₁ (print_natural k) o₂ i₂ → Puts o₂ i₂ (line_feed ∷ []) out' r → Puts out 0 (print_answer (answer.Refused k) 0 0 []) out' r
unfolding print_answer
refused_shown k out o₁ i₁ o₂ i₂ out' r x y z = puts_then x (puts_then y z)

-- ---- the four answers

module _ (ws : List ℤ) (bools ints : ℕ) (out out' : List ℕ) (r : ℕ) (a : Answer) where
  abbrev Result : Type 0
  Result = (r ≡ min (length (print_answer a bools ints ws)) (length out)) × (out' ≡ sets out 0 (print_answer a bools ints ws))

  pub told_compiled : a ≡ answer.Compiled → Puts out 0 (print_compiled bools ints ws) out' r → Result
  unfolding print_answer
  told_compiled e w = text_result out (print_answer a bools ints ws) out' r (puts_as _ (rw e refl) w)

  pub told_contradiction : a ≡ answer.Contradiction → Puts out 0 contradiction_line out' r → Result
  unfolding print_answer
  told_contradiction e w = text_result out (print_answer a bools ints ws) out' r (puts_as _ (rw e refl) w)

  pub told_unread : a ≡ answer.Unread → Puts out 0 unread_line out' r → Result
  unfolding print_answer
  told_unread e w = text_result out (print_answer a bools ints ws) out' r (puts_as _ (rw e refl) w)

  pub told_refused : (k : ℕ) → a ≡ answer.Refused k → Puts out 0 (print_answer (answer.Refused k) 0 0 []) out' r → Result
  unfolding print_answer
  told_refused k e w = text_result out (print_answer a bools ints ws) out' r (puts_as _ (rw e refl) w)
