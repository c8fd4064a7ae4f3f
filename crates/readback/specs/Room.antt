-- The listing of an answer of at most 16384 words, each within i32, has at most 262144 bytes. Assumes nothing.
use Rattle.std.specs.Prelude.{◌≡◌, Bool, true, false, ◌||◌, cond, ltb, drop}
use Rattle.std.proofs.Math.Path.{refl, sym}
use Rattle.std.proofs.Common.{ap, ◌∙◌, leb-true, ltb-false}
use mathlib.Core.List.{List, [], ◌∷◌, ◌++◌, map}
use Prim.Native.Nat.{ℕ, zero, suc, ◌+◌, ◌*◌, ◌≤◌, ◌<◌}
use native.Mathlib.Omega.{arith}
use Rattle.std.proofs.Math.IntN.{ℤ, pos}
use Rattle.std.proofs.Math.ListN.{length, length-append}
use Rattle.std.proofs.lemmas.List.{length-map}
use Rattle.laws.specs.Bools.{and_l, and_r}
use Rattle.laws.specs.Lists.{all, flat, counted, below, length_from}
use Rattle.syntax.specs.Words.{max_set_words, min_work_words, max_answer_words}
use Rattle.syntax.specs.Syntax.{encode_op, Stmt, Problem}
use Rattle.words.specs.Parse.{Parsed, ok, refuse}
use Rattle.read.specs.Read.{read_set}
use Rattle.limits.specs.Limits.{check}
use Rattle.fold.specs.Fold.{Fixed}
use Rattle.fold.specs.Optimize.{Outcome, inconsistent, settled, optimize}
use Rattle.sums.specs.LinearSum.{linear_sum}
use Rattle.clauses.specs.Clause.{lit, LinearLit, linear, Clause, clause}
use Rattle.answer.specs.Answer.{Emitted, ranging, following, Answer, layout, answer_of, normalize, fixed_word, map_word, bool_word, emitted_words, lit_words, linear_words, clause_words}
use Rattle.call.specs.Call.{Result, compiled, contradiction, refused, measured, answered, checked, when_read, call_with}
use Rattle.call.specs.declared.Choices.{Choices}
use Rattle.decimal.specs.Bytes.{colon, line_feed, bools_key, ints_key, fixed_key, emitted_key, domain_key, clause_key, clauses_key, total_key, compiled_line}
use Rattle.decimal.specs.Decimal.{print_natural, print_number}
use Rattle.decimal.specs.Widths.{natural_short, fitting, number_short}
use Rattle.lines.specs.Lines.{count_word, print_more, print_numbers, print_line}
use Rattle.text.specs.Listing.{print_compiled, print_answer}
use Rattle.readback.specs.Listed.{print_result}

-- a byte for each number's separator
unfoldable pub bytes : List ℤ → ℕ
bytes [] = 0
bytes (z ∷ zs) = length (print_number z) + 1 + bytes zs

abbrev pub Short : List ℕ → List ℤ → Type 0
Short text ws = length text ≤ bytes ws + 3 * length ws

-- what the code's types say of a result: words within i32, a refusal's number within usize
abbrev pub Typed : Result → Type 0
Typed (compiled ws) = all fitting ws ≡ true
Typed contradiction = Unit
Typed (refused k) = k < 18446744073709551616

abbrev pub Room : List ℤ → Result → Type 0
Room set r = Typed r → length (print_result set r) ≤ 262144
