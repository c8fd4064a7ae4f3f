-- Refusals 1 to 11 of a set's words, or what it says.
use Rattle.std.specs.Prelude.{cond, List, ℕ, zero, suc, ℤ, ltb, length}
use Rattle.syntax.specs.Words.{min_work_words, max_set_words}
use Rattle.syntax.specs.Syntax.{Problem}
use Rattle.words.specs.Parse.{Parsed, ok, refuse, Parser, parse_then}
use Rattle.read.specs.Read.{read_set}
use Rattle.limits.specs.Limits.{check}

-- the refusal that `check` gives, if any
unfoldable pub limited : ℕ → Problem → Parser Problem
limited zero p r = ok p r
limited (suc k) p r = refuse (suc k)

unfoldable pub admitted : ℕ → List ℤ → Parsed Problem
admitted work_length set =
    cond (ltb work_length min_work_words) (refuse 1)
    (cond (ltb max_set_words (length set)) (refuse 2)
    (parse_then (read_set set) (λ p. limited (check p) p)))
