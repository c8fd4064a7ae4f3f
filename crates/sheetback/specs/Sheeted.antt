-- The sheet of an answer, and the call that writes it: refusal 13, tested last. Assumes nothing.
use Rattle.std.specs.Prelude.{cond, List, ◌++◌, ℕ, ◌-◌, ℤ, ltb, length, drop, replicate}
use Rattle.call.specs.Call.{Result, compiled, contradiction, refused, call}
use Rattle.lines.specs.Lines.{count_word, times, print_domain}
use Rattle.page.specs.Sheet.{print_sheet}

-- an answer's words from the count of clauses on; b, i: the counts of declared variables
unfoldable pub from_clauses : ℕ → ℕ → List ℤ → List ℤ
from_clauses b i ws = let es = drop i (drop b (drop b ws)) in (times print_domain (count_word (drop 1 es)) (drop 2 es)).rest

-- the set's first two words are these counts
unfoldable pub clauses_part : List ℤ → List ℤ → List ℤ
clauses_part set ws = from_clauses (count_word set) (count_word (drop 1 set)) ws

unfoldable pub sheet_text : List ℤ → List ℤ → List ℕ
sheet_text set ws = print_sheet (clauses_part set ws)

-- 13: the sheet does not fit
unfoldable pub with_sheet : List ℤ → ℕ → Result → Result
with_sheet set sheet-length (compiled ws) = cond (ltb sheet-length (length (sheet_text set ws))) (refused 13) (compiled ws)
with_sheet set sheet-length contradiction = contradiction
with_sheet set sheet-length (refused k) = refused k

unfoldable pub sheet_call : (set : List ℤ) (out_length work_length sheet-length : ℕ) → Result
sheet_call set out_length work_length sheet-length = with_sheet set sheet-length (call set out_length work_length)

abbrev pub no_bytes : ℕ → List ℕ
no_bytes n = replicate n 0

-- the sheet slice after the call
unfoldable pub sheet_after : List ℤ → Result → ℕ → List ℕ
sheet_after set (compiled ws) n = sheet_text set ws ++ no_bytes (n - length (sheet_text set ws))
sheet_after set contradiction n = no_bytes n
sheet_after set (refused k) n = no_bytes n
