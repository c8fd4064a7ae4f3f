-- The listing: the bytes that are printed for an answer, from the answer's words. Where the words end early, what is there is printed. Assumes nothing.
use Rattle.std.specs.Prelude.{List, [], ◌∷◌, ◌++◌, ℕ, ℤ, take, drop}
use Rattle.decimal.specs.Bytes.{line_feed, bools_key, ints_key, fixed_key, emitted_key, clauses_key, total_key, compiled_line, contradiction_line, refused_start, unread_line}
use Rattle.decimal.specs.Decimal.{print_natural}
use Rattle.lines.specs.Lines.{count_word, print_line, times, print_domain, print_clause, total}
use Rattle.text.specs.declared.Answer.{Answer}
use Rattle.text.specs.declared.Answer.TheVariants.{Compiled, Contradiction, Refused, Unread}

-- the count of clauses and the clauses
unfoldable pub print_clauses : List ℤ → List ℕ
print_clauses ws =
    (times print_clause (count_word ws) (drop 1 ws)).text
    ++ (print_line clauses_key (take 1 ws)
    ++ (total_key ++ (print_natural (total (count_word ws) (drop 1 ws)) ++ (line_feed ∷ []))))

-- the two emitted counts, the domains, the clauses
unfoldable pub print_emitted : List ℤ → List ℕ
print_emitted ws =
    let ds = times print_domain (count_word (drop 1 ws)) (drop 2 ws) in
    print_line emitted_key (take 2 ws) ++ (ds.text ++ print_clauses ds.rest)

-- b, i: the counts of declared Boolean and integer variables
unfoldable pub print_compiled : ℕ → ℕ → List ℤ → List ℕ
print_compiled b i ws =
    let ms = drop b ws in
    let is = drop b ms in
    compiled_line
    ++ (print_line fixed_key (take b ws)
    ++ (print_line bools_key (take b ms)
    ++ (print_line ints_key (take i is)
    ++ print_emitted (drop i is))))

unfoldable pub print_answer : Answer → ℕ → ℕ → List ℤ → List ℕ
print_answer Compiled b i ws = print_compiled b i ws
print_answer Contradiction b i ws = contradiction_line
print_answer (Refused k) b i ws = refused_start ++ (print_natural k ++ (line_feed ∷ []))
print_answer Unread b i ws = unread_line
