-- Reading a listing: the result of the call that its lines say. Its numbers may be of any size. Assumes nothing.
use Rattle.std.specs.Prelude.{cond, List, [], ◌∷◌, ◌++◌, ℕ, zero, suc, ◌+◌, ◌/◌, ℤ, pos, negsuc, eqb, length}
use Rattle.std.proofs.Math.Option.{Option, none, some}
use Rattle.decimal.specs.Bytes.{comma, semicolon, colon, minus, line_feed, bools_key, ints_key, fixed_key, emitted_key, domain_key, clause_key, clauses_key, total_key, compiled_line, contradiction_line, refused_start}
use Rattle.decimal.specs.Decimal.{is_empty, read_natural}
use Rattle.input.specs.ReadText.{split, after, join, single, Reader}
use Rattle.lines.specs.Lines.{count_word, after_literals}
use Rattle.call.specs.Call.{Result, compiled, contradiction, refused}

-- ---- numbers

abbrev pub plain_of : Option ℕ → Option ℤ
plain_of none = none
plain_of (some n) = some (pos n)

abbrev pub negated_of : Option ℕ → Option ℤ
negated_of none = none
negated_of (some zero) = none
negated_of (some (suc n)) = some (negsuc n)

unfoldable pub read_integer : List ℕ → Option ℤ
read_integer [] = none
read_integer (b ∷ bs) = cond (eqb b minus) (negated_of (read_natural bs)) (plain_of (read_natural (b ∷ bs)))

unfoldable pub read_integers : List (List ℕ) → Option (List ℤ)
read_integers [] = some []
read_integers (p ∷ ps) = join (single (read_integer p)) (read_integers ps)

-- any number of them, parted by commas
unfoldable pub read_part : List ℕ → Option (List ℤ)
read_part bs = cond (is_empty bs) (some []) (read_integers (split comma bs))

-- ---- a clause

-- a count, then what was read
abbrev pub headed : ℕ → Option (List ℤ) → Option (List ℤ)
headed n none = none
headed n (some zs) = some (pos n ∷ zs)

-- how many, then what was read
abbrev pub sized : Option (List ℤ) → Option (List ℤ)
sized none = none
sized (some zs) = some (pos (length zs) ∷ zs)

-- how many pairs, then what was read
abbrev pub paired : Option (List ℤ) → Option (List ℤ)
paired none = none
paired (some zs) = some (pos (length zs / 2) ∷ zs)

-- operator, constant and terms, which colons part
unfoldable pub read_comparison : List (List ℕ) → Option (List ℤ)
read_comparison [] = none
read_comparison (o ∷ []) = none
read_comparison (o ∷ c ∷ []) = none
read_comparison (o ∷ c ∷ ts ∷ []) = join (single (read_integer o)) (join (single (read_integer c)) (paired (read_part ts)))
read_comparison (o ∷ c ∷ ts ∷ p ∷ ps) = none

unfoldable pub read_comparisons : List (List ℕ) → Option (List ℤ)
read_comparisons [] = some []
read_comparisons (p ∷ ps) = join (read_comparison (split colon p)) (read_comparisons ps)

-- literals and comparisons, which semicolons part
unfoldable pub read_clause : List (List ℕ) → Option (List ℤ)
read_clause [] = none
read_clause (p ∷ ps) = join (sized (read_part p)) (headed (length ps) (read_comparisons ps))

-- ---- the clauses and the last two lines

-- the clauses' words, how many literals and comparisons they have; the numbers of the lines `clauses=` and `total=`
pub record Tail : Type 0 where
  pub words : List ℤ
  pub members : ℕ
  pub count : ℤ
  pub total : ℕ

abbrev pub last_two : Option ℤ → Option ℕ → Option Tail
last_two none t = none
last_two (some k) none = none
last_two (some k) (some t) = some (record { words = []; members = 0; count = k; total = t })

abbrev pub integer_behind : Option (List ℕ) → Option ℤ
integer_behind none = none
integer_behind (some r) = read_integer r

abbrev pub natural_behind : Option (List ℕ) → Option ℕ
natural_behind none = none
natural_behind (some r) = read_natural r

-- the last line feed is the last byte
unfoldable pub read_last : List (List ℕ) → Option Tail
read_last [] = none
read_last (p ∷ []) = none
read_last (p ∷ q ∷ []) = none
read_last (p ∷ q ∷ [] ∷ []) = last_two (integer_behind (after clauses_key p)) (natural_behind (after total_key q))
read_last (p ∷ q ∷ [] ∷ r ∷ rs) = none
read_last (p ∷ q ∷ (b ∷ bs) ∷ rs) = none

abbrev pub and_clause : Option (List ℤ) → Option Tail → Option Tail
and_clause none t = none
and_clause (some c) none = none
and_clause (some c) (some t) = some (record { words = c ++ t.words; members = count_word c + count_word (after_literals c) + t.members; count = t.count; total = t.total })

abbrev pub clause_or : Option (List ℕ) → Option Tail → Option Tail → Option Tail
clause_or none more other = other
clause_or (some r) more other = and_clause (read_clause (split semicolon r)) more

unfoldable pub read_tail : List (List ℕ) → Option Tail
read_tail [] = none
read_tail (p ∷ ps) = clause_or (after clause_key p) (read_tail ps) (read_last (p ∷ ps))

-- the total is that of the clauses
abbrev pub tail_words : Option Tail → Option (List ℤ)
tail_words none = none
tail_words (some t) = cond (eqb t.total t.members) (some (t.count ∷ t.words)) none

unfoldable pub read_clauses : Reader
read_clauses ps = tail_words (read_tail ps)

-- ---- the lines before the clauses

abbrev pub part_behind : Option (List ℕ) → Option (List ℤ)
part_behind none = none
part_behind (some r) = read_part r

-- one line with the key
unfoldable pub one_line : List ℕ → Reader → Reader
one_line key next [] = none
one_line key next (p ∷ ps) = join (part_behind (after key p)) (next ps)

abbrev pub each_or : Option (List ℕ) → Option (List ℤ) → Option (List ℤ) → Option (List ℤ)
each_or none more other = other
each_or (some r) more other = join (read_part r) more

-- every line with the key
unfoldable pub each_line : List ℕ → Reader → Reader
each_line key next [] = next []
each_line key next (p ∷ ps) = each_or (after key p) (each_line key next ps) (next (p ∷ ps))

unfoldable pub read_compiled : Reader
read_compiled = one_line fixed_key (one_line bools_key (one_line ints_key (one_line emitted_key (each_line domain_key read_clauses))))

-- ---- the whole

abbrev pub compiled_of : Option (List ℤ) → Option Result
compiled_of none = none
compiled_of (some ws) = some (compiled ws)

abbrev pub refused_of : Option ℕ → Option Result
refused_of none = none
refused_of (some k) = some (refused k)

-- a line with a number, and nothing after it
unfoldable pub read_refused : List (List ℕ) → Option Result
read_refused [] = none
read_refused (p ∷ []) = none
read_refused (p ∷ [] ∷ []) = refused_of (read_natural p)
read_refused (p ∷ [] ∷ q ∷ ps) = none
read_refused (p ∷ (b ∷ bs) ∷ ps) = none

-- what follows `answer=refused,`
abbrev pub refused_behind : Option (List ℕ) → Option Result
refused_behind none = none
refused_behind (some r) = read_refused (split line_feed r)

-- what follows the line `answer=contradiction`: nothing
abbrev pub contradiction_or : Option (List ℕ) → Option Result → Option Result
contradiction_or none other = other
contradiction_or (some []) other = some contradiction
contradiction_or (some (b ∷ bs)) other = none

-- what follows the line `answer=compiled`
abbrev pub compiled_or : Option (List ℕ) → Option Result → Option Result
compiled_or none other = other
compiled_or (some r) other = compiled_of (read_compiled (split line_feed r))

-- none: no listing of a result
unfoldable pub read_listing : List ℕ → Option Result
read_listing t = compiled_or (after compiled_line t) (contradiction_or (after contradiction_line t) (refused_behind (after refused_start t)))
