-- Two sets with identical declarations as one, and a joined statement by its number (document 02, 2.8), for any words and lengths.
use Rattle.std.specs.Prelude.{cond, List, [], ◌∷◌, ◌++◌, ℕ, ◌+◌, ◌-◌, ◌*◌, ℤ, pos, ltb, length, get_or}
use Rattle.laws.specs.Same.{same_words}
use Rattle.laws.specs.Lists.{counted}
use Rattle.laws.specs.Slices.{zeros}
use Rattle.syntax.specs.Words.{max_set_words}
use Rattle.syntax.specs.Syntax.{Problem, encode_domain, Stmt, encode_stmt, encode}
use Rattle.words.specs.Parse.{Parsed, ok, refuse}
use Rattle.limits.specs.Admitted.{admitted}

-- ---- two sets that can be joined, the buffer aside

-- all words before the count of statements
unfoldable pub declaration_words : Problem → List ℤ
declaration_words p = pos p.bools ∷ counted encode_domain p.domains

-- the declarations, then the first set's statements, then the second's
abbrev pub both : Problem → Problem → Problem
both p q = record { bools = p.bools; domains = p.domains; stmts = p.stmts ++ q.stmts }

pub data Agreement : Type 0 where
  agreed : Problem → Problem → Agreement
  refusal : ℕ → Agreement

-- 16: the declarations differ word by word; 17: over 4096 words
unfoldable pub compared : Problem → Problem → Agreement
compared p q =
    cond (same_words (declaration_words p) (declaration_words q))
    (cond (ltb max_set_words (length (encode (both p q)))) (refusal 17) (agreed p q))
    (refusal 16)

-- first the first set's refusal, then the second's
unfoldable pub agree_read : Parsed Problem → Parsed Problem → Agreement
agree_read (refuse k) q = refusal k
agree_read (ok p r) (refuse k) = refusal k
agree_read (ok p r) (ok q s) = compared p q

unfoldable pub agreement : (first second : List ℤ) (work_length : ℕ) → Agreement
agreement first second work_length = agree_read (admitted work_length first) (admitted work_length second)

-- ---- the join

pub data Joining : Type 0 where
  joined : List ℤ → Joining
  refused : ℕ → Joining

-- 17: over the buffer
unfoldable pub sized : ℕ → Agreement → Joining
sized buffer-length (refusal k) = refused k
sized buffer-length (agreed p q) = cond (ltb buffer-length (length (encode (both p q)))) (refused 17) (joined (encode (both p q)))

unfoldable pub join : (first second : List ℤ) (buffer-length work_length : ℕ) → Joining
join first second buffer-length work_length = sized buffer-length (agreement first second work_length)

-- the buffer after the join
unfoldable pub buffer_after : Joining → ℕ → List ℤ
buffer_after (joined ws) n = ws ++ zeros (n - length ws)
buffer_after (refused k) n = zeros n

-- ---- a joined statement by its number, from 1

-- the set it came from, its place there, the statement
pub data Found : Type 0 where
  in_first : ℕ → Stmt → Found
  in_second : ℕ → Stmt → Found
  nowhere : Found

-- statements that stand one after another from a place on
unfoldable pub placed : (ℕ → Stmt → Found) → ℕ → List Stmt → List Found
placed f at [] = []
placed f at (t ∷ ts) = f at t ∷ placed f (at + length (encode_stmt t)) ts

-- behind the declarations and the count of statements
abbrev pub statements_place : Problem → ℕ
statements_place p = length (declaration_words p) + 1

unfoldable pub statements_of : Agreement → List Found
statements_of (agreed p q) = placed in_first (statements_place p) p.stmts ++ placed in_second (statements_place q) q.stmts
statements_of (refusal k) = []

-- there is no statement 0, and none behind the last
unfoldable pub statement_at : (first second : List ℤ) (work_length number : ℕ) → Found
statement_at first second work_length number = get_or (nowhere ∷ statements_of (agreement first second work_length)) number nowhere

unfoldable pub words_of : Found → List ℤ
words_of (in_first at t) = encode_stmt t
words_of (in_second at t) = encode_stmt t
words_of nowhere = []

-- where the words lie in memory, given where both sets do (a block and an offset in bytes, four to a word); none: an empty part of the first set
unfoldable pub address_of : Found → (first second : ℕ × ℕ) → ℕ × ℕ
address_of (in_first at t) first second = (first.0, at * 4 + first.1)
address_of (in_second at t) first second = (second.0, at * 4 + second.1)
address_of nowhere first second = first
