-- What the reader's code answers: what the definition reads, without what it makes of it; and what a set declares.
use Rattle.std.specs.Prelude.{map, ℕ, ◌+◌, length, Result, Ok, Err}
use Rattle.laws.specs.Lists.{flat}
use Rattle.syntax.specs.Syntax.{op_at, encode_domain, IntExpr, If, is_read, BoolExpr, Cmp, Members, Problem}
use Rattle.words.specs.Parse.{Parsed, ok, refuse, Parser, parse_then, seq_parser, up_to, count, number}
use Rattle.read.specs.Read.{read_members}
use Rattle.reader.specs.declared.Declared.{Declared}

-- ---- parts that the code reads by themselves

unfoldable pub list_of : Parser BoolExpr → Parser Members
list_of p xs = parse_then (count xs) (read_members p)

unfoldable pub term_of : Parser IntExpr → Parser IntExpr
term_of p xs = parse_then (number xs) (λ k. p)

unfoldable pub pair_of : Parser BoolExpr → Parser (BoolExpr × BoolExpr)
pair_of p xs = seq_parser (λ a b. (a, b)) p (λ a. p) xs

unfoldable pub comparison_of : Parser IntExpr → Parser BoolExpr
comparison_of q xs = parse_then (up_to 5 4 xs) (λ o r. seq_parser (Cmp (op_at o)) q (λ a. q) r)

unfoldable pub if_of : Parser BoolExpr → Parser IntExpr → Parser IntExpr
if_of p q xs = parse_then (p xs) (λ c r. seq_parser (If is_read c) q (λ t. q) r)

-- ---- what was read, or that it was read

abbrev pub passed : {A : Type 0} → Parsed A → Parsed (Unit {0})
passed (ok a r) = ok tt r
passed (refuse k) = refuse k

-- the counts of a set, and where its statements start: after three counts and the domains
unfoldable pub set_at : Parsed Problem → Result Declared ℕ
set_at (ok p r) = Ok (record { bools = p.bools; ints = length p.domains; stmts = length p.stmts; at = 3 + length (flat (map encode_domain p.domains)) })
set_at (refuse k) = Err k
