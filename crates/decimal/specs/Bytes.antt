-- The fixed bytes of the input text and of the listing: the keys of lines, the answers, what parts them. Assumes nothing.
use Rattle.std.specs.Prelude.{List, [], ◌∷◌, ℕ}

-- ---- what parts numbers, comparisons, their places, lines

abbrev pub comma : ℕ
comma = 44

abbrev pub semicolon : ℕ
semicolon = 59

abbrev pub colon : ℕ
colon = 58

abbrev pub minus : ℕ
minus = 45

abbrev pub line_feed : ℕ
line_feed = 10

-- ---- the keys of the input text; two of them are also the listing's

-- bools=
abbrev pub bools_key : List ℕ
bools_key = 98 ∷ 111 ∷ 111 ∷ 108 ∷ 115 ∷ 61 ∷ []

-- ints=
abbrev pub ints_key : List ℕ
ints_key = 105 ∷ 110 ∷ 116 ∷ 115 ∷ 61 ∷ []

-- int=
abbrev pub int_key : List ℕ
int_key = 105 ∷ 110 ∷ 116 ∷ 61 ∷ []

-- statements=
abbrev pub statements_key : List ℕ
statements_key = 115 ∷ 116 ∷ 97 ∷ 116 ∷ 101 ∷ 109 ∷ 101 ∷ 110 ∷ 116 ∷ 115 ∷ 61 ∷ []

-- statement=
abbrev pub statement_key : List ℕ
statement_key = 115 ∷ 116 ∷ 97 ∷ 116 ∷ 101 ∷ 109 ∷ 101 ∷ 110 ∷ 116 ∷ 61 ∷ []

-- ---- the keys of the listing

-- fixed=
abbrev pub fixed_key : List ℕ
fixed_key = 102 ∷ 105 ∷ 120 ∷ 101 ∷ 100 ∷ 61 ∷ []

-- emitted=
abbrev pub emitted_key : List ℕ
emitted_key = 101 ∷ 109 ∷ 105 ∷ 116 ∷ 116 ∷ 101 ∷ 100 ∷ 61 ∷ []

-- domain=
abbrev pub domain_key : List ℕ
domain_key = 100 ∷ 111 ∷ 109 ∷ 97 ∷ 105 ∷ 110 ∷ 61 ∷ []

-- clause=
abbrev pub clause_key : List ℕ
clause_key = 99 ∷ 108 ∷ 97 ∷ 117 ∷ 115 ∷ 101 ∷ 61 ∷ []

-- clauses=
abbrev pub clauses_key : List ℕ
clauses_key = 99 ∷ 108 ∷ 97 ∷ 117 ∷ 115 ∷ 101 ∷ 115 ∷ 61 ∷ []

-- total=
abbrev pub total_key : List ℕ
total_key = 116 ∷ 111 ∷ 116 ∷ 97 ∷ 108 ∷ 61 ∷ []

-- ---- the answers, each a line or its start

-- answer=compiled and the line feed
abbrev pub compiled_line : List ℕ
compiled_line = 97 ∷ 110 ∷ 115 ∷ 119 ∷ 101 ∷ 114 ∷ 61 ∷ 99 ∷ 111 ∷ 109 ∷ 112 ∷ 105 ∷ 108 ∷ 101 ∷ 100 ∷ 10 ∷ []

-- answer=contradiction and the line feed
abbrev pub contradiction_line : List ℕ
contradiction_line = 97 ∷ 110 ∷ 115 ∷ 119 ∷ 101 ∷ 114 ∷ 61 ∷ 99 ∷ 111 ∷ 110 ∷ 116 ∷ 114 ∷ 97 ∷ 100 ∷ 105 ∷ 99 ∷ 116 ∷ 105 ∷ 111 ∷ 110 ∷ 10 ∷ []

-- answer=refused,
abbrev pub refused_start : List ℕ
refused_start = 97 ∷ 110 ∷ 115 ∷ 119 ∷ 101 ∷ 114 ∷ 61 ∷ 114 ∷ 101 ∷ 102 ∷ 117 ∷ 115 ∷ 101 ∷ 100 ∷ 44 ∷ []

-- answer=unread and the line feed
abbrev pub unread_line : List ℕ
unread_line = 97 ∷ 110 ∷ 115 ∷ 119 ∷ 101 ∷ 114 ∷ 61 ∷ 117 ∷ 110 ∷ 114 ∷ 101 ∷ 97 ∷ 100 ∷ 10 ∷ []
