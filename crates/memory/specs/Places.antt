-- The work slice's places, the same as the code's constants, and that they lie apart. Assumes nothing.
use Rattle.std.specs.Prelude.{ℕ}

-- below this place: a fixed value for each declared Boolean. From it on: the folded statements
abbrev pub folded : ℕ
folded = 512

abbrev pub folded_end : ℕ
folded_end = 4608

-- the maps hold number plus 1, or 0
abbrev pub bool_map : ℕ
bool_map = 4608

abbrev pub int_map : ℕ
int_map = 5120

abbrev pub maps_end : ℕ
maps_end = 5376

-- the cell of the folded word at p is at cells + p: a column's number plus 1 stands at its place; an If's word and its bounds in the three cells behind its place
abbrev pub cells : ℕ
cells = 4864

-- two words for each declared integer, while refusals are looked for
abbrev pub bounds : ℕ
bounds = 7936

-- this word is not 0 where the folded statements have Ifs; without, no integer's counter is asked for, and none is kept
abbrev pub ifs_word : ℕ
ifs_word = 9476

-- three words for each declared integer
abbrev pub declared_domains : ℕ
declared_domains = 9480

-- the table at hand: a copy of its rows, then three words for each column
abbrev pub table : ℕ
table = 10248

-- counters stop here
abbrev pub limit : ℕ
limit = 1073741824
