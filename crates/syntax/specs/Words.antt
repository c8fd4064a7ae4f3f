-- The numbers of document 01: limits of a set, of its slices and of its answer, and the word of the star.
use Rattle.std.specs.Prelude.{ℕ, ℤ, negsuc}

abbrev pub max_bools : ℕ
max_bools = 512

abbrev pub max_ints : ℕ
max_ints = 256

abbrev pub max_count : ℕ
max_count = 4096

-- of values, coefficients and constants, either sign
abbrev pub max_value : ℕ
max_value = 1073741823

abbrev pub max_depth : ℕ
max_depth = 64

abbrev pub max_weight : ℕ
max_weight = 1073741823

abbrev pub max_comparison_vars : ℕ
max_comparison_vars = 64

abbrev pub max_column_vars : ℕ
max_column_vars = 63

abbrev pub max_span : ℕ
max_span = 4096

abbrev pub max_set_words : ℕ
max_set_words = 4096

abbrev pub min_work_words : ℕ
min_work_words = 16384

abbrev pub max_answer_words : ℕ
max_answer_words = 16777216

-- the cell that permits every value, -2147483648
abbrev pub star_word : ℤ
star_word = negsuc 2147483647
