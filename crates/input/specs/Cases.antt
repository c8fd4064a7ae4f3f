-- Document 01's text of P1, by computing; further texts that are read and texts that are not. Assumes nothing.
use Rattle.std.specs.Prelude.{◌≡◌, refl, List, [], ◌∷◌, ℕ, ℤ, pos, negsuc}
use Rattle.std.proofs.Math.Option.{Option, none, some}
use Rattle.decimal.specs.Decimal.{read_digits, read_natural, positive, negative, read_number}
use Rattle.input.specs.ReadText.{split, after, read_numbers, count_line, lines, end, read_lines, read_text}

-- bools=3, ints=0, statements=1, statement=1,16,11,0,12,2,11,1,11,2
pub P1_read : read_text (98 ∷ 111 ∷ 111 ∷ 108 ∷ 115 ∷ 61 ∷ 51 ∷ 10 ∷ 105 ∷ 110 ∷ 116 ∷ 115 ∷ 61 ∷ 48 ∷ 10 ∷ 115 ∷ 116 ∷ 97 ∷ 116 ∷ 101 ∷ 109 ∷ 101 ∷ 110 ∷ 116 ∷ 115 ∷ 61 ∷ 49 ∷ 10 ∷ 115 ∷ 116 ∷ 97 ∷ 116 ∷ 101 ∷ 109 ∷ 101 ∷ 110 ∷ 116 ∷ 61 ∷ 49 ∷ 44 ∷ 49 ∷ 54 ∷ 44 ∷ 49 ∷ 49 ∷ 44 ∷ 48 ∷ 44 ∷ 49 ∷ 50 ∷ 44 ∷ 50 ∷ 44 ∷ 49 ∷ 49 ∷ 44 ∷ 49 ∷ 44 ∷ 49 ∷ 49 ∷ 44 ∷ 50 ∷ 10 ∷ []) ≡ some (pos 3 ∷ pos 0 ∷ pos 1 ∷ pos 1 ∷ pos 16 ∷ pos 11 ∷ pos 0 ∷ pos 12 ∷ pos 2 ∷ pos 11 ∷ pos 1 ∷ pos 11 ∷ pos 2 ∷ [])
unfolding read_digits read_natural positive negative read_number split after read_numbers count_line lines end read_lines read_text
P1_read = refl

-- domains divided otherwise than the call wants, the ends of i32, no statement
pub divided_read : read_text (98 ∷ 111 ∷ 111 ∷ 108 ∷ 115 ∷ 61 ∷ 48 ∷ 10 ∷ 105 ∷ 110 ∷ 116 ∷ 115 ∷ 61 ∷ 50 ∷ 10 ∷ 105 ∷ 110 ∷ 116 ∷ 61 ∷ 48 ∷ 44 ∷ 45 ∷ 49 ∷ 10 ∷ 105 ∷ 110 ∷ 116 ∷ 61 ∷ 50 ∷ 49 ∷ 52 ∷ 55 ∷ 52 ∷ 56 ∷ 51 ∷ 54 ∷ 52 ∷ 55 ∷ 44 ∷ 45 ∷ 50 ∷ 49 ∷ 52 ∷ 55 ∷ 52 ∷ 56 ∷ 51 ∷ 54 ∷ 52 ∷ 56 ∷ 10 ∷ 105 ∷ 110 ∷ 116 ∷ 61 ∷ 55 ∷ 10 ∷ 115 ∷ 116 ∷ 97 ∷ 116 ∷ 101 ∷ 109 ∷ 101 ∷ 110 ∷ 116 ∷ 115 ∷ 61 ∷ 48 ∷ 10 ∷ []) ≡ some (pos 0 ∷ pos 2 ∷ pos 0 ∷ negsuc 0 ∷ pos 2147483647 ∷ negsuc 2147483647 ∷ pos 7 ∷ pos 0 ∷ [])
unfolding read_digits read_natural positive negative read_number split after read_numbers count_line lines end read_lines read_text
divided_read = refl

-- numbers of another form: a minus before 0, a leading 0, a plus, nothing, a blank, outside i32, a minus alone
abbrev wrong : List (List ℕ)
wrong = (45 ∷ 48 ∷ []) ∷ (48 ∷ 48 ∷ []) ∷ (43 ∷ 49 ∷ []) ∷ [] ∷ (49 ∷ 32 ∷ []) ∷ (50 ∷ 49 ∷ 52 ∷ 55 ∷ 52 ∷ 56 ∷ 51 ∷ 54 ∷ 52 ∷ 56 ∷ []) ∷ (45 ∷ 50 ∷ 49 ∷ 52 ∷ 55 ∷ 52 ∷ 56 ∷ 51 ∷ 54 ∷ 52 ∷ 57 ∷ []) ∷ (48 ∷ 49 ∷ []) ∷ (45 ∷ []) ∷ (49 ∷ 13 ∷ []) ∷ []

abbrev unread_all : List (List ℕ) → List (Option ℤ)
unread_all [] = []
unread_all (p ∷ ps) = read_number p ∷ unread_all ps

pub wrong_unread : unread_all wrong ≡ none ∷ none ∷ none ∷ none ∷ none ∷ none ∷ none ∷ none ∷ none ∷ none ∷ []
unfolding read_digits read_natural positive negative read_number
wrong_unread = refl

-- texts of another form: the last line unended, an empty line, two numbers in a count line, keys in another order, no number, a comma at the end, a domain after the statements
abbrev other_forms : List (List ℕ)
other_forms =
    (98 ∷ 111 ∷ 111 ∷ 108 ∷ 115 ∷ 61 ∷ 48 ∷ 10 ∷ 105 ∷ 110 ∷ 116 ∷ 115 ∷ 61 ∷ 48 ∷ 10 ∷ 115 ∷ 116 ∷ 97 ∷ 116 ∷ 101 ∷ 109 ∷ 101 ∷ 110 ∷ 116 ∷ 115 ∷ 61 ∷ 48 ∷ [])
    ∷ (98 ∷ 111 ∷ 111 ∷ 108 ∷ 115 ∷ 61 ∷ 48 ∷ 10 ∷ 105 ∷ 110 ∷ 116 ∷ 115 ∷ 61 ∷ 48 ∷ 10 ∷ 115 ∷ 116 ∷ 97 ∷ 116 ∷ 101 ∷ 109 ∷ 101 ∷ 110 ∷ 116 ∷ 115 ∷ 61 ∷ 48 ∷ 10 ∷ 10 ∷ [])
    ∷ (98 ∷ 111 ∷ 111 ∷ 108 ∷ 115 ∷ 61 ∷ 48 ∷ 44 ∷ 49 ∷ 10 ∷ 105 ∷ 110 ∷ 116 ∷ 115 ∷ 61 ∷ 48 ∷ 10 ∷ 115 ∷ 116 ∷ 97 ∷ 116 ∷ 101 ∷ 109 ∷ 101 ∷ 110 ∷ 116 ∷ 115 ∷ 61 ∷ 48 ∷ 10 ∷ [])
    ∷ (105 ∷ 110 ∷ 116 ∷ 115 ∷ 61 ∷ 48 ∷ 10 ∷ 98 ∷ 111 ∷ 111 ∷ 108 ∷ 115 ∷ 61 ∷ 48 ∷ 10 ∷ 115 ∷ 116 ∷ 97 ∷ 116 ∷ 101 ∷ 109 ∷ 101 ∷ 110 ∷ 116 ∷ 115 ∷ 61 ∷ 48 ∷ 10 ∷ [])
    ∷ (98 ∷ 111 ∷ 111 ∷ 108 ∷ 115 ∷ 61 ∷ 48 ∷ 10 ∷ 105 ∷ 110 ∷ 116 ∷ 115 ∷ 61 ∷ 48 ∷ 10 ∷ 115 ∷ 116 ∷ 97 ∷ 116 ∷ 101 ∷ 109 ∷ 101 ∷ 110 ∷ 116 ∷ 115 ∷ 61 ∷ 49 ∷ 10 ∷ 115 ∷ 116 ∷ 97 ∷ 116 ∷ 101 ∷ 109 ∷ 101 ∷ 110 ∷ 116 ∷ 61 ∷ 10 ∷ [])
    ∷ (98 ∷ 111 ∷ 111 ∷ 108 ∷ 115 ∷ 61 ∷ 48 ∷ 10 ∷ 105 ∷ 110 ∷ 116 ∷ 115 ∷ 61 ∷ 48 ∷ 10 ∷ 115 ∷ 116 ∷ 97 ∷ 116 ∷ 101 ∷ 109 ∷ 101 ∷ 110 ∷ 116 ∷ 115 ∷ 61 ∷ 49 ∷ 10 ∷ 115 ∷ 116 ∷ 97 ∷ 116 ∷ 101 ∷ 109 ∷ 101 ∷ 110 ∷ 116 ∷ 61 ∷ 49 ∷ 44 ∷ 10 ∷ [])
    ∷ (98 ∷ 111 ∷ 111 ∷ 108 ∷ 115 ∷ 61 ∷ 48 ∷ 10 ∷ 105 ∷ 110 ∷ 116 ∷ 115 ∷ 61 ∷ 48 ∷ 10 ∷ 115 ∷ 116 ∷ 97 ∷ 116 ∷ 101 ∷ 109 ∷ 101 ∷ 110 ∷ 116 ∷ 115 ∷ 61 ∷ 48 ∷ 10 ∷ 105 ∷ 110 ∷ 116 ∷ 61 ∷ 49 ∷ 10 ∷ [])
    ∷ []

abbrev read_all : List (List ℕ) → List (Option (List ℤ))
read_all [] = []
read_all (t ∷ ts) = read_text t ∷ read_all ts

pub forms_unread : read_all other_forms ≡ none ∷ none ∷ none ∷ none ∷ none ∷ none ∷ none ∷ []
unfolding read_digits read_natural positive negative read_number split after read_numbers count_line lines end read_lines read_text
forms_unread = refl
