-- The text of a set and a roster, and what is printed of it: the listing's text of the set, then one line `values=`. Assumes nothing.
use Rattle.std.specs.Prelude.{cond, List, [], ◌∷◌, ◌++◌, ℕ, zero, suc, ◌-◌, ℤ, eqb, ltb, length, get_or, take, drop}
use Rattle.std.proofs.Math.Option.{Option, none, some}
use Rattle.decimal.specs.Bytes.{comma, line_feed}
use Rattle.decimal.specs.Decimal.{print_natural}
use Rattle.input.specs.ReadText.{split, after, read_numbers, max_bytes, read_text}
use Rattle.verdict.specs.Roster.{check_roster}
use Rattle.evaluate.specs.Contract.{checked_of}
use Rattle.evaluate.specs.declared.Checked.{Checked}
use Rattle.evaluate.specs.declared.Checked.TheVariants.{Yes, Broken, Refused}

-- ---- the fixed bytes

-- values=
abbrev pub values_key : List ℕ
values_key = 118 ∷ 97 ∷ 108 ∷ 117 ∷ 101 ∷ 115 ∷ 61 ∷ []

-- roster=yes and the line feed
abbrev pub yes_line : List ℕ
yes_line = 114 ∷ 111 ∷ 115 ∷ 116 ∷ 101 ∷ 114 ∷ 61 ∷ 121 ∷ 101 ∷ 115 ∷ 10 ∷ []

-- roster=broken,
abbrev pub broken_start : List ℕ
broken_start = 114 ∷ 111 ∷ 115 ∷ 116 ∷ 101 ∷ 114 ∷ 61 ∷ 98 ∷ 114 ∷ 111 ∷ 107 ∷ 101 ∷ 110 ∷ 44 ∷ []

-- roster=refused,
abbrev pub refused_start : List ℕ
refused_start = 114 ∷ 111 ∷ 115 ∷ 116 ∷ 101 ∷ 114 ∷ 61 ∷ 114 ∷ 101 ∷ 102 ∷ 117 ∷ 115 ∷ 101 ∷ 100 ∷ 44 ∷ []

-- roster=unread and the line feed
abbrev pub unread_line : List ℕ
unread_line = 114 ∷ 111 ∷ 115 ∷ 116 ∷ 101 ∷ 114 ∷ 61 ∷ 117 ∷ 110 ∷ 114 ∷ 101 ∷ 97 ∷ 100 ∷ 10 ∷ []

-- ---- what is printed

unfoldable pub print_numbered : List ℕ → ℕ → List ℕ
print_numbered start k = start ++ (print_natural k ++ (line_feed ∷ []))

unfoldable pub print_checked : Checked → List ℕ
print_checked Yes = yes_line
print_checked (Broken k) = print_numbered broken_start k
print_checked (Refused k) = print_numbered refused_start k

-- ---- the last line

-- how many bytes there are up to the last line feed, that included: by how many there are in what follows
abbrev pub feed_step : ℕ → ℕ → ℕ
feed_step zero b = cond (eqb b line_feed) 1 0
feed_step (suc n) b = suc (suc n)

unfoldable pub last_feed : List ℕ → ℕ
last_feed [] = 0
last_feed (b ∷ bs) = feed_step (last_feed bs) b

-- the values behind the key: none, or numbers parted by commas
unfoldable pub values_of : Option (List ℕ) → Option (List ℤ)
values_of none = none
values_of (some []) = some []
values_of (some (b ∷ bs)) = read_numbers (split comma (b ∷ bs))

-- ---- of a text, with a work slice of this length

unfoldable pub print_read : ℕ → Option (List ℤ) → Option (List ℤ) → List ℕ
print_read work_length none values = unread_line
print_read work_length (some set) none = unread_line
print_read work_length (some set) (some values) = print_checked (checked_of (check_roster set values work_length))

-- the bytes in front of the text's last line feed
unfoldable pub check_lines : ℕ → List ℕ → List ℕ
check_lines work_length t = print_read work_length (read_text (take (last_feed t) t)) (values_of (after values_key (drop (last_feed t) t)))

unfoldable pub check_text : ℕ → List ℕ → List ℕ
check_text work_length t =
    cond (ltb max_bytes (length t)) unread_line
    (cond (eqb (get_or t (length t - 1) 0) line_feed) (check_lines work_length (take (length t - 1) t)) unread_line)
