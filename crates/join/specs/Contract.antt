-- The contracts of the entries: answers and every word of the lent slices are the definition's (Join), for all words and lengths.
use Rattle.std.specs.Prelude.{◌≡◌, List, ℕ, ◌+◌, ℤ, length}
use Rattle.laws.specs.Slices.{zeros}
use Rattle.syntax.specs.Syntax.{encode_stmt}
use Rattle.join.specs.Join.{Joining, joined, refused, join, buffer_after, Found, in_first, in_second, nowhere, statement_at}
use Rattle.join.specs.declared.Joined.{Joined}
use Rattle.join.specs.declared.Joined.TheVariants.{Words, Refused}
use Rattle.join.specs.declared.Place.{Place}

-- the join in the code's values: the number of words written, or the refusal's number
unfoldable pub answer_of : Joining → Joined
answer_of (joined ws) = Words (length ws)
answer_of (refused k) = Refused k

pub record Joins (first second buffer work buffer' work' : List ℤ) (r : Joined) : Type 0 where
  pub answer : r ≡ answer_of (join first second (length buffer) (length work))
  pub written : buffer' ≡ buffer_after (join first second (length buffer) (length work)) (length buffer)
  pub zeroed : work' ≡ zeros (length work)

-- a statement's place in the code's values: the set's number, 0 for none, the first word and the one behind the last
unfoldable pub place_of : Found → Place
place_of (in_first at t) = record { set = 1; from = at; to = at + length (encode_stmt t) }
place_of (in_second at t) = record { set = 2; from = at; to = at + length (encode_stmt t) }
place_of nowhere = record { set = 0; from = 0; to = 0 }

pub record Finds (first second work work' : List ℤ) (number : ℕ) (r : Place) : Type 0 where
  pub place : r ≡ place_of (statement_at first second (length work) number)
  pub zeroed : work' ≡ zeros (length work)
