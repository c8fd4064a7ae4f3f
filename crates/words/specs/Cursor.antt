-- What the code's readers answer. Assumes nothing.
use Rattle.std.specs.Prelude.{List, ℕ, ℤ, Result, Ok, Err, Option, None, Some}
use Rattle.words.specs.Parse.{Parsed, ok, refuse}
use Rattle.words.specs.declared.refusal.Refusal.{Refusal}
use Rattle.words.specs.Refusal.{number_of}

-- what was read with the words after it, or the refusal by its number
abbrev pub parsed : {A : Type 0} → Result A Refusal → List ℤ → Parsed A
parsed (Ok a) r = ok a r
parsed (Err k) r = refuse (number_of k)

-- the same where a word was read that is no such number: it is refused by k
abbrev pub parsed_or : {A : Type 0} → ℕ → Result (Option A) Refusal → List ℤ → Parsed A
parsed_or k (Ok (Some a)) r = ok a r
parsed_or k (Ok None) r = refuse k
parsed_or k (Err e) r = refuse (number_of e)

-- what was read with the words after it, or the refusal where it is a number itself
abbrev pub numbered : {A : Type 0} → Result A ℕ → List ℤ → Parsed A
numbered (Ok a) r = ok a r
numbered (Err k) r = refuse k

-- P holds where no number was read
abbrev pub StaysOnNone : {A : Type 0} → Result (Option A) Refusal → Type 0 → Type 0
StaysOnNone (Ok (Some a)) P = Unit {0}
StaysOnNone (Ok None) P = P
StaysOnNone (Err e) P = P
