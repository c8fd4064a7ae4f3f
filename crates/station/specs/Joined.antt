-- The contracts of `join_sets` and `find_statement`: the number returned and every word of the lent slices are the definition's (join/Join), for all words and lengths;
-- and that a refusal of the join is 1 to 17. Assumes nothing.
use Rattle.std.specs.Prelude.{◌≡◌, refl, Bool, true, false, cond, List, [], ◌∷◌, ℕ, zero, suc, ◌≤◌, ℤ, pos, neg_ℤ, ltb, length}
use Rattle.std.proofs.Common.{arith, ltb-false}
use Rattle.std.proofs.lemmas.List.Edits.{sets}
use Rattle.laws.specs.Same.{same_words}
use Rattle.laws.specs.Slices.{zeros}
use Rattle.syntax.specs.Words.{min_work_words, max_set_words}
use Rattle.syntax.specs.Syntax.{Problem, encode_stmt, encode}
use Rattle.words.specs.Parse.{Parsed, ok, refuse, parse_then}
use Rattle.read.specs.Read.{read_set}
use Rattle.limits.specs.Limits.{check}
use Rattle.limits.specs.Admitted.{limited, admitted}
use Rattle.join.specs.Join.{declaration_words, both, Agreement, agreed, refusal, compared, agree_read, agreement, Joining, joined, refused, sized, join, buffer_after, Found, in_first, in_second, nowhere, statement_at}
use Rattle.station.specs.Small.{Number, Low, set_low, Checked, check_small}

-- the joined set's words, or the refusal's number negated
unfoldable pub joined_number : Joining → ℤ
joined_number (joined ws) = pos (length ws)
joined_number (refused k) = neg_ℤ (pos k)

pub record JoinReturns (first second buffer work buffer' work' : List ℤ) (r : ℤ) : Type 0 where
  pub number : r ≡ joined_number (join first second (length buffer) (length work))
  pub written : buffer' ≡ buffer_after (join first second (length buffer) (length work)) (length buffer)
  pub zeroed : work' ≡ zeros (length work)

-- the set's number, 0 for none; where the statement starts; how many words it has
unfoldable pub set_number : Found → ℕ
set_number (in_first at t) = 1
set_number (in_second at t) = 2
set_number nowhere = 0

unfoldable pub place_words : Found → List ℤ
place_words (in_first at t) = pos 1 ∷ pos at ∷ pos (length (encode_stmt t)) ∷ []
place_words (in_second at t) = pos 2 ∷ pos at ∷ pos (length (encode_stmt t)) ∷ []
place_words nowhere = pos 0 ∷ pos 0 ∷ pos 0 ∷ []

-- where fewer than three words are lent, the first of them
pub record FindReturns (first second place work place' work' : List ℤ) (number : ℕ) (r : ℤ) : Type 0 where
  pub set : r ≡ pos (set_number (statement_at first second (length work) number))
  pub written : place' ≡ sets (zeros (length place)) 0 (place_words (statement_at first second (length work) number))
  pub zeroed : work' ≡ zeros (length work)

-- ---- small numbers

limited_low : (k : ℕ) (p : Problem) (r : List ℤ) → Checked k → Low (limited k p r)
unfolding limited
limited_low zero p r h = tt
limited_low (suc k) p r h = h

admitted_low : (n : ℕ) (ws : List ℤ) → Low (admitted n ws)
unfolding admitted
admitted_low n ws = go (ltb n min_work_words) (ltb max_set_words (length ws)) (read_set ws) (set_low ws)
  where
    go : (s t : Bool) (q : Parsed Problem) → Low q → Low (cond s (refuse 1) (cond t (refuse 2) (parse_then q (λ p. limited (check p) p))))
    go true t q h = omega arith
    go false true q h = omega arith
    go false false (refuse k) h = h
    go false false (ok p r) h = limited_low (check p) p r (check_small p)

abbrev SmallAgreement : Agreement → Type 0
SmallAgreement (agreed p q) = length (encode (both p q)) ≤ 4096
SmallAgreement (refusal k) = k ≤ 17

low_number : (k : ℕ) → Number k → k ≤ 17
low_number zero h = absurd h
low_number (suc k) h = omega (arith, h)

agreement_small : (first second : List ℤ) (n : ℕ) → SmallAgreement (agreement first second n)
unfolding agreement agree_read compared
agreement_small first second n = go (admitted n first) (admitted_low n first) (admitted n second) (admitted_low n second)
  where
    size : (p q : Problem) (s t : Bool) → ltb max_set_words (length (encode (both p q))) ≡ t → SmallAgreement (cond s (cond t (refusal 17) (agreed p q)) (refusal 16))
    size p q false t e = omega arith
    size p q true true e = omega arith
    size p q true false e = ltb-false max_set_words (length (encode (both p q))) e

    go : (x : Parsed Problem) → Low x → (y : Parsed Problem) → Low y → SmallAgreement (agree_read x y)
    go (refuse j) h y k = low_number j h
    go (ok p r) h (refuse j) k = low_number j k
    go (ok p r) h (ok q s) k = size p q (same_words (declaration_words p) (declaration_words q)) (ltb max_set_words (length (encode (both p q)))) refl

abbrev pub SmallJoin : Joining → Type 0
SmallJoin (joined ws) = length ws ≤ 4096
SmallJoin (refused k) = k ≤ 17

pub join_small : (first second : List ℤ) (b n : ℕ) → SmallJoin (join first second b n)
unfolding join sized
join_small first second b n = go (agreement first second n) (agreement_small first second n)
  where
    size : (p q : Problem) → length (encode (both p q)) ≤ 4096 → (s : Bool) → SmallJoin (cond s (refused 17) (joined (encode (both p q))))
    size p q h true = omega arith
    size p q h false = h

    go : (a : Agreement) → SmallAgreement a → SmallJoin (sized b a)
    go (refusal k) h = h
    go (agreed p q) h = size p q h (ltb b (length (encode (both p q))))
