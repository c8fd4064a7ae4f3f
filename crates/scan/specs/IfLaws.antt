-- What is known of an If, as a number; and the counters behind a declared variable stay within the limit.
use Rattle.std.specs.Prelude.{Bool, true, false, not, ◌||◌, cond, List, ℕ, ◌+◌, ◌≤◌, ℤ, eqb}
use Rattle.std.proofs.Common.{arith}
use Rattle.memory.specs.Places.{limit}
use Rattle.walk.specs.Item.{bool_entry, int_entry}
use Rattle.walk.specs.declared.Counters.{Counters}
use Rattle.walks.specs.Item.{has_ifs, more_bools, more_ints, meets_bool, meets_int, cell, Seen, unseen, both_constant, numbered, seen_in, known_in}

-- 0: nothing; 1: constant branches; else the number plus 2
abbrev pub seen_code : Seen → ℕ
seen_code unseen = 0
seen_code both_constant = 1
seen_code (numbered v b) = v + 2

-- what the work slice says of the If at a place
abbrev pub seen_at : List ℤ → ℕ → Seen
seen_at w at = seen_in (cell w (at + 1))

-- a visit that starts with k integers passes over it
abbrev pub passed_at : List ℤ → ℕ → ℕ → Bool
passed_at w at k = not (has_ifs w) || known_in (seen_at w at) k

-- ---- counters stay within the limit

abbrev pub Low : Counters → Type 0
Low n = (n.bools ≤ limit) × (n.ints ≤ limit)

choose_low : (b : Bool) (x y : Counters) → Low x → Low y → Low (cond b x y)
choose_low true x y h i = h
choose_low false x y h i = i

pub more_bools_low : (k : ℕ) (n : Counters) → Low n → Low (more_bools k n)
more_bools_low k n h = (omega arith, h.1)

pub more_ints_low : (w : List ℤ) (k : ℕ) (n : Counters) → Low n → Low (more_ints w k n)
more_ints_low w k n h = choose_low (has_ifs w) _ _ (h.0, omega arith) h

pub meets_bool_low : (w : List ℤ) (v : ℕ) (n : Counters) → Low n → Low (meets_bool w v n)
unfolding meets_bool
meets_bool_low w v n h = choose_low (eqb (bool_entry w v) (n.bools + 1)) _ _ (more_bools_low 1 n h) h

pub meets_int_low : (w : List ℤ) (v : ℕ) (n : Counters) → Low n → Low (meets_int w v n)
unfolding meets_int
meets_int_low w v n h = choose_low (eqb (int_entry w v) (n.ints + 1)) _ _ (more_ints_low w 1 n h) h
