-- The words of the work slice that are read, and what a survey finds of members by their tallies.
use Rattle.std.specs.Prelude.{Bool, not, cond, List, ℕ, ◌+◌, min, ℤ, pos, length, get_or, take, eqb, ltb}
use Rattle.memory.specs.Places.{folded_end}
use Rattle.memory.specs.Number.{nat}
use Rattle.clauses.specs.Clause.{negate_if}
use Rattle.walk.specs.Item.{bump, is_none, mode_in, fresh_in, lines_in}
use Rattle.walk.specs.declared.Node.{Node}
use Rattle.walk.specs.declared.Node.TheVariants.{Join}
use Rattle.walk.specs.declared.Surveyed.{Surveyed}

unfoldable pub word : List ℤ → ℕ → ℕ
word ws at = nat (get_or ws at (pos 0))

abbrev pub past : List ℤ → ℕ → ℕ
past ws p = min p (length ws)

-- a variable's index; 0 for what is none
abbrev pub below : ℕ → ℕ → ℕ
below l x = cond (ltb x l) x 0

-- a constant, negated if g: an empty disjunction or conjunction
abbrev pub constant_node : ℕ → Bool → ℕ → Node
constant_node x g q = Join (not (negate_if g (eqb x 1))) 0 g g q

-- the words of the work slice that hold the folded statements
unfoldable pub read_part : List ℤ → List ℤ
read_part w = take folded_end w

abbrev pub surveyed : ℕ → ℕ → ℕ → ℕ → ℕ → ℕ → ℕ → ℕ → Surveyed
surveyed at base n longs lits cmps lines all = record { at = at; base = base; n = n; longs = longs; lits = lits; cmps = cmps; lines = lines; all = all }

-- a disjunction and a cross, from what is found of their members
abbrev pub fresh_of : Surveyed → ℕ
fresh_of s = fresh_in (mode_in s.longs s.lits s.cmps) s.longs

abbrev pub lines_in_of : Surveyed → ℕ
lines_in_of s = lines_in (mode_in s.longs s.lits s.cmps) s.lines

unfoldable pub closed_disj : Surveyed → Surveyed
closed_disj s =
    cond (is_none s.longs)
    (surveyed s.at s.base s.n 0 s.lits s.cmps s.lines 1)
    (surveyed s.at s.base (bump s.n (fresh_of s)) 1 0 0 (lines_in_of s) (lines_in_of s))

unfoldable pub closed_cross : Surveyed → Surveyed → Surveyed
closed_cross s u =
    let l = bump (lines_in_of s) (lines_in_of u) in
    surveyed u.at u.base (bump (bump u.n (fresh_of s)) (fresh_of u)) 1 0 0 l l

unfoldable pub added : Surveyed → Surveyed → Surveyed
added r s = surveyed s.at s.base s.n (r.longs + s.longs) (r.lits + s.lits) (r.cmps + s.cmps) (bump r.lines s.lines) (bump r.all s.all)
