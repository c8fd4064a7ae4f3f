-- The functions of `reader::expressions`: the levels left fall. Assumes nothing.
use Prim.Native.Nat.{◌+◌, ◌-◌, ◌*◌}
use mathlib.Core.Path.{◌≡◌}
use Rattle.words.specs.Parse.{times}
use Rattle.read.specs.Read.{read_int as int_of, read_bool as bool_of}
use Rattle.reader.specs.Position.{passed, term_of}
use Rattle.reader.proofs.expressions.+expressions.Given as goal

abbrev pub decreases-read_bool : goal.decreases-read_bool
decreases-read_bool l = 3 * l.left

abbrev pub decreases-read_comparison : goal.decreases-read_comparison
decreases-read_comparison l = 3 * l.left + 1

abbrev pub decreases-read_if : goal.decreases-read_if
decreases-read_if l = 3 * l.left + 1

abbrev pub decreases-read_int : goal.decreases-read_int
decreases-read_int l = 3 * l.left

abbrev pub decreases-read_list : goal.decreases-read_list
decreases-read_list l = 3 * l.left + 2

abbrev pub decreases-read_members : goal.decreases-read_members
decreases-read_members l = 3 * l.left + 1

abbrev pub decreases-read_pair : goal.decreases-read_pair
decreases-read_pair l = 3 * l.left + 1

abbrev pub decreases-read_terms : goal.decreases-read_terms
decreases-read_terms l = 3 * l.left + 1

abbrev pub invariant-read_members-loop : goal.invariant-read_members-loop
invariant-read_members-loop l = passed (times (l.members - l.counter) (bool_of l.vars.bools l.vars.ints l.left) l.c.rest.now) ≡ passed (times l.members (bool_of l.vars.bools l.vars.ints l.left) l.fn.c.rest.now)

abbrev pub invariant-read_terms-loop : goal.invariant-read_terms-loop
invariant-read_terms-loop l = passed (times (l.terms - l.counter) (term_of (int_of l.vars.bools l.vars.ints l.left)) l.c.rest.now) ≡ passed (times l.terms (term_of (int_of l.vars.bools l.vars.ints l.left)) l.fn.c.rest.now)
