use Prim.Native.Nat.{ℕ, ◌≤◌, ◌+◌, ◌-◌, ◌*◌}
use mathlib.Core.List.{List}
use lib.IntN.{ℤ}
use Rattle.laws.specs.Writes.{Wrote}
use Rattle.walks.specs.Item.{texts, long_texts}
use Rattle.scan.specs.Skip.{split_by}
use Rattle.scan.specs.SurveyLaws.{counters_of, Sofar as Seen}
use Rattle.output.specs.Suffix.{suffix, extra_lits}
use Rattle.rulewriter.specs.Places.{items_at}
use Rattle.rulewriter.proofs.Steps.{Sofar}
use Rattle.rulewriter.proofs.+write.Given as goal

abbrev pub decreases-write : goal.decreases-write
decreases-write l = 4 * l.left

abbrev pub decreases-write_all : goal.decreases-write_all
decreases-write_all l = 4 * l.left + 1

abbrev pub decreases-write_cross : goal.decreases-write_cross
decreases-write_cross l = 4 * l.left + 3

abbrev pub decreases-write_disj : goal.decreases-write_disj
decreases-write_disj l = 4 * l.left + 2

abbrev pub decreases-write_longs : goal.decreases-write_longs
decreases-write_longs l = 4 * l.left + 1

abbrev pub invariant-write_all-loop : goal.invariant-write_all-loop
invariant-write_all-loop l =
    Sofar l.work l.initial.out l.left (split_by l.m) l.h l.r.part.at (l.count - l.counter) l.f l.r.part.base (counters_of l.r) l.p l.out × Seen l.work l.left (split_by l.m) l.h l.count l.g l.at l.base (counters_of l.initial.r) l.r (l.count - l.counter) l.f
    × ((d : List ℤ) (k : ℕ) → Wrote l.out l.p (texts (items_at l.work l.left (split_by l.m) (l.count - l.counter) l.f l.h l.r.part.at l.r.part.base) l.work (counters_of l.r) (suffix l.s)) d k → Wrote l.initial.out l.o (texts (items_at l.work l.left (split_by l.m) l.count l.g l.h l.at l.base) l.work (counters_of l.initial.r) (suffix l.s)) d k)

abbrev pub invariant-write_longs-loop : goal.invariant-write_longs-loop
invariant-write_longs-loop l =
    Sofar l.work l.initial.out l.left (split_by l.m) l.h l.q (l.count - l.counter) l.f l.c l.e l.p l.out × (l.j + l.at ≤ l.q)
    × ((d : List ℤ) (r : ℕ) → Wrote l.out l.p (long_texts l.x.mode l.x.base (extra_lits l.x) (items_at l.work l.left (split_by l.m) (l.count - l.counter) l.f l.h l.q l.c) l.work l.e l.j (suffix l.s)) d r
    → Wrote l.initial.out l.o (long_texts l.x.mode l.x.base (extra_lits l.x) (items_at l.work l.left (split_by l.m) l.count l.g l.h l.at l.base) l.work l.initial.e 0 (suffix l.s)) d r)
