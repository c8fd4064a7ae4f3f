use Prim.Native.Nat.{ℕ, ◌≤◌, ◌+◌, ◌-◌, ◌*◌}
use mathlib.Core.Path.{◌≡◌}
use mathlib.Core.List.{List}
use lib.IntN.{ℤ}
use lib.ListN.{length}
use Rattle.laws.specs.Writes.{Wrote, Open}
use Rattle.memory.specs.Places.{limit}
use Rattle.walk.specs.Item.{bump}
use Rattle.walk.specs.Decode.{read_part}
use Rattle.walks.specs.Item.{regs, reg_lines}
use Rattle.walks.specs.Decode.{many_terms, decode_int}
use Rattle.scan.specs.Skip.{split_by}
use Rattle.rulewriter.specs.Places.{Placed, items_at, terms_at, AllTermsFit}
use Rattle.rulewriter.proofs.Steps.{Sofar}
use Rattle.rulewriter.proofs.+register.Given as goal

abbrev pub decreases-make_if : goal.decreases-make_if
decreases-make_if l = 4 * l.left + 2

abbrev pub decreases-make_named : goal.decreases-make_named
decreases-make_named l = 4 * l.left + 1

abbrev pub decreases-make_open : goal.decreases-make_open
decreases-make_open l = 4 * l.left + 1

abbrev pub decreases-register : goal.decreases-register
decreases-register l = 4 * l.left

abbrev pub decreases-register_cross : goal.decreases-register_cross
decreases-register_cross l = 4 * l.left + 2

abbrev pub decreases-register_if : goal.decreases-register_if
decreases-register_if l = 4 * l.left + 3

abbrev pub decreases-register_int : goal.decreases-register_int
decreases-register_int l = 4 * l.left

abbrev pub decreases-register_sides : goal.decreases-register_sides
decreases-register_sides l = 4 * l.left + 1

abbrev pub decreases-register_terms : goal.decreases-register_terms
decreases-register_terms l = 4 * l.left + 1

abbrev pub decreases-registers : goal.decreases-registers
decreases-registers l = 4 * l.left + 1

abbrev pub invariant-register_terms-loop : goal.invariant-register_terms-loop
invariant-register_terms-loop l =
    Placed l.work l.y.at l.y.base l.y.n × Open l.out l.p × (length l.out ≡ length l.initial.out) × AllTermsFit (many_terms (read_part l.work) (decode_int (read_part l.work) l.left (split_by l.m)) (l.count - l.counter) l.y.at l.y.base).trees × (l.k ≤ limit)
    × (bump l.k ((terms_at l.work l.left (split_by l.m) (l.count - l.counter) l.y.at l.y.base).added l.work l.y.n) ≡ (terms_at l.work l.left (split_by l.m) l.count l.at l.base).added l.work l.initial.y.n)
    × ((d : List ℤ) (r : ℕ) → Wrote l.out l.p ((terms_at l.work l.left (split_by l.m) (l.count - l.counter) l.y.at l.y.base).adds l.work l.y.n) d r → Wrote l.initial.out l.o ((terms_at l.work l.left (split_by l.m) l.count l.at l.base).adds l.work l.initial.y.n) d r)

abbrev pub invariant-registers-loop : goal.invariant-registers-loop
invariant-registers-loop l =
    Sofar l.work l.initial.out l.left (split_by l.m) l.h l.q (l.count - l.counter) l.f l.c l.e l.p l.out × (l.k ≤ limit) × (bump l.k (reg_lines (items_at l.work l.left (split_by l.m) (l.count - l.counter) l.f l.h l.q l.c) l.work l.e) ≡ reg_lines (items_at l.work l.left (split_by l.m) l.count l.g l.h l.at l.base) l.work l.initial.e)
    × ((d : List ℤ) (r : ℕ) → Wrote l.out l.p (regs (items_at l.work l.left (split_by l.m) (l.count - l.counter) l.f l.h l.q l.c) l.work l.e) d r → Wrote l.initial.out l.o (regs (items_at l.work l.left (split_by l.m) l.count l.g l.h l.at l.base) l.work l.initial.e) d r)
