use mathlib.Core.Path.{◌≡◌}
use native.Mathlib.Omega.{arith}
use Prim.Native.Nat.{ℕ, ◌+◌, ◌<◌}
use lib.IntN.{pos}
use lib.ListN.{set, length-set}
use mir.Syntax.{w32}
use mir.Val.{SFits, of_z, to_z}
use mir.Facts.{to_z-of_z}
use Rattle.tablewriter.proofs.Storing.{some_told, stored_column}
use borrow.Author.Rules.{rules}
use Rattle.tablewriter.proofs.describe_column.Goals as goal

number_fits : (n : ℕ) → n < 2147483648 → SFits w32 (pos n)
number_fits n h = record { sfits = omega arith }

pub column_number-v-requires : goal.column_number-v-requires
column_number-v-requires c = c.requires.placed.inside

pub describe-d-requires : goal.describe-d-requires
describe-d-requires c = (c.requires.placed, some_told c.requires)

pub pass_column-r-requires : goal.pass_column-r-requires
pass_column-r-requires c = c.requires.placed

pub overflow_cast-work : goal.overflow_cast-work
overflow_cast-work c = number_fits c.column_number-v.result c.column_number-v.ensures.1

pub bounds-work-to : goal.bounds-work-to
bounds-work-to c = omega (arith, c.requires.room)

pub bounds-work-to-2 : goal.bounds-work-to-2
bounds-work-to-2 c = omega (arith, c.requires.room, length-set c.args.work.now c.args.to (to_z w32 c.column_number-v.result))

pub bounds-work-to-3 : goal.bounds-work-to-3
bounds-work-to-3 c = omega (arith, c.requires.room, length-set c.args.work.now c.args.to (to_z w32 c.column_number-v.result), length-set (set c.args.work.now c.args.to (to_z w32 c.column_number-v.result)) (c.args.to + 1) (to_z w32 (of_z w32 c.describe-d.result.count)))

pub returns : goal.returns
returns c =
    let f : SFits w32 c.describe-d.result.count = search rules in
    let g : SFits w32 c.describe-d.result.from = search rules in
    let n : to_z w32 c.column_number-v.result ≡ pos c.column_number-v.result = to_z-of_z (number_fits c.column_number-v.result c.column_number-v.ensures.1) in
    rw (n, to_z-of_z f, to_z-of_z g) (stored_column c.requires c.column_number-v.ensures.0 c.describe-d.ensures c.pass_column-r.ensures)
