use native.Mathlib.Omega.{arith}
use mathlib.Core.Path.{refl}
use mir.Syntax.{w32}
use mir.Val.{SFits}
use mir.Facts.{to_z-of_z}
use Rattle.tablewriter.proofs.Tells.{told_declared, told_variable, some_ranged, bounds_small, told_range, less_fits, count_fits}
use borrow.Author.Rules.{rules}
use Rattle.tablewriter.proofs.describe.Goals as goal

pub describe_declared-requires : goal.describe_declared-requires
describe_declared-requires c = told_declared c.args.work.now c.args.p c.word.ensures c.word-then-word-eq21.ensures c.below.ensures c.if-word-eq21.true c.requires.1

pub returns-then-word-eq21 : goal.returns-then-word-eq21
returns-then-word-eq21 c = told_variable c.args.work.now c.args.p c.word.ensures c.word-then-word-eq21.ensures c.below.ensures c.if-word-eq21.true c.describe_declared.ensures

pub range_of-b-requires : goal.range_of-b-requires
range_of-b-requires c = (c.requires.0.size, (c.requires.0.inside, (omega arith, (c.requires.0.low, some_ranged c.args.work.now c.args.p c.word.ensures c.if-word-eq21.false c.requires.1))))

pub overflow_sub-less : goal.overflow_sub-less
overflow_sub-less c =
    let x = bounds_small c.args.work.now c.args.p c.word.ensures c.if-word-eq21.false c.range_of-b.ensures c.requires.1 in
    let l : SFits w32 c.range_of-b.result.low = search rules in
    let h : SFits w32 c.range_of-b.result.high = search rules in
    rw (to_z-of_z l, to_z-of_z h) (less_fits c.range_of-b.result.low c.range_of-b.result.high x.0 x.1)

pub overflow_add-result : goal.overflow_add-result
overflow_add-result c =
    let x = bounds_small c.args.work.now c.args.p c.word.ensures c.if-word-eq21.false c.range_of-b.ensures c.requires.1 in
    let l : SFits w32 c.range_of-b.result.low = search rules in
    let h : SFits w32 c.range_of-b.result.high = search rules in
    let d = less_fits c.range_of-b.result.low c.range_of-b.result.high x.0 x.1 in
    rw (to_z-of_z l, to_z-of_z h, to_z-of_z d) (count_fits c.range_of-b.result.low c.range_of-b.result.high x.0 x.1)

pub returns : goal.returns
returns c =
    let x = bounds_small c.args.work.now c.args.p c.word.ensures c.if-word-eq21.false c.range_of-b.ensures c.requires.1 in
    let l : SFits w32 c.range_of-b.result.low = search rules in
    let h : SFits w32 c.range_of-b.result.high = search rules in
    let d = less_fits c.range_of-b.result.low c.range_of-b.result.high x.0 x.1 in
    let e = count_fits c.range_of-b.result.low c.range_of-b.result.high x.0 x.1 in
    rw (to_z-of_z l, to_z-of_z h, to_z-of_z d, to_z-of_z e) (told_range c.args.work.now c.args.p c.word.ensures c.if-word-eq21.false c.range_of-b.ensures refl)
