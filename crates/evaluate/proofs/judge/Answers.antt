use native.Mathlib.Omega.{arith}
use mathlib.Core.Path.{sym}
use lib.ListN.{length}
use Rattle.evaluate.proofs.SetLaws.{judge_refused, few_declared, judge_count, judge_bools, domains_start, judge_ints, stmts_start, judge_ends}
use Rattle.evaluate.proofs.judge.Goals.{then-not-bools_inside-via-then-not-bools_inside, then-not-bools_inside-via-else-not-bools_inside+then-not-ints_inside}
use Rattle.evaluate.proofs.judge.Goals as goal

pub overflow_add-d : goal.overflow_add-d
overflow_add-d c = let q = few_declared c.args.set.now c.args.values.now (length c.args.work.now) _ (sym c.in-Ok.ensures.0) in omega (arith, q.0, q.1)

pub returns-then-values-d : goal.returns-then-values-d
returns-then-values-d c = judge_count c.args.set.now c.args.values.now (length c.args.work.now) _ (sym c.in-Ok.ensures.0) c.if-values-d.true

pub returns-then-not-bools_inside : goal.returns-then-not-bools_inside
returns-then-not-bools_inside c =
    elim c.then-not-bools_inside.branch [
      | then-not-bools_inside-via-then-not-bools_inside w ↦ judge_bools c.args.set.now c.args.values.now (length c.args.work.now) _ (sym c.in-Ok.ensures.0) c.if-values-d.false _ c.bools_inside.ensures w.if-not-bools_inside.true
      | then-not-bools_inside-via-else-not-bools_inside+then-not-ints_inside w ↦ judge_ints c.args.set.now c.args.values.now (length c.args.work.now) _ (sym c.in-Ok.ensures.0) c.if-values-d.false _ c.bools_inside.ensures w.if-not-bools_inside.false _ w.ints_inside.ensures w.if-not-ints_inside.true
    ]

pub ints_inside-requires : goal.ints_inside-requires
ints_inside-requires c = domains_start c.args.set.now c.args.values.now (length c.args.work.now) _ (sym c.in-Ok.ensures.0) c.if-values-d.false _ c.bools_inside.ensures

pub first_broken-requires : goal.first_broken-requires
first_broken-requires c = stmts_start c.args.set.now c.args.values.now (length c.args.work.now) _ (sym c.in-Ok.ensures.0) c.if-values-d.false _ c.bools_inside.ensures c.if-not-bools_inside.false _ c.ints_inside.ensures c.if-not-ints_inside.false _ c.accept.auto.work

pub returns-in-Err : goal.returns-in-Err
returns-in-Err c = rw c.number.ensures (judge_refused c.args.set.now c.args.values.now (length c.args.work.now) _ (sym c.in-Err.ensures.0))

pub returns-else-not-ints_inside : goal.returns-else-not-ints_inside
returns-else-not-ints_inside c = judge_ends c.args.set.now c.args.values.now (length c.args.work.now) _ (sym c.in-Ok.ensures.0) c.if-values-d.false _ c.bools_inside.ensures c.if-not-bools_inside.false _ c.ints_inside.ensures c.if-not-ints_inside.false _ c.first_broken.ensures
