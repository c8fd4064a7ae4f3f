-- A constant, a number.
use mathlib.Core.Path.{◌≡◌, sym, ap, ◌∙◌, subst}
use native.Mathlib.Omega.{arith}
use lib.IntN.{nat_abs}
use mir.Syntax.{w32}
use mir.Val.{SFits}
use mir.Facts.{to_z-of_z}
use Rattle.sums.specs.LinearSum.{add_sum, mul_sum}
use Rattle.sums.specs.Bounds.{size}
use Rattle.sums.specs.Norm.{load}
use Rattle.sums.proofs.NormLaws.{constant_load, singleton_load}
use Rattle.sums.specs.Struct.{sum_of, sum_at, Keeps}
use Rattle.sums.proofs.Laws.{constant_kept}
use Rattle.totals.specs.declared.Lone.{Lone}
use Rattle.totals.specs.Lone.{sum_in}
use borrow.Author.Rules.{rules}
use Rattle.totals.proofs.add_lone.Goals as goal

pub add_constant-requires : goal.add_constant-requires
unfolding load
add_constant-requires c =
    let f : SFits w32 c.in-Constant.c = search rules in
    let n : size (sum_in c.args.x) ≡ nat_abs c.in-Constant.c = ap (λ (y : Lone). size (sum_in y)) c.in-Constant.is ∙ constant_load (λ v. 1) c.in-Constant.c in
    let h = rw n at c.requires.2 in
    rw (to_z-of_z f, to_z-of_z c.ranges.k) (omega (arith, h))

pub add_variable-requires : goal.add_variable-requires
add_variable-requires c =
    let n : size (sum_in c.args.x) ≡ 1 = ap (λ (y : Lone). size (sum_in y)) c.in-Number.is ∙ singleton_load (λ v. 1) c.in-Number.v in
    rw (to_z-of_z c.ranges.k) (c.requires.0, c.requires.1, omega (arith, rw n at c.requires.2), rw c.in-Number.is at c.requires.3)

pub returns-in-Constant : goal.returns-in-Constant
returns-in-Constant c =
    let a = c.args in
    let f : SFits w32 c.in-Constant.c = search rules in
    let e = rw (to_z-of_z f, to_z-of_z c.ranges.k) at c.add_constant.ensures in
    subst (λ (y : Lone). Keeps c.add_constant.result a.vars.now a.coefs.now (add_sum (sum_of (sum_at a.s a.vars.now a.coefs.now)) (mul_sum a.k (sum_in y)))) (sym c.in-Constant.is)
    (constant_kept a.k a.s a.vars.now a.coefs.now c.requires.1 c.requires.0 c.in-Constant.c c.add_constant.result e.0 e.1)

pub returns-in-Number : goal.returns-in-Number
returns-in-Number c =
    let a = c.args in
    subst (λ (y : Lone). Keeps c.add_variable.result c.add_variable.new.vars c.add_variable.new.coefs (add_sum (sum_of (sum_at a.s a.vars.now a.coefs.now)) (mul_sum a.k (sum_in y)))) (sym c.in-Number.is)
    (rw (to_z-of_z c.ranges.k) at c.add_variable.ensures)
