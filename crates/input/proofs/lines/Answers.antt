-- `input::lines` meets its contract. Assumes nothing.
use mathlib.Core.Path.{refl, ap, ◌∙◌}
use Rattle.std.specs.Prelude.{Some}
use native.Mathlib.Omega.{arith}
use Rattle.input.proofs.Whole.{lines_unread, lines_other, lines_in, lines_again, lines_done}
use borrow.Author.Rules.{rules}
use Rattle.input.proofs.lines.Goals as goal

pub loop-i-init : goal.loop-i-init
loop-i-init c = (search rules, search rules, refl, λ next z. refl)

pub one_line-requires : goal.one_line-requires
one_line-requires c = record { short = c.requires.inside.short; place = c.loop-i.invariant.0; count = c.loop-i.invariant.1 }

pub returns-in_err-j : goal.returns-in_err-j
returns-in_err-j c = rw c.from_residual.ensures (lines_unread _ _ _ _ _ _ _ _ c.loop-i.invariant.2 c.loop-i.invariant.3 _ _ c.one_line.ensures c.in_err-j.was)

pub returns-in_default : goal.returns-in_default
returns-in_default c = lines_other _ _ _ _ _ _ _ _ c.loop-i.invariant.2 c.loop-i.invariant.3 _ _ c.one_line.ensures (c.in_ok-j.was ∙ ap Some c.in_default.is) c.loop-i.invariant.0 c.loop-i.invariant.1

pub loop-i-smaller : goal.loop-i-smaller
loop-i-smaller c = let h = lines_in _ _ _ _ _ _ _ _ c.loop-i.invariant.2 c.loop-i.invariant.3 _ _ c.one_line.ensures _ _ (c.in_ok-j.was ∙ ap Some c.in-Some.is) in omega (arith, h.0, h.1.0)

pub loop-i-preserved : goal.loop-i-preserved
loop-i-preserved c = lines_again _ _ _ _ _ _ _ _ c.loop-i.invariant.2 c.loop-i.invariant.3 _ _ c.one_line.ensures _ _ (c.in_ok-j.was ∙ ap Some c.in-Some.is)

pub returns : goal.returns
returns c = lines_done _ _ _ _ _ _ _ _ c.loop-i.invariant.2 c.loop-i.invariant.3 c.requires.key_nonzero c.loop-i.invariant.0 c.loop-i.invariant.1 c.loop-i-test.false
