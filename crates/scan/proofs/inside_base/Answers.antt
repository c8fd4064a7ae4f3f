use mathlib.Core.Path.{◌∙◌}
use native.Mathlib.Omega.{arith}
use Rattle.scan.specs.Skip.{inside_same, inside_more}
use Rattle.scan.proofs.inside_base.Goals as goal

pub returns-then-m-lt2 : goal.returns-then-m-lt2
returns-then-m-lt2 c = inside_same c.args.m _ (omega (arith, c.if-m-lt2.true))

pub returns : goal.returns
returns c = c.bump.ensures ∙ inside_more c.args.m _ (omega (arith, c.if-m-lt2.false))
