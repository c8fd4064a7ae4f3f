use mathlib.Core.Path.{sym, ◌∙◌}
use Rattle.walk.specs.Decode.{read_part}
use Rattle.walks.specs.Decode.{decode}
use Rattle.scan.specs.Skip.{split_by}
use Rattle.rulewriter.proofs.Registered.{puts_none, puts_length}
use Rattle.rulewriter.proofs.Blocks.{puts_off}
use Rattle.rulewriter.proofs.add_ifs.Goals as goal

pub register-requires : goal.register-requires
register-requires c = record { placed = c.requires.placed; left_bound = c.requires.left_bound }

pub shape_of-out-then-has_ifs : goal.shape_of-out-then-has_ifs
shape_of-out-then-has_ifs c = puts_length c.register.ensures

pub returns-then-has_ifs : goal.returns-then-has_ifs
returns-then-has_ifs c = c.register.ensures

pub returns : goal.returns
returns c = puts_off c.args.work.now (decode (read_part c.args.work.now) c.args.left (split_by c.args.m) c.args.g c.args.at c.args.base).tree _ _ (sym c.has_ifs.ensures ∙ c.if-has_ifs.false) (puts_none _ c.requires.placed.1 c.nothing.ensures)
