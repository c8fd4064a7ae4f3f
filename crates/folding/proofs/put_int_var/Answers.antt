use native.Mathlib.Omega.{arith}
use Rattle.folding.proofs.DomainLaws.{domain_stands, value_inside, var_kept, var_constant}
use Rattle.folding.proofs.put_int_var.Goals as goal

pub as_constant-requires : goal.as_constant-requires
as_constant-requires c = domain_stands c.args.words.now c.args.d c.args.v c.domain_of-at.result c.requires.domain_below c.domain_of-at.ensures

pub returns-in-None : goal.returns-in-None
returns-in-None c = var_kept c.args.words.now c.args.d c.args.work.now c.args.o c.args.v c.domain_of-at.result c.domain_of-at.ensures c.in-None.ensures _ _ c.put_two.ensures

pub copy_word-requires : goal.copy_word-requires
copy_word-requires c = (value_inside c.args.words.now c.args.d c.args.work.now c.args.o c.args.v c.domain_of-at.result c.domain_of-at.ensures c.in-Some.p c.in-Some.ensures c.requires.domain_below, omega (arith, c.put.auto.work, c.requires.o_in_bounds.0))

pub returns-in-Some : goal.returns-in-Some
returns-in-Some c = var_constant c.args.words.now c.args.d c.args.work.now c.args.o c.args.v c.domain_of-at.result c.domain_of-at.ensures c.in-Some.p c.in-Some.ensures _ c.requires.o_in_bounds.0 (rw c.put.ensures at c.copy_word.ensures)
