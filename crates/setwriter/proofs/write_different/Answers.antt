use native.Mathlib.Omega.{arith}
use Rattle.setwriter.proofs.Mapped.{mapped_stands, mapped_inside, mapped_some, mapped_done}
use Rattle.setwriter.proofs.write_different.Goals as goal

pub statement_end-next-requires : goal.statement_end-next-requires
statement_end-next-requires c = let h = c.requires.0.it in (record { stmt = c.requires.0.place.stmt; stands = mapped_stands h }, omega (arith, h.stands.size))

pub overflow_add-at : goal.overflow_add-at
overflow_add-at c = omega (arith, mapped_inside c.requires.0.it c.requires.1)

pub overflow_add-at-2 : goal.overflow_add-at-2
overflow_add-at-2 c = omega (arith, mapped_inside c.requires.0.it c.requires.1)

pub put_different-r-requires : goal.put_different-r-requires
put_different-r-requires c = (mapped_some c.requires.0.it c.requires.1 c.word-count.ensures, c.requires.2)

pub returns : goal.returns
returns c = λ x h. mapped_done h c.requires.1 c.word-count.ensures c.put_different-r.ensures c.requires.2.low c.statement_end-next.ensures
