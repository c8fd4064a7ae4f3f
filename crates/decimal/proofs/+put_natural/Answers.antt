-- `decimal::put_natural` meets its contract. Assumes nothing.
use native.Mathlib.Omega.{arith}
use native.Mathlib.Nat.{div-add-mod', mod-lt}
use Rattle.decimal.proofs.Printing.{put_small, put_large}
use Rattle.decimal.proofs.+put_natural.Goals as goal

pub returns-then-n-lt10 : goal.returns-then-n-lt10
returns-then-n-lt10 t c = put_small c.args.n c.if-n-lt10.true c.put_byte.ensures

pub put_natural-o-requires : goal.put_natural-o-requires
put_natural-o-requires t c = (omega (arith, c.decreases, div-add-mod' c.args.n 10, c.if-n-lt10.false), tt)

pub overflow_cast-n-2 : goal.overflow_cast-n-2
overflow_cast-n-2 t c = record { fits = omega (arith, mod-lt c.args.n {m = 10} (omega arith)) }

pub overflow_add-n-2 : goal.overflow_add-n-2
overflow_add-n-2 t c = record { fits = omega (arith, mod-lt c.args.n {m = 10} (omega arith)) }

pub returns : goal.returns
returns t c = put_large c.args.n c.if-n-lt10.false c.put_natural-o.ensures c.put_byte-2.ensures
