use Rattle.std.proofs.Common.{arith, length-take-le}
use borrow.Rule.Slice.PartMut.{take_put}
use Rattle.streams.proofs.Reading.{bytes_read, consumes_in_place}
use Rattle.streams.proofs.read_at.Goals as goal

pub returns-clause-front : goal.returns-clause-front
returns-clause-front g c = take_put _ _ c.args.buf.now _ (omega (arith, c.requires))

pub returns-clause-bytes : goal.returns-clause-bytes
returns-clause-bytes g c = consumes_in_place _ _ c.read.result _ c.read.new.buf _ c.args.at (length-take-le _ c.args.buf.now (omega (arith, c.requires))) c.read.ensures.bound (bytes_read _ _ _ _ c.read.ensures.bytes)
