use Rattle.streams.proofs.Reading.{filled_more}
use Rattle.streams.proofs.read_full.Goals as goal

pub loop-at-preserved : goal.loop-at-preserved
loop-at-preserved g c = record {
  within = c.in_ok-n.ensures.fits;
  taken = filled_more _ _ _ c.loop-at.buf c.read_at.new.buf c.loop-at.at c.in_ok-n.n c.in_ok-n.ensures.front c.loop-at.invariant.taken c.in_ok-n.ensures.bytes;
}
