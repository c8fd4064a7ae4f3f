-- Two words.
use mathlib.Core.Path.{refl}
use Rattle.laws.specs.Writes.{wrote_then}
use Rattle.output.proofs.Laws.{put_word, put_cast}
use Rattle.differing.proofs.put_term.Goals as goal

pub returns : goal.returns
returns c = wrote_then c.requires.1.room (put_cast c.requires.0 c.put-p.ensures) (put_word c.ranges.k refl c.put.ensures)
