use mathlib.Core.Path.{refl}
use Rattle.page.proofs.Bytes.{put_sets}
use Rattle.page.proofs.Pages.{end_written}
use Rattle.page.proofs.end_line.Goals as goal

pub returns : goal.returns
returns c = end_written c.args.p.line c.requires.0.low c.requires.0.high refl c.put_spaces-o.ensures.0 c.put_spaces-o.ensures.1 (put_sets c.put_byte.ensures)
