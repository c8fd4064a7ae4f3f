use Rattle.page.proofs.Bytes.{put_sets}
use Rattle.page.proofs.Comparisons.{head_written}
use Rattle.page.proofs.put_head.Goals as goal

pub returns : goal.returns
returns c = head_written _ _ c.put_numbers-a.ensures.0 (put_sets c.put_byte.ensures) c.put_numbers-b.ensures.0 (put_sets c.put_byte-2.ensures)
