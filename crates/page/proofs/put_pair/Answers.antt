use native.Mathlib.Omega.{arith}
use Rattle.page.proofs.Bytes.{put_sets, wrote_to}
use Rattle.page.proofs.Pages.{pair_plain, put_comma}
use Rattle.page.proofs.put_pair.Goals as goal

pub overflow_add-result : goal.overflow_add-result
overflow_add-result c = record { fits = omega (arith, c.put_numbers-o.ensures.1, c.requires.0, c.requires.1) }

pub returns-then-more : goal.returns-then-more
returns-then-more c = put_comma _ c.args.more c.if-more.true c.put_numbers-o.ensures.0 (put_sets c.put_byte.ensures)

pub returns : goal.returns
returns c = wrote_to (pair_plain _ c.args.more c.if-more.false) c.put_numbers-o.ensures.0
