use native.Mathlib.Omega.{arith}
use Rattle.page.proofs.Comparisons.{terms_moves, head_line}
use Rattle.page.proofs.place_terms.Goals as goal

pub place_pairs-requires : goal.place_pairs-requires
place_pairs-requires c = (head_line _ _ c.comparison_width-w.ensures.0 c.comparison_width-w.ensures.1 c.begin-q.ensures c.put_head-a.ensures, c.requires.1, omega (arith, c.begin-q.ensures.moves.few, c.requires.2))

pub returns : goal.returns
returns c = terms_moves _ _ c.requires.0 c.requires.5 c.comparison_width-w.ensures.0 c.comparison_width-w.ensures.1 c.begin-q.ensures c.put_head-a.ensures c.place_pairs.ensures
