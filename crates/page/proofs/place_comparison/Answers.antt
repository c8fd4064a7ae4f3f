use Rattle.page.proofs.Comparisons.{terms_fit, comparison_placed}
use Rattle.page.proofs.place_comparison.Goals as goal

pub place_terms-p-requires : goal.place_terms-p-requires
place_terms-p-requires c = let t = terms_fit _ _ _ _ _ _ _ c.requires.4 c.requires.1 c.requires.3 c.stop-a.ensures c.stop-b.ensures c.count_at-n.ensures.0 c.stop-c.ensures c.stop-e.ensures in (c.requires.0, t.0, c.requires.2, t.1, t.2, t.3)

pub returns : goal.returns
returns c = comparison_placed _ _ _ _ _ _ _ c.requires.4 c.requires.1 c.requires.3 c.stop-a.ensures c.stop-b.ensures c.count_at-n.ensures.0 c.stop-c.ensures c.stop-e.ensures c.place_terms-p.ensures
