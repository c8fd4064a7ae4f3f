use mathlib.Core.Path.{sym, ◌∙◌}
use Rattle.planner.proofs.Second.{begin_asks, maps_ask, by_maps, again_asks, again}
use Rattle.planner.proofs.write_clauses.Goals as goal

pub begin_walk-n-requires : goal.begin_walk-n-requires
begin_walk-n-requires c = begin_asks _ _ _ _ _ _ _ _ c.requires

pub write_numbered-requires : goal.write_numbered-requires
write_numbered-requires c = again_asks _ _ _ _ _ _ _ _ (sym c.has_ifs.ensures ∙ c.if-has_ifs.true) _ _ c.begin_walk-n.ensures c.requires

pub returns-then-has_ifs : goal.returns-then-has_ifs
returns-then-has_ifs c = again _ _ _ _ _ _ _ _ (sym c.has_ifs.ensures ∙ c.if-has_ifs.true) _ _ c.begin_walk-n.ensures c.write_numbered.ensures

pub write_by_maps-w-requires : goal.write_by_maps-w-requires
write_by_maps-w-requires c = maps_ask _ _ _ _ _ _ _ _ (sym c.has_ifs.ensures ∙ c.if-has_ifs.false) c.requires

pub returns : goal.returns
returns c = by_maps _ _ _ _ _ _ _ _ (sym c.has_ifs.ensures ∙ c.if-has_ifs.false) c.write_by_maps-w.ensures
