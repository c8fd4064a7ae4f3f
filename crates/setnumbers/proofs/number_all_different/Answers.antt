use mathlib.Core.Path.{sym, ◌∙◌}
use Rattle.setnumbers.proofs.Numbering.{few_done, once_asks, once_done}
use Rattle.setnumbers.proofs.number_all_different.Goals as goal

pub number_different-requires : goal.number_different-requires
number_different-requires c = (c.requires.1.0, c.requires.1.1.0)

pub shape_of-work-then-has_ifs : goal.shape_of-work-then-has_ifs
shape_of-work-then-has_ifs c = c.number_different.ensures.kept.size

pub shape_of-out-then-has_ifs : goal.shape_of-out-then-has_ifs
shape_of-out-then-has_ifs c = c.number_different.ensures.kept.room

pub returns-then-has_ifs : goal.returns-then-has_ifs
returns-then-has_ifs c = c.number_different.ensures

pub returns-then-n-lt2 : goal.returns-then-n-lt2
returns-then-n-lt2 c = few_done _ _ _ _ _ c.if-n-lt2.true c.requires.1.1.0.low

pub number_each-requires : goal.number_each-requires
number_each-requires c = (c.requires.1.0, once_asks _ _ _ _ _ (c.requires.1.1.1 (sym c.has_ifs.ensures ∙ c.if-has_ifs.false)) c.requires.1.1.0)

pub shape_of-work : goal.shape_of-work
shape_of-work c = c.number_each.ensures.kept.size

pub shape_of-out : goal.shape_of-out
shape_of-out c = c.number_each.ensures.kept.room

pub returns : goal.returns
returns c = once_done _ _ _ _ _ (c.requires.1.1.1 (sym c.has_ifs.ensures ∙ c.if-has_ifs.false)) c.if-n-lt2.false c.requires.0 (sym c.has_ifs.ensures ∙ c.if-has_ifs.false) c.requires.1.1.0 _ c.number_each.ensures
