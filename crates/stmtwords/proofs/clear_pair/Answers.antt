use Rattle.stmtwords.proofs.Clearing.{pair_none, pair_done}
use Rattle.stmtwords.proofs.clear_pair.Goals as goal

pub returns-then-has_ifs : goal.returns-then-has_ifs
returns-then-has_ifs c = pair_done _ _ _ _ _ _ _ _ _ _ c.has_ifs.ensures c.if-has_ifs.true c.clear_int.ensures c.clear_int-then-has_ifs.ensures

pub returns-else-has_ifs : goal.returns-else-has_ifs
returns-else-has_ifs c = pair_none _ _ _ _ c.has_ifs.ensures c.if-has_ifs.false
