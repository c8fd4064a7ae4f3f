use mathlib.Core.Path.{◌∙◌}
use Rattle.planner.proofs.Prepared.{table_asks, mark_asks, prepares}
use Rattle.planner.proofs.prepare.Goals as goal

pub write_domains-requires : goal.write_domains-requires
write_domains-requires c = table_asks _ _ _ c.args.end c.requires c.clear_words.ensures

pub mark_ifs-requires : goal.mark_ifs-requires
mark_ifs-requires c = mark_asks _ _ _ _ c.requires (c.write_domains.auto.work ∙ c.clear_words.auto.work)

pub returns : goal.returns
returns c = prepares _ _ _ _ c.clear_words.ensures c.write_domains.ensures c.mark_ifs.ensures
