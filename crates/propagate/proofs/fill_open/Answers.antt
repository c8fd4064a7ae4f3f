use Rattle.propagate.proofs.PassLaws.{opened}
use Rattle.propagate.proofs.fill_open.Goals as goal

pub returns : goal.returns
returns c = opened c.args.work.now c.fill.new.self c.requires (c.fill.ensures.after (λ y e. e))
