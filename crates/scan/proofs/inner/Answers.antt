use Rattle.scan.specs.Skip.{inner_none, inner_some}
use Rattle.scan.proofs.inner.Goals as goal

pub returns-then-m-eq0 : goal.returns-then-m-eq0
returns-then-m-eq0 c = inner_none _ c.if-m-eq0.true

pub returns : goal.returns
returns c = inner_some _ c.if-m-eq0.false
