use mathlib.Core.Path.{refl, ap}
use mathlib.Core.List.{[]}
use native.Mathlib.Omega.{arith}
use Rattle.laws.specs.Writes.{wrote_length}
use Rattle.walk.specs.Item.{Tally}
use Rattle.output.proofs.Laws.{stack_down}
use Rattle.rulewriter.proofs.PoolLaws.{single_found}
use Rattle.rulewriter.proofs.Making.{named_single, named_longer}
use Rattle.rulewriter.proofs.put_named.Goals as goal

pub probe-x-requires : goal.probe-x-requires
probe-x-requires c = c.requires.placed.0

pub put_single-q-requires : goal.put_single-q-requires
put_single-q-requires c =
    let s = c.probe-x.ensures.single c.if-p-eq0.true in
    record { placed = (c.requires.placed.0, c.requires.placed.1, c.requires.placed.2); v_le_limit = (c.requires.v_le_limit.0, c.if-p-eq0.true, s.found.unit [], omega (arith, s.found.room, s.skips.inside)) }

pub shape_of-out-then-p-eq0 : goal.shape_of-out-then-p-eq0
shape_of-out-then-p-eq0 c = wrote_length c.put_single-q.ensures

pub returns-then-p-eq0 : goal.returns-then-p-eq0
returns-then-p-eq0 c =
    let s = c.probe-x.ensures.single c.if-p-eq0.true in
    named_single _ _ _ c.args.work.now _ _ (single_found _ s c.if-p-eq0.true) _ (ap (λ (t : Tally). t.cmps) (s.found.unit [])) c.put_single-q.ensures refl

pub overflow_add-v : goal.overflow_add-v
overflow_add-v c = omega (arith, c.requires.v_le_limit.0)

pub write-z-requires : goal.write-z-requires
write-z-requires c = record { placed = (c.requires.placed.0, c.requires.placed.1, c.requires.placed.2); stacked = stack_down _ c.one_literal-s.ensures.1 (omega (arith, c.requires.v_le_limit.1)) }

pub shape_of-out : goal.shape_of-out
shape_of-out c = wrote_length c.write-z.ensures.1

pub returns : goal.returns
returns c = named_longer _ _ c.args.work.now _ _ _ _ _ _ _ _ c.write-z.ensures.0 (c.probe-x.ensures.longer c.if-p-eq0.false) _ c.one_literal-s.ensures.0 c.write-z.ensures.1 refl
