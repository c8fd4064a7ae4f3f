use native.Mathlib.Omega.{arith}
use mathlib.Core.Path.{◌≡◌, ◌∙◌}
use lib.ListN.{set, length-set}
use mir.Syntax.{w32}
use mir.Val.{SFits}
use Prim.Native.Nat.{◌+◌, ◌-◌}
use mir.Facts.{to_z-of_z}
use Rattle.domains.proofs.Laws.{bounds_first, bounds_rest, bounds_more, bounds_none}
use borrow.Author.Rules.{rules}
use Rattle.domains.proofs.write_bounds.Goals as goal

pub lower_bound-requires : goal.lower_bound-requires
lower_bound-requires c = bounds_first _ _ (c.args.n - c.loop.counter) (omega arith) _ _ c.loop.invariant.0

pub upper_bound-requires : goal.upper_bound-requires
upper_bound-requires c = bounds_first _ _ (c.args.n - c.loop.counter) (omega arith) _ _ c.loop.invariant.0

pub domain_end-at-requires : goal.domain_end-at-requires
domain_end-at-requires c = bounds_first _ _ (c.args.n - c.loop.counter) (omega arith) _ _ c.loop.invariant.0

pub loop-preserved : goal.loop-preserved
loop-preserved c =
    let e : c.args.n - (c.loop.counter + 1) ≡ c.args.n - c.loop.counter - 1 = omega arith in
    let f : SFits w32 c.lower_bound.result = search rules in
    let g : SFits w32 c.upper_bound.result = search rules in
    rw e (bounds_rest _ _ _ (omega arith) _ c.domain_end-at.ensures _ _ _ _ c.loop.invariant.0, length-set (set c.loop.work c.loop.p _) (c.loop.p + 1) _ ∙ length-set c.loop.work c.loop.p _ ∙ c.loop.invariant.1, λ out r x. c.loop.invariant.2 out r (bounds_more _ _ _ (omega arith) _ c.domain_end-at.ensures _ _ _ _ (λ dm h. to_z-of_z f ∙ c.lower_bound.ensures dm h) (λ dm h. to_z-of_z g ∙ c.upper_bound.ensures dm h) out r x))

pub returns : goal.returns
returns c = c.loop.invariant.2 _ _ (bounds_none _ _ _ _ _ (omega arith))
