-- `write_domains` meets its contract: what is left to write, written, gives the whole table. Assumes nothing.
use Prim.Native.Nat.{◌+◌, ◌-◌}
use native.Mathlib.Omega.{arith}
use mathlib.Core.Path.{◌≡◌, ap, ◌∙◌}
use lib.IntN.{ℤ, pos, ◌-ℤ◌}
use lib.ListN.{set, length-set}
use mir.Syntax.{w32}
use mir.Val.{SFits, of_z, to_z}
use mir.Facts.{to_z-of_z}
use Rattle.declared.proofs.Laws.{first_sized, first_at, less_fits, table_rest, table_more, table_none}
use borrow.Author.Rules.{rules}
use Rattle.declared.proofs.write_domains.Goals as goal

pub lower_bound-requires : goal.lower_bound-requires
lower_bound-requires c = first_at _ _ (c.args.n - c.loop.counter) (omega arith) _ _ c.loop.invariant.0

pub upper_bound-requires : goal.upper_bound-requires
upper_bound-requires c = first_at _ _ (c.args.n - c.loop.counter) (omega arith) _ _ c.loop.invariant.0

pub num_candidates-requires : goal.num_candidates-requires
num_candidates-requires c = first_sized _ _ (c.args.n - c.loop.counter) (omega arith) _ _ c.loop.invariant.0

pub domain_end-at-requires : goal.domain_end-at-requires
domain_end-at-requires c = first_at _ _ (c.args.n - c.loop.counter) (omega arith) _ _ c.loop.invariant.0

pub overflow_sub-work : goal.overflow_sub-work
overflow_sub-work c = let f : SFits w32 c.num_candidates.result = search rules in rw (to_z-of_z f) (less_fits _ _ (c.args.n - c.loop.counter) (omega arith) _ _ c.loop.invariant.0 _ c.num_candidates.ensures)

pub loop-preserved : goal.loop-preserved
loop-preserved c =
    let e : c.args.n - (c.loop.counter + 1) ≡ c.args.n - c.loop.counter - 1 = omega arith in
    let f : SFits w32 c.lower_bound.result = search rules in
    let g : SFits w32 c.upper_bound.result = search rules in
    let h : SFits w32 c.num_candidates.result = search rules in
    let k : SFits w32 (to_z w32 (of_z w32 c.num_candidates.result) -ℤ pos 1) = rw (to_z-of_z h) (less_fits _ _ (c.args.n - c.loop.counter) (omega arith) _ _ c.loop.invariant.0 _ c.num_candidates.ensures) in
    rw e (table_rest _ _ _ (omega arith) _ _ _ c.domain_end-at.ensures _ _ _ c.loop.invariant.0, length-set (set (set c.loop.work c.loop.p _) (c.loop.p + 1) _) (c.loop.p + 2) _ ∙ length-set (set c.loop.work c.loop.p _) (c.loop.p + 1) _ ∙ length-set c.loop.work c.loop.p _ ∙ c.loop.invariant.1, λ out x. c.loop.invariant.2 out (table_more _ _ _ (omega arith) _ _ _ c.domain_end-at.ensures _ _ _ (λ dm s. to_z-of_z f ∙ c.lower_bound.ensures dm s) (λ dm s. to_z-of_z g ∙ c.upper_bound.ensures dm s) (λ dm s. to_z-of_z k ∙ ap (λ (y : ℤ). y -ℤ pos 1) (to_z-of_z h ∙ c.num_candidates.ensures dm s)) out x))

pub returns : goal.returns
returns c = c.loop.invariant.2 _ (table_none _ _ _ _ _ (omega arith))
