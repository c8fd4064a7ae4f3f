use mathlib.Core.Path.{refl, ◌∙◌, ◌≡◌}
use Prim.Native.Nat.{◌+◌, ◌-◌}
use native.Mathlib.Omega.{arith}
use Rattle.folding.specs.Known.{known}
use Rattle.passes.proofs.PropLaws.{stands_first, stands_inside, stands_second, cmp_props, not_stands, not_props, list_stand, list_props, left_stands, right_stands, binary_props, members_none, first_stands, rest_stand, members_more, binary_low, status_start, status_next, status_end}
use Rattle.passes.proofs.+constant_prop.Goals as goal

pub constant_prop_bool-number-w-requires : goal.constant_prop_bool-number-w-requires
constant_prop_bool-number-w-requires t c = stands_first _ _ c.requires

pub constant_prop_bool-prop_leaf-requires : goal.constant_prop_bool-prop_leaf-requires
constant_prop_bool-prop_leaf-requires t c = record { stands = c.requires; pos_value = (c.number-w.ensures.0, c.if-w-lt12.true) }

pub constant_prop_bool-shape_of-work-then-w-lt12 : goal.constant_prop_bool-shape_of-work-then-w-lt12
constant_prop_bool-shape_of-work-then-w-lt12 t c = c.prop_leaf.auto.work

pub constant_prop_bool-returns-then-w-lt12 : goal.constant_prop_bool-returns-then-w-lt12
constant_prop_bool-returns-then-w-lt12 t c = c.prop_leaf.ensures

pub constant_prop_bool-skip_comparison-next-requires : goal.constant_prop_bool-skip_comparison-next-requires
constant_prop_bool-skip_comparison-next-requires t c = record { stands = c.requires; pos_value = rw c.if-w-eq18.true at c.number-w.ensures.0 }

pub constant_prop_bool-returns-then-w-eq18 : goal.constant_prop_bool-returns-then-w-eq18
constant_prop_bool-returns-then-w-eq18 t c = cmp_props _ _ _ c.number-w.ensures.0 c.if-w-eq18.true _ _ c.skip_comparison-next.ensures

pub constant_prop_bool-overflow_add-at : goal.constant_prop_bool-overflow_add-at
constant_prop_bool-overflow_add-at t c = let q = (stands_inside _ _ _ c.number-w.ensures.0 c.requires) in omega (arith, c.well_formed.0.0)

pub constant_prop_bool-constant_prop_bool-requires : goal.constant_prop_bool-constant_prop_bool-requires
constant_prop_bool-constant_prop_bool-requires t c = let q = (stands_inside _ _ _ c.number-w.ensures.0 c.requires) in (omega (arith, c.decreases), not_stands _ _ _ c.number-w.ensures.0 c.requires c.if-w-eq14.true)

pub constant_prop_bool-shape_of-work-then-w-eq14 : goal.constant_prop_bool-shape_of-work-then-w-eq14
constant_prop_bool-shape_of-work-then-w-eq14 t c = c.constant_prop_bool.auto.work

pub constant_prop_bool-returns-then-w-eq14 : goal.constant_prop_bool-returns-then-w-eq14
constant_prop_bool-returns-then-w-eq14 t c = not_props _ _ _ c.number-w.ensures.0 _ _ _ _ _ c.if-w-eq14.true c.flip-k.ensures c.constant_prop_bool.ensures

pub constant_prop_bool-overflow_add-at-then-w-lt14 : goal.constant_prop_bool-overflow_add-at-then-w-lt14
constant_prop_bool-overflow_add-at-then-w-lt14 t c = let q = (stands_inside _ _ _ c.number-w.ensures.0 c.requires) in omega (arith, c.well_formed.0.0)

pub constant_prop_bool-number-n-requires : goal.constant_prop_bool-number-n-requires
constant_prop_bool-number-n-requires t c = stands_second _ _ _ c.number-w.ensures.0 c.requires (λ l. absurd (omega (arith, l, c.if-w-lt14.true)))

pub constant_prop_bool-overflow_add-at-then-w-lt14-2 : goal.constant_prop_bool-overflow_add-at-then-w-lt14-2
constant_prop_bool-overflow_add-at-then-w-lt14-2 t c = let q = (stands_inside _ _ _ c.number-w.ensures.0 c.requires) in omega (arith, c.well_formed.0.0)

pub constant_prop_bool-constant_prop_members-requires : goal.constant_prop_bool-constant_prop_members-requires
constant_prop_bool-constant_prop_members-requires t c = let q = (stands_inside _ _ _ c.number-w.ensures.0 c.requires) in (omega (arith, c.decreases), list_stand _ _ _ c.number-w.ensures.0 c.if-w-lt12.false c.if-w-lt14.true _ c.number-n.ensures.0 c.requires)

pub constant_prop_bool-shape_of-work-then-w-lt14 : goal.constant_prop_bool-shape_of-work-then-w-lt14
constant_prop_bool-shape_of-work-then-w-lt14 t c = c.constant_prop_members.auto.work

pub constant_prop_bool-returns-then-w-lt14 : goal.constant_prop_bool-returns-then-w-lt14
constant_prop_bool-returns-then-w-lt14 t c = list_props _ _ _ c.number-w.ensures.0 c.if-w-lt12.false c.if-w-lt14.true _ c.number-n.ensures.0 _ _ _ _ _ c.member_want-k.ensures c.constant_prop_members.ensures

pub constant_prop_bool-overflow_add-at-2 : goal.constant_prop_bool-overflow_add-at-2
constant_prop_bool-overflow_add-at-2 t c = let q = (stands_inside _ _ _ c.number-w.ensures.0 c.requires) in omega (arith, c.well_formed.0.0)

pub constant_prop_bool-constant_prop_bool-a-requires : goal.constant_prop_bool-constant_prop_bool-a-requires
constant_prop_bool-constant_prop_bool-a-requires t c = let q = (stands_inside _ _ _ c.number-w.ensures.0 c.requires) in (omega (arith, c.decreases), left_stands _ _ _ c.number-w.ensures.0 (binary_low _ c.if-w-eq14.false c.if-w-lt14.false) c.if-w-eq18.false c.requires)

pub constant_prop_bool-constant_prop_bool-b-requires : goal.constant_prop_bool-constant_prop_bool-b-requires
constant_prop_bool-constant_prop_bool-b-requires t c = let q = (stands_inside _ _ _ c.number-w.ensures.0 c.requires) in let r = (right_stands _ _ _ c.number-w.ensures.0 (binary_low _ c.if-w-eq14.false c.if-w-lt14.false) c.if-w-eq18.false _ _ c.left_want-l.ensures _ _ _ c.constant_prop_bool-a.ensures c.requires) in (omega (arith, c.decreases, r.1, c.constant_prop_bool-a.auto.work), r.0)

pub constant_prop_bool-shape_of-work : goal.constant_prop_bool-shape_of-work
constant_prop_bool-shape_of-work t c = c.constant_prop_bool-b.auto.work ∙ c.constant_prop_bool-a.auto.work

pub constant_prop_bool-returns : goal.constant_prop_bool-returns
constant_prop_bool-returns t c = binary_props _ _ _ c.number-w.ensures.0 (binary_low _ c.if-w-eq14.false c.if-w-lt14.false) c.if-w-eq18.false _ _ c.left_want-l.ensures _ _ _ c.constant_prop_bool-a.ensures _ _ _ _ _ c.right_want-r.ensures c.constant_prop_bool-b.ensures c.worst-status.ensures

pub constant_prop_members-loop-init : goal.constant_prop_members-loop-init
constant_prop_members-loop-init t c = let e : c.args.count - 0 ≡ c.args.count = omega arith in rw e (omega arith, refl, c.requires, λ out' next' s p. status_start _ _ _ _ _ _ _ p)

pub constant_prop_members-constant_prop_bool-a-requires : goal.constant_prop_members-constant_prop_bool-a-requires
constant_prop_members-constant_prop_bool-a-requires t c = (omega (arith, c.decreases, c.loop.invariant.0, c.loop.invariant.1), first_stands _ _ _ (known c.args.want) (omega arith) c.loop.invariant.2)

pub constant_prop_members-loop-preserved : goal.constant_prop_members-loop-preserved
constant_prop_members-loop-preserved t c = let e : c.args.count - (c.loop.counter + 1) ≡ c.args.count - c.loop.counter - 1 = omega arith in rw e (let r = rest_stand _ _ _ _ (omega arith) _ _ _ c.constant_prop_bool-a.ensures c.loop.invariant.2 in (omega (arith, r.1, c.loop.invariant.0), c.constant_prop_bool-a.auto.work ∙ c.loop.invariant.1, r.0, λ out' next' s p. status_next _ _ _ _ _ _ _ _ _ _ c.worst-status.ensures (c.loop.invariant.3 out' next' _ (members_more _ _ _ _ (omega arith) _ _ _ c.constant_prop_bool-a.ensures _ _ _ p))))

pub constant_prop_members-shape_of-work : goal.constant_prop_members-shape_of-work
constant_prop_members-shape_of-work t c = c.loop.invariant.1

pub constant_prop_members-returns : goal.constant_prop_members-returns
constant_prop_members-returns t c = status_end _ _ _ _ _ _ _ (c.loop.invariant.3 _ _ _ (members_none _ _ _ _ (omega arith)))
