use Prim.Native.Nat.{◌+◌, ◌-◌}
use mathlib.Core.Path.{◌≡◌}
use native.Mathlib.Omega.{arith}
use lib.IntN.{pos}
use lib.ListN.{get_or}
use mir.Syntax.{w32}
use mir.Val.{SFits}
use mir.Facts.{to_z-of_z}
use borrow.Author.Rules.{rules}
use Rattle.evaluate.proofs.ValueLaws.{inside_none, next_domain, next_value, inside_stop, rest_domains, inside_more, domain_same}
use Rattle.evaluate.proofs.ints_inside.Goals as goal

pub loop-q-init : goal.loop-q-init
loop-q-init c = let e : c.args.p + c.args.n - c.args.p ≡ c.args.n = omega arith in rw e (c.requires, λ r x. x)

pub offset_bounds-values-q : goal.offset_bounds-values-q
offset_bounds-values-q c = let q = next_value c.args.set.now c.loop-q.next (c.args.p + c.args.n - c.loop-q.q) c.args.values.now c.loop-q.q (omega arith) c.loop-q.invariant.0 in search rules

pub bounds-values-q : goal.bounds-values-q
bounds-values-q c = let q = next_value c.args.set.now c.loop-q.next (c.args.p + c.args.n - c.loop-q.q) c.args.values.now c.loop-q.q (omega arith) c.loop-q.invariant.0 in search rules

pub in_domain-requires : goal.in_domain-requires
in_domain-requires c = next_domain c.args.set.now c.loop-q.next (c.args.p + c.args.n - c.loop-q.q) c.args.values.now c.loop-q.q (omega arith) c.loop-q.invariant.0

pub returns-then-not-in_domain : goal.returns-then-not-in_domain
returns-then-not-in_domain c = let f : SFits w32 (get_or c.args.values.now c.loop-q.q (pos 0)) = search rules in c.loop-q.invariant.1 _ (inside_stop c.args.set.now c.loop-q.next (c.args.p + c.args.n - c.loop-q.q) c.args.values.now c.loop-q.q (omega arith) _ (domain_same c.args.set.now c.loop-q.next _ _ _ (to_z-of_z f) c.in_domain.ensures) c.if-not-in_domain.true)

pub domain_end-next-requires : goal.domain_end-next-requires
domain_end-next-requires c = next_domain c.args.set.now c.loop-q.next (c.args.p + c.args.n - c.loop-q.q) c.args.values.now c.loop-q.q (omega arith) c.loop-q.invariant.0

pub loop-q-preserved : goal.loop-q-preserved
loop-q-preserved c = let e : c.args.p + c.args.n - (c.loop-q.q + 1) ≡ c.args.p + c.args.n - c.loop-q.q - 1 = omega arith in let f : SFits w32 (get_or c.args.values.now c.loop-q.q (pos 0)) = search rules in rw e (rest_domains c.args.set.now c.loop-q.next (c.args.p + c.args.n - c.loop-q.q) c.args.values.now c.loop-q.q (omega arith) _ (domain_same c.args.set.now c.loop-q.next _ _ _ (to_z-of_z f) c.in_domain.ensures) _ c.domain_end-next.ensures c.loop-q.invariant.0, λ r o. c.loop-q.invariant.1 r (inside_more c.args.set.now c.loop-q.next (c.args.p + c.args.n - c.loop-q.q) c.args.values.now c.loop-q.q (omega arith) _ (domain_same c.args.set.now c.loop-q.next _ _ _ (to_z-of_z f) c.in_domain.ensures) _ c.domain_end-next.ensures c.if-not-in_domain.false r o))

pub returns : goal.returns
returns c = c.loop-q.invariant.1 _ (inside_none _ _ _ _ _ (omega arith))
