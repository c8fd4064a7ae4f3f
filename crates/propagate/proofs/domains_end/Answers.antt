use native.Mathlib.Omega.{arith}
use mathlib.Core.Path.{◌≡◌}
use Prim.Native.Nat.{◌+◌, ◌-◌}
use Rattle.propagate.proofs.PassLaws.{domains_none, domain_stands, domains_stand, domains_more}
use Rattle.propagate.proofs.domains_end.Goals as goal

pub loop-init : goal.loop-init
loop-init c = let e : c.args.n - 0 ≡ c.args.n = omega arith in rw e (c.requires, λ r p. p)

pub domain_end-at-requires : goal.domain_end-at-requires
domain_end-at-requires c = domain_stands _ _ (c.args.n - c.loop.counter) (omega arith) c.loop.invariant.0

pub loop-preserved : goal.loop-preserved
loop-preserved c =
    let e : c.args.n - (c.loop.counter + 1) ≡ c.args.n - c.loop.counter - 1 = omega arith in
    rw e (domains_stand _ _ (c.args.n - c.loop.counter) (omega arith) _ c.domain_end-at.ensures c.loop.invariant.0, λ r p. c.loop.invariant.1 r (domains_more _ _ (c.args.n - c.loop.counter) (omega arith) _ c.domain_end-at.ensures r p))

pub returns : goal.returns
returns c = c.loop.invariant.1 _ (domains_none _ _ (c.args.n - c.loop.counter) (omega arith))
