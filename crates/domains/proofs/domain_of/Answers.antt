use native.Mathlib.Omega.{arith}
use mathlib.Core.Path.{◌≡◌}
use Prim.Native.Nat.{◌+◌, ◌-◌}
use Rattle.domains.proofs.Laws.{first_domain, rest_below, rest_post, zero_post}
use Rattle.domains.proofs.domain_of.Goals as goal

pub loop-init : goal.loop-init
loop-init c = let e : c.args.v - 0 ≡ c.args.v = omega arith in rw e (c.requires, λ r p. p)

pub domain_end-at-requires : goal.domain_end-at-requires
domain_end-at-requires c = first_domain _ _ _ c.loop.invariant.0

pub loop-preserved : goal.loop-preserved
loop-preserved c =
    let e : c.args.v - (c.loop.counter + 1) ≡ c.args.v - c.loop.counter - 1 = omega arith in
    rw e (rest_below _ _ _ _ (omega arith) c.domain_end-at.ensures c.loop.invariant.0, λ r p. c.loop.invariant.1 r (rest_post _ _ _ _ (omega arith) c.domain_end-at.ensures r p))

pub returns : goal.returns
returns c = c.loop.invariant.1 c.loop.at (zero_post c.args.words.now c.loop.at (c.args.v - c.loop.counter) (omega arith))
