use mathlib.Core.Path.{ap, ◌∙◌}
use Prim.Native.Nat.{ℕ, min}
use native.Mathlib.Omega.{arith}
use Rattle.setwriter.proofs.One.{rule_inside, rule_placed, rule_fit, rule_did}
use Rattle.setwriter.proofs.put_rule.Goals as goal

pub overflow_add-at : goal.overflow_add-at
overflow_add-at c = omega (arith, rule_inside c.requires.0.it)

pub write_rule-r-requires : goal.write_rule-r-requires
write_rule-r-requires c = let h = c.requires.0.it in (rule_placed h, c.requires.1.room, rule_fit h)

pub returns : goal.returns
returns c = λ ds e s h. rule_did h c.write_rule-r.result c.write_rule-r.ensures.0 c.write_rule-r.ensures.1 c.requires.1.low (c.lesser.ensures ∙ ap (λ (u : ℕ). min u c.write_rule-r.result.o) c.bump.ensures)
