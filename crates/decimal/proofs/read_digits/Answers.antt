-- `decimal::read_digits` meets its contract. Assumes nothing.
use Prim.Native.Nat.{◌+◌, ◌*◌}
use mathlib.Core.Path.{sym, ap, ◌∙◌}
use lib.ListN.{drop}
use Rattle.decimal.specs.Decimal.{read_digits as digits}
use Rattle.decimal.specs.Numbers.{limited}
use Rattle.decimal.proofs.Digits.{digit_none, digit_next, digits_unread, digits_over, digits_end}
use Rattle.decimal.proofs.read_digits.Goals as goal

pub returns-then-not-is_ascii_digit : goal.returns-then-not-is_ascii_digit
returns-then-not-is_ascii_digit c = digits_unread _ _ c.loop-b.invariant.1 (digit_none c.args.part.now c.loop-b.b-index c.loop-b.n c.loop-b-test.true (sym c.is_ascii_digit.ensures.value ∙ c.if-not-is_ascii_digit.true))

pub returns-then-n-gt2147483648 : goal.returns-then-n-gt2147483648
returns-then-n-gt2147483648 c = digits_over _ _ _ _ c.loop-b.invariant.1 (digit_next c.args.part.now c.loop-b.b-index c.loop-b.n c.loop-b-test.true (sym c.is_ascii_digit.ensures.value ∙ c.if-not-is_ascii_digit.false) ∙ ap (λ w. digits (10 * c.loop-b.n + w) (drop (c.loop-b.b-index + 1) c.args.part.now)) (sym c.from.ensures)) c.if-n-gt2147483648.true

pub loop-b-preserved : goal.loop-b-preserved
loop-b-preserved c = (c.if-n-gt2147483648.false, ap limited (sym (digit_next c.args.part.now c.loop-b.b-index c.loop-b.n c.loop-b-test.true (sym c.is_ascii_digit.ensures.value ∙ c.if-not-is_ascii_digit.false) ∙ ap (λ w. digits (10 * c.loop-b.n + w) (drop (c.loop-b.b-index + 1) c.args.part.now)) (sym c.from.ensures))) ∙ c.loop-b.invariant.1)

pub returns : goal.returns
returns c = digits_end c.args.part.now _ c.loop-b.n _ c.loop-b-test.false c.loop-b.invariant.0 c.loop-b.invariant.1
