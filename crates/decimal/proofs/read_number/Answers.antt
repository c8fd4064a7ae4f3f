-- `decimal::read_number` meets its contract. Assumes nothing.
use mathlib.Core.Path.{sym, ◌∙◌}
use native.Mathlib.Omega.{arith}
use borrow.Author.Tests.{eqb-true, eqb-false}
use Rattle.decimal.proofs.Digits.{number_minus, number_none, number_plain, limited_most, less_one_fits, minus_unread, minus_zero, minus_result, plain_unread, plain_result}
use Rattle.decimal.proofs.read_number.Goals as goal

pub returns-then-is_empty : goal.returns-then-is_empty
returns-then-is_empty c = number_none c.args.part.now (eqb-true _ 0 (sym c.is_empty.ensures ∙ c.if-is_empty.true))

pub returns-in_err-n : goal.returns-in_err-n
returns-in_err-n c = c.from_residual.ensures ∙ minus_unread _ _ (number_minus c.args.part.now (eqb-false _ 0 (sym c.is_empty.ensures ∙ c.if-is_empty.false)) c.if-part-eq45.true) (sym c.in_err-n.was ∙ c.read_natural.ensures)

pub returns-then-n-eq0 : goal.returns-then-n-eq0
returns-then-n-eq0 c = minus_zero _ _ (number_minus c.args.part.now (eqb-false _ 0 (sym c.is_empty.ensures ∙ c.if-is_empty.false)) c.if-part-eq45.true) _ (sym c.in_ok-n.was ∙ c.read_natural.ensures) c.if-n-eq0.true

pub overflow_cast-result : goal.overflow_cast-result
overflow_cast-result c = record { sfits = omega (arith, limited_most _ c.in_ok-n.n (sym c.in_ok-n.was ∙ c.read_natural.ensures)) }

pub overflow_sub-result-then-part-eq45 : goal.overflow_sub-result-then-part-eq45
overflow_sub-result-then-part-eq45 c = less_one_fits _ c.if-n-eq0.false (limited_most _ c.in_ok-n.n (sym c.in_ok-n.was ∙ c.read_natural.ensures))

pub returns-then-part-eq45 : goal.returns-then-part-eq45
returns-then-part-eq45 c = minus_result _ _ (number_minus c.args.part.now (eqb-false _ 0 (sym c.is_empty.ensures ∙ c.if-is_empty.false)) c.if-part-eq45.true) c.in_ok-n.n (sym c.in_ok-n.was ∙ c.read_natural.ensures) c.if-n-eq0.false

pub returns-in_err-n-2 : goal.returns-in_err-n-2
returns-in_err-n-2 c = c.from_residual-in_err-n-2.ensures ∙ plain_unread _ _ (number_plain c.args.part.now (eqb-false _ 0 (sym c.is_empty.ensures ∙ c.if-is_empty.false)) c.if-part-eq45.false) (sym c.in_err-n-2.was ∙ c.read_natural-2.ensures)

pub returns : goal.returns
returns c = c.ok.ensures.value ∙ plain_result _ _ (number_plain c.args.part.now (eqb-false _ 0 (sym c.is_empty.ensures ∙ c.if-is_empty.false)) c.if-part-eq45.false) _ (sym c.in_ok-n-2.was ∙ c.read_natural-2.ensures) _ c.try_from.ensures
