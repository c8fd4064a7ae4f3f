-- `decimal::read_natural` meets its contract. Assumes nothing.
use mathlib.Core.Path.{◌≡◌, sym, ap, ◌∙◌}
use borrow.Author.Tests.{eqb-true, eqb-false}
use lib.ListN.{length}
use Rattle.decimal.specs.Numbers.{limited, option_of}
use Rattle.decimal.specs.Decimal.{read_digits, read_natural}
use Rattle.decimal.proofs.Digits.{natural_none, natural_led, natural_single, natural_digits}
use Rattle.decimal.proofs.read_natural.Goals.{else-part-eq48-via-then-part-eq48+else-part-gt1, else-part-eq48-via-else-part-eq48}
use Rattle.decimal.proofs.read_natural.Goals as goal

pub returns-then-is_empty : goal.returns-then-is_empty
returns-then-is_empty c = natural_none c.args.part.now (eqb-true _ 0 (sym c.is_empty.ensures ∙ c.if-is_empty.true))

pub returns-then-part-gt1 : goal.returns-then-part-gt1
returns-then-part-gt1 c = natural_led c.args.part.now c.if-part-eq48.true c.if-part-gt1.true

pub returns : goal.returns
returns c =
    let h : length c.args.part.now ≡ 0 → ⊥ = eqb-false _ 0 (sym c.is_empty.ensures ∙ c.if-is_empty.false) in
    let e : read_digits 0 c.args.part.now ≡ read_natural c.args.part.now = elim c.else-part-eq48.branch [
      | else-part-eq48-via-then-part-eq48+else-part-gt1 w ↦ natural_single c.args.part.now h w.if-part-gt1.false
      | else-part-eq48-via-else-part-eq48 w ↦ natural_digits c.args.part.now h w.if-part-eq48.false
    ] in
    c.read_digits.ensures ∙ ap (λ o. option_of (limited o)) e
