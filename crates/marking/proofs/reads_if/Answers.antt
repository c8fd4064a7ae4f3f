-- `reads_if` meets its contract. Assumes nothing.
use mathlib.Core.Path.{sym, ◌∙◌}
use Rattle.marking.proofs.Laws.{reads_none, reads_one, reads_both}
use Rattle.marking.proofs.reads_if.Goals as goal

pub returns-then-is_code-2 : goal.returns-then-is_code-2
returns-then-is_code-2 c =
    c.is_code-then-is_code-2.ensures ∙
    reads_both _ _ _ _ c.skip-c.ensures (sym c.is_code.ensures ∙ c.if-is_code.true)
    (sym c.is_code-then-is_code.ensures ∙ c.if-is_code-2.true) _ _ c.skip_int-t.ensures

pub returns-else-is_code-2 : goal.returns-else-is_code-2
returns-else-is_code-2 c =
    reads_one _ _ _ _ c.skip-c.ensures (sym c.is_code.ensures ∙ c.if-is_code.true) (sym c.is_code-then-is_code.ensures ∙ c.if-is_code-2.false)

pub returns-else-is_code : goal.returns-else-is_code
returns-else-is_code c = reads_none _ _ (sym c.is_code.ensures ∙ c.if-is_code.false)
