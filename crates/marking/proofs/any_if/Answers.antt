-- `any_if` meets its contract. Assumes nothing.
use mathlib.Core.Path.{sym, ◌∙◌}
use Rattle.marking.proofs.Laws.{none_found}
use Rattle.marking.proofs.any_if.Goals as goal

pub returns-else-has_code : goal.returns-else-has_code
returns-else-has_code c = c.if-has_code.false ∙ none_found _ _ _ (sym c.has_code.ensures ∙ c.if-has_code.false)
