use mathlib.Core.Path.{sym, ◌∙◌}
use Rattle.stmtwords.specs.Fresh.{fresh_plain, fresh_free, fresh_starred}
use Rattle.stmtwords.proofs.table_fresh.Goals as goal

pub returns-then-s-ne0 : goal.returns-then-s-ne0
returns-then-s-ne0 c = λ rows h. fresh_free _ _ _ _ rows h _ (sym c.if-has_star.true ∙ c.has_star.ensures) c.count_stars-s.ensures.0 c.if-s-ne0.true

pub returns-then-has_star : goal.returns-then-has_star
returns-then-has_star c = λ rows h.
    let n = c.count_stars-s.ensures in
    fresh_starred _ _ _ _ rows h _ _ _ _ (sym c.if-has_star.true ∙ c.has_star.ensures) n.0 c.if-s-ne0.false n.1.1 n.1.0 c.fresh.ensures

pub returns : goal.returns
returns c = λ rows h. fresh_plain _ _ _ _ rows h (sym c.if-has_star.false ∙ c.has_star.ensures)
