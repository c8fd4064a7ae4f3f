-- Columns leave a well made log (clauses/Entries): a new column's domain is its sum's.
use Rattle.std.specs.Prelude.{refl, ℕ}
use mathlib.Core.List.{List, [], ◌∷◌}
use Rattle.syntax.specs.Syntax.{Domain, IntExpr, IConst, IVar, Linear, If}
use Rattle.syntax.specs.Written.{Any, EveryIntOf, EveryColumnOf}
use Rattle.clauses.specs.Log.{Log}
use Rattle.clauses.specs.Normalize.{normalize_int_expr}
use Rattle.clauses.proofs.Entries.{WellMade, convert_int_well, int_well}
use Rattle.tables.specs.Tables.{new_column, old_column, equivalent_int_var, equivalent_int_vars}

module _ (ds : List Domain) (P Q : ℕ → Type 0) where
  new_column_well : (e : IntExpr) → EveryIntOf Any P Q e → (s : Log) → WellMade ds P Q s → WellMade ds P Q (new_column ds (normalize_int_expr ds e s)).log
  unfolding new_column
  new_column_well e h s k = (tt, (refl, int_well ds P Q e h s k))

  pub column_well : (e : IntExpr) → EveryIntOf Any P Q e → (s : Log) → WellMade ds P Q s → WellMade ds P Q (equivalent_int_var ds e s).log
  unfolding equivalent_int_var old_column EveryIntOf
  column_well (IConst c) h s k = new_column_well (IConst c) h s k
  column_well (IVar v) h s k = convert_int_well ds P Q v h s k
  column_well (Linear ts) h s k = new_column_well (Linear ts) h s k
  column_well (If i c t f) h s k = new_column_well (If i c t f) h s k

  pub columns_well : (es : List IntExpr) → EveryColumnOf Any P Q es → (s : Log) → WellMade ds P Q s → WellMade ds P Q (equivalent_int_vars ds es s).log
  unfolding equivalent_int_vars EveryColumnOf
  columns_well [] h s k = k
  columns_well (e ∷ es) h s k = columns_well es h.1 _ (column_well e h.0 s k)
