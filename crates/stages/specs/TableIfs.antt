-- The Ifs that a log finds behind a table name numbers below the counter only (`table_low`), so that the next statement's may be looked up.
use Rattle.std.specs.Prelude.{◌≡◌, Bool, cond, ℕ, ◌-◌}
use Rattle.std.proofs.Math.Path.{refl}
use Rattle.std.proofs.Math.Bool.{true, false}
use mathlib.Core.List.{List, [], ◌∷◌, map}
use Rattle.std.proofs.Common.{arith}
use Rattle.syntax.specs.Syntax.{Domain, IntExpr, Cell}
use Rattle.words.specs.Exact.{Each}
use Rattle.clauses.specs.Log.{Log, next_bool, get_if}
use Rattle.clauses.specs.Disjunction.{normalize_disjunction}
use Rattle.clauses.specs.Normalize.{register}
use Rattle.clauses.proofs.Emitted.{domain_at}
use Rattle.tables.specs.Tables.{star_row, star_table, plain_table, equivalent_int_var, equivalent_int_vars, normalize_extension_supports, normalize_table}
use Rattle.walk.proofs.Texts.{disjunction_auxed}
use Rattle.walks.specs.Grow.{disjunction_grows}
use Rattle.walks.specs.Constant.{Named}
use Rattle.walks.specs.Visit.{auxed_quiet}
use Rattle.walks.specs.Walked.{names}
use Rattle.walks.specs.Legal.{LegalInt, legal_int_bound}
use Rattle.walks.specs.LowIfs.{LowIfs, low_more, same_low, column_log_low}
use Rattle.statements.specs.Table.{starred}
use Rattle.stages.specs.Rows.{rows_grow}

module _ (ds : List Domain) where
  columns_low : (es : List IntExpr) → Each (λ e. LegalInt e 64) es → (s : Log) → LowIfs (next_bool s) s → let t = (equivalent_int_vars ds es s).log in LowIfs (next_bool t) t
  unfolding equivalent_int_vars
  columns_low [] h s l = l
  columns_low (e ∷ es) h s l = columns_low es h.1 (equivalent_int_var ds e s).log (column_log_low ds e s (legal_int_bound e 64 h.0) l)

  -- the rows make none
  rows_same : (vs : List ℕ) (rows : List (List Cell)) (z : Log) (e : IntExpr) → get_if e (register (normalize_extension_supports ds vs rows z)) ≡ get_if e z
  unfolding normalize_extension_supports register get_if star_table
  rows_same vs rows z e = go (starred rows)
    where
      go : (t : Bool) → get_if e (cond t (star_table vs rows z) (plain_table vs (map (domain_at ds z) vs) rows, z)).1 ≡ get_if e z
      go true =
          let css = map (star_row vs) rows in
          let n = next_bool (normalize_disjunction css z).1 in
          (auxed_quiet (Named ds) (names ds) (disjunction_auxed css z) (n - next_bool z) (omega (arith, (disjunction_grows css z).bools))).ifs e
      go false = refl

  pub table_low : (es : List IntExpr) → Each (λ e. LegalInt e 64) es → (rows : List (List Cell)) (s : Log) → LowIfs (next_bool s) s → let t = normalize_table ds es rows s in LowIfs (next_bool t) t
  unfolding normalize_table
  table_low es h rows s l =
      let c = equivalent_int_vars ds es s in
      let t = register (normalize_extension_supports ds c.vars rows c.log) in
      low_more (next_bool c.log) (next_bool t) t (unfold register in (rows_grow ds c.vars rows c.log).bools) (same_low (next_bool c.log) c.log t (rows_same c.vars rows c.log) (columns_low es h s l))
