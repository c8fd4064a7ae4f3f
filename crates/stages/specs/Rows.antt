-- The rows of a table in the two walks with Ifs, behind its columns: the numbers that they make (`rows_quiet`), and their words, which are those of
-- the clauses that the log has more (`rows_written`). vs: the columns' variables; es: their domains.
use Rattle.std.specs.Prelude.{◌≡◌, Bool, cond, ℕ, min, ℤ, length}
use Rattle.std.proofs.Math.Path.{refl, sym}
use Rattle.std.proofs.Common.{ap, subst, arith}
use Rattle.std.proofs.Math.Bool.{true, false}
use mathlib.Core.List.{List, [], ◌∷◌, ◌++◌, map}
use Rattle.laws.specs.Lists.{flat}
use Rattle.memory.specs.Places.{limit}
use Rattle.syntax.specs.Syntax.{Domain, Cell}
use Rattle.clauses.specs.Clause.{Clause}
use Rattle.clauses.specs.Log.{added, Log, get_bool_var, get_int_var, get_if, made_ints, clauses_of}
use Rattle.clauses.specs.Disjunction.{Out}
use Rattle.clauses.specs.Normalize.{register}
use Rattle.clauses.proofs.Emitted.{domain_at}
use Rattle.clauses.proofs.Since.{here, over}
use Rattle.tables.specs.Tables.{star_row, star_table, plain_table, normalize_extension_supports}
use Rattle.answer.specs.Answer.{clause_words}
use Rattle.walk.specs.Item.{lines_of}
use Rattle.walk.specs.declared.Counters.{Counters}
use Rattle.walk.proofs.Grow.{Grows, same}
use Rattle.walk.proofs.Texts.{layout, layout_words, disjunction_auxed, auxed_untouched}
use Rattle.walks.specs.Item.{more_bools, int_count}
use Rattle.walks.specs.Grow.{disjunction_grows}
use Rattle.walks.specs.Implements.{counters_eq, at, Ready, Registers, shape_lines}
use Rattle.walks.specs.Constant.{Named}
use Rattle.walks.specs.Good.{Quiet}
use Rattle.walks.specs.Visit.{auxed_quiet}
use Rattle.walks.specs.Walked.{names}
use Rattle.statements.specs.Star.{any_free, free_table}
use Rattle.statements.specs.Table.{star_fresh, free_rows, free_is, starred, table_fresh}
use Rattle.stages.specs.Star.{star_item, star_good, star_count}

-- ---- the second walk

unfoldable pub rows_text : List ℕ → List Domain → List (List Cell) → List ℤ → Counters → List ℤ
rows_text vs es rows w n = cond (starred rows) (cond (any_free vs rows) [] ((star_item vs rows).text w n [])) (flat (map clause_words (plain_table vs es rows)))

unfoldable pub rows_lines : List ℕ → List Domain → List (List Cell) → ℕ
rows_lines vs es rows = cond (starred rows) (cond (any_free vs rows) 0 (lines_of (star_item vs rows).unit)) (min (length (plain_table vs es rows)) limit)

-- ---- the log behind the rows; ds: the declared domains

module _ (ds : List Domain) (vs : List ℕ) (rows : List (List Cell)) (z : Log) where
  abbrev domains : List Domain
  domains = map (domain_at ds z) vs

  -- starred, or not
  abbrev rows_out : Bool → Out
  rows_out t = cond t (star_table vs rows z) (plain_table vs domains rows, z)

  -- they add no clause before theirs are
  rows_silent : (t : Bool) → clauses_of (rows_out t).1 ≡ clauses_of z
  rows_silent true = unfold star_table in (auxed_untouched (disjunction_auxed (map (star_row vs) rows) z)).quiet
  rows_silent false = refl

  pub rows_grow : Grows z (normalize_extension_supports ds vs rows z).1
  unfolding normalize_extension_supports
  rows_grow = go (starred rows)
    where
      go : (t : Bool) → Grows z (rows_out t).1
      go true = unfold star_table in disjunction_grows (map (star_row vs) rows) z
      go false = same

  module _ (w : List ℤ) where
    -- the words and the number of some clauses
    record Says (ws : List ℤ) (k : ℕ) (cs : List Clause) : Type 0 where
      pub words : ws ≡ layout [] cs
      pub lines : k ≡ min (length cs) limit

    star_says : (t : Bool) → any_free vs rows ≡ t → Ready w (star_table vs rows z).1 → Says (cond t [] ((star_item vs rows).text w (at w z) [])) (cond t 0 (lines_of (star_item vs rows).unit)) (star_table vs rows z).0
    unfolding layout
    star_says true e r = rw (free_table vs rows z e) (record { words = refl; lines = refl })
    star_says false e r = let x = (star_good w vs rows e).from z r tt in record { words = x.text []; lines = shape_lines w x.shape }

    pub rows_written : Ready w (normalize_extension_supports ds vs rows z).1
        → Registers (rows_text vs (map (domain_at ds z) vs) rows w (at w z)) (rows_lines vs (map (domain_at ds z) vs) rows) z (register (normalize_extension_supports ds vs rows z))
    unfolding normalize_extension_supports register clauses_of rows_text rows_lines
    rows_written r = go (starred rows) r
      where
        says : (t : Bool) → Ready w (rows_out t).1
            → Says (cond t (cond (any_free vs rows) [] ((star_item vs rows).text w (at w z) [])) (flat (map clause_words (plain_table vs domains rows)))) (cond t (cond (any_free vs rows) 0 (lines_of (star_item vs rows).unit)) (min (length (plain_table vs domains rows)) limit)) (rows_out t).0
        says true f = star_says (any_free vs rows) refl f
        says false f = record { words = sym (layout_words (plain_table vs domains rows)); lines = refl }

        go : (t : Bool) → Ready w (rows_out t).1
            → Registers (cond t (cond (any_free vs rows) [] ((star_item vs rows).text w (at w z) [])) (flat (map clause_words (plain_table vs domains rows)))) (cond t (cond (any_free vs rows) 0 (lines_of (star_item vs rows).unit)) (min (length (plain_table vs domains rows)) limit)) z (register (rows_out t))
        go t f = let x = says t f in record { cs = (rows_out t).0; eq = ap (λ (cs : List Clause). cs ++ (rows_out t).0) (rows_silent t); words = x.words; lines = x.lines }

-- ---- the numbers that they make

module _ (ds : List Domain) where
  quiet_same : (s : Log) → Quiet (Named ds) s s 0
  quiet_same s = record { bools = omega arith; ints = refl; keep = λ v. refl; keep_int = λ v. refl; ifs = λ e. refl; made = refl; top = here; named = λ n. n }

  -- clauses behind them
  quiet_added : (cs : List Clause) (s t : Log) (k : ℕ) → Quiet (Named ds) s t k → Quiet (Named ds) s (added cs ∷ t) k
  unfolding get_bool_var get_int_var get_if made_ints
  quiet_added cs s t k q = record { bools = q.bools; ints = q.ints; keep = q.keep; keep_int = q.keep_int; ifs = q.ifs; made = q.made; top = over (added cs) q.top; named = λ n. (tt, q.named n) }

  -- the counters behind
  pub quiet_counters : (w : List ℤ) (s t : Log) (k : ℕ) → Quiet (Named ds) s t k → Ready w t → more_bools k (at w s) ≡ at w t
  quiet_counters w s t k q r = counters_eq _ _ _ _ (omega (arith, q.bools, r.fit.small)) (ap (int_count w) (sym q.ints))

  -- w: any slice with the maps of the log
  module _ (vs : List ℕ) (rows : List (List Cell)) (w : List ℤ) (z : Log) (ready : Ready w z) where
    star_quiet : (t : Bool) → any_free vs rows ≡ t → Quiet (Named ds) z (star_table vs rows z).1 (cond t 0 (star_fresh (length vs) rows))
    star_quiet true e = subst (λ (o : Out). Quiet (Named ds) z o.1 0) (sym (free_table vs rows z e)) (quiet_same z)
    star_quiet false e =
        let n = star_count w vs rows e z ready in
        unfold star_table in auxed_quiet (Named ds) (names ds) (disjunction_auxed (map (star_row vs) rows) z) (star_fresh (length vs) rows) n

    pub rows_quiet : Quiet (Named ds) z (register (normalize_extension_supports ds vs rows z)) (table_fresh (length vs) rows)
    unfolding normalize_extension_supports register table_fresh
    rows_quiet = quiet_added _ z _ _ (go (starred rows))
      where
        go : (t : Bool) → Quiet (Named ds) z (rows_out ds vs rows z t).1 (cond t (cond (free_rows (length vs) rows) 0 (star_fresh (length vs) rows)) 0)
        go true = rw (free_is vs rows) (star_quiet (any_free vs rows) refl)
        go false = quiet_same z
