-- Each statement by itself: the clauses that were made for it, one list a statement, are the answer's in order; and an assignment satisfies a
-- statement exactly when some values of the emitted numbers, agreeing with the whole log, make the statement's own clauses true.
use Rattle.std.specs.Prelude.{◌≡◌, refl, ◌↔◌, true, false}
use Rattle.std.proofs.Common.{sym, ap, ◌∙◌}
use mathlib.Core.List.{List, [], ◌∷◌, ◌++◌, append_assoc, append-nil}
use Rattle.laws.specs.Lists.{all, flat}
use Rattle.syntax.specs.Syntax.{Domain, Stmt}
use Rattle.syntax.specs.Satisfies.{Val, IVal, stmt_holds}
use Rattle.syntax.specs.Written.{Any, EveryStmts}
use Rattle.words.specs.Exact.{Each}
use Rattle.clauses.specs.Clause.{Clause, clause_true}
use Rattle.clauses.specs.Log.{Log, clauses_of}
use Rattle.clauses.specs.Valuation.{Agrees, Fits, fits_agrees}
use Rattle.clauses.proofs.Grow.{Extends, same, Lawful, lawful_over, agrees_back, fits_back}
use Rattle.clauses.proofs.Since.{clauses_since, top_adds, since_added, added_since}
use Rattle.clauses.specs.Merge.{WellMerged}
use Rattle.clauses.proofs.MergeLaws.{merged_lawful, merged_made}
use Rattle.clauses.proofs.Exist.{TiesHold, values_of, fitting_exists}
use Rattle.tables.proofs.ColumnMeaning.{WithinDomain}
use Rattle.clauses.proofs.Entries.{WellMade}
use Rattle.clauses.proofs.Ranges.{Inside}
use Rattle.answer.specs.Answer.{normalize_stmt, normalize_stmts}
use Rattle.answer.proofs.Declared.{stmt_well}
use Rattle.call.specs.WellRead.{Plain}
use Rattle.call.proofs.Demand.{stmt_inside, stmt_means, stmts_mean}
use Rattle.facts.specs.Proper.{proper_top, stmt_proper}

-- the clauses made for each statement, from the log s on: its own, and those of its Ifs that are met first in it
unfoldable pub clauses_each : List Domain → List Stmt → Log → List (List Clause)
clauses_each ds [] s = []
clauses_each ds (t ∷ ts) s = let a = normalize_stmt ds t s in clauses_since s a ∷ clauses_each ds ts a

each_after : (ds : List Domain) (ts : List Stmt) (s : Log) → clauses_of (normalize_stmts ds ts s) ≡ clauses_of s ++ flat (clauses_each ds ts s)
unfolding clauses_each normalize_stmts
each_after ds [] s = sym (append-nil (clauses_of s))
each_after ds (t ∷ ts) s =
    let a : Log = normalize_stmt ds t s in
    each_after ds ts a
    ∙ ap (λ (l : List Clause). l ++ flat (clauses_each ds ts a)) (top_adds (proper_top (stmt_proper ds t s)))
    ∙ append_assoc (clauses_of s) (clauses_since s a) (flat (clauses_each ds ts a))

-- the log s from which clauses are made has none
pub each_flat : (ds : List Domain) (ts : List Stmt) (s : Log) → clauses_of s ≡ [] → flat (clauses_each ds ts s) ≡ clauses_of (normalize_stmts ds ts s)
each_flat ds ts s z = sym (each_after ds ts s ∙ ap (λ (l : List Clause). l ++ flat (clauses_each ds ts s)) z)

-- some values of the emitted numbers agree with the log and make these clauses true
pub record Allowed (δ : Val) (ε : IVal) (s : Log) (cs : List Clause) : Type 0 where
  pub bools : Val
  pub ints : IVal
  pub agrees : Agrees δ ε bools ints s
  pub clauses : all (clause_true bools ints) cs ≡ true

abbrev pub EachExact : Val → IVal → Log → List Stmt → List (List Clause) → Type 0
EachExact δ ε s [] [] = Unit {0}
EachExact δ ε s [] (cs ∷ css) = ⊥
EachExact δ ε s (t ∷ ts) [] = ⊥
EachExact δ ε s (t ∷ ts) (cs ∷ css) = ((stmt_holds δ ε (λ n. false) t ≡ true) ↔ Allowed δ ε s cs) × EachExact δ ε s ts css

module _ (δ : Val) (ε : IVal) (ds : List Domain) where
  -- from a statement on; whole: the log behind the last one, and values that fit it
  from_here : (ts : List Stmt) (s whole : Log) (ρ : Val) (ι : IVal) → Each Plain ts → EveryStmts Any (WithinDomain ds ε) ts → Lawful δ ε s → WellMade ds Any (Inside ds ε) s → whole ≡ normalize_stmts ds ts s → Fits δ ε ρ ι whole → EachExact δ ε whole ts (clauses_each ds ts s)
  unfolding clauses_each normalize_stmts EveryStmts
  from_here [] s whole ρ ι p k l w e f = tt
  from_here (t ∷ ts) s whole ρ ι p k l made e f =
      let a : Log = normalize_stmt ds t s in
      let here = stmt_means δ ε ds t s p.0 k.0 l made in
      let lawful = lawful_over l here.grows in
      let after = stmt_well ds Any (Inside ds ε) t (stmt_inside δ ε ds t k.0) s made in
      let later : Extends δ ε a whole = rw e (stmts_mean δ ε ds ts a p.1 k.1 lawful after).grows in
      let fa : Fits δ ε ρ ι a = fits_back ρ ι later f in (
        (
          λ h. record { bools = ρ; ints = ι; agrees = fits_agrees δ ε ρ ι whole f; clauses = added_since ρ ι here.grows (fits_agrees δ ε ρ ι a fa) (here.complete ρ ι fa h) },
          λ w. here.sound w.bools w.ints (agrees_back w.bools w.ints later w.agrees) (since_added w.bools w.ints here.grows w.clauses),
        ),
        from_here ts a whole ρ ι p.1 k.1 lawful after e f,
      )

  -- s: the log from which clauses are made; the assignment keeps its ties
  pub each_exact : (ts : List Stmt) (s : Log) → Each Plain ts → EveryStmts Any (WithinDomain ds ε) ts → WellMerged s → TiesHold δ s → EachExact δ ε (normalize_stmts ds ts s) ts (clauses_each ds ts s)
  each_exact ts s p k w t =
      let lawful = merged_lawful w same in
      let made = merged_made ds (Inside ds ε) s w in
      let whole : Log = normalize_stmts ds ts s in
      from_here ts s whole (values_of δ ε whole).0 (values_of δ ε whole).1 p k lawful made refl (fitting_exists δ ε t (stmts_mean δ ε ds ts s p k lawful made).grows)
