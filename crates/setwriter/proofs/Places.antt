-- A statement of the set where it stands: its words, its rows, the domains in the set's words. Assumes nothing.
use mathlib.Core.Path.{◌≡◌, refl, subst}
use mathlib.Core.Bool.{Bool}
use mathlib.Core.List.{List}
use Prim.Native.Nat.{ℕ, ◌+◌, ◌≤◌}
use native.Mathlib.Omega.{arith}
use lib.IntN.{ℤ}
use lib.ListN.{length}
use Rattle.laws.specs.Slices.{Has}
use Rattle.memory.specs.Places.{folded_end}
use Rattle.syntax.specs.Syntax.{IntExpr, Stmt, Rule, Table, AllDifferent, encode_stmt}
use Rattle.syntax.specs.Written.{Any, EveryStmt, EveryStmts, columns_of}
use Rattle.accept.specs.Accepted.{domains_stand}
use Rattle.walk.specs.Decode.{word, read_part}
use Rattle.stmtwords.specs.Stands.{WellRows, Stands as StmtStands}
use Rattle.stmtwords.proofs.Words.{DifferentWords, different_words}
use Rattle.stmtwords.proofs.Ends.{not_here}
use Rattle.differing.specs.Values.{Over}
use Rattle.declared.specs.InSet.{Declared}
use Rattle.setwriter.specs.Statements.{Folds, DeclaredBool, DeclaredInt, end_inside, first_to, first_words}
use Rattle.setwriter.specs.Read.{folds_rows, folds_few}
use Rattle.setwriter.specs.Step.{Place, Stands}

module _ (x : Place) (set w : List ℤ) (q : ℕ) (b : Bool) (h : Stands x set w q b) where
  pub inside : x.end ≤ folded_end
  inside = end_inside x.merge x.problem x.fixed x.stmts set (read_part w) x.end b h.lent

  pub stops : q + length (encode_stmt x.stmt) ≤ x.end
  stops = first_to x.merge x.problem x.fixed x.stmts set (read_part w) x.end b h.lent q x.before x.stmt x.later h.left

  pub words : Has (read_part w) q (encode_stmt x.stmt)
  words = first_words x.merge x.problem x.fixed x.stmts set (read_part w) x.end b h.lent q x.before x.stmt x.later h.left

  pub rows : WellRows x.stmt
  rows = folds_rows x.problem x.fixed x.stmt h.left.read.0

  pub stands : StmtStands w q x.stmt
  stands = record { words = words; legal = h.left.legal.0; rows = rows }

  declared : Declared set x.problem.domains
  declared =
      let k = h.lent.settled in
      record { words = (domains_stand set x.problem (record { words = h.lent.words; well = k.well })).words; well = k.well.domains_well; short = rw h.lent.words k.short }

  -- ---- an AllDifferent

  -- by its first word
  pub is_different : word (read_part w) q ≡ 3 → {X : Type 0} → ((es : List IntExpr) → x.stmt ≡ AllDifferent es → X) → X
  is_different z {X} g = go x.stmt refl stands
    where
      go : (t : Stmt) → x.stmt ≡ t → StmtStands w q t → X
      go (Rule e) i y = not_here w q (word (read_part w) q) refl (Rule e) (λ j. omega (arith, z, j)) y
      go (Table es rows) i y = not_here w q (word (read_part w) q) refl (Table es rows) (λ j. omega (arith, z, j)) y
      go (AllDifferent es) i y = g es i

  pub not_different : (word (read_part w) q ≡ 3 → ⊥) → (es : List IntExpr) → x.stmt ≡ AllDifferent es → {X : Type 0} → X
  not_different z es i = not_here w q (word (read_part w) q) refl (AllDifferent es) z (subst (λ (t : Stmt). StmtStands w q t) i stands)

  module _ (es : List IntExpr) (i : x.stmt ≡ AllDifferent es) where
    pub different_stands : StmtStands w q (AllDifferent es)
    different_stands = subst (λ (t : Stmt). StmtStands w q t) i stands

    pub different_places : DifferentWords (read_part w) q es
    different_places = different_words w q es different_stands

    pub different_stops : q + length (encode_stmt (AllDifferent es)) ≤ x.end
    different_stops = subst (λ (t : Stmt). q + length (encode_stmt t) ≤ x.end) i stops

    pub different_over : Over set w (q + 2) (length es) x.problem.domains es
    unfolding EveryStmts EveryStmt
    different_over =
        let f : Folds x.problem x.fixed (AllDifferent es) = subst (λ (t : Stmt). Folds x.problem x.fixed t) i h.left.read.0 in
        let v : EveryStmt (DeclaredBool x.problem) (DeclaredInt x.problem) (AllDifferent es) = subst (λ (t : Stmt). EveryStmt (DeclaredBool x.problem) (DeclaredInt x.problem) t) i h.left.every.0 in
        record {
          standing = record { words = different_places.stands; counted = refl; legal = different_stands.legal; size = omega (arith, h.size) };
          declared = declared;
          below = columns_of Any (DeclaredBool x.problem) (DeclaredInt x.problem) es v;
          few = folds_few x.problem x.fixed es f;
        }
