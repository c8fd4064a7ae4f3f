-- The passes fix declared variables only.
use Rattle.std.specs.Prelude.{◌≡◌, refl, Bool, true, false, cond, eqb}
use Rattle.std.proofs.Math.Option.{none, some}
use mathlib.Core.List.{List, map}
use Prim.Native.Nat.{ℕ, zero, suc, ◌<◌}
use Rattle.std.proofs.Common.{arith, eqb-true}
use Rattle.syntax.specs.Syntax.{Domain, Stmt, Problem}
use Rattle.syntax.specs.Written.{EveryStmts}
use Rattle.fold.specs.Fold.{Fixed, constant_folding_stmt as fold-stmt}
use Rattle.fold.specs.Optimize.{Status, unsatisfiable, updated, fix, constant_prop_stmts as prop-stmts, Outcome, inconsistent, settled, next_pass, passes, optimize}
use Rattle.fold.proofs.Kept.{fold_stmts_every}
use Rattle.fold.proofs.Ends.{Steps, After, prop_stmts_after}

module _ (b : ℕ) (Q : ℕ → Type 0) where
  abbrev Known : Fixed → Type 0
  Known f = (v : ℕ) (x : Bool) → f v ≡ some x → v < b

  fix_known : (f : Fixed) (v : ℕ) (x : Bool) → v < b → Known f → Known (fix f v x)
  fix_known f v x h k w y e = go (eqb w v) refl e
    where
      go : (t : Bool) → eqb w v ≡ t → cond t (some x) (f w) ≡ some y → w < b
      go true q e = let z : w ≡ v = eqb-true w v q in omega arith
      go false q e = k w y e

  known_steps : Steps (λ v. v < b) (λ f c g. Known f → Known g)
  known_steps = record { idle = λ f k. k; one = λ f v x e h k. fix_known f v x h k; then = λ f g h c d p q k. q (p k) }

  -- of the outcome
  abbrev Fixes : Outcome → Type 0
  Fixes inconsistent = Unit {0}
  Fixes (settled f ss) = Known f

  next_known : (f : Fixed) (s : Status) (ss : List Stmt) (again : Fixed → Outcome) → Known f → After (λ f c g. Known f → Known g) f s → ((g : Fixed) → Known g → Fixes (again g)) → Fixes (next_pass s ss again)
  next_known f unsatisfiable ss again k a go = tt
  next_known f (updated false g) ss again k a go = a k
  next_known f (updated true g) ss again k a go = go g (a k)

  passes_known : (ds : List Domain) (n : ℕ) (f : Fixed) (ss : List Stmt) → EveryStmts (λ v. v < b) Q ss → Known f → Fixes (passes ds n f ss)
  unfolding passes
  passes_known ds zero f ss h k = k
  passes_known ds (suc n) f ss h k =
      let folded = map (fold-stmt ds f) ss in
      let j = fold_stmts_every (λ v. v < b) Q ds f ss h in
      next_known f (prop-stmts folded f) folded (λ g. passes ds n g folded) k (prop_stmts_after (λ v. v < b) Q (λ f c g. Known f → Known g) known_steps folded f j) (λ g l. passes_known ds n g folded j l)

pub optimize_known : (p : Problem) (Q : ℕ → Type 0) → EveryStmts (λ v. v < p.bools) Q p.stmts → (f : Fixed) (ss : List Stmt) → optimize p ≡ settled f ss → (v : ℕ) (x : Bool) → f v ≡ some x → v < p.bools
unfolding optimize
optimize_known p Q h f ss e = rw e at (passes_known p.bools Q p.domains (suc p.bools) (λ v. none) p.stmts h (λ v x q. absurd (let z : ◌≡◌ {A = ℕ} 0 1 = cc in omega arith)))
