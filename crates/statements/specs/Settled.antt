-- What is known of the statements that the passes leave of an accepted set: declared variables, no emitted numbers, refusals 9 and 10.
use Rattle.std.specs.Prelude.{◌≡◌, refl, Bool, true, false, cond, List, [], ◌∷◌, map, ℕ, ◌<◌, length}
use Rattle.std.proofs.Common.{arith}
use Rattle.laws.specs.Bools.{or_no_l, or_no_r}
use Rattle.laws.specs.Lists.{any}
use Rattle.syntax.specs.Syntax.{Domain, Stmt, Problem}
use Rattle.syntax.specs.Written.{EveryStmts}
use Rattle.words.specs.Exact.{Each}
use Rattle.read.specs.WellFormed.{WellFormed}
use Rattle.limits.specs.Limits.{check, heavy_stmt, many_stmt}
use Rattle.fold.specs.Fold.{Fixed, constant_folding_stmt as fold-stmt}
use Rattle.fold.specs.Optimize.{settled, optimize}
use Rattle.fold.proofs.Ends.{optimize_rests}
use Rattle.fold.proofs.Kept.{fold_stmts_every}
use Rattle.folded.specs.Folded.{fold_stmt_light, fold_stmt_few}
use Rattle.call.specs.WellRead.{well_declared, Plain, folded_plain}

-- refusals 9 and 10 of a statement
pub record Light (ds : List Domain) (t : Stmt) : Type 0 where
  pub weight : heavy_stmt ds t ≡ false
  pub variables : many_stmt t ≡ false

-- f: the fixed values
module _ (ds : List Domain) (f : Fixed) where
  folded_light : (ss : List Stmt) → any (heavy_stmt ds) ss ≡ false → any many_stmt ss ≡ false → Each (Light ds) (map (fold-stmt ds f) ss)
  folded_light [] h k = tt
  folded_light (t ∷ ss) h k = (
    record {
      weight = fold_stmt_light ds f t (or_no_l (heavy_stmt ds t) _ h);
      variables = fold_stmt_few ds f t (or_no_l (many_stmt t) _ k);
    },
    folded_light ss (or_no_r (heavy_stmt ds t) _ h) (or_no_r (many_stmt t) _ k),
  )

-- ---- of an accepted set

-- a set that `check` lets through is within refusals 9 and 10
within : (p : Problem) → check p ≡ 0 → (any (heavy_stmt p.domains) p.stmts ≡ false) × (any many_stmt p.stmts ≡ false)
unfolding check
within p h = go (any (heavy_stmt p.domains) p.stmts) (any many_stmt p.stmts) _ h
  where
    go : (a b : Bool) (n : ℕ) → cond a 9 (cond b 10 n) ≡ 0 → (a ≡ false) × (b ≡ false)
    go true b n h = absurd (omega (arith, h))
    go false true n h = absurd (omega (arith, h))
    go false false n h = (refl, refl)

module _ (p : Problem) (well : WellFormed p) (f : Fixed) (ss : List Stmt) (end : optimize p ≡ settled f ss) where
  origin : ss ≡ map (fold-stmt p.domains f) p.stmts
  origin = (optimize_rests p (well_declared p well) f ss end).origin

  pub settled_declared : EveryStmts (λ v. v < p.bools) (λ v. v < length p.domains) ss
  settled_declared = rw origin (fold_stmts_every (λ v. v < p.bools) (λ v. v < length p.domains) p.domains f p.stmts (well_declared p well))

  pub settled_plain : Each Plain ss
  settled_plain = rw origin (folded_plain p.domains f p.bools (length p.domains) p.stmts well.stmts_well)

  pub settled_light : check p ≡ 0 → Each (Light p.domains) ss
  settled_light h = rw origin (folded_light p.domains f p.stmts (within p h).0 (within p h).1)
