-- What the passes mean: the fixed values and the statements that are left say together what the set's statements say,
-- and a contradiction is satisfied by none. Assumes that every variable written is declared and every value in its domain.
use Rattle.std.specs.Prelude.{◌≡◌, ◌↔◌, Bool}
use Rattle.std.proofs.Math.Path.{refl}
use Rattle.std.proofs.Common.{sym, ◌∙◌}
use Rattle.std.proofs.Math.Bool.{true, false}
use Rattle.std.proofs.Math.Option.{none}
use mathlib.Core.List.{List, map}
use Prim.Native.Nat.{ℕ, zero, suc, ◌<◌}
use Rattle.laws.specs.Lists.{all}
use Rattle.syntax.specs.Syntax.{Domain, Stmt, Problem}
use Rattle.syntax.specs.Satisfies.{Val, IVal, stmt_holds, in_domains, satisfies}
use Rattle.syntax.specs.Written.{EveryStmts, AllDeclared, Within, in_domains_every}
use Rattle.fold.specs.Fold.{Fixed, constant_folding_stmt as fold-stmt}
use Rattle.fold.specs.Optimize.{Status, unsatisfiable, updated, constant_prop_stmts as prop-stmts, Outcome, inconsistent, settled, next_pass, passes, optimize}
use Rattle.fold.proofs.Refold.{Extends}
use Rattle.fold.proofs.FoldMeaning.{Agrees, fold_stmts_hold}
use Rattle.fold.proofs.ConstantProp.{Hold, prop_stmts_have}
use Rattle.fold.proofs.Kept.{fold_stmts_every}
use Rattle.fold.proofs.Ends.{prop_extends}

module _ (δ : Val) (ε : IVal) (ρ : Val) where
  -- the values f and the statements ss say what the outcome says
  abbrev Tells : Fixed → List Stmt → Outcome → Type 0
  Tells f ss inconsistent = Agrees δ f → Hold δ ε ρ ss → ⊥
  Tells f ss (settled g folded) = (Agrees δ f × Hold δ ε ρ ss) ↔ (Agrees δ g × Hold δ ε ρ folded)

  -- from the next pass to this one
  tells_back : (f g : Fixed) (ss folded : List Stmt) (o : Outcome) → (Agrees δ f → Hold δ ε ρ ss → Agrees δ g) → Extends f g → (Agrees δ f → all (stmt_holds δ ε ρ) folded ≡ all (stmt_holds δ ε ρ) ss) → Tells g folded o → Tells f ss o
  tells_back f g ss folded inconsistent h e q t = λ a s. t (h a s) (q a ∙ s)
  tells_back f g ss folded (settled g' folded') h e q t = (
    (λ x. t.0 (h x.0 x.1, q x.0 ∙ x.1)),
    (λ y. let x = t.1 y in let a : Agrees δ f = λ v b p. x.0 v b (e v b p) in (a, sym (q a) ∙ x.1)),
  )

  next_tells : (f : Fixed) (ss folded : List Stmt) (s : Status) (again : Fixed → Outcome) → prop-stmts folded f ≡ s → (Agrees δ f → all (stmt_holds δ ε ρ) folded ≡ all (stmt_holds δ ε ρ) ss) → ((g : Fixed) → Tells g folded (again g)) → Tells f ss (next_pass s folded again)
  next_tells f ss folded unsatisfiable again h q t = λ a x. let r = prop_stmts_have δ ε ρ folded f a (q a ∙ x) in rw h at r
  next_tells f ss folded (updated false g) again h q t = tells_back f g ss folded (settled g folded) (λ a x. let r = prop_stmts_have δ ε ρ folded f a (q a ∙ x) in rw h at r) (prop_extends folded f g false h) q ((λ x. x), (λ x. x))
  next_tells f ss folded (updated true g) again h q t = tells_back f g ss folded (again g) (λ a x. let r = prop_stmts_have δ ε ρ folded f a (q a ∙ x) in rw h at r) (prop_extends folded f g true h) q (t g)

  module _ (ds : List Domain) (P : ℕ → Type 0) where
    passes_tell : (n : ℕ) (f : Fixed) (ss : List Stmt) → EveryStmts P (Within ds ε) ss → Tells f ss (passes ds n f ss)
    unfolding passes
    passes_tell zero f ss w = ((λ x. x), (λ x. x))
    passes_tell (suc n) f ss w =
        let folded = map (fold-stmt ds f) ss in
        next_tells f ss folded (prop-stmts folded f) (λ g. passes ds n g folded) refl (λ a. fold_stmts_hold ds f δ ε ρ a P ss w) (λ g. passes_tell n g folded (fold_stmts_every P (Within ds ε) ds f ss w))

-- ---- the whole

module _ (p : Problem) (declared : AllDeclared p) (δ : Val) (ε : IVal) (inside : in_domains p ε ≡ true) where
  tells : (ρ : Val) → Tells δ ε ρ (λ v. none) p.stmts (optimize p)
  unfolding optimize
  tells ρ = passes_tell δ ε ρ p.domains (λ v. v < p.bools) (suc p.bools) (λ v. none) p.stmts (in_domains_every p ε inside declared)

  free : Agrees δ (λ v. none)
  free v b q = cc

  -- for any values of emitted numbers, which a set does not write
  optimize_means : (f : Fixed) (ss : List Stmt) → optimize p ≡ settled f ss → (ρ : Val) → (all (stmt_holds δ ε ρ) p.stmts ≡ true) ↔ (Agrees δ f × (all (stmt_holds δ ε ρ) ss ≡ true))
  optimize_means f ss h ρ =
      let t : (Agrees δ (λ v. none) × (all (stmt_holds δ ε ρ) p.stmts ≡ true)) ↔ (Agrees δ f × (all (stmt_holds δ ε ρ) ss ≡ true)) = rw h at (tells ρ) in
      ((λ x. t.0 (free, x)), (λ y. (t.1 y).1))

  pub optimize_satisfies : (f : Fixed) (ss : List Stmt) → optimize p ≡ settled f ss → (satisfies p δ ε ≡ true) ↔ (Agrees δ f × (all (stmt_holds δ ε (λ n. false)) ss ≡ true))
  unfolding satisfies
  optimize_satisfies f ss h = optimize_means f ss h (λ n. false)

  pub optimize_inconsistent : optimize p ≡ inconsistent → satisfies p δ ε ≡ false
  unfolding satisfies
  optimize_inconsistent h = go (satisfies p δ ε) refl
    where
      go : (t : Bool) → satisfies p δ ε ≡ t → t ≡ false
      go true q =
          let t : Agrees δ (λ v. none) → all (stmt_holds δ ε (λ n. false)) p.stmts ≡ true → ⊥ = rw h at (tells (λ n. false)) in
          absurd (t free q)
      go false q = refl
