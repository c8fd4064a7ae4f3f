-- Looking for an equal If: what is found has the same words and a number that it shares; where nothing is found, there is none.
use Rattle.std.proofs.Math.Path.{◌≡◌, refl, ap}
use Rattle.std.proofs.Common.{sym, ◌∙◌, eqb-true}
use Rattle.std.specs.Prelude.{Bool, ◌&&◌, List, ℤ, eqb}
use Rattle.std.proofs.Math.Bool.{true, false, cond}
use Rattle.std.proofs.Math.Option.{none, some}
use Prim.Native.Nat.{ℕ, zero, suc, ◌+◌, ◌≤◌, ◌<◌}
use native.Mathlib.Omega.{arith}
use Rattle.std.proofs.lemmas.Bool.{eqb-false}
use Rattle.laws.specs.Same.{same_words}
use Rattle.walks.specs.Tree.{Place}
use Rattle.walks.specs.Item.{cell, seen_in}
use Rattle.walks.specs.Meet.{is_shared, words_at, equal_from}

module _ (w : List ℤ) (p : Place) where
  abbrev pub Equal : ℕ → Bool
  Equal q = is_shared (seen_in (cell w (q + 1))) && same_words (words_at w q p.size) (words_at w p.at p.size)

  pub record FoundAt (q k x : ℕ) : Type 0 where
    pub test : Equal x ≡ true
    pub from : q ≤ x
    pub below : x < q + k

  pub equal_some : (k q x : ℕ) → equal_from w p k q ≡ some x → FoundAt q k x
  unfolding equal_from
  equal_some zero q x h = absurd (let z : ◌≡◌ {A = ℕ} 0 1 = cc in omega arith)
  equal_some (suc k) q x h = go (Equal q) refl (λ r. equal_some k (suc q) x r) h
    where
      go : (b : Bool) → Equal q ≡ b → (equal_from w p k (suc q) ≡ some x → FoundAt (suc q) k x) → cond b (some q) (equal_from w p k (suc q)) ≡ some x → FoundAt q (suc k) x
      go true e f r = let z : q ≡ x = cc in record { test = ap Equal (sym z) ∙ e; from = omega arith; below = omega arith }
      go false e f r = let y = f r in record { test = y.test; from = omega (arith, y.from); below = omega (arith, y.below) }

  pub equal_none : (k q : ℕ) → equal_from w p k q ≡ none → (x : ℕ) → q ≤ x → x < q + k → Equal x ≡ false
  unfolding equal_from
  equal_none zero q h x l m = absurd (omega arith)
  equal_none (suc k) q h x l m = go (Equal q) refl (λ r n. equal_none k (suc q) r x n (omega arith)) h
    where
      later : (q x : ℕ) → q ≤ x → (q ≡ x → ⊥) → suc q ≤ x
      later q x l n = omega arith

      at : (b : Bool) → eqb q x ≡ b → Equal q ≡ false → (suc q ≤ x → Equal x ≡ false) → Equal x ≡ false
      at true e g f = ap Equal (sym (eqb-true q x e)) ∙ g
      at false e g f = f (later q x l (eqb-false q x e))

      go : (b : Bool) → Equal q ≡ b → (equal_from w p k (suc q) ≡ none → suc q ≤ x → Equal x ≡ false) → cond b (some q) (equal_from w p k (suc q)) ≡ none → Equal x ≡ false
      go true e f r = absurd (let z : ◌≡◌ {A = ℕ} 0 1 = cc in omega arith)
      go false e f r = at (eqb q x) refl e (f r)
