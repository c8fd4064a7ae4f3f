-- Laws of the small functions: stores, records, words of the slice. Assumes nothing.
use mathlib.Core.Path.{◌≡◌, refl, ap, ◌∙◌}
use mathlib.Core.List.{List, [], ◌∷◌}
use Prim.Native.Nat.{ℕ, suc, ◌+◌, ◌<◌}
use native.Mathlib.Omega.{arith}
use lib.IntN.{ℤ, pos, nat_abs, ◌+ℤ◌}
use lib.ListN.{length, set}
use lib.Seq.{sets, length-sets}
use mir.Syntax.{w32}
use mir.Val.{SFits, of_z, to_z}
use mir.Facts.{to_z-of_z}
use Rattle.laws.specs.Ints.{natAbs_add, sfits_natAbs}
use Rattle.memory.specs.Places.{cells}
use Rattle.walks.specs.Item.{cell}
use Rattle.walks.specs.Meet.{set_cells, copied}

-- four words one after another
pub four_stored : (o o₁ o₂ o₃ o₄ : List ℤ) (p : ℕ) (a b c d : ℤ) → SFits w32 a → SFits w32 b → SFits w32 c → SFits w32 d → o₁ ≡ set o p (to_z w32 (of_z w32 a)) → o₂ ≡ set o₁ (p + 1) (to_z w32 (of_z w32 b)) → o₃ ≡ set o₂ (p + 2) (to_z w32 (of_z w32 c)) → o₄ ≡ set o₃ (p + 3) (to_z w32 (of_z w32 d))
    → (o₄ ≡ sets o p (a ∷ b ∷ c ∷ d ∷ [])) × (length o₄ ≡ length o)
four_stored o o₁ o₂ o₃ o₄ p a b c d fa fb fc fd i j k l =
    let e₁ : p + 1 ≡ suc p = omega arith in
    let e₂ : p + 2 ≡ suc (suc p) = omega arith in
    let e₃ : p + 3 ≡ suc (suc (suc p)) = omega arith in
    let e : o₄ ≡ sets o p (a ∷ b ∷ c ∷ d ∷ []) = rw (l, k, j, i, e₁, e₂, e₃, to_z-of_z fa, to_z-of_z fb, to_z-of_z fc, to_z-of_z fd) refl in
    (e, ap length e ∙ length-sets o p (a ∷ b ∷ c ∷ d ∷ []))

-- a word below the highest and 1
pub next_fits : (z x : ℤ) → SFits w32 z → z ≡ x → nat_abs x < 2147483647 → SFits w32 (to_z w32 (of_z w32 z) +ℤ pos 1)
next_fits z x f e h = rw (to_z-of_z f, e) (sfits_natAbs w32 (x +ℤ pos 1) (omega (arith, natAbs_add x (pos 1))))

-- the record of a declared integer, its three words x, y and z + 1
pub declared_put : (o o' : List ℤ) (i : ℕ) (x y z a b c : ℤ) → SFits w32 x → SFits w32 y → SFits w32 z → x ≡ a → y ≡ b → z ≡ c → nat_abs c < 2147483647
    → (o' ≡ sets o i (pos 0 ∷ to_z w32 (of_z w32 x) ∷ to_z w32 (of_z w32 y) ∷ to_z w32 (of_z w32 (to_z w32 (of_z w32 z) +ℤ pos 1)) ∷ [])) × (length o' ≡ length o)
    → (o' ≡ sets o i (pos 0 ∷ a ∷ b ∷ (c +ℤ pos 1) ∷ [])) × (length o' ≡ length o)
declared_put o o' i x y z a b c fx fy fz ex ey ez h e = (e.0 ∙ rw (to_z-of_z (next_fits z c fz ez h), to_z-of_z fx, to_z-of_z fy, to_z-of_z fz, ex, ey, ez) refl, e.1)

-- ---- an If's cells

pub cells_stored : (w w₁ w₂ w₃ : List ℤ) (p : ℕ) (x y z : ℤ) → SFits w32 x → SFits w32 y → SFits w32 z → w₁ ≡ set w (cells + (p + 1)) (to_z w32 (of_z w32 x)) → w₂ ≡ set w₁ (cells + (p + 2)) (to_z w32 (of_z w32 y)) → w₃ ≡ set w₂ (cells + (p + 3)) (to_z w32 (of_z w32 z))
    → w₃ ≡ set_cells p x y z w
unfolding set_cells
cells_stored w w₁ w₂ w₃ p x y z f g h i j k = rw (k, j, i, to_z-of_z f, to_z-of_z g, to_z-of_z h) refl

pub cells_copied : (w w' : List ℤ) (p q : ℕ) (x y z : ℤ) → SFits w32 x → SFits w32 y → SFits w32 z → x ≡ cell w (q + 1) → y ≡ cell w (q + 2) → z ≡ cell w (q + 3)
    → w' ≡ set_cells p (to_z w32 (of_z w32 x)) (to_z w32 (of_z w32 y)) (to_z w32 (of_z w32 z)) w → w' ≡ copied p q w
cells_copied w w' p q x y z f g h i j k e = e ∙ rw (to_z-of_z f, to_z-of_z g, to_z-of_z h, i, j, k) refl
