-- Laws of what the small functions of the walk return. Assumes nothing.
use mathlib.Core.Path.{◌≡◌, refl, sym, ap, ◌∙◌, subst}
use mathlib.Core.Bool.{Bool, true, false, ◌||◌}
use mathlib.Core.List.{List}
use Prim.Native.Nat.{ℕ, ◌+◌, ◌*◌, ◌≤◌, ◌<◌}
use native.Mathlib.Omega.{arith}
use lib.IntN.{ℤ, pos, nat_abs}
use lib.Seq.{sets}
use mir.Syntax.{w32}
use mir.Val.{SFits, of_z, to_z}
use mir.Facts.{to_z-of_z}
use Rattle.syntax.specs.Words.{max_ints}
use Rattle.memory.specs.Places.{limit}
use Rattle.memory.proofs.Laws.{number_is}
use Rattle.syntax.specs.Syntax.{Range}
use Rattle.walk.specs.Item.{bump, bool_at}
use Rattle.walk.specs.Decode.{below}
use Rattle.walk.proofs.Steps.{below_lt}
use Rattle.walks.specs.Item.{cell, seen_in, known_in}
use Rattle.walks.specs.Meet.{set_cells, range_record, two_record}
use Rattle.numbering.specs.Task.{state_of, Ready, Done}
use Rattle.numbering.specs.Leaf.{bool_task}
use Rattle.numbering.specs.Members.{numbered, new_in, beside, renewed}
use Rattle.numbering.specs.Conditions.{follow_task, follow_fits, Follows}
use Rattle.numbering.specs.declared.Progress.{Progress}
use Rattle.numbering.specs.declared.Numbered.{Numbered}

pub renewed_is : (c r : Progress) (s : Numbered) (k : ℕ) → k ≡ new_in s → r ≡ record { bools = bump c.bools k; ints = c.ints; used = c.used } → r ≡ renewed c s
renewed_is c r s k h e = e ∙ rw h refl

pub crossed_is : (a b r : Numbered) (c d : Progress) → c ≡ renewed b.progress a → d ≡ renewed c b → r ≡ numbered d b.at b.base 1 0 0 → r ≡ numbered (renewed (renewed b.progress a) b) b.at b.base 1 0 0
crossed_is a b r c d i j e = e ∙ rw (j, i) refl

-- ---- tests

pub passed_full : (r a b : Bool) → r ≡ a → r ≡ true → true ≡ a || b
passed_full r a b e h = rw (← e, h) refl

pub passed_known : (r a : Bool) (z : ℤ) (w : List ℤ) (i k : ℕ) (t : Bool) → r ≡ a → r ≡ false → SFits w32 z → z ≡ cell w i → t ≡ known_in (seen_in (to_z w32 (of_z w32 z))) k → t ≡ a || known_in (seen_in (cell w i)) k
passed_known r a z w i k t e h f j g = rw (← e, h) (g ∙ rw (to_z-of_z f, j) refl)

-- ---- stores

pub settled : (w w' : List ℤ) (p : ℕ) (z x y n : ℤ) → SFits w32 z → SFits w32 x → SFits w32 y → z ≡ n → w' ≡ set_cells p (to_z w32 (of_z w32 z)) (to_z w32 (of_z w32 x)) (to_z w32 (of_z w32 y)) w → w' ≡ set_cells p n x y w
settled w w' p z x y n f g h e i = i ∙ rw (to_z-of_z f, to_z-of_z g, to_z-of_z h, e) refl

pub opened : (o o' : List ℤ) (i : ℕ) (x y : ℤ) → SFits w32 x → SFits w32 y → o' ≡ sets o i (range_record (Range (to_z w32 (of_z w32 x)) (to_z w32 (of_z w32 y)))) → o' ≡ sets o i (range_record (Range x y))
opened o o' i x y f g e = e ∙ rw (to_z-of_z f, to_z-of_z g) refl

pub opened_progress : (c d r : Progress) (k : ℕ) → d ≡ record { bools = c.bools; ints = bump c.ints 1; used = c.used } → r ≡ record { bools = d.bools; ints = d.ints; used = bump d.used k } → r ≡ record { bools = c.bools; ints = bump c.ints 1; used = bump c.used k }
opened_progress c d r k e i = i ∙ rw e refl

-- ---- a declared variable as condition

pub literal_small : (v : ℕ) (w w' out : List ℤ) (c d : Progress) (l : ℤ) → Ready (follow_task v) (state_of w out c) → Done (bool_task v) (state_of w out c) (state_of w' out d) → SFits w32 l → l ≡ bool_at w' v → nat_abs (to_z w32 (of_z w32 l)) ≤ limit + 1
literal_small v w w' out c d l r b f e = rw (to_z-of_z f) (follow_fits v (state_of w out c) (state_of w' out d) l r b e)

pub followed : (w out : List ℤ) (c : Progress) (v rec : ℕ) (x y : ℤ) (w' out' : List ℤ) (d r : Progress) (l : ℤ) → SFits w32 l → SFits w32 x → SFits w32 y → Done (bool_task v) (state_of w out c) (state_of w' out d) → l ≡ bool_at w' v
    → out' ≡ sets out (rec + 4 * d.ints) (two_record (to_z w32 (of_z w32 l)) (to_z w32 (of_z w32 x)) (to_z w32 (of_z w32 y))) → r ≡ record { bools = d.bools; ints = bump d.ints 1; used = d.used } → Follows w out c v rec x y w' out' r
followed w out c v rec x y w' out' d r l f g h b e o i = record { between = d; literal = l; met = b; literal_is = e; written = o ∙ rw (to_z-of_z f, to_z-of_z g, to_z-of_z h) refl; count = i }

-- ---- another condition

module _ (e : Progress) (d s : Numbered) (k k' : ℕ) (a b : Progress) (hk : k ≡ beside d) (hk' : k' ≡ beside s) (ha : a ≡ record { bools = bump e.bools k; ints = e.ints; used = e.used }) (hb : b ≡ record { bools = bump a.bools k'; ints = a.ints; used = a.used }) where
  ints_are : b.ints ≡ e.ints
  ints_are = ap (λ (p : Progress). p.ints) hb ∙ ap (λ (p : Progress). p.ints) ha

  pub concluded_requires : (rec n : ℕ) → rec ≤ limit → n ≤ limit → e.ints ≤ limit → (rec ≤ limit) × ((b.ints ≤ limit) × (nat_abs (to_z w32 (n + 1)) ≤ limit + 1))
  concluded_requires rec n i j l = (i, (omega (arith, ints_are), rw (number_is (n + 1) (omega arith)) (omega arith)))

  pub concluded_written : (rec n : ℕ) (x y : ℤ) (o o' : List ℤ) → n ≤ limit → SFits w32 x → SFits w32 y → o' ≡ sets o (rec + 4 * b.ints) (two_record (to_z w32 (n + 1)) (to_z w32 (of_z w32 x)) (to_z w32 (of_z w32 y))) → o' ≡ sets o (rec + 4 * e.ints) (two_record (pos (n + 1)) x y)
  concluded_written rec n x y o o' h f g i = i ∙ rw (number_is (n + 1) (omega arith), to_z-of_z f, to_z-of_z g, ints_are) refl

  pub concluded : (r : Progress) → r ≡ record { bools = b.bools; ints = bump b.ints 1; used = b.used } → r ≡ record { bools = bump (bump e.bools (beside d)) (beside s); ints = bump e.ints 1; used = e.used }
  concluded r i = i ∙ rw (hb, ha, hk, hk') refl

-- ---- a variable's index

pub leaf_index : (x v : ℕ) → v ≡ below max_ints x → v < max_ints
leaf_index x v e = rw e (below_lt max_ints x (omega arith))

-- ---- words passed on, as bits

module _ {x y : ℤ} (f : SFits w32 x) (g : SFits w32 y) where
  pub pair_bits : (P : ℤ → ℤ → Type 0) → P x y → P (to_z w32 (of_z w32 x)) (to_z w32 (of_z w32 y))
  pair_bits P h = subst (λ (a : ℤ). P a (to_z w32 (of_z w32 y))) (sym (to_z-of_z f)) (subst (λ (b : ℤ). P x b) (sym (to_z-of_z g)) h)
