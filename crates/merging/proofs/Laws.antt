-- Laws of one step: what is stored, by whether the two variables have literals.
use mathlib.Core.Path.{◌≡◌, refl, sym, ◌∙◌}
use mathlib.Core.Bool.{Bool, true, false}
use mathlib.Core.List.{List}
use Prim.Native.Nat.{ℕ, ◌+◌, ◌≤◌, ◌<◌}
use native.Mathlib.Omega.{arith}
use lib.IntN.{ℤ, pos}
use lib.ListN.{set, length-set}
use lib.Seq.{get_or-set_other}
use borrow.Author.Tests.{eq-eqb, ne_eqb, lt-ltb, le-ltb}
use Rattle.laws.specs.Ints.{is_zero}
use Rattle.memory.specs.Places.{bool_map, limit}
use Rattle.syntax.specs.Words.{max_bools}
use Rattle.walk.specs.Item.{bump, bool_at, signed, State}
use Rattle.walk.specs.Decode.{word}
use Rattle.walk.proofs.NumberingSteps.{part_set}
use Rattle.statements.specs.Whole.{start}
use Rattle.statements.specs.Ties.{give, tie_words, meet_tie, meet_sides, meet_ties_at}
use Rattle.merging.specs.Merging.{Aside, Ties}

pub aside_same : (w : List ℤ) → Aside w w
aside_same w = record { part = refl; behind = λ k h. refl; size = refl }

pub aside_then : {u v w : List ℤ} → Aside u v → Aside v w → Aside u w
aside_then a b = record { part = b.part ∙ a.part; behind = λ k h. b.behind k h ∙ a.behind k h; size = b.size ∙ a.size }

aside_set : (w : List ℤ) (v : ℕ) (z : ℤ) → v < max_bools → Aside w (set w (bool_map + v) z)
aside_set w v z h = record {
  part = part_set w (bool_map + v) z (omega arith);
  behind = λ k l. get_or-set_other w (bool_map + v) k z (pos 0) (λ e. omega arith);
  size = length-set w (bool_map + v) z;
}

-- ---- steps

pub ties_none : {f : State → State} (w : List ℤ) (n : ℕ) → n ≤ limit → f (start w n) ≡ start w n → Ties f w n w n
ties_none w n l e = record { state = sym e; aside = aside_same w; low = l }

pub ties_as : {f g : State → State} {w w' : List ℤ} {n r : ℕ} → f (start w n) ≡ g (start w n) → Ties g w n w' r → Ties f w n w' r
ties_as e t = record { state = t.state ∙ sym e; aside = t.aside; low = t.low }

pub ties_give : {f : State → State} (w w' : List ℤ) (n v : ℕ) (y z : ℤ) → v < max_bools → n ≤ limit → y ≡ z → w' ≡ set w (bool_map + v) y → f (start w n) ≡ give v z (start w n) → Ties f w n w' n
ties_give w w' n v y z h l i e q = rw (e, i) (record { state = sym q; aside = aside_set w v z h; low = l })

-- a new number k for x, and z, its literal, for y
pub ties_new : (w u w' : List ℤ) (n k x y : ℕ) (a z : ℤ) (g : Bool) → x < max_bools → y < max_bools → n ≤ limit → k ≡ bump n 1 → a ≡ pos k → z ≡ signed (pos k) g → u ≡ set w (bool_map + x) a → w' ≡ set u (bool_map + y) z → Ties (tie_words true true x y g) w n w' k
ties_new w u w' n k x y a z g hx hy l hk ha hz hu hw =
    rw (hw, hu, ha, hz, hk) (record {
      state = refl;
      aside = aside_then (aside_set w x (pos (bump n 1)) hx) (aside_set (set w (bool_map + x) (pos (bump n 1))) y (signed (pos (bump n 1)) g) hy);
      low = omega arith;
    })

-- ---- two variables

pub tie_same : (w : List ℤ) (n x y : ℕ) (g : Bool) → x ≡ y → meet_tie x y g (start w n) ≡ start w n
unfolding meet_tie
tie_same w n x y g e = rw (eq-eqb x y e) refl

-- by the two words
pub tie_by : (w : List ℤ) (n x y : ℕ) (g s t : Bool) → (x ≡ y → ⊥) → is_zero (bool_at w x) ≡ s → is_zero (bool_at w y) ≡ t → meet_tie x y g (start w n) ≡ tie_words s t x y g (start w n)
unfolding meet_tie
tie_by w n x y g s t z e f = rw (ne_eqb x y z, e, f) refl

-- ---- the sides of a rule

module _ (F w : List ℤ) (n at : ℕ) (g : Bool) where
  pub sides_first : (a : ℕ) → a ≡ word F at → (a ≡ 11 → ⊥) → meet_sides F at g (start w n) ≡ start w n
  unfolding meet_sides
  sides_first a e z = rw (← e, ne_eqb a 11 z) refl

  pub sides_second : (a b : ℕ) → a ≡ word F at → a ≡ 11 → b ≡ word F (at + 2) → (b ≡ 11 → ⊥) → meet_sides F at g (start w n) ≡ start w n
  unfolding meet_sides
  sides_second a b e i f z = rw (← e, eq-eqb a 11 i, ← f, ne_eqb b 11 z) refl

  pub sides_left : (a b x : ℕ) → a ≡ word F at → a ≡ 11 → b ≡ word F (at + 2) → b ≡ 11 → x ≡ word F (at + 1) → max_bools ≤ x → meet_sides F at g (start w n) ≡ start w n
  unfolding meet_sides
  sides_left a b x e i f j q l = rw (← e, eq-eqb a 11 i, ← f, eq-eqb b 11 j, ← q, le-ltb x max_bools l) refl

  pub sides_right : (a b x y : ℕ) → a ≡ word F at → a ≡ 11 → b ≡ word F (at + 2) → b ≡ 11 → x ≡ word F (at + 1) → x < max_bools → y ≡ word F (at + 3) → max_bools ≤ y → meet_sides F at g (start w n) ≡ start w n
  unfolding meet_sides
  sides_right a b x y e i f j q h r l = rw (← e, eq-eqb a 11 i, ← f, eq-eqb b 11 j, ← q, lt-ltb x max_bools h, ← r, le-ltb y max_bools l) refl

  pub sides_both : (a b x y : ℕ) → a ≡ word F at → a ≡ 11 → b ≡ word F (at + 2) → b ≡ 11 → x ≡ word F (at + 1) → x < max_bools → y ≡ word F (at + 3) → y < max_bools → meet_sides F at g (start w n) ≡ meet_tie x y g (start w n)
  unfolding meet_sides
  sides_both a b x y e i f j q h r l = rw (← e, eq-eqb a 11 i, ← f, eq-eqb b 11 j, ← q, lt-ltb x max_bools h, ← r, lt-ltb y max_bools l) refl

-- ---- a statement

module _ (F w : List ℤ) (n at : ℕ) where
  pub other_stmt : (a : ℕ) → a ≡ word F at → (a ≡ 1 → ⊥) → meet_ties_at F at (start w n) ≡ start w n
  unfolding meet_ties_at
  other_stmt a e z = rw (← e, ne_eqb a 1 z) refl

  pub xor_rule : (a k : ℕ) → a ≡ word F at → a ≡ 1 → k ≡ word F (at + 1) → k ≡ 15 → meet_ties_at F at (start w n) ≡ meet_sides F (at + 2) true (start w n)
  unfolding meet_ties_at
  xor_rule a k e i f j = rw (← e, eq-eqb a 1 i, ← f, eq-eqb k 15 j) refl

  pub iff_rule : (a k : ℕ) → a ≡ word F at → a ≡ 1 → k ≡ word F (at + 1) → (k ≡ 15 → ⊥) → k ≡ 16 → meet_ties_at F at (start w n) ≡ meet_sides F (at + 2) false (start w n)
  unfolding meet_ties_at
  iff_rule a k e i f z j = rw (← e, eq-eqb a 1 i, ← f, ne_eqb k 15 z, eq-eqb k 16 j) refl

  pub other_rule : (a k : ℕ) → a ≡ word F at → a ≡ 1 → k ≡ word F (at + 1) → (k ≡ 15 → ⊥) → (k ≡ 16 → ⊥) → meet_ties_at F at (start w n) ≡ start w n
  unfolding meet_ties_at
  other_rule a k e i f z y = rw (← e, eq-eqb a 1 i, ← f, ne_eqb k 15 z, ne_eqb k 16 y) refl
