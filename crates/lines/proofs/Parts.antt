-- A law for each answer of the functions that print numbers and lines, over variables. Assumes nothing.
use mathlib.Core.Path.{◌≡◌, refl, sym, ap, ◌∙◌}
use mathlib.Core.List.{List, [], ◌∷◌, ◌++◌}
use Prim.Native.Nat.{ℕ, suc, ◌+◌, ◌-◌, ◌≤◌, ◌<◌}
use native.Mathlib.Omega.{arith}
use lib.IntN.{ℤ, pos}
use lib.ListN.{length, take, drop, get_or, drop_of_length-le}
use lib.Seq.{take_all}
use Rattle.decimal.specs.Bytes.{comma}
use Rattle.decimal.specs.Decimal.{print_number}
use Rattle.decimal.specs.Puts.{puts, Puts, puts_left, puts_then, puts_none, puts_as}
use Rattle.lines.specs.Lines.{print_more, print_numbers, print_line}
use Rattle.lines.specs.Output.{Printed, Stops, part_of, line_of, cons_word}

-- ---- numbers parted by commas: i of them are written

pub numbers_empty : (part : List ℤ) (out : List ℕ) (at : ℕ) → length part ≡ 0 → Puts out at (print_numbers part) out at
unfolding print_numbers
numbers_empty [] out at h = puts_none out at
numbers_empty (z ∷ zs) out at h = absurd (omega arith)

pub numbers_first : (part : List ℤ) (out : List ℕ) (at : ℕ) (out' : List ℕ) (r : ℕ) → (length part ≡ 0 → ⊥) → (y : ℤ) → y ≡ get_or part 0 (pos 0) → Puts out at (print_number y) out' r
    → puts out' r (print_more (take (length part - 1) (drop 1 part))) ≡ puts out at (print_numbers part)
unfolding print_numbers
numbers_first [] out at out' r h y e w = absurd (h refl)
numbers_first (z ∷ zs) out at out' r h y e w =
    let t : take (suc (length zs) - 1) zs ≡ zs = take_all (suc (length zs) - 1) zs (omega arith) in
    rw t (sym (ap (λ (x : ℤ). puts out at (print_number x ++ print_more zs)) (sym e) ∙ puts_left (print_more zs) w))

module _ (part : List ℤ) (whole : List ℕ × ℕ) (out : List ℕ) (o i : ℕ) (inv : puts out o (print_more (drop i part)) ≡ whole) where
  pub numbers_next : (mid : List ℕ) (m : ℕ) (out' : List ℕ) (r : ℕ) → i < length part → Puts out o (comma ∷ []) mid m → (z : ℤ) → z ≡ get_or part i (pos 0) → Puts mid m (print_number z) out' r
      → puts out' r (print_more (drop (i + 1) part)) ≡ whole
  unfolding print_more
  numbers_next mid m out' r h x z d y =
      let rest : List ℕ = print_more (drop (i + 1) part) in
      let e : print_more (drop i part) ≡ (comma ∷ []) ++ (print_number z ++ rest) = rw (cons_word part i h, d) refl in
      sym (ap (puts out o) e ∙ puts_left (print_number z ++ rest) x ∙ puts_left rest y) ∙ inv

  pub numbers_end : length part ≤ i → whole ≡ (out, o)
  unfolding puts print_more
  numbers_end h = sym inv ∙ rw (drop_of_length-le part h) refl

-- ---- pieces

pub part_shown : (ws : List ℤ) (from n : ℕ) (out : List ℕ) (at : ℕ) (out' : List ℕ) (r e : ℕ) → Stops ws from n e → Puts out at (print_numbers (take (e - from) (drop from ws))) out' r
    → Printed (part_of n (drop from ws)) ws from out at out' r e
unfolding part_of
part_shown ws from n out at out' r e s w = record { text = puts_as (print_numbers (take n (drop from ws))) (ap print_numbers s.part) w; rest = s.rest; low = s.low; high = s.high }

pub line_shown : (key : List ℕ) (ws : List ℤ) (from n : ℕ) (out : List ℕ) (at : ℕ) (o₁ : List ℕ) (i₁ : ℕ) (o₂ : List ℕ) (i₂ e : ℕ) (out' : List ℕ) (r : ℕ) → Puts out at key o₁ i₁ → Printed (part_of n (drop from ws)) ws from o₁ i₁ o₂ i₂ e → Puts o₂ i₂ (10 ∷ []) out' r
    → Printed (line_of key n (drop from ws)) ws from out at out' r e
unfolding line_of part_of print_line
line_shown key ws from n out at o₁ i₁ o₂ i₂ e out' r x p y = record { text = puts_then x (puts_then p.text y); rest = p.rest; low = p.low; high = p.high }
