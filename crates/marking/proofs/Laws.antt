-- What the tests of each function tell, and what a turn of each loop leaves to look at.
use mathlib.Core.Path.{◌≡◌, refl, sym, ap, ◌∙◌}
use mathlib.Core.Bool.{Bool, true, false, ◌&&◌, ◌||◌}
use mathlib.Core.List.{List}
use Prim.Native.Nat.{ℕ, zero, suc, ◌+◌, ◌-◌, ◌≤◌, ◌<◌}
use native.Mathlib.Omega.{arith}
use lib.IntN.{ℤ, pos, negsuc}
use lib.ListN.{get_or}
use lib.Dec.{eqb, leb}
use mir.Syntax.{w32}
use mir.Val.{SFits, of_z}
use borrow.Author.Tests.{eqb-true, eqb-false, ne_eqb, le-leb, lt-leb}
use Rattle.laws.specs.Bools.{never}
use Rattle.laws.specs.Signed.{value_is}
use Rattle.memory.specs.Places.{folded_end}
use Rattle.memory.specs.Number.{nat}
use Rattle.walk.specs.Decode.{word, read_part}
use Rattle.walks.specs.Ends.{bool_end, int_end, decode_end, decode_int_end}
use Rattle.survey.proofs.Leaves.{word_inside}
use Rattle.scan.specs.Skip.{split_by, Skips, IntSkips}
use Rattle.marking.specs.Mark.{is_code, is_bool, is_int, is_if, reads_if, has_code, finds_if}

-- ---- `is_code`

module _ (F : List ℤ) (q low high k : ℕ) (e : k ≡ word F q) where
  pub code_low : k < low → false ≡ is_code F q low high
  code_low l = sym (rw (← e, lt-leb low k l) refl)

  pub code_rest : low ≤ k → leb k high ≡ is_code F q low high
  code_rest l = sym (rw (← e, le-leb low k l) refl)

-- ---- `reads_if`; p, r: the ends of the condition and of the first value

module _ (F : List ℤ) (q : ℕ) where
  pub reads_none : is_bool F (q + 1) ≡ false → false ≡ reads_if F q
  unfolding reads_if
  reads_none h = sym (rw h refl)

  module _ (p b : ℕ) (s : Skips F 63 (split_by 0) (q + 1) 0 p b) (h : is_bool F (q + 1) ≡ true) where
    ends : bool_end F 63 (q + 1) ≡ p
    ends = sym (s.end false ∙ decode_end F 63 (split_by 0) false (q + 1) 0)

    pub reads_one : is_int F p ≡ false → false ≡ reads_if F q
    unfolding reads_if
    reads_one k = sym (rw (h, ends, k) refl)

    pub reads_both : is_int F p ≡ true → (r c : ℕ) → IntSkips F 63 (split_by 0) p 0 r c → is_int F r ≡ reads_if F q
    unfolding reads_if
    reads_both k r c t =
        let e : int_end F 63 p ≡ r = sym (t.end ∙ decode_int_end F 63 (split_by 0) p 0) in
        sym (rw (h, ends, k, e) refl)

-- ---- the loops

not_if : (z : ℤ) → (of_z w32 z ≡ 23 → ⊥) → nat z ≡ 23 → ⊥
unfolding nat
not_if (pos n) h e = h (rw e refl)
not_if (negsuc n) h e = omega arith

module _ (w : List ℤ) (end : ℕ) (inside : end ≤ folded_end) where
  abbrev F : List ℤ
  F = read_part w

  module _ (i : ℕ) (l : i < end) where
    abbrev Z : ℤ
    Z = get_or w i (pos 0)

    code_here : SFits w32 Z → of_z w32 Z ≡ 23 → is_if F i ≡ true
    unfolding nat
    code_here f e = ap (λ (k : ℕ). eqb k 23) (sym (word_inside w i (omega arith)) ∙ ap nat (value_is f e))

    no_code_here : (of_z w32 Z ≡ 23 → ⊥) → is_if F i ≡ false
    no_code_here h = ne_eqb (word F i) 23 (λ e. not_if Z h (word_inside w i (omega arith) ∙ e))

    code_is : has_code F i (end - i) ≡ is_if F i || has_code F (i + 1) (end - (i + 1))
    unfolding has_code
    code_is =
        let m : end - i ≡ suc (end - (i + 1)) = omega arith in
        let s : i + 1 ≡ suc i = omega arith in
        rw (m, s) refl

    finds_is : finds_if F i (end - i) ≡ is_if F i && reads_if F i || finds_if F (i + 1) (end - (i + 1))
    unfolding finds_if
    finds_is =
        let m : end - i ≡ suc (end - (i + 1)) = omega arith in
        let s : i + 1 ≡ suc i = omega arith in
        rw (m, s) refl

    -- found: what was found before
    pub code_next : (found : Bool) → SFits w32 Z → (found || eqb (of_z w32 Z) 23) || has_code F (i + 1) (end - (i + 1)) ≡ found || has_code F i (end - i)
    code_next true f = refl
    code_next false f = sym (code_is ∙ ap (λ (b : Bool). b || has_code F (i + 1) (end - (i + 1))) (go (eqb (of_z w32 Z) 23) refl))
      where
        go : (b : Bool) → eqb (of_z w32 Z) 23 ≡ b → is_if F i ≡ b
        go true e = code_here f (eqb-true _ _ e)
        go false e = no_code_here (eqb-false _ _ e)

    pub if_found : SFits w32 Z → of_z w32 Z ≡ 23 → reads_if F i ≡ true → true ≡ finds_if F i (end - i)
    if_found f e r = sym (rw (finds_is, code_here f e, r) refl)

    pub if_unread : SFits w32 Z → of_z w32 Z ≡ 23 → reads_if F i ≡ false → finds_if F (i + 1) (end - (i + 1)) ≡ finds_if F i (end - i)
    if_unread f e r = sym (rw (finds_is, code_here f e, r) refl)

    pub if_later : (of_z w32 Z ≡ 23 → ⊥) → finds_if F (i + 1) (end - (i + 1)) ≡ finds_if F i (end - i)
    if_later h = sym (rw (finds_is, no_code_here h) refl)

  module _ (i : ℕ) (l : end ≤ i) where
    pub code_last : (found : Bool) → found ≡ found || has_code F i (end - i)
    unfolding has_code
    code_last found = let m : end - i ≡ 0 = omega arith in rw m (go found)
      where
        go : (b : Bool) → b ≡ b || false
        go true = refl
        go false = refl

    pub if_last : false ≡ finds_if F i (end - i)
    unfolding finds_if
    if_last = let m : end - i ≡ 0 = omega arith in rw m refl

-- ---- `any_if`

-- an If is not found where its code is not
pub none_found : (F : List ℤ) (q n : ℕ) → has_code F q n ≡ false → false ≡ finds_if F q n
unfolding has_code finds_if
none_found F q zero h = refl
none_found F q (suc n) h = go (is_if F q) refl (λ k. none_found F (suc q) n k)
  where
    go : (b : Bool) → is_if F q ≡ b → (has_code F (suc q) n ≡ false → false ≡ finds_if F (suc q) n) → false ≡ finds_if F q (suc n)
    go true e k = never (sym (rw e at h))
    go false e k = rw e (k (rw e at h))
