-- An item is begun, and then placed by its parts: the form that the code has. Assumes nothing.
use Rattle.std.specs.Prelude.{◌≡◌, Bool, ℕ, ◌+◌, ◌≤◌, ◌<◌, ℤ, leb}
use Rattle.std.proofs.Math.Path.{refl, sym, ap}
use Rattle.std.proofs.Common.{◌∙◌, arith}
use Rattle.std.proofs.Math.Bool.{true, false, cond}
use mathlib.Core.List.{List, [], ◌∷◌, ◌++◌, append_assoc, append-nil}
use Rattle.std.proofs.Math.ListN.{length, length-append}
use borrow.Author.Tests.{leb-true, leb-false, le-leb, lt-leb}
use Rattle.laws.specs.Lists.{flat}
use Rattle.decimal.specs.Bytes.{comma}
use Rattle.decimal.specs.Decimal.{print_number}
use Rattle.lines.specs.Lines.{print_more, print_numbers}
use Rattle.page.specs.Sheet.{space, width, Item, pair_parts, in_front, Page, put, turn, fresh, gap, place_part, place_parts, place_item}
use Rattle.page.specs.Writes.{begun}

-- ---- an item's beginning

pub begun_here : (w : ℕ) (P : Page) → P.bare ≡ true → begun w P ≡ P
unfolding begun
begun_here w P b = ap (λ (t : Bool). cond t P (cond (leb (length P.line + (1 + w)) width) (put (space ∷ []) P) (turn P))) b

begun_else : (w : ℕ) (P : Page) → P.bare ≡ false → begun w P ≡ cond (leb (length P.line + (1 + w)) width) (put (space ∷ []) P) (turn P)
unfolding begun
begun_else w P b = ap (λ (t : Bool). cond t P (cond (leb (length P.line + (1 + w)) width) (put (space ∷ []) P) (turn P))) b

pub begun_space : (w : ℕ) (P : Page) → P.bare ≡ false → length P.line + (1 + w) ≤ 80 → begun w P ≡ put (space ∷ []) P
begun_space w P b h = begun_else w P b ∙ ap (λ (t : Bool). cond t (put (space ∷ []) P) (turn P)) (le-leb (length P.line + (1 + w)) 80 h)

pub begun_turn : (w : ℕ) (P : Page) → P.bare ≡ false → 80 < length P.line + (1 + w) → begun w P ≡ turn P
begun_turn w P b h = begun_else w P b ∙ ap (λ (t : Bool). cond t (put (space ∷ []) P) (turn P)) (lt-leb (length P.line + (1 + w)) 80 h)

-- ---- an item whole, and in parts

pub put_put : (t u : List ℕ) (P : Page) → put u (put t P) ≡ put (t ++ u) P
unfolding put
put_put t u P = ap (λ (l : List ℕ). record { lines = P.lines; line = l; bare = false }) (append_assoc P.line t u)

pub part_fits : (t : List ℕ) (P : Page) → length P.line + length t ≤ 80 → place_part t P ≡ put t P
unfolding place_part
part_fits t P h = rw (le-leb (length P.line + length t) 80 h) refl

-- parts that all fit stand whole
pub parts_fit : (t : List ℕ) (ts : Item) (P : Page) → length P.line + length (flat (t ∷ ts)) ≤ 80 → place_parts (t ∷ ts) P ≡ put (flat (t ∷ ts)) P
unfolding place_parts
parts_fit t [] P h = part_fits t P (omega (arith, length-append t [])) ∙ ap (λ (l : List ℕ). put l P) (sym (append-nil t))
parts_fit t (u ∷ us) P h =
    let e : place_part t P ≡ put t P = part_fits t P (omega (arith, length-append t (flat (u ∷ us)))) in
    let l : length (put t P).line ≡ length P.line + length t = unfold put in (length-append P.line t) in
    ap (place_parts (u ∷ us)) e ∙ parts_fit u us (put t P) (omega (arith, length-append t (flat (u ∷ us)))) ∙ put_put t (flat (u ∷ us)) P

-- a line without items, and what stands in front of an item
fresh_here : (P : Page) → P.bare ≡ true → fresh P ≡ P
unfolding fresh
fresh_here P b = ap (λ (t : Bool). cond t P (turn P)) b

fresh_turn : (P : Page) → P.bare ≡ false → fresh P ≡ turn P
unfolding fresh
fresh_turn P b = ap (λ (t : Bool). cond t P (turn P)) b

gap_is : (P : Page) (t : Bool) (x : List ℕ) → P.bare ≡ t → gap P ++ x ≡ cond t [] (space ∷ []) ++ x
gap_is P t x b = ap (λ (t : Bool). cond t [] (space ∷ []) ++ x) b

-- the three ways of an item
module _ (i : Item) (P : Page) where
  abbrev else_way : Page
  else_way = cond (leb (10 + length (flat i)) 80) (put (flat i) (fresh P)) (place_parts i (fresh P))

  item_fits : length P.line + length (gap P ++ flat i) ≤ 80 → place_item i P ≡ put (gap P ++ flat i) P
  unfolding place_item
  item_fits h = ap (λ (t : Bool). cond t (put (gap P ++ flat i) P) else_way) (le-leb (length P.line + length (gap P ++ flat i)) 80 h)

  item_else : 80 < length P.line + length (gap P ++ flat i) → place_item i P ≡ else_way
  unfolding place_item
  item_else h = ap (λ (t : Bool). cond t (put (gap P ++ flat i) P) else_way) (lt-leb (length P.line + length (gap P ++ flat i)) 80 h)

  item_whole : 80 < length P.line + length (gap P ++ flat i) → 10 + length (flat i) ≤ 80 → place_item i P ≡ put (flat i) (fresh P)
  item_whole h k = item_else h ∙ ap (λ (t : Bool). cond t (put (flat i) (fresh P)) (place_parts i (fresh P))) (le-leb (10 + length (flat i)) 80 k)

  item_broken : 80 < length P.line + length (gap P ++ flat i) → 80 < 10 + length (flat i) → place_item i P ≡ place_parts i (fresh P)
  item_broken h k = item_else h ∙ ap (λ (t : Bool). cond t (put (flat i) (fresh P)) (place_parts i (fresh P))) (lt-leb (10 + length (flat i)) 80 k)

-- an item is begun, and then placed by its parts
module _ (t : List ℕ) (ts : Item) (P : Page) where
  abbrev pub item : Item
  item = t ∷ ts

  abbrev pub size : ℕ
  size = length (flat item)

  on_bare : P.bare ≡ true → length P.line ≡ 10 → place_item item P ≡ place_parts item (begun size P)
  on_bare b l = go (leb (10 + size) 80) refl ∙ ap (place_parts item) (sym (begun_here size P b))
    where
      g : gap P ++ flat item ≡ flat item
      g = gap_is P true (flat item) b

      go : (x : Bool) → leb (10 + size) 80 ≡ x → place_item item P ≡ place_parts item P
      go true e = let h = leb-true (10 + size) 80 e in item_fits item P (omega (arith, ap length g)) ∙ ap (λ (x : List ℕ). put x P) g ∙ sym (parts_fit t ts P (omega arith))
      go false e = let h = leb-false (10 + size) 80 e in item_broken item P (omega (arith, ap length g)) h ∙ ap (place_parts item) (fresh_here P b)

  behind : P.bare ≡ false → place_item item P ≡ place_parts item (begun size P)
  behind b = go (leb (length P.line + (1 + size)) 80) refl (leb (10 + size) 80) refl
    where
      g : gap P ++ flat item ≡ space ∷ flat item
      g = gap_is P false (flat item) b

      go : (x : Bool) → leb (length P.line + (1 + size)) 80 ≡ x → (y : Bool) → leb (10 + size) 80 ≡ y → place_item item P ≡ place_parts item (begun size P)
      go true e y f =
          let h = leb-true (length P.line + (1 + size)) 80 e in
          let n : length (put (space ∷ []) P).line ≡ length P.line + 1 = unfold put in (length-append P.line (space ∷ [])) in
          item_fits item P (omega (arith, ap length g)) ∙ ap (λ (x : List ℕ). put x P) g ∙ sym (put_put (space ∷ []) (flat item) P) ∙ sym (parts_fit t ts (put (space ∷ []) P) (omega arith)) ∙ ap (place_parts item) (sym (begun_space size P b h))
      go false e true f =
          let h = leb-false (length P.line + (1 + size)) 80 e in
          let k = leb-true (10 + size) 80 f in
          let n : length (turn P).line ≡ 10 = unfold turn in refl in
          item_whole item P (omega (arith, ap length g)) k ∙ ap (put (flat item)) (fresh_turn P b) ∙ sym (parts_fit t ts (turn P) (omega arith)) ∙ ap (place_parts item) (sym (begun_turn size P b h))
      go false e false f =
          let h = leb-false (length P.line + (1 + size)) 80 e in
          item_broken item P (omega (arith, ap length g)) (leb-false (10 + size) 80 f) ∙ ap (place_parts item) (fresh_turn P b ∙ sym (begun_turn size P b h))

  pub place_begun : (P.bare ≡ true → length P.line ≡ 10) → place_item item P ≡ place_parts item (begun size P)
  place_begun h = go P.bare refl
    where
      go : (x : Bool) → P.bare ≡ x → place_item item P ≡ place_parts item (begun size P)
      go true b = on_bare b (h b)
      go false b = behind b

-- ---- the text of a comparison

pub flat_front : (h : List ℕ) (ps : Item) → flat (in_front h ps) ≡ h ++ flat ps
unfolding in_front
flat_front h [] = refl
flat_front h (p ∷ ps) = append_assoc h p (flat ps)

pub flat_pairs : (zs : List ℤ) → flat (pair_parts zs) ≡ print_numbers zs
unfolding pair_parts print_numbers print_more
flat_pairs [] = refl
flat_pairs (v ∷ []) = append-nil (print_number v ++ [])
flat_pairs (v ∷ a ∷ []) = append-nil (print_number v ++ (comma ∷ (print_number a ++ [])))
flat_pairs (v ∷ a ∷ w ∷ ws) =
    let rest : List ℕ = print_number w ++ print_more ws in
    let e : ((print_number v ++ (comma ∷ (print_number a ++ []))) ++ (comma ∷ [])) ++ rest ≡ print_number v ++ (comma ∷ (print_number a ++ (comma ∷ rest))) = simp (append_assoc, append-nil) in
    ap (λ (l : List ℕ). ((print_number v ++ (comma ∷ (print_number a ++ []))) ++ (comma ∷ [])) ++ l) (flat_pairs (w ∷ ws)) ∙ e
