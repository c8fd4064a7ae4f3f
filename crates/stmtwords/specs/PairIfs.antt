-- The Ifs of a pair's words are those of its keys, so that clearing them is stages' `clear_pair` (`pair_cleared`); where the word for Ifs is 0 none stands.
use Rattle.std.specs.Prelude.{◌≡◌, Bool, ℕ, ◌+◌, ◌≤◌, ℤ}
use Rattle.std.proofs.Math.Path.{refl, ap}
use Rattle.std.proofs.Common.{sym, ◌∙◌, arith, length-take}
use Rattle.std.proofs.Math.Bool.{true, false, cond}
use mathlib.Core.List.{List, [], ◌∷◌, ◌++◌}
use Rattle.laws.specs.Bools.{never}
use Rattle.laws.specs.Slices.{Has, has_fits}
use Rattle.memory.specs.Places.{folded_end, limit}
use Rattle.syntax.specs.Syntax.{IntExpr, encode_int}
use Rattle.syntax.specs.Lengths.{int_long}
use Rattle.walk.specs.Decode.{read_part}
use Rattle.walks.specs.Tree.{Place, here, splits_int}
use Rattle.walks.specs.Item.{has_ifs}
use Rattle.walks.specs.Meet.{State, with_work}
use Rattle.walks.specs.Legal.{LegalInt}
use Rattle.walks.specs.Keys.{Key, keys_int, Every, every_none, every_more}
use Rattle.walks.specs.KeyAt.{places, SamePlaces, same_none, same_more, same_places_int, pair_keys}
use Rattle.walks.specs.Clear.{clear_places}
use Rattle.stages.specs.Room.{splits_int_low}
use Rattle.stages.specs.Pairs.{clear_pair}
use Rattle.stmtwords.specs.Ifs.{ifs_int_at, places_append, ifs_int_are}
use Rattle.stmtwords.specs.Cleared.{Cleared, pair_ifs}

same_are : {xs ys : List Key} → SamePlaces xs ys → places xs ≡ places ys
same_are same_none = refl
same_are (same_more {x} {y} {xs} {ys} e h) = ap (λ (p : Place). p ∷ places xs) e ∙ ap (λ (ps : List Place). y.place ∷ ps) (same_are h)

-- whatever the splitting's next number
side_ifs : (w : List ℤ) (e : IntExpr) (p n : ℕ) → LegalInt e 64 → Has (read_part w) p (encode_int e) → ifs_int_at (read_part w) 64 p 0 ≡ places (keys_int e here p n)
unfolding read_part
side_ifs w e p n h d =
    let f = has_fits (read_part w) p (encode_int e) d (omega (arith, int_long e)) in
    let i : 0 + splits_int e here ≤ limit = omega (arith, splits_int_low e here, f, length-take folded_end w) in
    ifs_int_are e 64 (read_part w) p 0 h d i ∙ same_are (same_places_int e here p 0 n)

none_marked : {xs : List Key} → Every (λ x. ◌≡◌ {A = Bool} false true) xs → [] ≡ places xs
none_marked every_none = refl
none_marked (every_more h hs) = never h

module _ (w : List ℤ) (a b : IntExpr) (p q : ℕ) (first : LegalInt a 64) (second : LegalInt b 64) (words : Has (read_part w) p (encode_int a)) (others : Has (read_part w) q (encode_int b)) where
  -- n: the splitting's next number
  pub pair_are : (n : ℕ) → Every (λ x. has_ifs w ≡ true) (pair_keys a b p q n) → pair_ifs w p q ≡ places (pair_keys a b p q n)
  unfolding pair_ifs
  pair_are n h = go (has_ifs w) refl
    where
      go : (c : Bool) → has_ifs w ≡ c → cond c (ifs_int_at (read_part w) 64 p 0 ++ ifs_int_at (read_part w) 64 q 0) [] ≡ places (pair_keys a b p q n)
      go true e = rw (side_ifs w a p n first words, side_ifs w b q (n + splits_int a here) second others, places_append (keys_int a here p n) (keys_int b here q (n + splits_int a here))) refl
      go false e = none_marked (rw e at h)

  pub pair_cleared : (st : State) (w' : List ℤ) (n : ℕ) → st.work ≡ w → Every (λ x. has_ifs w ≡ true) (pair_keys a b p q n) → Cleared (pair_ifs w p q) w w' → with_work w' st ≡ clear_pair a b p q n st
  unfolding clear_pair
  pair_cleared st w' n e h x = ap (λ (v : List ℤ). with_work v st) (x.cells ∙ ap (λ (ps : List Place). clear_places ps w) (pair_are n h) ∙ ap (clear_places (places (pair_keys a b p q n))) (sym e))
