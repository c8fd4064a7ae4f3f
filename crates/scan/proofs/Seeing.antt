-- Laws of what is known of an If.
use mathlib.Core.Path.{◌≡◌, refl, sym, ap}
use mathlib.Core.Bool.{Bool, true, false, not}
use mathlib.Core.List.{List}
use lib.IntN.{ℤ, pos}
use lib.ListN.{get_or}
use lib.Dec.{eqb}
use borrow.Author.Tests.{eqb-true, eqb-false}
use mir.Syntax.{w32}
use mir.Val.{SFits, of_z}
use Rattle.laws.specs.Ints.{is_zero, bits_zero, bits_nonzero}
use Rattle.memory.specs.Places.{ifs_word}
use Rattle.walks.specs.Item.{has_ifs}

-- ---- the word that says whether there are Ifs

module _ (w : List ℤ) where
  pub word_test : (z : ℤ) → SFits w32 z → z ≡ get_or w ifs_word (pos 0) → not (eqb (of_z w32 z) 0) ≡ has_ifs w
  unfolding has_ifs
  word_test z f e = rw (← e) (go (eqb (of_z w32 z) 0) refl)
    where
      go : (b : Bool) → eqb (of_z w32 z) 0 ≡ b → not b ≡ not (is_zero z)
      go true h = sym (ap not (bits_zero z f (eqb-true _ _ h)))
      go false h = sym (ap not (bits_nonzero z (eqb-false _ _ h)))
