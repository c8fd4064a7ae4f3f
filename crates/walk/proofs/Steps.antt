-- An index read from a word is below its limit.
use Rattle.std.specs.Prelude.{◌≡◌, refl, Bool, true, false, cond, ℕ, ◌<◌, ltb}
use Rattle.std.proofs.Common.{ltb-true}
use Rattle.walk.specs.Decode.{below}

pub below_lt : (l x : ℕ) → 0 < l → below l x < l
below_lt l x h = go (ltb x l) refl
  where
    go : (b : Bool) → ltb x l ≡ b → cond b x 0 < l
    go true e = ltb-true x l e
    go false e = h
