-- Equal parts make equal tallies.
use Rattle.std.specs.Prelude.{◌≡◌, ℕ}
use Rattle.walk.specs.Item.{tally}

pub tally_eq : (a a' b b' c c' d d' : ℕ) → a ≡ a' → b ≡ b' → c ≡ c' → d ≡ d' → tally a b c d ≡ tally a' b' c' d'
tally_eq a a' b b' c c' d d' p q r s = cc
