-- The declared domains in the words of a set that is read. Assumes nothing.
use Rattle.std.specs.Prelude.{List, map, ℕ, ◌≤◌, ◌<◌, ℤ, length}
use Rattle.laws.specs.Lists.{flat}
use Rattle.laws.specs.Slices.{Has}
use Rattle.syntax.specs.Words.{max_set_words}
use Rattle.syntax.specs.Syntax.{Domain, encode_domain}
use Rattle.words.specs.Exact.{Each}
use Rattle.read.specs.WellFormed.{WellDomain}

-- the set's words say the declared domains
pub record Declared (set : List ℤ) (ds : List Domain) : Type 0 where
  pub words : Has set 2 (flat (map encode_domain ds))
  pub well : Each WellDomain ds
  pub short : length set ≤ max_set_words

-- the declared variable v
pub record SomeDeclared (set : List ℤ) (v : ℕ) : Type 0 where
  pub domains : List Domain
  pub it : Declared set domains
  pub below : v < length domains
