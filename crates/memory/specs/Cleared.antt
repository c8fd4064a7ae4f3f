-- Words of a slice that become 0. Assumes nothing.
use Rattle.std.specs.Prelude.{List, ℕ, ◌-◌, ℤ}
use Rattle.std.proofs.lemmas.List.Edits.{sets}
use Rattle.laws.specs.Slices.{zeros}

-- those from a place up to another; opened by name, since comparing lists of some thousand zeros takes seconds
unfoldable pub cleared : List ℤ → ℕ → ℕ → List ℤ
cleared w from to = sets w from (zeros (to - from))
