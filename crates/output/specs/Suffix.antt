-- The literals that the enclosing disjunctions append, by value; and the place in the output.
use Rattle.std.specs.Prelude.{◌≡◌, cond, List, [], ◌∷◌, ℕ, ◌≤◌, ℤ, length, drop}
use Rattle.output.specs.declared.Suffix.{Suffix}
use Rattle.output.specs.declared.Extra.{Extra}

-- the innermost first
abbrev pub suffix : Suffix → List ℤ
suffix s = drop s.from s.words

-- room for k literals more
pub record Stacked (s : Suffix) (k : ℕ) : Type 0 where
  pub size : length s.words ≡ 64
  pub room : k ≤ s.from
  pub inside : s.from ≤ 64

abbrev pub extra_lits : Extra → List ℤ
extra_lits x = cond x.some (x.lit ∷ []) []
