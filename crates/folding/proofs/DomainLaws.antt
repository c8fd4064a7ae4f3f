-- What folding an integer variable asks and gives, over variables. Assumes nothing.
use Prim.Native.Nat.{ℕ, ◌+◌, ◌≤◌, ◌<◌}
use mathlib.Core.Path.{◌≡◌}
use mathlib.Core.Option.{none, some}
use mathlib.Core.List.{List, [], ◌∷◌}
use lib.IntN.{ℤ, pos}
use lib.ListN.{length, get_or, set}
use Rattle.laws.specs.Slices.{Has, Stored, stored_two}
use Rattle.syntax.specs.Syntax.{Domain, as_constant, domain_of, encode_domain, encode_int}
use Rattle.domains.specs.Declared.{DomainAt, DomainBelow, DomainPost}
use Rattle.folding.specs.Steps.{IntVarPost}

-- ---- `put_int_var`

pub domain_stands : (ws : List ℤ) (d v r : ℕ) → DomainBelow ws d v → DomainPost ws d v r → DomainAt ws r
domain_stands ws d v r b p = record { it = domain_of b.ds v; words = p b.ds b.domains b.below }

module _ (ws : List ℤ) (d : ℕ) (out : List ℤ) (o v at : ℕ) (pa : DomainPost ws d v at) where
  pub var_kept : ((dm : Domain) → Has ws at (encode_domain dm) → as_constant dm ≡ none) → (out' : List ℤ) (r : ℕ) → Stored out o (pos 21 ∷ pos v ∷ []) out' r → IntVarPost ws d out o v out' r
  unfolding encode_int
  var_kept pc out' r s ds h l = let a : as_constant (domain_of ds v) ≡ none = pc (domain_of ds v) (pa ds h l) in rw a s

  module _ (p : ℕ) (pc : (dm : Domain) → Has ws at (encode_domain dm) → (as_constant dm ≡ some (get_or ws p (pos 0))) × (p < length ws)) where
    pub value_inside : DomainBelow ws d v → p < length ws
    value_inside b = (pc (domain_of b.ds v) (pa b.ds b.domains b.below)).1

    pub var_constant : (out' : List ℤ) → o + 2 ≤ length out → out' ≡ set (set out o (pos 20)) (o + 1) (get_or ws p (pos 0)) → IntVarPost ws d out o v out' (o + 2)
    unfolding encode_int
    var_constant out' l e ds h k = let a : as_constant (domain_of ds v) ≡ some (get_or ws p (pos 0)) = (pc (domain_of ds v) (pa ds h k)).0 in rw (a, e) (stored_two out o (pos 20) (get_or ws p (pos 0)) l)
