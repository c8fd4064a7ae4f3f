-- The declared domains in a set's words: what the functions over them ask and give. Assumes nothing.
use Rattle.std.specs.Prelude.{◌≡◌, refl, List, [], ◌∷◌, map, ℕ, zero, suc, ◌+◌, ◌*◌, ◌<◌, ◌≤◌, ℤ, pos, nat_abs, length, get_or}
use Rattle.std.proofs.Common.{◌∙◌, arith}
use Rattle.std.specs.declared.option.Option.{Option as RustOption}
use Rattle.std.specs.Option.{MatchOption}
use Rattle.std.proofs.Math.Option.{none, some}
use Rattle.std.proofs.lemmas.List.Edits.{sets}
use Rattle.laws.specs.Lists.{flat}
use Rattle.laws.specs.Slices.{Has, has_fits, has_nth}
use Rattle.syntax.specs.Syntax.{Domain, encode_domain, domain_of, as_constant, lower_bound, upper_bound, num_candidates}

-- a word that is a number
pub record Plain (ws : List ℤ) (at : ℕ) : Type 0 where
  pub inside : at < length ws
  pub value : ℕ
  pub is : get_or ws at (pos 0) ≡ pos value

-- ---- one domain

pub record DomainAt (ws : List ℤ) (at : ℕ) : Type 0 where
  pub it : Domain
  pub words : Has ws at (encode_domain it)

-- a domain whose number of values fits a word
pub record DomainSizedAt (ws : List ℤ) (at : ℕ) : Type 0 where
  pub it : Domain
  pub words : Has ws at (encode_domain it)
  pub fits : nat_abs (num_candidates it) < 2147483648

-- the place of a domain's one value
abbrev pub HasOneValue : List ℤ → Domain → RustOption ℕ → Type 0
HasOneValue ws dm r = MatchOption r (as_constant dm ≡ none) (λ at. (as_constant dm ≡ some (get_or ws at (pos 0))) × (at < length ws))

-- ---- the set's domains stand from d on

pub record Domains (ws : List ℤ) (d : ℕ) (ds : List Domain) : Type 0 where
  pub words : Has ws d (flat (map encode_domain ds))

pub record DomainBelow (ws : List ℤ) (d v : ℕ) : Type 0 where
  pub ds : List Domain
  pub domains : Domains ws d ds
  pub below : v < length ds

abbrev pub DomainPost : List ℤ → ℕ → ℕ → ℕ → Type 0
DomainPost ws d v r = (ds : List Domain) → Domains ws d ds → v < length ds → Has ws r (encode_domain (domain_of ds v))

-- ---- the bounds of every declared integer, as words

abbrev pub bounds_words : List Domain → List ℤ
bounds_words [] = []
bounds_words (d ∷ ds) = lower_bound d ∷ upper_bound d ∷ bounds_words ds

pub record BoundsRoom (ws : List ℤ) (d n : ℕ) (out : List ℤ) (o : ℕ) : Type 0 where
  pub ds : List Domain
  pub domains : Domains ws d ds
  pub size : n ≡ length ds
  pub room : o + 2 * n ≤ length out

-- stored from o on, nothing else touched; r is the place behind the domains
pub record BoundsStored (ds : List Domain) (d : ℕ) (out : List ℤ) (o : ℕ) (out' : List ℤ) (r : ℕ) : Type 0 where
  pub behind : r ≡ d + length (flat (map encode_domain ds))
  pub stored : out' ≡ sets out o (bounds_words ds)

abbrev pub BoundsPost : List ℤ → ℕ → ℕ → List ℤ → ℕ → List ℤ → ℕ → Type 0
BoundsPost ws d n out o out' r = (ds : List Domain) → Domains ws d ds → n ≡ length ds → BoundsStored ds d out o out' r

-- ---- looking a bound up

pub bounds_length : (ds : List Domain) → length (bounds_words ds) ≡ 2 * length ds
bounds_length [] = refl
bounds_length (d ∷ ds) = omega (arith, bounds_length ds)

bounds_low : (ds : List Domain) (v : ℕ) → v < length ds → get_or (bounds_words ds) (2 * v) (pos 0) ≡ lower_bound (domain_of ds v)
bounds_low [] v l = absurd (omega arith)
bounds_low (d ∷ ds) zero l = refl
bounds_low (d ∷ ds) (suc v) l = let m : 2 * suc v ≡ suc (suc (2 * v)) = omega arith in rw m (bounds_low ds v (omega arith))

bounds_high : (ds : List Domain) (v : ℕ) → v < length ds → get_or (bounds_words ds) (2 * v + 1) (pos 0) ≡ upper_bound (domain_of ds v)
bounds_high [] v l = absurd (omega arith)
bounds_high (d ∷ ds) zero l = refl
bounds_high (d ∷ ds) (suc v) l = let m : 2 * suc v + 1 ≡ suc (suc (2 * v + 1)) = omega arith in rw m (bounds_high ds v (omega arith))

-- where the bounds stand in a list from o on
module _ (ws : List ℤ) (o : ℕ) (ds : List Domain) (h : Has ws o (bounds_words ds)) (v : ℕ) (l : v < length ds) where
  pub bound_inside : o + (2 * v + 1) < length ws
  bound_inside = omega (arith, has_fits ws o (bounds_words ds) h (omega (arith, bounds_length ds)), bounds_length ds)

  pub low_at : get_or ws (o + 2 * v) (pos 0) ≡ lower_bound (domain_of ds v)
  low_at = has_nth ws o (bounds_words ds) (2 * v) (pos 0) h (omega (arith, bounds_length ds)) ∙ bounds_low ds v l

  pub high_at : get_or ws (o + (2 * v + 1)) (pos 0) ≡ upper_bound (domain_of ds v)
  high_at = has_nth ws o (bounds_words ds) (2 * v + 1) (pos 0) h (omega (arith, bounds_length ds)) ∙ bounds_high ds v l
