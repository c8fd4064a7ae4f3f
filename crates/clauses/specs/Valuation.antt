-- What values of the emitted numbers owe to the log. δ, ε: the declared variables; ρ, ι: the emitted numbers.
-- `Agrees` is what passing gives (sound claims assume it): declared variables and binary integers have their values, the clauses of Ifs are true.
-- `Fits` gives every number the value it was made for (complete claims assume it). `Added`: the clauses of statements are true.
use Rattle.std.specs.Prelude.{◌≡◌, refl, Bool, true, false, cond, List, [], ◌∷◌}
use Rattle.std.proofs.Common.{sym}
use Rattle.std.proofs.Math.Bool.{not-not}
use Rattle.laws.specs.Lists.{all, any}
use Rattle.syntax.specs.Syntax.{in_domain}
use Rattle.syntax.specs.Satisfies.{Val, IVal, int_value, holds}
use Rattle.sums.specs.LinearSum.{sum_value}
use Rattle.clauses.specs.Clause.{negate_if, BoolLit, lit, Clause, clause_true, lit_true}
use Rattle.clauses.specs.Log.{declared, aux, side, declared_int, column, chosen, binary, Made, bool, merged, int, added, defined, known, Log, next_bool, next_int, negate_lit}

-- ---- a negated literal

pub negated_true : (ρ : Val) (g : Bool) (l : BoolLit) → lit_true ρ (negate_lit g l) ≡ negate_if g (lit_true ρ l)
negated_true ρ false (lit n h) = refl
negated_true ρ true (lit n false) = refl
negated_true ρ true (lit n true) = sym (not-not (ρ n))

module _ (ρ : Val) (ι : IVal) where
  abbrev pub all_true : List Clause → Bool
  all_true = all (clause_true ρ ι)

  -- of members' lists
  abbrev pub any_all_true : List (List Clause) → Bool
  any_all_true = any (all (clause_true ρ ι))

  abbrev pub all_all_true : List (List Clause) → Bool
  all_all_true = all (all (clause_true ρ ι))

  -- the clauses of statements are true
  abbrev pub AddedMade : Made → Type 0
  AddedMade (bool m) = Unit {0}
  AddedMade (merged v w g) = Unit {0}
  AddedMade (int m) = Unit {0}
  AddedMade (added cs) = all (clause_true ρ ι) cs ≡ true
  AddedMade (defined cs) = Unit {0}
  AddedMade (known e v) = Unit {0}

  abbrev pub Added : Log → Type 0
  Added [] = Unit {0}
  Added (m ∷ s) = AddedMade m × Added s

module _ (δ : Val) (ε : IVal) (ρ : Val) (ι : IVal) where
  abbrev pub AgreesMade : Made → Log → Type 0
  AgreesMade (bool (declared v)) s = ρ (next_bool s) ≡ δ v
  AgreesMade (bool (aux cs)) s = Unit {0}
  AgreesMade (bool (side e)) s = Unit {0}
  AgreesMade (merged v w g) s = δ v ≡ negate_if g (δ w)
  AgreesMade (int (declared_int v)) s = ι (next_int s) ≡ ε v
  AgreesMade (int (column l d)) s = in_domain (ι (next_int s)) d ≡ true
  AgreesMade (int (chosen i e p q d)) s = Unit {0}
  AgreesMade (int (binary i l a b)) s = ι (next_int s) ≡ cond (lit_true ρ l) b a
  AgreesMade (added cs) s = Unit {0}
  AgreesMade (defined cs) s = all (clause_true ρ ι) cs ≡ true
  AgreesMade (known e v) s = Unit {0}

  abbrev pub Agrees : Log → Type 0
  Agrees [] = Unit {0}
  Agrees (m ∷ s) = AgreesMade m s × Agrees s

  abbrev pub FitsMade : Made → Log → Type 0
  FitsMade (bool (declared v)) s = ρ (next_bool s) ≡ δ v
  FitsMade (bool (aux cs)) s = ρ (next_bool s) ≡ all (clause_true ρ ι) cs
  FitsMade (bool (side e)) s = ρ (next_bool s) ≡ holds δ ε ρ e
  FitsMade (merged v w g) s = δ v ≡ negate_if g (δ w)
  FitsMade (int (declared_int v)) s = ι (next_int s) ≡ ε v
  FitsMade (int (column l d)) s = (ι (next_int s) ≡ sum_value ι l) × (in_domain (ι (next_int s)) d ≡ true)
  FitsMade (int (chosen i e p q d)) s = ι (next_int s) ≡ int_value δ ε ρ e
  FitsMade (int (binary i l a b)) s = ι (next_int s) ≡ cond (lit_true ρ l) b a
  FitsMade (added cs) s = Unit {0}
  FitsMade (defined cs) s = all (clause_true ρ ι) cs ≡ true
  FitsMade (known e v) s = Unit {0}

  abbrev pub Fits : Log → Type 0
  Fits [] = Unit {0}
  Fits (m ∷ s) = FitsMade m s × Fits s

  fits_agrees_made : (m : Made) (s : Log) → FitsMade m s → AgreesMade m s
  fits_agrees_made (bool (declared v)) s f = f
  fits_agrees_made (bool (aux cs)) s f = tt
  fits_agrees_made (bool (side e)) s f = tt
  fits_agrees_made (merged v w g) s f = f
  fits_agrees_made (int (declared_int v)) s f = f
  fits_agrees_made (int (column l d)) s f = f.1
  fits_agrees_made (int (chosen i e p q d)) s f = tt
  fits_agrees_made (int (binary i l x y)) s f = f
  fits_agrees_made (added cs) s f = tt
  fits_agrees_made (defined cs) s f = f
  fits_agrees_made (known e v) s f = tt

  pub fits_agrees : (s : Log) → Fits s → Agrees s
  fits_agrees [] f = tt
  fits_agrees (m ∷ s) f = (fits_agrees_made m s f.0, fits_agrees s f.1)
