-- A verdict as a station's number: it fits i64, and it is the definition's; with what 0 says of a compile's answer.
use mathlib.Core.Path.{◌≡◌, refl, sym, ap, ◌∙◌}
use mathlib.Core.List.{List}
use Prim.Native.Nat.{ℕ, zero, suc, ◌≤◌}
use native.Mathlib.Omega.{arith}
use lib.IntN.{ℤ, pos, neg_ℤ, ◌-ℤ◌, +ℤ_idl}
use lib.ListN.{length}
use mir.Syntax.{w64}
use mir.Val.{to_z, of_z, SFits}
use mir.Facts.{to_z-of_z}
use Rattle.laws.specs.Ints.{apart}
use Rattle.verdict.specs.Roster.{Verdict, satisfied, broken, refused, check_roster}
use Rattle.evaluate.specs.Contract.{checked_of, Checks}
use Rattle.evaluate.specs.declared.Checked.{Checked}
use Rattle.evaluate.specs.declared.Checked.TheVariants.{Yes, Broken, Refused}
use Rattle.passing.specs.Passing.{yes_passes}
use Rattle.station.specs.Rosters.{verdict_number, Judges, Numbered, check_numbered, zero_satisfied}

-- ---- numbers up to 4096 as bits

pub number_fits : (n : ℕ) → n ≤ 4096 → SFits w64 (pos n)
number_fits n h = record { sfits = omega arith }

number_is : (n : ℕ) → n ≤ 4096 → to_z w64 n ≡ pos n
number_is n h = to_z-of_z (number_fits n h)

minus_is : (k : ℕ) → pos 0 -ℤ pos k ≡ neg_ℤ (pos k)
minus_is k = +ℤ_idl (neg_ℤ (pos k))

minus_fits : (k : ℕ) → k ≤ 4096 → SFits w64 (neg_ℤ (pos k))
minus_fits zero h = record { sfits = omega arith }
minus_fits (suc k) h = record { sfits = omega arith }

pub negated_fits : (k : ℕ) → k ≤ 4096 → SFits w64 (pos 0 -ℤ to_z w64 k)
negated_fits k h = rw (number_is k h, minus_is k) (minus_fits k h)

negated_is : (k : ℕ) → k ≤ 4096 → to_z w64 (of_z w64 (pos 0 -ℤ to_z w64 k)) ≡ neg_ℤ (pos k)
negated_is k h = to_z-of_z (negated_fits k h) ∙ ap (λ (z : ℤ). pos 0 -ℤ z) (number_is k h) ∙ minus_is k

-- ---- of a verdict

yes_of : (v : Verdict) → checked_of v ≡ Yes → v ≡ satisfied
unfolding checked_of
yes_of satisfied e = refl
yes_of (broken k) e = apart (cc)
yes_of (refused k) e = apart (cc)

broken_of : (v : Verdict) → Numbered v → (k : ℕ) → checked_of v ≡ Broken k → (k ≤ 4096) × (v ≡ broken k)
unfolding checked_of
broken_of satisfied h k e = apart (cc)
broken_of (broken zero) h k e = absurd h
broken_of (broken (suc j)) h k e = let l : suc j ≡ k = cc in (omega (arith, h, l), ap broken l)
broken_of (refused j) h k e = apart (cc)

refused_of : (v : Verdict) → Numbered v → (k : ℕ) → checked_of v ≡ Refused k → (k ≤ 4096) × (v ≡ refused k)
unfolding checked_of
refused_of satisfied h k e = apart (cc)
refused_of (broken j) h k e = apart (cc)
refused_of (refused zero) h k e = absurd h
refused_of (refused (suc j)) h k e = let l : suc j ≡ k = cc in (omega (arith, h, l), ap refused l)

module _ (set values work work' : List ℤ) (r : Checked) (h : Checks set values work work' r) where
  abbrev verdict : Verdict
  verdict = check_roster set values (length work)

  numbered : Numbered verdict
  numbered = check_numbered set values (length work)

  gives : (x : ℤ) → x ≡ verdict_number verdict → Judges set values work work' x
  unfolding verdict_number
  gives x e =
      record {
        number = e;
        zeroed = h.zeroed;
        passes = λ c o w enough n.
            let y = yes_passes c set values o w (length work) enough n in
            (λ z. y.0 (zero_satisfied verdict numbered (sym e ∙ z)), λ z. e ∙ ap verdict_number (y.1 z));
      }

  pub broken_small : (k : ℕ) → r ≡ Broken k → k ≤ 4096
  broken_small k e = (broken_of verdict numbered k (sym h.answer ∙ e)).0

  pub refused_small : (k : ℕ) → r ≡ Refused k → k ≤ 4096
  refused_small k e = (refused_of verdict numbered k (sym h.answer ∙ e)).0

  pub judges_yes : r ≡ Yes → Judges set values work work' (pos 0)
  unfolding verdict_number
  judges_yes e = gives (pos 0) (sym (ap verdict_number (yes_of verdict (sym h.answer ∙ e))))

  pub judges_broken : (k : ℕ) → r ≡ Broken k → Judges set values work work' (to_z w64 k)
  unfolding verdict_number
  judges_broken k e = gives (to_z w64 k) (number_is k (broken_small k e) ∙ sym (ap verdict_number (broken_of verdict numbered k (sym h.answer ∙ e)).1))

  pub judges_refused : (k : ℕ) → r ≡ Refused k → Judges set values work work' (to_z w64 (of_z w64 (pos 0 -ℤ to_z w64 k)))
  unfolding verdict_number
  judges_refused k e = gives _ (negated_is k (refused_small k e) ∙ sym (ap verdict_number (refused_of verdict numbered k (sym h.answer ∙ e)).1))
