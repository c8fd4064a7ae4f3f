-- Answers that are passed by none, computed from their words: a number that is named but not emitted, a value outside its record, a record of no kind.
-- And some that are passed, to show that the tests are not vacuous.
use Rattle.std.specs.Prelude.{◌≡◌, refl, Bool, true, false, ◌&&◌, cond, List, [], ◌∷◌, ℤ, pos, negsuc}
use Rattle.std.proofs.Common.{sym, ap, ◌∙◌}
use Rattle.std.specs.Bool.{beq}
use Rattle.std.proofs.lemmas.Bool.{false≢true}
use Rattle.laws.specs.Bools.{and_l, and_r, beq_eq}
use Rattle.laws.specs.Ints.{eqZ}
use Rattle.laws.specs.Order.{eqZ_is}
use Rattle.syntax.specs.Satisfies.{Val, IVal}
use Rattle.answer.specs.Passes.{decode_times, decode_counted, decode_lit, decode_term, decode_linear, decode_clause, decode_word, decode_record, decode, between, passes_decoded, passes_with, Passes}

-- no variable declared or emitted; one clause, the literal 3
pub literal_of_none : (δ : Val) (ε : IVal) → Passes 0 0 (pos 0 ∷ pos 0 ∷ pos 1 ∷ pos 1 ∷ pos 3 ∷ pos 0 ∷ []) δ ε → ⊥
unfolding decode_times decode_counted decode_lit decode_term decode_linear decode_clause decode_word decode_record decode passes_decoded passes_with
literal_of_none δ ε h = false≢true h.passing

-- the same with one comparison: integer 5 against 0
pub integer_of_none : (δ : Val) (ε : IVal) → Passes 0 0 (pos 0 ∷ pos 0 ∷ pos 1 ∷ pos 0 ∷ pos 1 ∷ pos 4 ∷ pos 0 ∷ pos 1 ∷ pos 5 ∷ pos 1 ∷ []) δ ε → ⊥
unfolding decode_times decode_counted decode_lit decode_term decode_linear decode_clause decode_word decode_record decode passes_decoded passes_with
integer_of_none δ ε h = false≢true h.passing

-- one Boolean declared and none emitted, while the map gives it number 0
pub map_of_none : (δ : Val) (ε : IVal) → Passes 1 0 (pos 2 ∷ pos 1 ∷ pos 0 ∷ pos 0 ∷ pos 0 ∷ []) δ ε → ⊥
unfolding decode_times decode_counted decode_lit decode_term decode_linear decode_clause decode_word decode_record decode passes_decoded passes_with
map_of_none δ ε h = false≢true h.passing

-- the same for one integer
pub int_map_of_none : (δ : Val) (ε : IVal) → Passes 0 1 (pos 1 ∷ pos 0 ∷ pos 0 ∷ pos 0 ∷ []) δ ε → ⊥
unfolding decode_times decode_counted decode_lit decode_term decode_linear decode_clause decode_word decode_record decode passes_decoded passes_with
int_map_of_none δ ε h = false≢true h.passing

-- one integer declared and emitted, from 0 to 2, no clause: passed with 2, not with 3
abbrev from_0_to_2 : List ℤ
from_0_to_2 = pos 1 ∷ pos 0 ∷ pos 1 ∷ pos 0 ∷ pos 0 ∷ pos 2 ∷ pos 3 ∷ pos 0 ∷ []

pub inside_record : (δ : Val) → Passes 0 1 from_0_to_2 δ (λ v. pos 2)
unfolding decode_times decode_counted decode_lit decode_term decode_linear decode_clause decode_word decode_record decode passes_decoded passes_with
inside_record δ = record { bools = λ n. false; ints = λ n. pos 2; passing = refl }

pub outside_record : (δ : Val) → Passes 0 1 from_0_to_2 δ (λ v. pos 3) → ⊥
unfolding decode_times decode_counted decode_lit decode_term decode_linear decode_clause decode_word decode_record decode passes_decoded passes_with
outside_record δ h = out (h.ints 0) (and_l (eqZ (h.ints 0) (pos 3)) true (and_l _ _ h.passing)) (and_l (between (pos 0) (pos 2) (h.ints 0)) _ (and_l _ _ (and_r (eqZ (h.ints 0) (pos 3) && true) _ h.passing)))
  where
    out : (x : ℤ) → eqZ x (pos 3) ≡ true → between (pos 0) (pos 2) x ≡ true → ⊥
    out x e b = false≢true (sym (ap (between (pos 0) (pos 2)) (eqZ_is x (pos 3) e)) ∙ b)

-- ---- an integer that follows a literal

-- one Boolean and one integer, declared and emitted; the integer follows the literal: 2 where it is false, 7 where it is true
abbrev following_words : ℤ → List ℤ
following_words l = pos 2 ∷ pos 1 ∷ pos 1 ∷ pos 1 ∷ pos 1 ∷ pos 1 ∷ l ∷ pos 2 ∷ pos 7 ∷ pos 0 ∷ []

-- passed with 7 where the Boolean is true, with 2 where it is false; the negated literal turns it
pub follows_true : Passes 1 1 (following_words (pos 1)) (λ v. true) (λ v. pos 7)
unfolding decode_times decode_counted decode_lit decode_term decode_linear decode_clause decode_word decode_record decode passes_decoded passes_with
follows_true = record { bools = λ n. true; ints = λ n. pos 7; passing = refl }

pub follows_false : Passes 1 1 (following_words (pos 1)) (λ v. false) (λ v. pos 2)
unfolding decode_times decode_counted decode_lit decode_term decode_linear decode_clause decode_word decode_record decode passes_decoded passes_with
follows_false = record { bools = λ n. false; ints = λ n. pos 2; passing = refl }

pub follows_negated : Passes 1 1 (following_words (negsuc 0)) (λ v. true) (λ v. pos 2)
unfolding decode_times decode_counted decode_lit decode_term decode_linear decode_clause decode_word decode_record decode passes_decoded passes_with
follows_negated = record { bools = λ n. true; ints = λ n. pos 2; passing = refl }

-- not with 2 where it is true, though 2 lies between 2 and 7
pub not_following : Passes 1 1 (following_words (pos 1)) (λ v. true) (λ v. pos 2) → ⊥
unfolding decode_times decode_counted decode_lit decode_term decode_linear decode_clause decode_word decode_record decode passes_decoded passes_with
not_following h = let rest = and_r (beq (h.bools 0) true && true) _ h.passing in out (h.bools 0) (h.ints 0) (and_l (beq (h.bools 0) true) true (and_l _ _ h.passing)) (and_l (eqZ (h.ints 0) (pos 2)) true (and_l _ _ rest)) (and_l (eqZ (h.ints 0) (cond (h.bools 0) (pos 7) (pos 2))) _ (and_l _ _ (and_r (eqZ (h.ints 0) (pos 2) && true) _ rest)))
  where
    out : (t : Bool) (x : ℤ) → beq t true ≡ true → eqZ x (pos 2) ≡ true → eqZ x (cond t (pos 7) (pos 2)) ≡ true → ⊥
    out t x q e b = false≢true (sym (ap (eqZ (pos 2)) (ap (λ (u : Bool). cond u (pos 7) (pos 2)) (beq_eq t true q))) ∙ ap (λ (y : ℤ). eqZ y (cond t (pos 7) (pos 2))) (sym (eqZ_is x (pos 2) e)) ∙ b)

-- nothing declared: an integer that follows the literal 3, where no Boolean is emitted; a record of kind 2, where one is
pub record_literal_of_none : (δ : Val) (ε : IVal) → Passes 0 0 (pos 0 ∷ pos 1 ∷ pos 1 ∷ pos 3 ∷ pos 2 ∷ pos 7 ∷ pos 0 ∷ []) δ ε → ⊥
unfolding decode_times decode_counted decode_lit decode_term decode_linear decode_clause decode_word decode_record decode passes_decoded passes_with
record_literal_of_none δ ε h = false≢true h.passing

pub record_of_no_kind : (δ : Val) (ε : IVal) → Passes 0 0 (pos 1 ∷ pos 1 ∷ pos 2 ∷ pos 1 ∷ pos 2 ∷ pos 7 ∷ pos 0 ∷ []) δ ε → ⊥
unfolding decode_times decode_counted decode_lit decode_term decode_linear decode_clause decode_word decode_record decode passes_decoded passes_with
record_of_no_kind δ ε h = false≢true h.passing
