-- The answer as a station's number: it fits i64, and it is the definition's; with what `compile` says of the answer.
use mathlib.Core.Path.{◌≡◌, refl, sym, ap, ◌∙◌, subst}
use mathlib.Core.List.{List}
use Prim.Native.Nat.{ℕ, zero, suc, ◌≤◌}
use native.Mathlib.Omega.{arith}
use lib.IntN.{ℤ, pos, neg_ℤ, ◌-ℤ◌, +ℤ_idl}
use lib.ListN.{length}
use mir.Syntax.{w64}
use mir.Val.{to_z, of_z, SFits}
use mir.Facts.{to_z-of_z}
use Rattle.laws.specs.Ints.{apart}
use Rattle.syntax.specs.Words.{max_answer_words}
use Rattle.call.specs.Call.{Result, compiled, contradiction, refused, returned, call_with}
use Rattle.call.specs.declared.Choices.{Choices}
use Rattle.planner.specs.declared.Answer.{Answer}
use Rattle.planner.specs.declared.Answer.TheVariants.{Compiled, Contradiction, Refused}
use Rattle.planner.specs.Contract.{answer_of, Compiles}
use Rattle.station.specs.Small.{Small, call_small}
use Rattle.station.specs.Returned.{Returns}

-- ---- small numbers as bits

pub number_fits : (n : ℕ) → n ≤ max_answer_words → SFits w64 (pos n)
number_fits n h = record { sfits = omega arith }

pub number_is : (n : ℕ) → n ≤ max_answer_words → to_z w64 n ≡ pos n
number_is n h = to_z-of_z (number_fits n h)

minus_is : (k : ℕ) → pos 0 -ℤ pos k ≡ neg_ℤ (pos k)
minus_is k = +ℤ_idl (neg_ℤ (pos k))

minus_fits : (k : ℕ) → k ≤ 12 → SFits w64 (neg_ℤ (pos k))
minus_fits zero h = record { sfits = omega arith }
minus_fits (suc k) h = record { sfits = omega arith }

pub negated_fits : (k : ℕ) → k ≤ 12 → SFits w64 (pos 0 -ℤ to_z w64 k)
negated_fits k h = rw (number_is k (omega arith), minus_is k) (minus_fits k h)

negated_is : (k : ℕ) → k ≤ 12 → to_z w64 (of_z w64 (pos 0 -ℤ to_z w64 k)) ≡ neg_ℤ (pos k)
negated_is k h = to_z-of_z (negated_fits k h) ∙ ap (λ (z : ℤ). pos 0 -ℤ z) (number_is k (omega arith)) ∙ minus_is k

-- ---- of an answer

words_of : (x : Result) → Small x → (n : ℕ) → answer_of x ≡ Compiled n → (n ≤ max_answer_words) × (pos n ≡ returned x)
unfolding answer_of returned
words_of (compiled ws) s n e = let l : length ws ≡ n = cc in (omega (arith, s), ap pos (sym l))
words_of contradiction s n e = apart (cc)
words_of (refused k) s n e = apart (cc)

none_of : (x : Result) → answer_of x ≡ Contradiction → neg_ℤ (pos 100) ≡ returned x
unfolding answer_of returned
none_of (compiled ws) e = apart (cc)
none_of contradiction e = refl
none_of (refused k) e = apart (cc)

refusal_of : (x : Result) → Small x → (k : ℕ) → answer_of x ≡ Refused k → (k ≤ 12) × (neg_ℤ (pos k) ≡ returned x)
unfolding answer_of returned
refusal_of (compiled ws) s k e = apart (cc)
refusal_of contradiction s k e = apart (cc)
refusal_of (refused zero) s k e = absurd s
refusal_of (refused (suc j)) s k e = let l : suc j ≡ k = cc in (omega (arith, s), ap (λ (m : ℕ). neg_ℤ (pos m)) (sym l))

-- the number tells the answer: no refusal has the number 0 or 100
words_back : (x : Result) → Small x → (n : ℕ) → returned x ≡ pos n → answer_of x ≡ Compiled n
unfolding answer_of returned
words_back (compiled ws) s n e = let l : length ws ≡ n = cc in ap Compiled l
words_back contradiction s n e = apart (cc)
words_back (refused zero) s n e = absurd s
words_back (refused (suc k)) s n e = apart (cc)

none_back : (x : Result) → Small x → returned x ≡ neg_ℤ (pos 100) → answer_of x ≡ Contradiction
unfolding answer_of returned
none_back (compiled ws) s e = apart (cc)
none_back contradiction s e = refl
none_back (refused zero) s e = absurd s
none_back (refused (suc k)) s e = let l : k ≡ 99 = cc in absurd (omega (arith, s))

module _ (c : Choices) (set out work out' work' : List ℤ) (r : Answer) (h : Compiles c set out work out' work' r) where
  abbrev result : Result
  result = call_with c set (length out) (length work)

  small : Small result
  small = call_small c set (length out) (length work)

  gives : (x : ℤ) → x ≡ returned result → Returns c set out work out' work' x
  gives x e =
      record {
        number = e;
        output = h.output;
        zeroed = h.zeroed;
        exact = λ n f. h.exact n (h.answer ∙ words_back result small n (sym e ∙ f));
        unsatisfied = λ f. h.unsatisfied (h.answer ∙ none_back result small (sym e ∙ f));
        consequences = h.consequences;
      }

  pub words_small : (n : ℕ) → r ≡ Compiled n → n ≤ max_answer_words
  words_small n e = (words_of result small n (sym h.answer ∙ e)).0

  pub refusal_small : (k : ℕ) → r ≡ Refused k → k ≤ 12
  refusal_small k e = (refusal_of result small k (sym h.answer ∙ e)).0

  pub returns_words : (n : ℕ) → r ≡ Compiled n → Returns c set out work out' work' (to_z w64 n)
  returns_words n e = gives (to_z w64 n) (number_is n (words_small n e) ∙ (words_of result small n (sym h.answer ∙ e)).1)

  pub returns_none : r ≡ Contradiction → Returns c set out work out' work' (neg_ℤ (pos 100))
  returns_none e = gives (neg_ℤ (pos 100)) (none_of result (sym h.answer ∙ e))

  pub returns_refusal : (k : ℕ) → r ≡ Refused k → Returns c set out work out' work' (to_z w64 (of_z w64 (pos 0 -ℤ to_z w64 k)))
  returns_refusal k e = gives _ (negated_is k (refusal_small k e) ∙ (refusal_of result small k (sym h.answer ∙ e)).1)

-- choices by another name, and the number from its bits
pub returns_as : {c d : Choices} {set out work out' work' : List ℤ} {x : ℤ} → c ≡ d → SFits w64 x → Returns c set out work out' work' x → Returns d set out work out' work' (to_z w64 (of_z w64 x))
returns_as {c} {d} {set} {out} {work} {out'} {work'} {x} e f h = rw (to_z-of_z f) (subst (λ (b : Choices). Returns b set out work out' work' x) e h)
