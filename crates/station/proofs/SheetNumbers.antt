-- The answer with a sheet as a station's numbers: they fit, and they are the definition's; with what `compile_sheet` says of the answer. Assumes nothing.
use mathlib.Core.Path.{◌≡◌, refl, sym, ap, ◌∙◌}
use mathlib.Core.List.{List}
use Prim.Native.Nat.{ℕ, zero, suc, ◌≤◌}
use native.Mathlib.Omega.{arith}
use lib.IntN.{ℤ, pos, neg_ℤ, ◌-ℤ◌}
use lib.ListN.{length, set}
use mir.Syntax.{w64}
use mir.Val.{to_z, of_z}
use Rattle.laws.specs.Ints.{apart}
use Rattle.syntax.specs.Words.{max_answer_words}
use Rattle.call.specs.Call.{Result, compiled, contradiction, refused, returned}
use Rattle.sheetback.specs.Sheeted.{sheet_text, sheet_call}
use Rattle.sheets.specs.declared.Sheeted.{Sheeted}
use Rattle.sheets.specs.declared.Sheeted.TheVariants.{Compiled, Contradiction, Refused}
use Rattle.sheets.specs.Contract.{sheeted_of, Sheets}
use Rattle.station.specs.Sheets.{sheet_bytes, SheetReturns, SmallSheet, sheet_small}
use Rattle.station.proofs.Numbers.{number_is}
use Rattle.station.proofs.JoinNumbers.{minus_small_is}

module _ (words : List ℤ) where
  words_of : (x : Result) → SmallSheet x → (n m : ℕ) → sheeted_of words x ≡ Compiled n m → (n ≤ max_answer_words) × (pos n ≡ returned x) × (m ≡ sheet_bytes words x)
  unfolding sheeted_of returned sheet_bytes
  words_of (compiled ws) s n m e = let l : length ws ≡ n = cc in let k : length (sheet_text words ws) ≡ m = cc in (omega (arith, s), ap pos (sym l), sym k)
  words_of contradiction s n m e = apart (cc)
  words_of (refused k) s n m e = apart (cc)

  none_of : (x : Result) → sheeted_of words x ≡ Contradiction → (neg_ℤ (pos 100) ≡ returned x) × (0 ≡ sheet_bytes words x)
  unfolding sheeted_of returned sheet_bytes
  none_of (compiled ws) e = apart (cc)
  none_of contradiction e = (refl, refl)
  none_of (refused k) e = apart (cc)

  refusal_of : (x : Result) → SmallSheet x → (k : ℕ) → sheeted_of words x ≡ Refused k → (k ≤ 17) × (neg_ℤ (pos k) ≡ returned x) × (0 ≡ sheet_bytes words x)
  unfolding sheeted_of returned sheet_bytes
  refusal_of (compiled ws) s k e = apart (cc)
  refusal_of contradiction s k e = apart (cc)
  refusal_of (refused zero) s k e = absurd s
  refusal_of (refused (suc j)) s k e = let l : suc j ≡ k = cc in (omega (arith, s), ap (λ (m : ℕ). neg_ℤ (pos m)) (sym l), refl)

  -- the number tells the answer
  words_back : (x : Result) → SmallSheet x → (n : ℕ) → returned x ≡ pos n → sheeted_of words x ≡ Compiled n (sheet_bytes words x)
  unfolding sheeted_of returned sheet_bytes
  words_back (compiled ws) s n e = let l : length ws ≡ n = cc in rw l refl
  words_back contradiction s n e = apart (cc)
  words_back (refused zero) s n e = absurd s
  words_back (refused (suc k)) s n e = apart (cc)

  none_back : (x : Result) → SmallSheet x → returned x ≡ neg_ℤ (pos 100) → sheeted_of words x ≡ Contradiction
  unfolding sheeted_of returned
  none_back (compiled ws) s e = apart (cc)
  none_back contradiction s e = refl
  none_back (refused zero) s e = absurd s
  none_back (refused (suc k)) s e = let l : k ≡ 99 = cc in absurd (omega (arith, s))

module _ (words out work out' work' : List ℤ) (sheet sheet' bytes : List ℕ) (r : Sheeted) (h : Sheets words out work out' work' sheet sheet' r) where
  abbrev result : Result
  result = sheet_call words (length out) (length work) (length sheet)

  small : SmallSheet result
  small = sheet_small words (length out) (length work) (length sheet)

  gives : (x : ℤ) (m : ℕ) (bytes' : List ℕ) → x ≡ returned result → m ≡ sheet_bytes words result → bytes' ≡ set bytes 0 m → SheetReturns words out work out' work' sheet sheet' bytes bytes' x
  gives x m bytes' e f g =
      record {
        number = e;
        output = h.output;
        text = h.bytes;
        zeroed = h.zeroed;
        count = g ∙ ap (set bytes 0) f;
        exact = λ n k. h.exact n (sheet_bytes words result) (h.answer ∙ words_back words result small n (sym e ∙ k));
        unsatisfied = λ k. h.unsatisfied (h.answer ∙ none_back words result small (sym e ∙ k));
        back = λ n k. h.back n (sheet_bytes words result) (h.answer ∙ words_back words result small n (sym e ∙ k));
      }

  pub sheet_words_small : (n m : ℕ) → r ≡ Compiled n m → n ≤ max_answer_words
  sheet_words_small n m e = (words_of words result small n m (sym h.answer ∙ e)).0

  pub sheet_refusal_small : (k : ℕ) → r ≡ Refused k → k ≤ 17
  sheet_refusal_small k e = (refusal_of words result small k (sym h.answer ∙ e)).0

  pub returns_sheet : (n m : ℕ) → r ≡ Compiled n m → (bytes' : List ℕ) → bytes' ≡ set bytes 0 m → SheetReturns words out work out' work' sheet sheet' bytes bytes' (to_z w64 n)
  returns_sheet n m e bytes' g =
      let q = words_of words result small n m (sym h.answer ∙ e) in
      gives (to_z w64 n) m bytes' (number_is n q.0 ∙ q.1) q.2 g

  pub returns_no_sheet : r ≡ Contradiction → (bytes' : List ℕ) → bytes' ≡ set bytes 0 0 → SheetReturns words out work out' work' sheet sheet' bytes bytes' (neg_ℤ (pos 100))
  returns_no_sheet e bytes' g = let q = none_of words result (sym h.answer ∙ e) in gives (neg_ℤ (pos 100)) 0 bytes' q.0 q.1 g

  pub returns_refused_sheet : (k : ℕ) → r ≡ Refused k → (bytes' : List ℕ) → bytes' ≡ set bytes 0 0 → SheetReturns words out work out' work' sheet sheet' bytes bytes' (to_z w64 (of_z w64 (pos 0 -ℤ to_z w64 k)))
  returns_refused_sheet k e bytes' g =
      let q = refusal_of words result small k (sym h.answer ∙ e) in
      gives _ 0 bytes' (minus_small_is k q.0 ∙ q.1) q.2 g
