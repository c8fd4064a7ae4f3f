-- Laws of the program's functions: the bytes written lie within the slice. Assumes nothing.
use mathlib.Core.Path.{◌≡◌, refl, sym, ap, ◌∙◌}
use mathlib.Core.List.{List}
use mathlib.Core.Option.{Option, none, some}
use Rattle.std.specs.Prelude.{Some, None}
use Rattle.std.specs.Prelude as code
use Prim.Native.Nat.{ℕ, ◌-◌, ◌≤◌}
use native.Mathlib.Omega.{arith}
use lib.IntN.{ℤ, pos}
use lib.ListN.{length, take, replicate, length-append, length-replicate}
use lib.Seq.{length-sets, length-take-le}
use Rattle.laws.specs.Slices.{zeros}
use Rattle.call.specs.Call.{Result, compiled, contradiction, refused}
use Rattle.input.specs.ReadText.{read_text}
use Rattle.input.specs.Input.{words_of, words_after}
use Rattle.input.specs.Room.{few_words}
use Rattle.sheetback.specs.Sheeted.{sheet_text, sheet_call, no_bytes, sheet_after}
use Rattle.sheets.specs.Contract.{sheeted_of, Sheets}
use Rattle.sheets.specs.declared.Sheeted.{Sheeted}
use Rattle.sheets.specs.declared.Sheeted.TheVariants as sheeted

differ : {X : Type 0} → ◌≡◌ {A = ℕ} 0 1 → X
differ z = absurd (omega arith)

pub sheet_inside : {set out work out' work' : List ℤ} {sheet sheet' : List ℕ} {r : Sheeted} → Sheets set out work out' work' sheet sheet' r → (n m : ℕ) → r ≡ sheeted.Compiled n m → m ≤ length sheet'
unfolding sheeted_of sheet_after
sheet_inside {set} {out} {work} {out'} {work'} {sheet} {sheet'} {r} s n m e = go (sheet_call set (length out) (length work) (length sheet)) refl
  where
    go : (x : Result) → sheet_call set (length out) (length work) (length sheet) ≡ x → m ≤ length sheet'
    go (compiled ws) q =
        let a : sheeted.Compiled n m ≡ sheeted.Compiled (length ws) (length (sheet_text set ws)) = sym e ∙ s.answer ∙ ap (sheeted_of set) q in
        let b : m ≡ length (sheet_text set ws) = cc in
        let c : length sheet' ≡ length (sheet_after set (compiled ws) (length sheet)) = ap length (s.bytes ∙ ap (λ (x : Result). sheet_after set x (length sheet)) q) in
        omega (arith, length-append (sheet_text set ws) (no_bytes (length sheet - length (sheet_text set ws))))
    go contradiction q = let a : sheeted.Compiled n m ≡ sheeted.Contradiction = sym e ∙ s.answer ∙ ap (sheeted_of set) q in differ (cc)
    go (refused k) q = let a : sheeted.Compiled n m ≡ sheeted.Refused k = sym e ∙ s.answer ∙ ap (sheeted_of set) q in differ (cc)

module _ (text : List ℕ) (words words' : List ℤ) (r : code.Option ℕ) (n : ℕ) (long : 32768 ≤ length words) (told : r ≡ words_of (read_text text)) (left : words' ≡ words_after (length words) (read_text text)) (count : r ≡ Some n) where
  counted : (o : Option (List ℤ)) → read_text text ≡ o → r ≡ words_of o → words' ≡ words_after (length words) o → n ≤ length words'
  unfolding words_of words_after
  counted none e a b = differ (let q : Some n ≡ None = sym count ∙ a in cc)
  counted (some ws) e a b =
      let q : Some n ≡ Some (length ws) = sym count ∙ a in
      let m : n ≡ length ws = cc in
      let f = few_words text ws e in
      let s : length words' ≡ length words = ap length b ∙ length-sets (zeros (length words)) 0 ws ∙ length-replicate (length words) (pos 0) in
      omega arith

  pub set_fits : n ≤ length words'
  set_fits = counted (read_text text) refl told left

  pub set_length : n ≡ length (take n words')
  set_length = sym (length-take-le n words' set_fits)

pub part_length : (out : List ℕ) (n : ℕ) → n ≤ length out → n ≡ length (take n out)
part_length out n h = sym (length-take-le n out h)

-- stated with a variable, since no comparison may write out a list of so many zeros
pub room_length : (n : ℕ) → n ≡ length {A = ℕ} (replicate n 0)
room_length n = sym (length-replicate n 0)
