-- A law for each answer of the functions from text to listing, over variables. Assumes nothing.
use mathlib.Core.Path.{◌≡◌, refl, sym, ap, ◌∙◌}
use mathlib.Core.Bool.{true}
use mathlib.Core.List.{List}
use mathlib.Core.Option.{Option, none, some}
use Rattle.std.specs.Prelude.{Some, None}
use Rattle.std.specs.Prelude as code
use Prim.Native.Nat.{ℕ, ◌+◌, ◌-◌, ◌≤◌, ◌<◌, min}
use native.Mathlib.Omega.{arith}
use lib.IntN.{ℤ, pos}
use lib.ListN.{length, take, drop, length-append, length-replicate}
use lib.Seq.{sets, sets-eq, length-sets, take-append_seam, length-take-le}
use mir.Syntax.{w64}
use mir.Val.{Fits}
use Rattle.laws.specs.Bools.{and_l}
use Rattle.laws.specs.Lists.{all, all_append}
use Rattle.laws.specs.Slices.{zeros}
use Rattle.call.specs.Call.{Result, compiled, contradiction, refused, unchosen, call, output_after}
use Rattle.input.specs.ReadText.{read_text}
use Rattle.input.specs.Input.{words_of, words_after}
use Rattle.input.specs.Room.{few_words}
use Rattle.lines.specs.Lines.{count_word}
use Rattle.text.specs.Listing.{print_answer}
use Rattle.text.specs.declared.Answer.TheVariants as said
use Rattle.readback.specs.Listed.{print_result, list_words, list_text}
use Rattle.readback.specs.Room.{Typed}
use Rattle.readback.proofs.RoomLaws.{listing_room}
use Rattle.decimal.specs.Widths.{fitting}
use Rattle.planner.specs.declared.Answer.{Answer}
use Rattle.planner.specs.declared.Answer.TheVariants as planned
use Rattle.planner.specs.Contract.{answer_of, Compiles}
use Rattle.listing.specs.Lists.{Answered, SomeAnswered, Bytes, Inside, Prints, output_left, work_left, Lists}

-- ---- the listing of an answer

differ : {X : Type 0} → ◌≡◌ {A = ℕ} 0 1 → X
differ z = absurd (omega arith)

zeros_length : (n : ℕ) → length (zeros n) ≡ n
zeros_length n = length-replicate n (pos 0)

-- the words written lie within the output
compiled_fits : (ws output : List ℤ) → output ≡ output_after (compiled ws) (length output) → length ws ≤ length output
unfolding output_after
compiled_fits ws output e =
    let z : ℕ = length output - length ws in
    omega (arith, ap length e, length-append ws (zeros z), zeros_length z)

compiled_words : (ws output : List ℤ) → output ≡ output_after (compiled ws) (length output) → take (length ws) output ≡ ws
unfolding output_after
compiled_words ws output e = ap (take (length ws)) e ∙ take-append_seam ws (zeros (length output - length ws))

pub answered_fits : (output : List ℤ) (answer : Answer) (n : ℕ) → SomeAnswered output answer → answer ≡ planned.Compiled n → n ≡ length (take n output)
unfolding answer_of
answered_fits output answer n s e = go s.it s.answered.told s.answered.left
  where
    go : (x : Result) → answer ≡ answer_of x → output ≡ output_after x (length output) → n ≡ length (take n output)
    go (compiled ws) a l =
        let q : planned.Compiled n ≡ planned.Compiled (length ws) = sym e ∙ a in
        let m : n ≡ length ws = cc in
        sym (length-take-le n output (let f = compiled_fits ws output l in omega arith))
    go contradiction a l = differ (cc)
    go (refused k) a l = differ (cc)

module _ (set output : List ℤ) (answer : Answer) (out out' : List ℕ) (r b i : ℕ) (bools : b ≡ count_word (drop 0 set)) (ints : i ≡ count_word (drop 1 set)) where
  pub prints_compiled : (n : ℕ) → answer ≡ planned.Compiled n → (r ≡ min (length (print_answer said.Compiled b i (take n output))) (length out)) × (out' ≡ sets out 0 (print_answer said.Compiled b i (take n output))) → Prints set output answer out out' r
  unfolding answer_of print_result
  prints_compiled n e h = record { prints = λ x a. go x a.told a.left; small = λ k q. differ (let z : planned.Compiled n ≡ planned.Refused k = sym e ∙ q in cc) }
    where
      go : (x : Result) → answer ≡ answer_of x → output ≡ output_after x (length output) → Bytes (print_result set x) out out' r
      go (compiled ws) a l =
          let q : planned.Compiled n ≡ planned.Compiled (length ws) = sym e ∙ a in
          let m : n ≡ length ws = cc in
          let t : take n output ≡ ws = rw m (compiled_words ws output l) in
          let p : print_answer said.Compiled b i (take n output) ≡ print_answer said.Compiled (count_word set) (count_word (drop 1 set)) ws = rw (bools, ints, t) refl in
          record { count = h.0 ∙ ap (λ (bs : List ℕ). min (length bs) (length out)) p; bytes = h.1 ∙ ap (λ (bs : List ℕ). sets out 0 bs) p }
      go contradiction a l = differ (cc)
      go (refused k) a l = differ (cc)

  -- of the other answers no words are shown
  module _ (ws : List ℤ) where
    pub prints_contradiction : answer ≡ planned.Contradiction → (r ≡ min (length (print_answer said.Contradiction b i ws)) (length out)) × (out' ≡ sets out 0 (print_answer said.Contradiction b i ws)) → Prints set output answer out out' r
    unfolding answer_of print_result print_answer
    prints_contradiction e h = record { prints = λ x a. go x a.told; small = λ k q. differ (let z : planned.Contradiction ≡ planned.Refused k = sym e ∙ q in cc) }
      where
        go : (x : Result) → answer ≡ answer_of x → Bytes (print_result set x) out out' r
        go (compiled ws) a = differ (cc)
        go contradiction a = record { count = h.0; bytes = h.1 }
        go (refused k) a = differ (cc)

    pub prints_refused : (k : ℕ) → Fits w64 k → answer ≡ planned.Refused k → (r ≡ min (length (print_answer (said.Refused k) b i ws)) (length out)) × (out' ≡ sets out 0 (print_answer (said.Refused k) b i ws)) → Prints set output answer out out' r
    unfolding answer_of print_result print_answer
    prints_refused k f e h = record { prints = λ x a. go x a.told; small = λ j q. let z : planned.Refused k ≡ planned.Refused j = sym e ∙ q in let m : k ≡ j = cc in let l = f.fits in omega arith }
      where
        go : (x : Result) → answer ≡ answer_of x → Bytes (print_result set x) out out' r
        go (compiled ws) a = differ (cc)
        go contradiction a = differ (cc)
        go (refused j) a =
            let q : planned.Refused k ≡ planned.Refused j = sym e ∙ a in
            let m : k ≡ j = cc in
            rw (← m) (record { count = h.0; bytes = h.1 })

-- ---- the words of the text

take_sets : (n : ℕ) (ws : List ℤ) → length ws ≤ n → take (length ws) (sets (zeros n) 0 ws) ≡ ws
take_sets n ws h =
    let l : 0 + length ws ≤ length (zeros n) = omega (arith, zeros_length n) in
    ap (take (length ws)) (sets-eq ws (zeros n) 0 l) ∙ take-append_seam ws (drop (0 + length ws) (zeros n))

module _ (text : List ℕ) (words words' : List ℤ) (r : code.Option ℕ) (n : ℕ) (long : 32768 ≤ length words) (told : r ≡ words_of (read_text text)) (left : words' ≡ words_after (length words) (read_text text)) (count : r ≡ Some n) where
  counted : (o : Option (List ℤ)) → read_text text ≡ o → r ≡ words_of o → words' ≡ words_after (length words) o → (n ≤ length words') × (read_text text ≡ some (take n words'))
  unfolding words_of words_after
  counted none e a b = differ (let q : Some n ≡ None = sym count ∙ a in cc)
  counted (some ws) e a b =
      let q : Some n ≡ Some (length ws) = sym count ∙ a in
      let m : n ≡ length ws = cc in
      let f = few_words text ws e in
      let s : length words' ≡ length words = ap length b ∙ length-sets (zeros (length words)) 0 ws ∙ zeros_length (length words) in
      (omega arith, e ∙ ap some (sym (rw (m, b) (take_sets (length words) ws (omega arith)))))

  pub set_fits : n ≤ length words'
  set_fits = (counted (read_text text) refl told left).0

  pub set_length : n ≡ length (take n words')
  set_length = sym (length-take-le n words' set_fits)

  pub set_is : read_text text ≡ some (take n words')
  set_is = (counted (read_text text) refl told left).1

-- ---- the whole

bytes_inside : (bs out out' : List ℕ) (r : ℕ) → r ≡ min (length bs) (length out) → out' ≡ sets out 0 bs → Inside out' r
bytes_inside bs out out' r c e =
    let s : length out' ≡ length out = ap length e ∙ length-sets out 0 bs in
    let w : r ≤ length out' = omega arith in
    record { within = w; part = sym (length-take-le r out' w) }

module _ (text : List ℕ) (output work : List ℤ) (out out' : List ℕ) (r : ℕ) where
  pub lists_unread : (q : code.Option ℕ) → q ≡ words_of (read_text text) → q ≡ None → (ws : List ℤ) → (r ≡ min (length (print_answer said.Unread 0 0 ws)) (length out)) × (out' ≡ sets out 0 (print_answer said.Unread 0 0 ws))
      → Lists text output work output work out out' r
  unfolding words_of print_answer list_text list_words output_left work_left
  lists_unread q told e ws h = go (read_text text) refl told
    where
      go : (o : Option (List ℤ)) → read_text text ≡ o → q ≡ words_of o → Lists text output work output work out out' r
      go none d a = record {
        listing = record { count = rw d h.0; bytes = rw d h.1 };
        inside = bytes_inside (print_answer said.Unread 0 0 ws) out out' r h.0 h.1;
        room = λ m. rw d (omega arith);
        answered = rw d refl;
        worked = rw d refl;
      }
      go (some ws) d a = differ (let z : None ≡ Some (length ws) = sym e ∙ a in cc)

  -- the answer's words lie within the output, and the refusal within usize
  typed : (x : Result) (output' : List ℤ) (answer : Answer) → output' ≡ output_after x (length output) → all fitting output' ≡ true → answer ≡ answer_of x → ((k : ℕ) → answer ≡ planned.Refused k → k < 18446744073709551616) → Typed x
  unfolding output_after answer_of
  typed (compiled ws) output' answer e f a s =
      let z : List ℤ = zeros (length output - length ws) in
      and_l (all fitting ws) (all fitting z) (sym (all_append fitting ws z) ∙ ap (all fitting) (sym e) ∙ f)
  typed contradiction output' answer e f a s = tt
  typed (refused k) output' answer e f a s = s k a

  module _ (set output' work' : List ℤ) (answer : Answer) (set-read : read_text text ≡ some set) (c : Compiles unchosen set output work output' work' answer) (same : length output' ≡ length output) where
    answered_left : output' ≡ output_after (call set (length output) (length work)) (length output')
    answered_left = c.output ∙ ap (output_after (call set (length output) (length work))) (sym same)

    told_answer : Answered (call set (length output) (length work)) output' answer
    told_answer = record { told = c.answer; left = answered_left }

    pub some_answer : SomeAnswered output' answer
    some_answer = record { it = call set (length output) (length work); answered = told_answer }

    pub lists_answer : all fitting output' ≡ true → Prints set output' answer out out' r → Lists text output work output' work' out out' r
    unfolding list_text list_words output_left work_left
    lists_answer f p =
        let b = p.prints (call set (length output) (length work)) told_answer in
        record {
          listing = record { count = rw set-read b.count; bytes = rw set-read b.bytes };
          inside = bytes_inside (print_result set (call set (length output) (length work))) out out' r b.count b.bytes;
          room = λ m. rw set-read (listing_room unchosen set (length output) (length work) m (typed (call set (length output) (length work)) output' answer c.output f c.answer p.small));
          answered = rw set-read c.output;
          worked = rw set-read c.zeroed;
        }
