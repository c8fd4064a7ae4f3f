-- A law for each answer of the functions from text to verdict, over variables. Assumes nothing.
use mathlib.Core.Path.{◌≡◌, refl, sym, ap, ◌∙◌, subst}
use mathlib.Core.Bool.{Bool, true, false, cond}
use mathlib.Core.List.{List, [], ◌∷◌, ◌++◌}
use mathlib.Core.Option.{Option, none, some}
use Rattle.std.specs.Prelude.{Some, None}
use Rattle.std.specs.Prelude as code
use Prim.Native.Nat.{ℕ, zero, suc, ◌+◌, ◌-◌, ◌≤◌, ◌<◌}
use native.Mathlib.Omega.{arith}
use lib.IntN.{ℤ, pos}
use lib.Dec.{eqb}
use lib.ListN.{length, take, drop, get_or, length-drop, length-replicate}
use lib.Seq.{sets, sets-eq, length-sets, take-suc, take_all, take-append_seam, length-take-le}
use borrow.Author.Tests.{ne_eqb, eq-eqb, lt-ltb, le-ltb}
use Rattle.laws.specs.Ints.{apart}
use Rattle.laws.specs.Slices.{zeros}
use Rattle.decimal.specs.Bytes.{comma, line_feed}
use Rattle.decimal.specs.Decimal.{print_natural}
use Rattle.decimal.specs.Puts.{Puts, puts_then, puts_as, text_result}
use Rattle.input.specs.ReadText.{split, after, read_numbers, max_bytes, read_text}
use Rattle.input.specs.Input.{fill, filled, InWords, Filled, words_of, words_after}
use Rattle.input.specs.Room.{few_words}
use Rattle.evaluate.specs.Contract.{Checks}
use Rattle.evaluate.specs.declared.Checked.{Checked}
use Rattle.roster.specs.RosterText.{values_key, unread_line, print_numbered, print_checked, feed_step, last_feed, values_of, print_read, check_lines, check_text}
use Rattle.roster.specs.Contract.{Prints, Room, Tells, Told}

-- ---- printing

pub numbered_shown : {out a b out' start : List ℕ} {i j r : ℕ} (k : ℕ) → Puts out 0 start a i → Puts a i (print_natural k) b j → Puts b j (line_feed ∷ []) out' r → Puts out 0 (print_numbered start k) out' r
unfolding print_numbered
numbered_shown k x y z = puts_then x (puts_then y z)

pub checked_shown : {out out' : List ℕ} {r : ℕ} (a b : Checked) → a ≡ b → Puts out 0 (print_checked b) out' r → Puts out 0 (print_checked a) out' r
checked_shown a b e p = puts_as (print_checked a) (ap print_checked (sym e)) p

-- ---- `line_start`

feed_last : (xs : List ℕ) → last_feed (xs ++ (line_feed ∷ [])) ≡ suc (length xs)
unfolding last_feed
feed_last [] = refl
feed_last (x ∷ xs) = ap (λ n. feed_step n x) (feed_last xs)

other_last : (xs : List ℕ) (b : ℕ) → (b ≡ line_feed → ⊥) → last_feed (xs ++ (b ∷ [])) ≡ last_feed xs
unfolding last_feed
other_last [] b h = rw (ne_eqb b line_feed h) refl
other_last (x ∷ xs) b h = ap (λ n. feed_step n x) (other_last xs b h)

module _ (t : List ℕ) (i : ℕ) (z : i ≡ 0 → ⊥) (h : i ≤ length t) (e : last_feed (take i t) ≡ last_feed t) where
  parted : take i t ≡ take (i - 1) t ++ (get_or t (i - 1) 0 ∷ [])
  parted = let m : i ≡ suc (i - 1) = omega arith in ap (λ n. take n t) m ∙ take-suc t (i - 1) 0 (omega arith)

  pub start_found : get_or t (i - 1) 0 ≡ line_feed → i ≡ last_feed t
  start_found f =
      let q : take i t ≡ take (i - 1) t ++ (line_feed ∷ []) = rw f at parted in
      let s : length (take (i - 1) t) ≡ i - 1 = length-take-le (i - 1) t (omega arith) in
      sym (sym e ∙ ap last_feed q ∙ feed_last (take (i - 1) t) ∙ omega arith)

  pub start_next : (get_or t (i - 1) 0 ≡ line_feed → ⊥) → last_feed (take (i - 1) t) ≡ last_feed t
  start_next f = sym (sym e ∙ ap last_feed parted ∙ other_last (take (i - 1) t) (get_or t (i - 1) 0) f)

pub start_none : (t : List ℕ) (i : ℕ) → i ≡ 0 → last_feed (take i t) ≡ last_feed t → 0 ≡ last_feed t
unfolding last_feed
start_none t i z e = rw z at e

pub start_begin : (t : List ℕ) → last_feed (take (length t) t) ≡ last_feed t
start_begin t = ap last_feed (take_all (length t) t (omega arith))

-- ---- `read_values`

part_all : (n : ℕ) (l : List ℕ) → take (length l - n) (drop n l) ≡ drop n l
part_all n l = take_all (length l - n) (drop n l) (omega (arith, length-drop n l))

pub part_short : (n : ℕ) (l : List ℕ) → length l ≤ 65536 → length (take (length l - n) (drop n l)) ≤ 65536
part_short n l h = omega (arith, ap length (part_all n l), length-drop n l)

after_long : (ks bs r : List ℕ) → after ks bs ≡ some r → length ks ≤ length bs
unfolding after
after_long [] bs r h = omega arith
after_long (k ∷ ks) [] r h = apart (cc)
after_long (k ∷ ks) (b ∷ bs) r h = go (eqb b k) h (after_long ks bs r)
  where
    go : (t : Bool) → cond t (after ks bs) none ≡ some r → (after ks bs ≡ some r → length ks ≤ length bs) → length (k ∷ ks) ≤ length (b ∷ bs)
    go true e f = omega (arith, f e)
    go false e f = apart (cc)

module _ (line : List ℕ) (values : List ℤ) (t : Bool) (h : after values_key line ≡ cond t (some (drop 7 line)) none) where
  pub no_key : t ≡ false → Filled values 0 (values_of (after values_key line)) (length line + 1) values None
  unfolding values_of fill filled
  no_key f = let e : after values_key line ≡ none = h ∙ rw f refl in record { size = refl; words = rw e refl; few = tt }

  module _ (y : t ≡ true) where
    keyed : after values_key line ≡ some (drop 7 line)
    keyed = h ∙ rw y refl

    pub key_fits : 7 ≤ length line
    key_fits = after_long values_key line (drop 7 line) keyed

    pub no_values : length line ≡ 7 → Filled values 0 (values_of (after values_key line)) (length line + 1) values (Some 0)
    unfolding values_of fill filled
    no_values s = go (drop 7 line) refl (length-drop 7 line)
      where
        go : (r : List ℕ) → drop 7 line ≡ r → length (drop 7 line) ≡ length line - 7 → Filled values 0 (values_of (after values_key line)) (length line + 1) values (Some 0)
        go [] e l = record { size = refl; words = rw (keyed ∙ ap some e) refl; few = omega arith }
        go (b ∷ bs) e l = absurd (omega (arith, ap length e, l, s))

    pub some_values : (length line ≡ 7 → ⊥) → (values' : List ℤ) (r : code.Option ℕ) → Filled values 0 (read_numbers (split comma (take (length line - 7) (drop 7 line)))) (0 + length (take (length line - 7) (drop 7 line)) + 1) values' r → Filled values 0 (values_of (after values_key line)) (length line + 1) values' r
    some_values s values' r g =
        let f : Filled values 0 (read_numbers (split comma (drop 7 line))) (0 + length (drop 7 line) + 1) values' r = subst (λ (p : List ℕ). Filled values 0 (read_numbers (split comma p)) (0 + length p + 1) values' r) (part_all 7 line) g in
        record { size = f.size; words = ap (fill values 0) (same (drop 7 line) refl (length-drop 7 line)) ∙ f.words; few = most r f.few }
      where
        same : (q : List ℕ) → drop 7 line ≡ q → length (drop 7 line) ≡ length line - 7 → values_of (after values_key line) ≡ read_numbers (split comma (drop 7 line))
        same [] e l = absurd (omega (arith, ap length e, l, s, key_fits))
        same (b ∷ bs) e l = unfold values_of in rw (keyed, e) refl

        most : (r : code.Option ℕ) → InWords (0 + length (drop 7 line) + 1) r → InWords (length line + 1) r
        most (Some n) k = omega (arith, k, length-drop 7 line)
        most None k = tt

-- ---- `check_lines`

feed_inside : (t : List ℕ) → last_feed t ≤ length t
unfolding last_feed
feed_inside [] = omega arith
feed_inside (b ∷ bs) = go (last_feed bs) (feed_inside bs)
  where
    bit : (t : Bool) → cond t 1 0 ≤ suc (length bs)
    bit true = omega arith
    bit false = omega arith

    go : (n : ℕ) → n ≤ length bs → feed_step n b ≤ suc (length bs)
    go zero h = bit (eqb b line_feed)
    go (suc n) h = omega arith

pub start_inside : (t : List ℕ) (a : ℕ) → a ≡ last_feed t → a ≤ length t
start_inside t a e = omega (arith, e, feed_inside t)

zeros_length : (n : ℕ) → length (zeros n) ≡ n
zeros_length n = length-replicate n (pos 0)

take_sets : (l ws : List ℤ) → length ws ≤ length l → take (length ws) (sets l 0 ws) ≡ ws
take_sets l ws h = ap (take (length ws)) (sets-eq ws l 0 (omega arith)) ∙ take-append_seam ws (drop (0 + length ws) l)

-- the words of the set's text
module _ (text : List ℕ) (words words' : List ℤ) (r : code.Option ℕ) (long : 32768 ≤ length words) (told : r ≡ words_of (read_text text)) (left : words' ≡ words_after (length words) (read_text text)) where
  pub set_unread : r ≡ None → read_text text ≡ none
  set_unread u = go (read_text text) refl told
    where
      go : (o : Option (List ℤ)) → read_text text ≡ o → r ≡ words_of o → read_text text ≡ none
      go none e a = e
      go (some ws) e a = unfold words_of in apart (let z : None ≡ Some (length ws) = sym u ∙ a in cc)

  module _ (n : ℕ) (count : r ≡ Some n) where
    set_counted : (o : Option (List ℤ)) → read_text text ≡ o → r ≡ words_of o → words' ≡ words_after (length words) o → (n ≤ length words') × (read_text text ≡ some (take n words'))
    unfolding words_of words_after
    set_counted none e a b = apart (let q : Some n ≡ None = sym count ∙ a in cc)
    set_counted (some ws) e a b =
        let q : Some n ≡ Some (length ws) = sym count ∙ a in
        let m : n ≡ length ws = cc in
        let f = few_words text ws e in
        let s : length words' ≡ length words = ap length b ∙ length-sets (zeros (length words)) 0 ws ∙ zeros_length (length words) in
        (omega arith, e ∙ ap some (sym (rw (m, b) (take_sets (zeros (length words)) ws (omega (arith, zeros_length (length words)))))))

    pub set_fits : n ≤ length words'
    set_fits = (set_counted (read_text text) refl told left).0

    pub set_is : read_text text ≡ some (take n words')
    set_is = (set_counted (read_text text) refl told left).1

some_same : (x y : List ℤ × ℕ) → some x ≡ some y → x ≡ y
some_same x y e = cc

-- the values of the last line
module _ (line : List ℕ) (values values' : List ℤ) (r : code.Option ℕ) (short : length line ≤ 65536) (long : 65537 ≤ length values) (f : Filled values 0 (values_of (after values_key line)) (length line + 1) values' r) where
  pub values_unread : r ≡ None → values_of (after values_key line) ≡ none
  values_unread u = go (values_of (after values_key line)) refl f.words
    where
      go : (o : Option (List ℤ)) → values_of (after values_key line) ≡ o → fill values 0 o ≡ filled values' r → values_of (after values_key line) ≡ none
      go none e a = e
      go (some vs) e a = unfold fill filled in apart (let z = rw u at a in cc)

  module _ (m : ℕ) (count : r ≡ Some m) where
    values_counted : (o : Option (List ℤ)) → values_of (after values_key line) ≡ o → fill values 0 o ≡ filled values' r → (m ≤ length values') × (values_of (after values_key line) ≡ some (take m values'))
    unfolding fill filled
    values_counted none e a = apart (let z = rw count at a in cc)
    values_counted (some vs) e a =
        let x : List ℤ × ℕ = (sets values 0 vs, 0 + length vs) in
        let w' : List ℤ × ℕ = (values', m) in
        let z : some x ≡ some w' = rw count at a in
        let y : x ≡ w' = some_same x w' z in
        let k : 0 + length vs ≡ m = ap (λ (p : List ℤ × ℕ). p.1) y in
        let s : sets values 0 vs ≡ values' = ap (λ (p : List ℤ × ℕ). p.0) y in
        let w : InWords (length line + 1) (Some m) = rw count at f.few in
        let l : length values' ≡ length values = f.size in
        (omega (arith, w, l), e ∙ ap some (sym (let g : take (length vs) (sets values 0 vs) ≡ vs = take_sets values vs (omega (arith, w, k)) in let n : m ≡ length vs = omega (arith, k) in rw (n, sym s) g)))

    pub values_fit : m ≤ length values'
    values_fit = (values_counted (values_of (after values_key line)) refl f.words).0

    pub values_are : values_of (after values_key line) ≡ some (take m values')
    values_are = (values_counted (values_of (after values_key line)) refl f.words).1

pub part_length : {A : Type 0} (n : ℕ) (l : List A) → n ≤ length l → n ≡ length (take n l)
part_length n l h = sym (length-take-le n l h)

module _ (lines : List ℕ) (work : List ℤ) (out out' : List ℕ) (r a : ℕ) (start : a ≡ last_feed lines) (clean : work ≡ zeros (length work)) where
  pub tells_unread_set : read_text (take a lines) ≡ none → Puts out 0 unread_line out' r → Tells lines work work out out' r
  unfolding check_lines print_read
  tells_unread_set u p = record { told = puts_as (check_lines (length work) lines) (rw (sym start, u) refl) p; zeroed = clean }

  module _ (set : List ℤ) (s : read_text (take a lines) ≡ some set) where
    pub tells_unread_values : values_of (after values_key (take (length lines - a) (drop a lines))) ≡ none → Puts out 0 unread_line out' r → Tells lines work work out out' r
    unfolding check_lines print_read
    tells_unread_values u p = record { told = puts_as (check_lines (length work) lines) (rw (sym start, s, rw (part_all a lines) at u) refl) p; zeroed = clean }

    pub tells_checked : (values : List ℤ) → values_of (after values_key (take (length lines - a) (drop a lines))) ≡ some values → (work' : List ℤ) (c : Checked) → Checks set values work work' c → Puts out 0 (print_checked c) out' r → Tells lines work work' out out' r
    unfolding check_lines print_read
    tells_checked values v work' c h p = record { told = puts_as (check_lines (length work) lines) (rw (sym start, s, rw (part_all a lines) at v, h.answer) refl) p; zeroed = h.zeroed }

-- ---- `check_with_room`

clean_of : (work : List ℤ) (n : ℕ) → work ≡ zeros n → work ≡ zeros (length work)
clean_of work n e = e ∙ ap zeros (sym (ap length e ∙ zeros_length n))

module _ (text : List ℕ) (work work' : List ℤ) (out out' : List ℕ) (r : ℕ) where
  shown : (bs : List ℕ) → Puts out 0 bs out' r → Prints bs out out' r
  shown bs p =
      let t = text_result out bs out' r p in
      let s : length out' ≡ length out = p.size in
      let w : r ≤ length out' = omega (arith, t.0, s) in
      record { count = t.0; bytes = t.1; within = w; part = part_length r out' w }

  tells : (bs : List ℕ) → check_text (length work) text ≡ bs → Puts out 0 bs out' r → work' ≡ zeros (length work) → Told text work work' out out' r
  tells bs e p z = record { told = shown (check_text (length work) text) (puts_as (check_text (length work) text) (sym e) p); zeroed = z }

  module _ (z : work' ≡ zeros (length work)) (p : Puts out 0 unread_line out' r) where
    pub told_long : 65536 < length text → Told text work work' out out' r
    unfolding check_text
    told_long l = tells unread_line (rw (lt-ltb max_bytes (length text) l) refl) p z

    pub told_empty : length text ≡ 0 → Told text work work' out out' r
    unfolding check_text
    told_empty l = tells unread_line (go text l) p z
      where
        go : (t : List ℕ) → length t ≡ 0 → check_text (length work) t ≡ unread_line
        go [] e = refl
        go (b ∷ bs) e = absurd (omega arith)

    pub told_other : length text ≤ 65536 → (get_or text (length text - 1) 0 ≡ line_feed → ⊥) → Told text work work' out out' r
    unfolding check_text
    told_other l h = tells unread_line (rw (le-ltb max_bytes (length text) l, ne_eqb (get_or text (length text - 1) 0) line_feed h) refl) p z

  pub told_lines : (clean : List ℤ) → length clean ≡ length work → length text ≤ 65536 → get_or text (length text - 1) 0 ≡ line_feed → Tells (take (length text - 1) text) clean work' out out' r → Told text work work' out out' r
  unfolding check_text
  told_lines clean s l h t =
      tells (check_lines (length work) (take (length text - 1) text)) (rw (le-ltb max_bytes (length text) l, eq-eqb (get_or text (length text - 1) 0) line_feed h) refl)
      (rw s at t.told) (t.zeroed ∙ ap zeros s)

pub lines_room : (text : List ℕ) (words values work : List ℤ) (n : ℕ) → length text ≤ 65536 → (32768 ≤ length words) × (65537 ≤ length values) → work ≡ zeros n → Room (take (length text - 1) text) words values work
lines_room text words values work n l h z = record { short = omega (arith, l, length-take-le (length text - 1) text (omega arith)); set = h.0; roster = h.1; clean = clean_of work n z }
