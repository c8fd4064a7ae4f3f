-- A law for each answer of the functions that read lines, over variables. Assumes nothing.
use mathlib.Core.Path.{◌≡◌, refl, sym, ap, ◌∙◌, subst}
use mathlib.Core.Bool.{Bool, true, false, cond, not, ◌&&◌}
use mathlib.Core.List.{List, [], ◌∷◌}
use mathlib.Core.Option.{Option, none, some}
use Rattle.std.specs.Prelude.{Some, None}
use Rattle.std.specs.Prelude as code
use Prim.Native.Nat.{ℕ, suc, ◌+◌, ◌-◌, ◌≤◌, ◌<◌}
use native.Mathlib.Omega.{arith}
use lib.IntN.{ℤ}
use lib.Dec.{eqb, ltb}
use lib.ListN.{length, take, drop, set, length-append, length-take, length-drop, length-set, drop_of_length-le}
use lib.Seq.{drop-drop, sets, set_out, take_all}
use borrow.Author.Tests.{ltb-true, ltb-false, eq-eqb, ne_eqb, eqb-true, eqb-false}
use mir.Syntax.{w32}
use mir.Val.{SFits, of_z, to_z}
use mir.Facts.{to_z-of_z}
use Rattle.laws.specs.Writes.{sets_append}
use Rattle.decimal.specs.Bytes.{comma, line_feed}
use Rattle.decimal.specs.Decimal.{read_number}
use Rattle.input.specs.ReadText.{onto, split, after, join, single, read_numbers, Reader, one_number, count_line, lines}
use Rattle.decimal.specs.Numbers.{option_of}
use Rattle.std.specs.List.{position_or_len, position, starts_with}
use Rattle.std.specs.Cmp.Lexicographic.{pointwise}
use Rattle.std.specs.Bool.{◌==◌}
use Rattle.input.specs.Input.{fill, filled, Found, left_at, left_step, left_line, InWords, Filled, Stepped, Lined}

differ : {X : Type 0} → ◌≡◌ {A = ℕ} 0 1 → X
differ z = absurd (omega arith)

-- ---- finding a byte

split_at : (s : ℕ) (xs : List ℕ) → position_or_len (λ b. b == s) xs < length xs
    → split s xs ≡ take (position_or_len (λ b. b == s) xs) xs ∷ split s (drop (position_or_len (λ b. b == s) xs + 1) xs)
unfolding split
split_at s [] h = absurd (omega arith)
split_at s (x ∷ xs) h = go (eqb x s) h (λ q. split_at s xs q)
  where
    go : (t : Bool) → cond (not t) (1 + position_or_len (λ b. b == s) xs) 0 < suc (length xs)
        → (position_or_len (λ b. b == s) xs < length xs → split s xs ≡ take (position_or_len (λ b. b == s) xs) xs ∷ split s (drop (position_or_len (λ b. b == s) xs + 1) xs))
        → cond t ([] ∷ split s xs) (onto x (split s xs)) ≡ take (cond (not t) (1 + position_or_len (λ b. b == s) xs) 0) (x ∷ xs) ∷ split s (drop (cond (not t) (1 + position_or_len (λ b. b == s) xs) 0 + 1) (x ∷ xs))
    go true h f = refl
    go false h f =
        let n = position_or_len (λ b. b == s) xs in
        let e : 1 + n ≡ suc n = omega arith in
        let d : suc n + 1 ≡ suc (n + 1) = omega arith in
        rw (f (omega arith), e, d) refl

split_none : (s : ℕ) (xs : List ℕ) → length xs ≤ position_or_len (λ b. b == s) xs → split s xs ≡ xs ∷ []
unfolding split
split_none s [] h = refl
split_none s (x ∷ xs) h = go (eqb x s) h (λ q. split_none s xs q)
  where
    go : (t : Bool) → suc (length xs) ≤ cond (not t) (1 + position_or_len (λ b. b == s) xs) 0
        → (length xs ≤ position_or_len (λ b. b == s) xs → split s xs ≡ xs ∷ [])
        → cond t ([] ∷ split s xs) (onto x (split s xs)) ≡ (x ∷ xs) ∷ []
    go true h f = absurd (omega arith)
    go false h f = rw (f (omega arith)) refl

-- a part that is lent to the end
part_all : (n : ℕ) (l : List ℕ) → take (length l - n) (drop n l) ≡ drop n l
part_all n l = take_all (length l - n) (drop n l) (omega (arith, length-drop n l))

module _ (s : ℕ) (text : List ℕ) (at : ℕ) (h : at ≤ length text) where
  abbrev rest : List ℕ
  rest = drop at text

  abbrev first_place : ℕ
  first_place = position_or_len (λ b. b == s) rest

  found_at : first_place < length rest → Found s text at (at + first_place)
  found_at l =
      let n = length-drop at text in
      let e : at + first_place - at ≡ first_place = omega arith in
      let d : at + (first_place + 1) ≡ at + first_place + 1 = omega arith in
      record {
        low = omega arith;
        high = omega arith;
        more = λ q. rw e (split_at s rest l ∙ ap (λ r. take first_place rest ∷ split s r) (drop-drop (first_place + 1) at text ∙ ap (λ j. drop j text) d));
        last = λ q. absurd (omega arith);
      }

  found_none : length rest ≤ first_place → Found s text at (length text)
  found_none l =
      record {
        low = h;
        high = omega arith;
        more = λ q. absurd (omega arith);
        last = λ q. split_none s rest l ∙ rw (take_all (length text - at) rest (omega (arith, length-drop at text))) refl;
      }

  pub found_some : (r : code.Option ℕ) (i : ℕ) → r ≡ position (λ b. b == s) (take (length text - at) rest) → r ≡ Some i → Found s text at (at + i)
  found_some r i p q = go (ltb first_place (length rest)) refl (sym q ∙ p ∙ ap (position (λ b. b == s)) (part_all at text))
    where
      go : (t : Bool) → ltb first_place (length rest) ≡ t → Some i ≡ cond t (Some first_place) None → Found s text at (at + i)
      go true e q = let z : first_place ≡ i = cc in subst (λ (j : ℕ). Found s text at (at + j)) z (found_at (ltb-true first_place (length rest) e))
      go false e q = cc

  pub not_found : (r : code.Option ℕ) → r ≡ position (λ b. b == s) (take (length text - at) rest) → r ≡ None → Found s text at (length text)
  not_found r p q = go (ltb first_place (length rest)) refl (sym q ∙ p ∙ ap (position (λ b. b == s)) (part_all at text))
    where
      go : (t : Bool) → ltb first_place (length rest) ≡ t → None ≡ cond t (Some first_place) None → Found s text at (length text)
      go true e q = cc
      go false e q = found_none (ltb-false first_place (length rest) e)

-- ---- matching a key

eqb_comm : (a b : ℕ) → eqb a b ≡ eqb b a
eqb_comm a b = go (eqb a b) refl
  where
    go : (t : Bool) → eqb a b ≡ t → t ≡ eqb b a
    go true e = sym (eq-eqb b a (sym (eqb-true a b e)))
    go false e = sym (ne_eqb b a (λ q. eqb-false a b e (sym q)))

key_tested : (key line : List ℕ) → after key line ≡ cond (pointwise eqb key (take (length key) line)) (some (drop (length key) line)) none
unfolding after
key_tested [] line = refl
key_tested (k ∷ key) [] = refl
key_tested (k ∷ key) (b ∷ line) = rw (eqb_comm b k) (elim (eqb k b) as (λ t. cond t (after key line) none ≡ cond (t && pointwise eqb key (take (length key) line)) (some (drop (length key) line)) none) [ true ↦ key_tested key line | false ↦ refl ])

pub key_found : (key line : List ℕ) (b : Bool) → b ≡ starts_with eqb line key → after key line ≡ cond b (some (drop (length key) line)) none
key_found key line b e = rw e (key_tested key line)

-- a key that stands is no longer than its line
after_length : (key line r : List ℕ) → after key line ≡ some r → length key ≤ length line
unfolding after
after_length [] line r h = omega arith
after_length (k ∷ key) [] r h = differ (cc)
after_length (k ∷ key) (b ∷ line) r h = go (eqb b k) h (λ q. after_length key line r q)
  where
    go : (t : Bool) → cond t (after key line) none ≡ some r → (after key line ≡ some r → length key ≤ length line) → length (k ∷ key) ≤ length (b ∷ line)
    go true q f = let l = f q in omega arith
    go false q f = differ (cc)

after_empty : (key : List ℕ) → 0 < length key → after key [] ≡ none
unfolding after
after_empty [] h = absurd (omega arith)
after_empty (k ∷ key) h = refl

-- ---- storing one number

pub stored : (out : List ℤ) (k : ℕ) (w : ℤ) → SFits w32 w → Filled out k (some (w ∷ [])) (k + 1) (set out k (to_z w32 (of_z w32 w))) (Some (k + 1))
unfolding fill filled
stored out k w f = record { size = length-set out k _; words = rw (to_z-of_z f) refl; few = omega arith }

pub stored_past : (out : List ℤ) (k : ℕ) (w : ℤ) → length out ≤ k → Filled out k (some (w ∷ [])) (k + 1) out (Some (k + 1))
unfolding fill filled
stored_past out k w h = record { size = refl; words = rw (set_out out k w h) refl; few = omega arith }

-- ---- one after another

fill_next : (out : List ℤ) (k : ℕ) (a b : Option (List ℤ)) (out' : List ℤ) (m : ℕ) → fill out k a ≡ some (out', m) → fill out k (join a b) ≡ fill out' m b
unfolding fill
fill_next out k none b out' m h = differ (cc)
fill_next out k (some xs) none out' m h = refl
fill_next out k (some xs) (some ys) out' m h =
    let p : ◌≡◌ {A = List ℤ × ℕ} (sets out k xs, k + length xs) (out', m) = cc in
    let e : sets out k xs ≡ out' = ap (λ (q : List ℤ × ℕ). q.0) p in
    let f : k + length xs ≡ m = ap (λ (q : List ℤ × ℕ). q.1) p in
    rw (← e, ← f, sets_append out k xs ys, length-append xs ys) (ap (λ n. some (sets (sets out k xs) (k + length xs) ys, n)) (omega arith))

fill_stop : (out : List ℤ) (k : ℕ) (a b : Option (List ℤ)) → fill out k a ≡ none → fill out k (join a b) ≡ none
unfolding fill
fill_stop out k none b h = refl
fill_stop out k (some xs) b h = differ (cc)

fill_ended : (out : List ℤ) (k : ℕ) (a : Option (List ℤ)) → fill out k (join a none) ≡ none
unfolding fill
fill_ended out k none = refl
fill_ended out k (some xs) = refl

-- ---- numbers parted by commas

module _ (part : List ℕ) (i e : ℕ) (f : Found comma part i e) (out : List ℤ) (n : ℕ) where
  abbrev one : Option (List ℤ)
  one = single (read_number (take (e - i) (drop i part)))

  numbers_more : (out' : List ℤ) (m : ℕ) → e < length part → fill out n one ≡ some (out', m)
      → fill out n (read_numbers (split comma (drop i part))) ≡ fill out' m (read_numbers (split comma (drop (e + 1) part)))
  unfolding read_numbers
  numbers_more out' m l h = rw (f.more l) (fill_next out n one (read_numbers (split comma (drop (e + 1) part))) out' m h)

  numbers_last : (out' : List ℤ) (m : ℕ) → e ≡ length part → fill out n one ≡ some (out', m) → fill out n (read_numbers (split comma (drop i part))) ≡ some (out', m)
  unfolding read_numbers fill
  numbers_last out' m l h = rw (f.last l) (fill_next out n one (some []) out' m h ∙ ap (λ j. some (out', j)) (omega arith))

  numbers_stop : fill out n one ≡ none → fill out n (read_numbers (split comma (drop i part))) ≡ none
  unfolding read_numbers
  numbers_stop h = go (ltb e (length part)) refl
    where
      go : (t : Bool) → ltb e (length part) ≡ t → fill out n (read_numbers (split comma (drop i part))) ≡ none
      go true q = rw (f.more (ltb-true e (length part) q)) (fill_stop out n one (read_numbers (split comma (drop (e + 1) part))) h)
      go false q = rw (f.last (let l = ltb-false e (length part) q in let k = f.high in omega arith)) (fill_stop out n one (some []) h)

-- ---- lines

module _ (text : List ℕ) (at e : ℕ) (f : Found line_feed text at e) (key : List ℕ) (out : List ℤ) (k : ℕ) where
  abbrev first : List ℕ
  first = take (e - at) (drop at text)

  abbrev others : List (List ℕ)
  others = split line_feed (drop (e + 1) text)

  pub count_last : e ≡ length text → Stepped (count_line key) text out at k out None
  unfolding left_at left_step count_line
  count_last l = record { inside = tt; size = refl; left = λ next z. rw (f.last l, z) (fill_ended out k (one_number (after key first))) }

  module _ (l : e < length text) where
    count_other : after key first ≡ none → Stepped (count_line key) text out at k out None
    unfolding left_at left_step count_line fill
    count_other h = record { inside = tt; size = refl; left = λ next z. rw (f.more l, h) refl }

    module _ (r : List ℕ) (h : after key first ≡ some r) (out' : List ℤ) (same : length out' ≡ length out) where
      count_stop : fill out k (single (read_number r)) ≡ none → Stepped (count_line key) text out at k out' None
      unfolding left_at left_step count_line
      count_stop q = record { inside = tt; size = same; left = λ next z. rw (f.more l, h) (fill_stop out k (single (read_number r)) (next others) q) }

      count_next : (m : ℕ) → fill out k (single (read_number r)) ≡ some (out', m) → m ≤ e + 1 → Stepped (count_line key) text out at k out' (Some (e + 1, m))
      unfolding left_at left_step count_line
      count_next m q b = record { inside = (omega arith, b); size = same; left = λ next z. rw (f.more l, h) (fill_next out k (single (read_number r)) (next others) out' m q) }

      line_stop : fill out k (read_numbers (split comma r)) ≡ none → Lined key text out at k out' None
      unfolding left_at left_line lines
      line_stop q = record { inside = tt; size = same; left = λ next z. rw (f.more l, h) (fill_stop out k (read_numbers (split comma r)) (lines key next others) q) }

      line_next : (m : ℕ) → fill out k (read_numbers (split comma r)) ≡ some (out', m) → m ≤ e + 1 → Lined key text out at k out' (Some (Some (e + 1, m)))
      unfolding left_at left_line lines
      line_next m q b = record { inside = (let j = f.low in omega arith, (omega arith, b)); size = same; left = λ next z. rw (f.more l, h) (fill_next out k (read_numbers (split comma r)) (lines key next others) out' m q) }

  line_last : (r : List ℕ) → e ≡ length text → after key first ≡ some r → Lined key text out at k out None
  unfolding left_at left_line lines
  line_last r l h = record { inside = tt; size = refl; left = λ next z. rw (f.last l, h, z) (fill_ended out k (read_numbers (split comma r))) }

  line_other : after key first ≡ none → Lined key text out at k out (Some None)
  unfolding left_at left_line lines
  line_other h = record { inside = tt; size = refl; left = λ next z. go next (ltb e (length text)) refl }
    where
      go : (next : Reader) (t : Bool) → ltb e (length text) ≡ t → fill out k (lines key next (split line_feed (drop at text))) ≡ fill out k (next (split line_feed (drop at text)))
      go next true q = rw (f.more (ltb-true e (length text) q), h) refl
      go next false q = rw (f.last (let l = ltb-false e (length text) q in let j = f.high in omega arith), h) refl

-- every line with the key was read: the text is at its end
pub lines_end : (text key : List ℕ) (next : Reader) (out : List ℤ) (i n : ℕ) → 0 < length key → length text ≤ i → left_at (lines key next) text out i n ≡ left_at next text out i n
unfolding left_at lines split
lines_end text key next out i n h l = rw (drop_of_length-le text l, after_empty key h) refl

-- ---- readers one after another

module _ (text : List ℕ) (out mid : List ℤ) (at k : ℕ) (f : Reader → Reader) where
  pub step_stop : (g : Reader → Reader) → ((next : Reader) → next [] ≡ none → g next [] ≡ none) → Stepped f text out at k mid None → Stepped (λ next. f (g next)) text out at k mid None
  unfolding left_step
  step_stop g h s = record { inside = tt; size = s.size; left = λ next z. s.left (g next) (h next z) }

  pub step_then : (g : Reader → Reader) (a m : ℕ) (out' : List ℤ) (r : code.Option (ℕ × ℕ)) → ((next : Reader) → next [] ≡ none → g next [] ≡ none) → Stepped f text out at k mid (Some (a, m)) → Stepped g text mid a m out' r
      → Stepped (λ next. f (g next)) text out at k out' r
  unfolding left_step
  step_then g a m out' r h s t = record { inside = t.inside; size = t.size ∙ s.size; left = λ next z. s.left (g next) (h next z) ∙ t.left next z }

-- ---- the code's answers

few_words : (most : ℕ) (r : code.Option ℕ) (m : ℕ) → InWords most r → r ≡ Some m → m ≤ most
few_words most r m h e = subst (λ (s : code.Option ℕ). InWords most s) e h

module _ (out : List ℤ) (n : ℕ) (p : List ℕ) where
  one_unread : None ≡ option_of (read_number p) → fill out n (single (read_number p)) ≡ none
  unfolding fill
  one_unread h = elim (read_number p) as (λ o. None ≡ option_of o → fill out n (single o) ≡ none) [ none ↦ λ e. refl | some z ↦ λ e. cc ] h

  one_count : (w : ℤ) (out' : List ℤ) (m : ℕ) → Some w ≡ option_of (read_number p) → Filled out n (some (w ∷ [])) (n + 1) out' (Some m) → fill out n (single (read_number p)) ≡ some (out', m)
  unfolding filled
  one_count w out' m h s = elim (read_number p) as (λ o. Some w ≡ option_of o → fill out n (single o) ≡ some (out', m)) [ none ↦ λ e. cc | some z ↦ λ e. let q : z ≡ w = cc in ap (λ v. fill out n (some (v ∷ []))) q ∙ s.words ] h

-- numbers parted by commas, after the number from i to e
module _ (part : List ℕ) (out₀ : List ℤ) (k i e : ℕ) (out : List ℤ) (n : ℕ) (f : Found comma part i e) (size : length out ≡ length out₀)
    (inv : fill out n (read_numbers (split comma (drop i part))) ≡ fill out₀ k (read_numbers (split comma part))) where
  pub numbers_unread : None ≡ option_of (read_number (take (e - i) (drop i part))) → Filled out₀ k (read_numbers (split comma part)) (k + length part + 1) out None
  unfolding filled
  numbers_unread u = record { size = size; words = sym inv ∙ numbers_stop part i e f out n (one_unread out n _ u); few = tt }

  module _ (b : n ≤ k + i) (w : ℤ) (out' : List ℤ) (m : ℕ) (u : Some w ≡ option_of (read_number (take (e - i) (drop i part)))) (s : Filled out n (some (w ∷ [])) (n + 1) out' (Some m)) where
    pub numbers_count : e ≡ length part → Filled out₀ k (read_numbers (split comma part)) (k + length part + 1) out' (Some m)
    unfolding filled
    numbers_count l = record {
      size = s.size ∙ size;
      words = sym inv ∙ numbers_last part i e f out n out' m l (one_count out n _ w out' m u s);
      few = let j = s.few in let g = f.low in omega arith;
    }

    pub numbers_again : (e ≡ length part → ⊥) → (e + 1 ≤ length part) × (m ≤ k + (e + 1)) × (length out' ≡ length out₀) × (fill out' m (read_numbers (split comma (drop (e + 1) part))) ≡ fill out₀ k (read_numbers (split comma part)))
    numbers_again l =
        let j = s.few in
        let g = f.low in
        let h = f.high in
        let o : e < length part = omega arith in
        (omega arith, omega arith, s.size ∙ size, sym (numbers_more part i e f out n out' m o (one_count out n _ w out' m u s)) ∙ inv)

pub key_fits : (key line : List ℕ) (b : Bool) → after key line ≡ cond b (some (drop (length key) line)) none → b ≡ true → length key ≤ length line
key_fits key line b h e = after_length key line (drop (length key) line) (h ∙ rw e refl)

module _ (text : List ℕ) (at e : ℕ) (f : Found line_feed text at e) (key : List ℕ) (out : List ℤ) (k : ℕ) (b : Bool)
    (h : after key (take (e - at) (drop at text)) ≡ cond b (some (drop (length key) (take (e - at) (drop at text)))) none) where
  abbrev whole_line : List ℕ
  whole_line = take (e - at) (drop at text)

  abbrev numbers_part : List ℕ
  numbers_part = drop (length key) whole_line

  abbrev lent : List ℕ
  lent = take (length whole_line - length key) numbers_part

  same : lent ≡ numbers_part
  same = part_all (length key) whole_line

  pub line_not : b ≡ false → Lined key text out at k out (Some None)
  line_not t = line_other text at e f key out k (h ∙ rw t refl)

  pub line_open : b ≡ true → e ≡ length text → Lined key text out at k out None
  line_open t l = line_last text at e f key out k numbers_part l (h ∙ rw t refl)

  module _ (l : e ≡ length text → ⊥) where
    abbrev closed : e < length text
    closed = let g = f.high in omega arith

    pub count_not : b ≡ false → Stepped (count_line key) text out at k out None
    count_not t = count_other text at e f key out k closed (h ∙ rw t refl)

    module _ (t : b ≡ true) where
      pub count_unread : None ≡ option_of (read_number lent) → Stepped (count_line key) text out at k out None
      count_unread u = count_stop text at e f key out k closed numbers_part (h ∙ rw t refl) out refl (one_unread out k numbers_part (u ∙ ap (λ p. option_of (read_number p)) same))

      pub count_done : (w : ℤ) → Some w ≡ option_of (read_number lent) → (out' : List ℤ) (m : ℕ) → Filled out k (some (w ∷ [])) (k + 1) out' (Some m) → k ≤ at → Stepped (count_line key) text out at k out' (Some (e + 1, m))
      count_done w u out' m s j = count_next text at e f key out k closed numbers_part (h ∙ rw t refl) out' s.size m (one_count out k numbers_part w out' m (u ∙ ap (λ p. option_of (read_number p)) same) s) (let g = s.few in let v = f.low in omega arith)

    module _ (t : b ≡ true) (out' : List ℤ) (r : code.Option ℕ) where
      module _ (lent-read : Filled out k (read_numbers (split comma lent)) (k + length lent + 1) out' r) where
        s : Filled out k (read_numbers (split comma numbers_part)) (k + length numbers_part + 1) out' r
        s = subst (λ (p : List ℕ). Filled out k (read_numbers (split comma p)) (k + length p + 1) out' r) same lent-read

        pub line_unread : r ≡ None → Lined key text out at k out' None
        unfolding filled
        line_unread u = line_stop text at e f key out k closed numbers_part (h ∙ rw t refl) out' s.size (s.words ∙ ap (filled out') u)

        pub line_done : (m : ℕ) → r ≡ Some m → k ≤ at → Lined key text out at k out' (Some (Some (e + 1, m)))
        unfolding filled
        line_done m u j = line_next text at e f key out k closed numbers_part (h ∙ rw t refl) out' s.size m (s.words ∙ ap (filled out') u)
            (let g = few_words (k + length numbers_part + 1) r m s.few u in
            let v = f.low in
            omega (arith, length-drop (length key) (take (e - at) (drop at text)), length-take (e - at) (drop at text), length-drop at text))
