-- A law for each answer of the functions that place comparisons, over variables. Assumes nothing.
use mathlib.Core.Path.{◌≡◌, refl, sym, ap, ◌∙◌, subst}
use mathlib.Core.Bool.{Bool, true, false}
use mathlib.Core.List.{List, [], ◌∷◌, ◌++◌}
use Prim.Native.Nat.{ℕ, zero, suc, ◌+◌, ◌-◌, ◌*◌, ◌≤◌, ◌<◌}
use native.Mathlib.Omega.{arith}
use lib.IntN.{ℤ}
use lib.ListN.{length, take, drop, length-append, length-take, length-drop, drop_of_length-le}
use lib.Seq.{sets}
use borrow.Author.Tests.{leb-true, leb-false}
use lib.Dec.{leb}
use Rattle.laws.specs.Bools.{and_r}
use Rattle.laws.specs.Lists.{all, all_take, all_drop, flat}
use Rattle.syntax.specs.Words.{max_answer_words}
use Rattle.decimal.specs.Bytes.{comma, colon}
use Rattle.decimal.specs.Decimal.{print_number}
use Rattle.decimal.specs.Widths.{fitting, one_short}
use Rattle.lines.specs.Lines.{count_word, print_more, print_numbers, times, print_comparison, print_comparisons}
use Rattle.lines.specs.Output.{Stops}
use Rattle.page.specs.Sheet.{Item, pair_parts, in_front, comparison_item, comparison_items, put, place_part, place_parts, place_item, place_items}
use Rattle.page.specs.Writes.{Wrote, Line, Moves, Shows, Begins, head_text}
use Rattle.page.specs.declared.Place.{Place}
use Rattle.page.proofs.Bytes.{wrote_then}
use Rattle.page.proofs.Pages.{place, moves_none, moves_then, moves_as, on_as, item_moves, part_moves}
use Rattle.page.specs.Placing.{put_put, part_fits, flat_front, flat_pairs}

-- ---- words within i32

fit_part : (ws : List ℤ) (i n : ℕ) → all fitting ws ≡ true → all fitting (take n (drop i ws)) ≡ true
fit_part ws i n h = all_take fitting n (drop i ws) (all_drop fitting i ws h)

-- ---- operator and constant

head_length : (o c : List ℤ) → length (head_text o c) ≡ length (print_numbers o) + 1 + (length (print_numbers c) + 1)
unfolding head_text
head_length o c = omega (arith, length-append (print_numbers o) (colon ∷ (print_numbers c ++ (colon ∷ []))), length-append (print_numbers c) (colon ∷ []))

pub head_written : {out m₁ m₂ m₃ out' : List ℕ} {at a b : ℕ} (o c : List ℤ) → Wrote out at (print_numbers o) m₁ a → m₂ ≡ sets m₁ a (58 ∷ []) → Wrote m₂ (a + 1) (print_numbers c) m₃ b → out' ≡ sets m₃ b (58 ∷ []) → Wrote out at (head_text o c) out' (b + 1)
unfolding head_text
head_written {out} {m₁} {m₂} {m₃} {out'} {at} {a} {b} o c x e y f =
    let u : Wrote m₁ a (58 ∷ []) m₂ (a + 1) = record { bytes = e; after = refl } in
    let v : Wrote m₃ b (58 ∷ []) out' (b + 1) = record { bytes = f; after = refl } in
    wrote_then x (wrote_then u (wrote_then y v))

pub comparison_measured : (o c ts : List ℤ) (a b n : ℕ) → length o ≤ 1 → length c ≤ 1 → length ts ≤ max_answer_words → a ≡ length (print_numbers o) → a ≤ 12 * length o → b ≡ length (print_numbers c) → b ≤ 12 * length c → n ≡ length (print_numbers ts) → n ≤ 12 * length ts
    → (a + b + 2 + n ≡ length (head_text o c) + length (print_numbers ts)) × (length (head_text o c) ≤ 26) × (a + b + 2 + n ≤ 9223372036854775807)
comparison_measured o c ts a b n ho hc ht e f g h i j = let l = head_length o c in (omega arith, omega arith, omega arith)

-- ---- a comparison by its parts

first : Item → List ℕ
first [] = []
first (p ∷ ps) = p

first_short : (zs : List ℤ) → all fitting zs ≡ true → length (first (pair_parts zs)) ≤ 25
unfolding first pair_parts print_numbers print_more
first_short [] h = omega arith
first_short (v ∷ []) h = omega (arith, one_short v [] h, length-append (print_number v) [])
first_short (v ∷ a ∷ []) h = omega (arith, one_short v (a ∷ []) h, one_short a [] (and_r (fitting v) _ h), length-append (print_number v) (comma ∷ (print_number a ++ [])), length-append (print_number a) [])
first_short (v ∷ a ∷ w ∷ ws) h =
    omega (arith, one_short v (a ∷ w ∷ ws) h, one_short a (w ∷ ws) (and_r (fitting v) _ h), length-append (print_number v) (comma ∷ (print_number a ++ [])), length-append (print_number a) [], length-append (print_number v ++ (comma ∷ (print_number a ++ []))) (comma ∷ []))

first_flat : (ps : Item) → length (first ps) ≤ length (flat ps)
unfolding first
first_flat [] = omega arith
first_flat (p ∷ ps) = omega (arith, length-append p (flat ps))

-- the head on its line, then the parts
front_moves : {out mid m₂ out' : List ℕ} {p q r : Place} {n w a : ℕ} (h : List ℕ) (ps : Item) → Line p → w ≡ length (flat (in_front h ps)) → Begins w out p mid q → q.at + length h + length (first ps) ≤ q.line + 80
    → Wrote mid q.at h m₂ a → Moves (place_parts ps) n m₂ (place q.line a false) out' r → Moves (place_item (in_front h ps)) (1 + n) out p out' r
unfolding in_front place_parts first
front_moves {q = q} h [] l e b k w m = item_moves h [] l e b (moves_as (λ x. refl) (omega arith) (moves_then (part_moves h b.moves.line (omega arith) w) m))
front_moves {mid = mid} {m₂ = m₂} {out' = out'} {q = q} {r = r} {n = n} {a = a} h (t ∷ ts) l e b k w m =
    let x : Moves (λ P. place_parts (t ∷ ts) (place_part h P)) (0 + n) mid q out' r = moves_then (part_moves h b.moves.line (omega arith) w) m in
    item_moves (h ++ t) ts l e b (record {
      line = x.line;
      few = let f = x.few in omega arith;
      size = x.size;
      page = λ out₀ base P o.
          let c = o.column in
          let u : place_part h P ≡ put h P = part_fits h P (omega arith) in
          let d : length (put h P).line ≡ length P.line + length h = unfold put in (length-append P.line h) in
          let v : place_part t (put h P) ≡ put t (put h P) = part_fits t (put h P) (omega arith) in
          let z : place_part (h ++ t) P ≡ put (h ++ t) P = part_fits (h ++ t) P (omega (arith, length-append h t)) in
          on_as (ap (place_parts ts) (ap (place_part t) u ∙ v ∙ put_put h t P ∙ sym z)) (x.page out₀ base P o);
    })

pub terms_moves : {out mid m₂ out' : List ℕ} {p q r : Place} {w a : ℕ} (h : List ℕ) (zs : List ℤ) → Line p → all fitting zs ≡ true → w ≡ length h + length (print_numbers zs) → length h ≤ 26 → Begins w out p mid q
    → Wrote mid q.at h m₂ a → Moves (place_parts (pair_parts zs)) (length zs) m₂ (place q.line a false) out' r → Moves (place_item (in_front h (pair_parts zs))) (1 + length zs) out p out' r
terms_moves {q = q} {w = w} h zs l f e s b x m =
    let n : length (flat (in_front h (pair_parts zs))) ≡ length h + length (print_numbers zs) = ap length (flat_front h (pair_parts zs) ∙ ap (λ (t : List ℕ). h ++ t) (flat_pairs zs)) ∙ length-append h (print_numbers zs) in
    let g : length (first (pair_parts zs)) ≤ length (print_numbers zs) = subst (λ (t : List ℕ). length (first (pair_parts zs)) ≤ length t) (flat_pairs zs) (first_flat (pair_parts zs)) in
    front_moves h (pair_parts zs) l (e ∙ sym n) b (room (leb w 70) refl g) x m
  where
    room : (t : Bool) → leb w 70 ≡ t → length (first (pair_parts zs)) ≤ length (print_numbers zs) → q.at + length h + length (first (pair_parts zs)) ≤ q.line + 80
    room true k g = let y = b.fits (leb-true w 70 k) in omega arith
    room false k g = let y = b.start (leb-false w 70 k) in omega (arith, first_short zs f)

-- a line that has only its head
pub head_line : {out mid m₂ : List ℕ} {p q : Place} {w a : ℕ} (h : List ℕ) (n : ℕ) → w ≡ length h + n → length h ≤ 26 → Begins w out p mid q → Wrote mid q.at h m₂ a → Line (place q.line a false)
head_line {q = q} {w = w} {a = a} h n e s b x = go (leb w 70) refl
  where
    go : (t : Bool) → leb w 70 ≡ t → Line (place q.line a false)
    go true k = (part_moves h b.moves.line (let y = b.fits (leb-true w 70 k) in omega arith) x).line
    go false k = (part_moves h b.moves.line (let y = b.start (leb-false w 70 k) in omega arith) x).line

-- ---- a comparison's words

pub stop_short : (ws : List ℤ) (from n r : ℕ) → Stops ws from n r → (length (take (r - from) (drop from ws)) ≤ n) × (length (take (r - from) (drop from ws)) ≤ length ws) × (length (take (r - from) (drop from ws)) ≡ r - from)
stop_short ws from n r s =
    let e : length (take (r - from) (drop from ws)) ≡ length (take n (drop from ws)) = ap length s.part in
    let k = s.size in
    let l = s.low in
    let h = s.high in
    (omega (arith, length-take n (drop from ws)), omega (arith, length-take n (drop from ws), length-drop from ws), omega arith)

pub stop_one : (ws : List ℤ) (from r : ℕ) → from < length ws → Stops ws from 1 r → r ≡ from + 1
stop_one ws from r h s = omega (arith, s.size, length-take 1 (drop from ws), length-drop from ws)

module _ (ws : List ℤ) (from a b n c e : ℕ) (fit : all fitting ws ≡ true) (few : length ws ≤ max_answer_words) (here : from < length ws) (s₁ : Stops ws from 1 a) (s₂ : Stops ws a 1 b) (m : n ≡ count_word (drop b ws)) (s₃ : Stops ws b 1 c) (s₄ : Stops ws c (n + n) e) where
  pub terms_fit : (length (take (e - c) (drop c ws)) ≤ max_answer_words) × (length (take (a - from) (drop from ws)) ≤ 1) × (length (take (b - a) (drop a ws)) ≤ 1) × (all fitting (take (e - c) (drop c ws)) ≡ true)
  terms_fit = (omega (arith, (stop_short ws c (n + n) e s₄).1), (stop_short ws from 1 a s₁).0, (stop_short ws a 1 b s₂).0, fit_part ws c (e - c) fit)

  rest_a : drop a ws ≡ drop 1 (drop from ws)
  rest_a = s₁.rest

  rest_b : drop b ws ≡ drop 1 (drop 1 (drop from ws))
  rest_b = s₂.rest ∙ ap (drop 1) rest_a

  rest_c : drop c ws ≡ drop 1 (drop 1 (drop 1 (drop from ws)))
  rest_c = s₃.rest ∙ ap (drop 1) rest_b

  count_is : n ≡ count_word (drop 1 (drop 1 (drop from ws)))
  count_is = m ∙ ap count_word rest_b

  item_is : in_front (head_text (take (a - from) (drop from ws)) (take (b - a) (drop a ws))) (pair_parts (take (e - c) (drop c ws))) ≡ comparison_item (drop from ws)
  unfolding head_text comparison_item
  item_is = rw (s₁.part, s₂.part, s₄.part, rest_a, rest_c, count_is) refl

  pub comparison_placed : {out out' : List ℕ} {p r : Place} → Moves (place_item (in_front (head_text (take (a - from) (drop from ws)) (take (b - a) (drop a ws))) (pair_parts (take (e - c) (drop c ws))))) (1 + length (take (e - c) (drop c ws))) out p out' r
      → (Moves (place_item (comparison_item (drop from ws))) (e - from) out p out' r) × (Shows (print_comparison (drop from ws)).rest ws from e) × (from < e)
  unfolding print_comparison
  comparison_placed x =
      let u : a ≡ from + 1 = stop_one ws from a here s₁ in
      let l₂ = s₂.low in
      let l₃ = s₃.low in
      let l₄ = s₄.low in
      let k = (stop_short ws c (n + n) e s₄).2 in
      (moves_as (λ y. ap (λ (i : Item). place_item i y) item_is) (omega arith) x, record { rest = s₄.rest ∙ rw (rest_c, count_is) refl; low = omega arith; high = s₄.high }, omega arith)

-- ---- comparisons: `left` of them are still to come

comparisons_suc : (n : ℕ) (ws : List ℤ) → 0 < length ws → comparison_items (suc n) ws ≡ comparison_item ws ∷ comparison_items n (print_comparison ws).rest
unfolding comparison_items
comparisons_suc n [] h = absurd (omega arith)
comparisons_suc n (w ∷ ws) h = refl

comparisons_none : (n : ℕ) → comparison_items n [] ≡ []
unfolding comparison_items
comparisons_none zero = refl
comparisons_none (suc n) = refl

times_suc : (n : ℕ) (ws : List ℤ) → 0 < length ws → (times print_comparison (suc n) ws).rest ≡ (times print_comparison n (print_comparison ws).rest).rest
unfolding times
times_suc n [] h = absurd (omega arith)
times_suc n (w ∷ ws) h = refl

times_none : (n : ℕ) → (times print_comparison n []).rest ≡ []
unfolding times
times_none zero = refl
times_none (suc n) = refl

-- whatever places the rest has placed all
pub record Comparing (ws : List ℤ) (from : ℕ) (out₀ : List ℕ) (p₀ : Place) (i left : ℕ) (out : List ℕ) (p : Place) : Type 0 where
  pub low : from ≤ i
  pub high : i ≤ length ws
  pub rest : (times print_comparison left (drop i ws)).rest ≡ (print_comparisons (drop from ws)).rest
  pub whole : (n : ℕ) (out' : List ℕ) (r : Place) → Moves (place_items (comparison_items left (drop i ws))) n out p out' r
      → Moves (place_items (comparison_items (count_word (drop from ws)) (drop 1 (drop from ws)))) (n + (i - from)) out₀ p₀ out' r

module _ {ws : List ℤ} {from : ℕ} {out₀ : List ℕ} {p₀ : Place} where
  pub comparing_start : {a n : ℕ} → n ≡ count_word (drop from ws) → Stops ws from 1 a → Comparing ws from out₀ p₀ a n out₀ p₀
  unfolding print_comparisons
  comparing_start {a} {n} m s = record {
    low = s.low;
    high = s.high;
    rest = rw (m, s.rest) refl;
    whole = λ k out' r x. moves_as (λ y. rw (m, s.rest) refl) (omega arith) x;
  }

  module _ {i left : ℕ} {out : List ℕ} {p : Place} (inv : Comparing ws from out₀ p₀ i left out p) where
    pub comparing_next : {next : ℕ} {out' : List ℕ} {r : Place} → 0 < left → i < length ws → Moves (place_item (comparison_item (drop i ws))) (next - i) out p out' r → Shows (print_comparison (drop i ws)).rest ws i next → Comparing ws from out₀ p₀ next (left - 1) out' r
    unfolding place_items
    comparing_next {next} {out'} {r} h k x s =
        let z : left ≡ suc (left - 1) = omega arith in
        let d : 0 < length (drop i ws) = omega (arith, length-drop i ws) in
        let e : comparison_items left (drop i ws) ≡ comparison_item (drop i ws) ∷ comparison_items (left - 1) (drop next ws) = ap (λ m. comparison_items m (drop i ws)) z ∙ comparisons_suc (left - 1) (drop i ws) d ∙ ap (λ (l : List ℤ). comparison_item (drop i ws) ∷ comparison_items (left - 1) l) (sym s.rest) in
        let t : (times print_comparison left (drop i ws)).rest ≡ (times print_comparison (left - 1) (drop next ws)).rest = ap (λ m. (times print_comparison m (drop i ws)).rest) z ∙ times_suc (left - 1) (drop i ws) d ∙ ap (λ (l : List ℤ). (times print_comparison (left - 1) l).rest) (sym s.rest) in
        let a = inv.low in
        let b = s.low in
        record {
          low = omega arith;
          high = s.high;
          rest = sym t ∙ inv.rest;
          whole = λ n out'' r' y. moves_as (λ v. refl) (omega arith) (inv.whole (next - i + n) out'' r' (moves_as (λ v. ap (λ (l : List Item). place_items l v) (sym e)) (omega arith) (moves_then x y)));
        }

    abbrev Done : Type 0
    Done = (Moves (place_items (comparison_items (count_word (drop from ws)) (drop 1 (drop from ws)))) (i - from) out₀ p₀ out p) × (Shows (print_comparisons (drop from ws)).rest ws from i)

    nothing_left : comparison_items left (drop i ws) ≡ [] → (times print_comparison left (drop i ws)).rest ≡ drop i ws → Line p → Done
    unfolding place_items
    nothing_left e f l =
        (moves_as (λ v. refl) (omega arith) (inv.whole 0 out p (moves_as (λ v. ap (λ (l : List Item). place_items l v) (sym e)) (omega arith) (moves_none l))), record { rest = sym f ∙ inv.rest; low = inv.low; high = inv.high })

    pub comparing_done : Line p → left ≤ 0 → Done
    unfolding comparison_items times
    comparing_done l h = let z : left ≡ 0 = omega arith in nothing_left (rw z refl) (rw z refl) l

    pub comparing_out : Line p → i ≡ length ws → Done
    comparing_out l h =
        let z : drop i ws ≡ [] = drop_of_length-le ws (let q : length ws ≤ i = omega arith in q) in
        nothing_left (ap (comparison_items left) z ∙ comparisons_none left) (ap (λ (x : List ℤ). (times print_comparison left x).rest) z ∙ times_none left ∙ sym z) l
