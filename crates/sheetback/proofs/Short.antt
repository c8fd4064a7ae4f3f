-- Every line of a sheet has 80 characters, and a sheet has at most 81 bytes for every two clause words, where the words are within i32. Assumes nothing.
use Rattle.std.specs.Prelude.{◌≡◌, Bool, ◌&&◌, cond, ℕ, suc, ◌+◌, ◌-◌, ◌*◌, ◌≤◌, ◌<◌, pos, leb, eqb}
use Rattle.std.proofs.Math.Path.{refl, ap, subst}
use Rattle.std.proofs.Common.{sym, ◌∙◌, arith}
use Rattle.std.proofs.Math.Bool.{true, false}
use Rattle.std.proofs.lemmas.Bool.{false≢true}
use mathlib.Core.List.{List, [], ◌∷◌, ◌++◌, map, append-nil}
use Rattle.std.proofs.Math.IntN.{ℤ}
use Rattle.std.proofs.Math.ListN.{length, length-append}
use Rattle.std.proofs.lemmas.List.{length-replicate}
use borrow.Author.Tests.{leb-true, leb-false, le-leb, eq-eqb}
use Rattle.laws.specs.Bools.{and_l, and_r, and_i}
use Rattle.laws.specs.Lists.{all, all_append, flat, counted}
use Rattle.syntax.specs.Syntax.{encode_op}
use Rattle.sums.specs.LinearSum.{linear_sum}
use Rattle.clauses.specs.Clause.{LinearLit, linear, Clause, clause}
use Rattle.answer.specs.Answer.{Answer, layout, fixed_word, map_word, bool_word, emitted_words, lit_words, linear_words, clause_words}
use Rattle.call.specs.Call.{compiled, call_with}
use Rattle.call.specs.declared.Choices.{Choices}
use Rattle.decimal.specs.Bytes.{comma, colon, line_feed}
use Rattle.decimal.specs.Decimal.{print_natural, print_number}
use Rattle.lines.specs.Lines.{print_more, print_numbers}
use Rattle.readback.proofs.Shown.{terms_words, lits_words}
use Rattle.page.specs.Sheet.{space, spaces, Item, literal_item, pair_parts, in_front, Page, put, turn, place_part, place_parts, place_item, place_items, numbered, all_lines, full, print_sheet, sheet_lines}
use Rattle.decimal.specs.Widths.{fitting, natural_short, one_short}
use Rattle.page.specs.Widths.{more_length, numbers_length}
use Rattle.page.specs.Writes.{begun}
use Rattle.page.specs.Placing.{begun_here, begun_space, begun_turn, parts_fit, place_begun, flat_pairs}
use Rattle.sheetback.proofs.SheetBack.{head, linear_item, items_of, page_lines, lines_of, lines_shown}
use Rattle.sheetback.specs.Sheeted.{sheet_text}
use Rattle.sheetback.proofs.CallBack.{answer_clauses, decoded, part_is, layout_few, call_laid}

abbrev pub within80 : List ℕ → Bool
within80 l = leb (length l) 80

-- C characters are placed: each finished line is paid by 24 of them
record Tight (P : Page) (C : ℕ) : Type 0 where
  pub lines : all within80 P.lines ≡ true
  pub low : 10 ≤ length P.line
  pub high : length P.line ≤ 80
  pub start : P.bare ≡ true → length P.line ≡ 10
  pub paid : 48 * length P.lines + length P.line ≤ 10 + 2 * C

tight_more : {P : Page} {C D : ℕ} → C ≤ D → Tight P C → Tight P D
tight_more h t = record { lines = t.lines; low = t.low; high = t.high; start = t.start; paid = let p = t.paid in omega arith }

no_start : {X : Type 0} → false ≡ true → X
no_start e = absurd (false≢true e)

tight_put : {P : Page} {C : ℕ} (t : List ℕ) → Tight P C → length P.line + length t ≤ 80 → Tight (put t P) (C + length t)
unfolding put
tight_put {P} {C} t i h = record {
  lines = i.lines;
  low = let l = i.low in omega (arith, length-append P.line t);
  high = omega (arith, length-append P.line t);
  start = no_start;
  paid = let p = i.paid in omega (arith, length-append P.line t);
}

turned_lines : (P : Page) → all within80 P.lines ≡ true → length P.line ≤ 80 → all within80 (P.lines ++ (P.line ∷ [])) ≡ true
turned_lines P h k = all_append within80 P.lines (P.line ∷ []) ∙ and_i (all within80 P.lines) (within80 P.line && true) h (and_i (within80 P.line) true (le-leb (length P.line) 80 k) refl)

-- a piece put on a continuation line, if that is paid
turn_put : {D : ℕ} (P : Page) (t : List ℕ) → all within80 P.lines ≡ true → length P.line ≤ 80 → length t ≤ 70 → 48 * length P.lines + 48 + length t ≤ 2 * D → Tight (put t (turn P)) D
unfolding put turn
turn_put {D} P t h k l p = record {
  lines = turned_lines P h k;
  low = omega (arith, length-append (spaces 10) t);
  high = omega (arith, length-append (spaces 10) t);
  start = no_start;
  paid = omega (arith, length-append P.lines (P.line ∷ []), length-append (spaces 10) t);
}

tight_part : {P : Page} {C : ℕ} (t : List ℕ) → Tight P C → length t ≤ 25 → Tight (place_part t P) (C + length t)
unfolding place_part
tight_part {P} {C} t i h = go (leb (length P.line + length t) 80) refl
  where
    go : (x : Bool) → leb (length P.line + length t) 80 ≡ x → Tight (cond x (put t P) (put t (turn P))) (C + length t)
    go true e = tight_put t i (leb-true (length P.line + length t) 80 e)
    go false e = let k = leb-false (length P.line + length t) 80 e in let p = i.paid in turn_put P t i.lines i.high (omega arith) (omega arith)

abbrev small : List ℕ → Bool
small t = leb (length t) 25

tight_parts : (ts : Item) {P : Page} {C : ℕ} → Tight P C → all small ts ≡ true → Tight (place_parts ts P) (C + length (flat ts))
unfolding place_parts
tight_parts [] {P} {C} i h = tight_more (omega arith) i
tight_parts (t ∷ ts) {P} {C} i h = tight_more (omega (arith, length-append t (flat ts))) (tight_parts ts (tight_part t i (leb-true (length t) 25 (and_l (small t) (all small ts) h))) (and_r (small t) (all small ts) h))

-- a line that an item alone has begun, with one line not yet paid
record Owes (P : Page) (C x : ℕ) : Type 0 where
  pub lines : all within80 P.lines ≡ true
  pub here : length P.line ≡ 10 + x
  pub high : x ≤ 70
  pub owed : 48 * length P.lines ≤ 2 * C + 48

owes_put : {P : Page} {C x : ℕ} (t : List ℕ) → Owes P C x → x + length t ≤ 70 → Owes (put t P) C (x + length t)
unfolding put
owes_put {P} t o h = record { lines = o.lines; here = let e = o.here in omega (arith, length-append P.line t); high = h; owed = o.owed }

owes_parts : (ts : Item) {P : Page} {C x : ℕ} → Owes P C x → all small ts ≡ true → 70 < x + length (flat ts) → Tight (place_parts ts P) (C + (x + length (flat ts)))
unfolding place_parts place_part
owes_parts [] {P} {C} {x} o h k = absurd (let e = o.high in omega arith)
owes_parts (t ∷ ts) {P} {C} {x} o h k =
    go (leb (length P.line + length t) 80) refl
    (λ f. owes_parts ts (owes_put t o f) (and_r (small t) (all small ts) h) (omega (arith, length-append t (flat ts))))
    (λ i. tight_parts ts i (and_r (small t) (all small ts) h))
  where
    go : (y : Bool) → leb (length P.line + length t) 80 ≡ y → (x + length t ≤ 70 → Tight (place_parts ts (put t P)) (C + (x + length t + length (flat ts)))) → (Tight (put t (turn P)) (C + (x + length t)) → Tight (place_parts ts (put t (turn P))) (C + (x + length t) + length (flat ts)))
        → Tight (place_parts ts (cond y (put t P) (put t (turn P)))) (C + (x + length (t ++ flat ts)))
    go true e f g = let a = leb-true (length P.line + length t) 80 e in let b = o.here in tight_more (omega (arith, length-append t (flat ts))) (f (omega arith))
    go false e f g =
        let a = leb-false (length P.line + length t) 80 e in
        let b = o.here in
        let c = o.owed in
        let d = o.high in
        let s = leb-true (length t) 25 (and_l (small t) (all small ts) h) in
        tight_more (omega (arith, length-append t (flat ts))) (g (turn_put P t o.lines (omega arith) (omega arith) (omega arith)))

-- ---- an item: its first part of at most 51 characters, the others of at most 25

long_item : (t : List ℕ) (ts : Item) {Q : Page} {C : ℕ} → Owes Q C 0 → length t ≤ 51 → all small ts ≡ true → 70 < length (flat (t ∷ ts)) → Tight (place_parts (t ∷ ts) Q) (C + length (flat (t ∷ ts)))
unfolding place_parts place_part
long_item t ts {Q} {C} o f h k =
    let b = o.here in
    let e : leb (length Q.line + length t) 80 ≡ true = le-leb (length Q.line + length t) 80 (omega arith) in
    let r : Tight (place_parts ts (put t Q)) (C + (0 + length t + length (flat ts))) = owes_parts ts (owes_put t o (omega arith)) h (omega (arith, length-append t (flat ts))) in
    subst (λ (x : Bool). Tight (place_parts ts (cond x (put t Q) (put t (turn Q)))) (C + length (t ++ flat ts))) (sym e) (tight_more (omega (arith, length-append t (flat ts))) r)

module _ {P : Page} {C : ℕ} (i : Tight P C) (t : List ℕ) (ts : Item) (first : length t ≤ 51) (others : all small ts ≡ true) where
  abbrev size : ℕ
  size = length (flat (t ∷ ts))

  -- placed by its parts from the begun page Q on
  short_on : {Q : Page} {D : ℕ} → begun size P ≡ Q → length Q.line + size ≤ 80 → Tight (put (flat (t ∷ ts)) Q) D → D ≤ C + (size + 1) → Tight (place_item (t ∷ ts) P) (C + (size + 1))
  short_on {Q} {D} e h r k = tight_more k (subst (λ (X : Page). Tight X D) (sym (place_begun t ts P i.start ∙ ap (place_parts (t ∷ ts)) e ∙ parts_fit t ts Q h)) r)

  long_on : {Q : Page} → begun size P ≡ Q → Owes Q C 0 → 70 < size → Tight (place_item (t ∷ ts) P) (C + (size + 1))
  long_on {Q} e o h = tight_more (omega arith) (subst (λ (X : Page). Tight X (C + size)) (sym (place_begun t ts P i.start ∙ ap (place_parts (t ∷ ts)) e)) (long_item t ts o first others h))

  tight_item : Tight (place_item (t ∷ ts) P) (C + (size + 1))
  tight_item = go P.bare refl (leb (length P.line + (1 + size)) 80) refl (leb size 70) refl
    where
      p : 48 * length P.lines + length P.line ≤ 10 + 2 * C
      p = i.paid

      turn_ten : length (turn P).line ≡ 10
      turn_ten = unfold turn in refl

      turn_owes : Owes (turn P) C 0
      turn_owes = unfold turn in (record { lines = turned_lines P i.lines i.high; here = omega arith; high = omega arith; owed = let l = i.low in let q = i.paid in omega (arith, length-append P.lines (P.line ∷ [])) })

      go : (b : Bool) → P.bare ≡ b → (x : Bool) → leb (length P.line + (1 + size)) 80 ≡ x → (y : Bool) → leb size 70 ≡ y → Tight (place_item (t ∷ ts) P) (C + (size + 1))
      go true b x e true f = let l = i.start b in let k = leb-true size 70 f in short_on (begun_here size P b) (omega arith) (tight_put (flat (t ∷ ts)) i (omega arith)) (omega arith)
      go true b x e false f = let l = i.start b in let q = i.paid in long_on (begun_here size P b) (record { lines = i.lines; here = omega arith; high = omega arith; owed = omega arith }) (leb-false size 70 f)
      go false b true e y f =
          let h = leb-true (length P.line + (1 + size)) 80 e in
          let r : Tight (put (space ∷ []) P) (C + 1) = tight_put (space ∷ []) i (omega arith) in
          let n : length (put (space ∷ []) P).line ≡ length P.line + 1 = unfold put in (length-append P.line (space ∷ [])) in
          short_on (begun_space size P b h) (omega arith) (tight_put (flat (t ∷ ts)) r (omega arith)) (omega arith)
      go false b false e true f =
          let h = leb-false (length P.line + (1 + size)) 80 e in
          let k = leb-true size 70 f in
          let q = i.paid in
          let n = turn_ten in
          short_on (begun_turn size P b h) (omega arith) (turn_put {D = C + (size + 1)} P (flat (t ∷ ts)) i.lines i.high k (omega arith)) (omega arith)
      go false b false e false f = long_on (begun_turn size P b (leb-false (length P.line + (1 + size)) 80 e)) turn_owes (leb-false size 70 f)

-- ---- the items of a clause

more_short : (zs : List ℤ) → all fitting zs ≡ true → length (print_more zs) ≤ 12 * length zs
more_short [] h = unfold print_more in (omega arith)
more_short (z ∷ zs) h = omega (arith, more_length z zs, one_short z zs h, more_short zs (and_r (fitting z) (all fitting zs) h))

numbers_short : (zs : List ℤ) → all fitting zs ≡ true → length (print_numbers zs) ≤ 12 * length zs
numbers_short zs h = omega (arith, numbers_length zs, more_short zs h)

abbrev head_part : Item → List ℕ
head_part [] = []
head_part (t ∷ ts) = t

abbrev tail_parts : Item → Item
tail_parts [] = []
tail_parts (t ∷ ts) = ts

pairs_small : (zs : List ℤ) → all fitting zs ≡ true → all small (pair_parts zs) ≡ true
unfolding pair_parts
pairs_small [] h = refl
pairs_small (v ∷ []) h = and_i (small (print_numbers (v ∷ []))) true (le-leb (length (print_numbers (v ∷ []))) 25 (omega (arith, numbers_short (v ∷ []) h))) refl
pairs_small (v ∷ a ∷ []) h = and_i (small (print_numbers (v ∷ a ∷ []))) true (le-leb (length (print_numbers (v ∷ a ∷ []))) 25 (omega (arith, numbers_short (v ∷ a ∷ []) h))) refl
pairs_small (v ∷ a ∷ w ∷ ws) h =
    let r : all fitting (w ∷ ws) ≡ true = and_r (fitting a) (all fitting (w ∷ ws)) (and_r (fitting v) (all fitting (a ∷ w ∷ ws)) h) in
    let two : all fitting (v ∷ a ∷ []) ≡ true = and_i (fitting v) (fitting a && true) (and_l (fitting v) (all fitting (a ∷ w ∷ ws)) h) (and_i (fitting a) true (and_l (fitting a) (all fitting (w ∷ ws)) (and_r (fitting v) (all fitting (a ∷ w ∷ ws)) h)) refl) in
    let t : List ℕ = print_numbers (v ∷ a ∷ []) ++ (comma ∷ []) in
    and_i (small t) (all small (pair_parts (w ∷ ws))) (le-leb (length t) 25 (omega (arith, numbers_short (v ∷ a ∷ []) two, length-append (print_numbers (v ∷ a ∷ [])) (comma ∷ [])))) (pairs_small (w ∷ ws) r)

-- n words: an item with the space in front of it has at most 12 characters for each
record Sized (i : Item) (n : ℕ) : Type 0 where
  pub shape : i ≡ head_part i ∷ tail_parts i
  pub first : length (head_part i) ≤ 51
  pub others : all small (tail_parts i) ≡ true
  pub whole : length (flat i) + 1 ≤ 12 * n

literal_sized : (z : ℤ) → all fitting (z ∷ []) ≡ true → Sized (literal_item z) 1
literal_sized z h = let s = one_short z [] h in record { shape = refl; first = omega arith; others = refl; whole = omega (arith, length-append (print_number z) []) }

front_sized : (h : List ℕ) (ps : Item) (n : ℕ) → length h ≤ 26 → all small ps ≡ true → length h + length (flat ps) + 1 ≤ 12 * n → Sized (in_front h ps) n
unfolding in_front
front_sized h [] n a b c = record { shape = refl; first = omega arith; others = refl; whole = omega (arith, length-append h []) }
front_sized h (p ∷ ps) n a b c =
    let s = leb-true (length p) 25 (and_l (small p) (all small ps) b) in
    record { shape = refl; first = omega (arith, length-append h p); others = and_r (small p) (all small ps) b; whole = omega (arith, length-append h p, length-append (h ++ p) (flat ps), length-append p (flat ps)) }

linear_sized : (k : LinearLit) → all fitting (linear_words k) ≡ true → Sized (linear_item k) (length (linear_words k))
unfolding linear_item
linear_sized (linear o (linear_sum c ts)) h =
    let zs : List ℤ = terms_words ts in
    let oz : ℤ = encode_op o in
    let h1 : all fitting (c ∷ pos (length ts) ∷ zs) ≡ true = and_r (fitting oz) (all fitting (c ∷ pos (length ts) ∷ zs)) h in
    let h2 : all fitting zs ≡ true = and_r (fitting (pos (length ts))) (all fitting zs) (and_r (fitting c) (all fitting (pos (length ts) ∷ zs)) h1) in
    let ho : all fitting (oz ∷ []) ≡ true = and_i (fitting oz) true (and_l (fitting oz) (all fitting (c ∷ pos (length ts) ∷ zs)) h) refl in
    let hc : all fitting (c ∷ []) ≡ true = and_i (fitting c) true (and_l (fitting c) (all fitting (pos (length ts) ∷ zs)) h1) refl in
    let l : length (head oz c) ≡ length (print_numbers (oz ∷ [])) + 1 + (length (print_numbers (c ∷ [])) + 1) = omega (arith, length-append (print_numbers (oz ∷ [])) (colon ∷ (print_numbers (c ∷ []) ++ (colon ∷ []))), length-append (print_numbers (c ∷ [])) (colon ∷ [])) in
    let f : length (flat (pair_parts zs)) ≡ length (print_numbers zs) = ap length (flat_pairs zs) in
    front_sized (head oz c) (pair_parts zs) (suc (suc (suc (length zs)))) (omega (arith, numbers_short (oz ∷ []) ho, numbers_short (c ∷ []) hc)) (pairs_small zs h2) (omega (arith, numbers_short (oz ∷ []) ho, numbers_short (c ∷ []) hc, numbers_short zs h2))

data AllSized : List Item → ℕ → Type 0 where
  sized_nil : AllSized [] 0
  more : {i : Item} {is : List Item} {m n : ℕ} → Sized i m → AllSized is n → AllSized (i ∷ is) (m + n)

sized_item : {P : Page} {C m : ℕ} (i : Item) → Tight P C → Sized i m → Tight (place_item i P) (C + 12 * m)
sized_item {P} {C} {m} i t s =
    let r : Tight (place_item (head_part i ∷ tail_parts i) P) (C + (length (flat (head_part i ∷ tail_parts i)) + 1)) = tight_item t (head_part i) (tail_parts i) s.first s.others in
    let w = s.whole in
    let e : length (flat i) ≡ length (flat (head_part i ∷ tail_parts i)) = ap (λ (x : Item). length (flat x)) s.shape in
    subst (λ (x : Item). Tight (place_item x P) (C + 12 * m)) (sym s.shape) (tight_more (omega arith) r)

sized_items : {is : List Item} {n : ℕ} → AllSized is n → {P : Page} {C : ℕ} → Tight P C → Tight (place_items is P) (C + 12 * n)
unfolding place_items
sized_items sized_nil {P} {C} t = tight_more (omega arith) t
sized_items (more {i} {is} {m} {n} s a) {P} {C} t = tight_more (omega arith) (sized_items a (sized_item i t s))

lits_sized : (zs : List ℤ) {is : List Item} {n : ℕ} → all fitting zs ≡ true → AllSized is n → AllSized (map literal_item zs ++ is) (length zs + n)
lits_sized [] {is} {n} h a = subst (λ (m : ℕ). AllSized is m) (let e : n ≡ 0 + n = omega arith in e) a
lits_sized (z ∷ zs) {is} {n} h a =
    let r : AllSized (literal_item z ∷ (map literal_item zs ++ is)) (1 + (length zs + n)) = more (literal_sized z (and_i (fitting z) true (and_l (fitting z) (all fitting zs) h) refl)) (lits_sized zs (and_r (fitting z) (all fitting zs) h) a) in
    subst (λ (m : ℕ). AllSized (map literal_item (z ∷ zs) ++ is) m) (let e : 1 + (length zs + n) ≡ suc (length zs) + n = omega arith in e) r

linears_sized : (ks : List LinearLit) → all fitting (flat (map linear_words ks)) ≡ true → AllSized (map linear_item ks) (length (flat (map linear_words ks)))
linears_sized [] h = sized_nil
linears_sized (k ∷ ks) h =
    let e : all fitting (linear_words k) && all fitting (flat (map linear_words ks)) ≡ true = sym (all_append fitting (linear_words k) (flat (map linear_words ks))) ∙ h in
    subst (λ (m : ℕ). AllSized (map linear_item (k ∷ ks)) m) (sym (length-append (linear_words k) (flat (map linear_words ks)))) (more (linear_sized k (and_l (all fitting (linear_words k)) _ e)) (linears_sized ks (and_r (all fitting (linear_words k)) _ e)))

-- ---- a clause's lines

numbered_tight : (k : ℕ) → k < 100000000 → Tight (numbered k) 0
unfolding numbered
numbered_tight k h =
    let ds : List ℕ = print_natural k in
    let e : length (spaces (8 - length ds) ++ (ds ++ spaces 2)) ≡ 10 = omega (arith, length-append (spaces (8 - length ds)) (ds ++ spaces 2), length-append ds (spaces 2), length-replicate {A = ℕ} (8 - length ds) 32, natural_short 7 k (omega (arith, h))) in
    record { lines = refl; low = omega arith; high = omega arith; start = λ b. e; paid = omega arith }

record Few (ls : List (List ℕ)) (n : ℕ) : Type 0 where
  pub short : all within80 ls ≡ true
  pub few : 2 * length ls ≤ n

clause_few : (k : ℕ) → k < 100000000 → (c : Clause) → all fitting (clause_words c) ≡ true → Few (page_lines k c) (length (clause_words c))
unfolding items_of all_lines
clause_few k h (clause ls ks) f =
    let zs : List ℤ = lits_words ls in
    let ws : List ℤ = flat (map linear_words ks) in
    let e : all fitting (counted lit_words ls) && all fitting (counted linear_words ks) ≡ true = sym (all_append fitting (counted lit_words ls) (counted linear_words ks)) ∙ f in
    let hz : all fitting zs ≡ true = and_r (fitting (pos (length ls))) (all fitting zs) (and_l (all fitting (counted lit_words ls)) (all fitting (counted linear_words ks)) e) in
    let hw : all fitting ws ≡ true = and_r (fitting (pos (length ks))) (all fitting ws) (and_r (all fitting (counted lit_words ls)) (all fitting (counted linear_words ks)) e) in
    let P = place_items (map literal_item zs ++ map linear_item ks) (numbered k) in
    let t : Tight P (0 + 12 * (length zs + length ws)) = sized_items (lits_sized zs hz (linears_sized ks hw)) (numbered_tight k h) in
    let p = t.paid in
    let l = t.low in
    record { short = turned_lines P t.lines t.high; few = omega (arith, length-append P.lines (P.line ∷ []), length-append (counted lit_words ls) (counted linear_words ks)) }

lines_few : (k : ℕ) (cs : List Clause) → k + length cs ≤ 100000000 → all fitting (flat (map clause_words cs)) ≡ true → Few (lines_of k cs) (length (flat (map clause_words cs)))
lines_few k [] h f = record { short = refl; few = omega arith }
lines_few k (c ∷ cs) h f =
    let e : all fitting (clause_words c) && all fitting (flat (map clause_words cs)) ≡ true = sym (all_append fitting (clause_words c) (flat (map clause_words cs))) ∙ f in
    let a = clause_few k (omega arith) c (and_l (all fitting (clause_words c)) _ e) in
    let b = lines_few (suc k) cs (omega arith) (and_r (all fitting (clause_words c)) _ e) in
    let u = a.few in
    let v = b.few in
    record { short = all_append within80 (page_lines k c) (lines_of (suc k) cs) ∙ and_i (all within80 (page_lines k c)) _ a.short b.short; few = omega (arith, length-append (page_lines k c) (lines_of (suc k) cs), length-append (clause_words c) (flat (map clause_words cs))) }

-- ---- the sheet: full lines, each of 80 characters and a line feed

full_length : (l : List ℕ) → within80 l ≡ true → length (full l) ≡ 81
unfolding full
full_length l h = let k = leb-true (length l) 80 h in omega (arith, length-append l (spaces (80 - length l) ++ (line_feed ∷ [])), length-append (spaces (80 - length l)) (line_feed ∷ []), length-replicate {A = ℕ} (80 - length l) 32)

fulls_length : (ls : List (List ℕ)) → all within80 ls ≡ true → length (flat (map full ls)) ≡ 81 * length ls
fulls_length [] h = refl
fulls_length (l ∷ ls) h = omega (arith, length-append (full l) (flat (map full ls)), full_length l (and_l (within80 l) (all within80 ls) h), fulls_length ls (and_r (within80 l) (all within80 ls) h))

fulls_are : (ls : List (List ℕ)) → all within80 ls ≡ true → all (λ l. eqb (length l) 81) (map full ls) ≡ true
fulls_are [] h = refl
fulls_are (l ∷ ls) h = and_i (eqb (length (full l)) 81) _ (eq-eqb (length (full l)) 81 (full_length l (and_l (within80 l) (all within80 ls) h))) (fulls_are ls (and_r (within80 l) (all within80 ls) h))

-- the lines that a sheet is made of, each with its line feed
pub record Lined (sheet : List ℕ) : Type 0 where
  pub lines : List (List ℕ)
  pub made : sheet ≡ flat (map full lines)
  pub each : all (λ l. eqb (length l) 81) (map full lines) ≡ true

module _ (cs : List Clause) (h : length cs < 100000000) (f : all fitting (flat (map clause_words cs)) ≡ true) where
  sheet_is : print_sheet (counted clause_words cs) ≡ flat (map full (lines_of 1 cs))
  unfolding print_sheet
  sheet_is =
      let ws : List ℤ = flat (map clause_words cs) in
      ap (λ (x : List (List ℕ)). flat (map full x)) (ap (sheet_lines 1 (length cs)) (sym (append-nil ws)) ∙ lines_shown 1 cs [])

  clauses_lined : Lined (print_sheet (counted clause_words cs))
  clauses_lined = record { lines = lines_of 1 cs; made = sheet_is; each = fulls_are (lines_of 1 cs) (lines_few 1 cs (omega arith) f).short }

  clauses_short : 2 * length (print_sheet (counted clause_words cs)) ≤ 81 * length (flat (map clause_words cs))
  clauses_short = let b = lines_few 1 cs (omega arith) f in let u = b.few in omega (arith, ap length sheet_is, fulls_length (lines_of 1 cs) b.short)

-- ---- for every answer of the call whose words are within i32

behind : (xs ys : List ℤ) → all fitting (xs ++ ys) ≡ true → all fitting ys ≡ true
behind xs ys h = and_r (all fitting xs) (all fitting ys) (sym (all_append fitting xs ys) ∙ h)

clauses_fit : (a : Answer) → all fitting (layout a) ≡ true → all fitting (flat (map clause_words a.clauses)) ≡ true
unfolding layout
clauses_fit a h =
    let ds : List ℤ = counted emitted_words a.emitted_ints in
    let cs : List ℤ = counted clause_words a.clauses in
    let e : all fitting (pos a.emitted_bools ∷ (ds ++ cs)) ≡ true = behind (map map_word a.int_map) _ (behind (map bool_word a.bool_map) _ (behind (map fixed_word a.fixed) _ h)) in
    let f : all fitting cs ≡ true = behind ds cs (and_r (fitting (pos a.emitted_bools)) (all fitting (ds ++ cs)) e) in
    and_r (fitting (pos (length a.clauses))) (all fitting (flat (map clause_words a.clauses))) f

module _ (c : Choices) (set : List ℤ) (out_length work_length : ℕ) (ws : List ℤ) (e : call_with c set out_length work_length ≡ compiled ws) (f : all fitting ws ≡ true) where
  abbrev cs : List Clause
  cs = answer_clauses set ws

  clauses_within : (length cs < 100000000) × (all fitting (flat (map clause_words cs)) ≡ true)
  clauses_within =
      let l = call_laid c set out_length work_length ws e in
      let d = decoded l in
      let n = l.few in
      (omega (arith, layout_few l.it, ap length l.words, ap length d), ap (λ (x : List Clause). all fitting (flat (map clause_words x))) d ∙ clauses_fit l.it (ap (all fitting) (sym l.words) ∙ f))

  -- every line of the sheet has 80 characters and a line feed
  pub sheet_lines_80 : Lined (sheet_text set ws)
  unfolding sheet_text
  sheet_lines_80 = subst Lined (sym (ap print_sheet (part_is (call_laid c set out_length work_length ws e)))) (clauses_lined cs clauses_within.0 clauses_within.1)

  -- at most 81 bytes for every two words of the clauses
  pub sheet_short : 2 * length (sheet_text set ws) ≤ 81 * length (flat (map clause_words cs))
  unfolding sheet_text
  sheet_short = let b = clauses_short cs clauses_within.0 clauses_within.1 in omega (arith, ap (λ (x : List ℤ). length (print_sheet x)) (part_is (call_laid c set out_length work_length ws e)))
