-- Reading a sheet gives back the clauses of the answer. Assumes nothing.
use Rattle.std.specs.Prelude.{◌≡◌, ◌&&◌, ◌||◌, ℤ, pos, leb, drop}
use Rattle.std.proofs.Math.Path.{refl, sym, ap}
use Rattle.std.proofs.Common.{◌∙◌, arith, length-append, drop_of_length-le, leb-true, le-leb, ne_eqb}
use Rattle.std.proofs.Math.Bool.{Bool, true, false, not}
use Rattle.std.proofs.lemmas.Bool.{false≢true, eqb-false, not-true}
use mathlib.Core.List.{List, [], ◌∷◌, ◌++◌, map, append_assoc, append-nil}
use Rattle.std.proofs.Math.Option.{some}
use Prim.Native.Nat.{ℕ, zero, suc, ◌+◌, ◌-◌, ◌≤◌, ◌<◌}
use Rattle.std.proofs.Math.Dec.{eqb}
use Rattle.std.proofs.Math.ListN.{length, take}
use Rattle.std.proofs.lemmas.List.{length-map, length-replicate, take-append-le, drop-append-le}
use Rattle.std.proofs.Math.Seq.{take-append_seam, drop-append_seam, take_all}
use Rattle.laws.specs.Bools.{and_l, and_r, and_i}
use Rattle.laws.specs.Lists.{all, any, all_append, any_append, select, flat, counted}
use Rattle.syntax.specs.Syntax.{encode_op}
use Rattle.sums.specs.LinearSum.{linear_sum}
use Rattle.clauses.specs.Clause.{BoolLit, LinearLit, linear, Clause, clause}
use Rattle.answer.specs.Answer.{lit_words, linear_words, clause_words}
use Rattle.decimal.specs.Bytes.{comma, colon, line_feed}
use Rattle.decimal.specs.Decimal.{is_empty, print_natural, print_number}
use Rattle.input.specs.ReadText.{split}
use Rattle.lines.specs.Lines.{print_more, print_numbers, literals, after_literals, print_comparison, print_clause}
use Rattle.readback.specs.ReadListing.{read_integers, read_comparisons}
use Rattle.readback.proofs.Numbers.{integer_back, number_some}
use Rattle.readback.proofs.Split.{avoids, split_at, avoids_append, natural_avoids, number_avoids, numbers_avoid, comparison_back}
use Rattle.readback.proofs.Shown.{terms_words, terms_length, linear_body, lits_words, lits_length, clause_filled, clause_shown}
use Rattle.page.specs.Sheet.{space, spaces, Item, literal_item, pair_parts, in_front, comparison_item, comparison_items, clause_items, place_items, numbered, all_lines, sheet_lines, full, print_sheet}
use Rattle.page.specs.Placing.{flat_front, flat_pairs}
use Rattle.decimal.specs.Widths.{natural_short}
use Rattle.sheetback.specs.ReadSheet.{tokens, ends_open, glued, is_comparison, read_items, goes_on, line_tokens, Grouped, grouped, read_clauses, read_sheet}
use Rattle.sheetback.proofs.Tokens.{select_append, tokens_pad, tokens_none, closed, open_append}
use Rattle.sheetback.proofs.Placed.{toks, toks_snoc, led, sound, Read, Plain, Good, AllGood, filled_append, items_read}

-- ---- the items of a clause

number_filled : (z : ℤ) → is_empty (print_number z) ≡ false
number_filled z = ap is_empty (sym (append-nil (print_number z))) ∙ number_some z []

number_plain : (z : ℤ) → Plain (print_number z)
number_plain z = record { filled = number_filled z; clear = number_avoids space (λ b l u e. omega arith) z; line = number_avoids line_feed (λ b l u e. omega arith) z }

number_closed : (z : ℤ) → ends_open (print_number z) ≡ false
number_closed z = closed (print_number z) (number_avoids comma (λ b l u e. omega arith) z)

literal_good : (z : ℤ) → Good (literal_item z)
literal_good z = Good.last (number_plain z) (number_closed z)

-- no space and no line feed
pub record Clear (t : List ℕ) : Type 0 where
  pub space : avoids space t ≡ true
  pub line : avoids line_feed t ≡ true

plain_after : {xs ys : List ℕ} → Clear xs → Plain ys → Plain (xs ++ ys)
plain_after {xs} {ys} c p = record { filled = filled_append xs ys p.filled; clear = avoids_append space xs ys c.space p.clear; line = avoids_append line_feed xs ys c.line p.line }

numbers_clear : (zs : List ℤ) → Clear (print_numbers zs)
numbers_clear zs = record { space = numbers_avoid space (λ b l u e. omega arith) refl zs; line = numbers_avoid line_feed (λ b l u e. omega arith) refl zs }

pair_plain : (v : ℤ) (zs : List ℤ) → Plain (print_numbers (v ∷ zs))
unfolding print_numbers
pair_plain v zs = record { filled = number_some v (print_more zs); clear = (numbers_clear (v ∷ zs)).space; line = (numbers_clear (v ∷ zs)).line }

one_closed : (v : ℤ) → ends_open (print_numbers (v ∷ [])) ≡ false
unfolding print_numbers print_more
one_closed v = ap ends_open (append-nil (print_number v)) ∙ number_closed v

two_closed : (v a : ℤ) → ends_open (print_numbers (v ∷ a ∷ [])) ≡ false
unfolding print_numbers print_more
two_closed v a =
    let e : print_number a ++ [] ≡ print_number a = append-nil (print_number a) in
    ap (λ (x : List ℕ). ends_open (print_number v ++ (comma ∷ x))) e ∙ open_append (print_number v) (comma ∷ print_number a) refl ∙ open_append (comma ∷ []) (print_number a) (number_filled a) ∙ number_closed a

comma_plain : (v a : ℤ) → Plain (print_numbers (v ∷ a ∷ []) ++ (comma ∷ []))
comma_plain v a = plain_after (numbers_clear (v ∷ a ∷ [])) (record { filled = refl; clear = refl; line = refl })

comma_open : (v a : ℤ) → ends_open (print_numbers (v ∷ a ∷ []) ++ (comma ∷ [])) ≡ true
unfolding ends_open
comma_open v a = open_append (print_numbers (v ∷ a ∷ [])) (comma ∷ []) refl

pairs_good : (v : ℤ) (zs : List ℤ) → Good (pair_parts (v ∷ zs))
unfolding pair_parts
pairs_good v [] = Good.last (pair_plain v []) (one_closed v)
pairs_good v (a ∷ []) = Good.last (pair_plain v (a ∷ [])) (two_closed v a)
pairs_good v (a ∷ w ∷ ws) = Good.more (comma_plain v a) (comma_open v a) (pairs_good w ws)

front_good : {h : List ℕ} {ps : Item} → Clear h → Good ps → Good (in_front h ps)
unfolding in_front
front_good {h} c (Good.last {t} p o) = Good.last (plain_after c p) (open_append h t p.filled ∙ o)
front_good {h} c (Good.more {t} {ts} p o g) = Good.more (plain_after c p) (open_append h t p.filled ∙ o) g

abbrev pub head : ℤ → ℤ → List ℕ
head o c = print_numbers (o ∷ []) ++ (colon ∷ (print_numbers (c ∷ []) ++ (colon ∷ [])))

head_clear : (o c : ℤ) → Clear (head o c)
head_clear o c =
    let a = numbers_clear (o ∷ []) in
    let b = numbers_clear (c ∷ []) in
    record {
      space = avoids_append space (print_numbers (o ∷ [])) (colon ∷ (print_numbers (c ∷ []) ++ (colon ∷ []))) a.space (avoids_append space (print_numbers (c ∷ [])) (colon ∷ []) b.space refl);
      line = avoids_append line_feed (print_numbers (o ∷ [])) (colon ∷ (print_numbers (c ∷ []) ++ (colon ∷ []))) a.line (avoids_append line_feed (print_numbers (c ∷ [])) (colon ∷ []) b.line refl);
    }

head_closed : (o c : ℤ) → ends_open (head o c) ≡ false
unfolding ends_open
head_closed o c = open_append (print_numbers (o ∷ [])) (colon ∷ (print_numbers (c ∷ []) ++ (colon ∷ []))) refl ∙ open_append (colon ∷ print_numbers (c ∷ [])) (colon ∷ []) refl

unfoldable pub linear_item : LinearLit → Item
linear_item (linear o (linear_sum c ts)) = in_front (head (encode_op o) c) (pair_parts (terms_words ts))

head_plain : (o c : ℤ) → Plain (head o c)
head_plain o c = record { filled = filled_append (print_numbers (o ∷ [])) (colon ∷ (print_numbers (c ∷ []) ++ (colon ∷ []))) refl; clear = (head_clear o c).space; line = (head_clear o c).line }

terms_good : (o c : ℤ) (zs : List ℤ) → Good (in_front (head o c) (pair_parts zs))
terms_good o c [] = unfold in_front pair_parts in (Good.last (head_plain o c) (head_closed o c))
terms_good o c (v ∷ zs) = front_good (head_clear o c) (pairs_good v zs)

linear_good : (k : LinearLit) → Good (linear_item k)
unfolding linear_item
linear_good (linear o (linear_sum c ts)) = terms_good (encode_op o) c (terms_words ts)

-- its text is the listing's
linear_flat : (k : LinearLit) → flat (linear_item k) ≡ linear_body k
unfolding linear_item
linear_flat (linear o (linear_sum c ts)) =
    flat_front (head (encode_op o) c) (pair_parts (terms_words ts)) ∙ ap (λ (x : List ℕ). head (encode_op o) c ++ x) (flat_pairs (terms_words ts))
    ∙ append_assoc (print_numbers (encode_op o ∷ [])) (colon ∷ (print_numbers (c ∷ []) ++ (colon ∷ []))) (print_numbers (terms_words ts))
    ∙ ap (λ (x : List ℕ). print_numbers (encode_op o ∷ []) ++ (colon ∷ x)) (append_assoc (print_numbers (c ∷ [])) (colon ∷ []) (print_numbers (terms_words ts)))

-- ---- the items of a clause's words

linear_shown : (k : LinearLit) (r : List ℤ) → (comparison_item (linear_words k ++ r) ≡ linear_item k) × ((print_comparison (linear_words k ++ r)).rest ≡ r)
unfolding comparison_item linear_item print_comparison
linear_shown (linear o (linear_sum c ts)) r =
    let ws : List ℤ = terms_words ts in
    let t : take (length ts + length ts) (ws ++ r) ≡ ws = rw (← terms_length ts) (take-append_seam ws r) in
    let d : drop (length ts + length ts) (ws ++ r) ≡ r = rw (← terms_length ts) (drop-append_seam ws r) in
    (rw t refl, d)

linear_filled : (k : LinearLit) → 0 < length (linear_words k)
linear_filled (linear o (linear_sum c ts)) = omega arith

items_suc : (n : ℕ) (ws : List ℤ) → 0 < length ws → comparison_items (suc n) ws ≡ comparison_item ws ∷ comparison_items n (print_comparison ws).rest
unfolding comparison_items
items_suc n [] h = absurd (omega arith)
items_suc n (w ∷ ws) h = refl

linears_shown : (ks : List LinearLit) (r : List ℤ) → comparison_items (length ks) (flat (map linear_words ks) ++ r) ≡ map linear_item ks
linears_shown [] r = unfold comparison_items in refl
linears_shown (k ∷ ks) r =
    let rest : List ℤ = flat (map linear_words ks) ++ r in
    ap (comparison_items (suc (length ks))) (append_assoc (linear_words k) (flat (map linear_words ks)) r)
    ∙ items_suc (length ks) (linear_words k ++ rest) (omega (arith, linear_filled k, length-append (linear_words k) rest))
    ∙ rw ((linear_shown k rest).0, (linear_shown k rest).1, linears_shown ks r) refl

unfoldable pub items_of : Clause → List Item
items_of (clause ls ks) = map literal_item (lits_words ls) ++ map linear_item ks

clause_shown_items : (c : Clause) (r : List ℤ) → clause_items (clause_words c ++ r) ≡ items_of c
unfolding clause_items items_of
clause_shown_items (clause ls ks) r =
    let rest : List ℤ = pos (length ks) ∷ (flat (map linear_words ks) ++ r) in
    let laid : clause_words (clause ls ks) ++ r ≡ pos (length ls) ∷ (lits_words ls ++ rest) = append_assoc (counted lit_words ls) (counted linear_words ks) r in
    let a : literals (pos (length ls) ∷ (lits_words ls ++ rest)) ≡ lits_words ls = rw (← lits_length ls) (take-append_seam (lits_words ls) rest) in
    let b : after_literals (pos (length ls) ∷ (lits_words ls ++ rest)) ≡ rest = rw (← lits_length ls) (drop-append_seam (lits_words ls) rest) in
    rw (laid, a, b, linears_shown ks r) refl

-- ---- reading the items

integers_back : (zs : List ℤ) → read_integers (map print_number zs) ≡ some zs
unfolding read_integers
integers_back [] = refl
integers_back (z ∷ zs) = rw (integer_back z, integers_back zs) refl

comparisons_back : (ks : List LinearLit) → read_comparisons (map linear_body ks) ≡ some (flat (map linear_words ks))
unfolding read_comparisons
comparisons_back [] = refl
comparisons_back (linear o (linear_sum c ts) ∷ ks) = rw (comparison_back _ c (length ts) (terms_words ts) (terms_length ts), comparisons_back ks) refl

-- a literal has no colon, a comparison has
none_equal : (s : ℕ) (t : List ℕ) → avoids s t ≡ true → any (eqb s) t ≡ false
none_equal s [] h = refl
none_equal s (b ∷ bs) h = go (eqb b s) refl (and_l (not (eqb b s)) (avoids s bs) h) (none_equal s bs (and_r (not (eqb b s)) (avoids s bs) h))
  where
    go : (x : Bool) → eqb b s ≡ x → not x ≡ true → any (eqb s) bs ≡ false → eqb s b || any (eqb s) bs ≡ false
    go true e k f = absurd (false≢true k)
    go false e k f = rw (ne_eqb s b (λ q. eqb-false b s e (sym q))) f

literal_plain : (z : ℤ) → is_comparison (print_number z) ≡ false
literal_plain z = none_equal colon (print_number z) (number_avoids colon (λ b l u e. omega arith) z)

body_comparison : (k : LinearLit) → is_comparison (linear_body k) ≡ true
body_comparison (linear o (linear_sum c ts)) =
    let a : List ℕ = print_numbers (encode_op o ∷ []) in
    let b : List ℕ = colon ∷ (print_numbers (c ∷ []) ++ (colon ∷ print_numbers (terms_words ts))) in
    any_append (eqb colon) a b ∙ or-true (any (eqb colon) a)
  where
    or-true : (x : Bool) → x || true ≡ true
    or-true true = refl
    or-true false = refl

module _ {A : Type 0} (text : A → List ℕ) (f : List ℕ → Bool) where
  select_all : ((a : A) → f (text a) ≡ true) → (ys : List A) → select f (map text ys) ≡ map text ys
  select_all h [] = refl
  select_all h (a ∷ ys) = rw (h a, select_all h ys) refl

  select_none : ((a : A) → f (text a) ≡ false) → (ys : List A) → select f (map text ys) ≡ []
  select_none h [] = refl
  select_none h (a ∷ ys) = rw (h a, select_none h ys) refl

map-append : {A B : Type 0} (f : A → B) (xs ys : List A) → map f (xs ++ ys) ≡ map f xs ++ map f ys
map-append f [] ys = refl
map-append f (x ∷ xs) ys = ap (λ l. f x ∷ l) (map-append f xs ys)

abbrev texts : List BoolLit → List LinearLit → List (List ℕ)
texts ls ks = map print_number (lits_words ls) ++ map linear_body ks

items_back : (ls : List BoolLit) (ks : List LinearLit) → read_items (texts ls ks) ≡ some (clause_words (clause ls ks))
unfolding read_items
items_back ls ks =
    let zs : List ℤ = lits_words ls in
    let plain : List ℕ → Bool = λ t. not (is_comparison t) in
    let a : select plain (texts ls ks) ≡ map print_number zs = select_append plain (map print_number zs) (map linear_body ks) ∙ rw (select_all print_number plain (λ z. ap not (literal_plain z)) zs, select_none linear_body plain (λ k. ap not (body_comparison k)) ks) (append-nil (map print_number zs)) in
    let b : select is_comparison (texts ls ks) ≡ map linear_body ks = select_append is_comparison (map print_number zs) (map linear_body ks) ∙ rw (select_none print_number is_comparison literal_plain zs, select_all linear_body is_comparison body_comparison ks) refl in
    rw (a, b, integers_back zs, comparisons_back ks, length-map zs print_number, lits_length ls, length-map ks linear_body) refl

-- ---- a clause's lines

spaces_avoid : (m : ℕ) → avoids line_feed (spaces m) ≡ true
spaces_avoid zero = refl
spaces_avoid (suc m) = spaces_avoid m

-- a number's digits are no spaces
not_all : (t : List ℕ) → is_empty t ≡ false → avoids space t ≡ true → all (λ b. eqb b space) t ≡ false
not_all [] h k = absurd (false≢true (sym h))
not_all (b ∷ bs) h k = go (eqb b space) (and_l (not (eqb b space)) (avoids space bs) k)
  where
    go : (x : Bool) → not x ≡ true → x && all (λ b. eqb b space) bs ≡ false
    go true e = absurd (false≢true e)
    go false e = refl

module _ (k : ℕ) (h : k < 100000000) where
  abbrev digits : List ℕ
  digits = print_natural k

  abbrev line : List ℕ
  line = spaces (8 - length digits) ++ (digits ++ spaces 2)

  line_ten : length line ≡ 10
  line_ten = omega (arith, length-append (spaces (8 - length digits)) (digits ++ spaces 2), length-append digits (spaces 2), length-replicate {A = ℕ} (8 - length digits) 32, natural_short 7 k (omega (arith, h)))

  line_free : avoids line_feed line ≡ true
  line_free = avoids_append line_feed (spaces (8 - length digits)) (digits ++ spaces 2) (spaces_avoid (8 - length digits)) (avoids_append line_feed digits (spaces 2) (natural_avoids line_feed (λ b l u e. omega arith) k) refl)

  line_rest : drop 10 line ≡ []
  line_rest = drop_of_length-le line (let q : length line ≤ 10 = omega (arith, line_ten) in q)

  digits_some : is_empty digits ≡ false
  digits_some = unfold print_number in (number_filled (pos k))

  line_leads : goes_on line ≡ false
  unfolding goes_on
  line_leads =
      let test : List ℕ → Bool = all (λ b. eqb b space) in
      let e : take 10 line ≡ line = take_all 10 line (let q : length line ≤ 10 = omega (arith, line_ten) in q) in
      let d : test digits ≡ false = not_all digits digits_some (natural_avoids space (λ b l u e. omega arith) k) in
      ap test e ∙ all_append (λ b. eqb b space) (spaces (8 - length digits)) (digits ++ spaces 2) ∙ ap (λ (x : Bool). test (spaces (8 - length digits)) && x) (all_append (λ b. eqb b space) digits (spaces 2) ∙ rw d refl) ∙ and_false (test (spaces (8 - length digits)))
    where
      and_false : (x : Bool) → x && false ≡ false
      and_false true = refl
      and_false false = refl

  numbered_read : Read (numbered k) []
  unfolding numbered line_tokens
  numbered_read = record {
    glue = λ U. ap (λ (x : List ℕ). glued (tokens x ++ U)) line_rest ∙ ap (λ (x : List (List ℕ)). glued (x ++ U)) tokens_none;
    start = λ b. line_rest;
    long = omega (arith, line_ten);
    leads = ap (λ (x : Bool). not x && true) line_leads;
    sounds = and_i (sound line) true (and_i (leb 10 (length line)) (avoids line_feed line) (le-leb 10 (length line) (omega (arith, line_ten))) line_free) refl;
  }

lits_good : (zs : List ℤ) (is : List Item) → AllGood is → AllGood (map literal_item zs ++ is)
lits_good [] is g = g
lits_good (z ∷ zs) is g = AllGood.more (literal_good z) (lits_good zs is g)

linears_good : (ks : List LinearLit) → AllGood (map linear_item ks)
linears_good [] = AllGood.good_nil
linears_good (k ∷ ks) = AllGood.more (linear_good k) (linears_good ks)

flats_are : (ls : List BoolLit) (ks : List LinearLit) → map flat (items_of (clause ls ks)) ≡ texts ls ks
unfolding items_of
flats_are ls ks = map-append flat (map literal_item (lits_words ls)) (map linear_item ks) ∙ rw (lits (lits_words ls), linears ks) refl
  where
    lits : (zs : List ℤ) → map flat (map literal_item zs) ≡ map print_number zs
    lits [] = refl
    lits (z ∷ zs) = rw (append-nil (print_number z), lits zs) refl

    linears : (ks : List LinearLit) → map flat (map linear_item ks) ≡ map linear_body ks
    linears [] = refl
    linears (k ∷ ks) = rw (linear_flat k, linears ks) refl

abbrev pub page_lines : ℕ → Clause → List (List ℕ)
page_lines k c = all_lines (place_items (items_of c) (numbered k))

record ClauseRead (c : Clause) (ls : List (List ℕ)) : Type 0 where
  pub items : read_items (glued (toks ls)) ≡ some (clause_words c)
  pub leads : led ls ≡ true
  pub sounds : all sound ls ≡ true

glued_none : glued [] ≡ []
unfolding glued
glued_none = refl

clause_read : (k : ℕ) → k < 100000000 → (c : Clause) → ClauseRead c (page_lines k c)
unfolding all_lines
clause_read k h (clause ls ks) =
    let r : Read (place_items (items_of (clause ls ks)) (numbered k)) (map flat (items_of (clause ls ks))) = items_read (unfold items_of in (lits_good (lits_words ls) (map linear_item ks) (linears_good ks))) (numbered_read k h) in
    let P = place_items (items_of (clause ls ks)) (numbered k) in
    let e : toks (P.lines ++ (P.line ∷ [])) ≡ (toks P.lines ++ line_tokens P.line) ++ [] = toks_snoc P.lines P.line ∙ sym (append-nil (toks P.lines ++ line_tokens P.line)) in
    let g : glued (toks (P.lines ++ (P.line ∷ []))) ≡ texts ls ks = ap glued e ∙ r.glue [] ∙ (ap (λ (x : List (List ℕ)). map flat (items_of (clause ls ks)) ++ x) glued_none ∙ append-nil (map flat (items_of (clause ls ks)))) ∙ flats_are ls ks in
    record { items = ap read_items g ∙ items_back ls ks; leads = r.leads; sounds = r.sounds }

-- ---- all lines

abbrev pad : List ℕ → List ℕ
pad l = l ++ spaces (80 - length l)

full_split : (l rest : List ℕ) → avoids line_feed l ≡ true → split line_feed (full l ++ rest) ≡ pad l ∷ split line_feed rest
unfolding full
full_split l rest h =
    let e : (l ++ (spaces (80 - length l) ++ (line_feed ∷ []))) ++ rest ≡ pad l ++ (line_feed ∷ rest) = simp append_assoc in
    ap (split line_feed) e ∙ split_at line_feed (pad l) rest (avoids_append line_feed l (spaces (80 - length l)) h (spaces_avoid (80 - length l)))

lines_split : (ls : List (List ℕ)) → all sound ls ≡ true → split line_feed (flat (map full ls)) ≡ map pad ls ++ ([] ∷ [])
lines_split [] h = unfold split in refl
lines_split (l ∷ ls) h =
    let s : sound l ≡ true = and_l (sound l) (all sound ls) h in
    full_split l (flat (map full ls)) (and_r (leb 10 (length l)) (avoids line_feed l) s) ∙ ap (λ (x : List (List ℕ)). pad l ∷ x) (lines_split ls (and_r (sound l) (all sound ls) h))

pad_on : (l : List ℕ) → sound l ≡ true → goes_on (pad l) ≡ goes_on l
unfolding goes_on
pad_on l h = ap (all (λ b. eqb b space)) (take-append-le 10 l (spaces (80 - length l)) (leb-true 10 (length l) (and_l (leb 10 (length l)) (avoids line_feed l) h)))

pad_tokens : (l : List ℕ) → sound l ≡ true → line_tokens (pad l) ≡ line_tokens l
unfolding line_tokens
pad_tokens l h = ap tokens (drop-append-le 10 l (spaces (80 - length l)) (leb-true 10 (length l) (and_l (leb 10 (length l)) (avoids line_feed l) h))) ∙ tokens_pad (80 - length l) (drop 10 l)

grouped_on : (l : List ℕ) (ls : List (List ℕ)) → goes_on l ≡ true → grouped (l ∷ ls) ≡ record { pending = line_tokens l ++ (grouped ls).pending; clauses = (grouped ls).clauses }
unfolding grouped
grouped_on l ls h = rw h refl

grouped_start : (l : List ℕ) (ls : List (List ℕ)) → goes_on l ≡ false → grouped (l ∷ ls) ≡ record { pending = []; clauses = (line_tokens l ++ (grouped ls).pending) ∷ (grouped ls).clauses }
unfolding grouped
grouped_start l ls h = rw h refl

read_more : (ts : List (List ℕ)) (cs : List (List (List ℕ))) (xs ys : List ℤ) → read_items (glued ts) ≡ some xs → read_clauses cs ≡ some ys → read_clauses (ts ∷ cs) ≡ some (xs ++ ys)
unfolding read_clauses
read_more ts cs xs ys h k = rw (h, k) refl

goes_grouped : (ls rest : List (List ℕ)) → all goes_on ls ≡ true → all sound ls ≡ true → grouped (map pad ls ++ rest) ≡ record { pending = toks ls ++ (grouped rest).pending; clauses = (grouped rest).clauses }
goes_grouped [] rest h k = refl
goes_grouped (l ∷ ls) rest h k =
    let s : sound l ≡ true = and_l (sound l) (all sound ls) k in
    let e : goes_on (pad l) ≡ true = pad_on l s ∙ and_l (goes_on l) (all goes_on ls) h in
    let f = goes_grouped ls rest (and_r (goes_on l) (all goes_on ls) h) (and_r (sound l) (all sound ls) k) in
    grouped_on (pad l) (map pad ls ++ rest) e ∙ rw (pad_tokens l s, f) (ap (λ (x : List (List ℕ)). record { pending = x; clauses = (grouped rest).clauses }) (sym (append_assoc (line_tokens l) (toks ls) (grouped rest).pending)))

clause_grouped : (ls rest : List (List ℕ)) → led ls ≡ true → all sound ls ≡ true → (grouped rest).pending ≡ [] → grouped (map pad ls ++ rest) ≡ record { pending = []; clauses = toks ls ∷ (grouped rest).clauses }
clause_grouped [] rest h k p = absurd (false≢true h)
clause_grouped (l ∷ ls) rest h k p =
    let s : sound l ≡ true = and_l (sound l) (all sound ls) k in
    let e : goes_on (pad l) ≡ false = pad_on l s ∙ not-true (goes_on l) (and_l (not (goes_on l)) (all goes_on ls) h) in
    let f = goes_grouped ls rest (and_r (not (goes_on l)) (all goes_on ls) h) (and_r (sound l) (all sound ls) k) in
    grouped_start (pad l) (map pad ls ++ rest) e ∙ rw (pad_tokens l s, f, p, append-nil (toks ls)) refl

-- ---- the sheet

abbrev pub lines_of : ℕ → List Clause → List (List ℕ)
lines_of k [] = []
lines_of k (c ∷ cs) = page_lines k c ++ lines_of (suc k) cs

lines_sound : (k : ℕ) (cs : List Clause) → k + length cs ≤ 100000000 → all sound (lines_of k cs) ≡ true
lines_sound k [] h = refl
lines_sound k (c ∷ cs) h = all_append sound (page_lines k c) (lines_of (suc k) cs) ∙ and_i (all sound (page_lines k c)) _ (clause_read k (omega arith) c).sounds (lines_sound (suc k) cs (omega arith))

sheet_suc : (k n : ℕ) (ws : List ℤ) → 0 < length ws → sheet_lines k (suc n) ws ≡ all_lines (place_items (clause_items ws) (numbered k)) ++ sheet_lines (suc k) n (print_clause ws).rest
unfolding sheet_lines
sheet_suc k n [] h = absurd (omega arith)
sheet_suc k n (w ∷ ws) h = refl

pub lines_shown : (k : ℕ) (cs : List Clause) (r : List ℤ) → sheet_lines k (length cs) (flat (map clause_words cs) ++ r) ≡ lines_of k cs
lines_shown k [] r = unfold sheet_lines in refl
lines_shown k (c ∷ cs) r =
    let rest : List ℤ = flat (map clause_words cs) ++ r in
    ap (sheet_lines k (suc (length cs))) (append_assoc (clause_words c) (flat (map clause_words cs)) r)
    ∙ sheet_suc k (length cs) (clause_words c ++ rest) (omega (arith, clause_filled c, length-append (clause_words c) rest))
    ∙ rw (clause_shown_items c rest, clause_shown c rest, lines_shown (suc k) cs r) refl

abbrev end : List (List ℕ)
end = [] ∷ []

clauses_grouped : (k : ℕ) (cs : List Clause) → k + length cs ≤ 100000000
    → ((grouped (map pad (lines_of k cs) ++ end)).pending ≡ []) × (read_clauses (grouped (map pad (lines_of k cs) ++ end)).clauses ≡ some (flat (map clause_words cs))) × (length (grouped (map pad (lines_of k cs) ++ end)).clauses ≡ length cs)
clauses_grouped k [] h = unfold grouped goes_on line_tokens tokens split read_clauses in (refl, refl, refl)
clauses_grouped k (c ∷ cs) h =
    let r = clause_read k (omega arith) c in
    let q = clauses_grouped (suc k) cs (omega arith) in
    let rest : List (List ℕ) = map pad (lines_of (suc k) cs) ++ end in
    let e : grouped (map pad (page_lines k c ++ lines_of (suc k) cs) ++ end) ≡ record { pending = []; clauses = toks (page_lines k c) ∷ (grouped rest).clauses } =
    ap grouped (ap (λ (x : List (List ℕ)). x ++ end) (map-append pad (page_lines k c) (lines_of (suc k) cs)) ∙ append_assoc (map pad (page_lines k c)) (map pad (lines_of (suc k) cs)) end) ∙ clause_grouped (page_lines k c) rest r.leads r.sounds q.0 in
    (ap (λ (g : Grouped). g.pending) e, ap (λ (g : Grouped). read_clauses g.clauses) e ∙ read_more (toks (page_lines k c)) (grouped rest).clauses (clause_words c) (flat (map clause_words cs)) r.items q.1, ap (λ (g : Grouped). length g.clauses) e ∙ ap suc q.2)

pub clauses_sheet_back : (cs : List Clause) → length cs < 100000000 → read_sheet (print_sheet (counted clause_words cs)) ≡ some (counted clause_words cs)
unfolding read_sheet print_sheet
clauses_sheet_back cs h =
    let ws : List ℤ = flat (map clause_words cs) in
    let l : sheet_lines 1 (length cs) ws ≡ lines_of 1 cs = ap (sheet_lines 1 (length cs)) (sym (append-nil ws)) ∙ lines_shown 1 cs [] in
    let q = clauses_grouped 1 cs (omega arith) in
    rw (l, lines_split (lines_of 1 cs) (lines_sound 1 cs (omega arith)), q.1, q.2) refl
