-- Where no If stands, the words that are written by the final maps are those of stages' parts (`different_text`, `different_part_lines`, `different_behind`), and
-- every addition has room within refusals 9 and 10 (`different_asked`). w: the work slice with the final maps; ds: the declared domains.
use Rattle.std.specs.Prelude.{◌≡◌, false, ℕ, ◌+◌, ◌≤◌, ℤ}
use Rattle.std.proofs.Math.Path.{refl, sym, ap}
use Rattle.std.proofs.Common.{◌∙◌}
use mathlib.Core.List.{List, [], ◌∷◌, ◌++◌, map, append-nil, append_assoc}
use native.Mathlib.Omega.{arith}
use Rattle.std.proofs.Math.ListN.{length, length-append}
use Rattle.laws.specs.Slices.{has_front, has_back}
use Rattle.memory.specs.Places.{folded, folded_end, limit}
use Rattle.syntax.specs.Syntax.{Domain, Ne, IntExpr, Cmp, encode_int}
use Rattle.answer.specs.Answer.{clause_words}
use Rattle.different.specs.Different.{values_used_up}
use Rattle.walk.specs.Item.{bump, lines_of}
use Rattle.walk.specs.Decode.{read_part}
use Rattle.walk.specs.declared.Counters.{Counters}
use Rattle.walks.specs.Tree.{never, below, here, nil, cons, cmp, splits, splits_int, resolve_int}
use Rattle.walks.specs.Form.{Form, cmp as form-cmp, int_form, form}
use Rattle.walks.specs.Resolve.{pair_trees}
use Rattle.walks.specs.Item.{counters, has_ifs, more_bools, Item, counts, cmp_item, items, form_item, form_int_item}
use Rattle.walks.specs.Decode.{IntRead, decode_int}
use Rattle.walks.specs.DecodeExact.{decode_int_is}
use Rattle.walks.specs.Written.{written, written_lines}
use Rattle.walks.specs.Off.{ItemOff, int_form_off, form_off}
use Rattle.walks.specs.SumsFit.{WithinSides, WithinLater, WithinPairs, comparison_form_fits}
use Rattle.rows.specs.Emit.{clauses_words}
use Rattle.scan.specs.IfLaws.{Low}
use Rattle.statements.specs.Different.{value_clause}
use Rattle.stages.specs.StatementsParts.{Stage, parts, parts_text, parts_lines, NoIfs}
use Rattle.stages.specs.Pairs.{pair_stage, sides_words, row_stages, pairs_stages}
use Rattle.stages.specs.Different.{values_stages, different_stages}
use Rattle.stages.specs.StatementsEach.{parts_behind}
use Rattle.stmtwords.specs.NoIf.{NoIf, none_int, no_splits, no_ties}
use Rattle.differing.specs.Standing.{At, Standing}
use Rattle.differing.specs.Pair.{pair_words, PairFits}
use Rattle.differing.specs.Rows.{end_at, row_words, RowFits, pairs_words, PairsFit, pair_count}
use Rattle.differing.specs.Values.{Over}
use Rattle.differing.specs.Different.{different_words, different_lines, SomeDifferent}

module _ (w : List ℤ) where
  -- ---- an expression without Ifs at a place

  pub record Side (p : ℕ) (e : IntExpr) : Type 0 where
    pub stands : At w p e
    pub plain : NoIf e

  module _ (p : ℕ) (e : IntExpr) (h : Side p e) where
    side_is : (n : ℕ) → n ≤ limit → decode_int (read_part w) 64 here p n ≡ record { tree = int_form (resolve_int e here p n); end = p + length (encode_int e); next = n }
    side_is n l =
        let z = no_splits e here h.plain in
        decode_int_is e 64 here (read_part w) p n h.stands.legal h.stands.words (omega (arith, z)) ∙ ap (λ k. record { tree = int_form (resolve_int e here p n); end = p + length (encode_int e); next = k }) (omega (arith, z))

    side_end : end_at w p ≡ p + length (encode_int e)
    side_end = ap (λ (r : IntRead). r.end) (decode_int_is e 64 never (read_part w) p 0 h.stands.legal h.stands.words (omega (arith, no_splits e never h.plain)))

  unfoldable pub Sides : ℕ → List IntExpr → Type 0
  Sides p [] = Unit {0}
  Sides p (e ∷ es) = Side p e × Sides (p + length (encode_int e)) es

  -- expressions that stand where no If is before b
  pub sides : (b : ℕ) → NoIfs (read_part w) b → (es : List IntExpr) (p count : ℕ) → Standing w p count es → folded ≤ p → p + length (sides_words es) ≤ b → Sides p es
  unfolding Sides
  sides b none [] p count s l m = tt
  sides b none (e ∷ es) p count s l m =
      let i = length-append (encode_int e) (sides_words es) in
      let h = has_front (read_part w) p (encode_int e) (sides_words es) s.words in (
        record { stands = record { words = h; legal = s.legal.0 }; plain = none_int (read_part w) b none e 64 p (omega arith) s.legal.0 h l (omega (arith, i)) },
        sides b none es (p + length (encode_int e)) (length es) (record { words = has_back (read_part w) p (encode_int e) (sides_words es) s.words; counted = refl; legal = s.legal.1; size = s.size }) (omega arith) (omega (arith, i)),
      )

  module _ (off : has_ifs w ≡ false) (ds : List Domain) (n : Counters) (low : Low n) where
    -- ---- a pair

    module _ (p q : ℕ) (a b : IntExpr) (x : Side p a) (y : Side q b) where
      abbrev m : ℕ
      m = n.bools

      abbrev compared : Form
      compared = form-cmp Ne (int_form (resolve_int a here p m)) (int_form (resolve_int b here q m)) false

      trees_are : pair_trees a b p q m ≡ cons (cmp Ne (resolve_int a here p m) (resolve_int b here q m) false) nil
      trees_are =
          let s : m + splits_int a here ≡ m = omega (arith, no_splits a here x.plain) in
          rw (s, no_ties a here p m x.plain, no_ties b here q m y.plain) refl

      items_are : items ds (pair_trees a b p q m) ≡ form_item ds compared ∷ []
      unfolding form_item form
      items_are = ap (items ds) trees_are

      counters_are : more_bools (splits (Cmp Ne a b) below) n ≡ n
      unfolding splits
      counters_are =
          let z : bump m (splits_int a here + splits_int b here) ≡ m = omega (arith, no_splits a here x.plain, no_splits b here y.plain, low.0) in
          ap (λ k. counters k n.ints) z

      is_off : ItemOff w off (form_item ds compared)
      is_off = form_off w off ds compared

      words_are : (form_item ds compared).text w n [] ≡ pair_words w n p q ds
      unfolding pair_words form_item cmp_item
      words_are = rw (side_is p a x m low.0, side_is q b y m low.0) refl

      pair_text : (rec cap stop : ℕ) → (pair_stage ds rec cap a b p q stop).part.text w n ≡ pair_words w n p q ds
      unfolding written
      pair_text rec cap stop =
          ap (λ (is : List Item). written is w (more_bools (splits (Cmp Ne a b) below) n)) items_are
          ∙ ap (written (form_item ds compared ∷ []) w) counters_are
          ∙ append-nil ((form_item ds compared).reg w n ++ (form_item ds compared).text w n [])
          ∙ ap (λ (us : List ℤ). us ++ (form_item ds compared).text w n []) (is_off.reg n)
          ∙ words_are

      pair_lines : (rec cap stop : ℕ) → (pair_stage ds rec cap a b p q stop).part.lines w n ≡ 1
      unfolding written_lines form_item cmp_item lines_of
      pair_lines rec cap stop =
          ap (λ (is : List Item). written_lines is w (more_bools (splits (Cmp Ne a b) below) n)) items_are
          ∙ ap (written_lines (form_item ds compared ∷ []) w) counters_are
          ∙ ap (λ k. bump (bump k 1) 0) (is_off.lines n)

      pair_behind : (rec cap stop : ℕ) → (pair_stage ds rec cap a b p q stop).part.behind w n ≡ n
      unfolding counts form_item cmp_item
      pair_behind rec cap stop =
          let f = int_form_off w off ds (int_form (resolve_int a here p m)) in
          let g = int_form_off w off ds (int_form (resolve_int b here q m)) in
          ap (λ (is : List Item). counts is w (more_bools (splits (Cmp Ne a b) below) n)) items_are
          ∙ ap (counts (form_item ds compared ∷ []) w) counters_are
          ∙ ap ((form_int_item ds (int_form (resolve_int b here q m))).behind w) (f.behind n)
          ∙ g.behind n

      pair_fits : WithinSides ds a b → PairFits w n p q
      pair_fits h = record { domains = ds; fits = rw (side_is p a x m low.0, side_is q b y m low.0) (comparison_form_fits ds w n a b here here p m q m h.light h.few) }

    -- ---- all pairs, in front of what follows

    module _ (rec cap stop : ℕ) where
      abbrev text_of : List Stage → List ℤ
      text_of xs = parts_text (parts xs) w n

      row_text : (a : IntExpr) (p : ℕ) → Side p a → (bs : List IntExpr) (q : ℕ) (xs : List Stage) → Sides q bs → text_of (row_stages ds rec cap stop a p bs q xs) ≡ row_words w n ds p q (length bs) ++ text_of xs
      unfolding row_stages row_words parts_text Sides
      row_text a p x [] q xs s = refl
      row_text a p x (b ∷ bs) q xs s =
          let r = q + length (encode_int b) in
          let rest : List Stage = row_stages ds rec cap stop a p bs r xs in
          ap (λ (us : List ℤ). us ++ parts_text (parts rest) w ((pair_stage ds rec cap a b p q stop).part.behind w n)) (pair_text p q a b x s.0 rec cap stop)
          ∙ ap (λ (k : Counters). pair_words w n p q ds ++ parts_text (parts rest) w k) (pair_behind p q a b x s.0 rec cap stop)
          ∙ ap (λ (us : List ℤ). pair_words w n p q ds ++ us) (row_text a p x bs r xs s.1)
          ∙ sym (append_assoc (pair_words w n p q ds) (row_words w n ds p r (length bs)) (text_of xs))
          ∙ ap (λ (i : ℕ). (pair_words w n p q ds ++ row_words w n ds p i (length bs)) ++ text_of xs) (sym (side_end q b s.0))

      pairs_text : (es : List IntExpr) (p : ℕ) (xs : List Stage) → Sides p es → text_of (pairs_stages ds rec cap stop es p xs) ≡ pairs_words w n ds p (length es) ++ text_of xs
      unfolding pairs_stages pairs_words Sides
      pairs_text [] p xs s = refl
      pairs_text (e ∷ es) p xs s =
          let q = p + length (encode_int e) in
          row_text e p s.0 es q (pairs_stages ds rec cap stop es q xs) s.1
          ∙ ap (λ (us : List ℤ). row_words w n ds p q (length es) ++ us) (pairs_text es q xs s.1)
          ∙ sym (append_assoc (row_words w n ds p q (length es)) (pairs_words w n ds q (length es)) (text_of xs))
          ∙ ap (λ (i : ℕ). (row_words w n ds p i (length es) ++ pairs_words w n ds i (length es)) ++ text_of xs) (sym (side_end p e s.0))

      values_text : (es : List IntExpr) (ys : List Stage) (xs : List ℤ) → text_of (values_stages ds es stop ys xs) ≡ clauses_words (map (value_clause w es) xs) ++ text_of ys
      unfolding values_stages parts_text
      values_text es ys [] = refl
      values_text es ys (x ∷ xs) =
          ap (λ (us : List ℤ). clause_words (value_clause w es x) ++ us) (values_text es ys xs)
          ∙ sym (append_assoc (clause_words (value_clause w es x)) (clauses_words (map (value_clause w es) xs)) (text_of ys))

      -- the statement's
      pub different_text : (es : List IntExpr) (p : ℕ) (ys : List Stage) → Sides p es → text_of (different_stages ds rec cap es p stop ys) ≡ different_words ds w n p es ++ text_of ys
      unfolding different_stages different_words
      different_text es p ys s =
          let xs = values_used_up ds es in
          pairs_text es p (values_stages ds es stop ys xs) s
          ∙ ap (λ (us : List ℤ). pairs_words w n ds p (length es) ++ us) (values_text es ys xs)
          ∙ sym (append_assoc (pairs_words w n ds p (length es)) (clauses_words (map (value_clause w es) xs)) (text_of ys))

      -- ---- how many clauses

      abbrev lines_of_all : List Stage → ℕ
      lines_of_all xs = parts_lines (parts xs) w n

      row_lines : (a : IntExpr) (p : ℕ) → Side p a → (bs : List IntExpr) (q : ℕ) (xs : List Stage) → Sides q bs → lines_of_all xs ≤ limit → lines_of_all (row_stages ds rec cap stop a p bs q xs) ≡ bump (length bs) (lines_of_all xs)
      unfolding row_stages parts_lines Sides
      row_lines a p x [] q xs s l = omega arith
      row_lines a p x (b ∷ bs) q xs s l =
          let r = q + length (encode_int b) in
          let rest : List Stage = row_stages ds rec cap stop a p bs r xs in
          ap (λ (k : ℕ). bump k (parts_lines (parts rest) w ((pair_stage ds rec cap a b p q stop).part.behind w n))) (pair_lines p q a b x s.0 rec cap stop)
          ∙ ap (λ (k : Counters). bump 1 (parts_lines (parts rest) w k)) (pair_behind p q a b x s.0 rec cap stop)
          ∙ omega (arith, row_lines a p x bs r xs s.1 l)

      pairs_lines : (es : List IntExpr) (p : ℕ) (xs : List Stage) → Sides p es → lines_of_all xs ≤ limit → lines_of_all (pairs_stages ds rec cap stop es p xs) ≡ bump (pair_count (length es)) (lines_of_all xs)
      unfolding pairs_stages pair_count Sides
      pairs_lines [] p xs s l = omega arith
      pairs_lines (e ∷ es) p xs s l =
          let q = p + length (encode_int e) in
          let i = pairs_lines es q xs s.1 l in
          omega (arith, i, row_lines e p s.0 es q (pairs_stages ds rec cap stop es q xs) s.1 (omega (arith, i)))

      values_lines : (es : List IntExpr) (ys : List Stage) (xs : List ℤ) → lines_of_all ys ≤ limit → lines_of_all (values_stages ds es stop ys xs) ≡ bump (length xs) (lines_of_all ys)
      unfolding values_stages parts_lines
      values_lines es ys [] l = omega arith
      values_lines es ys (x ∷ xs) l = omega (arith, values_lines es ys xs l)

      pub different_part_lines : (es : List IntExpr) (p : ℕ) (ys : List Stage) → Sides p es → lines_of_all ys ≤ limit → lines_of_all (different_stages ds rec cap es p stop ys) ≡ bump (different_lines ds es) (lines_of_all ys)
      unfolding different_stages different_lines
      different_part_lines es p ys s l =
          let xs = values_used_up ds es in
          let i = values_lines es ys xs l in
          omega (arith, i, pairs_lines es p (values_stages ds es stop ys xs) s (omega (arith, i)))

      -- ---- no number is taken

      row_behind : (a : IntExpr) (p : ℕ) → Side p a → (bs : List IntExpr) (q : ℕ) (xs : List Stage) → Sides q bs → parts_behind (parts xs) w n ≡ n → parts_behind (parts (row_stages ds rec cap stop a p bs q xs)) w n ≡ n
      unfolding row_stages parts_behind Sides
      row_behind a p x [] q xs s h = h
      row_behind a p x (b ∷ bs) q xs s h =
          let r = q + length (encode_int b) in
          ap (parts_behind (parts (row_stages ds rec cap stop a p bs r xs)) w) (pair_behind p q a b x s.0 rec cap stop) ∙ row_behind a p x bs r xs s.1 h

      pairs_behind : (es : List IntExpr) (p : ℕ) (xs : List Stage) → Sides p es → parts_behind (parts xs) w n ≡ n → parts_behind (parts (pairs_stages ds rec cap stop es p xs)) w n ≡ n
      unfolding pairs_stages Sides
      pairs_behind [] p xs s h = h
      pairs_behind (e ∷ es) p xs s h = let q = p + length (encode_int e) in row_behind e p s.0 es q (pairs_stages ds rec cap stop es q xs) s.1 (pairs_behind es q xs s.1 h)

      values_behind : (es : List IntExpr) (xs : List ℤ) → parts_behind (parts (values_stages ds es stop [] xs)) w n ≡ n
      unfolding values_stages parts_behind
      values_behind es [] = refl
      values_behind es (x ∷ xs) = values_behind es xs

      pub different_behind : (es : List IntExpr) (p : ℕ) → Sides p es → parts_behind (parts (different_stages ds rec cap es p stop [])) w n ≡ n
      unfolding different_stages
      different_behind es p s = let xs = values_used_up ds es in pairs_behind es p (values_stages ds es stop [] xs) s (values_behind es xs)

    -- ---- every addition has room

    row_fits : (a : IntExpr) (p : ℕ) → Side p a → (bs : List IntExpr) (q : ℕ) → Sides q bs → WithinLater ds a bs → RowFits w n p q (length bs)
    unfolding RowFits Sides WithinLater
    row_fits a p x [] q s h = tt
    row_fits a p x (b ∷ bs) q s h = (pair_fits p q a b x s.0 h.0, rw (side_end q b s.0) (row_fits a p x bs (q + length (encode_int b)) s.1 h.1))

    pairs_fit : (es : List IntExpr) (p : ℕ) → Sides p es → WithinPairs ds es → PairsFit w n p (length es)
    unfolding PairsFit Sides WithinPairs
    pairs_fit [] p s h = tt
    pairs_fit (e ∷ es) p s h = rw (side_end p e s.0) (let q = p + length (encode_int e) in (row_fits e p s.0 es q s.1 h.0, pairs_fit es q s.1 h.1))

    -- what `put_different` asks, of expressions that stand where no If is before stop
    pub different_asked : (set : List ℤ) (es : List IntExpr) (at count stop : ℕ) → Over set w at count ds es → NoIfs (read_part w) stop → folded ≤ at → at + length (sides_words es) ≤ stop → stop ≤ folded_end → WithinPairs ds es → SomeDifferent set w n at count
    different_asked set es at count stop o none l m k h =
        let s = o.standing in
        record {
          over = record { domains = ds; exprs = es; it = o };
          pairs = record { size = s.size; low = low; place = omega arith; fits = rw s.counted (pairs_fit es at (sides stop none es at count s l m) h) };
        }
