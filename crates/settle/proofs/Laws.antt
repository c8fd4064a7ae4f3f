-- What `accept` and `optimize` answer is what the definition says of the set; and what they leave in the work slice is ready for numbering.
use mathlib.Core.Path.{◌≡◌, refl, sym, ap, ◌∙◌, subst}
use mathlib.Core.Bool.{Bool, true, false}
use mathlib.Core.Option.{Option, none, some}
use mathlib.Core.List.{List, [], ◌++◌}
use Prim.Native.Nat.{ℕ, zero, suc, ◌+◌, ◌≤◌, ◌<◌}
use native.Mathlib.Omega.{arith}
use lib.IntN.{ℤ, pos}
use lib.ListN.{length, take, drop, get_or, take-append-drop, length-append, length-replicate, get_or-replicate, length-drop, get_or-append}
use lib.Seq.{length-sets, get_or-drop, drop-drop, drop_at, length-take-le, take-append-le, drop-append-le}
use borrow.Author.Tests.{ltb-false}
use Rattle.laws.specs.Slices.{Has, zeros}
use Rattle.memory.specs.Places.{folded, folded_end, bool_map, int_map, maps_end, bounds}
use Rattle.memory.specs.Number.{nat}
use Rattle.syntax.specs.Words.{max_set_words, min_work_words, max_bools}
use Rattle.syntax.specs.Syntax.{Stmt, Problem}
use Rattle.words.specs.Parse.{ok}
use Rattle.reader.specs.declared.Declared.{Declared}
use Rattle.std.specs.Prelude.{Ok, Err}
use Rattle.domains.specs.Declared.{bounds_words}
use Rattle.accept.specs.Accepted.{accepted, table_after}
use Rattle.accept.specs.Taken.{Taken, accepted_ok, accepted_refused, taken_set, taken_table, declared_is}
use Rattle.fold.specs.Fold.{Fixed}
use Rattle.fold.specs.Table.{state_num}
use Rattle.fold.specs.Optimize.{Outcome, inconsistent, settled, optimize}
use Rattle.propagate.specs.Optimized.{Settles, outcome}
use Rattle.answer.specs.Answer.{fixed_word}
use Rattle.walk.specs.Item.{bool_at, int_entry}
use Rattle.walk.specs.Decode.{read_part}
use Rattle.statements.specs.Whole.{Empty}
use Rattle.statements.specs.Stages.{stmts_words, Folded}
use Rattle.settle.specs.declared.Settling.{Settling}
use Rattle.settle.specs.declared.Settling.TheVariants as settling
use Rattle.settle.specs.Settle.{settling_of, settling_checked, settling_read, settling as settling-words, maps_empty, Left, SettlePost, TakenIn, SomeTaken, LeftOf, Folds, FoldPost}

-- ---- refusals 1 to 11

module _ (n : ℕ) (ws : List ℤ) where
  refused_is : (k : ℕ) → accepted n ws ≡ Err k → settling.Refused k ≡ settling-words n ws
  unfolding settling-words settling_read settling_checked
  refused_is k h =
      accepted_refused n ws k h
      (λ a e. rw (a, e) refl)
      (λ a b e. rw (a, b, e) refl)
      (λ a b e. rw (a, b, e) refl)
      (λ p r m a b e x z. rw (a, b, e, x, z) refl)

  taken_is : (d : Declared) (t : Taken n ws d) → settling-words n ws ≡ settling_of t.it (optimize t.it)
  unfolding settling-words settling_read settling_checked
  taken_is d t = rw (t.enough, t.short, t.says, t.unrefused) refl

-- ---- the maps emptied

pub cleared_is : (w ys : List ℤ) → maps_end ≤ length w → ys ≡ zeros (length (take 768 (drop bool_map w))) → take bool_map w ++ (ys ++ drop 768 (drop bool_map w)) ≡ maps_empty w
unfolding maps_empty
cleared_is w ys h e =
    let n : length (take 768 (drop bool_map w)) ≡ 768 = length-take-le 768 (drop bool_map w) (omega (arith, length-drop bool_map w)) in
    ap (λ (z : List ℤ). take bool_map w ++ (z ++ drop 768 (drop bool_map w))) (e ∙ ap zeros n)
    ∙ ap (λ (z : List ℤ). take bool_map w ++ (zeros 768 ++ z)) (drop-drop 768 bool_map w)

module _ (w : List ℤ) (h : min_work_words ≤ length w) where
  empty_above : drop bool_map (maps_empty w) ≡ zeros 768 ++ drop maps_end w
  unfolding maps_empty
  empty_above = drop_at (take bool_map w) (zeros 768 ++ drop maps_end w) bool_map (length-take-le bool_map w (omega arith))

  empty_length : length (maps_empty w) ≡ length w
  unfolding maps_empty
  empty_length =
      omega (
        arith,
        length-append (take bool_map w) (zeros 768 ++ drop maps_end w),
        length-take-le bool_map w (omega arith),
        length-append (zeros 768) (drop maps_end w),
        length-replicate 768 (pos 0),
        length-drop maps_end w,
        h,
      )

  zero_at : (v : ℕ) → v < 768 → get_or (maps_empty w) (bool_map + v) (pos 0) ≡ pos 0
  zero_at v k =
      sym (get_or-drop bool_map (maps_empty w) v (pos 0))
      ∙ ap (λ (l : List ℤ). get_or l v (pos 0)) empty_above
      ∙ get_or-append (zeros 768) (drop maps_end w) (pos 0) v (omega (arith, k, length-replicate 768 (pos 0)))
      ∙ get_or-replicate 768 v (pos 0) (pos 0) k

  emptied : Empty (maps_empty w)
  unfolding bool_at int_entry nat
  emptied = record {
    bools = λ v k. zero_at v (omega arith);
    ints = λ v k. let e : int_map + v ≡ bool_map + (max_bools + v) = omega arith in ap nat (ap (λ (i : ℕ). get_or (maps_empty w) i (pos 0)) e ∙ zero_at (max_bools + v) (omega arith));
    size = omega (arith, empty_length, h);
  }

-- ---- an accepted set, over any work slice

module _ (ws work : List ℤ) (d : Declared) (t : Taken (length work) ws d) where
  table_length : length (table_after ws work) ≡ length work
  table_length = ap length (taken_table (length work) ws d t work refl) ∙ length-sets work bounds (bounds_words t.it.domains)

  table_long : min_work_words ≤ length (table_after ws work)
  table_long = omega (arith, table_length, ltb-false (length work) min_work_words t.enough)

  taken_in : (w : List ℤ) → w ≡ maps_empty (table_after ws work) → TakenIn t.it ws w d.bools d.ints
  taken_in w e =
      let s = taken_set (length work) ws d t in
      let q = declared_is (length work) ws d t in
      record {
        words = s.words;
        well = s.well;
        unrefused = t.unrefused;
        short = omega (arith, ltb-false max_set_words (length ws) t.short);
        empty = rw e (emptied (table_after ws work) table_long);
        bools = ap (λ (x : Declared). x.bools) q;
        ints = ap (λ (x : Declared). x.ints) q;
      }

  same : length (maps_empty (table_after ws work)) ≡ length work
  same = empty_length (table_after ws work) table_long ∙ table_length

  left_to : (r : Settling) (work' : List ℤ) → LeftOf t.it r (maps_empty (table_after ws work)) work' → Left r ws work work'
  left_to (settling.Refused k) work' h = h ∙ ap zeros same
  left_to settling.Contradiction work' h = h ∙ ap zeros same
  left_to (settling.Folded q) work' h = record {
    folded = λ p f ss e o. let m : t.it ≡ p = (let z : ok t.it [] ≡ ok p [] = sym t.says ∙ e in cc) in subst (λ (x : Problem). Folded x f ss work') m (h.0 f ss (ap optimize m ∙ o));
    above = h.1 ∙ empty_above (table_after ws work) table_long;
  }

-- ---- the two answers of `accept`

module _ (ws work : List ℤ) where
  pub settle_refused : (k : ℕ) → accepted (length work) ws ≡ Err k → (after last : List ℤ) → length after ≡ length work → last ≡ zeros (length after) → SettlePost ws work last (settling.Refused k)
  settle_refused k e after last l z = record { answer = refused_is (length work) ws k e; left = z ∙ ap zeros l }

  module _ (d : Declared) (e : accepted (length work) ws ≡ Ok d) (after : List ℤ) (after_is : after ≡ table_after ws work) where
    t : Taken (length work) ws d
    t = accepted_ok (length work) ws d e

    pub settle_room : maps_end ≤ length after
    settle_room = omega (arith, ap length after_is, table_long ws work d t)

    module _ (w : List ℤ) (w-is : w ≡ maps_empty after) where
      emptied_is : w ≡ maps_empty (table_after ws work)
      emptied_is = w-is ∙ ap maps_empty after_is

      pub settle_taken : SomeTaken ws w d.bools d.ints
      settle_taken = record { it = t.it; taken = taken_in ws work d t w emptied_is }

      pub settle_post : (last : List ℤ) (r : Settling) → FoldPost ws w d.bools d.ints last r → SettlePost ws work last r
      settle_post last r h =
          let f : Folds t.it (maps_empty (table_after ws work)) last r = subst (λ (l : List ℤ). Folds t.it l last r) emptied_is (h t.it (taken_in ws work d t w emptied_is)) in
          record { answer = f.answer ∙ sym (taken_is (length work) ws d t); left = left_to ws work d t r last f.left }

-- ---- folding and propagation

word_of : (k : Option Bool) → pos (state_num k) ≡ fixed_word k
word_of none = refl
word_of (some false) = refl
word_of (some true) = refl

-- what stands below 4608 stands in the part that is read
part_has : (w : List ℤ) (at : ℕ) (us : List ℤ) → folded_end ≤ length w → at + length us ≤ folded_end → Has w at us → Has (read_part w) at us
unfolding read_part
part_has w at us k l h =
    let a : List ℤ = take folded_end w in
    let n : length a ≡ folded_end = length-take-le folded_end w k in
    let e : drop at w ≡ drop at a ++ drop folded_end w = ap (drop at) (sym (take-append-drop folded_end w)) ∙ drop-append-le at a (drop folded_end w) (omega arith) in
    sym (ap (take (length us)) e ∙ take-append-le (length us) (drop at a) (drop folded_end w) (omega (arith, length-drop at a))) ∙ h

settled_is : (x : Outcome) (status : ℕ) (f : Fixed) (ss : List Stmt) → status ≡ 0 → x ≡ outcome status f ss → x ≡ settled f ss
settled_is x status f ss z e = rw z at e

inconsistent_is : (x : Outcome) (status : ℕ) (f : Fixed) (ss : List Stmt) → (status ≡ 0 → ⊥) → x ≡ outcome status f ss → x ≡ inconsistent
inconsistent_is x zero f ss z e = absurd (z refl)
inconsistent_is x (suc k) f ss z e = e

module _ (p : Problem) (ws w w' : List ℤ) (b i : ℕ) (h : TakenIn p ws w b i) (status end : ℕ) (s : Settles (optimize p) max_set_words w w' status end) where
  kept_at : (v : ℕ) → get_or w' (bool_map + v) (pos 0) ≡ get_or w (bool_map + v) (pos 0)
  kept_at v = sym (get_or-drop bool_map w' v (pos 0)) ∙ ap (λ (l : List ℤ). get_or l v (pos 0)) s.above ∙ get_or-drop bool_map w v (pos 0)

  folded_is : (f : Fixed) (ss : List Stmt) → optimize p ≡ settled f ss → f ≡ s.fixed → ss ≡ s.folded → length w' ≡ length w → Folded p f ss w'
  unfolding bool_at int_entry
  folded_is f ss o ef es l = record {
    set = record { well = h.well; unrefused = h.unrefused; short = omega (arith, ap length h.words, h.short); ends = o };
    values = λ v k. s.values.cells v k ∙ word_of (s.fixed v) ∙ ap (λ (g : Fixed). fixed_word (g v)) (sym ef);
    stands = rw es (part_has w' folded (stmts_words s.folded) (omega (arith, h.empty.size)) (omega (arith, s.ends, s.fits)) s.words);
    empty = record {
      bools = λ v k. kept_at v ∙ h.empty.bools v k;
      ints = λ v k. let e : int_map + v ≡ bool_map + (max_bools + v) = omega arith in ap nat (rw e (kept_at (max_bools + v))) ∙ h.empty.ints v k;
      size = omega (arith, h.empty.size);
    };
  }

  pub fold_settled : status ≡ 0 → length w' ≡ length w → Folds p w w' (settling.Folded (record { end = end; bools = b; ints = i }))
  unfolding settling_of
  fold_settled z l =
      let o : optimize p ≡ settled s.fixed s.folded = settled_is (optimize p) status s.fixed s.folded z s.is in
      record {
        answer = rw (o, s.ends, h.bools, h.ints) refl;
        left = (
          λ f ss e. let q : settled f ss ≡ settled s.fixed s.folded = sym e ∙ o in folded_is f ss e (cc) (cc) l,
          s.above,
        );
      }

  pub fold_contradiction : (status ≡ 0 → ⊥) → (w'' : List ℤ) → w'' ≡ zeros (length w') → length w' ≡ length w → Folds p w w'' settling.Contradiction
  unfolding settling_of
  fold_contradiction z w'' e l = record {
    answer = sym (ap (settling_of p) (inconsistent_is (optimize p) status s.fixed s.folded z s.is));
    left = e ∙ ap zeros l;
  }
