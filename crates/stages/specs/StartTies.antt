-- Merging with Ifs: what the pass over the folded rules makes of the Boolean map is the map of the merged log (`stmt_tied`, `all_tied`), for statements that
-- are legal for the walks with Ifs; only a rule of two variables is a tie. So the slice behind it is one from which the walks begin (`tied_begun`).
use Rattle.std.specs.Prelude.{◌≡◌, Bool, ℕ, ◌+◌, ◌≤◌, ◌<◌, eqb, ℤ}
use Rattle.std.proofs.Math.Path.{refl}
use Rattle.std.proofs.Common.{ap, ◌∙◌, arith}
use Rattle.std.proofs.Math.Bool.{true, false}
use Rattle.std.proofs.Math.Option.{none}
use mathlib.Core.List.{List, [], ◌∷◌, ◌++◌, map}
use Rattle.std.proofs.Math.IntN.{pos}
use Rattle.std.proofs.Math.ListN.{length}
use Rattle.laws.specs.Slices.{Has, has_front, has_back, has_rest}
use Rattle.memory.specs.Places.{folded, folded_end, limit}
use Rattle.syntax.specs.Syntax.{BoolExpr, Const, Var, NVar, And, Or, Not, Xor, Iff, Imp, Cmp, encode_bool, Stmt, Rule, Table, AllDifferent, encode_stmt}
use Rattle.syntax.specs.Words.{max_bools}
use Rattle.words.specs.Exact.{Each}
use Rattle.clauses.specs.Log.{Log, next_bool}
use Rattle.clauses.specs.Merge.{WellMerged, as_var, tie, merge_rule, merge_stmt, merge_stmts}
use Rattle.walk.specs.Item.{State}
use Rattle.walk.specs.Decode.{word, read_part}
use Rattle.walk.proofs.Num.{code, Numbered}
use Rattle.walks.specs.Item.{has_ifs, cell}
use Rattle.walks.specs.Legal.{Legal, LegalRule, legal_rule}
use Rattle.statements.specs.Bounds.{merge_grows}
use Rattle.statements.specs.Ties.{meet_sides, meet_ties_at, meet_ties, word_is, two_num}
use Rattle.statements.specs.Whole.{start}
use Rattle.stages.specs.StatementsPlaces.{stmts_words, LegalStmt}
use Rattle.stages.specs.Start.{Begun, no_int_var}

-- F: the folded words
module _ (F : List ℤ) where
  other_code : {X : Type 0} (at n : ℕ) (us : List ℤ) → Has F at (pos n ∷ us) → eqb n 11 ≡ false → (eqb (word F at) 11 ≡ false → X) → X
  other_code at n us h e f = f (rw (word_is F at n us h) e)

  -- a side is a variable, or its first word is another
  pub side : {X : Type 0} (e : BoolExpr) (l at : ℕ) → Legal e l → Has F at (encode_bool e) → ((v : ℕ) → e ≡ Var v → v < max_bools → X) → (as_var e ≡ none → eqb (word F at) 11 ≡ false → X) → X
  unfolding Legal encode_bool
  side (Const b) l at k h f g = absurd k
  side (Var v) l at k h f g = f v refl k.1
  side (NVar n) l at k h f g = absurd k
  side (And ms) l at k h f g = other_code at 12 _ h refl (g refl)
  side (Or ms) l at k h f g = other_code at 13 _ h refl (g refl)
  side (Not e) l at k h f g = other_code at 14 _ h refl (g refl)
  side (Xor a b) l at k h f g = other_code at 15 _ h refl (g refl)
  side (Iff a b) l at k h f g = other_code at 16 _ h refl (g refl)
  side (Imp a b) l at k h f g = other_code at 17 _ h refl (g refl)
  side (Cmp o a b) l at k h f g = other_code at 18 _ h refl (g refl)

  -- both are variables, or nothing is tied
  sides : {X : Type 0} (a b : BoolExpr) (l at : ℕ) → Legal a l → Legal b l → Has F at (encode_bool a ++ encode_bool b) → ((x y : ℕ) → a ≡ Var x → b ≡ Var y → x < max_bools → y < max_bools → X)
      → (((g : Bool) (st : State) → meet_sides F at g st ≡ st) → ((g : Bool) (s : Log) → tie (as_var a) (as_var b) g s ≡ s) → X) → X
  unfolding encode_bool tie meet_sides
  sides {X} a b l at p q k both apart =
      side a l at p (has_front F at (encode_bool a) (encode_bool b) k)
      (λ x u hx. left x u hx (rw u at k))
      (λ u i. apart (λ g st. rw i refl) (λ g s. rw u refl))
    where
      left : (x : ℕ) → a ≡ Var x → x < max_bools → Has F at (pos 11 ∷ pos x ∷ encode_bool b) → X
      left x u hx j =
          let w = word_is F at 11 _ j in
          side b l (at + 2) q (has_back F at (pos 11 ∷ pos x ∷ []) _ j)
          (λ y v hy. both x y u v hx hy)
          (λ v i. apart (λ g st. rw (w, i) refl) (λ g s. rw (u, v) refl))

  module _ (st : State) (s : Log) (h : Numbered st s) (at : ℕ) where
    -- a rule of another code
    other_rule : (n : ℕ) (us : List ℤ) → Has F at (pos 1 ∷ pos n ∷ us) → eqb n 15 ≡ false → eqb n 16 ≡ false → Numbered (meet_ties_at F at st) s
    unfolding meet_ties_at
    other_rule n us k a b = rw (word_is F at 1 _ k, word_is F (at + 1) n us (has_rest F at (pos 1) _ k), a, b) h

    rule_tied : (e : BoolExpr) → LegalRule e 64 → Has F at (encode_stmt (Rule e)) → next_bool (merge_rule e s) ≤ limit → Numbered (meet_ties_at F at st) (merge_rule e s)
    unfolding merge_rule encode_stmt encode_bool Legal meet_ties_at
    rule_tied (Const b) x k low = other_rule 10 _ k refl refl
    rule_tied (Var v) x k low = other_rule 11 _ k refl refl
    rule_tied (NVar n) (legal_rule x) k low = absurd x
    rule_tied (And ms) x k low = other_rule 12 _ k refl refl
    rule_tied (Or ms) x k low = other_rule 13 _ k refl refl
    rule_tied (Not e) x k low = other_rule 14 _ k refl refl
    rule_tied (Xor a b) (legal_rule x) k low =
        let w = word_is F at 1 _ k in
        let c = word_is F (at + 1) 15 _ (has_rest F at (pos 1) _ k) in
        let j : Has F (at + 2) (encode_bool a ++ encode_bool b) = has_back F at (pos 1 ∷ pos 15 ∷ []) _ k in
        sides a b 63 (at + 2) x.1 x.2 j
        (λ y z u v hy hz. rw (w, c, u, v) (two_num F st s h (at + 2) true y z (rw (u, v) at j) hy hz (rw (u, v) at low)))
        (λ i t. rw (w, c, i true st, t true s) h)
    rule_tied (Iff a b) (legal_rule x) k low =
        let w = word_is F at 1 _ k in
        let c = word_is F (at + 1) 16 _ (has_rest F at (pos 1) _ k) in
        let j : Has F (at + 2) (encode_bool a ++ encode_bool b) = has_back F at (pos 1 ∷ pos 16 ∷ []) _ k in
        sides a b 63 (at + 2) x.1 x.2 j
        (λ y z u v hy hz. rw (w, c, u, v) (two_num F st s h (at + 2) false y z (rw (u, v) at j) hy hz (rw (u, v) at low)))
        (λ i t. rw (w, c, i false st, t false s) h)
    rule_tied (Imp a b) x k low = other_rule 17 _ k refl refl
    rule_tied (Cmp o a b) x k low = other_rule 18 _ k refl refl

    pub stmt_tied : (t : Stmt) → LegalStmt t → Has F at (encode_stmt t) → next_bool (merge_stmt t s) ≤ limit → Numbered (meet_ties_at F at st) (merge_stmt t s)
    unfolding encode_stmt meet_ties_at
    stmt_tied (Rule e) x k low = rule_tied e x k low
    stmt_tied (Table es rows) x k low = rw (word_is F at 2 _ k) h
    stmt_tied (AllDifferent es) x k low = rw (word_is F at 3 _ k) h

  pub all_tied : (at : ℕ) (ts : List Stmt) (st : State) (s : Log) → Each LegalStmt ts → Has F at (stmts_words ts) → Numbered st s → next_bool (merge_stmts ts s) ≤ limit → Numbered (meet_ties F at ts st) (merge_stmts ts s)
  unfolding meet_ties merge_stmts
  all_tied at [] st s x k h low = h
  all_tied at (t ∷ ts) st s x k h low =
      all_tied (at + length (encode_stmt t)) ts (meet_ties_at F at st) (merge_stmt t s) x.1 (has_back F at (encode_stmt t) (stmts_words ts) k)
      (stmt_tied st s h at t x.0 (has_front F at (encode_stmt t) (stmts_words ts) k) (omega (arith, merge_grows ts (merge_stmt t s)))) low

-- ---- the walks begin from the slice behind it

-- what is not the Boolean map: the folded words F, the word for Ifs, blank cells
pub record Blank (F : List ℤ) (with_ifs : Bool) (w : List ℤ) : Type 0 where
  pub words : read_part w ≡ F
  pub word : has_ifs w ≡ with_ifs
  pub cells : (p : ℕ) → folded < p → p ≤ folded_end → cell w p ≡ pos 0

pub tied_begun : (F : List ℤ) (with_ifs : Bool) (w : List ℤ) (n : ℕ) (s : Log) → WellMerged s → Numbered (start w n) s → Blank F with_ifs w → Begun F with_ifs w n s
tied_begun F with_ifs w n s m h b = record {
  map = h.map;
  map_int = λ v l. h.map_int v l ∙ ap code (no_int_var s m v);
  bools = h.bools;
  low = h.low;
  size = h.size;
  words = b.words;
  word = b.word;
  blank = b.cells;
}
