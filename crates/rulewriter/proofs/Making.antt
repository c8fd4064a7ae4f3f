-- The block of an If: what the disjunctions of its number's literal and its condition are, and the equations of its branches.
use mathlib.Core.Path.{◌≡◌, refl, sym, ap, ◌∙◌, subst}
use mathlib.Core.Bool.{Bool, true, false}
use mathlib.Core.List.{List, [], ◌∷◌, ◌++◌, append-nil}
use Prim.Native.Nat.{ℕ, suc, ◌+◌, ◌≤◌, ◌<◌, ◌^◌}
use native.Mathlib.Omega.{arith}
use lib.IntN.{ℤ, pos, negsuc}
use lib.ListN.{length}
use Rattle.laws.specs.Writes.{Wrote, wrote_none, wrote_then, wrote_low, Open}
use Rattle.memory.specs.Places.{folded_end, limit}
use Rattle.syntax.specs.Syntax.{Domain, op_at}
use Rattle.sums.specs.LinearSum.{LinearSum, singleton, mul_sum, sub_sum}
use Rattle.sums.specs.Rising.{terms_of, Each}
use Rattle.sums.proofs.RisingLaws.{singleton_each, sub_sum_each}
use Rattle.sums.specs.Bounds.{size, Room}
use Rattle.sums.specs.Struct.{terms, sum_of, Stands}
use Rattle.sums.specs.declared.LinearSum.{LinearSum as Sum}
use Rattle.sums.proofs.Laws.{stands_sum}
use Rattle.clauses.specs.Clause.{linear}
use Rattle.clauses.specs.Normalize.{negate_op_if}
use Rattle.answer.specs.Answer.{linear_words}
use Rattle.walk.specs.Item.{bump, fresh, long, lines_of, closed, word_of, clause_text}
use Rattle.walk.specs.Decode.{read_part}
use Rattle.walk.specs.declared.Counters.{Counters}
use Rattle.walks.specs.Tree.{Splitting}
use Rattle.walks.specs.Form.{IntForm}
use Rattle.walks.specs.Item.{Item, tallies, all_lines, counts, pools, texts, long_texts, disj_text, num_item, equal_item, conj_item, disj_item, cross_item, open_item, condition_item, form_item, form_int_item}
use Rattle.walks.specs.Decode.{decode, decode_int}
use Rattle.walks.specs.Totals.{Word, total_of, EquationFits}
use Rattle.scan.specs.SurveyLaws.{Surveys, IntSurveys}
use Rattle.scan.specs.declared.Behind.{Behind}
use Rattle.scan.specs.declared.Scanned.{Scanned}
use Rattle.output.proofs.Laws.{word_pos, then_low}
use Rattle.rulewriter.specs.declared.Added.{Added}
use Rattle.rulewriter.specs.Places.{item_at, int_at, left_at, right_at, BranchFits}
use Rattle.rulewriter.specs.Making.{Puts, PutsNamed}
use Rattle.rulewriter.proofs.PoolLaws.{unit_long, long_lines, long_pool}

-- ---- a new number's literal and an item

module _ (v : ℕ) (h : Bool) (i : Item) (w : List ℤ) (n : Counters) where
  single_text : (b : ℕ) → i.unit.longs ≡ 0 → disj_text (num_item v h ∷ i ∷ []) w n b [] ≡ clause_text (word_of (v + 1) h ∷ i.pool true w n) [] i.unit.cmps (i.pool false w n)
  unfolding disj_text tallies pools long_texts num_item
  single_text b e =
      let c : 0 + (i.unit.cmps + 0) ≡ i.unit.cmps = omega arith in
      rw (e, append-nil (i.pool true w n), append-nil (i.pool false w n), c) refl

  long_text : (b x : ℕ) → i.unit ≡ long x → i.pool true w n ≡ [] → disj_text (num_item v h ∷ i ∷ []) w n b [] ≡ i.text w n (word_of (v + 1) h ∷ [])
  unfolding disj_text tallies pools long_texts num_item
  long_text b x e p = rw (e, p) (append-nil _ ∙ append-nil _)

  module _ {out a : List ℤ} {o : ℕ} (r : Added) where
    pub named_single : i.unit.longs ≡ 0 → (j : ℕ) → j ≡ i.unit.cmps → Wrote out o (clause_text (word_of (v + 1) h ∷ i.pool true w n) [] j (i.pool false w n)) a r.o → r.lines ≡ 1 → PutsNamed v h i w n out o a r
    unfolding tallies num_item
    named_single e j hj x k = record {
      wrote = λ b. subst (λ (us : List ℤ). Wrote out o us a r.o) (sym (single_text b e)) (rw hj at x);
      lines = k ∙ rw e refl;
    }

    pub named_long : (x : ℕ) → i.unit ≡ long x → i.pool true w n ≡ [] → x ≤ limit → (suf : List ℤ) → suf ≡ word_of (v + 1) h ∷ [] → Wrote out o (i.text w n suf) a r.o → r.lines ≡ x → PutsNamed v h i w n out o a r
    unfolding tallies num_item
    named_long x e p l suf hs y k = record {
      wrote = λ b. subst (λ (us : List ℤ). Wrote out o us a r.o) (sym (long_text b x e p)) (rw hs at y);
      lines = k ∙ rw e (omega arith);
    }

-- of a longer expression at a place
pub named_longer : (v : ℕ) (h : Bool) (w : List ℤ) (l : ℕ) (t : Splitting) (g : Bool) (at base : ℕ) (n : Counters) {out a : List ℤ} {o : ℕ} (r : Added) (s : Scanned) → Surveys w l t g at base n s → ((item_at w l t g at base).unit.longs ≡ 0 → ⊥)
    → (suf : List ℤ) → suf ≡ word_of (v + 1) h ∷ [] → Wrote out o ((item_at w l t g at base).text w n suf) a r.o → r.lines ≡ s.part.all → PutsNamed v h (item_at w l t g at base) w n out o a r
named_longer v h w l t g at base n r s x z suf hs y k =
    let f = (decode (read_part w) l t g at base).tree in
    let e : s.part.all ≡ (form_item [] f).unit.lines = x.found.all [] ∙ long_lines f z in
    named_long v h (form_item [] f) w n r (form_item [] f).unit.lines (unit_long f z) (long_pool f true w n z) (omega (arith, e, x.found.low_all)) suf hs y (k ∙ e)

-- a clause of one expression with a literal in front
pub single_clause : {out a b c d e : List ℤ} {o p q r t u : ℕ} (x j : ℕ) (z : ℤ) (ls ks : List ℤ) → Open out o → length ls ≤ folded_end → x ≡ length ls + 1 → j ≤ folded_end
    → Wrote out o (word_of x false ∷ []) a p → Wrote a p (z ∷ []) b q → Wrote b q ls c r → Wrote c r (word_of j false ∷ []) d t → Wrote d t ks e u → Wrote out o (clause_text (z ∷ ls) [] j ks) e u
unfolding clause_text
single_clause {out} {a} {b} {c} {d} {e} {o} {p} {q} {r} {t} {u} x j z ls ks l hl hx hj w₁ w₂ w₃ w₄ w₅ =
    let n : word_of x false ≡ pos (suc (length ls) + 0) = word_pos x (omega arith) ∙ ap pos (omega arith) in
    let m : word_of j false ≡ pos j = word_pos j (omega arith) in
    let l₁ = then_low l.room w₁ in
    let l₂ = then_low l₁ w₂ in
    let l₃ = then_low l₂ w₃ in
    let g : Wrote out o (word_of x false ∷ z ∷ (ls ++ (word_of j false ∷ ks))) e u = wrote_then l.room w₁ (wrote_then l₁ w₂ (wrote_then l₂ w₃ (wrote_then l₃ w₄ w₅))) in
    rw (n, m) at g

-- ---- the number of a condition

pub condition_puts : (c d : Item) (v : ℕ) (w : List ℤ) (n k : Counters) {out a b : List ℤ} {o : ℕ} (x y r : Added) → k ≡ d.count w n → Open out o → PutsNamed v false d w n out o a x → PutsNamed v true c w k a x.o b y
    → (r.lines ≡ bump x.lines y.lines) × (r.o ≡ y.o) → Puts ((condition_item c d v).text w n []) (lines_of (condition_item c d v).unit) out o b r
unfolding condition_item cross_item num_item counts lines_of
condition_puts c d v w n k {out} {a} {b} {o} x y r hk l f g e = record {
  wrote =
      let m = (c.count w (d.count w n)).bools in
      rw e.1 (wrote_then l.room (f.wrote m) (rw hk at (g.wrote (bump m (fresh (tallies (num_item v false ∷ d ∷ [])))))));
  lines = e.0 ∙ rw (f.lines, g.lines) refl;
}

-- ---- a branch less the number

pub less_asked : (ds : List Domain) (w : List ℤ) (e : IntForm) (n : Counters) (v : ℕ) (s : Sum) → Stands s (total_of ds w e n) → EquationFits ds w e n v → (s.count ≤ 64) × Room (terms s) (terms_of (mul_sum (negsuc 0) (singleton v))) × (size (sum_of s) + 1 < 2 ^ 31)
less_asked ds w e n v s h f =
    let q : sum_of s ≡ total_of ds w e n = stands_sum s _ h in
    (h.room, subst (λ (l : LinearSum). Room (terms_of l) (terms_of (mul_sum (negsuc 0) (singleton v)))) (sym q) f.minus.room, subst (λ (l : LinearSum). size l + 1 < 2 ^ 31) (sym q) (omega (arith, f.light)))

pub less_words : (s d : Sum) (v : ℕ) → Each Word (terms s) → v < 2147483648 → Stands d (sub_sum (sum_of s) (singleton v)) → Each Word (terms d)
less_words s d v h k f = rw f.same (sub_sum_each Word (sum_of s) (singleton v) h (singleton_each Word v k))

-- the clause of it
pub equal_text : (l : LinearSum) (v : ℕ) (w : List ℤ) (n : Counters) (suf : List ℤ) (s d : Sum) → Stands s l → Stands d (sub_sum (sum_of s) (singleton v)) → {out a : List ℤ} {o p : ℕ}
    → Wrote out o (clause_text [] suf 1 (linear_words (linear (negate_op_if false (op_at 0)) (sum_of d)))) a p → Wrote out o ((equal_item l v).text w n suf) a p
unfolding equal_item
equal_text l v w n suf s d h f {out} {a} {o} {p} x =
    let q : sum_of s ≡ l = stands_sum s l h in
    let e : sum_of d ≡ sub_sum l (singleton v) = stands_sum d _ f ∙ ap (λ (y : LinearSum). sub_sum y (singleton v)) q in
    subst (λ (y : LinearSum). Wrote out o (clause_text [] suf 1 (linear_words (linear (negate_op_if false (op_at 0)) y))) a p) e x

-- the second branch, behind the first
pub branch_second : {w : List ℤ} {l : ℕ} {m : Splitting} {at base : ℕ} {n : Counters} {r : Behind} → IntSurveys w l m at base n r → BranchFits (right_at w l m at base) → BranchFits (decode_int (read_part w) l m r.at r.base).tree
branch_second s h = rw (s.skips.end, s.skips.next) h

pub second_total : {w : List ℤ} {l : ℕ} {m : Splitting} {at base : ℕ} {n : Counters} {r : Behind} → IntSurveys w l m at base n r
    → (int_at w l m r.at r.base).total w r.n ≡ (form_int_item [] (right_at w l m at base)).total w ((form_int_item [] (left_at w l m at base)).behind w n)
second_total s = rw (s.skips.end, s.skips.next, s.behind []) refl

-- ---- an open If

pub open_puts : (c d : Item) (l m m' : LinearSum) (v : ℕ) (w : List ℤ) (n k k₁ k₂ : Counters) (u : ℕ) (s z : List ℤ) {out a b e f : List ℤ} {o p q t : ℕ} (r : Added) (x y : ℕ) → m' ≡ m → k ≡ c.count w n → u ≡ (d.count w k).bools → s ≡ word_of (u + 1) true ∷ [] → z ≡ word_of (u + 1) false ∷ [] → Open out o
    → Wrote out o (c.text w n s) a p → Wrote a p ((equal_item l v).text w k₁ s) b q → Wrote b q (d.text w k z) e t → Wrote e t ((equal_item m' v).text w k₂ z) f r.o
    → x ≡ lines_of c.unit → y ≡ lines_of d.unit → r.lines ≡ bump (bump x 1) (bump y 1) → Puts ((open_item c d l m v).text w n []) (lines_of (open_item c d l m v).unit) out o f r
unfolding open_item disj_item conj_item equal_item disj_text tallies all_lines counts pools texts long_texts lines_of closed
open_puts c d l m m' v w n k k₁ k₂ u s z {out} {a} {b} {e} {f} {o} {p} {q} {t} r x y hm hk hu hs hz i w₁ w₂ w₃ w₄ hx hy hr =
    let l₁ = then_low i.room w₁ in
    let l₂ = then_low l₁ w₂ in
    let l₃ = then_low l₂ w₃ in
    let g = wrote_then i.room (wrote_then i.room w₁ (wrote_then l₁ w₂ (wrote_none b q (wrote_low w₂)))) (wrote_then l₂ (wrote_then l₂ w₃ (wrote_then l₃ w₄ (wrote_none f r.o (wrote_low w₄)))) (wrote_none f r.o (wrote_low w₄))) in
    record {
      wrote = subst (λ (us : List ℤ). Wrote out o us f r.o) (sym (append-nil _)) (rw (hs, hz, hu, hk, hm) at g);
      lines = hr ∙ rw (hx, hy) (omega arith);
    }
