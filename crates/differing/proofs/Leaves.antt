-- Constants and variables: their sums, the terms of one less the other, and the words of the comparison. Assumes nothing.
use mathlib.Core.Path.{◌≡◌, refl, sym, ap, ◌∙◌}
use mathlib.Core.Bool.{Bool, true, false, not, ◌||◌, cond}
use mathlib.Core.List.{List, [], ◌∷◌, append-nil, ◌++◌}
use Prim.Native.Nat.{ℕ, zero, suc, ◌+◌, ◌-◌, ◌≤◌, ◌<◌, ◌^◌}
use native.Mathlib.Omega.{arith}
use native.Mathlib.Numerals.{add-one, sub-one}
use lib.IntN.{ℤ, pos, negsuc, neg_ℤ, nat_abs, ◌+ℤ◌, ◌-ℤ◌, *ℤ_comm}
use lib.ListN.{length, get_or}
use lib.Dec.{eqb, ltb}
use borrow.Author.Tests.{ltb-true, lt-ltb, le-ltb, eq-eqb, ne_eqb}
use mir.Syntax.{w32}
use mir.Val.{SFits}
use Rattle.laws.specs.Bools.{never}
use Rattle.laws.specs.Ints.{*ℤ_minus_one, natAbs_add, natAbs_negℤ, sfits_natAbs}
use Rattle.laws.specs.Lists.{counted}
use Rattle.laws.specs.Writes.{cap, Wrote, wrote_length, wrote_then, wrote_to}
use Rattle.syntax.specs.Words.{max_ints}
use Rattle.syntax.specs.Syntax.{Domain, Ne}
use Rattle.sums.specs.Norm.{norm, load}
use Rattle.sums.specs.Bounds.{size}
use Rattle.sums.specs.LinearSum.{Term, term, LinearSum, linear_sum, constant, insert_coef, add_coef, add_terms, add_sum, mul_terms, mul_sum, sub_sum}
use Rattle.clauses.specs.Clause.{linear}
use Rattle.answer.specs.Answer.{term_words, linear_words}
use Rattle.walk.specs.Item.{int_number}
use Rattle.walk.specs.Decode.{word, below as index, read_part}
use Rattle.walk.specs.declared.Counters.{Counters}
use Rattle.walks.specs.Tree.{Splitting}
use Rattle.walks.specs.Decode.{int_step, decode_int}
use Rattle.walks.specs.Item.{const_item, ivar_item, form_int_item}
use Rattle.walks.specs.Totals.{total_of}
use Rattle.differing.specs.Pair.{leaf_code, leaf_sum, apart_terms, IsLeaf}

-- ---- the terms of one variable less another

pub apart_none : (m n : ℕ) → m ≡ n → apart_terms m n ≡ []
unfolding apart_terms add_terms mul_terms add_coef insert_coef
apart_none zero zero e = refl
apart_none zero (suc w) e = absurd (omega arith)
apart_none (suc v) zero e = absurd (omega arith)
apart_none (suc v) (suc w) e = let h : w ≡ v = omega arith in rw (h, le-ltb v v (omega arith), eq-eqb v v refl) refl

pub apart_left : (m n : ℕ) → n ≡ 0 → (m ≡ n → ⊥) → apart_terms m n ≡ term (m - 1) (pos 1) ∷ []
unfolding apart_terms add_terms mul_terms
apart_left zero zero e h = absurd (h refl)
apart_left (suc v) zero e h = rw (sub-one (suc v)) refl
apart_left m (suc w) e h = absurd (omega arith)

pub apart_right : (m n : ℕ) → m ≡ 0 → (n ≡ 0 → ⊥) → apart_terms m n ≡ term (n - 1) (negsuc 0) ∷ []
unfolding apart_terms add_terms mul_terms add_coef insert_coef
apart_right zero zero e h = absurd (h refl)
apart_right zero (suc w) e h = rw (sub-one (suc w)) refl
apart_right (suc v) n e h = absurd (omega arith)

pub apart_up : (m n : ℕ) → (m ≡ 0 → ⊥) → m < n → apart_terms m n ≡ term (m - 1) (pos 1) ∷ term (n - 1) (negsuc 0) ∷ []
unfolding apart_terms add_terms mul_terms add_coef insert_coef
apart_up zero n h l = absurd (h refl)
apart_up (suc v) zero h l = absurd (omega arith)
apart_up (suc v) (suc w) h l = rw (sub-one (suc v), sub-one (suc w), le-ltb w v (omega arith), ne_eqb w v (λ e. omega arith)) refl

pub apart_down : (m n : ℕ) → (n ≡ 0 → ⊥) → n < m → apart_terms m n ≡ term (n - 1) (negsuc 0) ∷ term (m - 1) (pos 1) ∷ []
unfolding apart_terms add_terms mul_terms add_coef insert_coef
apart_down m zero h l = absurd (h refl)
apart_down zero (suc w) h l = absurd (omega arith)
apart_down (suc v) (suc w) h l = rw (sub-one (suc v), sub-one (suc w), lt-ltb w v (omega arith)) refl

-- ---- their words

module _ {out : List ℤ} {o : ℕ} (l : length out ≤ cap) {ts : List Term} where
  pub none_wrote : {out' : List ℤ} {r : ℕ} → ts ≡ [] → Wrote out o (pos 0 ∷ []) out' r → Wrote out o (counted term_words ts) out' r
  none_wrote e x = wrote_to (ap (counted term_words) (sym e)) x

  pub one_wrote : {a out' : List ℤ} {p r : ℕ} {t : Term} → ts ≡ t ∷ [] → Wrote out o (pos 1 ∷ []) a p → Wrote a p (term_words t) out' r → Wrote out o (counted term_words ts) out' r
  one_wrote {t = t} e x y = wrote_to (ap (λ (u : List ℤ). pos 1 ∷ u) (sym (append-nil (term_words t))) ∙ ap (counted term_words) (sym e)) (wrote_then l x y)

  pub two_wrote : {a b out' : List ℤ} {p q r : ℕ} {t u : Term} → ts ≡ t ∷ u ∷ [] → Wrote out o (pos 2 ∷ []) a p → Wrote a p (term_words t) b q → Wrote b q (term_words u) out' r → Wrote out o (counted term_words ts) out' r
  two_wrote {t = t} {u = u} e x y z =
      wrote_to (ap (λ (v : List ℤ). pos 2 ∷ (term_words t ++ v)) (sym (append-nil (term_words u))) ∙ ap (counted term_words) (sym e))
      (wrote_then l x (wrote_then (omega (arith, wrote_length x)) y z))

-- ---- the comparison

leaves_sum : (m n : ℕ) (c d : ℤ) → sub_sum (leaf_sum m c) (leaf_sum n d) ≡ linear_sum (c -ℤ d) (apart_terms m n)
unfolding sub_sum add_sum mul_sum apart_terms
leaves_sum m n c d = ap (λ (z : ℤ). linear_sum (c +ℤ z) (apart_terms m n)) (*ℤ_comm d (negsuc 0) ∙ *ℤ_minus_one d)

pub leaves_fit : (c d : ℤ) → nat_abs c + nat_abs d < 2 ^ 31 → SFits w32 (c -ℤ d)
leaves_fit c d h = sfits_natAbs w32 (c -ℤ d) (omega (arith, natAbs_add c (neg_ℤ d), natAbs_negℤ d))

pub leaves_wrote : {out a b out' : List ℤ} {o p q r : ℕ} (m n : ℕ) (c d : ℤ) → length out ≤ cap → Wrote out o (pos 1 ∷ []) a p → Wrote a p ((c -ℤ d) ∷ []) b q → Wrote b q (counted term_words (apart_terms m n)) out' r
    → Wrote out o (linear_words (linear Ne (sub_sum (leaf_sum m c) (leaf_sum n d)))) out' r
leaves_wrote m n c d l x y z = wrote_to (ap (λ (s : LinearSum). linear_words (linear Ne s)) (sym (leaves_sum m n c d))) (wrote_then l x (wrote_then (omega (arith, wrote_length x)) y z))

pub leaf_size : (n : ℕ) (c : ℤ) → nat_abs c ≤ size (leaf_sum n c)
unfolding load norm
leaf_size zero c = omega arith
leaf_size (suc n) c = omega arith

-- ---- the expression at a place

pub code_sum : (k : ℕ) → k ≡ 22 → false ≡ leaf_code k
code_sum k e = rw e refl

pub code_other : (k : ℕ) → (k ≡ 22 → ⊥) → not (eqb k 23) ≡ leaf_code k
code_other k z = rw (ne_eqb k 22 z) refl

pub index_low : (x v : ℕ) → v ≡ index max_ints x → v < max_ints
index_low x v e = go (ltb x max_ints) refl
  where
    go : (b : Bool) → ltb x max_ints ≡ b → v < max_ints
    go true t = let h : v ≡ x = e ∙ ap (λ (c : Bool). cond c x 0) t in omega (arith, ltb-true x max_ints t)
    go false t = let h : v ≡ 0 = e ∙ ap (λ (c : Bool). cond c x 0) t in omega arith

leaf_codes : (a b : Bool) → not (a || b) ≡ true → (a ≡ false) × (b ≡ false)
leaf_codes true b h = never h
leaf_codes false true h = never h
leaf_codes false false h = (refl, refl)

module _ (w : List ℤ) (p k : ℕ) (code : k ≡ word (read_part w) p) where
  module _ (ds : List Domain) (l : ℕ) (s : Splitting) (base : ℕ) (n : Counters) where
    abbrev total : LinearSum
    total = total_of ds w (decode_int (read_part w) (suc l) s p base).tree n

    variable_total : {x v m : ℕ} → k ≡ 21 → x ≡ word (read_part w) (p + 1) → v ≡ index max_ints x → m ≡ int_number w v → total ≡ leaf_sum (suc m) (pos 0)
    unfolding decode_int int_step form_int_item ivar_item
    variable_total is index_is below number = rw (← code, is, ← index_is, ← below, ← number) refl

    constant_total : (k ≡ 21 → ⊥) → (c : ℤ) → c ≡ get_or (read_part w) (p + 1) (pos 0) → leaf_code (word (read_part w) p) ≡ true → total ≡ leaf_sum 0 c
    unfolding decode_int int_step form_int_item const_item
    constant_total other c e h =
        let j = leaf_codes (eqb (word (read_part w) p) 22) (eqb (word (read_part w) p) 23) h in
        rw (ne_eqb (word (read_part w) p) 21 (λ i. other (code ∙ i)), j.0, j.1) (ap constant (sym e))

  -- a variable, whose number is m
  pub variable_leaf : {x v m : ℕ} → k ≡ 21 → x ≡ word (read_part w) (p + 1) → v ≡ index max_ints x → m ≡ int_number w v → m < 2147483648 → IsLeaf w p (m + 1) (pos 0)
  variable_leaf {x} {v} {m} is index_is below number small = rw (add-one m) (record {
    sum = λ h ds s base n. variable_total ds 63 s base n is index_is below number;
    small = omega arith;
  })

  pub constant_leaf : (k ≡ 21 → ⊥) → (c : ℤ) → c ≡ get_or (read_part w) (p + 1) (pos 0) → IsLeaf w p 0 c
  constant_leaf other c e = record {
    sum = λ h ds s base n. constant_total ds 63 s base n other c e h;
    small = omega arith;
  }
