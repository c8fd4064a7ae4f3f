-- Laws of the written words, for the functions outside the cycle.
use mathlib.Core.Path.{◌≡◌, refl, sym, ap, ◌∙◌, subst}
use mathlib.Core.Bool.{Bool, true, false}
use mathlib.Core.List.{List, [], ◌∷◌, ◌++◌, map}
use Prim.Native.Nat.{ℕ, zero, suc, ◌+◌, ◌-◌, ◌≤◌, ◌<◌}
use native.Mathlib.Omega.{arith}
use native.Mathlib.Numerals.{add-one}
use lib.IntN.{ℤ, pos, neg_ℤ, ◌-ℤ◌}
use lib.ListN.{length, get_or, set, drop, drop_of_length-le, length-set, length-drop}
use lib.Seq.{drop-cons, drop-set-lt, get_or-set_same}
use lib.Dec.{eqb}
use borrow.Author.Tests.{le-leb, lt-leb, ne_eqb}
use mir.Syntax.{w32}
use mir.Val.{SFits, of_z, to_z}
use mir.Facts.{to_z-of_z}
use Rattle.laws.specs.Lists.{flat}
use Rattle.laws.specs.Writes.{cap, Wrote, wrote_none, wrote_then, wrote_length, wrote_low, Open}
use Rattle.memory.specs.Places.{limit}
use Rattle.syntax.specs.Syntax.{op_at, encode_op}
use Rattle.sums.specs.LinearSum.{Term, term}
use Rattle.sums.specs.Rising.{Each}
use Rattle.sums.specs.Struct.{terms, sum_of}
use Rattle.sums.specs.declared.LinearSum.{LinearSum as Sum}
use Rattle.clauses.specs.Clause.{linear}
use Rattle.clauses.specs.Normalize.{negate_op_if}
use Rattle.answer.specs.Answer.{term_words, linear_words}
use Rattle.walk.specs.Item.{is_none, word_of, clause_text, block}
use Rattle.output.specs.declared.Suffix.{Suffix}
use Rattle.output.specs.Suffix.{Stacked, suffix}
use Rattle.survey.proofs.Leaves.{pos_is, minus_is}

-- ---- the place behind what was written

pub open_next : {out a us : List ℤ} {o p : ℕ} → Open out o → Wrote out o us a p → Open a p
open_next h x = record { low = wrote_low x; room = omega (arith, wrote_length x, h.room) }

-- ---- the word of a literal

neg_fits : (x : ℕ) → x ≤ limit → SFits w32 (neg_ℤ (pos x))
neg_fits zero h = record { sfits = omega arith }
neg_fits (suc x) h = record { sfits = omega arith }

pub minus_fits : (x : ℕ) → x ≤ limit → SFits w32 (pos 0 -ℤ to_z w32 x)
minus_fits x h = rw (minus_is x h) (neg_fits x h)

pub word_minus : (x : ℕ) (g : Bool) → x ≤ limit → g ≡ true → to_z w32 (of_z w32 (pos 0 -ℤ to_z w32 x)) ≡ word_of x g
unfolding word_of
word_minus x g h e = to_z-of_z (minus_fits x h) ∙ minus_is x h ∙ rw (le-leb x limit h, e)

pub word_plus : (x : ℕ) (g : Bool) → x ≤ limit → g ≡ false → to_z w32 x ≡ word_of x g
unfolding word_of
word_plus x g h e = pos_is x h ∙ rw (le-leb x limit h, e)

pub word_none : (x : ℕ) (g : Bool) → limit < x → pos 0 ≡ word_of x g
unfolding word_of
word_none x g h = rw (lt-leb x limit h)

pub word_pos : (x : ℕ) → x ≤ limit → word_of x false ≡ pos x
unfolding word_of
word_pos x h = rw (le-leb x limit h)

-- ---- the suffix

pub push_suffix : (ws : List ℤ) (f : ℕ) (w : ℤ) → 0 < f → f - 1 < length ws → drop (f - 1) (set ws (f - 1) w) ≡ w ∷ drop f ws
push_suffix ws zero w h l = absurd (omega arith)
push_suffix ws (suc f) w h l =
    let e : suc f - 1 ≡ f = omega arith in
    rw e (drop-cons (set ws f w) f (pos 0) (omega (arith, length-set ws f w)) ∙ rw (get_or-set_same ws f w (pos 0) (omega arith), drop-set-lt (suc f) ws f w (omega arith)))

suffix_next : (ws : List ℤ) (i : ℕ) → i < length ws → get_or ws i (pos 0) ∷ drop (i + 1) ws ≡ drop i ws
suffix_next ws i h = rw (add-one i) (sym (drop-cons ws i (pos 0) h))

pub stack_next : (s r : Suffix) → Stacked s 1 → r.from ≡ s.from - 1 → length r.words ≡ 64 → Stacked r 0
stack_next s r h e l = record { size = l; room = omega arith; inside = omega (arith, e, h.inside) }

pub stack_down : {s : Suffix} {k : ℕ} (j : ℕ) → Stacked s k → j ≤ k → Stacked s j
stack_down j h l = record { size = h.size; room = omega (arith, h.room); inside = h.inside }

pub suffix_step : {out a b : List ℤ} {o p q : ℕ} (ws : List ℤ) (i : ℕ) → i < length ws → length out ≤ cap → Wrote out o (get_or ws i (pos 0) ∷ []) a p → Wrote a p (drop (i + 1) ws) b q → Wrote out o (drop i ws) b q
suffix_step {out} {a} {b} {o} {p} {q} ws i h l x y = subst (λ (v : List ℤ). Wrote out o v b q) (suffix_next ws i h) (wrote_then l x y)

pub suffix_end : (out : List ℤ) (o : ℕ) (ws : List ℤ) (i : ℕ) → length ws ≤ i → o ≤ cap → Wrote out o (drop i ws) out o
suffix_end out o ws i h l = rw (drop_of_length-le ws h) (wrote_none out o l)

pub suffix_length : (s : Suffix) → Stacked s 0 → length (suffix s) ≡ 64 - s.from
suffix_length s h = length-drop s.from s.words ∙ omega (arith, h.size)

pub eqb_zero : (k : ℕ) → eqb k 0 ≡ is_none k
eqb_zero zero = refl
eqb_zero (suc k) = ne_eqb (suc k) 0 (λ e. omega arith)

-- ---- words in a row

pub put_word : {out a : List ℤ} {o p : ℕ} {z v : ℤ} → SFits w32 z → z ≡ v → Wrote out o (to_z w32 (of_z w32 z) ∷ []) a p → Wrote out o (v ∷ []) a p
put_word {out} {a} {o} {p} {z} {v} f e h = subst (λ (x : ℤ). Wrote out o (x ∷ []) a p) (to_z-of_z f ∙ e) h

pub then_low : {out a us : List ℤ} {o p : ℕ} → length out ≤ cap → Wrote out o us a p → length a ≤ cap
then_low h x = omega (arith, wrote_length x)

pub block_none : (out : List ℤ) (o b k : ℕ) → k ≡ 0 → o ≤ cap → Wrote out o (block b k) out o
block_none out o b k e h = rw e (wrote_none out o h)

pub block_more : {out a c : List ℤ} {o p q : ℕ} (b k : ℕ) → (k ≡ 0 → ⊥) → length out ≤ cap → Wrote out o (word_of (b + 1) false ∷ []) a p → Wrote a p (block (b + 1) (k - 1)) c q → Wrote out o (block b k) c q
block_more b zero z l x y = absurd (z refl)
block_more {out} {a} {c} {o} {p} {q} b (suc k) z l x y =
    let e : suc k - 1 ≡ k = omega arith in
    wrote_then l x (rw e at y)

pub block_length : (b k : ℕ) → length (block b k) ≡ k
block_length b zero = refl
block_length b (suc k) = ap suc (block_length (b + 1) k)

-- ---- clauses

pub lit_clause : {out a b c d : List ℤ} {o p q r t : ℕ} (s : Suffix) (x : ℕ) (w : ℤ) → Open out o → Stacked s 0 → x ≡ 64 - s.from + 1
    → Wrote out o (word_of x false ∷ []) a p → Wrote a p (w ∷ []) b q → Wrote b q (suffix s) c r → Wrote c r (pos 0 ∷ []) d t → Wrote out o (clause_text (w ∷ []) (suffix s) 0 []) d t
unfolding clause_text
lit_clause {out} {a} {b} {c} {d} {o} {p} {q} {r} {t} s x w l h e w₁ w₂ w₃ w₄ =
    let n : word_of x false ≡ pos (1 + length (suffix s)) = word_pos x (omega arith) ∙ ap pos (omega (arith, suffix_length s h)) in
    let l₁ = then_low l.room w₁ in
    let l₂ = then_low l₁ w₂ in
    let g : Wrote out o (word_of x false ∷ w ∷ (suffix s ++ (pos 0 ∷ []))) d t = wrote_then l.room w₁ (wrote_then l₁ w₂ (wrote_then l₂ w₃ w₄)) in
    subst (λ (v : ℤ). Wrote out o (v ∷ w ∷ (suffix s ++ (pos 0 ∷ []))) d t) n g

pub cmp_clause : {out a b c d : List ℤ} {o p q r t : ℕ} (s : Suffix) (x : ℕ) (ks : List ℤ) → Open out o → Stacked s 0 → x ≡ 64 - s.from
    → Wrote out o (word_of x false ∷ []) a p → Wrote a p (suffix s) b q → Wrote b q (pos 1 ∷ []) c r → Wrote c r ks d t → Wrote out o (clause_text [] (suffix s) 1 ks) d t
unfolding clause_text
cmp_clause {out} {a} {b} {c} {d} {o} {p} {q} {r} {t} s x ks l h e w₁ w₂ w₃ w₄ =
    let n : word_of x false ≡ pos (0 + length (suffix s)) = word_pos x (omega arith) ∙ ap pos (omega (arith, suffix_length s h)) in
    let l₁ = then_low l.room w₁ in
    let l₂ = then_low l₁ w₂ in
    let g : Wrote out o (word_of x false ∷ (suffix s ++ (pos 1 ∷ ks))) d t = wrote_then l.room w₁ (wrote_then l₁ w₂ (wrote_then l₂ w₃ w₄)) in
    subst (λ (v : ℤ). Wrote out o (v ∷ (suffix s ++ (pos 1 ∷ ks))) d t) n g

-- two literals
pub two_clause : {out a b c d e : List ℤ} {o p q r t u : ℕ} (s : Suffix) (x : ℕ) (v w : ℤ) → Open out o → Stacked s 0 → x ≡ 64 - s.from + 2
    → Wrote out o (word_of x false ∷ []) a p → Wrote a p (v ∷ []) b q → Wrote b q (w ∷ []) c r → Wrote c r (suffix s) d t → Wrote d t (pos 0 ∷ []) e u
    → Wrote out o (clause_text (v ∷ w ∷ []) (suffix s) 0 []) e u
unfolding clause_text
two_clause {out} {a} {b} {c} {d} {e} {o} {p} {q} {r} {t} {u} s x v w l h i w₁ w₂ w₃ w₄ w₅ =
    let n : word_of x false ≡ pos (2 + length (suffix s)) = word_pos x (omega arith) ∙ ap pos (omega (arith, suffix_length s h)) in
    let l₁ = then_low l.room w₁ in
    let l₂ = then_low l₁ w₂ in
    let l₃ = then_low l₂ w₃ in
    let g : Wrote out o (word_of x false ∷ v ∷ w ∷ (suffix s ++ (pos 0 ∷ []))) e u = wrote_then l.room w₁ (wrote_then l₁ w₂ (wrote_then l₂ w₃ (wrote_then l₃ w₄ w₅))) in
    subst (λ (k : ℤ). Wrote out o (k ∷ v ∷ w ∷ (suffix s ++ (pos 0 ∷ []))) e u) n g

-- ---- comparisons

pub op_five : (k : ℕ) → (k ≡ 0 → ⊥) → (k ≡ 1 → ⊥) → (k ≡ 2 → ⊥) → (k ≡ 3 → ⊥) → (k ≡ 4 → ⊥) → op_at k ≡ op_at 5
op_five zero a b c d e = absurd (a refl)
op_five (suc zero) a b c d e = absurd (b refl)
op_five (suc (suc zero)) a b c d e = absurd (c refl)
op_five (suc (suc (suc zero))) a b c d e = absurd (d refl)
op_five (suc (suc (suc (suc zero)))) a b c d e = absurd (e refl)
op_five (suc (suc (suc (suc (suc k))))) a b c d e = refl

abbrev pub terms_words : List Term → List ℤ
terms_words ts = flat (map term_words ts)

-- a variable and its coefficient
pub terms_step : {out a b c : List ℤ} {o p q r : ℕ} (ts us : List Term) (v : ℕ) (k : ℤ) → us ≡ term v k ∷ ts → length out ≤ cap
    → Wrote out o (pos v ∷ []) a p → Wrote a p (k ∷ []) b q → Wrote b q (terms_words ts) c r → Wrote out o (terms_words us) c r
terms_step {out} {a} {b} {c} {o} {p} {q} {r} ts us v k e l x y z =
    subst (λ (us : List Term). Wrote out o (terms_words us) c r) (sym e) (wrote_then l x (wrote_then (then_low l x) y z))

pub terms_end : (out : List ℤ) (o : ℕ) (ts : List Term) (i : ℕ) → length ts ≤ i → o ≤ cap → Wrote out o (terms_words (drop i ts)) out o
terms_end out o ts i h l = subst (λ (us : List Term). Wrote out o (terms_words us) out o) (sym (drop_of_length-le ts h)) (wrote_none out o l)

pub each_more : (P : ℕ → Type 0) (ts us : List Term) (v : ℕ) (k : ℤ) → us ≡ term v k ∷ ts → Each P us → P v × Each P ts
unfolding Each
each_more P ts us v k e h = rw e at h

pub linear_clause : {out a b c d : List ℤ} {o p q r t : ℕ} (s : Sum) (k : ℕ) (g : Bool) → Open out o → length (terms s) ≡ s.count
    → Wrote out o (encode_op (negate_op_if g (op_at k)) ∷ []) a p → Wrote a p (s.constant ∷ []) b q → Wrote b q (pos s.count ∷ []) c r → Wrote c r (terms_words (terms s)) d t
    → Wrote out o (linear_words (linear (negate_op_if g (op_at k)) (sum_of s))) d t
linear_clause {out} {a} {b} {c} {d} {o} {p} {q} {r} {t} s k g l e w₁ w₂ w₃ w₄ =
    let l₁ = then_low l.room w₁ in
    let l₂ = then_low l₁ w₂ in
    let w : Wrote out o (encode_op (negate_op_if g (op_at k)) ∷ s.constant ∷ pos s.count ∷ terms_words (terms s)) d t = wrote_then l.room w₁ (wrote_then l₁ w₂ (wrote_then l₂ w₃ w₄)) in
    subst (λ (n : ℕ). Wrote out o (encode_op (negate_op_if g (op_at k)) ∷ s.constant ∷ pos n ∷ terms_words (terms s)) d t) (sym e) w

-- a number below 2 ^ 31
pub put_cast : {out a : List ℤ} {o p v : ℕ} → v < 2147483648 → Wrote out o (to_z w32 v ∷ []) a p → Wrote out o (pos v ∷ []) a p
put_cast {out} {a} {o} {p} {v} h x = subst (λ (z : ℤ). Wrote out o (z ∷ []) a p) (to_z-of_z {w = w32} {z = pos v} (record { sfits = omega arith })) x

-- no literal
pub none_clause : {out a b c : List ℤ} {o p q r : ℕ} (s : Suffix) (x : ℕ) → Open out o → Stacked s 0 → x ≡ 64 - s.from
    → Wrote out o (word_of x false ∷ []) a p → Wrote a p (suffix s) b q → Wrote b q (pos 0 ∷ []) c r → Wrote out o (clause_text [] (suffix s) 0 []) c r
unfolding clause_text
none_clause {out} {a} {b} {c} {o} {p} {q} {r} s x l h e w₁ w₂ w₃ =
    let n : word_of x false ≡ pos (0 + length (suffix s)) = word_pos x (omega arith) ∙ ap pos (omega (arith, suffix_length s h)) in
    let l₁ = then_low l.room w₁ in
    let g : Wrote out o (word_of x false ∷ (suffix s ++ (pos 0 ∷ []))) c r = wrote_then l.room w₁ (wrote_then l₁ w₂ w₃) in
    subst (λ (v : ℤ). Wrote out o (v ∷ (suffix s ++ (pos 0 ∷ []))) c r) n g

pub one_stacked : {s r : Suffix} → Stacked s 64 → r.from ≡ s.from - 1 → length r.words ≡ 64 → Stacked r 63
one_stacked h e l = record { size = l; room = omega (arith, e, h.room); inside = omega (arith, e, h.inside) }
