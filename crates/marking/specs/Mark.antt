-- The word that says whether the folded statements hold an If: a place counts where its words read as one, its code and then a condition and two
-- integer expressions. Other words may read so too; no If is missed (`if_marks`).
use Rattle.std.specs.Prelude.{◌≡◌, Bool, true, false, not, cond, ◌&&◌, ◌||◌, List, ◌∷◌, ◌++◌, ℕ, zero, suc, ◌+◌, ◌-◌, ◌≤◌, ◌<◌, ℤ, pos, length, get_or, set, eqb}
use Rattle.std.proofs.Math.Path.{refl, ap}
use Rattle.std.proofs.Common.{sym, ◌∙◌, arith, get_or-set_same}
use Rattle.std.proofs.lemmas.List.{take-set-le}
use Rattle.std.proofs.Math.Dec.{leb}
use Rattle.laws.specs.Bools.{and_i, or_l, or_r}
use Rattle.laws.specs.Ints.{is_zero}
use Rattle.laws.specs.Slices.{Has, has_front, has_back, has_word, has_rest}
use Rattle.memory.specs.Places.{folded, folded_end, ifs_word}
use Rattle.memory.specs.Number.{nat}
use Rattle.syntax.specs.Syntax.{IfIsRead, BoolExpr, Const, Var, NVar, And, Or, Not, Xor, Iff, Imp, Cmp, IntExpr, IConst, IVar, Linear, If, encode_bool, encode_int}
use Rattle.walk.specs.Decode.{word, read_part}
use Rattle.walks.specs.Item.{has_ifs}
use Rattle.walks.specs.Tree.{never}
use Rattle.walks.specs.Resolve.{never_bool, never_int}
use Rattle.walks.specs.Legal.{LegalInt, Legal}
use Rattle.walks.specs.Decode.{Read, IntRead}
use Rattle.walks.specs.DecodeExact.{decode_is, decode_int_is}
use Rattle.walks.specs.Ends.{bool_end, int_end, decode_end, decode_int_end}

-- ---- the mark; F: the folded words

-- the word at q is a code from low to high
abbrev pub is_code : List ℤ → ℕ → ℕ → ℕ → Bool
is_code F q low high = leb low (word F q) && leb (word F q) high

abbrev pub is_bool : List ℤ → ℕ → Bool
is_bool F q = is_code F q 10 18

abbrev pub is_int : List ℤ → ℕ → Bool
is_int F q = is_code F q 20 23

abbrev pub is_if : List ℤ → ℕ → Bool
is_if F q = eqb (word F q) 23

-- behind q a condition stands, at its end an integer expression, and at that one's end another
unfoldable pub reads_if : List ℤ → ℕ → Bool
reads_if F q =
    let t = bool_end F 63 (q + 1) in
    is_bool F (q + 1) && (is_int F t && is_int F (int_end F 63 t))

-- among n words from q on
unfoldable pub has_code : List ℤ → ℕ → ℕ → Bool
has_code F q zero = false
has_code F q (suc n) = is_if F q || has_code F (suc q) n

unfoldable pub finds_if : List ℤ → ℕ → ℕ → Bool
finds_if F q zero = false
finds_if F q (suc n) = is_if F q && reads_if F q || finds_if F (suc q) n

-- of the words from the folded statements' place to `end`
abbrev pub mark_of : List ℤ → ℕ → ℤ
mark_of w end = cond (finds_if (read_part w) folded (end - folded)) (pos 1) (pos 0)

abbrev pub marked : List ℤ → ℕ → List ℤ
marked w end = set w ifs_word (mark_of w end)

-- ---- what the mark says

finds_at : (F : List ℤ) (p q n : ℕ) → q ≤ p → p < q + n → is_if F p && reads_if F p ≡ true → finds_if F q n ≡ true
unfolding finds_if
finds_at F p q zero l m h = absurd (omega arith)
finds_at F p q (suc n) l m h = go (p - q) refl (λ i. finds_at F p (suc q) n i (omega arith) h)
  where
    go : (d : ℕ) → p - q ≡ d → (suc q ≤ p → finds_if F (suc q) n ≡ true) → finds_if F q (suc n) ≡ true
    go zero e k = let s : p ≡ q = omega arith in or_l (is_if F q && reads_if F q) (finds_if F (suc q) n) (ap (λ (x : ℕ). is_if F x && reads_if F x) (sym s) ∙ h)
    go (suc d) e k = or_r (is_if F q && reads_if F q) (finds_if F (suc q) n) (k (omega arith))

module _ (F : List ℤ) (q : ℕ) where
  -- a code at the front
  begins : (low high k : ℕ) (us : List ℤ) → leb low k && leb k high ≡ true → Has F q (pos k ∷ us) → is_code F q low high ≡ true
  unfolding word nat
  begins low high k us e h = ap (λ (z : ℤ). leb low (nat z) && leb (nat z) high) (has_word F q (pos k) us (pos 0) h) ∙ e

  begins_bool : (c : BoolExpr) (l : ℕ) (us : List ℤ) → Legal c l → Has F q (encode_bool c ++ us) → is_bool F q ≡ true
  unfolding encode_bool Legal
  begins_bool (Const b) l us g h = absurd g
  begins_bool (Var v) l us g h = begins 10 18 11 _ refl h
  begins_bool (NVar n) l us g h = absurd g
  begins_bool (And ms) l us g h = begins 10 18 12 _ refl h
  begins_bool (Or ms) l us g h = begins 10 18 13 _ refl h
  begins_bool (Not e) l us g h = begins 10 18 14 _ refl h
  begins_bool (Xor a b) l us g h = begins 10 18 15 _ refl h
  begins_bool (Iff a b) l us g h = begins 10 18 16 _ refl h
  begins_bool (Imp a b) l us g h = begins 10 18 17 _ refl h
  begins_bool (Cmp o a b) l us g h = begins 10 18 18 _ refl h

  begins_int : (e : IntExpr) → Has F q (encode_int e) → is_int F q ≡ true
  unfolding encode_int
  begins_int (IConst c) h = begins 20 23 20 _ refl h
  begins_int (IVar v) h = begins 20 23 21 _ refl h
  begins_int (Linear ts) h = begins 20 23 22 _ refl h
  begins_int (If i c t f) h = begins 20 23 23 _ refl h

  bool_ends : (c : BoolExpr) → Legal c 63 → Has F q (encode_bool c) → bool_end F 63 q ≡ q + length (encode_bool c)
  bool_ends c g h = sym (decode_end F 63 never false q 0) ∙ ap (λ (r : Read). r.end) (decode_is c 63 never false F q 0 g h (omega (arith, never_bool c)))

  int_ends : (e : IntExpr) → LegalInt e 63 → Has F q (encode_int e) → int_end F 63 q ≡ q + length (encode_int e)
  int_ends e g h = sym (decode_int_end F 63 never q 0) ∙ ap (λ (r : IntRead). r.end) (decode_int_is e 63 never F q 0 g h (omega (arith, never_int e)))

-- a legal If reads as one
if_reads : (F : List ℤ) (q : ℕ) (i : IfIsRead) (c : BoolExpr) (t f : IntExpr) → LegalInt (If i c t f) 64 → Has F q (encode_int (If i c t f)) → is_if F q && reads_if F q ≡ true
unfolding LegalInt encode_int reads_if word nat
if_reads F q i c t f g h =
    let us = encode_int t ++ encode_int f in
    let m = q + 1 + length (encode_bool c) in
    let k = has_rest F q (pos 23) (encode_bool c ++ us) h in
    let hc = has_front F (q + 1) (encode_bool c) us k in
    let b = has_back F (q + 1) (encode_bool c) us k in
    let ht = has_front F m (encode_int t) (encode_int f) b in
    let hf = has_back F m (encode_int t) (encode_int f) b in
    and_i _ _ (ap (λ (z : ℤ). eqb (nat z) 23) (has_word F q (pos 23) (encode_bool c ++ us) (pos 0) h))
    (rw (bool_ends F (q + 1) c g.1 hc, int_ends F m t g.2 ht) (and_i _ _ (begins_bool F (q + 1) c 63 us g.1 k) (and_i _ _ (begins_int F m t ht) (begins_int F (m + length (encode_int t)) f hf))))

-- it stands at p among the words before `end`; v is any slice with the mark
pub if_marks : (w : List ℤ) (end p : ℕ) → folded ≤ p → p < end → (i : IfIsRead) (c : BoolExpr) (t f : IntExpr) → LegalInt (If i c t f) 64 → Has (read_part w) p (encode_int (If i c t f)) → (v : List ℤ) → get_or v ifs_word (pos 0) ≡ mark_of w end → has_ifs v ≡ true
unfolding has_ifs
if_marks w end p from to i c t f g h v e = ap (λ z. not (is_zero z)) (e ∙ ap (λ b. cond b (pos 1) (pos 0)) (finds_at (read_part w) p folded (end - folded) from (omega arith) (if_reads (read_part w) p i c t f g h)))

-- ---- the marked slice

mark_stays : (w : List ℤ) (end : ℕ) (z : ℤ) → mark_of (set w ifs_word z) end ≡ mark_of w end
unfolding read_part
mark_stays w end z = ap (λ (F : List ℤ). cond (finds_if F folded (end - folded)) (pos 1) (pos 0)) (take-set-le folded_end w ifs_word z (omega arith))

-- it is the mark of the words that stand there now
pub mark_own : (w : List ℤ) (end : ℕ) → ifs_word < length w → get_or (marked w end) ifs_word (pos 0) ≡ mark_of (marked w end) end
mark_own w end l = get_or-set_same w ifs_word (mark_of w end) (pos 0) l ∙ sym (mark_stays w end (mark_of w end))
