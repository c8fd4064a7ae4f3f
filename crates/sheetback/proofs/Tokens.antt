-- Tokens of lines: what spaces part, and the spaces at the end. Assumes nothing.
use Rattle.std.specs.Prelude.{◌≡◌, refl, Bool, true, false, ◌&&◌, not, cond, List, [], ◌∷◌, ◌++◌, ℕ, zero, suc, ◌≤◌, eqb, length}
use Rattle.std.proofs.Common.{ap, ◌∙◌, append-nil, arith, eq-eqb}
use Rattle.std.proofs.lemmas.Bool.{false≢true}
use Rattle.laws.specs.Lists.{select, keep_if}
use Rattle.decimal.specs.Bytes.{comma}
use Rattle.decimal.specs.Decimal.{is_empty}
use Rattle.input.specs.ReadText.{onto, split}
use Rattle.readback.proofs.Split.{avoids, split_end}
use Rattle.page.specs.Sheet.{space, spaces}
use Rattle.sheetback.specs.ReadSheet.{tokens, ends_open, glued}

pub select_append : {A : Type 0} (f : A → Bool) (xs ys : List A) → select f (xs ++ ys) ≡ select f xs ++ select f ys
select_append f [] ys = refl
select_append f (x ∷ xs) ys = go (f x) (select_append f xs ys)
  where
    go : (t : Bool) → select f (xs ++ ys) ≡ select f xs ++ select f ys → keep_if t x (select f (xs ++ ys)) ≡ keep_if t x (select f xs) ++ select f ys
    go true e = ap (λ l. x ∷ l) e
    go false e = e

-- a part at least
split_some : (s : ℕ) (bs : List ℕ) → 1 ≤ length (split s bs)
unfolding split
split_some s [] = omega arith
split_some s (b ∷ bs) = go (eqb b s) (split s bs)
  where
    go : (t : Bool) (ps : List (List ℕ)) → 1 ≤ length (cond t ([] ∷ ps) (onto b ps))
    go true ps = omega arith
    go false [] = omega arith
    go false (p ∷ ps) = omega arith

split_between : (s : ℕ) (xs ys : List ℕ) → split s (xs ++ (s ∷ ys)) ≡ split s xs ++ split s ys
unfolding split
split_between s [] ys = rw (eq-eqb s s refl) refl
split_between s (x ∷ xs) ys = go (eqb x s) (split s xs) (split_some s xs) (split_between s xs ys)
  where
    go : (t : Bool) (ps : List (List ℕ)) → 1 ≤ length ps → split s (xs ++ (s ∷ ys)) ≡ ps ++ split s ys → cond t ([] ∷ split s (xs ++ (s ∷ ys))) (onto x (split s (xs ++ (s ∷ ys)))) ≡ cond t ([] ∷ ps) (onto x ps) ++ split s ys
    go true ps h e = ap (λ l. [] ∷ l) e
    go false [] h e = absurd (omega arith)
    go false (p ∷ ps) h e = ap (onto x) e

pub tokens_between : (xs ys : List ℕ) → tokens (xs ++ (space ∷ ys)) ≡ tokens xs ++ tokens ys
unfolding tokens
tokens_between xs ys = ap (select (λ (t : List ℕ). not (is_empty t))) (split_between space xs ys) ∙ select_append (λ (t : List ℕ). not (is_empty t)) (split space xs) (split space ys)

pub tokens_none : tokens [] ≡ []
unfolding tokens split
tokens_none = refl

-- spaces at the end
pub tokens_pad : (n : ℕ) (xs : List ℕ) → tokens (xs ++ spaces n) ≡ tokens xs
tokens_pad zero xs = ap tokens (append-nil xs)
tokens_pad (suc n) xs = tokens_between xs (spaces n) ∙ ap (λ l. tokens xs ++ l) (tokens_pad n [] ∙ tokens_none) ∙ append-nil (tokens xs)

pub tokens_one : (t : List ℕ) → is_empty t ≡ false → avoids space t ≡ true → tokens t ≡ t ∷ []
unfolding tokens
tokens_one t h k = rw (split_end space t k, h) refl

-- ---- a token that goes on

pub open_append : (xs ys : List ℕ) → is_empty ys ≡ false → ends_open (xs ++ ys) ≡ ends_open ys
unfolding ends_open
open_append [] ys h = refl
open_append (x ∷ xs) ys h = ap (λ (t : Bool). cond t (eqb x comma) (ends_open (xs ++ ys))) (some_append xs ys h) ∙ open_append xs ys h
  where
    some_append : (xs ys : List ℕ) → is_empty ys ≡ false → is_empty (xs ++ ys) ≡ false
    some_append [] ys h = h
    some_append (x ∷ xs) ys h = refl

pub closed : (t : List ℕ) → avoids comma t ≡ true → ends_open t ≡ false
unfolding ends_open
closed [] h = refl
closed (b ∷ bs) h = go (is_empty bs) (eqb b comma) h (closed bs)
  where
    go : (e x : Bool) → not x && avoids comma bs ≡ true → (avoids comma bs ≡ true → ends_open bs ≡ false) → cond e x (ends_open bs) ≡ false
    go true true h f = absurd (false≢true h)
    go true false h f = refl
    go false true h f = absurd (false≢true h)
    go false false h f = f h

pub glued_open : (t : List ℕ) (ts us : List (List ℕ)) (y : List ℕ) → ends_open t ≡ true → glued ts ≡ y ∷ us → glued (t ∷ ts) ≡ (t ++ y) ∷ us
unfolding glued
glued_open t ts us y h e = rw (h, e) refl

pub glued_closed : (t : List ℕ) (ts : List (List ℕ)) → ends_open t ≡ false → glued (t ∷ ts) ≡ t ∷ glued ts
unfolding glued
glued_closed t ts h = rw h refl
