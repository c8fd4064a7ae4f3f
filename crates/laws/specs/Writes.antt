-- Words written into a slice from a position on, with and without room. The position counts what falls past the end too, up to the cap.
use Rattle.std.specs.Prelude.{◌≡◌, refl, Bool, true, false, List, [], ◌∷◌, ◌++◌, ℕ, suc, ◌+◌, ◌≤◌, ◌<◌, min, ℤ, length, set, leb}
use Rattle.std.proofs.Common.{sym, ap, ◌∙◌, subst, arith, length-set, length-append, leb-true, leb-false}
use Rattle.std.proofs.lemmas.List.Edits.{sets}
use Rattle.std.proofs.Math.Seq.{length-sets, set_out}

-- one more than the longest answer: positions stop here, and a slice that is written is no longer
abbrev pub cap : ℕ
cap = 16777217

-- the next word goes to o
pub record Open (out : List ℤ) (o : ℕ) : Type 0 where
  pub low : o ≤ cap
  pub room : length out ≤ cap

pub record Wrote (out : List ℤ) (o : ℕ) (vs : List ℤ) (out' : List ℤ) (o' : ℕ) : Type 0 where
  pub words : out' ≡ sets out o vs
  pub at : o' ≡ min (o + length vs) cap

-- ---- storing one after another

pub sets_append : (out : List ℤ) (o : ℕ) (us vs : List ℤ) → sets out o (us ++ vs) ≡ sets (sets out o us) (o + length us) vs
sets_append out o [] vs = ap (λ n. sets out n vs) (omega arith)
sets_append out o (u ∷ us) vs = sets_append (set out o u) (suc o) us vs ∙ ap (λ n. sets (sets (set out o u) (suc o) us) n vs) (omega arith)

pub sets_out : (out : List ℤ) (o : ℕ) (vs : List ℤ) → length out ≤ o → sets out o vs ≡ out
sets_out out o [] h = refl
sets_out out o (v ∷ vs) h = sets_out (set out o v) (suc o) vs (omega (arith, length-set out o v)) ∙ set_out out o v h

-- ---- writing one after another

pub wrote_none : (out : List ℤ) (o : ℕ) → o ≤ cap → Wrote out o [] out o
wrote_none out o h = record { words = refl; at = omega arith }

-- one word, with room, and past the end
pub wrote_one : (out : List ℤ) (o : ℕ) (v : ℤ) → o < length out → length out ≤ cap → Wrote out o (v ∷ []) (set out o v) (o + 1)
wrote_one out o v h l = record { words = refl; at = omega arith }

pub wrote_past : (out : List ℤ) (o : ℕ) (v : ℤ) → length out ≤ o → o < cap → Wrote out o (v ∷ []) out (o + 1)
wrote_past out o v h l = record { words = sym (set_out out o v h); at = omega arith }

pub wrote_capped : (out : List ℤ) (o : ℕ) (v : ℤ) → length out ≤ o → o ≡ cap → Wrote out o (v ∷ []) out o
wrote_capped out o v h l = record { words = sym (set_out out o v h); at = omega arith }

pub wrote_length : {out out' vs : List ℤ} {o o' : ℕ} → Wrote out o vs out' o' → length out' ≡ length out
wrote_length {out} {out'} {vs} {o} w = ap length w.words ∙ length-sets out o vs

pub wrote_low : {out out' vs : List ℤ} {o o' : ℕ} → Wrote out o vs out' o' → o' ≤ cap
wrote_low w = omega (arith, w.at)

pub wrote_then : {out a b us vs : List ℤ} {o p q : ℕ} → length out ≤ cap → Wrote out o us a p → Wrote a p vs b q → Wrote out o (us ++ vs) b q
wrote_then {out} {a} {b} {us} {vs} {o} {p} {q} h x y = record { words = y.words ∙ go (leb (o + length us) cap) refl; at = rw (length-append us vs) (omega (arith, x.at, y.at)) }
  where
    la : length a ≡ length out
    la = wrote_length x

    go : (t : Bool) → leb (o + length us) cap ≡ t → sets a p vs ≡ sets out o (us ++ vs)
    go true e =
        let i : p ≡ o + length us = omega (arith, x.at, leb-true (o + length us) cap e) in
        ap (λ n. sets a n vs) i ∙ ap (λ l. sets l (o + length us) vs) x.words ∙ sym (sets_append out o us vs)
    go false e =
        let i : p ≡ cap = omega (arith, x.at, leb-false (o + length us) cap e) in
        sets_out a p vs (omega (arith, la))
        ∙ sym (sets_out a (o + length us) vs (omega (arith, la, leb-false (o + length us) cap e)))
        ∙ ap (λ l. sets l (o + length us) vs) x.words
        ∙ sym (sets_append out o us vs)

-- the same words, said another way
pub wrote_to : {out out' us vs : List ℤ} {o o' : ℕ} → us ≡ vs → Wrote out o us out' o' → Wrote out o vs out' o'
wrote_to {out} {out'} {us} {vs} {o} {o'} e w = subst (λ (l : List ℤ). Wrote out o l out' o') e w

-- ---- what a position says
