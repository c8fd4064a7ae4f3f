-- What the code that prints writes: bytes from a place on, as long as there is room; with the laws that its callers share. Assumes nothing.
use Rattle.std.specs.Prelude.{◌≡◌, refl, Bool, true, false, cond, List, [], ◌∷◌, ◌++◌, ℕ, suc, ◌+◌, ◌≤◌, ◌<◌, min, ltb, length, drop, get_or, set}
use Rattle.std.proofs.Common.{sym, ap, ◌∙◌, subst, arith, add-one, length-set, drop-cons, ltb-true, ltb-false, lt-ltb, le-ltb}
use Rattle.std.proofs.lemmas.List.Edits.{sets}
use Rattle.std.proofs.Math.Seq.{set_out}

-- the bytes and the place after them; past the end nothing is written, and the place stays
unfoldable pub puts : List ℕ → ℕ → List ℕ → List ℕ × ℕ
puts out at [] = (out, at)
puts out at (b ∷ bs) = cond (ltb at (length out)) (puts (set out at b) (at + 1) bs) (puts out at bs)

pub record Puts (out : List ℕ) (at : ℕ) (bs : List ℕ) (out' : List ℕ) (r : ℕ) : Type 0 where
  pub size : length out' ≡ length out
  pub bytes : puts out at bs ≡ (out', r)

-- ---- bytes one after another

puts_append : (out : List ℕ) (at : ℕ) (us vs : List ℕ) → puts out at (us ++ vs) ≡ puts (puts out at us).0 (puts out at us).1 vs
unfolding puts
puts_append out at [] vs = refl
puts_append out at (u ∷ us) vs = go (ltb at (length out)) (puts_append (set out at u) (at + 1) us vs) (puts_append out at us vs)
  where
    go : (t : Bool) → puts (set out at u) (at + 1) (us ++ vs) ≡ puts (puts (set out at u) (at + 1) us).0 (puts (set out at u) (at + 1) us).1 vs
        → puts out at (us ++ vs) ≡ puts (puts out at us).0 (puts out at us).1 vs
        → cond t (puts (set out at u) (at + 1) (us ++ vs)) (puts out at (us ++ vs))
        ≡ puts (cond t (puts (set out at u) (at + 1) us) (puts out at us)).0 (cond t (puts (set out at u) (at + 1) us) (puts out at us)).1 vs
    go true a b = a
    go false a b = b

-- what is left to write, after us
pub puts_left : {out out' us : List ℕ} {at r : ℕ} (vs : List ℕ) → Puts out at us out' r → puts out at (us ++ vs) ≡ puts out' r vs
puts_left {out} {out'} {us} {at} {r} vs w = puts_append out at us vs ∙ rw w.bytes refl

pub puts_then : {out mid out' us vs : List ℕ} {at m r : ℕ} → Puts out at us mid m → Puts mid m vs out' r → Puts out at (us ++ vs) out' r
puts_then {vs = vs} x y = record { size = y.size ∙ x.size; bytes = puts_left vs x ∙ y.bytes }

pub puts_none : (out : List ℕ) (at : ℕ) → Puts out at [] out at
unfolding puts
puts_none out at = record { size = refl; bytes = refl }

pub puts_one : (out : List ℕ) (at b : ℕ) → at < length out → Puts out at (b ∷ []) (set out at b) (at + 1)
unfolding puts
puts_one out at b h = record { size = length-set out at b; bytes = rw (lt-ltb at (length out) h) refl }

pub puts_past : (out : List ℕ) (at b : ℕ) → length out ≤ at → Puts out at (b ∷ []) out at
unfolding puts
puts_past out at b h = record { size = refl; bytes = rw (le-ltb at (length out) h) refl }

-- the same bytes, said another way
pub puts_as : {out out' us : List ℕ} {at r : ℕ} (vs : List ℕ) → us ≡ vs → Puts out at us out' r → Puts out at vs out' r
puts_as {out} {out'} {us} {at} {r} vs e w = subst (λ (l : List ℕ). Puts out at l out' r) e w

-- with a place inside: stored one after another, as far as there is room
past_end : (cs out : List ℕ) (i : ℕ) → length out ≤ i → sets out i cs ≡ out
past_end [] out i k = refl
past_end (c ∷ cs) out i k = rw (set_out out i c k) (past_end cs out (suc i) (omega arith))

puts_sets : (bs out : List ℕ) (at : ℕ) → at ≤ length out → puts out at bs ≡ (sets out at bs, min (at + length bs) (length out))
unfolding puts
puts_sets [] out at h = let e : at ≡ min (at + 0) (length out) = omega arith in ap (λ n. (out, n)) e
puts_sets (b ∷ bs) out at h = go (ltb at (length out)) refl (λ l. puts_sets bs (set out at b) (at + 1) l) (puts_sets bs out at h)
  where
    go : (t : Bool) → ltb at (length out) ≡ t
        → (at + 1 ≤ length (set out at b) → puts (set out at b) (at + 1) bs ≡ (sets (set out at b) (at + 1) bs, min (at + 1 + length bs) (length (set out at b))))
        → puts out at bs ≡ (sets out at bs, min (at + length bs) (length out))
        → cond t (puts (set out at b) (at + 1) bs) (puts out at bs) ≡ (sets (set out at b) (suc at) bs, min (at + suc (length bs)) (length out))
    go true e p q =
        let l = ltb-true at (length out) e in
        let z : length (set out at b) ≡ length out = length-set out at b in
        let m : min (at + 1 + length bs) (length (set out at b)) ≡ min (at + suc (length bs)) (length out) = omega arith in
        p (omega arith) ∙ rw (m, add-one at) refl
    go false e p q =
        let l = ltb-false at (length out) e in
        let m : min (at + length bs) (length out) ≡ min (at + suc (length bs)) (length out) = omega arith in
        q ∙ rw (set_out out at b l, m, past_end bs out at l, past_end bs out (suc at) (omega arith)) refl

pub text_result : (out : List ℕ) (bs out' : List ℕ) (r : ℕ) → Puts out 0 bs out' r → (r ≡ min (length bs) (length out)) × (out' ≡ sets out 0 bs)
text_result out bs out' r w =
    let p : ◌≡◌ {A = List ℕ × ℕ} (out', r) (sets out 0 bs, min (0 + length bs) (length out)) = sym w.bytes ∙ puts_sets bs out 0 (omega arith) in
    let q : r ≡ min (0 + length bs) (length out) = ap (λ (x : List ℕ × ℕ). x.1) p in
    (omega arith, ap (λ (x : List ℕ × ℕ). x.0) p)

-- ---- the byte at a place

pub cons_at : (part : List ℕ) (i : ℕ) → i < length part → drop i part ≡ get_or part i 0 ∷ drop (i + 1) part
cons_at part i h = rw (add-one i) (drop-cons part i 0 h)
