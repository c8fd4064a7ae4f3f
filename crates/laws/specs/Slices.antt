-- Words that stand at a place of a list, and words written there. Writing keeps what lies below the place and says nothing of what lies above
-- the end: a stack's discipline, so that what is cut off needs no cleaning, and one equation of prefixes frames every region below.
use Rattle.std.specs.Prelude.{ℕ, suc, ◌+◌, ◌-◌, ◌≤◌, ◌<◌, ◌≡◌, refl, Bool, true, false, List, [], ◌∷◌, ◌++◌, ltb, ℤ, pos, replicate, length, take, drop, get_or, set}
use Rattle.std.proofs.Common.{sym, ap, ◌∙◌, append_assoc, append-nil, arith, add-one, ltb-true, ltb-false, take-append-drop, length-append, length-take, length-drop, length-set, take-suc, take-suc-set, take-take, drop_at, drop-drop, take-add, length-take-le, drop-set-lt, get_or-drop, drop-cons, get_or-take}
use Rattle.std.proofs.lemmas.List.{drop-append-le, take-append-le, take-set-le}
use Rattle.std.proofs.Math.Seq.{take-append-add, drop-append_seam, take-append_seam, slice, slice_empty, take-set-lt}
use Rattle.std.proofs.lemmas.List.Edits.{sets, sets-eq}

-- ---- a cleared slice

abbrev pub zeros : ℕ → List ℤ
zeros n = replicate n (pos 0)

-- ---- standing

abbrev pub Has : List ℤ → ℕ → List ℤ → Type 0
Has ws at us = take (length us) (drop at ws) ≡ us

pub has_fits : (ws : List ℤ) (at : ℕ) (us : List ℤ) → Has ws at us → 0 < length us → at + length us ≤ length ws
has_fits ws at us h z = omega (arith, ap length h, length-take (length us) (drop at ws), length-drop at ws)

pub has_front : (ws : List ℤ) (at : ℕ) (us vs : List ℤ) → Has ws at (us ++ vs) → Has ws at us
has_front ws at us vs h =
    let n : length us ≤ length (us ++ vs) = omega (arith, length-append us vs) in
    sym (take-take (length us) (length (us ++ vs)) (drop at ws) n) ∙ ap (take (length us)) h ∙ take-append_seam us vs

pub has_back : (ws : List ℤ) (at : ℕ) (us vs : List ℤ) → Has ws at (us ++ vs) → Has ws (at + length us) vs
has_back ws at us vs h =
    let e : take (length us + length vs) (drop at ws) ≡ us ++ vs = ap (λ n. take n (drop at ws)) (sym (length-append us vs)) ∙ h in
    let f : take (length us) (drop at ws) ++ take (length vs) (drop (length us) (drop at ws)) ≡ us ++ vs = sym (take-add (length us) (length vs) (drop at ws)) ∙ e in
    let g : us ++ take (length vs) (drop (length us) (drop at ws)) ≡ us ++ vs = ap (λ l. l ++ take (length vs) (drop (length us) (drop at ws))) (sym (has_front ws at us vs h)) ∙ f in
    ap (λ l. take (length vs) l) (sym (drop-drop (length us) at ws)) ∙ sym (drop-append_seam us (take (length vs) (drop (length us) (drop at ws)))) ∙ ap (drop (length us)) g ∙ drop-append_seam us vs

pub has_word : (ws : List ℤ) (at : ℕ) (u : ℤ) (us : List ℤ) (d : ℤ) → Has ws at (u ∷ us) → get_or ws at d ≡ u
has_word ws at u us d h =
    let l : at < length ws = omega (arith, has_fits ws at (u ∷ us) h (omega arith)) in
    let e : take (length (u ∷ us)) (get_or ws at d ∷ drop (suc at) ws) ≡ u ∷ us = ap (take (length (u ∷ us))) (sym (drop-cons ws at d l)) ∙ h in
    cc

pub has_rest : (ws : List ℤ) (at : ℕ) (u : ℤ) (us : List ℤ) → Has ws at (u ∷ us) → Has ws (at + 1) us
has_rest ws at u us h = has_back ws at (u ∷ []) us h

-- ---- written: r is the end

pub record Pushed (out : List ℤ) (o : ℕ) (us out' : List ℤ) (r : ℕ) : Type 0 where
  pub end : r ≡ o + length us
  pub words : take r out' ≡ take o out ++ us

pub pushed_below : (out : List ℤ) (o : ℕ) (us out' : List ℤ) (r n : ℕ) → Pushed out o us out' r → n ≤ o → o ≤ length out → take n out' ≡ take n out
pushed_below out o us out' r n w h l =
    let e : r ≡ o + length us = w.end in
    sym (take-take n r out' (omega arith)) ∙ ap (take n) w.words ∙ take-append-le n (take o out) us (omega (arith, length-take-le o out l)) ∙ take-take n o out h

pub pushed_slice : (out : List ℤ) (o : ℕ) (us out' : List ℤ) (r : ℕ) → Pushed out o us out' r → o ≤ length out → slice o r out' ≡ us
pushed_slice out o us out' r w l = ap (drop o) w.words ∙ drop_at (take o out) us o (length-take-le o out l)

pub pushed_then : (out : List ℤ) (o : ℕ) (us mid : List ℤ) (m : ℕ) (vs out' : List ℤ) (r : ℕ) → Pushed out o us mid m → Pushed mid m vs out' r → Pushed out o (us ++ vs) out' r
pushed_then out o us mid m vs out' r w v = record {
  end = let e : m ≡ o + length us = w.end in let f : r ≡ m + length vs = v.end in omega (arith, length-append us vs);
  words = v.words ∙ ap (λ l. l ++ vs) w.words ∙ append_assoc (take o out) us vs;
}

-- what is written from o on after something was written further up
pub pushed_over : (out : List ℤ) (o' : ℕ) (us mid : List ℤ) (m o : ℕ) (vs out' : List ℤ) (r : ℕ) → Pushed out o' us mid m → o ≤ o' → o' ≤ length out → Pushed mid o vs out' r → Pushed out o vs out' r
pushed_over out o' us mid m o vs out' r w h l v = record {
  end = v.end;
  words = v.words ∙ ap (λ l. l ++ vs) (pushed_below out o' us mid m o w h l);
}

pub pushed_none : (out : List ℤ) (o : ℕ) → Pushed out o [] out o
pushed_none out o = record { end = omega arith; words = sym (append-nil (take o out)) }

pub pushed_has : (out : List ℤ) (o : ℕ) (us out' : List ℤ) (r : ℕ) → Pushed out o us out' r → o ≤ length out → r ≤ length out' → Has out' o us
pushed_has out o us out' r w l k =
    let e : r ≡ o + length us = w.end in
    let s : drop o (take (o + length us) out') ≡ us = ap (λ n. drop o (take n out')) (sym e) ∙ pushed_slice out o us out' r w l in
    let t : drop o (take o out' ++ take (length us) (drop o out')) ≡ us = ap (drop o) (sym (take-add o (length us) out')) ∙ s in
    sym (drop_at (take o out') (take (length us) (drop o out')) o (length-take-le o out' (omega arith))) ∙ t

-- a fact of what lies above, further up
pub drop_up : (a b : ℕ) (x y : List ℤ) → drop a x ≡ drop a y → a ≤ b → drop b x ≡ drop b y
drop_up a b x y h l =
    let m : b ≡ a + (b - a) = omega arith in
    ap (λ n. drop n x) m ∙ sym (drop-drop (b - a) a x) ∙ ap (drop (b - a)) h ∙ drop-drop (b - a) a y ∙ ap (λ n. drop n y) (sym m)

-- written, and nothing above the end touched
pub record Stored (out : List ℤ) (o : ℕ) (us out' : List ℤ) (r : ℕ) : Type 0 where
  pub pushed : Pushed out o us out' r
  pub above : drop r out' ≡ drop r out

-- ---- stores in front of words that stand

drop_sets : (vs l : List ℤ) (i e : ℕ) → i + length vs ≤ e → drop e (sets l i vs) ≡ drop e l
drop_sets [] l i e h = refl
drop_sets (v ∷ vs) l i e h = drop_sets vs (set l i v) (suc i) e (omega arith) ∙ drop-set-lt e l i v (omega arith)

slice_add : (f n : ℕ) (l : List ℤ) → f ≤ length l → slice f (f + n) l ≡ take n (drop f l)
slice_add f n l h = ap (drop f) (take-add f n l) ∙ drop_at (take f l) (take n (drop f l)) f (length-take-le f l h)

heads_add : (out : List ℤ) (o : ℕ) (vs : List ℤ) (n : ℕ) → o + length vs + n ≤ length out → take (o + length vs + n) (sets out o vs) ≡ take o out ++ (vs ++ slice (o + length vs) (o + length vs + n) out)
heads_add out o vs n h =
    let a : List ℤ = take o out ++ vs in
    let la : length a ≡ o + length vs = length-append (take o out) vs ∙ ap (λ k. k + length vs) (length-take-le o out (omega arith)) in
    let e : sets out o vs ≡ a ++ drop (o + length vs) out = sets-eq vs out o (omega arith) in
    ap (take (o + length vs + n)) e
    ∙ ap (λ k. take (k + n) (a ++ drop (o + length vs) out)) (sym la)
    ∙ take-append-add a (drop (o + length vs) out) n
    ∙ ap (λ l. a ++ l) (sym (slice_add (o + length vs) n out (omega arith)))
    ∙ append_assoc (take o out) vs _

-- vs stored from o on, in front of what stands from there up to e
heads : (out : List ℤ) (o : ℕ) (vs : List ℤ) (e : ℕ) → o + length vs ≤ e → e ≤ length out → Stored out o (vs ++ slice (o + length vs) e out) (sets out o vs) e
heads out o vs e h k =
    let n : ℕ = e - (o + length vs) in
    let p : e ≡ o + length vs + n = omega arith in
    record {
      above = drop_sets vs out o e h;
      pushed = record {
        end = omega (arith, length-append vs (slice (o + length vs) e out), length-drop (o + length vs) (take e out), length-take-le e out k);
        words = ap (λ j. take j (sets out o vs)) p ∙ heads_add out o vs n (omega arith) ∙ ap (λ j. take o out ++ (vs ++ slice (o + length vs) j out)) (sym p);
      };
    }

pub heads_one : (out : List ℤ) (o : ℕ) (u : ℤ) (e : ℕ) → o + 1 ≤ e → e ≤ length out → Stored out o (u ∷ slice (o + 1) e out) (set out o u) e
heads_one out o u e h k = heads out o (u ∷ []) e h k

pub heads_two : (out : List ℤ) (o : ℕ) (u v : ℤ) (e : ℕ) → o + 2 ≤ e → e ≤ length out → Stored out o (u ∷ v ∷ slice (o + 2) e out) (set (set out o u) (o + 1) v) e
heads_two out o u v e h k = rw (add-one o) (heads out o (u ∷ v ∷ []) e h k)

pub stored_two : (out : List ℤ) (o : ℕ) (u v : ℤ) → o + 2 ≤ length out → Stored out o (u ∷ v ∷ []) (set (set out o u) (o + 1) v) (o + 2)
stored_two out o u v h = rw (slice_empty (o + 2) out) at (heads_two out o u v (o + 2) (omega arith) h)

-- a store below a part
slice_set : (out : List ℤ) (i : ℕ) (u : ℤ) (f e : ℕ) → i < f → slice f e (set out i u) ≡ slice f e out
slice_set out i u f e h = go (ltb i e) refl
  where
    go : (c : Bool) → ltb i e ≡ c → slice f e (set out i u) ≡ slice f e out
    go true q = ap (drop f) (take-set-lt e out i u (ltb-true i e q)) ∙ drop-set-lt f (take e out) i u h
    go false q = ap (drop f) (take-set-le e out i u (ltb-false i e q))

-- ---- moving words down, one at a time

pub record Moving (out₀ : List ℤ) (from to : ℕ) (out : List ℤ) (i p : ℕ) : Type 0 where
  pub place : p + from ≡ to + i
  pub start : from ≤ i
  pub size : length out ≡ length out₀
  pub low : take p out ≡ take to out₀ ++ slice from i out₀
  pub high : drop p out ≡ drop p out₀

pub moving_none : (out : List ℤ) (from to : ℕ) → Moving out from to out from to
moving_none out from to = record
    { place = omega arith; start = omega arith; size = refl; low = rw (slice_empty from out) (sym (append-nil (take to out))); high = refl }

slice_snoc : (f i : ℕ) (l : List ℤ) (d : ℤ) → f ≤ i → i < length l → slice f (i + 1) l ≡ slice f i l ++ (get_or l i d ∷ [])
slice_snoc f i l d h k = rw (add-one i, take-suc l i d k) (drop-append-le f (take i l) _ (omega (arith, length-take-le i l (omega arith))))

pub moving_next : (out₀ : List ℤ) (from to : ℕ) (out : List ℤ) (i p : ℕ) (d : ℤ) → to ≤ from → i < length out₀ → Moving out₀ from to out i p → Moving out₀ from to (set out p (get_or out i d)) (i + 1) (p + 1)
moving_next out₀ from to out i p d h k m =
    let pl : p + from ≡ to + i = m.place in
    let st : from ≤ i = m.start in
    let sz : length out ≡ length out₀ = m.size in
    let hi : drop i out ≡ drop i out₀ = drop_up p i out out₀ m.high (omega arith) in
    let w : get_or out i d ≡ get_or out₀ i d = ap (λ n. get_or out n d) (omega arith) ∙ sym (get_or-drop i out 0 d) ∙ ap (λ l. get_or l 0 d) hi ∙ get_or-drop i out₀ 0 d ∙ ap (λ n. get_or out₀ n d) (omega arith) in
    record {
      place = omega arith;
      start = omega arith;
      size = length-set out p _ ∙ sz;
      low = rw (add-one p, take-suc-set out p (get_or out i d) (omega arith), m.low, w, append_assoc) (ap (λ l. take to out₀ ++ l) (sym (slice_snoc from i out₀ d st k)));
      high = drop-set-lt (p + 1) out p _ (omega arith) ∙ drop_up p (p + 1) out out₀ m.high (omega arith);
    }

pub moving_end : (out₀ : List ℤ) (from to e : ℕ) (out : List ℤ) (i p : ℕ) → i ≡ e → e ≤ length out₀ → Moving out₀ from to out i p → Stored out₀ to (slice from e out₀) out p
moving_end out₀ from to e out i p h k m =
    let pl : p + from ≡ to + i = m.place in
    let st : from ≤ i = m.start in
    record {
      above = m.high;
      pushed = record {
        end = omega (arith, length-drop from (take e out₀), length-take-le e out₀ k);
        words = m.low ∙ ap (λ j. take to out₀ ++ slice from j out₀) h;
      };
    }

-- a word in front of what is moved down behind it
pub moved_behind : (out : List ℤ) (o : ℕ) (u : ℤ) (m e : ℕ) (out' : List ℤ) (r : ℕ) → o < m → o < length out → Stored (set out o u) (o + 1) (slice m e (set out o u)) out' r → Stored out o (u ∷ slice m e out) out' r
moved_behind out o u m e out' r h k w =
    let s : slice m e (set out o u) ≡ slice m e out = slice_set out o u m e h in
    let x : r ≡ o + 1 + length (slice m e out) = w.pushed.end ∙ ap (λ l. o + 1 + length l) s in
    record {
      above = w.above ∙ drop-set-lt r out o u (omega arith);
      pushed = record {
        end = omega arith;
        words = w.pushed.words ∙ rw (s, add-one o, take-suc-set out o u k) (append_assoc (take o out) (u ∷ []) (slice m e out));
      };
    }

-- two parts that meet
pub slice_join : (f m e : ℕ) (l : List ℤ) → f ≤ m → m ≤ e → e ≤ length l → slice f m l ++ slice m e l ≡ slice f e l
slice_join f m e l h k j =
    let s : take e l ≡ take m l ++ slice m e l = sym (take-append-drop m (take e l)) ∙ ap (λ x. x ++ slice m e l) (take-take m e l k) in
    sym (ap (drop f) s ∙ drop-append-le f (take m l) (slice m e l) (omega (arith, length-take-le m l (omega arith))))

-- the word at a distance
pub has_nth : (ws : List ℤ) (at : ℕ) (us : List ℤ) (i : ℕ) (d : ℤ) → Has ws at us → i < length us → get_or ws (at + i) d ≡ get_or us i d
has_nth ws at us i d h l = sym (get_or-drop at ws i d) ∙ sym (get_or-take (length us) (drop at ws) i d l) ∙ ap (λ v. get_or v i d) h

-- words stored with room stand
pub has_sets : (out : List ℤ) (o : ℕ) (us : List ℤ) → o + length us ≤ length out → Has (sets out o us) o us
has_sets out o us h =
    let e : drop o (sets out o us) ≡ us ++ drop (o + length us) out = ap (drop o) (sets-eq us out o h ∙ append_assoc (take o out) us (drop (o + length us) out)) ∙ drop_at (take o out) (us ++ drop (o + length us) out) o (length-take-le o out (omega arith)) in
    ap (take (length us)) e ∙ take-append_seam us (drop (o + length us) out)
