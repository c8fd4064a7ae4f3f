-- Tests of every pair of a list of expressions, as one pass makes them: by the largest total so far, and by the long ones against all. Assumes nothing.
use mathlib.Core.Path.{◌≡◌, refl, sym, ap, ◌∙◌, subst}
use mathlib.Core.Bool.{Bool, true, false, ◌||◌, cond}
use mathlib.Core.List.{List, [], ◌∷◌, ◌++◌, append_assoc}
use Prim.Native.Nat.{ℕ, ◌+◌, ◌<◌, max}
use native.Mathlib.Omega.{arith}
use lib.Dec.{ltb}
use lib.ListN.{length}
use borrow.Author.Tests.{ltb-true, ltb-false, lt-ltb, le-ltb}
use Rattle.laws.specs.Bools.{never, eq2, eq4, or_l, or_r, or_pick, both_ways}
use Rattle.laws.specs.Lists.{any, any_append, any_cong}
use Rattle.syntax.specs.Syntax.{Domain, IntExpr, encode_int}
use Rattle.syntax.specs.Written.{EveryColumnOf, Any, None, ints_of}
use Rattle.limits.specs.Limits.{any_pair, heavy, heavy_comparison, written, ifs, many_comparison}
use Rattle.limits.specs.Total.{Bounded, total}
use Rattle.limits.proofs.TotalLaws.{heavy_total, heavy_comparison_total}
use Rattle.limits.proofs.Count.{among, either, marked, marked_cong, many_comparison_marked, few_comparison}
use Rattle.accept.specs.Walk.{UsableInt, UsableColumns, over, crowds, crowded}

pub any_none : {A : Type 0} (f : A → Bool) (xs : List A) → ((x : A) → f x ≡ false) → any f xs ≡ false
any_none f [] h = refl
any_none f (x ∷ xs) h = rw (h x) (any_none f xs h)

pub any_pair_none : (f : IntExpr → IntExpr → Bool) (es : List IntExpr) → ((a b : IntExpr) → f a b ≡ false) → any_pair f es ≡ false
unfolding any_pair
any_pair_none f [] h = refl
any_pair_none f (e ∷ es) h = rw (any_none (f e) es (h e)) (any_pair_none f es h)

pub any_pair_cong : (f g : IntExpr → IntExpr → Bool) (es : List IntExpr) → ((a b : IntExpr) → f a b ≡ g a b) → any_pair f es ≡ any_pair g es
unfolding any_pair
any_pair_cong f g [] h = refl
any_pair_cong f g (e ∷ es) h = rw (any_cong (f e) (g e) es (h e), any_pair_cong f g es h) refl

pub any_or : {A : Type 0} (f g : A → Bool) (xs : List A) → any (λ x. f x || g x) xs ≡ any f xs || any g xs
any_or f g [] = refl
any_or f g (x ∷ xs) = rw (any_or f g xs) (regroup (f x) (g x) (any f xs) (any g xs))
  where
    regroup : (a b c d : Bool) → (a || b) || (c || d) ≡ (a || c) || (b || d)
    regroup = eq4 _ _ refl

-- ---- 9: the largest total so far

-- over the limit with the larger of two is over it with one of them
larger_over : (a b c : ℕ) → ltb 1073741823 (max a b + c) ≡ ltb 1073741823 (a + c) || ltb 1073741823 (b + c)
larger_over a b c = go (ltb 1073741823 (a + c)) refl (ltb 1073741823 (b + c)) refl
  where
    go : (x : Bool) → ltb 1073741823 (a + c) ≡ x → (y : Bool) → ltb 1073741823 (b + c) ≡ y → ltb 1073741823 (max a b + c) ≡ x || y
    go true p y q = let h = ltb-true 1073741823 (a + c) p in lt-ltb 1073741823 (max a b + c) (omega arith)
    go false p true q = let h = ltb-true 1073741823 (b + c) q in lt-ltb 1073741823 (max a b + c) (omega arith)
    go false p false q =
        let h = ltb-false 1073741823 (a + c) p in
        let k = ltb-false 1073741823 (b + c) q in
        le-ltb 1073741823 (max a b + c) (omega arith)

module _ (ds : List Domain) where
  abbrev over_with : ℕ → IntExpr → Bool
  over_with t e = ltb 1073741823 (t + total ds e)

  abbrev over_both : IntExpr → IntExpr → Bool
  over_both a b = ltb 1073741823 (total ds a + total ds b)

  over_any : (top : ℕ) (es : List IntExpr) → over ds top es ≡ any (over_with top) es || any_pair over_both es
  unfolding over any_pair
  over_any top [] = refl
  over_any top (e ∷ es) =
      let t = total ds e in
      rw (over_any (max top t) es, any_cong (over_with (max top t)) (λ x. over_with top x || over_with t x) es (λ x. larger_over top t (total ds x)), any_or (over_with top) (over_with t) es)
      (regroup (over_with top e) (any (over_with top) es) (any (over_with t) es) (any_pair over_both es))
    where
      regroup : (a b c d : Bool) → a || ((b || c) || d) ≡ (a || b) || (c || d)
      regroup = eq4 _ _ refl

  pub over_pairs : Bounded ds → (es : List IntExpr) → over ds 0 es ≡ any (heavy ds) es || any_pair (heavy_comparison ds) es
  over_pairs b es =
      over_any 0 es
      ∙ rw (any_cong (over_with 0) (heavy ds) es (λ e. let z : 0 + total ds e ≡ total ds e = omega arith in ap (ltb 1073741823) z ∙ sym (heavy_total ds b e)), any_pair_cong over_both (heavy_comparison ds) es (λ x y. sym (heavy_comparison_total ds b x y))) refl

-- ---- 10: each expression of 64 words or more, against all others

or_comm : (a b : Bool) → a || b ≡ b || a
or_comm = eq2 _ _ refl

abbrev short : IntExpr → Bool
short e = ltb (length (encode_int e)) 64

-- of two that write too many, one is long
other_long : (a b : IntExpr) → many_comparison a b ≡ true → short a ≡ true → short b ≡ false
other_long a b m s = go (short b) refl
  where
    go : (t : Bool) → short b ≡ t → short b ≡ false
    go false q = q
    go true q =
        let x = ltb-true (length (encode_int a)) 64 s in
        let y = ltb-true (length (encode_int b)) 64 q in
        never (sym (few_comparison a b (omega arith)) ∙ m)

-- a pair of the later ones, a pair across
pairs_behind : (f : IntExpr → IntExpr → Bool) (bs es : List IntExpr) → any_pair f es ≡ true → any_pair f (bs ++ es) ≡ true
unfolding any_pair
pairs_behind f [] es h = h
pairs_behind f (b ∷ bs) es h = or_r (any (f b) (bs ++ es)) _ (pairs_behind f bs es h)

pairs_across : (f : IntExpr → IntExpr → Bool) (bs : List IntExpr) (e : IntExpr) (es : List IntExpr) → any (λ x. f x e) bs ≡ true → any_pair f (bs ++ (e ∷ es)) ≡ true
unfolding any_pair
pairs_across f [] e es h = never h
pairs_across f (b ∷ bs) e es h =
    or_pick (f b e) (any (λ x. f x e) bs) h (λ z. or_l (any (f b) (bs ++ (e ∷ es))) _ (any_append (f b) bs (e ∷ es) ∙ or_r (any (f b) bs) _ (or_l (f b e) _ z)))
    (λ z. or_r (any (f b) (bs ++ (e ∷ es))) _ (pairs_across f bs e es z))

module _ (ni : ℕ) where
  abbrev Lows : List IntExpr → Type 0
  Lows es = UsableColumns ni es

  many_turned : (a b : IntExpr) → UsableInt ni a → UsableInt ni b → many_comparison a b ≡ true → many_comparison b a ≡ true
  many_turned a b h k m =
      let ha = ints_of None Any (λ v. v < ni) a h in
      let hb = ints_of None Any (λ v. v < ni) b k in
      let c : marked (either b a) ni ≡ marked (either a b) ni = marked_cong (either b a) (either a b) ni (λ v l. or_comm (among (written b) v) (among (written a) v)) in
      let s : marked (either b a) ni + (ifs b + ifs a) ≡ marked (either a b) ni + (ifs a + ifs b) = omega arith in
      many_comparison_marked ni b a hb ha ∙ ap (ltb 64) s ∙ sym (many_comparison_marked ni a b ha hb) ∙ m

  any_of : (f g : IntExpr → Bool) (es : List IntExpr) → Lows es → ((x : IntExpr) → UsableInt ni x → f x ≡ true → g x ≡ true) → any f es ≡ true → any g es ≡ true
  unfolding EveryColumnOf
  any_of f g [] l h k = k
  any_of f g (e ∷ es) l h k = or_pick (f e) (any f es) k (λ z. or_l (g e) (any g es) (h e l.0 z)) (λ z. or_r (g e) (any g es) (any_of f g es l.1 h z))

  lows_join : (bs es : List IntExpr) → Lows bs → Lows es → Lows (bs ++ es)
  unfolding EveryColumnOf
  lows_join [] es h k = k
  lows_join (b ∷ bs) es h k = (h.0, lows_join bs es h.1 k)

  -- ---- what the long ones find is a pair

  crowds_pair : (bs : List IntExpr) (e : IntExpr) (es : List IntExpr) → Lows bs → UsableInt ni e → crowds bs e es ≡ true → any_pair many_comparison (bs ++ (e ∷ es)) ≡ true
  unfolding crowds any_pair
  crowds_pair bs e es l u h = go (short e) h
    where
      go : (t : Bool) → cond t false (any (many_comparison e) bs || any (many_comparison e) es) ≡ true → any_pair many_comparison (bs ++ (e ∷ es)) ≡ true
      go true k = never k
      go false k =
          or_pick (any (many_comparison e) bs) (any (many_comparison e) es) k
          (λ z. pairs_across many_comparison bs e es (any_of (many_comparison e) (λ x. many_comparison x e) bs l (λ x v q. many_turned e x u v q) z))
          (λ z. pairs_behind many_comparison bs (e ∷ es) (or_l (any (many_comparison e) es) _ z))

  crowded_pair : (es bs : List IntExpr) → Lows bs → Lows es → crowded bs es ≡ true → any_pair many_comparison (bs ++ es) ≡ true
  unfolding crowded EveryColumnOf
  crowded_pair [] bs l k h = never h
  crowded_pair (e ∷ es) bs l k h =
      or_pick (crowds bs e es) (crowded (bs ++ (e ∷ [])) es) h (crowds_pair bs e es l k.0)
      (λ z. subst (λ us. any_pair many_comparison us ≡ true) (append_assoc bs (e ∷ []) es) (crowded_pair es (bs ++ (e ∷ [])) (lows_join bs (e ∷ []) l (k.0, tt)) k.1 z))

  -- ---- and every pair is found

  -- a long one meets p, which stands before
  found : (p : IntExpr) (es bs : List IntExpr) → ((x : IntExpr) → many_comparison x p ≡ true → any (many_comparison x) bs ≡ true) → any (λ x. cond (short x) false (many_comparison x p)) es ≡ true → crowded bs es ≡ true
  unfolding crowded crowds
  found p [] bs h k = never k
  found p (x ∷ es) bs h k =
      or_pick (cond (short x) false (many_comparison x p)) (any (λ y. cond (short y) false (many_comparison y p)) es) k (λ z. or_l (crowds bs x es) _ (here (short x) z))
      (λ z. or_r (crowds bs x es) _ (found p es (bs ++ (x ∷ [])) (λ y q. any_append (many_comparison y) bs (x ∷ []) ∙ or_l (any (many_comparison y) bs) _ (h y q)) z))
    where
      here : (t : Bool) → cond t false (many_comparison x p) ≡ true → cond t false (any (many_comparison x) bs || any (many_comparison x) es) ≡ true
      here true q = never q
      here false q = or_l (any (many_comparison x) bs) _ (h x q)

  pair_crowded : (es bs : List IntExpr) → Lows es → any_pair many_comparison es ≡ true → crowded bs es ≡ true
  unfolding crowded crowds any_pair EveryColumnOf
  pair_crowded [] bs l h = never h
  pair_crowded (e ∷ es) bs l h =
      or_pick (any (many_comparison e) es) (any_pair many_comparison es) h (here (short e) refl) (λ z. or_r (crowds bs e es) _ (pair_crowded es (bs ++ (e ∷ [])) l.1 z))
    where
      before : (x : IntExpr) → many_comparison x e ≡ true → any (many_comparison x) (bs ++ (e ∷ [])) ≡ true
      before x q = any_append (many_comparison x) bs (e ∷ []) ∙ or_r (any (many_comparison x) bs) _ (or_l (many_comparison x e) _ q)

      long : short e ≡ true → (x : IntExpr) → UsableInt ni x → many_comparison e x ≡ true → cond (short x) false (many_comparison x e) ≡ true
      long s x u q = rw (other_long e x q s) (many_turned e x l.0 u q)

      here : (t : Bool) → short e ≡ t → any (many_comparison e) es ≡ true → cond t false (any (many_comparison e) bs || any (many_comparison e) es) || crowded (bs ++ (e ∷ [])) es ≡ true
      here false s z = or_l (any (many_comparison e) bs || any (many_comparison e) es) _ (or_r (any (many_comparison e) bs) _ z)
      here true s z = found e es (bs ++ (e ∷ [])) before (any_of (many_comparison e) (λ x. cond (short x) false (many_comparison x e)) es l.1 (long s) z)

  pub crowded_pairs : (es : List IntExpr) → Lows es → crowded [] es ≡ any_pair many_comparison es
  unfolding EveryColumnOf
  crowded_pairs es l = both_ways _ _ (crowded_pair es [] tt l) (pair_crowded es [] l)
