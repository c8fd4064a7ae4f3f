-- What the tests of expressions that differ ask and give at each step, over variables. Assumes nothing.
use Prim.Native.Nat.{ℕ, suc, ◌+◌, ◌-◌, ◌≤◌, ◌<◌, min, max}
use mathlib.Core.Path.{◌≡◌, refl, sym, ap, ◌∙◌, subst}
use mathlib.Core.Bool.{Bool, true, false, ◌||◌, cond, or-false}
use mathlib.Core.List.{List, [], ◌∷◌, ◌++◌, map, append_assoc}
use native.Mathlib.Omega.{arith}
use lib.IntN.{ℤ}
use lib.ListN.{length, length-append}
use lib.Dec.{ltb}
use borrow.Author.Tests.{lt-ltb, le-ltb}
use Rattle.laws.specs.Bools.{or_assoc, eq3}
use Rattle.laws.specs.Lists.{any, flat}
use Rattle.laws.specs.Slices.{Has, has_front, has_back}
use Rattle.syntax.specs.Syntax.{Domain, IntExpr, encode_int}
use Rattle.syntax.specs.Written.{EveryColumnOf}
use Rattle.syntax.specs.Lengths.{int_long, int_fits}
use Rattle.passes.specs.Skip.{SomeInt, SkipPost}
use Rattle.limits.specs.Limits.{any_pair, heavy, heavy_comparison, many_comparison}
use Rattle.limits.specs.Total.{total, cap}
use Rattle.limits.proofs.TotalLaws.{total_cap}
use Rattle.accept.specs.Walk.{UsableColumns, IntAt, ColumnsAt, first_of, test_comparison, test_one, inside, ReadyInt, IntPost, Behind, ManyPost, ReadyColumns, over, OverPost, ReadyAmong, AmongPost, crowds, ReadyBeside, BesidePost, crowded, ReadySplit, CrowdedPost, DifferPost, DifferentPost}
use Rattle.accept.proofs.FirstLaws.{none_before, first_cong, first_join, first_both}
use Rattle.accept.proofs.SkipLaws.{some_int, int_skipped}
use Rattle.accept.proofs.TestLaws.{columns_inv}
use Rattle.accept.proofs.PairLaws.{any_none, any_pair_none, any_or, over_pairs, crowded_pairs}

-- the words of an expression and of those behind it
words_behind : (at : ℕ) (e : IntExpr) (us : List IntExpr) → at + length (encode_int e) + length (flat (map encode_int us)) ≡ at + length (flat (map encode_int (e ∷ us)))
words_behind at e us = omega (arith, length-append (encode_int e) (flat (map encode_int us)))

-- ---- `heavy_pairs`

pub over_none : (ws work : List ℤ) (at n ni top : ℕ) (hit : Bool) (k : ℕ) → n ≡ 0 → k ≤ 12 → OverPost ws work at n ni top hit k at hit k
unfolding over first_of
over_none ws work at n ni top hit k z l ds [] b q r = (omega arith, sym (or-false hit), omega arith)
over_none ws work at n ni top hit k z l ds (e ∷ es) b q r = absurd (let s : n ≡ suc (length es) = r.size in omega arith)

module _ (ws work : List ℤ) (at n ni : ℕ) (z : n ≡ 0 → ⊥) where
  pub totals_first : ReadyColumns ws work at n ni → ReadyInt ws work at ni
  totals_first r = columns_inv ws work at n ni z r.them r.reads λ e us q i s. record { ds = r.ds; bounds = r.bounds; few = r.few; it = e; reads = i }

  module _ (x t k : ℕ) (p : IntPost ws work at ni x t k) where
    pub totals_next : ReadyColumns ws work at n ni → ReadyColumns ws work x (n - 1) ni × (t ≤ cap)
    totals_next r =
        columns_inv ws work at n ni z r.them r.reads λ e us q i s.
        let y = p r.ds e r.bounds r.few i in
        let l : x ≡ at + length (encode_int e) = y.0 in
        let o = r.behind in
        (record { ds = r.ds; bounds = r.bounds; few = r.few; them = us; reads = rw l s; behind = omega arith }, omega (arith, y.1, total_cap r.ds e))

    pub over_rest : (top top' : ℕ) (hit hit' : Bool) (k₀ k₁ : ℕ) → hit' ≡ (hit || ltb 1073741823 (top + t)) → top' ≡ max top t → k₁ ≡ min k₀ k
        → (y : ℕ) (r : Bool) (k' : ℕ) → OverPost ws work x (n - 1) ni top' hit' k₁ y r k' → OverPost ws work at n ni top hit k₀ y r k'
    unfolding over
    over_rest top top' hit hit' k₀ k₁ h m j y r k' f ds es b q g =
        columns_inv ws work at n ni z es g λ e us c i s.
        let v = p ds e b q i in
        let w = f ds us b q (rw v.0 s) in
        let o : hit' || over ds top' us ≡ hit || (ltb 1073741823 (top + total ds e) || over ds (max top (total ds e)) us) =
        rw (h, m, v.1) (or_assoc hit (ltb 1073741823 (top + total ds e)) (over ds (max top (total ds e)) us)) in
        let d : x + length (flat (map encode_int us)) ≡ at + length (flat (map encode_int (e ∷ us))) = ap (λ a. a + length (flat (map encode_int us))) v.0 ∙ words_behind at e us in
        rw c (w.0 ∙ d, w.1 ∙ o, first_join (λ m. inside m ds e) (λ m. any (inside m ds) us) k' k₀ k₁ k j v.2 w.2)

-- ---- `many_among`

module _ (ws : List ℤ) (a words at n ni : ℕ) where
  pub among_none : n ≡ 0 → AmongPost ws a words at n ni false
  among_none z e [] i w r = refl
  among_none z e (x ∷ es) i w r = absurd (let s : n ≡ suc (length es) = r.size in omega arith)

  module _ (z : n ≡ 0 → ⊥) where
    pub among_first : ReadyAmong ws a words at n ni → SomeInt ws at
    among_first y = columns_inv ws ws at n ni z y.others y.others_at λ e us q i s. some_int ni ws at e i

    pub among_behind : ReadyAmong ws a words at n ni → Behind ws a ni × Behind ws at ni
    among_behind y =
        columns_inv ws ws at n ni z y.others y.others_at λ e us q i s.
        (record { it = y.one; reads = y.one_at; behind = y.one_behind }, record { it = e; reads = i; behind = y.behind })

    module _ (x : ℕ) (p : SkipPost ws at x) where
      -- the first lies within the words, and so does the other
      pub among_inside : ReadyAmong ws a words at n ni → (at ≤ x) × (x ≤ length ws) × (words ≤ length ws)
      among_inside y =
          columns_inv ws ws at n ni z y.others y.others_at λ e us q i s.
          let l : x ≡ at + length (encode_int e) = int_skipped ni ws at x p e i in
          (omega arith, omega (arith, int_fits ws at e i.words), omega (arith, y.long, int_fits ws a y.one y.one_at.words))

      pub among_next : ReadyAmong ws a words at n ni → ReadyAmong ws a words x (n - 1) ni
      among_next y =
          columns_inv ws ws at n ni z y.others y.others_at λ e us q i s.
          let l : x ≡ at + length (encode_int e) = int_skipped ni ws at x p e i in
          record { one = y.one; one_at = y.one_at; long = y.long; one_behind = y.one_behind; others = us; others_at = rw l s; behind = omega (arith, int_long e) }

      module _ (hit : Bool) (h : ManyPost ws a at (words + (x - at)) ni hit) where
        tested : (e y : IntExpr) → IntAt ni ws a e → words ≡ length (encode_int e) → IntAt ni ws at y → hit ≡ many_comparison e y
        tested e y i w j = let l : x ≡ at + length (encode_int y) = int_skipped ni ws at x p y j in h e y i j (omega arith)

        pub among_hit : hit ≡ true → AmongPost ws a words at n ni true
        among_hit k e es i w r =
            columns_inv ws ws at n ni z es r λ y us c j s.
            let m : many_comparison e y ≡ true = sym (tested e y i w j) ∙ k in
            rw (c, m) refl

        pub among_rest : hit ≡ false → (r : Bool) → AmongPost ws a words x (n - 1) ni r → AmongPost ws a words at n ni r
        among_rest k r g e es i w s =
            columns_inv ws ws at n ni z es s λ y us c j v.
            let m : many_comparison e y ≡ false = sym (tested e y i w j) ∙ k in
            rw (c, m) (g e us i w (rw (int_skipped ni ws at x p y j) v))

-- ---- `many_beside`

module _ (ws : List ℤ) (a end at k n ni : ℕ) where
  pub beside_on : ReadyBeside ws a end at k n ni → a ≤ end
  beside_on r = omega (arith, r.long)

  pub beside_short : end - a < 64 → BesidePost ws a end at k n ni false
  unfolding crowds
  beside_short l e bs es i m b f = let h : ltb (length (encode_int e)) 64 ≡ true = lt-ltb (length (encode_int e)) 64 (omega arith) in rw h refl

  pub beside_before : ReadyBeside ws a end at k n ni → ReadyAmong ws a (end - a) at k ni
  beside_before r = record { one = r.one; one_at = r.one_at; long = omega (arith, r.long); one_behind = r.one_behind; others = r.before; others_at = r.before_at; behind = r.behind }

  pub beside_after : ReadyBeside ws a end at k n ni → ReadyAmong ws a (end - a) end n ni
  beside_after r = record { one = r.one; one_at = r.one_at; long = omega (arith, r.long); one_behind = r.one_behind; others = r.after; others_at = r.after_at; behind = omega (arith, r.long, r.one_behind) }

  module _ (l : 64 ≤ end - a) (x : Bool) (p : AmongPost ws a (end - a) at k ni x) where
    long_is : (e : IntExpr) → end ≡ a + length (encode_int e) → ltb (length (encode_int e)) 64 ≡ false
    long_is e m = le-ltb (length (encode_int e)) 64 (omega arith)

    pub beside_hit : x ≡ true → BesidePost ws a end at k n ni true
    unfolding crowds
    beside_hit h e bs es i m b f =
        let y : any (many_comparison e) bs ≡ true = sym (p e bs i (omega arith) b) ∙ h in
        rw (long_is e m, y) refl

    pub beside_rest : x ≡ false → (r : Bool) → AmongPost ws a (end - a) end n ni r → BesidePost ws a end at k n ni r
    unfolding crowds
    beside_rest h r q e bs es i m b f =
        let y : any (many_comparison e) bs ≡ false = sym (p e bs i (omega arith) b) ∙ h in
        rw (long_is e m, y) (q e es i (omega arith) f)

-- ---- `many_pairs`

flat_join : (bs es : List IntExpr) → flat (map encode_int (bs ++ es)) ≡ flat (map encode_int bs) ++ flat (map encode_int es)
flat_join [] es = refl
flat_join (b ∷ bs) es = ap (λ l. encode_int b ++ l) (flat_join bs es) ∙ sym (append_assoc (encode_int b) (flat (map encode_int bs)) (flat (map encode_int es)))

module _ (ni : ℕ) where
  front_usable : (bs es : List IntExpr) → UsableColumns ni (bs ++ es) → UsableColumns ni bs
  unfolding EveryColumnOf
  front_usable [] es u = tt
  front_usable (b ∷ bs) es u = (u.0, front_usable bs es u.1)

  back_usable : (bs es : List IntExpr) → UsableColumns ni (bs ++ es) → UsableColumns ni es
  unfolding EveryColumnOf
  back_usable [] es u = u
  back_usable (b ∷ bs) es u = back_usable bs es u.1

module _ (ws : List ℤ) (at n next rest ni : ℕ) where
  -- those before, and those from next on
  parted : (bs es : List IntExpr) → ColumnsAt ni ws at n (bs ++ es) → rest ≡ length es → next ≡ at + length (flat (map encode_int bs)) → ColumnsAt ni ws at (n - rest) bs × ColumnsAt ni ws next rest es
  parted bs es r s p =
      let h : Has ws at (flat (map encode_int bs) ++ flat (map encode_int es)) = subst (λ l. Has ws at l) (flat_join bs es) r.words in (
        record { words = has_front ws at (flat (map encode_int bs)) (flat (map encode_int es)) h; vars = front_usable ni bs es r.vars; size = omega (arith, r.size, length-append bs es) },
        record { words = rw p (has_back ws at (flat (map encode_int bs)) (flat (map encode_int es)) h); vars = back_usable ni bs es r.vars; size = s },
      )

  pub pairs_none : rest ≡ 0 → CrowdedPost ws at n next rest ni false
  unfolding crowded
  pairs_none z bs [] r s p = refl
  pairs_none z bs (e ∷ es) r s p = absurd (omega arith)

  pub split_few : ReadySplit ws at n next rest ni → rest ≤ n
  split_few r = omega (arith, r.size, r.reads.size, length-append r.before r.after)

  module _ (z : rest ≡ 0 → ⊥) where
    split_inv : {X : Type 0} (bs es : List IntExpr) → ColumnsAt ni ws at n (bs ++ es) → rest ≡ length es → next ≡ at + length (flat (map encode_int bs))
        → ((e : IntExpr) (us : List IntExpr) → es ≡ e ∷ us → ColumnsAt ni ws at (n - rest) bs → IntAt ni ws next e → ColumnsAt ni ws (next + length (encode_int e)) (rest - 1) us → ColumnsAt ni ws at n ((bs ++ (e ∷ [])) ++ us) → X) → X
    split_inv bs [] r s p go = absurd (z s)
    split_inv bs (e ∷ us) r s p go =
        let y = parted bs (e ∷ us) r s p in
        columns_inv ws ws next rest ni z (e ∷ us) y.1 λ x vs q i t.
        go x vs q y.0 i t (subst (λ l. ColumnsAt ni ws at n l) (ap (λ l. bs ++ l) q ∙ sym (append_assoc bs (x ∷ []) vs)) r)

    pub pairs_first : ReadySplit ws at n next rest ni → SomeInt ws next
    pairs_first r = split_inv r.before r.after r.reads r.size r.place λ e us q b i t w. some_int ni ws next e i

    module _ (x : ℕ) (p : SkipPost ws next x) where
      pub pairs_beside : ReadySplit ws at n next rest ni → ReadyBeside ws next x at (n - rest) (rest - 1) ni
      pairs_beside r =
          split_inv r.before r.after r.reads r.size r.place λ e us q b i t w.
          let l : x ≡ next + length (encode_int e) = int_skipped ni ws next x p e i in
          record { one = e; one_at = i; long = l; before = r.before; before_at = b; after = us; after_at = rw l t; one_behind = omega (arith, r.place, r.behind); behind = r.behind }

      behind_one : (bs us : List IntExpr) (e : IntExpr) → IntAt ni ws next e → next ≡ at + length (flat (map encode_int bs)) → x ≡ at + length (flat (map encode_int (bs ++ (e ∷ []))))
      behind_one bs us e i q =
          let l : x ≡ next + length (encode_int e) = int_skipped ni ws next x p e i in
          omega (arith, ap length (flat_join bs (e ∷ [])), length-append (flat (map encode_int bs)) (encode_int e ++ []), length-append (encode_int e) [])

      pub pairs_next : ReadySplit ws at n next rest ni → ReadySplit ws at n x (rest - 1) ni
      pairs_next r =
          split_inv r.before r.after r.reads r.size r.place λ e us q b i t w.
          record { before = r.before ++ (e ∷ []); after = us; reads = w; size = t.size; place = behind_one r.before us e i r.place; behind = r.behind }

      module _ (hit : Bool) (g : BesidePost ws next x at (n - rest) (rest - 1) ni hit) where
        pub pairs_hit : hit ≡ true → CrowdedPost ws at n next rest ni true
        unfolding crowded
        pairs_hit y bs es r s q =
            split_inv bs es r s q λ e us d b i t w.
            let l : x ≡ next + length (encode_int e) = int_skipped ni ws next x p e i in
            let c : crowds bs e us ≡ true = sym (g e bs us i l b (rw l t)) ∙ y in
            rw (d, c) refl

        pub pairs_rest : hit ≡ false → (r : Bool) → CrowdedPost ws at n x (rest - 1) ni r → CrowdedPost ws at n next rest ni r
        unfolding crowded
        pairs_rest y r f bs es h s q =
            split_inv bs es h s q λ e us d b i t w.
            let l : x ≡ next + length (encode_int e) = int_skipped ni ws next x p e i in
            let c : crowds bs e us ≡ false = sym (g e bs us i l b (rw l t)) ∙ y in
            rw (d, c) (f (bs ++ (e ∷ [])) us w t.size (behind_one bs us e i q))

-- ---- `differ`

-- 9 of one expression or of a pair, 10 of a pair
first_different : (ds : List Domain) (es : List IntExpr)
    → first_of (λ m. any (test_one m ds) es || any_pair (test_comparison m ds) es) ≡ cond (any (heavy ds) es || any_pair (heavy_comparison ds) es) 9 (cond (any_pair many_comparison es) 10 12)
unfolding first_of test_one test_comparison
first_different ds es = rw (any_none (λ (e : IntExpr). false) es (λ e. refl), any_pair_none (λ a b. false) es (λ a b. refl)) refl

module _ (ws : List ℤ) (at n : ℕ) (hit : Bool) (ni : ℕ) where
  pub differ_heavy : hit ≡ true → DifferPost ws at n hit ni 9
  differ_heavy h ds es c e = sym (first_different ds es ∙ rw (← e, h) refl)

  module _ (l : hit ≡ false) (many : Bool) (g : CrowdedPost ws at n at n ni many) where
    crowded_is : (ds : List Domain) (es : List IntExpr) → ColumnsAt ni ws at n es → hit ≡ (any (heavy ds) es || any_pair (heavy_comparison ds) es)
        → first_of (λ m. any (test_one m ds) es || any_pair (test_comparison m ds) es) ≡ cond many 10 12
    crowded_is ds es c e =
        let k : many ≡ any_pair many_comparison es = g [] es c c.size (omega arith) ∙ crowded_pairs ni es c.vars in
        first_different ds es ∙ rw (← e, l, k) refl

    pub differ_many : many ≡ true → DifferPost ws at n hit ni 10
    differ_many h ds es c e = sym (crowded_is ds es c e ∙ rw h refl)

    pub differ_none : many ≡ false → DifferPost ws at n hit ni 12
    differ_none h ds es c e = sym (crowded_is ds es c e ∙ rw h refl)

-- ---- `all_different`

module _ (ws work : List ℤ) (at n ni : ℕ) where
  pub whole_split : ReadyColumns ws work at n ni → ReadySplit ws at n at n ni
  whole_split r = record { before = []; after = r.them; reads = r.reads; size = r.reads.size; place = omega arith; behind = r.behind }

  pub different_done : (next : ℕ) (hit : Bool) (ki own k : ℕ) → OverPost ws work at n ni 0 false 12 next hit ki → DifferPost ws at n hit ni own → k ≡ min own ki → DifferentPost ws work at n ni next k
  different_done next hit ki own k p g h ds es b q c =
      let y = p ds es b q c in
      let o = g ds es c (y.1 ∙ over_pairs ds b.bounded es) in
      let i = none_before (λ m. any (inside m ds) es) ki y.2 in
      let ones : ℕ → Bool = λ m. any (test_one m ds) es in
      let pairs : ℕ → Bool = λ m. any_pair (test_comparison m ds) es in (
        y.0,
        first_both (λ m. ones m || pairs m) (λ m. any (inside m ds) es) k own ki h o i
            ∙ first_cong (λ m. (ones m || pairs m) || any (inside m ds) es) (λ m. any (λ e. test_one m ds e || inside m ds e) es || pairs m)
            (λ m. rw (any_or (test_one m ds) (inside m ds) es) (regroup (ones m) (pairs m) (any (inside m ds) es))),
      )
    where
      regroup : (a b c : Bool) → (a || b) || c ≡ (a || c) || b
      regroup = eq3 _ _ refl
