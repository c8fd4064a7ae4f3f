-- What the tests of comparisons, branches and columns ask and give at each step, over variables. Assumes nothing.
use Prim.Native.Nat.{ℕ, suc, ◌+◌, ◌-◌, ◌≤◌, ◌<◌, min}
use mathlib.Core.Path.{◌≡◌, refl, sym, ◌∙◌, subst}
use mathlib.Core.Bool.{Bool, true, false, ◌||◌, cond}
use mathlib.Core.List.{List, [], ◌∷◌, map}
use native.Mathlib.Omega.{arith}
use lib.IntN.{ℤ, nat_abs, ◌-ℤ◌}
use lib.ListN.{length, length-append}
use lib.Dec.{ltb}
use borrow.Author.Tests.{lt-ltb, le-ltb}
use Rattle.laws.specs.Lists.{any, flat}
use Rattle.laws.specs.Slices.{has_front, has_back}
use Rattle.syntax.specs.Syntax.{Domain, IntExpr, encode_int}
use Rattle.syntax.specs.Written.{EveryColumnOf}
use Rattle.syntax.specs.Lengths.{int_long, int_fits}
use Rattle.limits.specs.Limits.{heavy, heavy_comparison, many_comparison, many_column, interval, span, wide_column}
use Rattle.limits.specs.Total.{Bounded, total, cap}
use Rattle.limits.proofs.TotalLaws.{total_cap, heavy_total, heavy_comparison_total}
use Rattle.limits.proofs.Count.{few_comparison, few_column}
use Rattle.accept.specs.Walk.{Bounds, IntAt, ColumnsAt, first_of, test_comparison, test_branch, test_column, inside, Totals, ReadyInt, IntPost, ReadyRange, RangePost, Behind, ManyOnePost, ManyPost, ReadyBranches, BranchesPost, ComparedPost, ReadyPair, PairPost, ReadyColumn, ReadyRoot, RootPost, ColumnPost, ReadyColumns, ColumnsPost}
use Rattle.accept.proofs.FirstLaws.{first_join, first_both}

first_branches : (x y : IntExpr) → first_of (λ m. test_branch m x || test_branch m y) ≡ cond (many_column x || many_column y) 10 12
unfolding first_of test_branch
first_branches x y = refl

first_comparison : (ds : List Domain) (a b : IntExpr) → first_of (λ m. test_comparison m ds a b) ≡ cond (heavy_comparison ds a b) 9 (cond (many_comparison a b) 10 12)
unfolding first_of test_comparison
first_comparison ds a b = refl

first_column : (ds : List Domain) (e : IntExpr) → first_of (λ m. test_column m ds e) ≡ cond (heavy ds e) 9 (cond (many_column e) 10 (cond (wide_column ds e) 11 12))
unfolding first_of test_column
first_column ds e = refl

few_as : (ws : List ℤ) (at ni n : ℕ) (e : IntExpr) → ni ≡ n → IntAt ni ws at e → IntAt n ws at e
few_as ws at ni n e q r = subst (λ k. IntAt k ws at e) q r

-- ---- `many_comparison`, `many_column`

pub many_few : (ws : List ℤ) (a b words ni : ℕ) → words < 128 → ManyPost ws a b words ni false
many_few ws a b words ni l x y i j w = sym (few_comparison x y (omega arith))

pub one_few : (ws : List ℤ) (at words ni : ℕ) → words < 128 → ManyOnePost ws at words ni false
one_few ws at words ni l x i w = sym (few_column x (omega arith))

-- ---- `branches`

module _ (ws : List ℤ) (t f end ni : ℕ) where
  pub branch_left : ReadyBranches ws t f end ni → Behind ws t ni × (t ≤ f)
  branch_left r = (record { it = r.left; reads = r.left_at; behind = r.behind }, omega (arith, r.middle))

  pub branch_right : ReadyBranches ws t f end ni → Behind ws f ni × (f ≤ end)
  branch_right r = (record { it = r.right; reads = r.right_at; behind = omega (arith, r.middle, r.behind) }, omega (arith, r.last))

  module _ (a : Bool) (p : ManyOnePost ws t (f - t) ni a) where
    pub left_many : a ≡ true → BranchesPost ws t f end ni 10
    left_many h x y i j m l =
        let k : many_column x ≡ true = sym (p x i (omega arith)) ∙ h in
        sym (first_branches x y ∙ rw k refl)

    module _ (z : a ≡ false) (b : Bool) (q : ManyOnePost ws f (end - f) ni b) where
      branched : (x y : IntExpr) → IntAt ni ws t x → IntAt ni ws f y → f ≡ t + length (encode_int x) → end ≡ f + length (encode_int y) → first_of (λ m. test_branch m x || test_branch m y) ≡ cond b 10 12
      branched x y i j m l =
          let k : many_column x ≡ false = sym (p x i (omega arith)) ∙ z in
          let g : b ≡ many_column y = q y j (omega arith) in
          first_branches x y ∙ rw (k, g) refl

      pub right_many : b ≡ true → BranchesPost ws t f end ni 10
      right_many h x y i j m l = sym (branched x y i j m l ∙ rw h refl)

      pub both_few : b ≡ false → BranchesPost ws t f end ni 12
      both_few h x y i j m l = sym (branched x y i j m l ∙ rw h refl)

-- ---- `compared`

module _ (ws : List ℤ) (a b words sum ni : ℕ) where
  pub compared_heavy : 1073741823 < sum → ComparedPost ws a b words sum ni 9
  compared_heavy l ds x y bd i j w s =
      let h : heavy_comparison ds x y ≡ true = heavy_comparison_total ds bd x y ∙ lt-ltb 1073741823 (total ds x + total ds y) (omega (arith, s)) in
      sym (first_comparison ds x y ∙ rw h refl)

  module _ (l : sum ≤ 1073741823) (hit : Bool) (p : ManyPost ws a b words ni hit) where
    light : (ds : List Domain) (x y : IntExpr) → Bounded ds → IntAt ni ws a x → IntAt ni ws b y → words ≡ length (encode_int x) + length (encode_int y) → sum ≡ total ds x + total ds y
        → first_of (λ m. test_comparison m ds x y) ≡ cond hit 10 12
    light ds x y bd i j w s =
        let h : heavy_comparison ds x y ≡ false = heavy_comparison_total ds bd x y ∙ le-ltb 1073741823 (total ds x + total ds y) (omega (arith, s)) in
        let k : hit ≡ many_comparison x y = p x y i j w in
        rw (first_comparison ds x y, h, k) refl

    pub compared_many : hit ≡ true → ComparedPost ws a b words sum ni 10
    compared_many t ds x y bd i j w s = sym (light ds x y bd i j w s ∙ rw t refl)

    pub compared_none : hit ≡ false → ComparedPost ws a b words sum ni 12
    compared_none t ds x y bd i j w s = sym (light ds x y bd i j w s ∙ rw t refl)

-- ---- `comparison`

module _ (ws work : List ℤ) (at ni : ℕ) where
  pub pair_left : ReadyPair ws work at ni → ReadyInt ws work at ni
  pair_left r = record { ds = r.ds; bounds = r.bounds; few = r.few; it = r.left; reads = r.left_at }

  pub pair_inside : ReadyPair ws work at ni → at + 2 ≤ length ws
  pair_inside r = omega (arith, int_fits ws at r.left r.left_at.words, int_long r.left)

  module _ (na ta ka : ℕ) (pa : IntPost ws work at ni na ta ka) where
    right_at : (ds : List Domain) (a b : IntExpr) → Bounds work ds → ni ≡ length ds → IntAt ni ws at a → IntAt ni ws (at + length (encode_int a)) b → Totals ds a at na ta ka × IntAt ni ws na b
    right_at ds a b bs q i j = let y = pa ds a bs q i in let l = y.0 in (y, rw l j)

    pub pair_right : ReadyPair ws work at ni → ReadyInt ws work na ni × (at < na)
    pair_right r =
        let y = right_at r.ds r.left r.right r.bounds r.few r.left_at r.right_at in
        (record { ds = r.ds; bounds = r.bounds; few = r.few; it = r.right; reads = y.1 }, omega (arith, y.0.0, int_long r.left))

    pub pair_behind : ReadyPair ws work at ni → Behind ws at ni × Behind ws na ni
    pair_behind r =
        let y = right_at r.ds r.left r.right r.bounds r.few r.left_at r.right_at in
        (record { it = r.left; reads = r.left_at; behind = r.behind }, record { it = r.right; reads = y.1; behind = omega (arith, r.behind, y.0.0) })

    module _ (nb tb kb : ℕ) (pb : IntPost ws work na ni nb tb kb) where
      pub pair_totals : ReadyPair ws work at ni → (ta ≤ cap) × (tb ≤ cap) × (at ≤ nb)
      pair_totals r =
          let y = right_at r.ds r.left r.right r.bounds r.few r.left_at r.right_at in
          let z = pb r.ds r.right r.bounds r.few y.1 in
          (omega (arith, y.0.1, total_cap r.ds r.left), omega (arith, z.1, total_cap r.ds r.right), omega (arith, y.0.0, z.0))

      pub pair_done : (own k' k : ℕ) → ComparedPost ws at na (nb - at) (ta + tb) ni own → k' ≡ min ka kb → k ≡ min own k' → PairPost ws work at ni nb k
      pair_done own k' k p hk' hk ds a b bs q i j =
          let y = right_at ds a b bs q i j in
          let z = pb ds b bs q y.1 in
          let e : na ≡ at + length (encode_int a) = y.0.0 in
          let n : nb ≡ na + length (encode_int b) = z.0 in
          let o = p ds a b bs.bounded i y.1 (omega arith) (omega (arith, y.0.1, z.1)) in
          (omega arith, first_both (λ m. test_comparison m ds a b) (λ m. inside m ds a || inside m ds b) k own k' hk o (first_both (λ m. inside m ds a) (λ m. inside m ds b) k' ka kb hk' y.0.2 z.2))

-- ---- `root`

module _ (ws work : List ℤ) (at words sum ni : ℕ) where
  heavy_one : (ds : List Domain) (a : IntExpr) → Bounds work ds → sum ≡ total ds a → heavy ds a ≡ ltb 1073741823 sum
  heavy_one ds a b s = rw s (heavy_total ds b.bounded a)

  pub root_behind : ReadyRoot ws work at sum ni → Behind ws at ni
  root_behind r = let c = r.column in record { it = c.it; reads = c.reads; behind = c.behind }

  pub root_heavy : 1073741823 < sum → RootPost ws work at words sum ni 9
  root_heavy l ds a b q i w s =
      let h : heavy ds a ≡ true = heavy_one ds a b s ∙ lt-ltb 1073741823 sum l in
      sym (first_column ds a ∙ rw h refl)

  module _ (l : sum ≤ 1073741823) where
    light_one : (ds : List Domain) (a : IntExpr) → Bounds work ds → sum ≡ total ds a → heavy ds a ≡ false
    light_one ds a b s = heavy_one ds a b s ∙ le-ltb 1073741823 sum l

    pub root_ready : ReadyRoot ws work at sum ni → ReadyRange ws work at
    root_ready r =
        let c = r.column in
        record { ds = c.ds; bounds = c.bounds; it = c.it; reads = few_as ws at ni (length c.ds) c.it c.few c.reads; light = light_one c.ds c.it c.bounds r.weighs }

    module _ (hit : Bool) (p : ManyOnePost ws at words ni hit) where
      pub root_many : hit ≡ true → RootPost ws work at words sum ni 10
      root_many t ds a b q i w s =
          let h : many_column a ≡ true = sym (p a i w) ∙ t in
          sym (first_column ds a ∙ rw (light_one ds a b s, h) refl)

      module _ (f : hit ≡ false) (nr : ℕ) (low high : ℤ) (r : RangePost ws work at nr low high) (d : ℕ) (dd : d ≡ nat_abs (high -ℤ low)) where
        spanned : (ds : List Domain) (a : IntExpr) → Bounds work ds → ni ≡ length ds → IntAt ni ws at a → words ≡ length (encode_int a) → sum ≡ total ds a → first_of (λ m. test_column m ds a) ≡ cond (ltb 4096 (suc d)) 11 12
        unfolding wide_column span
        spanned ds a b q i w s =
            let y = r ds a b (few_as ws at ni (length ds) a q i) in
            let h : many_column a ≡ false = sym (p a i w) ∙ f in
            let e : d ≡ nat_abs ((interval ds a).1 -ℤ (interval ds a).0) = dd ∙ rw (y.1, y.2) refl in
            rw (first_column ds a, light_one ds a b s, h, e) refl

        pub root_wide : 4095 < d → RootPost ws work at words sum ni 11
        root_wide k ds a b q i w s = sym (spanned ds a b q i w s ∙ rw (lt-ltb 4096 (suc d) (omega arith)) refl)

        pub root_none : d ≤ 4095 → RootPost ws work at words sum ni 12
        root_none k ds a b q i w s = sym (spanned ds a b q i w s ∙ rw (le-ltb 4096 (suc d) (omega arith)) refl)

-- ---- `column`

module _ (ws work : List ℤ) (at ni : ℕ) where
  pub column_int : ReadyColumn ws work at ni → ReadyInt ws work at ni
  column_int r = record { ds = r.ds; bounds = r.bounds; few = r.few; it = r.it; reads = r.reads }

  module _ (na ta ka : ℕ) (pa : IntPost ws work at ni na ta ka) where
    pub column_root : ReadyColumn ws work at ni → ReadyRoot ws work at ta ni × (at ≤ na)
    column_root r = let y = pa r.ds r.it r.bounds r.few r.reads in (record { column = r; weighs = y.1 }, omega (arith, y.0))

    pub column_done : (own k : ℕ) → RootPost ws work at (na - at) ta ni own → k ≡ min own ka → ColumnPost ws work at ni na k
    column_done own k p h ds e b q i =
        let y = pa ds e b q i in
        let l : na ≡ at + length (encode_int e) = y.0 in
        (l, first_both (λ m. test_column m ds e) (λ m. inside m ds e) k own ka h (p ds e b q i (omega arith) y.1) y.2)

-- ---- `columns`

pub columns_none : (ws work : List ℤ) (at n ni k : ℕ) → n ≡ 0 → k ≤ 12 → ColumnsPost ws work at n ni k at k
unfolding first_of
columns_none ws work at n ni k z l ds [] b q r = (omega arith, omega arith)
columns_none ws work at n ni k z l ds (e ∷ es) b q r = absurd (let s : n ≡ suc (length es) = r.size in omega arith)

module _ (ws work : List ℤ) (at n ni : ℕ) (z : n ≡ 0 → ⊥) where
  pub columns_inv : {X : Type 0} (es : List IntExpr) → ColumnsAt ni ws at n es
      → ((e : IntExpr) (us : List IntExpr) → es ≡ e ∷ us → IntAt ni ws at e → ColumnsAt ni ws (at + length (encode_int e)) (n - 1) us → X) → X
  unfolding EveryColumnOf
  columns_inv [] r go = absurd (z r.size)
  columns_inv (e ∷ us) r go =
      let s : n ≡ suc (length us) = r.size in
      go e us refl (record { words = has_front ws at (encode_int e) (flat (map encode_int us)) r.words; vars = r.vars.0 })
      (record { words = has_back ws at (encode_int e) (flat (map encode_int us)) r.words; vars = r.vars.1; size = omega arith })

  pub column_first : ReadyColumns ws work at n ni → ReadyColumn ws work at ni
  column_first r = columns_inv r.them r.reads λ e us q i t. record { ds = r.ds; bounds = r.bounds; few = r.few; it = e; reads = i; behind = r.behind }

  module _ (x k : ℕ) (p : ColumnPost ws work at ni x k) where
    pub columns_ready : ReadyColumns ws work at n ni → ReadyColumns ws work x (n - 1) ni
    columns_ready r =
        columns_inv r.them r.reads λ e us t i s.
        let v = (p r.ds e r.bounds r.few i).0 in
        record { ds = r.ds; bounds = r.bounds; few = r.few; them = us; reads = rw v s; behind = omega (arith, v, int_long e) }

    pub columns_rest : (k₀ k₁ y k' : ℕ) → k₁ ≡ min k₀ k → ColumnsPost ws work x (n - 1) ni k₁ y k' → ColumnsPost ws work at n ni k₀ y k'
    columns_rest k₀ k₁ y k' h g ds es b q r =
        columns_inv es r λ e us t i s.
        let v = p ds e b q i in
        let l : x ≡ at + length (encode_int e) = v.0 in
        let w = g ds us b q (rw l s) in
        let o : y ≡ x + length (flat (map encode_int us)) = w.0 in
        rw t (omega (arith, length-append (encode_int e) (flat (map encode_int us))), first_join (λ m. test_column m ds e || inside m ds e) (λ m. any (λ x. test_column m ds x || inside m ds x) us) k' k₀ k₁ k h v.1 w.1)
