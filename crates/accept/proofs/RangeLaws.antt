-- What the walk for lowest and highest value asks and gives at each step, over variables. Assumes nothing.
use Prim.Native.Nat.{ℕ, suc, ◌+◌, ◌-◌, ◌*◌, ◌≤◌, ◌<◌, ◌^◌}
use mathlib.Core.Path.{◌≡◌, refl, sym, ap, ◌∙◌, subst}
use mathlib.Core.Bool.{false, ◌||◌}
use mathlib.Core.List.{List}
use native.Mathlib.Omega.{arith}
use native.Mathlib.Nat.{mul-le-mul_left}
use lib.IntN.{ℤ, pos, nat_abs, ◌+ℤ◌, +ℤ_assoc, +ℤ_idl, +ℤ_idr}
use lib.ListN.{length, get_or, length-append}
use lib.Dec.{ltb}
use mir.Syntax.{w32}
use mir.Val.{SFits}
use borrow.Author.Tests.{ltb-false}
use Rattle.laws.specs.Bools.{or_no_l, or_no_r}
use Rattle.laws.specs.Ints.{lower, higher, times_low, times_high, times_exchanged, times_low_size, natAbs_add, sfits_natAbs}
use Rattle.memory.specs.Places.{bounds}
use Rattle.syntax.specs.Words.{max_weight}
use Rattle.syntax.specs.Syntax.{Domain, IfIsRead, IntExpr, If, Terms, tnil, tmore, count_terms, encode_int, encode_terms, BoolExpr, encode_bool}
use Rattle.syntax.specs.Written.{EveryIntOf}
use Rattle.syntax.specs.Lengths.{int_long, int_fits}
use Rattle.domains.specs.Declared.{Plain, low_at, high_at}
use Rattle.passes.specs.Skip.{SomeMembers, SkipMembersPost}
use Rattle.limits.specs.Limits.{weight, terms_weight, heavy, heavy_terms, interval, terms_interval}
use Rattle.limits.proofs.TotalLaws.{interval_small}
use Rattle.accept.specs.Walk.{Bounds, IntAt, TermsAt, ReadyVar, ReadyRange, RangePost, ReadyIfRange, IfRangePost, ReadyRanges, RangesPost}
use Rattle.accept.proofs.Laws.{int_plain, const_inv, if_inv, second_plain, var_inv, sum_inv, if_parts, if_length, more_inv}
use Rattle.accept.proofs.SkipLaws.{some_condition, condition_skipped}

-- ---- `int_range`

module _ (ws work : List ℤ) (at : ℕ) where
  pub range_first_word : ReadyRange ws work at → Plain ws at
  range_first_word r = int_plain ws at r.it r.reads.words

  pub range_inside : ReadyRange ws work at → at + 2 ≤ length ws
  range_inside r = omega (arith, int_fits ws at r.it r.reads.words, int_long r.it)

  module _ (w : ℕ) (hw : get_or ws at (pos 0) ≡ pos w) where
    pub const_range : (x : ℤ) → w ≡ 20 → x ≡ get_or ws (at + 1) (pos 0) → RangePost ws work at (at + 2) x x
    unfolding encode_int interval
    const_range x z hx ds e b r = const_inv ws at w hw e r.words z λ c q g. rw q (refl, hx ∙ g, hx ∙ g)

    pub if_range_ready : ReadyRange ws work at → w ≡ 23 → ReadyIfRange ws work at
    if_range_ready r z =
        if_inv ws at w hw r.it r.reads.words z λ i c t f q.
        record { ds = r.ds; bounds = r.bounds; read = i; condition = c; left = t; right = f; reads = subst (λ e. IntAt (length r.ds) ws at e) q r.reads; light = subst (λ e. heavy r.ds e ≡ false) q r.light }

    pub if_range_int : (next : ℕ) (low high : ℤ) → w ≡ 23 → IfRangePost ws work at next low high → RangePost ws work at next low high
    if_range_int next low high z p ds e b r =
        if_inv ws at w hw e r.words z λ i c x y q.
        rw q (p ds i c x y b (subst (λ u. IntAt (length ds) ws at u) q r))

    pub range_second : ReadyRange ws work at → (w ≡ 20 → ⊥) → (w ≡ 23 → ⊥) → Plain ws (at + 1)
    range_second r z y = second_plain ws at w hw r.it r.reads.words z y

    module _ (v : ℕ) (hv : get_or ws (at + 1) (pos 0) ≡ pos v) where
      pub range_var : ReadyRange ws work at → w ≡ 21 → ReadyVar work v
      unfolding EveryIntOf
      range_var r z = var_inv ws at w hw v hv r.it r.reads.words z λ q. let g = rw q at r.reads.vars in record { ds = r.ds; bounds = r.bounds; below = g }

      pub var_range : (x y : ℤ) → w ≡ 21 → x ≡ get_or work (bounds + 2 * v) (pos 0) → y ≡ get_or work (bounds + (2 * v + 1)) (pos 0) → RangePost ws work at (at + 2) x y
      unfolding encode_int interval EveryIntOf
      var_range x y z hx hy ds e b r =
          var_inv ws at w hw v hv e r.words z λ q.
          let g = rw q at r.vars in
          rw q (refl, hx ∙ low_at work bounds ds b.words v g, hy ∙ high_at work bounds ds b.words v g)

      module _ (a : w ≡ 20 → ⊥) (b : w ≡ 21 → ⊥) (d : w ≡ 23 → ⊥) where
        pub sum_ranges : ReadyRange ws work at → ReadyRanges ws work (at + 2) v (pos 0) (pos 0)
        unfolding EveryIntOf heavy weight
        sum_ranges r =
            sum_inv ws at w hw v hv r.it r.reads.words a b d λ ts q n h.
            let g = rw q at r.reads.vars in
            let y = rw q at r.light in
            let l = ltb-false max_weight (terms_weight r.ds ts) (or_no_l (ltb max_weight (terms_weight r.ds ts)) (heavy_terms r.ds ts) y) in
            record {
              ds = r.ds;
              bounds = r.bounds;
              them = ts;
              reads = record { words = h; vars = g; size = n };
              light = or_no_r (ltb max_weight (terms_weight r.ds ts)) (heavy_terms r.ds ts) y;
              low_small = omega arith;
              high_small = omega arith;
            }

        pub sum_range : (next : ℕ) (low high : ℤ) → RangesPost ws work (at + 2) v (pos 0) (pos 0) next low high → RangePost ws work at next low high
        unfolding encode_int interval EveryIntOf
        sum_range next low high p ds e bs r =
            sum_inv ws at w hw v hv e r.words a b d λ ts q n h.
            let g = rw q at r.vars in
            let y = p ds ts bs (record { words = h; vars = g; size = n }) in
            let l : next ≡ at + 2 + length (encode_terms ts) = y.0 in
            rw q (omega arith, y.1 ∙ +ℤ_idl (terms_interval ds ts).0, y.2 ∙ +ℤ_idl (terms_interval ds ts).1)

-- ---- `if_range`

module _ (ws work : List ℤ) (at : ℕ) where
  pub range_condition : ReadyIfRange ws work at → SomeMembers ws (at + 1) 1
  range_condition r = some_condition (length r.ds) ws (at + 1) r.condition (if_parts (length r.ds) ws at r.read r.condition r.left r.right r.reads).0

  pub range_if_inside : ReadyIfRange ws work at → at + 2 ≤ length ws
  range_if_inside r =
      let e = If r.read r.condition r.left r.right in
      omega (arith, int_fits ws at e r.reads.words, int_long e)

  -- both branches are light
  branches_light : (ds : List Domain) (i : IfIsRead) (c : BoolExpr) (a b : IntExpr) → heavy ds (If i c a b) ≡ false → (heavy ds a ≡ false) × (heavy ds b ≡ false)
  unfolding heavy
  branches_light ds i c a b h =
      let k = or_no_r (ltb max_weight (weight ds (If i c a b))) (heavy ds a || heavy ds b) h in
      (or_no_l (heavy ds a) (heavy ds b) k, or_no_r (heavy ds a) (heavy ds b) k)

  module _ (p : ℕ) (sp : SkipMembersPost ws (at + 1) 1 p) where
    left_at : (ds : List Domain) (i : IfIsRead) (c : BoolExpr) (a b : IntExpr) → IntAt (length ds) ws at (If i c a b) → (p ≡ at + 1 + length (encode_bool c)) × IntAt (length ds) ws p a
    left_at ds i c a b r =
        let y = if_parts (length ds) ws at i c a b r in
        let l = condition_skipped (length ds) ws (at + 1) p sp c y.0 in
        (l, rw l y.1)

    pub range_left : ReadyIfRange ws work at → ReadyRange ws work p × (at < p)
    range_left r =
        let y = left_at r.ds r.read r.condition r.left r.right r.reads in
        (record { ds = r.ds; bounds = r.bounds; it = r.left; reads = y.1; light = (branches_light r.ds r.read r.condition r.left r.right r.light).0 }, omega (arith, y.0))

    module _ (p' : ℕ) (l h : ℤ) (lp : RangePost ws work p p' l h) where
      right_at : (ds : List Domain) (i : IfIsRead) (c : BoolExpr) (a b : IntExpr) → Bounds work ds → IntAt (length ds) ws at (If i c a b)
          → (p' ≡ at + 1 + length (encode_bool c) + length (encode_int a)) × IntAt (length ds) ws p' b × (l ≡ (interval ds a).0) × (h ≡ (interval ds a).1)
      right_at ds i c a b bs r =
          let y = left_at ds i c a b r in
          let z = lp ds a bs y.1 in
          let n : p' ≡ at + 1 + length (encode_bool c) + length (encode_int a) = omega (arith, y.0, z.0) in
          (n, rw n (if_parts (length ds) ws at i c a b r).2, z.1, z.2)

      pub range_right : ReadyIfRange ws work at → ReadyRange ws work p' × (at < p')
      range_right r =
          let y = right_at r.ds r.read r.condition r.left r.right r.bounds r.reads in
          (record { ds = r.ds; bounds = r.bounds; it = r.right; reads = y.1; light = (branches_light r.ds r.read r.condition r.left r.right r.light).1 }, omega (arith, y.0))

      pub range_if : (p'' : ℕ) (l' h' low high : ℤ) → RangePost ws work p' p'' l' h' → low ≡ lower l l' → high ≡ higher h h' → IfRangePost ws work at p'' low high
      unfolding interval
      range_if p'' l' h' low high rp el eh ds i c a b bs r =
          let y = right_at ds i c a b bs r in
          let z = rp ds b bs y.1 in
          (omega (arith, y.0, z.0, if_length (length ds) ws at i c a b), el ∙ rw (y.2, z.1) refl, eh ∙ rw (y.3, z.2) refl)

-- ---- `terms_range`

pub ranges_none : (ws work : List ℤ) (at n : ℕ) (low high : ℤ) → n ≡ 0 → RangesPost ws work at n low high at low high
unfolding encode_terms interval
ranges_none ws work at n low high z ds tnil b r = (omega arith, sym (+ℤ_idr low), sym (+ℤ_idr high))
ranges_none ws work at n low high z ds (tmore k e ts) b r = absurd (let s : n ≡ suc (count_terms ts) = r.size in omega arith)

-- one term's product beside what stands already, and the rest
module _ (k acc l h : ℤ) (t rest : ℕ) (sl : nat_abs l ≤ t) (sh : nat_abs h ≤ t) (small : nat_abs acc + (nat_abs k * t + rest) ≤ max_weight) where
  pub product_asks : (nat_abs k * nat_abs l < 2 ^ 31) × (nat_abs k * nat_abs h < 2 ^ 31)
  product_asks = (omega (arith, mul-le-mul_left (nat_abs k) sl), omega (arith, mul-le-mul_left (nat_abs k) sh))

  pub product_joins : (nat_abs (acc +ℤ times_low k l h) + rest ≤ max_weight) × SFits w32 (acc +ℤ times_low k l h)
  product_joins =
      let y = natAbs_add acc (times_low k l h) in
      let z = times_low_size k l h t sl sh in
      (omega arith, sfits_natAbs w32 (acc +ℤ times_low k l h) (omega arith))

module _ (ws work : List ℤ) (at n : ℕ) (low high : ℤ) (z : n ≡ 0 → ⊥) where
  pub ranges_inside : ReadyRanges ws work at n low high → at + 1 < length ws
  ranges_inside r = more_inv ws work at n (length r.ds) z r.them r.reads λ k e us q c i t. omega (arith, int_fits ws (at + 1) e i.words, int_long e)

  ranges_inv : {X : Type 0} (r : ReadyRanges ws work at n low high)
      → ((k : ℤ) (e : IntExpr) (us : Terms) → get_or ws at (pos 0) ≡ k → IntAt (length r.ds) ws (at + 1) e → TermsAt (length r.ds) ws (at + 1 + length (encode_int e)) (n - 1) us
      → heavy r.ds e ≡ false → heavy_terms r.ds us ≡ false → nat_abs low + (nat_abs k * weight r.ds e + terms_weight r.ds us) ≤ max_weight
      → nat_abs high + (nat_abs k * weight r.ds e + terms_weight r.ds us) ≤ max_weight → X) → X
  unfolding heavy weight
  ranges_inv r go =
      more_inv ws work at n (length r.ds) z r.them r.reads λ k e us q c i s.
      let l = rw q at r.light in
      go k e us c i s (or_no_l (heavy r.ds e) (heavy_terms r.ds us) l) (or_no_r (heavy r.ds e) (heavy_terms r.ds us) l) (rw q at r.low_small) (rw q at r.high_small)

  pub range_first : ReadyRanges ws work at n low high → ReadyRange ws work (at + 1)
  range_first r = ranges_inv r λ k e us c i s f g l h. record { ds = r.ds; bounds = r.bounds; it = e; reads = i; light = f }

  module _ (next : ℕ) (l h : ℤ) (p : RangePost ws work (at + 1) next l h) (k : ℤ) (hk : k ≡ get_or ws at (pos 0)) where
    -- what the products and the sums ask, and what is ready behind them
    pub ranges_next : ReadyRanges ws work at n low high
        → (nat_abs k * nat_abs l < 2 ^ 31) × (nat_abs k * nat_abs h < 2 ^ 31) × SFits w32 (low +ℤ times_low k l h) × SFits w32 (high +ℤ times_low k h l)
        × ReadyRanges ws work next (n - 1) (low +ℤ times_low k l h) (high +ℤ times_low k h l) × (at < next)
    ranges_next r =
        ranges_inv r λ j e us c i s f g sl sh.
        let y = p r.ds e r.bounds i in
        let m : next ≡ at + 1 + length (encode_int e) = y.0 in
        let w = interval_small r.ds r.bounds.bounded e in
        let a : nat_abs l ≤ weight r.ds e = rw y.1 w.0 in
        let b : nat_abs h ≤ weight r.ds e = rw y.2 w.1 in
        let jk : k ≡ j = hk ∙ c in
        let kl : nat_abs low + (nat_abs k * weight r.ds e + terms_weight r.ds us) ≤ max_weight = rw jk sl in
        let kh : nat_abs high + (nat_abs k * weight r.ds e + terms_weight r.ds us) ≤ max_weight = rw jk sh in
        let u = product_asks k low l h (weight r.ds e) (terms_weight r.ds us) a b kl in
        let v = product_joins k low l h (weight r.ds e) (terms_weight r.ds us) a b kl in
        let x = product_joins k high h l (weight r.ds e) (terms_weight r.ds us) b a kh in
        (u.0, u.1, v.1, x.1, record { ds = r.ds; bounds = r.bounds; them = us; reads = rw m s; light = g; low_small = v.0; high_small = x.0 }, omega arith)

    pub ranges_more : (next' : ℕ) (low' high' : ℤ) → RangesPost ws work next (n - 1) (low +ℤ times_low k l h) (high +ℤ times_low k h l) next' low' high' → RangesPost ws work at n low high next' low' high'
    unfolding encode_terms interval
    ranges_more next' low' high' p' ds ts b r =
        more_inv ws work at n (length ds) z ts r λ j e us q c i s.
        let y = p ds e b i in
        let m : next ≡ at + 1 + length (encode_int e) = y.0 in
        let y' = p' ds us b (rw m s) in
        let m' : next' ≡ next + length (encode_terms us) = y'.0 in
        let d : times_low k l h ≡ times_low j (interval ds e).0 (interval ds e).1 = rw (hk ∙ c, y.1, y.2) refl in
        let f : times_low k h l ≡ times_high j (interval ds e).0 (interval ds e).1 = rw (hk ∙ c, y.1, y.2) (times_exchanged j (interval ds e).0 (interval ds e).1) in
        rw q (
          omega (arith, length-append (encode_int e) (encode_terms us)),
          y'.1 ∙ ap (λ (x : ℤ). (low +ℤ x) +ℤ (terms_interval ds us).0) d ∙ +ℤ_assoc low (times_low j (interval ds e).0 (interval ds e).1) (terms_interval ds us).0,
          y'.2 ∙ ap (λ (x : ℤ). (high +ℤ x) +ℤ (terms_interval ds us).1) f ∙ +ℤ_assoc high (times_high j (interval ds e).0 (interval ds e).1) (terms_interval ds us).1,
        )
