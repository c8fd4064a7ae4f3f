-- What the value of an integer expression asks and gives at each step, over variables. Assumes nothing.
use Prim.Native.Nat.{ℕ, suc, ◌+◌, ◌-◌, ◌*◌, ◌≤◌, ◌<◌}
use mathlib.Core.Path.{◌≡◌, refl, sym, ap, ◌∙◌, subst}
use mathlib.Core.Bool.{Bool, true, false, ◌||◌}
use mathlib.Core.List.{List, ◌++◌}
use native.Mathlib.Omega.{arith}
use native.Mathlib.Nat.{mul-le-mul_left}
use lib.IntN.{ℤ, pos, nat_abs, ◌+ℤ◌, ◌*ℤ◌, +ℤ_idl, +ℤ_idr, +ℤ_assoc}
use mir.Syntax.{w32}
use mir.Val.{SFits, of_z, to_z}
use mir.Facts.{to_z-of_z}
use lib.Dec.{ltb}
use lib.ListN.{length, get_or, length-append}
use borrow.Author.Tests.{ltb-false}
use Rattle.laws.specs.Bools.{or_no_l, or_no_r}
use Rattle.laws.specs.Ints.{pos_eq, natAbs_add, nat_abs_mul, sfits_natAbs}
use Rattle.laws.specs.Slices.{Has, has_front, has_back, has_word, has_rest}
use Rattle.syntax.specs.Words.{max_weight}
use Rattle.syntax.specs.Syntax.{Domain, IfIsRead, IntExpr, Linear, If, Terms, tnil, tmore, BoolExpr, count_terms, encode_int, encode_terms, encode_bool}
use Rattle.syntax.specs.Satisfies.{int_value}
use Rattle.syntax.specs.Written.{every_int_map, EveryIntOf, Any, None}
use Rattle.syntax.specs.Lengths.{int_tag_word, int_long, int_fits}
use Rattle.domains.specs.Declared.{Plain}
use Rattle.limits.specs.Limits.{any_comparison, weight, terms_weight, heavy, heavy_terms}
use Rattle.accept.proofs.Laws.{int_plain, const_inv, second_plain, var_inv, sum_inv}
use Rattle.folding.proofs.IntLaws.{if_inv}
use Rattle.passes.specs.Skip.{SomeInt, SkipPost}
use Rattle.verdict.specs.Roster.{bool_of, int_of}
use Rattle.verdict.specs.Small.{Light, value_small}
use Rattle.evaluate.specs.Contract.{heavy_inside, heavy_inside_terms, heavy_bool, Roster, IntAt, TermsAt, ReadyInt, ReadyTerms, valued, added, IntPost, TermsPost, BoolAt, ReadyBool, held, BoolPost}

-- ---- `int_value`

module _ (ws values : List ℤ) (nb at : ℕ) where
  pub int_first : ReadyInt ws values nb at → Plain ws at
  int_first r = int_plain ws at r.it r.reads.stands.words

  pub int_inside : ReadyInt ws values nb at → at + 2 ≤ length ws
  int_inside r = omega (arith, int_fits ws at r.it r.reads.stands.words, int_long r.it)

  pub int_some : ReadyInt ws values nb at → SomeInt ws at
  int_some r = record { bools = nb; ints = length r.ds; it = r.it; stands = r.reads.stands }

  module _ (w : ℕ) (hw : get_or ws at (pos 0) ≡ pos w) where
    pub const_value : (x : ℤ) → x ≡ get_or ws (at + 1) (pos 0) → w ≡ 20 → IntPost ws values nb at (at + 2) x
    unfolding encode_int int_value
    const_value x hx z ds e b r = const_inv ws at w hw e r.stands.words z λ c q g. rw q (refl, hx ∙ g)

    pub int_second : ReadyInt ws values nb at → (w ≡ 20 → ⊥) → (w ≡ 23 → ⊥) → Plain ws (at + 1)
    int_second r z y = second_plain ws at w hw r.it r.reads.stands.words z y

    -- ---- an If

    module _ (h23 : w ≡ 23) where
      the_if : {X : Type 0} (ds : List Domain) (e : IntExpr) → IntAt nb ds ws at e
          → ((i : IfIsRead) (c : BoolExpr) (t f : IntExpr) → e ≡ If i c t f → BoolAt nb ds ws (at + 1) c → IntAt nb ds ws (at + 1 + length (encode_bool c)) t → IntAt nb ds ws (at + 1 + length (encode_bool c) + length (encode_int t)) f → X) → X
      unfolding encode_int EveryIntOf heavy any_comparison
      the_if ds e r go =
          if_inv e (pos_eq _ _ _ (int_tag_word ws at e r.stands.words) hw ∙ h23) λ i c t f q.
          let g = subst (λ x. IntAt nb ds ws at x) q r in
          let h = has_rest ws at (pos 23) (encode_bool c ++ (encode_int t ++ encode_int f)) g.stands.words in
          let k = has_back ws (at + 1) (encode_bool c) (encode_int t ++ encode_int f) h in
          let l : heavy ds t || heavy ds f ≡ false = or_no_r (ltb max_weight (weight ds (If i c t f))) _ g.light in
          let n : heavy_inside ds t || heavy_inside ds f ≡ false = or_no_r (heavy_bool ds c) _ g.inside in
          go i c t f q
          (record { stands = record { words = has_front ws (at + 1) (encode_bool c) (encode_int t ++ encode_int f) h; vars = g.stands.vars.0 }; light = or_no_l (heavy_bool ds c) _ g.inside })
          (record { stands = record { words = has_front ws (at + 1 + length (encode_bool c)) (encode_int t) (encode_int f) k; vars = g.stands.vars.1.0 }; light = or_no_l (heavy ds t) _ l; inside = or_no_l (heavy_inside ds t) _ n })
          (record { stands = record { words = has_back ws (at + 1 + length (encode_bool c)) (encode_int t) (encode_int f) k; vars = g.stands.vars.1.1 }; light = or_no_r (heavy ds t) _ l; inside = or_no_r (heavy_inside ds t) _ n })

      if_long : (i : IfIsRead) (c : BoolExpr) (t f : IntExpr) → length (encode_int (If i c t f)) ≡ 1 + length (encode_bool c) + length (encode_int t) + length (encode_int f)
      unfolding encode_int
      if_long i c t f = omega (arith, length-append (encode_bool c) (encode_int t ++ encode_int f), length-append (encode_int t) (encode_int f))

      pub condition_ready : ReadyInt ws values nb at → ReadyBool ws values nb (at + 1)
      condition_ready r = the_if r.ds r.it r.reads λ i c t f q hc ht hf. record { ds = r.ds; roster = r.roster; it = c; reads = hc }

      module _ (m : ℕ) (x : Bool) (p : BoolPost ws values nb (at + 1) m x) where
        pub then_ready : ReadyInt ws values nb at → ReadyInt ws values nb m × (at < m)
        then_ready r =
            the_if r.ds r.it r.reads λ i c t f q hc ht hf.
            let y : m ≡ at + 1 + length (encode_bool c) = (p r.ds c r.roster hc).0 in
            (record { ds = r.ds; roster = r.roster; it = t; reads = rw y ht }, omega arith)

        -- it holds: the first branch's value, and the second is passed over
        module _ (hx : x ≡ true) (m' : ℕ) (v : ℤ) (p' : IntPost ws values nb m m' v) where
          pub else_some : ReadyInt ws values nb at → SomeInt ws m'
          else_some r =
              the_if r.ds r.it r.reads λ i c t f q hc ht hf.
              let y : m ≡ at + 1 + length (encode_bool c) = (p r.ds c r.roster hc).0 in
              let z : m' ≡ m + length (encode_int t) = (p' r.ds t r.roster (rw y ht)).0 in
              record { bools = nb; ints = length r.ds; it = f; stands = rw (z, y) hf.stands }

          pub then_value : (next : ℕ) (v' : ℤ) → v' ≡ v → SkipPost ws m' next → IntPost ws values nb at next v'
          unfolding int_value
          then_value next v' hv s ds e b r =
              the_if ds e r λ i c t f q hc ht hf.
              let yc = p ds c b hc in
              let y : m ≡ at + 1 + length (encode_bool c) = yc.0 in
              let yt = p' ds t b (rw y ht) in
              let z : m' ≡ m + length (encode_int t) = yt.0 in
              let k : next ≡ m' + length (encode_int f) = s nb (length ds) f (rw (z, y) hf.stands) in
              let d : held nb values c ≡ true = sym yc.1 ∙ hx in
              rw q (omega (arith, if_long i c t f), hv ∙ yt.1 ∙ rw d refl)

        -- it fails: the first branch is passed over, and the second's value counts
        module _ (hx : x ≡ false) (m' : ℕ) (p' : SkipPost ws m m') where
          pub else_ready : ReadyInt ws values nb at → ReadyInt ws values nb m' × (at < m')
          else_ready r =
              the_if r.ds r.it r.reads λ i c t f q hc ht hf.
              let y : m ≡ at + 1 + length (encode_bool c) = (p r.ds c r.roster hc).0 in
              let z : m' ≡ m + length (encode_int t) = p' nb (length r.ds) t (rw y ht.stands) in
              (record { ds = r.ds; roster = r.roster; it = f; reads = rw (z, y) hf }, omega arith)

          pub else_value : (next : ℕ) (v : ℤ) → IntPost ws values nb m' next v → IntPost ws values nb at next v
          unfolding int_value
          else_value next v s ds e b r =
              the_if ds e r λ i c t f q hc ht hf.
              let yc = p ds c b hc in
              let y : m ≡ at + 1 + length (encode_bool c) = yc.0 in
              let z : m' ≡ m + length (encode_int t) = p' nb (length ds) t (rw y ht.stands) in
              let yf = s ds f b (rw (z, y) hf) in
              let k : next ≡ m' + length (encode_int f) = yf.0 in
              let d : held nb values c ≡ false = sym yc.1 ∙ hx in
              rw q (omega (arith, if_long i c t f), yf.1 ∙ rw d refl)

    -- ---- a variable, a sum

    module _ (v : ℕ) (hv : get_or ws (at + 1) (pos 0) ≡ pos v) where
      pub var_inside : ReadyInt ws values nb at → w ≡ 21 → nb + v < length values
      unfolding EveryIntOf
      var_inside r z =
          var_inv ws at w hw v hv r.it r.reads.stands.words z λ q.
          let g : v < length r.ds = rw q at r.reads.stands.vars in
          omega (arith, r.roster.size)

      pub var_value : (x : ℤ) → x ≡ get_or values (nb + v) (pos 0) → w ≡ 21 → IntPost ws values nb at (at + 2) x
      unfolding encode_int int_value
      var_value x hx z ds e b r = var_inv ws at w hw v hv e r.stands.words z λ q. rw q (refl, hx)

      module _ (a : w ≡ 20 → ⊥) (b : w ≡ 21 → ⊥) (d : w ≡ 23 → ⊥) where
        -- the terms of a sum, none of them added up yet
        sum_terms : {X : Type 0} (ds : List Domain) (e : IntExpr) → IntAt nb ds ws at e → ((ts : Terms) → e ≡ Linear ts → TermsAt nb ds ws (at + 2) v (pos 0) ts → X) → X
        unfolding EveryIntOf heavy weight any_comparison
        sum_terms ds e r go =
            sum_inv ws at w hw v hv e r.stands.words a b d λ ts q n h.
            let g = rw q at r.stands.vars in
            let l = rw q at r.light in
            let i = rw q at r.inside in
            let k : terms_weight ds ts ≤ max_weight = ltb-false max_weight (terms_weight ds ts) (or_no_l (ltb max_weight (terms_weight ds ts)) (heavy_terms ds ts) l) in
            go ts q (record { stand = record { words = h; vars = g; size = n }; light = or_no_r (ltb max_weight (terms_weight ds ts)) (heavy_terms ds ts) l; inside = i; room = omega arith })

        pub sum_ready : ReadyInt ws values nb at → ReadyTerms ws values nb (at + 2) v (pos 0)
        sum_ready r = sum_terms r.ds r.it r.reads λ ts q t. record { ds = r.ds; roster = r.roster; them = ts; reads = t }

        pub sum_value : (next : ℕ) (x : ℤ) → TermsPost ws values nb (at + 2) v (pos 0) next x → IntPost ws values nb at next x
        unfolding encode_int int_value
        sum_value next x p ds e b r =
            sum_terms ds e r λ ts q t.
            let y = p ds ts b t in
            let l : next ≡ at + 2 + length (encode_terms ts) = y.0 in
            rw q (omega arith, y.1 ∙ +ℤ_idl (added nb values ts))

-- ---- a product added in i32

module _ (acc k x : ℤ) (fk : SFits w32 k) (fx : SFits w32 x) (h : nat_abs acc + nat_abs (k *ℤ x) ≤ max_weight) where
  product_is : to_z w32 (of_z w32 k) *ℤ to_z w32 (of_z w32 x) ≡ k *ℤ x
  product_is = rw (to_z-of_z fk, to_z-of_z fx) refl

  pub product_fits : SFits w32 (to_z w32 (of_z w32 k) *ℤ to_z w32 (of_z w32 x))
  product_fits = rw product_is (sfits_natAbs w32 (k *ℤ x) (omega arith))

  sum_of : acc +ℤ to_z w32 (of_z w32 (to_z w32 (of_z w32 k) *ℤ to_z w32 (of_z w32 x))) ≡ acc +ℤ k *ℤ x
  sum_of = rw (to_z-of_z product_fits, product_is) refl

  pub sum_fits : SFits w32 (acc +ℤ to_z w32 (of_z w32 (to_z w32 (of_z w32 k) *ℤ to_z w32 (of_z w32 x))))
  sum_fits = rw sum_of (sfits_natAbs w32 (acc +ℤ k *ℤ x) (omega (arith, natAbs_add acc (k *ℤ x))))

  pub sum_is : to_z w32 (of_z w32 (acc +ℤ to_z w32 (of_z w32 (to_z w32 (of_z w32 k) *ℤ to_z w32 (of_z w32 x))))) ≡ acc +ℤ k *ℤ x
  sum_is = to_z-of_z sum_fits ∙ sum_of

-- ---- `terms_value`

pub terms_none : (ws values : List ℤ) (nb at n : ℕ) (acc : ℤ) → n ≡ 0 → TermsPost ws values nb at n acc at acc
unfolding encode_terms int_value
terms_none ws values nb at n acc z ds tnil b r = (omega arith, sym (+ℤ_idr acc))
terms_none ws values nb at n acc z ds (tmore k e ts) b r = absurd (let s : n ≡ suc (count_terms ts) = r.stand.size in omega arith)

module _ (ws values : List ℤ) (nb at n : ℕ) (acc : ℤ) (z : n ≡ 0 → ⊥) where
  -- a term and the others; `total` is what both weigh with what was added up before
  more_inv : {X : Type 0} (ds : List Domain) (ts : Terms) → TermsAt nb ds ws at n acc ts
      → ((k : ℤ) (e : IntExpr) (us : Terms) → ts ≡ tmore k e us → get_or ws at (pos 0) ≡ k → IntAt nb ds ws (at + 1) e → nat_abs acc + (nat_abs k * weight ds e + terms_weight ds us) ≤ max_weight
      → ((acc' : ℤ) → nat_abs acc' + terms_weight ds us ≤ max_weight → TermsAt nb ds ws (at + 1 + length (encode_int e)) (n - 1) acc' us) → X) → X
  unfolding encode_terms EveryIntOf heavy weight any_comparison
  more_inv ds tnil r go = absurd (z r.stand.size)
  more_inv ds (tmore k e us) r go =
      let y = r.stand in
      let h : Has ws (at + 1) (encode_int e ++ encode_terms us) = has_rest ws at k _ y.words in
      let s : n ≡ suc (count_terms us) = y.size in
      go k e us refl (has_word ws at k _ (pos 0) y.words)
      (record { stands = record { words = has_front ws (at + 1) (encode_int e) (encode_terms us) h; vars = y.vars.0 }; light = or_no_l (heavy ds e) (heavy_terms ds us) r.light; inside = or_no_l (heavy_inside ds e) (heavy_inside_terms ds us) r.inside }) r.room
      (λ acc' m. record {
        stand = record { words = has_back ws (at + 1) (encode_int e) (encode_terms us) h; vars = y.vars.1; size = omega arith };
        light = or_no_r (heavy ds e) (heavy_terms ds us) r.light;
        inside = or_no_r (heavy_inside ds e) (heavy_inside_terms ds us) r.inside;
        room = m;
      })

  pub term_ready : ReadyTerms ws values nb at n acc → ReadyInt ws values nb (at + 1)
  term_ready r = more_inv r.ds r.them r.reads λ k e us q c i m t. record { ds = r.ds; roster = r.roster; it = e; reads = i }

  pub term_inside : ReadyTerms ws values nb at n acc → at + 1 < length ws
  term_inside r = more_inv r.ds r.them r.reads λ k e us q c i m t. omega (arith, int_fits ws (at + 1) e i.stands.words, int_long e)

  module _ (next : ℕ) (x : ℤ) (p : IntPost ws values nb (at + 1) next x) where
    -- the product, and what it makes of the sum
    product_small : (ds : List Domain) (k : ℤ) (e : IntExpr) → Roster nb ds values → IntAt nb ds ws (at + 1) e → get_or ws at (pos 0) ≡ k → nat_abs (get_or ws at (pos 0) *ℤ x) ≤ nat_abs k * weight ds e
    product_small ds k e b i c =
        let s : nat_abs x ≤ weight ds e = rw (p ds e b i).1 (value_small ds (bool_of values) (int_of nb values) (λ n. false) e (every_int_map None (λ v. v < nb) (λ v. v < length ds) Any Any (Light ds (int_of nb values)) (λ n k. tt) (λ v k. tt) b.light e i.stands.vars)) in
        rw (c, nat_abs_mul k x) (mul-le-mul_left (nat_abs k) s)

    pub term_small : ReadyTerms ws values nb at n acc → nat_abs acc + nat_abs (get_or ws at (pos 0) *ℤ x) ≤ max_weight
    term_small r = more_inv r.ds r.them r.reads λ k e us q c i m t. omega (arith, m, product_small r.ds k e r.roster i c)

    module _ (sum : ℤ) (hs : sum ≡ acc +ℤ get_or ws at (pos 0) *ℤ x) where
      rest_at : (ds : List Domain) (k : ℤ) (e : IntExpr) (us : Terms) → Roster nb ds values → get_or ws at (pos 0) ≡ k → IntAt nb ds ws (at + 1) e → nat_abs acc + (nat_abs k * weight ds e + terms_weight ds us) ≤ max_weight
          → ((acc' : ℤ) → nat_abs acc' + terms_weight ds us ≤ max_weight → TermsAt nb ds ws (at + 1 + length (encode_int e)) (n - 1) acc' us) → TermsAt nb ds ws next (n - 1) sum us
      rest_at ds k e us b c i m t =
          let l : next ≡ at + 1 + length (encode_int e) = (p ds e b i).0 in
          rw l (t sum (omega (arith, m, ap nat_abs hs, product_small ds k e b i c, natAbs_add acc (get_or ws at (pos 0) *ℤ x))))

      pub rest_ready : ReadyTerms ws values nb at n acc → ReadyTerms ws values nb next (n - 1) sum × (at < next)
      rest_ready r =
          more_inv r.ds r.them r.reads λ k e us q c i m t.
          let l : next ≡ at + 1 + length (encode_int e) = (p r.ds e r.roster i).0 in
          (record { ds = r.ds; roster = r.roster; them = us; reads = rest_at r.ds k e us r.roster c i m t }, omega arith)

      pub terms_more : (next' : ℕ) (x' : ℤ) → TermsPost ws values nb next (n - 1) sum next' x' → TermsPost ws values nb at n acc next' x'
      unfolding encode_terms int_value
      terms_more next' x' p' ds ts b r =
          more_inv ds ts r λ k e us q c i m t.
          let y = p ds e b i in
          let l : next ≡ at + 1 + length (encode_int e) = y.0 in
          let y' = p' ds us b (rest_at ds k e us b c i m t) in
          let l' : next' ≡ next + length (encode_terms us) = y'.0 in
          let v : ℤ = added nb values us in
          let s : x' ≡ acc +ℤ (k *ℤ valued nb values e +ℤ v) = y'.1 ∙ rw (hs, c, y.1) (+ℤ_assoc acc (k *ℤ valued nb values e) v) in
          rw q (omega (arith, length-append (encode_int e) (encode_terms us)), s)
