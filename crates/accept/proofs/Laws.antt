-- What the totals of integer expressions ask and give at each step, over variables. Assumes nothing.
use Prim.Native.Nat.{ℕ, suc, ◌+◌, ◌-◌, ◌*◌, ◌≤◌, ◌<◌, min, max}
use mathlib.Core.Path.{◌≡◌, refl, sym, ap, ◌∙◌, subst}
use mathlib.Core.Bool.{Bool, false, ◌||◌, or-false}
use mathlib.Core.List.{List, [], ◌∷◌, ◌++◌, append-nil}
use native.Mathlib.Omega.{arith}
use lib.IntN.{ℤ, pos, nat_abs}
use lib.ListN.{length, get_or, length-append}
use Rattle.laws.specs.Slices.{Has, has_front, has_back, has_word, has_rest}
use Rattle.laws.specs.Ints.{pos_eq}
use Rattle.memory.specs.Places.{bounds}
use Rattle.syntax.specs.Syntax.{Domain, IfIsRead, IntExpr, IConst, IVar, Linear, If, Terms, tnil, tmore, count_terms, encode_int, encode_terms, BoolExpr, encode_bool}
use Rattle.syntax.specs.Written.{EveryIntOf}
use Rattle.syntax.specs.Lengths.{int_tag, int_tag_word, int_long, int_fits}
use Rattle.domains.specs.Declared.{Plain, bound_inside, low_at, high_at}
use Rattle.limits.specs.Limits.{any_comparison}
use Rattle.limits.specs.Total.{total, terms_total, joined, product, constant_total, bounds_total, cap}
use Rattle.limits.proofs.TotalLaws.{joined_assoc, joined_none, joined_cap, terms_total_cap, total_cap}
use Rattle.accept.specs.Walk.{Bounds, UsableAll, IntAt, TermsAt, BoolAt, BoolsAt, first_of, test_branch, inside, inside_terms, test_bool, Totals, ReadyVar, VarPost, ReadyInt, ReadyTerms, ReadyIf, ReadyLeaf, ReadyDeep, IntPost, LeafPost, IfPost, TermsPost, ReadyBranches, BranchesPost, ReadyBools, BoolsPost}
use Rattle.accept.proofs.FirstLaws.{none_before, first_cong, first_join, first_if}

-- ---- `variable_total`

pub var_inside : (work : List ℤ) (v : ℕ) → ReadyVar work v → bounds + (2 * v + 1) < length work
var_inside work v r = bound_inside work bounds r.ds r.bounds.words v r.below

pub var_post : (work : List ℤ) (v r : ℕ) (low high : ℤ) → low ≡ get_or work (bounds + 2 * v) (pos 0) → high ≡ get_or work (bounds + (2 * v + 1)) (pos 0)
    → r ≡ bounds_total low high → VarPost work v r
var_post work v r low high hl hh e ds b l = rw (hl ∙ low_at work bounds ds b.words v l, hh ∙ high_at work bounds ds b.words v l) at e

-- ---- an integer expression, by its first word

module _ (ws : List ℤ) (at : ℕ) where
  pub int_plain : (e : IntExpr) → Has ws at (encode_int e) → Plain ws at
  int_plain e h = record { inside = omega (arith, int_fits ws at e h, int_long e); value = int_tag e; is = int_tag_word ws at e h }

  module _ (w : ℕ) (hw : get_or ws at (pos 0) ≡ pos w) where
    code_is : (e : IntExpr) → Has ws at (encode_int e) → int_tag e ≡ w
    code_is e h = pos_eq _ _ _ (int_tag_word ws at e h) hw

    pub const_inv : {X : Type 0} (e : IntExpr) → Has ws at (encode_int e) → w ≡ 20 → ((c : ℤ) → e ≡ IConst c → get_or ws (at + 1) (pos 0) ≡ c → X) → X
    unfolding encode_int
    const_inv (IConst c) h z go = go c refl (has_word ws (at + 1) _ _ (pos 0) (has_rest ws at _ _ h))
    const_inv (IVar v) h z go = absurd (let e : 21 ≡ w = code_is (IVar v) h in omega arith)
    const_inv (If i c t f) h z go = absurd (let e : 23 ≡ w = code_is (If i c t f) h in omega arith)
    const_inv (Linear ts) h z go = absurd (let e : 22 ≡ w = code_is (Linear ts) h in omega arith)

    pub if_inv : {X : Type 0} (e : IntExpr) → Has ws at (encode_int e) → w ≡ 23 → ((i : IfIsRead) (c : BoolExpr) (t f : IntExpr) → e ≡ If i c t f → X) → X
    if_inv (IConst c) h z go = absurd (let e : 20 ≡ w = code_is (IConst c) h in omega arith)
    if_inv (IVar v) h z go = absurd (let e : 21 ≡ w = code_is (IVar v) h in omega arith)
    if_inv (Linear ts) h z go = absurd (let e : 22 ≡ w = code_is (Linear ts) h in omega arith)
    if_inv (If i c t f) h z go = go i c t f refl

    pub second_plain : (e : IntExpr) → Has ws at (encode_int e) → (w ≡ 20 → ⊥) → (w ≡ 23 → ⊥) → Plain ws (at + 1)
    unfolding encode_int
    second_plain (IConst c) h z y = absurd (z (sym (code_is (IConst c) h)))
    second_plain (IVar v) h z y = record { inside = omega (arith, int_fits ws at (IVar v) h); value = v; is = has_word ws (at + 1) _ _ (pos 0) (has_rest ws at _ _ h) }
    second_plain (Linear ts) h z y = record { inside = omega (arith, int_fits ws at (Linear ts) h); value = count_terms ts; is = has_word ws (at + 1) _ _ (pos 0) (has_rest ws at _ _ h) }
    second_plain (If i c t f) h z y = absurd (y (sym (code_is (If i c t f) h)))

    module _ (v : ℕ) (hv : get_or ws (at + 1) (pos 0) ≡ pos v) where
      pub var_inv : {X : Type 0} (e : IntExpr) → Has ws at (encode_int e) → w ≡ 21 → (e ≡ IVar v → X) → X
      unfolding encode_int
      var_inv (IConst c) h z go = absurd (let e : 20 ≡ w = code_is (IConst c) h in omega arith)
      var_inv (IVar u) h z go = go (ap IVar (pos_eq _ _ _ (has_word ws (at + 1) _ _ (pos 0) (has_rest ws at _ _ h)) hv))
      var_inv (Linear ts) h z go = absurd (let e : 22 ≡ w = code_is (Linear ts) h in omega arith)
      var_inv (If i c t f) h z go = absurd (let e : 23 ≡ w = code_is (If i c t f) h in omega arith)

      pub sum_inv : {X : Type 0} (e : IntExpr) → Has ws at (encode_int e) → (w ≡ 20 → ⊥) → (w ≡ 21 → ⊥) → (w ≡ 23 → ⊥)
          → ((ts : Terms) → e ≡ Linear ts → v ≡ count_terms ts → Has ws (at + 2) (encode_terms ts) → X) → X
      unfolding encode_int
      sum_inv (IConst c) h a b d go = absurd (a (sym (code_is (IConst c) h)))
      sum_inv (IVar u) h a b d go = absurd (b (sym (code_is (IVar u) h)))
      sum_inv (Linear ts) h a b d go =
          let m : at + 2 ≡ at + 1 + 1 = omega arith in
          go ts refl (sym (pos_eq _ _ _ (has_word ws (at + 1) _ _ (pos 0) (has_rest ws at _ _ h)) hv)) (rw m (has_rest ws (at + 1) _ _ (has_rest ws at _ _ h)))
      sum_inv (If i c t f) h a b d go = absurd (d (sym (code_is (If i c t f) h)))

-- an If's parts: the condition, the branches
module _ (ni : ℕ) (ws : List ℤ) (at : ℕ) (i : IfIsRead) (c : BoolExpr) (t f : IntExpr) where
  pub if_parts : IntAt ni ws at (If i c t f) → BoolAt ni ws (at + 1) c × IntAt ni ws (at + 1 + length (encode_bool c)) t × IntAt ni ws (at + 1 + length (encode_bool c) + length (encode_int t)) f
  unfolding encode_int EveryIntOf
  if_parts r =
      let h = has_rest ws at (pos 23) (encode_bool c ++ (encode_int t ++ encode_int f)) r.words in
      let k = has_back ws (at + 1) (encode_bool c) (encode_int t ++ encode_int f) h in (
        record { words = has_front ws (at + 1) (encode_bool c) (encode_int t ++ encode_int f) h; usable = r.vars.0 },
        record { words = has_front ws (at + 1 + length (encode_bool c)) (encode_int t) (encode_int f) k; vars = r.vars.1.0 },
        record { words = has_back ws (at + 1 + length (encode_bool c)) (encode_int t) (encode_int f) k; vars = r.vars.1.1 },
      )

  pub if_length : length (encode_int (If i c t f)) ≡ 1 + (length (encode_bool c) + (length (encode_int t) + length (encode_int f)))
  unfolding encode_int
  if_length = omega (arith, length-append (encode_bool c) (encode_int t ++ encode_int f), length-append (encode_int t) (encode_int f))

one_bool : (ni : ℕ) (ws : List ℤ) (at : ℕ) (c : BoolExpr) → BoolAt ni ws at c → BoolsAt ni ws at 1 (c ∷ [])
unfolding UsableAll
one_bool ni ws at c r = record { words = subst (λ l. Has ws at l) (sym (append-nil (encode_bool c))) r.words; usable = (r.usable, tt); size = refl }

-- ---- `int_total`

module _ (ws work : List ℤ) (at ni : ℕ) where
  pub int_first : ReadyInt ws work at ni → Plain ws at
  int_first r = int_plain ws at r.it r.reads.words

  pub int_inside : ReadyInt ws work at ni → at + 2 ≤ length ws
  int_inside r = omega (arith, int_fits ws at r.it r.reads.words, int_long r.it)

  module _ (w : ℕ) (hw : get_or ws at (pos 0) ≡ pos w) where
    const_total : (x : ℤ) (t : ℕ) → w ≡ 20 → x ≡ get_or ws (at + 1) (pos 0) → t ≡ constant_total x → IntPost ws work at ni (at + 2) t 12
    unfolding encode_int total any_comparison first_of
    const_total x t z hx ht ds e b q r = const_inv ws at w hw e r.words z λ c s g. rw s (refl, rw (hx ∙ g) at ht, refl)

    if_ready : ReadyInt ws work at ni → w ≡ 23 → ReadyIf ws work at ni
    if_ready r z =
        if_inv ws at w hw r.it r.reads.words z λ i c t f q.
        record { ds = r.ds; bounds = r.bounds; few = r.few; read = i; condition = c; left = t; right = f; reads = subst (λ e. IntAt ni ws at e) q r.reads }

    if_int : (next t k : ℕ) → w ≡ 23 → IfPost ws work at ni next t k → IntPost ws work at ni next t k
    if_int next t k z p ds e b s r =
        if_inv ws at w hw e r.words z λ i c x y q.
        subst (λ u. Totals ds u at next t k) (sym q) (p ds i c x y b s (subst (λ u. IntAt ni ws at u) q r))

    pub int_second : ReadyInt ws work at ni → (w ≡ 20 → ⊥) → (w ≡ 23 → ⊥) → Plain ws (at + 1)
    int_second r z y = second_plain ws at w hw r.it r.reads.words z y

    module _ (v : ℕ) (hv : get_or ws (at + 1) (pos 0) ≡ pos v) where
      var_ready : ReadyInt ws work at ni → w ≡ 21 → ReadyVar work v
      unfolding EveryIntOf
      var_ready r z =
          var_inv ws at w hw v hv r.it r.reads.words z λ q.
          let g = rw q at r.reads.vars in
          record { ds = r.ds; bounds = r.bounds; below = rw (← r.few) g }

      var_total : (t : ℕ) → w ≡ 21 → VarPost work v t → IntPost ws work at ni (at + 2) t 12
      unfolding encode_int total EveryIntOf any_comparison first_of
      var_total t z p ds e b s r = var_inv ws at w hw v hv e r.words z λ q. let g = rw q at r.vars in rw q (refl, p ds b (rw (← s) g), refl)

      module _ (a : w ≡ 20 → ⊥) (b : w ≡ 21 → ⊥) (d : w ≡ 23 → ⊥) where
        pub sum_ready : ReadyInt ws work at ni → ReadyTerms ws work (at + 2) v ni
        unfolding EveryIntOf
        sum_ready r =
            sum_inv ws at w hw v hv r.it r.reads.words a b d λ ts q n h.
            let g = rw q at r.reads.vars in
            record { ds = r.ds; bounds = r.bounds; few = r.few; them = ts; reads = record { words = h; vars = g; size = n } }

        sum_total : (next t k : ℕ) → TermsPost ws work (at + 2) v ni 0 12 next t k → IntPost ws work at ni next t k
        unfolding encode_int total EveryIntOf any_comparison
        sum_total next t k p ds e bs s r =
            sum_inv ws at w hw v hv e r.words a b d λ ts q n h.
            let g = rw q at r.vars in
            let y = p ds ts bs s (record { words = h; vars = g; size = n }) in
            let l : next ≡ at + 2 + length (encode_terms ts) = y.0 in
            rw q (omega arith, y.1 ∙ joined_none (terms_total ds ts) (terms_total_cap ds ts), none_before (λ m. inside_terms m ds ts) k y.2)

-- ---- `leaf_total`, `deep_total`

-- no expression has a code below 20
leaf_code : (ws work : List ℤ) (at code : ℕ) → ReadyLeaf ws work at code → (code ≡ 20 → ⊥) → code ≡ 21
leaf_code ws work at code r z = go r.int.it (pos_eq _ _ _ (int_tag_word ws at r.int.it r.int.reads.words) r.word)
  where
    go : (e : IntExpr) → int_tag e ≡ code → code ≡ 21
    go (IConst c) t = absurd (z (sym t))
    go (IVar v) t = sym t
    go (Linear ts) t = absurd (omega (arith, r.low))
    go (If i c x y) t = absurd (omega (arith, r.low))

module _ (ws work : List ℤ) (at code : ℕ) (r : ReadyLeaf ws work at code) where
  pub leaf_inside : at + 2 ≤ length ws
  leaf_inside = int_inside ws work at r.ni r.int

  pub leaf_second : (code ≡ 20 → ⊥) → Plain ws (at + 1)
  leaf_second z = int_second ws work at r.ni code r.word r.int z (λ y. omega (arith, r.low))

  pub leaf_const : (x : ℤ) (t : ℕ) → code ≡ 20 → x ≡ get_or ws (at + 1) (pos 0) → t ≡ constant_total x → LeafPost ws work at t
  leaf_const x t z hx ht ni = const_total ws work at ni code r.word x t z hx ht

  module _ (z : code ≡ 20 → ⊥) (v : ℕ) (hv : get_or ws (at + 1) (pos 0) ≡ pos v) where
    pub leaf_ready : ReadyVar work v
    leaf_ready = var_ready ws work at r.ni code r.word v hv r.int (leaf_code ws work at code r z)

    pub leaf_var : (t : ℕ) → VarPost work v t → LeafPost ws work at t
    leaf_var t p ni = var_total ws work at ni code r.word v hv t (leaf_code ws work at code r z) p

module _ (ws work : List ℤ) (at code ni : ℕ) (r : ReadyDeep ws work at code ni) where
  pub deep_inside : at + 2 ≤ length ws
  deep_inside = int_inside ws work at ni r.int

  pub deep_if : code ≡ 23 → ReadyIf ws work at ni
  deep_if z = if_ready ws work at ni code r.word r.int z

  pub deep_if_done : (next t k : ℕ) → code ≡ 23 → IfPost ws work at ni next t k → IntPost ws work at ni next t k
  deep_if_done next t k z p = if_int ws work at ni code r.word next t k z p

  module _ (z : code ≡ 23 → ⊥) where
    pub deep_second : Plain ws (at + 1)
    deep_second = int_second ws work at ni code r.word r.int (λ y. omega (arith, r.high)) z

    module _ (n : ℕ) (hn : get_or ws (at + 1) (pos 0) ≡ pos n) where
      pub deep_terms : ReadyTerms ws work (at + 2) n ni
      deep_terms = sum_ready ws work at ni code r.word n hn (λ y. omega (arith, r.high)) (λ y. omega (arith, r.high)) z r.int

      pub deep_sum : (next t k : ℕ) → TermsPost ws work (at + 2) n ni 0 12 next t k → IntPost ws work at ni next t k
      deep_sum next t k p = sum_total ws work at ni code r.word n hn (λ y. omega (arith, r.high)) (λ y. omega (arith, r.high)) z next t k p

-- ---- `if_total`

module _ (ws work : List ℤ) (at ni : ℕ) where
  pub if_rule : ReadyIf ws work at ni → ReadyBools ws work (at + 1) 1 ni
  if_rule r =
      let p = if_parts ni ws at r.read r.condition r.left r.right r.reads in
      record { ds = r.ds; bounds = r.bounds; few = r.few; them = r.condition ∷ []; reads = one_bool ni ws (at + 1) r.condition p.0 }

  pub if_inside : ReadyIf ws work at ni → at + 2 ≤ length ws
  if_inside r =
      let e = If r.read r.condition r.left r.right in
      omega (arith, int_fits ws at e r.reads.words, int_long e)

  module _ (nc kc : ℕ) (pc : BoolsPost ws work (at + 1) 1 ni 12 nc kc) where
    behind_condition : (ds : List Domain) (i : IfIsRead) (c : BoolExpr) (a b : IntExpr) → Bounds work ds → ni ≡ length ds → IntAt ni ws at (If i c a b)
        → (nc ≡ at + 1 + length (encode_bool c)) × (kc ≡ first_of (λ m. test_bool m ds c))
    behind_condition ds i c a b bs s r =
        let p = if_parts ni ws at i c a b r in
        let y = pc ds (c ∷ []) bs s (one_bool ni ws (at + 1) c p.0) in
        let l : nc ≡ at + 1 + length (encode_bool c ++ []) = y.0 in
        let test : ℕ → Bool = λ m. test_bool m ds c in
        (omega (arith, length-append (encode_bool c) []), none_before (λ m. test m || false) kc y.1 ∙ first_cong (λ m. test m || false) test (λ m. or-false (test m)))

    pub if_left : ReadyIf ws work at ni → ReadyInt ws work nc ni × (at < nc)
    if_left r =
        let p = if_parts ni ws at r.read r.condition r.left r.right r.reads in
        let l = (behind_condition r.ds r.read r.condition r.left r.right r.bounds r.few r.reads).0 in
        (record { ds = r.ds; bounds = r.bounds; few = r.few; it = r.left; reads = rw l p.1 }, omega arith)

    module _ (nt tt kt : ℕ) (pt : IntPost ws work nc ni nt tt kt) where
      behind_left : (ds : List Domain) (i : IfIsRead) (c : BoolExpr) (a b : IntExpr) → Bounds work ds → ni ≡ length ds → IntAt ni ws at (If i c a b)
          → IntAt ni ws nc a × IntAt ni ws nt b × Totals ds a nc nt tt kt
      behind_left ds i c a b bs s r =
          let p = if_parts ni ws at i c a b r in
          let l = (behind_condition ds i c a b bs s r).0 in
          let x : IntAt ni ws nc a = rw l p.1 in
          let y = pt ds a bs s x in
          let n : nt ≡ at + 1 + length (encode_bool c) + length (encode_int a) = omega (arith, l, y.0) in
          (x, rw n p.2, y)

      pub if_right : ReadyIf ws work at ni → ReadyInt ws work nt ni × (at < nt)
      if_right r =
          let y = behind_left r.ds r.read r.condition r.left r.right r.bounds r.few r.reads in
          (record { ds = r.ds; bounds = r.bounds; few = r.few; it = r.right; reads = y.1 }, omega (arith, y.2.0, (if_left r).1))

      module _ (nf tf kf : ℕ) (pf : IntPost ws work nt ni nf tf kf) where
        pub if_branches : ReadyIf ws work at ni → ReadyBranches ws nc nt nf ni
        if_branches r =
            let y = behind_left r.ds r.read r.condition r.left r.right r.bounds r.few r.reads in
            let z = pf r.ds r.right r.bounds r.few y.1 in
            record { left = r.left; right = r.right; left_at = y.0; right_at = y.1; middle = y.2.0; last = z.0; behind = omega (arith, (if_left r).1) }

        pub if_done : (kb x t z k' k : ℕ) → BranchesPost ws nc nt nf ni kb → x ≡ max tt tf → t ≡ max 1 x → z ≡ min kt kf → k' ≡ min kb z → k ≡ min kc k' → IfPost ws work at ni nf t k
        unfolding total any_comparison
        if_done kb x t z k' k pb ex et ez ek' ek ds i c a b bs s r =
            let y = behind_left ds i c a b bs s r in
            let w = pf ds b bs s y.1 in
            let q = behind_condition ds i c a b bs s r in
            let j = pb a b y.0 y.1 y.2.0 w.0 in (
              omega (arith, if_length ni ws at i c a b, q.0, y.2.0, w.0),
              omega (arith, y.2.1, w.1),
              first_if (λ m. test_bool m ds c) (λ m. test_branch m a) (λ m. inside m ds a) (λ m. test_branch m b) (λ m. inside m ds b) kc kb kt kf z k' k q.1 j y.2.2 w.2 ez ek' ek,
            )

-- ---- `terms_total`

pub terms_none : (ws work : List ℤ) (at n ni acc k : ℕ) → acc ≤ cap → k ≤ 12 → n ≡ 0 → TermsPost ws work at n ni acc k at acc k
unfolding encode_terms total joined any_comparison first_of
terms_none ws work at n ni acc k c l z ds tnil b s r = (omega arith, omega arith, omega arith)
terms_none ws work at n ni acc k c l z ds (tmore j e ts) b s r = absurd (let m : n ≡ suc (count_terms ts) = r.size in omega arith)

module _ (ws work : List ℤ) (at n ni : ℕ) (z : n ≡ 0 → ⊥) where
  pub more_inv : {X : Type 0} (ts : Terms) → TermsAt ni ws at n ts
      → ((k : ℤ) (e : IntExpr) (us : Terms) → ts ≡ tmore k e us → get_or ws at (pos 0) ≡ k → IntAt ni ws (at + 1) e → TermsAt ni ws (at + 1 + length (encode_int e)) (n - 1) us → X) → X
  unfolding encode_terms EveryIntOf
  more_inv tnil r go = absurd (z r.size)
  more_inv (tmore k e us) r go =
      let h : Has ws (at + 1) (encode_int e ++ encode_terms us) = has_rest ws at k _ r.words in
      let s : n ≡ suc (count_terms us) = r.size in
      go k e us refl (has_word ws at k _ (pos 0) r.words) (record { words = has_front ws (at + 1) (encode_int e) (encode_terms us) h; vars = r.vars.0 })
      (record { words = has_back ws (at + 1) (encode_int e) (encode_terms us) h; vars = r.vars.1; size = omega arith })

  pub term_ready : ReadyTerms ws work at n ni → ReadyInt ws work (at + 1) ni
  term_ready r = more_inv r.them r.reads λ k e us q c i t. record { ds = r.ds; bounds = r.bounds; few = r.few; it = e; reads = i }

  pub term_inside : ReadyTerms ws work at n ni → at + 1 < length ws
  term_inside r = more_inv r.them r.reads λ k e us q c i t. omega (arith, int_fits ws (at + 1) e i.words, int_long e)

  module _ (next t k : ℕ) (p : IntPost ws work (at + 1) ni next t k) where
    pub rest_ready : ReadyTerms ws work at n ni → ReadyTerms ws work next (n - 1) ni × (at < next) × (t ≤ cap)
    rest_ready r =
        more_inv r.them r.reads λ j e us q c i s.
        let y = p r.ds e r.bounds r.few i in
        let l : next ≡ at + 1 + length (encode_int e) = y.0 in
        (record { ds = r.ds; bounds = r.bounds; few = r.few; them = us; reads = rw l s }, omega arith, omega (arith, y.1, total_cap r.ds e))

    pub terms_more : (x : ℤ) (acc acc' k₀ k₁ next' t' k' : ℕ) → x ≡ get_or ws at (pos 0) → acc' ≡ joined acc (product (nat_abs x) t) → k₁ ≡ min k₀ k
        → TermsPost ws work next (n - 1) ni acc' k₁ next' t' k' → TermsPost ws work at n ni acc k₀ next' t' k'
    unfolding encode_terms total any_comparison
    terms_more x acc acc' k₀ k₁ next' t' k' hx ha hk p' ds ts b f r =
        more_inv ts r λ j e us q c i s.
        let y = p ds e b f i in
        let l : next ≡ at + 1 + length (encode_int e) = y.0 in
        let y' = p' ds us b f (rw l s) in
        let l' : next' ≡ next + length (encode_terms us) = y'.0 in
        let a : acc' ≡ joined acc (product (nat_abs j) (total ds e)) = rw (hx ∙ c, y.1) at ha in
        rw q (
          omega (arith, length-append (encode_int e) (encode_terms us)),
          y'.1 ∙ ap (λ m. joined m (terms_total ds us)) a ∙ joined_assoc acc (product (nat_abs j) (total ds e)) (terms_total ds us),
          first_join (λ m. inside m ds e) (λ m. inside_terms m ds us) k' k₀ k₁ k hk y.2 y'.2,
        )

pub joined_under : (r a b : ℕ) → r ≡ joined a b → r ≤ cap
joined_under r a b e = rw e (joined_cap a b)
