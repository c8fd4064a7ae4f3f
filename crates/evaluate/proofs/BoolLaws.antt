-- What the holding of a Boolean expression asks and gives at each step, over variables. Assumes nothing.
use Prim.Native.Nat.{ℕ, zero, suc, ◌+◌, ◌-◌, ◌≤◌, ◌<◌}
use mathlib.Core.Path.{◌≡◌, refl, sym, ap, ◌∙◌, subst}
use mathlib.Core.Bool.{Bool, true, false, not, ◌&&◌, ◌||◌, beq}
use mathlib.Core.List.{List}
use native.Mathlib.Omega.{arith}
use lib.Dec.{eqb}
use lib.IntN.{ℤ, pos}
use lib.ListN.{length, get_or, length-append}
use mir.Syntax.{w32}
use mir.Val.{SFits, of_z}
use borrow.Author.Tests.{eq-eqb, ne_eqb, eqb-true, eqb-false}
use Rattle.laws.specs.Bools.{never, beq_same, or_no_l, or_no_r}
use Rattle.laws.specs.Ints.{eqZ, pos_eq}
use Rattle.laws.specs.Order.{is_eqZ, not_eqZ}
use Rattle.laws.specs.Signed.{same_value}
use Rattle.laws.specs.Slices.{Has, has_front, has_back, has_rest}
use Rattle.syntax.specs.Syntax.{Domain, CmpOp, Eq, Ne, Le, Lt, Ge, Gt, op_at, IntExpr, BoolExpr, Const, Var, Cmp, Not, Members, mnil, more, count_members, encode_int, encode_bool, encode_members}
use Rattle.syntax.specs.Satisfies.{compare, holds}
use Rattle.syntax.specs.Written.{EveryOf}
use Rattle.fold.specs.Fold.{Op, op_xor, op_iff, op_imp, expr_of}
use Rattle.fold.specs.Table.{op_num, bit}
use Rattle.fold.proofs.Forms.{list_of, list_words, binary_words, op_word, declared_list, declared_binary, bool_long}
use Rattle.folding.proofs.BoolLaws.{not_inv, binary_inv, second, code_low}
use Rattle.limits.specs.Limits.{any_comparison, heavy, heavy_comparison}
use Rattle.passes.specs.Skip.{BoolAt as Bool-stands, SomeBool, SomeMembers, SkipMembersPost}
use Rattle.passes.proofs.SkipLaws.{leaf_inv, bool_code_is, second_is, the_list, sides, first_inv}
use Rattle.evaluate.specs.Contract.{heavy_inside, heavy_bool, heavy_members, IntAt, ReadyInt, IntPost, BoolAt, MembersAt, ReadyBool, ReadyMembers, held, decided, side_value, BoolPost, MembersPost}

-- ---- tests of words

-- two words are the same exactly if their bits are
pub eq_bits : (x y : ℤ) → SFits w32 x → SFits w32 y → eqb (of_z w32 x) (of_z w32 y) ≡ eqZ x y
eq_bits x y f g = go (eqb (of_z w32 x) (of_z w32 y)) refl
  where
    go : (t : Bool) → eqb (of_z w32 x) (of_z w32 y) ≡ t → t ≡ eqZ x y
    go true h = sym (is_eqZ x y (same_value f g (eqb-true (of_z w32 x) (of_z w32 y) h)))
    go false h = sym (not_eqZ x y (λ e. eqb-false (of_z w32 x) (of_z w32 y) h (ap (of_z w32) e)))

pub beq_differ : (a b : Bool) → beq a b ≡ false → a ≡ b → ⊥
beq_differ a b h e = never (sym h ∙ (rw e (beq_same b)))

pub not-true : (a : Bool) → not a ≡ true → a ≡ false
not-true true h = sym h
not-true false h = refl

pub not-false : (a : Bool) → not a ≡ false → a ≡ true
not-false true h = refl
not-false false h = sym h

op_back : (o : CmpOp) → op_at (op_word o) ≡ o
op_back Eq = refl
op_back Ne = refl
op_back Le = refl
op_back Lt = refl
op_back Ge = refl
op_back Gt = refl

pub op_last : (n : ℕ) → (n ≡ 0 → ⊥) → (n ≡ 1 → ⊥) → (n ≡ 2 → ⊥) → (n ≡ 3 → ⊥) → (n ≡ 4 → ⊥) → op_at n ≡ Gt
op_last zero a b c d e = absurd (a refl)
op_last (suc zero) a b c d e = absurd (b refl)
op_last (suc (suc zero)) a b c d e = absurd (c refl)
op_last (suc (suc (suc zero))) a b c d e = absurd (d refl)
op_last (suc (suc (suc (suc zero)))) a b c d e = absurd (e refl)
op_last (suc (suc (suc (suc (suc n))))) a b c d e = refl

-- ---- Xor, Iff and Imp of two sides

module _ (code : ℕ) (a b : Bool) where
  pub xor_is : code ≡ 15 → not (beq a b) ≡ side_value code a b
  unfolding side_value
  xor_is h = rw h refl

  module _ (n15 : code ≡ 15 → ⊥) where
    pub iff_is : code ≡ 16 → beq a b ≡ side_value code a b
    unfolding side_value
    iff_is h = rw h refl

    pub imp_is : (code ≡ 16 → ⊥) → not a || b ≡ side_value code a b
    unfolding side_value
    imp_is h = rw (ne_eqb code 15 n15, ne_eqb code 16 h) refl

-- ---- an expression at its place

module _ (ws values : List ℤ) (nb at : ℕ) where
  pub ready_some : ReadyBool ws values nb at → SomeBool ws at
  ready_some r = record { bools = nb; ints = length r.ds; it = r.it; stands = r.reads.stands }

  module _ (w : ℕ) (hw : get_or ws at (pos 0) ≡ pos w) where
    -- ---- a constant, a variable

    module _ (l : w < 12) (v : ℕ) (hv : get_or ws (at + 1) (pos 0) ≡ pos v) where
      the_leaf : {X : Type 0} (ni : ℕ) (e : BoolExpr) → Bool-stands nb ni ws at e → ((b : Bool) → w ≡ 10 → e ≡ Const b → v ≡ bit b → X) → ((w ≡ 10 → ⊥) → e ≡ Var v → v < nb → X) → X
      unfolding second EveryOf
      the_leaf {X} ni e r f g =
          let t = bool_code_is ws at w hw nb ni e r in
          let s : v ≡ second e = pos_eq _ _ _ hv (second_is ws at w hw nb ni e r (λ k. absurd (omega arith))) in
          leaf_inv e (code_low nb ni e r.vars) (omega arith)
          (λ b q. let z : 10 ≡ w = rw q at t in f b (sym z) q (s ∙ ap second q))
          (λ u q. let z : 11 ≡ w = rw q at t in let y : v ≡ u = s ∙ ap second q in let d : u < nb = rw q at r.vars in g (λ h. omega arith) (q ∙ ap Var (sym y)) (omega arith))

      pub const_held : (h : Bool) → w ≡ 10 → h ≡ eqb v 1 → BoolPost ws values nb at (at + 2) h
      unfolding encode_bool holds
      const_held h z y ds e b r = the_leaf (length ds) e r.stands (λ c i q s. rw q (refl, y ∙ rw s (bit_is c))) (λ i q d. absurd (i z))
        where
          bit_is : (c : Bool) → eqb (bit c) 1 ≡ c
          bit_is true = refl
          bit_is false = refl

      pub var_inside : ReadyBool ws values nb at → (w ≡ 10 → ⊥) → v < length values
      var_inside r z = the_leaf (length r.ds) r.it r.reads.stands (λ c i q s. absurd (z i)) (λ i q d. omega (arith, d, r.roster.size))

      pub var_held : (h : Bool) → (w ≡ 10 → ⊥) → h ≡ eqZ (get_or values v (pos 0)) (pos 1) → BoolPost ws values nb at (at + 2) h
      unfolding encode_bool holds
      var_held h z y ds e b r = the_leaf (length ds) e r.stands (λ c i q s. absurd (z i)) (λ i q d. rw q (refl, y))

    -- ---- a comparison

    module _ (h18 : w ≡ 18) where
      the_sides : {X : Type 0} (ds : List Domain) (e : BoolExpr) → BoolAt nb ds ws at e
          → ((o : CmpOp) (a b : IntExpr) → e ≡ Cmp o a b → IntAt nb ds ws (at + 2) a → IntAt nb ds ws (at + 2 + length (encode_int a)) b → X) → X
      unfolding any_comparison heavy_comparison
      the_sides ds e r go =
          sides ws at w hw h18 nb (length ds) e r.stands λ o a b q h g.
          let y = rw q at r.light in
          let l = or_no_l (heavy_comparison ds a b) _ y in
          let i = or_no_r (heavy_comparison ds a b) _ y in
          go o a b q (record { stands = h; light = or_no_l (heavy ds a) _ l; inside = or_no_l (heavy_inside ds a) _ i })
          (record { stands = g; light = or_no_l (heavy ds b) _ (or_no_r (heavy ds a) _ l); inside = or_no_r (heavy_inside ds a) _ i })

      pub left_ready : ReadyBool ws values nb at → ReadyInt ws values nb (at + 2)
      left_ready r = the_sides r.ds r.it r.reads λ o a b q h g. record { ds = r.ds; roster = r.roster; it = a; reads = h }

      module _ (m : ℕ) (x : ℤ) (p : IntPost ws values nb (at + 2) m x) where
        pub right_ready : ReadyBool ws values nb at → ReadyInt ws values nb m × (at < m)
        right_ready r =
            the_sides r.ds r.it r.reads λ o a b q h g.
            let e : m ≡ at + 2 + length (encode_int a) = (p r.ds a r.roster h).0 in
            (record { ds = r.ds; roster = r.roster; it = b; reads = rw e g }, omega arith)

        pub comparison_held : (op next : ℕ) (y : ℤ) (t : Bool) → get_or ws (at + 1) (pos 0) ≡ pos op → IntPost ws values nb m next y → t ≡ compare (op_at op) x y → BoolPost ws values nb at next t
        unfolding encode_bool holds second
        comparison_held op next y t ho p' ht ds e b r =
            the_sides ds e r λ o c d q h g.
            let em = p ds c b h in
            let e0 : m ≡ at + 2 + length (encode_int c) = em.0 in
            let en = p' ds d b (rw e0 g) in
            let e1 : next ≡ m + length (encode_int d) = en.0 in
            let s : op ≡ op_word o = pos_eq _ _ _ ho (second_is ws at w hw nb (length ds) e r.stands (λ k. h18)) ∙ ap second q in
            rw q (omega (arith, length-append (encode_int c) (encode_int d)), ht ∙ rw (s, op_back o, em.1, en.1) refl)

    -- ---- And, Or

    module _ (l12 : 12 ≤ w) (l14 : w < 14) (n : ℕ) (hn : get_or ws (at + 1) (pos 0) ≡ pos n) where
      the_members : {X : Type 0} (ds : List Domain) (e : BoolExpr) → BoolAt nb ds ws at e → ((s : Bool) (ms : Members) → e ≡ list_of s ms → eqb w 13 ≡ s → MembersAt nb ds ws (at + 2) n ms → X) → X
      the_members ds e r go =
          the_list ws at w hw l12 l14 n hn nb (length ds) e r.stands λ s ms q tw sz.
          let g = subst (λ x. BoolAt nb ds ws at x) q (r) in
          go s ms q (code_is s tw) (record {
            stand = record { words = has_list s ms g.stands.words; vars = declared_list nb (length ds) s ms g.stands.vars; size = sz };
            light = light_list s ms g.light;
          })
        where
          code_is : (s : Bool) → w ≡ 12 + bit s → eqb w 13 ≡ s
          code_is true t = eq-eqb w 13 t
          code_is false t = ne_eqb w 13 (λ e. omega arith)

          has_list : (s : Bool) (ms : Members) → Has ws at (encode_bool (list_of s ms)) → Has ws (at + 2) (encode_members ms)
          has_list s ms h =
              let k : at + 2 ≡ at + 1 + 1 = omega arith in
              let g = rw (list_words s ms) at h in
              rw k (has_rest ws (at + 1) _ _ (has_rest ws at _ _ g))

          light_list : (s : Bool) (ms : Members) → heavy_bool ds (list_of s ms) ≡ false → heavy_members ds ms ≡ false
          light_list true ms h = unfold any_comparison in h
          light_list false ms h = unfold any_comparison in h

      pub list_ready : ReadyBool ws values nb at → ReadyMembers ws values nb (at + 2) n
      list_ready r = the_members r.ds r.it r.reads λ s ms q t g. record { ds = r.ds; roster = r.roster; them = ms; reads = g }

      pub list_held : (next : ℕ) (h : Bool) → MembersPost ws values nb (at + 2) n (eqb w 13) next h → BoolPost ws values nb at next h
      list_held next h p ds e b r =
          the_members ds e r λ s ms q t g.
          let y = p ds ms b g in
          rw q (y.0 ∙ long s ms, y.1 ∙ ap (λ c. decided nb values c ms) t ∙ same s ms)
        where
          long : (s : Bool) (ms : Members) → at + 2 + length (encode_members ms) ≡ at + length (encode_bool (list_of s ms))
          long s ms = rw (list_words s ms) (omega arith)

          same : (s : Bool) (ms : Members) → decided nb values s ms ≡ held nb values (list_of s ms)
          same true ms = unfold holds in refl
          same false ms = unfold holds in refl

    -- ---- Not

    module _ (h14 : w ≡ 14) where
      the_member : {X : Type 0} (ds : List Domain) (e : BoolExpr) → BoolAt nb ds ws at e → ((x : BoolExpr) → e ≡ Not x → BoolAt nb ds ws (at + 1) x → X) → X
      unfolding encode_bool EveryOf any_comparison
      the_member ds e r go =
          not_inv e (bool_code_is ws at w hw nb (length ds) e r.stands ∙ h14) λ x q.
          let g = subst (λ x. BoolAt nb ds ws at x) q (r) in
          go x q (record { stands = record { words = has_rest ws at _ _ g.stands.words; vars = g.stands.vars }; light = g.light })

      pub not_ready : ReadyBool ws values nb at → ReadyBool ws values nb (at + 1)
      not_ready r = the_member r.ds r.it r.reads λ x q g. record { ds = r.ds; roster = r.roster; it = x; reads = g }

      pub not_held : (next : ℕ) (h : Bool) → BoolPost ws values nb (at + 1) next h → BoolPost ws values nb at next (not h)
      unfolding encode_bool holds
      not_held next h p ds e b r =
          the_member ds e r λ x q g.
          let y = p ds x b g in
          let z : next ≡ at + 1 + length (encode_bool x) = y.0 in
          rw q (omega arith, ap not y.1)

    -- ---- Xor, Iff, Imp

    module _ (l14 : 14 < w) (n18 : w ≡ 18 → ⊥) where
      the_two : {X : Type 0} (ds : List Domain) (e : BoolExpr) → BoolAt nb ds ws at e
          → ((o : Op) (a b : BoolExpr) → e ≡ expr_of o a b → w ≡ 15 + op_num o → BoolAt nb ds ws (at + 1) a → BoolAt nb ds ws (at + 1 + length (encode_bool a)) b → X) → X
      the_two ds e r go =
          let t = bool_code_is ws at w hw nb (length ds) e r.stands in
          binary_inv e (omega arith) (λ z. n18 (sym t ∙ z)) λ o a b q to.
          let g = subst (λ x. BoolAt nb ds ws at x) q (r) in
          let h = has_rest ws at _ _ (rw (binary_words o a b) at g.stands.words) in
          let d = declared_binary nb (length ds) o a b g.stands.vars in
          let l = light_two o a b g.light in
          go o a b q (omega arith)
          (record { stands = record { words = has_front ws (at + 1) (encode_bool a) (encode_bool b) h; vars = d.0 }; light = or_no_l (heavy_bool ds a) _ l })
          (record { stands = record { words = has_back ws (at + 1) (encode_bool a) (encode_bool b) h; vars = d.1 }; light = or_no_r (heavy_bool ds a) _ l })
        where
          light_two : (o : Op) (a b : BoolExpr) → heavy_bool ds (expr_of o a b) ≡ false
              → heavy_bool ds a || heavy_bool ds b ≡ false
          light_two op_xor a b h = unfold any_comparison in h
          light_two op_iff a b h = unfold any_comparison in h
          light_two op_imp a b h = unfold any_comparison in h

      pub first_ready : ReadyBool ws values nb at → ReadyBool ws values nb (at + 1)
      first_ready r = the_two r.ds r.it r.reads λ o a b q t g k. record { ds = r.ds; roster = r.roster; it = a; reads = g }

      module _ (m : ℕ) (x : Bool) (p : BoolPost ws values nb (at + 1) m x) where
        pub second_ready : ReadyBool ws values nb at → ReadyBool ws values nb m × (at < m)
        second_ready r =
            the_two r.ds r.it r.reads λ o a b q t g k.
            let e : m ≡ at + 1 + length (encode_bool a) = (p r.ds a r.roster g).0 in
            (record { ds = r.ds; roster = r.roster; it = b; reads = rw e k }, omega arith)

        pub two_held : (next : ℕ) (y h : Bool) → BoolPost ws values nb m next y → h ≡ side_value w x y → BoolPost ws values nb at next h
        two_held next y h p' hh ds e c r =
            the_two ds e r λ o a b q t g k.
            let u = p ds a c g in
            let e0 : m ≡ at + 1 + length (encode_bool a) = u.0 in
            let v = p' ds b c (rw e0 k) in
            let e1 : next ≡ m + length (encode_bool b) = v.0 in
            rw q (long o a b e0 e1, hh ∙ rw (t, u.1, v.1) (same o a b))
          where
            long : (o : Op) (a b : BoolExpr) → m ≡ at + 1 + length (encode_bool a) → next ≡ m + length (encode_bool b) → next ≡ at + length (encode_bool (expr_of o a b))
            long o a b e0 e1 = rw (binary_words o a b) (omega (arith, e0, e1, length-append (encode_bool a) (encode_bool b)))

            same : (o : Op) (a b : BoolExpr) → side_value (15 + op_num o) (held nb values a) (held nb values b) ≡ held nb values (expr_of o a b)
            same op_xor a b = unfold holds side_value in refl
            same op_iff a b = unfold holds side_value in refl
            same op_imp a b = unfold holds side_value in refl

-- ---- `members_hold`

pub members_none : (ws values : List ℤ) (nb at n : ℕ) (stop : Bool) → n ≡ 0 → MembersPost ws values nb at n stop at (not stop)
unfolding encode_bool holds
members_none ws values nb at n true z ds mnil b r = (omega arith, refl)
members_none ws values nb at n false z ds mnil b r = (omega arith, refl)
members_none ws values nb at n stop z ds (more e ms) b r = absurd (let s : n ≡ suc (count_members ms) = r.stand.size in omega arith)

module _ (ws values : List ℤ) (nb at n : ℕ) (z : n ≡ 0 → ⊥) where
  the_first : {X : Type 0} (ds : List Domain) (ms : Members) → MembersAt nb ds ws at n ms
      → ((e : BoolExpr) (us : Members) → ms ≡ more e us → BoolAt nb ds ws at e → MembersAt nb ds ws (at + length (encode_bool e)) (n - 1) us → X) → X
  unfolding any_comparison
  the_first ds ms r go =
      first_inv ws at n z nb (length ds) ms r.stand λ e us q h g.
      let l = rw q at r.light in
      go e us q (record { stands = h; light = or_no_l (heavy_bool ds e) _ l }) (record { stand = g; light = or_no_r (heavy_bool ds e) _ l })

  pub member_ready : ReadyMembers ws values nb at n → ReadyBool ws values nb at
  member_ready r = the_first r.ds r.them r.reads λ e us q h g. record { ds = r.ds; roster = r.roster; it = e; reads = h }

  module _ (m : ℕ) (x : Bool) (p : BoolPost ws values nb at m x) where
    pub behind_ready : ReadyMembers ws values nb at n → ReadyMembers ws values nb m (n - 1) × (at < m)
    behind_ready r =
        the_first r.ds r.them r.reads λ e us q h g.
        let l : m ≡ at + length (encode_bool e) = (p r.ds e r.roster h).0 in
        (record { ds = r.ds; roster = r.roster; them = us; reads = rw l g }, omega (arith, l, bool_long nb (length r.ds) e h.stands.vars))

    pub behind_some : ReadyMembers ws values nb at n → SomeMembers ws m (n - 1)
    behind_some r = let y = (behind_ready r).0 in record { bools = nb; ints = length y.ds; them = y.them; stand = y.reads.stand }

    -- the deciding member, and what lies behind it passed over
    pub stop_held : (stop : Bool) (next : ℕ) → x ≡ stop → SkipMembersPost ws m (n - 1) next → MembersPost ws values nb at n stop next stop
    unfolding encode_bool holds
    stop_held stop next hs s ds ms b r =
        the_first ds ms r λ e us q h g.
        let y = p ds e b h in
        let l : m ≡ at + length (encode_bool e) = y.0 in
        let k : next ≡ m + length (encode_members us) = s nb (length ds) us (rw l g.stand) in
        let d : held nb values e ≡ stop = sym y.1 ∙ hs in
        rw q (omega (arith, length-append (encode_bool e) (encode_members us)), decides stop e us d)
      where
        decides : (t : Bool) (e : BoolExpr) (us : Members) → held nb values e ≡ t → t ≡ decided nb values t (more e us)
        decides true e us d = rw d refl
        decides false e us d = rw d refl

    pub members_more : (stop : Bool) (next : ℕ) (h : Bool) → (x ≡ stop → ⊥) → MembersPost ws values nb m (n - 1) stop next h → MembersPost ws values nb at n stop next h
    unfolding encode_bool holds
    members_more stop next h hs p' ds ms b r =
        the_first ds ms r λ e us q k g.
        let y = p ds e b k in
        let l : m ≡ at + length (encode_bool e) = y.0 in
        let y' = p' ds us b (rw l g) in
        let l' : next ≡ m + length (encode_members us) = y'.0 in
        rw q (omega (arith, length-append (encode_bool e) (encode_members us)), y'.1 ∙ goes stop e us (λ d. hs (y.1 ∙ d)))
      where
        goes : (t : Bool) (e : BoolExpr) (us : Members) → (held nb values e ≡ t → ⊥) → decided nb values t us ≡ decided nb values t (more e us)
        goes true e us f = pick (held nb values e) refl
          where
            pick : (c : Bool) → held nb values e ≡ c → decided nb values true us ≡ (c || decided nb values true us)
            pick true d = absurd (f d)
            pick false d = refl
        goes false e us f = pick (held nb values e) refl
          where
            pick : (c : Bool) → held nb values e ≡ c → decided nb values false us ≡ (c && decided nb values false us)
            pick true d = refl
            pick false d = absurd (f d)
