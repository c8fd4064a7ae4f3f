-- What requiring asks and gives at each step, over variables. Assumes nothing.
use Prim.Native.Nat.{ℕ, suc, ◌+◌, ◌-◌, ◌≤◌, ◌<◌, max}
use mathlib.Core.Path.{◌≡◌, refl, sym, ap, ◌∙◌, subst}
use mathlib.Core.Bool.{Bool, true, false, ◌||◌, cond}
use mathlib.Core.Option.{Option, none, some}
use mathlib.Core.List.{List}
use native.Mathlib.Omega.{arith}
use lib.Dec.{eqb, ltb}
use borrow.Author.Tests.{eqb-true, eqb-false, ltb-true, ltb-false}
use lib.IntN.{ℤ, pos}
use lib.ListN.{length, drop, get_or, set, length-append}
use lib.Seq.{drop-set-lt, get_or-set_same, get_or-set_other}
use Rattle.laws.specs.Slices.{Has, drop_up}
use Rattle.laws.specs.Ints.{pos_eq}
use Rattle.syntax.specs.Words.{max_bools}
use Rattle.syntax.specs.Syntax.{CmpOp, IntExpr, BoolExpr, Const, Var, Cmp, Members, mnil, more, count_members, encode_int, encode_bool, encode_members}
use Rattle.syntax.specs.Written.{EveryOf}
use Rattle.syntax.specs.Codes.{bool_code}
use Rattle.fold.specs.Fold.{Fixed, Op, expr_of}
use Rattle.fold.specs.Optimize.{Status, unsatisfiable, updated, fix, worst, and_then, constant_prop_bool, constant_prop_members}
use Rattle.fold.specs.Table.{op_num, bit, state_num}
use Rattle.fold.proofs.Forms.{list_of, list_words, binary_words}
use Rattle.domains.specs.Declared.{Plain}
use Rattle.folding.specs.Steps.{state_of, Reads, ReadsMembers}
use Rattle.folding.proofs.BoolLaws.{const_inv, var_inv, cmp_inv, not_inv, list_inv, binary_inv, first_word, second, second_word, code_low, inside, reads_long, reads_not, reads_list, reads_left, reads_right, reads_first, reads_rest, reads_sides}
use Rattle.passes.specs.Want.{prop_want, members_want, flip, member_want, left_want, right_want, want_not, want_list, want_binary, want_more, status_num, worst_num, clash_status, set_status, set_words, status_small, worst_two, worst_is, Values, Propagates}
use Rattle.passes.specs.Skip.{SomeInt, SkipPost}
use Rattle.passes.specs.Contract.{Stands, StandMembers, ComparisonPost, PropPost, MembersPost}

-- ---- statuses

unsat_updated : {X : Type 0} (c : Bool) (g : Fixed) → unsatisfiable ≡ updated c g → X
unsat_updated c g h = absurd (let z : ◌≡◌ {A = ℕ} 1 0 = ap (λ (s : Status). pick s) h in omega arith)
  where
    pick : Status → ℕ
    pick unsatisfiable = 1
    pick (updated c f) = 0

updated_same : (c d : Bool) (f g : Fixed) → updated c f ≡ updated d g → f ≡ g
updated_same c d f g h = cc

module _ (out : List ℤ) (f : Fixed) (vs : Values out f) where
  pub still : Propagates (updated false f) out out 0
  still = record { statuses = refl; after = f; values = vs; same = λ c g h. updated_same false c f g h; high = refl }

  -- nothing changes where the values agree, and no status is worse where they do not
  agrees : (t : Bool) → Propagates (cond t (updated false f) unsatisfiable) out out (cond t 0 2)
  agrees true = still
  agrees false = record { statuses = refl; after = f; values = vs; same = λ c g h. unsat_updated c g h; high = refl }

-- one after the other
module _ (out mid out' : List ℤ) (st st' : ℕ) (next : Fixed → Status) where
  then_at : (s : Status) (p : Propagates s out mid st) → Propagates (next p.after) mid out' st' → Propagates (and_then s next) out out' (worst_num st st')
  then_at unsatisfiable p q = record {
    statuses = rw (p.statuses, q.statuses) (worst_two (status_num (next p.after)) (status_small (next p.after)));
    after = q.after;
    values = q.values;
    same = λ c g h. unsat_updated c g h;
    high = q.high ∙ p.high;
  }
  then_at (updated c g) p q =
      let e : p.after ≡ g = p.same c g refl in
      let r : Propagates (next g) mid out' st' = rw e at q in
      let sr : st' ≡ status_num (next g) = r.statuses in
      record { statuses = rw (p.statuses, sr) (worst_is c (next g)); after = r.after; values = r.values; same = λ d h w. go (next g) r.after r.same d h w; high = r.high ∙ p.high }
    where
      go : (s : Status) (a : Fixed) → ((d : Bool) (h : Fixed) → s ≡ updated d h → a ≡ h) → (d : Bool) (h : Fixed) → worst c s ≡ updated d h → a ≡ h
      go unsatisfiable a k d h w = unsat_updated d h w
      go (updated x y) a k d h w = k x y refl ∙ updated_same (c || x) d y h w

  pub then_props : (s : Status) (p : Propagates s out mid st) (n : ℕ) → Propagates (next p.after) mid out' st' → n ≡ worst_num st st' → Propagates (and_then s next) out out' n
  then_props s p n q h = rw h (then_at s p q)

pub as_status : (s t : Status) (out out' : List ℤ) (n : ℕ) → s ≡ t → Propagates t out out' n → Propagates s out out' n
as_status s t out out' n e p = subst (λ x. Propagates x out out' n) (sym e) p

-- ---- what stands above stays

pub has_up : (out out' : List ℤ) (at : ℕ) (us : List ℤ) → drop max_bools out' ≡ drop max_bools out → max_bools ≤ at → Has out at us → Has out' at us
has_up out out' at us d h s = rw (drop_up max_bools at out' out d h) s

reads_up : (ni : ℕ) (out out' : List ℤ) (at : ℕ) (e : BoolExpr) → drop max_bools out' ≡ drop max_bools out → max_bools ≤ at → Reads ni out at e → Reads ni out' at e
reads_up ni out out' at e d h r = record { words = has_up out out' at (encode_bool e) d h r.words; vars = r.vars }

members_up : (ni : ℕ) (out out' : List ℤ) (at n : ℕ) (ms : Members) → drop max_bools out' ≡ drop max_bools out → max_bools ≤ at → ReadsMembers ni out at n ms → ReadsMembers ni out' at n ms
members_up ni out out' at n ms d h r = record { words = has_up out out' at (encode_members ms) d h r.words; vars = r.vars; size = r.size }

-- ---- leaves

pub state_back : (k : Option Bool) → state_of (pos (state_num k)) ≡ k
unfolding state_of
state_back none = refl
state_back (some false) = refl
state_back (some true) = refl

-- a variable set
set_values : (out : List ℤ) (f : Fixed) (v : ℕ) (b : Bool) → Values out f → v < max_bools → v < length out → Values (set out v (pos (bit b))) (fix f v b)
set_values out f v b vs h l = record { cells = λ u k. cell u k (eqb u v) refl; others = λ u k. other u k (eqb u v) refl }
  where
    bit_num : (b : Bool) → bit b ≡ state_num (some b)
    bit_num true = refl
    bit_num false = refl

    cell : (u : ℕ) → u < max_bools → (t : Bool) → eqb u v ≡ t → get_or (set out v (pos (bit b))) u (pos 0) ≡ pos (state_num (cond (eqb u v) (some b) (f u)))
    cell u k true t = let e : u ≡ v = eqb-true u v t in rw (t, e, get_or-set_same out v (pos (bit b)) (pos 0) l) (ap pos (bit_num b))
    cell u k false t = rw (t, get_or-set_other out v u (pos (bit b)) (pos 0) (λ e. eqb-false u v t e)) (vs.cells u k)

    other : (u : ℕ) → max_bools ≤ u → (t : Bool) → eqb u v ≡ t → cond (eqb u v) (some b) (f u) ≡ none
    other u k true t = absurd (let e : u ≡ v = eqb-true u v t in omega arith)
    other u k false t = rw t (vs.others u k)

module _ (out : List ℤ) (f : Fixed) (vs : Values out f) (v : ℕ) (h : v < max_bools) (l : v < length out) where
  sets : (k s : Option Bool) → f v ≡ s → Propagates (prop_want k (Var v) f) out (set_words s v k out) (set_status s k)
  unfolding constant_prop_bool set_words set_status
  sets none s e = still out f vs
  sets (some true) none e = rw e (record { statuses = refl; after = fix f v true; values = set_values out f v true vs h l; same = λ c g w. updated_same true c _ g w; high = drop-set-lt max_bools out v _ h })
  sets (some false) none e = rw e (record { statuses = refl; after = fix f v false; values = set_values out f v false vs h l; same = λ c g w. updated_same true c _ g w; high = drop-set-lt max_bools out v _ h })
  sets (some true) (some true) e = rw e (agrees out f vs true)
  sets (some true) (some false) e = rw e (agrees out f vs false)
  sets (some false) (some true) e = rw e (agrees out f vs false)
  sets (some false) (some false) e = rw e (agrees out f vs true)

module _ (out : List ℤ) (at w : ℕ) (hw : get_or out at (pos 0) ≡ pos w) where
  code_is : (ni : ℕ) (e : BoolExpr) → Reads ni out at e → bool_code e ≡ w
  code_is ni e r = pos_eq _ _ _ (first_word max_bools ni out at e r.vars r.words) hw

  pub stands_inside : Stands out at → (at + 2 ≤ length out) × (max_bools ≤ length out)
  stands_inside s =
      let i = inside s.ints out at s.it s.reads in
      (omega (arith, i, reads_long _ out at s.it s.reads), omega (arith, i, s.low))

  pub stands_second : Stands out at → (14 ≤ w → w ≡ 18) → Plain out (at + 1)
  stands_second s l =
      let t : bool_code s.it ≡ w = code_is _ s.it s.reads in
      record { inside = omega (arith, (stands_inside s).0); value = second s.it; is = second_word out at s.it (λ a b. omega (arith, code_low max_bools _ s.it s.reads.vars)) (λ a. t ∙ l (omega arith)) s.reads.words }

  module _ (v : ℕ) (hv : get_or out (at + 1) (pos 0) ≡ pos v) where
    second_is : (ni : ℕ) (e : BoolExpr) → Reads ni out at e → (14 ≤ w → w ≡ 18) → second e ≡ v
    second_is ni e r l =
        let t : bool_code e ≡ w = code_is ni e r in
        pos_eq _ _ _ (second_word out at e (λ a b. omega (arith, code_low max_bools ni e r.vars)) (λ a. t ∙ l (omega arith)) r.words) hv

    bit_back : (b : Bool) → eqb (bit b) 1 ≡ b
    bit_back false = refl
    bit_back true = refl

    pub const_props : (want : Option Bool) (s : ℕ) → w ≡ 10 → s ≡ clash_status (eqb v 1) want → PropPost out at want out (at + 2) s
    unfolding second encode_bool constant_prop_bool clash_status
    const_props want s h hs ni f e vs r lo =
        const_inv e (code_is ni e r ∙ h) λ b q.
        let z : bit b ≡ v = rw q at (second_is ni e r (λ l. omega arith)) in
        let c : s ≡ clash_status b want = hs ∙ rw (← z, bit_back b) refl in
        rw q (record { nexts = refl; props = rw c (go b want) })
      where
        go : (b : Bool) (k : Option Bool) → Propagates (prop_want k (Const b) f) out out (clash_status b k)
        go b none = still out f vs
        go true (some true) = agrees out f vs true
        go true (some false) = agrees out f vs false
        go false (some true) = agrees out f vs false
        go false (some false) = agrees out f vs true

    leaf_var : (ni : ℕ) (e : BoolExpr) → Reads ni out at e → w < 12 → (w ≡ 10 → ⊥) → (e ≡ Var v) × (v < max_bools)
    unfolding second EveryOf
    leaf_var ni e r h n =
        let t = code_is ni e r in
        let m = code_low max_bools ni e r.vars in
        var_inv e (omega arith) λ i q.
        let z : i ≡ v = rw q at (second_is ni e r (λ l. omega arith)) in
        let u : i < max_bools = rw q at r.vars in
        (q ∙ ap Var z, omega arith)

    pub var_below : Stands out at → w < 12 → (w ≡ 10 → ⊥) → v < length out
    var_below s h n = omega (arith, (leaf_var _ s.it s.reads h n).1, (stands_inside s).1)

    pub var_props : (want : Option Bool) (out' : List ℤ) (s : ℕ) → Stands out at → w < 12 → (w ≡ 10 → ⊥) → s ≡ set_status (state_of (get_or out v (pos 0))) want → out' ≡ set_words (state_of (get_or out v (pos 0))) v want out → PropPost out at want out' (at + 2) s
    unfolding encode_bool
    var_props want out' s st h n hs ho ni f e vs r lo =
        let q = leaf_var ni e r h n in
        let c : state_of (get_or out v (pos 0)) ≡ f v = ap state_of (vs.cells v q.1) ∙ state_back (f v) in
        let p : Propagates (prop_want want (Var v) f) out (set_words (f v) v want out) (set_status (f v) want) = sets out f vs v q.1 (var_below st h n) want (f v) refl in
        let p' : Propagates (prop_want want (Var v) f) out out' s = rw (hs, ho, c) p in
        rw q.0 (record { nexts = refl; props = p' })

  -- ---- comparisons

  module _ (h18 : w ≡ 18) where
    pub left_int : Stands out at → SomeInt out (at + 2)
    left_int s = cmp_inv s.it (code_is _ s.it s.reads ∙ h18) λ o a b q. let g = reads_sides _ out at o a b (rw q at s.reads) in record { bools = max_bools; ints = s.ints; it = a; stands = record { words = g.0.words; vars = g.0.vars } }

    module _ (m : ℕ) (p : SkipPost out (at + 2) m) where
      pub right_int : Stands out at → SomeInt out m
      right_int s =
          cmp_inv s.it (code_is _ s.it s.reads ∙ h18) λ o a b q.
          let g = reads_sides _ out at o a b (rw q at s.reads) in
          let e : m ≡ at + 2 + length (encode_int a) = p max_bools s.ints a (record { words = g.0.words; vars = g.0.vars }) in
          record { bools = max_bools; ints = s.ints; it = b; stands = record { words = rw e g.1.words; vars = g.1.vars } }

      pub both_ints : (r : ℕ) → SkipPost out m r → ComparisonPost out at r
      unfolding encode_bool
      both_ints r p' ni e rd =
          cmp_inv e (code_is ni e rd ∙ h18) λ o a b q.
          let g = reads_sides ni out at o a b (rw q at rd) in
          let em : m ≡ at + 2 + length (encode_int a) = p max_bools ni a (record { words = g.0.words; vars = g.0.vars }) in
          let er : r ≡ m + length (encode_int b) = p' max_bools ni b (record { words = rw em g.1.words; vars = g.1.vars }) in
          rw q (omega (arith, length-append (encode_int a) (encode_int b)))

    pub cmp_props : (want : Option Bool) (next : ℕ) → ComparisonPost out at next → PropPost out at want out next 0
    unfolding constant_prop_bool
    cmp_props want next p ni f e vs r lo =
        let n : next ≡ at + length (encode_bool e) = p ni e r in
        cmp_inv e (code_is ni e r ∙ h18) λ o a b q.
        record { nexts = n; props = rw q (go want o a b) }
      where
        go : (k : Option Bool) (o : CmpOp) (a b : IntExpr) → Propagates (prop_want k (Cmp o a b) f) out out 0
        go none o a b = still out f vs
        go (some c) o a b = still out f vs

  -- ---- Not

  pub not_stands : Stands out at → w ≡ 14 → Stands out (at + 1)
  not_stands s h =
      not_inv s.it (code_is _ s.it s.reads ∙ h) λ x q.
      record { fixed = s.fixed; values = s.values; ints = s.ints; it = x; reads = reads_not _ out at x (rw q at s.reads); low = omega (arith, s.low) }

  pub not_props : (want k : Option Bool) (out' : List ℤ) (next s : ℕ) → w ≡ 14 → k ≡ flip want → PropPost out (at + 1) k out' next s → PropPost out at want out' next s
  unfolding encode_bool
  not_props want k out' next s h hk p ni f e vs r lo =
      not_inv e (code_is ni e r ∙ h) λ x q.
      let g = rw hk at (p ni f x vs (reads_not ni out at x (rw q at r)) (omega arith)) in
      rw q (record { nexts = g.nexts ∙ omega arith; props = as_status _ _ out out' s (want_not want x f) g.props })

  -- ---- And, Or

  module _ (l12 : 12 ≤ w) (l14 : w < 14) (v : ℕ) (hv : get_or out (at + 1) (pos 0) ≡ pos v) where
    settles : (b : Bool) → w ≡ 12 + bit b → eqb w 13 ≡ b
    settles false h = rw h refl
    settles true h = rw h refl

    the_list : {X : Type 0} (ni : ℕ) (e : BoolExpr) → Reads ni out at e → ((b : Bool) (ms : Members) → e ≡ list_of b ms → eqb w 13 ≡ b → ReadsMembers ni out (at + 2) v ms → X) → X
    unfolding second
    the_list ni e r go =
        let t = code_is ni e r in
        list_inv e (omega arith) (omega arith) λ b ms q tb.
        let s : count_members ms ≡ v = sym (second_list b ms) ∙ sym (ap second q) ∙ second_is v hv ni e r (λ l. absurd (omega arith)) in
        let g = reads_list ni out at b ms (rw q at r) in
        go b ms q (settles b (omega arith)) (record { words = g.words; vars = g.vars; size = sym s })
      where
        second_list : (b : Bool) (ms : Members) → second (list_of b ms) ≡ count_members ms
        second_list false ms = refl
        second_list true ms = refl

    pub list_stand : Stands out at → StandMembers out (at + 2) v
    list_stand s = the_list _ s.it s.reads λ b ms q sb g. record { fixed = s.fixed; values = s.values; ints = s.ints; them = ms; reads = g; low = omega (arith, s.low) }

    pub list_props : (want k : Option Bool) (out' : List ℤ) (next s : ℕ) → k ≡ member_want (eqb w 13) want → MembersPost out (at + 2) v k out' next s → PropPost out at want out' next s
    list_props want k out' next s hk p ni f e vs r lo =
        the_list ni e r λ b ms q sb g.
        let y = rw (hk, sb) at (p ni f ms vs g (omega arith)) in
        let n : next ≡ at + 2 + length (encode_members ms) = y.nexts in
        rw q (record { nexts = omega (arith, ap length (list_words b ms)); props = as_status _ _ out out' s (want_list want b ms f) y.props })

  -- ---- Xor, Iff, Imp

  module _ (l14 : 14 < w) (n18 : w ≡ 18 → ⊥) where
    the_binary : {X : Type 0} (ni : ℕ) (e : BoolExpr) → Reads ni out at e → ((y : Op) (a b : BoolExpr) → e ≡ expr_of y a b → w ≡ 15 + op_num y → Reads ni out (at + 1) a → Reads ni out (at + 1 + length (encode_bool a)) b → X) → X
    the_binary ni e r go =
        let t = code_is ni e r in
        binary_inv e (omega arith) (λ x. n18 (sym t ∙ x)) λ y a b q ty.
        let g = rw q at r in
        go y a b q (omega arith) (reads_left ni out at y a b g) (reads_right ni out at y a b g)

    pub left_stands : Stands out at → Stands out (at + 1)
    left_stands s = the_binary _ s.it s.reads λ y a b q ty ra rb. record { fixed = s.fixed; values = s.values; ints = s.ints; it = a; reads = ra; low = omega (arith, s.low) }

    module _ (want l : Option Bool) (hl : (o : Op) → w ≡ 15 + op_num o → l ≡ left_want o want) (mid : List ℤ) (next s : ℕ) (p : PropPost out (at + 1) l mid next s) where
      pub right_stands : Stands out at → Stands mid next × (at + 1 < next)
      right_stands d =
          the_binary _ d.it d.reads λ y a b q ty ra rb.
          let g = p d.ints d.fixed a d.values ra (omega (arith, d.low)) in
          let n : next ≡ at + 1 + length (encode_bool a) = g.nexts in
          (record { fixed = g.props.after; values = g.props.values; ints = d.ints; it = b; reads = rw n (reads_up _ out mid (at + 1 + length (encode_bool a)) b g.props.high (omega (arith, d.low)) rb); low = omega (arith, d.low) }, omega (arith, reads_long _ out (at + 1) a ra))

      pub binary_props : (m : Option Bool) (out' : List ℤ) (next' s' s'' : ℕ) → ((o : Op) → w ≡ 15 + op_num o → m ≡ right_want o want) → PropPost mid next m out' next' s' → s'' ≡ worst_num s s' → PropPost out at want out' next' s''
      binary_props m out' next' s' s'' hm p' hs ni f e vs r lo =
          the_binary ni e r λ y a b q ty ra rb.
          let g = rw (hl y ty) at (p ni f a vs ra (omega arith)) in
          let n : next ≡ at + 1 + length (encode_bool a) = g.nexts in
          let g' = rw (hm y ty) at (p' ni g.props.after b g.props.values (rw n (reads_up ni out mid (at + 1 + length (encode_bool a)) b g.props.high (omega arith) rb)) (omega arith)) in
          let n' : next' ≡ next + length (encode_bool b) = g'.nexts in
          rw q (record {
            nexts = omega (arith, ap length (binary_words y a b), length-append (encode_bool a) (encode_bool b));
            props = as_status _ _ out out' s'' (want_binary want y a b f) (then_props out mid out' s s' (prop_want (right_want y want) b) (prop_want (left_want y want) a f) g.props s'' g'.props hs);
          })

-- ---- members

pub members_none : (out : List ℤ) (at n : ℕ) (want : Option Bool) → n ≡ 0 → MembersPost out at n want out at 0
unfolding constant_prop_members encode_members
members_none out at n none h ni f mnil vs r lo = record { nexts = omega arith; props = still out f vs }
members_none out at n (some b) h ni f mnil vs r lo = record { nexts = omega arith; props = still out f vs }
members_none out at n want h ni f (more e ms) vs r lo = absurd (let s : n ≡ suc (count_members ms) = r.size in omega arith)

module _ (out : List ℤ) (at n : ℕ) (want : Option Bool) (z : n ≡ 0 → ⊥) where
  more_inv : {X : Type 0} (ms : Members) → n ≡ count_members ms → ((e : BoolExpr) (ns : Members) → ms ≡ more e ns → X) → X
  more_inv mnil h go = absurd (z h)
  more_inv (more e ns) h go = go e ns refl

  pub first_stands : StandMembers out at n → Stands out at
  first_stands s = more_inv s.them s.reads.size λ e ns q. record { fixed = s.fixed; values = s.values; ints = s.ints; it = e; reads = reads_first _ out at n e ns (rw q at s.reads); low = s.low }

  module _ (mid : List ℤ) (next s : ℕ) (p : PropPost out at want mid next s) where
    pub rest_stand : StandMembers out at n → StandMembers mid next (n - 1) × (at < next)
    rest_stand d =
        more_inv d.them d.reads.size λ e ns q.
        let rd = rw q at d.reads in
        let re = reads_first _ out at n e ns rd in
        let g = p d.ints d.fixed e d.values re d.low in
        let nx : next ≡ at + length (encode_bool e) = g.nexts in
        (record { fixed = g.props.after; values = g.props.values; ints = d.ints; them = ns; reads = rw nx (members_up _ out mid (at + length (encode_bool e)) (n - 1) ns g.props.high (omega (arith, d.low)) (reads_rest _ out at n e ns rd)); low = omega (arith, d.low) }, omega (arith, reads_long _ out at e re))

    pub members_more : (out' : List ℤ) (next' s' : ℕ) → MembersPost mid next (n - 1) want out' next' s' → MembersPost out at n want out' next' (worst_num s s')
    unfolding encode_members
    members_more out' next' s' p' ni f ms vs r lo =
        more_inv ms r.size λ e ns q.
        let rd = rw q at r in
        let re = reads_first ni out at n e ns rd in
        let g = p ni f e vs re lo in
        let nx : next ≡ at + length (encode_bool e) = g.nexts in
        let g' = p' ni g.props.after ns g.props.values (rw nx (members_up ni out mid (at + length (encode_bool e)) (n - 1) ns g.props.high (omega arith) (reads_rest ni out at n e ns rd))) (omega arith) in
        let n' : next' ≡ next + length (encode_members ns) = g'.nexts in
        rw q (record {
          nexts = omega (arith, length-append (encode_bool e) (encode_members ns));
          props = as_status _ _ out out' (worst_num s s') (want_more want e ns f) (then_props out mid out' s s' (members_want want ns) (prop_want want e f) g.props (worst_num s s') g'.props refl);
        })

pub binary_low : (w : ℕ) → (w ≡ 14 → ⊥) → 14 ≤ w → 14 < w
binary_low w a b = omega arith

-- ---- the loop's status

worst_max : (a b : ℕ) → worst_num a b ≡ max a b
worst_max a b = go (ltb a b) refl
  where
    go : (c : Bool) → ltb a b ≡ c → cond c b a ≡ max a b
    go true h = let l : a < b = ltb-true a b h in omega arith
    go false h = let l : b ≤ a = ltb-false a b h in omega arith

pub worst_assoc : (a b c : ℕ) → worst_num a (worst_num b c) ≡ worst_num (worst_num a b) c
worst_assoc a b c = rw (worst_max b c, worst_max a (max b c), worst_max a b, worst_max (max a b) c) (omega arith)

pub worst_zero : (s : ℕ) → worst_num 0 s ≡ s
worst_zero s = worst_max 0 s ∙ omega arith

pub worst_none : (t : ℕ) → worst_num t 0 ≡ t
worst_none t = worst_max t 0 ∙ omega arith

module _ (out : List ℤ) (at n : ℕ) (want : Option Bool) (out' : List ℤ) (next : ℕ) where
  pub status_start : (s : ℕ) → MembersPost out at n want out' next s → MembersPost out at n want out' next (worst_num 0 s)
  status_start s p = subst (MembersPost out at n want out' next) (sym (worst_zero s)) p

  pub status_next : (t a s t' : ℕ) → t' ≡ worst_num t a → MembersPost out at n want out' next (worst_num t (worst_num a s)) → MembersPost out at n want out' next (worst_num t' s)
  status_next t a s t' e p = subst (MembersPost out at n want out' next) (worst_assoc t a s ∙ ap (λ x. worst_num x s) (sym e)) p

  pub status_end : (t : ℕ) → MembersPost out at n want out' next (worst_num t 0) → MembersPost out at n want out' next t
  status_end t p = subst (MembersPost out at n want out' next) (worst_none t) p

pub stands_first : (out : List ℤ) (at : ℕ) → Stands out at → Plain out at
stands_first out at s = record { inside = omega (arith, inside s.ints out at s.it s.reads, reads_long _ out at s.it s.reads); value = bool_code s.it; is = first_word max_bools _ out at s.it s.reads.vars s.reads.words }
