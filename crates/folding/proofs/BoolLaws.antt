-- What folding of Boolean expressions asks and gives at each step, over variables. Assumes nothing.
use Prim.Native.Nat.{ℕ, zero, suc, ◌+◌, ◌-◌, ◌≤◌, ◌<◌}
use mathlib.Core.Path.{◌≡◌, refl, sym, ap, ◌∙◌, subst}
use mathlib.Core.Bool.{Bool, true, false, ◌||◌, cond}
use mathlib.Core.Option.{Option, none, some}
use mathlib.Core.List.{List, [], ◌∷◌, ◌++◌, append-nil}
use native.Mathlib.Omega.{arith}
use lib.Dec.{eqb}
use lib.IntN.{ℤ, pos}
use lib.ListN.{length, take, drop, get_or, length-append}
use lib.Seq.{slice, get_or-take}
use Rattle.laws.specs.Slices.{Has, has_fits, has_front, has_back, has_word, has_rest, Pushed, pushed_below, pushed_slice, pushed_then, pushed_over, pushed_none, Stored, drop_up}
use Rattle.laws.specs.Ints.{pos_eq}
use Rattle.syntax.specs.Words.{max_bools}
use Rattle.syntax.specs.Syntax.{CmpOp, encode_op, IntExpr, BoolExpr, Const, Var, NVar, And, Or, Not, Xor, Iff, Imp, Cmp, Members, mnil, more, count_members, encode_int, encode_bool, encode_members}
use Rattle.syntax.specs.Written.{EveryOf, None}
use Rattle.syntax.specs.Codes.{bool_code}
use Rattle.fold.specs.Fold.{is_const, Op, op_xor, op_iff, op_imp, expr_of, action, act, fold_binary, is_value, has_const, keep_member, kept, fold_not, not_of, fold_var, constant_folding_int, constant_folding_bool, constant_folding_members}
use Rattle.fold.specs.Table.{op_num, bit}
use Rattle.fold.proofs.TableLaws.{op_small}
use Rattle.fold.proofs.Forms.{list_of, fold_list, list_folding, binary_folding, list_words, binary_words, bit_word, op_word, op_word_is, Declared, declared_list, declared_binary, bool_long, members_long}
use Rattle.fold.proofs.Kept.{fold_int_size, fold_size, fold_members_size, fold_every, kept_size, fold_list_size, not_size, binary_size}
use Rattle.domains.specs.Declared.{Plain}
use Rattle.folding.specs.Known.{is_open}
use Rattle.folding.specs.Steps.{state_of, fixed_of, fixed_in, same_fixed, not_step, not_state, list_step, list_state, binary_step, binary_state, ReadsInt, ReadyInt, IntPost, Reads, ReadsMembers, Ready, ReadyMembers, FoldPost, MembersPost, not_words, not_state_is, fold_list_words, fold_list_state, act_words, fold_binary_state, count_one, kept_fewer, members_count}

-- ---- the form, from the first word

module _ {X : Type 0} where
  pub const_inv : (e : BoolExpr) → bool_code e ≡ 10 → ((b : Bool) → e ≡ Const b → X) → X
  const_inv (Const b) h go = go b refl
  const_inv (Var v) h go = absurd (omega arith)
  const_inv (NVar n) h go = absurd (omega arith)
  const_inv (And ms) h go = absurd (omega arith)
  const_inv (Or ms) h go = absurd (omega arith)
  const_inv (Not e) h go = absurd (omega arith)
  const_inv (Xor a b) h go = absurd (omega arith)
  const_inv (Iff a b) h go = absurd (omega arith)
  const_inv (Imp a b) h go = absurd (omega arith)
  const_inv (Cmp o a b) h go = absurd (omega arith)

  pub var_inv : (e : BoolExpr) → bool_code e ≡ 11 → ((v : ℕ) → e ≡ Var v → X) → X
  var_inv (Const b) h go = absurd (omega arith)
  var_inv (Var v) h go = go v refl
  var_inv (NVar n) h go = absurd (omega arith)
  var_inv (And ms) h go = absurd (omega arith)
  var_inv (Or ms) h go = absurd (omega arith)
  var_inv (Not e) h go = absurd (omega arith)
  var_inv (Xor a b) h go = absurd (omega arith)
  var_inv (Iff a b) h go = absurd (omega arith)
  var_inv (Imp a b) h go = absurd (omega arith)
  var_inv (Cmp o a b) h go = absurd (omega arith)

  pub cmp_inv : (e : BoolExpr) → bool_code e ≡ 18 → ((o : CmpOp) (a b : IntExpr) → e ≡ Cmp o a b → X) → X
  cmp_inv (Const b) h go = absurd (omega arith)
  cmp_inv (Var v) h go = absurd (omega arith)
  cmp_inv (NVar n) h go = absurd (omega arith)
  cmp_inv (And ms) h go = absurd (omega arith)
  cmp_inv (Or ms) h go = absurd (omega arith)
  cmp_inv (Not e) h go = absurd (omega arith)
  cmp_inv (Xor a b) h go = absurd (omega arith)
  cmp_inv (Iff a b) h go = absurd (omega arith)
  cmp_inv (Imp a b) h go = absurd (omega arith)
  cmp_inv (Cmp o a b) h go = go o a b refl

  pub not_inv : (e : BoolExpr) → bool_code e ≡ 14 → ((x : BoolExpr) → e ≡ Not x → X) → X
  not_inv (Const b) h go = absurd (omega arith)
  not_inv (Var v) h go = absurd (omega arith)
  not_inv (NVar n) h go = absurd (omega arith)
  not_inv (And ms) h go = absurd (omega arith)
  not_inv (Or ms) h go = absurd (omega arith)
  not_inv (Not e) h go = go e refl
  not_inv (Xor a b) h go = absurd (omega arith)
  not_inv (Iff a b) h go = absurd (omega arith)
  not_inv (Imp a b) h go = absurd (omega arith)
  not_inv (Cmp o a b) h go = absurd (omega arith)

  pub list_inv : (e : BoolExpr) → 11 < bool_code e → bool_code e < 14 → ((b : Bool) (ms : Members) → e ≡ list_of b ms → bool_code e ≡ 12 + bit b → X) → X
  list_inv (Const b) h k go = absurd (omega arith)
  list_inv (Var v) h k go = absurd (omega arith)
  list_inv (NVar n) h k go = absurd (omega arith)
  list_inv (And ms) h k go = go false ms refl refl
  list_inv (Or ms) h k go = go true ms refl refl
  list_inv (Not e) h k go = absurd (omega arith)
  list_inv (Xor a b) h k go = absurd (omega arith)
  list_inv (Iff a b) h k go = absurd (omega arith)
  list_inv (Imp a b) h k go = absurd (omega arith)
  list_inv (Cmp o a b) h k go = absurd (omega arith)

  pub binary_inv : (e : BoolExpr) → 14 < bool_code e → (bool_code e ≡ 18 → ⊥) → ((o : Op) (a b : BoolExpr) → e ≡ expr_of o a b → bool_code e ≡ 15 + op_num o → X) → X
  binary_inv (Const b) h k go = absurd (omega arith)
  binary_inv (Var v) h k go = absurd (omega arith)
  binary_inv (NVar n) h k go = absurd (omega arith)
  binary_inv (And ms) h k go = absurd (omega arith)
  binary_inv (Or ms) h k go = absurd (omega arith)
  binary_inv (Not e) h k go = absurd (omega arith)
  binary_inv (Xor a b) h k go = go op_xor a b refl refl
  binary_inv (Iff a b) h k go = go op_iff a b refl refl
  binary_inv (Imp a b) h k go = go op_imp a b refl refl
  binary_inv (Cmp o a b) h k go = absurd (k refl)

-- ---- the first two words

module _ (nb ni : ℕ) (ws : List ℤ) (at : ℕ) where
  pub first_word : (e : BoolExpr) → Declared nb ni e → Has ws at (encode_bool e) → get_or ws at (pos 0) ≡ pos (bool_code e)
  unfolding encode_bool EveryOf
  first_word (Const b) v h = has_word ws at _ _ (pos 0) h
  first_word (Var i) v h = has_word ws at _ _ (pos 0) h
  first_word (NVar n) v h = absurd v
  first_word (And ms) v h = has_word ws at _ _ (pos 0) h
  first_word (Or ms) v h = has_word ws at _ _ (pos 0) h
  first_word (Not e) v h = has_word ws at _ _ (pos 0) h
  first_word (Xor a b) v h = has_word ws at _ _ (pos 0) h
  first_word (Iff a b) v h = has_word ws at _ _ (pos 0) h
  first_word (Imp a b) v h = has_word ws at _ _ (pos 0) h
  first_word (Cmp o a b) v h = has_word ws at _ _ (pos 0) h

-- the second word where it is an operand
unfoldable pub second : BoolExpr → ℕ
second (Const b) = bit b
second (Var v) = v
second (NVar n) = 0
second (And ms) = count_members ms
second (Or ms) = count_members ms
second (Not e) = 0
second (Xor a b) = 0
second (Iff a b) = 0
second (Imp a b) = 0
second (Cmp o a b) = op_word o

pub second_word : (ws : List ℤ) (at : ℕ) (e : BoolExpr) → (bool_code e < 14 → bool_code e ≡ 0 → ⊥) → (14 ≤ bool_code e → bool_code e ≡ 18) → Has ws at (encode_bool e) → get_or ws (at + 1) (pos 0) ≡ pos (second e)
unfolding encode_bool second
second_word ws at (Const b) k l h = has_word ws (at + 1) _ _ (pos 0) (has_rest ws at _ _ h) ∙ bit_word b
second_word ws at (Var v) k l h = has_word ws (at + 1) _ _ (pos 0) (has_rest ws at _ _ h)
second_word ws at (NVar n) k l h = absurd (k (omega arith) refl)
second_word ws at (And ms) k l h = has_word ws (at + 1) _ _ (pos 0) (has_rest ws at _ _ h)
second_word ws at (Or ms) k l h = has_word ws (at + 1) _ _ (pos 0) (has_rest ws at _ _ h)
second_word ws at (Not e) k l h = absurd (let z = l (omega arith) in omega arith)
second_word ws at (Xor a b) k l h = absurd (let z = l (omega arith) in omega arith)
second_word ws at (Iff a b) k l h = absurd (let z = l (omega arith) in omega arith)
second_word ws at (Imp a b) k l h = absurd (let z = l (omega arith) in omega arith)
second_word ws at (Cmp o a b) k l h = has_word ws (at + 1) _ _ (pos 0) (has_rest ws at _ _ h) ∙ op_word_is o

pub code_low : (nb ni : ℕ) (e : BoolExpr) → Declared nb ni e → 10 ≤ bool_code e
unfolding EveryOf
code_low nb ni (Const b) h = omega arith
code_low nb ni (Var i) h = omega arith
code_low nb ni (NVar n) h = absurd h
code_low nb ni (And ms) h = omega arith
code_low nb ni (Or ms) h = omega arith
code_low nb ni (Not e) h = omega arith
code_low nb ni (Xor a b) h = omega arith
code_low nb ni (Iff a b) h = omega arith
code_low nb ni (Imp a b) h = omega arith
code_low nb ni (Cmp o a b) h = omega arith

-- ---- the parts stand where they are looked for

module _ (ni : ℕ) (ws : List ℤ) (at : ℕ) where
  pub inside : (e : BoolExpr) → Reads ni ws at e → at + length (encode_bool e) ≤ length ws
  inside e r = has_fits ws at (encode_bool e) r.words (omega (arith, bool_long max_bools ni e r.vars))

  pub reads_long : (e : BoolExpr) → Reads ni ws at e → 2 ≤ length (encode_bool e)
  reads_long e r = bool_long max_bools ni e r.vars

  pub reads_not : (x : BoolExpr) → Reads ni ws at (Not x) → Reads ni ws (at + 1) x
  unfolding encode_bool EveryOf
  reads_not x r = record { words = has_rest ws at _ _ r.words; vars = r.vars }

  pub reads_list : (b : Bool) (ms : Members) → Reads ni ws at (list_of b ms) → ReadsMembers ni ws (at + 2) (count_members ms) ms
  reads_list b ms r = record { words = has_back ws at (pos (12 + bit b) ∷ pos (count_members ms) ∷ []) (encode_members ms) (rw (list_words b ms) at r.words); vars = declared_list max_bools ni b ms r.vars; size = refl }

  sides : (o : Op) (a b : BoolExpr) → Reads ni ws at (expr_of o a b) → Has ws (at + 1) (encode_bool a ++ encode_bool b)
  sides o a b r = has_rest ws at (pos (15 + op_num o)) (encode_bool a ++ encode_bool b) (rw (binary_words o a b) at r.words)

  pub reads_left : (o : Op) (a b : BoolExpr) → Reads ni ws at (expr_of o a b) → Reads ni ws (at + 1) a
  reads_left o a b r = record { words = has_front ws (at + 1) (encode_bool a) (encode_bool b) (sides o a b r); vars = (declared_binary max_bools ni o a b r.vars).0 }

  pub reads_right : (o : Op) (a b : BoolExpr) → Reads ni ws at (expr_of o a b) → Reads ni ws (at + 1 + length (encode_bool a)) b
  reads_right o a b r = record { words = has_back ws (at + 1) (encode_bool a) (encode_bool b) (sides o a b r); vars = (declared_binary max_bools ni o a b r.vars).1 }

  pub reads_first : (n : ℕ) (e : BoolExpr) (ms : Members) → ReadsMembers ni ws at n (more e ms) → Reads ni ws at e
  unfolding encode_members EveryOf
  reads_first n e ms r = record { words = has_front ws at (encode_bool e) (encode_members ms) r.words; vars = r.vars.0 }

  pub reads_rest : (n : ℕ) (e : BoolExpr) (ms : Members) → ReadsMembers ni ws at n (more e ms) → ReadsMembers ni ws (at + length (encode_bool e)) (n - 1) ms
  unfolding encode_members EveryOf
  reads_rest n e ms r = record { words = has_back ws at (encode_bool e) (encode_members ms) r.words; vars = r.vars.1; size = let z : n ≡ suc (count_members ms) = r.size in omega arith }

  pub reads_sides : (o : CmpOp) (a b : IntExpr) → Reads ni ws at (Cmp o a b) → ReadsInt ni ws (at + 2) a × ReadsInt ni ws (at + 2 + length (encode_int a)) b
  unfolding encode_bool EveryOf
  reads_sides o a b r =
      let h = has_back ws at (pos 18 ∷ encode_op o ∷ []) (encode_int a ++ encode_int b) r.words in
      (record { words = has_front ws (at + 2) (encode_int a) (encode_int b) h; vars = r.vars.0 }, record { words = has_back ws (at + 2) (encode_int a) (encode_int b) h; vars = r.vars.1 })

module _ (ws : List ℤ) (d at : ℕ) (out : List ℤ) (o : ℕ) (r : Ready ws d at out o) where
  pub ready_inside : (at + 2 ≤ length ws) × (o + 2 ≤ length out)
  ready_inside = (omega (arith, inside (length r.ds) ws at r.it r.reads, reads_long _ ws at r.it r.reads), omega (arith, r.room, reads_long _ ws at r.it r.reads))

  pub ready_first : Plain ws at
  ready_first = record { inside = omega (arith, ready_inside.0); value = bool_code r.it; is = first_word max_bools _ ws at r.it r.reads.vars r.reads.words }

get_d_any : (l : List ℤ) (v : ℕ) (x y : ℤ) → v < length l → get_or l v x ≡ get_or l v y
get_d_any [] v x y h = absurd (omega arith)
get_d_any (z ∷ l) zero x y h = refl
get_d_any (z ∷ l) (suc v) x y h = get_d_any l v x y (omega arith)

pub fixed_at : (out : List ℤ) (v : ℕ) → v < max_bools → max_bools ≤ length out → fixed_in out v ≡ state_of (get_or out v (pos 0))
unfolding fixed_in fixed_of
fixed_at out v h l = ap state_of (get_or-take max_bools out v (pos 2) h ∙ get_d_any out v (pos 2) (pos 0) (omega arith))

-- nothing above the room is touched, by the parts and then by the closing step
above_both : (n : ℕ) (out mid out' : List ℤ) (a b : ℕ) → drop a mid ≡ drop a out → drop b out' ≡ drop b mid → a ≤ n → b ≤ n → drop n out' ≡ drop n out
above_both n out mid out' a b p q h k = drop_up b n out' mid q k ∙ drop_up a n mid out p h

module _ (ws : List ℤ) (d at : ℕ) (out : List ℤ) (o w : ℕ) (hw : get_or ws at (pos 0) ≡ pos w) where
  code_is : (ni : ℕ) (e : BoolExpr) → Reads ni ws at e → bool_code e ≡ w
  code_is ni e r = pos_eq _ _ _ (first_word max_bools ni ws at e r.vars r.words) hw

  low_tag : Ready ws d at out o → 10 ≤ w
  low_tag r = omega (arith, code_low max_bools _ r.it r.reads.vars, code_is _ r.it r.reads)

  pub ready_second : Ready ws d at out o → (14 ≤ w → w ≡ 18) → Plain ws (at + 1)
  ready_second r l =
      let t : bool_code r.it ≡ w = code_is _ r.it r.reads in
      record { inside = omega (arith, (ready_inside ws d at out o r).0); value = second r.it; is = second_word ws at r.it (λ a b. omega (arith, code_low max_bools _ r.it r.reads.vars)) (λ a. t ∙ l (omega arith)) r.reads.words }

  two_above : (out' : List ℤ) (end : ℕ) (us : List ℤ) → length us ≡ 2 → Stored out o us out' end → drop (o + 2) out' ≡ drop (o + 2) out
  two_above out' end us l s = let e : end ≡ o + length us = s.pushed.end in let f : o + 2 ≡ end = omega arith in ap (λ n. drop n out') f ∙ s.above ∙ ap (λ n. drop n out) (sym f)

  var_length : (s : Option Bool) (v : ℕ) → length (encode_bool (fold_var s v)) ≡ 2
  unfolding encode_bool
  var_length none v = refl
  var_length (some b) v = refl

  bit_back : (b : Bool) → some b ≡ some (eqb (bit b) 1)
  bit_back false = refl
  bit_back true = refl

  -- ---- leaves

  module _ (v : ℕ) (hv : get_or ws (at + 1) (pos 0) ≡ pos v) where
    second_is : (ni : ℕ) (e : BoolExpr) → Reads ni ws at e → (14 ≤ w → w ≡ 18) → second e ≡ v
    second_is ni e r l =
        let t : bool_code e ≡ w = code_is ni e r in
        pos_eq _ _ _ (second_word ws at e (λ a b. omega (arith, code_low max_bools ni e r.vars)) (λ a. t ∙ l (omega arith)) r.words) hv

    pub const_folds : (out' : List ℤ) (end : ℕ) → w ≡ 10 → Stored out o (pos 10 ∷ pos v ∷ []) out' end → FoldPost ws d at out o out' (at + 2) end (some (eqb v 1))
    unfolding encode_bool second constant_folding_bool
    const_folds out' end h s ds e hd r =
        const_inv e (code_is _ e r ∙ h) λ b q.
        let z : bit b ≡ v = rw q at (second_is _ e r (λ l. omega arith)) in
        rw q (record { nexts = refl; states = rw (← z) (sym (bit_back b)); pushed = rw (bit_word b, z) s.pushed; above = two_above out' end _ refl s })

    pub var_below : Ready ws d at out o → w < 12 → (w ≡ 10 → ⊥) → v < max_bools
    unfolding second EveryOf
    var_below r h n =
        let t = code_is _ r.it r.reads in
        let m = low_tag r in
        var_inv r.it (omega arith) λ i q.
        let z : i ≡ v = rw q at (second_is _ r.it r.reads (λ l. omega arith)) in
        let u : i < max_bools = rw q at r.reads.vars in
        omega arith

    pub var_folds : (s : Option Bool) (out' : List ℤ) (end : ℕ) → Ready ws d at out o → w < 12 → (w ≡ 10 → ⊥) → s ≡ state_of (get_or out v (pos 0)) → Stored out o (encode_bool (fold_var s v)) out' end → FoldPost ws d at out o out' (at + 2) end s
    unfolding encode_bool second constant_folding_bool
    var_folds s out' end rd h n hs st ds e hd r =
        let t = code_is _ e r in
        let m = low_tag rd in
        var_inv e (omega arith) λ i q.
        let z : i ≡ v = rw q at (second_is _ e r (λ l. omega arith)) in
        let f : s ≡ fixed_in out v = hs ∙ sym (fixed_at out v (var_below rd h n) (omega (arith, rd.low, (ready_inside ws d at out o rd).1))) in
        rw (q, z) (record { nexts = refl; states = f ∙ go (fixed_in out v); pushed = rw (← f) st.pushed; above = two_above out' end _ (var_length s v) st })
      where
        go : (k : Option Bool) → k ≡ is_const (fold_var k v)
        go none = refl
        go (some b) = refl

  -- ---- comparisons

  module _ (h18 : w ≡ 18) where
    pub left_side : (v m : ℕ) (mid : List ℤ) → Ready ws d at out o → length mid ≡ length out → Stored out o (pos 18 ∷ pos v ∷ []) mid m → ReadyInt ws d (at + 2) mid m
    unfolding encode_bool
    left_side v m mid r l s =
        cmp_inv r.it (code_is _ r.it r.reads ∙ h18) λ p a b q.
        let z : o + suc (suc (length (encode_int a ++ encode_int b))) ≤ length out = rw q at r.room in
        let me : m ≡ o + 2 = s.pushed.end in
        let lo : max_bools ≤ o = r.low in
        record { ds = r.ds; domains = r.domains; it = a; reads = (reads_sides _ ws at p a b (rw q at r.reads)).0; low = omega arith; room = omega (arith, length-append (encode_int a) (encode_int b)) }

    module _ (v : ℕ) (hv : get_or ws (at + 1) (pos 0) ≡ pos v) (m : ℕ) (mid : List ℤ) (s : Stored out o (pos 18 ∷ pos v ∷ []) mid m) (mid' : List ℤ) (next end : ℕ) (p : IntPost ws d (at + 2) mid m mid' next end) where
      pub right_side : Ready ws d at out o → length mid ≡ length out → length mid' ≡ length mid → ReadyInt ws d next mid' end × (at + 1 < next)
      unfolding encode_bool
      right_side r l l' =
          cmp_inv r.it (code_is _ r.it r.reads ∙ h18) λ x a b q.
          let z : o + suc (suc (length (encode_int a ++ encode_int b))) ≤ length out = rw q at r.room in
          let me : m ≡ o + 2 = s.pushed.end in
          let rs = reads_sides _ ws at x a b (rw q at r.reads) in
          let y = p r.ds a r.domains rs.0 in
          let nx : next ≡ at + 2 + length (encode_int a) = y.nexts in
          let en : end ≡ m + length (encode_int (constant_folding_int r.ds (fixed_in mid) a)) = y.pushed.end in
          let lo : max_bools ≤ o = r.low in
          (record { ds = r.ds; domains = r.domains; it = b; reads = rw nx rs.1; low = omega arith; room = omega (arith, length-append (encode_int a) (encode_int b), fold_int_size r.ds (fixed_in mid) a) }, omega arith)

      pub cmp_folds : (out' : List ℤ) (next' end' : ℕ) → Ready ws d at out o → length mid ≡ length out → length mid' ≡ length mid → IntPost ws d next mid' end out' next' end' → FoldPost ws d at out o out' next' end' none
      unfolding encode_bool second constant_folding_bool
      cmp_folds out' next' end' rd l l' p' ds e hd r =
          cmp_inv e (code_is _ e r ∙ h18) λ x a b q.
          let rs = reads_sides _ ws at x a b (rw q at r) in
          let ov : op_word x ≡ v = rw q at (second_is v hv _ e r (λ l. h18)) in
          let y = p ds a hd rs.0 in
          let nx : next ≡ at + 2 + length (encode_int a) = y.nexts in
          let y' = p' ds b hd (rw nx rs.1) in
          let nx' : next' ≡ next + length (encode_int b) = y'.nexts in
          let me : m ≡ o + 2 = s.pushed.end in
          let lo : max_bools ≤ o = rd.low in
          let ro : o ≤ length out = omega (arith, rd.room) in
          let f1 : fixed_in mid ≡ fixed_in out = same_fixed out mid (pushed_below out o _ mid m max_bools s.pushed lo ro) in
          let A = constant_folding_int ds (fixed_in out) a in
          let B = constant_folding_int ds (fixed_in out) b in
          let pa : Pushed mid m (encode_int A) mid' end = rw f1 at y.pushed in
          let en : end ≡ m + length (encode_int A) = pa.end in
          let rm : m ≤ length mid = omega (arith, (ready_inside ws d at out o rd).1) in
          let f2 : fixed_in mid' ≡ fixed_in out = same_fixed mid mid' (pushed_below mid m (encode_int A) mid' end max_bools pa (omega arith) rm) ∙ f1 in
          let pb : Pushed mid' end (encode_int B) out' end' = rw f2 at y'.pushed in
          let eo : encode_op x ≡ pos v = op_word_is x ∙ ap pos ov in
          rw q (record {
            nexts = omega (arith, length-append (encode_int a) (encode_int b));
            states = refl;
            pushed = rw eo (pushed_then out o (pos 18 ∷ pos v ∷ []) mid m _ out' end' s.pushed (pushed_then mid m (encode_int A) mid' end (encode_int B) out' end' pa pb));
            above = drop_up (end + length (encode_int b)) (o + length (encode_bool (Cmp x a b))) out' mid' y'.above (omega (arith, length-append (encode_int a) (encode_int b), fold_int_size ds (fixed_in out) a))
                ∙ drop_up (m + length (encode_int a)) (o + length (encode_bool (Cmp x a b))) mid' mid y.above (omega (arith, length-append (encode_int a) (encode_int b)))
                ∙ drop_up m (o + length (encode_bool (Cmp x a b))) mid out s.above (omega arith);
          })

  -- ---- Not

  pub not_ready : Ready ws d at out o → w ≡ 14 → Ready ws d (at + 1) out (o + 1)
  unfolding encode_bool
  not_ready r h =
      not_inv r.it (code_is _ r.it r.reads ∙ h) λ x q.
      let z : o + suc (length (encode_bool x)) ≤ length out = rw q at r.room in
      let lo : max_bools ≤ o = r.low in
      record { ds = r.ds; domains = r.domains; it = x; reads = reads_not _ ws at x (rw q at r.reads); low = omega arith; room = omega arith }

  module _ (mid : List ℤ) (next end : ℕ) (state : Option Bool) (p : FoldPost ws d (at + 1) out (o + 1) mid next end state) where
    pub not_closes : Ready ws d at out o → w ≡ 14 → length mid ≡ length out → (o + 2 ≤ end) × (end ≤ length mid)
    unfolding encode_bool
    not_closes r h l =
        not_inv r.it (code_is _ r.it r.reads ∙ h) λ x q.
        let rd = reads_not _ ws at x (rw q at r.reads) in
        let f = p r.ds x r.domains rd in
        let y = constant_folding_bool r.ds (fixed_in out) x in
        let e : end ≡ o + 1 + length (encode_bool y) = f.pushed.end in
        let z : o + suc (length (encode_bool x)) ≤ length out = rw q at r.room in
        (omega (arith, bool_long max_bools _ y (fold_every None (λ v. v < max_bools) (λ v. v < length r.ds) r.ds (fixed_in out) x rd.vars)), omega (arith, fold_size r.ds (fixed_in out) x))

    pub not_folds : (out' : List ℤ) (next' end' : ℕ) (state' : Option Bool) → Ready ws d at out o → w ≡ 14 → next' ≡ next → state' ≡ not_state state → Stored mid o (not_step state (slice (o + 1) end mid)) out' end'
        → FoldPost ws d at out o out' next' end' state'
    unfolding encode_bool constant_folding_bool fold_not
    not_folds out' next' end' state' rd h hn hs st ds e hd r =
        not_inv e (code_is _ e r ∙ h) λ x q.
        let rx = reads_not _ ws at x (rw q at r) in
        let f = p ds x hd rx in
        let y = constant_folding_bool ds (fixed_in out) x in
        let l : o + 1 ≤ length out = omega (arith, (ready_inside ws d at out o rd).1) in
        let c : slice (o + 1) end mid ≡ encode_bool y = pushed_slice out (o + 1) (encode_bool y) mid end f.pushed l in
        let ww : Pushed mid o (encode_bool (not_of (is_const y) y)) out' end' = rw (← not_words (is_const y) y, ← c, ← f.states) st.pushed in
        rw q (record {
          nexts = hn ∙ f.nexts ∙ omega arith;
          states = hs ∙ ap not_state f.states ∙ not_state_is (is_const y) y;
          pushed = pushed_over out (o + 1) (encode_bool y) mid end o _ out' end' f.pushed (omega arith) l ww;
          above = above_both (o + suc (length (encode_bool x))) out mid out' (o + 1 + length (encode_bool x)) end' f.above st.above (omega arith)
              (let k : end' ≡ o + length (encode_bool (not_of (is_const y) y)) = ww.end in omega (arith, not_size y, fold_size ds (fixed_in out) x));
        })

  -- ---- And, Or

  module _ (l12 : 12 ≤ w) (l14 : w < 14) (v : ℕ) (hv : get_or ws (at + 1) (pos 0) ≡ pos v) where
    settles : (b : Bool) → w ≡ 12 + bit b → eqb w 13 ≡ b
    settles false h = rw h refl
    settles true h = rw h refl

    -- the list, the constant that settles it, and its members
    the_list : {X : Type 0} (ni : ℕ) (e : BoolExpr) → Reads ni ws at e → ((b : Bool) (ms : Members) → e ≡ list_of b ms → eqb w 13 ≡ b → ReadsMembers ni ws (at + 2) v ms → count_members ms ≡ v → X) → X
    unfolding second
    the_list ni e r go =
        let t = code_is ni e r in
        list_inv e (omega arith) (omega arith) λ b ms q tb.
        let s : count_members ms ≡ v = sym (second_list b ms) ∙ sym (ap second q) ∙ second_is v hv ni e r (λ l. absurd (omega arith)) in
        let g = reads_list ni ws at b ms (rw q at r) in
        go b ms q (settles b (omega arith)) (record { words = g.words; vars = g.vars; size = sym s }) s
      where
        second_list : (b : Bool) (ms : Members) → second (list_of b ms) ≡ count_members ms
        second_list false ms = refl
        second_list true ms = refl

    pub list_ready : Ready ws d at out o → ReadyMembers ws d (at + 2) v out (o + 2)
    list_ready r =
        the_list _ r.it r.reads λ b ms q sb g s.
        let z : o + length (encode_bool (list_of b ms)) ≤ length out = rw q at r.room in
        let lo : max_bools ≤ o = r.low in
        record { ds = r.ds; domains = r.domains; them = ms; reads = g; low = omega arith; room = omega (arith, ap length (list_words b ms)) }

    module _ (mid : List ℤ) (next end : ℕ) (hit : Bool) (size : ℕ) (p : MembersPost ws d (at + 2) v out (o + 2) (eqb w 13) mid next end hit size) where
      pub list_closes : Ready ws d at out o → length mid ≡ length out → v < 2147483648 → (o + 2 ≤ end) × (end ≤ length mid) × (size < 2147483648)
      list_closes r l vs =
          the_list _ r.it r.reads λ b ms q sb g s.
          let z : o + length (encode_bool (list_of b ms)) ≤ length out = rw q at r.room in
          let f = p r.ds ms r.domains g in
          let ns = constant_folding_members r.ds (fixed_in out) ms in
          let e : end ≡ o + 2 + length (encode_members (kept ns)) = f.pushed.end in
          let c : size ≡ count_members (kept ns) = f.sizes in
          (omega arith, omega (arith, kept_size ns, fold_members_size r.ds (fixed_in out) ms, ap length (list_words b ms)), omega (arith, kept_fewer ns, members_count r.ds (fixed_in out) ms))

      pub list_folds : (out' : List ℤ) (next' end' : ℕ) (state' : Option Bool) → Ready ws d at out o → next' ≡ next → state' ≡ list_state (eqb w 13) hit size → Stored mid o (list_step (eqb w 13) hit size (slice (o + 2) end mid)) out' end'
          → FoldPost ws d at out o out' next' end' state'
      list_folds out' next' end' state' rd hn hs st ds e hd r =
          the_list _ e r λ b ms q sb g s.
          let f = rw sb at (p ds ms hd g) in
          let ns = constant_folding_members ds (fixed_in out) ms in
          let l : o + 2 ≤ length out = (ready_inside ws d at out o rd).1 in
          let c : slice (o + 2) end mid ≡ encode_members (kept ns) = pushed_slice out (o + 2) (encode_members (kept ns)) mid end f.pushed l in
          let lf = list_folding ds (fixed_in out) b ms in
          let ww : Pushed mid o (encode_bool (fold_list b ns)) out' end' = rw (← fold_list_words b ns, ← c, ← f.hits, ← f.sizes, ← sb) st.pushed in
          let lw : length (encode_bool (list_of b ms)) ≡ suc (suc (length (encode_members ms))) = ap length (list_words b ms) in
          let ss : state' ≡ is_const (fold_list b ns) = hs ∙ rw (sb, f.hits, f.sizes) (fold_list_state b ns) in
          let po : Pushed out o (encode_bool (fold_list b ns)) out' end' = pushed_over out (o + 2) (encode_members (kept ns)) mid end o _ out' end' f.pushed (omega arith) l ww in
          let nn : next ≡ at + 2 + length (encode_members ms) = f.nexts in
          rw q (record {
            nexts = omega arith;
            states = ss ∙ ap is_const (sym lf);
            pushed = subst (λ x. Pushed out o (encode_bool x) out' end') (sym lf) po;
            above = above_both (o + length (encode_bool (list_of b ms))) out mid out' (o + 2 + length (encode_members ms)) end' f.above st.above (omega arith)
                (let k : end' ≡ o + length (encode_bool (fold_list b ns)) = ww.end in omega (arith, fold_list_size b ns, fold_members_size ds (fixed_in out) ms));
          })

  -- ---- Xor, Iff, Imp

  module _ (l14 : 14 < w) (n18 : w ≡ 18 → ⊥) where
    the_binary : {X : Type 0} (ni : ℕ) (e : BoolExpr) → Reads ni ws at e → ((y : Op) (a b : BoolExpr) → e ≡ expr_of y a b → w ≡ 15 + op_num y → Reads ni ws (at + 1) a → Reads ni ws (at + 1 + length (encode_bool a)) b → X) → X
    the_binary ni e r go =
        let t = code_is ni e r in
        binary_inv e (omega arith) (λ x. n18 (sym t ∙ x)) λ y a b q ty.
        let g = rw q at r in
        go y a b q (omega arith) (reads_left ni ws at y a b g) (reads_right ni ws at y a b g)

    one_op : (x y : Op) → op_num x ≡ op_num y → x ≡ y
    one_op op_xor op_xor h = refl
    one_op op_xor op_iff h = absurd (omega arith)
    one_op op_xor op_imp h = absurd (omega arith)
    one_op op_iff op_xor h = absurd (omega arith)
    one_op op_iff op_iff h = refl
    one_op op_iff op_imp h = absurd (omega arith)
    one_op op_imp op_xor h = absurd (omega arith)
    one_op op_imp op_iff h = absurd (omega arith)
    one_op op_imp op_imp h = refl

    binary_length : (y : Op) (a b : BoolExpr) → length (encode_bool (expr_of y a b)) ≡ suc (length (encode_bool a) + length (encode_bool b))
    binary_length y a b = ap length (binary_words y a b) ∙ ap suc (length-append (encode_bool a) (encode_bool b))

    pub code_high : Ready ws d at out o → w < 18
    code_high r = the_binary _ r.it r.reads λ y a b q oy ra rb. omega (arith, op_small y)

    pub left_ready : Ready ws d at out o → Ready ws d (at + 1) out (o + 1)
    left_ready r =
        the_binary _ r.it r.reads λ y a b q oy ra rb.
        let z : o + length (encode_bool (expr_of y a b)) ≤ length out = rw q at r.room in
        let lo : max_bools ≤ o = r.low in
        record { ds = r.ds; domains = r.domains; it = a; reads = ra; low = omega arith; room = omega (arith, binary_length y a b) }

    module _ (mid : List ℤ) (next end : ℕ) (state : Option Bool) (p : FoldPost ws d (at + 1) out (o + 1) mid next end state) where
      pub right_ready : Ready ws d at out o → length mid ≡ length out → Ready ws d next mid end × (at + 1 < next)
      right_ready r l =
          the_binary _ r.it r.reads λ y a b q oy ra rb.
          let z : o + length (encode_bool (expr_of y a b)) ≤ length out = rw q at r.room in
          let lo : max_bools ≤ o = r.low in
          let f = p r.ds a r.domains ra in
          let n : next ≡ at + 1 + length (encode_bool a) = f.nexts in
          let e : end ≡ o + 1 + length (encode_bool (constant_folding_bool r.ds (fixed_in out) a)) = f.pushed.end in
          (record { ds = r.ds; domains = r.domains; it = b; reads = rw n rb; low = omega arith; room = omega (arith, binary_length y a b, fold_size r.ds (fixed_in out) a) }, omega (arith, reads_long _ ws (at + 1) a ra))

      module _ (mid' : List ℤ) (next' end' : ℕ) (state' : Option Bool) (p' : FoldPost ws d next mid end mid' next' end' state') where
        pub binary_closes : Ready ws d at out o → length mid ≡ length out → length mid' ≡ length mid
            → (o + 2 ≤ end) × (end ≤ end') × (end' ≤ length mid')
        binary_closes r l l' =
            the_binary _ r.it r.reads λ y a b q oy ra rb.
            let z : o + length (encode_bool (expr_of y a b)) ≤ length out = rw q at r.room in
            let f = p r.ds a r.domains ra in
            let n : next ≡ at + 1 + length (encode_bool a) = f.nexts in
            let g = p' r.ds b r.domains (rw n rb) in
            let A = constant_folding_bool r.ds (fixed_in out) a in
            let B = constant_folding_bool r.ds (fixed_in mid) b in
            let e : end ≡ o + 1 + length (encode_bool A) = f.pushed.end in
            let e' : end' ≡ end + length (encode_bool B) = g.pushed.end in (
              omega (arith, bool_long max_bools _ A (fold_every None (λ v. v < max_bools) (λ v. v < length r.ds) r.ds (fixed_in out) a ra.vars)),
              omega arith,
              omega (arith, binary_length y a b, fold_size r.ds (fixed_in out) a, fold_size r.ds (fixed_in mid) b),
            )

        pub binary_folds : (x : Op) (out' : List ℤ) (next'' end'' : ℕ) (state'' : Option Bool) → Ready ws d at out o → length mid ≡ length out → w ≡ 15 + op_num x → next'' ≡ next'
            → state'' ≡ binary_state (action x state state') → Stored mid' o (binary_step (action x state state') x (slice (o + 1) end mid') (slice end end' mid')) out' end''
            → FoldPost ws d at out o out' next'' end'' state''
        unfolding fold_binary
        binary_folds y out' next'' end'' state'' rd l hy hn hs st ds e hd r =
            the_binary _ e r λ x a b q' ox ra rb.
            let q : e ≡ expr_of y a b = q' ∙ ap (λ o. expr_of o a b) (one_op x y (omega arith)) in
            let f = p ds a hd ra in
            let n : next ≡ at + 1 + length (encode_bool a) = f.nexts in
            let g = p' ds b hd (rw n rb) in
            let lo : o + 1 ≤ length out = omega (arith, (ready_inside ws d at out o rd).1) in
            let low : max_bools ≤ o = rd.low in
            let A = constant_folding_bool ds (fixed_in out) a in
            let B = constant_folding_bool ds (fixed_in out) b in
            let sf : fixed_in mid ≡ fixed_in out = same_fixed out mid (pushed_below out (o + 1) (encode_bool A) mid end max_bools f.pushed (omega arith) lo) in
            let ef : end ≡ o + 1 + length (encode_bool A) = f.pushed.end in
            let wb : Pushed mid end (encode_bool B) mid' end' = rw sf at g.pushed in
            let sb : state' ≡ is_const B = rw sf at g.states in
            let ka : action y state state' ≡ action y (is_const A) (is_const B) = rw (f.states, sb) refl in
            let lm : end ≤ length mid = omega (arith, (right_ready rd l).0.room) in
            let cl : slice (o + 1) end mid' ≡ encode_bool A = ap (drop (o + 1)) (pushed_below mid end (encode_bool B) mid' end' end wb (omega arith) lm) ∙ pushed_slice out (o + 1) (encode_bool A) mid end f.pushed lo in
            let cr : slice end end' mid' ≡ encode_bool B = pushed_slice mid end (encode_bool B) mid' end' wb lm in
            let n' : next' ≡ next + length (encode_bool b) = g.nexts in
            let T = act (action y (is_const A) (is_const B)) y A B in
            let bf : constant_folding_bool ds (fixed_in out) (expr_of y a b) ≡ T = binary_folding ds (fixed_in out) y a b in
            let ww : Pushed mid' o (encode_bool T) out' end'' = rw (← act_words (action y (is_const A) (is_const B)) y A B, ← cl, ← cr, ← ka) st.pushed in
            let po : Pushed out o (encode_bool T) out' end'' = pushed_over out (o + 1) (encode_bool A ++ encode_bool B) mid' end' o _ out' end'' (pushed_then out (o + 1) (encode_bool A) mid end (encode_bool B) mid' end' f.pushed wb) (omega arith) lo ww in
            let ss : state'' ≡ is_const T = hs ∙ ap binary_state ka ∙ fold_binary_state y A B in
            rw q (record {
              nexts = omega (arith, binary_length y a b);
              states = ss ∙ ap is_const (sym bf);
              pushed = subst (λ x. Pushed out o (encode_bool x) out' end'') (sym bf) po;
              above = above_both (o + length (encode_bool (expr_of y a b))) out mid' out' (o + 1 + length (encode_bool a) + length (encode_bool b)) end''
                  (drop_up (end + length (encode_bool b)) (o + 1 + length (encode_bool a) + length (encode_bool b)) mid' mid g.above (omega (arith, fold_size ds (fixed_in out) a)) ∙ drop_up (o + 1 + length (encode_bool a)) (o + 1 + length (encode_bool a) + length (encode_bool b)) mid out f.above (omega arith))
                  st.above (omega (arith, binary_length y a b))
                  (let k : end'' ≡ o + length (encode_bool T) = ww.end in omega (arith, binary_length y a b, binary_size y A B, fold_size ds (fixed_in out) a, fold_size ds (fixed_in out) b));
            })

-- ---- members

pub members_none : (ws : List ℤ) (d at n : ℕ) (out : List ℤ) (o : ℕ) (b : Bool) → n ≡ 0 → MembersPost ws d at n out o b out at o false 0
unfolding encode_members constant_folding_members has_const kept
members_none ws d at n out o b h ds mnil hd r = record { nexts = omega arith; hits = refl; sizes = refl; pushed = pushed_none out o; above = refl }
members_none ws d at n out o b h ds (more e ms) hd r = absurd (let s : n ≡ suc (count_members ms) = r.size in omega arith)

module _ (ws : List ℤ) (d at n : ℕ) (out : List ℤ) (o : ℕ) (z : n ≡ 0 → ⊥) where
  more_inv : {X : Type 0} (ms : Members) → n ≡ count_members ms → ((e : BoolExpr) (ns : Members) → ms ≡ more e ns → X) → X
  more_inv mnil h go = absurd (z h)
  more_inv (more e ns) h go = go e ns refl

  pub first_ready : ReadyMembers ws d at n out o → Ready ws d at out o
  unfolding encode_members
  first_ready r =
      more_inv r.them r.reads.size λ e ns q.
      let w : o + length (encode_bool e ++ encode_members ns) ≤ length out = rw q at r.room in
      record { ds = r.ds; domains = r.domains; it = e; reads = reads_first _ ws at n e ns (rw q at r.reads); low = r.low; room = omega (arith, length-append (encode_bool e) (encode_members ns)) }

  module _ (mid : List ℤ) (next end : ℕ) (state : Option Bool) (p : FoldPost ws d at out o mid next end state) (from : ℕ) (hf : from ≡ cond (is_open state) end o) where
    -- the end of what is kept of a member
    kept_at : (k : Option Bool) (E : BoolExpr) → state ≡ k → Pushed out o (encode_bool E) mid end → o ≤ length out → Pushed out o (encode_members (keep_member k E mnil)) mid from
    unfolding encode_members
    kept_at none E s w l = let g : from ≡ end = hf ∙ rw s refl in rw g (record { end = w.end ∙ omega (arith, length-append (encode_bool E) []); words = w.words ∙ ap (λ x. take o out ++ x) (sym (append-nil (encode_bool E))) })
    kept_at (some false) E s w l = let g : from ≡ o = hf ∙ rw s refl in rw g (record { end = omega arith; words = pushed_below out o (encode_bool E) mid end o w (omega arith) l ∙ sym (append-nil (take o out)) })
    kept_at (some true) E s w l = let g : from ≡ o = hf ∙ rw s refl in rw g (record { end = omega arith; words = pushed_below out o (encode_bool E) mid end o w (omega arith) l ∙ sym (append-nil (take o out)) })

    kept_split : (k : Option Bool) (E : BoolExpr) (ns : Members) → encode_members (keep_member k E ns) ≡ encode_members (keep_member k E mnil) ++ encode_members ns
    unfolding encode_members
    kept_split none E ns = ap (λ x. x ++ encode_members ns) (sym (append-nil (encode_bool E)))
    kept_split (some b) E ns = refl

    kept_one_size : (k : Option Bool) (E : BoolExpr) → length (encode_members (keep_member k E mnil)) ≤ length (encode_bool E)
    unfolding encode_members
    kept_one_size none E = omega (arith, length-append (encode_bool E) [])
    kept_one_size (some b) E = omega arith

    pub rest_ready : ReadyMembers ws d at n out o → length mid ≡ length out → ReadyMembers ws d next (n - 1) mid from × (at < next)
    unfolding encode_members
    rest_ready r l =
        more_inv r.them r.reads.size λ e ns q.
        let w : o + length (encode_bool e ++ encode_members ns) ≤ length out = rw q at r.room in
        let rd = rw q at r.reads in
        let re = reads_first _ ws at n e ns rd in
        let f = p r.ds e r.domains re in
        let nx : next ≡ at + length (encode_bool e) = f.nexts in
        let E = constant_folding_bool r.ds (fixed_in out) e in
        let kf = kept_at (is_const E) E f.states f.pushed (omega arith) in
        let ke : from ≡ o + length (encode_members (keep_member (is_const E) E mnil)) = kf.end in
        let lo : max_bools ≤ o = r.low in (
          record { ds = r.ds; domains = r.domains; them = ns; reads = rw nx (reads_rest _ ws at n e ns rd); low = omega arith; room = omega (arith, length-append (encode_bool e) (encode_members ns), kept_one_size (is_const E) E, fold_size r.ds (fixed_in out) e) },
          omega (arith, reads_long _ ws at e re),
        )

    pub members_more : (b : Bool) (out' : List ℤ) (next' end' : ℕ) (hit : Bool) (size : ℕ) → MembersPost ws d next (n - 1) mid from b out' next' end' hit size → ReadyMembers ws d at n out o
        → MembersPost ws d at n out o b out' next' end' (is_value b state || hit) (cond (is_open state) (size + 1) size)
    unfolding encode_members constant_folding_members has_const kept
    members_more b out' next' end' hit size p' rd ds ms hd r =
        more_inv ms r.size λ e ns q.
        let rr = rw q at r in
        let re = reads_first _ ws at n e ns rr in
        let f = p ds e hd re in
        let nx : next ≡ at + length (encode_bool e) = f.nexts in
        let E = constant_folding_bool ds (fixed_in out) e in
        let l : o ≤ length out = omega (arith, rd.room) in
        let kf = kept_at (is_const E) E f.states f.pushed l in
        let sf : fixed_in mid ≡ fixed_in out = same_fixed out mid (pushed_below out o (encode_bool E) mid end max_bools f.pushed rd.low l) in
        let g = p' ds ns hd (rw nx (reads_rest _ ws at n e ns rr)) in
        let N = constant_folding_members ds (fixed_in out) ns in
        let gw : Pushed mid from (encode_members (kept N)) out' end' = rw sf at g.pushed in
        let gh : hit ≡ has_const b N = rw sf at g.hits in
        let gs : size ≡ count_members (kept N) = rw sf at g.sizes in
        let gn : next' ≡ next + length (encode_members ns) = g.nexts in
        let ke : from ≡ o + length (encode_members (keep_member (is_const E) E mnil)) = kf.end in
        rw q (record {
          nexts = omega (arith, length-append (encode_bool e) (encode_members ns));
          hits = rw (f.states, gh) refl;
          sizes = rw (f.states, gs) (count_one (is_const E) E (kept N));
          pushed = rw (kept_split (is_const E) E (kept N)) (pushed_then out o (encode_members (keep_member (is_const E) E mnil)) mid from (encode_members (kept N)) out' end' kf gw);
          above = drop_up (from + length (encode_members ns)) (o + length (encode_bool e ++ encode_members ns)) out' mid g.above (omega (arith, length-append (encode_bool e) (encode_members ns), kept_one_size (is_const E) E, fold_size ds (fixed_in out) e))
              ∙ drop_up (o + length (encode_bool e)) (o + length (encode_bool e ++ encode_members ns)) mid out f.above (omega (arith, length-append (encode_bool e) (encode_members ns)));
        })

-- what the loop adds up, and what is left
pub members_sum : (ws : List ℤ) (d at n : ℕ) (out : List ℤ) (o : ℕ) (b : Bool) (out' : List ℤ) (next end : ℕ) (x h h' : Bool) (y : Option Bool) (k s : ℕ) (hit : Bool) (kept' : ℕ)
    → hit ≡ (x || h) → kept' ≡ cond (is_open y) (k + 1) k → MembersPost ws d at n out o b out' next end (h || (x || h')) (k + cond (is_open y) (s + 1) s) → MembersPost ws d at n out o b out' next end (hit || h') (kept' + s)
members_sum ws d at n out o b out' next end x h h' y k s hit kept' e f p =
    let eh : (h || (x || h')) ≡ (hit || h') = rw e (turn h x h') in
    let ek : k + cond (is_open y) (s + 1) s ≡ kept' + s = rw f (add (is_open y)) in
    subst (λ n'. MembersPost ws d at n out o b out' next end (hit || h') n') ek (subst (λ t. MembersPost ws d at n out o b out' next end t (k + cond (is_open y) (s + 1) s)) eh p)
  where
    turn : (h x h' : Bool) → (h || (x || h')) ≡ ((x || h) || h')
    turn true true h' = refl
    turn true false h' = refl
    turn false true h' = refl
    turn false false h' = refl

    add : (c : Bool) → k + cond c (s + 1) s ≡ cond c (k + 1) k + s
    add true = omega arith
    add false = refl

pub binary_low : (w : ℕ) → (w ≡ 14 → ⊥) → 14 ≤ w → 14 < w
binary_low w a b = omega arith

-- each member has a word
pub members_fit : (ws : List ℤ) (d at n : ℕ) (out : List ℤ) (o : ℕ) → ReadyMembers ws d at n out o → n ≤ length out
members_fit ws d at n out o r = omega (arith, r.room, r.reads.size, members_long max_bools _ r.them r.reads.vars)

pub members_end : (ws : List ℤ) (d at n : ℕ) (out : List ℤ) (o : ℕ) (b : Bool) (out' : List ℤ) (next end : ℕ) (hit : Bool) (size : ℕ) → MembersPost ws d at n out o b out' next end (hit || false) (size + 0) → MembersPost ws d at n out o b out' next end hit size
members_end ws d at n out o b out' next end hit size p =
    subst (λ k. MembersPost ws d at n out o b out' next end hit k) (omega arith) (subst (λ t. MembersPost ws d at n out o b out' next end t (size + 0)) (go hit) p)
  where
    go : (h : Bool) → (h || false) ≡ h
    go true = refl
    go false = refl

pub kept_room : (s : Option Bool) (k n rest k' : ℕ) → k' ≡ cond (is_open s) (k + 1) k → (rest ≡ 0 → ⊥) → k + rest ≤ n → k' + (rest - 1) ≤ n
kept_room s k n rest k' e z h = rw e (go (is_open s))
  where
    go : (c : Bool) → cond c (k + 1) k + (rest - 1) ≤ n
    go true = omega arith
    go false = omega arith

pub members_start : (ws : List ℤ) (d at n : ℕ) (out : List ℤ) (o : ℕ) (b : Bool) (out' : List ℤ) (next end : ℕ) (hit : Bool) (size : ℕ) → MembersPost ws d at n out o b out' next end hit size → MembersPost ws d at n out o b out' next end hit (0 + size)
members_start ws d at n out o b out' next end hit size p = subst (λ k. MembersPost ws d at n out o b out' next end hit k) (omega arith) p
