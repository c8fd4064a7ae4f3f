-- What passing over expressions asks and gives at each step, over variables. Assumes nothing.
use Prim.Native.Nat.{ℕ, suc, ◌+◌, ◌-◌, ◌≤◌, ◌<◌}
use mathlib.Core.Path.{◌≡◌, refl, sym, ap, ◌∙◌, subst}
use mathlib.Core.Bool.{Bool, true, false}
use mathlib.Core.List.{List, [], ◌∷◌, ◌++◌, append_assoc, append-nil}
use native.Mathlib.Omega.{arith}
use lib.IntN.{ℤ, pos, negsuc}
use lib.ListN.{length, take, drop, get_or, length-append}
use lib.Seq.{take-add, drop-drop}
use Rattle.laws.specs.Ints.{pos_eq}
use Rattle.laws.specs.Slices.{Has, has_fits, has_front, has_back, has_word, has_rest}
use Rattle.syntax.specs.Syntax.{IfIsRead, IntExpr, IConst, IVar, Linear, If, Terms, tnil, tmore, CmpOp, encode_op, encode_bit, BoolExpr, Const, Var, NVar, And, Or, Not, Xor, Iff, Imp, Cmp, Members, mnil, more, count_terms, count_members, encode_int, encode_terms, encode_bool, encode_members}
use Rattle.syntax.specs.Lengths.{int_tag, int_tag_word, int_long, int_fits, terms_long}
use Rattle.syntax.specs.Written.{EveryOf, EveryIntOf}
use Rattle.syntax.specs.Codes.{bool_code}
use Rattle.domains.specs.Declared.{Plain}
use Rattle.fold.specs.Fold.{Op, op_xor, op_iff, op_imp, expr_of}
use Rattle.fold.specs.Table.{bit}
use Rattle.fold.proofs.Forms.{list_of, DeclaredTerms, Declared, DeclaredMembers, bool_long, members_long}
use Rattle.folding.proofs.IntLaws.{if_inv}
use Rattle.folding.proofs.BoolLaws.{cmp_inv, not_inv, list_inv, binary_inv, first_word, second, second_word, code_low}
use Rattle.passes.specs.Skip.{IntAt, TermsAt, BoolAt, MembersAt, SomeInt, SomeTerms, SomeBool, SomeMembers, own_int, body, IntStepPost, SkipPost, SkipTermsPost, own_bool, inner, BoolStepPost, SkipMembersPost}

-- ---- integers: an expression's own words, and those of the terms behind them

module _ (ws : List ℤ) (at : ℕ) where
  parts : (nb ni : ℕ) (e : IntExpr) → IntAt nb ni ws at e → Has ws (at + own_int e) (encode_terms (body e)) × DeclaredTerms nb ni (body e) × (length (encode_int e) ≡ own_int e + length (encode_terms (body e)))
  unfolding encode_int EveryIntOf
  parts nb ni (IConst c) h = (refl, tt, refl)
  parts nb ni (IVar v) h = (refl, tt, refl)
  parts nb ni (Linear ts) h = (has_back ws at (pos 22 ∷ pos (count_terms ts) ∷ []) (encode_terms ts) h.words, h.vars, omega arith)
  parts nb ni (If i c t f) h = (refl, tt, omega arith)

  own_more : (e : IntExpr) → 2 ≤ own_int e
  own_more (IConst c) = omega arith
  own_more (IVar v) = omega arith
  own_more (Linear ts) = omega arith
  own_more (If i c t f) = int_long (If i c t f)

  pub int_inside : SomeInt ws at → at + 2 ≤ length ws
  int_inside s = omega (arith, int_fits ws at s.it s.stands.words, int_long s.it)

  pub int_first : SomeInt ws at → Plain ws at
  int_first s = record { inside = omega (arith, int_inside s); value = int_tag s.it; is = int_tag_word ws at s.it s.stands.words }

  -- ---- `int_step`

  module _ (w : ℕ) (hw : get_or ws at (pos 0) ≡ pos w) where
    tag_is : (nb ni : ℕ) (e : IntExpr) → IntAt nb ni ws at e → int_tag e ≡ w
    tag_is nb ni e h = pos_eq _ _ _ (int_tag_word ws at e h.words) hw

    sum_inv : {X : Type 0} (nb ni : ℕ) (e : IntExpr) → IntAt nb ni ws at e → w ≡ 22 → ((ts : Terms) → e ≡ Linear ts → IntAt nb ni ws at (Linear ts) → X) → X
    sum_inv nb ni (IConst c) h z go = absurd (let t : 20 ≡ w = tag_is nb ni (IConst c) h in omega arith)
    sum_inv nb ni (IVar v) h z go = absurd (let t : 21 ≡ w = tag_is nb ni (IVar v) h in omega arith)
    sum_inv nb ni (If i c t f) h z go = absurd (let t : 23 ≡ w = tag_is nb ni (If i c t f) h in omega arith)
    sum_inv nb ni (Linear ts) h z go = go ts refl h

    pub sum_second : SomeInt ws at → w ≡ 22 → Plain ws (at + 1)
    unfolding encode_int
    sum_second s z = sum_inv _ _ s.it s.stands z λ ts q h. record { inside = omega (arith, int_inside s); value = count_terms ts; is = has_word ws (at + 1) _ _ (pos 0) (has_rest ws at _ _ h.words) }

    pub step_sum : (n : ℕ) → get_or ws (at + 1) (pos 0) ≡ pos n → w ≡ 22 → IntStepPost ws at (at + 2) n
    unfolding encode_int
    step_sum n hn z nb ni e h = sum_inv nb ni e h z λ ts q g. rw q (refl, pos_eq _ _ _ hn (has_word ws (at + 1) _ _ (pos 0) (has_rest ws at _ _ g.words)))

    pub step_plain : (w ≡ 22 → ⊥) → (w ≡ 23 → ⊥) → IntStepPost ws at (at + 2) 0
    step_plain y z nb ni (IConst c) h = (refl, refl)
    step_plain y z nb ni (IVar v) h = (refl, refl)
    step_plain y z nb ni (Linear ts) h = absurd (y (sym (tag_is nb ni (Linear ts) h)))
    step_plain y z nb ni (If i c t f) h = absurd (z (sym (tag_is nb ni (If i c t f) h)))

    pub two_words_skip : w < 22 → SkipPost ws at (at + 2)
    unfolding encode_int
    two_words_skip l nb ni (IConst c) h = refl
    two_words_skip l nb ni (IVar v) h = refl
    two_words_skip l nb ni (Linear ts) h = absurd (let t : 22 ≡ w = tag_is nb ni (Linear ts) h in omega arith)
    two_words_skip l nb ni (If i c t f) h = absurd (let t : 23 ≡ w = tag_is nb ni (If i c t f) h in omega arith)

    module _ (h23 : w ≡ 23) where
      the_if : {X : Type 0} (nb ni : ℕ) (e : IntExpr) → IntAt nb ni ws at e
          → ((i : IfIsRead) (c : BoolExpr) (t f : IntExpr) → e ≡ If i c t f → MembersAt nb ni ws (at + 1) 1 (more c mnil) → IntAt nb ni ws (at + 1 + length (encode_members (more c mnil))) t → IntAt nb ni ws (at + 1 + length (encode_members (more c mnil)) + length (encode_int t)) f → X) → X
      unfolding encode_int EveryIntOf
      the_if nb ni e r go =
          if_inv e (tag_is nb ni e r ∙ h23) λ i c t f q.
          let g = rw q at r in
          let n : encode_bool c ++ [] ≡ encode_bool c = append-nil (encode_bool c) in
          let h = has_rest ws at (pos 23) (encode_bool c ++ (encode_int t ++ encode_int f)) g.words in
          let k : Has ws (at + 1 + length (encode_bool c ++ [])) (encode_int t ++ encode_int f) = rw n (has_back ws (at + 1) (encode_bool c) (encode_int t ++ encode_int f) h) in
          go i c t f q
          (record { words = rw n (has_front ws (at + 1) (encode_bool c) (encode_int t ++ encode_int f) h); vars = (g.vars.0, tt); size = refl })
          (record { words = has_front ws (at + 1 + length (encode_bool c ++ [])) (encode_int t) (encode_int f) k; vars = g.vars.1.0 })
          (record { words = has_back ws (at + 1 + length (encode_bool c ++ [])) (encode_int t) (encode_int f) k; vars = g.vars.1.1 })

      pub if_condition : SomeInt ws at → SomeMembers ws (at + 1) 1
      if_condition s = the_if _ _ s.it s.stands λ i c t f q hc ht hf. record { bools = s.bools; ints = s.ints; them = more c mnil; stand = hc }

      module _ (m : ℕ) (p : SkipMembersPost ws (at + 1) 1 m) where
        pub if_then : SomeInt ws at → SomeInt ws m × (at < m)
        if_then s =
            the_if _ _ s.it s.stands λ i c t f q hc ht hf.
            let x = p s.bools s.ints (more c mnil) hc in
            (record { bools = s.bools; ints = s.ints; it = t; stands = rw x ht }, omega (arith, x))

        module _ (m' : ℕ) (p' : SkipPost ws m m') where
          pub if_else : SomeInt ws at → SomeInt ws m' × (at < m')
          if_else s =
              the_if _ _ s.it s.stands λ i c t f q hc ht hf.
              let x = p s.bools s.ints (more c mnil) hc in
              let y = p' s.bools s.ints t (rw x ht) in
              let z : m' ≡ at + 1 + length (encode_members (more c mnil)) + length (encode_int t) = omega (arith, x, y) in
              (record { bools = s.bools; ints = s.ints; it = f; stands = rw z hf }, omega arith)

          pub step_if : (r : ℕ) → SkipPost ws m' r → IntStepPost ws at r 0
          unfolding encode_int
          step_if r p'' nb ni e h =
              the_if nb ni e h λ i c t f q hc ht hf.
              let x = p nb ni (more c mnil) hc in
              let y = p' nb ni t (rw x ht) in
              let z : m' ≡ at + 1 + length (encode_members (more c mnil)) + length (encode_int t) = omega (arith, x, y) in
              let v = p'' nb ni f (rw z hf) in
              rw q (omega (arith, v, length-append (encode_bool c) [], length-append (encode_bool c) (encode_int t ++ encode_int f), length-append (encode_int t) (encode_int f)), refl)

  -- ---- `skip_int`

  module _ (x n : ℕ) (p : IntStepPost ws at x n) where
    pub body_some : SomeInt ws at → SomeTerms ws x n × (at < x)
    body_some s =
        let y = p s.bools s.ints s.it s.stands in
        let k = parts _ _ s.it s.stands in
        (record { bools = s.bools; ints = s.ints; them = body s.it; stand = record { words = rw y.0 k.0; vars = k.1; size = y.1 } }, omega (arith, y.0, own_more s.it))

    pub int_skips : (r : ℕ) → SkipTermsPost ws x n r → SkipPost ws at r
    int_skips r q nb ni e h =
        let y = p nb ni e h in
        let k = parts nb ni e h in
        let z = q nb ni (body e) (record { words = rw y.0 k.0; vars = k.1; size = y.1 }) in
        omega (arith, z, y.0, k.2)

-- ---- `skip_terms`: the terms of an inner sum, then the others

join : Terms → Terms → Terms
join tnil us = us
join (tmore c e ts) us = tmore c e (join ts us)

join_words : (ts us : Terms) → encode_terms (join ts us) ≡ encode_terms ts ++ encode_terms us
unfolding encode_terms join
join_words tnil us = refl
join_words (tmore c e ts) us = ap (λ l. c ∷ l) (ap (λ l. encode_int e ++ l) (join_words ts us) ∙ sym (append_assoc (encode_int e) (encode_terms ts) (encode_terms us)))

join_count : (ts us : Terms) → count_terms (join ts us) ≡ count_terms ts + count_terms us
unfolding join
join_count tnil us = omega arith
join_count (tmore c e ts) us = omega (arith, join_count ts us)

join_declared : (nb ni : ℕ) (ts us : Terms) → DeclaredTerms nb ni ts → DeclaredTerms nb ni us → DeclaredTerms nb ni (join ts us)
unfolding EveryIntOf join
join_declared nb ni tnil us h k = k
join_declared nb ni (tmore c e ts) us h k = (h.0, join_declared nb ni ts us h.1 k)

has_join : (ws : List ℤ) (at : ℕ) (us vs : List ℤ) → Has ws at us → Has ws (at + length us) vs → Has ws at (us ++ vs)
has_join ws at us vs h g =
    ap (λ n. take n (drop at ws)) (length-append us vs)
    ∙ take-add (length us) (length vs) (drop at ws)
    ∙ ap (λ l. l ++ take (length vs) (drop (length us) (drop at ws))) h
    ∙ ap (λ l. us ++ take (length vs) l) (drop-drop (length us) at ws)
    ∙ ap (λ l. us ++ l) g

module _ (ws : List ℤ) (at n : ℕ) (z : n ≡ 0 → ⊥) where
  more_inv : {X : Type 0} (nb ni : ℕ) (ts : Terms) → TermsAt nb ni ws at n ts
      → ((c : ℤ) (e : IntExpr) (us : Terms) → ts ≡ tmore c e us → IntAt nb ni ws (at + 1) e → TermsAt nb ni ws (at + 1 + length (encode_int e)) (n - 1) us → X) → X
  unfolding encode_terms EveryIntOf
  more_inv nb ni tnil h go = absurd (z h.size)
  more_inv nb ni (tmore c e us) h go =
      let g = has_rest ws at c (encode_int e ++ encode_terms us) h.words in
      let k : n ≡ suc (count_terms us) = h.size in
      go c e us refl (record { words = has_front ws (at + 1) (encode_int e) (encode_terms us) g; vars = h.vars.0 }) (record { words = has_back ws (at + 1) (encode_int e) (encode_terms us) g; vars = h.vars.1; size = omega arith })

  pub term_some : SomeTerms ws at n → SomeInt ws (at + 1)
  term_some s = more_inv _ _ s.them s.stand λ c e us q h g. record { bools = s.bools; ints = s.ints; it = e; stands = h }

  module _ (x m : ℕ) (p : IntStepPost ws (at + 1) x m) where
    left_over : (nb ni : ℕ) (e : IntExpr) (us : Terms) → IntAt nb ni ws (at + 1) e → TermsAt nb ni ws (at + 1 + length (encode_int e)) (n - 1) us → TermsAt nb ni ws x (n - 1 + m) (join (body e) us)
    left_over nb ni e us h g =
        let y = p nb ni e h in
        let k = parts ws (at + 1) nb ni e h in
        let l : at + 1 + length (encode_int e) ≡ x + length (encode_terms (body e)) = omega (arith, y.0, k.2) in
        record { words = rw (join_words (body e) us) (has_join ws x (encode_terms (body e)) (encode_terms us) (rw y.0 k.0) (rw l at g.words)); vars = join_declared nb ni (body e) us k.1 g.vars; size = omega (arith, join_count (body e) us, y.1, g.size) }

    pub terms_some : SomeTerms ws at n → SomeTerms ws x (n - 1 + m) × (at < x) × (at + 2 < length ws)
    terms_some s =
        more_inv _ _ s.them s.stand λ c e us q h g. (
          record { bools = s.bools; ints = s.ints; them = join (body e) us; stand = left_over s.bools s.ints e us h g },
          omega (arith, (p s.bools s.ints e h).0),
          omega (arith, int_inside ws (at + 1) (term_some s)),
        )

    pub terms_skip : (r : ℕ) → SkipTermsPost ws x (n - 1 + m) r → SkipTermsPost ws at n r
    unfolding encode_terms
    terms_skip r s nb ni ts t =
        more_inv nb ni ts t λ c e us q h g.
        let y = s nb ni (join (body e) us) (left_over nb ni e us h g) in
        let o = p nb ni e h in
        rw q (omega (arith, y, o.0, ap length (join_words (body e) us), length-append (encode_terms (body e)) (encode_terms us), length-append (encode_int e) (encode_terms us), (parts ws (at + 1) nb ni e h).2))

pub terms_none : (ws : List ℤ) (at n : ℕ) → n ≡ 0 → SkipTermsPost ws at n at
unfolding encode_terms
terms_none ws at n z nb ni tnil h = omega arith
terms_none ws at n z nb ni (tmore c e us) h = absurd (let s : n ≡ suc (count_terms us) = h.size in omega arith)

pub terms_room : (ws : List ℤ) (at n : ℕ) → SomeTerms ws at n → n ≤ length ws
terms_room ws at n s = go s.them s.stand
  where
    go : (ts : Terms) → TermsAt s.bools s.ints ws at n ts → n ≤ length ws
    go tnil r = omega (arith, r.size)
    go (tmore c e ts) r =
        let k : n ≡ suc (count_terms ts) = r.size in
        let l = terms_long (tmore c e ts) in
        omega (arith, l, has_fits ws at (encode_terms (tmore c e ts)) r.words (omega (arith, l)))

-- a constant or a variable
pub leaf_inv : {X : Type 0} (e : BoolExpr) → 10 ≤ bool_code e → bool_code e < 12 → ((b : Bool) → e ≡ Const b → X) → ((v : ℕ) → e ≡ Var v → X) → X
leaf_inv (Const b) l k f g = f b refl
leaf_inv (Var v) l k f g = g v refl
leaf_inv (NVar n) l k f g = absurd (omega arith)
leaf_inv (And ms) l k f g = absurd (omega arith)
leaf_inv (Or ms) l k f g = absurd (omega arith)
leaf_inv (Not e) l k f g = absurd (omega arith)
leaf_inv (Xor a b) l k f g = absurd (omega arith)
leaf_inv (Iff a b) l k f g = absurd (omega arith)
leaf_inv (Imp a b) l k f g = absurd (omega arith)
leaf_inv (Cmp o a b) l k f g = absurd (omega arith)

code_high : (e : BoolExpr) → bool_code e ≤ 18
code_high (Const b) = omega arith
code_high (Var v) = omega arith
code_high (NVar n) = omega arith
code_high (And ms) = omega arith
code_high (Or ms) = omega arith
code_high (Not e) = omega arith
code_high (Xor a b) = omega arith
code_high (Iff a b) = omega arith
code_high (Imp a b) = omega arith
code_high (Cmp o a b) = omega arith

-- ---- Booleans: an expression's own words, and those of the expressions in it

own_words : BoolExpr → List ℤ
own_words (Const b) = pos 10 ∷ encode_bit b ∷ []
own_words (Var v) = pos 11 ∷ pos v ∷ []
own_words (NVar n) = negsuc n ∷ []
own_words (And ms) = pos 12 ∷ pos (count_members ms) ∷ []
own_words (Or ms) = pos 13 ∷ pos (count_members ms) ∷ []
own_words (Not e) = pos 14 ∷ []
own_words (Xor a b) = pos 15 ∷ []
own_words (Iff a b) = pos 16 ∷ []
own_words (Imp a b) = pos 17 ∷ []
own_words (Cmp o a b) = pos 18 ∷ encode_op o ∷ (encode_int a ++ encode_int b)

two_words : (a b : BoolExpr) → encode_bool a ++ encode_bool b ≡ encode_members (more a (more b mnil))
unfolding encode_bool
two_words a b = ap (λ l. encode_bool a ++ l) (sym (append-nil (encode_bool b)))

split_words : (e : BoolExpr) → encode_bool e ≡ own_words e ++ encode_members (inner e)
unfolding encode_bool own_words
split_words (Const b) = refl
split_words (Var v) = refl
split_words (NVar n) = refl
split_words (And ms) = refl
split_words (Or ms) = refl
split_words (Not e) = ap (λ l. pos 14 ∷ l) (sym (append-nil (encode_bool e)))
split_words (Xor a b) = ap (λ l. pos 15 ∷ l) (two_words a b)
split_words (Iff a b) = ap (λ l. pos 16 ∷ l) (two_words a b)
split_words (Imp a b) = ap (λ l. pos 17 ∷ l) (two_words a b)
split_words (Cmp o a b) = sym (append-nil (pos 18 ∷ encode_op o ∷ (encode_int a ++ encode_int b)))

own_size : (e : BoolExpr) → length (own_words e) ≡ own_bool e
unfolding own_words
own_size (Const b) = refl
own_size (Var v) = refl
own_size (NVar n) = refl
own_size (And ms) = refl
own_size (Or ms) = refl
own_size (Not e) = refl
own_size (Xor a b) = refl
own_size (Iff a b) = refl
own_size (Imp a b) = refl
own_size (Cmp o a b) = omega (arith, length-append (encode_int a) (encode_int b))

module _ (nb ni : ℕ) where
  own_some : (e : BoolExpr) → Declared nb ni e → 0 < own_bool e
  unfolding EveryOf
  own_some (Const b) h = omega arith
  own_some (Var v) h = omega arith
  own_some (NVar n) h = absurd h
  own_some (And ms) h = omega arith
  own_some (Or ms) h = omega arith
  own_some (Not e) h = omega arith
  own_some (Xor a b) h = omega arith
  own_some (Iff a b) h = omega arith
  own_some (Imp a b) h = omega arith
  own_some (Cmp o a b) h = omega arith

  inner_declared : (e : BoolExpr) → Declared nb ni e → DeclaredMembers nb ni (inner e)
  unfolding EveryOf
  inner_declared (Const b) h = tt
  inner_declared (Var v) h = tt
  inner_declared (NVar n) h = tt
  inner_declared (And ms) h = h
  inner_declared (Or ms) h = h
  inner_declared (Not e) h = (h, tt)
  inner_declared (Xor a b) h = (h.0, (h.1, tt))
  inner_declared (Iff a b) h = (h.0, (h.1, tt))
  inner_declared (Imp a b) h = (h.0, (h.1, tt))
  inner_declared (Cmp o a b) h = tt

-- ---- members in front of members

join_members : Members → Members → Members
join_members mnil us = us
join_members (more e ms) us = more e (join_members ms us)

members_words : (ms us : Members) → encode_members (join_members ms us) ≡ encode_members ms ++ encode_members us
unfolding encode_bool join_members
members_words mnil us = refl
members_words (more e ms) us = ap (λ l. encode_bool e ++ l) (members_words ms us) ∙ sym (append_assoc (encode_bool e) (encode_members ms) (encode_members us))

members_count : (ms us : Members) → count_members (join_members ms us) ≡ count_members ms + count_members us
unfolding join_members
members_count mnil us = omega arith
members_count (more e ms) us = omega (arith, members_count ms us)

members_declared : (nb ni : ℕ) (ms us : Members) → DeclaredMembers nb ni ms → DeclaredMembers nb ni us → DeclaredMembers nb ni (join_members ms us)
unfolding EveryOf join_members
members_declared nb ni mnil us h k = k
members_declared nb ni (more e ms) us h k = (h.0, members_declared nb ni ms us h.1 k)

-- ---- `bool_step`

module _ (ws : List ℤ) (at : ℕ) where
  pub bool_inside : SomeBool ws at → at + 2 ≤ length ws
  bool_inside s =
      let l = bool_long s.bools s.ints s.it s.stands.vars in
      omega (arith, l, has_fits ws at (encode_bool s.it) s.stands.words (omega (arith, l)))

  pub bool_first : SomeBool ws at → Plain ws at
  bool_first s = record { inside = omega (arith, bool_inside s); value = bool_code s.it; is = first_word s.bools s.ints ws at s.it s.stands.vars s.stands.words }

  module _ (w : ℕ) (hw : get_or ws at (pos 0) ≡ pos w) where
    pub bool_code_is : (nb ni : ℕ) (e : BoolExpr) → BoolAt nb ni ws at e → bool_code e ≡ w
    bool_code_is nb ni e r = pos_eq _ _ _ (first_word nb ni ws at e r.vars r.words) hw

    -- the second word where it is an operand
    pub second_is : (nb ni : ℕ) (e : BoolExpr) → BoolAt nb ni ws at e → (14 ≤ w → w ≡ 18) → get_or ws (at + 1) (pos 0) ≡ pos (second e)
    second_is nb ni e r l =
        let t = bool_code_is nb ni e r in
        second_word ws at e (λ a b. omega (arith, code_low nb ni e r.vars)) (λ a. t ∙ l (omega arith)) r.words

    pub bool_second : SomeBool ws at → (14 ≤ w → w ≡ 18) → Plain ws (at + 1)
    bool_second s l = record { inside = omega (arith, bool_inside s); value = second s.it; is = second_is s.bools s.ints s.it s.stands l }

    pub step_leaf : w < 12 → BoolStepPost ws at (at + 2) 0
    step_leaf l nb ni e r =
        let t = bool_code_is nb ni e r in
        leaf_inv e (code_low nb ni e r.vars) (omega arith) (λ b q. rw q (refl, refl)) (λ v q. rw q (refl, refl))

    module _ (l12 : 12 ≤ w) (l14 : w < 14) (n : ℕ) (hn : get_or ws (at + 1) (pos 0) ≡ pos n) where
      pub the_list : {X : Type 0} (nb ni : ℕ) (e : BoolExpr) → BoolAt nb ni ws at e → ((b : Bool) (ms : Members) → e ≡ list_of b ms → w ≡ 12 + bit b → n ≡ count_members ms → X) → X
      unfolding second
      the_list nb ni e r go =
          let t = bool_code_is nb ni e r in
          list_inv e (omega arith) (omega arith) λ b ms q tb.
          go b ms q (omega arith) (pos_eq _ _ _ hn (second_is nb ni e r (λ l. absurd (omega arith))) ∙ ap second q ∙ second_list b ms)
        where
          second_list : (b : Bool) (ms : Members) → second (list_of b ms) ≡ count_members ms
          second_list false ms = refl
          second_list true ms = refl

      pub step_list : BoolStepPost ws at (at + 2) n
      step_list nb ni e r = the_list nb ni e r λ b ms q tb s. rw q (go b ms s)
        where
          go : (b : Bool) (ms : Members) → n ≡ count_members ms → (at + 2 ≡ at + own_bool (list_of b ms)) × (n ≡ count_members (inner (list_of b ms)))
          go false ms s = (refl, s)
          go true ms s = (refl, s)

    pub step_not : w ≡ 14 → BoolStepPost ws at (at + 1) 1
    step_not h nb ni e r = not_inv e (bool_code_is nb ni e r ∙ h) λ x q. rw q (refl, refl)

    pub step_two : 14 < w → w < 18 → BoolStepPost ws at (at + 1) 2
    step_two l k nb ni e r =
        let t = bool_code_is nb ni e r in
        binary_inv e (omega arith) (λ z. omega arith) λ o a b q tb. rw q (go o a b)
      where
        go : (o : Op) (a b : BoolExpr) → (at + 1 ≡ at + own_bool (expr_of o a b)) × (2 ≡ count_members (inner (expr_of o a b)))
        go op_xor a b = (refl, refl)
        go op_iff a b = (refl, refl)
        go op_imp a b = (refl, refl)

    -- the last code there is
    pub at_18 : 18 ≤ w → SomeBool ws at → w ≡ 18
    at_18 l s = let t = bool_code_is s.bools s.ints s.it s.stands in omega (arith, t, l, code_high s.it)

    module _ (h18 : w ≡ 18) where
      -- the two sides of a comparison
      pub sides : {X : Type 0} (nb ni : ℕ) (e : BoolExpr) → BoolAt nb ni ws at e
          → ((o : CmpOp) (a b : IntExpr) → e ≡ Cmp o a b → IntAt nb ni ws (at + 2) a → IntAt nb ni ws (at + 2 + length (encode_int a)) b → X) → X
      unfolding encode_bool EveryOf
      sides nb ni e r go =
          cmp_inv e (bool_code_is nb ni e r ∙ h18) λ o a b q.
          let k : at + 2 ≡ at + 1 + 1 = omega arith in
          let y = rw q at r in
          let g : Has ws at (pos 18 ∷ encode_op o ∷ (encode_int a ++ encode_int b)) = y.words in
          let h : Has ws (at + 2) (encode_int a ++ encode_int b) = rw k (has_rest ws (at + 1) _ _ (has_rest ws at _ _ g)) in
          go o a b q (record { words = has_front ws (at + 2) (encode_int a) (encode_int b) h; vars = y.vars.0 }) (record { words = has_back ws (at + 2) (encode_int a) (encode_int b) h; vars = y.vars.1 })

      pub step_left : SomeBool ws at → SomeInt ws (at + 2)
      step_left s = sides s.bools s.ints s.it s.stands λ o a b q h g. record { bools = s.bools; ints = s.ints; it = a; stands = h }

      module _ (m : ℕ) (p : SkipPost ws (at + 2) m) where
        pub step_right : SomeBool ws at → SomeInt ws m × (at + 1 < m)
        step_right s =
            sides s.bools s.ints s.it s.stands λ o a b q h g.
            let e : m ≡ at + 2 + length (encode_int a) = p s.bools s.ints a h in
            (record { bools = s.bools; ints = s.ints; it = b; stands = rw e g }, omega arith)

        pub step_cmp : (r : ℕ) → SkipPost ws m r → BoolStepPost ws at r 0
        step_cmp r p' nb ni e y =
            sides nb ni e y λ o a b q h g.
            let em : m ≡ at + 2 + length (encode_int a) = p nb ni a h in
            let er : r ≡ m + length (encode_int b) = p' nb ni b (rw em g) in
            rw q (omega arith, refl)

-- ---- `skip_members`

pub members_none : (ws : List ℤ) (at n : ℕ) → n ≡ 0 → SkipMembersPost ws at n at
unfolding encode_bool
members_none ws at n z nb ni mnil r = omega arith
members_none ws at n z nb ni (more e ms) r = absurd (let s : n ≡ suc (count_members ms) = r.size in omega arith)

pub members_room : (ws : List ℤ) (at n : ℕ) → SomeMembers ws at n → n ≤ length ws
members_room ws at n s = go s.them s.stand
  where
    go : (ms : Members) → MembersAt s.bools s.ints ws at n ms → n ≤ length ws
    go mnil r = omega (arith, r.size)
    go (more e ms) r =
        let l = members_long s.bools s.ints (more e ms) r.vars in
        let k : n ≡ suc (count_members ms) = r.size in
        omega (arith, l, has_fits ws at (encode_members (more e ms)) r.words (omega (arith, l)))

module _ (ws : List ℤ) (at n : ℕ) (z : n ≡ 0 → ⊥) where
  pub first_inv : {X : Type 0} (nb ni : ℕ) (ms : Members) → MembersAt nb ni ws at n ms
      → ((e : BoolExpr) (us : Members) → ms ≡ more e us → BoolAt nb ni ws at e → MembersAt nb ni ws (at + length (encode_bool e)) (n - 1) us → X) → X
  unfolding encode_bool EveryOf
  first_inv nb ni mnil r go = absurd (z r.size)
  first_inv nb ni (more e us) r go =
      let s : n ≡ suc (count_members us) = r.size in
      go e us refl (record { words = has_front ws at (encode_bool e) (encode_members us) r.words; vars = r.vars.0 })
      (record { words = has_back ws at (encode_bool e) (encode_members us) r.words; vars = r.vars.1; size = omega arith })

  pub member_some : SomeMembers ws at n → SomeBool ws at
  member_some s = first_inv s.bools s.ints s.them s.stand λ e us q h k. record { bools = s.bools; ints = s.ints; it = e; stands = h }

  module _ (x k : ℕ) (p : BoolStepPost ws at x k) where
    -- what an expression's own words leave, in front of the others
    pending : (nb ni : ℕ) (ms : Members) → MembersAt nb ni ws at n ms → (e : BoolExpr) (us : Members) → ms ≡ more e us → MembersAt nb ni ws x (n - 1 + k) (join_members (inner e) us)
    unfolding encode_bool EveryOf
    pending nb ni ms r e us q =
        let g : MembersAt nb ni ws at n (more e us) = subst (λ m. MembersAt nb ni ws at n m) q r in
        let f : List ℤ = encode_members us in
        let i : List ℤ = encode_members (inner e) in
        let h : Has ws at (own_words e ++ (i ++ f)) = subst (λ l. Has ws at l) (ap (λ l. l ++ f) (split_words e) ∙ append_assoc (own_words e) i f) g.words in
        let y = p nb ni e (record { words = has_front ws at (encode_bool e) f g.words; vars = g.vars.0 }) in
        let l : at + length (own_words e) ≡ x = omega (arith, own_size e, y.0) in
        let s : n ≡ suc (count_members us) = g.size in
        record {
          words = subst (λ m. Has ws x m) (sym (members_words (inner e) us)) (subst (λ m. Has ws m (i ++ f)) l (has_back ws at (own_words e) (i ++ f) h));
          vars = members_declared nb ni (inner e) us (inner_declared nb ni e g.vars.0) g.vars.1;
          size = omega (arith, members_count (inner e) us, y.1);
        }

    pub members_some : SomeMembers ws at n → SomeMembers ws x (n - 1 + k) × (at < x) × (at < length ws)
    members_some s =
        first_inv s.bools s.ints s.them s.stand λ e us q h g. (
          record { bools = s.bools; ints = s.ints; them = join_members (inner e) us; stand = pending s.bools s.ints s.them s.stand e us q },
          omega (arith, (p s.bools s.ints e h).0, own_some s.bools s.ints e h.vars),
          omega (arith, bool_inside ws at (member_some s)),
        )

    pub members_skip : (r : ℕ) → SkipMembersPost ws x (n - 1 + k) r → SkipMembersPost ws at n r
    unfolding encode_bool
    members_skip r t nb ni ms y =
        first_inv nb ni ms y λ e us q h g.
        let b = t nb ni (join_members (inner e) us) (pending nb ni ms y e us q) in
        let o = (p nb ni e h).0 in
        rw q (omega (arith, b, o, own_size e, ap length (split_words e), length-append (own_words e) (encode_members (inner e)), ap length (members_words (inner e) us), length-append (encode_members (inner e)) (encode_members us), length-append (encode_bool e) (encode_members us)))
