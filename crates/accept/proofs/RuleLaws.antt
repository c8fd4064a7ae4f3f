-- What the walk over a rule's pending expressions asks and gives at each step, over variables. Assumes nothing.
use Prim.Native.Nat.{ℕ, suc, ◌+◌, ◌-◌, ◌≤◌, ◌<◌, min}
use mathlib.Core.Path.{◌≡◌, refl, sym, ap, ◌∙◌, subst}
use mathlib.Core.Bool.{Bool, ◌||◌, or-false}
use mathlib.Core.List.{List, [], ◌∷◌, ◌++◌, map, append_assoc, append-nil}
use native.Mathlib.Omega.{arith}
use lib.IntN.{ℤ, pos, negsuc}
use lib.ListN.{length, get_or, length-append}
use Rattle.laws.specs.Bools.{or_assoc}
use Rattle.laws.specs.Lists.{any, any_append, flat}
use Rattle.laws.specs.Slices.{Has, has_fits, has_front, has_back, has_word, has_rest}
use Rattle.laws.specs.Ints.{pos_eq}
use Rattle.syntax.specs.Syntax.{Domain, IntExpr, encode_int, CmpOp, BoolExpr, Const, Var, NVar, And, Or, Not, Xor, Iff, Imp, Cmp, Members, mnil, more, count_members, encode_bit, encode_op, encode_bool, encode_members}
use Rattle.syntax.specs.Written.{EveryOf}
use Rattle.syntax.specs.Codes.{bool_code}
use Rattle.domains.specs.Declared.{Plain}
use Rattle.limits.specs.Limits.{any_comparison, any_comparison_members, any_inside}
use Rattle.accept.specs.Walk.{IntAt, first_of, test_comparison, test_branch, test_bool, test_pair, ReadyPair, PairPost, Usable, UsableMembers, UsableAll, listed, parts, head_length, own_test, BoolAt, BoolsAt, ReadyBool, ReadyBools, StepPost, BoolsPost}
use Rattle.accept.proofs.FirstLaws.{first_cong, first_join}

-- ---- an expression's own words, and those of its parts

abbrev own_words : BoolExpr → List ℤ
own_words (Const b) = pos 10 ∷ encode_bit b ∷ []
own_words (Var v) = pos 11 ∷ pos v ∷ []
own_words (NVar n) = negsuc n ∷ []
own_words (And ms) = pos 12 ∷ pos (count_members ms) ∷ []
own_words (Or ms) = pos 13 ∷ pos (count_members ms) ∷ []
own_words (Not e) = pos 14 ∷ []
own_words (Xor a b) = pos 15 ∷ []
own_words (Iff a b) = pos 16 ∷ []
own_words (Imp a b) = pos 17 ∷ []
own_words (Cmp o a b) = pos 18 ∷ encode_op o ∷ (encode_int a ++ encode_int b)

members_words : (ms : Members) → encode_members ms ≡ flat (map encode_bool (listed ms))
unfolding encode_bool
members_words mnil = refl
members_words (more e ms) = ap (λ l. encode_bool e ++ l) (members_words ms)

two_words : (a b : BoolExpr) → encode_bool a ++ encode_bool b ≡ flat (map encode_bool (a ∷ b ∷ []))
two_words a b = ap (λ l. encode_bool a ++ l) (sym (append-nil (encode_bool b)))

split_words : (e : BoolExpr) → encode_bool e ≡ own_words e ++ flat (map encode_bool (parts e))
unfolding encode_bool
split_words (Const b) = refl
split_words (Var v) = refl
split_words (NVar n) = refl
split_words (And ms) = ap (λ l. pos 12 ∷ pos (count_members ms) ∷ l) (members_words ms)
split_words (Or ms) = ap (λ l. pos 13 ∷ pos (count_members ms) ∷ l) (members_words ms)
split_words (Not e) = ap (λ l. pos 14 ∷ l) (sym (append-nil (encode_bool e)))
split_words (Xor a b) = ap (λ l. pos 15 ∷ l) (two_words a b)
split_words (Iff a b) = ap (λ l. pos 16 ∷ l) (two_words a b)
split_words (Imp a b) = ap (λ l. pos 17 ∷ l) (two_words a b)
split_words (Cmp o a b) = sym (append-nil (pos 18 ∷ encode_op o ∷ (encode_int a ++ encode_int b)))

own_length : (e : BoolExpr) → length (own_words e) ≡ head_length e
own_length (Const b) = refl
own_length (Var v) = refl
own_length (NVar n) = refl
own_length (And ms) = refl
own_length (Or ms) = refl
own_length (Not e) = refl
own_length (Xor a b) = refl
own_length (Iff a b) = refl
own_length (Imp a b) = refl
own_length (Cmp o a b) = omega (arith, length-append (encode_int a) (encode_int b))

head_some : (ni : ℕ) (e : BoolExpr) → Usable ni e → 0 < head_length e
unfolding EveryOf
head_some ni (Const b) u = omega arith
head_some ni (Var v) u = omega arith
head_some ni (NVar n) u = absurd u
head_some ni (And ms) u = omega arith
head_some ni (Or ms) u = omega arith
head_some ni (Not e) u = omega arith
head_some ni (Xor a b) u = omega arith
head_some ni (Iff a b) u = omega arith
head_some ni (Imp a b) u = omega arith
head_some ni (Cmp o a b) u = omega arith

bool_some : (ni : ℕ) (e : BoolExpr) → Usable ni e → 0 < length (encode_bool e)
bool_some ni e u = omega (arith, ap length (split_words e), length-append (own_words e) (flat (map encode_bool (parts e))), own_length e, head_some ni e u)

module _ (f : IntExpr → IntExpr → Bool) (g : IntExpr → Bool) where
  listed_test : (ms : Members) → any_comparison_members f g ms ≡ any (any_comparison f g) (listed ms)
  unfolding any_comparison
  listed_test mnil = refl
  listed_test (more e ms) = ap (λ b. any_comparison f g e || b) (listed_test ms)

  -- a comparison with what stands inside
  abbrev whole : IntExpr → IntExpr → Bool
  whole a b = f a b || (any_inside f g a || any_inside f g b)

  split_test : (e : BoolExpr) → any_comparison f g e ≡ own_test whole e || any (any_comparison f g) (parts e)
  unfolding any_comparison
  split_test (Const b) = refl
  split_test (Var v) = refl
  split_test (NVar n) = refl
  split_test (And ms) = listed_test ms
  split_test (Or ms) = listed_test ms
  split_test (Not e) = sym (or-false (any_comparison f g e))
  split_test (Xor a b) = ap (λ t. any_comparison f g a || t) (sym (or-false (any_comparison f g b)))
  split_test (Iff a b) = ap (λ t. any_comparison f g a || t) (sym (or-false (any_comparison f g b)))
  split_test (Imp a b) = ap (λ t. any_comparison f g a || t) (sym (or-false (any_comparison f g b)))
  split_test (Cmp o a b) = sym (or-false (whole a b))

module _ (ni : ℕ) where
  listed_usable : (ms : Members) → UsableMembers ni ms → UsableAll ni (listed ms)
  unfolding EveryOf UsableAll
  listed_usable mnil u = tt
  listed_usable (more e ms) u = (u.0, listed_usable ms u.1)

  parts_usable : (e : BoolExpr) → Usable ni e → UsableAll ni (parts e)
  unfolding EveryOf UsableAll
  parts_usable (Const b) u = tt
  parts_usable (Var v) u = tt
  parts_usable (NVar n) u = tt
  parts_usable (And ms) u = listed_usable ms u
  parts_usable (Or ms) u = listed_usable ms u
  parts_usable (Not e) u = (u, tt)
  parts_usable (Xor a b) u = (u.0, (u.1, tt))
  parts_usable (Iff a b) u = (u.0, (u.1, tt))
  parts_usable (Imp a b) u = (u.0, (u.1, tt))
  parts_usable (Cmp o a b) u = tt

  join_usable : (es us : List BoolExpr) → UsableAll ni es → UsableAll ni us → UsableAll ni (es ++ us)
  unfolding UsableAll
  join_usable [] us h k = k
  join_usable (e ∷ es) us h k = (h.0, join_usable es us h.1 k)

  usable_few : (es : List BoolExpr) → UsableAll ni es → length es ≤ length (flat (map encode_bool es))
  unfolding UsableAll
  usable_few [] u = omega arith
  usable_few (e ∷ es) u = omega (arith, bool_some ni e u.0, usable_few es u.1, length-append (encode_bool e) (flat (map encode_bool es)))

flat_map : (es us : List BoolExpr) → flat (map encode_bool (es ++ us)) ≡ flat (map encode_bool es) ++ flat (map encode_bool us)
flat_map [] us = refl
flat_map (e ∷ es) us = ap (λ l. encode_bool e ++ l) (flat_map es us) ∙ sym (append_assoc (encode_bool e) (flat (map encode_bool es)) (flat (map encode_bool us)))

-- its own test, then those of its parts and of the rest
own_first : (m : ℕ) (ds : List Domain) (e : BoolExpr) (us : List BoolExpr)
    → own_test (test_pair m ds) e || any (test_bool m ds) (parts e ++ us) ≡ any (test_bool m ds) (e ∷ us)
own_first m ds e us =
    let test = test_bool m ds in
    let own = own_test (test_pair m ds) e in
    ap (λ b. own || b) (any_append test (parts e) us) ∙ sym (or_assoc own (any test (parts e)) (any test us)) ∙ ap (λ b. b || any test us) (sym (split_test (test_comparison m ds) (test_branch m) e))

-- ---- `rule_step`

code_word : (ni : ℕ) (ws : List ℤ) (at : ℕ) (e : BoolExpr) → BoolAt ni ws at e → get_or ws at (pos 0) ≡ pos (bool_code e)
unfolding encode_bool EveryOf
code_word ni ws at (Const b) r = has_word ws at _ _ (pos 0) r.words
code_word ni ws at (Var v) r = has_word ws at _ _ (pos 0) r.words
code_word ni ws at (NVar n) r = absurd r.usable
code_word ni ws at (And ms) r = has_word ws at _ _ (pos 0) r.words
code_word ni ws at (Or ms) r = has_word ws at _ _ (pos 0) r.words
code_word ni ws at (Not e) r = has_word ws at _ _ (pos 0) r.words
code_word ni ws at (Xor a b) r = has_word ws at _ _ (pos 0) r.words
code_word ni ws at (Iff a b) r = has_word ws at _ _ (pos 0) r.words
code_word ni ws at (Imp a b) r = has_word ws at _ _ (pos 0) r.words
code_word ni ws at (Cmp o a b) r = has_word ws at _ _ (pos 0) r.words

listed_count : (ms : Members) → count_members ms ≡ length (listed ms)
listed_count mnil = refl
listed_count (more e ms) = ap suc (listed_count ms)

module _ (ws work : List ℤ) (at ni : ℕ) where
  pub bool_inside : ReadyBool ws work at ni → at < length ws
  bool_inside r = omega (arith, has_fits ws at (encode_bool r.it) r.reads.words (bool_some ni r.it r.reads.usable), bool_some ni r.it r.reads.usable)

  pub bool_plain : ReadyBool ws work at ni → Plain ws at
  bool_plain r = record { inside = bool_inside r; value = bool_code r.it; is = code_word ni ws at r.it r.reads }

  module _ (w : ℕ) (hw : get_or ws at (pos 0) ≡ pos w) where
    code_is : (e : BoolExpr) → BoolAt ni ws at e → bool_code e ≡ w
    code_is e r = pos_eq _ _ _ (code_word ni ws at e r) hw

    pub step_leaf : w < 12 → StepPost ws work at ni (at + 2) 0 12
    unfolding EveryOf first_of test_comparison
    step_leaf l ds e b q r = go e (code_is e r) r
      where
        go : (e : BoolExpr) → bool_code e ≡ w → BoolAt ni ws at e → (at + 2 ≡ at + head_length e) × (0 ≡ length (parts e)) × (12 ≡ first_of (λ m. own_test (test_pair m ds) e))
        go (Const b) t r = (refl, refl, refl)
        go (Var v) t r = (refl, refl, refl)
        go (NVar n) t r = absurd r.usable
        go (And ms) t r = absurd (omega arith)
        go (Or ms) t r = absurd (omega arith)
        go (Not e) t r = absurd (omega arith)
        go (Xor a b) t r = absurd (omega arith)
        go (Iff a b) t r = absurd (omega arith)
        go (Imp a b) t r = absurd (omega arith)
        go (Cmp o a b) t r = absurd (omega arith)

    pub list_plain : (w < 12 → ⊥) → w < 14 → ReadyBool ws work at ni → Plain ws (at + 1)
    unfolding encode_bool EveryOf
    list_plain l k y = go y.it (code_is y.it y.reads) y.reads
      where
        go : (e : BoolExpr) → bool_code e ≡ w → BoolAt ni ws at e → Plain ws (at + 1)
        go (Const b) t r = absurd (omega arith)
        go (Var v) t r = absurd (omega arith)
        go (NVar n) t r = absurd r.usable
        go (And ms) t r = record { inside = omega (arith, has_fits ws at (encode_bool (And ms)) r.words (omega arith)); value = count_members ms; is = has_word ws (at + 1) _ _ (pos 0) (has_rest ws at _ _ r.words) }
        go (Or ms) t r = record { inside = omega (arith, has_fits ws at (encode_bool (Or ms)) r.words (omega arith)); value = count_members ms; is = has_word ws (at + 1) _ _ (pos 0) (has_rest ws at _ _ r.words) }
        go (Not e) t r = absurd (omega arith)
        go (Xor a b) t r = absurd (omega arith)
        go (Iff a b) t r = absurd (omega arith)
        go (Imp a b) t r = absurd (omega arith)
        go (Cmp o a b) t r = absurd (omega arith)

    pub step_list : (w < 12 → ⊥) → w < 14 → (n : ℕ) → get_or ws (at + 1) (pos 0) ≡ pos n → StepPost ws work at ni (at + 2) n 12
    unfolding encode_bool EveryOf first_of test_comparison
    step_list l k n hn ds e b q r = go e (code_is e r) r
      where
        go : (e : BoolExpr) → bool_code e ≡ w → BoolAt ni ws at e → (at + 2 ≡ at + head_length e) × (n ≡ length (parts e)) × (12 ≡ first_of (λ m. own_test (test_pair m ds) e))
        go (Const b) t r = absurd (omega arith)
        go (Var v) t r = absurd (omega arith)
        go (NVar n) t r = absurd r.usable
        go (And ms) t r = (refl, pos_eq _ _ _ hn (has_word ws (at + 1) _ _ (pos 0) (has_rest ws at _ _ r.words)) ∙ listed_count ms, refl)
        go (Or ms) t r = (refl, pos_eq _ _ _ hn (has_word ws (at + 1) _ _ (pos 0) (has_rest ws at _ _ r.words)) ∙ listed_count ms, refl)
        go (Not e) t r = absurd (omega arith)
        go (Xor a b) t r = absurd (omega arith)
        go (Iff a b) t r = absurd (omega arith)
        go (Imp a b) t r = absurd (omega arith)
        go (Cmp o a b) t r = absurd (omega arith)

    pub step_not : w ≡ 14 → StepPost ws work at ni (at + 1) 1 12
    unfolding EveryOf first_of test_comparison
    step_not z ds e b q r = go e (code_is e r) r
      where
        go : (e : BoolExpr) → bool_code e ≡ w → BoolAt ni ws at e → (at + 1 ≡ at + head_length e) × (1 ≡ length (parts e)) × (12 ≡ first_of (λ m. own_test (test_pair m ds) e))
        go (Const b) t r = absurd (omega arith)
        go (Var v) t r = absurd (omega arith)
        go (NVar n) t r = absurd r.usable
        go (And ms) t r = absurd (omega arith)
        go (Or ms) t r = absurd (omega arith)
        go (Not e) t r = (refl, refl, refl)
        go (Xor a b) t r = absurd (omega arith)
        go (Iff a b) t r = absurd (omega arith)
        go (Imp a b) t r = absurd (omega arith)
        go (Cmp o a b) t r = absurd (omega arith)

    pub step_two : (w < 14 → ⊥) → (w ≡ 14 → ⊥) → w < 18 → StepPost ws work at ni (at + 1) 2 12
    unfolding EveryOf first_of test_comparison
    step_two l z k ds e b q r = go e (code_is e r) r
      where
        go : (e : BoolExpr) → bool_code e ≡ w → BoolAt ni ws at e → (at + 1 ≡ at + head_length e) × (2 ≡ length (parts e)) × (12 ≡ first_of (λ m. own_test (test_pair m ds) e))
        go (Const b) t r = absurd (omega arith)
        go (Var v) t r = absurd (omega arith)
        go (NVar n) t r = absurd r.usable
        go (And ms) t r = absurd (omega arith)
        go (Or ms) t r = absurd (omega arith)
        go (Not e) t r = absurd (omega arith)
        go (Xor a b) t r = (refl, refl, refl)
        go (Iff a b) t r = (refl, refl, refl)
        go (Imp a b) t r = (refl, refl, refl)
        go (Cmp o a b) t r = absurd (omega arith)

    -- the two sides of a comparison
    sides : (o : CmpOp) (a b : IntExpr) → BoolAt ni ws at (Cmp o a b) → IntAt ni ws (at + 2) a × IntAt ni ws (at + 2 + length (encode_int a)) b
    unfolding encode_bool EveryOf
    sides o a b r =
        let k : at + 2 ≡ at + 1 + 1 = omega arith in
        let h : Has ws (at + 2) (encode_int a ++ encode_int b) = rw k (has_rest ws (at + 1) _ _ (has_rest ws at _ _ r.words)) in
        (record { words = has_front ws (at + 2) (encode_int a) (encode_int b) h; vars = r.usable.0 }, record { words = has_back ws (at + 2) (encode_int a) (encode_int b) h; vars = r.usable.1 })

    pub cmp_ready : (w < 18 → ⊥) → ReadyBool ws work at ni → ReadyPair ws work (at + 2) ni
    unfolding EveryOf
    cmp_ready l y = go y.it (code_is y.it y.reads) y.reads
      where
        go : (e : BoolExpr) → bool_code e ≡ w → BoolAt ni ws at e → ReadyPair ws work (at + 2) ni
        go (Const b) t r = absurd (omega arith)
        go (Var v) t r = absurd (omega arith)
        go (NVar n) t r = absurd r.usable
        go (And ms) t r = absurd (omega arith)
        go (Or ms) t r = absurd (omega arith)
        go (Not e) t r = absurd (omega arith)
        go (Xor a b) t r = absurd (omega arith)
        go (Iff a b) t r = absurd (omega arith)
        go (Imp a b) t r = absurd (omega arith)
        go (Cmp o a b) t r = let s = sides o a b r in record { ds = y.ds; bounds = y.bounds; few = y.few; left = a; right = b; left_at = s.0; right_at = s.1; behind = omega arith }

    pub step_cmp : (w < 18 → ⊥) → (x k : ℕ) → PairPost ws work (at + 2) ni x k → StepPost ws work at ni x 0 k
    unfolding EveryOf
    step_cmp l x k p ds e bs q r = go e (code_is e r) r
      where
        go : (e : BoolExpr) → bool_code e ≡ w → BoolAt ni ws at e → (x ≡ at + head_length e) × (0 ≡ length (parts e)) × (k ≡ first_of (λ m. own_test (test_pair m ds) e))
        go (Const b) t r = absurd (omega arith)
        go (Var v) t r = absurd (omega arith)
        go (NVar n) t r = absurd r.usable
        go (And ms) t r = absurd (omega arith)
        go (Or ms) t r = absurd (omega arith)
        go (Not e) t r = absurd (omega arith)
        go (Xor a b) t r = absurd (omega arith)
        go (Iff a b) t r = absurd (omega arith)
        go (Imp a b) t r = absurd (omega arith)
        go (Cmp o a b) t r = let s = sides o a b r in let y = p ds a b bs q s.0 s.1 in let v = y.0 in (omega arith, refl, y.1)

-- ---- `rules`

pub rules_none : (ws work : List ℤ) (at n ni k : ℕ) → n ≡ 0 → k ≤ 12 → BoolsPost ws work at n ni k at k
unfolding first_of
rules_none ws work at n ni k z l ds [] b q r = (omega arith, omega arith)
rules_none ws work at n ni k z l ds (e ∷ es) b q r = absurd (let s : n ≡ suc (length es) = r.size in omega arith)

module _ (ws work : List ℤ) (at n ni : ℕ) (z : n ≡ 0 → ⊥) where
  rules_inv : {X : Type 0} (es : List BoolExpr) → BoolsAt ni ws at n es
      → ((e : BoolExpr) (us : List BoolExpr) → es ≡ e ∷ us → n ≡ suc (length us) → BoolAt ni ws at e → Has ws (at + head_length e) (flat (map encode_bool (parts e ++ us))) → UsableAll ni (parts e ++ us) → X) → X
  unfolding UsableAll
  rules_inv [] r go = absurd (z r.size)
  rules_inv (e ∷ us) r go =
      let f : List ℤ = flat (map encode_bool us) in
      let g : List ℤ = flat (map encode_bool (parts e)) in
      let h : Has ws at (own_words e ++ (g ++ f)) = subst (λ l. Has ws at l) (ap (λ l. l ++ f) (split_words e) ∙ append_assoc (own_words e) g f) r.words in
      let k : Has ws (at + head_length e) (g ++ f) = subst (λ l. Has ws (at + l) (g ++ f)) (own_length e) (has_back ws at (own_words e) (g ++ f) h) in
      go e us refl r.size (record { words = has_front ws at (encode_bool e) f r.words; usable = r.usable.0 }) (subst (λ l. Has ws (at + head_length e) l) (sym (flat_map (parts e) us)) k)
      (join_usable ni (parts e) us (parts_usable ni e r.usable.0) r.usable.1)

  pub rule_first : ReadyBools ws work at n ni → ReadyBool ws work at ni
  rule_first r = rules_inv r.them r.reads λ e us q l i h u. record { ds = r.ds; bounds = r.bounds; few = r.few; it = e; reads = i }

  module _ (x k w : ℕ) (p : StepPost ws work at ni x k w) where
    pub rules_ready : ReadyBools ws work at n ni → ReadyBools ws work x (n - 1 + k) ni × (at < x)
    rules_ready r =
        rules_inv r.them r.reads λ e us t l i h u.
        let s = p r.ds e r.bounds r.few i in
        let v = s.0 in
        (record { ds = r.ds; bounds = r.bounds; few = r.few; them = parts e ++ us; reads = record { words = rw v h; usable = u; size = omega (arith, length-append (parts e) us, s.1) } }, omega (arith, head_some ni e i.usable))

    pub rules_rest : (k₀ k₁ y k' : ℕ) → k₁ ≡ min k₀ w → BoolsPost ws work x (n - 1 + k) ni k₁ y k' → BoolsPost ws work at n ni k₀ y k'
    rules_rest k₀ k₁ y k' g o ds es b q r =
        rules_inv es r λ e us t l i h u.
        let s = p ds e b q i in
        let a = s.0 in
        let c = o ds (parts e ++ us) b q (record { words = rw a h; usable = u; size = omega (arith, length-append (parts e) us, s.1) }) in
        let c0 : y ≡ x + length (flat (map encode_bool (parts e ++ us))) = c.0 in
        let test : ℕ → BoolExpr → Bool = λ m. test_bool m ds in
        let d : first_of (λ m. own_test (test_pair m ds) e || any (test m) (parts e ++ us)) ≡ first_of (λ m. any (test m) (e ∷ us)) =
        first_cong (λ m. own_test (test_pair m ds) e || any (test m) (parts e ++ us)) (λ m. any (test m) (e ∷ us)) (λ m. own_first m ds e us) in
        rw t (
          omega (arith, ap length (flat_map (parts e) us), length-append (flat (map encode_bool (parts e))) (flat (map encode_bool us)), length-append (encode_bool e) (flat (map encode_bool us)), ap length (split_words e), length-append (own_words e) (flat (map encode_bool (parts e))), own_length e),
          first_join (λ m. own_test (test_pair m ds) e) (λ m. any (test m) (parts e ++ us)) k' k₀ k₁ w g s.2 c.1 ∙ ap (λ v. min k₀ v) d,
        )

pub rules_room : (ws work : List ℤ) (at n ni : ℕ) → ReadyBools ws work at n ni → n ≤ length ws
rules_room ws work at n ni r = go r.them r.reads
  where
    go : (es : List BoolExpr) → BoolsAt ni ws at n es → n ≤ length ws
    go [] y = omega (arith, y.size)
    go (e ∷ es) y = let u = usable_few ni (e ∷ es) y.usable in let s : n ≡ suc (length es) = y.size in omega (arith, has_fits ws at (flat (map encode_bool (e ∷ es))) y.words (omega arith))
