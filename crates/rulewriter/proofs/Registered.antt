-- What Ifs add before an expression's own clauses, step by step.
use mathlib.Core.Path.{◌≡◌, refl, sym, ap, ◌∙◌, subst}
use mathlib.Core.Bool.{Bool, true, false, not, cond}
use mathlib.Core.Option.{none}
use mathlib.Core.List.{List, [], ◌∷◌, ◌++◌}
use Prim.Native.Nat.{ℕ, zero, suc, ◌+◌, ◌-◌, ◌≤◌, min}
use native.Mathlib.Omega.{arith}
use native.Mathlib.Numerals.{sub-one}
use lib.IntN.{ℤ, pos}
use lib.ListN.{length, get_or}
use lib.Dec.{eqb}
use borrow.Author.Tests.{ne_eqb}
use Rattle.laws.specs.Writes.{cap, Wrote, wrote_none, wrote_then, wrote_length, wrote_low, Open}
use Rattle.memory.specs.Places.{folded_end, limit}
use Rattle.sums.specs.LinearSum.{LinearSum}
use Rattle.walk.specs.Item.{bump, lines_of}
use Rattle.walk.specs.Decode.{word, past, read_part}
use Rattle.walk.specs.declared.Counters.{Counters}
use Rattle.walk.specs.declared.Node.TheVariants.{Var, Cmp, Not, Join, Cross}
use Rattle.walk.proofs.NumberingSteps.{part_length}
use Rattle.walks.specs.Tree.{Splitting, here, inner}
use Rattle.walks.specs.Form.{Form, Forms, TermForms, none as no_terms, term, joined}
use Rattle.walks.specs.Item.{Item, IntItem, regs, reg_lines, counts, var_item, num_item, cmp_item, conj_item, disj_item, cross_item, const_item, ivar_item, no_terms_item, term_item, sum_item, condition_item, open_item, equal_item, more_bools, more_ints, Seen, unseen, both_constant, numbered, constant_in, number_in, passed, seen, block_words, block_lines, if_making, constant_making, choice_item, form_item, form_items, form_int_item, form_terms_item}
use Rattle.walks.specs.Decode.{Read, IntRead, many, cross_step, step, many_terms, if_step, int_step, decode, decode_int}
use Rattle.walks.specs.SumsFit.{FormFits, InsideFits, TermsFit}
use Rattle.scan.specs.Nodes.{int_level}
use Rattle.scan.specs.IfLaws.{seen_code, seen_at, passed_at}
use Rattle.scan.specs.Skip.{Skips}
use Rattle.scan.specs.SurveyLaws.{counters_of, Surveys, SurveysAll, IntSurveys}
use Rattle.scan.specs.declared.Behind.{Behind}
use Rattle.scan.specs.declared.Scanned.{Scanned}
use Rattle.rulewriter.specs.declared.Added.{Added}
use Rattle.rulewriter.specs.Places.{Placed, item_at, items_at, int_at, terms_at, left_at, right_at, Fit, IntFit, AllTermsFit, BranchFits}
use Rattle.rulewriter.specs.Making.{Puts, sides_adds, sides_added, crossed, if_at, made, opened}
use Rattle.rulewriter.proofs.Steps.{cross_whole, Is, up, items_is}

-- ---- parts

pub puts_none : {out : List ℤ} {o : ℕ} (r : Added) → Open out o → (r.lines ≡ 0) × (r.o ≡ o) → Puts [] 0 out o out r
puts_none {out} {o} r h e = record { wrote = rw e.1 (wrote_none out o h.low); lines = e.0 }

pub puts_both : {us vs : List ℤ} {i j : ℕ} {out a b : List ℤ} {o : ℕ} (x y r : Added) → Open out o → Puts us i out o a x → Puts vs j a x.o b y → (r.lines ≡ bump x.lines y.lines) × (r.o ≡ y.o) → Puts (us ++ vs) (bump i j) out o b r
puts_both x y r h f g e = record { wrote = rw e.1 (wrote_then h.room f.wrote g.wrote); lines = e.0 ∙ rw (f.lines, g.lines) refl }

pub puts_length : {us : List ℤ} {k : ℕ} {out a : List ℤ} {o : ℕ} {r : Added} → Puts us k out o a r → length a ≡ length out
puts_length f = wrote_length f.wrote

-- ---- an expression

abbrev Adds : Item → List ℤ → Counters → List ℤ → ℕ → List ℤ → Added → Type 0
Adds i w n out o a r = Puts (i.reg w n) (i.lines w n) out o a r

pub reg_none : (w : List ℤ) (l : ℕ) (t : Splitting) (g : Bool) (at base : ℕ) (n : Counters) {out : List ℤ} {o : ℕ} (r : Added) → l ≡ 0 → Puts [] 0 out o out r → Adds (item_at w l t g at base) w n out o out r
unfolding decode form_item disj_item regs reg_lines
reg_none w l t g at base n r e x = rw e x

split_adds : (w : List ℤ) (u : ℕ) (h : Bool) (q base : ℕ) (n : Counters) {out : List ℤ} {o : ℕ} (r : Added) → Puts [] 0 out o out r → Adds (form_item [] (cross_step (decode (read_part w) u) here h q base).tree) w n out o out r
unfolding cross_step form_item cross_item num_item regs reg_lines
split_adds w u h q base n r x = x

join_adds : (w : List ℤ) (d : Bool) (ts : Forms) (n : Counters) {out a : List ℤ} {o : ℕ} {r : Added} → Puts (regs (form_items [] ts) w n) (reg_lines (form_items [] ts) w n) out o a r → Adds (form_item [] (joined d ts)) w n out o a r
unfolding form_item conj_item disj_item
join_adds w true ts n x = x
join_adds w false ts n x = x

module _ (w : List ℤ) (l u : ℕ) (t : Splitting) (g : Bool) (at base : ℕ) (z : l ≡ 0 → ⊥) (hu : u ≡ l - 1) (n : Counters) (out : List ℤ) (o : ℕ) (a : List ℤ) (r : Added) where
  abbrev Of : Read → Type 0
  Of d = Adds (form_item [] d.tree) w n out o a r

  abbrev Goal : Type 0
  Goal = Adds (item_at w l t g at base) w n out o a r

  pub reg_var : (v q : ℕ) → Is w l u t g at base z hu (Var v q) → Puts [] 0 out o a r → Goal
  unfolding step form_item var_item
  reg_var v q e x = up w l u t g at base z hu Of (Var v q) e x

  pub reg_cmp : (k q : ℕ) (j : Splitting) → j ≡ inner t → Is w l u t g at base z hu (Cmp k q) → Puts (sides_adds w u j q base n) (sides_added w u j q base n) out o a r → Goal
  unfolding step form_item cmp_item
  reg_cmp k q j hj e x = up w l u t g at base z hu Of (Cmp k q) e (rw (← hj) x)

  pub reg_not : (q : ℕ) → Is w l u t g at base z hu (Not q) → Adds (item_at w u t (not g) q base) w n out o a r → Goal
  unfolding step
  reg_not q e x = up w l u t g at base z hu Of (Not q) e x

  pub reg_join : (d : Bool) (k : ℕ) (b c : Bool) (q : ℕ) → Is w l u t g at base z hu (Join d k b c q) → Puts (regs (items_at w u t k b c q base) w n) (reg_lines (items_at w u t k b c q base) w n) out o a r → Goal
  unfolding step
  reg_join d k b c q e x = up w l u t g at base z hu Of (Join d k b c q) e (join_adds w d (many (decode (read_part w) u t) k b c q base).trees n x)

  pub reg_cross : (h : Bool) (q : ℕ) (j : Splitting) → j ≡ inner t → (t ≡ here → ⊥) → Is w l u t g at base z hu (Cross h q) → Adds (crossed w u j h q base) w n out o a r → Goal
  unfolding step form_item
  reg_cross h q j hj ht e x = up w l u t g at base z hu Of (Cross h q) e (subst (λ (f : Form). Adds (form_item [] f) w n out o a r) (sym (cross_whole (decode (read_part w) u) t h q base ht)) (rw (← hj) x))

pub reg_split : (w : List ℤ) (l u : ℕ) (t : Splitting) (g : Bool) (at base : ℕ) (z : l ≡ 0 → ⊥) (hu : u ≡ l - 1) (n : Counters) (out : List ℤ) (o : ℕ) (r : Added) (h : Bool) (q : ℕ) → t ≡ here → Is w l u t g at base z hu (Cross h q) → Puts [] 0 out o out r → Adds (item_at w l t g at base) w n out o out r
unfolding step
reg_split w l u t g at base z hu n out o r h q ht e x = up w l u t g at base z hu (λ (d : Read). Adds (form_item [] d.tree) w n out o out r) (Cross h q) e (subst (λ (t : Splitting). Adds (form_item [] (cross_step (decode (read_part w) u) t h q base).tree) w n out o out r) (sym ht) (split_adds w u h q base n r x))

pub cross_adds : (w : List ℤ) (l : ℕ) (t : Splitting) (h : Bool) (at base : ℕ) (n k : Counters) (s : Scanned) → SurveysAll w l t 2 false h at base n s → k ≡ counters_of s → {out a b : List ℤ} {o : ℕ} (x y r : Added) → Open out o
    → Puts (regs (items_at w l t 2 false h at base) w n) (reg_lines (items_at w l t 2 false h at base) w n) out o a x → Puts (regs (items_at w l t 2 true (not h) at base) w k) (reg_lines (items_at w l t 2 true (not h) at base) w k) a x.o b y
    → (r.lines ≡ bump x.lines y.lines) × (r.o ≡ y.o) → Adds (crossed w l t h at base) w n out o b r
unfolding cross_item
cross_adds w l t h at base n k s f hk x y r i p q e = puts_both x y r i p (rw (hk, f.found.count []) at q) e

-- ---- members

pub lines_low : (is : List Item) (w : List ℤ) (n : Counters) → reg_lines is w n ≤ limit
unfolding reg_lines
lines_low [] w n = omega arith
lines_low (i ∷ is) w n = omega arith

pub regs_none : (w : List ℤ) (l : ℕ) (t : Splitting) (k : ℕ) (g h : Bool) (at base : ℕ) (n : Counters) {out : List ℤ} {o : ℕ} → k ≡ 0 → Open out o → Wrote out o (regs (items_at w l t k g h at base) w n) out o × (reg_lines (items_at w l t k g h at base) w n ≡ 0)
unfolding many form_item regs reg_lines
regs_none w l t k g h at base n {out} {o} e i = rw e (wrote_none out o i.low, refl)

module _ (w : List ℤ) (l : ℕ) (t : Splitting) (k : ℕ) (g h : Bool) (at base : ℕ) (n : Counters) (z : k ≡ 0 → ⊥) (s : Scanned) (hs : Surveys w l t g at base n s) (e : Counters) (he : e ≡ counters_of s) where
  abbrev rest : List Item
  rest = items_at w l t (k - 1) h h s.part.at s.part.base

  pub regs_more : {out a b : List ℤ} {o p q : ℕ} → Open out o → Wrote out o ((item_at w l t g at base).reg w n) a p → Wrote a p (regs rest w e) b q → Wrote out o (regs (items_at w l t k g h at base) w n) b q
  unfolding regs
  regs_more c x y = rw (items_is w l t k g h at base z s.part.at s.part.base hs.skips, ← hs.found.count [], ← he) (wrote_then c.room x y)

  pub lines_more : reg_lines (items_at w l t k g h at base) w n ≡ bump ((item_at w l t g at base).lines w n) (reg_lines rest w e)
  unfolding reg_lines
  lines_more = rw (items_is w l t k g h at base z s.part.at s.part.base hs.skips, ← hs.found.count [], ← he) refl

-- ---- two sides, one behind the other

abbrev IntAdds : IntItem → List ℤ → Counters → List ℤ → ℕ → List ℤ → Added → Type 0
IntAdds i w n out o a r = Puts (i.adds w n) (i.added w n) out o a r

module _ {w : List ℤ} {l : ℕ} {m : Splitting} {at base : ℕ} {n : Counters} {y : Behind} (s : IntSurveys w l m at base n y) where
  pub second_placed : folded_end ≤ length w → Placed w y.at y.base y.n
  second_placed h = record { size = h; inside = s.skips.inside; low_base = s.skips.low; low = s.low }

  pub second_fit : IntFit (right_at w l m at base) → IntFit (decode_int (read_part w) l m y.at y.base).tree
  second_fit h = rw (s.skips.end, s.skips.next) h

  pub second_adds : {out a : List ℤ} {o : ℕ} {r : Added} → IntAdds (int_at w l m y.at y.base) w y.n out o a r → IntAdds (form_int_item [] (right_at w l m at base)) w ((form_int_item [] (left_at w l m at base)).behind w n) out o a r
  second_adds x = rw (s.skips.end, s.skips.next, s.behind []) at x

-- ---- an integer expression; k: its code

pub int_adds_none : (w : List ℤ) (l : ℕ) (m : Splitting) (at base : ℕ) (n : Counters) {out : List ℤ} {o : ℕ} (r : Added) → l ≡ 0 → Puts [] 0 out o out r → IntAdds (int_at w l m at base) w n out o out r
unfolding decode form_item const_item
int_adds_none w l m at base n r e x = rw e x

either : (P : IntRead → Type 0) (b : Bool) (x y : IntRead) → P x → P y → P (cond b x y)
either P true x y p q = p
either P false x y p q = q

module _ (w : List ℤ) (size : folded_end ≤ length w) (l u : ℕ) (m : Splitting) (at base : ℕ) (z : l ≡ 0 → ⊥) (hu : u ≡ l - 1) (k : ℕ) (hk : k ≡ word (read_part w) at) where
  abbrev F : List ℤ
  F = read_part w

  abbrev Stepped : IntRead
  Stepped = int_step F (decode F u) (decode_int F u) m at base k

  to : (P : IntRead → Type 0) → P Stepped → P (decode_int F l m at base)
  to P = subst P (sym (int_level F l u m at base k z hu hk))

  from : (P : IntRead → Type 0) → P (decode_int F l m at base) → P Stepped
  from P = subst P (int_level F l u m at base k z hu hk)

  past_is : (p q : ℕ) → q ≡ min p folded_end → past F p ≡ q
  past_is p q e = omega (arith, part_length w size)

  pub int_adds_leaf : (n : Counters) {out : List ℤ} {o : ℕ} (r : Added) → (k ≡ 22 → ⊥) → (k ≡ 23 → ⊥) → Puts [] 0 out o out r → IntAdds (int_at w l m at base) w n out o out r
  unfolding int_step form_item ivar_item const_item
  int_adds_leaf n {out} {o} r x y p =
      to (λ (d : IntRead). IntAdds (form_int_item [] d.tree) w n out o out r) (rw (ne_eqb k 22 x, ne_eqb k 23 y) (either (λ (d : IntRead). IntAdds (form_int_item [] d.tree) w n out o out r) (eqb k 21) _ _ p p))

  module _ (two x : ℕ) (e : k ≡ 22) (h : two ≡ min (at + 2) folded_end) (hx : x ≡ word F (at + 1)) where
    pub fit_sum : IntFit (decode_int F l m at base).tree → AllTermsFit (many_terms F (decode_int F u m) x two base).trees
    unfolding int_step FormFits
    fit_sum f = record { domains = f.domains; fits = rw (e, ← hx, past_is (at + 2) two h) at (from (λ (d : IntRead). InsideFits f.domains d.tree) f.fits) }

    pub int_adds_sum : (n : Counters) {out a : List ℤ} {o : ℕ} (r : Added) → Puts ((terms_at w u m x two base).adds w n) ((terms_at w u m x two base).added w n) out o a r → IntAdds (int_at w l m at base) w n out o a r
    unfolding int_step form_item sum_item
    int_adds_sum n {out} {a} {o} r p = to (λ (d : IntRead). IntAdds (form_int_item [] d.tree) w n out o a r) (rw (e, ← hx, past_is (at + 2) two h) p)

  module _ (e : k ≡ 23) where
    pub fit_if : IntFit (decode_int F l m at base).tree → IntFit (if_at w u m at base)
    unfolding int_step
    fit_if f = record { domains = f.domains; fits = rw e at (from (λ (d : IntRead). InsideFits f.domains d.tree) f.fits) }

    pub int_adds_if : (n : Counters) {out a : List ℤ} {o : ℕ} (r : Added) → IntAdds (form_int_item [] (if_at w u m at base)) w n out o a r → IntAdds (int_at w l m at base) w n out o a r
    unfolding int_step
    int_adds_if n {out} {a} {o} r p = to (λ (d : IntRead). IntAdds (form_int_item [] d.tree) w n out o a r) (rw e p)

-- ---- an If

pub record Parts (w : List ℤ) (l : ℕ) (m : Splitting) (at base : ℕ) (t : Behind) : Type 0 where
  pub plain : Fit (decode (read_part w) l m false (past (read_part w) (at + 1)) base).tree
  pub negated : Fit (decode (read_part w) l m true (past (read_part w) (at + 1)) base).tree
  pub first : BranchFits (left_at w l m t.at t.base)
  pub second : BranchFits (right_at w l m t.at t.base)
  pub inside_first : IntFit (left_at w l m t.at t.base)
  pub inside_second : IntFit (right_at w l m t.at t.base)

pub parts : (w : List ℤ) (l : ℕ) (m : Splitting) (at base : ℕ) (t : Behind) → Skips (read_part w) l m (past (read_part w) (at + 1)) base t.at t.base → IntFit (if_at w l m at base) → Parts w l m at base t
unfolding if_step FormFits
parts w l m at base t s f = rw (s.end false, s.next false) (record {
  plain = record { domains = f.domains; fits = f.fits.0 };
  negated = record { domains = f.domains; fits = f.fits.1 };
  first = record { domains = f.domains; fits = f.fits.2 };
  second = record { domains = f.domains; fits = f.fits.3 };
  inside_first = record { domains = f.domains; fits = f.fits.4 };
  inside_second = record { domains = f.domains; fits = f.fits.5 };
})

pub if_passed : (w : List ℤ) (l : ℕ) (m : Splitting) (at base : ℕ) (n : Counters) {out : List ℤ} {o : ℕ} (r : Added) → passed_at w at n.ints ≡ true → Puts [] 0 out o out r → IntAdds (form_int_item [] (if_at w l m at base)) w n out o out r
unfolding if_step form_item choice_item passed seen
if_passed w l m at base n r e x = rw e x

pub if_adds : (w : List ℤ) (l : ℕ) (m : Splitting) (at base : ℕ) (t : Behind) (n k : Counters) → Skips (read_part w) l m (past (read_part w) (at + 1)) base t.at t.base → t.n ≡ n → passed_at w at n.ints ≡ false
    → k ≡ (form_int_item [] (right_at w l m t.at t.base)).behind w ((form_int_item [] (left_at w l m t.at t.base)).behind w n) → {out a b c : List ℤ} {o : ℕ} (x y e q r : Added) → Open out o
    → IntAdds (form_int_item [] (left_at w l m t.at t.base)) w n out o a x → IntAdds (form_int_item [] (right_at w l m t.at t.base)) w ((form_int_item [] (left_at w l m t.at t.base)).behind w n) a x.o b y
    → Puts (made w l m at base t k).words (made w l m at base t k).lines b y.o c e → (q.lines ≡ bump y.lines e.lines) × (q.o ≡ e.o) → (r.lines ≡ bump x.lines q.lines) × (r.o ≡ q.o)
    → IntAdds (form_int_item [] (if_at w l m at base)) w n out o c r
unfolding if_step form_item choice_item if_making passed seen
if_adds w l m at base t n k s ht hp hk {out} {a} {b} {c} {o} x y e q r i f g h d d' =
    let i' : Open a x.o = record { low = wrote_low f.wrote; room = omega (arith, wrote_length f.wrote, i.room) } in
    let v = puts_both x q r i f (puts_both y e q i' g h d) d' in
    rw (hp) (rw (ht, hk, s.end false, s.next false) at v)

-- what making it adds, by its cell

module _ (w : List ℤ) (l : ℕ) (m : Splitting) (at base : ℕ) (t : Behind) (n : Counters) (c : ℕ) (hc : c ≡ past (read_part w) (at + 1)) (out a : List ℤ) (o : ℕ) (r : Added) where
  abbrev Made : Type 0
  Made = Puts (made w l m at base t n).words (made w l m at base t n).lines out o a r

  pub made_open : (v : ℕ) (i : Counters) → constant_in (seen_at w at) ≡ false → v ≡ number_in (seen_at w at) 0 → i ≡ more_ints w 1 n → Puts (block_words (opened w l m c base t v) w i) (block_lines (opened w l m c base t v) w i) out o a r → Made
  made_open v i e hv hi x = rw (e, ← hc, ← hv, ← hi) x

  pub made_variable : constant_in (seen_at w at) ≡ true → (k : ℕ) → k ≡ word (read_part w) c → k ≡ 11 → Puts [] 0 out o a r → Made
  made_variable e k hk h x = rw (e, ← hc, ← hk, h) x

  pub made_named : constant_in (seen_at w at) ≡ true → (k : ℕ) → k ≡ word (read_part w) c → (k ≡ 11 → ⊥)
      → Puts (constant_making w (item_at w l m false c base) (item_at w l m true c base) none n).words (constant_making w (item_at w l m false c base) (item_at w l m true c base) none n).lines out o a r → Made
  made_named e k hk h x = rw (e, ← hc, ← hk, ne_eqb k 11 h) x

pub not_constant : (s : Seen) → (seen_code s ≡ 1 → ⊥) → constant_in s ≡ false
not_constant unseen h = refl
not_constant both_constant h = absurd (h refl)
not_constant (numbered v b) h = refl

pub is_constant : (s : Seen) → seen_code s ≡ 1 → constant_in s ≡ true
is_constant unseen h = absurd (omega arith)
is_constant both_constant h = refl
is_constant (numbered v b) h = absurd (omega arith)

-- the numbers of clauses in a block
once : (a : ℕ) → bump 0 (bump a 0) ≡ min a limit
once a = omega arith

behind : (a : ℕ) → bump a (bump 0 0) ≡ min a limit
behind a = omega arith

alone : (a : ℕ) → bump (bump a (bump 0 0)) 0 ≡ min a limit
alone a = omega arith

capped : (a b : ℕ) → bump (min a limit) (min b limit) ≡ bump a b
capped a b = omega arith

named_lines : (a b l : ℕ) → bump (bump a b) l ≡ bump (bump (bump 0 (bump a 0)) (bump 0 (bump b 0))) l
named_lines a b l = ap (λ (x : ℕ). bump x l) (sym (ap (λ (x : ℕ). bump x (bump 0 (bump b 0))) (once a) ∙ ap (λ (x : ℕ). bump (min a limit) x) (once b) ∙ capped a b))

open_lines : (a b l : ℕ) → bump (bump a b) l ≡ bump (bump (bump a (bump 0 0)) (bump (bump b (bump 0 0)) 0)) l
open_lines a b l = ap (λ (x : ℕ). bump x l) (sym (ap (λ (x : ℕ). bump x (bump (bump b (bump 0 0)) 0)) (behind a) ∙ ap (λ (x : ℕ). bump (min a limit) x) (alone b) ∙ capped a b))

-- the block of a named condition, and of an open If: what stands inside it first
pub named_block : (c d : Item) (w : List ℤ) (n k e : Counters) {out a b f : List ℤ} {o : ℕ} (x y p q r : Added) → k ≡ more_bools 1 n → e ≡ d.count w k → Open out o → Puts (d.reg w k) (d.lines w k) out o a x → Puts (c.reg w e) (c.lines w e) a x.o b y
    → (p.lines ≡ bump x.lines y.lines) × (p.o ≡ y.o) → Puts ((condition_item c d n.bools).text w k []) (lines_of (condition_item c d n.bools).unit) b y.o f q → (r.lines ≡ bump p.lines q.lines) × (r.o ≡ q.o)
    → Puts (constant_making w c d none n).words (constant_making w c d none n).lines out o f r
unfolding condition_item cross_item num_item regs reg_lines counts
named_block c d w n k e {out} {a} {b} {f} {o} x y p q r hk he i g h d₁ z d₂ =
    let l₁ : length a ≤ cap = omega (arith, wrote_length g.wrote, i.room) in
    let g' = wrote_then {out = out} i.room g.wrote (wrote_none a x.o (wrote_low g.wrote)) in
    let h' = wrote_then {out = a} l₁ h.wrote (wrote_none b y.o (wrote_low h.wrote)) in
    let v = wrote_then {out = out} i.room (wrote_then {out = out} i.room g' (rw he at h')) z.wrote in
    record {
      wrote = rw (d₂.1, ← hk) v;
      lines = d₂.0 ∙ rw (← hk, d₁.0, g.lines, h.lines, z.lines, he) (named_lines _ _ _);
    }

pub open_block : (c d : Item) (l m : LinearSum) (v : ℕ) (w : List ℤ) (k e : Counters) {out a b f : List ℤ} {o : ℕ} (x y p q r : Added) → e ≡ c.count w k → Open out o → Puts (c.reg w k) (c.lines w k) out o a x → Puts (d.reg w e) (d.lines w e) a x.o b y
    → (p.lines ≡ bump x.lines y.lines) × (p.o ≡ y.o) → Puts ((open_item c d l m v).text w k []) (lines_of (open_item c d l m v).unit) b y.o f q → (r.lines ≡ bump p.lines q.lines) × (r.o ≡ q.o)
    → Puts (block_words (open_item c d l m v) w k) (block_lines (open_item c d l m v) w k) out o f r
unfolding open_item disj_item conj_item equal_item regs reg_lines counts
open_block c d l m v w k e {out} {a} {b} {f} {o} x y p q r he i g h d₁ z d₂ =
    let l₁ : length a ≤ cap = omega (arith, wrote_length g.wrote, i.room) in
    let g' = wrote_then {out = out} i.room g.wrote (wrote_none a x.o (wrote_low g.wrote)) in
    let n' = wrote_none b y.o (wrote_low h.wrote) in
    let h' = wrote_then {out = a} l₁ (wrote_then {out = a} l₁ h.wrote n') n' in
    let u = wrote_then {out = out} i.room (wrote_then {out = out} i.room g' (rw he at h')) z.wrote in
    record {
      wrote = rw d₂.1 u;
      lines = d₂.0 ∙ rw (d₁.0, g.lines, h.lines, z.lines, he) (open_lines _ _ _);
    }

-- ---- terms

pub terms_low : (ts : TermForms) (w : List ℤ) (n : Counters) → (form_terms_item [] ts).added w n ≤ limit
unfolding form_item no_terms_item term_item
terms_low no_terms w n = omega arith
terms_low (term k e ts) w n = omega arith

pub terms_none : (w : List ℤ) (l : ℕ) (m : Splitting) (k at base : ℕ) (n : Counters) {out : List ℤ} {o : ℕ} → k ≡ 0 → Open out o → Wrote out o ((terms_at w l m k at base).adds w n) out o × ((terms_at w l m k at base).added w n ≡ 0)
unfolding many_terms form_item no_terms_item
terms_none w l m k at base n {out} {o} e i = rw e (wrote_none out o i.low, refl)

module _ (w : List ℤ) (size : folded_end ≤ length w) (l : ℕ) (m : Splitting) (k at base : ℕ) (z : k ≡ 0 → ⊥) (p : ℕ) (hp : p ≡ min (at + 1) folded_end) where
  abbrev T : ℕ → ℕ → ℕ → TermForms
  T j q b = (many_terms (read_part w) (decode_int (read_part w) l m) j q b).trees

  first_is : (j : ℕ) → j ≡ k → T j at base ≡ term (get_or (read_part w) at (pos 0)) (decode_int (read_part w) l m p base).tree (T (j - 1) (decode_int (read_part w) l m p base).end (decode_int (read_part w) l m p base).next)
  unfolding many_terms
  first_is zero e = absurd (z (sym e))
  first_is (suc j) e = let i : past (read_part w) (at + 1) ≡ p = omega (arith, part_length w size) in rw (sub-one, i) refl

  pub term_fit : AllTermsFit (T k at base) → IntFit (decode_int (read_part w) l m p base).tree
  unfolding FormFits
  term_fit f = record { domains = f.domains; fits = (subst (λ (ts : TermForms). TermsFit f.domains ts) (first_is k refl) f.fits).0 }

  module _ (n : Counters) (y : Behind) (s : IntSurveys w l m p base n y) where
    all_is : T k at base ≡ term (get_or (read_part w) at (pos 0)) (decode_int (read_part w) l m p base).tree (T (k - 1) y.at y.base)
    all_is = first_is k refl ∙ rw (s.skips.end, s.skips.next) refl

    pub terms_fit : AllTermsFit (T k at base) → AllTermsFit (T (k - 1) y.at y.base)
    unfolding FormFits
    terms_fit f = record { domains = f.domains; fits = (subst (λ (ts : TermForms). TermsFit f.domains ts) all_is f.fits).1 }

    pub terms_more : {out a b : List ℤ} {o q t : ℕ} → Open out o → Wrote out o ((int_at w l m p base).adds w n) a q → Wrote a q ((terms_at w l m (k - 1) y.at y.base).adds w y.n) b t → Wrote out o ((terms_at w l m k at base).adds w n) b t
    unfolding form_item term_item
    terms_more c f g = rw (all_is, ← s.behind []) (wrote_then c.room f g)

    pub terms_added : (terms_at w l m k at base).added w n ≡ bump ((int_at w l m p base).added w n) ((terms_at w l m (k - 1) y.at y.base).added w y.n)
    unfolding form_item term_item
    terms_added = rw (all_is, ← s.behind []) refl

-- ---- numbers of clauses

pub zero_bump : (x : ℕ) → x ≤ limit → bump 0 x ≡ x
zero_bump x h = omega arith

pub next_lines : (k x y a b c t : ℕ) → bump k a ≡ t → a ≡ bump b c → x ≡ b → y ≡ bump k x → bump y c ≡ t
next_lines k x y a b c t e f g h = omega arith

pub last_lines : (k a t : ℕ) → bump k a ≡ t → a ≡ 0 → k ≤ limit → k ≡ t
last_lines k a t e f h = omega arith

pub within_past : (w : List ℤ) → folded_end ≤ length w → (p q : ℕ) → q ≡ min p folded_end → q ≡ past (read_part w) p
within_past w h p q e = omega (arith, part_length w h)

pub condition_skips : (w : List ℤ) (l : ℕ) (m : Splitting) (at base c q b : ℕ) → folded_end ≤ length w → c ≡ min (at + 1) folded_end → Skips (read_part w) l m c base q b → Skips (read_part w) l m (past (read_part w) (at + 1)) base q b
condition_skips w l m at base c q b h e s = subst (λ (x : ℕ). Skips (read_part w) l m x base q b) (within_past w h (at + 1) c e) s
