-- What the code of sums does at each of its returns and turns. Assumes nothing.
use mathlib.Core.Path.{◌≡◌, refl, sym, ap, ◌∙◌, subst}
use mathlib.Core.Bool.{Bool, true, false, not}
use mathlib.Core.List.{List}
use Prim.Native.Nat.{ℕ, zero, suc, ◌+◌, ◌-◌, ◌*◌, ◌≤◌, ◌<◌, ◌^◌, min}
use native.Mathlib.Omega.{arith}
use native.Mathlib.Numerals.{sub-one}
use lib.IntN.{ℤ, pos, negsuc, nat_abs}
use lib.ListN.{length, get_or}
use borrow.Author.Tests.{eqb-true}
use Rattle.laws.specs.Bools.{never}
use Rattle.memory.specs.Places.{folded_end, limit}
use Rattle.syntax.specs.Syntax.{Domain}
use Rattle.sums.specs.LinearSum.{LinearSum, constant, add_sum, mul_sum, sub_sum}
use Rattle.sums.specs.Rising.{terms_of, Each}
use Rattle.sums.proofs.RisingLaws.{constant_each, add_sum_each, mul_sum_each, sub_sum_each}
use Rattle.sums.specs.Bounds.{size, Room}
use Rattle.sums.specs.Struct.{terms, sum_of, Stands}
use Rattle.sums.specs.declared.LinearSum.{LinearSum as Sum}
use Rattle.sums.proofs.Laws.{is_own, stands_sum, stands_to}
use Rattle.walk.specs.Decode.{word, past, read_part}
use Rattle.walk.specs.declared.Counters.{Counters}
use Rattle.walk.proofs.NumberingSteps.{part_length}
use Rattle.walks.specs.Tree.{Splitting}
use Rattle.walks.specs.Form.{IntForm, sum}
use Rattle.walks.specs.Item.{has_ifs, no_terms_item, term_item, sum_item, form_int_item}
use Rattle.walks.specs.Decode.{IntRead, many_terms, int_step}
use Rattle.walks.specs.Totals.{Word, Adds, total_of, behind_of, terms_total, Steps, TermSteps}
use Rattle.scan.specs.declared.Behind.{Behind}
use Rattle.scan.specs.Nodes.{int_level}
use Rattle.scan.specs.Skip.{int_leaf, int_sum}
use Rattle.scan.specs.IfLaws.{Low}
use Rattle.scan.specs.SurveyLaws.{behind_at, IntSurveys, ints_off, ints_sum, terms_none, terms_more, terms_done}
use Rattle.totals.specs.declared.Lone.{Lone}
use Rattle.totals.specs.declared.Nested.{Nested}
use Rattle.totals.specs.Lone.{is_sum, lone_of, sum_in, WordIn, lone_words, lone_total}
use Rattle.totals.specs.Linear.{int_at, terms_at, Stepping, Linear, Going, second, Subtracts, Less, left_side, right_side, Compares, Differs}

-- ---- a test that is turned

pub off : (i b : Bool) → i ≡ b → not i ≡ true → b ≡ false
off true b e h = never h
off false b e h = sym e

pub on : (i b : Bool) → i ≡ b → not i ≡ false → b ≡ true
on true b e h = sym e
on false b e h = never (sym h)

-- ---- no sum

module _ (w : List ℤ) (l : ℕ) (m : Splitting) (at base : ℕ) (n : Counters) where
  -- where no integer is counted
  pub leaf_passed : folded_end ≤ length w → at ≤ folded_end → base ≤ limit → Low n → (l ≡ 0 → ⊥) → (k : ℕ) → k ≡ word (read_part w) at → k < 22 → (i : Bool) → i ≡ has_ifs w → not i ≡ true → (two : ℕ) → two ≡ min (at + 2) folded_end → IntSurveys w l m at base n (behind_at two base n)
  leaf_passed long inside low h z k e f i o g two j =
      ints_off w long l m at base n h (behind_at two base n) two base i o g (int_leaf w long l m at base inside low (l - 1) z refl k two e (λ q. omega arith) (λ q. omega arith) j) refl

  pub lone_is : (q : Behind) (x : Lone) → is_sum w l at ≡ false → IntSurveys w l m at base n q → x ≡ lone_of w l at q.n.ints → (ds : List Domain) → sum_in x ≡ total_of ds w (int_at w l m at base) n
  lone_is q x z s e ds = ap sum_in e ∙ lone_total ds w m at base n l _ z (ap (λ (c : Counters). c.ints) (s.behind ds))

  pub alone_linear : (r : Nested) (x : Lone) → is_sum w l at ≡ false → IntSurveys w l m at base n r.behind → x ≡ lone_of w l at r.behind.n.ints → WordIn x → Stands r.sum (sum_in x) → Linear w l m at base n r
  alone_linear r x z s e h f = record {
    behind = s;
    sum = λ ds. stands_to r.sum _ _ f (lone_is r.behind x z s e ds);
    words = rw f.same (lone_words x h);
  }

-- ---- a sum's terms

sum_there : (w : List ℤ) (l at : ℕ) → is_sum w l at ≡ true → (l ≡ 0 → ⊥) × (word (read_part w) at ≡ 22)
unfolding is_sum
sum_there w zero at e = never e
sum_there w (suc l) at e = (λ q. omega arith, eqb-true (word (read_part w) at) 22 e)

pub sum_left : (w : List ℤ) (l at : ℕ) → is_sum w l at ≡ true → 1 ≤ l
unfolding is_sum
sum_left w zero at e = never e
sum_left w (suc l) at e = omega arith

module _ (w : List ℤ) (long : folded_end ≤ length w) (l u : ℕ) (m : Splitting) (at base : ℕ) (n : Counters) (e : is_sum w l at ≡ true) (hu : u ≡ l - 1) (x two : ℕ) (hx : x ≡ word (read_part w) (at + 1)) (h2 : two ≡ min (at + 2) folded_end) where
  pub tree_is : int_at w l m at base ≡ sum (terms_at w u m two base x)
  unfolding int_step
  tree_is =
      let t = sum_there w l at e in
      let i : two ≡ past (read_part w) (at + 2) = omega (arith, part_length w long) in
      ap (λ (d : IntRead). d.tree) (int_level (read_part w) l u m at base 22 t.0 hu (sym t.1)) ∙ rw (hx, i) refl

  pub going_start : base ≤ limit → Low n → Stepping w l m at base n → (s : Sum) → Stands s (constant (pos 0)) → Going w u m x two base n x (behind_at two base n) s
  unfolding Steps
  going_start b low h s o =
      let f : sum_of s ≡ constant (pos 0) = stands_sum s _ o in
      record {
        sofar = terms_none w u m x two base n (omega arith) b low;
        same = λ ds. ap (terms_total ds w (terms_at w u m two base x) n) f;
        domains = h.domains;
        steps = subst (TermSteps h.domains w (terms_at w u m two base x) n) (sym f) (rw tree_is at h.steps);
        own = is_own o (sym o.const);
        words = rw o.same (constant_each Word (pos 0));
      }

  pub going_end : at ≤ folded_end → base ≤ limit → Low n → (rest : ℕ) (r : Nested) → Going w u m x two base n rest r.behind r.sum → rest ≡ 0 → Linear w l m at base n r
  unfolding form_int_item sum_item no_terms_item many_terms
  going_end inside b low zero r g z =
      let t = sum_there w l at e in
      let d = terms_done w u m x two base n zero r.behind g.sofar z in
      record {
        behind = ints_sum w long l m at base n low u t.0 hu 22 (sym t.1) r.behind x two refl hx h2 d (int_sum w long l m at base inside b u t.0 hu 22 two x r.behind.at r.behind.base (sym t.1) refl h2 hx d.skips);
        sum = λ ds. stands_to r.sum _ _ g.own (g.same ds ∙ sym (ap (λ (f : IntForm). total_of ds w f n) tree_is));
        words = g.words;
      }
  going_end inside b low (suc rest) r g z = absurd (omega arith)

-- a turn: the term at p, its coefficient K
module _ (w : List ℤ) (long : folded_end ≤ length w) (u : ℕ) (m : Splitting) (x two base : ℕ) (n : Counters) (rest : ℕ) (r : Behind) (s : Sum) (g : Going w u m x two base n rest r s) (z : rest ≡ 0 → ⊥) (p : ℕ) (hp : p ≡ min (r.at + 1) folded_end) (K : ℤ) (hk : K ≡ get_or (read_part w) r.at (pos 0)) where
  abbrev E : IntForm
  E = int_at w u m p r.base

  record Turn : Type 0 where
    pub steps : Steps g.domains w E r.n
    pub adds : Adds (sum_of s) K (total_of g.domains w E r.n)

  turn_of : (rest : ℕ) → (rest ≡ 0 → ⊥) → TermSteps g.domains w (terms_at w u m r.at r.base rest) r.n (sum_of s) → Turn
  unfolding many_terms Steps
  turn_of zero z h = absurd (z refl)
  turn_of (suc rest) z h =
      let i : p ≡ past (read_part w) (r.at + 1) = omega (arith, part_length w long) in
      record { steps = rw i h.0; adds = rw (hk, i) h.1 }

  turn : Turn
  turn = turn_of rest z g.steps

  pub turn_steps : Stepping w u m p r.base r.n
  turn_steps = record { domains = g.domains; steps = turn.steps }

  -- what is added: l
  module _ (l : LinearSum) (l-is : (ds : List Domain) → l ≡ total_of ds w E r.n) where
    pub turn_asks : (s.count ≤ 64) × (size (sum_of s) + nat_abs K * size l < 2 ^ 31) × Room (terms s) (terms_of (mul_sum K l))
    turn_asks = let a = subst (Adds (sum_of s) K) (sym (l-is g.domains)) turn.adds in (g.own.room, a.light, a.room)

    -- q: behind it, t: the sum with it
    module _ (q : Behind) (f : IntSurveys w u m p r.base r.n q) (v : Each Word (terms_of l)) (t : Sum) (o : Stands t (add_sum (sum_of s) (mul_sum K l))) where
      t_is : (ds : List Domain) → sum_of t ≡ add_sum (sum_of s) (mul_sum K (total_of ds w E r.n))
      t_is ds = stands_sum t _ o ∙ ap (λ (y : LinearSum). add_sum (sum_of s) (mul_sum K y)) (l-is ds)

      same_of : (rest : ℕ) → (rest ≡ 0 → ⊥) → (ds : List Domain) (y : LinearSum) → terms_total ds w (terms_at w u m r.at r.base rest) r.n (sum_of s) ≡ y → terms_total ds w (terms_at w u m q.at q.base (rest - 1)) q.n (sum_of t) ≡ y
      unfolding many_terms form_int_item term_item
      same_of zero z ds y h = absurd (z refl)
      same_of (suc rest) z ds y h =
          let i : p ≡ past (read_part w) (r.at + 1) = omega (arith, part_length w long) in
          ap (terms_total ds w (terms_at w u m q.at q.base (suc rest - 1)) q.n) (t_is ds) ∙ rw (sub-one, f.skips.end, f.skips.next, f.behind ds, hk, i) h

      steps_of : (rest : ℕ) → (rest ≡ 0 → ⊥) → TermSteps g.domains w (terms_at w u m r.at r.base rest) r.n (sum_of s) → TermSteps g.domains w (terms_at w u m q.at q.base (rest - 1)) q.n (sum_of t)
      unfolding many_terms Steps
      steps_of zero z h = absurd (z refl)
      steps_of (suc rest) z h =
          let i : p ≡ past (read_part w) (r.at + 1) = omega (arith, part_length w long) in
          subst (TermSteps g.domains w (terms_at w u m q.at q.base (suc rest - 1)) q.n) (sym (t_is g.domains)) (rw (sub-one, f.skips.end, f.skips.next, f.behind g.domains, hk, i) h.2)

      pub turn_next : Going w u m x two base n (rest - 1) q t
      turn_next = record {
        sofar = terms_more w u m x two base n long rest p r q g.sofar z hp f;
        same = λ ds. same_of rest z ds _ (g.same ds);
        domains = g.domains;
        steps = steps_of rest z g.steps;
        own = is_own o (sym o.const);
        words = rw o.same (add_sum_each Word (sum_of s) (mul_sum K l) g.words (mul_sum_each Word K l v));
      }

-- ---- differences

-- what is subtracted: y
module _ (w : List ℤ) (l : ℕ) (m : Splitting) (q : ℕ) (a : Nested) (h : Subtracts w l m q a) (y : LinearSum) (y-is : (ds : List Domain) → y ≡ total_of ds w (second w l m q a) a.behind.n) where
  pub less_asks : (size (sum_of a.sum) + nat_abs (negsuc 0) * size y < 2 ^ 31) × Room (terms a.sum) (terms_of (mul_sum (negsuc 0) y))
  less_asks = let s = subst (Adds (sum_of a.sum) (negsuc 0)) (sym (y-is h.domains)) h.minus in (s.light, s.room)

  pub less_is : (r : Nested) → IntSurveys w l m q a.behind.base a.behind.n r.behind → Each Word (terms_of y) → Stands r.sum (add_sum (sum_of a.sum) (mul_sum (negsuc 0) y)) → Less w l m q a r
  unfolding sub_sum
  less_is r b v f = record {
    behind = b;
    sum = λ ds. stands_to r.sum _ _ f (ap (sub_sum (sum_of a.sum)) (y-is ds));
    words = rw f.same (sub_sum_each Word (sum_of a.sum) y h.words v);
  }

module _ (w : List ℤ) (l : ℕ) (m : Splitting) (at base : ℕ) (n : Counters) (h : Compares w l m at base n) (a : Nested) (o : Linear w l m at base n a) where
  right_is : (ds : List Domain) → total_of ds w (second w l m a.behind.at a) a.behind.n ≡ total_of ds w (right_side w l m at base n) (behind_of ds w (left_side w l m at base n) n)
  right_is ds = rw (o.behind.skips.end, o.behind.skips.next, o.behind.behind ds) refl

  pub side_subtracts : Subtracts w l m a.behind.at a
  side_subtracts =
      let d = h.domains in
      record {
        room = (o.sum d).room;
        low = o.behind.skips.low;
        low_counters = o.behind.low;
        domains = d;
        steps = rw (o.behind.skips.end, o.behind.skips.next, o.behind.behind d) h.fits.right;
        minus = rw (right_is d) (subst (λ (x : LinearSum). Adds x (negsuc 0) (total_of d w (right_side w l m at base n) (behind_of d w (left_side w l m at base n) n))) (sym (stands_sum a.sum _ (o.sum d))) h.fits.minus);
        words = o.words;
      }

  pub difference_is : (r : Nested) → Less w l m a.behind.at a r → Differs w l m at base n r
  difference_is r f = record {
    middle = a.behind;
    first = o.behind;
    last = f.behind;
    sum = λ ds. stands_to r.sum _ _ (f.sum ds) (ap (λ (x : LinearSum). sub_sum x (total_of ds w (second w l m a.behind.at a) a.behind.n)) (stands_sum a.sum _ (o.sum ds)) ∙ ap (sub_sum (total_of ds w (left_side w l m at base n) n)) (right_is ds));
    words = f.words;
  }
