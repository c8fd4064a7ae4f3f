-- What a survey finds of an expression: where it ends, its tally, its clauses, the counters behind it. Of an integer expression: its end and the counters.
use Rattle.std.specs.Prelude.{◌≡◌, Bool, not, cond, ℤ, pos, length, get_or}
use Rattle.std.proofs.Math.Path.{refl, sym, ap, subst}
use Rattle.std.proofs.Common.{◌∙◌, sub-one}
use Rattle.std.proofs.Math.Bool.{true, false}
use Rattle.std.proofs.Math.Option.{Option}
use mathlib.Core.List.{List, [], ◌∷◌}
use Prim.Native.Nat.{ℕ, zero, suc, ◌+◌, ◌-◌, ◌≤◌, ◌<◌, min}
use native.Mathlib.Omega.{arith}
use borrow.Author.Tests.{ne_eqb}
use Rattle.memory.specs.Places.{folded_end, limit}
use Rattle.syntax.specs.Syntax.{Domain}
use Rattle.syntax.specs.Words.{max_bools, max_ints}
use Rattle.walk.specs.Item.{bump, is_none, Tally, tally, long, plus, mode_in, fresh, fresh_in, lines_in, disj_lines, closed, lines_of}
use Rattle.walk.specs.Decode.{word, past, below as index, read_part, surveyed, fresh_of, lines_in_of, closed_disj, closed_cross, added}
use Rattle.walk.proofs.Implements.{tally_eq}
use Rattle.walk.specs.declared.Mode.{Mode}
use Rattle.walk.specs.declared.Mode.TheVariants.{Pool, One, Two, Each}
use Rattle.walk.specs.declared.Counters.{Counters}
use Rattle.walk.specs.declared.Node.{Node}
use Rattle.walk.specs.declared.Node.TheVariants.{Var, Cmp, Not, Join, Cross}
use Rattle.walk.specs.declared.Surveyed.{Surveyed}
use Rattle.walk.proofs.NumberingSteps.{part_length}
use Rattle.walks.specs.Tree.{Place, Splitting, never, below, here, inner}
use Rattle.walks.specs.Form.{Form, cross, Forms, IntForm, const}
use Rattle.walks.specs.Item.{counters, has_ifs, more_bools, more_ints, meets_bool, meets_int, Seen, unseen, both_constant, numbered, constant_in, seen, Item, IntItem, tallies, all_lines, counts, var_item, num_item, cmp_item, equal_item, conj_item, disj_item, cross_item, const_item, ivar_item, no_terms_item, term_item, sum_item, open_item, condition_item, constant_making, open_making, if_making, passed, if_behind, choice_item, form_item, form_items, form_int_item, form_terms_item}
use Rattle.walks.specs.Decode.{node_of, Read, Reader, IntRead, many, cross_step, step, many_terms, own_at, if_step, int_step, decode, decode_int}
use Rattle.walks.specs.Off.{int_form_off}
use Rattle.scan.specs.declared.Scanned.{Scanned}
use Rattle.scan.specs.declared.Behind.{Behind}
use Rattle.scan.specs.Nodes.{level, int_level, okay_at}
use Rattle.scan.specs.Skip.{split_by, Skips, SkipsAll, IntSkips, TermSkips, Skipping, skipping_first, skipping_next, skipping_last, TermSkipping, terms_first, terms_next, terms_last}
use Rattle.scan.specs.IfLaws.{seen_code, seen_at, passed_at, Low, more_bools_low, more_ints_low, meets_bool_low, meets_int_low}

abbrev pub scanned : Surveyed → ℕ → Scanned
scanned s k = record { part = s; ints = k }

abbrev pub behind_at : ℕ → ℕ → Counters → Behind
behind_at at base n = record { at = at; base = base; n = n }

abbrev pub counters_of : Scanned → Counters
counters_of r = counters r.part.n r.ints

-- ---- what is found

-- within the words read from a place; ds: any declared domains
pub record Counted (unit-of : List Domain → Tally) (count_of : List Domain → Counters) (lines_of_all : List Domain → ℕ) (at : ℕ) (r : Scanned) : Type 0 where
  pub count : (ds : List Domain) → counters_of r ≡ count_of ds
  pub unit : (ds : List Domain) → tally r.part.longs r.part.lits r.part.cmps r.part.lines ≡ unit-of ds
  pub all : (ds : List Domain) → r.part.all ≡ lines_of_all ds
  pub room : r.part.longs + r.part.lits + r.part.cmps + at ≤ r.part.at
  pub low : Low (counters_of r)
  pub low_lines : r.part.lines ≤ limit
  pub low_all : r.part.all ≤ limit

abbrev pub Found : List ℤ → Counters → Form → ℕ → Scanned → Type 0
Found w n x at r = Counted (λ ds. (form_item ds x).unit) (λ ds. (form_item ds x).count w n) (λ ds. lines_of (form_item ds x).unit) at r

abbrev pub FoundAll : List ℤ → Counters → Forms → ℕ → Scanned → Type 0
FoundAll w n xs at r = Counted (λ ds. tallies (form_items ds xs)) (λ ds. counts (form_items ds xs) w n) (λ ds. all_lines (form_items ds xs)) at r

-- of the expression at a place, negated if g
pub record Surveys (w : List ℤ) (l : ℕ) (m : Splitting) (g : Bool) (at base : ℕ) (n : Counters) (r : Scanned) : Type 0 where
  pub skips : Skips (read_part w) l m at base r.part.at r.part.base
  pub found : Found w n (decode (read_part w) l m g at base).tree at r

-- of so many members, the first negated if g, the others if h
pub record SurveysAll (w : List ℤ) (l : ℕ) (m : Splitting) (k : ℕ) (g h : Bool) (at base : ℕ) (n : Counters) (r : Scanned) : Type 0 where
  pub skips : SkipsAll (read_part w) l m k at base r.part.at r.part.base
  pub found : FoundAll w n (many (decode (read_part w) l m) k g h at base).trees at r

-- of the integer expression at a place
pub record IntSurveys (w : List ℤ) (l : ℕ) (m : Splitting) (at base : ℕ) (n : Counters) (r : Behind) : Type 0 where
  pub skips : IntSkips (read_part w) l m at base r.at r.base
  pub behind : (ds : List Domain) → r.n ≡ (form_int_item ds (decode_int (read_part w) l m at base).tree).behind w n
  pub low : Low r.n

-- of so many terms
pub record TermSurveys (w : List ℤ) (l : ℕ) (m : Splitting) (k at base : ℕ) (n : Counters) (r : Behind) : Type 0 where
  pub skips : TermSkips (read_part w) l m k at base r.at r.base
  pub behind : (ds : List Domain) → r.n ≡ (form_terms_item ds (many_terms (read_part w) (decode_int (read_part w) l m) k at base).trees).behind w n
  pub low : Low r.n

-- behind the branches of the If at p, whose condition stands at c: what making it adds to the counters, whatever the branches' sums
pub record Makes (w : List ℤ) (l : ℕ) (m : Splitting) (p c base : ℕ) (n r : Counters) : Type 0 where
  pub end : (ds : List Domain) (t f : IntItem) (a b : Counters) (v : ℕ) → let d = form_item ds (decode (read_part w) l m false c base).tree in let e = form_item ds (decode (read_part w) l m true c base).tree in
      r ≡ (cond (constant_in (seen_at w p)) (constant_making w d e (own_at (read_part w) c) n) (open_making w d e (t.total w a) (f.total w b) v n)).end
  pub low : Low r

-- ---- one expression

same_counters : (n : Counters) → Low n → more_bools 0 n ≡ n
same_counters n h = let e : bump n.bools 0 ≡ n.bools = omega (arith, h.0) in rw e

lines_low : (m : Mode) (k : ℕ) → k ≤ limit → lines_in m k ≤ limit
lines_low Pool k h = omega arith
lines_low One k h = h
lines_low Two k h = h
lines_low Each k h = omega arith

closed_none : (t : Tally) → t.longs ≡ 0 → closed t ≡ t
unfolding closed
closed_none t h = rw h

closed_long : (t : Tally) (x : ℕ) → t.longs ≡ suc x → closed t ≡ long (disj_lines t)
unfolding closed
closed_long t x h = rw h

closed_more : (s : Surveyed) (x : ℕ) → s.longs ≡ suc x → closed_disj s ≡ surveyed s.at s.base (bump s.n (fresh_of s)) 1 0 0 (lines_in_of s) (lines_in_of s)
unfolding closed_disj
closed_more s x h = go s.longs h
  where
    go : (y : ℕ) → y ≡ suc x → cond (is_none y) (surveyed s.at s.base s.n 0 s.lits s.cmps s.lines 1) (surveyed s.at s.base (bump s.n (fresh_of s)) 1 0 0 (lines_in_of s) (lines_in_of s)) ≡ surveyed s.at s.base (bump s.n (fresh_of s)) 1 0 0 (lines_in_of s) (lines_in_of s)
    go y e = rw e

cross_whole : (p : Splitting → Reader) (m : Splitting) (h : Bool) (e n : ℕ) → (m ≡ here → ⊥) → (cross_step p m h e n).tree ≡ cross (many (p (inner m)) 2 false h e n).trees (many (p (inner m)) 2 true (not h) e n).trees
unfolding cross_step
cross_whole p never h e n z = refl
cross_whole p below h e n z = refl
cross_whole p here h e n z = absurd (z refl)

-- a single member, and a disjunction (if d) or a conjunction of members
unfoldable pub single_of : ℕ → ℕ → Counters → ℕ → ℕ → Scanned
single_of at base n lits cmps = scanned (surveyed at base n.bools 0 lits cmps 0 1) n.ints

unfoldable pub joined_of : Bool → Scanned → Scanned
joined_of true s = scanned (closed_disj s.part) s.ints
joined_of false s = scanned (surveyed s.part.at s.part.base s.part.n 1 0 0 s.part.all s.part.all) s.ints

-- the counters behind what a new Boolean stands for
abbrev pub with_literal : Surveyed → ℕ
with_literal s = fresh_in (mode_in s.longs (s.lits + 1) s.cmps) s.longs

unfoldable pub named : Scanned → Scanned → Counters
named s u = counters (bump (bump u.part.n (with_literal s.part)) (with_literal u.part)) u.ints

-- a disjunction ends where its members do
closed_ends : (s : Surveyed) → ((closed_disj s).at ≡ s.at) × ((closed_disj s).base ≡ s.base)
unfolding closed_disj
closed_ends s = go (is_none s.longs)
  where
    go : (b : Bool) → (let r = cond b (surveyed s.at s.base s.n 0 s.lits s.cmps s.lines 1) (surveyed s.at s.base (bump s.n (fresh_of s)) 1 0 0 (lines_in_of s) (lines_in_of s)) in (r.at ≡ s.at) × (r.base ≡ s.base))
    go true = (refl, refl)
    go false = (refl, refl)

joined_ends : (d : Bool) (s : Scanned) → ((joined_of d s).part.at ≡ s.part.at) × ((joined_of d s).part.base ≡ s.part.base)
unfolding joined_of
joined_ends true s = closed_ends s.part
joined_ends false s = (refl, refl)

-- one integer expression behind another
two_behind : (w : List ℤ) (l : ℕ) (m : Splitting) (at base : ℕ) (n : Counters) (x y : Behind) → IntSurveys w l m at base n x → IntSurveys w l m x.at x.base x.n y → (ds : List Domain)
    → (let a = decode_int (read_part w) l m at base in y.n ≡ (form_int_item ds (decode_int (read_part w) l m a.end a.next).tree).behind w ((form_int_item ds a.tree).behind w n))
two_behind w l m at base n x y f h ds = rw (← f.skips.end, ← f.skips.next, ← f.behind ds) (h.behind ds)

module _ (w : List ℤ) (size : folded_end ≤ length w) (l : ℕ) (m : Splitting) (g : Bool) (at base : ℕ) (n : Counters) (inside : at ≤ folded_end) (low : Low n) where
  pub survey_none : (r : Scanned) → l ≡ 0 → Skips (read_part w) l m at base at base → r ≡ single_of at base n 0 0 → Surveys w l m g at base n r
  unfolding single_of decode form_item disj_item closed tallies counts lines_of
  survey_none r e s f = rw f (record {
    skips = s;
    found = rw e (record {
      count = λ ds. sym (same_counters n low);
      unit = λ ds. refl;
      all = λ ds. refl;
      room = omega arith;
      low = low;
      low_lines = omega arith;
      low_all = omega arith;
    });
  })

  module _ (u : ℕ) (z : l ≡ 0 → ⊥) (hu : u ≡ l - 1) where
    abbrev Asks : Node → Type 0
    Asks N = N ≡ node_of (read_part w) g at (word (read_part w) at)

    abbrev Stepped : Node → Scanned → Type 0
    Stepped N r = Found w n (step (decode (read_part w) u) (decode_int (read_part w) u) m g base N).tree at r

    -- from the node to the expression; s: as the code gives what is found
    carry : (r s : Scanned) (N : Node) → Asks N → r ≡ s → Skips (read_part w) l m at base s.part.at s.part.base → Stepped N s → Surveys w l m g at base n r
    carry r s N e i k f = rw i (record { skips = k; found = subst (λ (d : Read). Found w n d.tree at s) (sym (level (read_part w) l u m g at base N z hu e)) f })

    pub survey_var : (r : Scanned) (v q : ℕ) (k : Counters) → Asks (Var v q) → Skips (read_part w) l m at base q base → k ≡ meets_bool w v n → r ≡ single_of q base k 1 0 → Surveys w l m g at base n r
    unfolding single_of step form_item var_item lines_of
    survey_var r v q k e s f i =
        let o = okay_at w g at (Var v q) size inside e in
        carry r (scanned (surveyed q base k.bools 0 1 0 0 1) k.ints) (Var v q) e i s (record {
          count = λ ds. f;
          unit = λ ds. refl;
          all = λ ds. refl;
          room = omega (arith, o.0);
          low = subst Low (sym f) (meets_bool_low w v n low);
          low_lines = omega arith;
          low_all = omega arith;
        })

    pub survey_cmp : (r : Scanned) (o e j : ℕ) (x y : Behind) → Asks (Cmp o e) → split_by j ≡ inner m → IntSurveys w u (split_by j) e base n x → IntSurveys w u (split_by j) x.at x.base x.n y → Skips (read_part w) l m at base y.at y.base
        → r ≡ single_of y.at y.base y.n 0 1 → Surveys w l m g at base n r
    unfolding single_of step form_item cmp_item lines_of
    survey_cmp r o e j x y i hj f h s k =
        let d = okay_at w g at (Cmp o e) size inside i in
        carry r (scanned (surveyed y.at y.base y.n.bools 0 0 1 0 1) y.n.ints) (Cmp o e) i k s (record {
          count = two_behind w u (inner m) e base n x y (rw hj at f) (rw hj at h);
          unit = λ ds. refl;
          all = λ ds. refl;
          room = omega (arith, d.0, f.skips.start, h.skips.start);
          low = h.low;
          low_lines = omega arith;
          low_all = omega arith;
        })

    pub survey_not : (r : Scanned) (e : ℕ) → Asks (Not e) → Surveys w u m (not g) e base n r → Skips (read_part w) l m at base r.part.at r.part.base → Surveys w l m g at base n r
    unfolding step
    survey_not r e i f s =
        let o = okay_at w g at (Not e) size inside i in
        carry r r (Not e) i refl s (record {
          count = f.found.count;
          unit = f.found.unit;
          all = f.found.all;
          room = omega (arith, o.0, f.found.room);
          low = f.found.low;
          low_lines = f.found.low_lines;
          low_all = f.found.low_all;
        })

    conj_of : (s : Scanned) (k : ℕ) (a b : Bool) (q : ℕ) → Asks (Join false k a b q) → SurveysAll w u m k a b q base n s → Stepped (Join false k a b q) (joined_of false s)
    unfolding joined_of step form_item conj_item lines_of
    conj_of s k a b q e x =
        let f = x.found in
        let o = okay_at w g at (Join false k a b q) size inside e in
        record {
          count = f.count;
          unit = λ ds. ap long (f.all ds);
          all = f.all;
          room = omega (arith, o.3 refl, f.room);
          low = f.low;
          low_lines = f.low_all;
          low_all = f.low_all;
        }

    disj_of : (s : Scanned) (k : ℕ) (a b : Bool) (q x : ℕ) → Asks (Join true k a b q) → SurveysAll w u m k a b q base n s → s.part.longs ≡ x → Stepped (Join true k a b q) (scanned (closed_disj s.part) s.ints)
    unfolding step form_item disj_item closed_disj lines_of
    disj_of s k a b q zero e v i =
        let f = v.found in
        let o = okay_at w g at (Join true k a b q) size inside e in
        let ts : List Domain → Tally = λ ds. tallies (form_items ds (many (decode (read_part w) u m) k a b q base).trees) in
        let j : (ds : List Domain) → (ts ds).longs ≡ 0 = λ ds. ap (λ (t : Tally). t.longs) (sym (f.unit ds)) ∙ i in
        rw i (record {
          count = λ ds. rw (← f.unit ds, i, ← f.count ds) (sym (same_counters (counters_of s) f.low));
          unit = λ ds. rw i at (f.unit ds) ∙ sym (closed_none (ts ds) (j ds));
          all = λ ds. rw (closed_none (ts ds) (j ds), j ds);
          room = omega (arith, o.0, f.room);
          low = f.low;
          low_lines = f.low_lines;
          low_all = omega arith;
        })
    disj_of s k a b q (suc x) e v i =
        let f = v.found in
        let o = okay_at w g at (Join true k a b q) size inside e in
        let ts : List Domain → Tally = λ ds. tallies (form_items ds (many (decode (read_part w) u m) k a b q base).trees) in
        let j : (ds : List Domain) → (ts ds).longs ≡ suc x = λ ds. ap (λ (t : Tally). t.longs) (sym (f.unit ds)) ∙ i in
        let d : (ds : List Domain) → lines_in_of s.part ≡ disj_lines (ts ds) = λ ds. ap disj_lines (f.unit ds) in
        let p = s.part in
        subst (λ (y : Surveyed). Stepped (Join true k a b q) (scanned y s.ints)) (sym (closed_more p x i)) (record {
          count = λ ds. rw (← f.unit ds, ← f.count ds);
          unit = λ ds. ap long (d ds) ∙ sym (closed_long (ts ds) x (j ds));
          all = λ ds. d ds ∙ rw (closed_long (ts ds) x (j ds));
          room = omega (arith, o.0, f.room, i);
          low = more_bools_low (fresh_of p) (counters_of s) f.low;
          low_lines = lines_low (mode_in p.longs p.lits p.cmps) p.lines f.low_lines;
          low_all = lines_low (mode_in p.longs p.lits p.cmps) p.lines f.low_lines;
        })

    join_of : (d : Bool) (s : Scanned) (k : ℕ) (a b : Bool) (q : ℕ) → Asks (Join d k a b q) → SurveysAll w u m k a b q base n s → Stepped (Join d k a b q) (joined_of d s)
    unfolding joined_of
    join_of true s k a b q e f = disj_of s k a b q s.part.longs e f refl
    join_of false s k a b q e f = conj_of s k a b q e f

    pub survey_join : (r s : Scanned) (d : Bool) (k : ℕ) (a b : Bool) (q : ℕ) → Asks (Join d k a b q) → SurveysAll w u m k a b q base n s → Skips (read_part w) l m at base s.part.at s.part.base → r ≡ joined_of d s → Surveys w l m g at base n r
    survey_join r s d k a b q e f v i = carry r (joined_of d s) (Join d k a b q) e i (rw ((joined_ends d s).0, (joined_ends d s).1) v) (join_of d s k a b q e f)

    split_found : (h : Bool) (e q b : ℕ) → m ≡ here → at < e → e ≤ q → Stepped (Cross h e) (scanned (surveyed q b n.bools 1 0 0 2 2) n.ints)
    unfolding step cross_step form_item cross_item num_item lines_of tallies counts
    split_found h e q b hm i j = rw hm (record {
      count = λ ds. sym (ap (more_bools 0) (same_counters n low) ∙ same_counters n low);
      unit = λ ds. refl;
      all = λ ds. refl;
      room = omega arith;
      low = low;
      low_lines = omega arith;
      low_all = omega arith;
    })

    -- of a split Xor or Iff only the end and the splitting's next number matter
    pub survey_split : (r : Scanned) (h : Bool) (e q b : ℕ) → m ≡ here → Asks (Cross h e) → e ≤ q → Skips (read_part w) l m at base q b → r ≡ scanned (surveyed q b n.bools 1 0 0 2 2) n.ints → Surveys w l m g at base n r
    survey_split r h e q b hm i j s k =
        carry r (scanned (surveyed q b n.bools 1 0 0 2 2) n.ints) (Cross h e) i k s (split_found h e q b hm (okay_at w g at (Cross h e) size inside i).0 j)

    cross_found : (s v : Scanned) (h : Bool) (q : ℕ) → (m ≡ here → ⊥) → at < q → SurveysAll w u (inner m) 2 false h q base n s → SurveysAll w u (inner m) 2 true (not h) q base (counters_of s) v → Stepped (Cross h q) (scanned (closed_cross s.part v.part) v.ints)
    unfolding step form_item cross_item lines_of closed_cross
    cross_found s v h q hm o a b =
        let f = a.found in
        let f' = b.found in
        let x : (ds : List Domain) → lines_in_of s.part ≡ disj_lines (tallies (form_items ds (many (decode (read_part w) u (inner m)) 2 false h q base).trees)) = λ ds. ap disj_lines (f.unit ds) in
        let y : (ds : List Domain) → lines_in_of v.part ≡ disj_lines (tallies (form_items ds (many (decode (read_part w) u (inner m)) 2 true (not h) q base).trees)) = λ ds. ap disj_lines (f'.unit ds) in
        rw (cross_whole (decode (read_part w) u) m h q base hm) (record {
          count = λ ds. rw (← f.unit ds, ← f.count ds, ← f'.unit ds, ← f'.count ds);
          unit = λ ds. rw (x ds, y ds);
          all = λ ds. rw (x ds, y ds);
          room = omega (arith, o, f'.room);
          low = (omega arith, f'.low.1);
          low_lines = omega arith;
          low_all = omega arith;
        })

    pub survey_cross : (r s v : Scanned) (p : Surveyed) (h : Bool) (q j : ℕ) → (m ≡ here → ⊥) → Asks (Cross h q) → split_by j ≡ inner m → SurveysAll w u (split_by j) 2 false h q base n s → SurveysAll w u (split_by j) 2 true (not h) q base (counters_of s) v
        → Skips (read_part w) l m at base v.part.at v.part.base → p ≡ closed_cross s.part v.part → r ≡ scanned p v.ints → Surveys w l m g at base n r
    unfolding closed_cross
    survey_cross r s v p h q j hm e hj f f' k i t =
        let o = okay_at w g at (Cross h q) size inside e in
        carry r (scanned (closed_cross s.part v.part) v.ints) (Cross h q) e (t ∙ rw i) k (cross_found s v h q hm o.0 (rw hj at f) (rw hj at f'))

-- ---- members, one after another

-- r is found of the members before its place; so many are left, the next negated if f
pub record Sofar (w : List ℤ) (l : ℕ) (m : Splitting) (h : Bool) (k : ℕ) (g : Bool) (at base : ℕ) (n : Counters) (r : Scanned) (rest : ℕ) (f : Bool) : Type 0 where
  pub skips : Skipping (read_part w) l m k at base rest r.part.at r.part.base
  pub count : (ds : List Domain) → counts (form_items ds (many (decode (read_part w) l m) rest f h r.part.at r.part.base).trees) w (counters_of r) ≡ counts (form_items ds (many (decode (read_part w) l m) k g h at base).trees) w n
  pub unit : (ds : List Domain) → plus (tally r.part.longs r.part.lits r.part.cmps r.part.lines) (tallies (form_items ds (many (decode (read_part w) l m) rest f h r.part.at r.part.base).trees))
      ≡ tallies (form_items ds (many (decode (read_part w) l m) k g h at base).trees)
  pub all : (ds : List Domain) → bump r.part.all (all_lines (form_items ds (many (decode (read_part w) l m) rest f h r.part.at r.part.base).trees)) ≡ all_lines (form_items ds (many (decode (read_part w) l m) k g h at base).trees)
  pub room : r.part.longs + r.part.lits + r.part.cmps + at ≤ r.part.at
  pub low : Low (counters_of r)
  pub low_lines : r.part.lines ≤ limit
  pub low_all : r.part.all ≤ limit

tallies_low : (is : List Item) → (tallies is).lines ≤ limit
unfolding tallies
tallies_low [] = omega arith
tallies_low (i ∷ is) = omega arith

lines_all_low : (is : List Item) → all_lines is ≤ limit
unfolding all_lines
lines_all_low [] = omega arith
lines_all_low (i ∷ is) = omega arith

-- what was counted of one member, put behind what was counted
plus_more : (a b t : Tally) (u v : Tally) → u ≡ b → plus a (plus b t) ≡ v → t.lines ≤ limit → plus (tally (a.longs + u.longs) (a.lits + u.lits) (a.cmps + u.cmps) (bump a.lines u.lines)) t ≡ v
plus_more a b t u v e i h = tally_eq _ _ _ _ _ _ _ _ (omega arith) (omega arith) (omega arith) (omega arith) ∙ ap (λ (x : Tally). plus a (plus x t)) e ∙ i

bump_more : (a b c d v : ℕ) → d ≡ b → bump a (bump b c) ≡ v → bump (bump a d) c ≡ v
bump_more a b c d v e i = omega arith

module _ (w : List ℤ) (l : ℕ) (m : Splitting) (h : Bool) (k : ℕ) (g : Bool) (at base : ℕ) (n : Counters) where
  pub sofar_none : at ≤ folded_end → base ≤ limit → Low n → Sofar w l m h k g at base n (scanned (surveyed at base n.bools 0 0 0 0 0) n.ints) k g
  sofar_none i b a =
      let ts : List Domain → List Item = λ ds. form_items ds (many (decode (read_part w) l m) k g h at base).trees in
      record {
        skips = skipping_first (read_part w) l m k at base i b;
        count = λ ds. refl;
        unit = λ ds. tally_eq _ _ _ _ _ _ _ _ (omega arith) (omega arith) (omega arith) (omega (arith, tallies_low (ts ds)));
        all = λ ds. omega (arith, lines_all_low (ts ds));
        room = omega arith;
        low = a;
        low_lines = omega arith;
        low_all = omega arith;
      }

  pub sofar_more : (r s : Scanned) (p : Surveyed) (rest : ℕ) (f : Bool) → Sofar w l m h k g at base n r rest f → (rest ≡ 0 → ⊥) → Surveys w l m f r.part.at r.part.base (counters_of r) s → p ≡ added r.part s.part
      → Sofar w l m h k g at base n (scanned p s.ints) (rest - 1) h
  unfolding added many form_item tallies all_lines counts
  sofar_more r s p zero f x z y i = absurd (z refl)
  sofar_more r s p (suc rest) f x z y i =
      let d = y.found in
      let e = y.skips in
      let a = r.part in
      let b = s.part in
      let t = (decode (read_part w) l m f a.at a.base).tree in
      let ts : List Domain → List Item = λ ds. form_items ds (many (decode (read_part w) l m) rest h h (decode (read_part w) l m f a.at a.base).end (decode (read_part w) l m f a.at a.base).next).trees in
      rw i (record {
        skips = skipping_next (read_part w) l m k at base (suc rest) a.at a.base b.at b.base x.skips z e;
        count = λ ds. rw (sub-one, e.end f, e.next f, d.count ds) (x.count ds);
        unit = λ ds. rw (sub-one, e.end f, e.next f) (plus_more (tally a.longs a.lits a.cmps a.lines) (form_item ds t).unit (tallies (ts ds)) (tally b.longs b.lits b.cmps b.lines) _ (d.unit ds) (x.unit ds) (tallies_low (ts ds)));
        all = λ ds. rw (sub-one, e.end f, e.next f) (bump_more a.all (lines_of (form_item ds t).unit) (all_lines (ts ds)) b.all _ (d.all ds) (x.all ds));
        room = omega (arith, x.room, d.room);
        low = d.low;
        low_lines = omega arith;
        low_all = omega arith;
      })

  pub sofar_done : (r : Scanned) (rest : ℕ) (f : Bool) → Sofar w l m h k g at base n r rest f → rest ≡ 0 → SurveysAll w l m k g h at base n r
  unfolding many form_item tallies all_lines counts
  sofar_done r zero f x e = record {
    skips = skipping_last (read_part w) l m k at base zero r.part.at r.part.base x.skips e;
    found = record {
      count = x.count;
      unit = λ ds. tally_eq _ _ _ _ _ _ _ _ (omega arith) (omega arith) (omega arith) (omega (arith, x.low_lines)) ∙ x.unit ds;
      all = λ ds. omega (arith, x.all ds, x.low_all);
      room = x.room;
      low = x.low;
      low_lines = x.low_lines;
      low_all = x.low_all;
    };
  }
  sofar_done r (suc rest) f x e = absurd (omega arith)

-- ---- an If that is made

not_constant : (s : Seen) → (seen_code s ≡ 1 → ⊥) → constant_in s ≡ false
not_constant unseen z = refl
not_constant both_constant z = absurd (z refl)
not_constant (numbered v b) z = refl

is_constant : (s : Seen) → seen_code s ≡ 1 → constant_in s ≡ true
is_constant unseen e = absurd (omega arith)
is_constant both_constant e = refl
is_constant (numbered v b) e = absurd (omega arith)

-- a list of a literal and one more item
literal_fresh : (s : Surveyed) (t : Tally) → tally s.longs s.lits s.cmps s.lines ≡ t → with_literal s ≡ fresh (plus (tally 0 1 0 0) (plus t (tally 0 0 0 0)))
literal_fresh s t e =
    let i : tally s.longs (s.lits + 1) s.cmps (bump 0 (bump t.lines 0)) ≡ plus (tally 0 1 0 0) (plus t (tally 0 0 0 0))
    = rw (← e) (tally_eq _ _ _ _ _ _ _ _ (omega arith) (omega arith) (omega arith) refl) in
    ap fresh i

module _ (w : List ℤ) (l : ℕ) (m : Splitting) (p c base : ℕ) (n : Counters) where
  pub make_open : (k : ℕ) (i r : Counters) (a b : Scanned) → k ≡ seen_code (seen_at w p) → (k ≡ 1 → ⊥) → i ≡ more_ints w 1 n → Surveys w l m false c base i a → Surveys w l m true c base (counters_of a) b → r ≡ more_bools 1 (counters_of b) → Makes w l m p c base n r
  unfolding open_item disj_item conj_item equal_item tallies counts
  make_open k i r a b e z hi f h j = rw j (record {
    end = λ ds t o x y v. rw (not_constant (seen_at w p) (λ q. z (e ∙ q)), ← hi, ← f.found.count ds, ← h.found.count ds) refl;
    low = more_bools_low 1 (counters_of b) h.found.low;
  })

  pub make_variable : (k x v : ℕ) (i r : Counters) → k ≡ seen_code (seen_at w p) → k ≡ 1 → x ≡ word (read_part w) c → x ≡ 11 → v ≡ index max_bools (word (read_part w) (c + 1)) → i ≡ meets_bool w v n → r ≡ more_ints w 1 i → Low n → Makes w l m p c base n r
  make_variable k x v i r e o hx q hv hi j low = rw (j, hi) (record {
    end = λ ds t f a b u. rw (is_constant (seen_at w p) (sym e ∙ o), ← hx, q, hv) refl;
    low = more_ints_low w 1 (meets_bool w v n) (meets_bool_low w v n low);
  })

  pub make_named : (k x : ℕ) (i j r : Counters) (a b : Scanned) → k ≡ seen_code (seen_at w p) → k ≡ 1 → x ≡ word (read_part w) c → (x ≡ 11 → ⊥) → i ≡ more_bools 1 n → Surveys w l m true c base i a → Surveys w l m false c base (counters_of a) b → j ≡ named a b → r ≡ more_ints w 1 j
      → Makes w l m p c base n r
  unfolding condition_item cross_item num_item tallies counts named
  make_named k x i j r a b e o hx q hi f h hj hr = rw (hr, hj) (record {
    end = λ ds t g y z u. rw (is_constant (seen_at w p) (sym e ∙ o), ← hx, ne_eqb x 11 q, ← hi, ← f.found.count ds, ← h.found.count ds, literal_fresh a.part _ (f.found.unit ds), literal_fresh b.part _ (h.found.unit ds)) refl;
    low = more_ints_low w 1 (named a b) (omega arith, h.found.low.1);
  })

-- ---- one integer expression

if_end : (w : List ℤ) (o : Option ℕ) (p : Place) (c d : Item) (t f : IntItem) (n b k : Counters) → passed w p n ≡ false → b ≡ f.behind w (t.behind w n)
    → ((v : ℕ) → k ≡ (cond (constant_in (seen w p)) (constant_making w c d o b) (open_making w c d (t.total w n) (f.total w (t.behind w n)) v b)).end) → k ≡ if_behind o p c d t f w n
unfolding if_behind if_making
if_end w o p c d t f n b k h e i = rw (h, ← e) (i _)

turned : (b c : Bool) → b ≡ c → not b ≡ true → c ≡ false
turned true c e h = sym e ∙ sym h
turned false c e h = sym e

if_found : (w : List ℤ) (o : Option ℕ) (p : Place) (c d : Item) (t f : IntItem) (n : Counters) → passed w p n ≡ true → n ≡ if_behind o p c d t f w n
unfolding if_behind
if_found w o p c d t f n h = rw h refl

module _ (w : List ℤ) (size : folded_end ≤ length w) (l : ℕ) (m : Splitting) (at base : ℕ) (n : Counters) (low : Low n) where
  pub ints_none : (r : Behind) → l ≡ 0 → IntSkips (read_part w) l m at base at base → r ≡ behind_at at base n → IntSurveys w l m at base n r
  unfolding decode form_item const_item
  ints_none r e s i = rw i (record { skips = s; behind = λ ds. rw e refl; low = low })

  pub ints_off : (r : Behind) (q b : ℕ) (i : Bool) → i ≡ has_ifs w → not i ≡ true → IntSkips (read_part w) l m at base q b → r ≡ behind_at q b n → IntSurveys w l m at base n r
  ints_off r q b i e h s j = rw j (record { skips = s; behind = λ ds. sym ((int_form_off w (turned i (has_ifs w) e h) ds (decode_int (read_part w) l m at base).tree).behind n); low = low })

  module _ (u : ℕ) (z : l ≡ 0 → ⊥) (hu : u ≡ l - 1) (k : ℕ) (hk : k ≡ word (read_part w) at) where
    abbrev read_as : ℕ → IntForm
    read_as k = (int_step (read_part w) (decode (read_part w) u) (decode_int (read_part w) u) m at base k).tree

    int_carry : (r s : Behind) → r ≡ s → IntSkips (read_part w) l m at base s.at s.base → ((ds : List Domain) → s.n ≡ (form_int_item ds (read_as k)).behind w n) → Low s.n → IntSurveys w l m at base n r
    int_carry r s i f g h = rw i (record {
      skips = f;
      behind = λ ds. g ds ∙ ap (λ (d : IntRead). (form_int_item ds d.tree).behind w n) (sym (int_level (read_part w) l u m at base k z hu hk));
      low = h;
    })

    pub ints_var : (r : Behind) (x v two : ℕ) (i : Counters) → k ≡ 21 → x ≡ word (read_part w) (at + 1) → v ≡ index max_ints x → i ≡ meets_int w v n → IntSkips (read_part w) l m at base two base → r ≡ behind_at two base i → IntSurveys w l m at base n r
    unfolding int_step form_item ivar_item
    ints_var r x v two i e hx hv hi s j = int_carry r (behind_at two base i) j s (λ ds. rw (e, ← hx, ← hv) hi) (subst Low (sym hi) (meets_int_low w v n low))

    const_read : (k ≡ 21 → ⊥) → (k ≡ 22 → ⊥) → (k ≡ 23 → ⊥) → int_step (read_part w) (decode (read_part w) u) (decode_int (read_part w) u) m at base k ≡ record { tree = const (get_or (read_part w) (at + 1) (pos 0)); end = past (read_part w) (at + 2); next = base }
    unfolding int_step
    const_read a b c = rw (ne_eqb k 21 a, ne_eqb k 22 b, ne_eqb k 23 c) refl

    pub ints_const : (r : Behind) (two : ℕ) → (k ≡ 21 → ⊥) → (k ≡ 22 → ⊥) → (k ≡ 23 → ⊥) → IntSkips (read_part w) l m at base two base → r ≡ behind_at two base n → IntSurveys w l m at base n r
    unfolding form_item const_item
    ints_const r two a b c s j = int_carry r (behind_at two base n) j s (λ ds. ap (λ (d : IntRead). (form_int_item ds d.tree).behind w n) (sym (const_read a b c))) low

    pub ints_sum : (r : Behind) (x two : ℕ) → k ≡ 22 → x ≡ word (read_part w) (at + 1) → two ≡ min (at + 2) folded_end → TermSurveys w u m x two base n r → IntSkips (read_part w) l m at base r.at r.base → IntSurveys w l m at base n r
    unfolding int_step form_item sum_item
    ints_sum r x two e hx h2 f s =
        let i : two ≡ past (read_part w) (at + 2) = omega (arith, part_length w size) in
        int_carry r r refl s (λ ds. rw (e, ← hx, ← i) (f.behind ds)) f.low

    pub ints_passed : (r : Behind) (q b : ℕ) → k ≡ 23 → true ≡ passed_at w at n.ints → IntSkips (read_part w) l m at base q b → r ≡ behind_at q b n → IntSurveys w l m at base n r
    unfolding int_step if_step form_item choice_item passed seen
    ints_passed r q b e h s j = int_carry r (behind_at q b n) j s (λ ds. rw e (if_found w _ _ _ _ _ _ n (sym h))) low

    pub ints_made : (r x y : Behind) (one q b : ℕ) (j : Counters) → k ≡ 23 → false ≡ passed_at w at n.ints → one ≡ min (at + 1) folded_end → Skips (read_part w) u m one base q b → IntSurveys w u m q b n x → IntSurveys w u m x.at x.base x.n y
        → Makes w u m at one base y.n j → IntSkips (read_part w) l m at base y.at y.base → r ≡ behind_at y.at y.base j → IntSurveys w l m at base n r
    unfolding int_step if_step form_item choice_item passed seen
    ints_made r x y one q b j e h h1 c f g v s i =
        let o : one ≡ past (read_part w) (at + 1) = omega (arith, part_length w size) in
        let d = decode (read_part w) u m false one base in
        let a = decode_int (read_part w) u m d.end d.next in
        let t : List Domain → IntItem = λ ds. form_int_item ds a.tree in
        let f' : List Domain → IntItem = λ ds. form_int_item ds (decode_int (read_part w) u m a.end a.next).tree in
        int_carry r (behind_at y.at y.base j) i s (λ ds. rw (e, ← o) (if_end w _ _ _ _ (t ds) (f' ds) n y.n j (sym h) (two_behind w u m _ _ n x y (rw (c.end false, c.next false) at f) g ds) (λ k'. v.end ds (t ds) (f' ds) n ((t ds).behind w n) k'))) v.low

-- ---- terms, one after another

pub record TermsSofar (w : List ℤ) (l : ℕ) (m : Splitting) (k at base : ℕ) (n : Counters) (rest : ℕ) (r : Behind) : Type 0 where
  pub skips : TermSkipping (read_part w) l m k at base rest r.at r.base
  pub behind : (ds : List Domain) → (form_terms_item ds (many_terms (read_part w) (decode_int (read_part w) l m) rest r.at r.base).trees).behind w r.n ≡ (form_terms_item ds (many_terms (read_part w) (decode_int (read_part w) l m) k at base).trees).behind w n
  pub low : Low r.n

module _ (w : List ℤ) (l : ℕ) (m : Splitting) (k at base : ℕ) (n : Counters) where
  pub terms_none : at ≤ folded_end → base ≤ limit → Low n → TermsSofar w l m k at base n k (behind_at at base n)
  terms_none i b a = record { skips = terms_first w l m k at base i b; behind = λ ds. refl; low = a }

  pub terms_more : folded_end ≤ length w → (rest p : ℕ) (r s : Behind) → TermsSofar w l m k at base n rest r → (rest ≡ 0 → ⊥) → p ≡ min (r.at + 1) folded_end → IntSurveys w l m p r.base r.n s → TermsSofar w l m k at base n (rest - 1) s
  unfolding many_terms form_item term_item
  terms_more size zero p r s x z e f = absurd (z refl)
  terms_more size (suc rest) p r s x z e f =
      let i : p ≡ past (read_part w) (r.at + 1) = omega (arith, part_length w size) in
      record {
        skips = terms_next w l m k at base size (suc rest) r.at r.base p s.at s.base x.skips z e f.skips;
        behind = λ ds. rw (sub-one, f.behind ds, f.skips.end, f.skips.next, i) (x.behind ds);
        low = f.low;
      }

  pub terms_done : (rest : ℕ) (r : Behind) → TermsSofar w l m k at base n rest r → rest ≡ 0 → TermSurveys w l m k at base n r
  unfolding many_terms form_item no_terms_item
  terms_done zero r x e = record { skips = terms_last w l m k at base zero r.at r.base x.skips e; behind = x.behind; low = x.low }
  terms_done (suc rest) r x e = absurd (omega arith)
