-- The leaves of an expression in both polarities, by one walk.
use Rattle.std.specs.Prelude.{◌≡◌, Bool, true, not, cond, List, ℤ, eqb}
use Rattle.std.proofs.Math.Path.{refl, sym}
use Rattle.std.proofs.Common.{ap, ◌∙◌, arith, sub-one}
use Rattle.std.proofs.Math.Bool.{false}
use Prim.Native.Nat.{ℕ, zero, suc, ◌+◌, ◌-◌, ◌≤◌, ◌<◌, min}
use Rattle.memory.specs.Places.{folded_end, limit}
use Rattle.walk.specs.Item.{bump}
use Rattle.walk.specs.Decode.{word}
use Rattle.walk.specs.declared.Node.{Node}
use Rattle.walk.specs.declared.Node.TheVariants.{Var, Cmp, Not, Join, Cross}
use Rattle.walks.specs.Tree.{Splitting, never, below, here, inner}
use Rattle.walks.specs.Form.{Forms, nil, cons, joined}
use Rattle.walks.specs.Meet.{form_leaves, form_leaves_all}
use Rattle.walks.specs.Decode.{node_of, Read, Reader, IntReader, many, cross_step, step, decode, decode_int}
use Rattle.walks.specs.NoTies.{Alike, decode_same}
use Rattle.scan.specs.declared.LeafCount.{LeafCount}
use Rattle.scan.specs.Nodes.{level}
use Rattle.scan.specs.Skip.{split_by, Skips, SkipsAll, Skipping, skipping_first, skipping_next, skipping_last}

pub record LeavesAt (ws : List ℤ) (l : ℕ) (m : Splitting) (at base q b x y : ℕ) : Type 0 where
  pub skips : Skips ws l m at base q b
  pub plain : x ≡ form_leaves (decode ws l m false at base).tree
  pub negated : y ≡ form_leaves (decode ws l m true at base).tree

-- of so many members, the first negated if g, the others if h; and turned
pub record LeavesAll (ws : List ℤ) (l : ℕ) (m : Splitting) (k : ℕ) (g h : Bool) (at base q b x y : ℕ) : Type 0 where
  pub skips : SkipsAll ws l m k at base q b
  pub plain : x ≡ form_leaves_all (many (decode ws l m) k g h at base).trees
  pub negated : y ≡ form_leaves_all (many (decode ws l m) k (not g) (not h) at base).trees

-- ---- a node turned; whether it is a disjunction is left out

abbrev turn : Node → Node
turn (Var v q) = Var v q
turn (Cmp o q) = Cmp o q
turn (Not q) = Not q
turn (Join d k a b q) = Join false k (not a) (not b) q
turn (Cross h q) = Cross (not h) q

abbrev dull : Node → Node
dull (Var v q) = Var v q
dull (Cmp o q) = Cmp o q
dull (Not q) = Not q
dull (Join d k a b q) = Join false k a b q
dull (Cross h q) = Cross h q

turn_cond : (b : Bool) (x y x' y' : Node) → dull x ≡ turn x' → dull y ≡ turn y' → dull (cond b x y) ≡ turn (cond b x' y')
turn_cond true x y x' y' i j = i
turn_cond false x y x' y' i j = j

node_turned : (ws : List ℤ) (at k : ℕ) → dull (node_of ws true at k) ≡ turn (node_of ws false at k)
unfolding node_of
node_turned ws at k =
    turn_cond (eqb k 10) _ _ _ _ refl
    (turn_cond (eqb k 11) _ _ _ _ refl
    (turn_cond (eqb k 12) _ _ _ _ refl
    (turn_cond (eqb k 13) _ _ _ _ refl
    (turn_cond (eqb k 14) _ _ _ _ refl
    (turn_cond (eqb k 15) _ _ _ _ refl
    (turn_cond (eqb k 16) _ _ _ _ refl
    (turn_cond (eqb k 17) _ _ _ _ refl
    (turn_cond (eqb k 18) _ _ _ _ refl refl))))))))

joined_leaves : (d : Bool) (ts : Forms) → form_leaves (joined d ts) ≡ form_leaves_all ts
unfolding form_leaves
joined_leaves true ts = refl
joined_leaves false ts = refl

step_dull : (p : Splitting → Reader) (q : Splitting → IntReader) (m : Splitting) (g : Bool) (n : ℕ) (N : Node) → form_leaves (step p q m g n N).tree ≡ form_leaves (step p q m g n (dull N)).tree
unfolding step
step_dull p q m g n (Var v e) = refl
step_dull p q m g n (Cmp o e) = refl
step_dull p q m g n (Not e) = refl
step_dull p q m g n (Join d k a b e) = joined_leaves d (many (p m) k a b e n).trees ∙ sym (joined_leaves false (many (p m) k a b e n).trees)
step_dull p q m g n (Cross h e) = refl

-- ---- an Xor or Iff that is not split

tidy : (a b c d : ℕ) → bump (bump a (bump c 0)) (bump b (bump d 0)) ≡ min (a + c + (b + d)) limit
tidy a b c d = omega arith

turned_sum : (a b c d : ℕ) → bump (bump a (bump c 0)) (bump b (bump d 0)) ≡ bump (bump a (bump d 0)) (bump b (bump c 0))
turned_sum a b c d =
    let e : a + c + (b + d) ≡ a + d + (b + c) = omega arith in
    tidy a b c d ∙ ap (λ (x : ℕ). min x limit) e ∙ sym (tidy a b d c)

-- the second side's, wherever the first ends
sides_turned : (p : Reader) → Alike p → (h : Bool) (e n : ℕ) → bump (form_leaves_all (many p 2 false h e n).trees) (form_leaves_all (many p 2 true (not h) e n).trees) ≡ bump (form_leaves_all (many p 2 false (not h) e n).trees) (form_leaves_all (many p 2 true (not (not h)) e n).trees)
unfolding many form_leaves
sides_turned p f true e n = rw ((f true false e n).0, (f true false e n).1) (turned_sum _ _ _ _)
sides_turned p f false e n = rw ((f true false e n).0, (f true false e n).1) (turned_sum _ _ _ _)

whole_at : (p : Splitting → Reader) (m : Splitting) (h : Bool) (e n : ℕ) → (m ≡ here → ⊥) → bump (form_leaves_all (many (p (inner m)) 2 false h e n).trees) (form_leaves_all (many (p (inner m)) 2 true (not h) e n).trees) ≡ form_leaves (cross_step p m h e n).tree
unfolding cross_step form_leaves
whole_at p never h e n z = refl
whole_at p below h e n z = refl
whole_at p here h e n z = absurd (z refl)

-- ---- one expression

module _ (ws : List ℤ) (l : ℕ) (m : Splitting) (at base q b : ℕ) where
  pub leaves_none : l ≡ 0 → Skips ws l m at base q b → LeavesAt ws l m at base q b 0 0
  unfolding decode form_leaves
  leaves_none e s = record { skips = s; plain = rw e; negated = rw e }

  module _ (s : Skips ws l m at base q b) (u : ℕ) (z : l ≡ 0 → ⊥) (hu : u ≡ l - 1) where
    both : (N : Node) → N ≡ node_of ws false at (word ws at) → (x y : ℕ) → x ≡ form_leaves (step (decode ws u) (decode_int ws u) m false base N).tree → y ≡ form_leaves (step (decode ws u) (decode_int ws u) m true base (turn N)).tree → LeavesAt ws l m at base q b x y
    both N e x y i j =
        let k = level ws l u m false at base N z hu e in
        let o = level ws l u m true at base (node_of ws true at (word ws at)) z hu refl in
        let t : dull (node_of ws true at (word ws at)) ≡ turn N = node_turned ws at (word ws at) ∙ ap turn (sym e) in
        record {
          skips = s;
          plain = i ∙ ap (λ (r : Read). form_leaves r.tree) (sym k);
          negated = j ∙ ap (λ (M : Node). form_leaves (step (decode ws u) (decode_int ws u) m true base M).tree) (sym t)
              ∙ sym (step_dull (decode ws u) (decode_int ws u) m true base (node_of ws true at (word ws at))) ∙ ap (λ (r : Read). form_leaves r.tree) (sym o);
        }

    pub leaves_var : (v e : ℕ) → Var v e ≡ node_of ws false at (word ws at) → LeavesAt ws l m at base q b 1 1
    unfolding step form_leaves
    leaves_var v e i = both (Var v e) i 1 1 refl refl

    pub leaves_cmp : (o e : ℕ) → Cmp o e ≡ node_of ws false at (word ws at) → LeavesAt ws l m at base q b 1 1
    unfolding step form_leaves
    leaves_cmp o e i = both (Cmp o e) i 1 1 refl refl

    pub leaves_not : (e q' b' x y : ℕ) → Not e ≡ node_of ws false at (word ws at) → LeavesAt ws u m e base q' b' x y → LeavesAt ws l m at base q b y x
    unfolding step
    leaves_not e q' b' x y i r = both (Not e) i y x r.negated r.plain

    pub leaves_join : (d : Bool) (k : ℕ) (g h : Bool) (e q' b' x y : ℕ) → Join d k g h e ≡ node_of ws false at (word ws at) → LeavesAll ws u m k g h e base q' b' x y → LeavesAt ws l m at base q b x y
    unfolding step
    leaves_join d k g h e q' b' x y i r = both (Join d k g h e) i x y (r.plain ∙ sym (joined_leaves d _)) (r.negated ∙ sym (joined_leaves false _))

    pub leaves_split : (h : Bool) (e : ℕ) → m ≡ here → Cross h e ≡ node_of ws false at (word ws at) → LeavesAt ws l m at base q b 4 4
    unfolding step cross_step form_leaves
    leaves_split h e hm i = both (Cross h e) i 4 4 (rw hm) (rw hm)

    whole : (h : Bool) (e j x y : ℕ) → (m ≡ here → ⊥) → split_by j ≡ inner m → x ≡ form_leaves_all (many (decode ws u (split_by j)) 2 false h e base).trees → y ≡ form_leaves_all (many (decode ws u (split_by j)) 2 true (not h) e base).trees
        → bump x y ≡ form_leaves (cross_step (decode ws u) m h e base).tree
    whole h e j x y n hj i o = rw (i, o, hj) (whole_at (decode ws u) m h e base n)

    pub leaves_cross : (h : Bool) (e j q' b' x y t : ℕ) → t ≡ bump x y → (m ≡ here → ⊥) → Cross h e ≡ node_of ws false at (word ws at) → split_by j ≡ inner m → LeavesAll ws u (split_by j) 2 false h e base q' b' x y → LeavesAt ws l m at base q b t t
    unfolding step
    leaves_cross h e j q' b' x y t k n i hj r =
        both (Cross h e) i t t (k ∙ whole h e j x y n hj r.plain r.negated)
        (k ∙ rw (r.plain, r.negated) (sides_turned (decode ws u (split_by j)) (decode_same ws u (split_by j)) h e base) ∙ whole (not h) e j _ _ n hj refl refl)

-- ---- members

all_low : (ts : Forms) → form_leaves_all ts ≤ limit
unfolding form_leaves
all_low nil = omega arith
all_low (cons t ts) = omega arith

unfoldable pub swapped : Bool → ℕ → ℕ → ℕ
swapped f x y = cond f y x

swapped_is : (ws : List ℤ) (l : ℕ) (m : Splitting) (f : Bool) (at base q b x y : ℕ) → LeavesAt ws l m at base q b x y → swapped f x y ≡ form_leaves (decode ws l m f at base).tree
unfolding swapped
swapped_is ws l m true at base q b x y r = r.negated
swapped_is ws l m false at base q b x y r = r.plain

regroup : (x y z : ℕ) → bump (bump x y) z ≡ bump x (bump y z)
regroup x y z = omega arith

-- what is counted, and what is left to count
pub record Leaving (ws : List ℤ) (l : ℕ) (m : Splitting) (k : ℕ) (g h : Bool) (at base rest : ℕ) (f : Bool) (q b x y : ℕ) : Type 0 where
  pub skips : Skipping ws l m k at base rest q b
  pub plain : bump x (form_leaves_all (many (decode ws l m) rest f h q b).trees) ≡ form_leaves_all (many (decode ws l m) k g h at base).trees
  pub negated : bump y (form_leaves_all (many (decode ws l m) rest (not f) (not h) q b).trees) ≡ form_leaves_all (many (decode ws l m) k (not g) (not h) at base).trees
  pub low : x ≤ limit
  pub low_negated : y ≤ limit

module _ (ws : List ℤ) (l : ℕ) (m : Splitting) (k : ℕ) (g h : Bool) (at base : ℕ) where
  pub leaving_first : at ≤ folded_end → base ≤ limit → Leaving ws l m k g h at base k g at base 0 0
  leaving_first i j = record {
    skips = skipping_first ws l m k at base i j;
    plain = omega (arith, all_low (many (decode ws l m) k g h at base).trees);
    negated = omega (arith, all_low (many (decode ws l m) k (not g) (not h) at base).trees);
    low = omega arith;
    low_negated = omega arith;
  }

  pub leaving_next : (rest : ℕ) (f : Bool) (q b x y q' b' u v x' y' : ℕ) → Leaving ws l m k g h at base rest f q b x y → (rest ≡ 0 → ⊥) → LeavesAt ws l m q b q' b' u v → x' ≡ bump x (swapped f u v) → y' ≡ bump y (swapped (not f) u v)
      → Leaving ws l m k g h at base (rest - 1) h q' b' x' y'
  unfolding many form_leaves
  leaving_next zero f q b x y q' b' u v x' y' o z r i j = absurd (z refl)
  leaving_next (suc rest) f q b x y q' b' u v x' y' o z r i j =
      let s = r.skips in
      let a = (many (decode ws l m) rest h h (decode ws l m f q b).end (decode ws l m f q b).next).trees in
      let d = (many (decode ws l m) rest (not h) (not h) (decode ws l m (not f) q b).end (decode ws l m (not f) q b).next).trees in
      let t = swapped_is ws l m f q b q' b' u v r in
      let w = swapped_is ws l m (not f) q b q' b' u v r in
      record {
        skips = skipping_next ws l m k at base (suc rest) q b q' b' o.skips z s;
        plain = rw (sub-one, s.end f, s.next f, i, t) (regroup x (form_leaves (decode ws l m f q b).tree) (form_leaves_all a) ∙ o.plain);
        negated = rw (sub-one, s.end (not f), s.next (not f), j, w) (regroup y (form_leaves (decode ws l m (not f) q b).tree) (form_leaves_all d) ∙ o.negated);
        low = omega (arith, i);
        low_negated = omega (arith, j);
      }

  pub leaving_last : (rest : ℕ) (f : Bool) (q b x y : ℕ) → Leaving ws l m k g h at base rest f q b x y → rest ≡ 0 → LeavesAll ws l m k g h at base q b x y
  unfolding many form_leaves
  leaving_last zero f q b x y o z =
      let i : bump x 0 ≡ x = omega (arith, o.low) in
      let j : bump y 0 ≡ y = omega (arith, o.low_negated) in
      record { skips = skipping_last ws l m k at base zero q b o.skips z; plain = sym i ∙ o.plain; negated = sym j ∙ o.negated }
  leaving_last (suc rest) f q b x y o z = absurd (omega arith)

-- ---- splittings as codes

pub split_here : (m : ℕ) → 2 ≤ m → split_by m ≡ here
unfolding split_by
split_here zero h = absurd (omega arith)
split_here (suc zero) h = absurd (omega arith)
split_here (suc (suc m)) h = refl

abbrev code_of : Splitting → ℕ
code_of never = 0
code_of below = 1
code_of here = 2

pub not_here : (m : ℕ) → m < 2 → split_by m ≡ here → ⊥
unfolding split_by
not_here zero h e = let z : ◌≡◌ {A = ℕ} 0 2 = ap code_of e in omega arith
not_here (suc zero) h e = let z : ◌≡◌ {A = ℕ} 1 2 = ap code_of e in omega arith
not_here (suc (suc m)) h e = omega arith

-- ---- as the code gives them

abbrev pub counted : ℕ → ℕ → ℕ → ℕ → LeafCount
counted at base x y = record { at = at; base = base; plain = x; negated = y }

pub as_counted : (ws : List ℤ) (l : ℕ) (m : Splitting) (at base q b x y : ℕ) (r : LeafCount) → r ≡ counted q b x y → LeavesAt ws l m at base q b x y → LeavesAt ws l m at base r.at r.base r.plain r.negated
as_counted ws l m at base q b x y r e h = rw e h
