-- Where an expression ends and the splitting's next number behind it: the same for both polarities.
use Rattle.std.specs.Prelude.{◌≡◌, refl, Bool, true, not, cond, List, ℤ, length, eqb}
use Rattle.std.proofs.Common.{sym, ap, ◌∙◌, arith, sub-one}
use Rattle.std.proofs.Math.Bool.{false}
use Prim.Native.Nat.{ℕ, zero, suc, ◌+◌, ◌-◌, ◌≤◌, ◌<◌, min}
use borrow.Author.Tests.{ne_eqb}
use Rattle.memory.specs.Places.{folded_end, limit}
use Rattle.syntax.specs.Words.{max_bools}
use Rattle.walk.specs.Item.{bump}
use Rattle.walk.specs.Decode.{word, past, below as lowered, read_part}
use Rattle.walk.specs.declared.Node.{Node}
use Rattle.walk.specs.declared.Node.TheVariants.{Var, Cmp, Not, Join, Cross}
use Rattle.walk.proofs.NumberingSteps.{part_length}
use Rattle.walks.specs.Tree.{Splitting, never, below, here, inner}
use Rattle.walks.specs.Form.{IntForm}
use Rattle.walks.specs.Decode.{node_of, Read, IntRead, many, cross_step, step, many_terms, if_step, int_step, decode, decode_int}
use Rattle.walks.specs.NoTies.{decode_same, many_same}
use Rattle.scan.specs.Nodes.{okay_at, level, int_level}

-- ---- splittings as codes

unfoldable pub split_by : ℕ → Splitting
split_by zero = never
split_by (suc zero) = below
split_by (suc (suc m)) = here

pub inner_none : (m : ℕ) → m ≡ 0 → split_by 0 ≡ inner (split_by m)
unfolding split_by
inner_none m e = rw e

pub inner_some : (m : ℕ) → (m ≡ 0 → ⊥) → split_by 2 ≡ inner (split_by m)
unfolding split_by
inner_some zero z = absurd (z refl)
inner_some (suc zero) z = refl
inner_some (suc (suc m)) z = refl

-- the splitting's next number inside an Xor or Iff
abbrev pub inside_of : Splitting → ℕ → ℕ
inside_of never base = base
inside_of below base = base
inside_of here base = bump base 2

pub inside_same : (m base : ℕ) → m < 2 → base ≡ inside_of (split_by m) base
unfolding split_by
inside_same zero base h = refl
inside_same (suc zero) base h = refl
inside_same (suc (suc m)) base h = absurd (omega arith)

pub inside_more : (m base : ℕ) → 2 ≤ m → bump base 2 ≡ inside_of (split_by m) base
unfolding split_by
inside_more zero base h = absurd (omega arith)
inside_more (suc zero) base h = absurd (omega arith)
inside_more (suc (suc m)) base h = refl

pub inside_low : (m : Splitting) (base c : ℕ) → c ≡ inside_of m base → base ≤ limit → c ≤ limit
inside_low never base c e h = omega arith
inside_low below base c e h = omega arith
inside_low here base c e h = omega arith

-- ---- what is skipped; ws: the words that are read

pub record Skips (ws : List ℤ) (l : ℕ) (m : Splitting) (at base q b : ℕ) : Type 0 where
  pub end : (g : Bool) → q ≡ (decode ws l m g at base).end
  pub next : (g : Bool) → b ≡ (decode ws l m g at base).next
  pub start : at ≤ q
  pub inside : q ≤ folded_end
  pub low : b ≤ limit

-- of so many members
pub record SkipsAll (ws : List ℤ) (l : ℕ) (m : Splitting) (k at base q b : ℕ) : Type 0 where
  pub end : (g h : Bool) → q ≡ (many (decode ws l m) k g h at base).end
  pub next : (g h : Bool) → b ≡ (many (decode ws l m) k g h at base).next
  pub start : at ≤ q
  pub inside : q ≤ folded_end
  pub low : b ≤ limit

pub record IntSkips (ws : List ℤ) (l : ℕ) (m : Splitting) (at base q b : ℕ) : Type 0 where
  pub end : q ≡ (decode_int ws l m at base).end
  pub next : b ≡ (decode_int ws l m at base).next
  pub start : at ≤ q
  pub inside : q ≤ folded_end
  pub low : b ≤ limit

-- of so many terms
pub record TermSkips (ws : List ℤ) (l : ℕ) (m : Splitting) (k at base q b : ℕ) : Type 0 where
  pub end : q ≡ (many_terms ws (decode_int ws l m) k at base).end
  pub next : b ≡ (many_terms ws (decode_int ws l m) k at base).next
  pub start : at ≤ q
  pub inside : q ≤ folded_end
  pub low : b ≤ limit

-- ---- one expression

same_ends : (c : Bool) (x y : IntForm) (q b : ℕ) → (let r = cond {A = IntRead} c (record { tree = x; end = q; next = b }) (record { tree = y; end = q; next = b }) in (q ≡ r.end) × (b ≡ r.next))
same_ends true x y q b = (refl, refl)
same_ends false x y q b = (refl, refl)

cross_ends : (ws : List ℤ) (u : ℕ) (m : Splitting) (h : Bool) (e base j c q b : ℕ) → split_by j ≡ inner m → c ≡ inside_of m base → SkipsAll ws u (split_by j) 2 e c q b
    → (let r = cross_step (decode ws u) m h e base in (q ≡ r.end) × (b ≡ r.next))
unfolding cross_step
cross_ends ws u never h e base j c q b x y s = rw (← x, ← y) (s.end true (not h), s.next true (not h))
cross_ends ws u below h e base j c q b x y s = rw (← x, ← y) (s.end true (not h), s.next true (not h))
cross_ends ws u here h e base j c q b x y s = rw (← x, ← y) (s.end false false, s.next false false)

module _ (w : List ℤ) (size : folded_end ≤ length w) (l : ℕ) (m : Splitting) (at base : ℕ) (inside : at ≤ folded_end) (low : base ≤ limit) where
  pub skips_none : l ≡ 0 → Skips (read_part w) l m at base at base
  unfolding decode
  skips_none e = rw e (record { end = λ g. refl; next = λ g. refl; start = omega arith; inside = inside; low = low })

  pub int_none : l ≡ 0 → IntSkips (read_part w) l m at base at base
  unfolding decode
  int_none e = rw e (record { end = refl; next = refl; start = omega arith; inside = inside; low = low })

  module _ (u : ℕ) (z : l ≡ 0 → ⊥) (hu : u ≡ l - 1) where
    -- negated if g
    ends : (g : Bool) (N : Node) → N ≡ node_of (read_part w) g at (word (read_part w) at) → (q b : ℕ) → (let r = step (decode (read_part w) u) (decode_int (read_part w) u) m g base N in (q ≡ r.end) × (b ≡ r.next)) → at ≤ q → q ≤ folded_end → b ≤ limit → Skips (read_part w) l m at base q b
    ends g N a q b x f h k =
        let e = level (read_part w) l u m g at base N z hu a in
        record {
          end = λ h. x.0 ∙ ap (λ (r : Read). r.end) (sym e) ∙ (decode_same (read_part w) l m g h at base).0;
          next = λ h. x.1 ∙ ap (λ (r : Read). r.next) (sym e) ∙ (decode_same (read_part w) l m g h at base).1;
          start = f;
          inside = h;
          low = k;
        }

    pub skips_var : (g : Bool) (v q : ℕ) → Var v q ≡ node_of (read_part w) g at (word (read_part w) at) → Skips (read_part w) l m at base q base
    unfolding step
    skips_var g v q e = let o = okay_at w g at (Var v q) size inside e in ends g (Var v q) e q base (refl, refl) (omega (arith, o.0)) (omega (arith, o.1, part_length w size)) low

    pub skips_cmp : (g : Bool) (o e j q b q' b' : ℕ) → Cmp o e ≡ node_of (read_part w) g at (word (read_part w) at) → split_by j ≡ inner m → IntSkips (read_part w) u (split_by j) e base q b → IntSkips (read_part w) u (split_by j) q b q' b' → Skips (read_part w) l m at base q' b'
    unfolding step
    skips_cmp g o e j q b q' b' i hj x y =
        let k = okay_at w g at (Cmp o e) size inside i in
        ends g (Cmp o e) i q' b' (rw (← hj, ← x.end, ← x.next) (y.end, y.next)) (omega (arith, k.0, x.start, y.start)) y.inside y.low

    pub skips_not : (g : Bool) (e q b : ℕ) → Not e ≡ node_of (read_part w) g at (word (read_part w) at) → Skips (read_part w) u m e base q b → Skips (read_part w) l m at base q b
    unfolding step
    skips_not g e q b i s = let k = okay_at w g at (Not e) size inside i in ends g (Not e) i q b (s.end (not g), s.next (not g)) (omega (arith, k.0, s.start)) s.inside s.low

    pub skips_join : (g : Bool) (d : Bool) (k : ℕ) (x y : Bool) (e q b : ℕ) → Join d k x y e ≡ node_of (read_part w) g at (word (read_part w) at) → SkipsAll (read_part w) u m k e base q b → Skips (read_part w) l m at base q b
    unfolding step
    skips_join g d k x y e q b i s = let o = okay_at w g at (Join d k x y e) size inside i in ends g (Join d k x y e) i q b (s.end x y, s.next x y) (omega (arith, o.0, s.start)) s.inside s.low

    pub skips_cross : (g : Bool) (h : Bool) (e j c q b : ℕ) → Cross h e ≡ node_of (read_part w) g at (word (read_part w) at) → split_by j ≡ inner m → c ≡ inside_of m base → SkipsAll (read_part w) u (split_by j) 2 e c q b → Skips (read_part w) l m at base q b
    unfolding step
    skips_cross g h e j c q b i hj hc s =
        let o = okay_at w g at (Cross h e) size inside i in
        ends g (Cross h e) i q b (cross_ends (read_part w) u m h e base j c q b hj hc s) (omega (arith, o.0, s.start)) s.inside s.low

    -- ---- integer expressions; k: the code

    int_ends : (k : ℕ) → k ≡ word (read_part w) at → (q b : ℕ) → (let r = int_step (read_part w) (decode (read_part w) u) (decode_int (read_part w) u) m at base k in (q ≡ r.end) × (b ≡ r.next)) → at ≤ q → q ≤ folded_end → b ≤ limit → IntSkips (read_part w) l m at base q b
    int_ends k a q b x f h y =
        let e = int_level (read_part w) l u m at base k z hu a in
        record { end = x.0 ∙ ap (λ (r : IntRead). r.end) (sym e); next = x.1 ∙ ap (λ (r : IntRead). r.next) (sym e); start = f; inside = h; low = y }

    past_is : (p q : ℕ) → q ≡ min p folded_end → past (read_part w) p ≡ q
    past_is p q e = omega (arith, part_length w size)

    pub int_leaf : (k two : ℕ) → k ≡ word (read_part w) at → (k ≡ 22 → ⊥) → (k ≡ 23 → ⊥) → two ≡ min (at + 2) folded_end → IntSkips (read_part w) l m at base two base
    unfolding int_step
    int_leaf k two a x y e = int_ends k a two base (rw (ne_eqb k 22 x, ne_eqb k 23 y, past_is (at + 2) two e) (same_ends (eqb k 21) _ _ two base)) (omega arith) (omega arith) low

    pub int_sum : (k two x q b : ℕ) → k ≡ word (read_part w) at → k ≡ 22 → two ≡ min (at + 2) folded_end → x ≡ word (read_part w) (at + 1) → TermSkips (read_part w) u m x two base q b → IntSkips (read_part w) l m at base q b
    unfolding int_step
    int_sum k two x q b a i e hx s = int_ends k a q b (rw (i, ← hx, past_is (at + 2) two e) (s.end, s.next)) (omega (arith, s.start)) s.inside s.low

    pub int_if : (k one q b q' b' q'' b'' : ℕ) → k ≡ word (read_part w) at → k ≡ 23 → one ≡ min (at + 1) folded_end → Skips (read_part w) u m one base q b → IntSkips (read_part w) u m q b q' b' → IntSkips (read_part w) u m q' b' q'' b'' → IntSkips (read_part w) l m at base q'' b''
    unfolding int_step if_step
    int_if k one q b q' b' q'' b'' a i e c t f =
        int_ends k a q'' b'' (rw (i, past_is (at + 1) one e, ← c.end false, ← c.next false, ← t.end, ← t.next) (f.end, f.next)) (omega (arith, c.start, t.start, f.start)) f.inside f.low

-- ---- members

var_node : (w : List ℤ) (g : Bool) (q p : ℕ) → folded_end ≤ length w → p ≤ folded_end → p ≡ q + 2 → word (read_part w) q ≡ 11 → Var (lowered max_bools (word (read_part w) (q + 1))) p ≡ node_of (read_part w) g q (word (read_part w) q)
unfolding node_of
var_node w g q p size h x e = let i : past (read_part w) (q + 2) ≡ p = omega (arith, part_length w size) in rw (e, i)

not_node : (w : List ℤ) (g : Bool) (q : ℕ) → folded_end ≤ length w → q + 1 ≤ folded_end → word (read_part w) q ≡ 14 → Not (q + 1) ≡ node_of (read_part w) g q (word (read_part w) q)
unfolding node_of
not_node w g q size h e = let i : past (read_part w) (q + 1) ≡ q + 1 = omega (arith, part_length w size) in rw (e, i)

-- the expression at q has k words, and takes no number
abbrev pub LiteralMember : List ℤ → ℕ → ℕ → ℕ → Type 0
LiteralMember w l q k = (m : Splitting) (base : ℕ) → base ≤ limit → Skips (read_part w) l m q base (q + k) base

pub variable_words : (w : List ℤ) (l q : ℕ) → folded_end ≤ length w → (l ≡ 0 → ⊥) → q + 2 ≤ folded_end → word (read_part w) q ≡ 11 → LiteralMember w l q 2
variable_words w l q size z h e m base low =
    skips_var w size l m q base (omega arith) low (l - 1) z refl false _ (q + 2) (var_node w false q (q + 2) size h refl e)

pub negation_words : (w : List ℤ) (l q : ℕ) → folded_end ≤ length w → 2 ≤ l → q + 3 ≤ folded_end → word (read_part w) q ≡ 14 → word (read_part w) (q + 1) ≡ 11 → LiteralMember w l q 3
negation_words w l q size z h e i m base low =
    let s : Skips (read_part w) (l - 1) m (q + 1) base (q + 3) base = skips_var w size (l - 1) m (q + 1) base (omega arith) low (l - 1 - 1) (λ x. omega arith) refl true _ (q + 3) (var_node w true (q + 1) (q + 3) size (omega arith) (omega arith) i) in
    skips_not w size l m q base (omega arith) low (l - 1) (λ x. omega arith) refl false (q + 1) (q + 3) base (not_node w false q size (omega arith) e) s

-- as many members as are left end where all do
pub record Skipping (ws : List ℤ) (l : ℕ) (m : Splitting) (k at base rest q b : ℕ) : Type 0 where
  pub end : (many (decode ws l m) rest false false q b).end ≡ (many (decode ws l m) k false false at base).end
  pub next : (many (decode ws l m) rest false false q b).next ≡ (many (decode ws l m) k false false at base).next
  pub start : at ≤ q
  pub inside : q ≤ folded_end
  pub low : b ≤ limit

module _ (ws : List ℤ) (l : ℕ) (m : Splitting) (k at base : ℕ) where
  pub skipping_first : at ≤ folded_end → base ≤ limit → Skipping ws l m k at base k at base
  skipping_first h i = record { end = refl; next = refl; start = omega arith; inside = h; low = i }

  pub skipping_next : (rest q b q' b' : ℕ) → Skipping ws l m k at base rest q b → (rest ≡ 0 → ⊥) → Skips ws l m q b q' b' → Skipping ws l m k at base (rest - 1) q' b'
  unfolding many
  skipping_next zero q b q' b' x z s = absurd (z refl)
  skipping_next (suc rest) q b q' b' x z s = record {
    end = rw (sub-one, s.end false, s.next false) x.end;
    next = rw (sub-one, s.end false, s.next false) x.next;
    start = omega (arith, x.start, s.start);
    inside = s.inside;
    low = s.low;
  }

  pub skipping_last : (rest q b : ℕ) → Skipping ws l m k at base rest q b → rest ≡ 0 → SkipsAll ws l m k at base q b
  unfolding many
  skipping_last zero q b x z = record {
    end = λ g h. x.end ∙ (many_same (decode ws l m) (decode_same ws l m) k false false g h at base).0;
    next = λ g h. x.next ∙ (many_same (decode ws l m) (decode_same ws l m) k false false g h at base).1;
    start = x.start;
    inside = x.inside;
    low = x.low;
  }
  skipping_last (suc rest) q b x z = absurd (omega arith)

-- ---- terms

-- a term of three words
abbrev pub LeafTerm : List ℤ → ℕ → ℕ → Type 0
LeafTerm w l q = (l ≡ 0 → ⊥) × (q < folded_end - 3) × (word (read_part w) (q + 1) ≡ 22 → ⊥) × (word (read_part w) (q + 1) ≡ 23 → ⊥)

pub record TermSkipping (ws : List ℤ) (l : ℕ) (m : Splitting) (k at base rest q b : ℕ) : Type 0 where
  pub end : (many_terms ws (decode_int ws l m) rest q b).end ≡ (many_terms ws (decode_int ws l m) k at base).end
  pub next : (many_terms ws (decode_int ws l m) rest q b).next ≡ (many_terms ws (decode_int ws l m) k at base).next
  pub start : at ≤ q
  pub inside : q ≤ folded_end
  pub low : b ≤ limit

module _ (w : List ℤ) (l : ℕ) (m : Splitting) (k at base : ℕ) where
  pub terms_first : at ≤ folded_end → base ≤ limit → TermSkipping (read_part w) l m k at base k at base
  terms_first h i = record { end = refl; next = refl; start = omega arith; inside = h; low = i }

  pub terms_next : folded_end ≤ length w → (rest q b p q' b' : ℕ) → TermSkipping (read_part w) l m k at base rest q b → (rest ≡ 0 → ⊥) → p ≡ min (q + 1) folded_end → IntSkips (read_part w) l m p b q' b' → TermSkipping (read_part w) l m k at base (rest - 1) q' b'
  unfolding many_terms
  terms_next size zero q b p q' b' x z e s = absurd (z refl)
  terms_next size (suc rest) q b p q' b' x z e s =
      let i : p ≡ past (read_part w) (q + 1) = omega (arith, part_length w size) in
      record {
        end = rw (sub-one, s.end, s.next, i) x.end;
        next = rw (sub-one, s.end, s.next, i) x.next;
        start = omega (arith, x.start, x.inside, s.start);
        inside = s.inside;
        low = s.low;
      }

  pub terms_leaf : folded_end ≤ length w → (rest q b : ℕ) → TermSkipping (read_part w) l m k at base rest q b → (rest ≡ 0 → ⊥) → LeafTerm w l q → TermSkipping (read_part w) l m k at base (rest - 1) (q + 3) b
  terms_leaf size rest q b x z h =
      terms_next size rest q b (q + 1) (q + 3) b x z (omega (arith, h.1)) (int_leaf w size l m (q + 1) b (omega (arith, h.1)) x.low (l - 1) h.0 refl (word (read_part w) (q + 1)) (q + 3) refl h.2 h.3 (omega (arith, h.1)))

  pub terms_last : (rest q b : ℕ) → TermSkipping (read_part w) l m k at base rest q b → rest ≡ 0 → TermSkips (read_part w) l m k at base q b
  unfolding many_terms
  terms_last zero q b x z = record { end = x.end; next = x.next; start = x.start; inside = x.inside; low = x.low }
  terms_last (suc rest) q b x z = absurd (omega arith)
