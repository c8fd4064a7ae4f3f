-- Of any words: negation changes neither the end nor the splitting's next number, which only grows; and where the splitting of an expression takes no
-- number, it has no extras. A walk over them is then left out.
use Rattle.std.specs.Prelude.{◌≡◌, Bool, true, not, cond, List, ℤ, eqb}
use Rattle.std.proofs.Math.Path.{refl, sym}
use Rattle.std.proofs.Common.{ap, ◌∙◌, arith}
use Rattle.std.proofs.Math.Bool.{false}
use Rattle.std.proofs.Math.Option.{Option}
use Prim.Native.Nat.{ℕ, zero, suc, ◌+◌, ◌≤◌, ◌<◌}
use Rattle.memory.specs.Places.{limit}
use Rattle.walk.specs.Item.{bump}
use Rattle.walk.specs.Decode.{word, past}
use Rattle.walk.specs.declared.Node.{Node}
use Rattle.walk.specs.declared.Node.TheVariants.{Var as VarAt, Cmp as CmpAt, Not as NotAt, Join, Cross}
use Rattle.walks.specs.Tree.{Splitting, never, below, here, inner}
use Rattle.walks.specs.Form.{Forms, nil, append}
use Rattle.walks.specs.Decode.{own_at, node_of, Read, IntRead, Reader, IntReader, many, cross_step, step, many_terms, if_step, int_step, decode, decode_int, Ties, many_ties, cross_ties, ties_step, terms_ties, if_ties, int_ties_step, ties_at, ties_int_at}

-- ---- negation changes neither the end nor the splitting's next number

abbrev pub Same : Read → Read → Type 0
Same r s = (r.end ≡ s.end) × (r.next ≡ s.next)

abbrev pub Alike : Reader → Type 0
Alike p = (g h : Bool) (at n : ℕ) → Same (p g at n) (p h at n)

-- a node without its polarities
abbrev plain : Node → Node
plain (VarAt v q) = VarAt 0 q
plain (CmpAt b q) = CmpAt b q
plain (NotAt q) = NotAt q
plain (Join d k a b q) = Join false k false false q
plain (Cross h q) = Cross false q

plain_cond : (b : Bool) (x y x' y' : Node) → plain x ≡ plain x' → plain y ≡ plain y' → plain (cond b x y) ≡ plain (cond b x' y')
plain_cond true x y x' y' i j = i
plain_cond false x y x' y' i j = j

node_plain : (ws : List ℤ) (g h : Bool) (at k : ℕ) → plain (node_of ws g at k) ≡ plain (node_of ws h at k)
unfolding node_of
node_plain ws g h at k =
    plain_cond (eqb k 10) _ _ _ _ refl
    (plain_cond (eqb k 11) _ _ _ _ refl
    (plain_cond (eqb k 12) _ _ _ _ refl
    (plain_cond (eqb k 13) _ _ _ _ refl
    (plain_cond (eqb k 14) _ _ _ _ refl
    (plain_cond (eqb k 15) _ _ _ _ refl
    (plain_cond (eqb k 16) _ _ _ _ refl
    (plain_cond (eqb k 17) _ _ _ _ refl
    (plain_cond (eqb k 18) _ _ _ _ refl refl))))))))

pub many_same : (p : Reader) → Alike p → (k : ℕ) (g h g' h' : Bool) (at n : ℕ) → ((many p k g h at n).end ≡ (many p k g' h' at n).end) × ((many p k g h at n).next ≡ (many p k g' h' at n).next)
unfolding many
many_same p f zero g h g' h' at n = (refl, refl)
many_same p f (suc k) g h g' h' at n =
    let i = f g g' at n in
    let j = many_same p f k h h h' h' (p g at n).end (p g at n).next in (
      j.0 ∙ ap (λ (x : ℕ). (many p k h' h' x (p g at n).next).end) i.0 ∙ ap (λ (x : ℕ). (many p k h' h' (p g' at n).end x).end) i.1,
      j.1 ∙ ap (λ (x : ℕ). (many p k h' h' x (p g at n).next).next) i.0 ∙ ap (λ (x : ℕ). (many p k h' h' (p g' at n).end x).next) i.1,
    )

cross_same : (p : Splitting → Reader) → ((m : Splitting) → Alike (p m)) → (m : Splitting) (h h' : Bool) (at n : ℕ) → Same (cross_step p m h at n) (cross_step p m h' at n)
unfolding cross_step
cross_same p f never h h' at n = many_same (p never) (f never) 2 true (not h) true (not h') at n
cross_same p f below h h' at n = many_same (p here) (f here) 2 true (not h) true (not h') at n
cross_same p f here h h' at n = (refl, refl)

step_same : (p : Splitting → Reader) (q : Splitting → IntReader) → ((m : Splitting) → Alike (p m)) → (m : Splitting) (g : Bool) (n : ℕ) (N : Node) → Same (step p q m g n N) (step p q m false n (plain N))
unfolding step
step_same p q f m g n (VarAt v e) = (refl, refl)
step_same p q f m g n (CmpAt b e) = (refl, refl)
step_same p q f m g n (NotAt e) = f m (not g) true e n
step_same p q f m g n (Join d k a b e) = many_same (p m) (f m) k a b false false e n
step_same p q f m g n (Cross h e) = cross_same p f m h false e n

pub decode_same : (ws : List ℤ) (l : ℕ) (m : Splitting) → Alike (decode ws l m)
unfolding decode
decode_same ws zero m = λ g h at n. (refl, refl)
decode_same ws (suc l) m = λ g h at n.
    let k = word ws at in
    let i = step_same (decode ws l) (decode_int ws l) (decode_same ws l) m g n (node_of ws g at k) in
    let j = step_same (decode ws l) (decode_int ws l) (decode_same ws l) m h n (node_of ws h at k) in
    let e = node_plain ws g h at k in (
      i.0 ∙ ap (λ (N : Node). (step (decode ws l) (decode_int ws l) m false n N).end) e ∙ sym j.0,
      i.1 ∙ ap (λ (N : Node). (step (decode ws l) (decode_int ws l) m false n N).next) e ∙ sym j.1,
    )

-- ---- the splitting's next number only grows

abbrev pub Between : ℕ → ℕ → Type 0
Between n m = (n ≤ m) × (m ≤ limit)

between_then : (a b c : ℕ) → Between a b → Between b c → Between a c
between_then a b c x y = (omega (arith, x.0, y.0), y.1)

between_same : (n : ℕ) → n ≤ limit → Between n n
between_same n i = (omega arith, i)

abbrev pub Growing : Reader → Type 0
Growing p = (g : Bool) (at n : ℕ) → n ≤ limit → Between n (p g at n).next

abbrev pub GrowingInt : IntReader → Type 0
GrowingInt q = (at n : ℕ) → n ≤ limit → Between n (q at n).next

many_grows : (p : Reader) → Growing p → (k : ℕ) (g h : Bool) (at n : ℕ) → n ≤ limit → Between n (many p k g h at n).next
unfolding many
many_grows p f zero g h at n i = between_same n i
many_grows p f (suc k) g h at n i =
    let a = f g at n i in
    between_then n (p g at n).next _ a (many_grows p f k h h (p g at n).end (p g at n).next a.1)

cross_grows : (p : Splitting → Reader) → ((m : Splitting) → Growing (p m)) → (m : Splitting) (h : Bool) (at n : ℕ) → n ≤ limit → Between n (cross_step p m h at n).next
unfolding cross_step
cross_grows p f never h at n i = many_grows (p never) (f never) 2 true (not h) at n i
cross_grows p f below h at n i = many_grows (p here) (f here) 2 true (not h) at n i
cross_grows p f here h at n i =
    let a = many_grows (p here) (f here) 2 false false at (bump n 2) (omega arith) in
    (omega (arith, a.0), a.1)

step_grows : (p : Splitting → Reader) (q : Splitting → IntReader) → ((m : Splitting) → Growing (p m)) → ((m : Splitting) → GrowingInt (q m))
    → (m : Splitting) (g : Bool) (n : ℕ) (N : Node) → n ≤ limit → Between n (step p q m g n N).next
unfolding step
step_grows p q f f' m g n (VarAt v e) i = between_same n i
step_grows p q f f' m g n (CmpAt o e) i =
    let x = q (inner m) e n in
    let a = f' (inner m) e n i in
    between_then n x.next _ a (f' (inner m) x.end x.next a.1)
step_grows p q f f' m g n (NotAt e) i = f m (not g) e n i
step_grows p q f f' m g n (Join d k a b e) i = many_grows (p m) (f m) k a b e n i
step_grows p q f f' m g n (Cross h e) i = cross_grows p f m h e n i

many_terms_grows : (ws : List ℤ) (q : IntReader) → GrowingInt q → (k at n : ℕ) → n ≤ limit → Between n (many_terms ws q k at n).next
unfolding many_terms
many_terms_grows ws q f zero at n i = between_same n i
many_terms_grows ws q f (suc k) at n i =
    let x = q (past ws (at + 1)) n in
    let a = f (past ws (at + 1)) n i in
    between_then n x.next _ a (many_terms_grows ws q f k x.end x.next a.1)

if_grows : (o : Option ℕ) (p : Splitting → Reader) (q : Splitting → IntReader) → ((m : Splitting) → Growing (p m)) → ((m : Splitting) → GrowingInt (q m))
    → (m : Splitting) (at c n : ℕ) → n ≤ limit → Between n (if_step o p q m at c n).next
unfolding if_step
if_grows o p q f f' m at c n i =
    let x = p m false c n in
    let t = q m x.end x.next in
    let a = f m false c n i in
    let b = f' m x.end x.next a.1 in
    between_then n x.next _ a (between_then x.next t.next _ b (f' m t.end t.next b.1))

next_cond : (n : ℕ) (b : Bool) (x y : IntRead) → Between n x.next → Between n y.next → Between n (cond b x y).next
next_cond n true x y i j = i
next_cond n false x y i j = j

int_step_grows : (ws : List ℤ) (p : Splitting → Reader) (q : Splitting → IntReader) → ((m : Splitting) → Growing (p m)) → ((m : Splitting) → GrowingInt (q m))
    → (m : Splitting) (at n k : ℕ) → n ≤ limit → Between n (int_step ws p q m at n k).next
unfolding int_step
int_step_grows ws p q f f' m at n k i =
    next_cond n (eqb k 21) _ _ (between_same n i)
    (next_cond n (eqb k 22) _ _ (many_terms_grows ws (q m) (f' m) (word ws (at + 1)) (past ws (at + 2)) n i)
    (next_cond n (eqb k 23) _ _ (if_grows (own_at ws (past ws (at + 1))) p q f f' m at (past ws (at + 1)) n i) (between_same n i)))

mutual
  unfolding decode

  pub decode_grows : (ws : List ℤ) (l : ℕ) (m : Splitting) → Growing (decode ws l m)
  decode_grows ws zero m = λ g at n i. between_same n i
  decode_grows ws (suc l) m = λ g at n i. step_grows (decode ws l) (decode_int ws l) (λ x. decode_grows ws l x) (λ x. decode_int_grows ws l x) m g n (node_of ws g at (word ws at)) i

  pub decode_int_grows : (ws : List ℤ) (l : ℕ) (m : Splitting) → GrowingInt (decode_int ws l m)
  decode_int_grows ws zero m = λ at n i. between_same n i
  decode_int_grows ws (suc l) m = λ at n i. int_step_grows ws (decode ws l) (decode_int ws l) (λ x. decode_grows ws l x) (λ x. decode_int_grows ws l x) m at n (word ws at) i

-- ---- no number, no extras

-- q: the extras of what p reads
abbrev Bare : Reader → Ties → Type 0
Bare p q = (g : Bool) (at n : ℕ) → n < limit → (p g at n).next ≡ n → q at n ≡ nil

abbrev BareInt : IntReader → Ties → Type 0
BareInt r s = (at n : ℕ) → n < limit → (r at n).next ≡ n → s at n ≡ nil

squeeze : (n a b : ℕ) → n ≤ a → a ≤ b → b ≡ n → a ≡ n
squeeze n a b i j e = omega arith

low_still : (n a : ℕ) → n < limit → a ≡ n → a < limit
low_still n a i e = omega arith

low_low : (n : ℕ) → n < limit → n ≤ limit
low_low n i = omega arith

none_append : (ts us : Forms) → ts ≡ nil → us ≡ nil → append ts us ≡ nil
none_append ts us h k = rw (h, k) refl

many_bare : (p : Reader) (q : Ties) → Alike p → Growing p → Bare p q → (k : ℕ) (g h : Bool) (at n : ℕ) → n < limit → (many p k g h at n).next ≡ n → many_ties p q k at n ≡ nil
unfolding many many_ties
many_bare p q a f b zero g h at n i e = refl
many_bare p q a f b (suc k) g h at n i e =
    let x = f g at n (omega arith) in
    let y = many_grows p f k h h (p g at n).end (p g at n).next x.1 in
    let s : (p g at n).next ≡ n = squeeze n (p g at n).next (many p k h h (p g at n).end (p g at n).next).next x.0 y.0 e in
    let z = many_bare p q a f b k h h (p g at n).end (p g at n).next (omega (arith, s)) (e ∙ sym s) in
    let m = a false g at n in
    rw (b g at n i s, m.0, m.1, z)

cross_bare : (p : Splitting → Reader) (q : Splitting → Ties) → ((m : Splitting) → Alike (p m)) → ((m : Splitting) → Growing (p m)) → ((m : Splitting) → Bare (p m) (q m))
    → (m : Splitting) (h : Bool) (at n : ℕ) → n < limit → (cross_step p m h at n).next ≡ n → cross_ties p q m at n ≡ nil
unfolding cross_step cross_ties
cross_bare p q a f b never h at n i e = many_bare (p never) (q never) (a never) (f never) (b never) 2 true (not h) at n i e
cross_bare p q a f b below h at n i e = many_bare (p here) (q here) (a here) (f here) (b here) 2 true (not h) at n i e
cross_bare p q a f b here h at n i e =
    let x = many_grows (p here) (f here) 2 false false at (bump n 2) (omega arith) in
    absurd (omega (arith, x.0, e))

-- what is known of the readers and of the extras one level down
module _ (ws : List ℤ) (p : Splitting → Reader) (r : Splitting → IntReader) (q s : Splitting → Ties) (a : (m : Splitting) → Alike (p m)) (f : (m : Splitting) → Growing (p m)) (f' : (m : Splitting) → GrowingInt (r m))
    (b : (m : Splitting) → Bare (p m) (q m)) (b' : (m : Splitting) → BareInt (r m) (s m)) where
  step_bare : (m : Splitting) (g : Bool) (n : ℕ) (N : Node) → n < limit → (step p r m g n N).next ≡ n → ties_step p r q s m n N ≡ nil
  unfolding step ties_step
  step_bare m g n (VarAt v e) i h = refl
  step_bare m g n (CmpAt o u) i h =
      let x = r (inner m) u n in
      let y = f' (inner m) u n (low_low n i) in
      let z = f' (inner m) x.end x.next y.1 in
      let k : x.next ≡ n = squeeze n x.next (r (inner m) x.end x.next).next y.0 z.0 h in
      none_append _ _ (b' (inner m) u n i k) (b' (inner m) x.end x.next (low_still n x.next i k) (h ∙ sym k))
  step_bare m g n (NotAt e) i h = b m (not g) e n i h
  step_bare m g n (Join d k x y e) i h = many_bare (p m) (q m) (a m) (f m) (b m) k x y e n i h
  step_bare m g n (Cross c e) i h = cross_bare p q a f b m c e n i h

  terms_bare : (m : Splitting) (k at n : ℕ) → n < limit → (many_terms ws (r m) k at n).next ≡ n → terms_ties ws (r m) (s m) k at n ≡ nil
  unfolding many_terms terms_ties
  terms_bare m zero at n i e = refl
  terms_bare m (suc k) at n i e =
      let u = past ws (at + 1) in
      let x = r m u n in
      let y = f' m u n (low_low n i) in
      let z = many_terms_grows ws (r m) (f' m) k x.end x.next y.1 in
      let j : x.next ≡ n = squeeze n x.next (many_terms ws (r m) k x.end x.next).next y.0 z.0 e in
      none_append _ _ (b' m u n i j) (terms_bare m k x.end x.next (low_still n x.next i j) (e ∙ sym j))

  if_bare : (o : Option ℕ) (m : Splitting) (at c n : ℕ) → n < limit → (if_step o p r m at c n).next ≡ n → if_ties p r q s m c n ≡ nil
  unfolding if_step if_ties
  if_bare o m at c n i h =
      let x = p m false c n in
      let t = r m x.end x.next in
      let v = r m t.end t.next in
      let u = f m false c n (low_low n i) in
      let y = f' m x.end x.next u.1 in
      let z = f' m t.end t.next y.1 in
      let k : t.next ≡ n = squeeze n t.next v.next (between_then n x.next t.next u y).0 z.0 h in
      let l : x.next ≡ n = squeeze n x.next t.next u.0 y.0 k in
      none_append _ _ (b m false c n i l) (none_append _ _ (b' m x.end x.next (low_still n x.next i l) (k ∙ sym l)) (b' m t.end t.next (low_still n t.next i k) (h ∙ sym k)))

  bare_cond : (n : ℕ) (c : Bool) (x y : IntRead) (ts us : Forms) → (x.next ≡ n → ts ≡ nil) → (y.next ≡ n → us ≡ nil) → (cond c x y).next ≡ n → cond c ts us ≡ nil
  bare_cond n true x y ts us i j h = i h
  bare_cond n false x y ts us i j h = j h

  int_step_bare : (m : Splitting) (at n k : ℕ) → n < limit → (int_step ws p r m at n k).next ≡ n → int_ties_step ws p r q s m at n k ≡ nil
  unfolding int_step int_ties_step
  int_step_bare m at n k i h =
      bare_cond n (eqb k 21) _ _ _ _ (λ z. refl)
      (bare_cond n (eqb k 22) _ _ _ _ (λ z. terms_bare m (word ws (at + 1)) (past ws (at + 2)) n i z)
      (bare_cond n (eqb k 23) _ _ _ _ (λ z. if_bare (own_at ws (past ws (at + 1))) m at (past ws (at + 1)) n i z) (λ z. refl))) h

-- the extras are read with the expression plain
mutual
  unfolding decode ties_at

  pub no_ties : (ws : List ℤ) (l : ℕ) (m : Splitting) (g : Bool) (at n : ℕ) → n < limit → (decode ws l m g at n).next ≡ n → ties_at ws l m at n ≡ nil
  no_ties ws zero m g at n i e = refl
  no_ties ws (suc l) m g at n i e =
      let s = decode_same ws (suc l) m false g at n in
      step_bare ws (decode ws l) (decode_int ws l) (ties_at ws l) (ties_int_at ws l) (decode_same ws l) (decode_grows ws l) (decode_int_grows ws l) (λ x h u v y z. no_ties ws l x h u v y z) (λ x u v y z. no_int_ties ws l x u v y z) m false n (node_of ws false at (word ws at)) i (s.1 ∙ e)

  pub no_int_ties : (ws : List ℤ) (l : ℕ) (m : Splitting) (at n : ℕ) → n < limit → (decode_int ws l m at n).next ≡ n → ties_int_at ws l m at n ≡ nil
  no_int_ties ws zero m at n i e = refl
  no_int_ties ws (suc l) m at n i e =
      int_step_bare ws (decode ws l) (decode_int ws l) (ties_at ws l) (ties_int_at ws l) (decode_same ws l) (decode_grows ws l) (decode_int_grows ws l) (λ x h u v y z. no_ties ws l x h u v y z) (λ x u v y z. no_int_ties ws l x u v y z) m at n (word ws at) i e
