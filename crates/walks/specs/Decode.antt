-- A form read from words: total, so that a walk over any words has a meaning. What is no expression is an empty disjunction, or 0.
use Rattle.std.specs.Prelude.{Bool, true, false, not, cond, List, ℕ, zero, suc, ◌+◌, ◌-◌, ℤ, pos, get_or, eqb}
use Rattle.std.proofs.Math.Option.{Option, none, some}
use Rattle.syntax.specs.Syntax.{op_at}
use Rattle.syntax.specs.Words.{max_bools, max_ints}
use Rattle.walk.specs.Item.{bump, is_none}
use Rattle.walk.specs.Decode.{word, past, below as index, constant_node}
use Rattle.walk.specs.declared.Node.{Node}
use Rattle.walk.specs.declared.Node.TheVariants.{Var as VarAt, Cmp as CmpAt, Not as NotAt, Join, Cross}
use Rattle.walks.specs.Tree.{Splitting, never, below, here, inner}
use Rattle.walks.specs.Form.{Form, var, num, cmp, disj, cross, tied, Forms, nil, cons, append, joined, crossed, sides_tied, IntForm, const, ivar, sum, choice, TermForms, none as no_terms, term}

-- ---- nodes

-- what the code k at the position asks, the expression negated if g; of a comparison, its operator's code and where its first side stands
unfoldable pub node_of : List ℤ → Bool → ℕ → ℕ → Node
node_of ws g at k =
    cond (eqb k 10) (constant_node (word ws (at + 1)) g (past ws (at + 2)))
    (cond (eqb k 11) (VarAt (index max_bools (word ws (at + 1))) (past ws (at + 2)))
    (cond (eqb k 12) (Join g (word ws (at + 1)) g g (past ws (at + 2)))
    (cond (eqb k 13) (Join (not g) (word ws (at + 1)) g g (past ws (at + 2)))
    (cond (eqb k 14) (NotAt (past ws (at + 1)))
    (cond (eqb k 15) (Cross g (past ws (at + 1)))
    (cond (eqb k 16) (Cross (not g) (past ws (at + 1)))
    (cond (eqb k 17) (Join (not g) 2 (not g) g (past ws (at + 1)))
    (cond (eqb k 18) (CmpAt (word ws (at + 1)) (past ws (at + 2)))
    (Join true 0 g g (past ws (at + 1)))))))))))

-- ---- forms

-- a form, where it ends, the splitting's next number behind it
pub record Read : Type 0 where
  pub tree : Form
  pub end : ℕ
  pub next : ℕ

pub record Reads : Type 0 where
  pub trees : Forms
  pub end : ℕ
  pub next : ℕ

pub record IntRead : Type 0 where
  pub tree : IntForm
  pub end : ℕ
  pub next : ℕ

pub record TermReads : Type 0 where
  pub trees : TermForms
  pub end : ℕ
  pub next : ℕ

-- negated?, the place, the splitting's next number
abbrev pub Reader : Type 0
Reader = Bool → ℕ → ℕ → Read

abbrev pub IntReader : Type 0
IntReader = ℕ → ℕ → IntRead

-- so many members, the first negated if g, the others if h
unfoldable pub many : Reader → ℕ → Bool → Bool → ℕ → ℕ → Reads
many p zero g h at n = record { trees = nil; end = at; next = n }
many p (suc k) g h at n =
    let a = p g at n in
    let b = many p k h h a.end a.next in
    record { trees = cons a.tree b.trees; end = b.end; next = b.next }

abbrev pub as_tree : (Forms → Form) → Reads → Read
as_tree f r = record { tree = f r.trees; end = r.end; next = r.next }

-- an Xor or Iff
unfoldable pub cross_step : (Splitting → Reader) → Splitting → Bool → ℕ → ℕ → Read
cross_step p never h at n =
    let a = many (p never) 2 false h at n in
    as_tree (cross a.trees) (many (p never) 2 true (not h) at n)
cross_step p below h at n =
    let a = many (p here) 2 false h at n in
    as_tree (cross a.trees) (many (p here) 2 true (not h) at n)
cross_step p here h at n = as_tree (λ ts. crossed (num n) (num (n + 1)) h) (many (p here) 2 false false at (bump n 2))

-- p, q: the readers one level down, q of integer expressions
unfoldable pub step : (Splitting → Reader) → (Splitting → IntReader) → Splitting → Bool → ℕ → Node → Read
step p q m g n (VarAt v e) = record { tree = var v g; end = e; next = n }
step p q m g n (CmpAt o a) =
    let x = q (inner m) a n in
    let y = q (inner m) x.end x.next in
    record { tree = cmp (op_at o) x.tree y.tree g; end = y.end; next = y.next }
step p q m g n (NotAt e) = p m (not g) e n
step p q m g n (Join d k a b e) = as_tree (joined d) (many (p m) k a b e n)
step p q m g n (Cross h e) = cross_step p m h e n

-- so many terms
unfoldable pub many_terms : List ℤ → IntReader → ℕ → ℕ → ℕ → TermReads
many_terms ws q zero at n = record { trees = no_terms; end = at; next = n }
many_terms ws q (suc k) at n =
    let a = q (past ws (at + 1)) n in
    let b = many_terms ws q k a.end a.next in
    record { trees = term (get_or ws at (pos 0)) a.tree b.trees; end = b.end; next = b.next }

-- the condition at c, where it is a declared variable
abbrev pub own_at : List ℤ → ℕ → Option ℕ
own_at ws c = cond (eqb (word ws c) 11) (some (index max_bools (word ws (c + 1)))) none

-- an If at a place; its condition stands at c and is o, where it is a declared variable
unfoldable pub if_step : Option ℕ → (Splitting → Reader) → (Splitting → IntReader) → Splitting → ℕ → ℕ → ℕ → IntRead
if_step o p q m at c n =
    let x = p m false c n in
    let t = q m x.end x.next in
    let f = q m t.end t.next in
    record {
      tree = choice (record { at = at; size = f.end - at; whole = is_none (f.next - n) }) o x.tree (p m true c n).tree t.tree f.tree;
      end = f.end;
      next = f.next;
    }

-- k: its code
unfoldable pub int_step : List ℤ → (Splitting → Reader) → (Splitting → IntReader) → Splitting → ℕ → ℕ → ℕ → IntRead
int_step ws p q m at n k =
    cond (eqb k 21) (record { tree = ivar (index max_ints (word ws (at + 1))); end = past ws (at + 2); next = n })
    (cond (eqb k 22) (let a = many_terms ws (q m) (word ws (at + 1)) (past ws (at + 2)) n in record { tree = sum a.trees; end = a.end; next = a.next })
    (cond (eqb k 23) (let c = past ws (at + 1) in if_step (own_at ws c) p q m at c n)
    (record { tree = const (get_or ws (at + 1) (pos 0)); end = past ws (at + 2); next = n })))

unfoldable mutual
  pub decode : List ℤ → ℕ → Splitting → Reader
  decode ws zero m g at n = record { tree = disj nil; end = at; next = n }
  decode ws (suc l) m g at n = step (λ x h p k. decode ws l x h p k) (λ x p k. decode_int ws l x p k) m g n (node_of ws g at (word ws at))

  pub decode_int : List ℤ → ℕ → Splitting → IntReader
  decode_int ws zero m at n = record { tree = const (pos 0); end = at; next = n }
  decode_int ws (suc l) m at n = int_step ws (λ x h p k. decode ws l x h p k) (λ x p k. decode_int ws l x p k) m at n (word ws at)

-- ---- the extras

-- of what is read from a place on, with the splitting's next number
abbrev pub Ties : Type 0
Ties = ℕ → ℕ → Forms

-- of so many members
unfoldable pub many_ties : Reader → Ties → ℕ → ℕ → ℕ → Forms
many_ties p q zero at n = nil
many_ties p q (suc k) at n = let a = p false at n in append (q at n) (many_ties p q k a.end a.next)

unfoldable pub tie_at : Reader → ℕ → ℕ → ℕ → Form
tie_at p v at n = tied v (p false at n).tree (p true at n).tree

unfoldable pub cross_ties : (Splitting → Reader) → (Splitting → Ties) → Splitting → ℕ → ℕ → Forms
cross_ties p q never at n = many_ties (p never) (q never) 2 at n
cross_ties p q below at n = many_ties (p here) (q here) 2 at n
cross_ties p q here at n =
    let a = p here false at (bump n 2) in
    sides_tied here (q here at (bump n 2)) (tie_at (p here) n at (bump n 2)) (q here a.end a.next) (tie_at (p here) (n + 1) a.end a.next)

-- p, r: the readers one level down; q, s: their extras
unfoldable pub ties_step : (Splitting → Reader) → (Splitting → IntReader) → (Splitting → Ties) → (Splitting → Ties) → Splitting → ℕ → Node → Forms
ties_step p r q s m n (VarAt v e) = nil
ties_step p r q s m n (CmpAt o a) = let x = r (inner m) a n in append (s (inner m) a n) (s (inner m) x.end x.next)
ties_step p r q s m n (NotAt e) = q m e n
ties_step p r q s m n (Join d k a b e) = many_ties (p m) (q m) k e n
ties_step p r q s m n (Cross h e) = cross_ties p q m e n

unfoldable pub terms_ties : List ℤ → IntReader → Ties → ℕ → ℕ → ℕ → Forms
terms_ties ws r s zero at n = nil
terms_ties ws r s (suc k) at n =
    let p = past ws (at + 1) in
    let a = r p n in
    append (s p n) (terms_ties ws r s k a.end a.next)

-- an If; its condition stands at c
unfoldable pub if_ties : (Splitting → Reader) → (Splitting → IntReader) → (Splitting → Ties) → (Splitting → Ties) → Splitting → ℕ → ℕ → Forms
if_ties p r q s m c n =
    let x = p m false c n in
    let t = r m x.end x.next in
    append (q m c n) (append (s m x.end x.next) (s m t.end t.next))

unfoldable pub int_ties_step : List ℤ → (Splitting → Reader) → (Splitting → IntReader) → (Splitting → Ties) → (Splitting → Ties) → Splitting → ℕ → ℕ → ℕ → Forms
int_ties_step ws p r q s m at n k =
    cond (eqb k 21) nil
    (cond (eqb k 22) (terms_ties ws (r m) (s m) (word ws (at + 1)) (past ws (at + 2)) n)
    (cond (eqb k 23) (if_ties p r q s m (past ws (at + 1)) n) nil))

unfoldable mutual
  pub ties_at : List ℤ → ℕ → Splitting → Ties
  ties_at ws zero m at n = nil
  ties_at ws (suc l) m at n = ties_step (decode ws l) (decode_int ws l) (λ x p k. ties_at ws l x p k) (λ x p k. ties_int_at ws l x p k) m n (node_of ws false at (word ws at))

  pub ties_int_at : List ℤ → ℕ → Splitting → Ties
  ties_int_at ws zero m at n = nil
  ties_int_at ws (suc l) m at n = int_ties_step ws (decode ws l) (decode_int ws l) (λ x p k. ties_at ws l x p k) (λ x p k. ties_int_at ws l x p k) m at n (word ws at)
