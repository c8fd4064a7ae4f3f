-- A tree as the walks' code sees it: without the Ifs as they are looked up, which are words at a place to the code.
use Rattle.std.specs.Prelude.{◌≡◌, refl, Bool, true, false, not, ℕ, ℤ}
use Rattle.std.proofs.Common.{ap}
use Rattle.std.proofs.Math.Option.{Option}
use Rattle.syntax.specs.Syntax.{CmpOp}
use Rattle.walks.specs.Tree.{Place, Tree, Trees, IntTree, TermTrees, own_var, condition_of, Splitting, never, below, here, append as append-trees, joined as joined-trees}
use Rattle.walks.specs.Tree.{var as tree-var, num as tree-num, cmp as tree-cmp, conj as tree-conj, disj as tree-disj, cross as tree-cross, tied as tree-tied, nil as no-trees, cons as more-trees, const as tree-const, ivar as tree-ivar, sum as tree-sum, choice as tree-choice, none as no-term-trees, term as tree-term}

-- choice p o c d t f: the condition where it is a declared variable, the condition plain and negated, the branches
mutual
  pub data Form : Type 0 where
    var num : ℕ → Bool → Form
    cmp : CmpOp → IntForm → IntForm → Bool → Form
    conj disj : Forms → Form
    cross : Forms → Forms → Form
    tied : ℕ → Form → Form → Form

  pub data Forms : Type 0 where
    nil : Forms
    cons : Form → Forms → Forms

  pub data IntForm : Type 0 where
    const : ℤ → IntForm
    ivar : ℕ → IntForm
    sum : TermForms → IntForm
    choice : Place → Option ℕ → Form → Form → IntForm → IntForm → IntForm

  pub data TermForms : Type 0 where
    none : TermForms
    term : ℤ → IntForm → TermForms → TermForms

abbrev pub pair : Form → Form → Forms
pair a b = cons a (cons b nil)

abbrev pub append : Forms → Forms → Forms
append nil us = us
append (cons t ts) us = cons t (append ts us)

-- a disjunction where d
abbrev pub joined : Bool → Forms → Form
joined false ts = conj ts
joined true ts = disj ts

-- a and b by the first sign, then by the second
abbrev pub crossed : (Bool → Form) → (Bool → Form) → Bool → Form
crossed a b h = cross (pair (a false) (b h)) (pair (a true) (b (not h)))

-- the sides' extras, and the ties where an Xor or Iff is split
abbrev pub sides_tied : Splitting → Forms → Form → Forms → Form → Forms
sides_tied never ts t us u = append ts us
sides_tied below ts t us u = append ts us
sides_tied here ts t us u = append (append ts (cons t nil)) (append us (cons u nil))

unfoldable mutual
  pub form : Tree → Form
  form (tree-var v g) = var v g
  form (tree-num n g) = num n g
  form (tree-cmp o a b g) = cmp o (int_form a) (int_form b) g
  form (tree-conj ts) = conj (forms ts)
  form (tree-disj ts) = disj (forms ts)
  form (tree-cross ts us) = cross (forms ts) (forms us)
  form (tree-tied v t u) = tied v (form t) (form u)

  pub forms : Trees → Forms
  forms no-trees = nil
  forms (more-trees t ts) = cons (form t) (forms ts)

  pub int_form : IntTree → IntForm
  int_form (tree-const c) = const c
  int_form (tree-ivar v) = ivar v
  int_form (tree-sum ts) = sum (term_forms ts)
  int_form (tree-choice i p e c d t f) = choice p (own_var (condition_of e)) (form c) (form d) (int_form t) (int_form f)

  pub term_forms : TermTrees → TermForms
  term_forms no-term-trees = none
  term_forms (tree-term k e ts) = term k (int_form e) (term_forms ts)

pub form_joined : (d : Bool) (ts : Trees) → form (joined-trees d ts) ≡ joined d (forms ts)
unfolding form
form_joined false ts = refl
form_joined true ts = refl

pub forms_append : (ts us : Trees) → forms (append-trees ts us) ≡ append (forms ts) (forms us)
unfolding form
forms_append no-trees us = refl
forms_append (more-trees t ts) us = ap (cons (form t)) (forms_append ts us)
