-- Where the work slice w says that there are no Ifs: no item moves the counter of integers or adds anything before its words, and a sum or a pool depends on
-- no other counter. For the items of every form, whatever the words that it was read from.
use Rattle.std.specs.Prelude.{◌≡◌, Bool, ◌||◌, ℕ, ◌+◌, ℤ, pos, eqb}
use Rattle.std.proofs.Math.Path.{refl, sym, ap}
use Rattle.std.proofs.Common.{◌∙◌}
use Rattle.std.proofs.Math.Bool.{true, false, not, cond}
use Rattle.std.proofs.Math.Option.{Option}
use mathlib.Core.List.{List, [], ◌∷◌, ◌++◌}
use Rattle.syntax.specs.Syntax.{Domain, CmpOp}
use Rattle.sums.specs.LinearSum.{LinearSum, constant, singleton, add_sum, mul_sum, sub_sum}
use Rattle.clauses.specs.Clause.{linear}
use Rattle.clauses.specs.Normalize.{negate_op_if}
use Rattle.answer.specs.Answer.{linear_words}
use Rattle.walk.specs.Item.{bump, is_none, bool_entry, int_entry}
use Rattle.walk.specs.declared.Counters.{Counters}
use Rattle.walks.specs.Tree.{Place}
use Rattle.walks.specs.Form.{Form, var, num, cmp, conj, disj, cross, tied, Forms, nil, cons, IntForm, const, ivar, sum, choice, TermForms, none as no_terms, term}
use Rattle.walks.specs.Item.{counters, has_ifs, more_bools, meets_bool, meets_int, seen, known_in, number_in, Item, IntItem, TermsItem, tallies, counts, pools, regs, reg_lines, var_item, num_item, comparison, cmp_item, conj_item, disj_item, cross_item, tied_item, const_item, ivar_item, no_terms_item, term_item, sum_item, if_making, passed, if_behind, if_number, choice_item, form_item, form_items, form_int_item, form_terms_item}

module _ (w : List ℤ) (off : has_ifs w ≡ false) where
  -- ---- integers

  pub record IntOff (e : IntItem) : Type 0 where
    pub behind : (n : Counters) → e.behind w n ≡ n
    pub total : (n m : Counters) → n.ints ≡ m.ints → e.total w n ≡ e.total w m
    pub adds : (n : Counters) → e.adds w n ≡ []
    pub added : (n : Counters) → e.added w n ≡ 0

  pub record TermsOff (ts : TermsItem) : Type 0 where
    pub behind : (n : Counters) → ts.behind w n ≡ n
    pub total : (n m : Counters) (l : LinearSum) → n.ints ≡ m.ints → ts.total w n l ≡ ts.total w m l
    pub adds : (n : Counters) → ts.adds w n ≡ []
    pub added : (n : Counters) → ts.added w n ≡ 0

  -- counters behind that are those before
  same_ints : (f : Counters → Counters) → ((n : Counters) → f n ≡ n) → (n m : Counters) → n.ints ≡ m.ints → (f n).ints ≡ (f m).ints
  same_ints f h n m e = ap (λ (k : Counters). k.ints) (h n) ∙ e ∙ sym (ap (λ (k : Counters). k.ints) (h m))

  const_off : (c : ℤ) → IntOff (const_item c)
  unfolding const_item
  const_off c = record { behind = λ n. refl; total = λ n m e. refl; adds = λ n. refl; added = λ n. refl }

  met_off : (v : ℕ) (n : Counters) → meets_int w v n ≡ n
  unfolding meets_int
  met_off v n = ap (λ b. cond (eqb (int_entry w v) (n.ints + 1)) (cond b (counters n.bools (bump n.ints 1)) n) n) off ∙ either (eqb (int_entry w v) (n.ints + 1))
    where
      either : (b : Bool) → cond b n n ≡ n
      either true = refl
      either false = refl

  ivar_off : (ds : List Domain) (v : ℕ) → IntOff (ivar_item ds v)
  unfolding ivar_item
  ivar_off ds v = record { behind = met_off v; total = λ n m e. refl; adds = λ n. refl; added = λ n. refl }

  -- whatever the parts of an If are
  passed_off : (p : Place) (n : Counters) → passed w p n ≡ true
  unfolding passed
  passed_off p n = ap (λ b. not b || known_in (seen w p) n.ints) off

  choice_off : (o : Option ℕ) (p : Place) (c d : Item) (t f : IntItem) → IntOff (choice_item o p c d t f)
  unfolding choice_item if_behind if_number
  choice_off o p c d t f = record {
    behind = stays;
    total = λ n m e. ap (λ k. singleton (number_in (seen w p) k)) (same_ints (if_behind o p c d t f w) stays n m e);
    adds = λ n. ap (λ b. cond b [] (t.adds w n ++ (f.adds w (t.behind w n) ++ (if_making o p c d t f w n).words))) (passed_off p n);
    added = λ n. ap (λ b. cond b 0 (bump (t.added w n) (bump (f.added w (t.behind w n)) (if_making o p c d t f w n).lines))) (passed_off p n);
  }
    where
      stays : (n : Counters) → if_behind o p c d t f w n ≡ n
      stays n = unfold if_behind in ap (λ b. cond b n (if_making o p c d t f w n).end) (passed_off p n)

  none_off : TermsOff no_terms_item
  unfolding no_terms_item
  none_off = record { behind = λ n. refl; total = λ n m l e. refl; adds = λ n. refl; added = λ n. refl }

  term_off : (k : ℤ) {e : IntItem} {ts : TermsItem} → IntOff e → TermsOff ts → TermsOff (term_item k e ts)
  unfolding term_item
  term_off k {e} {ts} x y = record {
    behind = λ n. ap (ts.behind w) (x.behind n) ∙ y.behind n;
    total = λ n m l h.
        y.total (e.behind w n) (e.behind w m) (add_sum l (mul_sum k (e.total w n))) (same_ints (e.behind w) x.behind n m h)
        ∙ ap (λ z. ts.total w (e.behind w m) (add_sum l (mul_sum k z))) (x.total n m h);
    adds = λ n. rw (x.adds n, y.adds (e.behind w n)) refl;
    added = λ n. rw (x.added n, y.added (e.behind w n)) refl;
  }

  sum_off : {ts : TermsItem} → TermsOff ts → IntOff (sum_item ts)
  unfolding sum_item
  sum_off y = record { behind = y.behind; total = λ n m h. y.total n m (constant (pos 0)) h; adds = y.adds; added = y.added }

  -- ---- Booleans

  pub record ItemOff (i : Item) : Type 0 where
    pub count : (n : Counters) → (i.count w n).ints ≡ n.ints
    pub pool : (b : Bool) (n m : Counters) → n.ints ≡ m.ints → i.pool b w n ≡ i.pool b w m
    pub reg : (n : Counters) → i.reg w n ≡ []
    pub lines : (n : Counters) → i.lines w n ≡ 0

  pub record ItemsOff (is : List Item) : Type 0 where
    pub count : (n : Counters) → (counts is w n).ints ≡ n.ints
    pub pool : (b : Bool) (n m : Counters) → n.ints ≡ m.ints → pools is b w n ≡ pools is b w m
    pub reg : (n : Counters) → regs is w n ≡ []
    pub lines : (n : Counters) → reg_lines is w n ≡ 0

  nil_off : ItemsOff []
  unfolding counts pools regs reg_lines
  nil_off = record { count = λ n. refl; pool = λ b n m e. refl; reg = λ n. refl; lines = λ n. refl }

  cons_off : {i : Item} {is : List Item} → ItemOff i → ItemsOff is → ItemsOff (i ∷ is)
  unfolding counts pools regs reg_lines
  cons_off {i} {is} x y = record {
    count = λ n. y.count (i.count w n) ∙ x.count n;
    pool = λ b n m e. rw (x.pool b n m e, y.pool b (i.count w n) (i.count w m) (x.count n ∙ e ∙ sym (x.count m))) refl;
    reg = λ n. rw (x.reg n, y.reg (i.count w n)) refl;
    lines = λ n. rw (x.lines n, y.lines (i.count w n)) refl;
  }

  var_off : (v : ℕ) (g : Bool) → ItemOff (var_item v g)
  unfolding var_item meets_bool
  var_off v g = record { count = λ n. either n (eqb (bool_entry w v) (n.bools + 1)); pool = λ b n m e. refl; reg = λ n. refl; lines = λ n. refl }
    where
      either : (n : Counters) (b : Bool) → (cond b (more_bools 1 n) n).ints ≡ n.ints
      either n true = refl
      either n false = refl

  num_off : (k : ℕ) (g : Bool) → ItemOff (num_item k g)
  unfolding num_item
  num_off k g = record { count = λ n. refl; pool = λ b n m e. refl; reg = λ n. refl; lines = λ n. refl }

  cmp_off : (o : CmpOp) {a b : IntItem} (g : Bool) → IntOff a → IntOff b → ItemOff (cmp_item o a b g)
  unfolding cmp_item comparison
  cmp_off o {a} {b} g x y = record {
    count = λ n. ap (λ (k : Counters). k.ints) (y.behind (a.behind w n) ∙ x.behind n);
    pool = λ c n m e. ap (λ z. cond c [] z) (
        ap (λ l. linear_words (linear (negate_op_if g o) (sub_sum l (b.total w (a.behind w n))))) (x.total n m e)
        ∙ ap (λ l. linear_words (linear (negate_op_if g o) (sub_sum (a.total w m) l))) (y.total (a.behind w n) (a.behind w m) (same_ints (a.behind w) x.behind n m e))
        );
    reg = λ n. rw (x.adds n, y.adds (a.behind w n)) refl;
    lines = λ n. rw (x.added n, y.added (a.behind w n)) refl;
  }

  conj_off : {is : List Item} → ItemsOff is → ItemOff (conj_item is)
  unfolding conj_item
  conj_off x = record { count = x.count; pool = λ b n m e. refl; reg = x.reg; lines = x.lines }

  disj_off : {is : List Item} → ItemsOff is → ItemOff (disj_item is)
  unfolding disj_item
  disj_off {is} x = record { count = x.count; pool = λ b n m e. ap (λ (z : List ℤ). cond (is_none (tallies is).longs) z []) (x.pool b n m e); reg = x.reg; lines = x.lines }

  cross_off : {is js : List Item} → ItemsOff is → ItemsOff js → ItemOff (cross_item is js)
  unfolding cross_item
  cross_off {is} {js} x y = record {
    count = λ n. y.count (counts is w n) ∙ x.count n;
    pool = λ b n m e. refl;
    reg = λ n. rw (x.reg n, y.reg (counts is w n)) refl;
    lines = λ n. rw (x.lines n, y.lines (counts is w n)) refl;
  }

  tied_off : (v : ℕ) {i j : Item} → ItemOff i → ItemOff j → ItemOff (tied_item v i j)
  unfolding tied_item
  tied_off v {i} {j} x y = record {
    count = λ n. y.count (i.count w n) ∙ x.count n;
    pool = λ b n m e. refl;
    reg = λ n. rw (x.reg n, y.reg (i.count w n)) refl;
    lines = λ n. rw (x.lines n, y.lines (i.count w n)) refl;
  }

  -- ---- every form; ds: the declared domains

  module _ (ds : List Domain) where
    mutual
      unfolding form_item

      pub form_off : (t : Form) → ItemOff (form_item ds t)
      form_off (var v g) = var_off v g
      form_off (num n g) = num_off n g
      form_off (cmp o a b g) = cmp_off o g (int_form_off a) (int_form_off b)
      form_off (conj ts) = conj_off (forms_off ts)
      form_off (disj ts) = disj_off (forms_off ts)
      form_off (cross ts us) = cross_off (forms_off ts) (forms_off us)
      form_off (tied v t u) = tied_off v (form_off t) (form_off u)

      pub forms_off : (ts : Forms) → ItemsOff (form_items ds ts)
      forms_off nil = nil_off
      forms_off (cons t ts) = cons_off (form_off t) (forms_off ts)

      pub int_form_off : (e : IntForm) → IntOff (form_int_item ds e)
      int_form_off (const c) = const_off c
      int_form_off (ivar v) = ivar_off ds v
      int_form_off (sum ts) = sum_off (terms_off ts)
      int_form_off (choice p o c d t f) = choice_off o p (form_item ds c) (form_item ds d) (form_int_item ds t) (form_int_item ds f)

      pub terms_off : (ts : TermForms) → TermsOff (form_terms_item ds ts)
      terms_off no_terms = none_off
      terms_off (term k e ts) = term_off k (int_form_off e) (terms_off ts)
