-- The second walk's package of a tree is what the Rust makes of it: the counters, the words, the shape, and what its Ifs add.
-- w: a work slice with the final maps and the Ifs' numbers by place. What a run needs of the log where it starts is a predicate beside it.
use Rattle.std.specs.Prelude.{◌≡◌, Bool, ◌&&◌, ◌||◌, ℤ, pos, length, eqb}
use Rattle.std.proofs.Math.Path.{refl, sym, ap}
use Rattle.std.proofs.Common.{◌∙◌, arith, add-one, eq-eqb, ne_eqb, lt-ltb, le-ltb}
use Rattle.std.proofs.Math.Bool.{true, false, not, cond}
use Rattle.std.proofs.Math.Option.{Option, none, some}
use mathlib.Core.List.{List, [], ◌∷◌, ◌++◌, append-nil}
use Prim.Native.Nat.{ℕ, suc, ◌+◌, ◌-◌, ◌≤◌, ◌<◌, min}
use Rattle.std.proofs.Math.ListN.{length-append, length-map}
use Rattle.laws.specs.Lists.{flat}
use Rattle.memory.specs.Places.{limit}
use Rattle.memory.specs.Number.{nat}
use Rattle.syntax.specs.Syntax.{IfIsRead, Domain, CmpOp, Eq, IntExpr, BoolExpr, Const, Var, NVar, And, Or, Not, Xor, Iff, Imp, Cmp}
use Rattle.syntax.specs.Words.{max_bools, max_ints}
use Rattle.sums.specs.LinearSum.{LinearSum, constant, singleton, is_constant, add_sum, mul_sum, sub_sum}
use Rattle.sums.specs.Rising.{constant_of}
use Rattle.clauses.specs.Clause.{BoolLit, lit, LinearLit, linear, Clause, clause}
use Rattle.clauses.specs.Log.{side, declared_int, bool, int, Log, number_of, negate_lit, next_bool, next_int, get_bool_var, get_int_var, get_if, bool_var_at, int_var_at, convert_bool_var, convert_int_var, clauses_of}
use Rattle.clauses.specs.Disjunction.{add_bool, add_bool_each, pool, sorted, Out, Outs, each_longer, finish_disjunction, finish_sorted, normalize_disjunction}
use Rattle.clauses.specs.Normalize.{Run, Runs, IntRun, IntOut, define, no_run, run_then, two, normalize_conjunction, disjunction_of, cross as cross-run, lit_clauses, normalize_num, normalize_var, negate_op_if, normalize_comparison, normalize_int_var, normalize_term, equals, own_literal, condition_literal, two_valued, if_constant, if_open, normalize_if}
use Rattle.clauses.proofs.Grow.{get_int_below}
use Rattle.clauses.proofs.Since.{Adds, adds_same, adds_then}
use Rattle.answer.specs.Answer.{linear_words}
use Rattle.walk.specs.Item.{bump, bool_at, signed, bool_entry, int_entry, word_of, clause_text, tally, long, fresh, disj_lines, closed, lines_of, extra}
use Rattle.walk.proofs.Grow.{Grows, same, then, bool_below, bool_here, int_here, Fit, back, lit_word, word_lit, signed_lit}
use Rattle.walk.proofs.Texts.{words, linears, layout, words_more, linears_more, layout_append, layout_add, long_layout, AllLong, finish_words, finish_count, lengths, finish_lines, finish_long, disjunction_finish, disjunction_auxed, auxed_untouched}
use Rattle.walk.specs.declared.Mode.{Mode}
use Rattle.walk.specs.declared.Counters.{Counters}
use Rattle.walks.specs.Tree.{own_var, Place, Tree, var, num, cmp, conj, disj, cross, tied, Trees, nil, cons, size, IntTree, const, ivar, sum, choice, TermTrees, none as no_terms, term, condition_of, run, runs, run_int, run_terms}
use Rattle.walks.specs.Form.{form}
use Rattle.walks.specs.Item.{form_item, counters, more_bools, has_ifs, int_count, more_ints, meets_bool, meets_int, Seen, unseen, both_constant, numbered, seen, known_in, constant_in, number_in, Item, IntItem, TermsItem, tallies, all_lines, counts, pools, texts, regs, reg_lines, long_texts, disj_text, var_item, num_item, comparison, cmp_item, equal_item, conj_item, disj_item, cross_item, tied_item, const_item, ivar_item, no_terms_item, term_item, sum_item, open_item, condition_item, Making, block_words, block_lines, constant_making, open_making, if_making, passed, if_behind, if_number, choice_item, item, items, int_item, terms_item}
use Rattle.walks.specs.Placed.{HasNumber, Numbered, Visited, Either, Known, opened, either_domain, Placed, PlacedAll, PlacedInt, PlacedTerms}
use Rattle.walks.specs.Grow.{grow_defined, grow_known, grow_int, two_valued_made, disjunction_grows, no_run_grows, then_grows, two_grow, conj_grows, disj_grows, cross_grows, num_grows, var_grows, comparison_grows, ivar_grows, term_grows, either_grows, if_constant_grows, if_open_grows, if_grows}

pub tally_eq : (a a' b b' c c' d d' : ℕ) → a ≡ a' → b ≡ b' → c ≡ c' → d ≡ d' → tally a b c d ≡ tally a' b' c' d'
tally_eq a a' b b' c c' d d' p q r s = cc

pub counters_eq : (a a' b b' : ℕ) → a ≡ a' → b ≡ b' → counters a b ≡ counters a' b'
counters_eq a a' b b' p q = cc

-- a counter with room for one more
bump_one : (k : ℕ) → suc k ≤ limit → bump k 1 ≡ suc k
bump_one k h = omega arith

-- an integer more, where they are counted
pub int_more : (w : List ℤ) (n k : ℕ) → suc k ≤ limit → more_ints w 1 (counters n (int_count w k)) ≡ counters n (int_count w (suc k))
int_more w n k h = go (has_ifs w)
  where
    go : (b : Bool) → cond b (counters n (bump (cond b k 0) 1)) (counters n (cond b k 0)) ≡ counters n (cond b (suc k) 0)
    go true = ap (counters n) (bump_one k h)
    go false = refl

one_less : (k : ℕ) → suc k - 1 ≡ k
one_less k = omega arith

room_below : (k : ℕ) → suc k ≤ limit → k < limit
room_below k h = omega arith

-- ---- proper trees

-- an If's condition is no bare emitted number
abbrev pub NoNumber : BoolExpr → Type 0
NoNumber (NVar n) = ⊥
NoNumber (Var v) = Unit {0}
NoNumber (Const b) = Unit {0}
NoNumber (And ms) = Unit {0}
NoNumber (Or ms) = Unit {0}
NoNumber (Not e) = Unit {0}
NoNumber (Xor a b) = Unit {0}
NoNumber (Iff a b) = Unit {0}
NoNumber (Imp a b) = Unit {0}
NoNumber (Cmp o a b) = Unit {0}

-- conjunctions have two members or more, variables are declared, and numbers are below the limit
unfoldable mutual
  pub Proper : Tree → Type 0
  Proper (var v g) = v < max_bools
  Proper (num n g) = n < limit
  Proper (cmp o a b g) = ProperInt a × ProperInt b
  Proper (conj ts) = (2 ≤ size ts) × Propers ts
  Proper (disj ts) = Propers ts
  Proper (cross ts us) = Propers ts × Propers us
  Proper (tied v t u) = (v < limit) × Proper t × Proper u

  pub Propers : Trees → Type 0
  Propers nil = Unit {0}
  Propers (cons t ts) = Proper t × Propers ts

  pub ProperInt : IntTree → Type 0
  ProperInt (const c) = Unit {0}
  ProperInt (ivar v) = v < max_ints
  ProperInt (sum ts) = ProperTerms ts
  ProperInt (choice i p e c d t f) = NoNumber (condition_of e) × Proper c × Proper d × ProperInt t × ProperInt f

  pub ProperTerms : TermTrees → Type 0
  ProperTerms no_terms = Unit {0}
  ProperTerms (term k e ts) = ProperInt e × ProperTerms ts

-- ---- the counters of a log, and a work slice with its maps

abbrev pub at : List ℤ → Log → Counters
at w s = counters (next_bool s) (int_count w (next_int s))

pub record Ready (w : List ℤ) (s : Log) : Type 0 where
  pub fit : Fit w s
  pub ints : next_int s ≤ limit

pub ready_back : {w : List ℤ} {s t : Log} → Grows s t → Ready w t → Ready w s
ready_back g r = record { fit = back g r.fit; ints = omega (arith, g.ints, r.ints) }

-- ---- the words and the number of the clauses that t has more than s

pub record Registers (ws : List ℤ) (k : ℕ) (s t : Log) : Type 0 where
  pub cs : List Clause
  pub eq : Adds s t cs
  pub words : ws ≡ layout [] cs
  pub lines : k ≡ min (length cs) limit

pub registers_same : (s t : Log) → clauses_of t ≡ clauses_of s → Registers [] 0 s t
unfolding layout
registers_same s t e = record { cs = []; eq = adds_same s t e; words = refl; lines = refl }

pub registers_to : {us ws : List ℤ} {j k : ℕ} {s t : Log} → ws ≡ us → k ≡ j → Registers us j s t → Registers ws k s t
registers_to p q a = record { cs = a.cs; eq = a.eq; words = p ∙ a.words; lines = q ∙ a.lines }

pub registers_then : {us ws : List ℤ} {j k : ℕ} {s t u : Log} → Registers us j s t → Registers ws k t u → Registers (us ++ ws) (bump j k) s u
registers_then {us} {ws} {j} {k} {s} {t} {u} a b = record {
  cs = a.cs ++ b.cs;
  eq = adds_then s t u a.cs b.cs a.eq b.eq;
  words = rw (a.words, b.words) (sym (layout_append [] a.cs b.cs));
  lines = omega (arith, a.lines, b.lines, length-append a.cs b.cs);
}

-- the second's counters are those of the log between
pub registers_after : {us : List ℤ} {j : ℕ} {s t u : Log} {n m : Counters} (ws : Counters → List ℤ) (ks : Counters → ℕ) → n ≡ m → Registers us j s t → Registers (ws m) (ks m) t u → Registers (us ++ ws n) (bump j (ks n)) s u
registers_after {us} {j} ws ks e a b = registers_to (ap (λ n. us ++ ws n) e) (ap (λ n. bump j (ks n)) e) (registers_then a b)

-- an entry without clauses behind, or in front
pub registers_behind : {ws : List ℤ} {k : ℕ} {s t u : Log} → clauses_of u ≡ clauses_of t → Registers ws k s t → Registers ws k s u
registers_behind e a = record { cs = a.cs; eq = e ∙ a.eq; words = a.words; lines = a.lines }

pub registers_front : {ws : List ℤ} {k : ℕ} {s t u : Log} → clauses_of t ≡ clauses_of s → Registers ws k t u → Registers ws k s u
registers_front e a = record { cs = a.cs; eq = a.eq ∙ ap (λ (l : List Clause). l ++ a.cs) e; words = a.words; lines = a.lines }

-- ---- disjunctions make Booleans only

disjunction_ints : (css : List (List Clause)) (s : Log) → next_int (normalize_disjunction css s).1 ≡ next_int s
disjunction_ints css s = (auxed_untouched (disjunction_auxed css s)).ints

disjunction_quiet : (css : List (List Clause)) (s : Log) → clauses_of (normalize_disjunction css s).1 ≡ clauses_of s
disjunction_quiet css s = (auxed_untouched (disjunction_auxed css s)).quiet

module _ (w : List ℤ) where
  -- one clause, or two and more, of an item met at n
  pub data Shape (i : Item) (n : Counters) (cs : List Clause) : Type 0 where
    single : (ls : List BoolLit) (ks : List LinearLit) → cs ≡ clause ls ks ∷ [] → i.unit ≡ tally 0 (length ls) (length ks) 0 → i.pool true w n ≡ words ls → i.pool false w n ≡ linears ks → Shape i n cs
    many : 2 ≤ length cs → i.unit ≡ long (min (length cs) limit) → i.pool true w n ≡ [] → i.pool false w n ≡ [] → Shape i n cs

  pub record ImplementsAt (i : Item) (s : Log) (o : Out) : Type 0 where
    pub count : i.count w (at w s) ≡ at w o.1
    pub text : (suf : List ℤ) → i.text w (at w s) suf ≡ layout suf o.0
    pub shape : Shape i (at w s) o.0
    pub adds : Registers (i.reg w (at w s)) (i.lines w (at w s)) s o.1

  -- from every log where the needs are met
  pub record Implements (i : Item) (r : Run) (needs : Log → Type 0) : Type 0 where
    pub grows : (s : Log) → Grows s (r s).1
    pub from : (s : Log) → Ready w (r s).1 → needs s → ImplementsAt i s (r s)

  pub implements_if : {i : Item} {r : Run} {P Q : Log → Type 0} → ((s : Log) → Q s → P s) → Implements i r P → Implements i r Q
  implements_if h x = record { grows = x.grows; from = λ s f q. x.from s f (h s q) }

  -- the members sorted
  pub record Sorts (is : List Item) (s : Log) (o : Outs) : Type 0 where
    pub ls : List BoolLit
    pub ks : List LinearLit
    pub cx : List (List Clause)
    pub eq : sorted o.0 ≡ pool ls ks cx
    pub tal : tallies is ≡ tally (length cx) (length ls) (length ks) (min (lengths cx) limit)
    pub pl : pools is true w (at w s) ≡ words ls
    pub pk : pools is false w (at w s) ≡ linears ks
    pub longs : (d : Mode) (b : ℕ) (x : List ℤ) (k : ℕ) (suf : List ℤ) → long_texts d b x is w (at w s) k suf ≡ long_layout (extra d b x) cx k suf
    pub all_long : AllLong cx
    pub count : counts is w (at w s) ≡ at w o.1
    pub text : (suf : List ℤ) → texts is w (at w s) suf ≡ layout suf (flat o.0)
    pub lines : all_lines is ≡ min (length (flat o.0)) limit
    pub size : length is ≤ length (flat o.0)
    pub adds : Registers (regs is w (at w s)) (reg_lines is w (at w s)) s o.1

  pub record Goods (is : List Item) (rs : Runs) (needs : Log → Type 0) : Type 0 where
    pub grows : (s : Log) → Grows s (rs s).1
    pub from : (s : Log) → Ready w (rs s).1 → needs s → Sorts is s (rs s)

  pub shape_lines : {i : Item} {n : Counters} {cs : List Clause} → Shape i n cs → lines_of i.unit ≡ min (length cs) limit
  unfolding lines_of
  shape_lines (single ls ks e u p q) = rw (u, e) (omega arith)
  shape_lines (many h u p q) = rw u

  pub shape_some : {i : Item} {n : Counters} {cs : List Clause} → Shape i n cs → 1 ≤ length cs
  shape_some (single ls ks e u p q) = rw e (omega arith)
  shape_some (many h u p q) = omega arith

  sorts_more : (i : Item) (is : List Item) (s : Log) (a : Out) (b : Outs) → ImplementsAt i s a → Sorts is a.1 b → Sorts (i ∷ is) s (a.0 ∷ b.0, b.1)
  unfolding sorted tallies all_lines counts pools texts regs reg_lines long_texts long_layout layout
  sorts_more i is s (zs, t) b g h = go zs g.shape g.text
    where
      cnt : counts is w (i.count w (at w s)) ≡ at w b.1
      cnt = ap (counts is w) g.count ∙ h.count

      lin : (zs : List Clause) → Shape i (at w s) zs → bump (lines_of i.unit) (all_lines is) ≡ min (length (zs ++ flat b.0)) limit
      lin zs x = omega (arith, shape_lines x, h.lines, length-append zs (flat b.0))

      add : Registers (i.reg w (at w s) ++ regs is w (i.count w (at w s))) (bump (i.lines w (at w s)) (reg_lines is w (i.count w (at w s)))) s b.1
      add = registers_after (regs is w) (reg_lines is w) g.count g.adds h.adds

      go : (zs : List Clause) → Shape i (at w s) zs → ((suf : List ℤ) → i.text w (at w s) suf ≡ layout suf zs) → Sorts (i ∷ is) s (zs ∷ b.0, b.1)
      go zs (single ls ks e u p q) text = record {
        ls = ls ++ h.ls;
        ks = ks ++ h.ks;
        cx = h.cx;
        eq = rw (e, h.eq);
        tal = rw (u, h.tal, length-append ls h.ls, length-append ks h.ks) (tally_eq _ _ _ _ _ _ _ _ (omega arith) refl refl (omega arith));
        pl = rw (p, g.count, h.pl) (words_more ls h.ls);
        pk = rw (q, g.count, h.pk) (linears_more ks h.ks);
        longs = λ d x y k suf. rw (u, g.count) (h.longs d x y k suf);
        all_long = h.all_long;
        count = cnt;
        text = λ suf. rw (text suf, g.count, h.text suf) (sym (layout_append suf zs (flat b.0)));
        lines = lin zs (single ls ks e u p q);
        size = rw (length-append zs (flat b.0), e) (omega (arith, h.size));
        adds = add;
      }
      go [] (many z u p q) text = absurd (omega arith)
      go (c ∷ []) (many z u p q) text = absurd (omega arith)
      go (c ∷ d ∷ cs) (many z u p q) text = record {
        ls = h.ls;
        ks = h.ks;
        cx = (c ∷ d ∷ cs) ∷ h.cx;
        eq = rw h.eq;
        tal = rw (u, h.tal) (tally_eq _ _ _ _ _ _ _ _ (omega arith) (omega arith) (omega arith) (omega arith));
        pl = rw (p, g.count, h.pl);
        pk = rw (q, g.count, h.pk);
        longs = λ d x y k suf. rw (u, text (extra d x y k ++ suf), g.count, h.longs d x y (k + 1) suf);
        all_long = (omega arith, h.all_long);
        count = cnt;
        text = λ suf. rw (text suf, g.count, h.text suf) (sym (layout_append suf (c ∷ d ∷ cs) (flat b.0)));
        lines = lin (c ∷ d ∷ cs) (many z u p q);
        size = rw (length-append (c ∷ d ∷ cs) (flat b.0)) (omega (arith, h.size));
        adds = add;
      }

  pub goods_nil : Goods [] no_run (λ s. Unit {0})
  unfolding no_run sorted tallies all_lines counts pools texts regs reg_lines long_texts long_layout layout
  goods_nil = record {
    grows = no_run_grows;
    from = λ s f n. record {
      ls = [];
      ks = [];
      cx = [];
      eq = refl;
      tal = refl;
      pl = refl;
      pk = refl;
      longs = λ d b x k suf. refl;
      all_long = tt;
      count = refl;
      text = λ suf. refl;
      lines = refl;
      size = omega arith;
      adds = registers_same s s refl;
    };
  }

  pub more : {i : Item} {r : Run} {is : List Item} {rs : Runs} {P Q : Log → Type 0} → Implements i r P → Goods is rs Q → Goods (i ∷ is) (run_then r rs) (λ s. P s × Q (r s).1)
  unfolding run_then
  more {i} {r} {is} {rs} g gs = record {
    grows = then_grows r rs g.grows gs.grows;
    from = λ s f n. sorts_more i is s (r s) (rs (r s).1) (g.from s (ready_back (gs.grows (r s).1) f) n.0) (gs.from (r s).1 f n.1);
  }

  -- ---- a disjunction, behind its members, the first met at n

  pub record DisjAt (is : List Item) (n : Counters) (s : Log) (o : Out) : Type 0 where
    pub text : (suf : List ℤ) → disj_text is w n (next_bool s) suf ≡ layout suf o.0
    pub count : more_bools (fresh (tallies is)) (at w s) ≡ at w o.1
    pub lines : disj_lines (tallies is) ≡ min (length o.0) limit
    pub shape : Shape (disj_item is) n o.0

  disj_shape : (is : List Item) (n : Counters) (ls : List BoolLit) (ks : List LinearLit) (cx : List (List Clause)) (s : Log) → tallies is ≡ tally (length cx) (length ls) (length ks) (min (lengths cx) limit)
      → pools is true w n ≡ words ls → pools is false w n ≡ linears ks → AllLong cx → disj_lines (tallies is) ≡ min (length (finish_disjunction cx ls ks s).0) limit → Shape (disj_item is) n (finish_disjunction cx ls ks s).0
  unfolding disj_item closed finish_disjunction each_longer
  disj_shape is n ls ks [] s t p q b l = single ls ks refl (rw t) (rw (t, p)) (rw (t, q))
  disj_shape is n ls ks (a ∷ cx) s t p q b l = many (finish_long a cx ls ks s b.0) (ap closed t ∙ ap long (ap disj_lines (sym t) ∙ l)) (rw t) (rw t)

  pub disj_at : (is : List Item) (s : Log) (o : Outs) → Sorts is s o → (z : Log) → Ready w (normalize_disjunction o.0 z).1 → DisjAt is (at w s) z (normalize_disjunction o.0 z)
  unfolding finish_sorted disj_text
  disj_at is s o h z f =
      let e : normalize_disjunction o.0 z ≡ finish_disjunction h.cx h.ls h.ks z = disjunction_finish o.0 z ∙ rw h.eq in
      let k : next_bool (finish_disjunction h.cx h.ls h.ks z).1 ≤ limit = rw e at f.fit.small in
      let m : next_int (finish_disjunction h.cx h.ls h.ks z).1 ≡ next_int z = rw e at (disjunction_ints o.0 z) in
      let n : next_bool (finish_disjunction h.cx h.ls h.ks z).1 ≡ next_bool z + fresh (tallies is) = rw h.tal (finish_count h.cx h.ls h.ks z) in
      let l : disj_lines (tallies is) ≡ min (length (finish_disjunction h.cx h.ls h.ks z).0) limit = rw h.tal (sym (finish_lines h.cx h.ls h.ks z)) in
      rw e (record {
        text = λ suf. rw (h.tal, h.pl, h.pk, h.longs _ (next_bool z) (words h.ls) 0 suf) (finish_words z suf h.cx h.ls h.ks k);
        count = counters_eq _ _ _ _ (omega (arith, n, k)) (ap (int_count w) (sym m));
        lines = l;
        shape = disj_shape is (at w s) h.ls h.ks h.cx z h.tal h.pl h.pk h.all_long l;
      })

  pub conj_good : {is : List Item} {rs : Runs} {P : Log → Type 0} → Goods is rs P → 2 ≤ length is → Implements (conj_item is) (normalize_conjunction rs) P
  unfolding conj_item normalize_conjunction
  conj_good {is} {rs} gs h = record {
    grows = conj_grows rs gs.grows;
    from = λ s f n.
        let x = gs.from s f n in
        record { count = x.count; text = x.text; shape = many (omega (arith, x.size, h)) (ap long x.lines) refl refl; adds = x.adds };
  }

  pub disj_good : {is : List Item} {rs : Runs} {P : Log → Type 0} → Goods is rs P → Implements (disj_item is) (disjunction_of rs) P
  unfolding disj_item disjunction_of
  disj_good {is} {rs} gs = record {
    grows = disj_grows rs gs.grows;
    from = λ s f n.
        let a = rs s in
        let x = gs.from s (ready_back (disjunction_grows a.0 a.1) f) n in
        let y = disj_at is s a x a.1 f in
        record {
          count = ap (more_bools (fresh (tallies is))) x.count ∙ y.count;
          text = λ suf. rw x.count (y.text suf);
          shape = y.shape;
          adds = registers_behind (disjunction_quiet a.0 a.1) x.adds;
        };
  }

  pub cross_good : {is js : List Item} {rs qs : Runs} {P Q : Log → Type 0} → Goods is rs P → Goods js qs Q → Implements (cross_item is js) (cross-run rs qs) (λ s. P s × Q (rs s).1)
  unfolding cross_item cross-run
  cross_good {is} {js} {rs} {qs} gs hs = record {
    grows = cross_grows rs qs gs.grows hs.grows;
    from = λ s f n.
        let a = rs s in let b = qs a.1 in let c = normalize_disjunction a.0 b.1 in let d = normalize_disjunction b.0 c.1 in
        let fc = ready_back (disjunction_grows b.0 c.1) f in
        let fb = ready_back (disjunction_grows a.0 b.1) fc in
        let x = gs.from s (ready_back (hs.grows a.1) fb) n.0 in
        let y = hs.from a.1 fb n.1 in
        let p = disj_at is s a x b.1 fc in
        let q = disj_at js a.1 b y c.1 f in
        let k : counts js w (counts is w (at w s)) ≡ at w b.1 = ap (counts js w) x.count ∙ y.count in
        let m : bump (next_bool b.1) (fresh (tallies is)) ≡ next_bool c.1 = ap (λ (n : Counters). n.bools) p.count in
        let l : bump (disj_lines (tallies is)) (disj_lines (tallies js)) ≡ min (length (c.0 ++ d.0)) limit = omega (arith, p.lines, q.lines, length-append c.0 d.0) in
        record {
          count = ap (λ n. more_bools (fresh (tallies js)) (more_bools (fresh (tallies is)) n)) k ∙ ap (more_bools (fresh (tallies js))) p.count ∙ q.count;
          text = λ suf. rw (x.count, y.count, m, p.text suf, q.text suf) (sym (layout_append suf c.0 d.0));
          shape = many (rw (length-append c.0 d.0) (omega (arith, shape_some p.shape, shape_some q.shape))) (ap long l) refl refl;
          adds = registers_behind (disjunction_quiet b.0 c.1 ∙ disjunction_quiet a.0 b.1) (registers_after (regs js w) (reg_lines js w) x.count x.adds y.adds);
        };
  }

  -- ---- a side and its literal

  pub beside : (cs : List Clause) (l : BoolLit) (s : Log) → 1 ≤ length cs → normalize_disjunction (cs ∷ (clause (l ∷ []) [] ∷ []) ∷ []) s ≡ (add_bool_each l cs, s)
  unfolding normalize_disjunction finish_sorted sorted finish_disjunction each_longer
  beside [] l s h = absurd (omega arith)
  beside (clause ls ks ∷ []) l s h = rw (append-nil ks)
  beside (c ∷ d ∷ cs) l s h = refl

  beside_text : (i : Item) (s : Log) (o : Out) (v : ℕ) (g : Bool) (suf : List ℤ) → v < limit → ImplementsAt i s o → i.text w (at w s) (word_of (v + 1) g ∷ suf) ≡ layout suf (add_bool_each (lit v g) o.0)
  beside_text i s o v g suf h x = x.text (word_of (v + 1) g ∷ suf) ∙ ap (λ y. layout (y ∷ suf) o.0) (ap (λ n. word_of n g) (add-one v) ∙ word_lit v g h) ∙ sym (layout_add (lit v g) suf o.0)

  pub tied_good : {i j : Item} {r q : Run} {P Q : Log → Type 0} (v : ℕ) → v < limit → Implements i r P → Implements j q Q
      → Implements (tied_item v i j) (cross-run (two r (normalize_num v true)) (two q (normalize_num v false))) (λ s. P s × Q (r s).1)
  unfolding tied_item cross-run run_then normalize_num no_run
  tied_good {i} {j} {r} {q} v h x y = record {
    grows = cross_grows (two r (normalize_num v true)) (two q (normalize_num v false)) (two_grow r (normalize_num v true) x.grows (num_grows v true)) (two_grow q (normalize_num v false) y.grows (num_grows v false));
    from = λ s f n.
        let a = r s in let b = q a.1 in
        let c = normalize_disjunction (a.0 ∷ lit_clauses v true ∷ []) b.1 in
        let fb = ready_back (then (disjunction_grows (a.0 ∷ lit_clauses v true ∷ []) b.1) (disjunction_grows (b.0 ∷ lit_clauses v false ∷ []) c.1)) f in
        let k = y.from a.1 fb n.1 in
        let m = x.from s (ready_back (y.grows a.1) fb) n.0 in
        let la = add_bool_each (lit v true) a.0 in
        let lb = add_bool_each (lit v false) b.0 in
        let ea = beside a.0 (lit v true) b.1 (shape_some m.shape) in
        let eb = beside b.0 (lit v false) b.1 (shape_some k.shape) in
        let l : bump (lines_of i.unit) (lines_of j.unit) ≡ min (length (la ++ lb)) limit =
        omega (arith, shape_lines m.shape, shape_lines k.shape, length-append la lb, length-map a.0 (add_bool (lit v true)), length-map b.0 (add_bool (lit v false))) in
        rw (ea, eb) (record {
          count = ap (j.count w) m.count ∙ k.count;
          text = λ suf. rw (beside_text i s a v true suf h m, m.count, beside_text j a.1 b v false suf h k) (sym (layout_append suf la lb));
          shape = many (omega (arith, length-append la lb, length-map a.0 (add_bool (lit v true)), length-map b.0 (add_bool (lit v false)), shape_some m.shape, shape_some k.shape)) (ap long l) refl refl;
          adds = registers_after (j.reg w) (j.lines w) m.count m.adds k.adds;
        });
  }

  -- ---- leaves

  pub num_good : (n : ℕ) (g : Bool) → n < limit → Implements (num_item n g) (normalize_num n g) (λ s. Unit {0})
  unfolding num_item normalize_num layout
  num_good n g h = record {
    grows = num_grows n g;
    from = λ s f x.
        let e : word_of (n + 1) g ≡ lit_word (lit n g) = rw (add-one n) (word_lit n g h) in
        record {
          count = refl;
          text = λ suf. rw e (sym (append-nil _));
          shape = single (lit n g ∷ []) [] refl refl (ap (λ x. x ∷ []) e) refl;
          adds = registers_same s s refl;
        };
  }

  -- l = v
  abbrev pub equal_run : LinearSum → ℕ → Run
  equal_run l v s = (equals l v ∷ [], s)

  pub equal_good : (l : LinearSum) (v : ℕ) → Implements (equal_item l v) (equal_run l v) (λ s. Unit {0})
  unfolding equal_item layout
  equal_good l v = record {
    grows = λ s. same;
    from = λ s f x.
        let k = linear Eq (sub_sum l (singleton v)) in
        record {
          count = refl;
          text = λ suf. ap (clause_text [] suf 1) (sym (append-nil (linear_words k))) ∙ sym (append-nil _);
          shape = single [] (k ∷ []) refl refl refl (sym (append-nil (linear_words k)));
          adds = registers_same s s refl;
        };
  }

  -- ---- declared Booleans

  -- an old number is not the counter's
  old_entry : (v k : ℕ) (l : BoolLit) → bool_at w v ≡ lit_word l → number_of l < k → eqb (bool_entry w v) (k + 1) ≡ false
  unfolding bool_entry bool_at nat
  old_entry v k (lit n false) e h = rw e (ne_eqb (suc n) (k + 1) (λ q. omega arith))
  old_entry v k (lit n true) e h = rw e (ne_eqb 0 (k + 1) (λ q. omega arith))

  new_entry : (v k : ℕ) → bool_at w v ≡ pos (suc k) → eqb (bool_entry w v) (k + 1) ≡ true
  unfolding bool_entry bool_at nat
  new_entry v k e = rw e (eq-eqb (suc k) (k + 1) (omega arith))

  -- the variable's literal behind it, and the counters
  pub record VarAt (v : ℕ) (s : Log) (l : BoolLit) (t : Log) : Type 0 where
    pub found : get_bool_var v t ≡ some l
    pub count : meets_bool w v (at w s) ≡ at w t
    pub quiet : clauses_of t ≡ clauses_of s

  pub var_at : (v : ℕ) (s : Log) → Ready w (convert_bool_var v s).1 → VarAt v s (convert_bool_var v s).0 (convert_bool_var v s).1
  unfolding convert_bool_var meets_bool clauses_of
  var_at v s = go (get_bool_var v s) refl
    where
      go : (o : Option BoolLit) → get_bool_var v s ≡ o → Ready w (bool_var_at o v s).1 → VarAt v s (bool_var_at o v s).0 (bool_var_at o v s).1
      go none e f =
          let n = next_bool s in
          record { found = bool_here v s; count = rw (new_entry v n (f.fit.agree v (lit n false) (bool_here v s))) (counters_eq _ _ _ _ (omega (arith, f.fit.small)) refl); quiet = refl }
      go (some l) e f = record { found = e; count = rw (old_entry v (next_bool s) l (f.fit.agree v l e) (bool_below s v l e)); quiet = refl }

  pub var_good : (v : ℕ) (g : Bool) → Implements (var_item v g) (normalize_var v g) (λ s. Unit {0})
  unfolding var_item normalize_var layout
  var_good v g = record {
    grows = var_grows v g;
    from = λ s f n.
        let d = convert_bool_var v s in
        let x = var_at v s f in
        let e : signed (bool_at w v) g ≡ lit_word (negate_lit g d.0) = rw (f.fit.agree v d.0 x.found) (signed_lit d.0 g (omega (arith, bool_below d.1 v d.0 x.found, f.fit.small))) in
        record {
          count = x.count;
          text = λ suf. rw e (sym (append-nil _));
          shape = single (negate_lit g d.0 ∷ []) [] refl refl (ap (λ x. x ∷ []) e) refl;
          adds = registers_same s d.1 x.quiet;
        };
  }

  -- ---- integers

  pub record IntImplementsAt (e : IntItem) (s : Log) (o : IntOut) : Type 0 where
    pub behind : e.behind w (at w s) ≡ at w o.1
    pub total : e.total w (at w s) ≡ o.0
    pub adds : Registers (e.adds w (at w s)) (e.added w (at w s)) s o.1

  pub record IntImplements (e : IntItem) (r : IntRun) (needs : Log → Type 0) : Type 0 where
    pub grows : (s : Log) → Grows s (r s).1
    pub from : (s : Log) → Ready w (r s).1 → needs s → IntImplementsAt e s (r s)

  -- behind the sum l
  pub record TermsImplementAt (ts : TermsItem) (l : LinearSum) (s : Log) (o : IntOut) : Type 0 where
    pub behind : ts.behind w (at w s) ≡ at w o.1
    pub total : ts.total w (at w s) l ≡ o.0
    pub adds : Registers (ts.adds w (at w s)) (ts.added w (at w s)) s o.1

  pub record TermsImplement (ts : TermsItem) (r : LinearSum → IntRun) (needs : Log → Type 0) : Type 0 where
    pub grows : (l : LinearSum) (s : Log) → Grows s (r l s).1
    pub from : (l : LinearSum) (s : Log) → Ready w (r l s).1 → needs s → TermsImplementAt ts l s (r l s)

  pub const_good : (c : ℤ) → IntImplements (const_item c) (λ s. (constant c, s)) (λ s. Unit {0})
  unfolding const_item
  const_good c = record { grows = λ s. same; from = λ s f n. record { behind = refl; total = refl; adds = registers_same s s refl } }

  either_way : (b : Bool) (n : Counters) → cond b n n ≡ n
  either_way true n = refl
  either_way false n = refl

  -- behind a declared integer: a new one has the counter's own number, an old one has another
  new_met : (v n k : ℕ) → int_entry w v ≡ suc k → suc k ≤ limit → meets_int w v (counters n (int_count w k)) ≡ counters n (int_count w (suc k))
  unfolding meets_int
  new_met v n k e h = go (has_ifs w)
    where
      go : (b : Bool) → cond (eqb (int_entry w v) (cond b k 0 + 1)) (cond b (counters n (bump (cond b k 0) 1)) (counters n (cond b k 0))) (counters n (cond b k 0)) ≡ counters n (cond b (suc k) 0)
      go true = rw (eq-eqb (int_entry w v) (k + 1) (omega arith)) (ap (counters n) (bump_one k h))
      go false = either_way (eqb (int_entry w v) 1) (counters n 0)

  old_met : (v n j k : ℕ) → int_entry w v ≡ suc j → j < k → meets_int w v (counters n (int_count w k)) ≡ counters n (int_count w k)
  unfolding meets_int
  old_met v n j k e h = go (has_ifs w)
    where
      go : (b : Bool) → cond (eqb (int_entry w v) (cond b k 0 + 1)) (cond b (counters n (bump (cond b k 0) 1)) (counters n (cond b k 0))) (counters n (cond b k 0)) ≡ counters n (cond b k 0)
      go true = rw (ne_eqb (int_entry w v) (k + 1) (λ q. omega arith))
      go false = either_way (eqb (int_entry w v) 1) (counters n 0)

  pub ivar_good : (ds : List Domain) (v : ℕ) → IntImplements (ivar_item ds v) (normalize_int_var v) (λ s. Unit {0})
  unfolding ivar_item normalize_int_var convert_int_var clauses_of
  ivar_good ds v = record { grows = ivar_grows v; from = λ s f n. go s (get_int_var v s) refl f }
    where
      go : (s : Log) (o : Option ℕ) → get_int_var v s ≡ o → Ready w (int_var_at o v s).1 → IntImplementsAt (ivar_item ds v) s (singleton (int_var_at o v s).0, (int_var_at o v s).1)
      go s none e f =
          let k = next_int s in
          let a = f.fit.agree_int v k (int_here v s) in
          record {
            behind = new_met v (next_bool s) k a f.ints;
            total = ap singleton (omega (arith, a));
            adds = registers_same s (int (declared_int v) ∷ s) refl;
          }
      go s (some k) e f =
          let a = f.fit.agree_int v k e in
          record {
            behind = old_met v (next_bool s) k (next_int s) a (get_int_below s v k e);
            total = ap singleton (omega (arith, a));
            adds = registers_same s s refl;
          }

  pub none_good : TermsImplement no_terms_item (λ l s. (l, s)) (λ s. Unit {0})
  unfolding no_terms_item
  none_good = record { grows = λ l s. same; from = λ l s f n. record { behind = refl; total = refl; adds = registers_same s s refl } }

  pub term_good : {e : IntItem} {ts : TermsItem} {p : IntRun} {q : LinearSum → IntRun} {P Q : Log → Type 0} (k : ℤ) → IntImplements e p P → TermsImplement ts q Q → TermsImplement (term_item k e ts) (normalize_term k p q) (λ s. P s × Q (p s).1)
  unfolding term_item normalize_term
  term_good {e} {ts} {p} {q} k x y = record {
    grows = term_grows k p q x.grows y.grows;
    from = λ l s f n.
        let a = p s in
        let m = add_sum l (mul_sum k a.0) in
        let u = x.from s (ready_back (y.grows m a.1) f) n.0 in
        let v = y.from m a.1 f n.1 in
        record {
          behind = ap (ts.behind w) u.behind ∙ v.behind;
          total = ap (λ n. ts.total w n (add_sum l (mul_sum k (e.total w (at w s))))) u.behind ∙ ap (λ z. ts.total w (at w a.1) (add_sum l (mul_sum k z))) u.total ∙ v.total;
          adds = registers_after (ts.adds w) (ts.added w) u.behind u.adds v.adds;
        };
  }

  pub sum_good : {ts : TermsItem} {q : LinearSum → IntRun} {Q : Log → Type 0} → TermsImplement ts q Q → IntImplements (sum_item ts) (q (constant (pos 0))) Q
  unfolding sum_item
  sum_good y = record {
    grows = y.grows (constant (pos 0));
    from = λ s f n. let v = y.from (constant (pos 0)) s f n in record { behind = v.behind; total = v.total; adds = v.adds };
  }

  pub cmp_good : {a b : IntItem} {p q : IntRun} {P Q : Log → Type 0} (o : CmpOp) (g : Bool) → IntImplements a p P → IntImplements b q Q → Implements (cmp_item o a b g) (normalize_comparison o g p q) (λ s. P s × Q (p s).1)
  unfolding cmp_item normalize_comparison layout comparison
  cmp_good {a} {b} {p} {q} o g x y = record {
    grows = comparison_grows o g p q x.grows y.grows;
    from = λ s f n.
        let c = p s in
        let d = q c.1 in
        let u = x.from s (ready_back (y.grows c.1) f) n.0 in
        let v = y.from c.1 f n.1 in
        let k = linear (negate_op_if g o) (sub_sum c.0 d.0) in
        let e : comparison w (at w s) o a b g ≡ linear_words k = rw (u.total, u.behind, v.total) in
        record {
          count = ap (b.behind w) u.behind ∙ v.behind;
          text = λ suf. ap (clause_text [] suf 1) (e ∙ sym (append-nil (linear_words k))) ∙ sym (append-nil _);
          shape = single [] (k ∷ []) refl refl refl (e ∙ sym (append-nil (linear_words k)));
          adds = registers_after (b.adds w) (b.added w) u.behind u.adds v.adds;
        };
  }

  -- ---- what is known of an If by its place

  known_is : (x : Seen) (v k : ℕ) → HasNumber x v → v < k → known_in x k ≡ true
  known_is unseen v k h l = absurd h
  known_is both_constant v k h l = absurd h
  known_is (numbered u b) v k h l = lt-ltb u k (omega arith)

  unknown_is : (x : Seen) (v k : ℕ) → HasNumber x v → k ≤ v → known_in x k ≡ false
  unknown_is unseen v k h l = absurd h
  unknown_is both_constant v k h l = absurd h
  unknown_is (numbered u b) v k h l = le-ltb u k (omega arith)

  number_is : (x : Seen) (v k : ℕ) → HasNumber x v → number_in x k ≡ v
  number_is unseen v k h = absurd h
  number_is both_constant v k h = absurd h
  number_is (numbered u b) v k h = h

  passed_is : (p : Place) (s : Log) → has_ifs w ≡ true → passed w p (at w s) ≡ known_in (seen w p) (next_int s)
  unfolding passed
  passed_is p s h = ap (λ b. not b || known_in (seen w p) (cond b (next_int s) 0)) h

  pub open_is : (x : Seen) (v : ℕ) → HasNumber x v → constant_in x ≡ false
  open_is unseen v h = absurd h
  open_is both_constant v h = absurd h
  open_is (numbered u b) v h = refl

  -- ---- the clauses that an If adds: an item's, with what its own Ifs add before them

  pub block_adds : {i : Item} {s t : Log} {o : Out} → ImplementsAt i s o → Adds o.1 t o.0 → Registers (block_words i w (at w s)) (block_lines i w (at w s)) s t
  block_adds {i} {s} {t} {o} x a = registers_then x.adds (record { cs = o.0; eq = a; words = x.text []; lines = shape_lines x.shape })

  -- what a visit adds behind the branches, from s to t
  pub record Makes (m : Making) (s t : Log) : Type 0 where
    pub end : m.end ≡ at w t
    pub adds : Registers m.words m.lines s t

  -- c and d: the condition's items, plain and negated
  module _ {c d : Item} {rc rd : Run} {C D : Log → Type 0} (x : Implements c rc C) (y : Implements d rd D) where
    abbrev polarity : Bool → Run
    polarity g s = cond g (rd s) (rc s)

    -- ---- constant branches: the condition's literal

    abbrev condition_run : ℕ → Run
    condition_run b = cross-run (two (normalize_num b false) rd) (two (normalize_num b true) rc)

    condition_good : (b : ℕ) → b < limit → Implements (condition_item c d b) (condition_run b) (λ s. D s × C (rd s).1)
    unfolding condition_item run_then normalize_num no_run
    condition_good b h = implements_if (λ s n. ((tt, (n.0, tt)), (tt, (n.1, tt)))) (cross_good (more (num_good b false h) (more y goods_nil)) (more (num_good b true h) (more x goods_nil)))

    own_makes : (i : IfIsRead) (v : ℕ) (j k : ℤ) (s : Log) → let a = convert_bool_var v s in let t = int (two_valued i a.0 j k) ∷ a.1 in Ready w t → Makes (constant_making w c d (some v) (at w s)) s t
    unfolding clauses_of
    own_makes i v j k s f =
        let a = convert_bool_var v s in
        let m = two_valued i a.0 j k in
        let u = var_at v s (ready_back (grow_int m a.1 (two_valued_made i a.0 j k)) f) in
        record { end = ap (more_ints w 1) u.count ∙ int_more w _ (next_int a.1) f.ints; adds = registers_same s (int m ∷ a.1) u.quiet }

    new_makes : (i : IfIsRead) (e : BoolExpr) (j k : ℤ) (s : Log)
        → let z = bool (side e) ∷ s in let t = int (two_valued i (lit (next_bool s) false) j k) ∷ define (condition_run (next_bool s) z) in Ready w t → D z × C (rd z).1 → Makes (constant_making w c d none (at w s)) s t
    unfolding define clauses_of
    new_makes i e j k s f n =
        let b = next_bool s in
        let z = bool (side e) ∷ s in
        let o = condition_run b z in
        let m = condition_item c d b in
        let fo = ready_back (then (grow_defined o.0 o.1) (grow_int _ (define o) (two_valued_made i (lit b false) j k))) f in
        let fz = ready_back (cross_grows _ _ (two_grow _ _ (num_grows b false) y.grows) (two_grow _ _ (num_grows b true) x.grows) z) fo in
        let q : more_bools 1 (at w s) ≡ at w z = counters_eq _ _ _ _ (bump_one b fz.fit.small) refl in
        let g = (condition_good b (room_below b fz.fit.small)).from z fo n in
        record {
          end = ap (λ n. more_ints w 1 (m.count w n)) q ∙ ap (more_ints w 1) g.count ∙ int_more w _ (next_int o.1) f.ints;
          adds = registers_to (ap (block_words m w) q) (ap (block_lines m w) q) (registers_front refl (registers_behind refl (block_adds {t = define o} g refl)));
        }

    constant_makes : (ds : List Domain) (i : IfIsRead) (e : BoolExpr) → NoNumber e → (j k : ℤ) (s : Log) → Ready w (if_constant ds i e polarity j k s).1
        → Visited w (own_var e) (D (bool (side e) ∷ s) × C (rd (bool (side e) ∷ s)).1) → Makes (constant_making w c d (own_var e) (at w s)) s (if_constant ds i e polarity j k s).1
    unfolding if_constant condition_literal
    constant_makes ds i (Var v) p j k s f n = own_makes i v j k s f
    constant_makes ds i (NVar v) p j k s f n = absurd p
    constant_makes ds i (Const b) p j k s f n = new_makes i (Const b) j k s f n
    constant_makes ds i (And ms) p j k s f n = new_makes i (And ms) j k s f n
    constant_makes ds i (Or ms) p j k s f n = new_makes i (Or ms) j k s f n
    constant_makes ds i (Not e) p j k s f n = new_makes i (Not e) j k s f n
    constant_makes ds i (Xor a b) p j k s f n = new_makes i (Xor a b) j k s f n
    constant_makes ds i (Iff a b) p j k s f n = new_makes i (Iff a b) j k s f n
    constant_makes ds i (Imp a b) p j k s f n = new_makes i (Imp a b) j k s f n
    constant_makes ds i (Cmp o a b) p j k s f n = new_makes i (Cmp o a b) j k s f n

    -- ---- other branches: two longer members

    abbrev open_run : LinearSum → LinearSum → ℕ → Run
    open_run l m v = disjunction_of (two (normalize_conjunction (two rc (equal_run l v))) (normalize_conjunction (two rd (equal_run m v))))

    open_good : (l m : LinearSum) (v : ℕ) → Implements (open_item c d l m v) (open_run l m v) (λ s. C s × D (rc s).1)
    unfolding open_item normalize_conjunction run_then no_run
    open_good l m v = implements_if (λ s n. ((n.0, (tt, tt)), ((n.1, (tt, tt)), tt)))
        (disj_good (more (conj_good (more x (more (equal_good l v) goods_nil)) (omega arith)) (more (conj_good (more y (more (equal_good m v) goods_nil)) (omega arith)) goods_nil)))

    open_makes : (ds : List Domain) (i : IfIsRead) (e : IntExpr) (l m : LinearSum) (s : Log) → Ready w (if_open ds i e polarity l m s).1 → C (opened w ds i e l m s) × D (rc (opened w ds i e l m s)).1
        → Makes (open_making w c d l m (next_int s) (at w s)) s (if_open ds i e polarity l m s).1
    unfolding if_open define clauses_of disjunction_of normalize_conjunction run_then no_run
    open_makes ds i e l m s f n =
        let v = next_int s in
        let z = opened w ds i e l m s in
        let o = open_run l m v z in
        let j = open_item c d l m v in
        let fo = ready_back (then (grow_defined o.0 o.1) (grow_known e v (define o))) f in
        let fz = ready_back ((open_good l m v).grows z) fo in
        let k : more_ints w 1 (at w s) ≡ at w z = int_more w _ v fz.ints in
        let g = (open_good l m v).from z fo n in
        record {
          end = ap (j.count w) k ∙ g.count;
          adds = registers_to (ap (block_words j w) k) (ap (block_lines j w) k) (registers_front refl (registers_behind refl (block_adds {t = define o} g refl)));
        }

    -- t and f: the branches' items
    module _ {t f : IntItem} {rt rf : IntRun} {T F : Log → Type 0} (tx : IntImplements t rt T) (fx : IntImplements f rf F) (p : Place) where
      known_at : (o : Option ℕ) (s : Log) (v : ℕ) → has_ifs w ≡ true → v < next_int s → HasNumber (seen w p) v → IntImplementsAt (choice_item o p c d t f) s (singleton v, s)
      unfolding choice_item if_behind if_number
      known_at o s v i l h =
          let k = passed_is p s i ∙ known_is (seen w p) v (next_int s) h l in
          record {
            behind = ap (λ q. cond q (at w s) (if_making o p c d t f w (at w s)).end) k;
            total = ap singleton (number_is (seen w p) v _ h);
            adds = registers_to (ap (λ q. cond q [] (t.adds w (at w s) ++ (f.adds w (t.behind w (at w s)) ++ (if_making o p c d t f w (at w s)).words))) k)
                (ap (λ q. cond q 0 (bump (t.added w (at w s)) (bump (f.added w (t.behind w (at w s))) (if_making o p c d t f w (at w s)).lines))) k) (registers_same s s refl);
          }

      -- made here: the branches, then m
      made_at : (o : Option ℕ) (s z : Log) (v : ℕ) (m : Making) → has_ifs w ≡ true → IntImplementsAt t s (rt s) → IntImplementsAt f (rt s).1 (rf (rt s).1) → known_in (seen w p) (next_int s) ≡ false → if_making o p c d t f w (at w s) ≡ m
          → Makes m (rf (rt s).1).1 z → number_in (seen w p) (next_int z) ≡ v → IntImplementsAt (choice_item o p c d t f) s (singleton v, z)
      unfolding choice_item if_behind if_number
      made_at o s z v m i x y u e h n =
          let k = passed_is p s i ∙ u in
          let b : if_behind o p c d t f w (at w s) ≡ at w z = ap (λ q. cond q (at w s) (if_making o p c d t f w (at w s)).end) k ∙ ap (λ (m : Making). m.end) e ∙ h.end in
          let r = registers_then y.adds (registers_to (ap (λ (m : Making). m.words) e) (ap (λ (m : Making). m.lines) e) h.adds) in
          record {
            behind = b;
            total = ap singleton (ap (λ (q : Counters). number_in (seen w p) q.ints) b ∙ ap (λ q. number_in (seen w p) (cond q (next_int z) 0)) i ∙ n);
            adds = registers_to (ap (λ q. cond q [] (t.adds w (at w s) ++ (f.adds w (t.behind w (at w s)) ++ (if_making o p c d t f w (at w s)).words))) k)
                (ap (λ q. cond q 0 (bump (t.added w (at w s)) (bump (f.added w (t.behind w (at w s))) (if_making o p c d t f w (at w s)).lines))) k)
                (registers_after (λ n. f.adds w n ++ (if_making o p c d t f w (at w s)).words) (λ n. bump (f.added w n) (if_making o p c d t f w (at w s)).lines) x.behind x.adds r);
          }

      making_constant : (o : Option ℕ) (s : Log) → IntImplementsAt t s (rt s) → IntImplementsAt f (rt s).1 (rf (rt s).1) → seen w p ≡ both_constant → if_making o p c d t f w (at w s) ≡ constant_making w c d o (at w (rf (rt s).1).1)
      unfolding if_making
      making_constant o s x y e =
          ap (λ (q : Seen). cond (constant_in q) (constant_making w c d o (f.behind w (t.behind w (at w s)))) (open_making w c d (t.total w (at w s)) (f.total w (t.behind w (at w s))) (number_in (seen w p) 0) (f.behind w (t.behind w (at w s))))) e
          ∙ ap (λ n. constant_making w c d o (f.behind w n)) x.behind ∙ ap (constant_making w c d o) y.behind

      making_open : (o : Option ℕ) (s : Log) (v : ℕ) → IntImplementsAt t s (rt s) → IntImplementsAt f (rt s).1 (rf (rt s).1) → HasNumber (seen w p) v
          → if_making o p c d t f w (at w s) ≡ open_making w c d (rt s).0 (rf (rt s).1).0 v (at w (rf (rt s).1).1)
      unfolding if_making
      making_open o s v x y h =
          let a = rt s in
          let b = rf a.1 in
          ap (λ (q : Bool). cond q (constant_making w c d o (f.behind w (t.behind w (at w s)))) (open_making w c d (t.total w (at w s)) (f.total w (t.behind w (at w s))) (number_in (seen w p) 0) (f.behind w (t.behind w (at w s))))) (open_is (seen w p) v h)
          ∙ ap (λ n. open_making w c d (t.total w (at w s)) (f.total w n) (number_in (seen w p) 0) (f.behind w n)) x.behind
          ∙ ap (λ l. open_making w c d l (f.total w (at w a.1)) (number_in (seen w p) 0) (f.behind w (at w a.1))) x.total
          ∙ ap (λ m. open_making w c d a.0 m (number_in (seen w p) 0) (f.behind w (at w a.1))) y.total
          ∙ ap (λ v. open_making w c d a.0 b.0 v (f.behind w (at w a.1))) (number_is (seen w p) v 0 h)
          ∙ ap (open_making w c d a.0 b.0 v) y.behind

      -- e: the If as it is looked up; as `PlacedInt` says of a choice
      module _ (ds : List Domain) (i : IfIsRead) (e : IntExpr) (no_number : NoNumber (condition_of e)) where
        abbrev IfItem : IntItem
        IfItem = choice_item (own_var (condition_of e)) p c d t f

        abbrev MadeNeeds : Bool → Log → Type 0
        MadeNeeds q s =
            let a = rt s in
            let b = rf a.1 in
            let x = bool (side (condition_of e)) ∷ b.1 in
            let y = opened w ds i e a.0 b.0 b.1 in
            T s × F a.1 ×
            Either w q
            ((seen w p ≡ both_constant) × Visited w (own_var (condition_of e)) (D x × C (rd x).1))
            (Numbered w p (next_int b.1) (either_domain w ds a.0 b.0 b.1) × C y × D (rc y).1)

        abbrev if_made : Bool → IntRun
        if_made q s =
            let a = rt s in
            let b = rf a.1 in
            cond q (if_constant ds i (condition_of e) polarity (constant_of a.0) (constant_of b.0) b.1) (if_open ds i e polarity a.0 b.0 b.1)

        made_good : has_ifs w ≡ true → (q : Bool) (s : Log) → Ready w (if_made q s).1 → MadeNeeds q s → IntImplementsAt IfItem s (if_made q s)
        unfolding if_constant if_open
        made_good j true s r n =
            let a = rt s in
            let b = rf a.1 in
            let rb = ready_back (if_constant_grows ds i (condition_of e) polarity (constant_of a.0) (constant_of b.0) (either_grows rc rd x.grows y.grows) b.1) r in
            let u = tx.from s (ready_back (fx.grows a.1) rb) n.0 in
            let v = fx.from a.1 rb n.1 in
            let l = condition_literal (own_literal (condition_of e)) (condition_of e) polarity b.1 in
            let m = constant_makes ds i (condition_of e) no_number (constant_of a.0) (constant_of b.0) b.1 r n.2.1 in
            made_at _ s _ (next_int l.1) _ j u v (ap (λ q. known_in q (next_int s)) n.2.0) (making_constant _ s u v n.2.0) m (ap (λ q. number_in q (suc (next_int l.1))) n.2.0 ∙ one_less (next_int l.1))
        made_good j false s r n =
            let a = rt s in
            let b = rf a.1 in
            let k = next_int b.1 in
            let rb = ready_back (if_open_grows ds i e polarity a.0 b.0 (either_grows rc rd x.grows y.grows) b.1) r in
            let u = tx.from s (ready_back (fx.grows a.1) rb) n.0 in
            let v = fx.from a.1 rb n.1 in
            let h = n.2.0.number in
            let m = open_makes ds i e a.0 b.0 b.1 r (n.2.1, n.2.2) in
            made_at _ s _ k _ j u v (unknown_is (seen w p) k (next_int s) h (then (tx.grows s) (fx.grows a.1)).ints) (making_open _ s k u v h) m (number_is (seen w p) k _ h)

        pub if_good : IntImplements IfItem (λ s. normalize_if ds i (get_if e s) e (condition_of e) polarity rt rf s) (λ s. (has_ifs w ≡ true) × Known w ds (get_if e s) p s (MadeNeeds (is_constant (rt s).0 && is_constant (rf (rt s).1).0) s))
        unfolding normalize_if
        if_good = record {
          grows = λ s. if_grows ds i e (condition_of e) polarity rt rf (either_grows rc rd x.grows y.grows) tx.grows fx.grows (get_if e s) s;
          from = λ s r n. go n.0 s (get_if e s) r n.1;
        }
          where
            go : has_ifs w ≡ true → (s : Log) (o : Option ℕ) → Ready w (normalize_if ds i o e (condition_of e) polarity rt rf s).1 → Known w ds o p s (MadeNeeds (is_constant (rt s).0 && is_constant (rf (rt s).1).0) s)
                → IntImplementsAt IfItem s (normalize_if ds i o e (condition_of e) polarity rt rf s)
            go j s (some v) r n = known_at _ s v j n.0 n.1.number
            go j s none r n = made_good j (is_constant (rt s).0 && is_constant (rf (rt s).1).0) s r n

  -- ---- trees; ds: the declared domains

  module _ (ds : List Domain) where
    length_items : (ts : Trees) → length (items ds ts) ≡ size ts
    unfolding form_item form
    length_items nil = refl
    length_items (cons t ts) = ap suc (length_items ts)

    mutual
      unfolding form_item form run Proper Placed

      pub item_good : (t : Tree) → Proper t → Implements (item ds t) (run ds t) (Placed w ds t)
      item_good (var v g) p = var_good v g
      item_good (num n g) p = num_good n g p
      item_good (cmp o a b g) p = cmp_good o g (int_good a p.0) (int_good b p.1)
      item_good (conj ts) p = conj_good (items_good ts p.1) (omega (arith, length_items ts, p.0))
      item_good (disj ts) p = disj_good (items_good ts p)
      item_good (cross ts us) p = cross_good (items_good ts p.0) (items_good us p.1)
      item_good (tied v t u) p = tied_good v p.0 (item_good t p.1) (item_good u p.2)

      pub items_good : (ts : Trees) → Propers ts → Goods (items ds ts) (runs ds ts) (PlacedAll w ds ts)
      items_good nil p = goods_nil
      items_good (cons t ts) p = more (item_good t p.0) (items_good ts p.1)

      pub int_good : (t : IntTree) → ProperInt t → IntImplements (int_item ds t) (run_int ds t) (PlacedInt w ds t)
      int_good (const c) p = const_good c
      int_good (ivar v) p = ivar_good ds v
      int_good (sum ts) p = sum_good (terms_good ts p)
      int_good (choice i q e c d t f) p = if_good (item_good c p.1) (item_good d p.2) (int_good t p.3) (int_good f p.4) q ds i e p.0

      pub terms_good : (ts : TermTrees) → ProperTerms ts → TermsImplement (terms_item ds ts) (run_terms ds ts) (PlacedTerms w ds ts)
      terms_good no_terms p = none_good
      terms_good (term k e ts) p = term_good k (int_good e p.0) (terms_good ts p.1)
