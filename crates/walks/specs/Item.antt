-- What the second walk computes of a tree, given the final maps: its tally, the counters behind it, its pool's words, its words, and what its Ifs add
-- before them. w: the work slice with the final maps and the Ifs' numbers by place; counters stop at a limit.
use Rattle.std.specs.Prelude.{Bool, true, false, not, ◌||◌, cond, List, [], ◌∷◌, ◌++◌, ℕ, zero, suc, ◌+◌, ◌-◌, ℤ, pos, negsuc, get_or, eqb, ltb}
use Rattle.std.proofs.Math.Option.{Option, none, some}
use Rattle.laws.specs.Ints.{is_zero, lower, higher}
use Rattle.memory.specs.Places.{cells, ifs_word}
use Rattle.syntax.specs.Syntax.{Domain, Range, domain_of, CmpOp, Eq}
use Rattle.sums.specs.LinearSum.{LinearSum, constant, singleton, add_sum, mul_sum, sub_sum}
use Rattle.sums.specs.Rising.{constant_of}
use Rattle.clauses.specs.Clause.{linear}
use Rattle.clauses.specs.Normalize.{negate_op_if}
use Rattle.answer.specs.Answer.{linear_words}
use Rattle.walk.specs.Item.{bump, is_none, bool_at, bool_entry, int_entry, int_number, word_of, signed, clause_text, Tally, tally, long, plus, mode_of, fresh, disj_lines, closed, lines_of, extra, pool_text}
use Rattle.walk.specs.declared.Mode.{Mode}
use Rattle.walk.specs.declared.Counters.{Counters}
use Rattle.walks.specs.Tree.{Place, Tree, Trees, IntTree, TermTrees}
use Rattle.walks.specs.Form.{Form, var, num, cmp, conj, disj, cross, tied, Forms, nil, cons, IntForm, const, ivar, sum, choice, TermForms, none as no_terms, term, form, forms, int_form, term_forms}

-- ---- counters

abbrev pub counters : ℕ → ℕ → Counters
counters n k = record { bools = n; ints = k }

abbrev pub more_bools : ℕ → Counters → Counters
more_bools k n = counters (bump n.bools k) n.ints

unfoldable pub has_ifs : List ℤ → Bool
has_ifs w = not (is_zero (get_or w ifs_word (pos 0)))

-- the next integer's number, as it is counted
abbrev pub int_count : List ℤ → ℕ → ℕ
int_count w k = cond (has_ifs w) k 0

abbrev pub more_ints : List ℤ → ℕ → Counters → Counters
more_ints w k n = cond (has_ifs w) (counters n.bools (bump n.ints k)) n

-- behind a declared variable: one more where it has the counter's own number
unfoldable pub meets_bool : List ℤ → ℕ → Counters → Counters
meets_bool w v n = cond (eqb (bool_entry w v) (n.bools + 1)) (more_bools 1 n) n

unfoldable pub meets_int : List ℤ → ℕ → Counters → Counters
meets_int w v n = cond (eqb (int_entry w v) (n.ints + 1)) (more_ints w 1 n) n

-- ---- the numbers of Ifs by place

unfoldable pub cell : List ℤ → ℕ → ℤ
cell w p = get_or w (cells + p) (pos 0)

-- what is known of an If: nothing; its branches are constant, so that each visit makes it; its number, and whether an equal one may share it
pub data Seen : Type 0 where
  unseen both_constant : Seen
  numbered : ℕ → Bool → Seen

abbrev pub seen_in : ℤ → Seen
seen_in (pos zero) = unseen
seen_in (pos (suc v)) = numbered v true
seen_in (negsuc zero) = both_constant
seen_in (negsuc (suc v)) = numbered v false

unfoldable pub seen : List ℤ → Place → Seen
seen w p = seen_in (cell w (p.at + 1))

-- made before a visit that starts with k integers
abbrev pub known_in : Seen → ℕ → Bool
known_in unseen k = false
known_in both_constant k = false
known_in (numbered v b) k = ltb v k

abbrev pub constant_in : Seen → Bool
constant_in unseen = false
constant_in both_constant = true
constant_in (numbered v b) = false

-- its number, where a visit that makes it ends with k integers
abbrev pub number_in : Seen → ℕ → ℕ
number_in unseen k = 0
number_in both_constant k = k - 1
number_in (numbered v b) k = v

-- ---- items

-- unit: as a member of a disjunction; count: the counters behind it; pool: its literals (true) or comparisons where it has one clause;
-- text: its words, with a suffix; reg, lines: the words of the clauses that its Ifs add, and how many
pub record Item : Type 0 where
  pub unit : Tally
  pub count : List ℤ → Counters → Counters
  pub pool : Bool → List ℤ → Counters → List ℤ
  pub text : List ℤ → Counters → List ℤ → List ℤ
  pub reg : List ℤ → Counters → List ℤ
  pub lines : List ℤ → Counters → ℕ

-- total: the linear sum; range: the domain of a number in it, as far as found
pub record IntItem : Type 0 where
  pub behind : List ℤ → Counters → Counters
  pub total : List ℤ → Counters → LinearSum
  pub range : List ℤ → Counters → ℕ → Option Domain
  pub adds : List ℤ → Counters → List ℤ
  pub added : List ℤ → Counters → ℕ

abbrev pub is_single : Item → Bool
is_single i = is_none i.unit.longs

unfoldable pub tallies : List Item → Tally
tallies [] = tally 0 0 0 0
tallies (i ∷ is) = plus i.unit (tallies is)

unfoldable pub all_lines : List Item → ℕ
all_lines [] = 0
all_lines (i ∷ is) = bump (lines_of i.unit) (all_lines is)

unfoldable pub counts : List Item → List ℤ → Counters → Counters
counts [] w n = n
counts (i ∷ is) w n = counts is w (i.count w n)

unfoldable pub pools : List Item → Bool → List ℤ → Counters → List ℤ
pools [] b w n = []
pools (i ∷ is) b w n = i.pool b w n ++ pools is b w (i.count w n)

unfoldable pub texts : List Item → List ℤ → Counters → List ℤ → List ℤ
texts [] w n suf = []
texts (i ∷ is) w n suf = i.text w n suf ++ texts is w (i.count w n) suf

unfoldable pub regs : List Item → List ℤ → Counters → List ℤ
regs [] w n = []
regs (i ∷ is) w n = i.reg w n ++ regs is w (i.count w n)

unfoldable pub reg_lines : List Item → List ℤ → Counters → ℕ
reg_lines [] w n = 0
reg_lines (i ∷ is) w n = bump (i.lines w n) (reg_lines is w (i.count w n))

-- the longer members, the k-th with its extra literals; the block starts at b, and the pool's literals are ls
unfoldable pub long_texts : Mode → ℕ → List ℤ → List Item → List ℤ → Counters → ℕ → List ℤ → List ℤ
long_texts o b ls [] w n k suf = []
long_texts o b ls (i ∷ is) w n k suf =
    cond (is_single i)
    (long_texts o b ls is w (i.count w n) k suf)
    (i.text w n (extra o b ls k ++ suf) ++ long_texts o b ls is w (i.count w n) (k + 1) suf)

-- the disjunction of the items, its block from b on
unfoldable pub disj_text : List Item → List ℤ → Counters → ℕ → List ℤ → List ℤ
disj_text is w n b suf =
    let t = tallies is in
    let o = mode_of t in
    let ls = pools is true w n in
    long_texts o b ls is w n 0 suf ++ pool_text o b t.longs ls t.cmps (pools is false w n) suf

-- ---- the items of trees

unfoldable pub var_item : ℕ → Bool → Item
var_item v g = record {
  unit = tally 0 1 0 0;
  count = λ w n. meets_bool w v n;
  pool = λ b w n. cond b (signed (bool_at w v) g ∷ []) [];
  text = λ w n suf. clause_text (signed (bool_at w v) g ∷ []) suf 0 [];
  reg = λ w n. [];
  lines = λ w n. 0;
}

unfoldable pub num_item : ℕ → Bool → Item
num_item k g = record {
  unit = tally 0 1 0 0;
  count = λ w n. n;
  pool = λ b w n. cond b (word_of (k + 1) g ∷ []) [];
  text = λ w n suf. clause_text (word_of (k + 1) g ∷ []) suf 0 [];
  reg = λ w n. [];
  lines = λ w n. 0;
}

-- a comparison of two sums
unfoldable pub comparison : List ℤ → Counters → CmpOp → IntItem → IntItem → Bool → List ℤ
comparison w n o a b g = linear_words (linear (negate_op_if g o) (sub_sum (a.total w n) (b.total w (a.behind w n))))

unfoldable pub cmp_item : CmpOp → IntItem → IntItem → Bool → Item
cmp_item o a b g = record {
  unit = tally 0 0 1 0;
  count = λ w n. b.behind w (a.behind w n);
  pool = λ c w n. cond c [] (comparison w n o a b g);
  text = λ w n suf. clause_text [] suf 1 (comparison w n o a b g);
  reg = λ w n. a.adds w n ++ b.adds w (a.behind w n);
  lines = λ w n. bump (a.added w n) (b.added w (a.behind w n));
}

-- the clause of l = v
unfoldable pub equal_item : LinearSum → ℕ → Item
equal_item l v = record {
  unit = tally 0 0 1 0;
  count = λ w n. n;
  pool = λ c w n. cond c [] (linear_words (linear Eq (sub_sum l (singleton v))));
  text = λ w n suf. clause_text [] suf 1 (linear_words (linear Eq (sub_sum l (singleton v))));
  reg = λ w n. [];
  lines = λ w n. 0;
}

unfoldable pub conj_item : List Item → Item
conj_item is = record {
  unit = long (all_lines is);
  count = counts is;
  pool = λ b w n. [];
  text = texts is;
  reg = regs is;
  lines = reg_lines is;
}

unfoldable pub disj_item : List Item → Item
disj_item is = record {
  unit = closed (tallies is);
  count = λ w n. more_bools (fresh (tallies is)) (counts is w n);
  pool = λ b w n. cond (is_none (tallies is).longs) (pools is b w n) [];
  text = λ w n suf. disj_text is w n (counts is w n).bools suf;
  reg = regs is;
  lines = reg_lines is;
}

unfoldable pub cross_item : List Item → List Item → Item
cross_item is js = record {
  unit = long (bump (disj_lines (tallies is)) (disj_lines (tallies js)));
  count = λ w n. more_bools (fresh (tallies js)) (more_bools (fresh (tallies is)) (counts js w (counts is w n)));
  pool = λ b w n. [];
  text = λ w n suf. let p = counts is w n in let b = (counts js w p).bools in disj_text is w n b suf ++ disj_text js w p (bump b (fresh (tallies is))) suf;
  reg = λ w n. regs is w n ++ regs js w (counts is w n);
  lines = λ w n. bump (reg_lines is w n) (reg_lines js w (counts is w n));
}

-- the side's clauses, each with the literal behind it
unfoldable pub tied_item : ℕ → Item → Item → Item
tied_item v i j = record {
  unit = long (bump (lines_of i.unit) (lines_of j.unit));
  count = λ w n. j.count w (i.count w n);
  pool = λ b w n. [];
  text = λ w n suf. i.text w n (word_of (v + 1) true ∷ suf) ++ j.text w (i.count w n) (word_of (v + 1) false ∷ suf);
  reg = λ w n. i.reg w n ++ j.reg w (i.count w n);
  lines = λ w n. bump (i.lines w n) (j.lines w (i.count w n));
}

-- ---- integer items

unfoldable pub const_item : ℤ → IntItem
const_item c = record {
  behind = λ w n. n;
  total = λ w n. constant c;
  range = λ w n x. none;
  adds = λ w n. [];
  added = λ w n. 0;
}

-- an Option's first
abbrev pub or_else : Option Domain → Option Domain → Option Domain
or_else (some d) o = some d
or_else none o = o

-- ds: the declared domains
module _ (ds : List Domain) where
  unfoldable pub ivar_item : ℕ → IntItem
  ivar_item v = record {
    behind = λ w n. meets_int w v n;
    total = λ w n. singleton (int_number w v);
    range = λ w n x. cond (eqb x (int_number w v)) (some (domain_of ds v)) none;
    adds = λ w n. [];
    added = λ w n. 0;
  }

-- terms, behind the sum so far
pub record TermsItem : Type 0 where
  pub behind : List ℤ → Counters → Counters
  pub total : List ℤ → Counters → LinearSum → LinearSum
  pub range : List ℤ → Counters → ℕ → Option Domain
  pub adds : List ℤ → Counters → List ℤ
  pub added : List ℤ → Counters → ℕ

unfoldable pub no_terms_item : TermsItem
no_terms_item = record {
  behind = λ w n. n;
  total = λ w n l. l;
  range = λ w n x. none;
  adds = λ w n. [];
  added = λ w n. 0;
}

unfoldable pub term_item : ℤ → IntItem → TermsItem → TermsItem
term_item k e ts = record {
  behind = λ w n. ts.behind w (e.behind w n);
  total = λ w n l. ts.total w (e.behind w n) (add_sum l (mul_sum k (e.total w n)));
  range = λ w n x. or_else (e.range w n x) (ts.range w (e.behind w n) x);
  adds = λ w n. e.adds w n ++ ts.adds w (e.behind w n);
  added = λ w n. bump (e.added w n) (ts.added w (e.behind w n));
}

unfoldable pub sum_item : TermsItem → IntItem
sum_item ts = record {
  behind = ts.behind;
  total = λ w n. ts.total w n (constant (pos 0));
  range = ts.range;
  adds = ts.adds;
  added = ts.added;
}

-- ---- Ifs

-- the clauses of an If of number v whose branches are the sums l and m: the condition and l = v, or its negation and m = v
unfoldable pub open_item : Item → Item → LinearSum → LinearSum → ℕ → Item
open_item c d l m v = disj_item (conj_item (c ∷ equal_item l v ∷ []) ∷ conj_item (d ∷ equal_item m v ∷ []) ∷ [])

-- the clauses of a number and the condition that it stands for
unfoldable pub condition_item : Item → Item → ℕ → Item
condition_item c d b = cross_item (num_item b false ∷ d ∷ []) (num_item b true ∷ c ∷ [])

-- what a visit that makes an If adds behind its branches' part, and the counters behind it
pub record Making : Type 0 where
  pub end : Counters
  pub words : List ℤ
  pub lines : ℕ

abbrev pub block_words : Item → List ℤ → Counters → List ℤ
block_words i w n = i.reg w n ++ i.text w n []

abbrev pub block_lines : Item → List ℤ → Counters → ℕ
block_lines i w n = bump (i.lines w n) (lines_of i.unit)

abbrev pub no_making : Counters → Making
no_making n = record { end = n; words = []; lines = 0 }

abbrev pub makes : Item → List ℤ → Counters → Counters → Making
makes i w n e = record { end = e; words = block_words i w n; lines = block_lines i w n }

module _ (w : List ℤ) (c d : Item) where
  -- constant branches: the literal of the condition, then the integer
  abbrev pub constant_making : Option ℕ → Counters → Making
  constant_making (some v) n = no_making (more_ints w 1 (meets_bool w v n))
  constant_making none n = let i = condition_item c d n.bools in let k = more_bools 1 n in makes i w k (more_ints w 1 (i.count w k))

  -- other branches l and m
  abbrev pub open_making : LinearSum → LinearSum → ℕ → Counters → Making
  open_making l m v n = let i = open_item c d l m v in let k = more_ints w 1 n in makes i w k (i.count w k)

-- o: the condition, where it is a declared variable
unfoldable pub if_making : Option ℕ → Place → Item → Item → IntItem → IntItem → List ℤ → Counters → Making
if_making o p c d t f w n =
    let a = t.behind w n in
    let b = f.behind w a in
    let s = seen w p in
    cond (constant_in s) (constant_making w c d o b) (open_making w c d (t.total w n) (f.total w a) (number_in s 0) b)

-- a visit passes over the If: it was made before, or there are none
unfoldable pub passed : List ℤ → Place → Counters → Bool
passed w p n = not (has_ifs w) || known_in (seen w p) n.ints

-- then it adds nothing
unfoldable pub if_behind : Option ℕ → Place → Item → Item → IntItem → IntItem → List ℤ → Counters → Counters
if_behind o p c d t f w n = cond (passed w p n) n (if_making o p c d t f w n).end

unfoldable pub if_number : Option ℕ → Place → Item → Item → IntItem → IntItem → List ℤ → Counters → ℕ
if_number o p c d t f w n = number_in (seen w p) (if_behind o p c d t f w n).ints

-- between its two values, or its bounds as kept
unfoldable pub if_domain : Place → IntItem → IntItem → List ℤ → Counters → Domain
if_domain p t f w n =
    let x = constant_of (t.total w n) in
    let y = constant_of (f.total w (t.behind w n)) in
    cond (constant_in (seen w p)) (Range (lower x y) (higher x y)) (Range (cell w (p.at + 2)) (cell w (p.at + 3)))

unfoldable pub choice_item : Option ℕ → Place → Item → Item → IntItem → IntItem → IntItem
choice_item o p c d t f = record {
  behind = if_behind o p c d t f;
  total = λ w n. singleton (if_number o p c d t f w n);
  range = λ w n x. cond (eqb x (if_number o p c d t f w n)) (some (if_domain p t f w n)) none;
  adds = λ w n. cond (passed w p n) [] (t.adds w n ++ (f.adds w (t.behind w n) ++ (if_making o p c d t f w n).words));
  added = λ w n. cond (passed w p n) 0 (bump (t.added w n) (bump (f.added w (t.behind w n)) (if_making o p c d t f w n).lines));
}

-- ds: the declared domains
module _ (ds : List Domain) where
  unfoldable mutual
    pub form_item : Form → Item
    form_item (var v g) = var_item v g
    form_item (num n g) = num_item n g
    form_item (cmp o a b g) = cmp_item o (form_int_item a) (form_int_item b) g
    form_item (conj ts) = conj_item (form_items ts)
    form_item (disj ts) = disj_item (form_items ts)
    form_item (cross ts us) = cross_item (form_items ts) (form_items us)
    form_item (tied v t u) = tied_item v (form_item t) (form_item u)

    pub form_items : Forms → List Item
    form_items nil = []
    form_items (cons t ts) = form_item t ∷ form_items ts

    pub form_int_item : IntForm → IntItem
    form_int_item (const c) = const_item c
    form_int_item (ivar v) = ivar_item ds v
    form_int_item (sum ts) = sum_item (form_terms_item ts)
    form_int_item (choice p o c d t f) = choice_item o p (form_item c) (form_item d) (form_int_item t) (form_int_item f)

    pub form_terms_item : TermForms → TermsItem
    form_terms_item no_terms = no_terms_item
    form_terms_item (term k e ts) = term_item k (form_int_item e) (form_terms_item ts)

  -- of a tree
  abbrev pub item : Tree → Item
  item t = form_item (form t)

  abbrev pub items : Trees → List Item
  items ts = form_items (forms ts)

  abbrev pub int_item : IntTree → IntItem
  int_item e = form_int_item (int_form e)

  abbrev pub terms_item : TermTrees → TermsItem
  terms_item ts = form_terms_item (term_forms ts)
