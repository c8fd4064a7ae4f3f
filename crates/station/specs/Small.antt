-- A refusal's number is 1 to 12, and an answer at most 16777216 words long.
use Rattle.std.specs.Prelude.{◌≡◌, refl, Bool, true, false, ◌||◌, cond, List, [], ◌∷◌, ℤ, pos, negsuc, leb, ltb, length}
use Prim.Native.Nat.{ℕ, zero, suc, ◌≤◌, ◌<◌}
use native.Mathlib.Omega.{arith}
use Rattle.std.specs.Int.Signed.{lt_z}
use Rattle.std.proofs.Common.{ltb-false}
use Rattle.laws.specs.Ints.{eqZ}
use Rattle.laws.specs.Lists.{any}
use Rattle.syntax.specs.Words.{star_word, max_bools, max_ints, max_count, max_depth, max_set_words, min_work_words, max_answer_words}
use Rattle.syntax.specs.Syntax.{op_at, Range, is_read, IntExpr, IConst, IVar, Linear, If, BoolExpr, Const, Var, And, Or, Not, Xor, Iff, Imp, Cmp, star, value, Rule, Table, AllDifferent, Problem}
use Rattle.words.specs.Parse.{Parsed, ok, refuse, Parser, parse_then, times, word, up_to_at, up_to, count, index_at, index, in_value_range, number}
use Rattle.read.specs.Read.{read_range, size_at, size_of, read_rising, read_enumerative, read_domain, BoolKind, k_const, k_var, k_and, k_or, k_not, k_xor, k_iff, k_imp, k_cmp, k_unknown, kind_bool, IntKind, i_const, i_var, i_sum, i_if, i_unknown, kind_int, too_deep_bool, too_deep_int, read_terms, read_members, bit_at, read_cell, step_int, read_int, read_table, read_different, step_bool, read_bool, read_stmt, at_end, read_problem, read_set}
use Rattle.limits.specs.Limits.{check, heavy_stmt, many_stmt, wide_stmt}
use Rattle.fold.specs.Optimize.{Outcome, inconsistent, settled, optimize}
use Rattle.answer.specs.Answer.{layout, normalize}
use Rattle.call.specs.Call.{Result, compiled, contradiction, refused, measured, answered, checked, when_read, call_with}
use Rattle.call.specs.declared.Choices.{Choices}

-- the documents' numbers
abbrev pub Number : ℕ → Type 0
Number zero = ⊥
Number (suc k) = k < 12

-- ---- what reading refuses

abbrev pub Low : {A : Type 0} → Parsed A → Type 0
Low (ok a r) = Unit {0}
Low (refuse k) = Number k

low_parse_then : {A B : Type 0} (q : Parsed A) (f : A → Parser B) → Low q → ((a : A) (r : List ℤ) → Low (f a r)) → Low (parse_then q f)
low_parse_then (ok a r) f h g = g a r
low_parse_then (refuse k) f h g = h

low_cond : {A : Type 0} (t : Bool) (p q : Parsed A) → Low p → Low q → Low (cond t p q)
low_cond true p q h k = h
low_cond false p q h k = k

module _ {A : Type 0} (p : Parser A) (low : (xs : List ℤ) → Low (p xs)) where
  times_low : (n : ℕ) (xs : List ℤ) → Low (times n p xs)
  unfolding times
  times_low zero xs = tt
  times_low (suc n) xs = low_parse_then (p xs) _ (low xs) (λ a r. low_parse_then (times n p r) _ (times_low n r) (λ b s. tt))

  map_low : {B : Type 0} (f : A → B) (xs : List ℤ) → Low (parse_then (p xs) (λ a r. ok (f a) r))
  map_low f xs = low_parse_then (p xs) _ (low xs) (λ a r. tt)

word_low : (xs : List ℤ) → Low (word xs)
word_low [] = omega arith
word_low (w ∷ xs) = tt

up_to_low : (limit k : ℕ) → Number k → (xs : List ℤ) → Low (up_to limit k xs)
unfolding up_to
up_to_low limit k h xs = low_parse_then (word xs) _ (word_low xs) at
  where
    at : (w : ℤ) (r : List ℤ) → Low (up_to_at limit k w r)
    at (pos n) r = low_cond (leb n limit) (ok n r) (refuse k) tt h
    at (negsuc n) r = h

count_low : (xs : List ℤ) → Low (count xs)
unfolding count
count_low xs = up_to_low max_count 4 (omega arith) xs

index_low : (n : ℕ) (xs : List ℤ) → Low (index n xs)
unfolding index
index_low n xs = low_parse_then (word xs) _ (word_low xs) at
  where
    at : (w : ℤ) (r : List ℤ) → Low (index_at n w r)
    at (pos i) r = low_cond (ltb i n) (ok i r) (refuse 6) tt (omega arith)
    at (negsuc i) r = omega arith

number_low : (xs : List ℤ) → Low (number xs)
unfolding number
number_low xs = low_parse_then (word xs) _ (word_low xs) (λ w r. low_cond (in_value_range w) (ok w r) (refuse 4) tt (omega arith))

-- ---- domains and cells

range_low : (xs : List ℤ) → Low (read_range xs)
unfolding read_range
range_low xs = low_parse_then (number xs) _ (number_low xs) (λ low r. low_parse_then (number r) _ (number_low r) (λ high s. low_cond (lt_z high low) (refuse 7) (ok (Range low high) s) (omega arith) tt))

size_low : (xs : List ℤ) → Low (size_of xs)
size_low xs = low_parse_then (word xs) _ (word_low xs) at
  where
    at : (w : ℤ) (r : List ℤ) → Low (size_at w r)
    at (pos zero) r = omega arith
    at (pos (suc n)) r = low_cond (leb (suc n) max_count) (ok (suc n) r) (refuse 4) tt (omega arith)
    at (negsuc n) r = omega arith

rising_low : (n : ℕ) (x : ℤ) (xs : List ℤ) → Low (read_rising n x xs)
unfolding read_rising
rising_low zero x xs = tt
rising_low (suc n) x xs = low_parse_then (number xs) _ (number_low xs) (λ y r. low_cond (lt_z x y) _ (refuse 7) (low_parse_then (read_rising n y r) _ (rising_low n y r) (λ l s. tt)) (omega arith))

domain_low : (xs : List ℤ) → Low (read_domain xs)
unfolding read_domain read_enumerative
domain_low xs = low_parse_then (word xs) _ (word_low xs) (λ w r. low_cond (eqZ w (pos 0)) (read_range r) _ (range_low r)
    (low_cond (eqZ w (pos 1)) _ (refuse 5) (low_parse_then (size_of r) _ (size_low r) (λ n s. low_parse_then (read_rising n star_word s) _ (rising_low n star_word s) (λ l t. tt))) (omega arith)))

cell_low : (xs : List ℤ) → Low (read_cell xs)
unfolding read_cell
cell_low xs = low_parse_then (word xs) _ (word_low xs) (λ w r. low_cond (eqZ w star_word) (ok star r) _ tt (low_cond (in_value_range w) (ok (value w) r) (refuse 4) tt (omega arith)))

-- ---- expressions

deep_int : (k : IntKind) → Number (too_deep_int k)
deep_int i_const = omega arith
deep_int i_var = omega arith
deep_int i_sum = omega arith
deep_int i_if = omega arith
deep_int i_unknown = omega arith

deep_bool : (k : BoolKind) → Number (too_deep_bool k)
deep_bool k_const = omega arith
deep_bool k_var = omega arith
deep_bool k_and = omega arith
deep_bool k_or = omega arith
deep_bool k_not = omega arith
deep_bool k_xor = omega arith
deep_bool k_iff = omega arith
deep_bool k_imp = omega arith
deep_bool k_cmp = omega arith
deep_bool k_unknown = omega arith

module _ (p : Parser IntExpr) (low : (xs : List ℤ) → Low (p xs)) where
  terms_low : (n : ℕ) (xs : List ℤ) → Low (read_terms p n xs)
  unfolding read_terms
  terms_low zero xs = tt
  terms_low (suc n) xs = low_parse_then (number xs) _ (number_low xs) (λ k r. low_parse_then (p r) _ (low r) (λ e s. low_parse_then (read_terms p n s) _ (terms_low n s) (λ ts t. tt)))

  step_int_low : (nb ni : ℕ) (c : Parser BoolExpr) → ((xs : List ℤ) → Low (c xs)) → (k : IntKind) (xs : List ℤ) → Low (step_int nb ni c p k xs)
  unfolding step_int
  step_int_low nb ni c h i_const xs = map_low number number_low IConst xs
  step_int_low nb ni c h i_var xs = map_low (index ni) (index_low ni) IVar xs
  step_int_low nb ni c h i_sum xs = low_parse_then (count xs) _ (count_low xs) (λ n r. map_low (read_terms p n) (terms_low n) Linear r)
  step_int_low nb ni c h i_if xs = low_parse_then (c xs) _ (h xs) (λ e r. low_parse_then (p r) _ (low r) (λ t s. map_low p low (If is_read e t) s))
  step_int_low nb ni c h i_unknown xs = omega arith

module _ (p : Parser BoolExpr) (low : (xs : List ℤ) → Low (p xs)) where
  members_low : (n : ℕ) (xs : List ℤ) → Low (read_members p n xs)
  unfolding read_members
  members_low zero xs = tt
  members_low (suc n) xs = low_parse_then (p xs) _ (low xs) (λ e r. low_parse_then (read_members p n r) _ (members_low n r) (λ ms s. tt))

  two_low : (make : BoolExpr → BoolExpr → BoolExpr) (xs : List ℤ) → Low (parse_then (p xs) (λ a r. parse_then (p r) (λ b s. ok (make a b) s)))
  two_low make xs = low_parse_then (p xs) _ (low xs) (λ a r. map_low p low (make a) r)

  step_bool_low : (nb ni : ℕ) (q : Parser IntExpr) → ((xs : List ℤ) → Low (q xs)) → (k : BoolKind) (xs : List ℤ) → Low (step_bool nb ni p q k xs)
  unfolding step_bool
  step_bool_low nb ni q h k_const xs = map_low (up_to 1 4) (up_to_low 1 4 (omega arith)) (λ b. Const (bit_at b)) xs
  step_bool_low nb ni q h k_var xs = map_low (index nb) (index_low nb) Var xs
  step_bool_low nb ni q h k_and xs = low_parse_then (count xs) _ (count_low xs) (λ n r. map_low (read_members p n) (members_low n) And r)
  step_bool_low nb ni q h k_or xs = low_parse_then (count xs) _ (count_low xs) (λ n r. map_low (read_members p n) (members_low n) Or r)
  step_bool_low nb ni q h k_not xs = map_low p low Not xs
  step_bool_low nb ni q h k_xor xs = two_low Xor xs
  step_bool_low nb ni q h k_iff xs = two_low Iff xs
  step_bool_low nb ni q h k_imp xs = two_low Imp xs
  step_bool_low nb ni q h k_cmp xs = low_parse_then (up_to 5 4 xs) _ (up_to_low 5 4 (omega arith) xs) (λ o r. low_parse_then (q r) _ (h r) (λ a s. map_low q h (Cmp (op_at o) a) s))
  step_bool_low nb ni q h k_unknown xs = omega arith

mutual
  unfolding read_int

  int_low : (nb ni left : ℕ) (xs : List ℤ) → Low (read_int nb ni left xs)
  int_low nb ni zero xs = low_parse_then (word xs) _ (word_low xs) (λ w r. deep_int (kind_int w))
  int_low nb ni (suc left) xs = low_parse_then (word xs) _ (word_low xs) (λ w r. step_int_low (read_int nb ni left) (λ ys. int_low nb ni left ys) nb ni (read_bool nb ni left) (λ ys. bool_low nb ni left ys) (kind_int w) r)

  bool_low : (nb ni left : ℕ) (xs : List ℤ) → Low (read_bool nb ni left xs)
  bool_low nb ni zero xs = low_parse_then (word xs) _ (word_low xs) (λ w r. deep_bool (kind_bool w))
  bool_low nb ni (suc left) xs = low_parse_then (word xs) _ (word_low xs) (λ w r. step_bool_low (read_bool nb ni left) (λ ys. bool_low nb ni left ys) nb ni (read_int nb ni left) (λ ys. int_low nb ni left ys) (kind_bool w) r)

-- ---- statements and the set

table_low : (nb ni : ℕ) (xs : List ℤ) → Low (read_table nb ni xs)
unfolding read_table
table_low nb ni xs = low_parse_then (count xs) _ (count_low xs) (λ n r. low_parse_then (count r) _ (count_low r) (λ k s.
    low_parse_then (times n (read_int nb ni max_depth) s) _ (times_low (read_int nb ni max_depth) (int_low nb ni max_depth) n s) (λ es t.
    map_low (times k (times n read_cell)) (times_low (times n read_cell) (times_low read_cell cell_low n) k) (Table es) t)))

different_low : (nb ni : ℕ) (xs : List ℤ) → Low (read_different nb ni xs)
unfolding read_different
different_low nb ni xs = low_parse_then (count xs) _ (count_low xs) (λ n r. map_low (times n (read_int nb ni max_depth)) (times_low (read_int nb ni max_depth) (int_low nb ni max_depth) n) AllDifferent r)

stmt_low : (nb ni : ℕ) (xs : List ℤ) → Low (read_stmt nb ni xs)
unfolding read_stmt
stmt_low nb ni xs = low_parse_then (word xs) _ (word_low xs) (λ w r. low_cond (eqZ w (pos 1)) _ _ (map_low (read_bool nb ni max_depth) (bool_low nb ni max_depth) Rule r) (low_cond (eqZ w (pos 2)) (read_table nb ni r) _ (table_low nb ni r) (low_cond (eqZ w (pos 3)) (read_different nb ni r) (refuse 5) (different_low nb ni r) (omega arith))))

end_low : (q : Parsed Problem) → Low q → Low (at_end q)
end_low (ok p []) h = tt
end_low (ok p (w ∷ r)) h = omega arith
end_low (refuse k) h = h

pub set_low : (xs : List ℤ) → Low (read_set xs)
unfolding read_set
set_low xs = end_low (read_problem xs) (
    low_parse_then (up_to max_bools 4 xs) _ (up_to_low max_bools 4 (omega arith) xs) (λ b r.
    low_parse_then (up_to max_ints 4 r) _ (up_to_low max_ints 4 (omega arith) r) (λ i s.
    low_parse_then (times i read_domain s) _ (times_low read_domain domain_low i s) (λ ds t.
    low_parse_then (count t) _ (count_low t) (λ n u.
    map_low (times n (read_stmt b i)) (times_low (read_stmt b i) (stmt_low b i) n) (λ ss. record { bools = b; domains = ds; stmts = ss }) u)))))

-- ---- the call

abbrev pub Small : Result → Type 0
Small (compiled ws) = length ws ≤ max_answer_words
Small contradiction = Unit {0}
Small (refused k) = Number k

cond_small : (t : Bool) (x y : Result) → Small x → Small y → Small (cond t x y)
cond_small true x y h k = h
cond_small false x y h k = k

measured_small : (o : ℕ) (ws : List ℤ) → Small (measured o ws)
unfolding measured
measured_small o ws = go (ltb o (length ws)) (ltb max_answer_words (length ws)) refl
  where
    go : (a b : Bool) → ltb max_answer_words (length ws) ≡ b → Small (cond (a || b) (refused 12) (compiled ws))
    go true b e = omega arith
    go false true e = omega arith
    go false false e = ltb-false max_answer_words (length ws) e

answered_small : (c : Choices) (o : ℕ) (p : Problem) (x : Outcome) → Small (answered c o p x)
unfolding answered
answered_small c o p inconsistent = tt
answered_small c o p (settled f ss) = measured_small o (layout (normalize c.merge p f ss))

-- 0 where nothing is refused
abbrev pub Checked : ℕ → Type 0
Checked zero = Unit {0}
Checked (suc k) = k < 12

pub check_small : (p : Problem) → Checked (check p)
unfolding check
check_small p = go (any (heavy_stmt p.domains) p.stmts) (any many_stmt p.stmts) (any (wide_stmt p.domains) p.stmts)
  where
    go : (a b c : Bool) → Checked (cond a 9 (cond b 10 (cond c 11 0)))
    go true b c = omega arith
    go false true c = omega arith
    go false false true = omega arith
    go false false false = tt

checked_small : (c : Choices) (o : ℕ) (p : Problem) (k : ℕ) → Checked k → Small (checked c o p k)
unfolding checked
checked_small c o p zero h = answered_small c o p (optimize p)
checked_small c o p (suc k) h = h

read_small : (c : Choices) (o : ℕ) (q : Parsed Problem) → Low q → Small (when_read c o q)
unfolding when_read
read_small c o (refuse k) h = h
read_small c o (ok p r) h = checked_small c o p (check p) (check_small p)

pub call_small : (c : Choices) (ws : List ℤ) (o n : ℕ) → Small (call_with c ws o n)
unfolding call_with
call_small c ws o n = cond_small (ltb n min_work_words) (refused 1) _ (omega arith) (cond_small (ltb max_set_words (length ws)) (refused 2) _ (omega arith) (read_small c o (read_set ws) (set_low ws)))
