-- Reading a set: what stands at the front of a list of words and the words after it, or the refusal (3 to 8) at the first offending word.
use Rattle.std.specs.Prelude.{Bool, true, false, cond, List, [], ◌∷◌, ℕ, zero, suc, ℤ, pos, negsuc, leb}
use Rattle.std.specs.Int.Signed.{lt_z}
use Rattle.laws.specs.Ints.{eqZ}
use Rattle.syntax.specs.Words.{star_word, max_bools, max_ints, max_count, max_depth}
use Rattle.syntax.specs.Syntax.{op_at, Domain, Range, Enumerative, IntExpr, IConst, IVar, Linear, If, is_read, Terms, tnil, tmore, BoolExpr, Const, Var, And, Or, Not, Xor, Iff, Imp, Cmp, Members, mnil, more, Cell, star, value, Stmt, Rule, Table, AllDifferent, Problem}
pub use Rattle.words.specs.Parse.{Parsed, ok, refuse}
unfoldable pub use Rattle.words.specs.Parse.{times, up_to, count, index, number}
use Rattle.words.specs.Parse.{Parser, parse_then, seq_parser, map_parser, word, in_value_range}

-- ---- domains

-- low above high is 7 at high's word
unfoldable pub read_range : Parser Domain
read_range xs = parse_then (number xs) (λ low r. parse_then (number r) (λ high s. cond (lt_z high low) (refuse 7) (ok (Range low high) s)))

-- a count below 1 is 7, above 4096 is 4
abbrev pub size_at : ℤ → Parser ℕ
size_at (pos zero) r = refuse 7
size_at (pos (suc n)) r = cond (leb (suc n) max_count) (ok (suc n) r) (refuse 4)
size_at (negsuc n) r = refuse 7

abbrev pub size_of : Parser ℕ
size_of xs = parse_then (word xs) size_at

-- n values, each above the one before it
unfoldable pub read_rising : ℕ → ℤ → Parser (List ℤ)
read_rising zero before xs = ok [] xs
read_rising (suc n) before xs = parse_then (number xs) (λ x r. cond (lt_z before x) (parse_then (read_rising n x r) (λ l s. ok (x ∷ l) s)) (refuse 7))

-- every value is above starWord
unfoldable pub read_enumerative : Parser Domain
read_enumerative xs = parse_then (size_of xs) (λ n r. parse_then (read_rising n star_word r) (λ l s. ok (Enumerative l) s))

unfoldable pub read_domain : Parser Domain
read_domain xs = parse_then (word xs) (λ w r. cond (eqZ w (pos 0)) (read_range r) (cond (eqZ w (pos 1)) (read_enumerative r) (refuse 5)))

-- ---- expressions

pub data BoolKind : Type 0 where
  k_const k_var k_and k_or k_not k_xor k_iff k_imp k_cmp k_unknown : BoolKind

unfoldable pub kind_bool : ℤ → BoolKind
kind_bool w =
    cond (eqZ w (pos 10)) k_const
    (cond (eqZ w (pos 11)) k_var
    (cond (eqZ w (pos 12)) k_and
    (cond (eqZ w (pos 13)) k_or
    (cond (eqZ w (pos 14)) k_not
    (cond (eqZ w (pos 15)) k_xor
    (cond (eqZ w (pos 16)) k_iff
    (cond (eqZ w (pos 17)) k_imp
    (cond (eqZ w (pos 18)) k_cmp k_unknown))))))))

pub data IntKind : Type 0 where
  i_const i_var i_sum i_if i_unknown : IntKind

unfoldable pub kind_int : ℤ → IntKind
kind_int w =
    cond (eqZ w (pos 20)) i_const
    (cond (eqZ w (pos 21)) i_var
    (cond (eqZ w (pos 22)) i_sum
    (cond (eqZ w (pos 23)) i_if i_unknown)))

-- where no level is left: a known code is 8, an unknown one 5
abbrev pub too_deep_bool : BoolKind → ℕ
too_deep_bool k_const = 8
too_deep_bool k_var = 8
too_deep_bool k_and = 8
too_deep_bool k_or = 8
too_deep_bool k_not = 8
too_deep_bool k_xor = 8
too_deep_bool k_iff = 8
too_deep_bool k_imp = 8
too_deep_bool k_cmp = 8
too_deep_bool k_unknown = 5

abbrev pub too_deep_int : IntKind → ℕ
too_deep_int i_const = 8
too_deep_int i_var = 8
too_deep_int i_sum = 8
too_deep_int i_if = 8
too_deep_int i_unknown = 5

-- as many terms as the count says, each a coefficient and an expression read by p
unfoldable pub read_terms : Parser IntExpr → ℕ → Parser Terms
read_terms p zero xs = ok tnil xs
read_terms p (suc n) xs = parse_then (number xs) (λ k r. parse_then (p r) (λ e s. parse_then (read_terms p n s) (λ ts t. ok (tmore k e ts) t)))

unfoldable pub read_members : Parser BoolExpr → ℕ → Parser Members
read_members p zero xs = ok mnil xs
read_members p (suc n) xs = seq_parser more p (λ e. read_members p n) xs

abbrev pub bit_at : ℕ → Bool
bit_at zero = false
bit_at (suc n) = true

unfoldable pub read_cell : Parser Cell
read_cell xs = parse_then (word xs) (λ w r. cond (eqZ w star_word) (ok star r) (cond (in_value_range w) (ok (value w) r) (refuse 4)))

-- nb and ni: how many Boolean and integer variables are declared
module _ (nb ni : ℕ) where
  -- what follows an integer code; p and q read a Boolean and an integer part one level down
  unfoldable pub step_int : Parser BoolExpr → Parser IntExpr → IntKind → Parser IntExpr
  step_int p q i_const xs = map_parser IConst number xs
  step_int p q i_var xs = map_parser IVar (index ni) xs
  step_int p q i_sum xs = parse_then (count xs) (λ n r. map_parser Linear (read_terms q n) r)
  step_int p q i_if xs = parse_then (p xs) (λ c r. seq_parser (If is_read c) q (λ t. q) r)
  step_int p q i_unknown xs = refuse 5

  -- what follows a Boolean code
  unfoldable pub step_bool : Parser BoolExpr → Parser IntExpr → BoolKind → Parser BoolExpr
  step_bool p q k_const xs = map_parser (λ b. Const (bit_at b)) (up_to 1 4) xs
  step_bool p q k_var xs = map_parser Var (index nb) xs
  step_bool p q k_and xs = parse_then (count xs) (λ n r. map_parser And (read_members p n) r)
  step_bool p q k_or xs = parse_then (count xs) (λ n r. map_parser Or (read_members p n) r)
  step_bool p q k_not xs = map_parser Not p xs
  step_bool p q k_xor xs = seq_parser Xor p (λ a. p) xs
  step_bool p q k_iff xs = seq_parser Iff p (λ a. p) xs
  step_bool p q k_imp xs = seq_parser Imp p (λ a. p) xs
  step_bool p q k_cmp xs = parse_then (up_to 5 4 xs) (λ o r. seq_parser (Cmp (op_at o)) q (λ a. q) r)
  step_bool p q k_unknown xs = refuse 5

  -- an expression with `left` levels left, its own among them
  unfoldable mutual
    pub read_int : ℕ → Parser IntExpr
    read_int zero xs = parse_then (word xs) (λ w r. refuse (too_deep_int (kind_int w)))
    read_int (suc left) xs = parse_then (word xs) (λ w r. step_int (λ ys. read_bool left ys) (λ ys. read_int left ys) (kind_int w) r)

    pub read_bool : ℕ → Parser BoolExpr
    read_bool zero xs = parse_then (word xs) (λ w r. refuse (too_deep_bool (kind_bool w)))
    read_bool (suc left) xs = parse_then (word xs) (λ w r. step_bool (λ ys. read_bool left ys) (λ ys. read_int left ys) (kind_bool w) r)

  -- columns n, rows k, n expressions, k rows of n cells
  unfoldable pub read_table : Parser Stmt
  read_table xs = parse_then (count xs) (λ n r. parse_then (count r) (λ k s. seq_parser Table (times n (read_int max_depth)) (λ es. times k (times n read_cell)) s))

  -- a count and as many expressions
  unfoldable pub read_different : Parser Stmt
  read_different xs = parse_then (count xs) (λ n r. map_parser AllDifferent (times n (read_int max_depth)) r)

  unfoldable pub read_stmt : Parser Stmt
  read_stmt xs = parse_then (word xs) (λ w r. cond (eqZ w (pos 1)) (map_parser Rule (read_bool max_depth) r) (cond (eqZ w (pos 2)) (read_table r) (cond (eqZ w (pos 3)) (read_different r) (refuse 5))))

-- ---- the set

abbrev pub read_problem : Parser Problem
read_problem xs =
    parse_then (up_to max_bools 4 xs) (λ b r.
    parse_then (up_to max_ints 4 r) (λ i s.
    parse_then (times i read_domain s) (λ ds t.
    parse_then (count t) (λ n u.
    parse_then (times n (read_stmt b i) u) (λ ss v.
    ok (record { bools = b; domains = ds; stmts = ss }) v)))))

-- words after the last statement are 3
abbrev pub at_end : Parsed Problem → Parsed Problem
at_end (ok p []) = ok p []
at_end (ok p (w ∷ r)) = refuse 3
at_end (refuse k) = refuse k

unfoldable pub read_set : List ℤ → Parsed Problem
read_set xs = at_end (read_problem xs)
