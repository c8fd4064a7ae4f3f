-- When an assignment passes an answer, from the answer's words alone: there are values of the emitted variables, within their
-- records, that carry the assignment and make every clause true. An answer that names a number which it does not emit is passed by none.
use Rattle.std.specs.Prelude.{◌≡◌, Bool, true, false, not, ◌&&◌, cond, List, [], ◌∷◌, ℕ, zero, suc, ℤ, pos, negsuc, nat_abs, ltb, length, get_or, drop}
use Rattle.std.specs.Bool.{beq}
use Rattle.std.specs.Int.Signed.{le_z}
use Rattle.laws.specs.Ints.{eqZ}
use Rattle.laws.specs.Lists.{all, below}
use Rattle.syntax.specs.Syntax.{op_at}
use Rattle.syntax.specs.Satisfies.{Val, IVal}
use Rattle.sums.specs.LinearSum.{Term, term, linear_sum}
use Rattle.clauses.specs.Clause.{BoolLit, lit, LinearLit, linear, Clause, clause, clause_true, lit_true}

-- ---- the clauses of words. Each function gives what it read and the words after it

abbrev pub head_word : List ℤ → ℤ
head_word ws = get_or ws 0 (pos 0)

abbrev pub tail_words : List ℤ → List ℤ
tail_words ws = drop 1 ws

abbrev pub lit_of : ℤ → BoolLit
lit_of (pos zero) = lit 0 false
lit_of (pos (suc n)) = lit n false
lit_of (negsuc n) = lit n true

unfoldable pub decode_times : {A : Type 0} → (List ℤ → A × List ℤ) → ℕ → List ℤ → List A × List ℤ
decode_times f zero ws = ([], ws)
decode_times f (suc n) ws =
    let a = f ws in
    let b = decode_times f n a.1 in
    (a.0 ∷ b.0, b.1)

-- a count, and as many as it says
unfoldable pub decode_counted : {A : Type 0} → (List ℤ → A × List ℤ) → List ℤ → List A × List ℤ
decode_counted f ws = decode_times f (nat_abs (head_word ws)) (tail_words ws)

unfoldable pub decode_lit : List ℤ → BoolLit × List ℤ
decode_lit ws = (lit_of (head_word ws), tail_words ws)

unfoldable pub decode_term : List ℤ → Term × List ℤ
decode_term ws = (term (nat_abs (head_word ws)) (head_word (tail_words ws)), drop 2 ws)

unfoldable pub decode_linear : List ℤ → LinearLit × List ℤ
decode_linear ws =
    let ts = decode_counted decode_term (drop 2 ws) in
    (linear (op_at (nat_abs (head_word ws))) (linear_sum (head_word (tail_words ws)) ts.0), ts.1)

unfoldable pub decode_clause : List ℤ → Clause × List ℤ
decode_clause ws =
    let ls = decode_counted decode_lit ws in
    let ks = decode_counted decode_linear ls.1 in
    (clause ls.0 ks.0, ks.1)

-- ---- the answer's words: b and i are the counts of declared variables

pub record Decoded : Type 0 where
  pub fixed : List ℤ
  pub bool_map : List ℤ
  pub int_map : List ℤ
  -- how many Booleans are emitted; of each emitted integer the four words of its record
  pub emitted_bools : ℕ
  pub records : List (List ℤ)
  pub clauses : List Clause

unfoldable pub decode_word : List ℤ → ℤ × List ℤ
decode_word ws = (head_word ws, tail_words ws)

unfoldable pub decode_record : List ℤ → List ℤ × List ℤ
decode_record ws = decode_times decode_word 4 ws

unfoldable pub decode : ℕ → ℕ → List ℤ → Decoded
decode b i ws =
    let f = decode_times decode_word b ws in
    let m = decode_times decode_word b f.1 in
    let n = decode_times decode_word i m.1 in
    let e = decode_word n.1 in
    let d = decode_counted decode_record e.1 in
    let c = decode_counted decode_clause d.1 in
    record { fixed = f.0; bool_map = m.0; int_map = n.0; emitted_bools = nat_abs e.0; records = d.0; clauses = c.0 }

-- ---- passing

abbrev pub word_of : List ℤ → ℕ → ℤ
word_of ws v = get_or ws v (pos 0)

-- a fixed variable has its value
abbrev pub fixed_agrees : ℤ → Bool → Bool
fixed_agrees w x = cond (eqZ w (pos 0)) (not x) (cond (eqZ w (pos 1)) x true)

-- an emitted declared variable carries its value, a negated tie the opposite; the first argument: how many numbers are emitted
abbrev pub carries_bool : ℕ → ℤ → Bool → Val → Bool
carries_bool bools (pos zero) x ρ = true
carries_bool bools (pos (suc n)) x ρ = ltb n bools && beq (ρ n) x
carries_bool bools (negsuc n) x ρ = ltb n bools && beq (ρ n) (not x)

abbrev pub carries_int : ℕ → ℤ → ℤ → IVal → Bool
carries_int ints (pos zero) x ι = true
carries_int ints (pos (suc n)) x ι = ltb n ints && eqZ (ι n) x
carries_int ints (negsuc n) x ι = true

-- a literal of an emitted number
abbrev pub lit_emitted : ℕ → BoolLit → Bool
lit_emitted bools (lit n g) = ltb n bools

-- kind 0: the value x lies between the lowest and the highest
abbrev pub between : ℤ → ℤ → ℤ → Bool
between low high x = le_z low x && le_z x high

-- kind 1: it follows a literal, a where that is false, b where it is true
abbrev pub follows : ℕ → BoolLit → ℤ → ℤ → Val → ℤ → Bool
follows bools l a b ρ x = lit_emitted bools l && eqZ x (cond (lit_true ρ l) b a)

-- every emitted integer, declared or not, has a value that its record admits; no other kind admits any
abbrev pub admits : ℕ → List ℤ → Val → ℤ → Bool
admits bools r ρ x =
    cond (eqZ (word_of r 0) (pos 0)) (between (word_of r 1) (word_of r 2) x)
    (eqZ (word_of r 0) (pos 1) && follows bools (lit_of (word_of r 1)) (word_of r 2) (word_of r 3) ρ x)

abbrev pub record_at : Decoded → ℕ → List ℤ
record_at a j = get_or a.records j []

-- a clause names emitted numbers only
abbrev pub term_emitted : ℕ → Term → Bool
term_emitted ints (term n a) = ltb n ints

abbrev pub linear_emitted : ℕ → LinearLit → Bool
linear_emitted ints (linear o (linear_sum c ts)) = all (term_emitted ints) ts

abbrev pub clause_emitted : ℕ → ℕ → Clause → Bool
clause_emitted bools ints (clause ls ks) = all (lit_emitted bools) ls && all (linear_emitted ints) ks

-- δ, ε: the assignment; ρ, ι: the emitted numbers' values
unfoldable pub passes_decoded : ℕ → ℕ → Decoded → Val → IVal → Val → IVal → Bool
passes_decoded b i a δ ε ρ ι =
    all (λ v. fixed_agrees (word_of a.fixed v) (δ v)) (below b)
    && (all (λ v. carries_bool a.emitted_bools (word_of a.bool_map v) (δ v) ρ) (below b)
    && (all (λ v. carries_int (length a.records) (word_of a.int_map v) (ε v) ι) (below i)
    && (all (λ j. admits a.emitted_bools (record_at a j) ρ (ι j)) (below (length a.records))
    && (all (clause_emitted a.emitted_bools (length a.records)) a.clauses
    && all (clause_true ρ ι) a.clauses))))

unfoldable pub passes_with : ℕ → ℕ → List ℤ → Val → IVal → Val → IVal → Bool
passes_with b i ws δ ε ρ ι = passes_decoded b i (decode b i ws) δ ε ρ ι

-- some values of the emitted numbers do
pub record Passes (b i : ℕ) (ws : List ℤ) (δ : Val) (ε : IVal) : Type 0 where
  pub bools : Val
  pub ints : IVal
  pub passing : passes_with b i ws δ ε bools ints ≡ true
