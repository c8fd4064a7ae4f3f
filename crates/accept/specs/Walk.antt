-- What the walks over a set's words ask and give. Assumes nothing.
-- A walk that tests what it passes answers with the place behind, and with the first of 9, 10 and 11 that hits, or 12.
use Rattle.std.specs.Prelude.{◌≡◌, Bool, false, ◌||◌, cond, List, [], ◌∷◌, ◌++◌, map, ℕ, suc, ◌+◌, ◌<◌, ◌≤◌, min, max, ℤ, pos, nat_abs, ◌+ℤ◌, length, get_or, eqb, ltb}
use Rattle.laws.specs.Lists.{any, flat}
use Rattle.laws.specs.Slices.{Has}
use Rattle.memory.specs.Places.{bounds}
use Rattle.syntax.specs.Words.{max_weight, max_ints}
use Rattle.syntax.specs.Syntax.{Domain, lower_bound, upper_bound, domain_of, IfIsRead, IntExpr, IConst, IVar, Linear, If, Terms, count_terms, encode_int, encode_terms, BoolExpr, Const, Var, NVar, And, Or, Not, Xor, Iff, Imp, Cmp, Members, mnil, more, encode_bool, Stmt, Rule, Table, AllDifferent, encode_stmt}
use Rattle.syntax.specs.Written.{EveryIntOf, EveryTermOf, EveryColumnOf, EveryOf, EveryMemberOf, Any, None}
use Rattle.syntax.specs.Lengths.{Wide}
use Rattle.domains.specs.Declared.{bounds_words}
use Rattle.passes.specs.Skip.{own_int, body}
use Rattle.limits.specs.Limits.{any_comparison, any_inside, any_inside_terms, any_pair, any_part, terms_weight, heavy, heavy_terms, heavy_comparison, written, ifs, many_comparison, many_column, interval, terms_interval, wide_column}
use Rattle.limits.specs.Total.{Bounded, total, terms_total, joined, bounds_total}
use Rattle.limits.proofs.Count.{among, marked}

-- the table of the declared domains, whose bounds are in order
pub record Bounds (work : List ℤ) (ds : List Domain) : Type 0 where
  pub words : Has work bounds (bounds_words ds)
  pub bounded : Bounded ds

-- ---- expressions that reading makes, with declared variables

-- (their Boolean variables do not matter here)
module _ (ni : ℕ) where
  abbrev pub UsableInt : IntExpr → Type 0
  UsableInt e = EveryIntOf None Any (λ v. v < ni) e

  abbrev pub UsableTerms : Terms → Type 0
  UsableTerms ts = EveryTermOf None Any (λ v. v < ni) ts

  abbrev pub UsableColumns : List IntExpr → Type 0
  UsableColumns es = EveryColumnOf None Any (λ v. v < ni) es

  abbrev pub Usable : BoolExpr → Type 0
  Usable e = EveryOf None Any (λ v. v < ni) e

  abbrev pub UsableMembers : Members → Type 0
  UsableMembers ms = EveryMemberOf None Any (λ v. v < ni) ms

  unfoldable pub UsableAll : List BoolExpr → Type 0
  UsableAll [] = Unit {0}
  UsableAll (e ∷ es) = Usable e × UsableAll es

pub record IntAt (ni : ℕ) (ws : List ℤ) (at : ℕ) (e : IntExpr) : Type 0 where
  pub words : Has ws at (encode_int e)
  pub vars : UsableInt ni e

pub record TermsAt (ni : ℕ) (ws : List ℤ) (at n : ℕ) (ts : Terms) : Type 0 where
  pub words : Has ws at (encode_terms ts)
  pub vars : UsableTerms ni ts
  pub size : n ≡ count_terms ts

pub record ColumnsAt (ni : ℕ) (ws : List ℤ) (at n : ℕ) (es : List IntExpr) : Type 0 where
  pub words : Has ws at (flat (map encode_int es))
  pub vars : UsableColumns ni es
  pub size : n ≡ length es

pub record BoolAt (ni : ℕ) (ws : List ℤ) (at : ℕ) (e : BoolExpr) : Type 0 where
  pub words : Has ws at (encode_bool e)
  pub usable : Usable ni e

pub record BoolsAt (ni : ℕ) (ws : List ℤ) (at n : ℕ) (es : List BoolExpr) : Type 0 where
  pub words : Has ws at (flat (map encode_bool es))
  pub usable : UsableAll ni es
  pub size : n ≡ length es

-- ---- the tests of refusal m: 9, 10, else 11

-- the first of them that hits, or 12
unfoldable pub first_of : (ℕ → Bool) → ℕ
first_of hits = cond (hits 9) 9 (cond (hits 10) 10 (cond (hits 11) 11 12))

unfoldable pub test_comparison : ℕ → List Domain → IntExpr → IntExpr → Bool
test_comparison m ds a b = cond (eqb m 9) (heavy_comparison ds a b) (cond (eqb m 10) (many_comparison a b) false)

unfoldable pub test_branch : ℕ → IntExpr → Bool
test_branch m e = cond (eqb m 9) false (cond (eqb m 10) (many_column e) false)

-- of an AllDifferent's expression by itself
unfoldable pub test_one : ℕ → List Domain → IntExpr → Bool
test_one m ds e = cond (eqb m 9) (heavy ds e) false

unfoldable pub test_column : ℕ → List Domain → IntExpr → Bool
test_column m ds e = cond (eqb m 9) (heavy ds e) (cond (eqb m 10) (many_column e) (wide_column ds e))

-- of what stands inside; of a comparison with it
abbrev pub inside : ℕ → List Domain → IntExpr → Bool
inside m ds = any_inside (test_comparison m ds) (test_branch m)

abbrev pub inside_terms : ℕ → List Domain → Terms → Bool
inside_terms m ds = any_inside_terms (test_comparison m ds) (test_branch m)

abbrev pub test_bool : ℕ → List Domain → BoolExpr → Bool
test_bool m ds = any_comparison (test_comparison m ds) (test_branch m)

abbrev pub test_pair : ℕ → List Domain → IntExpr → IntExpr → Bool
test_pair m ds a b = test_comparison m ds a b || (inside m ds a || inside m ds b)

-- ---- integer expressions

-- a variable of the table
pub record ReadyVar (work : List ℤ) (v : ℕ) : Type 0 where
  pub ds : List Domain
  pub bounds : Bounds work ds
  pub below : v < length ds

abbrev pub VarPost : List ℤ → ℕ → ℕ → Type 0
VarPost work v r = (ds : List Domain) → Bounds work ds → v < length ds → r ≡ bounds_total (lower_bound (domain_of ds v)) (upper_bound (domain_of ds v))

pub record ReadyInt (ws work : List ℤ) (at ni : ℕ) : Type 0 where
  pub ds : List Domain
  pub bounds : Bounds work ds
  pub few : ni ≡ length ds
  pub it : IntExpr
  pub reads : IntAt ni ws at it

pub record ReadyTerms (ws work : List ℤ) (at n ni : ℕ) : Type 0 where
  pub ds : List Domain
  pub bounds : Bounds work ds
  pub few : ni ≡ length ds
  pub them : Terms
  pub reads : TermsAt ni ws at n them

pub record ReadyIf (ws work : List ℤ) (at ni : ℕ) : Type 0 where
  pub ds : List Domain
  pub bounds : Bounds work ds
  pub few : ni ≡ length ds
  pub read : IfIsRead
  pub condition : BoolExpr
  pub left : IntExpr
  pub right : IntExpr
  pub reads : IntAt ni ws at (If read condition left right)

-- of a known code: a constant or a variable, a sum or an If
pub record ReadyLeaf (ws work : List ℤ) (at code : ℕ) : Type 0 where
  pub ni : ℕ
  pub int : ReadyInt ws work at ni
  pub word : get_or ws at (pos 0) ≡ pos code
  pub low : code < 22

pub record ReadyDeep (ws work : List ℤ) (at code ni : ℕ) : Type 0 where
  pub int : ReadyInt ws work at ni
  pub word : get_or ws at (pos 0) ≡ pos code
  pub high : 22 ≤ code

-- the place behind, the total, and what the tests of what stands inside hit
abbrev pub Totals : List Domain → IntExpr → ℕ → ℕ → ℕ → ℕ → Type 0
Totals ds e at next t k = (next ≡ at + length (encode_int e)) × (t ≡ total ds e) × (k ≡ first_of (λ m. inside m ds e))

abbrev pub IntPost : List ℤ → List ℤ → ℕ → ℕ → ℕ → ℕ → ℕ → Type 0
IntPost ws work at ni next t k = (ds : List Domain) (e : IntExpr) → Bounds work ds → ni ≡ length ds → IntAt ni ws at e → Totals ds e at next t k

-- nothing stands inside a leaf
abbrev pub LeafPost : List ℤ → List ℤ → ℕ → ℕ → Type 0
LeafPost ws work at t = (ni : ℕ) → IntPost ws work at ni (at + 2) t 12

abbrev pub IfPost : List ℤ → List ℤ → ℕ → ℕ → ℕ → ℕ → ℕ → Type 0
IfPost ws work at ni next t k =
    (ds : List Domain) (i : IfIsRead) (c : BoolExpr) (a b : IntExpr) → Bounds work ds → ni ≡ length ds → IntAt ni ws at (If i c a b) → Totals ds (If i c a b) at next t k

-- the terms' total joins what was totalled before; k₀ was hit before
abbrev pub TermsPost : List ℤ → List ℤ → ℕ → ℕ → ℕ → ℕ → ℕ → ℕ → ℕ → ℕ → Type 0
TermsPost ws work at n ni acc k₀ next t k =
    (ds : List Domain) (ts : Terms) → Bounds work ds → ni ≡ length ds → TermsAt ni ws at n ts
    → (next ≡ at + length (encode_terms ts)) × (t ≡ joined acc (terms_total ds ts)) × (k ≡ min k₀ (first_of (λ m. inside_terms m ds ts)))

-- ---- lowest and highest value, of what 9 lets through

pub record ReadyRange (ws work : List ℤ) (at : ℕ) : Type 0 where
  pub ds : List Domain
  pub bounds : Bounds work ds
  pub it : IntExpr
  pub reads : IntAt (length ds) ws at it
  pub light : heavy ds it ≡ false

abbrev pub RangePost : List ℤ → List ℤ → ℕ → ℕ → ℤ → ℤ → Type 0
RangePost ws work at next low high =
    (ds : List Domain) (e : IntExpr) → Bounds work ds → IntAt (length ds) ws at e → (next ≡ at + length (encode_int e)) × (low ≡ (interval ds e).0) × (high ≡ (interval ds e).1)

pub record ReadyIfRange (ws work : List ℤ) (at : ℕ) : Type 0 where
  pub ds : List Domain
  pub bounds : Bounds work ds
  pub read : IfIsRead
  pub condition : BoolExpr
  pub left : IntExpr
  pub right : IntExpr
  pub reads : IntAt (length ds) ws at (If read condition left right)
  pub light : heavy ds (If read condition left right) ≡ false

abbrev pub IfRangePost : List ℤ → List ℤ → ℕ → ℕ → ℤ → ℤ → Type 0
IfRangePost ws work at next low high =
    (ds : List Domain) (i : IfIsRead) (c : BoolExpr) (a b : IntExpr) → Bounds work ds → IntAt (length ds) ws at (If i c a b)
    → (next ≡ at + length (encode_int (If i c a b))) × (low ≡ (interval ds (If i c a b)).0) × (high ≡ (interval ds (If i c a b)).1)

-- terms that still fit beside the lowest and highest value so far
pub record ReadyRanges (ws work : List ℤ) (at n : ℕ) (low high : ℤ) : Type 0 where
  pub ds : List Domain
  pub bounds : Bounds work ds
  pub them : Terms
  pub reads : TermsAt (length ds) ws at n them
  pub light : heavy_terms ds them ≡ false
  pub low_small : nat_abs low + terms_weight ds them ≤ max_weight
  pub high_small : nat_abs high + terms_weight ds them ≤ max_weight

abbrev pub RangesPost : List ℤ → List ℤ → ℕ → ℕ → ℤ → ℤ → ℕ → ℤ → ℤ → Type 0
RangesPost ws work at n low high next low' high' =
    (ds : List Domain) (ts : Terms) → Bounds work ds → TermsAt (length ds) ws at n ts
    → (next ≡ at + length (encode_terms ts)) × (low' ≡ low +ℤ (terms_interval ds ts).0) × (high' ≡ high +ℤ (terms_interval ds ts).1)

-- ---- variables written

-- an integer expression stands behind a word
pub record Behind (ws : List ℤ) (at ni : ℕ) : Type 0 where
  pub it : IntExpr
  pub reads : IntAt ni ws at it
  pub behind : 0 < at

-- what its own words write, all of an If's: variables and Ifs
abbrev pub own_written : IntExpr → List ℕ
own_written (IConst c) = []
own_written (IVar u) = u ∷ []
own_written (Linear ts) = []
own_written (If i c t f) = written t ++ written f

abbrev pub own_ifs : IntExpr → ℕ
own_ifs (IConst c) = 0
own_ifs (IVar u) = 0
own_ifs (Linear ts) = 0
own_ifs (If i c t f) = suc (ifs t + ifs f)

abbrev pub has_mark : List Bool → ℕ → Bool
has_mark marks v = get_or marks v false

-- marks that gained the variables below n of which f holds: r are those that had none, and k more
pub record Marks (marks : List Bool) (f : ℕ → Bool) (k n : ℕ) (marks' : List Bool) (r : ℕ) : Type 0 where
  pub size : length marks' ≡ max_ints
  pub each : (v : ℕ) → v < n → has_mark marks' v ≡ (has_mark marks v || f v)
  pub gained : marked (has_mark marks) n + r ≡ marked (has_mark marks') n + k

abbrev pub HeadPost : List ℤ → ℕ → ℕ → List Bool → List Bool → ℕ → ℕ → ℕ → Type 0
HeadPost ws at n marks marks' next terms r =
    (e : IntExpr) → IntAt n ws at e → (next ≡ at + own_int e) × (terms ≡ count_terms (body e)) × Marks marks (among (own_written e)) (own_ifs e) n marks' r

abbrev pub WrittenPost : List ℤ → ℕ → ℕ → List Bool → List Bool → ℕ → ℕ → Type 0
WrittenPost ws at n marks marks' next r = (e : IntExpr) → IntAt n ws at e → (next ≡ at + length (encode_int e)) × Marks marks (among (written e)) (ifs e) n marks' r

abbrev pub ManyOnePost : List ℤ → ℕ → ℕ → ℕ → Bool → Type 0
ManyOnePost ws at words ni r = (x : IntExpr) → IntAt ni ws at x → words ≡ length (encode_int x) → r ≡ many_column x

abbrev pub ManyPost : List ℤ → ℕ → ℕ → ℕ → ℕ → Bool → Type 0
ManyPost ws a b words ni r = (x y : IntExpr) → IntAt ni ws a x → IntAt ni ws b y → words ≡ length (encode_int x) + length (encode_int y) → r ≡ many_comparison x y

-- an If's branches
pub record ReadyBranches (ws : List ℤ) (t f end ni : ℕ) : Type 0 where
  pub left : IntExpr
  pub right : IntExpr
  pub left_at : IntAt ni ws t left
  pub right_at : IntAt ni ws f right
  pub middle : f ≡ t + length (encode_int left)
  pub last : end ≡ f + length (encode_int right)
  pub behind : 0 < t

abbrev pub BranchesPost : List ℤ → ℕ → ℕ → ℕ → ℕ → ℕ → Type 0
BranchesPost ws t f end ni k =
    (x y : IntExpr) → IntAt ni ws t x → IntAt ni ws f y → f ≡ t + length (encode_int x) → end ≡ f + length (encode_int y) → k ≡ first_of (λ m. test_branch m x || test_branch m y)

-- a comparison but for what stands inside
abbrev pub ComparedPost : List ℤ → ℕ → ℕ → ℕ → ℕ → ℕ → ℕ → Type 0
ComparedPost ws a b words sum ni k =
    (ds : List Domain) (x y : IntExpr) → Bounded ds → IntAt ni ws a x → IntAt ni ws b y → words ≡ length (encode_int x) + length (encode_int y) → sum ≡ total ds x + total ds y
    → k ≡ first_of (λ m. test_comparison m ds x y)

pub record ReadyPair (ws work : List ℤ) (at ni : ℕ) : Type 0 where
  pub ds : List Domain
  pub bounds : Bounds work ds
  pub few : ni ≡ length ds
  pub left : IntExpr
  pub right : IntExpr
  pub left_at : IntAt ni ws at left
  pub right_at : IntAt ni ws (at + length (encode_int left)) right
  pub behind : 0 < at

abbrev pub PairPost : List ℤ → List ℤ → ℕ → ℕ → ℕ → ℕ → Type 0
PairPost ws work at ni next k =
    (ds : List Domain) (a b : IntExpr) → Bounds work ds → ni ≡ length ds → IntAt ni ws at a → IntAt ni ws (at + length (encode_int a)) b
    → (next ≡ at + length (encode_int a) + length (encode_int b)) × (k ≡ first_of (λ m. test_pair m ds a b))

pub record ReadyColumn (ws work : List ℤ) (at ni : ℕ) : Type 0 where
  pub ds : List Domain
  pub bounds : Bounds work ds
  pub few : ni ≡ length ds
  pub it : IntExpr
  pub reads : IntAt ni ws at it
  pub behind : 0 < at

-- a column but for what stands inside
pub record ReadyRoot (ws work : List ℤ) (at sum ni : ℕ) : Type 0 where
  pub column : ReadyColumn ws work at ni
  pub weighs : sum ≡ total column.ds column.it

abbrev pub RootPost : List ℤ → List ℤ → ℕ → ℕ → ℕ → ℕ → ℕ → Type 0
RootPost ws work at words sum ni k =
    (ds : List Domain) (e : IntExpr) → Bounds work ds → ni ≡ length ds → IntAt ni ws at e → words ≡ length (encode_int e) → sum ≡ total ds e → k ≡ first_of (λ m. test_column m ds e)

abbrev pub ColumnPost : List ℤ → List ℤ → ℕ → ℕ → ℕ → ℕ → Type 0
ColumnPost ws work at ni next k =
    (ds : List Domain) (e : IntExpr) → Bounds work ds → ni ≡ length ds → IntAt ni ws at e → (next ≡ at + length (encode_int e)) × (k ≡ first_of (λ m. test_column m ds e || inside m ds e))

pub record ReadyColumns (ws work : List ℤ) (at n ni : ℕ) : Type 0 where
  pub ds : List Domain
  pub bounds : Bounds work ds
  pub few : ni ≡ length ds
  pub them : List IntExpr
  pub reads : ColumnsAt ni ws at n them
  pub behind : 0 < at

-- k₀ was hit before
abbrev pub ColumnsPost : List ℤ → List ℤ → ℕ → ℕ → ℕ → ℕ → ℕ → ℕ → Type 0
ColumnsPost ws work at n ni k₀ next k =
    (ds : List Domain) (es : List IntExpr) → Bounds work ds → ni ≡ length ds → ColumnsAt ni ws at n es
    → (next ≡ at + length (flat (map encode_int es))) × (k ≡ min k₀ (first_of (λ m. any (λ e. test_column m ds e || inside m ds e) es)))

-- ---- expressions that differ

-- the total of some expression is over the limit with the largest one before it
unfoldable pub over : List Domain → ℕ → List IntExpr → Bool
over ds top [] = false
over ds top (e ∷ es) = ltb 1073741823 (top + total ds e) || over ds (max top (total ds e)) es

abbrev pub OverPost : List ℤ → List ℤ → ℕ → ℕ → ℕ → ℕ → Bool → ℕ → ℕ → Bool → ℕ → Type 0
OverPost ws work at n ni top hit k₀ next r k =
    (ds : List Domain) (es : List IntExpr) → Bounds work ds → ni ≡ length ds → ColumnsAt ni ws at n es
    → (next ≡ at + length (flat (map encode_int es))) × (r ≡ (hit || over ds top es)) × (k ≡ min k₀ (first_of (λ m. any (inside m ds) es)))

-- an expression and some others
pub record ReadyAmong (ws : List ℤ) (a words at n ni : ℕ) : Type 0 where
  pub one : IntExpr
  pub one_at : IntAt ni ws a one
  pub long : words ≡ length (encode_int one)
  pub one_behind : 0 < a
  pub others : List IntExpr
  pub others_at : ColumnsAt ni ws at n others
  pub behind : 0 < at

abbrev pub AmongPost : List ℤ → ℕ → ℕ → ℕ → ℕ → ℕ → Bool → Type 0
AmongPost ws a words at n ni r = (e : IntExpr) (es : List IntExpr) → IntAt ni ws a e → words ≡ length (encode_int e) → ColumnsAt ni ws at n es → r ≡ any (many_comparison e) es

-- one of 64 words at least writes too many variables with one before it or behind it
unfoldable pub crowds : List IntExpr → IntExpr → List IntExpr → Bool
crowds bs e es = cond (ltb (length (encode_int e)) 64) false (any (many_comparison e) bs || any (many_comparison e) es)

pub record ReadyBeside (ws : List ℤ) (a end at k n ni : ℕ) : Type 0 where
  pub one : IntExpr
  pub one_at : IntAt ni ws a one
  pub long : end ≡ a + length (encode_int one)
  pub before : List IntExpr
  pub before_at : ColumnsAt ni ws at k before
  pub after : List IntExpr
  pub after_at : ColumnsAt ni ws end n after
  pub one_behind : 0 < a
  pub behind : 0 < at

abbrev pub BesidePost : List ℤ → ℕ → ℕ → ℕ → ℕ → ℕ → ℕ → Bool → Type 0
BesidePost ws a end at k n ni r =
    (e : IntExpr) (bs es : List IntExpr) → IntAt ni ws a e → end ≡ a + length (encode_int e) → ColumnsAt ni ws at k bs → ColumnsAt ni ws end n es → r ≡ crowds bs e es

unfoldable pub crowded : List IntExpr → List IntExpr → Bool
crowded bs [] = false
crowded bs (e ∷ es) = crowds bs e es || crowded (bs ++ (e ∷ [])) es

-- of the n expressions those from next on are left
pub record ReadySplit (ws : List ℤ) (at n next rest ni : ℕ) : Type 0 where
  pub before : List IntExpr
  pub after : List IntExpr
  pub reads : ColumnsAt ni ws at n (before ++ after)
  pub size : rest ≡ length after
  pub place : next ≡ at + length (flat (map encode_int before))
  pub behind : 0 < at

abbrev pub CrowdedPost : List ℤ → ℕ → ℕ → ℕ → ℕ → ℕ → Bool → Type 0
CrowdedPost ws at n next rest ni r =
    (bs es : List IntExpr) → ColumnsAt ni ws at n (bs ++ es) → rest ≡ length es → next ≡ at + length (flat (map encode_int bs)) → r ≡ crowded bs es

-- but for what stands inside
abbrev pub DifferPost : List ℤ → ℕ → ℕ → Bool → ℕ → ℕ → Type 0
DifferPost ws at n hit ni k =
    (ds : List Domain) (es : List IntExpr) → ColumnsAt ni ws at n es → hit ≡ (any (heavy ds) es || any_pair (heavy_comparison ds) es)
    → k ≡ first_of (λ m. any (test_one m ds) es || any_pair (test_comparison m ds) es)

abbrev pub DifferentPost : List ℤ → List ℤ → ℕ → ℕ → ℕ → ℕ → ℕ → Type 0
DifferentPost ws work at n ni next k =
    (ds : List Domain) (es : List IntExpr) → Bounds work ds → ni ≡ length ds → ColumnsAt ni ws at n es
    → (next ≡ at + length (flat (map encode_int es))) × (k ≡ first_of (λ m. any (λ e. test_one m ds e || inside m ds e) es || any_pair (test_comparison m ds) es))

-- ---- Boolean expressions

-- the expressions right below
abbrev pub listed : Members → List BoolExpr
listed mnil = []
listed (more e ms) = e ∷ listed ms

abbrev pub parts : BoolExpr → List BoolExpr
parts (Const b) = []
parts (Var v) = []
parts (NVar n) = []
parts (And ms) = listed ms
parts (Or ms) = listed ms
parts (Not e) = e ∷ []
parts (Xor a b) = a ∷ b ∷ []
parts (Iff a b) = a ∷ b ∷ []
parts (Imp a b) = a ∷ b ∷ []
parts (Cmp o a b) = []

-- how many words precede their words
abbrev pub head_length : BoolExpr → ℕ
head_length (Const b) = 2
head_length (Var v) = 2
head_length (NVar n) = 1
head_length (And ms) = 2
head_length (Or ms) = 2
head_length (Not e) = 1
head_length (Xor a b) = 1
head_length (Iff a b) = 1
head_length (Imp a b) = 1
head_length (Cmp o a b) = 2 + (length (encode_int a) + length (encode_int b))

abbrev pub own_test : (IntExpr → IntExpr → Bool) → BoolExpr → Bool
own_test f (Const b) = false
own_test f (Var v) = false
own_test f (NVar n) = false
own_test f (And ms) = false
own_test f (Or ms) = false
own_test f (Not e) = false
own_test f (Xor a b) = false
own_test f (Iff a b) = false
own_test f (Imp a b) = false
own_test f (Cmp o a b) = f a b

pub record ReadyBool (ws work : List ℤ) (at ni : ℕ) : Type 0 where
  pub ds : List Domain
  pub bounds : Bounds work ds
  pub few : ni ≡ length ds
  pub it : BoolExpr
  pub reads : BoolAt ni ws at it

pub record ReadyBools (ws work : List ℤ) (at n ni : ℕ) : Type 0 where
  pub ds : List Domain
  pub bounds : Bounds work ds
  pub few : ni ≡ length ds
  pub them : List BoolExpr
  pub reads : BoolsAt ni ws at n them

-- one step: over the head, or over a whole comparison
abbrev pub StepPost : List ℤ → List ℤ → ℕ → ℕ → ℕ → ℕ → ℕ → Type 0
StepPost ws work at ni next n k =
    (ds : List Domain) (e : BoolExpr) → Bounds work ds → ni ≡ length ds → BoolAt ni ws at e
    → (next ≡ at + head_length e) × (n ≡ length (parts e)) × (k ≡ first_of (λ m. own_test (test_pair m ds) e))

abbrev pub BoolsPost : List ℤ → List ℤ → ℕ → ℕ → ℕ → ℕ → ℕ → ℕ → Type 0
BoolsPost ws work at n ni k₀ next k =
    (ds : List Domain) (es : List BoolExpr) → Bounds work ds → ni ≡ length ds → BoolsAt ni ws at n es
    → (next ≡ at + length (flat (map encode_bool es))) × (k ≡ min k₀ (first_of (λ m. any (test_bool m ds) es)))

-- ---- statements

unfoldable pub UsableStmt : ℕ → Stmt → Type 0
UsableStmt ni (Rule e) = Usable ni e
UsableStmt ni (Table es rows) = UsableColumns ni es × Wide (length es) rows
UsableStmt ni (AllDifferent es) = UsableColumns ni es

unfoldable pub UsableStmts : ℕ → List Stmt → Type 0
UsableStmts ni [] = Unit {0}
UsableStmts ni (s ∷ ss) = UsableStmt ni s × UsableStmts ni ss

pub record StmtAt (ni : ℕ) (ws : List ℤ) (at : ℕ) (s : Stmt) : Type 0 where
  pub words : Has ws at (encode_stmt s)
  pub usable : UsableStmt ni s

pub record StmtsAt (ni : ℕ) (ws : List ℤ) (at n : ℕ) (ss : List Stmt) : Type 0 where
  pub words : Has ws at (flat (map encode_stmt ss))
  pub usable : UsableStmts ni ss
  pub size : n ≡ length ss

pub record ReadyStmt (ws work : List ℤ) (at ni : ℕ) : Type 0 where
  pub ds : List Domain
  pub bounds : Bounds work ds
  pub few : ni ≡ length ds
  pub it : Stmt
  pub reads : StmtAt ni ws at it

pub record ReadyStmts (ws work : List ℤ) (at n ni : ℕ) : Type 0 where
  pub ds : List Domain
  pub bounds : Bounds work ds
  pub few : ni ≡ length ds
  pub them : List Stmt
  pub reads : StmtsAt ni ws at n them

abbrev pub test_stmt : ℕ → List Domain → Stmt → Bool
test_stmt m ds s = any_part (test_comparison m ds) (test_branch m) (test_column m ds) (test_one m ds) s

abbrev pub StmtPost : List ℤ → List ℤ → ℕ → ℕ → ℕ → ℕ → Type 0
StmtPost ws work at ni next k =
    (ds : List Domain) (s : Stmt) → Bounds work ds → ni ≡ length ds → StmtAt ni ws at s → (next ≡ at + length (encode_stmt s)) × (k ≡ first_of (λ m. test_stmt m ds s))

abbrev pub StmtsPost : List ℤ → List ℤ → ℕ → ℕ → ℕ → ℕ → ℕ → Type 0
StmtsPost ws work at n ni k₀ k = (ds : List Domain) (ss : List Stmt) → Bounds work ds → ni ≡ length ds → StmtsAt ni ws at n ss → k ≡ min k₀ (first_of (λ m. any (test_stmt m ds) ss))

-- the refusal of a whole list of statements, or 0
unfoldable pub check_stmts : List Domain → List Stmt → ℕ
check_stmts ds ss = cond (any (test_stmt 9 ds) ss) 9 (cond (any (test_stmt 10 ds) ss) 10 (cond (any (test_stmt 11 ds) ss) 11 0))

abbrev pub CheckPost : List ℤ → List ℤ → ℕ → ℕ → ℕ → ℕ → Type 0
CheckPost ws work at n ni r = (ds : List Domain) (ss : List Stmt) → Bounds work ds → ni ≡ length ds → StmtsAt ni ws at n ss → r ≡ check_stmts ds ss
