-- What the functions of the check ask and give: the words at a place say something, and the answer is what it means for the values. Assumes nothing.
use Rattle.std.specs.Prelude.{◌≡◌, Bool, true, false, ◌&&◌, ◌||◌, not, cond, List, [], ◌∷◌, map, ℕ, ◌+◌, ◌<◌, ◌≤◌, ℤ, pos, nat_abs, ◌+ℤ◌, eqb, length, get_or}
use Rattle.std.specs.Bool.{beq}
use Rattle.std.proofs.lemmas.List.Edits.{sets}
use Rattle.laws.specs.Ints.{eqZ}
use Rattle.laws.specs.Lists.{any, flat}
use Rattle.laws.specs.Slices.{Has, zeros}
use Rattle.syntax.specs.Words.{max_weight, star_word}
use Rattle.syntax.specs.Syntax.{Domain, domain_of, in_domain, encode_domain, IntExpr, Terms, encode_int, encode_terms, BoolExpr, Members, encode_bool, encode_members, Cell, encode_cell, Stmt, encode_stmt}
use Rattle.syntax.specs.Satisfies.{int_value, terms_value, permits, holds, holds_all, holds_any, distinct}
use Rattle.words.specs.Exact.{Each}
use Rattle.read.specs.WellFormed.{WellCell, WellRow, WellStmt}
use Rattle.limits.specs.Limits.{any_comparison, any_comparison_members, any_inside, any_inside_terms, domain_weight, terms_weight, heavy, heavy_terms, heavy_comparison, heavy_stmt}
use Rattle.domains.specs.Declared.{Domains}
use Rattle.passes.specs.Skip.{IntAt as Int-stands, TermsAt as Terms-stand, BoolAt as Bool-stands, MembersAt as Members-stand}
use Rattle.passes.specs.Statements.{DeclaredColumns}
use Rattle.verdict.specs.Roster.{bool_of, int_of, Verdict, satisfied, broken, refused, truth, first_broken, check_roster}
use Rattle.evaluate.specs.declared.Checked.{Checked}
use Rattle.evaluate.specs.declared.Checked.TheVariants.{Yes, Broken, Refused}

-- a value for every variable, each integer's no larger than its weight
pub record Roster (nb : ℕ) (ds : List Domain) (values : List ℤ) : Type 0 where
  pub size : length values ≡ nb + length ds
  pub light : (v : ℕ) → v < length ds → nat_abs (int_of nb values v) ≤ domain_weight (domain_of ds v)

-- ---- a comparison weighs too much, wherever it stands

abbrev pub heavy_inside : List Domain → IntExpr → Bool
heavy_inside ds = any_inside (heavy_comparison ds) (λ e. false)

abbrev pub heavy_inside_terms : List Domain → Terms → Bool
heavy_inside_terms ds = any_inside_terms (heavy_comparison ds) (λ e. false)

abbrev pub heavy_bool : List Domain → BoolExpr → Bool
heavy_bool ds = any_comparison (heavy_comparison ds) (λ e. false)

abbrev pub heavy_members : List Domain → Members → Bool
heavy_members ds = any_comparison_members (heavy_comparison ds) (λ e. false)

-- ---- integer expressions, none of whose parts weighs too much

pub record IntAt (nb : ℕ) (ds : List Domain) (ws : List ℤ) (at : ℕ) (e : IntExpr) : Type 0 where
  pub stands : Int-stands nb (length ds) ws at e
  pub light : heavy ds e ≡ false
  pub inside : heavy_inside ds e ≡ false

-- terms that are added to what was added up before
pub record TermsAt (nb : ℕ) (ds : List Domain) (ws : List ℤ) (at n : ℕ) (acc : ℤ) (ts : Terms) : Type 0 where
  pub stand : Terms-stand nb (length ds) ws at n ts
  pub light : heavy_terms ds ts ≡ false
  pub inside : heavy_inside_terms ds ts ≡ false
  pub room : nat_abs acc + terms_weight ds ts ≤ max_weight

pub record ReadyInt (ws values : List ℤ) (nb at : ℕ) : Type 0 where
  pub ds : List Domain
  pub roster : Roster nb ds values
  pub it : IntExpr
  pub reads : IntAt nb ds ws at it

pub record ReadyTerms (ws values : List ℤ) (nb at n : ℕ) (acc : ℤ) : Type 0 where
  pub ds : List Domain
  pub roster : Roster nb ds values
  pub them : Terms
  pub reads : TermsAt nb ds ws at n acc them

-- the value of an expression, of terms together
abbrev pub valued : ℕ → List ℤ → IntExpr → ℤ
valued nb values = int_value (bool_of values) (int_of nb values) (λ n. false)

abbrev pub added : ℕ → List ℤ → Terms → ℤ
added nb values = terms_value (bool_of values) (int_of nb values) (λ n. false)

abbrev pub IntPost : List ℤ → List ℤ → ℕ → ℕ → ℕ → ℤ → Type 0
IntPost ws values nb at next x = (ds : List Domain) (e : IntExpr) → Roster nb ds values → IntAt nb ds ws at e → (next ≡ at + length (encode_int e)) × (x ≡ valued nb values e)

abbrev pub TermsPost : List ℤ → List ℤ → ℕ → ℕ → ℕ → ℤ → ℕ → ℤ → Type 0
TermsPost ws values nb at n acc next x =
    (ds : List Domain) (ts : Terms) → Roster nb ds values → TermsAt nb ds ws at n acc ts → (next ≡ at + length (encode_terms ts)) × (x ≡ acc +ℤ added nb values ts)

-- ---- Boolean expressions

pub record BoolAt (nb : ℕ) (ds : List Domain) (ws : List ℤ) (at : ℕ) (e : BoolExpr) : Type 0 where
  pub stands : Bool-stands nb (length ds) ws at e
  pub light : heavy_bool ds e ≡ false

pub record MembersAt (nb : ℕ) (ds : List Domain) (ws : List ℤ) (at n : ℕ) (ms : Members) : Type 0 where
  pub stand : Members-stand nb (length ds) ws at n ms
  pub light : heavy_members ds ms ≡ false

pub record ReadyBool (ws values : List ℤ) (nb at : ℕ) : Type 0 where
  pub ds : List Domain
  pub roster : Roster nb ds values
  pub it : BoolExpr
  pub reads : BoolAt nb ds ws at it

pub record ReadyMembers (ws values : List ℤ) (nb at n : ℕ) : Type 0 where
  pub ds : List Domain
  pub roster : Roster nb ds values
  pub them : Members
  pub reads : MembersAt nb ds ws at n them

-- an expression, And's members (false), Or's (true)
abbrev pub held : ℕ → List ℤ → BoolExpr → Bool
held nb values = holds (bool_of values) (int_of nb values) (λ n. false)

abbrev pub decided : ℕ → List ℤ → Bool → Members → Bool
decided nb values false = holds_all (bool_of values) (int_of nb values) (λ n. false)
decided nb values true = holds_any (bool_of values) (int_of nb values) (λ n. false)

-- Xor, Iff and Imp, by their codes
unfoldable pub side_value : ℕ → Bool → Bool → Bool
side_value code a b = cond (eqb code 15) (not (beq a b)) (cond (eqb code 16) (beq a b) (not a || b))

abbrev pub BoolPost : List ℤ → List ℤ → ℕ → ℕ → ℕ → Bool → Type 0
BoolPost ws values nb at next h = (ds : List Domain) (e : BoolExpr) → Roster nb ds values → BoolAt nb ds ws at e → (next ≡ at + length (encode_bool e)) × (h ≡ held nb values e)

abbrev pub MembersPost : List ℤ → List ℤ → ℕ → ℕ → ℕ → Bool → ℕ → Bool → Type 0
MembersPost ws values nb at n stop next h =
    (ds : List Domain) (ms : Members) → Roster nb ds values → MembersAt nb ds ws at n ms → (next ≡ at + length (encode_members ms)) × (h ≡ decided nb values stop ms)

-- ---- tables and AllDifferent: the columns' values are worked out once

pub record ColumnsAt (nb : ℕ) (ds : List Domain) (ws : List ℤ) (at n : ℕ) (es : List IntExpr) : Type 0 where
  pub words : Has ws at (flat (map encode_int es))
  pub vars : DeclaredColumns nb (length ds) es
  pub light : any (λ e. heavy ds e || heavy_inside ds e) es ≡ false
  pub size : n ≡ length es

pub record ReadyColumns (ws values : List ℤ) (nb at n : ℕ) (work : List ℤ) (o : ℕ) : Type 0 where
  pub ds : List Domain
  pub roster : Roster nb ds values
  pub them : List IntExpr
  pub reads : ColumnsAt nb ds ws at n them
  pub room : o + n ≤ length work

-- stored from o on
abbrev pub ColumnsPost : List ℤ → List ℤ → ℕ → ℕ → ℕ → List ℤ → ℕ → List ℤ → ℕ → Type 0
ColumnsPost ws values nb at n work o work' next =
    (ds : List Domain) (es : List IntExpr) → Roster nb ds values → ColumnsAt nb ds ws at n es → (next ≡ at + length (flat (map encode_int es))) × (work' ≡ sets work o (map (valued nb values) es))

pub record ValuesAt (work : List ℤ) (i n : ℕ) (xs : List ℤ) : Type 0 where
  pub words : Has work i xs
  pub size : n ≡ length xs

pub record RowStandsAt (ws : List ℤ) (at n : ℕ) (cs : List Cell) : Type 0 where
  pub words : Has ws at (map encode_cell cs)
  pub well : Each WellCell cs
  pub size : n ≡ length cs

pub record RowsStandAt (ws : List ℤ) (at n k : ℕ) (rows : List (List Cell)) : Type 0 where
  pub words : Has ws at (flat (map (map encode_cell) rows))
  pub well : Each (WellRow n) rows
  pub size : k ≡ length rows

pub record ReadyRow (ws : List ℤ) (at n : ℕ) (work : List ℤ) (i : ℕ) : Type 0 where
  pub cells : List Cell
  pub row : RowStandsAt ws at n cells
  pub values : List ℤ
  pub stored : ValuesAt work i n values

pub record ReadyRows (ws : List ℤ) (at n k : ℕ) (work : List ℤ) : Type 0 where
  pub them : List (List Cell)
  pub rows : RowsStandAt ws at n k them
  pub values : List ℤ
  pub stored : ValuesAt work 0 n values
  pub inside : at ≤ length ws

-- a cell's word permits a value; a row's cells permit the columns' values
abbrev pub word_permits : ℤ → ℤ → Bool
word_permits w x = eqZ w star_word || eqZ w x

abbrev pub row_permits : List ℤ → List Cell → Bool
row_permits [] cs = true
row_permits (x ∷ xs) [] = true
row_permits (x ∷ xs) (c ∷ cs) = permits c x && row_permits xs cs

abbrev pub RowPost : List ℤ → ℕ → ℕ → List ℤ → ℕ → Bool → Type 0
RowPost ws at n work i r = (cs : List Cell) (xs : List ℤ) → RowStandsAt ws at n cs → ValuesAt work i n xs → r ≡ row_permits xs cs

abbrev pub RowsPost : List ℤ → ℕ → ℕ → ℕ → List ℤ → Bool → Type 0
RowsPost ws at n k work r = (rows : List (List Cell)) (xs : List ℤ) → RowsStandAt ws at n k rows → ValuesAt work 0 n xs → r ≡ any (row_permits xs) rows

-- ---- statements

pub record StmtAt (nb : ℕ) (ds : List Domain) (ws : List ℤ) (at : ℕ) (s : Stmt) : Type 0 where
  pub words : Has ws at (encode_stmt s)
  pub well : WellStmt nb (length ds) s
  pub light : heavy_stmt ds s ≡ false

pub record StmtsAt (nb : ℕ) (ds : List Domain) (ws : List ℤ) (at n : ℕ) (ss : List Stmt) : Type 0 where
  pub words : Has ws at (flat (map encode_stmt ss))
  pub well : Each (WellStmt nb (length ds)) ss
  pub light : any (heavy_stmt ds) ss ≡ false
  pub size : n ≡ length ss

pub record ReadyStmt (ws values : List ℤ) (nb at : ℕ) (work : List ℤ) : Type 0 where
  pub ds : List Domain
  pub roster : Roster nb ds values
  pub it : Stmt
  pub reads : StmtAt nb ds ws at it
  pub room : length ws ≤ length work

pub record ReadyStmts (ws values : List ℤ) (nb at n : ℕ) (work : List ℤ) : Type 0 where
  pub ds : List Domain
  pub roster : Roster nb ds values
  pub them : List Stmt
  pub reads : StmtsAt nb ds ws at n them
  pub room : length ws ≤ length work

abbrev pub StmtPost : List ℤ → List ℤ → ℕ → ℕ → ℕ → Bool → Type 0
StmtPost ws values nb at next h = (ds : List Domain) (s : Stmt) → Roster nb ds values → StmtAt nb ds ws at s → (next ≡ at + length (encode_stmt s)) × (h ≡ truth nb values s)

-- the verdict in the code's values
unfoldable pub checked_of : Verdict → Checked
checked_of satisfied = Yes
checked_of (broken k) = Broken k
checked_of (refused k) = Refused k

-- the first broken of n statements, counted from k
abbrev pub BrokenPost : List ℤ → List ℤ → ℕ → ℕ → ℕ → ℕ → Checked → Type 0
BrokenPost ws values nb at n k r = (ds : List Domain) (ss : List Stmt) → Roster nb ds values → StmtsAt nb ds ws at n ss → r ≡ checked_of (first_broken (truth nb values) k ss)

-- ---- 15: values in their domains

pub record WordsAt (ws : List ℤ) (at n : ℕ) : Type 0 where
  pub them : List ℤ
  pub words : Has ws at them
  pub size : n ≡ length them

abbrev pub ListedPost : List ℤ → ℕ → ℕ → ℤ → Bool → Type 0
ListedPost ws at n x r = (xs : List ℤ) → Has ws at xs → n ≡ length xs → r ≡ any (eqZ x) xs

-- the n words from `at` on differ pairwise
abbrev pub DifferPost : List ℤ → ℕ → ℕ → Bool → Type 0
DifferPost ws at n r = (xs : List ℤ) → Has ws at xs → n ≡ length xs → r ≡ distinct xs

abbrev pub DomainPost : List ℤ → ℕ → ℤ → Bool → Type 0
DomainPost ws at x r = (d : Domain) → Has ws at (encode_domain d) → r ≡ in_domain x d

-- the values from p on are in the domains, one after another
abbrev pub each_inside : List ℤ → ℕ → List Domain → Bool
each_inside values p [] = true
each_inside values p (d ∷ ds) = in_domain (get_or values p (pos 0)) d && each_inside values (p + 1) ds

pub record ReadyDomains (ws : List ℤ) (at n : ℕ) (values : List ℤ) (p : ℕ) : Type 0 where
  pub ds : List Domain
  pub domains : Domains ws at ds
  pub size : n ≡ length ds
  pub room : p + n ≤ length values

abbrev pub InsidePost : List ℤ → ℕ → ℕ → List ℤ → ℕ → Bool → Type 0
InsidePost ws at n values p r = (ds : List Domain) → Domains ws at ds → n ≡ length ds → r ≡ each_inside values p ds

-- ---- the check: the answer and every word of the work slice, for all words and lengths

pub record Checks (set values work work' : List ℤ) (r : Checked) : Type 0 where
  pub answer : r ≡ checked_of (check_roster set values (length work))
  pub zeroed : work' ≡ zeros (length work)
