-- What the code's contracts say: the words that a closing step writes, as functions of numbers and words; and what folding asks and gives.
use Rattle.std.specs.Prelude.{ℕ, zero, suc, ◌+◌, ◌≤◌, ◌<◌, ◌≡◌, refl, Bool, true, false, not, cond, List, [], ◌∷◌, ◌++◌, eqb, ℤ, pos, negsuc, length, take, drop, get_or}
use Rattle.std.proofs.Common.{sym, ap, append-nil, arith, add-one, ne_eqb}
use Rattle.std.proofs.Math.Option.{Option, none, some}
use Rattle.laws.specs.Ints.{eqZ}
use Rattle.laws.specs.Slices.{Has, Pushed, Stored}
use Rattle.syntax.specs.Words.{max_bools}
use Rattle.syntax.specs.Syntax.{Domain, as_constant, domain_of, IntExpr, Terms, BoolExpr, Const, Members, mnil, more, count_terms, count_members, encode_int, encode_terms, encode_bool, encode_members}
use Rattle.domains.specs.Declared.{Domains}
use Rattle.fold.specs.Fold.{Fixed, is_const, Op, op_xor, op_iff, op_imp, Action, be_false, be_true, left, not_left, right, not_right, keep, action, act, fold_binary, has_const, keep_member, kept, not_of, fold_int_var, constant_folding_int, constant_folding_terms, constant_folding_bool, constant_folding_members}
use Rattle.fold.proofs.Refold.{const_or}
use Rattle.fold.specs.Table.{op_num, bit}
use Rattle.folding.specs.Known.{is_open}
use Rattle.fold.proofs.Forms.{list_of, join, fold_list, list_words, binary_words, bit_word, IntIsDeclared, DeclaredTerms, Declared, DeclaredMembers}

-- ---- the fixed values: 0 false, 1 true, else open

unfoldable pub state_of : ℤ → Option Bool
state_of (pos zero) = some false
state_of (pos (suc zero)) = some true
state_of (pos (suc (suc n))) = none
state_of (negsuc n) = none

-- what the words of a list fix
unfoldable pub fixed_of : List ℤ → Fixed
fixed_of l = λ v. state_of (get_or l v (pos 2))

-- the fixed values are the first words of the work slice
unfoldable pub fixed_in : List ℤ → Fixed
fixed_in out = fixed_of (take max_bools out)

pub same_fixed : (out out' : List ℤ) → take max_bools out' ≡ take max_bools out → fixed_in out' ≡ fixed_in out
unfolding fixed_in
same_fixed out out' h = ap fixed_of h

-- ---- the words of each closing step

unfoldable pub not_step : Option Bool → List ℤ → List ℤ
not_step none l = pos 14 ∷ l
not_step (some b) l = pos 10 ∷ pos (bit (not b)) ∷ []

abbrev pub not_state : Option Bool → Option Bool
not_state none = none
not_state (some b) = some (not b)

unfoldable pub list_step : Bool → Bool → ℕ → List ℤ → List ℤ
list_step b hit k l = cond hit (pos 10 ∷ pos (bit b) ∷ []) (cond (eqb k 0) (pos 10 ∷ pos (bit (not b)) ∷ []) (cond (eqb k 1) l (pos (12 + bit b) ∷ pos k ∷ l)))

unfoldable pub list_state : Bool → Bool → ℕ → Option Bool
list_state b hit k = cond hit (some b) (cond (eqb k 0) (some (not b)) none)

unfoldable pub binary_step : Action → Op → List ℤ → List ℤ → List ℤ
binary_step be_false o l r = pos 10 ∷ pos 0 ∷ []
binary_step be_true o l r = pos 10 ∷ pos 1 ∷ []
binary_step left o l r = l
binary_step not_left o l r = pos 14 ∷ l
binary_step right o l r = r
binary_step not_right o l r = pos 14 ∷ r
binary_step keep o l r = pos (15 + op_num o) ∷ (l ++ r)

abbrev pub binary_state : Action → Option Bool
binary_state be_false = some false
binary_state be_true = some true
binary_state left = none
binary_state not_left = none
binary_state right = none
binary_state not_right = none
binary_state keep = none

-- ---- integers: what stands in the words above the fixed values, and what is written for it

pub record ReadsInt (ni : ℕ) (ws : List ℤ) (at : ℕ) (e : IntExpr) : Type 0 where
  pub words : Has ws at (encode_int e)
  pub vars : IntIsDeclared max_bools ni e

pub record TermsRead (ni : ℕ) (ws : List ℤ) (at n : ℕ) (ts : Terms) : Type 0 where
  pub words : Has ws at (encode_terms ts)
  pub vars : DeclaredTerms max_bools ni ts
  pub size : n ≡ count_terms ts

pub record ReadyInt (ws : List ℤ) (d at : ℕ) (out : List ℤ) (o : ℕ) : Type 0 where
  pub ds : List Domain
  pub domains : Domains ws d ds
  pub it : IntExpr
  pub reads : ReadsInt (length ds) ws at it
  pub low : max_bools ≤ o
  pub room : o + length (encode_int it) ≤ length out

pub record ReadyTerms (ws : List ℤ) (d at n : ℕ) (out : List ℤ) (o : ℕ) : Type 0 where
  pub ds : List Domain
  pub domains : Domains ws d ds
  pub them : Terms
  pub reads : TermsRead (length ds) ws at n them
  pub low : max_bools ≤ o
  pub room : o + length (encode_terms them) ≤ length out

-- what is written at o, and where reading and writing went on; nothing above the room is touched
pub record FoldsInt (ds : List Domain) (out : List ℤ) (at o : ℕ) (e : IntExpr) (out' : List ℤ) (next end : ℕ) : Type 0 where
  pub nexts : next ≡ at + length (encode_int e)
  pub pushed : Pushed out o (encode_int (constant_folding_int ds (fixed_in out) e)) out' end
  pub above : drop (o + length (encode_int e)) out' ≡ drop (o + length (encode_int e)) out

pub record FoldsTerms (ds : List Domain) (out : List ℤ) (at o : ℕ) (ts : Terms) (out' : List ℤ) (next end : ℕ) : Type 0 where
  pub nexts : next ≡ at + length (encode_terms ts)
  pub pushed : Pushed out o (encode_terms (constant_folding_terms ds (fixed_in out) ts)) out' end
  pub above : drop (o + length (encode_terms ts)) out' ≡ drop (o + length (encode_terms ts)) out

abbrev pub IntPost : List ℤ → ℕ → ℕ → List ℤ → ℕ → List ℤ → ℕ → ℕ → Type 0
IntPost ws d at out o out' next end = (ds : List Domain) (e : IntExpr) → Domains ws d ds → ReadsInt (length ds) ws at e → FoldsInt ds out at o e out' next end

abbrev pub TermsPost : List ℤ → ℕ → ℕ → ℕ → List ℤ → ℕ → List ℤ → ℕ → ℕ → Type 0
TermsPost ws d at n out o out' next end = (ds : List Domain) (ts : Terms) → Domains ws d ds → TermsRead (length ds) ws at n ts → FoldsTerms ds out at o ts out' next end

-- a sum of one term with coefficient 1
unfoldable pub single_of : ℕ → ℤ → Bool
single_of n c = cond (eqb n 1) (eqZ c (pos 1)) false

abbrev pub IntVarPost : List ℤ → ℕ → List ℤ → ℕ → ℕ → List ℤ → ℕ → Type 0
IntVarPost ws d out o v out' r = (ds : List Domain) → Domains ws d ds → v < length ds → Stored out o (encode_int (fold_int_var (as_constant (domain_of ds v)) v)) out' r

-- ---- Boolean expressions

pub record Reads (ni : ℕ) (ws : List ℤ) (at : ℕ) (e : BoolExpr) : Type 0 where
  pub words : Has ws at (encode_bool e)
  pub vars : Declared max_bools ni e

pub record ReadsMembers (ni : ℕ) (ws : List ℤ) (at n : ℕ) (ms : Members) : Type 0 where
  pub words : Has ws at (encode_members ms)
  pub vars : DeclaredMembers max_bools ni ms
  pub size : n ≡ count_members ms

-- an expression stands at the place, and there is room for its words above the fixed values
pub record Ready (ws : List ℤ) (d at : ℕ) (out : List ℤ) (o : ℕ) : Type 0 where
  pub ds : List Domain
  pub domains : Domains ws d ds
  pub it : BoolExpr
  pub reads : Reads (length ds) ws at it
  pub low : max_bools ≤ o
  pub room : o + length (encode_bool it) ≤ length out

pub record ReadyMembers (ws : List ℤ) (d at n : ℕ) (out : List ℤ) (o : ℕ) : Type 0 where
  pub ds : List Domain
  pub domains : Domains ws d ds
  pub them : Members
  pub reads : ReadsMembers (length ds) ws at n them
  pub low : max_bools ≤ o
  pub room : o + length (encode_members them) ≤ length out

-- what is written at o, whether it is a constant, and where reading and writing went on; nothing above the room is touched
pub record Folds (ds : List Domain) (out : List ℤ) (at o : ℕ) (e : BoolExpr) (out' : List ℤ) (next end : ℕ) (state : Option Bool) : Type 0 where
  pub nexts : next ≡ at + length (encode_bool e)
  pub states : state ≡ is_const (constant_folding_bool ds (fixed_in out) e)
  pub pushed : Pushed out o (encode_bool (constant_folding_bool ds (fixed_in out) e)) out' end
  pub above : drop (o + length (encode_bool e)) out' ≡ drop (o + length (encode_bool e)) out

-- the members that are no constant are written
pub record FoldsMembers (ds : List Domain) (out : List ℤ) (at o : ℕ) (b : Bool) (ms : Members) (out' : List ℤ) (next end : ℕ) (hit : Bool) (size : ℕ) : Type 0 where
  pub nexts : next ≡ at + length (encode_members ms)
  pub hits : hit ≡ has_const b (constant_folding_members ds (fixed_in out) ms)
  pub sizes : size ≡ count_members (kept (constant_folding_members ds (fixed_in out) ms))
  pub pushed : Pushed out o (encode_members (kept (constant_folding_members ds (fixed_in out) ms))) out' end
  pub above : drop (o + length (encode_members ms)) out' ≡ drop (o + length (encode_members ms)) out

abbrev pub FoldPost : List ℤ → ℕ → ℕ → List ℤ → ℕ → List ℤ → ℕ → ℕ → Option Bool → Type 0
FoldPost ws d at out o out' next end state = (ds : List Domain) (e : BoolExpr) → Domains ws d ds → Reads (length ds) ws at e → Folds ds out at o e out' next end state

abbrev pub MembersPost : List ℤ → ℕ → ℕ → ℕ → List ℤ → ℕ → Bool → List ℤ → ℕ → ℕ → Bool → ℕ → Type 0
MembersPost ws d at n out o b out' next end hit size = (ds : List Domain) (ms : Members) → Domains ws d ds → ReadsMembers (length ds) ws at n ms → FoldsMembers ds out at o b ms out' next end hit size

-- ---- the closing steps' words are the words of what folding makes

pub not_words : (k : Option Bool) (e : BoolExpr) → not_step k (encode_bool e) ≡ encode_bool (not_of k e)
unfolding not_step encode_bool
not_words none e = refl
not_words (some false) e = refl
not_words (some true) e = refl

pub not_state_is : (k : Option Bool) (e : BoolExpr) → not_state k ≡ is_const (not_of k e)
not_state_is none e = refl
not_state_is (some b) e = refl

join_words : (b : Bool) (ms : Members) → list_step b false (count_members ms) (encode_members ms) ≡ encode_bool (join b ms)
unfolding list_step encode_bool
join_words b mnil = rw (bit_word (not b)) refl
join_words b (more e mnil) = append-nil (encode_bool e)
join_words b (more e (more f ms)) = rw (ne_eqb (suc (suc (count_members ms))) 0 (λ h. omega arith), ne_eqb (suc (suc (count_members ms))) 1 (λ h. omega arith), list_words b (more e (more f ms))) refl

pub fold_list_words : (b : Bool) (ms : Members) → list_step b (has_const b ms) (count_members (kept ms)) (encode_members (kept ms)) ≡ encode_bool (fold_list b ms)
unfolding fold_list list_step encode_bool
fold_list_words b ms = go (has_const b ms)
  where
    go : (c : Bool) → list_step b c (count_members (kept ms)) (encode_members (kept ms)) ≡ encode_bool (cond c (Const b) (join b (kept ms)))
    go true = rw (bit_word b) refl
    go false = join_words b (kept ms)

-- the one member that is left is no constant
one_kept : (ms : Members) (e : BoolExpr) → kept ms ≡ more e mnil → is_const e ≡ none
unfolding kept
one_kept mnil e h = absurd (let z : ◌≡◌ {A = ℕ} 0 1 = ap count_members h in omega arith)
one_kept (more x ms) e h = const_or x (λ c q. one_kept ms e (rw q at h)) (λ q. let p : more x (kept ms) ≡ more e mnil = rw q at h in let z : x ≡ e = cc in cc)

list_no_const : (b : Bool) (ms : Members) → is_const (list_of b ms) ≡ none
list_no_const false ms = refl
list_no_const true ms = refl

join_state : (b : Bool) (ms : Members) → ((e : BoolExpr) → ms ≡ more e mnil → is_const e ≡ none) → list_state b false (count_members ms) ≡ is_const (join b ms)
unfolding list_state
join_state b mnil h = refl
join_state b (more e mnil) h = rw (h e refl) refl
join_state b (more e (more f ms)) h = rw (ne_eqb (suc (suc (count_members ms))) 0 (λ h. omega arith), list_no_const b (more e (more f ms))) refl

pub fold_list_state : (b : Bool) (ms : Members) → list_state b (has_const b ms) (count_members (kept ms)) ≡ is_const (fold_list b ms)
unfolding fold_list list_state
fold_list_state b ms = go (has_const b ms)
  where
    go : (c : Bool) → list_state b c (count_members (kept ms)) ≡ is_const (cond c (Const b) (join b (kept ms)))
    go true = refl
    go false = join_state b (kept ms) (one_kept ms)

pub act_words : (k : Action) (o : Op) (a b : BoolExpr) → binary_step k o (encode_bool a) (encode_bool b) ≡ encode_bool (act k o a b)
unfolding binary_step encode_bool
act_words be_false o a b = refl
act_words be_true o a b = refl
act_words left o a b = refl
act_words not_left o a b = refl
act_words right o a b = refl
act_words not_right o a b = refl
act_words keep o a b = sym (binary_words o a b)

-- where an action hands a side on, the side is no constant
binary_state_at : (o : Op) (k l : Option Bool) (a b : BoolExpr) → is_const a ≡ k → is_const b ≡ l → binary_state (action o k l) ≡ is_const (act (action o k l) o a b)
binary_state_at op_xor (some false) (some false) a b p q = refl
binary_state_at op_xor (some false) (some true) a b p q = refl
binary_state_at op_xor (some false) none a b p q = rw q refl
binary_state_at op_xor (some true) (some false) a b p q = refl
binary_state_at op_xor (some true) (some true) a b p q = refl
binary_state_at op_xor (some true) none a b p q = refl
binary_state_at op_xor none (some false) a b p q = rw p refl
binary_state_at op_xor none (some true) a b p q = refl
binary_state_at op_xor none none a b p q = refl
binary_state_at op_iff (some false) (some false) a b p q = refl
binary_state_at op_iff (some false) (some true) a b p q = refl
binary_state_at op_iff (some false) none a b p q = refl
binary_state_at op_iff (some true) (some false) a b p q = refl
binary_state_at op_iff (some true) (some true) a b p q = refl
binary_state_at op_iff (some true) none a b p q = rw q refl
binary_state_at op_iff none (some false) a b p q = refl
binary_state_at op_iff none (some true) a b p q = rw p refl
binary_state_at op_iff none none a b p q = refl
binary_state_at op_imp (some false) (some false) a b p q = refl
binary_state_at op_imp (some false) (some true) a b p q = refl
binary_state_at op_imp (some false) none a b p q = refl
binary_state_at op_imp (some true) (some false) a b p q = refl
binary_state_at op_imp (some true) (some true) a b p q = refl
binary_state_at op_imp (some true) none a b p q = rw q refl
binary_state_at op_imp none (some false) a b p q = refl
binary_state_at op_imp none (some true) a b p q = refl
binary_state_at op_imp none none a b p q = refl

pub fold_binary_state : (o : Op) (a b : BoolExpr) → binary_state (action o (is_const a) (is_const b)) ≡ is_const (fold_binary o a b)
unfolding fold_binary
fold_binary_state o a b = binary_state_at o (is_const a) (is_const b) a b refl refl

-- ---- a member

pub count_one : (k : Option Bool) (e : BoolExpr) (ms : Members) → cond (is_open k) (count_members ms + 1) (count_members ms) ≡ count_members (keep_member k e ms)
count_one none e ms = add-one (count_members ms)
count_one (some false) e ms = refl
count_one (some true) e ms = refl

keep_fewer : (k : Option Bool) (e : BoolExpr) (ms : Members) → count_members (keep_member k e ms) ≤ suc (count_members ms)
keep_fewer none e ms = omega arith
keep_fewer (some b) e ms = omega arith

pub kept_fewer : (ms : Members) → count_members (kept ms) ≤ count_members ms
unfolding kept
kept_fewer mnil = omega arith
kept_fewer (more e ms) = omega (arith, keep_fewer (is_const e) e (kept ms), kept_fewer ms)

pub members_count : (ds : List Domain) (f : Fixed) (ms : Members) → count_members (constant_folding_members ds f ms) ≡ count_members ms
unfolding constant_folding_members
members_count ds f mnil = refl
members_count ds f (more e ms) = ap suc (members_count ds f ms)
