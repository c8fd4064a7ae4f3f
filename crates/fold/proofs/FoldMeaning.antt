-- Folding keeps the assignments: an assignment that has the fixed values, and gives every integer written a value of its domain,
-- satisfies a folded expression or statement exactly if it satisfies the original.
use Rattle.std.specs.Prelude.{◌≡◌, Bool, ◌&&◌, ◌||◌, cond, ℕ, ℤ, ◌+ℤ◌, ◌*ℤ◌}
use Rattle.std.proofs.Math.Path.{refl, sym, ap}
use Rattle.std.proofs.Common.{◌∙◌}
use Rattle.std.proofs.Math.Bool.{true, false, not, and-true, or-false}
use Rattle.std.specs.Bool.{beq}
use Rattle.std.proofs.Math.Option.{Option, none, some}
use mathlib.Core.List.{List, [], ◌∷◌, map}
use Rattle.std.proofs.Math.IntN.{pos, one, +ℤ_idr, *ℤ_comm, *ℤ-one}
use Rattle.std.specs.Int.Signed.{le_z}
use Rattle.laws.specs.Bools.{and_l, and_r, ∀2, at2, beq_eq, never}
use Rattle.laws.specs.Ints.{eqZ}
use Rattle.laws.specs.Order.{eqZ_is, leZ_antisym}
use Rattle.laws.specs.Lists.{any, all}
use Rattle.syntax.specs.Syntax.{Domain, Range, Enumerative, as_constant, in_domain, domain_of, IfIsRead, IntExpr, IConst, IVar, Linear, If, Terms, tnil, tmore, BoolExpr, Const, Var, NVar, And, Or, Not, Xor, Iff, Imp, Cmp, Members, mnil, more, Cell, Stmt, Rule, Table, AllDifferent}
use Rattle.syntax.specs.Satisfies.{Val, IVal, int_value, terms_value, row_holds, holds, holds_all, holds_any, distinct, stmt_holds}
use Rattle.syntax.specs.Written.{Every, EveryMember, EveryStmt, EveryStmts, Within, EveryOf, EveryIntOf, EveryColumnOf, Any, EveryTermOf}
use Rattle.fold.specs.Fold.{Fixed, is_const, Op, op_xor, op_iff, op_imp, Action, be_false, be_true, left, not_left, right, not_right, keep, action, act, fold_binary, is_value, has_const, keep_member, kept, join_and, join_or, fold_and, fold_or, not_of, fold_not, fold_var, fold_int_var, fold_sum, fold_if, constant_folding_int as fold-int, constant_folding_terms as fold-terms, constant_folding_bool as fold, constant_folding_members as fold-members, constant_folding_stmt as fold-stmt}
use Rattle.fold.proofs.Refold.{const_or}

-- ---- integers

-- the one value of a domain is the only one in it
pub as_constant_is : (d : Domain) (c x : ℤ) → as_constant d ≡ some c → in_domain x d ≡ true → x ≡ c
as_constant_is (Range low high) c x h k = go (eqZ low high) refl h
  where
    go : (t : Bool) → eqZ low high ≡ t → cond t (some low) none ≡ some c → x ≡ c
    go true e q =
        let z : low ≡ high = eqZ_is low high e in
        let a : le_z x low ≡ true = rw (sym z) at (and_r (le_z low x) (le_z x high) k) in
        let b : low ≡ c = cc in
        leZ_antisym x low a (and_l (le_z low x) (le_z x high) k) ∙ b
    go false e q = cc
as_constant_is (Enumerative []) c x h k = cc
as_constant_is (Enumerative (y ∷ [])) c x h k =
    let b : y ≡ c = cc in
    eqZ_is x y (sym (or-false (eqZ x y)) ∙ k) ∙ b
as_constant_is (Enumerative (y ∷ z ∷ xs)) c x h k = cc

module _ (ds : List Domain) (δ : Val) (ε : IVal) (ρ : Val) where
  int_var_value : (v : ℕ) (k : Option ℤ) → as_constant (domain_of ds v) ≡ k → Within ds ε v → int_value δ ε ρ (fold_int_var k v) ≡ ε v
  unfolding int_value
  int_var_value v none h w = refl
  int_var_value v (some c) h w = sym (as_constant_is (domain_of ds v) c (ε v) h w)

  sum_value : (ts : Terms) → int_value δ ε ρ (fold_sum ts) ≡ terms_value δ ε ρ ts
  unfolding int_value one
  sum_value tnil = refl
  sum_value (tmore k e tnil) = go (eqZ k (pos 1)) refl
    where
      go : (t : Bool) → eqZ k (pos 1) ≡ t → int_value δ ε ρ (cond t e (Linear (tmore k e tnil))) ≡ k *ℤ int_value δ ε ρ e +ℤ pos 0
      go true h = rw (eqZ_is k (pos 1) h) (sym (+ℤ_idr (pos 1 *ℤ int_value δ ε ρ e) ∙ *ℤ_comm (pos 1) (int_value δ ε ρ e) ∙ *ℤ-one (int_value δ ε ρ e)))
      go false h = refl
  sum_value (tmore k e (tmore l g ts)) = refl

-- ---- Xor, Iff, Imp: the table

abbrev op_value : Op → Bool → Bool → Bool
op_value op_xor x y = not (beq x y)
op_value op_iff x y = beq x y
op_value op_imp x y = not x || y

abbrev act_value : Action → Op → Bool → Bool → Bool
act_value be_false o x y = false
act_value be_true o x y = true
act_value left o x y = x
act_value not_left o x y = not x
act_value right o x y = y
act_value not_right o x y = not y
act_value keep o x y = op_value o x y

-- a side's value, as far as it is known
abbrev seen : Option Bool → Bool → Bool
seen none x = x
seen (some b) x = b

-- every entry of the table at once
abbrev ∀k : (Option Bool → Bool) → Bool
∀k f = f none && (f (some false) && f (some true))

at_k : (f : Option Bool → Bool) → ∀k f ≡ true → (k : Option Bool) → f k ≡ true
at_k f h none = and_l _ _ h
at_k f h (some false) = and_l _ _ (and_r (f none) _ h)
at_k f h (some true) = and_r (f (some false)) _ (and_r (f none) _ h)

abbrev entry : Op → Option Bool → Option Bool → Bool → Bool → Bool
entry o k l x y = beq (act_value (action o k l) o (seen k x) (seen l y)) (op_value o (seen k x) (seen l y))

table : (o : Op) → ∀k (λ k. ∀k (λ l. ∀2 (entry o k l))) ≡ true
table op_xor = refl
table op_iff = refl
table op_imp = refl

table_at : (o : Op) (k l : Option Bool) (x y : Bool) → act_value (action o k l) o (seen k x) (seen l y) ≡ op_value o (seen k x) (seen l y)
table_at o k l x y = beq_eq _ _ (at2 (entry o k l) (at_k (λ l. ∀2 (entry o k l)) (at_k (λ k. ∀k (λ l. ∀2 (entry o k l))) (table o) k) l) x y)

-- ---- members

module _ (δ : Val) (ε : IVal) (ρ : Val) where
  -- what a constant is
  known : (e : BoolExpr) → seen (is_const e) (holds δ ε ρ e) ≡ holds δ ε ρ e
  unfolding holds
  known e = const_or e (λ b q. rw q refl) (λ q. rw q refl)

  act_holds : (a : Action) (o : Op) (x y : BoolExpr) → holds δ ε ρ (act a o x y) ≡ act_value a o (holds δ ε ρ x) (holds δ ε ρ y)
  unfolding holds
  act_holds be_false o x y = refl
  act_holds be_true o x y = refl
  act_holds left o x y = refl
  act_holds not_left o x y = refl
  act_holds right o x y = refl
  act_holds not_right o x y = refl
  act_holds keep op_xor x y = refl
  act_holds keep op_iff x y = refl
  act_holds keep op_imp x y = refl

  binary_holds : (o : Op) (a b : BoolExpr) → holds δ ε ρ (fold_binary o a b) ≡ op_value o (holds δ ε ρ a) (holds δ ε ρ b)
  unfolding fold_binary
  binary_holds o a b =
      let t = table_at o (is_const a) (is_const b) (holds δ ε ρ a) (holds δ ε ρ b) in
      act_holds (action o (is_const a) (is_const b)) o a b ∙ (rw (known a, known b) at t)

  join_and_holds : (ms : Members) → holds δ ε ρ (join_and ms) ≡ holds_all δ ε ρ ms
  unfolding holds
  join_and_holds mnil = refl
  join_and_holds (more e mnil) = sym (and-true (holds δ ε ρ e))
  join_and_holds (more e (more e' ms)) = refl

  join_or_holds : (ms : Members) → holds δ ε ρ (join_or ms) ≡ holds_any δ ε ρ ms
  unfolding holds
  join_or_holds mnil = refl
  join_or_holds (more e mnil) = sym (or-false (holds δ ε ρ e))
  join_or_holds (more e (more e' ms)) = refl

  -- a step of `has_const` and `kept`, by what is known of the member
  all_has : (k : Option Bool) (x A : Bool) (f : Bool) → (f ≡ true → A ≡ false) → is_value false k || f ≡ true → seen k x && A ≡ false
  all_has none true A f p h = p h
  all_has none false A f p h = refl
  all_has (some false) x A f p h = refl
  all_has (some true) x A f p h = p h

  has_all : (ms : Members) → has_const false ms ≡ true → holds_all δ ε ρ ms ≡ false
  unfolding has_const holds
  has_all mnil h = sym h
  has_all (more e ms) h = rw (known e) at (all_has (is_const e) (holds δ ε ρ e) (holds_all δ ε ρ ms) (has_const false ms) (has_all ms) h)

  all_kept : (k : Option Bool) (e : BoolExpr) (ms : Members) (A : Bool) (f : Bool) → (f ≡ false → holds_all δ ε ρ ms ≡ A) → is_value false k || f ≡ false → holds_all δ ε ρ (keep_member k e ms) ≡ seen k (holds δ ε ρ e) && A
  unfolding holds
  all_kept none e ms A f p h = ap (λ (x : Bool). holds δ ε ρ e && x) (p h)
  all_kept (some false) e ms A f p h = never (sym h)
  all_kept (some true) e ms A f p h = p h

  kept_all : (ms : Members) → has_const false ms ≡ false → holds_all δ ε ρ (kept ms) ≡ holds_all δ ε ρ ms
  unfolding has_const kept holds
  kept_all mnil h = refl
  kept_all (more e ms) h = rw (known e) at (all_kept (is_const e) e (kept ms) (holds_all δ ε ρ ms) (has_const false ms) (kept_all ms) h)

  any_has : (k : Option Bool) (x A : Bool) (f : Bool) → (f ≡ true → A ≡ true) → is_value true k || f ≡ true → seen k x || A ≡ true
  any_has none true A f p h = refl
  any_has none false A f p h = p h
  any_has (some true) x A f p h = refl
  any_has (some false) x A f p h = p h

  has_any : (ms : Members) → has_const true ms ≡ true → holds_any δ ε ρ ms ≡ true
  unfolding has_const holds
  has_any mnil h = h
  has_any (more e ms) h = rw (known e) at (any_has (is_const e) (holds δ ε ρ e) (holds_any δ ε ρ ms) (has_const true ms) (has_any ms) h)

  any_kept : (k : Option Bool) (e : BoolExpr) (ms : Members) (A : Bool) (f : Bool) → (f ≡ false → holds_any δ ε ρ ms ≡ A) → is_value true k || f ≡ false → holds_any δ ε ρ (keep_member k e ms) ≡ seen k (holds δ ε ρ e) || A
  unfolding holds
  any_kept none e ms A f p h = ap (λ (x : Bool). holds δ ε ρ e || x) (p h)
  any_kept (some true) e ms A f p h = never (sym h)
  any_kept (some false) e ms A f p h = p h

  kept_any : (ms : Members) → has_const true ms ≡ false → holds_any δ ε ρ (kept ms) ≡ holds_any δ ε ρ ms
  unfolding has_const kept holds
  kept_any mnil h = refl
  kept_any (more e ms) h = rw (known e) at (any_kept (is_const e) e (kept ms) (holds_any δ ε ρ ms) (has_const true ms) (kept_any ms) h)

  and_holds : (ms : Members) → holds δ ε ρ (fold_and ms) ≡ holds_all δ ε ρ ms
  unfolding fold_and holds
  and_holds ms = go (has_const false ms) refl
    where
      go : (c : Bool) → has_const false ms ≡ c → holds δ ε ρ (cond c (Const false) (join_and (kept ms))) ≡ holds_all δ ε ρ ms
      go true h = sym (has_all ms h)
      go false h = join_and_holds (kept ms) ∙ kept_all ms h

  or_holds : (ms : Members) → holds δ ε ρ (fold_or ms) ≡ holds_any δ ε ρ ms
  unfolding fold_or holds
  or_holds ms = go (has_const true ms) refl
    where
      go : (c : Bool) → has_const true ms ≡ c → holds δ ε ρ (cond c (Const true) (join_or (kept ms))) ≡ holds_any δ ε ρ ms
      go true h = sym (has_any ms h)
      go false h = join_or_holds (kept ms) ∙ kept_any ms h

  not_holds : (k : Option Bool) (e : BoolExpr) → seen k (holds δ ε ρ e) ≡ holds δ ε ρ e → holds δ ε ρ (not_of k e) ≡ not (holds δ ε ρ e)
  unfolding holds
  not_holds none e h = refl
  not_holds (some b) e h = ap not h

  if_value : (k : Option Bool) (i : IfIsRead) (c : BoolExpr) (t e : IntExpr) → seen k (holds δ ε ρ c) ≡ holds δ ε ρ c → int_value δ ε ρ (fold_if k i c t e) ≡ cond (holds δ ε ρ c) (int_value δ ε ρ t) (int_value δ ε ρ e)
  unfolding int_value
  if_value none i c t e h = refl
  if_value (some true) i c t e h = rw (← h) refl
  if_value (some false) i c t e h = rw (← h) refl

-- ---- expressions and statements

-- the assignment has the fixed values
abbrev pub Agrees : Val → Fixed → Type 0
Agrees δ f = (v : ℕ) (b : Bool) → f v ≡ some b → δ v ≡ b

module _ (ds : List Domain) (f : Fixed) (δ : Val) (ε : IVal) (ρ : Val) (agrees : Agrees δ f) where
  var_holds : (k : Option Bool) (v : ℕ) → f v ≡ k → holds δ ε ρ (fold_var k v) ≡ δ v
  unfolding holds
  var_holds none v h = refl
  var_holds (some b) v h = sym (agrees v b h)

  module _ (P : ℕ → Type 0) where
    mutual
      unfolding fold holds fold_not EveryOf

      pub fold_int_value : (e : IntExpr) → EveryIntOf Any P (Within ds ε) e → int_value δ ε ρ (fold-int ds f e) ≡ int_value δ ε ρ e
      fold_int_value (IConst c) w = refl
      fold_int_value (IVar v) w = int_var_value ds δ ε ρ v (as_constant (domain_of ds v)) refl w
      fold_int_value (Linear ts) w = sum_value ds δ ε ρ (fold-terms ds f ts) ∙ fold_terms_value ts w
      fold_int_value (If i c t e) w =
          if_value δ ε ρ (is_const (fold ds f c)) i (fold ds f c) (fold-int ds f t) (fold-int ds f e) (known δ ε ρ (fold ds f c)) ∙ rw (fold_holds c w.0, fold_int_value t w.1.0, fold_int_value e w.1.1) refl

      fold_terms_value : (ts : Terms) → EveryTermOf Any P (Within ds ε) ts → terms_value δ ε ρ (fold-terms ds f ts) ≡ terms_value δ ε ρ ts
      fold_terms_value tnil w = refl
      fold_terms_value (tmore k e ts) w = rw (fold_int_value e w.0, fold_terms_value ts w.1) refl

      pub fold_holds : (e : BoolExpr) → Every P (Within ds ε) e → holds δ ε ρ (fold ds f e) ≡ holds δ ε ρ e
      fold_holds (Const b) w = refl
      fold_holds (Var v) w = var_holds (f v) v refl
      fold_holds (NVar n) w = refl
      fold_holds (And ms) w = and_holds δ ε ρ (fold-members ds f ms) ∙ fold_members_all ms w
      fold_holds (Or ms) w = or_holds δ ε ρ (fold-members ds f ms) ∙ fold_members_any ms w
      fold_holds (Not e) w = not_holds δ ε ρ (is_const (fold ds f e)) (fold ds f e) (known δ ε ρ (fold ds f e)) ∙ ap not (fold_holds e w)
      fold_holds (Xor a b) w = binary_holds δ ε ρ op_xor (fold ds f a) (fold ds f b) ∙ rw (fold_holds a w.0, fold_holds b w.1) refl
      fold_holds (Iff a b) w = binary_holds δ ε ρ op_iff (fold ds f a) (fold ds f b) ∙ rw (fold_holds a w.0, fold_holds b w.1) refl
      fold_holds (Imp a b) w = binary_holds δ ε ρ op_imp (fold ds f a) (fold ds f b) ∙ rw (fold_holds a w.0, fold_holds b w.1) refl
      fold_holds (Cmp o a b) w = rw (fold_int_value a w.0, fold_int_value b w.1) refl

      pub fold_members_all : (ms : Members) → EveryMember P (Within ds ε) ms → holds_all δ ε ρ (fold-members ds f ms) ≡ holds_all δ ε ρ ms
      fold_members_all mnil w = refl
      fold_members_all (more e ms) w = rw (fold_holds e w.0, fold_members_all ms w.1) refl

      pub fold_members_any : (ms : Members) → EveryMember P (Within ds ε) ms → holds_any δ ε ρ (fold-members ds f ms) ≡ holds_any δ ε ρ ms
      fold_members_any mnil w = refl
      fold_members_any (more e ms) w = rw (fold_holds e w.0, fold_members_any ms w.1) refl

    fold_row : (es : List IntExpr) (cs : List Cell) → EveryColumnOf Any P (Within ds ε) es → row_holds δ ε ρ (map (fold-int ds f) es) cs ≡ row_holds δ ε ρ es cs
    unfolding EveryColumnOf
    fold_row [] cs h = refl
    fold_row (e ∷ es) [] h = refl
    fold_row (e ∷ es) (c ∷ cs) h = rw (fold_int_value e h.0, fold_row es cs h.1) refl

    fold_values : (es : List IntExpr) → EveryColumnOf Any P (Within ds ε) es → map (int_value δ ε ρ) (map (fold-int ds f) es) ≡ map (int_value δ ε ρ) es
    unfolding EveryColumnOf
    fold_values [] h = refl
    fold_values (e ∷ es) h = rw (fold_int_value e h.0, fold_values es h.1) refl

    fold_rows : (es : List IntExpr) (rows : List (List Cell)) → EveryColumnOf Any P (Within ds ε) es → any (row_holds δ ε ρ (map (fold-int ds f) es)) rows ≡ any (row_holds δ ε ρ es) rows
    fold_rows es [] h = refl
    fold_rows es (r ∷ rows) h = rw (fold_row es r h, fold_rows es rows h) refl

    pub fold_stmt_holds : (s : Stmt) → EveryStmt P (Within ds ε) s → stmt_holds δ ε ρ (fold-stmt ds f s) ≡ stmt_holds δ ε ρ s
    unfolding fold-stmt stmt_holds EveryStmt
    fold_stmt_holds (Rule e) w = fold_holds e w
    fold_stmt_holds (Table es rows) w = fold_rows es rows w
    fold_stmt_holds (AllDifferent es) w = ap distinct (fold_values es w)

    pub fold_stmts_hold : (ss : List Stmt) → EveryStmts P (Within ds ε) ss → all (stmt_holds δ ε ρ) (map (fold-stmt ds f) ss) ≡ all (stmt_holds δ ε ρ) ss
    unfolding EveryStmts
    fold_stmts_hold [] w = refl
    fold_stmts_hold (s ∷ ss) w = rw (fold_stmt_holds s w.0, fold_stmts_hold ss w.1) refl
