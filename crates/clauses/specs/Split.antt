-- Splitting of nested Xor and Iff (tseitin_transformation_bool, tseitin_transformation_int), and the clauses of a whole rule.
use Rattle.std.specs.Prelude.{Bool, true, false, List, [], ◌∷◌, ◌++◌, suc}
use Rattle.syntax.specs.Syntax.{Domain, IntExpr, IConst, IVar, Linear, If, Terms, tnil, tmore, BoolExpr, Const, Var, NVar, And, Or, Not, Xor, Iff, Imp, Cmp, Members, mnil, more}
use Rattle.clauses.specs.Log.{Log, bool, next_bool, side}
use Rattle.clauses.specs.Normalize.{register, normalize_bool_expr}

-- ---- splitting

-- a rewritten expression, the extras, the log
pub record Split (A : Type 0) : Type 0 where
  pub result : A
  pub extra : List BoolExpr
  pub log : Log

abbrev pub Splitter : Type 0 → Type 0
Splitter A = Log → Split A

unfoldable pub unsplit : {A : Type 0} → A → Splitter A
unsplit x s = record { result = x; extra = []; log = s }

unfoldable pub split_one : {A B : Type 0} → (A → B) → Splitter A → Splitter B
split_one f p s = let a = p s in record { result = f a.result; extra = a.extra; log = a.log }

-- left, then right
unfoldable pub split_two : {A B C : Type 0} → (A → B → C) → Splitter A → Splitter B → Splitter C
split_two f p q s =
    let a = p s in
    let b = q a.log in
    record { result = f a.result b.result; extra = a.extra ++ b.extra; log = b.log }

unfoldable pub split_three : {A B C D : Type 0} → (A → B → C → D) → Splitter A → Splitter B → Splitter C → Splitter D
split_three f p q r s =
    let a = p s in
    let b = q a.log in
    let c = r b.log in
    record { result = f a.result b.result c.result; extra = a.extra ++ (b.extra ++ c.extra); log = c.log }

-- two new variables, for left then right, and an Iff tying each to its side
unfoldable pub split_sides : (BoolExpr → BoolExpr → BoolExpr) → BoolExpr → BoolExpr → Splitter BoolExpr → Splitter BoolExpr → Splitter BoolExpr
split_sides f x y p q s =
    let v = next_bool s in
    let a = p (bool (side y) ∷ bool (side x) ∷ s) in
    let b = q a.log in
    record { result = f (NVar v) (NVar (suc v)); extra = (a.extra ++ (Iff a.result (NVar v) ∷ [])) ++ (b.extra ++ (Iff b.result (NVar (suc v)) ∷ [])); log = b.log }

-- the Bool says whether an Xor, an Iff or an If stands above
unfoldable mutual
  pub tseitin_transformation_bool : BoolExpr → Bool → Splitter BoolExpr
  tseitin_transformation_bool (Const b) t = unsplit (Const b)
  tseitin_transformation_bool (Var v) t = unsplit (Var v)
  tseitin_transformation_bool (NVar n) t = unsplit (NVar n)
  tseitin_transformation_bool (And ms) t = split_one And (tseitin_transformation_members ms t)
  tseitin_transformation_bool (Or ms) t = split_one Or (tseitin_transformation_members ms t)
  tseitin_transformation_bool (Not e) t = split_one Not (tseitin_transformation_bool e t)
  tseitin_transformation_bool (Xor a b) true = split_sides Xor a b (tseitin_transformation_bool a true) (tseitin_transformation_bool b true)
  tseitin_transformation_bool (Xor a b) false = split_two Xor (tseitin_transformation_bool a true) (tseitin_transformation_bool b true)
  tseitin_transformation_bool (Iff a b) true = split_sides Iff a b (tseitin_transformation_bool a true) (tseitin_transformation_bool b true)
  tseitin_transformation_bool (Iff a b) false = split_two Iff (tseitin_transformation_bool a true) (tseitin_transformation_bool b true)
  tseitin_transformation_bool (Imp a b) t = split_two Imp (tseitin_transformation_bool a t) (tseitin_transformation_bool b t)
  tseitin_transformation_bool (Cmp o a b) t = split_two (Cmp o) (tseitin_transformation_int a) (tseitin_transformation_int b)

  pub tseitin_transformation_members : Members → Bool → Splitter Members
  tseitin_transformation_members mnil t = unsplit mnil
  tseitin_transformation_members (more e ms) t = split_two more (tseitin_transformation_bool e t) (tseitin_transformation_members ms t)

  pub tseitin_transformation_int : IntExpr → Splitter IntExpr
  tseitin_transformation_int (IConst c) = unsplit (IConst c)
  tseitin_transformation_int (IVar v) = unsplit (IVar v)
  tseitin_transformation_int (Linear ts) = split_one Linear (tseitin_transformation_terms ts)
  tseitin_transformation_int (If i c t f) = split_three (If i) (tseitin_transformation_bool c true) (tseitin_transformation_int t) (tseitin_transformation_int f)

  pub tseitin_transformation_terms : Terms → Splitter Terms
  tseitin_transformation_terms tnil = unsplit tnil
  tseitin_transformation_terms (tmore k e ts) = split_two (tmore k) (tseitin_transformation_int e) (tseitin_transformation_terms ts)

-- ---- normalize_and_register_expr

module _ (ds : List Domain) where
  -- of each, what its Ifs add, then its clauses
  unfoldable pub register_each : List BoolExpr → Log → Log
  register_each [] s = s
  register_each (e ∷ es) s = register_each es (register (normalize_bool_expr ds e false s))

  unfoldable pub normalize_and_register_expr : BoolExpr → Log → Log
  normalize_and_register_expr e s =
      let c = tseitin_transformation_bool e false s in
      register_each (c.extra ++ (c.result ∷ [])) c.log
