-- The levels of an expression, its own being 1 (document 01 allows 64): members, sides, terms and leaves are one deeper.
use Rattle.std.specs.Prelude.{ℕ, suc, max}
use Rattle.syntax.specs.Syntax.{IntExpr, IConst, IVar, Linear, If, Terms, tnil, tmore, BoolExpr, Const, Var, NVar, And, Or, Not, Xor, Iff, Imp, Cmp, Members, mnil, more}

unfoldable mutual
  pub depth_int : IntExpr → ℕ
  depth_int (IConst c) = 1
  depth_int (IVar v) = 1
  depth_int (Linear ts) = suc (depth_terms ts)
  depth_int (If i c t f) = suc (max (depth c) (max (depth_int t) (depth_int f)))

  pub depth_terms : Terms → ℕ
  depth_terms tnil = 0
  depth_terms (tmore k e ts) = max (depth_int e) (depth_terms ts)

  pub depth : BoolExpr → ℕ
  depth (Const b) = 1
  depth (Var v) = 1
  depth (NVar n) = 1
  depth (And ms) = suc (depth_members ms)
  depth (Or ms) = suc (depth_members ms)
  depth (Not e) = suc (depth e)
  depth (Xor a b) = suc (max (depth a) (depth b))
  depth (Iff a b) = suc (max (depth a) (depth b))
  depth (Imp a b) = suc (max (depth a) (depth b))
  depth (Cmp o a b) = suc (max (depth_int a) (depth_int b))

  pub depth_members : Members → ℕ
  depth_members mnil = 0
  depth_members (more e ms) = max (depth e) (depth_members ms)
