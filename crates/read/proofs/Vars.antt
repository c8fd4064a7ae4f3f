-- What reading accepts writes declared variables only and no emitted number (so whatever N asks of those holds), and its rows are as wide as their tables.
use mathlib.Core.List.{List, [], ◌∷◌}
use Rattle.std.specs.Prelude.{ℕ, ◌-◌, ◌<◌}
use Rattle.syntax.specs.Syntax.{IntExpr, IConst, IVar, Linear, If, Terms, tnil, tmore, BoolExpr, Const, Var, NVar, And, Or, Not, Xor, Iff, Imp, Cmp, Members, mnil, more, Cell}
use Rattle.syntax.specs.Written.{EveryIntOf, EveryTermOf, EveryColumnOf, EveryOf, EveryMemberOf}
use Rattle.syntax.specs.Lengths.{Wide}
use Rattle.words.specs.Exact.{Each}
use Rattle.read.specs.WellFormed.{WellInt, WellTerms, WellBool, WellMembers, WellRow}

-- P: what is asked of a declared Boolean
module _ (N P : ℕ → Type 0) (nb ni : ℕ) (declared : (v : ℕ) → v < nb → P v) where
  mutual
    unfolding WellInt EveryIntOf

    int_vars : (left : ℕ) (e : IntExpr) → WellInt nb ni left e → EveryIntOf N P (λ v. v < ni) e
    int_vars left (IConst c) h = tt
    int_vars left (IVar v) h = h.1
    int_vars left (Linear ts) h = terms_vars (left - 1) ts h.2
    int_vars left (If i c t f) h = (bool_vars (left - 1) c h.1, (int_vars (left - 1) t h.2, int_vars (left - 1) f h.3))

    terms_vars : (left : ℕ) (ts : Terms) → WellTerms nb ni left ts → EveryTermOf N P (λ v. v < ni) ts
    terms_vars left tnil h = tt
    terms_vars left (tmore k e ts) h = (int_vars left e h.1, terms_vars left ts h.2)

    pub bool_vars : (left : ℕ) (e : BoolExpr) → WellBool nb ni left e → EveryOf N P (λ v. v < ni) e
    bool_vars left (Const b) h = tt
    bool_vars left (Var v) h = declared v h.1
    bool_vars left (NVar n) h = absurd h
    bool_vars left (And ms) h = members_vars (left - 1) ms h.2
    bool_vars left (Or ms) h = members_vars (left - 1) ms h.2
    bool_vars left (Not e) h = bool_vars (left - 1) e h.1
    bool_vars left (Xor a b) h = (bool_vars (left - 1) a h.1, bool_vars (left - 1) b h.2)
    bool_vars left (Iff a b) h = (bool_vars (left - 1) a h.1, bool_vars (left - 1) b h.2)
    bool_vars left (Imp a b) h = (bool_vars (left - 1) a h.1, bool_vars (left - 1) b h.2)
    bool_vars left (Cmp o a b) h = (int_vars (left - 1) a h.1, int_vars (left - 1) b h.2)

    members_vars : (left : ℕ) (ms : Members) → WellMembers nb ni left ms → EveryMemberOf N P (λ v. v < ni) ms
    members_vars left mnil h = tt
    members_vars left (more e ms) h = (bool_vars left e h.0, members_vars left ms h.1)

  pub columns_vars : (left : ℕ) (es : List IntExpr) → Each (WellInt nb ni left) es → EveryColumnOf N P (λ v. v < ni) es
  unfolding EveryColumnOf
  columns_vars left [] h = tt
  columns_vars left (e ∷ es) h = (int_vars left e h.0, columns_vars left es h.1)

pub rows_wide : (n : ℕ) (rows : List (List Cell)) → Each (WellRow n) rows → Wide n rows
unfolding Wide
rows_wide n [] h = tt
rows_wide n (r ∷ rows) h = (h.0.0, rows_wide n rows h.1)
