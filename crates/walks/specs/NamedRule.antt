-- A rule keeps a log named, whatever it splits; a log without integers and Ifs is named.
use Rattle.std.proofs.Math.Path.{◌≡◌, sym}
use Rattle.std.specs.Prelude.{refl, Bool, true, ℕ}
use Rattle.std.proofs.Common.{◌∙◌, arith}
use Rattle.std.proofs.Math.Bool.{false}
use Rattle.std.proofs.Math.Option.{none, some}
use mathlib.Core.List.{List, [], ◌∷◌, ◌++◌}
use Rattle.laws.specs.Ints.{apart}
use Rattle.laws.specs.Same.{same_refl}
use Rattle.syntax.specs.Syntax.{Domain, IntExpr, IConst, IVar, Linear, If, Terms, tnil, tmore, BoolExpr, Const, Var, NVar, And, Or, Not, Xor, Iff, Imp, Cmp, Members, mnil, more, encode_int}
use Rattle.clauses.specs.Log.{MadeBool, side, bool, merged, int, added, defined, known, Log, next_int, get_if}
use Rattle.clauses.specs.Normalize.{register, normalize_bool_expr}
use Rattle.clauses.specs.Split.{Split, unsplit, split_one, split_two, split_three, split_sides, tseitin_transformation_bool, tseitin_transformation_members, tseitin_transformation_int, tseitin_transformation_terms, register_each, normalize_and_register_expr}
use Rattle.walks.specs.Kept.{Kept, kept_same, kept_more, kept_then}
use Rattle.walks.specs.Constant.{OpenIf, Named, bool_kept}

-- ---- splitting makes Booleans only: what each keeps, it keeps

module _ (K : Log → Type 0) (step : (m : MadeBool) (s : Log) → K s → K (bool m ∷ s)) where
  mutual
    unfolding tseitin_transformation_bool unsplit split_one split_two split_three split_sides

    pub split_keeps : (e : BoolExpr) (t : Bool) (s : Log) → K s → K (tseitin_transformation_bool e t s).log
    split_keeps (Const b) t s k = k
    split_keeps (Var v) t s k = k
    split_keeps (NVar n) t s k = k
    split_keeps (And ms) t s k = split_members_keeps ms t s k
    split_keeps (Or ms) t s k = split_members_keeps ms t s k
    split_keeps (Not e) t s k = split_keeps e t s k
    split_keeps (Xor a b) true s k = split_keeps b true _ (split_keeps a true _ (step (side b) _ (step (side a) s k)))
    split_keeps (Xor a b) false s k = split_keeps b true _ (split_keeps a true s k)
    split_keeps (Iff a b) true s k = split_keeps b true _ (split_keeps a true _ (step (side b) _ (step (side a) s k)))
    split_keeps (Iff a b) false s k = split_keeps b true _ (split_keeps a true s k)
    split_keeps (Imp a b) t s k = split_keeps b t _ (split_keeps a t s k)
    split_keeps (Cmp o a b) t s k = split_int_keeps b _ (split_int_keeps a s k)

    split_members_keeps : (ms : Members) (t : Bool) (s : Log) → K s → K (tseitin_transformation_members ms t s).log
    split_members_keeps mnil t s k = k
    split_members_keeps (more e ms) t s k = split_members_keeps ms t _ (split_keeps e t s k)

    split_int_keeps : (e : IntExpr) (s : Log) → K s → K (tseitin_transformation_int e s).log
    split_int_keeps (IConst c) s k = k
    split_int_keeps (IVar v) s k = k
    split_int_keeps (Linear ts) s k = split_terms_keeps ts s k
    split_int_keeps (If i c t f) s k = split_int_keeps f _ (split_int_keeps t _ (split_keeps c true s k))

    split_terms_keeps : (ts : Terms) (s : Log) → K s → K (tseitin_transformation_terms ts s).log
    split_terms_keeps tnil s k = k
    split_terms_keeps (tmore c e ts) s k = split_terms_keeps ts _ (split_int_keeps e s k)

module _ (ds : List Domain) where
  abbrev Keep : Log → Log → Type 0
  Keep s t = Kept (OpenIf ds) s t

  -- ---- the clauses of each are added

  pub each_kept : (es : List BoolExpr) (s : Log) → Named ds s → Keep s (register_each ds es s)
  unfolding register_each register
  each_kept [] s n = kept_same (OpenIf ds) n
  each_kept (e ∷ es) s n =
      let k : Keep s (register (normalize_bool_expr ds e false s)) = kept_more (OpenIf ds) (added (normalize_bool_expr ds e false s).0) tt (bool_kept ds e false s n) in
      kept_then (OpenIf ds) k (each_kept es (register (normalize_bool_expr ds e false s)) k.named)

  pub rule_kept : (e : BoolExpr) (s : Log) → Named ds s → Keep s (normalize_and_register_expr ds e s)
  unfolding normalize_and_register_expr
  rule_kept e s n =
      let c : Split BoolExpr = tseitin_transformation_bool e false s in
      let k : Keep s c.log = split_keeps (Keep s) (λ m t h. kept_more (OpenIf ds) (bool m) tt h) e false s (kept_same (OpenIf ds) n) in
      kept_then (OpenIf ds) k (each_kept (c.extra ++ (c.result ∷ [])) c.log k.named)

  -- ---- at the start

  pub start_named : (s : Log) → next_int s ≡ 0 → ((e : IntExpr) → get_if e s ≡ none) → Named ds s
  unfolding get_if
  start_named [] z f = tt
  start_named (bool m ∷ s) z f = (tt, start_named s z f)
  start_named (merged v w g ∷ s) z f = (tt, start_named s z f)
  start_named (int m ∷ s) z f = absurd (omega arith)
  start_named (added cs ∷ s) z f = (tt, start_named s z f)
  start_named (defined cs ∷ s) z f = (tt, start_named s z f)
  start_named (known e v ∷ s) z f = let h : some v ≡ none = sym (rw (same_refl (encode_int e)) refl) ∙ f e in let z : ◌≡◌ {A = ℕ} 0 1 = cc in apart z
