-- An If is not made inside its own condition or branches: a visit leaves unknown every If that has more words than what is visited.
-- So the Rust's assertion on `int_expr_equivalence.insert` holds (`once`), and a number found once is found ever after.
use Rattle.std.proofs.Math.Path.{◌≡◌, refl}
use Rattle.std.proofs.Common.{◌∙◌, arith, length-append}
use Rattle.std.specs.Prelude.{Bool, not, ◌&&◌, cond, ℕ, ◌<◌, ◌+◌, ℤ, pos, length}
use Rattle.std.proofs.Math.Bool.{true, false}
use Rattle.std.proofs.Math.Option.{Option, none, some}
use mathlib.Core.List.{List, [], ◌∷◌, ◌++◌}
use Rattle.laws.specs.Ints.{eqZ}
use Rattle.laws.specs.Same.{same_words}
use Rattle.syntax.specs.Syntax.{IfIsRead, Domain, IntExpr, IConst, IVar, Linear, If, Terms, tnil, tmore, BoolExpr, Const, Var, NVar, And, Or, Not, Xor, Iff, Imp, Cmp, Members, mnil, more, encode_int, encode_terms, encode_bool, encode_members}
use Rattle.sums.specs.LinearSum.{LinearSum, constant, add_sum, mul_sum, is_constant}
use Rattle.sums.specs.Rising.{constant_of}
use Rattle.clauses.specs.Clause.{BoolLit, LinearLit, lit, Clause}
use Rattle.clauses.specs.Log.{Log, get_bool_var, get_int_var, get_if, bool_var_at, int_var_at, convert_bool_var, convert_int_var, next_bool, side, bool, aux}
use Rattle.clauses.specs.Disjunction.{Sorted, satisfied, pool, sorted, each_longer, finish_disjunction, finish_sorted, normalize_disjunction}
use Rattle.clauses.specs.Normalize.{IntOut, IntRun, normalize_int_var, normalize_term, normalize_int_expr, normalize_terms, Run, Runs, define, no_run, run_then, two, normalize_conjunction, disjunction_of, cross, normalize_num, normalize_var, normalize_comparison, normalize_bool_expr, normalize_members, own_literal, condition_literal, if_constant, if_open, normalize_if}

shorter : (xs ys : List ℤ) → length ys < length xs → same_words xs ys ≡ false
unfolding same_words
shorter [] [] h = absurd (omega arith)
shorter [] (y ∷ ys) h = refl
shorter (x ∷ xs) [] h = refl
shorter (x ∷ xs) (y ∷ ys) h = go (eqZ x y) (shorter xs ys (omega arith))
  where
    go : (b : Bool) → same_words xs ys ≡ false → b && same_words xs ys ≡ false
    go true k = k
    go false k = refl

module _ (ds : List Domain) (e : IntExpr) where
  abbrev Stays : Log → Log → Type 0
  Stays s t = get_if e t ≡ get_if e s

  abbrev RunStays : Run → Type 0
  RunStays r = (s : Log) → Stays s (r s).1

  abbrev RunsStay : Runs → Type 0
  RunsStay r = (s : Log) → Stays s (r s).1

  abbrev IntStays : IntRun → Type 0
  IntStays r = (s : Log) → Stays s (r s).1

  -- ---- disjunctions make Booleans only

  each_stays : (css : List (List Clause)) (ls : List BoolLit) (ks : List LinearLit) (s : Log) → Stays s (each_longer css ls ks s).1
  unfolding each_longer get_if
  each_stays [] ls ks s = refl
  each_stays (cs ∷ css) ls ks s = each_stays css (ls ++ (lit (next_bool s) false ∷ [])) ks (bool (aux cs) ∷ s)

  finish_stays : (css : List (List Clause)) (ls : List BoolLit) (ks : List LinearLit) (s : Log) → Stays s (finish_disjunction css ls ks s).1
  unfolding finish_disjunction get_if
  finish_stays [] ls ks s = each_stays [] ls ks s
  finish_stays (a ∷ []) [] [] s = refl
  finish_stays (a ∷ []) (l ∷ []) [] s = refl
  finish_stays (a ∷ []) (l ∷ m ∷ ls) [] s = each_stays (a ∷ []) (l ∷ m ∷ ls) [] s
  finish_stays (a ∷ []) ls (k ∷ ks) s = each_stays (a ∷ []) ls (k ∷ ks) s
  finish_stays (a ∷ b ∷ []) [] [] s = refl
  finish_stays (a ∷ b ∷ []) [] (k ∷ ks) s = each_stays (a ∷ b ∷ []) [] (k ∷ ks) s
  finish_stays (a ∷ b ∷ []) (l ∷ ls) ks s = each_stays (a ∷ b ∷ []) (l ∷ ls) ks s
  finish_stays (a ∷ b ∷ c ∷ css) ls ks s = each_stays (a ∷ b ∷ c ∷ css) ls ks s

  sorted_stays : (x : Sorted) (s : Log) → Stays s (finish_sorted x s).1
  unfolding finish_sorted
  sorted_stays satisfied s = refl
  sorted_stays (pool ls ks longer) s = finish_stays longer ls ks s

  disjunction_stays : (css : List (List Clause)) (s : Log) → Stays s (normalize_disjunction css s).1
  unfolding normalize_disjunction
  disjunction_stays [] s = refl
  disjunction_stays (cs ∷ []) s = refl
  disjunction_stays (cs ∷ cs' ∷ css) s = sorted_stays (sorted (cs ∷ cs' ∷ css)) s

  -- ---- runs

  no_run_stays : RunsStay no_run
  unfolding no_run
  no_run_stays s = refl

  run_then_stays : (r : Run) (rs : Runs) → RunStays r → RunsStay rs → RunsStay (run_then r rs)
  unfolding run_then
  run_then_stays r rs p q s = q (r s).1 ∙ p s

  two_stay : (a b : Run) → RunStays a → RunStays b → RunsStay (two a b)
  two_stay a b p q = run_then_stays a (run_then b no_run) p (run_then_stays b no_run q no_run_stays)

  conjunction_stays : (rs : Runs) → RunsStay rs → RunStays (normalize_conjunction rs)
  unfolding normalize_conjunction
  conjunction_stays rs p s = p s

  disjunction_of_stays : (rs : Runs) → RunsStay rs → RunStays (disjunction_of rs)
  unfolding disjunction_of
  disjunction_of_stays rs p s = disjunction_stays (rs s).0 (rs s).1 ∙ p s

  cross_stays : (p q : Runs) → RunsStay p → RunsStay q → RunStays (cross p q)
  unfolding cross
  cross_stays p q h k s =
      let a = p s in let b = q a.1 in let c = normalize_disjunction a.0 b.1 in
      disjunction_stays b.0 c.1 ∙ disjunction_stays a.0 b.1 ∙ k a.1 ∙ h s

  bool_var_stays : (o : Option BoolLit) (v : ℕ) (s : Log) → Stays s (bool_var_at o v s).1
  unfolding get_if
  bool_var_stays (some n) v s = refl
  bool_var_stays none v s = refl

  int_var_stays : (o : Option ℕ) (v : ℕ) (s : Log) → Stays s (int_var_at o v s).1
  unfolding get_if
  int_var_stays (some n) v s = refl
  int_var_stays none v s = refl

  -- ---- a shorter If

  condition_stays : (o : Option (Log → BoolLit × Log)) (c : BoolExpr) (p : Bool → Run) → ((f : Log → BoolLit × Log) → o ≡ some f → (s : Log) → Stays s (f s).1) → ((g : Bool) → RunStays (p g)) → (s : Log) → Stays s (condition_literal o c p s).1
  unfolding condition_literal define get_if normalize_num
  condition_stays (some f) c p h q s = h f refl s
  condition_stays none c p h q s = cross_stays (two (normalize_num (next_bool s) false) (p true)) (two (normalize_num (next_bool s) true) (p false)) (two_stay _ _ (λ t. refl) (q true)) (two_stay _ _ (λ t. refl) (q false)) (bool (side c) ∷ s)

  own_stays : (c : BoolExpr) (f : Log → BoolLit × Log) → own_literal c ≡ some f → (s : Log) → Stays s (f s).1
  unfolding convert_bool_var
  own_stays (Const b) f h s = absurd (let z : ◌≡◌ {A = ℕ} 0 1 = cc in omega arith)
  own_stays (Var v) f h s = let z : convert_bool_var v ≡ f = cc in rw (← z) (bool_var_stays (get_bool_var v s) v s)
  own_stays (NVar n) f h s = let z : ◌≡◌ {A = Log → BoolLit × Log} (λ s. (lit n false, s)) f = cc in rw (← z) refl
  own_stays (And ms) f h s = absurd (let z : ◌≡◌ {A = ℕ} 0 1 = cc in omega arith)
  own_stays (Or ms) f h s = absurd (let z : ◌≡◌ {A = ℕ} 0 1 = cc in omega arith)
  own_stays (Not x) f h s = absurd (let z : ◌≡◌ {A = ℕ} 0 1 = cc in omega arith)
  own_stays (Xor a b) f h s = absurd (let z : ◌≡◌ {A = ℕ} 0 1 = cc in omega arith)
  own_stays (Iff a b) f h s = absurd (let z : ◌≡◌ {A = ℕ} 0 1 = cc in omega arith)
  own_stays (Imp a b) f h s = absurd (let z : ◌≡◌ {A = ℕ} 0 1 = cc in omega arith)
  own_stays (Cmp o a b) f h s = absurd (let z : ◌≡◌ {A = ℕ} 0 1 = cc in omega arith)

  if_constant_stays : (i : IfIsRead) (c : BoolExpr) (p : Bool → Run) (x y : ℤ) → ((g : Bool) → RunStays (p g)) → IntStays (if_constant ds i c p x y)
  unfolding if_constant get_if
  if_constant_stays i c p x y q s = condition_stays (own_literal c) c p (own_stays c) q s

  if_open_stays : (i : IfIsRead) (x : IntExpr) (p : Bool → Run) (t f : LinearSum) → length (encode_int x) < length (encode_int e) → ((g : Bool) → RunStays (p g)) → IntStays (if_open ds i x p t f)
  unfolding if_open define get_if
  if_open_stays i x p t f h q s =
      rw (shorter (encode_int e) (encode_int x) h) (disjunction_stays _ _ ∙ q true _ ∙ q false _)

  if_stays : (i : IfIsRead) (o : Option ℕ) (x : IntExpr) (c : BoolExpr) (p : Bool → Run) (t f : IntRun) → length (encode_int x) < length (encode_int e) → ((g : Bool) → RunStays (p g)) → IntStays t → IntStays f → IntStays (normalize_if ds i o x c p t f)
  unfolding normalize_if
  if_stays i (some v) x c p t f h q ht hf s = refl
  if_stays i none x c p t f h q ht hf s = go (is_constant (t s).0 && is_constant (f (t s).1).0)
    where
      b : IntOut
      b = f (t s).1

      go : (z : Bool) → Stays s (cond z (if_constant ds i c p (constant_of (t s).0) (constant_of b.0) b.1) (if_open ds i x p (t s).0 b.0 b.1)).1
      go true = if_constant_stays i c p (constant_of (t s).0) (constant_of b.0) q b.1 ∙ hf (t s).1 ∙ ht s
      go false = if_open_stays i x p (t s).0 b.0 h q b.1 ∙ hf (t s).1 ∙ ht s

  -- ---- all of it

  abbrev Few : ℕ → Type 0
  Few n = n < length (encode_int e)

  mutual
    unfolding encode_int normalize_bool_expr normalize_var convert_bool_var normalize_num normalize_comparison normalize_int_var normalize_term convert_int_var

    pub int_stays : (x : IntExpr) → Few (length (encode_int x)) → IntStays (normalize_int_expr ds x)
    int_stays (IConst c) h = λ s. refl
    int_stays (IVar v) h = λ s. int_var_stays (get_int_var v s) v s
    int_stays (Linear ts) h = λ s. terms_stay ts (omega arith) (constant (pos 0)) s
    int_stays (If i c t f) h =
        let l = length-append (encode_bool c) (encode_int t ++ encode_int f) in
        let m = length-append (encode_int t) (encode_int f) in
        λ s. if_stays i (get_if (If i c t f) s) (If i c t f) c (normalize_bool_expr ds c) (normalize_int_expr ds t) (normalize_int_expr ds f) h (λ g. bool_stays c g (omega arith)) (int_stays t (omega arith)) (int_stays f (omega arith)) s

    terms_stay : (ts : Terms) → Few (length (encode_terms ts)) → (sum : LinearSum) (s : Log) → Stays s (normalize_terms ds ts sum s).1
    terms_stay tnil h = λ sum s. refl
    terms_stay (tmore k x ts) h =
        let l = length-append (encode_int x) (encode_terms ts) in
        λ sum s. terms_stay ts (omega arith) (add_sum sum (mul_sum k (normalize_int_expr ds x s).0)) (normalize_int_expr ds x s).1 ∙ int_stays x (omega arith) s

    pub bool_stays : (x : BoolExpr) (g : Bool) → Few (length (encode_bool x)) → RunStays (normalize_bool_expr ds x g)
    bool_stays (Const b) g h = λ s. refl
    bool_stays (Var v) g h = λ s. bool_var_stays (get_bool_var v s) v s
    bool_stays (NVar n) g h = λ s. refl
    bool_stays (And ms) false h = conjunction_stays (normalize_members ds ms false) (members_stay ms false (omega arith))
    bool_stays (And ms) true h = disjunction_of_stays (normalize_members ds ms true) (members_stay ms true (omega arith))
    bool_stays (Or ms) false h = disjunction_of_stays (normalize_members ds ms false) (members_stay ms false (omega arith))
    bool_stays (Or ms) true h = conjunction_stays (normalize_members ds ms true) (members_stay ms true (omega arith))
    bool_stays (Not x) g h = bool_stays x (not g) (omega arith)
    bool_stays (Xor a b) false h = let l = length-append (encode_bool a) (encode_bool b) in cross_stays _ _ (two_stay _ _ (bool_stays a false (omega arith)) (bool_stays b false (omega arith))) (two_stay _ _ (bool_stays a true (omega arith)) (bool_stays b true (omega arith)))
    bool_stays (Xor a b) true h = let l = length-append (encode_bool a) (encode_bool b) in cross_stays _ _ (two_stay _ _ (bool_stays a false (omega arith)) (bool_stays b true (omega arith))) (two_stay _ _ (bool_stays a true (omega arith)) (bool_stays b false (omega arith)))
    bool_stays (Iff a b) false h = let l = length-append (encode_bool a) (encode_bool b) in cross_stays _ _ (two_stay _ _ (bool_stays a false (omega arith)) (bool_stays b true (omega arith))) (two_stay _ _ (bool_stays a true (omega arith)) (bool_stays b false (omega arith)))
    bool_stays (Iff a b) true h = let l = length-append (encode_bool a) (encode_bool b) in cross_stays _ _ (two_stay _ _ (bool_stays a false (omega arith)) (bool_stays b false (omega arith))) (two_stay _ _ (bool_stays a true (omega arith)) (bool_stays b true (omega arith)))
    bool_stays (Imp a b) false h = let l = length-append (encode_bool a) (encode_bool b) in disjunction_of_stays _ (two_stay _ _ (bool_stays a true (omega arith)) (bool_stays b false (omega arith)))
    bool_stays (Imp a b) true h = let l = length-append (encode_bool a) (encode_bool b) in conjunction_stays _ (two_stay _ _ (bool_stays a false (omega arith)) (bool_stays b true (omega arith)))
    bool_stays (Cmp o a b) g h = let l = length-append (encode_int a) (encode_int b) in λ s. int_stays b (omega arith) (normalize_int_expr ds a s).1 ∙ int_stays a (omega arith) s

    members_stay : (ms : Members) (g : Bool) → Few (length (encode_members ms)) → RunsStay (normalize_members ds ms g)
    members_stay mnil g h = no_run_stays
    members_stay (more x ms) g h = let l = length-append (encode_bool x) (encode_members ms) in run_then_stays _ _ (bool_stays x g (omega arith)) (members_stay ms g (omega arith))
