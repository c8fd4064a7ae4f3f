-- Every log that normalising makes is well made: its declared variables have a property that the expressions' have, and a new integer's domain is that of its sums.
use Rattle.std.specs.Prelude.{◌≡◌, Bool, not, ◌&&◌, cond, ℤ}
use Rattle.std.proofs.Math.Path.{refl}
use Rattle.std.proofs.Math.Bool.{true, false}
use Rattle.std.proofs.Math.Option.{Option, none, some}
use mathlib.Core.List.{List, [], ◌∷◌, ◌++◌}
use Prim.Native.Nat.{ℕ, suc}
use Rattle.std.specs.Int.Signed.{lt_z}
use Rattle.laws.specs.Ints.{eqZ}
use Rattle.laws.specs.Order.{ltZ_tri}
use Rattle.syntax.specs.Syntax.{IfIsRead, Domain, Range, IntExpr, IConst, IVar, Linear, If, Terms, tnil, tmore, BoolExpr, Const, Var, NVar, And, Or, Not, Xor, Iff, Imp, Cmp, Members, mnil, more}
use Rattle.syntax.specs.Written.{Any, EveryIntOf, EveryTermOf, EveryColumnOf, EveryOf, Every, EveryMember}
use Rattle.sums.specs.LinearSum.{LinearSum, constant, is_constant, lowest, highest, get_domain_linear_sum}
use Rattle.sums.specs.Rising.{constant_of}
use Rattle.clauses.specs.Clause.{BoolLit, LinearLit, Clause}
use Rattle.clauses.specs.Log.{declared, aux, side, declared_int, column, chosen, binary, Made, bool, merged, int, added, defined, known, Log, next_bool, negate_lit, get_bool_var, get_int_var, bool_var_at, convert_bool_var, int_var_at, convert_int_var}
use Rattle.clauses.specs.Disjunction.{Sorted, satisfied, pool, sorted, each_longer, finish_disjunction, finish_sorted, normalize_disjunction}
use Rattle.clauses.specs.Normalize.{IntOut, IntRun, normalize_int_var, normalize_term, normalize_int_expr, normalize_terms, Run, Runs, register, define, no_run, run_then, two, normalize_conjunction, disjunction_of, cross, normalize_var, normalize_num, normalize_comparison, normalize_bool_expr, normalize_members, own_literal, condition_literal, two_valued, hull, domain_of_sum, if_constant, if_open, normalize_if}
use Rattle.clauses.specs.Split.{Split, Splitter, unsplit, split_one, split_two, split_three, split_sides, tseitin_transformation_bool, tseitin_transformation_members, tseitin_transformation_int, tseitin_transformation_terms, register_each, normalize_and_register_expr}

-- P, Q: of each declared Boolean and integer that the log has; ds: the declared domains
module _ (ds : List Domain) (P Q : ℕ → Type 0) where
  -- a column has its sum's domain, an If that of either sum; a literal's two values rise
  abbrev pub MadeWell : Made → Log → Type 0
  MadeWell (bool (declared v)) s = P v
  MadeWell (bool (aux cs)) s = Unit {0}
  MadeWell (bool (side e)) s = Unit {0}
  MadeWell (merged v w g) s = P v
  MadeWell (int (declared_int v)) s = Q v
  MadeWell (int (column l d)) s = d ≡ domain_of_sum ds s l
  MadeWell (int (chosen i e p q d)) s = d ≡ hull (domain_of_sum ds s p) (domain_of_sum ds s q)
  MadeWell (int (binary i l x y)) s = lt_z x y ≡ true
  MadeWell (added cs) s = Unit {0}
  MadeWell (defined cs) s = Unit {0}
  MadeWell (known e v) s = Unit {0}

  abbrev pub WellMade : Log → Type 0
  WellMade [] = Unit {0}
  WellMade (m ∷ s) = MadeWell m s × WellMade s

  abbrev WellExpr : BoolExpr → Type 0
  WellExpr = Every P Q

  abbrev WellMembers : Members → Type 0
  WellMembers = EveryMember P Q

  abbrev WellInts : IntExpr → Type 0
  WellInts = EveryIntOf Any P Q

  abbrev WellTerms : Terms → Type 0
  WellTerms = EveryTermOf Any P Q

  abbrev WellColumns : List IntExpr → Type 0
  WellColumns = EveryColumnOf Any P Q

  abbrev Keeps : {A : Type 0} → (Log → A × Log) → Type 0
  Keeps r = (s : Log) → WellMade s → WellMade (r s).1

  -- ---- declared variables

  bool_var_well : (o : Option BoolLit) (v : ℕ) (s : Log) → P v → WellMade s → WellMade (bool_var_at o v s).1
  bool_var_well (some n) v s h k = k
  bool_var_well none v s h k = (h, k)

  pub convert_bool_well : (v : ℕ) → P v → Keeps (convert_bool_var v)
  unfolding convert_bool_var
  convert_bool_well v h s k = bool_var_well (get_bool_var v s) v s h k

  int_var_well : (o : Option ℕ) (v : ℕ) (s : Log) → Q v → WellMade s → WellMade (int_var_at o v s).1
  int_var_well (some n) v s h k = k
  int_var_well none v s h k = (h, k)

  pub convert_int_well : (v : ℕ) → Q v → Keeps (convert_int_var v)
  unfolding convert_int_var
  convert_int_well v h s k = int_var_well (get_int_var v s) v s h k

  -- ---- disjunctions

  each_well : (css : List (List Clause)) (ls : List BoolLit) (ks : List LinearLit) → Keeps (each_longer css ls ks)
  unfolding each_longer
  each_well [] ls ks s k = k
  each_well (cs ∷ css) ls ks s k = each_well css _ ks (bool (aux cs) ∷ s) (tt, k)

  finish_well : (css : List (List Clause)) (ls : List BoolLit) (ks : List LinearLit) → Keeps (finish_disjunction css ls ks)
  unfolding finish_disjunction
  finish_well [] [] [] s k = each_well [] [] [] s k
  finish_well [] [] (x ∷ ks) s k = each_well [] [] (x ∷ ks) s k
  finish_well [] (l ∷ ls) ks s k = each_well [] (l ∷ ls) ks s k
  finish_well (a ∷ []) [] [] s k = k
  finish_well (a ∷ []) [] (x ∷ ks) s k = each_well (a ∷ []) [] (x ∷ ks) s k
  finish_well (a ∷ []) (l ∷ []) [] s k = k
  finish_well (a ∷ []) (l ∷ []) (x ∷ ks) s k = each_well (a ∷ []) (l ∷ []) (x ∷ ks) s k
  finish_well (a ∷ []) (l ∷ m ∷ ls) [] s k = each_well (a ∷ []) (l ∷ m ∷ ls) [] s k
  finish_well (a ∷ []) (l ∷ m ∷ ls) (x ∷ ks) s k = each_well (a ∷ []) (l ∷ m ∷ ls) (x ∷ ks) s k
  finish_well (a ∷ c ∷ []) [] [] s k = (tt, k)
  finish_well (a ∷ c ∷ []) [] (x ∷ ks) s k = each_well (a ∷ c ∷ []) [] (x ∷ ks) s k
  finish_well (a ∷ c ∷ []) (l ∷ ls) ks s k = each_well (a ∷ c ∷ []) (l ∷ ls) ks s k
  finish_well (a ∷ c ∷ d ∷ css) ls ks s k = each_well (a ∷ c ∷ d ∷ css) ls ks s k

  sorted_well : (x : Sorted) → Keeps (finish_sorted x)
  unfolding finish_sorted
  sorted_well satisfied s k = k
  sorted_well (pool ls ks longer) s k = finish_well longer ls ks s k

  pub disjunction_well : (css : List (List Clause)) → Keeps (normalize_disjunction css)
  unfolding normalize_disjunction
  disjunction_well [] s k = k
  disjunction_well (cs ∷ []) s k = k
  disjunction_well (cs ∷ ds ∷ css) s k = sorted_well (sorted (cs ∷ ds ∷ css)) s k

  -- ---- Boolean expressions

  conj_well : (r : Runs) → Keeps r → Keeps (normalize_conjunction r)
  unfolding normalize_conjunction
  conj_well r h s k = h s k

  disj_well : (r : Runs) → Keeps r → Keeps (disjunction_of r)
  unfolding disjunction_of
  disj_well r h s k = disjunction_well (r s).0 (r s).1 (h s k)

  then_well : (r : Run) (rs : Runs) → Keeps r → Keeps rs → Keeps (run_then r rs)
  unfolding run_then
  then_well r rs h hs s k = hs (r s).1 (h s k)

  two_well : (r q : Run) → Keeps r → Keeps q → Keeps (run_then r (run_then q no_run))
  unfolding no_run
  two_well r q h j = then_well r (run_then q no_run) h (then_well q no_run j (λ s k. k))

  cross_well : (p q : Runs) → Keeps p → Keeps q → Keeps (cross p q)
  unfolding cross
  cross_well p q h j s k = disjunction_well _ _ (disjunction_well _ _ (j (p s).1 (h s k)))

  -- ---- If

  -- a condition that has no literal of its own
  new_well : (c : BoolExpr) (p : Bool → Run) → ((g : Bool) → Keeps (p g)) → Keeps (condition_literal none c p)
  unfolding condition_literal define normalize_num no_run
  new_well c p q s k =
      (tt, cross_well (two (normalize_num (next_bool s) false) (p true)) (two (normalize_num (next_bool s) true) (p false)) (two_well _ _ (λ t j. j) (q true)) (two_well _ _ (λ t j. j) (q false)) (bool (side c) ∷ s) (tt, k))

  condition_well : (c : BoolExpr) (p : Bool → Run) → WellExpr c → ((g : Bool) → Keeps (p g)) → Keeps (condition_literal (own_literal c) c p)
  unfolding condition_literal EveryOf
  condition_well (Const x) p h q = new_well (Const x) p q
  condition_well (Var v) p h q = convert_bool_well v h
  condition_well (NVar n) p h q = λ s k. k
  condition_well (And ms) p h q = new_well (And ms) p q
  condition_well (Or ms) p h q = new_well (Or ms) p q
  condition_well (Not e) p h q = new_well (Not e) p q
  condition_well (Xor x y) p h q = new_well (Xor x y) p q
  condition_well (Iff x y) p h q = new_well (Iff x y) p q
  condition_well (Imp x y) p h q = new_well (Imp x y) p q
  condition_well (Cmp o x y) p h q = new_well (Cmp o x y) p q

  two_valued_well : (j : IfIsRead) (l : BoolLit) (x y : ℤ) (s : Log) → MadeWell (int (two_valued j l x y)) s
  unfolding domain_of_sum get_domain_linear_sum lowest highest
  two_valued_well j l x y s = go (lt_z x y) refl (eqZ x y) refl
    where
      go : (u : Bool) → lt_z x y ≡ u → (v : Bool) → eqZ x y ≡ v → MadeWell (int (cond u (binary j (negate_lit true l) x y) (cond v (column (constant x) (Range x x)) (binary j l y x)))) s
      go true p v q = p
      go false p true q = refl
      go false p false q = ltZ_tri x y p q

  constant_well : (j : IfIsRead) (c : BoolExpr) (p : Bool → Run) (x y : ℤ) → WellExpr c → ((g : Bool) → Keeps (p g)) → Keeps (if_constant ds j c p x y)
  unfolding if_constant
  constant_well j c p x y h q s k = (two_valued_well j (condition_literal (own_literal c) c p s).0 x y (condition_literal (own_literal c) c p s).1, condition_well c p h q s k)

  open_well : (j : IfIsRead) (e : IntExpr) (p : Bool → Run) (t f : LinearSum) → ((g : Bool) → Keeps (p g)) → Keeps (if_open ds j e p t f)
  unfolding if_open define
  open_well j e p t f q s k = (tt, (tt, disjunction_well _ _ (q true _ (q false _ (refl, k)))))

  if_well : (j : IfIsRead) (o : Option ℕ) (e : IntExpr) (c : BoolExpr) (p : Bool → Run) (t f : IntRun) → WellExpr c → ((g : Bool) → Keeps (p g)) → Keeps t → Keeps f → Keeps (normalize_if ds j o e c p t f)
  unfolding normalize_if
  if_well j (some v) e c p t f h q ht hf s k = k
  if_well j none e c p t f h q ht hf s k = go (is_constant (t s).0 && is_constant (f (t s).1).0)
    where
      x : IntOut
      x = f (t s).1

      before : WellMade x.1
      before = hf (t s).1 (ht s k)

      go : (u : Bool) → WellMade (cond u (if_constant ds j c p (constant_of (t s).0) (constant_of x.0) x.1) (if_open ds j e p (t s).0 x.0 x.1)).1
      go true = constant_well j c p (constant_of (t s).0) (constant_of x.0) h q x.1 before
      go false = open_well j e p (t s).0 x.0 q x.1 before

  -- ---- expressions

  mutual
    unfolding normalize_int_expr normalize_int_var normalize_term normalize_bool_expr normalize_var normalize_num normalize_comparison no_run EveryOf

    pub int_well : (e : IntExpr) → WellInts e → Keeps (normalize_int_expr ds e)
    int_well (IConst c) h = λ s k. k
    int_well (IVar v) h = λ s k. convert_int_well v h s k
    int_well (Linear ts) h = λ s k. terms_well ts h _ s k
    int_well (If j c t f) h = λ s k. if_well j _ (If j c t f) c (normalize_bool_expr ds c) (normalize_int_expr ds t) (normalize_int_expr ds f) h.0 (λ g. bool_well c g h.0) (int_well t h.1.0) (int_well f h.1.1) s k

    terms_well : (ts : Terms) → WellTerms ts → (sum : LinearSum) → Keeps (normalize_terms ds ts sum)
    terms_well tnil h = λ sum s k. k
    terms_well (tmore c e ts) h = λ sum s k. terms_well ts h.1 _ _ (int_well e h.0 s k)

    bool_well : (e : BoolExpr) (g : Bool) → WellExpr e → Keeps (normalize_bool_expr ds e g)
    bool_well (Const c) g h = λ s k. k
    bool_well (Var v) g h = convert_bool_well v h
    bool_well (NVar n) g h = λ s k. k
    bool_well (And ms) false h = conj_well (normalize_members ds ms false) (members_well ms false h)
    bool_well (And ms) true h = disj_well (normalize_members ds ms true) (members_well ms true h)
    bool_well (Or ms) false h = disj_well (normalize_members ds ms false) (members_well ms false h)
    bool_well (Or ms) true h = conj_well (normalize_members ds ms true) (members_well ms true h)
    bool_well (Not e) g h = bool_well e (not g) h
    bool_well (Xor x y) false h = cross_well _ _ (two_well _ _ (bool_well x false h.0) (bool_well y false h.1)) (two_well _ _ (bool_well x true h.0) (bool_well y true h.1))
    bool_well (Xor x y) true h = cross_well _ _ (two_well _ _ (bool_well x false h.0) (bool_well y true h.1)) (two_well _ _ (bool_well x true h.0) (bool_well y false h.1))
    bool_well (Iff x y) false h = cross_well _ _ (two_well _ _ (bool_well x false h.0) (bool_well y true h.1)) (two_well _ _ (bool_well x true h.0) (bool_well y false h.1))
    bool_well (Iff x y) true h = cross_well _ _ (two_well _ _ (bool_well x false h.0) (bool_well y false h.1)) (two_well _ _ (bool_well x true h.0) (bool_well y true h.1))
    bool_well (Imp x y) false h = disj_well _ (two_well _ _ (bool_well x true h.0) (bool_well y false h.1))
    bool_well (Imp x y) true h = conj_well _ (two_well _ _ (bool_well x false h.0) (bool_well y true h.1))
    bool_well (Cmp o x y) g h = λ s k. int_well y h.1 _ (int_well x h.0 s k)

    members_well : (ms : Members) (g : Bool) → WellMembers ms → Keeps (normalize_members ds ms g)
    members_well mnil g h = λ s k. k
    members_well (more e ms) g h = then_well _ _ (bool_well e g h.0) (members_well ms g h.1)

  -- ---- splitting: the rewritten rule and the extras write declared variables only

  abbrev pub WellAll : List BoolExpr → Type 0
  WellAll [] = Unit {0}
  WellAll (e ∷ es) = WellExpr e × WellAll es

  pub all_append_well : (es fs : List BoolExpr) → WellAll es → WellAll fs → WellAll (es ++ fs)
  all_append_well [] fs h j = j
  all_append_well (e ∷ es) fs h j = (h.0, all_append_well es fs h.1 j)

  -- D: what is said of the rewritten expression
  record SplitWell {A : Type 0} (D : A → Type 0) (c : Split A) : Type 0 where
    pub result : D c.result
    pub extras : WellAll c.extra
    pub logs : WellMade c.log

  abbrev Splits : {A : Type 0} → (A → Type 0) → Splitter A → Type 0
  Splits D p = (s : Log) → WellMade s → SplitWell D (p s)

  unsplit_well : {A : Type 0} (D : A → Type 0) (x : A) → D x → Splits D (unsplit x)
  unfolding unsplit
  unsplit_well D x h s k = record { result = h; extras = tt; logs = k }

  one_split_well : {A C : Type 0} (D : A → Type 0) (F : C → Type 0) (f : A → C) → ((x : A) → D x → F (f x)) → (p : Splitter A) → Splits D p → Splits F (split_one f p)
  unfolding split_one
  one_split_well D F f hf p hp s k = let x = hp s k in record { result = hf _ x.result; extras = x.extras; logs = x.logs }

  two_split_well : {A C E : Type 0} (D : A → Type 0) (F : C → Type 0) (G : E → Type 0) (f : A → C → E) → ((x : A) (y : C) → D x → F y → G (f x y)) → (p : Splitter A) (q : Splitter C) → Splits D p → Splits F q → Splits G (split_two f p q)
  unfolding split_two
  two_split_well D F G f hf p q hp hq s k =
      let x = hp s k in
      let y = hq (p s).log x.logs in
      record { result = hf _ _ x.result y.result; extras = all_append_well (p s).extra (q (p s).log).extra x.extras y.extras; logs = y.logs }

  if_split_well : (j : IfIsRead) (p : Splitter BoolExpr) (q r : Splitter IntExpr) → Splits WellExpr p → Splits WellInts q → Splits WellInts r → Splits WellInts (split_three (If j) p q r)
  unfolding split_three EveryOf
  if_split_well j p q r hp hq hr s k =
      let x = hp s k in
      let y = hq (p s).log x.logs in
      let z = hr (q (p s).log).log y.logs in
      record { result = (x.result, (y.result, z.result)); extras = all_append_well (p s).extra _ x.extras (all_append_well (q (p s).log).extra _ y.extras z.extras); logs = z.logs }

  sides_split_well : (f : BoolExpr → BoolExpr → BoolExpr) → ((x y : BoolExpr) → WellExpr x → WellExpr y → WellExpr (f x y)) → (u v : BoolExpr) (p q : Splitter BoolExpr)
      → Splits WellExpr p → Splits WellExpr q → Splits WellExpr (split_sides f u v p q)
  unfolding split_sides EveryOf
  sides_split_well f hf u v p q hp hq s k =
      let c : Split BoolExpr = p (bool (side v) ∷ bool (side u) ∷ s) in
      let d : Split BoolExpr = q c.log in
      let n : ℕ = next_bool s in
      let x = hp (bool (side v) ∷ bool (side u) ∷ s) (tt, (tt, k)) in
      let y = hq c.log x.logs in
      let tie_x : WellAll (Iff c.result (NVar n) ∷ []) = ((x.result, tt), tt) in
      let tie_y : WellAll (Iff d.result (NVar (suc n)) ∷ []) = ((y.result, tt), tt) in
      record {
        result = hf (NVar n) (NVar (suc n)) tt tt;
        extras = all_append_well (c.extra ++ (Iff c.result (NVar n) ∷ [])) (d.extra ++ (Iff d.result (NVar (suc n)) ∷ [])) (all_append_well c.extra (Iff c.result (NVar n) ∷ []) x.extras tie_x) (all_append_well d.extra (Iff d.result (NVar (suc n)) ∷ []) y.extras tie_y);
        logs = y.logs;
      }

  mutual
    unfolding tseitin_transformation_bool EveryOf

    split_well : (e : BoolExpr) (t : Bool) → WellExpr e → Splits WellExpr (tseitin_transformation_bool e t)
    split_well (Const c) t h = unsplit_well WellExpr (Const c) h
    split_well (Var v) t h = unsplit_well WellExpr (Var v) h
    split_well (NVar n) t h = unsplit_well WellExpr (NVar n) h
    split_well (And ms) t h = one_split_well WellMembers WellExpr And (λ x k. k) _ (splits_well ms t h)
    split_well (Or ms) t h = one_split_well WellMembers WellExpr Or (λ x k. k) _ (splits_well ms t h)
    split_well (Not e) t h = one_split_well WellExpr WellExpr Not (λ x k. k) _ (split_well e t h)
    split_well (Xor x y) true h = sides_split_well Xor (λ u v p q. (p, q)) x y _ _ (split_well x true h.0) (split_well y true h.1)
    split_well (Xor x y) false h = two_split_well WellExpr WellExpr WellExpr Xor (λ u v p q. (p, q)) _ _ (split_well x true h.0) (split_well y true h.1)
    split_well (Iff x y) true h = sides_split_well Iff (λ u v p q. (p, q)) x y _ _ (split_well x true h.0) (split_well y true h.1)
    split_well (Iff x y) false h = two_split_well WellExpr WellExpr WellExpr Iff (λ u v p q. (p, q)) _ _ (split_well x true h.0) (split_well y true h.1)
    split_well (Imp x y) t h = two_split_well WellExpr WellExpr WellExpr Imp (λ u v p q. (p, q)) _ _ (split_well x t h.0) (split_well y t h.1)
    split_well (Cmp o x y) t h = two_split_well WellInts WellInts WellExpr (Cmp o) (λ u v p q. (p, q)) _ _ (split_int_well x h.0) (split_int_well y h.1)

    splits_well : (ms : Members) (t : Bool) → WellMembers ms → Splits WellMembers (tseitin_transformation_members ms t)
    splits_well mnil t h = unsplit_well WellMembers mnil tt
    splits_well (more e ms) t h = two_split_well WellExpr WellMembers WellMembers more (λ u v p q. (p, q)) _ _ (split_well e t h.0) (splits_well ms t h.1)

    split_int_well : (e : IntExpr) → WellInts e → Splits WellInts (tseitin_transformation_int e)
    split_int_well (IConst c) h = unsplit_well WellInts (IConst c) h
    split_int_well (IVar v) h = unsplit_well WellInts (IVar v) h
    split_int_well (Linear ts) h = one_split_well WellTerms WellInts Linear (λ x k. k) _ (split_terms_well ts h)
    split_int_well (If j c t f) h = if_split_well j _ _ _ (split_well c true h.0) (split_int_well t h.1.0) (split_int_well f h.1.1)

    split_terms_well : (ts : Terms) → WellTerms ts → Splits WellTerms (tseitin_transformation_terms ts)
    split_terms_well tnil h = unsplit_well WellTerms tnil tt
    split_terms_well (tmore c e ts) h = two_split_well WellInts WellTerms WellTerms (tmore c) (λ u v p q. (p, q)) _ _ (split_int_well e h.0) (split_terms_well ts h.1)

  -- from log to log
  abbrev pub KeepsLog : (Log → Log) → Type 0
  KeepsLog r = (s : Log) → WellMade s → WellMade (r s)

  all_well : (es : List BoolExpr) → WellAll es → KeepsLog (register_each ds es)
  unfolding register_each register
  all_well [] h s k = k
  all_well (e ∷ es) h s k = all_well es h.1 _ (tt, bool_well e false h.0 s k)

  pub rule_well : (e : BoolExpr) → WellExpr e → KeepsLog (normalize_and_register_expr ds e)
  unfolding normalize_and_register_expr
  rule_well e h s k =
      let c : Split BoolExpr = tseitin_transformation_bool e false s in
      let x = split_well e false h s k in
      all_well (c.extra ++ (c.result ∷ [])) (all_append_well c.extra (c.result ∷ []) x.extras (x.result, tt)) c.log x.logs
