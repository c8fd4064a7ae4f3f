-- What the statements ask and give at each step, over variables. Assumes nothing.
use Prim.Native.Nat.{ℕ, suc, ◌+◌, ◌-◌, ◌*◌, ◌≤◌, ◌<◌}
use mathlib.Core.Path.{◌≡◌, refl, sym, ap, ◌∙◌}
use mathlib.Core.Bool.{Bool, true, false, ◌&&◌, ◌||◌}
use mathlib.Core.List.{List, [], ◌∷◌, map}
use native.Mathlib.Omega.{arith}
use native.Mathlib.Numerals.{add-one}
use lib.IntN.{ℤ, pos}
use lib.ListN.{length, get_or, length-append, length-map}
use Rattle.laws.specs.Bools.{or_no_l, or_no_r}
use Rattle.laws.specs.Ints.{pos_eq}
use Rattle.laws.specs.Lists.{any, any_cong, flat}
use Rattle.laws.specs.Slices.{Has, has_fits, has_front, has_back, has_rest, has_sets}
use Rattle.syntax.specs.Syntax.{Domain, IntExpr, encode_int, BoolExpr, encode_bool, Cell, Stmt, Rule, Table, AllDifferent, encode_stmt}
use Rattle.syntax.specs.Satisfies.{permits, row_holds, stmt_holds}
use Rattle.syntax.specs.Written.{None}
use Rattle.syntax.specs.Lengths.{int_long, stmt_some, TableWords, table_words, DifferentWords, different_words}
use Rattle.syntax.specs.Codes.{stmt_code, stmt_code_word}
use Rattle.read.proofs.Vars.{columns_vars, bool_vars, rows_wide}
use Rattle.domains.specs.Declared.{Plain}
use Rattle.limits.specs.Limits.{heavy, any_part, heavy_stmt}
use Rattle.verdict.specs.Roster.{bool_of, int_of, truth, first_broken}
use Rattle.evaluate.specs.Contract.{heavy_inside, BoolAt, ReadyBool, BoolPost, valued, ColumnsAt, ReadyColumns, ColumnsPost, RowsStandAt, ReadyRows, row_permits, RowsPost, WordsAt, DifferPost, StmtAt, StmtsAt, ReadyStmt, ReadyStmts, StmtPost, checked_of, BrokenPost, ValuesAt, Roster}
use Rattle.evaluate.specs.declared.Checked.{Checked}
use Rattle.evaluate.specs.declared.Checked.TheVariants.{Yes, Broken}

-- ---- a statement, by its first word

-- at most as many columns as words
columns_long : (es : List IntExpr) → length es ≤ length (flat (map encode_int es))
columns_long [] = omega arith
columns_long (e ∷ es) = omega (arith, int_long e, columns_long es, length-append (encode_int e) (flat (map encode_int es)))

-- a row holds exactly if its cells permit the columns' values
row_is : (nb : ℕ) (values : List ℤ) (es : List IntExpr) (cs : List Cell) → row_permits (map (valued nb values) es) cs ≡ row_holds (bool_of values) (int_of nb values) (λ n. false) es cs
row_is nb values [] cs = refl
row_is nb values (e ∷ es) [] = refl
row_is nb values (e ∷ es) (c ∷ cs) = ap (λ b. permits c (valued nb values e) && b) (row_is nb values es cs)

module _ (ws values : List ℤ) (nb at : ℕ) (work : List ℤ) where
  pub stmt_inside : ReadyStmt ws values nb at work → at < length ws
  stmt_inside r = omega (arith, stmt_some r.it, has_fits ws at (encode_stmt r.it) r.reads.words (stmt_some r.it))

  pub stmt_first : ReadyStmt ws values nb at work → Plain ws at
  stmt_first r = record { inside = stmt_inside r; value = stmt_code r.it; is = stmt_code_word ws at r.it r.reads.words }

  module _ (w : ℕ) (hw : get_or ws at (pos 0) ≡ pos w) where
    code_is : (s : Stmt) → Has ws at (encode_stmt s) → stmt_code s ≡ w
    code_is s h = pos_eq _ _ _ (stmt_code_word ws at s h) hw

    -- ---- a rule

    module _ (z : w ≡ 1) where
      the_rule : {X : Type 0} (ds : List Domain) (s : Stmt) → StmtAt nb ds ws at s → ((e : BoolExpr) → s ≡ Rule e → BoolAt nb ds ws (at + 1) e → X) → X
      unfolding encode_stmt any_part
      the_rule ds (Rule e) r go = go e refl (record { stands = record { words = has_rest ws at _ _ r.words; vars = bool_vars None (λ v. v < nb) nb (length ds) (λ v k. k) 64 e r.well }; light = r.light })
      the_rule ds (Table es rows) r go = absurd (let t : 2 ≡ w = code_is (Table es rows) r.words in omega arith)
      the_rule ds (AllDifferent es) r go = absurd (let t : 3 ≡ w = code_is (AllDifferent es) r.words in omega arith)

      pub rule_ready : ReadyStmt ws values nb at work → ReadyBool ws values nb (at + 1)
      rule_ready r = the_rule r.ds r.it r.reads λ e q h. record { ds = r.ds; roster = r.roster; it = e; reads = h }

      pub rule_held : (next : ℕ) (h : Bool) → BoolPost ws values nb (at + 1) next h → StmtPost ws values nb at next h
      unfolding encode_stmt stmt_holds
      rule_held next h p ds s b r =
          the_rule ds s r λ e q g.
          let y = p ds e b g in
          let l : next ≡ at + 1 + length (encode_bool e) = y.0 in
          rw q (omega arith, y.1)

  -- ---- columns: their values, stored

  stored : {q n p : ℕ} {work' : List ℤ} {ds : List Domain} (es : List IntExpr) → ColumnsPost ws values nb q n work 0 work' p → Roster nb ds values → ColumnsAt nb ds ws q n es → length (flat (map encode_int es)) ≤ length work
      → (p ≡ q + length (flat (map encode_int es))) × ValuesAt work' 0 n (map (valued nb values) es)
  stored {n = n} {ds = ds} es cp b c l =
      let y = cp ds es b c in
      let xs = map (valued nb values) es in
      let g : length xs ≡ length es = length-map es (valued nb values) in
      let s : n ≡ length es = c.size in
      (y.0, record { words = rw y.1 (has_sets work 0 xs (omega (arith, l, g, columns_long es))); size = s ∙ sym g })

  -- ---- a table

  module _ (c2 : get_or ws at (pos 0) ≡ pos 2) where
    the_table : {X : Type 0} (ds : List Domain) (s : Stmt) → StmtAt nb ds ws at s
        → ((es : List IntExpr) (rows : List (List Cell)) → s ≡ Table es rows → TableWords ws at es rows → ColumnsAt nb ds ws (at + 3) (length es) es → RowsStandAt ws (at + 3 + length (flat (map encode_int es))) (length es) (length rows) rows → X) → X
    unfolding any_part
    the_table ds (Rule e) r go = absurd (let t : 1 ≡ 2 = code_is 2 c2 (Rule e) r.words in omega arith)
    the_table ds (AllDifferent es) r go = absurd (let t : 3 ≡ 2 = code_is 2 c2 (AllDifferent es) r.words in omega arith)
    the_table ds (Table es rows) r go =
        let t = table_words ws at es rows (rows_wide (length es) rows r.well.3) r.words in
        go es rows refl t (record { words = t.columns; vars = columns_vars None (λ v. v < nb) nb (length ds) (λ v k. k) 64 es r.well.2; light = r.light; size = refl }) (record { words = t.cells; well = r.well.3; size = refl })

    pub table_inside : ReadyStmt ws values nb at work → at + 3 ≤ length ws
    table_inside r = the_table r.ds r.it r.reads λ es rows q t c d. omega (arith, t.inside)

    pub table_columns : ReadyStmt ws values nb at work → Plain ws (at + 1)
    table_columns r = the_table r.ds r.it r.reads λ es rows q t c d. record { inside = omega (arith, t.inside); value = length es; is = t.columns_word }

    pub table_rows : ReadyStmt ws values nb at work → Plain ws (at + 2)
    table_rows r = the_table r.ds r.it r.reads λ es rows q t c d. record { inside = omega (arith, t.inside); value = length rows; is = t.rows_word }

    module _ (n : ℕ) (hn : get_or ws (at + 1) (pos 0) ≡ pos n) (k : ℕ) (hk : get_or ws (at + 2) (pos 0) ≡ pos k) where
      pub columns_start : ReadyStmt ws values nb at work → ReadyColumns ws values nb (at + 3) n work 0
      columns_start r =
          the_table r.ds r.it r.reads λ es rows q t c d.
          let s : n ≡ length es = pos_eq _ _ _ hn t.columns_word in
          record { ds = r.ds; roster = r.roster; them = es; reads = rw s c; room = omega (arith, t.inside, s, r.room, columns_long es) }

      module _ (work' : List ℤ) (p : ℕ) (cp : ColumnsPost ws values nb (at + 3) n work 0 work' p) where
        pub rows_start : ReadyStmt ws values nb at work → ReadyRows ws p n k work' × (p + n * k ≤ length ws)
        rows_start r =
            the_table r.ds r.it r.reads λ es rows q t c d.
            let s : n ≡ length es = pos_eq _ _ _ hn t.columns_word in
            let u : k ≡ length rows = pos_eq _ _ _ hk t.rows_word in
            let y = stored es cp r.roster (rw s c) (omega (arith, t.inside, r.room)) in
            let e = y.0 in
            (record { them = rows; rows = rw (e, s, u) d; values = map (valued nb values) es; stored = y.1; inside = omega (arith, t.inside, e) }, rw (s, u) (omega (arith, t.inside, e)))

        pub table_held : length ws ≤ length work → (h : Bool) → RowsPost ws p n k work' h → StmtPost ws values nb at (p + n * k) h
        unfolding stmt_holds
        table_held room h rp ds st bb r =
            the_table ds st r λ es rows q t c d.
            let s : n ≡ length es = pos_eq _ _ _ hn t.columns_word in
            let u : k ≡ length rows = pos_eq _ _ _ hk t.rows_word in
            let y = stored es cp bb (rw s c) (omega (arith, t.inside, room)) in
            let e = y.0 in
            let xs = map (valued nb values) es in
            rw q (rw (s, u) (omega (arith, e, t.long)), rp rows xs (rw (e, s, u) d) y.1 ∙ any_cong (row_permits xs) (row_holds (bool_of values) (int_of nb values) (λ n. false) es) rows (row_is nb values es))

  -- ---- an AllDifferent

  -- whatever is neither a rule nor a table
  pub different_code : ReadyStmt ws values nb at work → (w : ℕ) → get_or ws at (pos 0) ≡ pos w → (w ≡ 1 → ⊥) → (w ≡ 2 → ⊥) → get_or ws at (pos 0) ≡ pos 3
  different_code r w hw a b = go r.it r.reads.words
    where
      go : (s : Stmt) → Has ws at (encode_stmt s) → get_or ws at (pos 0) ≡ pos 3
      go (Rule e) h = absurd (a (sym (code_is w hw (Rule e) h)))
      go (Table es rows) h = absurd (b (sym (code_is w hw (Table es rows) h)))
      go (AllDifferent es) h = stmt_code_word ws at (AllDifferent es) h

  module _ (c3 : get_or ws at (pos 0) ≡ pos 3) where
    the_different : {X : Type 0} (ds : List Domain) (s : Stmt) → StmtAt nb ds ws at s → ((es : List IntExpr) → s ≡ AllDifferent es → DifferentWords ws at es → ColumnsAt nb ds ws (at + 2) (length es) es → X) → X
    unfolding any_part
    the_different ds (Rule e) r go = absurd (let t : 1 ≡ 3 = code_is 3 c3 (Rule e) r.words in omega arith)
    the_different ds (Table es rows) r go = absurd (let t : 2 ≡ 3 = code_is 3 c3 (Table es rows) r.words in omega arith)
    the_different ds (AllDifferent es) r go =
        let t = different_words ws at es r.words in
        go es refl t (record { words = t.columns; vars = columns_vars None (λ v. v < nb) nb (length ds) (λ v k. k) 64 es r.well.1; light = or_no_l (any (λ e. heavy ds e || heavy_inside ds e) es) _ r.light; size = refl })

    pub different_inside : ReadyStmt ws values nb at work → at + 2 ≤ length ws
    different_inside r = the_different r.ds r.it r.reads λ es q t c. omega (arith, t.inside)

    pub different_count : ReadyStmt ws values nb at work → Plain ws (at + 1)
    different_count r = the_different r.ds r.it r.reads λ es q t c. record { inside = omega (arith, t.inside); value = length es; is = t.count_word }

    module _ (n : ℕ) (hn : get_or ws (at + 1) (pos 0) ≡ pos n) where
      pub different_columns : ReadyStmt ws values nb at work → ReadyColumns ws values nb (at + 2) n work 0
      different_columns r =
          the_different r.ds r.it r.reads λ es q t c.
          let s : n ≡ length es = pos_eq _ _ _ hn t.count_word in
          record { ds = r.ds; roster = r.roster; them = es; reads = rw s c; room = omega (arith, t.inside, s, r.room, columns_long es) }

      module _ (work' : List ℤ) (p : ℕ) (cp : ColumnsPost ws values nb (at + 2) n work 0 work' p) where
        pub different_values : ReadyStmt ws values nb at work → WordsAt work' 0 n
        different_values r =
            the_different r.ds r.it r.reads λ es q t c.
            let s : n ≡ length es = pos_eq _ _ _ hn t.count_word in
            let y = (stored es cp r.roster (rw s c) (omega (arith, t.inside, r.room))).1 in
            record { them = map (valued nb values) es; words = y.words; size = y.size }

        pub different_held : length ws ≤ length work → (h : Bool) → DifferPost work' 0 n h → StmtPost ws values nb at p h
        unfolding encode_stmt stmt_holds
        different_held room h dp ds st bb r =
            the_different ds st r λ es q t c.
            let s : n ≡ length es = pos_eq _ _ _ hn t.count_word in
            let y = stored es cp bb (rw s c) (omega (arith, t.inside, room)) in
            let e : p ≡ at + 2 + length (flat (map encode_int es)) = y.0 in
            rw q (omega (arith, e), dp (map (valued nb values) es) y.1.words y.1.size)

-- ---- `first_broken`

pub stmts_none : (ws values : List ℤ) (nb at n k : ℕ) → n ≡ 0 → BrokenPost ws values nb at n k Yes
unfolding checked_of first_broken
stmts_none ws values nb at n k z ds [] b r = refl
stmts_none ws values nb at n k z ds (s ∷ ss) b r = absurd (let t : n ≡ suc (length ss) = r.size in omega arith)

module _ (ws values : List ℤ) (nb at n : ℕ) (z : n ≡ 0 → ⊥) where
  the_stmt : {X : Type 0} (ds : List Domain) (ss : List Stmt) → StmtsAt nb ds ws at n ss
      → ((s : Stmt) (us : List Stmt) → ss ≡ s ∷ us → StmtAt nb ds ws at s → StmtsAt nb ds ws (at + length (encode_stmt s)) (n - 1) us → X) → X
  the_stmt ds [] r go = absurd (z r.size)
  the_stmt ds (s ∷ us) r go =
      let e : n ≡ suc (length us) = r.size in
      let test = heavy_stmt ds in
      go s us refl (record { words = has_front ws at (encode_stmt s) _ r.words; well = r.well.0; light = or_no_l (test s) (any test us) r.light })
      (record { words = has_back ws at (encode_stmt s) _ r.words; well = r.well.1; light = or_no_r (test s) (any test us) r.light; size = omega arith })

  pub stmt_ready : (work : List ℤ) → ReadyStmts ws values nb at n work → ReadyStmt ws values nb at work
  stmt_ready work r = the_stmt r.ds r.them r.reads λ s us q h g. record { ds = r.ds; roster = r.roster; it = s; reads = h; room = r.room }

  module _ (next : ℕ) (h : Bool) (p : StmtPost ws values nb at next h) where
    pub stmts_stop : (k : ℕ) → h ≡ false → BrokenPost ws values nb at n k (Broken k)
    unfolding checked_of first_broken
    stmts_stop k f ds ss b r =
        the_stmt ds ss r λ s us q g o.
        let e : truth nb values s ≡ false = sym (p ds s b g).1 ∙ f in
        rw (q, e) refl

    pub stmts_ready : (work work' : List ℤ) → length work' ≡ length work → ReadyStmts ws values nb at n work → ReadyStmts ws values nb next (n - 1) work'
    stmts_ready work work' e r =
        the_stmt r.ds r.them r.reads λ s us q g o.
        let l : next ≡ at + length (encode_stmt s) = (p r.ds s r.roster g).0 in
        record { ds = r.ds; roster = r.roster; them = us; reads = rw l o; room = omega (arith, r.room) }

    pub stmts_more : (k : ℕ) → h ≡ true → (a : Checked) → BrokenPost ws values nb next (n - 1) (k + 1) a → BrokenPost ws values nb at n k a
    unfolding first_broken
    stmts_more k f a o ds ss b r =
        the_stmt ds ss r λ s us q g i.
        let y = p ds s b g in
        let l : next ≡ at + length (encode_stmt s) = y.0 in
        let e : truth nb values s ≡ true = sym y.1 ∙ f in
        rw (q, e, sym (add-one k)) (o ds us b (rw l i))
