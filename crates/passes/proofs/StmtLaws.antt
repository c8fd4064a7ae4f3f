-- What folding of statements asks and gives at each step, over variables. Assumes nothing.
use Prim.Native.Nat.{ℕ, suc, ◌+◌, ◌-◌, ◌*◌, ◌≤◌, ◌<◌}
use mathlib.Core.Path.{◌≡◌, refl, sym, ap, ◌∙◌}
use mathlib.Core.Option.{Option}
use mathlib.Core.Bool.{Bool}
use mathlib.Core.List.{List, [], ◌∷◌, ◌++◌, map}
use native.Mathlib.Omega.{arith}
use lib.IntN.{ℤ, pos}
use lib.ListN.{length, take, drop, get_or, set, length-append, length-set}
use lib.Seq.{take-set-le}
use Rattle.laws.specs.Lists.{flat}
use Rattle.laws.specs.Slices.{Has, has_fits, has_front, has_back, has_word, has_rest, Pushed, pushed_below, pushed_then, pushed_none, Stored, drop_up}
use Rattle.laws.specs.Ints.{pos_eq}
use Rattle.syntax.specs.Words.{max_bools}
use Rattle.syntax.specs.Syntax.{Domain, IntExpr, BoolExpr, Cell, Stmt, Rule, Table, AllDifferent, encode_int, encode_bool, encode_cell, encode_stmt}
use Rattle.syntax.specs.Lengths.{rows_length, table_words, different_words}
use Rattle.syntax.specs.Written.{EveryColumnOf}
use Rattle.syntax.specs.Codes.{stmt_code}
use Rattle.fold.specs.Fold.{Fixed, constant_folding_int, constant_folding_bool, constant_folding_stmt}
use Rattle.fold.proofs.Forms.{bool_long}
use Rattle.fold.proofs.Kept.{fold_columns_size, fold_stmt_size, fold_int_size}
use Rattle.domains.specs.Declared.{Plain}
use Rattle.folding.specs.Steps.{fixed_in, same_fixed, ReadsInt, ReadyInt, IntPost, Reads, Ready, FoldPost}
use Rattle.folding.proofs.IntLaws.{stored_one}
use Rattle.passes.specs.Statements.{DeclaredStmt, DeclaredStmts, ReadsColumns, ReadyColumns, ColumnsPost, ReadsStmt, ReadsStmts, ReadyStmt, ReadyStmts, StmtPost, StmtsPost}

-- ---- `fold_columns`

pub columns_none : (ws : List ℤ) (d at n : ℕ) (out : List ℤ) (o : ℕ) → n ≡ 0 → ColumnsPost ws d at n out o out at o
columns_none ws d at n out o h ds [] hd r = record { nexts = omega arith; pushed = pushed_none out o; above = refl }
columns_none ws d at n out o h ds (e ∷ es) hd r = absurd (let s : n ≡ suc (length es) = r.size in omega arith)

module _ (ws : List ℤ) (d at n : ℕ) (out : List ℤ) (o : ℕ) (z : n ≡ 0 → ⊥) where
  pub columns_inv : {X : Type 0} (ni : ℕ) (es : List IntExpr) → ReadsColumns ni ws at n es → ((e : IntExpr) (fs : List IntExpr) → es ≡ e ∷ fs → ReadsInt ni ws at e → ReadsColumns ni ws (at + length (encode_int e)) (n - 1) fs → X) → X
  unfolding EveryColumnOf
  columns_inv ni [] r go = absurd (z r.size)
  columns_inv ni (e ∷ fs) r go =
      let h = r.words in
      let k : n ≡ suc (length fs) = r.size in
      go e fs refl (record { words = has_front ws at (encode_int e) (flat (map encode_int fs)) h; vars = r.vars.0 }) (record { words = has_back ws at (encode_int e) (flat (map encode_int fs)) h; vars = r.vars.1; size = omega arith })

  pub column_ready : ReadyColumns ws d at n out o → ReadyInt ws d at out o
  column_ready r =
      columns_inv _ r.them r.reads λ e fs q re rs.
      let w : o + length (encode_int e ++ flat (map encode_int fs)) ≤ length out = rw q at r.room in
      record { ds = r.ds; domains = r.domains; it = e; reads = re; low = r.low; room = omega (arith, length-append (encode_int e) (flat (map encode_int fs))) }

  module _ (mid : List ℤ) (next end : ℕ) (p : IntPost ws d at out o mid next end) where
    pub columns_ready : ReadyColumns ws d at n out o → length mid ≡ length out → ReadyColumns ws d next (n - 1) mid end
    columns_ready r l =
        columns_inv _ r.them r.reads λ e fs q re rs.
        let w : o + length (encode_int e ++ flat (map encode_int fs)) ≤ length out = rw q at r.room in
        let y = p r.ds e r.domains re in
        let nx : next ≡ at + length (encode_int e) = y.nexts in
        let ef : end ≡ o + length (encode_int (constant_folding_int r.ds (fixed_in out) e)) = y.pushed.end in
        let lo : max_bools ≤ o = r.low in
        record { ds = r.ds; domains = r.domains; them = fs; reads = rw nx rs; low = omega arith; room = omega (arith, length-append (encode_int e) (flat (map encode_int fs)), fold_int_size r.ds (fixed_in out) e) }

    pub columns_more : (out' : List ℤ) (next' end' : ℕ) → ReadyColumns ws d at n out o → ColumnsPost ws d next (n - 1) mid end out' next' end' → ColumnsPost ws d at n out o out' next' end'
    columns_more out' next' end' rd p' ds es hd r =
        columns_inv _ es r λ e fs q re rs.
        let y = p ds e hd re in
        let nx : next ≡ at + length (encode_int e) = y.nexts in
        let ef : end ≡ o + length (encode_int (constant_folding_int ds (fixed_in out) e)) = y.pushed.end in
        let y' = p' ds fs hd (rw nx rs) in
        let nx' : next' ≡ next + length (flat (map encode_int fs)) = y'.nexts in
        let sf : fixed_in mid ≡ fixed_in out = same_fixed out mid (pushed_below out o _ mid end max_bools y.pushed rd.low (omega (arith, rd.room))) in
        let yp : Pushed mid end (flat (map encode_int (map (constant_folding_int ds (fixed_in out)) fs))) out' end' = rw sf at y'.pushed in
        rw q (record {
          nexts = omega (arith, length-append (encode_int e) (flat (map encode_int fs)));
          pushed = pushed_then out o _ mid end _ out' end' y.pushed yp;
          above = drop_up (end + length (flat (map encode_int fs))) (o + length (encode_int e ++ flat (map encode_int fs))) out' mid y'.above (omega (arith, length-append (encode_int e) (flat (map encode_int fs)), fold_int_size ds (fixed_in out) e))
              ∙ drop_up (o + length (encode_int e)) (o + length (encode_int e ++ flat (map encode_int fs))) mid out y.above (omega (arith, length-append (encode_int e) (flat (map encode_int fs))));
        })

-- ---- one statement

map_length : (ds : List Domain) (f : Fixed) (es : List IntExpr) → length (map (constant_folding_int ds f) es) ≡ length es
map_length ds f [] = refl
map_length ds f (e ∷ es) = ap suc (map_length ds f es)

stmt_long : (ni : ℕ) (s : Stmt) → DeclaredStmt max_bools ni s → 2 ≤ length (encode_stmt s)
unfolding encode_stmt DeclaredStmt
stmt_long ni (Rule e) h = omega (arith, bool_long max_bools ni e h)
stmt_long ni (Table es rows) h = omega arith
stmt_long ni (AllDifferent es) h = omega arith

table_long : (es : List IntExpr) (rows : List (List Cell)) → 3 ≤ length (encode_stmt (Table es rows))
unfolding encode_stmt
table_long es rows = omega arith

module _ (ni : ℕ) (ws : List ℤ) (at : ℕ) where
  pub code_word : (s : Stmt) → ReadsStmt ni ws at s → get_or ws at (pos 0) ≡ pos (stmt_code s)
  unfolding encode_stmt
  code_word (Rule e) r = has_word ws at _ _ (pos 0) r.words
  code_word (Table es rows) r = has_word ws at _ _ (pos 0) r.words
  code_word (AllDifferent es) r = has_word ws at _ _ (pos 0) r.words

  pub stmt_inside : (s : Stmt) → ReadsStmt ni ws at s → at + length (encode_stmt s) ≤ length ws
  stmt_inside s r = has_fits ws at (encode_stmt s) r.words (omega (arith, stmt_long ni s r.vars))

  pub stmt_length : (s : Stmt) → ReadsStmt ni ws at s → 2 ≤ length (encode_stmt s)
  stmt_length s r = stmt_long ni s r.vars

  pub stmt_plain : (s : Stmt) → ReadsStmt ni ws at s → Plain ws at
  stmt_plain s r = record { inside = omega (arith, stmt_inside s r, stmt_length s r); value = stmt_code s; is = code_word s r }

  pub rule_inv : {X : Type 0} (s : Stmt) → ReadsStmt ni ws at s → (w : ℕ) → get_or ws at (pos 0) ≡ pos w → w ≡ 1 → ((e : BoolExpr) → s ≡ Rule e → Reads ni ws (at + 1) e → X) → X
  unfolding encode_stmt DeclaredStmt
  rule_inv (Rule e) r w hw h go = go e refl (record { words = has_rest ws at _ _ r.words; vars = r.vars })
  rule_inv (Table es rows) r w hw h go = absurd (let z : 2 ≡ w = pos_eq _ _ _ (code_word (Table es rows) r) hw in omega arith)
  rule_inv (AllDifferent es) r w hw h go = absurd (let z : 3 ≡ w = pos_eq _ _ _ (code_word (AllDifferent es) r) hw in omega arith)

  pub not_two : (s : Stmt) → ReadsStmt ni ws at s → (w : ℕ) → get_or ws at (pos 0) ≡ pos w → (w ≡ 1 → ⊥) → (w ≡ 2 → ⊥) → get_or ws at (pos 0) ≡ pos 3
  not_two (Rule e) r w hw a b = absurd (a (pos_eq _ _ _ hw (code_word (Rule e) r)))
  not_two (Table es rows) r w hw a b = absurd (b (pos_eq _ _ _ hw (code_word (Table es rows) r)))
  not_two (AllDifferent es) r w hw a b = code_word (AllDifferent es) r

  -- header, columns, rows
  pub table_inv : {X : Type 0} (s : Stmt) → ReadsStmt ni ws at s → get_or ws at (pos 0) ≡ pos 2
      → ((es : List IntExpr) (rows : List (List Cell)) → s ≡ Table es rows → get_or ws (at + 1) (pos 0) ≡ pos (length es) → get_or ws (at + 2) (pos 0) ≡ pos (length rows) → ReadsColumns ni ws (at + 3) (length es) es → Has ws (at + 3 + length (flat (map encode_int es))) (flat (map (map encode_cell) rows)) → length (flat (map (map encode_cell) rows)) ≡ length es * length rows → X) → X
  unfolding DeclaredStmt
  table_inv (Rule e) r c2 go = absurd (let z : 1 ≡ 2 = pos_eq _ _ _ (code_word (Rule e) r) c2 in omega arith)
  table_inv (AllDifferent es) r c2 go = absurd (let z : 3 ≡ 2 = pos_eq _ _ _ (code_word (AllDifferent es) r) c2 in omega arith)
  table_inv (Table es rows) r c2 go =
      let d = table_words ws at es rows r.vars.1 r.words in
      go es rows refl d.columns_word d.rows_word (record { words = d.columns; vars = r.vars.0; size = refl }) d.cells (rows_length (length es) rows r.vars.1)

  pub table_inside : (s : Stmt) → ReadsStmt ni ws at s → get_or ws at (pos 0) ≡ pos 2 → at + 3 ≤ length ws
  table_inside s r c2 =
      table_inv s r c2 λ es rows q hn hk rc rr ln.
      let i : at + length (encode_stmt (Table es rows)) ≤ length ws = rw q at (stmt_inside s r) in
      omega (arith, table_long es rows)

  -- header, expressions
  pub different_inv : {X : Type 0} (s : Stmt) → ReadsStmt ni ws at s → get_or ws at (pos 0) ≡ pos 3
      → ((es : List IntExpr) → s ≡ AllDifferent es → get_or ws (at + 1) (pos 0) ≡ pos (length es) → ReadsColumns ni ws (at + 2) (length es) es → X) → X
  unfolding DeclaredStmt
  different_inv (Rule e) r c3 go = absurd (let z : 1 ≡ 3 = pos_eq _ _ _ (code_word (Rule e) r) c3 in omega arith)
  different_inv (Table es rows) r c3 go = absurd (let z : 2 ≡ 3 = pos_eq _ _ _ (code_word (Table es rows) r) c3 in omega arith)
  different_inv (AllDifferent es) r c3 go = let d = different_words ws at es r.words in go es refl d.count_word (record { words = d.columns; vars = r.vars; size = refl })

module _ (ws : List ℤ) (d at : ℕ) (out : List ℤ) (o : ℕ) where
  pub stmt_room : ReadyStmt ws d at out o → (at + 2 ≤ length ws) × (o + 2 ≤ length out)
  stmt_room r = (omega (arith, stmt_inside _ ws at r.it r.reads, stmt_length _ ws at r.it r.reads), omega (arith, r.room, stmt_length _ ws at r.it r.reads))

  pub stmt_first : ReadyStmt ws d at out o → Plain ws at
  stmt_first r = stmt_plain _ ws at r.it r.reads

  pub ready_different : (w : ℕ) → get_or ws at (pos 0) ≡ pos w → (w ≡ 1 → ⊥) → (w ≡ 2 → ⊥) → ReadyStmt ws d at out o → get_or ws at (pos 0) ≡ pos 3
  ready_different w hw a b r = not_two _ ws at r.it r.reads w hw a b

  -- ---- a rule

  module _ (w : ℕ) (hw : get_or ws at (pos 0) ≡ pos w) (h1 : w ≡ 1) (mid : List ℤ) (hm : mid ≡ set out o (pos 1)) where
    pub rule_ready : ReadyStmt ws d at out o → Ready ws d (at + 1) mid (o + 1)
    unfolding encode_stmt
    rule_ready r =
        rule_inv _ ws at r.it r.reads w hw h1 λ e q re.
        let z : o + suc (length (encode_bool e)) ≤ length out = rw q at r.room in
        let l : length mid ≡ length out = ap length hm ∙ length-set out o (pos 1) in
        let lo : max_bools ≤ o = r.low in
        record { ds = r.ds; domains = r.domains; it = e; reads = re; low = omega arith; room = omega arith }

    pub rule_folds : (out' : List ℤ) (next end : ℕ) (state : Option Bool) → ReadyStmt ws d at out o → FoldPost ws d (at + 1) mid (o + 1) out' next end state → StmtPost ws d at out o out' next end
    unfolding encode_stmt constant_folding_stmt
    rule_folds out' next end state rd p ds s hd r =
        rule_inv _ ws at s r w hw h1 λ e q re.
        let y = p ds e hd re in
        let sf : fixed_in mid ≡ fixed_in out = same_fixed out mid (ap (take max_bools) hm ∙ take-set-le max_bools out o (pos 1) rd.low) in
        let w1 : Stored out o (pos 1 ∷ []) mid (o + 1) = rw hm (stored_one out o (pos 1) (omega (arith, (stmt_room rd).1))) in
        let yp : Pushed mid (o + 1) (encode_bool (constant_folding_bool ds (fixed_in out) e)) out' end = rw sf at y.pushed in
        rw q (record {
          nexts = y.nexts ∙ omega arith;
          pushed = pushed_then out o (pos 1 ∷ []) mid (o + 1) _ out' end w1.pushed yp;
          above = drop_up (o + 1 + length (encode_bool e)) (o + suc (length (encode_bool e))) out' mid y.above (omega arith) ∙ drop_up (o + 1) (o + suc (length (encode_bool e))) mid out w1.above (omega arith);
        })

  -- ---- a table

  module _ (c2 : get_or ws at (pos 0) ≡ pos 2) where
    pub table_room : ReadyStmt ws d at out o → (at + 3 ≤ length ws) × (o + 3 ≤ length out)
    table_room r =
        table_inv _ ws at r.it r.reads c2 λ es rows q hn hk rc rr ln.
        let z : o + length (encode_stmt (Table es rows)) ≤ length out = rw q at r.room in
        (table_inside _ ws at r.it r.reads c2, omega (arith, table_long es rows))

    pub columns_word : ReadyStmt ws d at out o → Plain ws (at + 1)
    columns_word r = table_inv _ ws at r.it r.reads c2 λ es rows q hn hk rc rr ln. record { inside = omega (arith, (table_room r).0); value = length es; is = hn }

    pub rows_word : ReadyStmt ws d at out o → Plain ws (at + 2)
    rows_word r = table_inv _ ws at r.it r.reads c2 λ es rows q hn hk rc rr ln. record { inside = omega (arith, (table_room r).0); value = length rows; is = hk }

    module _ (n k : ℕ) (hn : get_or ws (at + 1) (pos 0) ≡ pos n) (hk : get_or ws (at + 2) (pos 0) ≡ pos k) where
      the_table : {X : Type 0} (ni : ℕ) (s : Stmt) → ReadsStmt ni ws at s
          → ((es : List IntExpr) (rows : List (List Cell)) → s ≡ Table es rows → n ≡ length es → k ≡ length rows → ReadsColumns ni ws (at + 3) n es → Has ws (at + 3 + length (flat (map encode_int es))) (flat (map (map encode_cell) rows)) → length (flat (map (map encode_cell) rows)) ≡ n * k → X) → X
      the_table ni s r go =
          table_inv ni ws at s r c2 λ es rows q hn' hk' rc rr ln.
          let en : n ≡ length es = pos_eq _ _ _ hn hn' in
          let ek : k ≡ length rows = pos_eq _ _ _ hk hk' in
          go es rows q en ek (record { words = rc.words; vars = rc.vars; size = en }) rr (rw (en, ek) ln)

      table_length : (es : List IntExpr) (rows : List (List Cell)) → length (flat (map (map encode_cell) rows)) ≡ n * k → length (encode_stmt (Table es rows)) ≡ 3 + (length (flat (map encode_int es)) + n * k)
      unfolding encode_stmt
      table_length es rows ln = omega (arith, length-append (flat (map encode_int es)) (flat (map (map encode_cell) rows)))

      module _ (mid : List ℤ) (hm : mid ≡ set out o (pos 2)) (mid' : List ℤ) (m : ℕ) (st : Stored mid (o + 1) (pos n ∷ pos k ∷ []) mid' m) where
        header : o < length out → Stored out o (pos 2 ∷ pos n ∷ pos k ∷ []) mid' m
        header lo =
            let w1 : Stored out o (pos 2 ∷ []) mid (o + 1) = rw hm (stored_one out o (pos 2) lo) in
            let me : m ≡ o + 1 + 2 = st.pushed.end in
            record { pushed = pushed_then out o (pos 2 ∷ []) mid (o + 1) (pos n ∷ pos k ∷ []) mid' m w1.pushed st.pushed; above = st.above ∙ drop_up (o + 1) m mid out w1.above (omega arith) }

        pub table_columns : ReadyStmt ws d at out o → length mid' ≡ length out → ReadyColumns ws d (at + 3) n mid' m
        table_columns r l =
            the_table _ r.it r.reads λ es rows q en ek rc rr ln.
            let z : o + length (encode_stmt (Table es rows)) ≤ length out = rw q at r.room in
            let me : m ≡ o + 1 + 2 = st.pushed.end in
            let lo : max_bools ≤ o = r.low in
            record { ds = r.ds; domains = r.domains; them = es; reads = rc; low = omega arith; room = omega (arith, table_length es rows ln) }

        module _ (mid'' : List ℤ) (next end : ℕ) (p : ColumnsPost ws d (at + 3) n mid' m mid'' next end) where
          pub table_rows : ReadyStmt ws d at out o → length mid'' ≡ length out → (next + n * k ≤ length ws) × (end + n * k ≤ length mid'')
          table_rows r l =
              the_table _ r.it r.reads λ es rows q en ek rc rr ln.
              let z : o + length (encode_stmt (Table es rows)) ≤ length out = rw q at r.room in
              let i : at + length (encode_stmt (Table es rows)) ≤ length ws = rw q at (stmt_inside _ ws at r.it r.reads) in
              let me : m ≡ o + 1 + 2 = st.pushed.end in
              let y = p r.ds es r.domains rc in
              let nx : next ≡ at + 3 + length (flat (map encode_int es)) = y.nexts in
              let ef : end ≡ m + length (flat (map encode_int (map (constant_folding_int r.ds (fixed_in mid')) es))) = y.pushed.end in
              (omega (arith, table_length es rows ln), omega (arith, table_length es rows ln, fold_columns_size r.ds (fixed_in mid') es))

          pub table_folds : (out' : List ℤ) (end' : ℕ) → ReadyStmt ws d at out o → Stored mid'' end (take (n * k) (drop next ws)) out' end' → StmtPost ws d at out o out' (next + n * k) end'
          unfolding encode_stmt constant_folding_stmt
          table_folds out' end' rd cp ds s hd r =
              the_table _ s r λ es rows q en ek rc rr ln.
              let y = p ds es hd rc in
              let nx : next ≡ at + 3 + length (flat (map encode_int es)) = y.nexts in
              let hs = header (omega (arith, (table_room rd).1)) in
              let me : m ≡ o + 3 = hs.pushed.end in
              let lo : max_bools ≤ o = rd.low in
              let sf : fixed_in mid' ≡ fixed_in out = same_fixed out mid' (pushed_below out o _ mid' m max_bools hs.pushed lo (omega (arith, rd.room))) in
              let yp : Pushed mid' m (flat (map encode_int (map (constant_folding_int ds (fixed_in out)) es))) mid'' end = rw sf at y.pushed in
              let ef : end ≡ m + length (flat (map encode_int (map (constant_folding_int ds (fixed_in out)) es))) = yp.end in
              let cw : take (n * k) (drop next ws) ≡ flat (map (map encode_cell) rows) = rw (nx, ← ln) rr in
              let cp' : Stored mid'' end (flat (map (map encode_cell) rows)) out' end' = rw cw at cp in
              let ee : end' ≡ end + length (flat (map (map encode_cell) rows)) = cp'.pushed.end in
              let lm : length es ≡ length (map (constant_folding_int ds (fixed_in out)) es) = sym (map_length ds (fixed_in out) es) in
              rw q (record {
                nexts = omega (arith, table_length es rows ln);
                pushed = rw (← lm, ← en, ← ek) (pushed_then out o (pos 2 ∷ pos n ∷ pos k ∷ []) mid' m _ out' end' hs.pushed (pushed_then mid' m _ mid'' end _ out' end' yp cp'.pushed));
                above = drop_up end' (o + length (encode_stmt (Table es rows))) out' mid'' cp'.above (omega (arith, table_length es rows ln, fold_columns_size ds (fixed_in out) es))
                    ∙ drop_up (m + length (flat (map encode_int es))) (o + length (encode_stmt (Table es rows))) mid'' mid' y.above (omega (arith, table_length es rows ln))
                    ∙ drop_up m (o + length (encode_stmt (Table es rows))) mid' out hs.above (omega (arith, table_length es rows ln));
              })

  -- ---- an AllDifferent

  module _ (c3 : get_or ws at (pos 0) ≡ pos 3) where
    pub different_word : ReadyStmt ws d at out o → Plain ws (at + 1)
    different_word r = different_inv _ ws at r.it r.reads c3 λ es q hn rc. record { inside = omega (arith, (stmt_room r).0); value = length es; is = hn }

    module _ (n : ℕ) (hn : get_or ws (at + 1) (pos 0) ≡ pos n) where
      the_different : {X : Type 0} (ni : ℕ) (s : Stmt) → ReadsStmt ni ws at s → ((es : List IntExpr) → s ≡ AllDifferent es → n ≡ length es → ReadsColumns ni ws (at + 2) n es → X) → X
      the_different ni s r go =
          different_inv ni ws at s r c3 λ es q hn' rc.
          let en : n ≡ length es = pos_eq _ _ _ hn hn' in
          go es q en (record { words = rc.words; vars = rc.vars; size = en })

      module _ (mid : List ℤ) (m : ℕ) (st : Stored out o (pos 3 ∷ pos n ∷ []) mid m) where
        pub different_columns : ReadyStmt ws d at out o → length mid ≡ length out → ReadyColumns ws d (at + 2) n mid m
        unfolding encode_stmt
        different_columns r l =
            the_different _ r.it r.reads λ es q en rc.
            let z : o + suc (suc (length (flat (map encode_int es)))) ≤ length out = rw q at r.room in
            let me : m ≡ o + 2 = st.pushed.end in
            let lo : max_bools ≤ o = r.low in
            record { ds = r.ds; domains = r.domains; them = es; reads = rc; low = omega arith; room = omega arith }

        pub different_folds : (out' : List ℤ) (next end : ℕ) → ReadyStmt ws d at out o → ColumnsPost ws d (at + 2) n mid m out' next end → StmtPost ws d at out o out' next end
        unfolding encode_stmt constant_folding_stmt
        different_folds out' next end rd p ds s hd r =
            the_different _ s r λ es q en rc.
            let y = p ds es hd rc in
            let nx : next ≡ at + 2 + length (flat (map encode_int es)) = y.nexts in
            let sf : fixed_in mid ≡ fixed_in out = same_fixed out mid (pushed_below out o _ mid m max_bools st.pushed rd.low (omega (arith, rd.room))) in
            let yp : Pushed mid m (flat (map encode_int (map (constant_folding_int ds (fixed_in out)) es))) out' end = rw sf at y.pushed in
            let me : m ≡ o + 2 = st.pushed.end in
            let lm : length es ≡ length (map (constant_folding_int ds (fixed_in out)) es) = sym (map_length ds (fixed_in out) es) in
            rw q (record {
              nexts = omega arith;
              pushed = rw (← lm, ← en) (pushed_then out o (pos 3 ∷ pos n ∷ []) mid m _ out' end st.pushed yp);
              above = drop_up (m + length (flat (map encode_int es))) (o + suc (suc (length (flat (map encode_int es))))) out' mid y.above (omega arith) ∙ drop_up m (o + suc (suc (length (flat (map encode_int es))))) mid out st.above (omega arith);
            })

-- ---- statements

pub stmts_none : (ws : List ℤ) (d at n : ℕ) (out : List ℤ) (o : ℕ) → n ≡ 0 → StmtsPost ws d at n out o out at o
stmts_none ws d at n out o h ds [] hd r = record { nexts = omega arith; pushed = pushed_none out o; above = refl }
stmts_none ws d at n out o h ds (s ∷ ss) hd r = absurd (let z : n ≡ suc (length ss) = r.size in omega arith)

pub stmts_inv : {X : Type 0} (ws : List ℤ) (at n ni : ℕ) (z : n ≡ 0 → ⊥) (ss : List Stmt) → ReadsStmts ni ws at n ss → ((s : Stmt) (ts : List Stmt) → ss ≡ s ∷ ts → ReadsStmt ni ws at s → ReadsStmts ni ws (at + length (encode_stmt s)) (n - 1) ts → X) → X
unfolding DeclaredStmts
stmts_inv ws at n ni z [] r go = absurd (z r.size)
stmts_inv ws at n ni z (s ∷ ts) r go =
    let h = r.words in
    let k : n ≡ suc (length ts) = r.size in
    go s ts refl (record { words = has_front ws at (encode_stmt s) (flat (map encode_stmt ts)) h; vars = r.vars.0 }) (record { words = has_back ws at (encode_stmt s) (flat (map encode_stmt ts)) h; vars = r.vars.1; size = omega arith })

module _ (ws : List ℤ) (d at n : ℕ) (out : List ℤ) (o : ℕ) (z : n ≡ 0 → ⊥) where
  pub stmt_ready : ReadyStmts ws d at n out o → ReadyStmt ws d at out o
  stmt_ready r =
      stmts_inv ws at n _ z r.them r.reads λ s ts q rs rt.
      let w : o + length (encode_stmt s ++ flat (map encode_stmt ts)) ≤ length out = rw q at r.room in
      record { ds = r.ds; domains = r.domains; it = s; reads = rs; low = r.low; room = omega (arith, length-append (encode_stmt s) (flat (map encode_stmt ts))) }

  module _ (mid : List ℤ) (next end : ℕ) (p : StmtPost ws d at out o mid next end) where
    pub stmts_ready : ReadyStmts ws d at n out o → length mid ≡ length out → ReadyStmts ws d next (n - 1) mid end
    stmts_ready r l =
        stmts_inv ws at n _ z r.them r.reads λ s ts q rs rt.
        let w : o + length (encode_stmt s ++ flat (map encode_stmt ts)) ≤ length out = rw q at r.room in
        let y = p r.ds s r.domains rs in
        let nx : next ≡ at + length (encode_stmt s) = y.nexts in
        let ef : end ≡ o + length (encode_stmt (constant_folding_stmt r.ds (fixed_in out) s)) = y.pushed.end in
        let lo : max_bools ≤ o = r.low in
        record { ds = r.ds; domains = r.domains; them = ts; reads = rw nx rt; low = omega arith; room = omega (arith, length-append (encode_stmt s) (flat (map encode_stmt ts)), fold_stmt_size r.ds (fixed_in out) s) }

    pub stmts_more : (out' : List ℤ) (next' end' : ℕ) → ReadyStmts ws d at n out o → StmtsPost ws d next (n - 1) mid end out' next' end' → StmtsPost ws d at n out o out' next' end'
    stmts_more out' next' end' rd p' ds ss hd r =
        stmts_inv ws at n _ z ss r λ s ts q rs rt.
        let y = p ds s hd rs in
        let nx : next ≡ at + length (encode_stmt s) = y.nexts in
        let ef : end ≡ o + length (encode_stmt (constant_folding_stmt ds (fixed_in out) s)) = y.pushed.end in
        let y' = p' ds ts hd (rw nx rt) in
        let nx' : next' ≡ next + length (flat (map encode_stmt ts)) = y'.nexts in
        let sf : fixed_in mid ≡ fixed_in out = same_fixed out mid (pushed_below out o _ mid end max_bools y.pushed rd.low (omega (arith, rd.room))) in
        let yp : Pushed mid end (flat (map encode_stmt (map (constant_folding_stmt ds (fixed_in out)) ts))) out' end' = rw sf at y'.pushed in
        rw q (record {
          nexts = omega (arith, length-append (encode_stmt s) (flat (map encode_stmt ts)));
          pushed = pushed_then out o _ mid end _ out' end' y.pushed yp;
          above = drop_up (end + length (flat (map encode_stmt ts))) (o + length (encode_stmt s ++ flat (map encode_stmt ts))) out' mid y'.above (omega (arith, length-append (encode_stmt s) (flat (map encode_stmt ts)), fold_stmt_size ds (fixed_in out) s))
              ∙ drop_up (o + length (encode_stmt s)) (o + length (encode_stmt s ++ flat (map encode_stmt ts))) mid out y.above (omega (arith, length-append (encode_stmt s) (flat (map encode_stmt ts))));
        })

pub no_rule : (ws : List ℤ) (at w : ℕ) → get_or ws at (pos 0) ≡ pos w → (w ≡ 1 → ⊥) → get_or ws at (pos 0) ≡ pos 1 → ⊥
no_rule ws at w hw h e = h (pos_eq _ _ _ hw e)

pub code_is : (ws : List ℤ) (at w k : ℕ) → get_or ws at (pos 0) ≡ pos w → w ≡ k → get_or ws at (pos 0) ≡ pos k
code_is ws at w k hw e = hw ∙ ap pos e
