-- What the walk over the statements asks and gives at each step, over variables. Assumes nothing.
use Prim.Native.Nat.{ℕ, suc, ◌+◌, ◌-◌, ◌*◌, ◌≤◌, ◌<◌, min}
use mathlib.Core.Path.{◌≡◌, refl, sym, ◌∙◌, subst}
use mathlib.Core.Bool.{Bool, true, false, ◌||◌, cond, or-false}
use mathlib.Core.List.{List, [], ◌∷◌, map, append-nil}
use native.Mathlib.Omega.{arith}
use lib.IntN.{ℤ, pos}
use lib.ListN.{length, get_or, length-append}
use Rattle.laws.specs.Lists.{any, flat}
use Rattle.laws.specs.Slices.{Has, has_fits, has_front, has_back, has_word, has_rest}
use Rattle.laws.specs.Ints.{pos_eq}
use Rattle.syntax.specs.Syntax.{Domain, IntExpr, encode_int, BoolExpr, encode_bool, Cell, Stmt, Rule, Table, AllDifferent, encode_stmt}
use Rattle.syntax.specs.Lengths.{stmt_some, TableWords, table_words, DifferentWords, different_words}
use Rattle.syntax.specs.Codes.{stmt_code, stmt_code_word}
use Rattle.domains.specs.Declared.{Plain}
use Rattle.limits.specs.Limits.{any_part}
use Rattle.accept.specs.Walk.{Bounds, first_of, test_column, test_bool, inside, ColumnsAt, ReadyColumns, ColumnsPost, DifferentPost, UsableAll, BoolsAt, ReadyBools, BoolsPost, UsableStmt, UsableStmts, StmtAt, StmtsAt, ReadyStmt, ReadyStmts, test_stmt, StmtPost, StmtsPost, check_stmts, CheckPost}
use Rattle.accept.proofs.FirstLaws.{first_cong, first_join, none_before}

-- ---- `statement`

module _ (ws work : List ℤ) (at ni : ℕ) where
  pub stmt_inside : ReadyStmt ws work at ni → at < length ws
  stmt_inside y = omega (arith, has_fits ws at (encode_stmt y.it) y.reads.words (stmt_some y.it), stmt_some y.it)

  pub stmt_plain : ReadyStmt ws work at ni → Plain ws at
  stmt_plain y = record { inside = stmt_inside y; value = stmt_code y.it; is = stmt_code_word ws at y.it y.reads.words }

  module _ (w : ℕ) (hw : get_or ws at (pos 0) ≡ pos w) where
    code_is : (s : Stmt) → Has ws at (encode_stmt s) → stmt_code s ≡ w
    code_is s h = pos_eq _ _ _ (stmt_code_word ws at s h) hw

    one_rule : (e : BoolExpr) → StmtAt ni ws at (Rule e) → BoolsAt ni ws (at + 1) 1 (e ∷ [])
    unfolding encode_stmt UsableStmt UsableAll
    one_rule e r = record { words = subst (λ l. Has ws (at + 1) l) (sym (append-nil (encode_bool e))) (has_rest ws at _ _ r.words); usable = (r.usable, tt); size = refl }

    pub rule_ready : w ≡ 1 → ReadyStmt ws work at ni → ReadyBools ws work (at + 1) 1 ni
    rule_ready z y = go y.it (code_is y.it y.reads.words) y.reads
      where
        go : (s : Stmt) → stmt_code s ≡ w → StmtAt ni ws at s → ReadyBools ws work (at + 1) 1 ni
        go (Rule e) t r = record { ds = y.ds; bounds = y.bounds; few = y.few; them = e ∷ []; reads = one_rule e r }
        go (Table es rows) t r = absurd (omega arith)
        go (AllDifferent es) t r = absurd (omega arith)

    pub rule_post : w ≡ 1 → (x k : ℕ) → BoolsPost ws work (at + 1) 1 ni 12 x k → StmtPost ws work at ni x k
    unfolding encode_stmt any_part
    rule_post z x k p ds s b q r = go s (code_is s r.words) r
      where
        go : (s : Stmt) → stmt_code s ≡ w → StmtAt ni ws at s → (x ≡ at + length (encode_stmt s)) × (k ≡ first_of (λ m. test_stmt m ds s))
        go (Rule e) t r =
            let y = p ds (e ∷ []) b q (one_rule e r) in
            let v = y.0 in
            let test : ℕ → Bool = λ m. test_bool m ds e in
            (omega (arith, length-append (encode_bool e) []), none_before (λ m. test m || false) k y.1 ∙ first_cong (λ m. test m || false) test (λ m. or-false (test m)))
        go (Table es rows) t r = absurd (omega arith)
        go (AllDifferent es) t r = absurd (omega arith)

    -- a table or an AllDifferent: its count
    pub stmt_second : (w ≡ 1 → ⊥) → ReadyStmt ws work at ni → Plain ws (at + 1)
    unfolding encode_stmt
    stmt_second z y = go y.it y.reads.words
      where
        go : (s : Stmt) → Has ws at (encode_stmt s) → Plain ws (at + 1)
        go (Rule e) h = absurd (z (sym (code_is (Rule e) h)))
        go (Table es rows) h = record { inside = omega (arith, has_fits ws at (encode_stmt (Table es rows)) h (omega arith)); value = length es; is = has_word ws (at + 1) _ _ (pos 0) (has_rest ws at _ _ h) }
        go (AllDifferent es) h = record { inside = omega (arith, has_fits ws at (encode_stmt (AllDifferent es)) h (omega arith)); value = length es; is = has_word ws (at + 1) _ _ (pos 0) (has_rest ws at _ _ h) }

    module _ (z : w ≡ 3) where
      different_inv : {X : Type 0} (s : Stmt) → StmtAt ni ws at s → ((es : List IntExpr) → s ≡ AllDifferent es → DifferentWords ws at es → ColumnsAt ni ws (at + 2) (length es) es → X) → X
      unfolding UsableStmt
      different_inv (Rule e) r go = absurd (let c : 1 ≡ w = code_is (Rule e) r.words in omega arith)
      different_inv (Table es rows) r go = absurd (let c : 2 ≡ w = code_is (Table es rows) r.words in omega arith)
      different_inv (AllDifferent es) r go = let d = different_words ws at es r.words in go es refl d (record { words = d.columns; vars = r.usable; size = refl })

      pub different_inside : ReadyStmt ws work at ni → at + 2 ≤ length ws
      different_inside y = different_inv y.it y.reads λ es q d c. omega (arith, d.inside)

      module _ (n : ℕ) (hn : get_or ws (at + 1) (pos 0) ≡ pos n) where
        pub different_ready : ReadyStmt ws work at ni → ReadyColumns ws work (at + 2) n ni
        different_ready y =
            different_inv y.it y.reads λ es q d c.
            record { ds = y.ds; bounds = y.bounds; few = y.few; them = es; reads = subst (λ i. ColumnsAt ni ws (at + 2) i es) (pos_eq _ _ _ d.count_word hn) c; behind = omega arith }

        pub different_post : (x k : ℕ) → DifferentPost ws work (at + 2) n ni x k → StmtPost ws work at ni x k
        unfolding any_part encode_stmt
        different_post x k p ds s b q r =
            different_inv s r λ es t d c.
            let y = p ds es b q (subst (λ i. ColumnsAt ni ws (at + 2) i es) (pos_eq _ _ _ d.count_word hn) c) in
            let v = y.0 in
            rw t (omega arith, y.1)

    module _ (z : w ≡ 1 → ⊥) (z3 : w ≡ 3 → ⊥) where
      table_inv : {X : Type 0} (s : Stmt) → StmtAt ni ws at s → ((es : List IntExpr) (rows : List (List Cell)) → s ≡ Table es rows → TableWords ws at es rows → ColumnsAt ni ws (at + 3) (length es) es → X) → X
      unfolding UsableStmt
      table_inv (Rule e) r go = absurd (z (sym (code_is (Rule e) r.words)))
      table_inv (AllDifferent es) r go = absurd (z3 (sym (code_is (AllDifferent es) r.words)))
      table_inv (Table es rows) r go = let d = table_words ws at es rows r.usable.1 r.words in go es rows refl d (record { words = d.columns; vars = r.usable.0; size = refl })

      pub table_inside : ReadyStmt ws work at ni → at + 3 ≤ length ws
      table_inside y = table_inv y.it y.reads λ es rows q d c. omega (arith, d.inside)

      pub table_second : ReadyStmt ws work at ni → Plain ws (at + 2)
      table_second y = table_inv y.it y.reads λ es rows q d c. record { inside = omega (arith, d.inside); value = length rows; is = d.rows_word }

      module _ (n : ℕ) (hn : get_or ws (at + 1) (pos 0) ≡ pos n) (k : ℕ) (hk : get_or ws (at + 2) (pos 0) ≡ pos k) where
        pub table_ready : ReadyStmt ws work at ni → ReadyColumns ws work (at + 3) n ni
        table_ready y =
            table_inv y.it y.reads λ es rows q d c.
            record { ds = y.ds; bounds = y.bounds; few = y.few; them = es; reads = subst (λ i. ColumnsAt ni ws (at + 3) i es) (pos_eq _ _ _ d.columns_word hn) c; behind = omega arith }

        module _ (x c : ℕ) (p : ColumnsPost ws work (at + 3) n ni 12 x c) where
          columns_end : (ds : List Domain) (es : List IntExpr) → Bounds work ds → ni ≡ length ds → ColumnsAt ni ws (at + 3) (length es) es → length es ≡ n
              → (x ≡ at + 3 + length (flat (map encode_int es))) × (c ≡ first_of (λ m. any (λ x. test_column m ds x || inside m ds x) es))
          columns_end ds es b q d e = let y = p ds es b q (subst (λ i. ColumnsAt ni ws (at + 3) i es) e d) in (y.0, none_before (λ m. any (λ x. test_column m ds x || inside m ds x) es) c y.1)

          pub table_room : ReadyStmt ws work at ni → x + n * k ≤ length ws
          table_room r =
              table_inv r.it r.reads λ es rows t d e.
              let f = pos_eq _ _ _ d.columns_word hn in
              let v = (columns_end r.ds es r.bounds r.few e f).0 in
              let g : length es * length rows ≡ n * k = rw (f, pos_eq _ _ _ d.rows_word hk) refl in
              omega (arith, d.inside)

          pub table_post : StmtPost ws work at ni (x + n * k) c
          unfolding any_part
          table_post ds s b q r =
              table_inv s r λ es rows t d e.
              let f = pos_eq _ _ _ d.columns_word hn in
              let v = columns_end ds es b q e f in
              let u = v.0 in
              let g : length es * length rows ≡ n * k = rw (f, pos_eq _ _ _ d.rows_word hk) refl in
              let j : x + n * k ≡ at + length (encode_stmt (Table es rows)) = omega (arith, d.long) in
              rw t (j, v.1)

-- ---- `statements`

pub stmts_none : (ws work : List ℤ) (at n ni k : ℕ) → n ≡ 0 → k ≤ 12 → StmtsPost ws work at n ni k k
unfolding first_of
stmts_none ws work at n ni k z l ds [] b q r = omega arith
stmts_none ws work at n ni k z l ds (s ∷ ss) b q r = absurd (let l : n ≡ suc (length ss) = r.size in omega arith)

module _ (ws work : List ℤ) (at n ni : ℕ) (z : n ≡ 0 → ⊥) where
  stmts_inv : {X : Type 0} (ss : List Stmt) → StmtsAt ni ws at n ss
      → ((s : Stmt) (us : List Stmt) → ss ≡ s ∷ us → StmtAt ni ws at s → StmtsAt ni ws (at + length (encode_stmt s)) (n - 1) us → X) → X
  unfolding UsableStmts
  stmts_inv [] r go = absurd (z r.size)
  stmts_inv (s ∷ us) r go =
      let l : n ≡ suc (length us) = r.size in
      go s us refl (record { words = has_front ws at (encode_stmt s) (flat (map encode_stmt us)) r.words; usable = r.usable.0 })
      (record { words = has_back ws at (encode_stmt s) (flat (map encode_stmt us)) r.words; usable = r.usable.1; size = omega arith })

  pub stmt_first : ReadyStmts ws work at n ni → ReadyStmt ws work at ni
  stmt_first r = stmts_inv r.them r.reads λ s us q i t. record { ds = r.ds; bounds = r.bounds; few = r.few; it = s; reads = i }

  module _ (x k : ℕ) (p : StmtPost ws work at ni x k) where
    pub stmts_ready : ReadyStmts ws work at n ni → ReadyStmts ws work x (n - 1) ni
    stmts_ready r = stmts_inv r.them r.reads λ s us t i j. record { ds = r.ds; bounds = r.bounds; few = r.few; them = us; reads = rw (p r.ds s r.bounds r.few i).0 j }

    pub stmts_rest : (k₀ k₁ k' : ℕ) → k₁ ≡ min k₀ k → StmtsPost ws work x (n - 1) ni k₁ k' → StmtsPost ws work at n ni k₀ k'
    stmts_rest k₀ k₁ k' h g ds ss b q r =
        stmts_inv ss r λ s us t i j.
        let v = p ds s b q i in
        rw t (first_join (λ m. test_stmt m ds s) (λ m. any (test_stmt m ds) us) k' k₀ k₁ k h v.1 (g ds us b q (rw v.0 j)))

-- ---- `check`

module _ (ws work : List ℤ) (at n ni k : ℕ) (p : StmtsPost ws work at n ni 12 k) where
  -- the refusal that is the first to hit
  named : (a b c : Bool) → k ≡ cond a 9 (cond b 10 (cond c 11 12)) → ((k ≡ 12 → ◌≡◌ {A = ℕ} (cond a 9 (cond b 10 (cond c 11 0))) 0) × ((k ≡ 12 → ⊥) → cond a 9 (cond b 10 (cond c 11 0)) ≡ k))
  named true b c e = (λ z. absurd (omega arith), λ z. sym e)
  named false true c e = (λ z. absurd (omega arith), λ z. sym e)
  named false false true e = (λ z. absurd (omega arith), λ z. sym e)
  named false false false e = (λ z. refl, λ z. absurd (z e))

  checked : (ds : List Domain) (ss : List Stmt) → Bounds work ds → ni ≡ length ds → StmtsAt ni ws at n ss → (k ≡ 12 → check_stmts ds ss ≡ 0) × ((k ≡ 12 → ⊥) → check_stmts ds ss ≡ k)
  unfolding check_stmts first_of
  checked ds ss b q r = named (any (test_stmt 9 ds) ss) (any (test_stmt 10 ds) ss) (any (test_stmt 11 ds) ss) (none_before (λ m. any (test_stmt m ds) ss) k (p ds ss b q r))

  pub check_none : k ≡ 12 → CheckPost ws work at n ni 0
  check_none z ds ss b q r = sym ((checked ds ss b q r).0 z)

  pub check_hit : (k ≡ 12 → ⊥) → CheckPost ws work at n ni k
  check_hit z ds ss b q r = sym ((checked ds ss b q r).1 z)
