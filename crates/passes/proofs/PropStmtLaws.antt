-- What requiring statements asks and gives at each step, over variables. Assumes nothing.
use Prim.Native.Nat.{ℕ, suc, ◌+◌, ◌-◌, ◌*◌, ◌≤◌}
use mathlib.Core.Path.{◌≡◌, refl, sym, ap, ◌∙◌, subst}
use mathlib.Core.Bool.{true}
use mathlib.Core.Option.{some}
use mathlib.Core.List.{List, [], ◌∷◌, map}
use native.Mathlib.Omega.{arith}
use lib.IntN.{ℤ, pos}
use lib.ListN.{length, drop, get_or, length-append}
use Rattle.laws.specs.Lists.{flat}
use Rattle.laws.specs.Ints.{pos_eq}
use Rattle.syntax.specs.Words.{max_bools}
use Rattle.syntax.specs.Syntax.{Stmt, Rule, Table, AllDifferent, encode_int, encode_cell, encode_stmt}
use Rattle.fold.specs.Optimize.{constant_prop_stmts}
use Rattle.domains.specs.Declared.{Plain}
use Rattle.passes.specs.Want.{worst_num}
use Rattle.passes.specs.Skip.{SomeInt, SkipPost}
use Rattle.passes.specs.Contract.{Stands, PropPost}
use Rattle.fold.proofs.Ahead.{prop_stmt, prop_stmts_more}
use Rattle.passes.specs.Statements.{ReadsStmt, ReadsStmts, StandsStmt, StandStmts, PropStmtPost, PropStmtsPost, SomeColumns, SkipColumnsPost, SkipStmtPost}
use Rattle.passes.proofs.StmtLaws.{columns_inv, stmt_inside, stmt_length, stmt_plain, code_word, rule_inv, not_two, table_inv, table_inside, different_inv, stmts_inv}
use Rattle.passes.proofs.PropLaws.{still, then_props, as_status, worst_assoc, worst_none, worst_zero, has_up}

-- ---- `skip_columns`

pub columns_end : (ws : List ℤ) (at n : ℕ) → n ≡ 0 → SkipColumnsPost ws at n at
columns_end ws at n h ni [] r = omega arith
columns_end ws at n h ni (e ∷ es) r = absurd (let s : n ≡ suc (length es) = r.size in omega arith)

module _ (ws : List ℤ) (at n : ℕ) (z : n ≡ 0 → ⊥) where
  pub column_stands : SomeColumns ws at n → SomeInt ws at
  column_stands s = columns_inv ws 0 at n ws 0 z _ s.them s.reads λ e fs q re rs. record { bools = max_bools; ints = s.ints; it = e; stands = record { words = re.words; vars = re.vars } }

  module _ (m : ℕ) (p : SkipPost ws at m) where
    pub columns_stand : SomeColumns ws at n → SomeColumns ws m (n - 1)
    columns_stand s =
        columns_inv ws 0 at n ws 0 z _ s.them s.reads λ e fs q re rs.
        let x : m ≡ at + length (encode_int e) = p max_bools s.ints e (record { words = re.words; vars = re.vars }) in
        record { ints = s.ints; them = fs; reads = rw x rs }

    pub columns_skip : (r : ℕ) → SkipColumnsPost ws m (n - 1) r → SkipColumnsPost ws at n r
    columns_skip r p' ni es rd =
        columns_inv ws 0 at n ws 0 z ni es rd λ e fs q re rs.
        let x : m ≡ at + length (encode_int e) = p max_bools ni e (record { words = re.words; vars = re.vars }) in
        let y : r ≡ m + length (flat (map encode_int fs)) = p' ni fs (rw x rs) in
        rw q (omega (arith, length-append (encode_int e) (flat (map encode_int fs))))

-- ---- `skip_table`

module _ (out : List ℤ) (at : ℕ) where
  pub stmt_fits : StandsStmt out at → at + 2 ≤ length out
  stmt_fits s = omega (arith, stmt_inside _ out at s.it s.reads, stmt_length _ out at s.it s.reads)

  module _ (c2 : get_or out at (pos 0) ≡ pos 2) where
    pub header_fits : StandsStmt out at → at + 3 ≤ length out
    header_fits s = table_inside _ out at s.it s.reads c2

    pub columns_word : StandsStmt out at → Plain out (at + 1)
    columns_word s = table_inv _ out at s.it s.reads c2 λ es rows q hn hk rc rr ln. record { inside = omega (arith, header_fits s); value = length es; is = hn }

    pub rows_word : StandsStmt out at → Plain out (at + 2)
    rows_word s = table_inv _ out at s.it s.reads c2 λ es rows q hn hk rc rr ln. record { inside = omega (arith, header_fits s); value = length rows; is = hk }

    module _ (n k : ℕ) (hn : get_or out (at + 1) (pos 0) ≡ pos n) (hk : get_or out (at + 2) (pos 0) ≡ pos k) where
      pub table_columns : StandsStmt out at → SomeColumns out (at + 3) n
      table_columns s =
          table_inv _ out at s.it s.reads c2 λ es rows q hn' hk' rc rr ln.
          record { ints = s.ints; them = es; reads = record { words = rc.words; vars = rc.vars; size = pos_eq _ _ _ hn hn' } }

      module _ (m : ℕ) (p : SkipColumnsPost out (at + 3) n m) where
        skips : (ni : ℕ) (s : Stmt) → ReadsStmt ni out at s → m + n * k ≡ at + length (encode_stmt s)
        unfolding encode_stmt
        skips ni s r =
            table_inv ni out at s r c2 λ es rows q hn' hk' rc rr ln.
            let en : n ≡ length es = pos_eq _ _ _ hn hn' in
            let ek : k ≡ length rows = pos_eq _ _ _ hk hk' in
            let x : m ≡ at + 3 + length (flat (map encode_int es)) = p ni es (record { words = rc.words; vars = rc.vars; size = en }) in
            let y : length (flat (map (map encode_cell) rows)) ≡ n * k = rw (en, ek) ln in
            rw q (omega (arith, length-append (flat (map encode_int es)) (flat (map (map encode_cell) rows))))

        pub table_skips : SkipStmtPost out at (m + n * k)
        table_skips ni s r = skips ni s r

        pub table_fits : StandsStmt out at → m + n * k ≤ length out
        table_fits s = omega (arith, stmt_inside _ out at s.it s.reads, skips _ s.it s.reads)

  -- ---- `skip_different`

  module _ (c3 : get_or out at (pos 0) ≡ pos 3) where
    pub different_word : StandsStmt out at → Plain out (at + 1)
    different_word s = different_inv _ out at s.it s.reads c3 λ es q hn rc. record { inside = omega (arith, stmt_fits s); value = length es; is = hn }

    module _ (n : ℕ) (hn : get_or out (at + 1) (pos 0) ≡ pos n) where
      pub different_columns : StandsStmt out at → SomeColumns out (at + 2) n
      different_columns s =
          different_inv _ out at s.it s.reads c3 λ es q hn' rc.
          record { ints = s.ints; them = es; reads = record { words = rc.words; vars = rc.vars; size = pos_eq _ _ _ hn hn' } }

      pub different_skips : (m : ℕ) → SkipColumnsPost out (at + 2) n m → SkipStmtPost out at m
      unfolding encode_stmt
      different_skips m p ni s r =
          different_inv ni out at s r c3 λ es q hn' rc.
          let x : m ≡ at + 2 + length (flat (map encode_int es)) = p ni es (record { words = rc.words; vars = rc.vars; size = pos_eq _ _ _ hn hn' }) in
          rw q (omega arith)

  -- ---- `prop_stmt`

  module _ (w : ℕ) (hw : get_or out at (pos 0) ≡ pos w) where
    pub rule_stands : StandsStmt out at → w ≡ 1 → Stands out (at + 1)
    rule_stands s h = rule_inv _ out at s.it s.reads w hw h λ e q re. record { fixed = s.fixed; values = s.values; ints = s.ints; it = e; reads = re; low = omega (arith, s.low) }

    pub rule_props : (out' : List ℤ) (next st : ℕ) → w ≡ 1 → PropPost out (at + 1) (some true) out' next st → PropStmtPost out at out' next st
    unfolding encode_stmt
    rule_props out' next st h p ni f s vs r lo =
        rule_inv ni out at s r w hw h λ e q re.
        let g = p ni f e vs re (omega arith) in
        rw q (record { nexts = g.nexts ∙ omega arith; props = g.props })

  -- what is no rule fixes nothing
  pub idle_props : (next : ℕ) → (get_or out at (pos 0) ≡ pos 1 → ⊥) → SkipStmtPost out at next → PropStmtPost out at out next 0
  idle_props next n1 p ni f (Rule e) vs r lo = absurd (n1 (code_word ni out at (Rule e) r))
  idle_props next n1 p ni f (Table es rows) vs r lo = record { nexts = p ni (Table es rows) r; props = still out f vs }
  idle_props next n1 p ni f (AllDifferent es) vs r lo = record { nexts = p ni (AllDifferent es) r; props = still out f vs }

  pub stands_different : (w : ℕ) → get_or out at (pos 0) ≡ pos w → (w ≡ 1 → ⊥) → (w ≡ 2 → ⊥) → StandsStmt out at → get_or out at (pos 0) ≡ pos 3
  stands_different w hw a b s = not_two _ out at s.it s.reads w hw a b

  pub stands_plain : StandsStmt out at → Plain out at
  stands_plain s = stmt_plain _ out at s.it s.reads

-- ---- `constant_prop_stmts`

pub stmts_none : (out : List ℤ) (at n : ℕ) → n ≡ 0 → PropStmtsPost out at n out 0
unfolding constant_prop_stmts
stmts_none out at n h ni f [] vs r lo = still out f vs
stmts_none out at n h ni f (s ∷ ss) vs r lo = absurd (let z : n ≡ suc (length ss) = r.size in omega arith)

stmts_up : (ni : ℕ) (out out' : List ℤ) (at n : ℕ) (ss : List Stmt) → drop max_bools out' ≡ drop max_bools out → max_bools ≤ at → ReadsStmts ni out at n ss → ReadsStmts ni out' at n ss
stmts_up ni out out' at n ss d h r = record { words = has_up out out' at (flat (map encode_stmt ss)) d h r.words; vars = r.vars; size = r.size }

module _ (out : List ℤ) (at n : ℕ) (z : n ≡ 0 → ⊥) where
  pub stmt_stands : StandStmts out at n → StandsStmt out at
  stmt_stands s = stmts_inv out at n _ z s.them s.reads λ x ts q rx rt. record { fixed = s.fixed; values = s.values; ints = s.ints; it = x; reads = rx; low = s.low }

  module _ (mid : List ℤ) (next st : ℕ) (p : PropStmtPost out at mid next st) where
    pub stmts_stand : StandStmts out at n → StandStmts mid next (n - 1)
    stmts_stand s =
        stmts_inv out at n _ z s.them s.reads λ x ts q rx rt.
        let g = p s.ints s.fixed x s.values rx s.low in
        let nx : next ≡ at + length (encode_stmt x) = g.nexts in
        record { fixed = g.props.after; values = g.props.values; ints = s.ints; them = ts; reads = rw nx (stmts_up _ out mid (at + length (encode_stmt x)) (n - 1) ts g.props.high (omega (arith, s.low)) rt); low = omega (arith, s.low) }

    pub stmts_more : (out' : List ℤ) (st' : ℕ) → PropStmtsPost mid next (n - 1) out' st' → PropStmtsPost out at n out' (worst_num st st')
    stmts_more out' st' p' ni f ss vs r lo =
        stmts_inv out at n ni z ss r λ x ts q rx rt.
        let g = p ni f x vs rx lo in
        let nx : next ≡ at + length (encode_stmt x) = g.nexts in
        let g' = p' ni g.props.after ts g.props.values (rw nx (stmts_up ni out mid (at + length (encode_stmt x)) (n - 1) ts g.props.high (omega arith) rt)) (omega arith) in
        rw q (as_status _ _ out out' (worst_num st st') (prop_stmts_more x ts f) (then_props out mid out' st st' (constant_prop_stmts ts) (prop_stmt x f) g.props (worst_num st st') g' refl))

-- what the loop adds up, and what is left
module _ (out : List ℤ) (at n : ℕ) (out' : List ℤ) where
  pub status_start : (s : ℕ) → PropStmtsPost out at n out' s → PropStmtsPost out at n out' (worst_num 0 s)
  status_start s p = subst (PropStmtsPost out at n out') (sym (worst_zero s)) p

  pub status_next : (t a s t' : ℕ) → t' ≡ worst_num t a → PropStmtsPost out at n out' (worst_num t (worst_num a s)) → PropStmtsPost out at n out' (worst_num t' s)
  status_next t a s t' e p = subst (PropStmtsPost out at n out') (worst_assoc t a s ∙ ap (λ x. worst_num x s) (sym e)) p

  pub status_end : (t : ℕ) → PropStmtsPost out at n out' (worst_num t 0) → PropStmtsPost out at n out' t
  status_end t p = subst (PropStmtsPost out at n out') (worst_none t) p
