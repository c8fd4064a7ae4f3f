-- The statements of a settled set taken one by one in the second walk: what is known of the next one and of those behind it (`left_start`, `left_first`,
-- `left_next`, `left_end`). F: the folded words of the work slice, in which they stand up to `end`; with-ifs: the word for Ifs.
use Rattle.std.specs.Prelude.{◌≡◌, refl, Bool, ℕ, ◌+◌, ◌≤◌, ◌<◌, ℤ, length}
use Rattle.std.proofs.Common.{sym, ◌∙◌, arith}
use Rattle.std.proofs.Math.Path.{subst}
use mathlib.Core.List.{List, [], ◌∷◌, ◌++◌, map}
use Rattle.std.proofs.Math.ListN.{length-append}
use Rattle.laws.specs.Slices.{Has, has_front, has_back}
use Rattle.memory.specs.Places.{folded, folded_end}
use Rattle.syntax.specs.Syntax.{Domain, BoolExpr, Stmt, Rule, Table, AllDifferent, encode_stmt, Problem, encode}
use Rattle.syntax.specs.Written.{EveryStmts}
use Rattle.words.specs.Exact.{Each}
use Rattle.read.specs.WellFormed.{WellStmt}
use Rattle.fold.specs.Fold.{Fixed, constant_folding_stmt as fold-stmt}
use Rattle.fold.proofs.Ends.{optimize_rests}
use Rattle.fold.proofs.Kept.{fold_stmts_every}
use Rattle.clauses.specs.Log.{Log, clauses_of}
use Rattle.clauses.proofs.Since.{clauses_since, top_adds}
use Rattle.clauses.specs.Split.{normalize_and_register_expr}
use Rattle.clauses.proofs.Entries.{WellMade}
use Rattle.clauses.proofs.MergeLaws.{merged_no_ifs}
use Rattle.different.specs.Different.{different_rules, normalize_rules}
use Rattle.answer.specs.Answer.{start_log, normalize_stmt, normalize_stmts}
use Rattle.answer.proofs.Declared.{stmt_well}
use Rattle.answer.proofs.Start.{start_well, start_made}
use Rattle.call.specs.WellRead.{well_declared}
use Rattle.walk.proofs.Grow.{Grows}
use Rattle.walks.specs.Reach.{LightIfs, none_light, rule_light, table_light}
use Rattle.statements.specs.Stages.{Settled, log_of, settled_short}
use Rattle.stages.specs.StatementsParts.{steps, steps_grow, AllWalk}
use Rattle.stages.specs.StatementsPlaces.{stmts_words, parted_of, LegalStmt, PartedFrom, parted_rest, Marked}
use Rattle.stages.specs.Statements.{stmt_stages, stmts_stages, stmt_steps, stmts_steps, stmt_walk, stmts_walk}
use Rattle.stages.specs.StartLegal.{settled_legal}
use Rattle.stages.specs.StartFits.{StmtWithin, settled_within}

-- a folded statement, and how it was read
pub record Folds (p : Problem) (f : Fixed) (t : Stmt) : Type 0 where
  pub origin : Stmt
  pub folded : t ≡ fold-stmt p.domains f origin
  pub well : WellStmt p.bools (length p.domains) origin

-- the set: its words, and its folded statements ss in F
pub record Lent (p : Problem) (f : Fixed) (ss : List Stmt) (set F : List ℤ) (end : ℕ) (with_ifs : Bool) : Type 0 where
  pub words : set ≡ encode p
  pub settled : Settled p f ss
  pub stands : Has F folded (stmts_words ss)
  pub marked : Marked F end with_ifs
  pub ends : end ≡ folded + length (stmts_words ss)

-- v is a declared Boolean, a declared integer
abbrev pub DeclaredBool : Problem → ℕ → Type 0
DeclaredBool p v = v < p.bools

abbrev pub DeclaredInt : Problem → ℕ → Type 0
DeclaredInt p v = v < length p.domains

-- what is left of it: ts from q on, behind the log s. m: merging chosen
pub record Left (m : Bool) (p : Problem) (f : Fixed) (ss : List Stmt) (F : List ℤ) (end q : ℕ) (ts : List Stmt) (s : Log) : Type 0 where
  pub legal : Each LegalStmt ts
  pub within : Each (StmtWithin p.domains) ts
  pub read : Each (Folds p f) ts
  pub every : EveryStmts (DeclaredBool p) (DeclaredInt p) ts
  pub words : Has F q (stmts_words ts)
  pub from : folded ≤ q
  pub place : q + length (stmts_words ts) ≡ end
  pub parted : PartedFrom (parted_of folded ss) q ts
  pub ends : normalize_stmts p.domains ts s ≡ log_of m p ss
  pub made : WellMade p.domains (DeclaredBool p) (DeclaredInt p) s
  pub light : LightIfs p.domains s

-- ---- Ifs stay light

module _ (ds : List Domain) where
  rules_light : (es : List BoolExpr) (s : Log) → LightIfs ds s → LightIfs ds (normalize_rules ds es s)
  unfolding normalize_rules
  rules_light [] s h = h
  rules_light (e ∷ es) s h = rules_light es (normalize_and_register_expr ds e s) (rule_light ds e s h)

  stmt_light : (t : Stmt) (s : Log) → LightIfs ds s → LightIfs ds (normalize_stmt ds t s)
  unfolding normalize_stmt
  stmt_light (Rule e) s h = rule_light ds e s h
  stmt_light (Table es rows) s h = table_light ds es rows s h
  stmt_light (AllDifferent es) s h = rules_light (different_rules ds es) s h

-- ---- all statements

all_read : (p : Problem) (f : Fixed) (ss : List Stmt) → Each (WellStmt p.bools (length p.domains)) ss → Each (Folds p f) (map (fold-stmt p.domains f) ss)
all_read p f [] h = tt
all_read p f (t ∷ ss) h = (record { origin = t; folded = refl; well = h.0 }, all_read p f ss h.1)

stmt_long : (t : Stmt) → 1 ≤ length (encode_stmt t)
unfolding encode_stmt
stmt_long (Rule e) = omega arith
stmt_long (Table es rows) = omega arith
stmt_long (AllDifferent es) = omega arith

module _ (m : Bool) (p : Problem) (f : Fixed) (ss : List Stmt) (set F : List ℤ) (end : ℕ) (with_ifs : Bool) (h : Lent p f ss set F end with_ifs) where
  abbrev ds : List Domain
  ds = p.domains

  pub end_inside : end ≤ folded_end
  end_inside = omega (arith, h.ends, settled_short p f ss h.settled)

  pub left_start : Left m p f ss F end folded ss (start_log m ss)
  left_start =
      let k = h.settled in
      let origin : ss ≡ map (fold-stmt ds f) p.stmts = (optimize_rests p (well_declared p k.well) f ss k.ends).origin in
      let every : EveryStmts (DeclaredBool p) (DeclaredInt p) ss = subst (λ (ts : List Stmt). EveryStmts (DeclaredBool p) (DeclaredInt p) ts) (sym origin) (fold_stmts_every (DeclaredBool p) (DeclaredInt p) ds f p.stmts (well_declared p k.well)) in
      record {
        legal = settled_legal p k.well f ss k.ends;
        within = settled_within p k.well f ss k.ends k.unrefused;
        read = subst (λ (ts : List Stmt). Each (Folds p f) ts) (sym origin) (all_read p f p.stmts k.well.stmts_well);
        every = every;
        words = h.stands;
        from = omega arith;
        place = sym h.ends;
        parted = λ q l. refl;
        ends = refl;
        made = start_made ds (DeclaredBool p) (DeclaredInt p) m ss every;
        light = none_light ds (start_log m ss) (merged_no_ifs (start_log m ss) (start_well m ss));
      }

  module _ (q : ℕ) (s : Log) where
    -- more are left exactly before the end
    pub left_first : {X : Type 0} (ts : List Stmt) → Left m p f ss F end q ts s → q < end → ((t : Stmt) (us : List Stmt) → Left m p f ss F end q (t ∷ us) s → X) → X
    left_first [] k l g = absurd (omega (arith, k.place))
    left_first (t ∷ us) k l g = g t us k

    pub left_end : (ts : List Stmt) → Left m p f ss F end q ts s → end ≤ q → s ≡ log_of m p ss
    unfolding normalize_stmts
    left_end [] k l = k.ends
    left_end (t ∷ us) k l = absurd (omega (arith, k.place, stmt_long t, length-append (encode_stmt t) (stmts_words us)))

    module _ (t : Stmt) (ts : List Stmt) (k : Left m p f ss F end q (t ∷ ts) s) where
      abbrev rest : ℕ
      rest = q + length (encode_stmt t)

      -- where it ends
      pub first_to : rest ≤ end
      first_to = omega (arith, k.place, length-append (encode_stmt t) (stmts_words ts))

      pub first_long : q < rest
      first_long = omega (arith, stmt_long t)

      pub first_words : Has F q (encode_stmt t)
      first_words = has_front F q (encode_stmt t) (stmts_words ts) k.words

      pub left_next : Left m p f ss F end (q + length (encode_stmt t)) ts (normalize_stmt p.domains t s)
      unfolding normalize_stmts EveryStmts
      left_next = record {
        legal = k.legal.1;
        within = k.within.1;
        read = k.read.1;
        every = k.every.1;
        words = has_back F q (encode_stmt t) (stmts_words ts) k.words;
        from = omega (arith, k.from);
        place = omega (arith, k.place, length-append (encode_stmt t) (stmts_words ts));
        parted = parted_rest (parted_of folded ss) q t ts k.legal k.parted;
        ends = k.ends;
        made = stmt_well ds (DeclaredBool p) (DeclaredInt p) t k.every.0 s k.made;
        light = stmt_light ds t s k.light;
      }

      -- ---- the log grows

      walks : AllWalk ds F (parted_of folded ss) 0 0 with_ifs [] (omega arith) (stmt_stages ds 0 0 F q t [])
      walks = stmt_walk ds F (parted_of folded ss) 0 0 with_ifs [] (omega arith) end end_inside h.marked q t ts k.legal k.parted first_words k.from first_to [] tt

      pub first_grows : Grows s (normalize_stmt ds t s)
      first_grows =
          let e : steps (stmt_stages ds 0 0 F q t []) s ≡ normalize_stmt ds t s = stmt_steps ds 0 0 F q t [] s ∙ (unfold steps in refl) in
          subst (λ (z : Log). Grows s z) e (steps_grow ds F (parted_of folded ss) 0 0 with_ifs [] (omega arith) (stmt_stages ds 0 0 F q t []) walks s)

      -- the clauses behind it
      pub first_clauses : clauses_of (normalize_stmt p.domains t s) ≡ clauses_of s ++ clauses_since s (normalize_stmt p.domains t s)
      first_clauses = top_adds first_grows.top

    -- up to the whole set's
    pub left_grows : (ts : List Stmt) → Left m p f ss F end q ts s → Grows s (log_of m p ss)
    left_grows ts k =
        let a = stmts_walk ds F (parted_of folded ss) 0 0 with_ifs [] (omega arith) end end_inside h.marked q ts k.legal k.parted k.words k.from (omega (arith, k.place)) in
        let e : steps (stmts_stages ds 0 0 F q ts) s ≡ log_of m p ss = stmts_steps ds 0 0 F q ts s ∙ k.ends in
        subst (λ (z : Log). Grows s z) e (steps_grow ds F (parted_of folded ss) 0 0 with_ifs [] (omega arith) (stmts_stages ds 0 0 F q ts) a s)
