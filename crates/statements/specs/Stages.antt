-- What every later walk may take for granted: a set that was accepted and settled, and the work slice before and after merging.
use Rattle.std.specs.Prelude.{◌≡◌, Bool, List, [], ◌∷◌, map, ℕ, ◌+◌, ◌*◌, ◌≤◌, ◌<◌, ℤ, pos, get_or}
use Rattle.std.proofs.Common.{arith}
use Rattle.std.proofs.Math.ListN.{length, length-append}
use Rattle.laws.specs.Lists.{flat, counted}
use Rattle.laws.specs.Slices.{Has}
use Rattle.memory.specs.Places.{folded as folded-place}
use Rattle.syntax.specs.Words.{max_set_words, max_bools}
use Rattle.syntax.specs.Syntax.{Domain, Range, Enumerative, Stmt, encode_domain, encode_stmt, Problem, encode}
use Rattle.words.specs.Exact.{Each}
use Rattle.read.specs.WellFormed.{WellDomain, WellFormed}
use Rattle.limits.specs.Limits.{check}
use Rattle.fold.specs.Fold.{Fixed, constant_folding_stmt as fold-stmt}
use Rattle.fold.specs.Optimize.{settled, optimize}
use Rattle.fold.proofs.Ends.{optimize_rests}
use Rattle.fold.proofs.Kept.{fold_stmts_size}
use Rattle.clauses.specs.Log.{Log}
use Rattle.answer.specs.Answer.{fixed_word, start_log, normalize_stmts}
use Rattle.call.specs.WellRead.{well_declared}
use Rattle.walk.specs.Decode.{read_part}
use Rattle.walk.proofs.Num.{Numbered}
use Rattle.statements.specs.Whole.{Empty, start}

abbrev pub stmts_words : List Stmt → List ℤ
stmts_words ss = flat (map encode_stmt ss)

-- ---- an accepted set that settles with fixed values f and folded statements ss

pub record Settled (p : Problem) (f : Fixed) (ss : List Stmt) : Type 0 where
  pub well : WellFormed p
  pub unrefused : check p ≡ 0
  pub short : length (encode p) ≤ max_set_words
  pub ends : optimize p ≡ settled f ss

-- its log; m: merging chosen
abbrev pub log_of : Bool → Problem → List Stmt → Log
log_of m p ss = normalize_stmts p.domains ss (start_log m ss)

-- ---- its words

domains_words : (ds : List Domain) → Each WellDomain ds → 3 * length ds ≤ length (flat (map encode_domain ds))
domains_words [] w = omega arith
domains_words (Range low high ∷ ds) w = omega (arith, domains_words ds w.1)
domains_words (Enumerative xs ∷ ds) w = omega (arith, domains_words ds w.1, w.0.0, length-append xs (flat (map encode_domain ds)))

module _ (p : Problem) (f : Fixed) (ss : List Stmt) (s : Settled p f ss) where
  abbrev origin : ss ≡ map (fold-stmt p.domains f) p.stmts
  origin = (optimize_rests p (well_declared p s.well) f ss s.ends).origin

  -- how many words the folded statements take, beside three for each domain
  pub settled_short : 3 * length p.domains + length (stmts_words ss) + 3 ≤ max_set_words
  unfolding encode
  settled_short =
      let a : length (stmts_words ss) ≤ length (stmts_words p.stmts) = rw origin (fold_stmts_size p.domains f p.stmts) in
      let b = domains_words p.domains s.well.domains_well in
      omega (arith, a, b, s.short, length-append (counted encode_domain p.domains) (counted encode_stmt p.stmts))

-- ---- the work slice

-- before numbering: the fixed values, the folded statements, empty maps
pub record Folded (p : Problem) (f : Fixed) (ss : List Stmt) (w : List ℤ) : Type 0 where
  pub set : Settled p f ss
  pub values : (v : ℕ) → v < max_bools → get_or w v (pos 0) ≡ fixed_word (f v)
  pub stands : Has (read_part w) folded-place (stmts_words ss)
  pub empty : Empty w

-- after merging, if it was chosen: the map of the log from which clauses are made; n: how many numbers it has
pub record Started (m : Bool) (p : Problem) (f : Fixed) (ss : List Stmt) (w : List ℤ) (n : ℕ) : Type 0 where
  pub set : Settled p f ss
  pub values : (v : ℕ) → v < max_bools → get_or w v (pos 0) ≡ fixed_word (f v)
  pub stands : Has (read_part w) folded-place (stmts_words ss)
  pub numbered : Numbered (start w n) (start_log m ss)

-- ---- what a walk is lent: some such set

-- end: where the folded statements end
pub record SomeFolded (w : List ℤ) (end : ℕ) : Type 0 where
  pub it : Problem
  pub fixed : Fixed
  pub stmts : List Stmt
  pub folded : Folded it fixed stmts w
  pub ends : end ≡ folded-place + length (stmts_words stmts)
