-- All folded statements numbered, from the state before the first: what `number_statements` asks holds of an accepted set that settles (`start_asks`), and it
-- leaves the state behind the last one that stages' parts leave, or both walks are full (`start_agrees`).
use Rattle.std.specs.Prelude.{refl, Bool, ℕ, ◌+◌, ◌*◌, ◌≤◌, ◌<◌, ℤ, length}
use Rattle.std.proofs.Common.{sym, arith}
use Rattle.std.proofs.Math.Path.{subst}
use mathlib.Core.List.{List}
use Rattle.memory.specs.Places.{folded, folded_end, limit}
use Rattle.syntax.specs.Syntax.{Domain, Stmt, Problem}
use Rattle.words.specs.Exact.{Each}
use Rattle.fold.specs.Fold.{Fixed}
use Rattle.answer.specs.Answer.{start_log}
use Rattle.walk.specs.Decode.{read_part}
use Rattle.walks.specs.Meet.{State}
use Rattle.stages.specs.StatementsParts.{meet_parts, Stage, parts, rooms, Standing, standing_less}
use Rattle.stages.specs.StatementsPlaces.{stmts_words, parted_of}
use Rattle.stages.specs.Statements.{stmts_stages, stmts_rooms}
use Rattle.stages.specs.Start.{start, Begun}
use Rattle.stages.specs.StartFits.{StmtWithin}
use Rattle.stages.specs.Whole.{records_from, set_stages, behind, Walkable, cap_low, begins}
use Rattle.declared.specs.DomainTable.{Declares}
use Rattle.stmtwords.specs.Stands.{WellRows}
use Rattle.numbering.specs.Follow.{Agree}
use Rattle.setnumbers.specs.Numbered.{StandAll, AsksAll, DoneAll, all_ask, all_agree}

-- ss: the statements that the passes leave of p, F: the folded words; w, n: the work slice and how many numbers merging gave. m: merging chosen
module _ (m : Bool) (p : Problem) (f : Fixed) (ss : List Stmt) (F : List ℤ) (with_ifs : Bool) (cap : ℕ) (set : Walkable p ss F with_ifs cap) (within : Each (StmtWithin p.domains) ss) (rows : Each WellRows ss)
    (w : List ℤ) (n : ℕ) (begun : Begun F with_ifs w n (start_log m ss)) (declares : Declares p.domains w) where
  abbrev ds : List Domain
  ds = p.domains

  abbrev rec : ℕ
  rec = records_from p

  abbrev end : ℕ
  end = folded + length (stmts_words ss)

  -- the folded words as the slice has them
  read : Walkable p ss (read_part w) with_ifs cap
  read = subst (λ (G : List ℤ). Walkable p ss G with_ifs cap) (sym begun.words) set

  stand : StandAll w folded end ss
  stand = record { words = read.stands; legal = set.legal; rows = rows; stop = refl }

  abbrev stages : List Stage
  stages = stmts_stages ds rec cap (read_part w) folded ss

  abbrev low : cap < limit
  low = cap_low m p f ss (read_part w) with_ifs cap read

  standing : (out : List ℤ) → Standing ds (read_part w) (parted_of folded ss) rec cap with_ifs out low folded (rooms stages + 0) (start w out n) (start_log m ss)
  standing out =
      let b = subst (λ (G : List ℤ). Begun G with_ifs w n (start_log m ss)) (sym begun.words) begun in
      standing_less ds (read_part w) (parted_of folded ss) rec cap with_ifs out low folded folded (49152 * length (stmts_words ss)) (rooms stages + 0) (start w out n) (start_log m ss) (omega arith) (omega (arith, stmts_rooms ds rec cap (read_part w) folded ss set.short))
      (begins m p f ss (read_part w) with_ifs cap read w n b out)

  inside : end ≤ folded_end
  inside = omega (arith, set.short)

  pub start_asks : (out : List ℤ) → AsksAll (records_from p) cap folded (folded + length (stmts_words ss)) (start w out n)
  start_asks out =
      all_ask ds (parted_of folded ss) rec cap with_ifs out low folded end inside (start w out n) ss stand within (omega arith) (λ q l. refl) read.marked 0 (start_log m ss) (standing out) (omega arith) (omega (arith, set.few_bools, set.few_ints)) declares

  pub start_agrees : (out : List ℤ) (st' : State) → DoneAll (records_from p) cap folded (folded + length (stmts_words ss)) (start w out n) st' → Agree cap st' (behind p ss F cap (start w out n))
  unfolding behind set_stages
  start_agrees out st' x =
      subst (λ (G : List ℤ). Agree cap st' (meet_parts (parts (stmts_stages ds rec cap G folded ss)) (start w out n))) begun.words
      (all_agree ds (parted_of folded ss) rec cap with_ifs out low folded end inside (start w out n) ss stand within (omega arith) (λ q l. refl) read.marked 0 (start_log m ss) (standing out) (omega arith) declares st' x)
