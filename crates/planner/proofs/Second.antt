-- The clauses by the slice that the first walk leaves, in either way of the second: what its functions ask, and what they give.
use mathlib.Core.Path.{◌≡◌, ◌∙◌, subst}
use mathlib.Core.Bool.{Bool, true, false}
use mathlib.Core.List.{List}
use Prim.Native.Nat.{ℕ}
use native.Mathlib.Omega.{arith}
use lib.IntN.{ℤ}
use Rattle.syntax.specs.Syntax.{Stmt, Problem}
use Rattle.fold.specs.Fold.{Fixed}
use Rattle.answer.specs.Answer.{start_log}
use Rattle.walk.specs.Decode.{read_part}
use Rattle.walks.specs.Item.{has_ifs}
use Rattle.stages.specs.Start.{Begun}
use Rattle.numbering.specs.declared.Room.{Room}
use Rattle.setwriter.specs.Statements.{Lent}
use Rattle.setwriter.specs.Begin.{SomeSettles, Begins}
use Rattle.setwriter.specs.Step.{SomeAllMapped, WrittenAll}
use Rattle.setwriter.specs.Again.{Starts, SomeStarts, RewroteAll}
use Rattle.planner.specs.Steps.{Numbered, SomeNumbered, WritesClauses}
use Rattle.planner.proofs.Prepared.{begins_stays, ifs_stay, settles, prepared_stays, begun}

module _ (merge : Bool) (set' w : List ℤ) (end : ℕ) (room : Room) (from : ℕ) (out : List ℤ) (o : ℕ) where
  pub begin_asks : SomeNumbered merge set' w end room from out o → SomeSettles w end
  begin_asks s = record { it = s.it; fixed = s.fixed; stmts = s.stmts; settles = settles s.numbered.prepared }

  -- ---- from the maps, where no If stands

  pub maps_ask : has_ifs w ≡ false → SomeNumbered merge set' w end room from out o → SomeAllMapped set' w end from out o
  maps_ask off s = record { merge = merge; it = s.it; fixed = s.fixed; stmts = s.stmts; mapped = s.numbered.mapped off }

  pub by_maps : has_ifs w ≡ false → {w' out' : List ℤ} {o' k' : ℕ} → WrittenAll set' w end from out o w' out' o' k' → WritesClauses merge set' w end room from out o out' 0 o' k'
  by_maps off r p f ss h = record { words = omega arith; clauses = λ l. r.clauses merge p f ss (h.mapped off) }

  -- ---- numbered again, from w' on

  module _ (on : has_ifs w ≡ true) (w' : List ℤ) (n : ℕ) (b : Begins merge w end w' n) where
    starts : (p : Problem) (f : Fixed) (ss : List Stmt) → Numbered merge p f ss set' w end room from out o → Starts merge p f ss set' w' end room n out o
    starts p f ss h =
        let x = prepared_stays h.prepared (begins_stays b) in
        let i : has_ifs w' ≡ true = ifs_stay (begins_stays b) ∙ on in
        record {
          lent = subst (λ (t : Bool). Lent p f ss set' (read_part w') end t) i x.lent;
          domains = x.domains;
          small = h.small;
          records = h.records;
          begun = subst (λ (t : Bool). Begun (read_part w') t w' n (start_log merge ss)) i (begun h.prepared b);
          room_behind = h.behind;
        }

    pub again_asks : SomeNumbered merge set' w end room from out o → SomeStarts set' w' end room n out o
    again_asks s = record { merge = merge; it = s.it; fixed = s.fixed; stmts = s.stmts; starts = starts s.it s.fixed s.stmts s.numbered }

    pub again : {w'' out' : List ℤ} {used o' k' : ℕ} → RewroteAll set' w' end room n out o w'' out' used o' k' → WritesClauses merge set' w end room from out o out' used o' k'
    again r p f ss h = record { words = r.words merge p f ss (starts p f ss h); clauses = r.clauses merge p f ss (starts p f ss h) }
