-- The word for Ifs marks every legal If of the folded statements, so a settled set whose words are so marked is one that the second walk takes (`lent`).
use Rattle.std.specs.Prelude.{◌≡◌, true, List, ℕ, ℤ, pos, get_or}
use Rattle.laws.specs.Slices.{Has}
use Rattle.memory.specs.Places.{ifs_word}
use Rattle.syntax.specs.Syntax.{IntExpr, IConst, IVar, Linear, If, encode_int, Stmt, Problem, encode}
use Rattle.fold.specs.Fold.{Fixed}
use Rattle.walk.specs.Decode.{read_part}
use Rattle.walks.specs.Item.{has_ifs}
use Rattle.marking.specs.Mark.{mark_of, if_marks}
use Rattle.stages.specs.LegalKeys.{LegalIf}
use Rattle.stages.specs.StatementsPlaces.{Marked}
use Rattle.setwriter.specs.Statements.{Lent}
use Rattle.setwriter.specs.Begin.{Settles}

marks : (w : List ℤ) (end : ℕ) → get_or w ifs_word (pos 0) ≡ mark_of w end → Marked (read_part w) end (has_ifs w)
marks w end e q x i h l k = go x i h
  where
    go : (x : IntExpr) → LegalIf x → Has (read_part w) q (encode_int x) → has_ifs w ≡ true
    go (IConst c) i h = absurd i.0
    go (IVar v) i h = absurd i.0
    go (Linear ts) i h = absurd i.0
    go (If r c t f) i h = if_marks w end q l k r c t f i.1 h w e

pub lent : (p : Problem) (f : Fixed) (ss : List Stmt) (set w : List ℤ) (end : ℕ) → Settles p f ss w end → set ≡ encode p → get_or w ifs_word (pos 0) ≡ mark_of w end → Lent p f ss set (read_part w) end (has_ifs w)
lent p f ss set w end h e m = record {
  words = e;
  settled = h.set;
  stands = h.stands;
  marked = marks w end m;
  ends = h.ends;
}
