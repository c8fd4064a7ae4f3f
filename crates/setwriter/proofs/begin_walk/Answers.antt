use mathlib.Core.Path.{sym, subst}
use mathlib.Core.List.{List}
use lib.IntN.{ℤ}
use Rattle.statements.specs.Stages.{SomeFolded}
use Rattle.setwriter.proofs.Begin.{some_folded, begins}
use Rattle.setwriter.proofs.begin_walk.Goals as goal

pub merge_equivalent_variables-requires : goal.merge_equivalent_variables-requires
merge_equivalent_variables-requires c =
    let s = c.requires in
    subst (λ (l : List ℤ). SomeFolded l c.args.end) (sym c.clear_words.ensures) (some_folded _ s.settles.size s.it s.fixed s.stmts _ s.settles)

pub returns : goal.returns
returns c = begins _ c.requires.settles.size c.clear_words.ensures c.merge_equivalent_variables.ensures
