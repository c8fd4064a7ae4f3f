use mathlib.Core.Path.{◌≡◌, ap, ◌∙◌}
use Prim.Native.Nat.{◌+◌, ◌-◌}
use native.Mathlib.Omega.{arith}
use lib.ListN.{drop}
use lib.Seq.{paste}
use Rattle.tablewriter.proofs.Copying.{copied}
use Rattle.tablewriter.proofs.copy_words.Goals as goal

pub returns : goal.returns
returns c =
    let a = c.args in
    let n : a.from + a.count - a.from ≡ a.count = omega arith in
    c.copy_within.ensures.after ∙ ap (paste a.work.now a.to (drop a.from a.work.now)) n ∙ copied a.work.now a.from a.to a.count c.requires.0 c.requires.1
