-- The extras of an expression, as the code writes them.
use Rattle.std.specs.Prelude.{ℕ, false, List, [], ℤ}
use Rattle.walk.specs.Item.{bump}
use Rattle.walk.specs.Decode.{read_part}
use Rattle.walk.specs.declared.Counters.{Counters}
use Rattle.walks.specs.Tree.{below}
use Rattle.walks.specs.Form.{Forms}
use Rattle.walks.specs.Item.{counters, form_items}
use Rattle.walks.specs.Decode.{decode}
use Rattle.rulewriter.specs.Making.{Listed}
use Rattle.rulewriter.specs.declared.Tied.{Tied}

-- the blocks of forms one after another
pub record Blocks (w : List ℤ) (ts : Forms) (n : Counters) (out : List ℤ) (o : ℕ) (out' : List ℤ) (r : Tied) : Type 0 where
  pub listed : Listed w (form_items [] ts) n out o out' r.n r.lines r.o

-- nothing is written
abbrev pub no_extras : ℕ → ℕ → Counters → ℕ → Tied
no_extras at base n o = record { at = at; base = base; n = n; lines = 0; o = o }

-- what was written in two parts, b behind a
abbrev pub two_extras : Tied → Tied → Tied
two_extras a b = record { at = b.at; base = b.base; n = b.n; lines = bump a.lines b.lines; o = b.o }

-- the counters behind the numbers of a rule's splitting
abbrev pub behind_rule : List ℤ → ℕ → Counters → Counters
behind_rule w at n = counters (decode (read_part w) 64 below false at n.bools).next n.ints
