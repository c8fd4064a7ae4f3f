use borrow.Author.Rules.{rules}
use mathlib.Core.Path.{◌≡◌, sym, ap, ◌∙◌}
use native.Mathlib.Omega.{arith}
use mathlib.Core.Bool.{true}
use Prim.Native.Nat.{◌+◌, ◌-◌}
use mir.Syntax.{w32}
use mir.Val.{SFits}
use lib.ListN.{length}
use Rattle.laws.specs.Writes.{wrote_length}
use Rattle.walk.specs.Item.{Tally}
use Rattle.walk.specs.Decode.{read_part}
use Rattle.walks.specs.Item.{pools}
use Rattle.walks.specs.Decode.{many, decode}
use Rattle.scan.specs.Skip.{split_by}
use Rattle.output.proofs.Laws.{open_next, put_word}
use Rattle.rulewriter.specs.Places.{items_at}
use Rattle.rulewriter.proofs.PoolLaws.{items_lits, pool_clause}
use Rattle.rulewriter.proofs.put_pool.Lts
use Rattle.rulewriter.proofs.put_pool.Tie
use Rattle.rulewriter.proofs.put_pool.Reads
use Rattle.rulewriter.proofs.put_pool.Goals as goal

abbrev After-word_of : Type 0
After-word_of = Lts.After-word_of Tie.the-claims Reads.Pre Reads.Post Tie.handed_clauses

abbrev After-word_of2 : Type 0
After-word_of2 = Lts.After-word_of2 Tie.the-claims Reads.Pre Reads.Post Tie.handed_clauses

word_fits : (c : After-word_of) → SFits w32 c.word_of.result
word_fits c = search rules

word-fits-2 : (c : After-word_of2) → SFits w32 c.word_of-2.result
word-fits-2 c = search rules

pub overflow_add-y : goal.overflow_add-y
overflow_add-y c = omega (arith, c.requires.tallied.0.room)

pub overflow_sub-y : goal.overflow_sub-y
overflow_sub-y c = omega (arith, c.requires.tallied.1.inside)

pub overflow_add-y-2 : goal.overflow_add-y-2
overflow_add-y-2 c = omega (arith, c.requires.tallied.0.room, c.requires.tallied.1.inside)

pub put-a-requires : goal.put-a-requires
put-a-requires c = c.requires.placed.1

pub pools-b-requires : goal.pools-b-requires
pools-b-requires c = record { placed = (c.requires.placed.0, open_next c.requires.placed.1 c.put-a.ensures, c.requires.placed.2); j_value = ap (λ (t : Tally). t.lits) c.requires.tallied.0.unit }

pub put_block-c-requires : goal.put_block-c-requires
put_block-c-requires c = (omega (arith, c.requires.tallied.0.room, c.requires.tallied.2), open_next (open_next c.requires.placed.1 c.put-a.ensures) c.pools-b.ensures)

pub put_suffix-d-requires : goal.put_suffix-d-requires
put_suffix-d-requires c = (c.requires.tallied.1, open_next (open_next (open_next c.requires.placed.1 c.put-a.ensures) c.pools-b.ensures) c.put_block-c.ensures)

pub put-e-requires : goal.put-e-requires
put-e-requires c = open_next (open_next (open_next (open_next c.requires.placed.1 c.put-a.ensures) c.pools-b.ensures) c.put_block-c.ensures) c.put_suffix-d.ensures

pub pools-requires : goal.pools-requires
pools-requires c = record { placed = (c.requires.placed.0, open_next (open_next (open_next (open_next (open_next c.requires.placed.1 c.put-a.ensures) c.pools-b.ensures) c.put_block-c.ensures) c.put_suffix-d.ensures) c.put-e.ensures, c.requires.placed.2); j_value = ap (λ (t : Tally). t.cmps) c.requires.tallied.0.unit }

pub shape_of-out : goal.shape_of-out
shape_of-out c = wrote_length c.pools.ensures ∙ wrote_length c.put-e.ensures ∙ wrote_length c.put_suffix-d.ensures ∙ wrote_length c.put_block-c.ensures ∙ wrote_length c.pools-b.ensures ∙ wrote_length c.put-a.ensures

pub returns : goal.returns
returns c =
    let a = c.args in
    let w = a.work.now in
    let i : length (pools (items_at w a.left (split_by a.m) a.count a.g a.h a.at a.base) true w a.n) ≡ a.x.lits =
    items_lits (many (decode (read_part w) a.left (split_by a.m)) a.count a.g a.h a.at a.base).trees w a.n ∙ sym (ap (λ (t : Tally). t.lits) c.requires.tallied.0.unit) in
    pool_clause a.s (a.x.lits + a.x.longs + (64 - a.s.from)) a.x.longs a.x.cmps a.block _ _ c.requires.placed.1 c.requires.tallied.1 (omega (arith, i, c.requires.tallied.0.room)) (omega (arith, c.requires.tallied.0.room)) (omega (arith, i)) (omega (arith, c.requires.tallied.0.room))
    (put_word (word_fits c.before.before.before.before.before.before.before.before.before.before.before.before.before.before.before.before.before.before) c.word_of.ensures c.put-a.ensures) c.pools-b.ensures c.put_block-c.ensures c.put_suffix-d.ensures (put_word (word-fits-2 c.before.before.before.before.before) c.word_of-2.ensures c.put-e.ensures) c.pools.ensures
