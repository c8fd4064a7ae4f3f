use borrow.Author.Rules.{rules}
use mathlib.Core.Path.{◌≡◌, sym, ap, ◌∙◌}
use native.Mathlib.Omega.{arith}
use mathlib.Core.Bool.{true}
use Prim.Native.Nat.{◌+◌}
use mir.Syntax.{w32}
use mir.Val.{SFits}
use lib.ListN.{length}
use Rattle.laws.specs.Writes.{wrote_length}
use Rattle.walk.specs.Item.{Tally}
use Rattle.walk.specs.Decode.{read_part}
use Rattle.walks.specs.Decode.{decode}
use Rattle.scan.specs.Skip.{split_by}
use Rattle.output.proofs.Laws.{open_next, put_word}
use Rattle.rulewriter.specs.Places.{item_at}
use Rattle.rulewriter.proofs.PoolLaws.{item_lits}
use Rattle.rulewriter.proofs.Making.{single_clause}
use Rattle.rulewriter.proofs.put_single.Lts
use Rattle.rulewriter.proofs.put_single.Tie
use Rattle.rulewriter.proofs.put_single.Reads
use Rattle.rulewriter.proofs.put_single.Goals as goal

abbrev After-word_of : Type 0
After-word_of = Lts.After-word_of Tie.the-claims Reads.Pre Reads.Post Tie.handed_clauses

abbrev After-word_of2 : Type 0
After-word_of2 = Lts.After-word_of2 Tie.the-claims Reads.Pre Reads.Post Tie.handed_clauses

abbrev After-word_of3 : Type 0
After-word_of3 = Lts.After-word_of3 Tie.the-claims Reads.Pre Reads.Post Tie.handed_clauses

word_fits : (c : After-word_of) → SFits w32 c.word_of.result
word_fits c = search rules

word-fits-2 : (c : After-word_of2) → SFits w32 c.word_of-2.result
word-fits-2 c = search rules

word-fits-3 : (c : After-word_of3) → SFits w32 c.word_of-3.result
word-fits-3 c = search rules

pub overflow_add-p : goal.overflow_add-p
overflow_add-p c = omega (arith, c.requires.v_le_limit.3)

pub put-a-requires : goal.put-a-requires
put-a-requires c = c.requires.placed.1

pub overflow_add-v : goal.overflow_add-v
overflow_add-v c = omega (arith, c.requires.v_le_limit.0)

pub put-b-requires : goal.put-b-requires
put-b-requires c = open_next c.requires.placed.1 c.put-a.ensures

pub pool-c-requires : goal.pool-c-requires
pool-c-requires c = record { placed = (c.requires.placed.0, open_next (open_next c.requires.placed.1 c.put-a.ensures) c.put-b.ensures, c.requires.placed.2); base_value = (sym (ap (λ (t : Tally). t.longs) c.requires.v_le_limit.2) ∙ c.requires.v_le_limit.1, ap (λ (t : Tally). t.lits) c.requires.v_le_limit.2) }

pub put-d-requires : goal.put-d-requires
put-d-requires c = open_next (open_next (open_next c.requires.placed.1 c.put-a.ensures) c.put-b.ensures) c.pool-c.ensures

pub pool-requires : goal.pool-requires
pool-requires c = record { placed = (c.requires.placed.0, open_next (open_next (open_next (open_next c.requires.placed.1 c.put-a.ensures) c.put-b.ensures) c.pool-c.ensures) c.put-d.ensures, c.requires.placed.2); base_value = (sym (ap (λ (t : Tally). t.longs) c.requires.v_le_limit.2) ∙ c.requires.v_le_limit.1, ap (λ (t : Tally). t.cmps) c.requires.v_le_limit.2) }

pub shape_of-out : goal.shape_of-out
shape_of-out c = wrote_length c.pool.ensures ∙ wrote_length c.put-d.ensures ∙ wrote_length c.pool-c.ensures ∙ wrote_length c.put-b.ensures ∙ wrote_length c.put-a.ensures

pub returns : goal.returns
returns c =
    let a = c.args in
    let w = a.work.now in
    let i : length ((item_at w a.left (split_by a.m) a.g a.at a.base).pool true w a.n) ≡ a.p.lits =
    item_lits (decode (read_part w) a.left (split_by a.m) a.g a.at a.base).tree w a.n ∙ sym (ap (λ (t : Tally). t.lits) c.requires.v_le_limit.2) in
    single_clause (a.p.lits + 1) a.p.cmps _ _ _ c.requires.placed.1 (omega (arith, i, c.requires.v_le_limit.3)) (omega (arith, i)) (omega (arith, c.requires.v_le_limit.3))
    (put_word (word_fits c.before.before.before.before.before.before.before.before.before.before.before.before.before.before.before.before) c.word_of.ensures c.put-a.ensures) (put_word (word-fits-2 c.before.before.before.before.before.before.before.before.before.before.before.before) c.word_of-2.ensures c.put-b.ensures) c.pool-c.ensures (put_word (word-fits-3 c.before.before.before.before.before) c.word_of-3.ensures c.put-d.ensures) c.pool.ensures
