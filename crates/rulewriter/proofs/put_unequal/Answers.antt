use Rattle.laws.specs.Writes.{wrote_length}
use Rattle.output.proofs.Laws.{open_next}
use Rattle.rulewriter.proofs.Pairs.{linear_first, linear_second, words_fit, unequal_text, unequal_count}
use mathlib.Core.Path.{◌∙◌}
use Rattle.rulewriter.proofs.put_unequal.Goals as goal

pub put-a-requires : goal.put-a-requires
put-a-requires c = c.requires.2

pub put-b-requires : goal.put-b-requires
put-b-requires c = open_next c.requires.2 c.put-a.ensures

pub linear_of-x-requires : goal.linear_of-x-requires
linear_of-x-requires c = let h = c.requires.0 in (h.size, (h.inside, (h.low_base, (h.low, linear_first c.args.work.now c.args.p c.args.q c.args.base c.args.n c.requires.3))))

pub less_side-y-requires : goal.less_side-y-requires
less_side-y-requires c = let h = c.requires in (h.0.size, (h.1, linear_second c.args.work.now c.args.p c.args.q c.args.base c.args.n h.3 _ c.linear_of-x.ensures))

pub put_linear-c-requires : goal.put_linear-c-requires
put_linear-c-requires c = let h = c.requires in let l = words_fit c.args.work.now c.args.p c.args.q c.args.base c.args.n h.3 _ c.linear_of-x.ensures _ c.less_side-y.ensures in (l.0, l.1, open_next (open_next h.2 c.put-a.ensures) c.put-b.ensures)

pub shape_of-out : goal.shape_of-out
shape_of-out c = wrote_length c.put_linear-c.ensures ∙ wrote_length c.put-b.ensures ∙ wrote_length c.put-a.ensures

pub returns : goal.returns
returns c = let h = c.requires in (unequal_text c.args.work.now c.args.p c.args.q c.args.base c.args.n h.3 _ c.linear_of-x.ensures _ c.less_side-y.ensures h.2.room c.put-a.ensures c.put-b.ensures c.put_linear-c.ensures, unequal_count c.args.work.now c.args.p c.args.q c.args.base c.args.n h.3 _ c.linear_of-x.ensures _ c.less_side-y.ensures, c.less_side-y.ensures.behind.low)
