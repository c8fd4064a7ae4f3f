use Rattle.join.specs.Found.{statement_stands}
use Rattle.join.proofs.FindLaws.{cut_first, cut_second, cut_none}
use borrow.Author.Rules.{rules}
use Rattle.join.proofs.joined_statement.Goals as goal

pub offset_bounds-first-from : goal.offset_bounds-first-from
offset_bounds-first-from c = let q = (cut_first c.args.first.now c.args.second.now _ _ (statement_stands _ _ _ _) c.find_place-p.ensures.place c.if-p-eq1.true).0 in let o = q.order in let i = q.inside in search rules

pub slice_bounds-result-count : goal.slice_bounds-result-count
slice_bounds-result-count c = (cut_first c.args.first.now c.args.second.now _ _ (statement_stands _ _ _ _) c.find_place-p.ensures.place c.if-p-eq1.true).0.order

pub returns-then-p-eq1 : goal.returns-then-p-eq1
returns-then-p-eq1 c = let q = cut_first c.args.first.now c.args.second.now _ _ (statement_stands _ _ _ _) c.find_place-p.ensures.place c.if-p-eq1.true in record { result_value = q.0.are; ref_ptr_value = q.1 _ _; work_after = c.find_place-p.ensures.zeroed }

pub offset_bounds-second-from : goal.offset_bounds-second-from
offset_bounds-second-from c = let q = (cut_second c.args.first.now c.args.second.now _ _ (statement_stands _ _ _ _) c.find_place-p.ensures.place c.if-p-eq2.true).0 in let o = q.order in let i = q.inside in search rules

pub slice_bounds-result-count-then-p-eq2 : goal.slice_bounds-result-count-then-p-eq2
slice_bounds-result-count-then-p-eq2 c = (cut_second c.args.first.now c.args.second.now _ _ (statement_stands _ _ _ _) c.find_place-p.ensures.place c.if-p-eq2.true).0.order

pub returns-then-p-eq2 : goal.returns-then-p-eq2
returns-then-p-eq2 c = let q = cut_second c.args.first.now c.args.second.now _ _ (statement_stands _ _ _ _) c.find_place-p.ensures.place c.if-p-eq2.true in record { result_value = q.0.are; ref_ptr_value = q.1 _ _; work_after = c.find_place-p.ensures.zeroed }

pub returns : goal.returns
returns c = let q = cut_none c.args.first.now c.args.second.now _ _ c.find_place-p.ensures.place c.if-p-eq1.false c.if-p-eq2.false in record { result_value = q.0; ref_ptr_value = q.1 _ _; work_after = c.find_place-p.ensures.zeroed }

pub slice_bounds-result-start : goal.slice_bounds-result-start
slice_bounds-result-start c = (cut_first c.args.first.now c.args.second.now _ _ (statement_stands _ _ _ _) c.find_place-p.ensures.place c.if-p-eq1.true).0.order

pub slice_bounds-result-end : goal.slice_bounds-result-end
slice_bounds-result-end c = (cut_first c.args.first.now c.args.second.now _ _ (statement_stands _ _ _ _) c.find_place-p.ensures.place c.if-p-eq1.true).0.inside

pub slice_bounds-result-start-then-p-eq2 : goal.slice_bounds-result-start-then-p-eq2
slice_bounds-result-start-then-p-eq2 c = (cut_second c.args.first.now c.args.second.now _ _ (statement_stands _ _ _ _) c.find_place-p.ensures.place c.if-p-eq2.true).0.order

pub slice_bounds-result-end-then-p-eq2 : goal.slice_bounds-result-end-then-p-eq2
slice_bounds-result-end-then-p-eq2 c = (cut_second c.args.first.now c.args.second.now _ _ (statement_stands _ _ _ _) c.find_place-p.ensures.place c.if-p-eq2.true).0.inside
