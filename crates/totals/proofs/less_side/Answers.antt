-- The difference with the sum of the second side, or with its one number or constant.
-- the side's constant is a word, and its arrays have 64 places
use mathlib.Core.Path.{sym, ◌∙◌}
use borrow.Author.Rules.{rules}
use mir.Syntax.{w32}
use mir.Val.{SFits}
use mir.Facts.{to_z-of_z}
use Rattle.sums.specs.Struct.{sum_of}
use Rattle.sums.proofs.Laws.{stands_sum}
use Rattle.scan.specs.Skip.{split_by}
use Rattle.totals.specs.Lone.{sum_in, lone_words}
use Rattle.totals.proofs.Steps.{lone_is, less_asks, less_is}
use Rattle.totals.proofs.less_side.Goals as goal

pub linear_of-b-requires : goal.linear_of-b-requires
linear_of-b-requires c =
    let p = c.requires in
    let h = p.1.1 in
    (p.0, (p.1.0, (h.low, (h.low_counters, record { domains = h.domains; steps = h.steps }))))

pub add_sum-d-requires : goal.add_sum-d-requires
add_sum-d-requires c =
    let a = c.args in
    let b = c.linear_of-b in
    let h = c.requires.1.1 in
    let l : SFits w32 c.args.a.sum.constant = search rules in
    let q = less_asks a.work.now a.left (split_by a.m) a.q a.a h (sum_of b.result.sum) (λ ds. stands_sum b.result.sum _ (b.ensures.sum ds)) in
    rw (to_z-of_z l) (h.room, (b.ensures.sum h.domains).room, (search rules, search rules), q.0, q.1)

pub returns-then-is_sum : goal.returns-then-is_sum
returns-then-is_sum c =
    let a = c.args in
    let b = c.linear_of-b in
    let d = c.add_sum-d in
    let l : SFits w32 c.args.a.sum.constant = search rules in
    let k : SFits w32 d.result.constant = search rules in
    less_is a.work.now a.left (split_by a.m) a.q a.a c.requires.1.1 (sum_of b.result.sum) (λ ds. stands_sum b.result.sum _ (b.ensures.sum ds)) _ b.ensures.behind b.ensures.words (rw (to_z-of_z k) (rw (to_z-of_z l) at d.ensures.0))

pub end_of-f-requires : goal.end_of-f-requires
end_of-f-requires c = let p = c.requires in (p.0, (p.1.0, (p.1.1.low, p.1.1.low_counters)))

pub lone_at-x-requires : goal.lone_at-x-requires
lone_at-x-requires c = (c.requires.1.0, c.end_of-f.ensures.low.1)

pub add_lone-d-requires : goal.add_lone-d-requires
add_lone-d-requires c =
    let a = c.args in
    let h = c.requires.1.1 in
    let x = c.lone_at-x in
    let e = c.end_of-f in
    let l : SFits w32 c.args.a.sum.constant = search rules in
    let q = less_asks a.work.now a.left (split_by a.m) a.q a.a h (sum_in x.result) (lone_is _ _ _ _ _ _ _ _ (sym c.is_sum.ensures ∙ c.if-is_sum.false) e.ensures x.ensures.0) in
    rw (to_z-of_z l) (h.room, (search rules, search rules), q.0, q.1)

pub returns : goal.returns
returns c =
    let a = c.args in
    let x = c.lone_at-x in
    let e = c.end_of-f in
    let d = c.add_lone-d in
    let l : SFits w32 c.args.a.sum.constant = search rules in
    let k : SFits w32 d.result.constant = search rules in
    less_is a.work.now a.left (split_by a.m) a.q a.a c.requires.1.1 (sum_in x.result) (lone_is _ _ _ _ _ _ _ _ (sym c.is_sum.ensures ∙ c.if-is_sum.false) e.ensures x.ensures.0) _ e.ensures (lone_words x.result x.ensures.1) (rw (to_z-of_z k) (rw (to_z-of_z l) at d.ensures.0))
