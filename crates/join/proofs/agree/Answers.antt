use mathlib.Core.Path.{sym}
use Rattle.std.proofs.lemmas.Result.{err_from_is_err_and}
use Rattle.accept.specs.Taken.{accepted_ok}
use Rattle.join.proofs.AgreeLaws.{agree_first, agree_second, agree_ready, agree_both}
use Rattle.join.proofs.agree.Goals as goal

pub compare-requires : goal.compare-requires
compare-requires c = agree_ready c.args.first.now c.args.second.now c.args.work.now _ c.in_ok-d.ensures.1 _ _ (accepted_ok _ _ _ (sym c.in_ok-d.ensures.0)) (sym c.in_ok-e.ensures.0)

pub returns-in_err-d : goal.returns-in_err-d
returns-in_err-d c =
    let p = err_from_is_err_and c.from_residual.result c.from_residual.ensures.1 in
    rw (p.1, p.2) (agree_first c.args.first.now c.args.second.now c.args.work.now _ _ (sym c.in_err-d.ensures.0))

pub returns-in_err-e : goal.returns-in_err-e
returns-in_err-e c =
    let p = err_from_is_err_and c.from_residual-in_err-e.result c.from_residual-in_err-e.ensures.1 in
    rw (p.1, p.2) (agree_second c.args.first.now c.args.second.now c.args.work.now _ c.in_ok-d.ensures.1 _ _ _ (accepted_ok _ _ _ (sym c.in_ok-d.ensures.0)) (sym c.in_err-e.ensures.0))

pub returns : goal.returns
returns c = agree_both c.args.first.now c.args.second.now c.args.work.now _ c.in_ok-d.ensures.1 _ _ (accepted_ok _ _ _ (sym c.in_ok-d.ensures.0)) (sym c.in_ok-e.ensures.0) _ c.in_ok-e.ensures.1 _ c.compare.ensures
