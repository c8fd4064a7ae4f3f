use mathlib.Core.Path.{refl, sym}
use native.Mathlib.Omega.{arith}
use Rattle.std.proofs.lemmas.Result.{err_from_is_err_and}
use Rattle.words.specs.Refusal.{number_not_0}
use Rattle.accept.proofs.SetLaws.{accept_short, accept_long, accept_refused, accept_ready, accept_limit, accept_ok}
use Rattle.accept.proofs.accept.Goals as goal

pub returns-then-work-lt-WORK_LENGTH : goal.returns-then-work-lt-WORK_LENGTH
returns-then-work-lt-WORK_LENGTH c = accept_short c.args.set.now c.args.work.now c.if-work-lt-WORK_LENGTH.true

pub returns-then-set-gt-MAX_SET_WORDS : goal.returns-then-set-gt-MAX_SET_WORDS
returns-then-set-gt-MAX_SET_WORDS c = accept_long c.args.set.now c.args.work.now (omega (arith, c.if-work-lt-WORK_LENGTH.false)) (omega (arith, c.if-set-gt-MAX_SET_WORDS.true))

pub check_limits-requires : goal.check_limits-requires
check_limits-requires c = accept_ready c.args.set.now c.args.work.now (omega (arith, c.if-work-lt-WORK_LENGTH.false)) (omega (arith, c.if-set-gt-MAX_SET_WORDS.false)) _ (sym c.in_ok-declared.ensures)

pub returns-in_err-declared : goal.returns-in_err-declared
returns-in_err-declared c =
    let p = err_from_is_err_and c.from_residual.result c.from_residual.ensures.1 in
    rw (p.1, p.2) (accept_refused c.args.set.now c.args.work.now (omega (arith, c.if-work-lt-WORK_LENGTH.false)) (omega (arith, c.if-set-gt-MAX_SET_WORDS.false)) _ (sym c.in_err-declared.ensures))

pub returns-in_err-check_limits : goal.returns-in_err-check_limits
returns-in_err-check_limits c =
    let p = err_from_is_err_and c.from_residual-in_err-check_limits.result c.from_residual-in_err-check_limits.ensures.1 in
    rw (p.1, p.2)
    (accept_limit c.args.set.now c.args.work.now (omega (arith, c.if-work-lt-WORK_LENGTH.false)) (omega (arith, c.if-set-gt-MAX_SET_WORDS.false)) _ (sym c.in_ok-declared.ensures) _ _ c.in_err-check_limits.ensures (number_not_0 _))

pub returns : goal.returns
returns c = accept_ok c.args.set.now c.args.work.now (omega (arith, c.if-work-lt-WORK_LENGTH.false)) (omega (arith, c.if-set-gt-MAX_SET_WORDS.false)) _ (sym c.in_ok-declared.ensures) _ _ c.in_ok-check_limits.ensures refl
