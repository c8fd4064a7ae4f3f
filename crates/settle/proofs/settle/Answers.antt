-- `settle` meets its contract.
use mathlib.Core.Path.{sym}
use Rattle.settle.proofs.Laws.{settle_refused, settle_room, settle_taken, settle_post}
use Rattle.settle.proofs.settle.Goals as goal

pub clear_maps-requires : goal.clear_maps-requires
clear_maps-requires c = settle_room _ c.args.work.now _ (sym c.in-Ok.ensures.0) _ c.accept.ensures.1

pub fold_taken-requires : goal.fold_taken-requires
fold_taken-requires c = settle_taken _ c.args.work.now _ (sym c.in-Ok.ensures.0) _ c.accept.ensures.1 _ c.clear_maps.ensures

pub returns-in-Err : goal.returns-in-Err
returns-in-Err c = rw c.number.ensures (settle_refused _ c.args.work.now _ (sym c.in-Err.ensures.0) c.accept.new.work _ c.accept.auto.work c.clear.ensures)

pub returns-in-Ok : goal.returns-in-Ok
returns-in-Ok c = settle_post _ c.args.work.now _ (sym c.in-Ok.ensures.0) _ c.accept.ensures.1 _ c.clear_maps.ensures _ _ c.fold_taken.ensures
