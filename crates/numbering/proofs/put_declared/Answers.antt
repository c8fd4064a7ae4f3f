use Prim.Native.Nat.{◌+◌, ◌*◌}
use mir.Syntax.{w32}
use mir.Val.{SFits}
use Rattle.numbering.proofs.Stores.{next_fits, declared_put}
use borrow.Author.Rules.{rules}
use Rattle.numbering.proofs.put_declared.Goals as goal

pub overflow_add-z : goal.overflow_add-z
overflow_add-z c = let f : SFits w32 c.told-z.result = search rules in next_fits c.told-z.result _ f c.told-z.ensures c.requires.1.1.1

pub returns : goal.returns
returns c = let f : SFits w32 c.told-x.result = search rules in
    let g : SFits w32 c.told-y.result = search rules in
    let h : SFits w32 c.told-z.result = search rules in
    declared_put c.args.out.now _ (c.args.records + 4 * c.args.k) c.told-x.result c.told-y.result c.told-z.result _ _ _ f g h c.told-x.ensures c.told-y.ensures c.told-z.ensures c.requires.1.1.1 c.put_record.ensures
