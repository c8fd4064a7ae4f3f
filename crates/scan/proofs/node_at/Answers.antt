use Rattle.scan.proofs.NodeLaws.{node_const, node_var, node_and, node_or, node_not, node_xor, node_iff, node_imp, node_cmp, node_other}
use Rattle.scan.proofs.node_at.Goals as goal

pub returns-in-10 : goal.returns-in-10
returns-in-10 c = node_const c.args.work.now c.requires.0 _ _ _ _ _ _ c.word-x.ensures c.within-one.ensures c.within-two.ensures c.word.ensures _ c.in-10.is c.constant_at.ensures

pub returns-in-11 : goal.returns-in-11
returns-in-11 c = node_var c.args.work.now c.requires.0 _ _ _ _ _ _ c.word-x.ensures c.within-one.ensures c.within-two.ensures c.word.ensures _ c.in-11.is c.below.ensures

pub returns-in-12 : goal.returns-in-12
returns-in-12 c = node_and c.args.work.now c.requires.0 _ _ _ _ _ _ c.word-x.ensures c.within-one.ensures c.within-two.ensures c.word.ensures c.in-12.is

pub returns-in-13 : goal.returns-in-13
returns-in-13 c = node_or c.args.work.now c.requires.0 _ _ _ _ _ _ c.word-x.ensures c.within-one.ensures c.within-two.ensures c.word.ensures c.in-13.is

pub returns-in-14 : goal.returns-in-14
returns-in-14 c = node_not c.args.work.now c.requires.0 _ _ _ _ _ _ c.word-x.ensures c.within-one.ensures c.within-two.ensures c.word.ensures c.in-14.is

pub returns-in-15 : goal.returns-in-15
returns-in-15 c = node_xor c.args.work.now c.requires.0 _ _ _ _ _ _ c.word-x.ensures c.within-one.ensures c.within-two.ensures c.word.ensures c.in-15.is

pub returns-in-16 : goal.returns-in-16
returns-in-16 c = node_iff c.args.work.now c.requires.0 _ _ _ _ _ _ c.word-x.ensures c.within-one.ensures c.within-two.ensures c.word.ensures c.in-16.is

pub returns-in-17 : goal.returns-in-17
returns-in-17 c = node_imp c.args.work.now c.requires.0 _ _ _ _ _ _ c.word-x.ensures c.within-one.ensures c.within-two.ensures c.word.ensures c.in-17.is

pub returns-in-18 : goal.returns-in-18
returns-in-18 c = node_cmp c.args.work.now c.requires.0 _ _ _ _ _ _ c.word-x.ensures c.within-one.ensures c.within-two.ensures c.word.ensures c.in-18.is

pub returns-in_default : goal.returns-in_default
returns-in_default c = node_other c.args.work.now c.requires.0 _ _ _ _ _ _ c.word-x.ensures c.within-one.ensures c.within-two.ensures c.word.ensures c.in_default.in_default-own.rest.0.0.0.0.0.0.0.0.1 c.in_default.in_default-own.rest.0.0.0.0.0.0.0.1 c.in_default.in_default-own.rest.0.0.0.0.0.0.1 c.in_default.in_default-own.rest.0.0.0.0.0.1 c.in_default.in_default-own.rest.0.0.0.0.1 c.in_default.in_default-own.rest.0.0.0.1 c.in_default.in_default-own.rest.0.0.1 c.in_default.in_default-own.rest.0.1 c.in_default.in_default-own.rest.1
