use mathlib.Core.Path.{refl}
use Prim.Native.Nat.{◌+◌}
use native.Mathlib.Omega.{arith}
use mir.Syntax.{w32}
use mir.Val.{SFits}
use lib.ListN.{get_or}
use lib.IntN.{pos}
use borrow.Author.Rules.{rules}
use Rattle.scan.specs.Skip.{variable_words, negation_words}
use Rattle.scan.proofs.NodeLaws.{code_at}
use Rattle.scan.proofs.literal_words.Goals as goal

pub returns-in-11-default : goal.returns-in-11-default
returns-in-11-default c =
    let h = c.if-q-ge-THREE_WORDS.false in
    let f : SFits w32 (get_or c.args.work.now c.args.q (pos 0)) = search rules in
    variable_words c.args.work.now _ _ c.requires (λ e. omega (arith, c.if-left-lt2.false)) (omega (arith, h)) (code_at _ _ 11 (omega (arith, h)) refl f c.in-11-default.is-0)

pub returns-in-14-eq11 : goal.returns-in-14-eq11
returns-in-14-eq11 c =
    let h = c.if-q-ge-THREE_WORDS.false in
    let f : SFits w32 (get_or c.args.work.now c.args.q (pos 0)) = search rules in
    let g : SFits w32 (get_or c.args.work.now (c.args.q + 1) (pos 0)) = search rules in
    negation_words c.args.work.now _ _ c.requires (omega (arith, c.if-left-lt2.false)) (omega (arith, h)) (code_at _ _ 14 (omega (arith, h)) refl f c.in-14-eq11.is-0) (code_at _ _ 11 (omega (arith, h)) refl g c.in-14-eq11.is-1)
