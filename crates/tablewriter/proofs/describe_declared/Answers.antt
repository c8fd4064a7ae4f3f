-- A range by its size and lowest value, a list by its negated length and its place.
use mathlib.Core.Path.{◌≡◌, ap, ◌∙◌}
use native.Mathlib.Omega.{arith}
use Prim.Native.Nat.{◌+◌}
use lib.IntN.{ℤ, pos, ◌-ℤ◌}
use mir.Syntax.{w32}
use mir.Val.{SFits, of_z, to_z}
use mir.Facts.{to_z-of_z}
use borrow.Author.Rules.{rules}
use Rattle.survey.proofs.Leaves.{pos_is}
use Rattle.tablewriter.proofs.Descriptions.{place_small, many_small, range_told, list_told, minus_fits}
use Rattle.tablewriter.proofs.describe_declared.Goals as goal

pub returns-in-Range : goal.returns-in-Range
returns-in-Range c =
    let k : SFits w32 c.num_candidates-c.result = search rules in
    let f : SFits w32 c.in-Range.low = search rules in
    rw (to_z-of_z k, to_z-of_z f) (range_told c.args.set.now c.args.v c.domain_of-at.result c.domain_of-at.ensures c.num_candidates-c.result c.num_candidates-c.ensures _ _ c.in-Range.ensures)

pub returns-in-Enumerative : goal.returns-in-Enumerative
returns-in-Enumerative c =
    let n = c.num_candidates-c.result in
    let f : SFits w32 n = search rules in
    let m = minus_fits n (many_small c.args.set.now c.args.v c.domain_of-at.result c.domain_of-at.ensures n c.num_candidates-c.ensures c.requires) in
    let k : to_z w32 (of_z w32 n) ≡ n = to_z-of_z f in
    let e = pos_is (c.domain_of-at.result + 2) (omega (arith, place_small c.args.set.now c.args.v c.domain_of-at.result c.domain_of-at.ensures c.requires)) in
    list_told c.args.set.now c.args.v c.domain_of-at.result c.domain_of-at.ensures n c.num_candidates-c.ensures _ c.in-Enumerative.ensures _ _ (ap (λ (z : ℤ). to_z w32 (of_z w32 (pos 0 -ℤ z))) k ∙ to_z-of_z m) e
