use mathlib.Core.Path.{◌≡◌, ap, ◌∙◌}
use Prim.Native.Nat.{◌-◌}
use lib.IntN.{pos}
use lib.ListN.{length, get_or}
use mir.Syntax.{w32}
use mir.Val.{SFits}
use mir.Facts.{to_z-of_z}
use borrow.Author.Rules.{rules}
use Rattle.std.specs.Option.{unwrap_or}
use Rattle.std.proofs.lemmas.Option.{unwrap_or-slice_get}
use Rattle.domains.proofs.Laws.{last_is}
use Rattle.domains.proofs.upper_bound.Goals as goal

pub returns-in-Enumerative : goal.returns-in-Enumerative
returns-in-Enumerative c = λ dm h.
    let v = c.in-Enumerative.values.now in
    let f : SFits w32 c.unwrap_or.result = search rules in
    let e : c.unwrap_or.result ≡ get_or v (length v - 1) (pos 0) = c.unwrap_or.ensures ∙ ap (λ o. unwrap_or o (pos 0)) (c.copied.ensures ∙ c.last.ensures.value) ∙ unwrap_or-slice_get v _ _ in
    rw (← c.in-Enumerative.ensures dm h) (to_z-of_z f ∙ e ∙ last_is v)
