-- A rule: the blocks of its extras, then its own.
use mathlib.Core.Path.{◌≡◌, subst}
use mathlib.Core.Bool.{false}
use mathlib.Core.List.{List, [], ◌∷◌}
use Prim.Native.Nat.{ℕ}
use lib.IntN.{ℤ}
use Rattle.laws.specs.Writes.{Open}
use Rattle.walk.specs.Decode.{read_part}
use Rattle.walk.specs.declared.Counters.{Counters}
use Rattle.walks.specs.Tree.{below}
use Rattle.walks.specs.Form.{Forms, nil, cons}
use Rattle.walks.specs.Item.{counters, form_item}
use Rattle.walks.specs.Decode.{decode, ties_at}
use Rattle.walks.specs.DecodeExact.{rule_at}
use Rattle.walks.specs.SumsFit.{FormFits}
use Rattle.rulewriter.specs.Places.{item_at, Fit, AllFit}
use Rattle.rulewriter.specs.Making.{Listed}
use Rattle.rulewriter.specs.Ties.{Blocks, two_extras, behind_rule}
use Rattle.rulewriter.specs.declared.Tied.{Tied}
use Rattle.rulewriter.proofs.Extras.{extra_then, all_fit_left, all_fit_right}

module _ (w : List ℤ) (at n : ℕ) where
  abbrev extras : Forms
  extras = ties_at (read_part w) 64 below at n

  abbrev own : Forms
  own = cons (decode (read_part w) 64 below false at n).tree nil

  pub extras_fit : AllFit (rule_at (read_part w) 64 at n) → AllFit extras
  extras_fit h = all_fit_left extras own h

  pub own_fits : AllFit (rule_at (read_part w) 64 at n) → Fit (decode (read_part w) 64 below false at n).tree
  unfolding FormFits
  own_fits h = let x = all_fit_right extras own h in record { domains = x.domains; fits = x.fits.0 }

  own_blocks : {out a : List ℤ} {k : Counters} {o : ℕ} (y : Tied) → Listed w (item_at w 64 below false at n ∷ []) k out o a y.n y.lines y.o → Blocks w own k out o a y
  unfolding form_item
  own_blocks y h = record { listed = h }

-- b: the splitting's number behind the rule
pub rule_blocks : (w : List ℤ) (at : ℕ) (n : Counters) {out a d : List ℤ} {o : ℕ} (b : ℕ) (x y : Tied) → b ≡ (decode (read_part w) 64 below false at n.bools).next → Open out o → Blocks w (ties_at (read_part w) 64 below at n.bools) (counters b n.ints) out o a x
    → Listed w (item_at w 64 below false at n.bools ∷ []) x.n a x.o d y.n y.lines y.o → Blocks w (rule_at (read_part w) 64 at n.bools) (behind_rule w at n) out o d (two_extras x y)
rule_blocks w at n {out} {a} {d} {o} b x y e h f g =
    let i : Blocks w (extras w at n.bools) (behind_rule w at n) out o a x = subst (λ (k : ℕ). Blocks w (extras w at n.bools) (counters k n.ints) out o a x) e f in
    extra_then {x = x} {y = y} (extras w at n.bools) (own w at n.bools) h i (own_blocks w at n.bools y g)
