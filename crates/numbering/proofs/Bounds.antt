-- The bounds of a column's sum, as the functions of totals give them, and the column's integer.
use mathlib.Core.Path.{◌≡◌, sym, subst}
use mathlib.Core.List.{List}
use Prim.Native.Nat.{ℕ, ◌+◌, ◌*◌, ◌≤◌}
use lib.IntN.{ℤ, pos, nat_abs}
use lib.ListN.{set}
use lib.Seq.{sets}
use mir.Syntax.{w32}
use mir.Val.{SFits, of_z, to_z}
use Rattle.memory.specs.Places.{cells}
use Rattle.syntax.specs.Syntax.{Domain, Range, lower_bound, upper_bound}
use Rattle.syntax.specs.Words.{max_weight}
use Rattle.walk.specs.Item.{bump}
use Rattle.walk.specs.declared.Counters.{Counters}
use Rattle.walks.specs.Tree.{never}
use Rattle.walks.specs.Item.{form_int_item}
use Rattle.walks.specs.Meet.{range_record, range_of}
use Rattle.scan.specs.IfLaws.{Low}
use Rattle.totals.specs.Ranges.{Ranging, Ranges}
use Rattle.numbering.specs.Make.{counters_in}
use Rattle.numbering.specs.Columns.{form_of, SpanReady, Makes}
use Rattle.numbering.specs.declared.Progress.{Progress}
use Rattle.numbering.proofs.Branches.{branch_low, branch_ranging, branch_ranges}
use Rattle.numbering.proofs.Results.{opened, pair_bits}

module _ (w : List ℤ) (at : ℕ) (c d : Progress) (n : Counters) (e : n ≡ counters_in w c) (s : SpanReady w at c d) where
  pub span_low : Low n
  span_low = branch_low w c n e s.low

  pub span_ranging : Ranging w 64 never at 0 n
  span_ranging = branch_ranging w 64 never at 0 c n e s.domains s.declares s.fits.sum

  module _ (x y : ℤ) (h : Ranges w 64 never at 0 n x y) (f : SFits w32 x) (g : SFits w32 y) where
    span_is : Range x y ≡ range_of (form_int_item s.domains (form_of w at)) w (counters_in w c)
    span_is = branch_ranges w 64 never at 0 c n e x y h s.domains s.declares

    pub span_fits : (nat_abs (to_z w32 (of_z w32 x)) ≤ max_weight) × (nat_abs (to_z w32 (of_z w32 y)) ≤ max_weight)
    span_fits = pair_bits f g (λ a b. (nat_abs a ≤ max_weight) × (nat_abs b ≤ max_weight))
        (subst (λ (u : Domain). nat_abs (lower_bound u) ≤ max_weight) (sym span_is) s.fits.lowest, subst (λ (u : Domain). nat_abs (upper_bound u) ≤ max_weight) (sym span_is) s.fits.highest)

    pub makes : (rec : ℕ) (out w' out' : List ℤ) (r : Progress) → out' ≡ sets out (rec + 4 * d.ints) (range_record (Range (to_z w32 (of_z w32 x)) (to_z w32 (of_z w32 y)))) → w' ≡ set w (cells + at) (pos (d.ints + 1))
        → r ≡ record { bools = d.bools; ints = bump d.ints 1; used = d.used } → Makes rec at c d w out w' out' r
    makes rec out w' out' r ho hw hr = record { lowest = x; highest = y; range = branch_ranges w 64 never at 0 c n e x y h; written = opened out out' (rec + 4 * d.ints) x y f g ho; cell = hw; count = hr }
