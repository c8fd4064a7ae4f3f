-- A column says the same in two work slices w and v that have the same words below the table's place: its number, its domain and the counters behind it.
-- Assumes nothing.
use mathlib.Core.Path.{◌≡◌, refl, sym, ap, ◌∙◌, subst}
use mathlib.Core.List.{List, [], ◌∷◌}
use Prim.Native.Nat.{ℕ, ◌+◌, ◌-◌, ◌*◌, ◌≤◌, ◌<◌, ◌^◌}
use native.Mathlib.Omega.{arith}
use lib.IntN.{ℤ, pos, nat_abs}
use lib.ListN.{get_or, take}
use lib.Seq.{take-take, get_or-take}
use Rattle.memory.specs.Places.{folded_end, declared_domains, table}
use Rattle.memory.specs.Number.{nat}
use Rattle.syntax.specs.Syntax.{Domain, lower_bound, upper_bound}
use Rattle.sums.specs.LinearSum.{Term, term, LinearSum, linear_sum, get_domain_linear_sum}
use Rattle.sums.specs.Norm.{norm, load}
use Rattle.sums.specs.Bounds.{reach}
use Rattle.sums.specs.Rising.{terms_of, Each}
use Rattle.walk.specs.Decode.{read_part}
use Rattle.walk.specs.declared.Counters.{Counters}
use Rattle.walks.specs.Form.{IntForm, const, ivar, sum, choice}
use Rattle.walks.specs.Item.{more_ints, form_int_item}
use Rattle.walks.specs.Meet.{found, range_of}
use Rattle.walks.specs.Near.{WithinInt}
use Rattle.walks.specs.Ranges.{SameBounds, domain_same}
use Rattle.walks.specs.ColumnText.{column_number, column_end}
use Rattle.declared.specs.DomainTable.{word_at, Declares}
use Rattle.stages.specs.ColumnsText.{column_var, column_domain}
use Rattle.tablewriter.specs.Same.{SameBelow, same_entry, same_cell, more_same, SameInt, int_same}
use Rattle.tablewriter.specs.Describing.{Sound, Ranged, ColumnTold, Near}

each_all : (P : ℕ → Type 0) → ((x : ℕ) → P x) → (ts : List Term) → Each P ts
unfolding Each
each_all P h [] = tt
each_all P h (term x a ∷ ts) = (h x, each_all P h ts)

norm_same : (f g : ℕ → ℕ) → ((x : ℕ) → f x ≡ g x) → (ts : List Term) → norm f ts ≡ norm g ts
unfolding norm
norm_same f g h [] = refl
norm_same f g h (term x a ∷ ts) = rw (h x, norm_same f g h ts) refl

load_same : (f g : ℕ → ℕ) → ((x : ℕ) → f x ≡ g x) → (l : LinearSum) → load f l ≡ load g l
unfolding load
load_same f g h (linear_sum c ts) = ap (λ (k : ℕ). nat_abs c + k) (norm_same f g h ts)

module _ (w v : List ℤ) (below : take table v ≡ take table w) where
  pub same_below : SameBelow w v
  same_below i h = sym (get_or-take table v i (pos 0) h) ∙ ap (λ (l : List ℤ). get_or l i (pos 0)) below ∙ get_or-take table w i (pos 0) h

  pub same_part : read_part v ≡ read_part w
  unfolding read_part
  same_part = sym (take-take folded_end table v (omega arith)) ∙ ap (take folded_end) below ∙ take-take folded_end table w (omega arith)

  same_number : (p : ℕ) → p ≤ folded_end → column_number v p ≡ column_number w p
  unfolding column_number
  same_number p l = ap (λ (z : ℤ). nat z - 1) (same_cell w v same_below p (omega arith))

  pub same_declares : (ds : List Domain) → Declares ds w → Declares ds v
  unfolding word_at
  same_declares ds d x l = rw (same_below (declared_domains + 3 * x + 0) (omega arith), same_below (declared_domains + 3 * x + 1) (omega arith), same_below (declared_domains + 3 * x + 2) (omega arith)) (d x l)

  module _ (ds : List Domain) (e : IntForm) (near : Near e) where
    same_item : SameInt w v same_below (form_int_item ds e)
    same_item = int_same w v same_below ds near.from near.to near.inside e near.within

    same_range : (n : Counters) → range_of (form_int_item ds e) v n ≡ range_of (form_int_item ds e) w n
    unfolding range_of
    same_range n =
        let i = form_int_item ds e in
        let f : ℕ → Domain = λ x. found (i.range v n x) in
        let g : ℕ → Domain = λ x. found (i.range w n x) in
        domain_same f g (i.total v n) (each_all (λ x. SameBounds (f x) (g x)) (λ x. let q = ap found (same_item.range n x) in record { low = ap lower_bound q; high = ap upper_bound q }) (terms_of (i.total v n)))
        ∙ ap (get_domain_linear_sum g) (same_item.total n)

    same_load : (n : Counters) → load (λ x. reach (found ((form_int_item ds e).range v n x))) ((form_int_item ds e).total v n) ≡ load (λ x. reach (found ((form_int_item ds e).range w n x))) ((form_int_item ds e).total w n)
    same_load n =
        let i = form_int_item ds e in
        load_same (λ x. reach (found (i.range v n x))) (λ x. reach (found (i.range w n x))) (λ x. ap (λ o. reach (found o)) (same_item.range n x)) (i.total v n)
        ∙ ap (load (λ x. reach (found (i.range w n x)))) (same_item.total n)

    same_behind : (n : Counters) → more_ints v 1 ((form_int_item ds e).behind v n) ≡ more_ints w 1 ((form_int_item ds e).behind w n)
    same_behind n = more_same w v same_below 1 ((form_int_item ds e).behind v n) ∙ ap (more_ints w 1) (same_item.behind n)

    same_ranged : (n : Counters) → Ranged ds w n e → Ranged ds v n e
    same_ranged n r = record { equated = r.equated; inside = r.inside; light = subst (λ (k : ℕ). k < 2 ^ 31) (sym (same_load n)) r.light; sound = subst Sound (sym (same_range n)) r.sound }

  module _ (ds : List Domain) where
    pub same_end : (e : IntForm) → Near e → (p : ℕ) (n : Counters) → column_end ds p e v n ≡ column_end ds p e w n
    unfolding column_end
    same_end (const c) h p n = same_behind ds (const c) h n
    same_end (ivar x) h p n = (same_item ds (ivar x) h).behind n
    same_end (sum ts) h p n = same_behind ds (sum ts) h n
    same_end (choice q o c d t f) h p n = same_behind ds (choice q o c d t f) h n

    pub same_domain : (e : IntForm) → Near e → (n : Counters) → column_domain ds e v n ≡ column_domain ds e w n
    unfolding column_domain
    same_domain (const c) h n = same_range ds (const c) h n
    same_domain (ivar x) h n = refl
    same_domain (sum ts) h n = same_range ds (sum ts) h n
    same_domain (choice q o c d t f) h n = same_range ds (choice q o c d t f) h n

    pub same_told : (e : IntForm) → Near e → (n : Counters) → ColumnTold ds w n e → ColumnTold ds v n e
    same_told (const c) h n r = same_ranged ds (const c) h n r
    same_told (ivar x) h n r = r
    same_told (sum ts) h n r = same_ranged ds (sum ts) h n r
    same_told (choice q o c d t f) h n r = same_ranged ds (choice q o c d t f) h n r

  pub same_var : (e : IntForm) → Near e → (p : ℕ) → p ≤ folded_end → column_var v p e ≡ column_var w p e
  unfolding column_var WithinInt
  same_var (const c) h p l = same_number p l
  same_var (ivar x) h p l = ap (λ (k : ℕ). k - 1) (same_entry w v same_below x h.within)
  same_var (sum ts) h p l = same_number p l
  same_var (choice q o c d t f) h p l = same_number p l
