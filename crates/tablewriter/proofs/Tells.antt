-- A column's number, the domain of its values and what stands behind it, by its code word. Assumes nothing.
use mathlib.Core.Path.{◌≡◌, refl, sym, ap, ◌∙◌, subst}
use mathlib.Core.Bool.{Bool, true, false, cond}
use mathlib.Core.List.{List}
use Prim.Native.Nat.{ℕ, ◌+◌, ◌-◌, ◌≤◌, ◌<◌}
use native.Mathlib.Omega.{arith}
use lib.Signed.{mag}
use lib.IntN.{ℤ, pos, negsuc, nat_abs, ◌+ℤ◌, ◌-ℤ◌, neg_ℤ}
use lib.ListN.{length, get_or}
use lib.Dec.{ltb}
use borrow.Author.Tests.{ltb-true}
use mir.Syntax.{w32}
use mir.Val.{SFits}
use Rattle.laws.specs.Ints.{natAbs_add, natAbs_negℤ, sfits_natAbs}
use Rattle.syntax.specs.Words.{max_ints}
use Rattle.memory.specs.Places.{int_map, cells}
use Rattle.memory.specs.Number.{nat}
use Rattle.syntax.specs.Syntax.{Domain, Range, domain_of}
use Rattle.walk.specs.Item.{int_entry}
use Rattle.walk.specs.Decode.{word, below as index, read_part}
use Rattle.walk.specs.declared.Counters.{Counters}
use Rattle.walks.specs.Form.{IntForm, const, ivar, sum, choice}
use Rattle.walks.specs.Item.{more_ints, cell, form_int_item}
use Rattle.walks.specs.Meet.{range_of}
use Rattle.walks.specs.ColumnText.{column_number, column_end}
use Rattle.stages.specs.ColumnsText.{column_var, column_domain}
use Rattle.scan.specs.IfLaws.{Low, more_ints_low}
use Rattle.scan.specs.Skip.{split_by}
use Rattle.scan.specs.SurveyLaws.{IntSurveys}
use Rattle.scan.specs.declared.Behind.{Behind}
use Rattle.totals.specs.Ranges.{inside_branches, Ranging, Ranges}
use Rattle.declared.specs.InSet.{Declared, SomeDeclared}
use Rattle.tablewriter.specs.Columns.{form_at, item_at}
use Rattle.tablewriter.specs.Describing.{Describes, Sound, Ranged, ColumnTold, Told, SomeTold, PassedColumn}
use Rattle.tablewriter.proofs.Forms.{Own, own_at, variable_at, own_end}
use Rattle.tablewriter.proofs.Descriptions.{range_describes}

pub nat_small : (z : ℤ) → mag z < 2147483648 → nat z < 2147483648
unfolding nat
nat_small (pos n) h = h
nat_small (negsuc n) h = omega arith

pub index_low : (x : ℕ) → index max_ints x < max_ints
index_low x = go (ltb x max_ints) refl
  where
    go : (b : Bool) → ltb x max_ints ≡ b → cond b x 0 < max_ints
    go true e = ltb-true x max_ints e
    go false e = omega arith

-- ---- by the form

own_var : (w : List ℤ) (p : ℕ) (e : IntForm) → Own e → column_var w p e ≡ column_number w p
unfolding column_var
own_var w p (const c) h = refl
own_var w p (ivar v) h = absurd h
own_var w p (sum ts) h = refl
own_var w p (choice q o c d t f) h = refl

own_domain : (ds : List Domain) (e : IntForm) (w : List ℤ) (n : Counters) → Own e → column_domain ds e w n ≡ range_of (form_int_item ds e) w n
unfolding column_domain
own_domain ds (const c) w n h = refl
own_domain ds (ivar v) w n h = absurd h
own_domain ds (sum ts) w n h = refl
own_domain ds (choice q o c d t f) w n h = refl

own_told : (ds : List Domain) (w : List ℤ) (n : Counters) (e : IntForm) → Own e → ColumnTold ds w n e → Ranged ds w n e
own_told ds w n (const c) h t = t
own_told ds w n (ivar v) h t = absurd h
own_told ds w n (sum ts) h t = t
own_told ds w n (choice q o c d x f) h t = t

module _ (w : List ℤ) (p : ℕ) {j : ℕ} (code : j ≡ word (read_part w) p) where
  -- ---- a declared variable

  module _ {v x : ℕ} (written : x ≡ word (read_part w) (p + 1)) (small : v ≡ index max_ints x) (k : j ≡ 21) where
    form_is : form_at w p ≡ ivar v
    form_is = variable_at w p j code k ∙ ap ivar (sym (small ∙ ap (index max_ints) written))

    pub variable_number : {r : ℕ} → r ≡ nat (get_or w (int_map + v) (pos 0)) - 1 → r ≡ column_var w p (form_at w p)
    unfolding column_var int_entry
    variable_number e = e ∙ ap (column_var w p) (sym form_is)

    below_of : {set : List ℤ} {n : Counters} {ds : List Domain} → Told set w p n ds → v < length ds
    below_of {n = n} {ds} t = subst (ColumnTold ds w n) form_is t.column

    pub told_declared : {set : List ℤ} {n : Counters} → SomeTold set w p n → SomeDeclared set v
    told_declared s = record { domains = s.domains; it = s.it.declared; below = below_of s.it }

    pub told_variable : {set : List ℤ} {n : Counters} {c f : ℤ} → ((ds : List Domain) → Declared set ds → v < length ds → Describes set (domain_of ds v) c f)
        → (ds : List Domain) → Told set w p n ds → Describes set (column_domain ds (form_at w p) w n) c f
    unfolding column_domain
    told_variable {set} {n} {c} {f} y ds t = subst (λ (e : IntForm). Describes set (column_domain ds e w n) c f) (sym form_is) (y ds t.declared (below_of t))

  -- ---- another column

  module _ (z : j ≡ 21 → ⊥) where
    own : Own (form_at w p)
    own = own_at w p j code z

    pub own_number : {r : ℕ} → r ≡ nat (get_or w (cells + p) (pos 0)) - 1 → r ≡ column_var w p (form_at w p)
    own_number {r} e =
        let i : r ≡ column_number w p = unfold column_number cell in e in
        i ∙ sym (own_var w p (form_at w p) own)

    ranged : {set : List ℤ} {n : Counters} {ds : List Domain} → Told set w p n ds → Ranged ds w n (form_at w p)
    ranged {n = n} {ds} t = own_told ds w n (form_at w p) own t.column

    pub some_ranged : {set : List ℤ} {n : Counters} → SomeTold set w p n → Ranging w 64 (split_by 0) p 0 n
    unfolding split_by
    some_ranged {n = n} s =
        let r = ranged s.it in
        record { domains = s.domains; declares = s.it.table; steps = (r.equated w n 0).steps; branches = inside_branches s.domains w (form_at w p) n r.inside; light = r.light }

    module _ {n : Counters} {low high : ℤ} (y : Ranges w 64 (split_by 0) p 0 n low high) {set : List ℤ} where
      range_is : {ds : List Domain} → Told set w p n ds → Range low high ≡ range_of (item_at ds w p) w n
      unfolding split_by
      range_is {ds} t = y ds t.table

      sound : {ds : List Domain} → Told set w p n ds → Sound (Range low high)
      sound t = subst Sound (sym (range_is t)) (ranged t).sound

      pub bounds_small : SomeTold set w p n → (nat_abs low ≤ 1073741823) × (nat_abs high ≤ 1073741823)
      bounds_small s = let x = sound s.it in (x.low, x.high)

      pub told_range : {c : ℤ} → c ≡ (high -ℤ low) +ℤ pos 1 → (ds : List Domain) → Told set w p n ds → Describes set (column_domain ds (form_at w p) w n) c low
      told_range {c} e ds t =
          let x = sound t in
          let d : Range low high ≡ column_domain ds (form_at w p) w n = range_is t ∙ sym (own_domain ds (form_at w p) w n own) in
          rw e (subst (λ (u : Domain). Describes set u ((high -ℤ low) +ℤ pos 1) low) d (range_describes set low high x.low x.high x.order))

pub less_fits : (low high : ℤ) → nat_abs low ≤ 1073741823 → nat_abs high ≤ 1073741823 → SFits w32 (high -ℤ low)
less_fits low high l h = sfits_natAbs w32 (high -ℤ low) (omega (arith, natAbs_add high (neg_ℤ low), natAbs_negℤ low))

pub count_fits : (low high : ℤ) → nat_abs low ≤ 1073741823 → nat_abs high ≤ 1073741823 → SFits w32 ((high -ℤ low) +ℤ pos 1)
count_fits low high l h = sfits_natAbs w32 ((high -ℤ low) +ℤ pos 1) (omega (arith, natAbs_add (high -ℤ low) (pos 1), natAbs_add high (neg_ℤ low), natAbs_negℤ low))

-- ---- behind it

module _ {w : List ℤ} {p : ℕ} {n : Counters} {b : Behind} (x : IntSurveys w 64 (split_by 0) p 0 n b) {j : ℕ} (code : j ≡ word (read_part w) p) where
  pub passed_variable : j ≡ 21 → PassedColumn w p n (record { next = b.at; n = b.n })
  unfolding column_end split_by
  passed_variable k =
      let f = variable_at w p j code k in
      record { behind = λ ds. rw f (rw f at (x.behind ds)); next = x.skips.end; inside = x.skips.inside; low = x.low }

  pub passed_own : (j ≡ 21 → ⊥) → {e : Counters} → e ≡ more_ints w 1 b.n → PassedColumn w p n (record { next = b.at; n = e })
  unfolding split_by
  passed_own z {e} s = record {
    behind = λ ds. s ∙ ap (more_ints w 1) (x.behind ds) ∙ sym (own_end ds p w n (form_at w p) (own_at w p j code z));
    next = x.skips.end;
    inside = x.skips.inside;
    low = subst Low (sym s) (more_ints_low w 1 b.n x.low);
  }
