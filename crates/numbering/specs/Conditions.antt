-- The condition of an If that is made: its literal, its number, or its clauses with the If's own number. Laws for the code.
use Rattle.std.specs.Prelude.{◌≡◌, Bool, true, false, List, [], ◌∷◌, ℕ, ◌+◌, ◌-◌, ◌*◌, ◌≤◌, ℤ, pos, nat_abs, ltb}
use Rattle.std.proofs.Math.Path.{refl, ap}
use Rattle.std.proofs.Common.{sym, ◌∙◌, subst, arith, SFits, of_z, to_z, to_z-of_z, ne_eqb}
use Rattle.std.proofs.Math.Option.{none, some}
use Rattle.std.proofs.Math.ListN.{length}
use Rattle.std.proofs.lemmas.List.Edits.{sets}
use Rattle.std.proofs.Math.Seq.{length-sets}
use Rattle.std.specs.Int.{w32}
use Rattle.memory.specs.Places.{limit}
use Rattle.syntax.specs.Syntax.{Domain, Range}
use Rattle.syntax.specs.Words.{max_bools}
use Rattle.walk.specs.Item.{bump, is_none, bool_at, fresh, fresh_in, mode_in}
use Rattle.walk.specs.Decode.{word, below, read_part}
use Rattle.walks.specs.Tree.{Splitting}
use Rattle.walks.specs.Item.{Item, tallies, num_item, form_item}
use Rattle.walks.specs.Decode.{own_at}
use Rattle.walks.specs.Meet.{State, spend, more_bools, set_cells, number_word, range_record, two_record, form_leaves, new_int, meet_bool, meet_constant, meet_open}
use Rattle.declared.specs.DomainTable.{Declares}
use Rattle.numbering.specs.Declares.{declares_kept}
use Rattle.numbering.specs.Task.{state_of, Task, Low, Ready, Kept, kept_then, Done, Starts, starts_later}
use Rattle.numbering.specs.Fits.{constant_fits, open_fits}
use Rattle.numbering.specs.Leaf.{bool_task}
use Rattle.numbering.specs.Steps.{form_at}
use Rattle.numbering.specs.If.{PartsAt, plain_at, negated_at, kept_cells}
use Rattle.numbering.specs.Make.{constant_at, open_at}
use Rattle.numbering.specs.Sized.{SizedAt}
use Rattle.numbering.specs.declared.IfParts.{IfParts}
use Rattle.numbering.specs.Members.{beside}
use Rattle.numbering.specs.declared.Numbered.{Numbered}
use Rattle.numbering.specs.declared.Progress.{Progress}

-- a condition's leaves in both polarities
abbrev pub leaves_in : List ℤ → ℕ → Splitting → ℕ → IfParts → ℕ
leaves_in ws u m base p = bump (form_leaves (plain_at 0 0 u m 0 base p ws)) (form_leaves (negated_at 0 0 u m 0 base p ws))

-- a condition that is no declared variable
pub own_none : (ws : List ℤ) (c k : ℕ) → k ≡ word ws c → (k ≡ 11 → ⊥) → own_at ws c ≡ none
own_none ws c k e ne = rw (← e, ne_eqb k 11 ne) refl

-- the literal of a declared variable at its meeting is a word, and so is the same negated
abbrev pub follow_task : ℕ → Task
follow_task v = record { fits = λ ds st. nat_abs (bool_at (meet_bool v st).work v) ≤ limit + 1; meet = λ ds st. meet_bool v st }

pub follow_fits : (v : ℕ) (st st' : State) (l : ℤ) → Ready (follow_task v) st → Done (bool_task v) st st' → l ≡ bool_at st'.work v → nat_abs l ≤ limit + 1
follow_fits v st st' l r b e = rw (e, b.state r.domains r.declares tt) r.fits

-- the variable v is met, and the record follows its literal
pub record Follows (w out : List ℤ) (c : Progress) (v rec : ℕ) (x y : ℤ) (w' out' : List ℤ) (r : Progress) : Type 0 where
  pub between : Progress
  pub literal : ℤ
  pub met : Done (bool_task v) (state_of w out c) (state_of w' out between)
  pub literal_is : literal ≡ bool_at w' v
  pub written : out' ≡ sets out (rec + 4 * between.ints) (two_record literal x y)
  pub count : r ≡ record { bools = between.bools; ints = bump between.ints 1; used = between.used }

-- another condition, walked negated (d) and plain (e): the record follows the number n
pub record Concludes (out : List ℤ) (rec n : ℕ) (d e : Numbered) (x y : ℤ) (out' : List ℤ) (r : Progress) : Type 0 where
  pub written : out' ≡ sets out (rec + 4 * e.progress.ints) (two_record (pos (n + 1)) x y)
  pub count : r ≡ record { bools = bump (bump e.progress.bools (beside d)) (beside e); ints = bump e.progress.ints 1; used = e.progress.used }

-- the record of an If's own integer, and k words of its condition
pub record Opens (out : List ℤ) (rec : ℕ) (c : Progress) (k : ℕ) (x y : ℤ) (out' : List ℤ) (r : Progress) : Type 0 where
  pub written : out' ≡ sets out (rec + 4 * c.ints) (range_record (Range x y))
  pub count : r ≡ record { bools = c.bools; ints = bump c.ints 1; used = bump c.used k }

-- its cells
pub record Settles (w : List ℤ) (at : ℕ) (whole : Bool) (v : ℕ) (x y : ℤ) (c : Progress) (w' : List ℤ) (r : Progress) : Type 0 where
  pub written : w' ≡ set_cells at (number_word whole v) x y w
  pub count : r ≡ record { bools = bump c.bools 1; ints = c.ints; used = c.used }

-- the same as bits
module _ {x y : ℤ} (i : SFits w32 x) (j : SFits w32 y) where
  pub follows_as : {w out : List ℤ} {c : Progress} {v rec : ℕ} {w' out' : List ℤ} {r : Progress} → Follows w out c v rec (to_z w32 (of_z w32 x)) (to_z w32 (of_z w32 y)) w' out' r → Follows w out c v rec x y w' out' r
  follows_as h = record { between = h.between; literal = h.literal; met = h.met; literal_is = h.literal_is; written = h.written ∙ rw (to_z-of_z i, to_z-of_z j) refl; count = h.count }

  pub concludes_as : {out : List ℤ} {rec n : ℕ} {d e : Numbered} {out' : List ℤ} {r : Progress} → Concludes out rec n d e (to_z w32 (of_z w32 x)) (to_z w32 (of_z w32 y)) out' r → Concludes out rec n d e x y out' r
  concludes_as h = record { written = h.written ∙ rw (to_z-of_z i, to_z-of_z j) refl; count = h.count }

  pub opens_as : {out : List ℤ} {rec : ℕ} {c : Progress} {k : ℕ} {out' : List ℤ} {r : Progress} → Opens out rec c k (to_z w32 (of_z w32 x)) (to_z w32 (of_z w32 y)) out' r → Opens out rec c k x y out' r
  opens_as h = record { written = h.written ∙ rw (to_z-of_z i, to_z-of_z j) refl; count = h.count }

  pub settles_as : {w : List ℤ} {at : ℕ} {whole : Bool} {v : ℕ} {c : Progress} {w' : List ℤ} {r : Progress} → Settles w at whole v (to_z w32 (of_z w32 x)) (to_z w32 (of_z w32 y)) c w' r → Settles w at whole v x y c w' r
  settles_as h = record { written = h.written ∙ rw (to_z-of_z i, to_z-of_z j) refl; count = h.count }

-- a number and a condition side by side
pub pair_new : (v : ℕ) (g : Bool) (i : Item) (x y z n : ℕ) → x ≡ i.unit.longs → y ≡ i.unit.lits → z ≡ i.unit.cmps → n ≡ fresh_in (mode_in x (y + 1) z) x → n ≡ fresh (tallies (num_item v g ∷ i ∷ []))
unfolding tallies num_item
pair_new v g i x y z n a b c e =
    let h : x ≡ 0 + (i.unit.longs + 0) = omega (arith, a) in
    let j : y + 1 ≡ 1 + (i.unit.lits + 0) = omega (arith, b) in
    let k : z ≡ 0 + (i.unit.cmps + 0) = omega (arith, c) in
    e ∙ rw (j, k, h) refl

module _ (rec cap u : ℕ) (m : Splitting) (at base : ℕ) (p : IfParts) (w out : List ℤ) (c : Progress) (x y : ℤ) (s : Starts (constant_at rec cap u m at base p x y (read_part w)) (state_of w out c) rec p.cond base) where
  abbrev Here : State → Type 0
  Here st' = Done (constant_at rec cap u m at base p x y (read_part w)) (state_of w out c) st'

  -- ---- a declared variable

  module _ (k z v : ℕ) (hk : k ≡ word (read_part w) p.cond) (e : k ≡ 11) (hz : z ≡ word (read_part w) (p.cond + 1)) (hv : v ≡ below max_bools z) where
    own_is : own_at (read_part w) p.cond ≡ some v
    own_is = rw (← hk, e, ← hz, ← hv) refl

    pub follow_ready : Ready (follow_task v) (state_of w out c)
    unfolding constant_fits
    follow_ready = let r = s.ready in record { domains = r.domains; declares = r.declares; fits = rw own_is at r.fits }

    pub follow_done : (w' o : List ℤ) (r : Progress) → Follows w out c v rec x y w' o r → Here (state_of w' o r)
    unfolding meet_constant new_int
    follow_done w' o r g =
        let d = g.between in
        let b = g.met in
        record {
          state = λ ds h f. let i : state_of w' out d ≡ meet_bool v (state_of w out c) = b.state ds h tt in rw (own_is, ← i, ← g.literal_is, g.count, g.written) refl;
          kept = record { part = b.kept.part; behind = b.kept.behind; size = b.kept.size; room = ap length g.written ∙ length-sets out (rec + 4 * d.ints) (two_record g.literal x y) };
          low = rw g.count (record { bools = b.low.bools; ints = omega arith; used = b.low.used });
        }

  -- ---- another condition: a number for it

  module _ (ne : own_at (read_part w) p.cond ≡ none) (cl : ℕ) (hl : cl ≡ leaves_in (read_part w) u m base p) (d : Progress) (hd : d ≡ record { bools = c.bools; ints = c.ints; used = bump c.used cl }) where
    abbrev spent : State
    spent = spend (leaves_in (read_part w) u m base p) (state_of w out c)

    spent_is : state_of w out d ≡ spent
    spent_is = ap (state_of w out) hd ∙ ap (λ (k : ℕ). spend k (state_of w out c)) hl

    spent_low : Low (state_of w out d)
    spent_low = rw hd (record { bools = s.low.bools; ints = s.low.ints; used = omega arith })

    test_is : {b : Bool} → b ≡ ltb cap d.used → b ≡ ltb cap spent.used
    test_is e = e ∙ ap (λ (st : State). ltb cap st.used) spent_is

    pub constant_full : true ≡ ltb cap d.used → Here (state_of w out d)
    unfolding meet_constant
    constant_full e = let t = test_is e in record { state = λ ds h f. spent_is ∙ rw (ne, ← t) refl; kept = record { part = refl; behind = refl; size = refl; room = refl }; low = spent_low }

    module _ (e : false ≡ ltb cap d.used) (d' : Progress) (hd' : d' ≡ record { bools = bump d.bools 1; ints = d.ints; used = d.used }) where
      abbrev negated : List ℤ → Task
      negated ws = form_at rec cap ws u m true p.cond base

      abbrev plain : List ℤ → Task
      plain ws = form_at rec cap ws u m false p.cond base

      begun_is : state_of w out d' ≡ more_bools 1 spent
      begun_is = ap (state_of w out) hd' ∙ ap (more_bools 1) spent_is

      begun_low : Low (state_of w out d')
      begun_low = rw hd' (record { bools = omega arith; ints = spent_low.ints; used = spent_low.used })

      begun_kept : Kept (state_of w out c) (state_of w out d')
      begun_kept = record { part = refl; behind = refl; size = refl; room = refl }

      asked : (ds : List Domain) → (constant_at rec cap u m at base p x y (read_part w)).fits ds (state_of w out c) → (negated (read_part w)).fits ds (more_bools 1 spent) × (plain (read_part w)).fits ds ((negated (read_part w)).meet ds (more_bools 1 spent))
      unfolding constant_fits
      asked ds f = let t = test_is e in rw (ne, ← t) at f

      pub negated_starts : Starts (negated (read_part w)) (state_of w out d') rec p.cond base
      negated_starts = let r = s.ready in starts_later s begun_kept begun_low s.inside s.low_base (record { domains = r.domains; declares = r.declares; fits = rw begun_is (asked r.domains r.fits).0 })

      module _ (st₁ : State) (a : Done (negated (read_part w)) (state_of w out d') st₁) where
        first_is : (ds : List Domain) → Declares ds w → (constant_at rec cap u m at base p x y (read_part w)).fits ds (state_of w out c) → st₁ ≡ (negated (read_part w)).meet ds (more_bools 1 spent)
        first_is ds h f = a.state ds h (rw begun_is (asked ds f).0) ∙ ap ((negated (read_part w)).meet ds) begun_is

        later : Kept (state_of w out c) st₁
        later = kept_then begun_kept a.kept

        pub plain_starts : Starts (plain (read_part st₁.work)) st₁ rec p.cond base
        plain_starts =
            let r = s.ready in
            let f : (plain (read_part w)).fits r.domains st₁ = rw (first_is r.domains r.declares r.fits) (asked r.domains r.fits).1 in
            starts_later s later a.low s.inside s.low_base (record { domains = r.domains; declares = declares_kept r.domains w st₁.work later.behind r.declares; fits = subst (λ (ws : List ℤ). (plain ws).fits r.domains st₁) (sym later.part) f })

        module _ (st₂ : State) (b : Done (plain (read_part st₁.work)) st₁ st₂) where
          second_is : (ds : List Domain) → Declares ds w → (constant_at rec cap u m at base p x y (read_part w)).fits ds (state_of w out c) → st₂ ≡ (plain (read_part w)).meet ds ((negated (read_part w)).meet ds (more_bools 1 spent))
          second_is ds h f =
              let b' : Done (plain (read_part w)) st₁ st₂ = subst (λ (ws : List ℤ). Done (plain ws) st₁ st₂) later.part b in
              b'.state ds (declares_kept ds w st₁.work later.behind h) (rw (first_is ds h f) (asked ds f).1) ∙ ap ((plain (read_part w)).meet ds) (first_is ds h f)

          constant_done : (k k' : ℕ) (o : List ℤ) (r : Progress) → ((ds : List Domain) → k ≡ fresh (tallies (num_item c.bools false ∷ form_item ds (negated_at rec cap u m at base p (read_part w)) ∷ [])))
              → ((ds : List Domain) → k' ≡ fresh (tallies (num_item c.bools true ∷ form_item ds (plain_at rec cap u m at base p (read_part w)) ∷ [])))
              → o ≡ sets st₂.out (rec + 4 * st₂.ints) (two_record (pos (c.bools + 1)) x y) → r ≡ record { bools = bump (bump st₂.bools k) k'; ints = bump st₂.ints 1; used = st₂.used } → Here (state_of st₂.work o r)
          unfolding meet_constant new_int
          constant_done k k' o r hk hk' ho hr = record {
            state = λ ds h f. let t = test_is e in rw (ne, ← t, ← hk ds, ← hk' ds, ← second_is ds h f, hr, ho) refl;
            kept = let q = kept_then later b.kept in record { part = q.part; behind = q.behind; size = q.size; room = ap length ho ∙ length-sets st₂.out (rec + 4 * st₂.ints) (two_record (pos (c.bools + 1)) x y) ∙ q.room };
            low = rw hr (record { bools = omega arith; ints = omega arith; used = b.low.used });
          }

          -- from the tallies that the walk finds
          pub constant_concluded : (q b x₁ y₁ z₁ q' b' x₂ y₂ z₂ : ℕ) (o : List ℤ) (r : Progress) → SizedAt (read_part w) u m true p.cond base q b x₁ y₁ z₁ → SizedAt (read_part st₁.work) u m false p.cond base q' b' x₂ y₂ z₂
              → o ≡ sets st₂.out (rec + 4 * st₂.ints) (two_record (pos (c.bools + 1)) x y)
              → r ≡ record { bools = bump (bump st₂.bools (fresh_in (mode_in x₁ (y₁ + 1) z₁) x₁)) (fresh_in (mode_in x₂ (y₂ + 1) z₂) x₂); ints = bump st₂.ints 1; used = st₂.used } → Here (state_of st₂.work o r)
          constant_concluded q b x₁ y₁ z₁ q' b' x₂ y₂ z₂ o r f g ho hr =
              let g' : SizedAt (read_part w) u m false p.cond base q' b' x₂ y₂ z₂ = subst (λ (ws : List ℤ). SizedAt ws u m false p.cond base q' b' x₂ y₂ z₂) later.part g in
              constant_done _ _ o r
              (λ ds. pair_new c.bools false (form_item ds (negated_at rec cap u m at base p (read_part w))) x₁ y₁ z₁ _ (f.longs ds) (f.lits ds) (f.cmps ds) refl)
              (λ ds. pair_new c.bools true (form_item ds (plain_at rec cap u m at base p (read_part w))) x₂ y₂ z₂ _ (g'.longs ds) (g'.lits ds) (g'.cmps ds) refl)
              ho hr

-- ---- other branches: the If's own number

module _ (rec cap u : ℕ) (m : Splitting) (at base : ℕ) (p : IfParts) (w out : List ℤ) (c : Progress) (lo hi : ℤ) (s : Starts (open_at rec cap u m at base p lo hi (read_part w)) (state_of w out c) rec at base) (parts : PartsAt (read_part w) u m p.cond base p)
    (cl : ℕ) (hl : cl ≡ leaves_in (read_part w) u m base p) (o : List ℤ) (ho : o ≡ sets out (rec + 4 * c.ints) (range_record (Range lo hi))) (d : Progress) (hd : d ≡ record { bools = c.bools; ints = bump c.ints 1; used = bump c.used cl }) where
  abbrev Opened : State → Type 0
  Opened st' = Done (open_at rec cap u m at base p lo hi (read_part w)) (state_of w out c) st'

  abbrev opened : List Domain → State
  opened ds = spend (leaves_in (read_part w) u m base p) (new_int ds rec cap (range_record (Range lo hi)) (state_of w out c))

  opened_is : (ds : List Domain) → state_of w o d ≡ opened ds
  unfolding new_int
  opened_is ds = rw (hd, ho, hl) refl

  opened_low : Low (state_of w o d)
  opened_low = rw hd (record { bools = s.low.bools; ints = omega arith; used = omega arith })

  opened_kept : Kept (state_of w out c) (state_of w o d)
  opened_kept = record { part = refl; behind = refl; size = refl; room = ap length ho ∙ length-sets out (rec + 4 * c.ints) (range_record (Range lo hi)) }

  open_test : {b : Bool} (ds : List Domain) → b ≡ ltb cap d.used → b ≡ ltb cap (opened ds).used
  open_test ds e = e ∙ ap (λ (st : State). ltb cap st.used) (opened_is ds)

  pub open_full : true ≡ ltb cap d.used → Opened (state_of w o d)
  unfolding meet_open
  open_full e = record { state = λ ds h f. let t = open_test ds e in opened_is ds ∙ rw (← t) refl; kept = opened_kept; low = opened_low }

  module _ (e : false ≡ ltb cap d.used) where
    abbrev negated' : List ℤ → Task
    negated' ws = form_at rec cap ws u m true p.cond base

    abbrev plain' : List ℤ → Task
    plain' ws = form_at rec cap ws u m false p.cond base

    open_asked : (ds : List Domain) → (open_at rec cap u m at base p lo hi (read_part w)).fits ds (state_of w out c) → (plain' (read_part w)).fits ds (opened ds) × (negated' (read_part w)).fits ds ((plain' (read_part w)).meet ds (opened ds))
    unfolding open_fits
    open_asked ds f = let t = open_test ds e in rw (← t) at f

    pub open_plain : Starts (plain' (read_part w)) (state_of w o d) rec p.cond base
    open_plain = let r = s.ready in starts_later s opened_kept opened_low parts.inside s.low_base (record { domains = r.domains; declares = r.declares; fits = rw (opened_is r.domains) (open_asked r.domains r.fits).0 })

    module _ (st₁ : State) (a : Done (plain' (read_part w)) (state_of w o d) st₁) where
      plain_is : (ds : List Domain) → Declares ds w → (open_at rec cap u m at base p lo hi (read_part w)).fits ds (state_of w out c) → st₁ ≡ (plain' (read_part w)).meet ds (opened ds)
      plain_is ds h f = a.state ds h (rw (opened_is ds) (open_asked ds f).0) ∙ ap ((plain' (read_part w)).meet ds) (opened_is ds)

      between : Kept (state_of w out c) st₁
      between = kept_then opened_kept a.kept

      pub open_negated : Starts (negated' (read_part st₁.work)) st₁ rec p.cond base
      open_negated =
          let r = s.ready in
          let f : (negated' (read_part w)).fits r.domains st₁ = rw (plain_is r.domains r.declares r.fits) (open_asked r.domains r.fits).1 in
          starts_later s between a.low parts.inside s.low_base (record { domains = r.domains; declares = declares_kept r.domains w st₁.work between.behind r.declares; fits = subst (λ (ws : List ℤ). (negated' ws).fits r.domains st₁) (sym between.part) f })

      module _ (st₂ : State) (b : Done (negated' (read_part st₁.work)) st₁ st₂) where
        negated_is : (ds : List Domain) → Declares ds w → (open_at rec cap u m at base p lo hi (read_part w)).fits ds (state_of w out c) → st₂ ≡ (negated' (read_part w)).meet ds ((plain' (read_part w)).meet ds (opened ds))
        negated_is ds h f =
            let b' : Done (negated' (read_part w)) st₁ st₂ = subst (λ (ws : List ℤ). Done (negated' ws) st₁ st₂) between.part b in
            b'.state ds (declares_kept ds w st₁.work between.behind h) (rw (plain_is ds h f) (open_asked ds f).1) ∙ ap ((negated' (read_part w)).meet ds) (plain_is ds h f)

        pub open_done : (v : Bool) (z : ℤ) (w' : List ℤ) (r : Progress) → v ≡ is_none (p.base - base) → z ≡ number_word v c.ints → w' ≡ set_cells at z lo hi st₂.work → r ≡ record { bools = bump st₂.bools 1; ints = st₂.ints; used = st₂.used } → Opened (state_of w' st₂.out r)
        unfolding meet_open
        open_done v z w' r hv hz hw hr = record {
          state = λ ds h f. let t = open_test ds e in rw (← t, ← negated_is ds h f, hr, hw, hz, hv) refl;
          kept = let q = kept_then between b.kept in let k = kept_cells st₂.work st₂.out r r at z lo hi s.inside in record { part = ap read_part hw ∙ k.part ∙ q.part; behind = rw hw (k.behind ∙ q.behind); size = rw hw (k.size ∙ q.size); room = q.room };
          low = rw hr (record { bools = omega arith; ints = b.low.ints; used = b.low.used });
        }
