-- An If that is made: its branches, then by their sums its condition's literal or number, or its own. Laws for the code.
use Rattle.std.specs.Prelude.{Option, None, Some, ◌≡◌, Bool, true, false, ◌&&◌, cond, List, ℕ, ◌+◌, ◌≤◌, ℤ, pos, negsuc, nat_abs, get_or, set, drop, ltb}
use Rattle.std.proofs.Math.Path.{refl, sym, ap, subst}
use Rattle.std.proofs.Common.{◌∙◌, arith, length-set, drop-set-lt, get_or-drop, SFits, of_z, to_z, to_z-of_z}
use Rattle.std.specs.Int.{w32}
use Rattle.memory.specs.Places.{folded_end, cells, ifs_word, limit}
use Rattle.syntax.specs.Syntax.{Domain, Range}
use Rattle.syntax.specs.Words.{max_weight}
use Rattle.sums.specs.LinearSum.{is_constant}
use Rattle.sums.specs.Rising.{constant_of}
use Rattle.walk.specs.Item.{bump}
use Rattle.walk.specs.Decode.{read_part}
use Rattle.walk.proofs.NumberingSteps.{part_set}
use Rattle.walk.specs.declared.Counters.{Counters}
use Rattle.walks.specs.Tree.{Splitting}
use Rattle.walks.specs.Form.{IntForm}
use Rattle.walks.specs.Item.{counters, has_ifs, form_int_item}
use Rattle.walks.specs.Decode.{own_at}
use Rattle.walks.specs.Meet.{State, counters_of, with_work, spend, set_cell, is_full, meet_constant, meet_open, meet_branches, meet_new, form_meet_int}
use Rattle.declared.specs.DomainTable.{Declares}
use Rattle.numbering.specs.Declares.{declares_kept}
use Rattle.numbering.specs.Task.{state_of, Task, Low, Kept, kept_then, Done, Starts, starts_same, starts_later}
use Rattle.numbering.specs.Fits.{Unless, BranchesFit, either_range, constant_fits, open_fits, branches_fit, new_fits}
use Rattle.numbering.specs.Steps.{int_at}
use Rattle.numbering.specs.If.{PartsAt, first_at, second_at, parts_at, asks_at, new_at}
use Rattle.numbering.specs.declared.IfParts.{IfParts}
use Rattle.numbering.specs.declared.Progress.{Progress}

-- the counters as the second walk's
abbrev pub counters_in : List ℤ → Progress → Counters
counters_in w c = counters c.bools (cond (has_ifs w) c.ints 0)

ifs_kept : (w w' : List ℤ) → drop ifs_word w' ≡ drop ifs_word w → has_ifs w' ≡ has_ifs w
unfolding has_ifs
ifs_kept w w' e =
    let i : ifs_word + 0 ≡ ifs_word = omega arith in
    let j : get_or w' ifs_word (pos 0) ≡ get_or w ifs_word (pos 0) = ap (λ (n : ℕ). get_or w' n (pos 0)) (sym i) ∙ sym (get_or-drop ifs_word w' 0 (pos 0)) ∙ ap (λ (l : List ℤ). get_or l 0 (pos 0)) e ∙ get_or-drop ifs_word w 0 (pos 0) ∙ ap (λ (n : ℕ). get_or w n (pos 0)) i in
    rw j refl

pub counters_kept : (st st' : State) (c : Progress) → Kept st st' → counters_in st'.work c ≡ counters_in st.work c
counters_kept st st' c k = ap (λ (b : Bool). counters c.bools (cond b c.ints 0)) (ifs_kept st.work st'.work k.behind)

module _ (rec cap u : ℕ) (m : Splitting) (at base : ℕ) (p : IfParts) where
  abbrev pub constant_at : ℤ → ℤ → List ℤ → Task
  constant_at x y ws = record {
    fits = λ ds st. constant_fits ds rec cap (parts_at rec cap u m at base p ws ds) (asks_at rec cap u m at base p ws ds) (own_at ws p.cond) st;
    meet = λ ds st. meet_constant ds rec cap (parts_at rec cap u m at base p ws ds) x y (own_at ws p.cond) st;
  }

  abbrev pub open_at : ℤ → ℤ → List ℤ → Task
  open_at x y ws = record {
    fits = λ ds st. open_fits ds rec cap (parts_at rec cap u m at base p ws ds) (asks_at rec cap u m at base p ws ds) (Range x y) st;
    meet = λ ds st. meet_open ds rec cap (parts_at rec cap u m at base p ws ds) (Range x y) st;
  }

  -- behind the branches, met from n and k on
  abbrev made_by : List Domain → List ℤ → Counters → Counters → State → State
  made_by ds ws n k b =
      let q = parts_at rec cap u m at base p ws ds in
      let l = q.first.total b.work n in
      let o = q.second.total b.work k in
      cond (is_constant l && is_constant o)
      (meet_constant ds rec cap q (constant_of l) (constant_of o) q.own (with_work (set_cell (at + 1) (negsuc 0) b.work) b))
      (meet_open ds rec cap q (either_range q.first q.second b.work n k) b)

  abbrev pub branches_at : Counters → Counters → List ℤ → Task
  branches_at n k ws = record { fits = λ ds st. branches_fit ds rec cap (parts_at rec cap u m at base p ws ds) (asks_at rec cap u m at base p ws ds) n k st; meet = λ ds st. made_by ds ws n k st }

-- where the branches begin, and their counters, which stop at the limit
pub record Begins (p : IfParts) (s y : Progress) : Type 0 where
  pub first : p.first ≤ folded_end
  pub one : p.one ≤ limit
  pub second : p.second ≤ folded_end
  pub two : p.two ≤ limit
  pub low_first : (s.bools ≤ limit) × (s.ints ≤ limit)
  pub low_second : (y.bools ≤ limit) × (y.ints ≤ limit)

-- ---- the branches

same_state : (w out : List ℤ) (c d : Progress) → c ≡ d → state_of w out c ≡ state_of w out d
same_state w out c d e = ap (state_of w out) e

module _ (rec cap u : ℕ) (m : Splitting) (at base : ℕ) (p : IfParts) (w out : List ℤ) (c d : Progress) (s : Starts (new_at rec cap u m at base p (read_part w)) (state_of w out c) rec at base) (x : PartsAt (read_part w) u m p.cond base p)
    (hd : d ≡ record { bools = c.bools; ints = c.ints; used = bump c.used 4 }) where
  abbrev Here : State → Type 0
  Here st' = Done (new_at rec cap u m at base p (read_part w)) (state_of w out c) st'

  spent_low : Low (state_of w out d)
  spent_low = rw hd (record { bools = s.low.bools; ints = s.low.ints; used = omega arith })

  spent_kept : Kept (state_of w out c) (state_of w out d)
  spent_kept = record { part = refl; behind = refl; size = refl; room = refl }

  abbrev spent : State
  spent = spend 4 (state_of w out c)

  spent_is : state_of w out d ≡ spent
  spent_is = same_state w out d _ hd

  test_is : {b : Bool} → b ≡ ltb cap d.used → b ≡ ltb cap (bump c.used 4)
  test_is e = e ∙ ap (λ (k : Progress). ltb cap k.used) hd

  pub new_full : true ≡ ltb cap d.used → Here (state_of w out d)
  unfolding meet_new
  new_full e = let t = test_is e in record { state = λ ds _ f. spent_is ∙ rw (← t) refl; kept = spent_kept; low = spent_low }

  module _ (e : false ≡ ltb cap d.used) where
    abbrev first_task : List ℤ → Task
    first_task ws = int_at rec cap ws u m p.first p.one

    abbrev second_task : List ℤ → Task
    second_task ws = int_at rec cap ws u m p.second p.two

    -- what is asked behind the test
    asked : (ds : List Domain) → new_fits ds rec cap (parts_at rec cap u m at base p (read_part w) ds) (asks_at rec cap u m at base p (read_part w) ds) (state_of w out c)
        → (let q = parts_at rec cap u m at base p (read_part w) ds in let a = asks_at rec cap u m at base p (read_part w) ds in let y = q.meet_first spent in let b = q.meet_second y in
        a.first spent × a.second y × Unless (is_full ds rec cap b) (branches_fit ds rec cap q a (counters_of spent) (counters_of y) b))
    unfolding new_fits
    asked ds f = let t = test_is e in rw (← t) at f

    pub first_starts : Starts (first_task (read_part w)) (state_of w out d) rec p.first p.one
    first_starts =
        let r = s.ready in
        starts_later s spent_kept spent_low x.condition.inside x.condition.low (record { domains = r.domains; declares = r.declares; fits = rw spent_is (asked r.domains r.fits).0 })

    module _ (st₁ : State) (a : Done (first_task (read_part w)) (state_of w out d) st₁) where
      -- behind the first branch
      first_is : (ds : List Domain) → Declares ds w → (new_at rec cap u m at base p (read_part w)).fits ds (state_of w out c) → st₁ ≡ form_meet_int ds rec cap (first_at rec cap u m at base p (read_part w)) spent
      first_is ds h f = a.state ds h (rw spent_is (asked ds f).0) ∙ ap (form_meet_int ds rec cap (first_at rec cap u m at base p (read_part w))) spent_is

      later : Kept (state_of w out c) st₁
      later = kept_then spent_kept a.kept

      pub second_starts : Starts (second_task (read_part st₁.work)) st₁ rec p.second p.two
      second_starts =
          let r = s.ready in
          let f : (second_task (read_part w)).fits r.domains st₁ = rw (first_is r.domains r.declares r.fits) (asked r.domains r.fits).1 in
          starts_later s later a.low x.first.inside x.first.low (record { domains = r.domains; declares = declares_kept r.domains w st₁.work later.behind r.declares; fits = subst (λ (ws : List ℤ). (second_task ws).fits r.domains st₁) (sym later.part) f })

      module _ (st₂ : State) (b : Done (second_task (read_part st₁.work)) st₁ st₂) where
        at_w : Done (second_task (read_part w)) st₁ st₂
        at_w = subst (λ (ws : List ℤ). Done (second_task ws) st₁ st₂) later.part b

        second_is : (ds : List Domain) → Declares ds w → (new_at rec cap u m at base p (read_part w)).fits ds (state_of w out c) → st₂ ≡ form_meet_int ds rec cap (second_at rec cap u m at base p (read_part w)) st₁
        second_is ds h f = at_w.state ds (declares_kept ds w st₁.work later.behind h) (rw (first_is ds h f) (asked ds f).1)

        behind : Kept (state_of w out c) st₂
        behind = kept_then later b.kept

        -- the walk behind the branches
        made : (ds : List Domain) → Declares ds w → (new_at rec cap u m at base p (read_part w)).fits ds (state_of w out c)
            → cond (is_full ds rec cap st₂) st₂ (made_by rec cap u m at base p ds (read_part w) (counters_of spent) (counters_of st₁) st₂) ≡ meet_new ds rec cap (parts_at rec cap u m at base p (read_part w) ds) (state_of w out c)
        unfolding meet_new meet_branches
        made ds h f = let t = test_is e in rw (second_is ds h f, first_is ds h f, ← t) refl

        pub new_late : true ≡ ltb cap st₂.used → Here st₂
        new_late t = record { state = λ ds h f. rw (← t) at (made ds h f); kept = behind; low = b.low }

        module _ (y : Progress) (hy : counters_of st₁ ≡ counters_in st₁.work y) (t : false ≡ ltb cap st₂.used) where
          abbrev start : Counters
          start = counters_in st₂.work d

          abbrev between : Counters
          between = counters_in st₂.work y

          start_is : counters_of spent ≡ start
          start_is = ap (λ (k : Progress). counters_in w k) (sym hd) ∙ sym (counters_kept (state_of w out c) st₂ d behind)

          between_is : counters_of st₁ ≡ between
          between_is = hy ∙ sym (counters_kept st₁ st₂ y b.kept)

          branches_ask : (ds : List Domain) → Declares ds w → (new_at rec cap u m at base p (read_part w)).fits ds (state_of w out c) → (branches_at rec cap u m at base p start between (read_part w)).fits ds st₂
          branches_ask ds h f =
              let g = rw (← first_is ds h f, ← second_is ds h f, ← t) at (asked ds f).2 in
              subst (λ (n : Counters). (branches_at rec cap u m at base p n between (read_part w)).fits ds st₂) start_is (subst (λ (n : Counters). (branches_at rec cap u m at base p (counters_of spent) n (read_part w)).fits ds st₂) between_is g)

          pub branches_starts : Starts (branches_at rec cap u m at base p start between (read_part st₂.work)) st₂ rec at base
          branches_starts =
              let r = s.ready in
              starts_later s behind b.low s.inside s.low_base (record {
                domains = r.domains;
                declares = declares_kept r.domains w st₂.work behind.behind r.declares;
                fits = subst (λ (ws : List ℤ). (branches_at rec cap u m at base p start between ws).fits r.domains st₂) (sym behind.part) (branches_ask r.domains r.declares r.fits);
              })

          pub branches_parts : PartsAt (read_part st₂.work) u m p.cond base p
          branches_parts = subst (λ (ws : List ℤ). PartsAt ws u m p.cond base p) (sym behind.part) x

          pub branches_begin : Low (state_of st₁.work st₁.out y) → Begins p d y
          branches_begin l = record {
            first = x.condition.inside;
            one = x.condition.low;
            second = x.first.inside;
            two = x.first.low;
            low_first = (spent_low.bools, spent_low.ints);
            low_second = (l.bools, l.ints);
          }

          pub branches_done : (st₃ : State) → Done (branches_at rec cap u m at base p start between (read_part st₂.work)) st₂ st₃ → Here st₃
          branches_done st₃ g =
              let g' : Done (branches_at rec cap u m at base p start between (read_part w)) st₂ st₃ = subst (λ (ws : List ℤ). Done (branches_at rec cap u m at base p start between ws) st₂ st₃) behind.part g in
              record {
                state = λ ds h f. g'.state ds (declares_kept ds w st₂.work behind.behind h) (branches_ask ds h f) ∙ ap (λ (n : Counters). made_by rec cap u m at base p ds (read_part w) n between st₂) (sym start_is)
                    ∙ ap (λ (n : Counters). made_by rec cap u m at base p ds (read_part w) (counters_of spent) n st₂) (sym between_is) ∙ rw (← t) at (made ds h f);
                kept = kept_then behind g.kept;
                low = g.low;
              }

-- ---- behind the branches: what the code finds of their sums

pub record SumsReady (w : List ℤ) (t f : IntForm) (n k : Counters) : Type 0 where
  pub domains : List Domain
  pub declares : Declares domains w
  pub fits : BranchesFit domains w t f n k

pub record SumsAre (ds : List Domain) (w : List ℤ) (t f : IntForm) (n k : Counters) (b : Bool) (x y : ℤ) : Type 0 where
  pub constant : b ≡ is_constant ((form_int_item ds t).total w n) && is_constant ((form_int_item ds f).total w k)
  pub first : x ≡ constant_of ((form_int_item ds t).total w n)
  pub second : y ≡ constant_of ((form_int_item ds f).total w k)

-- both branches' constants, or none where one of them is not constant
abbrev pub ConstantsAre : List Domain → List ℤ → IntForm → IntForm → Counters → Counters → Option (ℤ × ℤ) → Type 0
ConstantsAre ds w t f n k None = false ≡ is_constant ((form_int_item ds t).total w n) && is_constant ((form_int_item ds f).total w k)
ConstantsAre ds w t f n k (Some (x, y)) = SumsAre ds w t f n k true x y

-- for domains that the slice declares
pub record RangeIs (w : List ℤ) (t f : IntForm) (n k : Counters) (x y : ℤ) : Type 0 where
  pub is : (ds : List Domain) → Declares ds w → BranchesFit ds w t f n k → Range x y ≡ either_range (form_int_item ds t) (form_int_item ds f) w n k
  pub lowest : nat_abs x ≤ max_weight
  pub highest : nat_abs y ≤ max_weight

-- the same as bits
module _ {w : List ℤ} {t f : IntForm} {n k : Counters} {x y : ℤ} (i : SFits w32 x) (j : SFits w32 y) where
  pub sums_bits : {b : Bool} → ((ds : List Domain) → SumsAre ds w t f n k b x y) → (ds : List Domain) → SumsAre ds w t f n k b (to_z w32 (of_z w32 x)) (to_z w32 (of_z w32 y))
  sums_bits h ds = let a = h ds in record { constant = a.constant; first = to_z-of_z i ∙ a.first; second = to_z-of_z j ∙ a.second }

  pub range_bits : RangeIs w t f n k x y → RangeIs w t f n k (to_z w32 (of_z w32 x)) (to_z w32 (of_z w32 y))
  range_bits h = record { is = λ ds d e. rw (to_z-of_z i, to_z-of_z j) (h.is ds d e); lowest = rw (to_z-of_z i) h.lowest; highest = rw (to_z-of_z j) h.highest }

module _ (rec cap u : ℕ) (m : Splitting) (at base : ℕ) (p : IfParts) (w out : List ℤ) (c : Progress) (n k : Counters) (s : Starts (branches_at rec cap u m at base p n k (read_part w)) (state_of w out c) rec at base)
    (parts : PartsAt (read_part w) u m p.cond base p) where
  abbrev Made : State → Type 0
  Made st' = Done (branches_at rec cap u m at base p n k (read_part w)) (state_of w out c) st'

  abbrev t_form : IntForm
  t_form = first_at rec cap u m at base p (read_part w)

  abbrev f_form : IntForm
  f_form = second_at rec cap u m at base p (read_part w)

  pub sums_ready : SumsReady w t_form f_form n k
  unfolding branches_fit
  sums_ready = let r = s.ready in record { domains = r.domains; declares = r.declares; fits = r.fits.0 }

  module _ (b : Bool) (x y : ℤ) (sums : (ds : List Domain) → SumsAre ds w t_form f_form n k b x y) where
    module _ (e : b ≡ true) (w' : List ℤ) (hw : w' ≡ set w (cells + (at + 1)) (negsuc 0)) where
      mark_kept : Kept (state_of w out c) (state_of w' out c)
      mark_kept = rw hw (record { part = part_set w (cells + (at + 1)) (negsuc 0) (omega arith); behind = drop-set-lt ifs_word w (cells + (at + 1)) (negsuc 0) (omega (arith, s.inside)); size = length-set w (cells + (at + 1)) (negsuc 0); room = refl })

      constant_ask : (ds : List Domain) → (branches_at rec cap u m at base p n k (read_part w)).fits ds (state_of w out c) → (constant_at rec cap u m at base p x y (read_part w)).fits ds (state_of w' out c)
      unfolding branches_fit
      constant_ask ds f = let t = sym e ∙ (sums ds).constant in rw hw (rw (← t) at f.1)

      pub constant_starts : Starts (constant_at rec cap u m at base p x y (read_part w')) (state_of w' out c) rec p.cond base
      constant_starts =
          let r = s.ready in
          starts_later s mark_kept (record { bools = s.low.bools; ints = s.low.ints; used = s.low.used }) parts.inside s.low_base (record {
            domains = r.domains;
            declares = declares_kept r.domains w w' mark_kept.behind r.declares;
            fits = subst (λ (ws : List ℤ). (constant_at rec cap u m at base p x y ws).fits r.domains (state_of w' out c)) (sym mark_kept.part) (constant_ask r.domains r.fits);
          })

      constant_is : (ds : List Domain) → (constant_at rec cap u m at base p x y (read_part w)).meet ds (state_of w' out c) ≡ made_by rec cap u m at base p ds (read_part w) n k (state_of w out c)
      constant_is ds = let t = sym e ∙ (sums ds).constant in rw (← t, (sums ds).first, (sums ds).second, hw) refl

      pub constant_made : (st' : State) → Done (constant_at rec cap u m at base p x y (read_part w')) (state_of w' out c) st' → Made st'
      constant_made st' d =
          let d' : Done (constant_at rec cap u m at base p x y (read_part w)) (state_of w' out c) st' = subst (λ (ws : List ℤ). Done (constant_at rec cap u m at base p x y ws) (state_of w' out c) st') mark_kept.part d in
          record { state = λ ds h f. d'.state ds (declares_kept ds w w' mark_kept.behind h) (constant_ask ds f) ∙ constant_is ds; kept = kept_then mark_kept d.kept; low = d.low }

  module _ (not_both : (ds : List Domain) → false ≡ is_constant ((form_int_item ds t_form).total w n) && is_constant ((form_int_item ds f_form).total w k)) where
    module _ (lo hi : ℤ) (range : RangeIs w t_form f_form n k lo hi) where
      open_ask : (ds : List Domain) → Declares ds w → (branches_at rec cap u m at base p n k (read_part w)).fits ds (state_of w out c) → (open_at rec cap u m at base p lo hi (read_part w)).fits ds (state_of w out c)
      unfolding branches_fit
      open_ask ds h f = let t = not_both ds in subst (λ (d : Domain). open_fits ds rec cap (parts_at rec cap u m at base p (read_part w) ds) (asks_at rec cap u m at base p (read_part w) ds) d (state_of w out c)) (sym (range.is ds h f.0)) (rw (← t) at f.1)

      pub open_starts : Starts (open_at rec cap u m at base p lo hi (read_part w)) (state_of w out c) rec at base
      open_starts = let r = s.ready in starts_same s s.inside s.low_base (record { domains = r.domains; declares = r.declares; fits = open_ask r.domains r.declares r.fits })

      open_is : (ds : List Domain) → Declares ds w → (branches_at rec cap u m at base p n k (read_part w)).fits ds (state_of w out c) → (open_at rec cap u m at base p lo hi (read_part w)).meet ds (state_of w out c) ≡ made_by rec cap u m at base p ds (read_part w) n k (state_of w out c)
      unfolding branches_fit
      open_is ds h f = let t = not_both ds in ap (λ (d : Domain). meet_open ds rec cap (parts_at rec cap u m at base p (read_part w) ds) d (state_of w out c)) (range.is ds h f.0) ∙ rw (← t) refl

      pub open_made : (st' : State) → Done (open_at rec cap u m at base p lo hi (read_part w)) (state_of w out c) st' → Made st'
      open_made st' d = record { state = λ ds h f. d.state ds h (open_ask ds h f) ∙ open_is ds h f; kept = d.kept; low = d.low }
