-- An If in parts: what each function of the walk asks and does of it. Laws for the code.
use Rattle.std.specs.Prelude.{◌≡◌, Bool, true, ◌||◌, List, ℤ, set, ltb, leb}
use Rattle.std.proofs.Math.Path.{refl, ap, subst}
use Rattle.std.proofs.Common.{sym, ◌∙◌, arith, length-set, drop-set-lt, leb-true, leb-false}
use Rattle.std.proofs.Math.Bool.{false}
use Rattle.std.proofs.Math.Option.{none, some}
use Prim.Native.Nat.{ℕ, zero, suc, ◌+◌, ◌-◌, ◌≤◌}
use Rattle.memory.specs.Places.{folded_end, cells, ifs_word}
use Rattle.syntax.specs.Syntax.{Domain}
use Rattle.walk.specs.Item.{is_none}
use Rattle.walk.specs.Decode.{read_part}
use Rattle.walk.proofs.NumberingSteps.{part_set}
use Rattle.walks.specs.Tree.{Place, Splitting}
use Rattle.walks.specs.Form.{Form, IntForm, choice}
use Rattle.walks.specs.Item.{cell, seen_in, seen, known_in}
use Rattle.walks.specs.Decode.{IntRead, own_at, if_step, decode, decode_int}
use Rattle.walks.specs.Meet.{State, set_cells, copied, find_equal, Parts, meet_new, meet_if, form_meet}
use Rattle.scan.specs.Skip.{Skips, IntSkips}
use Rattle.numbering.specs.Task.{state_of, Task, Ready, Kept, kept_same, Done, Starts, starts_same}
use Rattle.numbering.specs.Fits.{Asks, BranchesFit, parts_of, new_fits, if_fits, form_fits, int_fits, int_task}
use Rattle.numbering.specs.Members.{IfSkips}
use Rattle.numbering.specs.declared.IfParts.{IfParts}
use Rattle.numbering.specs.declared.Progress.{Progress}

-- where the parts stand
pub record PartsAt (ws : List ℤ) (u : ℕ) (m : Splitting) (c base : ℕ) (p : IfParts) : Type 0 where
  pub place : p.cond ≡ c
  pub inside : c ≤ folded_end
  pub condition : Skips ws u m c base p.first p.one
  pub first : IntSkips ws u m p.first p.one p.second p.two
  pub second : IntSkips ws u m p.second p.two p.at p.base

module _ (rec cap u : ℕ) (m : Splitting) (at base : ℕ) (p : IfParts) where
  abbrev pub place_at : Place
  place_at = record { at = at; size = p.at - at; whole = is_none (p.base - base) }

  abbrev pub plain_at : List ℤ → Form
  plain_at ws = (decode ws u m false p.cond base).tree

  abbrev pub negated_at : List ℤ → Form
  negated_at ws = (decode ws u m true p.cond base).tree

  abbrev pub first_at : List ℤ → IntForm
  first_at ws = (decode_int ws u m p.first p.one).tree

  abbrev pub second_at : List ℤ → IntForm
  second_at ws = (decode_int ws u m p.second p.two).tree

  abbrev pub parts_at : List ℤ → List Domain → Parts
  parts_at ws ds = parts_of ds rec cap place_at (own_at ws p.cond) (plain_at ws) (negated_at ws) (first_at ws) (second_at ws)

  abbrev pub asks_at : List ℤ → List Domain → Asks
  asks_at ws ds = record {
    plain = λ s. form_fits ds rec cap (plain_at ws) s;
    negated = λ s. form_fits ds rec cap (negated_at ws) s;
    first = λ s. int_fits ds rec cap (first_at ws) s;
    second = λ s. int_fits ds rec cap (second_at ws) s;
    branches = λ w n k. BranchesFit ds w (first_at ws) (second_at ws) n k;
  }

  -- the If; the If where nothing is known of it
  abbrev pub choice_at : List ℤ → Task
  choice_at ws = record { fits = λ ds st. if_fits ds rec cap (parts_at ws ds) (asks_at ws ds) st; meet = λ ds st. meet_if ds rec cap (parts_at ws ds) st }

  abbrev pub new_at : List ℤ → Task
  new_at ws = record { fits = λ ds st. new_fits ds rec cap (parts_at ws ds) (asks_at ws ds) st; meet = λ ds st. meet_new ds rec cap (parts_at ws ds) st }

-- ---- the words of an If

module _ (rec cap : ℕ) (ws : List ℤ) (u : ℕ) (m : Splitting) (at c base : ℕ) (p : IfParts) (x : PartsAt ws u m c base p) where
  if_form : if_step (own_at ws c) (decode ws u) (decode_int ws u) m at c base ≡ record { tree = choice (place_at rec cap u m at base p) (own_at ws p.cond) (plain_at rec cap u m at base p ws) (negated_at rec cap u m at base p ws) (first_at rec cap u m at base p ws) (second_at rec cap u m at base p ws); end = p.at; next = p.base }
  unfolding if_step
  if_form = rw (x.place, x.second.end, x.second.next, x.first.end, x.first.next, x.condition.end false, x.condition.next false) refl

  pub parts_starts : (st : State) → Starts (int_task rec cap (if_step (own_at ws c) (decode ws u) (decode_int ws u) m at c base).tree) st rec at base → Starts (choice_at rec cap u m at base p ws) st rec at base
  unfolding form_fits
  parts_starts st s =
      let r = subst (λ (d : IntRead). Ready (int_task rec cap d.tree) st) if_form s.ready in
      starts_same s s.inside s.low_base (record { domains = r.domains; declares = r.declares; fits = r.fits })

  pub parts_done : (st st' : State) → Done (choice_at rec cap u m at base p ws) st st' → Done (int_task rec cap (if_step (own_at ws c) (decode ws u) (decode_int ws u) m at c base).tree) st st'
  unfolding form_fits form_meet
  parts_done st st' d = subst (λ (d : IntRead). Done (int_task rec cap d.tree) st st') (sym if_form) (record { state = d.state; kept = d.kept; low = d.low })

  pub parts_skips : at ≤ c → IfSkips ws u m at c base p.at p.base
  parts_skips h = record {
    end = ap (λ (d : IntRead). d.end) (sym if_form);
    next = ap (λ (d : IntRead). d.next) (sym if_form);
    start = omega (arith, x.condition.start, x.first.start, x.second.start);
    inside = x.second.inside;
    low = x.second.low;
  }

-- the code's test
pub whole_is : (a b : ℕ) → leb a b ≡ is_none (a - b)
whole_is a b = go (leb a b) refl
  where
    none_of : (n : ℕ) → n ≡ 0 → true ≡ is_none n
    none_of zero e = refl
    none_of (suc n) e = absurd (omega arith)

    some_of : (n : ℕ) → (n ≡ 0 → ⊥) → false ≡ is_none n
    some_of zero e = absurd (e refl)
    some_of (suc n) e = refl

    go : (t : Bool) → leb a b ≡ t → t ≡ is_none (a - b)
    go true e = let l = leb-true a b e in none_of (a - b) (omega arith)
    go false e = let l = leb-false a b e in some_of (a - b) (λ z. omega arith)

-- ---- passed over, found, made

pub kept_cells : (w out : List ℤ) (c d : Progress) (p : ℕ) (x y z : ℤ) → p ≤ folded_end → Kept (state_of w out c) (state_of (set_cells p x y z w) out d)
unfolding set_cells
kept_cells w out c d p x y z h =
    let a = set w (cells + (p + 1)) x in
    let b = set a (cells + (p + 2)) y in
    record {
      part = part_set b (cells + (p + 3)) z (omega arith) ∙ part_set a (cells + (p + 2)) y (omega arith) ∙ part_set w (cells + (p + 1)) x (omega arith);
      behind = drop-set-lt ifs_word b (cells + (p + 3)) z (omega arith) ∙ drop-set-lt ifs_word a (cells + (p + 2)) y (omega arith) ∙ drop-set-lt ifs_word w (cells + (p + 1)) x (omega arith);
      size = length-set b (cells + (p + 3)) z ∙ length-set a (cells + (p + 2)) y ∙ length-set w (cells + (p + 1)) x;
      room = refl;
    }

module _ (rec cap u : ℕ) (m : Splitting) (at base : ℕ) (p : IfParts) (w out : List ℤ) (c : Progress) (s : Starts (choice_at rec cap u m at base p (read_part w)) (state_of w out c) rec at base) where
  abbrev passes : Bool
  passes = ltb cap c.used || known_in (seen_in (cell w (at + 1))) c.ints

  abbrev Here : State → Type 0
  Here st' = Done (choice_at rec cap u m at base p (read_part w)) (state_of w out c) st'

  pub choice_passed : true ≡ passes → Here (state_of w out c)
  unfolding meet_if seen
  choice_passed e = record { state = λ ds d f. rw (← e) refl; kept = kept_same (state_of w out c); low = s.low }

  abbrev place : Place
  place = place_at rec cap u m at base p

  pub choice_found : (q : ℕ) (w' : List ℤ) → false ≡ passes → some q ≡ find_equal w place → w' ≡ copied at q w → Here (state_of w' out c)
  unfolding meet_if seen
  choice_found q w' e h i = record {
    state = λ ds d f. rw (← e, ← h, i) refl;
    kept = rw i (kept_cells w out c c at (cell w (q + 1)) (cell w (q + 2)) (cell w (q + 3)) s.inside);
    low = record { bools = s.low.bools; ints = s.low.ints; used = s.low.used };
  }

  pub new_starts : false ≡ passes → none ≡ find_equal w place → Starts (new_at rec cap u m at base p (read_part w)) (state_of w out c) rec at base
  unfolding if_fits seen
  new_starts e n =
      let r = s.ready in
      starts_same s s.inside s.low_base (record { domains = r.domains; declares = r.declares; fits = rw (← e, ← n) at r.fits })

  pub new_done : (st' : State) → false ≡ passes → none ≡ find_equal w place → Done (new_at rec cap u m at base p (read_part w)) (state_of w out c) st' → Here st'
  unfolding if_fits meet_if seen
  new_done st' e n x =
      record { state = λ ds d f. x.state ds d (rw (← e, ← n) at f) ∙ rw (← e, ← n) refl; kept = x.kept; low = x.low }
