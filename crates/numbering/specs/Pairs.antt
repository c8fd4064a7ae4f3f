-- A pair of an AllDifferent in parts: the extras of both sides, then the sides; and where nothing is split there are no extras. Laws for the code.
use Rattle.std.specs.Prelude.{◌≡◌, refl, false, List, ℕ, ◌-◌, ◌≤◌, ◌<◌, ℤ}
use Rattle.std.proofs.Common.{sym, ap, ◌∙◌, subst, arith}
use Rattle.memory.specs.Places.{folded_end, limit}
use Rattle.syntax.specs.Syntax.{Ne}
use Rattle.walk.specs.Decode.{read_part}
use Rattle.walks.specs.Tree.{Splitting, here}
use Rattle.walks.specs.Form.{Forms, nil, cons, cmp, append}
use Rattle.walks.specs.Decode.{decode, decode_int, ties_int_at}
use Rattle.walks.specs.DecodeExact.{pair_at}
use Rattle.walks.specs.NoTies.{no_ties, no_int_ties}
use Rattle.walks.specs.Meet.{State, more_bools, form_meet}
use Rattle.numbering.specs.Task.{Task, then, Low, Kept, Done, Left, left_next, left_last_at, ready_next, ready_last, Starts, starts_later}
use Rattle.numbering.specs.Fits.{form_fits, forms_task}
use Rattle.numbering.specs.Steps.{int_at}
use Rattle.numbering.specs.Ties.{ties_of, int_ties_of, left_append, done_nil}
use Rattle.numbering.specs.Rules.{pair_task}

-- ---- no number, no extras

-- the splitting goes from n to `next`
abbrev pub Unsplit : ℕ → ℕ → Type 0
Unsplit n next = (n < limit) × (next ≡ n)

module _ (rec cap : ℕ) (st : State) (ws : List ℤ) (l : ℕ) (m : Splitting) (at n next : ℕ) (h : Low st) (u : Unsplit n next) where
  pub no_extras : next ≡ (decode ws l m false at n).next → Done (ties_of rec cap ws l m at n) st st
  no_extras e = subst (λ (ts : Forms). Done (forms_task rec cap ts) st st) (sym (no_ties ws l m false at n u.0 (sym e ∙ u.1))) (done_nil rec cap st h)

  pub no_int_extras : next ≡ (decode_int ws l m at n).next → Done (int_ties_of rec cap ws l m at n) st st
  no_int_extras e = subst (λ (ts : Forms). Done (forms_task rec cap ts) st st) (sym (no_int_ties ws l m at n u.0 (sym e ∙ u.1))) (done_nil rec cap st h)

-- ---- the pair whose sides stand at p and q; j and i: the splitting's next number behind each, k: how many numbers it takes

append_append : (ts us vs : Forms) → append (append ts us) vs ≡ append ts (append us vs)
append_append nil us vs = refl
append_append (cons t ts) us vs = ap (cons t) (append_append ts us vs)

module _ (rec cap : ℕ) (st : State) (p q : ℕ) (s : Starts (pair_task rec cap (read_part st.work) p q) st rec p 0) (inside : q ≤ folded_end) (j i k : ℕ) (low : j ≤ limit)
    (hj : j ≡ (decode_int (read_part st.work) 64 here p st.bools).next) (hi : i ≡ (decode_int (read_part st.work) 64 here q j).next) (hk : k ≡ i - st.bools) where
  abbrev Whole : Task
  Whole = pair_task rec cap (read_part st.work) p q

  abbrev first_extras : List ℤ → Task
  first_extras ws = int_ties_of rec cap ws 64 here p st.bools

  abbrev second_extras : List ℤ → Task
  second_extras ws = int_ties_of rec cap ws 64 here q j

  abbrev first_side : List ℤ → Task
  first_side ws = int_at rec cap ws 64 here p st.bools

  abbrev second_side : List ℤ → Task
  second_side ws = int_at rec cap ws 64 here q j

  -- the comparison, whose second side is split from n on
  abbrev compared : ℕ → Forms
  compared n = cons (cmp Ne (decode_int (read_part st.work) 64 here p st.bools).tree (decode_int (read_part st.work) 64 here q n).tree false) nil

  abbrev first_ties : Forms
  first_ties = ties_int_at (read_part st.work) 64 here p st.bools

  abbrev second_ties : ℕ → Forms
  second_ties n = ties_int_at (read_part st.work) 64 here q n

  abbrev behind : State
  behind = more_bools k st

  behind_kept : Kept st behind
  behind_kept = record { part = refl; behind = refl; size = refl; room = refl }

  behind_low : Low behind
  behind_low = record { bools = omega arith; ints = s.low.ints; used = s.low.used }

  taken : k ≡ (decode_int (read_part st.work) 64 here q (decode_int (read_part st.work) 64 here p st.bools).next).next - st.bools
  taken = hk ∙ ap (λ (n : ℕ). n - st.bools) (hi ∙ ap (λ (n : ℕ). (decode_int (read_part st.work) 64 here q n).next) hj)

  begun : Left Whole st (forms_task rec cap (pair_at (read_part st.work) 64 p q st.bools)) behind
  unfolding pair_task
  begun = record { fits = λ ds d f. rw taken f; state = λ ds d f. rw taken refl; kept = behind_kept; low = behind_low }

  forms_are : pair_at (read_part st.work) 64 p q st.bools ≡ append first_ties (append (second_ties j) (compared j))
  forms_are =
      let n = (decode_int (read_part st.work) 64 here p st.bools).next in
      append_append first_ties (second_ties n) (compared n) ∙ ap (λ (x : ℕ). append first_ties (append (second_ties x) (compared x))) (sym hj)

  parts : Left Whole st (then (first_extras (read_part st.work)) (forms_task rec cap (append (second_ties j) (compared j)))) behind
  parts = left_append rec cap first_ties (append (second_ties j) (compared j)) (subst (λ (ts : Forms). Left Whole st (forms_task rec cap ts) behind) forms_are begun)

  pub pair_first : Starts (first_extras (read_part st.work)) behind rec p st.bools
  pair_first = starts_later s behind_kept behind_low s.inside s.low.bools (ready_next first_extras (forms_task rec cap (append (second_ties j) (compared j))) s.ready parts)

  module _ (st₁ : State) (x₁ : Done (first_extras (read_part st.work)) behind st₁) where
    later : Left Whole st (then (second_extras (read_part st.work)) (forms_task rec cap (compared j))) st₁
    later = left_append rec cap (second_ties j) (compared j) (left_next first_extras parts x₁)

    pub pair_second : Starts (second_extras (read_part st₁.work)) st₁ rec q j
    pair_second = starts_later s later.kept later.low inside low (ready_next second_extras (forms_task rec cap (compared j)) s.ready later)

    module _ (st₂ : State) (x₂ : Done (second_extras (read_part st₁.work)) st₁ st₂) where
      sides : Left Whole st (then (first_side (read_part st.work)) (second_side (read_part st.work))) st₂
      unfolding form_meet form_fits
      sides = let x : Left Whole st (forms_task rec cap (compared j)) st₂ = left_next second_extras later x₂ in record { fits = λ ds d f. (x.fits ds d f).0; state = λ ds d f. x.state ds d f; kept = x.kept; low = x.low }

      pub pair_third : Starts (first_side (read_part st₂.work)) st₂ rec p st.bools
      pair_third = starts_later s sides.kept sides.low s.inside s.low.bools (ready_next first_side (second_side (read_part st.work)) s.ready sides)

      module _ (st₃ : State) (x₃ : Done (first_side (read_part st₂.work)) st₂ st₃) where
        last : Left Whole st (second_side (read_part st.work)) st₃
        last = left_next first_side sides x₃

        pub pair_fourth : Starts (second_side (read_part st₃.work)) st₃ rec q j
        pair_fourth = starts_later s last.kept last.low inside low (ready_last second_side s.ready last)

        pub pair_done : (st₄ : State) → Done (second_side (read_part st₃.work)) st₃ st₄ → Done Whole st st₄
        pair_done st₄ y = left_last_at second_side last y
