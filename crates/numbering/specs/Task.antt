-- What a part of the first walk does to the state and what it asks of it, for any declared domains; and what a function says that does it.
use Rattle.std.specs.Prelude.{◌≡◌, refl, List, ℕ, ◌≤◌, ℤ, length, drop}
use Rattle.std.proofs.Common.{sym, ap, ◌∙◌, subst, arith}
use Rattle.memory.specs.Places.{folded_end, limit}
use Rattle.syntax.specs.Syntax.{Domain}
use Rattle.walk.specs.Decode.{read_part}
use Rattle.walks.specs.Meet.{State, more_bools}
use Rattle.declared.specs.DomainTable.{Declares}
use Rattle.numbering.specs.Declares.{upper, declares_kept}
use Rattle.numbering.specs.declared.Progress.{Progress}

abbrev pub state_of : List ℤ → List ℤ → Progress → State
state_of w out c = record { work = w; out = out; bools = c.bools; ints = c.ints; used = c.used }

pub record Task : Type 1 where
  pub fits : List Domain → State → Type 0
  pub meet : List Domain → State → State

-- nothing
abbrev pub skip : Task
skip = record { fits = λ ds st. Unit {0}; meet = λ ds st. st }

-- one after another
abbrev pub then : Task → Task → Task
then a b = record { fits = λ ds st. a.fits ds st × b.fits ds (a.meet ds st); meet = λ ds st. b.meet ds (a.meet ds st) }

-- counters stop at the limit
pub record Low (st : State) : Type 0 where
  pub bools : st.bools ≤ limit
  pub ints : st.ints ≤ limit
  pub used : st.used ≤ limit

-- what a function asks that does the task
pub record Ready (t : Task) (st : State) : Type 0 where
  pub domains : List Domain
  pub declares : Declares domains st.work
  pub fits : t.fits domains st

-- what the walk keeps: the words that are read, those behind the cells, the lengths
pub record Kept (st st' : State) : Type 0 where
  pub part : read_part st'.work ≡ read_part st.work
  pub behind : drop upper st'.work ≡ drop upper st.work
  pub size : length st'.work ≡ length st.work
  pub room : length st'.out ≡ length st.out

pub kept_same : (st : State) → Kept st st
kept_same st = record { part = refl; behind = refl; size = refl; room = refl }

pub kept_then : {a b c : State} → Kept a b → Kept b c → Kept a c
kept_then x y = record { part = y.part ∙ x.part; behind = y.behind ∙ x.behind; size = y.size ∙ x.size; room = y.room ∙ x.room }

-- what it ensures
pub record Done (t : Task) (st st' : State) : Type 0 where
  pub state : (ds : List Domain) → Declares ds st.work → t.fits ds st → st' ≡ t.meet ds st
  pub kept : Kept st st'
  pub low : Low st'

-- ---- a task in parts: what is left of t, begun at st, is r at st'

pub record Left (t : Task) (st : State) (r : Task) (st' : State) : Type 0 where
  pub fits : (ds : List Domain) → Declares ds st.work → t.fits ds st → r.fits ds st'
  pub state : (ds : List Domain) → Declares ds st.work → t.fits ds st → r.meet ds st' ≡ t.meet ds st
  pub kept : Kept st st'
  pub low : Low st'

pub left_all : (t : Task) (st : State) → Low st → Left t st t st
left_all t st h = record { fits = λ ds d f. f; state = λ ds d f. refl; kept = kept_same st; low = h }

pub left_done : {t : Task} {st st' : State} → Left t st skip st' → Done t st st'
left_done x = record { state = x.state; kept = x.kept; low = x.low }

-- the last part
pub left_last : {t r : Task} {st st' st'' : State} → Left t st r st' → Done r st' st'' → Done t st st''
left_last {t} {r} {st} {st'} {st''} x y = record {
  state = λ ds d f. y.state ds (declares_kept ds st.work st'.work x.kept.behind d) (x.fits ds d f) ∙ x.state ds d f;
  kept = kept_then x.kept y.kept;
  low = y.low;
}

-- the next part, which reads the words as it finds them
pub left_next : (a : List ℤ → Task) {t r : Task} {st st' st'' : State} → Left t st (then (a (read_part st.work)) r) st' → Done (a (read_part st'.work)) st' st'' → Left t st r st''
left_next a {t} {r} {st} {st'} {st''} x y =
    let z : Done (a (read_part st.work)) st' st'' = subst (λ (ws : List ℤ). Done (a ws) st' st'') x.kept.part y in
    let e : (ds : List Domain) → Declares ds st.work → t.fits ds st → st'' ≡ (a (read_part st.work)).meet ds st' = λ ds d f. z.state ds (declares_kept ds st.work st'.work x.kept.behind d) (x.fits ds d f).0 in
    record {
      fits = λ ds d f. rw (e ds d f) (x.fits ds d f).1;
      state = λ ds d f. ap (r.meet ds) (e ds d f) ∙ x.state ds d f;
      kept = kept_then x.kept y.kept;
      low = y.low;
    }

-- what is asked of the next part
pub ready_next : (a : List ℤ → Task) (r : Task) {t : Task} {st st' : State} → Ready t st → Left t st (then (a (read_part st.work)) r) st' → Ready (a (read_part st'.work)) st'
ready_next a r {t} {st} {st'} y x = record {
  domains = y.domains;
  declares = declares_kept y.domains st.work st'.work x.kept.behind y.declares;
  fits = subst (λ (ws : List ℤ). (a ws).fits y.domains st') (sym x.kept.part) (x.fits y.domains y.declares y.fits).0;
}

pub left_last_at : (a : List ℤ → Task) {t : Task} {st st' st'' : State} → Left t st (a (read_part st.work)) st' → Done (a (read_part st'.work)) st' st'' → Done t st st''
left_last_at a {t} {st} {st'} {st''} x y = left_last x (subst (λ (ws : List ℤ). Done (a ws) st' st'') x.kept.part y)

pub ready_last : (a : List ℤ → Task) {t : Task} {st st' : State} → Ready t st → Left t st (a (read_part st.work)) st' → Ready (a (read_part st'.work)) st'
ready_last a {t} {st} {st'} y x = record {
  domains = y.domains;
  declares = declares_kept y.domains st.work st'.work x.kept.behind y.declares;
  fits = subst (λ (ws : List ℤ). (a ws).fits y.domains st') (sym x.kept.part) (x.fits y.domains y.declares y.fits);
}

-- ---- Booleans behind a task

abbrev pub with_bools : (List Domain → ℕ) → Task → Task
with_bools f t = record { fits = t.fits; meet = λ ds st. more_bools (f ds) (t.meet ds st) }

pub done_bools : (f : List Domain → ℕ) (k : ℕ) {t : Task} {st st' : State} → ((ds : List Domain) → k ≡ f ds) → Done t st st' → Done (with_bools f t) st (more_bools k st')
done_bools f k {t} {st} {st'} e x = record {
  state = λ ds d h. ap (more_bools k) (x.state ds d h) ∙ ap (λ (n : ℕ). more_bools n (t.meet ds st)) (e ds);
  kept = record { part = x.kept.part; behind = x.kept.behind; size = x.kept.size; room = x.kept.room };
  low = record { bools = omega arith; ints = x.low.ints; used = x.low.used };
}

-- ---- what the functions of the walk ask, at a place with the splitting's next number

pub record Starts (t : Task) (st : State) (rec at base : ℕ) : Type 0 where
  pub size : folded_end ≤ length st.work
  pub inside : at ≤ folded_end
  pub low_base : base ≤ limit
  pub records : rec ≤ limit
  pub low : Low st
  pub ready : Ready t st

pub starts_same : {t r : Task} {st : State} {rec at base q b : ℕ} → Starts t st rec at base → q ≤ folded_end → b ≤ limit → Ready r st → Starts r st rec q b
starts_same x i l r = record { size = x.size; inside = i; low_base = l; records = x.records; low = x.low; ready = r }

pub starts_later : {t r : Task} {st st' : State} {rec at base q b : ℕ} → Starts t st rec at base → Kept st st' → Low st' → q ≤ folded_end → b ≤ limit → Ready r st' → Starts r st' rec q b
starts_later x k h i l r = record { size = omega (arith, x.size, k.size); inside = i; low_base = l; records = x.records; low = h; ready = r }
