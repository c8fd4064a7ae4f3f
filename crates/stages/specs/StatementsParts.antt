-- A set as parts that both walks take one after another: a rule, a table, a pair of an AllDifferent, the clauses of its values. What each part must hold
-- (`Walks`) gives it for all of them: `parts_pass` (the first walk, and the second where each part is numbered again right before it is written) and
-- `parts_written` (the second walk by the final maps, where no If stands in the folded words).
use Rattle.std.specs.Prelude.{◌≡◌, Bool, true, ℕ, ◌+◌, ◌≤◌, ◌<◌, ℤ, pos}
use Rattle.std.proofs.Math.Path.{refl}
use Rattle.std.proofs.Common.{◌∙◌, arith, lt-ltb}
use Rattle.std.proofs.Math.Option.{Option}
use mathlib.Core.List.{List, [], ◌∷◌, ◌++◌}
use Rattle.laws.specs.Slices.{Has}
use Rattle.memory.specs.Places.{folded, limit}
use Rattle.syntax.specs.Syntax.{Domain, IntExpr, encode_int}
use Rattle.words.specs.Exact.{Each}
use Rattle.clauses.specs.Log.{Log, next_bool}
use Rattle.walk.specs.Item.{bump}
use Rattle.walk.proofs.Grow.{Grows, same, then}
use Rattle.walk.specs.declared.Counters.{Counters}
use Rattle.walks.specs.Item.{has_ifs, cell}
use Rattle.walks.specs.Meet.{State, counters_of, is_full}
use Rattle.walks.specs.Implements.{at, Ready, ready_back, Registers, registers_same, registers_then, registers_after}
use Rattle.walks.specs.Plain.{PlainInt}
use Rattle.walks.specs.Constant.{Named}
use Rattle.walks.specs.Cells.{Places}
use Rattle.walks.specs.Good.{good_less}
use Rattle.walks.specs.Leaves.{words_of, grows_words}
use Rattle.walks.specs.Walked.{fixed}
use Rattle.walks.specs.LowIfs.{LowIfs}
use Rattle.walks.specs.Next.{Ahead, ahead_more}
use Rattle.walks.specs.Reach.{LightIfs}
use Rattle.walks.specs.Rule.{GoodFor}
use Rattle.statements.specs.Different.{Found}
use Rattle.stages.specs.LegalKeys.{LegalIf}

-- ---- the walks

-- meet: the first walk; text, lines, behind: the words of the second by a slice, their clauses' number, and the counters behind them
pub record Part : Type 0 where
  pub meet : State → State
  pub text : List ℤ → Counters → List ℤ
  pub lines : List ℤ → Counters → ℕ
  pub behind : List ℤ → Counters → Counters

unfoldable pub meet_parts : List Part → State → State
meet_parts [] st = st
meet_parts (x ∷ xs) st = meet_parts xs (x.meet st)

-- each part numbered again right before it is written
unfoldable pub again_text : List Part → State → List ℤ
again_text [] st = []
again_text (x ∷ xs) st = x.text (x.meet st).work (counters_of st) ++ again_text xs (x.meet st)

unfoldable pub again_lines : List Part → State → ℕ
again_lines [] st = 0
again_lines (x ∷ xs) st = bump (x.lines (x.meet st).work (counters_of st)) (again_lines xs (x.meet st))

-- by one slice
unfoldable pub parts_text : List Part → List ℤ → Counters → List ℤ
parts_text [] w n = []
parts_text (x ∷ xs) w n = x.text w n ++ parts_text xs w (x.behind w n)

unfoldable pub parts_lines : List Part → List ℤ → Counters → ℕ
parts_lines [] w n = 0
parts_lines (x ∷ xs) w n = bump (x.lines w n) (parts_lines xs w (x.behind w n))

-- ---- what a part makes of a log

-- a column's number plus 1 at its place
pub record Owned : Type 0 where
  pub place : ℕ
  pub number : ℕ

abbrev pub Own : List ℤ → List Owned → Type 0
Own w os = Each (λ o. cell w o.place ≡ pos (o.number + 1)) os

-- step: the log behind it; owns: the cells that the second walk reads beside the Ifs'; knows: integers that have numbers before it; room: the numbers
-- that it may take.
-- Its Ifs stand from start on; cells before past stay to the end; from and to: from where on no If is seen, before and behind it
pub record Stage : Type 0 where
  pub part : Part
  pub step : Log → Log
  pub owns : Log → List Owned
  pub knows : List ℕ
  pub room : ℕ
  pub start : ℕ
  pub past : ℕ
  pub from : ℕ
  pub to : ℕ

abbrev pub parts : List Stage → List Part
parts [] = []
parts (x ∷ xs) = x.part ∷ parts xs

unfoldable pub steps : List Stage → Log → Log
steps [] s = s
steps (x ∷ xs) s = steps xs (x.step s)

unfoldable pub rooms : List Stage → ℕ
rooms [] = 0
rooms (x ∷ xs) = x.room + rooms xs

-- a: cells up to there stay; b: from there on no If is seen
abbrev pub Chained : ℕ → ℕ → List Stage → Type 0
Chained a b [] = Unit {0}
Chained a b (x ∷ xs) = (a ≤ x.start) × (b ≤ x.from) × Chained x.past x.to xs

-- from any two places up to these
abbrev pub Chains : ℕ → ℕ → List Stage → Type 0
Chains a b xs = (i j : ℕ) → i ≤ a → j ≤ b → Chained i j xs

pub chains_less : (a b c d : ℕ) (xs : List Stage) → c ≤ a → d ≤ b → Chains a b xs → Chains c d xs
chains_less a b c d xs l m h i j k n = h i j (omega arith) (omega arith)

pub chains_more : (x : Stage) (xs : List Stage) → Chains x.past x.to xs → Chains x.start x.from (x ∷ xs)
chains_more x xs h i j k n = (k, n, h x.past x.to (omega arith) (omega arith))

-- none reaches beyond b
abbrev pub UpTo : ℕ → List Stage → Type 0
UpTo b xs = Each (λ x. x.to ≤ b) xs

abbrev pub last_to : ℕ → List Stage → ℕ
last_to b [] = b
last_to b (x ∷ xs) = last_to x.to xs

unfoldable pub AllOwn : List ℤ → List Stage → Log → Type 0
AllOwn w [] s = Unit {0}
AllOwn w (x ∷ xs) s = Own w (x.owns s) × AllOwn w xs (x.step s)

-- the integers that each knows have numbers
unfoldable pub AllKnown : List Stage → Log → Type 0
AllKnown [] s = Unit {0}
AllKnown (x ∷ xs) s = Each (Found s) x.knows × AllKnown xs (x.step s)

-- the cells up to a place
abbrev pub Stays : ℕ → List ℤ → List ℤ → Type 0
Stays a w w' = (q : ℕ) → folded ≤ q → q ≤ a → cell w' q ≡ cell w q

abbrev pub OwnedIn : ℕ → List Owned → Type 0
OwnedIn a os = Each (λ o. (folded ≤ o.place) × (o.place ≤ a)) os

own_stays : (a : ℕ) (w w' : List ℤ) (os : List Owned) → Stays a w w' → OwnedIn a os → Own w os → Own w' os
own_stays a w w' [] h i o = tt
own_stays a w w' (x ∷ os) h i o = (h x.place i.0.0 i.0.1 ∙ o.0, own_stays a w w' os h i.1 o.1)

-- no legal If stands in the folded words F before b
abbrev pub NoIfs : List ℤ → ℕ → Type 0
NoIfs F b = (q : ℕ) (e : IntExpr) → LegalIf e → Has F q (encode_int e) → folded ≤ q → q < b → ⊥

-- ---- as in walks' Rule

module _ (ds : List Domain) (F : List ℤ) (parted : ℕ → Bool) (rec cap : ℕ) (with_ifs : Bool) (before : List ℤ) (low : cap < limit) where
  -- the state of a log under some keys, no If seen from a place on
  pub record Standing (from n : ℕ) (st : State) (s : Log) : Type 0 where
    pub key : ℕ → Option IntExpr
    pub places : Places ds F PlainInt parted key (fixed ds)
    pub state : GoodFor ds F parted rec cap with_ifs before low key n st s
    pub ifs : LowIfs (next_bool s) s
    pub light : LightIfs ds s
    pub ahead : Ahead F from st.work

  -- the state behind a part, with A of the second walk; or the answer is longer than the cap
  pub data Passed (to n : ℕ) (A : Type 0) (st : State) (s : Log) : Type 0 where
    full : cap < st.used → st.used ≤ words_of s → Passed to n A st s
    good : Standing to n st s → st.used ≤ words_of s → A → Passed to n A st s

  pub passed_to : {to n : ℕ} {A B : Type 0} {st : State} {s : Log} → (A → B) → Passed to n A st s → Passed to n B st s
  passed_to f (full x y) = full x y
  passed_to f (good g u a) = good g u (f a)

  -- by the slice that numbering leaves
  pub record Again (x : Stage) (st : State) (s : Log) : Type 0 where
    pub adds : let w = (x.part.meet st).work in Registers (x.part.text w (counters_of st)) (x.part.lines w (counters_of st)) s (x.step s)
    pub owned : Own (x.part.meet st).work (x.owns s)
    pub stays : Stays x.start st.work (x.part.meet st).work

  -- by any slice
  pub record Writes (x : Stage) (w : List ℤ) (s : Log) : Type 0 where
    pub adds : Registers (x.part.text w (at w s)) (x.part.lines w (at w s)) s (x.step s)
    pub behind : x.part.behind w (at w s) ≡ at w (x.step s)

  pub record Walks (x : Stage) : Type 0 where
    pub ordered : x.start ≤ x.past
    pub grows : (s : Log) → Grows s (x.step s)
    pub owned_in : (s : Log) → OwnedIn x.past (x.owns s)
    pub spends : (st : State) → is_full ds rec cap st ≡ true → (x.part.meet st).used ≡ st.used
    pub first : (n : ℕ) (st : State) (s : Log) → Each (Found s) x.knows → Standing x.from (x.room + n) st s → st.used ≤ words_of s → Passed x.to n (Again x st s) (x.part.meet st) (x.step s)
    pub second : NoIfs F x.to → (w : List ℤ) (s : Log) → Each (Found s) x.knows → Ready w (x.step s) → Own w (x.owns s) → Writes x w s

  abbrev pub AllWalk : List Stage → Type 0
  AllWalk xs = Each Walks xs

  -- ---- all parts

  pub steps_grow : (xs : List Stage) → AllWalk xs → (s : Log) → Grows s (steps xs s)
  unfolding steps
  steps_grow [] k s = same
  steps_grow (x ∷ xs) k s = then (k.0.grows s) (steps_grow xs k.1 (x.step s))

  pub parts_spend : (xs : List Stage) → AllWalk xs → (st : State) → is_full ds rec cap st ≡ true → (meet_parts (parts xs) st).used ≡ st.used
  unfolding meet_parts
  parts_spend [] k st f = refl
  parts_spend (x ∷ xs) k st f =
      let e = k.0.spends st f in
      parts_spend xs k.1 (x.part.meet st) (rw e f) ∙ e

  -- the counters of a log's state, by any slice with the same word for Ifs
  pub counters_are : {from n : ℕ} {st : State} {s : Log} → Standing from n st s → (w : List ℤ) → has_ifs w ≡ with_ifs → counters_of st ≡ at w s
  counters_are h w e = rw (h.state.bools, h.state.ints, h.state.word, e) refl

  -- from a later place on, and with less room
  pub standing_less : (a b n m : ℕ) (st : State) (s : Log) → a ≤ b → m ≤ n → Standing a n st s → Standing b m st s
  standing_less a b n m st s l r h = record {
    key = h.key;
    places = h.places;
    state = good_less ds F PlainInt parted h.key (fixed ds) rec cap with_ifs before (Named ds) n m st s r h.state;
    ifs = h.ifs;
    light = h.light;
    ahead = ahead_more F a b st.work l h.ahead;
  }

  pub record AllAgain (a : ℕ) (xs : List Stage) (st : State) (s : Log) : Type 0 where
    pub adds : Registers (again_text (parts xs) st) (again_lines (parts xs) st) s (steps xs s)
    pub owned : AllOwn (meet_parts (parts xs) st).work xs s
    pub stays : Stays a st.work (meet_parts (parts xs) st).work

  pub parts_pass : (xs : List Stage) → AllWalk xs → (a b : ℕ) → Chained a b xs → (n : ℕ) (st : State) (s : Log) → AllKnown xs s → Standing b (rooms xs + n) st s → st.used ≤ words_of s
      → Passed (last_to b xs) n (AllAgain a xs st s) (meet_parts (parts xs) st) (steps xs s)
  unfolding meet_parts again_text again_lines steps rooms AllOwn AllKnown
  parts_pass [] k a b c n st s i h u = good (standing_less b b (0 + n) n st s (omega arith) (omega arith) h) u (record { adds = registers_same s s refl; owned = tt; stays = λ q l m. refl })
  parts_pass (x ∷ xs) k a b c n st s i h u =
      let h' = standing_less b x.from (x.room + rooms xs + n) (x.room + (rooms xs + n)) st s c.1 (omega arith) h in
      go (k.0.first (rooms xs + n) st s i.0 h' u) (λ g v. parts_pass xs k.1 x.past x.to c.2 n (x.part.meet st) (x.step s) i.1 g v)
    where
      st' : State
      st' = x.part.meet st

      t : Log
      t = x.step s

      behind : Again x st s → AllAgain x.past xs st' t → AllAgain a (x ∷ xs) st s
      behind y z = record {
        adds = registers_then y.adds z.adds;
        owned = (own_stays x.past st'.work (meet_parts (parts xs) st').work (x.owns s) z.stays (k.0.owned_in s) y.owned, z.owned);
        stays = λ q l m. z.stays q l (omega (arith, c.0, k.0.ordered)) ∙ y.stays q l (omega (arith, c.0));
      }

      go : Passed x.to (rooms xs + n) (Again x st s) st' t → (Standing x.to (rooms xs + n) st' t → st'.used ≤ words_of t → Passed (last_to x.to xs) n (AllAgain x.past xs st' t) (meet_parts (parts xs) st') (steps xs t))
          → Passed (last_to x.to xs) n (AllAgain a (x ∷ xs) st s) (meet_parts (parts xs) st') (steps xs t)
      go (full l m) f =
          let e = parts_spend xs k.1 st' (lt-ltb cap st'.used l) in
          full (omega (arith, e)) (omega (arith, e, grows_words (steps_grow xs k.1 t)))
      go (good g v y) f = passed_to (behind y) (f g v)

  -- ---- the second walk by the final maps

  pub parts_written : (b : ℕ) → NoIfs F b → (xs : List Stage) → UpTo b xs → AllWalk xs → (w : List ℤ) (s : Log) → AllKnown xs s → Ready w (steps xs s) → AllOwn w xs s → Registers (parts_text (parts xs) w (at w s)) (parts_lines (parts xs) w (at w s)) s (steps xs s)
  unfolding parts_text parts_lines steps AllOwn AllKnown
  parts_written b i [] l k w s j r o = registers_same s s refl
  parts_written b i (x ∷ xs) l k w s j r o =
      let y = k.0.second (λ q e t h m n. i q e t h m (omega (arith, l.0))) w s j.0 (ready_back (steps_grow xs k.1 (x.step s)) r) o.0 in
      registers_after (parts_text (parts xs) w) (parts_lines (parts xs) w) y.behind y.adds (parts_written b i xs l.1 k.1 w (x.step s) j.1 r o.1)
