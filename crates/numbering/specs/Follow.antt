-- The tasks of numbering against the parts of a set: from a state of the log they fit and leave the state that the parts leave, or both walks are full with
-- as many words (`follow`). As in stages: F, the folded words; parted, the places of Ifs with split parts; with-ifs, whether the word for Ifs is set.
use Rattle.std.specs.Prelude.{◌≡◌, Bool, true, List, [], ◌∷◌, ℕ, ◌+◌, ◌≤◌, ◌<◌, ℤ, ltb}
use Rattle.std.proofs.Math.Path.{refl, subst}
use Rattle.std.proofs.Common.{sym, arith, ltb-true, lt-ltb}
use Rattle.std.proofs.Math.Bool.{false}
use Rattle.memory.specs.Places.{limit}
use Rattle.syntax.specs.Syntax.{Domain}
use Rattle.clauses.specs.Log.{Log}
use Rattle.walks.specs.Meet.{State}
use Rattle.walks.specs.Leaves.{words_of}
use Rattle.stages.specs.StatementsParts.{meet_parts, Stage, parts, rooms, Chained, AllKnown, Standing, Passed, full as passed_full, good as passed-good, Again, AllWalk, parts_spend, standing_less}
use Rattle.numbering.specs.Task.{Task, skip}
use Rattle.numbering.specs.Tasks.{stopping, Quits, quits_skip, quits_stopping}

-- the same state, or full with as many words
pub data Agree (cap : ℕ) (a b : State) : Type 0 where
  same : a ≡ b → Agree cap a b
  full : cap < a.used → a.used ≡ b.used → Agree cap a b

module _ (ds : List Domain) (F : List ℤ) (parted : ℕ → Bool) (rec cap : ℕ) (with_ifs : Bool) (before : List ℤ) (low : cap < limit) where
  -- from a state of the log, what a part's task asks holds, and it leaves the state that the part leaves
  abbrev pub Fitting : Stage → Task → Type 0
  Fitting x t = (n : ℕ) (st : State) (s : Log) → Standing ds F parted rec cap with_ifs before low x.from (x.room + n) st s → st.used ≤ words_of s → t.fits ds st

  abbrev pub Meeting : Stage → Task → Type 0
  Meeting x t = (n : ℕ) (st : State) (s : Log) → Standing ds F parted rec cap with_ifs before low x.from (x.room + n) st s → t.meet ds st ≡ x.part.meet st

  pub record Follows (x : Stage) (t : Task) : Type 0 where
    pub fits : Fitting x t
    pub meet : Meeting x t

  pub data Follow : List Stage → Task → Type 1 where
    none : Follow [] skip
    one : (x : Stage) (xs : List Stage) (t u : Task) → Follows x t → Follow xs u → Follow (x ∷ xs) (stopping cap t u)
    still : (x : Stage) (xs : List Stage) (u : Task) → ((st : State) → x.part.meet st ≡ st) → Follow xs u → Follow (x ∷ xs) u

  -- of a task and all parts
  pub record Followed (u : Task) (xs : List Stage) (st : State) : Type 0 where
    pub fits : u.fits ds st
    pub agree : Agree cap (u.meet ds st) (meet_parts (parts xs) st)

  follow_quits : {xs : List Stage} {u : Task} → Follow xs u → Quits cap u
  follow_quits none = quits_skip cap
  follow_quits (one x xs t u f h) = quits_stopping cap t u
  follow_quits (still x xs u e h) = follow_quits h

  -- behind a part that is full
  full_followed : {xs : List Stage} {u : Task} → Follow xs u → AllWalk ds F parted rec cap with_ifs before low xs → (st : State) → cap < st.used → Followed u xs st
  full_followed {xs} {u} h k st l =
      let f = lt-ltb cap st.used l in
      let q = follow_quits h in
      let e = q.meet ds st f in
      record { fits = q.fits ds st f; agree = full (rw e l) (rw e (sym (parts_spend ds F parted rec cap with_ifs before low xs k st f))) }

  -- behind the part x
  behind : {xs : List Stage} {u : Task} (x : Stage) (b n : ℕ) (st : State) (s : Log) → Follow xs u → AllWalk ds F parted rec cap with_ifs before low (x ∷ xs) → AllKnown (x ∷ xs) s → b ≤ x.from → Standing ds F parted rec cap with_ifs before low b (rooms (x ∷ xs) + n) st s → st.used ≤ words_of s
      → (Standing ds F parted rec cap with_ifs before low x.to (rooms xs + n) (x.part.meet st) (x.step s) → (x.part.meet st).used ≤ words_of (x.step s) → Followed u xs (x.part.meet st))
      → Followed u xs (x.part.meet st)
  unfolding rooms AllKnown
  behind {xs} {u} x b n st s h k i l g v f =
      let g' = standing_less ds F parted rec cap with_ifs before low b x.from (x.room + rooms xs + n) (x.room + (rooms xs + n)) st s l (omega arith) g in
      go (k.0.first (rooms xs + n) st s i.0 g' v)
    where
      go : Passed ds F parted rec cap with_ifs before low x.to (rooms xs + n) (Again ds F parted rec cap with_ifs before low x st s) (x.part.meet st) (x.step s) → Followed u xs (x.part.meet st)
      go (passed_full y z) = full_followed h k.1 (x.part.meet st) y
      go (passed-good y z a) = f y z

  pub follow : {xs : List Stage} {u : Task} → Follow xs u → AllWalk ds F parted rec cap with_ifs before low xs → (a b : ℕ) → Chained a b xs → (n : ℕ) (st : State) (s : Log) → AllKnown xs s → Standing ds F parted rec cap with_ifs before low b (rooms xs + n) st s → st.used ≤ words_of s
      → Followed u xs st
  unfolding meet_parts AllKnown
  follow none k a b c n st s i g v = record { fits = tt; agree = same refl }
  follow (one x xs t u f h) k a b c n st s i g v = go (ltb cap st.used) refl (λ y z. follow h k.1 x.past x.to c.2 n (x.part.meet st) (x.step s) i.1 y z)
    where
      st' : State
      st' = x.part.meet st

      here : Standing ds F parted rec cap with_ifs before low x.from (x.room + (rooms xs + n)) st s
      here = unfold rooms in standing_less ds F parted rec cap with_ifs before low b x.from (x.room + rooms xs + n) (x.room + (rooms xs + n)) st s c.1 (omega arith) g

      go : (e : Bool) → ltb cap st.used ≡ e → (Standing ds F parted rec cap with_ifs before low x.to (rooms xs + n) st' (x.step s) → st'.used ≤ words_of (x.step s) → Followed u xs st') → Followed (stopping cap t u) (x ∷ xs) st
      go true e r = record {
        fits = rw e tt;
        agree = rw e (full (ltb-true cap st.used e) (sym (unfold meet_parts in parts_spend ds F parted rec cap with_ifs before low (x ∷ xs) k st e)));
      }
      go false e r =
          let m : t.meet ds st ≡ st' = f.meet (rooms xs + n) st s here in
          let y = behind x b n st s h k i c.1 g v r in
          record {
            fits = rw e (f.fits (rooms xs + n) st s here v, subst (u.fits ds) (sym m) y.fits);
            agree = rw (e, m) (unfold meet_parts in y.agree);
          }
  follow (still x xs u e h) k a b c n st s i g v =
      let st' = x.part.meet st in
      let r : Followed u xs st' = behind x b n st s h k i c.1 g v (λ y z. follow h k.1 x.past x.to c.2 n st' (x.step s) i.1 y z) in
      record {
        fits = subst (u.fits ds) (e st) r.fits;
        agree = subst (λ (y : State). Agree cap (u.meet ds y) (meet_parts (parts xs) st')) (e st) r.agree;
      }
