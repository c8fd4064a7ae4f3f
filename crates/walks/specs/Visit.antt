-- The first walk over a tree: from the state of a log to the state of the log behind the tree's run, with every visited If's number kept for the
-- second walk (Placed); or it is full, and then the answer is longer than the cap.
use Rattle.std.specs.Prelude.{◌≡◌, Bool, true, false, cond, List, ℤ, pos, set, ltb}
use Rattle.std.proofs.Math.Path.{refl}
use Rattle.std.proofs.Common.{sym, ap, ◌∙◌, arith, ltb-true, lt-ltb}
use Rattle.std.proofs.Math.Option.{Option, some}
use Prim.Native.Nat.{ℕ, zero, suc, ◌+◌, ◌≤◌, ◌<◌}
use Rattle.std.proofs.Math.Seq.{get_or-set_other}
use Rattle.laws.specs.Ints.{is_zero}
use Rattle.memory.specs.Places.{bool_map, int_map, maps_end, cells, limit}
use Rattle.syntax.specs.Syntax.{Domain, IntExpr}
use Rattle.syntax.specs.Words.{max_bools, max_ints}
use Rattle.clauses.specs.Clause.{BoolLit, lit}
use Rattle.clauses.specs.Log.{aux, bool, Log, next_bool, next_int, get_bool_var, get_int_var, get_if, made_ints}
use Rattle.clauses.specs.Disjunction.{Outs, normalize_disjunction, finish_sorted}
use Rattle.clauses.proofs.Since.{here, over, top_then}
use Rattle.walk.specs.Item.{is_none, bool_at, int_entry, fresh}
use Rattle.answer.specs.Answer.{bool_word}
use Rattle.walk.proofs.Grow.{lit_word}
use Rattle.walk.proofs.Num.{code}
use Rattle.walk.proofs.Texts.{Auxed, here as no-aux, above, disjunction_auxed, disjunction_finish, finish_count}
use Rattle.walks.specs.Tree.{Tree, var, num, cmp, conj, disj, cross, tied, Trees, nil, cons, IntTree, const, ivar, sum, choice, TermTrees, none as no_terms, term}
use Rattle.walks.specs.Form.{form}
use Rattle.walks.specs.Item.{has_ifs, int_count, cell, unseen, seen_in, Item, tallies}
use Rattle.walks.specs.Meet.{form_meet, State, counters_of, more_bools, meet_bool, Parts, is_full, new_int, meet_int_var, meet_if, meet, meets, meet_int, meet_terms}
use Rattle.walks.specs.Cells.{word_kept, Stands, Places}
use Rattle.walks.specs.Good.{Quiet, Names, Good, good_quiet}
use Rattle.walks.specs.Implements.{at, counters_eq, Ready, Sorts}
use Rattle.walks.specs.Leaves.{words_of}

-- ---- a full walk spends nothing more

either_used : (b : Bool) (x y : State) (k : ℕ) → x.used ≡ k → y.used ≡ k → (cond b x y).used ≡ k
either_used true x y k p q = p
either_used false x y k p q = q

module _ (ds : List Domain) (rec cap : ℕ) where
  pub bool_spends : (v : ℕ) (st : State) → (meet_bool v st).used ≡ st.used
  unfolding meet_bool
  bool_spends v st = either_used (is_zero (bool_at st.work v)) _ st st.used refl refl

  pub int_spends : (v : ℕ) (st : State) → (meet_int_var ds rec cap v st).used ≡ st.used
  unfolding meet_int_var new_int
  int_spends v st = either_used (is_none (int_entry st.work v)) _ st st.used refl refl

  if_spends : (q : Parts) (st : State) → is_full ds rec cap st ≡ true → (meet_if ds rec cap q st).used ≡ st.used
  unfolding meet_if
  if_spends q st f = rw f refl

  abbrev Spends : (State → State) → Type 0
  Spends m = (st : State) → is_full ds rec cap st ≡ true → (m st).used ≡ st.used

  spends_then : (m k : State → State) → Spends m → Spends k → Spends (λ st. k (m st))
  spends_then m k p q st f = let e = p st f in q (m st) (ap (ltb cap) e ∙ f) ∙ e

  mutual
    unfolding form_meet form

    pub meet_spends : (t : Tree) (st : State) → is_full ds rec cap st ≡ true → (meet ds rec cap t st).used ≡ st.used
    meet_spends (var v g) st f = bool_spends v st
    meet_spends (num n g) st f = refl
    meet_spends (cmp o a b g) st f = spends_then (meet_int ds rec cap a) (meet_int ds rec cap b) (λ x y. int_meet_spends a x y) (λ x y. int_meet_spends b x y) st f
    meet_spends (conj ts) st f = meets_spends ts st f
    meet_spends (disj ts) st f = meets_spends ts st f
    meet_spends (cross ts us) st f = spends_then (meets ds rec cap ts) (meets ds rec cap us) (λ x y. meets_spends ts x y) (λ x y. meets_spends us x y) st f
    meet_spends (tied v t u) st f = spends_then (meet ds rec cap t) (meet ds rec cap u) (λ x y. meet_spends t x y) (λ x y. meet_spends u x y) st f

    pub meets_spends : (ts : Trees) (st : State) → is_full ds rec cap st ≡ true → (meets ds rec cap ts st).used ≡ st.used
    meets_spends nil st f = refl
    meets_spends (cons t ts) st f = spends_then (meet ds rec cap t) (meets ds rec cap ts) (λ x y. meet_spends t x y) (λ x y. meets_spends ts x y) st f

    pub int_meet_spends : (e : IntTree) (st : State) → is_full ds rec cap st ≡ true → (meet_int ds rec cap e st).used ≡ st.used
    int_meet_spends (const c) st f = refl
    int_meet_spends (ivar v) st f = int_spends v st
    int_meet_spends (sum ts) st f = terms_meet_spends ts st f
    int_meet_spends (choice i p e c d t u) st f = if_spends _ st f

    pub terms_meet_spends : (ts : TermTrees) (st : State) → is_full ds rec cap st ≡ true → (meet_terms ds rec cap ts st).used ≡ st.used
    terms_meet_spends no_terms st f = refl
    terms_meet_spends (term k e ts) st f = spends_then (meet_int ds rec cap e) (meet_terms ds rec cap ts) (λ x y. int_meet_spends e x y) (λ x y. terms_meet_spends ts x y) st f

-- ---- disjunctions make Booleans only

auxed_more : {s t : Log} → Auxed s t → next_bool s ≤ next_bool t
auxed_more no-aux = omega arith
auxed_more (above x) = omega (arith, auxed_more x)

module _ (Named : Log → Type 0) (N : Names Named) where
  pub auxed_quiet : {s t : Log} → Auxed s t → (k : ℕ) → next_bool t ≡ next_bool s + k → Quiet Named s t k
  unfolding get_bool_var get_int_var get_if made_ints
  auxed_quiet no-aux k h = record { bools = h; ints = refl; keep = λ v. refl; keep_int = λ v. refl; ifs = λ e. refl; made = refl; top = here; named = λ x. x }
  auxed_quiet (above {s} {t} {a} x) zero h = absurd (omega (arith, auxed_more x))
  auxed_quiet (above {s} {t} {a} x) (suc k) h =
      let q = auxed_quiet x k (omega arith) in
      record { bools = h; ints = q.ints; keep = λ v. q.keep v; keep_int = λ v. q.keep_int v; ifs = λ e. q.ifs e; made = q.made; top = top_then (over (bool (aux a)) here) q.top; named = λ y. q.named (N.bool_named (aux a) s y) }

word_some : (l : BoolLit) (o : Option BoolLit) → o ≡ some l → bool_word o ≡ lit_word l
word_some (lit n false) o e = rw e
word_some (lit n true) o e = rw e

-- ---- what a visit leaves

module _ (ds : List Domain) (F : List ℤ) (Plain : IntExpr → Type 0) (parted : ℕ → Bool) (K : ℕ → Option IntExpr) (fixed : IntExpr → Bool) where
  -- cells that are set stay, and so does the word for Ifs
  pub record Later (w w' : List ℤ) : Type 0 where
    pub stay : (q : ℕ) (e : IntExpr) → Stands ds F Plain parted K fixed q e → (seen_in (cell w (q + 1)) ≡ unseen → ⊥) → (k : ℕ) → 1 ≤ k → k ≤ 3 → cell w' (q + k) ≡ cell w (q + k)
    pub word : has_ifs w' ≡ has_ifs w

  pub later_then : (a b c : List ℤ) → Later a b → Later b c → Later a c
  later_then a b c x y = record {
    stay = λ q e t n k l m.
        let h : cell b (q + 1) ≡ cell a (q + 1) = x.stay q e t n 1 (omega arith) (omega arith) in
        y.stay q e t (λ z. n (ap seen_in (sym h) ∙ z)) k l m ∙ x.stay q e t n k l m;
    word = y.word ∙ x.word;
  }

  -- the stores of declared variables lie below the cells
  map_later : (w : List ℤ) (p : ℕ) (x : ℤ) → p < maps_end → Later w (set w p x)
  map_later w p x h = record {
    stay = λ q e t n k l m. unfold cell in get_or-set_other w p (cells + (q + k)) x (pos 0) (λ e. omega (arith, t.low));
    word = word_kept w p x (λ e. omega arith);
  }

  either_later : (c : Bool) (w : List ℤ) (x y : State) → Later w x.work → Later w y.work → Later w (cond c x y).work
  either_later true w x y p q = p
  either_later false w x y p q = q

  pub same_later : (w : List ℤ) → Later w w
  same_later w = record { stay = λ q e t n k l m. refl; word = refl }

  pub bool_later : (v : ℕ) → v < max_bools → (st : State) → Later st.work (meet_bool v st).work
  unfolding meet_bool
  bool_later v h st = either_later (is_zero (bool_at st.work v)) st.work _ st (map_later st.work (bool_map + v) (pos (st.bools + 1)) (omega arith)) (same_later st.work)

  pub int_later : (ds' : List Domain) (rec cap v : ℕ) → v < max_ints → (st : State) → Later st.work (meet_int_var ds' rec cap v st).work
  unfolding meet_int_var new_int
  int_later ds' rec cap v h st = either_later (is_none (int_entry st.work v)) st.work _ st (map_later st.work (int_map + v) (pos (st.ints + 1)) (omega arith)) (same_later st.work)

  module _ (rec cap : ℕ) (with_ifs : Bool) (before : List ℤ) (Named : Log → Type 0) where
    abbrev GoodAt : ℕ → State → Log → Type 0
    GoodAt = Good ds F Plain parted K fixed rec cap with_ifs before Named

    -- k: spent for what is not made yet. A visit that is full shows an answer longer than the cap
    pub data Outcome (k n : ℕ) (A : List ℤ → Type 0) (st st' : State) (s : Log) : Type 0 where
      full : cap < st'.used → st'.used ≤ words_of s + k → Outcome k n A st st' s
      good : GoodAt n st' s → st'.used ≤ words_of s + k → Later st.work st'.work → ((w : List ℤ) → Later st'.work w → A w) → Outcome k n A st st' s

    module _ (k m n : ℕ) (A B : List ℤ → Type 0) (st a b : State) (s t : Log) where
      outcome_go : Later st.work a.work → ((w : List ℤ) → Later a.work w → A w) → Outcome k n B a b t → Outcome k n (λ w. A w × B w) st b t
      outcome_go r p (full x y) = full x y
      outcome_go r p (good h v q z) = good h v (later_then st.work a.work b.work r q) (λ w y. (p w (later_then a.work b.work w q y), z w y))

      pub outcome_then : (is_full ds rec cap a ≡ true → b.used ≡ a.used) → words_of s ≤ words_of t → Outcome k m A st a s → (GoodAt m a s → a.used ≤ words_of s + k → Outcome k n B a b t) → Outcome k n (λ w. A w × B w) st b t
      outcome_then f l (full x y) c = let e = f (lt-ltb cap a.used x) in full (omega arith) (omega arith)
      outcome_then f l (good g u r p) c = outcome_go r p (c g u)

    pub outcome_to : {k n : ℕ} {A B : List ℤ → Type 0} {st a : State} {s : Log} → ((w : List ℤ) → A w → B w) → Outcome k n A st a s → Outcome k n B st a s
    outcome_to f (full x y) = full x y
    outcome_to f (good g u r p) = good g u r (λ w l. f w (p w l))

    -- there are Ifs
    pub outcome_with : {k n : ℕ} {A : List ℤ → Type 0} {st a : State} {s : Log} → with_ifs ≡ true → Outcome k n A st a s → Outcome k n (λ w. (has_ifs w ≡ true) × A w) st a s
    outcome_with h (full x y) = full x y
    outcome_with h (good g u r p) = good g u r (λ w l. (l.word ∙ g.word ∙ h, p w l))

    -- the counters of a state are those of its log, for every slice of the walk
    pub good_counters : (n : ℕ) (st : State) (s : Log) (w : List ℤ) → GoodAt n st s → has_ifs w ≡ with_ifs → counters_of st ≡ at w s
    good_counters n st s w g h = counters_eq _ _ _ _ g.bools (ap (int_count st.work) g.ints ∙ ap (λ b. cond b (next_int s) 0) (g.word ∙ sym h))

    -- ---- the work slice is ready for the second walk

    module _ (N : Names Named) (P : Places ds F Plain parted K fixed) (low : cap < limit) where
      pub good_ready : (n : ℕ) (st : State) (s : Log) → GoodAt n st s → Ready st.work s
      good_ready n st s g = record {
        fit = record {
          agree = λ v l e. g.map v (g.low v l e) ∙ word_some l (get_bool_var v s) e;
          agree_int = λ v m e. g.map_int v (g.low_int v m e) ∙ ap code e;
          small = omega (arith, g.room, g.bools);
        };
        ints = omega (arith, g.room, g.ints);
      }

      pub not_full : (st : State) → st.used ≤ cap → is_full ds rec cap st ≡ false
      not_full st h = go (ltb cap st.used) refl
        where
          go : (b : Bool) → ltb cap st.used ≡ b → b ≡ false
          go true e = absurd (omega (arith, ltb-true cap st.used e))
          go false e = refl

      -- ---- the numbers of a disjunction

      sorted_fresh : (w : List ℤ) (is : List Item) (s : Log) (o : Outs) → Sorts w is s o → (z : Log) → next_bool (normalize_disjunction o.0 z).1 ≡ next_bool z + fresh (tallies is)
      unfolding finish_sorted
      sorted_fresh w is s o h z = rw (disjunction_finish o.0 z, h.eq) (rw h.tal (finish_count h.cx h.ls h.ks z))

      pub disj_quiet : (w : List ℤ) (is : List Item) (s : Log) (o : Outs) → Sorts w is s o → (z : Log) → Quiet Named z (normalize_disjunction o.0 z).1 (fresh (tallies is))
      disj_quiet w is s o h z = auxed_quiet Named N (disjunction_auxed o.0 z) (fresh (tallies is)) (sorted_fresh w is s o h z)

      -- behind the members, the numbers
      pub fresh_outcome : (k n : ℕ) (A : List ℤ → Type 0) (st a : State) (s t : Log) (j : ℕ) → ((w : List ℤ) → Ready w s → A w → Quiet Named s t j) → words_of s ≤ words_of t → Outcome k (j + n) A st a s → Outcome k n A st (more_bools j a) t
      fresh_outcome k n A st a s t j q l (full x y) = full x (omega (arith, y))
      fresh_outcome k n A st a s t j q l (good g u r p) =
          let x = q a.work (good_ready (j + n) a s g) (p a.work (same_later a.work)) in
          good (good_quiet ds F Plain parted K fixed rec cap with_ifs before Named P j n a s t x g) (omega (arith, u)) r p
