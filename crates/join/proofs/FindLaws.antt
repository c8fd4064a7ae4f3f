-- A joined statement found: in the first set, in the second, or nowhere; and its words as a part of that set. Assumes nothing.
use mathlib.Core.Path.{◌≡◌, refl, sym, ap, ◌∙◌, subst}
use mathlib.Core.List.{List, [], ◌∷◌, ◌++◌}
use Prim.Native.Nat.{ℕ, zero, suc, ◌+◌, ◌-◌, ◌*◌, ◌≤◌, ◌<◌}
use native.Mathlib.Omega.{arith}
use lib.IntN.{ℤ}
use lib.ListN.{length, take, drop, get_or, get_or-append, get_or-eq_default}
use lib.Seq.{get_or-append-add}
use Rattle.laws.specs.Slices.{Has, has_fits}
use Rattle.syntax.specs.Words.{max_ints}
use Rattle.syntax.specs.Syntax.{Stmt, encode_stmt, Problem}
use Rattle.accept.specs.Walk.{Bounds, StmtsAt}
use Rattle.accept.specs.Accepted.{SetOf, stmts_stand}
use Rattle.join.specs.Join.{declaration_words, agreement, Found, in_first, in_second, nowhere, placed, statements_place, statements_of, statement_at, words_of, address_of}
use Rattle.join.specs.Joined.{stmt_long, Admitted, Agrees, agreement_is}
use Rattle.join.specs.Found.{Stands}
use Rattle.join.specs.Steps.{Listed, ReadyNth, PartPost, ReadyFind, AgreePost}
use Rattle.join.specs.Contract.{place_of}
use Rattle.join.proofs.AgreeLaws.{refused_is, agreed_is}
use Rattle.join.specs.declared.Pair.{Pair}
use Rattle.join.specs.declared.Place.{Place}
use Rattle.std.specs.Prelude.{Result, Ok, Err}

-- ---- an admitted set's statements

stmts_at : (ws : List ℤ) (p : Problem) → SetOf ws p → StmtsAt (length p.domains) ws (statements_place p) (length p.stmts) p.stmts
unfolding declaration_words
stmts_at ws p s = subst (λ n. StmtsAt (length p.domains) ws n (length p.stmts) p.stmts) (omega arith) (stmts_stand ws p s)

listed : (n : ℕ) (ws work : List ℤ) (p : Problem) → Admitted n ws p → Bounds work p.domains → Listed ws work (statements_place p) (length p.domains) p.domains p.stmts
listed n ws work p a b = record { bounds = b; few = refl; reads = stmts_at ws p (record { words = a.words; well = a.well }) }

placed_length : (f : ℕ → Stmt → Found) (at : ℕ) (ss : List Stmt) → length (placed f at ss) ≡ length ss
unfolding placed
placed_length f at [] = refl
placed_length f at (t ∷ ts) = ap suc (placed_length f (at + length (encode_stmt t)) ts)

place_is : (r : Place) (s from to : ℕ) → r.set ≡ s → r.from ≡ from → r.to ≡ to → r ≡ record { set = s; from = from; to = to }
place_is r s from to a b c = rw (← a, ← b, ← c) refl

-- ---- `find`

abbrev no_place : Place
no_place = record { set = 0; from = 0; to = 0 }

module _ (first second work : List ℤ) (d : Pair) (y : ReadyFind first second work d) where
  it : Agrees (length work) first second y.left y.right
  it = agreement_is (length work) first second y.left y.right y.agrees

  at_left : d.at ≡ statements_place y.left
  at_left = ap (λ (x : Pair). x.at) y.pair_is

  at_right : d.at ≡ statements_place y.right
  at_right = at_left ∙ ap (λ (l : List ℤ). length l + 1) it.declarations

  ints_are : d.ints ≡ length y.left.domains
  ints_are = ap (λ (x : Pair). x.ints) y.pair_is

  domains_are : y.left.domains ≡ y.right.domains
  domains_are = ap (λ (x : Problem). x.domains) it.same

  pub find_few : d.ints ≤ max_ints
  find_few = omega (arith, ints_are, it.left.well.few_ints)

  first_listed : Listed first work d.at d.ints y.left.domains y.left.stmts
  first_listed = rw (at_left, ints_are) (listed (length work) first work y.left it.left y.bounds)

  second_listed : Listed second work d.at d.ints y.right.domains y.right.stmts
  second_listed = rw (at_right, ints_are, domains_are) (listed (length work) second work y.right it.right (rw domains_are at y.bounds))

  count_first : d.first ≡ length y.left.stmts
  count_first = ap (λ (x : Pair). x.first) y.pair_is

  count_second : d.second ≡ length y.right.stmts
  count_second = ap (λ (x : Pair). x.second) y.pair_is

  pub first_ready : (k : ℕ) → k < d.first → ReadyNth first work d.at d.ints k
  first_ready k l = record { ds = y.left.domains; them = y.left.stmts; listed = first_listed; below = omega (arith, count_first) }

  pub second_ready : (k : ℕ) → k < d.second → ReadyNth second work d.at d.ints k
  second_ready k l = record { ds = y.right.domains; them = y.right.stmts; listed = second_listed; below = omega (arith, count_second) }

  abbrev lefts : List Found
  lefts = placed in_first d.at y.left.stmts

  abbrev rights : List Found
  rights = placed in_second d.at y.right.stmts

  looked_up : (k : ℕ) → statement_at first second (length work) (suc k) ≡ get_or (lefts ++ rights) k nowhere
  unfolding statement_at statements_of
  looked_up k =
      let r : statements_place y.right ≡ statements_place y.left = sym at_right ∙ at_left in
      rw (y.agrees, at_left, r) refl

  pub find_zero : (number : ℕ) → number ≡ 0 → no_place ≡ place_of (statement_at first second (length work) number)
  unfolding statement_at place_of
  find_zero number z = rw z refl

  module _ (number : ℕ) (z : number ≡ 0 → ⊥) where
    numbered : statement_at first second (length work) number ≡ get_or (lefts ++ rights) (number - 1) nowhere
    numbered = let e : number ≡ suc (number - 1) = omega (arith, z) in ap (statement_at first second (length work)) e ∙ looked_up (number - 1)

    pub find_first : (r : Place) → number - 1 < d.first → PartPost first work d.at d.ints (number - 1) r.from r.to → r.set ≡ 1 → r ≡ place_of (statement_at first second (length work) number)
    unfolding place_of
    find_first r l p s =
        let x = p y.left.domains y.left.stmts first_listed (omega (arith, count_first)) in
        let m : number - 1 < length lefts = omega (arith, count_first, placed_length in_first d.at y.left.stmts) in
        let f : statement_at first second (length work) number ≡ in_first r.from x.it = numbered ∙ get_or-append lefts rights nowhere (number - 1) m ∙ x.found in_first in
        place_is r 1 r.from (r.from + length (encode_stmt x.it)) s refl x.end ∙ sym (ap place_of f)

    module _ (l : d.first ≤ number - 1) where
      over : get_or (lefts ++ rights) (number - 1) nowhere ≡ get_or rights (number - 1 - d.first) nowhere
      over =
          let m : number - 1 ≡ length lefts + (number - 1 - d.first) = omega (arith, count_first, placed_length in_first d.at y.left.stmts) in
          ap (λ n. get_or (lefts ++ rights) n nowhere) m ∙ get_or-append-add lefts rights (number - 1 - d.first) nowhere

      pub find_second : (r : Place) → number - 1 - d.first < d.second → PartPost second work d.at d.ints (number - 1 - d.first) r.from r.to → r.set ≡ 2 → r ≡ place_of (statement_at first second (length work) number)
      unfolding place_of
      find_second r b p s =
          let x = p y.right.domains y.right.stmts second_listed (omega (arith, count_second)) in
          let f : statement_at first second (length work) number ≡ in_second r.from x.it = numbered ∙ over ∙ x.found in_second in
          place_is r 2 r.from (r.from + length (encode_stmt x.it)) s refl x.end ∙ sym (ap place_of f)

      pub find_beyond : d.second ≤ number - 1 - d.first → no_place ≡ place_of (statement_at first second (length work) number)
      unfolding place_of
      find_beyond b =
          let f : statement_at first second (length work) number ≡ nowhere = numbered ∙ over ∙ get_or-eq_default rights nowhere (omega (arith, count_second, placed_length in_second d.at y.right.stmts)) in
          sym (ap place_of f)

-- ---- `find_place`

module _ (first second work : List ℤ) where
  pub find_refused : (k : ℕ) (number : ℕ) (work' : List ℤ) (r : Result Pair ℕ) → r ≡ Err k → AgreePost first second work work' r → no_place ≡ place_of (statement_at first second (length work) number)
  unfolding statement_at statements_of place_of
  find_refused k number work' r e h = rw (refused_is (agreement first second (length work)) k (sym h.answer ∙ e)) (go number)
    where
      go : (n : ℕ) → no_place ≡ place_of (get_or (nowhere ∷ []) n nowhere)
      go zero = refl
      go (suc n) = refl

  pub find_ready : (d : Pair) (work' : List ℤ) → length work' ≡ length work → (r : Result Pair ℕ) → r ≡ Ok d → AgreePost first second work work' r → ReadyFind first second work' d
  find_ready d work' l r e h =
      agreed_is (agreement first second (length work)) d (sym h.answer ∙ e) λ p q f g.
      record { left = p; right = q; agrees = ap (agreement first second) l ∙ f; pair_is = g; bounds = h.bounds p q f }

-- ---- `joined_statement`

-- a part of one of the sets
pub record Cut (ws : List ℤ) (from to : ℕ) (words : List ℤ) : Type 0 where
  pub order : from ≤ to
  pub inside : to ≤ length ws
  pub are : take (to - from) (drop from ws) ≡ words

cut_of : (ws : List ℤ) (at : ℕ) (t : Stmt) → Has ws at (encode_stmt t) → (from to : ℕ) → from ≡ at → to ≡ at + length (encode_stmt t) → Cut ws from to (encode_stmt t)
cut_of ws at t h from to e f = record {
  order = omega arith;
  inside = omega (arith, has_fits ws at (encode_stmt t) h (omega (arith, stmt_long t)));
  are = let m : to - from ≡ length (encode_stmt t) = omega arith in rw (m, e) h;
}

module _ (first second : List ℤ) (p : Place) where
  set_of : (f : Found) → p ≡ place_of f → (p.set ≡ (place_of f).set) × (p.from ≡ (place_of f).from) × (p.to ≡ (place_of f).to)
  set_of f e = (ap (λ (x : Place). x.set) e, ap (λ (x : Place). x.from) e, ap (λ (x : Place). x.to) e)

  pub cut_first : (f : Found) → Stands first second f → p ≡ place_of f → p.set ≡ 1 → Cut first p.from p.to (words_of f) × ((a b : ℕ × ℕ) → (a.0, p.from * 4 + a.1) ≡ address_of f a b)
  unfolding place_of words_of address_of
  cut_first (in_first at t) h e z = let q = set_of (in_first at t) e in (cut_of first at t h p.from p.to q.1 q.2, λ a b. rw q.1 refl)
  cut_first (in_second at t) h e z = absurd (omega (arith, z, (set_of (in_second at t) e).0))
  cut_first nowhere h e z = absurd (omega (arith, z, (set_of nowhere e).0))

  pub cut_second : (f : Found) → Stands first second f → p ≡ place_of f → p.set ≡ 2 → Cut second p.from p.to (words_of f) × ((a b : ℕ × ℕ) → (b.0, p.from * 4 + b.1) ≡ address_of f a b)
  unfolding place_of words_of address_of
  cut_second (in_first at t) h e z = absurd (omega (arith, z, (set_of (in_first at t) e).0))
  cut_second (in_second at t) h e z = let q = set_of (in_second at t) e in (cut_of second at t h p.from p.to q.1 q.2, λ a b. rw q.1 refl)
  cut_second nowhere h e z = absurd (omega (arith, z, (set_of nowhere e).0))

  pub cut_none : (f : Found) → p ≡ place_of f → (p.set ≡ 1 → ⊥) → (p.set ≡ 2 → ⊥) → ([] ≡ words_of f) × ((a b : ℕ × ℕ) → (a.0, 0 + a.1) ≡ address_of f a b)
  unfolding place_of words_of address_of
  cut_none (in_first at t) e y z = absurd (y (set_of (in_first at t) e).0)
  cut_none (in_second at t) e y z = absurd (z (set_of (in_second at t) e).0)
  cut_none nowhere e y z = (refl, λ a b. let m : 0 + a.1 ≡ a.1 = omega arith in rw m refl)
