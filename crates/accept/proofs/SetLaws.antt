-- What `check_limits` and `accept` ask and gives at each step, over variables. Assumes nothing.
use Prim.Native.Nat.{ℕ, zero, suc, ◌+◌, ◌≤◌, ◌<◌}
use mathlib.Core.Path.{◌≡◌, refl, sym, ap, ◌∙◌}
use mathlib.Core.List.{List, map}
use native.Mathlib.Omega.{arith}
use lib.IntN.{ℤ, pos}
use lib.ListN.{length, get_or}
use lib.Seq.{sets}
use Rattle.laws.specs.Lists.{flat}
use Rattle.laws.specs.Ints.{pos_eq}
use Rattle.memory.specs.Places.{bounds}
use Rattle.syntax.specs.Syntax.{encode_domain, Problem}
use Rattle.domains.specs.Declared.{Plain, bounds_words, BoundsRoom, BoundsPost}
use Rattle.limits.specs.Limits.{check}
use Rattle.accept.specs.Walk.{Bounds, StmtsAt, ReadyStmts, CheckPost}
use Rattle.syntax.specs.Words.{min_work_words, max_set_words, max_ints}
use Rattle.words.specs.Parse.{Parsed, ok, refuse}
use Rattle.read.specs.Read.{read_set}
use Rattle.read.proofs.Exact.{set_sound}
use Rattle.reader.specs.Position.{set_at}
use Rattle.reader.specs.declared.Declared as declared-declared
use Rattle.std.specs.Prelude.{Result, Ok, Err}
use borrow.Author.Tests.{lt-ltb, le-ltb}
use Rattle.accept.specs.Accepted.{unless_refused, limited, accepted, table_read, table_after, SetOf, ReadySet, LimitsPost, ints_word, domains_stand, stmts_word, stmts_inside, stmts_stand, table_stands, check_is}

module _ (ws work : List ℤ) (r : ReadySet ws work) where
  pub ints_plain : Plain ws 1
  ints_plain = record { inside = omega (arith, stmts_inside ws r.it r.set_of); value = length r.it.domains; is = ints_word ws r.it r.set_of }

  module _ (ni : ℕ) (hi : get_or ws 1 (pos 0) ≡ pos ni) where
    ints_are : (p : Problem) → SetOf ws p → ni ≡ length p.domains
    ints_are p h = pos_eq _ _ _ hi (ints_word ws p h)

    pub few_ints : ni ≤ max_ints
    few_ints = omega (arith, ints_are r.it r.set_of, r.set_of.well.few_ints)

    pub table_room : BoundsRoom ws 2 ni work bounds
    table_room = let l = r.room in record { ds = r.it.domains; domains = domains_stand ws r.it r.set_of; size = ints_are r.it r.set_of; room = omega (arith, few_ints) }

    module _ (work' : List ℤ) (at : ℕ) (p : BoundsPost ws 2 ni work bounds work' at) where
      table_of : (q : Problem) → SetOf ws q → (at ≡ 2 + length (flat (map encode_domain q.domains))) × (work' ≡ sets work bounds (bounds_words q.domains))
      table_of q h = let y = p q.domains (domains_stand ws q h) (ints_are q h) in (y.behind, y.stored)

      pub count_plain : Plain ws at
      count_plain =
          let e = (table_of r.it r.set_of).0 in
          record { inside = omega (arith, stmts_inside ws r.it r.set_of); value = length r.it.stmts; is = rw e (stmts_word ws r.it r.set_of) }

      pub count_inside : at < length ws
      count_inside = omega (arith, stmts_inside ws r.it r.set_of, (table_of r.it r.set_of).0)

      module _ (n : ℕ) (hn : get_or ws at (pos 0) ≡ pos n) where
        stmts_at : (q : Problem) → SetOf ws q → StmtsAt ni ws (at + 1) n q.stmts
        stmts_at q h =
            let e = (table_of q h).0 in
            let g : n ≡ length q.stmts = pos_eq _ _ _ hn (rw e (stmts_word ws q h)) in
            rw (e, g, ints_are q h) (stmts_stand ws q h)

        bounds_of : (q : Problem) → SetOf ws q → Bounds work' q.domains
        bounds_of q h = rw (table_of q h).1 (table_stands ws q h work r.room)

        pub stmts_ready : ReadyStmts ws work' (at + 1) n ni
        stmts_ready = record { ds = r.it.domains; bounds = bounds_of r.it r.set_of; few = ints_are r.it r.set_of; them = r.it.stmts; reads = stmts_at r.it r.set_of }

        pub limits_post : (x : ℕ) → CheckPost ws work' (at + 1) n ni x → LimitsPost ws work work' x
        limits_post x c q h = (c q.domains q.stmts (bounds_of q h) (ints_are q h) (stmts_at q h) ∙ check_is q, (table_of q h).1)

-- ---- `accept`

module _ (ws work : List ℤ) where
  abbrev AcceptPost : Result declared-declared.Declared ℕ → List ℤ → Type 0
  AcceptPost r work' = (r ≡ accepted (length work) ws) × (work' ≡ table_after ws work)

  pub accept_short : length work < min_work_words → AcceptPost (Err 1) work
  unfolding accepted table_after
  accept_short l = rw (lt-ltb (length work) min_work_words l) (refl, refl)

  module _ (l : min_work_words ≤ length work) where
    pub accept_long : 4096 < length ws → AcceptPost (Err 2) work
    unfolding accepted table_after
    accept_long k = rw (le-ltb (length work) min_work_words l, lt-ltb max_set_words (length ws) k) (refl, refl)

    module _ (k : length ws ≤ 4096) where
      -- past 1 and 2
      past : (q : Parsed Problem) (r : Result declared-declared.Declared ℕ) (work' : List ℤ) → read_set ws ≡ q → r ≡ limited q → work' ≡ table_read q work → AcceptPost r work'
      unfolding accepted table_after
      past q r work' e a b = rw (le-ltb (length work) min_work_words l, le-ltb max_set_words (length ws) k, e) (a, b)

      refused_inv : (q : Parsed Problem) (n : ℕ) → set_at q ≡ Err n → q ≡ refuse n
      unfolding set_at
      refused_inv (refuse m) n e = cc
      refused_inv (ok p r) n e = absurd (let z : ◌≡◌ {A = ℕ} 0 1 = cc in omega arith)

      pub accept_refused : (n : ℕ) → set_at (read_set ws) ≡ Err n → AcceptPost (Err n) work
      unfolding limited table_read
      accept_refused n e = past (refuse n) (Err n) work (refused_inv (read_set ws) n e) refl refl

      module _ (d : declared-declared.Declared) (e : set_at (read_set ws) ≡ Ok d) where
        read_inv : {X : Type 0} (q : Parsed Problem) → set_at q ≡ Ok d → ((p : Problem) (r : List ℤ) → q ≡ ok p r → X) → X
        unfolding set_at
        read_inv (refuse m) e go = absurd (let z : ◌≡◌ {A = ℕ} 0 1 = cc in omega arith)
        read_inv (ok p r) e go = go p r refl

        is_set : (p : Problem) (r : List ℤ) → read_set ws ≡ ok p r → SetOf ws p
        is_set p r q = let s = set_sound ws p r q in record { words = s.0; well = s.1 }

        pub accept_ready : ReadySet ws work
        accept_ready = read_inv (read_set ws) e λ p r q. record { it = p; set_of = is_set p r q; room = omega arith }

        module _ (work' : List ℤ) (n : ℕ) (c : LimitsPost ws work work' n) where
          pub accept_limit : (n ≡ 0 → ⊥) → AcceptPost (Err n) work'
          unfolding limited table_read unless_refused
          accept_limit z =
              read_inv (read_set ws) e λ p r q.
              let y = c p (is_set p r q) in
              past (ok p r) (Err n) work' q (go (set_at (ok p r)) (check p) y.0) y.1
            where
              go : (s : Result declared-declared.Declared ℕ) (m : ℕ) → n ≡ m → Err n ≡ unless_refused s m
              go s zero h = absurd (z h)
              go s (suc m) h = ap Err h

          pub accept_ok : n ≡ 0 → AcceptPost (Ok d) work'
          unfolding limited table_read unless_refused
          accept_ok z =
              read_inv (read_set ws) e λ p r q.
              let y = c p (is_set p r q) in
              let s : set_at (ok p r) ≡ Ok d = ap set_at (sym q) ∙ e in
              let t : check p ≡ 0 = sym y.0 ∙ z in
              past (ok p r) (Ok d) work' q (sym (rw (t, s) refl)) y.1
