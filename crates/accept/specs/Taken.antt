-- What the answer of `accept` says: an accepted set is well-formed and unrefused, and its bounds stand in the work slice; a refusal has its cause.
-- Assumes nothing.
use Rattle.std.specs.Prelude.{◌≡◌, Ok, Err, Bool, true, cond, ℤ, length}
use Rattle.std.proofs.Math.Path.{refl, ap}
use Rattle.std.proofs.Common.{sym, ◌∙◌, arith, ltb-false}
use Rattle.std.proofs.Math.Bool.{false}
use mathlib.Core.List.{List, [], map}
use Prim.Native.Nat.{ℕ, zero, suc, ◌+◌}
use Rattle.std.proofs.Math.Dec.{ltb}
use Rattle.std.proofs.lemmas.List.Edits.{sets}
use Rattle.laws.specs.Lists.{flat}
use Rattle.laws.specs.Ints.{apart}
use Rattle.memory.specs.Places.{bounds}
use Rattle.syntax.specs.Words.{min_work_words, max_set_words}
use Rattle.syntax.specs.Syntax.{Problem, encode_domain}
use Rattle.words.specs.Parse.{Parsed, ok, refuse}
use Rattle.read.specs.Read.{read_set}
use Rattle.read.proofs.Exact.{set_sound}
use Rattle.reader.specs.Position.{set_at}
use Rattle.reader.specs.declared.Declared.{Declared}
use Rattle.domains.specs.Declared.{bounds_words, Domains}
use Rattle.limits.specs.Limits.{check}
use Rattle.accept.specs.Walk.{Bounds, StmtsAt}
use Rattle.accept.specs.Accepted.{SetOf, domains_stand, stmts_stand, table_stands, unless_refused, limited, accepted, table_read, table_after}

-- a set that 1 to 11 let through, what it says and what it declares
pub record Taken (n : ℕ) (ws : List ℤ) (d : Declared) : Type 0 where
  pub it : Problem
  pub enough : ltb n min_work_words ≡ false
  pub short : ltb max_set_words (length ws) ≡ false
  pub says : read_set ws ≡ ok it []
  pub unrefused : check it ≡ 0
  pub declares : set_at (ok it []) ≡ Ok d

module _ (n : ℕ) (ws : List ℤ) where
  pub accepted_ok : (d : Declared) → accepted n ws ≡ Ok d → Taken n ws d
  unfolding accepted limited unless_refused
  accepted_ok d = go (ltb n min_work_words) refl (ltb max_set_words (length ws)) refl (read_set ws) refl
    where
      last : (p : Problem) (r : List ℤ) → read_set ws ≡ ok p r → ltb n min_work_words ≡ false → ltb max_set_words (length ws) ≡ false
          → (m : ℕ) → check p ≡ m → unless_refused (set_at (ok p r)) m ≡ Ok d → Taken n ws d
      last p r e a b (suc m) c h = apart (cc)
      last p r e a b zero c h =
          let s : [] ≡ r = (set_sound ws p r e).2 in
          record { it = p; enough = a; short = b; says = e ∙ ap (ok p) (sym s); unrefused = c; declares = ap (λ l. set_at (ok p l)) s ∙ h }

      go : (s : Bool) → ltb n min_work_words ≡ s → (t : Bool) → ltb max_set_words (length ws) ≡ t → (q : Parsed Problem) → read_set ws ≡ q
          → cond s (Err 1) (cond t (Err 2) (limited q)) ≡ Ok d → Taken n ws d
      go true a t b q e h = apart (cc)
      go false a true b q e h = apart (cc)
      go false a false b (refuse k) e h = apart (cc)
      go false a false b (ok p r) e h = last p r e a b (check p) refl h

  -- whichever cause
  pub accepted_refused : {X : Type 0} (k : ℕ) → accepted n ws ≡ Err k
      → (ltb n min_work_words ≡ true → k ≡ 1 → X)
      → (ltb n min_work_words ≡ false → ltb max_set_words (length ws) ≡ true → k ≡ 2 → X)
      → (ltb n min_work_words ≡ false → ltb max_set_words (length ws) ≡ false → read_set ws ≡ refuse k → X)
      → ((p : Problem) (r : List ℤ) (m : ℕ) → ltb n min_work_words ≡ false → ltb max_set_words (length ws) ≡ false → read_set ws ≡ ok p r → check p ≡ suc m → k ≡ suc m → X) → X
  unfolding accepted limited unless_refused set_at
  accepted_refused {X} k h f1 f2 f3 f4 = go (ltb n min_work_words) refl (ltb max_set_words (length ws)) refl (read_set ws) refl h
    where
      last : (p : Problem) (r : List ℤ) → read_set ws ≡ ok p r → ltb n min_work_words ≡ false → ltb max_set_words (length ws) ≡ false
          → (m : ℕ) → check p ≡ m → unless_refused (set_at (ok p r)) m ≡ Err k → X
      last p r e a b zero c h = apart (cc)
      last p r e a b (suc m) c h = f4 p r m a b e c (cc)

      go : (s : Bool) → ltb n min_work_words ≡ s → (t : Bool) → ltb max_set_words (length ws) ≡ t → (q : Parsed Problem) → read_set ws ≡ q
          → cond s (Err 1) (cond t (Err 2) (limited q)) ≡ Err k → X
      go true a t b q e h = f1 a (cc)
      go false a true b q e h = f2 a b (cc)
      go false a false b (refuse j) e h = f3 a b (e ∙ cc)
      go false a false b (ok p r) e h = last p r e a b (check p) refl h

-- ---- what an accepted set leaves to the passes after it

module _ (n : ℕ) (ws : List ℤ) (d : Declared) (t : Taken n ws d) where
  pub taken_set : SetOf ws t.it
  taken_set = let s = set_sound ws t.it [] t.says in record { words = s.0; well = s.1 }

  pub taken_table : (work : List ℤ) → length work ≡ n → table_after ws work ≡ sets work bounds (bounds_words t.it.domains)
  unfolding table_after table_read
  taken_table work e = rw (e, t.enough, t.short, t.says) refl

  pub taken_bounds : (work : List ℤ) → length work ≡ n → Bounds (table_after ws work) t.it.domains
  taken_bounds work e = rw (taken_table work e) (table_stands ws t.it taken_set work (omega (arith, ltb-false n min_work_words t.enough)))

  -- where its parts stand
  pub declared_is : d ≡ record { bools = t.it.bools; ints = length t.it.domains; stmts = length t.it.stmts; at = 3 + length (flat (map encode_domain t.it.domains)) }
  unfolding set_at
  declared_is = let e = t.declares in cc

  pub taken_domains : Domains ws 2 t.it.domains
  taken_domains = domains_stand ws t.it taken_set

  pub taken_stmts : StmtsAt d.ints ws d.at d.stmts t.it.stmts
  taken_stmts =
      let m : 3 + length (flat (map encode_domain t.it.domains)) ≡ 2 + length (flat (map encode_domain t.it.domains)) + 1 = omega arith in
      rw (declared_is, m) (stmts_stand ws t.it taken_set)
