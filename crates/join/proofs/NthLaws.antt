-- One of a set's statements, found by passing those before it: what each step asks and gives. Assumes nothing.
use mathlib.Core.Path.{◌≡◌, refl, sym, ap, ◌∙◌}
use mathlib.Core.List.{List, [], ◌∷◌, map}
use Prim.Native.Nat.{ℕ, zero, suc, ◌+◌, ◌-◌, ◌<◌}
use native.Mathlib.Omega.{arith}
use lib.IntN.{ℤ}
use lib.ListN.{length, get_or}
use Rattle.laws.specs.Lists.{flat}
use Rattle.laws.specs.Slices.{has_front, has_back}
use Rattle.syntax.specs.Syntax.{Domain, Stmt, encode_stmt}
use Rattle.accept.specs.Walk.{UsableStmts, StmtAt, ReadyStmt, StmtPost}
use Rattle.join.specs.Join.{Found, nowhere, placed}
use Rattle.join.specs.Steps.{Listed, ReadyNth, NthPost, PartPost}

module _ (ws work : List ℤ) (at ni : ℕ) where
  -- a list of statements taken apart
  record Split (ds : List Domain) (s : Stmt) (us : List Stmt) : Type 0 where
    here : StmtAt ni ws at s
    after : Listed ws work (at + length (encode_stmt s)) ni ds us

  split : (ds : List Domain) (s : Stmt) (us : List Stmt) → Listed ws work at ni ds (s ∷ us) → Split ds s us
  unfolding UsableStmts
  split ds s us l = record {
    here = record { words = has_front ws at (encode_stmt s) (flat (map encode_stmt us)) l.reads.words; usable = l.reads.usable.0 };
    after = record {
      bounds = l.bounds;
      few = l.few;
      reads = record { words = has_back ws at (encode_stmt s) (flat (map encode_stmt us)) l.reads.words; usable = l.reads.usable.1; size = refl };
    };
  }

  pub nth_first : (k : ℕ) → ReadyNth ws work at ni k → ReadyStmt ws work at ni
  nth_first k y = go y.them y.listed y.below
    where
      go : (ss : List Stmt) → Listed ws work at ni y.ds ss → k < length ss → ReadyStmt ws work at ni
      go [] l b = absurd (omega arith)
      go (s ∷ us) l b = record { ds = y.ds; bounds = l.bounds; few = l.few; it = s; reads = (split y.ds s us l).here }

  pub nth_done : (k : ℕ) → k ≡ 0 → NthPost ws work at ni k at
  unfolding placed
  nth_done k z ds [] l b = absurd (omega arith)
  nth_done k z ds (s ∷ us) l b = let x = split ds s us l in record { it = s; reads = x.here; found = λ f. ap (λ n. get_or (placed f at (s ∷ us)) n nowhere) z }

  module _ (x w : ℕ) (p : StmtPost ws work at ni x w) where
    pub nth_ready : (k : ℕ) → (k ≡ 0 → ⊥) → ReadyNth ws work at ni k → ReadyNth ws work x ni (k - 1)
    nth_ready k z y = go y.them y.listed y.below
      where
        go : (ss : List Stmt) → Listed ws work at ni y.ds ss → k < length ss → ReadyNth ws work x ni (k - 1)
        go [] l b = absurd (omega arith)
        go (s ∷ us) l b =
            let c = split y.ds s us l in
            let e = (p y.ds s l.bounds l.few c.here).0 in
            let w : length (s ∷ us) ≡ suc (length us) = refl in
            record { ds = y.ds; them = us; listed = rw e c.after; below = omega (arith, z) }

    pub nth_rest : (k : ℕ) → (k ≡ 0 → ⊥) → (r : ℕ) → NthPost ws work x ni (k - 1) r → NthPost ws work at ni k r
    unfolding placed
    nth_rest zero z r h ds ss l b = absurd (z refl)
    nth_rest (suc k) z r h ds [] l b = absurd (omega arith)
    nth_rest (suc k) z r h ds (s ∷ us) l b =
        let c = split ds s us l in
        let e = (p ds s l.bounds l.few c.here).0 in
        let m : suc k - 1 ≡ k = omega arith in
        let t = h ds us (rw e c.after) (omega arith) in
        record { it = t.it; reads = t.reads; found = λ f. ap (λ (v : List Found). get_or v k nowhere) (ap (λ n. placed f n us) (sym e)) ∙ ap (λ n. get_or (placed f x us) n nowhere) (sym m) ∙ t.found f }

  -- ---- `part_of`

  module _ (k from : ℕ) (h : NthPost ws work at ni k from) where
    pub part_ready : ReadyNth ws work at ni k → ReadyStmt ws work from ni
    part_ready y = let t = h y.ds y.them y.listed y.below in record { ds = y.ds; bounds = y.listed.bounds; few = y.listed.few; it = t.it; reads = t.reads }

    pub part_post : (e w : ℕ) → StmtPost ws work from ni e w → PartPost ws work at ni k from e
    part_post e w p ds ss l b = let t = h ds ss l b in record { it = t.it; end = (p ds t.it l.bounds l.few t.reads).0; found = t.found }
