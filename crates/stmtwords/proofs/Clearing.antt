-- Clearing the Ifs of the words at a place: one law for each way that the code goes on.
use mathlib.Core.Path.{◌≡◌, refl, sym, ap, ◌∙◌, subst}
use mathlib.Core.Bool.{Bool, true, false, cond}
use mathlib.Core.List.{List, [], ◌∷◌, ◌++◌}
use Prim.Native.Nat.{ℕ, zero, suc, ◌+◌, ◌-◌, ◌≤◌, ◌<◌, min}
use native.Mathlib.Omega.{arith}
use native.Mathlib.Numerals.{sub-one}
use lib.IntN.{ℤ, pos}
use lib.ListN.{length, drop, set, length-set}
use lib.Seq.{set_comm, take-set-le, drop-set-lt}
use lib.Dec.{eqb}
use borrow.Author.Tests.{eqb-true, eqb-false, ne_eqb}
use Rattle.memory.specs.Places.{folded_end, cells, ifs_word, limit}
use Rattle.walk.specs.Item.{bump}
use Rattle.walk.specs.Decode.{word, past, read_part}
use Rattle.walk.specs.declared.Node.{Node}
use Rattle.walk.specs.declared.Node.TheVariants.{Var, Cmp, Not, Join, Cross}
use Rattle.walk.proofs.NumberingSteps.{part_length}
use Rattle.walks.specs.Tree.{Place, here}
use Rattle.walks.specs.Item.{has_ifs}
use Rattle.walks.specs.Decode.{node_of, decode, decode_int}
use Rattle.walks.specs.Clear.{clear_place, clear_places}
use Rattle.scan.specs.Skip.{split_by, Skips, IntSkips, skips_none, skips_var, skips_cmp, skips_not, skips_join, skips_cross, int_none, int_leaf, int_sum, int_if, Skipping, skipping_first, skipping_next, skipping_last, TermSkipping, terms_first, terms_next, terms_last}
use Rattle.stmtwords.specs.Ifs.{many_ifs, node_ifs, terms_ifs, if_ifs, int_node_ifs, ifs_at, ifs_int_at, ifs_level, int_ifs_level, place_at}
use Rattle.stmtwords.specs.Cleared.{Cleared, Clears, ClearsAll, IntClears, TermClears, pair_ifs}

-- ---- cells cleared one after another

either : {X : Type 0} (P : X → Type 0) (b : Bool) (x y : X) → P x → P y → P (cond b x y)
either P true x y p q = p
either P false x y p q = q

-- cleared in any order
zero_swap : (w : List ℤ) (i j : ℕ) → set (set w i (pos 0)) j (pos 0) ≡ set (set w j (pos 0)) i (pos 0)
zero_swap w i j = go (eqb i j) refl
  where
    go : (b : Bool) → eqb i j ≡ b → set (set w i (pos 0)) j (pos 0) ≡ set (set w j (pos 0)) i (pos 0)
    go true e = ap (λ (k : ℕ). set (set w i (pos 0)) k (pos 0)) (sym (eqb-true i j e)) ∙ ap (λ (k : ℕ). set (set w k (pos 0)) i (pos 0)) (eqb-true i j e)
    go false e = set_comm w i j (pos 0) (pos 0) (eqb-false i j e)

place_swap : (p q : Place) (w : List ℤ) → clear_place p (clear_place q w) ≡ clear_place q (clear_place p w)
unfolding clear_place
place_swap p q w = go p.whole q.whole
  where
    i : ℕ
    i = cells + (p.at + 1)

    j : ℕ
    j = cells + (q.at + 1)

    go : (b c : Bool) → (let x = cond c w (set w j (pos 0)) in let y = cond b w (set w i (pos 0)) in cond b x (set x i (pos 0)) ≡ cond c y (set y j (pos 0)))
    go true true = refl
    go true false = refl
    go false true = refl
    go false false = zero_swap w j i

places_swap : (p : Place) (ps : List Place) (w : List ℤ) → clear_place p (clear_places ps w) ≡ clear_places ps (clear_place p w)
unfolding clear_places
places_swap p [] w = refl
places_swap p (q ∷ ps) w = places_swap p ps (clear_place q w) ∙ ap (clear_places ps) (place_swap p q w)

places_then : (xs ys : List Place) (w : List ℤ) → clear_places (xs ++ ys) w ≡ clear_places ys (clear_places xs w)
unfolding clear_places
places_then [] ys w = refl
places_then (x ∷ xs) ys w = places_then xs ys (clear_place x w)

pub cleared_none : (w : List ℤ) → Cleared [] w w
unfolding clear_places
cleared_none w = record { cells = refl; part = refl; size = refl; behind = refl }

cleared_then : {xs ys : List Place} {w w' w'' : List ℤ} → Cleared xs w w' → Cleared ys w' w'' → Cleared (xs ++ ys) w w''
cleared_then {xs} {ys} {w} x y = record {
  cells = y.cells ∙ ap (clear_places ys) x.cells ∙ sym (places_then xs ys w);
  part = y.part ∙ x.part;
  size = y.size ∙ x.size;
  behind = y.behind ∙ x.behind;
}

place_part : (p : Place) (w : List ℤ) → read_part (clear_place p w) ≡ read_part w
unfolding clear_place read_part
place_part p w = either (λ (y : List ℤ). read_part y ≡ read_part w) p.whole w _ refl (take-set-le folded_end w (cells + (p.at + 1)) (pos 0) (omega arith))

place_size : (p : Place) (w : List ℤ) → length (clear_place p w) ≡ length w
unfolding clear_place
place_size p w = either (λ (y : List ℤ). length y ≡ length w) p.whole w _ refl (length-set w (cells + (p.at + 1)) (pos 0))

place_behind : (p : Place) (w : List ℤ) → p.at ≤ folded_end → drop ifs_word (clear_place p w) ≡ drop ifs_word w
unfolding clear_place
place_behind p w h = either (λ (y : List ℤ). drop ifs_word y ≡ drop ifs_word w) p.whole w _ refl (drop-set-lt ifs_word w (cells + (p.at + 1)) (pos 0) (omega arith))

-- the If itself last
cleared_place : (p : Place) {xs : List Place} {w w' : List ℤ} → p.at ≤ folded_end → Cleared xs w w' → Cleared (p ∷ xs) w (clear_place p w')
unfolding clear_places
cleared_place p {xs} {w} {w'} h x = record {
  cells = ap (clear_place p) x.cells ∙ places_swap p xs w;
  part = place_part p w' ∙ x.part;
  size = place_size p w' ∙ x.size;
  behind = place_behind p w' h ∙ x.behind;
}

cleared_to : {xs ys : List Place} {w w' : List ℤ} → xs ≡ ys → Cleared xs w w' → Cleared ys w w'
cleared_to {xs} {ys} {w} {w'} e = subst (λ (ps : List Place). Cleared ps w w') e

-- ---- the words stay

clears_in : (l at base q b : ℕ) (v w w' : List ℤ) → read_part w ≡ read_part v → Clears (read_part w) l at base q b w w' → Clears (read_part v) l at base q b w w'
clears_in l at base q b v w w' e = subst (λ (ws : List ℤ). Clears ws l at base q b w w') e

int_in : (l at base q b : ℕ) (v w w' : List ℤ) → read_part w ≡ read_part v → IntClears (read_part w) l at base q b w w' → IntClears (read_part v) l at base q b w w'
int_in l at base q b v w w' e = subst (λ (ws : List ℤ). IntClears ws l at base q b w w') e

-- ---- one expression

module _ (w : List ℤ) (size : folded_end ≤ length w) (l at base : ℕ) (inside : at ≤ folded_end) (low : base ≤ limit) where
  pub clears_none : l ≡ 0 → Clears (read_part w) l at base at base w w
  unfolding ifs_at
  clears_none e = record { skips = skips_none w size l here at base inside low e; cleared = rw e (cleared_none w) }

  pub int_clears_none : l ≡ 0 → IntClears (read_part w) l at base at base w w
  unfolding ifs_at
  int_clears_none e = record { skips = int_none w size l here at base inside low e; cleared = rw e (cleared_none w) }

  module _ (u : ℕ) (z : l ≡ 0 → ⊥) (hu : u ≡ l - 1) where
    some_level : (k : ℕ) → (k ≡ 0 → ⊥) → 0 < k
    some_level zero h = absurd (h refl)
    some_level (suc k) h = omega arith

    abbrev At : Node → Type 0
    At N = N ≡ node_of (read_part w) false at (word (read_part w) at)

    node_are : (N : Node) → At N → node_ifs (decode (read_part w) u here) (decode_int (read_part w) u here) (ifs_at (read_part w) u) (ifs_int_at (read_part w) u) base N ≡ ifs_at (read_part w) l at base
    node_are N e = rw (e, hu) (sym (ifs_level (read_part w) l at base (some_level l z)))

    pub clears_var : (v q : ℕ) → At (Var v q) → Clears (read_part w) l at base q base w w
    unfolding node_ifs
    clears_var v q e = record { skips = skips_var w size l here at base inside low u z hu false v q e; cleared = cleared_to (node_are (Var v q) e) (cleared_none w) }

    pub clears_cmp : (o e q b q' b' : ℕ) (w' w'' : List ℤ) → At (Cmp o e) → IntClears (read_part w) u e base q b w w' → IntClears (read_part w') u q b q' b' w' w'' → Clears (read_part w) l at base q' b' w w''
    unfolding node_ifs split_by
    clears_cmp o e q b q' b' w' w'' i x y' =
        let y = int_in u q b q' b' w w' w'' x.cleared.part y' in
        record {
          skips = skips_cmp w size l here at base inside low u z hu false o e 2 q b q' b' i refl x.skips y.skips;
          cleared = cleared_to (node_are (Cmp o e) i) (rw (← x.skips.end, ← x.skips.next) (cleared_then x.cleared y.cleared));
        }

    pub clears_not : (e q b : ℕ) (w' : List ℤ) → At (Not e) → Clears (read_part w) u e base q b w w' → Clears (read_part w) l at base q b w w'
    unfolding node_ifs
    clears_not e q b w' i x = record { skips = skips_not w size l here at base inside low u z hu false e q b i x.skips; cleared = cleared_to (node_are (Not e) i) x.cleared }

    pub clears_join : (d : Bool) (k : ℕ) (f g : Bool) (e q b : ℕ) (w' : List ℤ) → At (Join d k f g e) → ClearsAll (read_part w) u k e base q b w w' → Clears (read_part w) l at base q b w w'
    unfolding node_ifs
    clears_join d k f g e q b w' i x = record { skips = skips_join w size l here at base inside low u z hu false d k f g e q b i x.skips; cleared = cleared_to (node_are (Join d k f g e) i) x.cleared }

    pub clears_cross : (h : Bool) (e c q b : ℕ) (w' : List ℤ) → At (Cross h e) → c ≡ bump base 2 → ClearsAll (read_part w) u 2 e c q b w w' → Clears (read_part w) l at base q b w w'
    unfolding node_ifs split_by
    clears_cross h e c q b w' i j x = record {
      skips = skips_cross w size l here at base inside low u z hu false h e 2 c q b i refl j x.skips;
      cleared = cleared_to (node_are (Cross h e) i) (rw (← j) x.cleared);
    }

    -- ---- integer expressions; k: the code

    int_are : (k : ℕ) → k ≡ word (read_part w) at → int_node_ifs (read_part w) (decode (read_part w) u here) (decode_int (read_part w) u here) (ifs_at (read_part w) u) (ifs_int_at (read_part w) u) at base k ≡ ifs_int_at (read_part w) l at base
    int_are k e = rw (e, hu) (sym (int_ifs_level (read_part w) l at base (some_level l z)))

    past_is : (p q : ℕ) → q ≡ min p folded_end → past (read_part w) p ≡ q
    past_is p q e = omega (arith, part_length w size)

    pub int_clears_leaf : (k two : ℕ) → k ≡ word (read_part w) at → (k ≡ 22 → ⊥) → (k ≡ 23 → ⊥) → two ≡ min (at + 2) folded_end → IntClears (read_part w) l at base two base w w
    unfolding int_node_ifs
    int_clears_leaf k two a x y e = record { skips = int_leaf w size l here at base inside low u z hu k two a x y e; cleared = cleared_to (int_are k a) (rw (ne_eqb k 22 x, ne_eqb k 23 y) (cleared_none w)) }

    pub int_clears_sum : (k two x q b : ℕ) (w' : List ℤ) → k ≡ word (read_part w) at → k ≡ 22 → two ≡ min (at + 2) folded_end → x ≡ word (read_part w) (at + 1) → TermClears (read_part w) u x two base q b w w' → IntClears (read_part w) l at base q b w w'
    unfolding int_node_ifs
    int_clears_sum k two x q b w' a i e hx s = record {
      skips = int_sum w size l here at base inside low u z hu k two x q b a i e hx s.skips;
      cleared = cleared_to (int_are k a) (rw (i, ← hx, past_is (at + 2) two e) s.cleared);
    }

    pub int_clears_if : (k one q b q' b' q'' b'' : ℕ) (x y v v' : List ℤ) → k ≡ word (read_part w) at → k ≡ 23 → one ≡ min (at + 1) folded_end
        → Clears (read_part w) u one base q b w x → IntClears (read_part x) u q b q' b' x y → IntClears (read_part y) u q' b' q'' b'' y v
        → v' ≡ clear_place (place_at at q'' base b'') v → IntClears (read_part w) l at base q'' b'' w v'
    unfolding int_node_ifs if_ifs
    int_clears_if k one q b q' b' q'' b'' x y v v' a i e c t' f' last =
        let t = int_in u q b q' b' w x y c.cleared.part t' in
        let f = int_in u q' b' q'' b'' w y v (t.cleared.part ∙ c.cleared.part) f' in
        record {
          skips = int_if w size l here at base inside low u z hu k one q b q' b' q'' b'' a i e c.skips t.skips f.skips;
          cleared = cleared_to (int_are k a)
              (rw (i, past_is (at + 1) one e, ← c.skips.end false, ← c.skips.next false, ← t.skips.end, ← t.skips.next, ← f.skips.end, ← f.skips.next, last)
              (cleared_place (place_at at q'' base b'') inside (cleared_then c.cleared (cleared_then t.cleared f.cleared))));
        }

-- ---- members: whatever clears the rest has cleared all

pub record Clearing (v : List ℤ) (l k at base rest q b : ℕ) (w : List ℤ) : Type 0 where
  pub skipping : Skipping (read_part v) l here k at base rest q b
  pub ifs : (w' : List ℤ) → Cleared (many_ifs (decode (read_part v) l here) (ifs_at (read_part v) l) rest q b) w w' → Cleared (many_ifs (decode (read_part v) l here) (ifs_at (read_part v) l) k at base) v w'
  pub part : read_part w ≡ read_part v
  pub size : length w ≡ length v

module _ (v : List ℤ) (l k at base : ℕ) where
  pub clearing_first : at ≤ folded_end → base ≤ limit → Clearing v l k at base k at base v
  clearing_first h i = record { skipping = skipping_first (read_part v) l here k at base h i; ifs = λ w' x. x; part = refl; size = refl }

  more_ifs : (rest q b q' b' : ℕ) → (rest ≡ 0 → ⊥) → Skips (read_part v) l here q b q' b'
      → ifs_at (read_part v) l q b ++ many_ifs (decode (read_part v) l here) (ifs_at (read_part v) l) (rest - 1) q' b' ≡ many_ifs (decode (read_part v) l here) (ifs_at (read_part v) l) rest q b
  unfolding many_ifs
  more_ifs zero q b q' b' z s = absurd (z refl)
  more_ifs (suc rest) q b q' b' z s = rw (sub-one, ← s.end false, ← s.next false) refl

  pub clearing_next : (rest q b q' b' : ℕ) (w w' : List ℤ) → Clearing v l k at base rest q b w → (rest ≡ 0 → ⊥) → Clears (read_part w) l q b q' b' w w' → Clearing v l k at base (rest - 1) q' b' w'
  clearing_next rest q b q' b' w w' x z y' =
      let y = clears_in l q b q' b' v w w' x.part y' in
      record {
        skipping = skipping_next (read_part v) l here k at base rest q b q' b' x.skipping z y.skips;
        ifs = λ w'' h. x.ifs w'' (cleared_to (more_ifs rest q b q' b' z y.skips) (cleared_then y.cleared h));
        part = y.cleared.part ∙ x.part;
        size = y.cleared.size ∙ x.size;
      }

  pub clearing_last : (rest q b : ℕ) (w : List ℤ) → Clearing v l k at base rest q b w → rest ≡ 0 → ClearsAll (read_part v) l k at base q b v w
  unfolding many_ifs
  clearing_last zero q b w x z = record { skips = skipping_last (read_part v) l here k at base 0 q b x.skipping refl; cleared = x.ifs w (cleared_none w) }
  clearing_last (suc rest) q b w x z = absurd (omega arith)

-- ---- terms

pub record TermClearing (v : List ℤ) (l k at base rest q b : ℕ) (w : List ℤ) : Type 0 where
  pub skipping : TermSkipping (read_part v) l here k at base rest q b
  pub ifs : (w' : List ℤ) → Cleared (terms_ifs (read_part v) (decode_int (read_part v) l here) (ifs_int_at (read_part v) l) rest q b) w w' → Cleared (terms_ifs (read_part v) (decode_int (read_part v) l here) (ifs_int_at (read_part v) l) k at base) v w'
  pub part : read_part w ≡ read_part v
  pub size : length w ≡ length v

module _ (v : List ℤ) (l k at base : ℕ) where
  pub term_clearing_first : at ≤ folded_end → base ≤ limit → TermClearing v l k at base k at base v
  term_clearing_first h i = record { skipping = terms_first v l here k at base h i; ifs = λ w' x. x; part = refl; size = refl }

  more_terms : folded_end ≤ length v → (rest q b p q' b' : ℕ) → (rest ≡ 0 → ⊥) → p ≡ min (q + 1) folded_end → IntSkips (read_part v) l here p b q' b'
      → ifs_int_at (read_part v) l p b ++ terms_ifs (read_part v) (decode_int (read_part v) l here) (ifs_int_at (read_part v) l) (rest - 1) q' b' ≡ terms_ifs (read_part v) (decode_int (read_part v) l here) (ifs_int_at (read_part v) l) rest q b
  unfolding terms_ifs
  more_terms size zero q b p q' b' z e s = absurd (z refl)
  more_terms size (suc rest) q b p q' b' z e s =
      let i : past (read_part v) (q + 1) ≡ p = omega (arith, part_length v size) in
      rw (sub-one, i, ← s.end, ← s.next) refl

  pub term_clearing_next : folded_end ≤ length v → (rest q b p q' b' : ℕ) (w w' : List ℤ) → TermClearing v l k at base rest q b w → (rest ≡ 0 → ⊥) → p ≡ min (q + 1) folded_end → IntClears (read_part w) l p b q' b' w w' → TermClearing v l k at base (rest - 1) q' b' w'
  term_clearing_next size rest q b p q' b' w w' x z e y' =
      let y = int_in l p b q' b' v w w' x.part y' in
      record {
        skipping = terms_next v l here k at base size rest q b p q' b' x.skipping z e y.skips;
        ifs = λ w'' h. x.ifs w'' (cleared_to (more_terms size rest q b p q' b' z e y.skips) (cleared_then y.cleared h));
        part = y.cleared.part ∙ x.part;
        size = y.cleared.size ∙ x.size;
      }

  pub term_clearing_last : (rest q b : ℕ) (w : List ℤ) → TermClearing v l k at base rest q b w → rest ≡ 0 → TermClears (read_part v) l k at base q b v w
  unfolding terms_ifs
  term_clearing_last zero q b w x z = record { skips = terms_last v l here k at base 0 q b x.skipping refl; cleared = x.ifs w (cleared_none w) }
  term_clearing_last (suc rest) q b w x z = absurd (omega arith)

-- ---- one If

module _ (w : List ℤ) (at end base next : ℕ) where
  abbrev place : Place
  place = place_at at end base next

  pub cell_cleared : base < next → set w (cells + (at + 1)) (pos 0) ≡ clear_place place w
  unfolding clear_place
  cell_cleared h = go (next - base) refl
    where
      go : (k : ℕ) → next - base ≡ k → set w (cells + (at + 1)) (pos 0) ≡ cond place.whole w (set w (cells + (at + 1)) (pos 0))
      go zero e = absurd (omega arith)
      go (suc k) e = rw e refl

  pub cell_stays : next ≤ base → w ≡ clear_place place w
  unfolding clear_place
  cell_stays h = let e : next - base ≡ 0 = omega arith in rw e refl

-- ---- a pair

pub pair_none : (w : List ℤ) (p q : ℕ) (b : Bool) → b ≡ has_ifs w → b ≡ false → Cleared (pair_ifs w p q) w w
unfolding pair_ifs
pair_none w p q b h e = rw (← h, e) (cleared_none w)

pub pair_done : (w w' w'' : List ℤ) (p q e d e' d' : ℕ) (b : Bool) → b ≡ has_ifs w → b ≡ true → IntClears (read_part w) 64 p 0 e d w w' → IntClears (read_part w') 64 q 0 e' d' w' w'' → Cleared (pair_ifs w p q) w w''
unfolding pair_ifs
pair_done w w' w'' p q e d e' d' b h i x y = rw (← h, i) (cleared_then x.cleared (int_in 64 q 0 e' d' w w' w'' x.cleared.part y).cleared)
