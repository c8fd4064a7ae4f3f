-- Before each pair of an AllDifferent the cells of its Ifs with split parts are cleared: each pair is split anew, so that such an If is not found again.
use Rattle.std.specs.Prelude.{◌≡◌, Bool, not, cond, List, [], ◌∷◌, ℕ, ◌+◌, ◌≤◌, ◌<◌, ℤ, pos, length, get_or, eqb}
use Rattle.std.proofs.Math.Path.{refl}
use Rattle.std.proofs.Common.{sym, ap, ◌∙◌, inl, inr, arith, length-set, get_or-set_same, get_or-set_other, eqb-true}
use Rattle.std.proofs.Math.Bool.{true, false}
use Rattle.std.proofs.Math.Option.{Option}
use Rattle.std.proofs.lemmas.List.{take-set-le}
use Rattle.std.proofs.lemmas.Bool.{eqb-false}
use Rattle.laws.specs.Bools.{never}
use Rattle.memory.specs.Places.{folded, folded_end, maps_end, cells}
use Rattle.syntax.specs.Syntax.{Domain, IntExpr}
use Rattle.syntax.specs.Words.{min_work_words}
use Rattle.walk.specs.Decode.{read_part}
use Rattle.walks.specs.Tree.{Place}
use Rattle.walks.specs.Item.{has_ifs, cell, unseen, numbered, seen_in}
use Rattle.walks.specs.Distinct.{unseen_numbered}
use Rattle.walks.specs.Meet.{set_cell}
use Rattle.walks.specs.Cells.{word_kept, Off, Stands, Places, off_apart}
use Rattle.walks.specs.KeyAt.{is_parted, parted_here, parted_in}
use Rattle.walks.specs.Next.{Reset, SameMaps}

-- an If with split parts
unfoldable pub clear_place : Place → List ℤ → List ℤ
clear_place p w = cond p.whole w (set_cell (p.at + 1) (pos 0) w)

unfoldable pub clear_places : List Place → List ℤ → List ℤ
clear_places [] w = w
clear_places (p ∷ ps) w = clear_places ps (clear_place p w)

either : {X : Type 0} (P : X → Type 0) (b : Bool) (x y : X) → P x → P y → P (cond b x y)
either P true x y p q = p
either P false x y p q = q

-- ---- nothing else changes

pub data Each (P : Place → Type 0) : List Place → Type 0 where
  none : Each P []
  one : {p : Place} {ps : List Place} → P p → Each P ps → Each P (p ∷ ps)

clear_size : (ps : List Place) (w : List ℤ) → length (clear_places ps w) ≡ length w
unfolding clear_places clear_place
clear_size [] w = refl
clear_size (p ∷ ps) w = clear_size ps (clear_place p w) ∙ either (λ (x : List ℤ). length x ≡ length w) p.whole w _ refl (length-set w (cells + (p.at + 1)) (pos 0))

clear_words : (ps : List Place) (w : List ℤ) → read_part (clear_places ps w) ≡ read_part w
unfolding clear_places clear_place read_part
clear_words [] w = refl
clear_words (p ∷ ps) w = clear_words ps (clear_place p w) ∙ either (λ (x : List ℤ). read_part x ≡ read_part w) p.whole w _ refl (take-set-le folded_end w (cells + (p.at + 1)) (pos 0) (omega arith))

clear_below : {ps : List Place} → Each (λ p. folded ≤ p.at) ps → (w : List ℤ) (q : ℕ) → q < maps_end → get_or (clear_places ps w) q (pos 0) ≡ get_or w q (pos 0)
unfolding clear_places clear_place
clear_below none w q h = refl
clear_below (one {p} {ps} l ls) w q h = clear_below ls (clear_place p w) q h ∙ either (λ (x : List ℤ). get_or x q (pos 0) ≡ get_or w q (pos 0)) p.whole w _ refl (get_or-set_other w (cells + (p.at + 1)) q (pos 0) (pos 0) (λ e. omega arith))

clear_word : {ps : List Place} → Each (λ p. p.at < folded_end) ps → (w : List ℤ) → has_ifs (clear_places ps w) ≡ has_ifs w
unfolding clear_places clear_place
clear_word none w = refl
clear_word (one {p} {ps} l ls) w = clear_word ls (clear_place p w) ∙ either (λ (x : List ℤ). has_ifs x ≡ has_ifs w) p.whole w _ refl (word_kept w (cells + (p.at + 1)) (pos 0) (λ e. omega arith))

-- ---- one place

-- among the folded words, and the slice is long enough
abbrev Low : Place → Type 0
Low p = p.at < folded_end

abbrev Long : List ℤ → Type 0
Long w = min_work_words ≤ length w

cleared : (p : Place) (w : List ℤ) → p.whole ≡ false → Low p → Long w → seen_in (cell (clear_place p w) (p.at + 1)) ≡ unseen
unfolding clear_place cell
cleared p w h r n = rw h (ap seen_in (get_or-set_same w (cells + (p.at + 1)) (pos 0) (pos 0) (omega arith)))

set_away : (w : List ℤ) (a x : ℕ) → (x ≡ a → ⊥) → cell (set_cell a (pos 0) w) x ≡ cell w x
unfolding cell
set_away w a x n = get_or-set_other w (cells + a) (cells + x) (pos 0) (pos 0) (λ e. n (omega arith))

-- elsewhere
away : (p : Place) (w : List ℤ) (x : ℕ) → (x ≡ p.at + 1 → ⊥) → cell (clear_place p w) x ≡ cell w x
unfolding clear_place
away p w x n = either (λ (y : List ℤ). cell y x ≡ cell w x) p.whole w _ refl (set_away w (p.at + 1) x n)

-- a cell is cleared, or stays
stays_or : (p : Place) (w : List ℤ) (x : ℕ) → Low p → Long w → (X : Type 0) → (seen_in (cell (clear_place p w) x) ≡ unseen → X) → (cell (clear_place p w) x ≡ cell w x → X) → X
stays_or p w x r n X a b = go p.whole refl (eqb x (p.at + 1)) refl
  where
    go : (c : Bool) → p.whole ≡ c → (d : Bool) → eqb x (p.at + 1) ≡ d → X
    go true h d e = b (unfold clear_place in rw h refl)
    go false h true e = a (ap (λ y. seen_in (cell (clear_place p w) y)) (eqb-true x (p.at + 1) e) ∙ cleared p w h r n)
    go false h false e = b (away p w x (eqb-false x (p.at + 1) e))

-- ---- all of them

long_more : (p : Place) (w : List ℤ) → Long w → Long (clear_place p w)
unfolding clear_place
long_more p w h = either Long p.whole w _ h (rw length-set h)

each_to : {P Q : Place → Type 0} → ((p : Place) → P p → Q p) → {ps : List Place} → Each P ps → Each Q ps
each_to f none = none
each_to f (one {p} h hs) = one (f p h) (each_to f hs)

-- a number that is there was there
numbered_back : {ps : List Place} (w : List ℤ) → Long w → Each Low ps → (x v : ℕ) (b : Bool) → seen_in (cell (clear_places ps w) x) ≡ numbered v b → seen_in (cell w x) ≡ numbered v b
unfolding clear_places
numbered_back w n none x v b h = h
numbered_back w n (one {p} {ps} r rs) x v b h =
    let k = numbered_back (clear_place p w) (long_more p w n) rs x v b h in
    stays_or p w x r n _ (λ u. unseen_numbered (sym u ∙ k)) (λ e. ap seen_in (sym e) ∙ k)

unseen_stays : {ps : List Place} (w : List ℤ) → Long w → Each Low ps → (x : ℕ) → seen_in (cell w x) ≡ unseen → seen_in (cell (clear_places ps w) x) ≡ unseen
unfolding clear_places
unseen_stays w n none x h = h
unseen_stays w n (one {p} {ps} r rs) x h = unseen_stays (clear_place p w) (long_more p w n) rs x (stays_or p w x r n _ (λ u. u) (λ e. ap seen_in e ∙ h))

-- what is looked up there is unseen
cleared_unseen : {ps : List Place} (w : List ℤ) → Long w → Each Low ps → (q : ℕ) → parted_in ps q ≡ true → seen_in (cell (clear_places ps w) (q + 1)) ≡ unseen
unfolding clear_places parted_in
cleared_unseen w n none q h = never h
cleared_unseen w n (one {p} {ps} r rs) q h = go (is_parted p q) refl (λ k. cleared_unseen (clear_place p w) (long_more p w n) rs q k)
  where
    go : (b : Bool) → is_parted p q ≡ b → (parted_in ps q ≡ true → seen_in (cell (clear_places ps (clear_place p w)) (q + 1)) ≡ unseen) → seen_in (cell (clear_places ps (clear_place p w)) (q + 1)) ≡ unseen
    go true e f =
        let j = parted_here p q e in
        unseen_stays (clear_place p w) (long_more p w n) rs (q + 1) (ap (λ y. seen_in (cell (clear_place p w) (y + 1))) (sym j.0) ∙ cleared p w j.1 r n)
    go false e f = f (rw e at h)

-- ---- as a pair asks it

module _ (ds : List Domain) (F : List ℤ) (Plain : IntExpr → Type 0) (parted : ℕ → Bool) (K L : ℕ → Option IntExpr) (fixed : IntExpr → Bool) (P : Places ds F Plain parted K fixed) where
  -- an If stands at the place, and parted agrees with it
  pub record Lies (p : Place) : Type 0 where
    pub expr : IntExpr
    pub stands : Stands ds F Plain parted K fixed p.at expr
    pub agrees : parted p.at ≡ not p.whole

  stay_one : (p : Place) → Lies p → (w : List ℤ) (q : ℕ) (e : IntExpr) → Stands ds F Plain parted K fixed q e → parted q ≡ false → (k : ℕ) → 1 ≤ k → k ≤ 3 → cell (clear_place p w) (q + k) ≡ cell w (q + k)
  stay_one p l w q e t h k a b = go p.whole refl
    where
      differ : p.whole ≡ false → q ≡ p.at → ⊥
      differ i j = never (sym h ∙ ap parted j ∙ l.agrees ∙ ap not i)

      off_is : Off p.at (q + k) → q + k ≡ p.at + 1 → ⊥
      off_is (inl m) z = omega arith
      off_is (inr m) z = omega arith

      go : (c : Bool) → p.whole ≡ c → cell (clear_place p w) (q + k) ≡ cell w (q + k)
      go true i = unfold clear_place in rw i refl
      go false i = away p w (q + k) (off_is (off_apart ds F Plain parted K fixed P q p.at k e l.expr t l.stands (differ i) a b))

  stay_all : {ps : List Place} → Each Lies ps → (w : List ℤ) (q : ℕ) (e : IntExpr) → Stands ds F Plain parted K fixed q e → parted q ≡ false → (k : ℕ) → 1 ≤ k → k ≤ 3 → cell (clear_places ps w) (q + k) ≡ cell w (q + k)
  unfolding clear_places
  stay_all none w q e t h k a b = refl
  stay_all (one {p} {ps} l ls) w q e t h k a b = stay_all ls (clear_place p w) q e t h k a b ∙ stay_one p l w q e t h k a b

  lies_low : (p : Place) → Lies p → Low p
  lies_low p l = l.stands.high

  pub clear_reset : {ps : List Place} → Each Lies ps → (w : List ℤ) → Long w → Reset ds F Plain parted K L fixed w (clear_places ps w)
  clear_reset ls w h = record {
    stay = λ q e t d k a b. stay_all ls w q e t d k a b;
    split = λ q e v t d x. numbered_back w h (each_to lies_low ls) (q + 1) v true x;
  }

  pub clear_maps : {ps : List Place} → Each Lies ps → (w : List ℤ) → SameMaps ds F Plain parted K L fixed w (clear_places ps w)
  clear_maps {ps} ls w = record {
    low = λ q l. clear_below (each_to (λ p x. x.stands.low) ls) w q l;
    words = clear_words ps w;
    word = clear_word (each_to lies_low ls) w;
    size = clear_size ps w;
  }

  pub clear_unseen : {ps : List Place} → Each Lies ps → (w : List ℤ) → Long w → (q : ℕ) → parted_in ps q ≡ true → seen_in (cell (clear_places ps w) (q + 1)) ≡ unseen
  clear_unseen ls w h q x = cleared_unseen w h (each_to lies_low ls) q x
