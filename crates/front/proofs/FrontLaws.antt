-- What holds of the definitions of specs/Front.
use Rattle.std.specs.Prelude.{◌≡◌, refl, List, [], ◌∷◌, ◌++◌, map, ℕ, zero, suc, ◌+◌, ◌≤◌, ◌<◌, ℤ, pos, get_or}
use Rattle.std.proofs.Common.{ap, ◌∙◌, append_assoc, arith}
use Rattle.laws.specs.Lists.{from, below}
use Rattle.memory.specs.Places.{bool_map, int_map}
use Rattle.memory.specs.Number.{nat}
use Rattle.syntax.specs.Words.{max_bools}
use Rattle.fold.specs.Fold.{Fixed}
use Rattle.answer.specs.Answer.{fixed_word}
use Rattle.walk.specs.Item.{bool_at, int_entry}
use Rattle.walk.specs.declared.Counters.{Counters}
use Rattle.front.specs.Front.{copied, front_words, naturals}

copied_map : (w : List ℤ) (a i n : ℕ) → copied w (a + i) n ≡ map (λ v. get_or w (a + v) (pos 0)) (from i n)
unfolding copied
copied_map w a i zero = refl
copied_map w a i (suc n) =
    let e : suc (a + i) ≡ a + suc i = omega arith in
    ap (λ (l : List ℤ). get_or w (a + i) (pos 0) ∷ l) (ap (λ (k : ℕ). copied w k n) e ∙ copied_map w a (suc i) n)

naturals_map : (w : List ℤ) (a i n : ℕ) → naturals w (a + i) n ≡ map (λ v. pos (nat (get_or w (a + v) (pos 0)))) (from i n)
unfolding naturals
naturals_map w a i zero = refl
naturals_map w a i (suc n) =
    let e : suc (a + i) ≡ a + suc i = omega arith in
    ap (λ (l : List ℤ). pos (nat (get_or w (a + i) (pos 0))) ∷ l) (ap (λ (k : ℕ). naturals w k n) e ∙ naturals_map w a (suc i) n)

fixed_copied : (f : Fixed) (w : List ℤ) (i n : ℕ) → ((v : ℕ) → v < i + n → get_or w v (pos 0) ≡ fixed_word (f v)) → copied w i n ≡ map fixed_word (map f (from i n))
unfolding copied
fixed_copied f w i zero h = refl
fixed_copied f w i (suc n) h = rw (h i (omega arith), fixed_copied f w (suc i) n (λ v k. h v (omega arith))) refl

-- f: the fixed values; ws: what stands behind them
pub front_is : (f : Fixed) (w : List ℤ) (bools ints : ℕ) (c : Counters) (ws : List ℤ) → bools ≤ max_bools → ((v : ℕ) → v < max_bools → get_or w v (pos 0) ≡ fixed_word (f v))
    → front_words w bools ints c ++ ws ≡ map fixed_word (map f (below bools)) ++ (map (bool_at w) (below bools) ++ (map (λ v. pos (int_entry w v)) (below ints) ++ (pos c.bools ∷ pos c.ints ∷ ws)))
unfolding bool_at int_entry
front_is f w bools ints c ws l h =
    let x : List ℤ = copied w 0 bools in
    let y : List ℤ = copied w bool_map bools in
    let z : List ℤ = naturals w int_map ints in
    let t : List ℤ = pos c.bools ∷ pos c.ints ∷ [] in
    let a : x ≡ map fixed_word (map f (below bools)) = fixed_copied f w 0 bools (λ v k. h v (omega arith)) in
    let b : y ≡ map (λ v. get_or w (bool_map + v) (pos 0)) (below bools) = copied_map w bool_map 0 bools in
    let d : z ≡ map (λ v. pos (nat (get_or w (int_map + v) (pos 0)))) (below ints) = naturals_map w int_map 0 ints in
    append_assoc (x ++ (y ++ z)) t ws ∙ append_assoc x (y ++ z) (t ++ ws) ∙ ap (λ (u : List ℤ). x ++ u) (append_assoc y z (t ++ ws)) ∙ rw (a, b, d) refl
