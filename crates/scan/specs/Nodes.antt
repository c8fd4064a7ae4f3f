-- What the words at a place ask: where the parts lie, and one level of the decoder.
use Rattle.std.specs.Prelude.{◌≡◌, refl, Bool, true, false, cond, List, ℕ, zero, suc, ◌+◌, ◌-◌, ◌≤◌, ◌<◌, min, ℤ, pos, length, eqb, ltb}
use Rattle.std.proofs.Common.{arith, ltb-true, ltb-false}
use Rattle.std.proofs.Math.ListN.{get_or-eq_default}
use Rattle.memory.specs.Places.{folded_end}
use Rattle.memory.specs.Number.{nat}
use Rattle.syntax.specs.Words.{max_bools}
use Rattle.walk.specs.Decode.{word, read_part}
use Rattle.walk.proofs.Steps.{below_lt}
use Rattle.walk.specs.declared.Node.{Node}
use Rattle.walk.specs.declared.Node.TheVariants.{Var, Cmp, Not, Join, Cross}
use Rattle.walk.proofs.NumberingSteps.{part_length}
use Rattle.walks.specs.Tree.{Splitting}
use Rattle.walks.specs.Decode.{node_of, step, int_step, decode, decode_int}

-- what follows lies further on; members need words
abbrev pub Okay : List ℤ → ℕ → Node → Type 0
Okay ws at (Var v q) = (at < q) × (q ≤ length ws) × (v < max_bools)
Okay ws at (Cmp o q) = (at < q) × (q ≤ length ws)
Okay ws at (Not q) = (at < q) × (q ≤ length ws)
Okay ws at (Join d k g h q) = (at ≤ q) × (q ≤ length ws) × (min k 1 ≤ q - at) × (d ≡ false → at < q)
Okay ws at (Cross h q) = (at < q) × (q ≤ length ws)

either : (P : Node → Type 0) (b : Bool) (x y : Node) → P x → P y → P (cond b x y)
either P true x y p q = p
either P false x y p q = q

no_false : {X : Type 0} → ◌≡◌ {A = Bool} true false → X
no_false e = absurd (let z : ◌≡◌ {A = ℕ} 0 1 = cc in omega arith)

no_word : (ws : List ℤ) (at : ℕ) → length ws ≤ at → word ws at ≡ 0
unfolding word nat
no_word ws at h = rw (get_or-eq_default ws (pos 0) h)

node_out : (ws : List ℤ) (g : Bool) (at : ℕ) → at ≤ length ws → length ws ≤ at → Okay ws at (node_of ws g at (word ws at))
unfolding node_of
node_out ws g at h o = rw (no_word ws at o) (omega arith, omega arith, omega arith, no_false)

node_in : (ws : List ℤ) (g : Bool) (at k : ℕ) → at < length ws → Okay ws at (node_of ws g at k)
unfolding node_of
node_in ws g at k i =
    let P = Okay ws at in
    let x = word ws (at + 1) in
    either P (eqb k 10) _ _ (omega arith, omega arith, omega arith, λ e. omega arith)
    (either P (eqb k 11) _ _ (omega arith, omega arith, below_lt max_bools x (omega arith))
    (either P (eqb k 12) _ _ (omega arith, omega arith, omega arith, λ e. omega arith)
    (either P (eqb k 13) _ _ (omega arith, omega arith, omega arith, λ e. omega arith)
    (either P (eqb k 14) _ _ (omega arith, omega arith)
    (either P (eqb k 15) _ _ (omega arith, omega arith)
    (either P (eqb k 16) _ _ (omega arith, omega arith)
    (either P (eqb k 17) _ _ (omega arith, omega arith, omega arith, λ e. omega arith)
    (either P (eqb k 18) _ _ (omega arith, omega arith)
    (omega arith, omega arith, omega arith, λ e. omega arith)))))))))

node_okay : (ws : List ℤ) (g : Bool) (at : ℕ) → at ≤ length ws → Okay ws at (node_of ws g at (word ws at))
node_okay ws g at h = go (ltb at (length ws)) refl
  where
    go : (t : Bool) → ltb at (length ws) ≡ t → Okay ws at (node_of ws g at (word ws at))
    go true e = node_in ws g at (word ws at) (ltb-true at (length ws) e)
    go false e = node_out ws g at h (ltb-false at (length ws) e)

pub okay_at : (w : List ℤ) (g : Bool) (at : ℕ) (N : Node) → folded_end ≤ length w → at ≤ folded_end → N ≡ node_of (read_part w) g at (word (read_part w) at) → Okay (read_part w) at N
okay_at w g at N h i e = rw (← e) at (node_okay (read_part w) g at (omega (arith, part_length w h)))

pub level : (ws : List ℤ) (l u : ℕ) (m : Splitting) (g : Bool) (at n : ℕ) (N : Node) → (l ≡ 0 → ⊥) → u ≡ l - 1 → N ≡ node_of ws g at (word ws at) → decode ws l m g at n ≡ step (decode ws u) (decode_int ws u) m g n N
unfolding decode
level ws zero u m g at n N z hu e = absurd (z refl)
level ws (suc l) u m g at n N z hu e = let i : u ≡ l = omega arith in rw (e, i)

pub int_level : (ws : List ℤ) (l u : ℕ) (m : Splitting) (at n k : ℕ) → (l ≡ 0 → ⊥) → u ≡ l - 1 → k ≡ word ws at → decode_int ws l m at n ≡ int_step ws (decode ws u) (decode_int ws u) m at n k
unfolding decode
int_level ws zero u m at n k z hu e = absurd (z refl)
int_level ws (suc l) u m at n k z hu e = let i : u ≡ l = omega arith in rw (e, i)
