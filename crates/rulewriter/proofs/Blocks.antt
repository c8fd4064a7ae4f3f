-- Blocks: what Ifs add, then the clauses.
use mathlib.Core.Path.{◌≡◌, refl, sym, ◌∙◌, subst}
use mathlib.Core.Bool.{true, false}
use mathlib.Core.List.{List, [], ◌∷◌, append-nil}
use Prim.Native.Nat.{ℕ, ◌+◌, ◌≤◌}
use native.Mathlib.Omega.{arith}
use lib.IntN.{ℤ}
use lib.ListN.{length}
use Rattle.laws.specs.Writes.{cap, Wrote, wrote_then, Open}
use Rattle.memory.specs.Places.{limit}
use Rattle.walk.specs.Item.{bump, lines_of, word_of}
use Rattle.walk.specs.declared.Counters.{Counters}
use Rattle.walks.specs.Form.{Form}
use Rattle.walks.specs.Item.{has_ifs, Item, counts, tied_item, form_item}
use Rattle.walks.specs.Off.{form_off}
use Rattle.walks.specs.Written.{written, written_lines}
use Rattle.scan.specs.IfLaws.{Low}
use Rattle.rulewriter.specs.declared.Added.{Added}
use Rattle.rulewriter.specs.Making.{Puts, Listed}
use Rattle.rulewriter.proofs.Registered.{puts_both}

-- without Ifs nothing is added
pub puts_off : (w : List ℤ) (t : Form) (n : Counters) {out : List ℤ} {o : ℕ} (r : Added) → has_ifs w ≡ false → Puts [] 0 out o out r → Puts ((form_item [] t).reg w n) ((form_item [] t).lines w n) out o out r
puts_off w t n r off x = let f = form_off w off [] t in rw (f.reg n, f.lines n) x

module _ (w : List ℤ) (v : ℕ) (n k : Counters) where
  pub tie_off : (t u : Form) {out : List ℤ} {o : ℕ} (r : Added) → has_ifs w ≡ false → Puts [] 0 out o out r → Puts ((tied_item v (form_item [] t) (form_item [] u)).reg w n) ((tied_item v (form_item [] t) (form_item [] u)).lines w n) out o out r
  unfolding tied_item
  tie_off t u r off x =
      let f = form_off w off [] t in
      let g = form_off w off [] u in
      rw (f.reg n, f.lines n, g.reg ((form_item [] t).count w n), g.lines ((form_item [] t).count w n)) x

  pub tie_puts : (i j : Item) {out a b : List ℤ} {o : ℕ} (x y r : Added) → k ≡ i.count w n → Open out o → Puts (i.reg w n) (i.lines w n) out o a x → Puts (j.reg w k) (j.lines w k) a x.o b y → (r.lines ≡ bump x.lines y.lines) × (r.o ≡ y.o)
      → Puts ((tied_item v i j).reg w n) ((tied_item v i j).lines w n) out o b r
  unfolding tied_item
  tie_puts i j x y r hk h f g e = puts_both x y r h f (rw hk at g) e

no_more : (a : ℕ) → a ≤ limit → a ≡ bump a 0
no_more a h = omega arith

-- the block of one item, from its parts
pub block_listed : (w : List ℤ) (i : Item) (n m : Counters) (k l : ℕ) {out a b : List ℤ} {o p : ℕ} (x : Added) → Open out o → Puts (i.reg w n) (i.lines w n) out o a x → Wrote a x.o (i.text w n []) b p → m ≡ i.count w n → Low m → l ≡ lines_of i.unit → k ≡ bump x.lines l
    → Listed w (i ∷ []) n out o b m k p
unfolding written written_lines counts
block_listed w i n m k l {out} {a} {b} {o} {p} x h f g c low hl hk = record {
  wrote = subst (λ (us : List ℤ). Wrote out o us b p) (sym (append-nil _)) (wrote_then h.room f.wrote g);
  count = c;
  lines = hk ∙ rw (f.lines, hl) (no_more _ (omega arith));
  low = low;
}

-- of a tie
pub tied_text : (w : List ℤ) (v : ℕ) (i j : Item) (n k : Counters) (s z : List ℤ) {out a b : List ℤ} {o p q : ℕ} → k ≡ i.count w n → s ≡ word_of (v + 1) true ∷ [] → z ≡ word_of (v + 1) false ∷ [] → length out ≤ cap
    → Wrote out o (i.text w n s) a p → Wrote a p (j.text w k z) b q → Wrote out o ((tied_item v i j).text w n []) b q
unfolding tied_item
tied_text w v i j n k s z {out} {a} {b} {o} {p} {q} hk hs hz l x y = wrote_then {out = out} l (rw hs at x) (rw (hk, hz) at y)

pub tied_lines : (v : ℕ) (i j : Item) (x y l : ℕ) → x ≡ lines_of i.unit → y ≡ lines_of j.unit → l ≡ bump x y → l ≡ lines_of (tied_item v i j).unit
unfolding tied_item lines_of
tied_lines v i j x y l e f g = g ∙ rw (e, f) refl

pub tied_count : (w : List ℤ) (v : ℕ) (i j : Item) (n k m : Counters) → k ≡ i.count w n → m ≡ j.count w k → m ≡ (tied_item v i j).count w n
unfolding tied_item
tied_count w v i j n k m e f = rw e at f

-- what Ifs add to a tie does not depend on its number
pub tied_puts : (u v : ℕ) (i j : Item) (w : List ℤ) (n : Counters) {out a : List ℤ} {o : ℕ} {r : Added} → Puts ((tied_item u i j).reg w n) ((tied_item u i j).lines w n) out o a r → Puts ((tied_item v i j).reg w n) ((tied_item v i j).lines w n) out o a r
unfolding tied_item
tied_puts u v i j w n x = x
