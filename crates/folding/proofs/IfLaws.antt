-- What folding of an If asks and gives at each step, over variables. Assumes nothing.
use Prim.Native.Nat.{ℕ, ◌+◌, ◌≤◌, ◌<◌}
use mathlib.Core.Path.{◌≡◌, refl, ap, ◌∙◌}
use mathlib.Core.Bool.{Bool, true, false, cond}
use mathlib.Core.Option.{Option, none, some}
use mathlib.Core.List.{List, [], ◌∷◌, ◌++◌}
use native.Mathlib.Omega.{arith}
use lib.IntN.{ℤ, pos}
use lib.ListN.{length, get_or, set, length-set}
use Rattle.laws.specs.Slices.{has_front, has_back, has_rest, Pushed, pushed_below, pushed_then, pushed_over, Stored, drop_up}
use Rattle.syntax.specs.Words.{max_bools}
use Rattle.syntax.specs.Syntax.{IfIsRead, IntExpr, If, BoolExpr, encode_int, encode_bool}
use Rattle.syntax.specs.Lengths.{int_long}
use Rattle.syntax.specs.Written.{EveryIntOf}
use Rattle.fold.specs.Fold.{is_const, is_value, fold_if, constant_folding_int, constant_folding_bool}
use Rattle.folding.specs.Known.{is_open}
use Rattle.fold.proofs.Kept.{if_length, fold_int_size, fold_size}
use Rattle.folding.specs.Steps.{fixed_in, same_fixed, ReadsInt, ReadyInt, IntPost, Reads, Ready, FoldPost}
use Rattle.folding.proofs.IntLaws.{stored_one, if_inv, int_inside, code_is}
use Rattle.folding.proofs.BoolLaws.{reads_long}

-- one of two places lies where both lie
place : (b : Bool) (x y r low high : ℕ) → r ≡ cond b x y → low ≤ x → x ≤ high → low ≤ y → y ≤ high → (low ≤ r) × (r ≤ high)
place true x y r low high e a b c d = (omega arith, omega arith)
place false x y r low high e a b c d = (omega arith, omega arith)

-- the words of what is picked, by what is known of the condition
picked : (out : List ℤ) (o : ℕ) (m1 m2 : List ℤ) (e2 : ℕ) (m3 : List ℤ) (p e3 : ℕ) (m4 : List ℤ) (q e4 end : ℕ) (s : Option Bool) (i : IfIsRead) (C : BoolExpr) (T E : IntExpr)
    → Pushed out o (pos 23 ∷ []) m1 (o + 1) → Pushed m1 (o + 1) (encode_bool C) m2 e2 → Pushed m2 p (encode_int T) m3 e3 → Pushed m3 q (encode_int E) m4 e4
    → p ≡ cond (is_open s) e2 o → q ≡ cond (is_value false s) o e3 → end ≡ cond (is_value true s) e3 e4 → o ≤ length out → q ≤ length m3
    → (k : Option Bool) → s ≡ k → Pushed out o (encode_int (fold_if k i C T E)) m4 end
unfolding encode_int
picked out o m1 m2 e2 m3 p e3 m4 q e4 end s i C T E w1 w2 w3 w4 hp hq he lo lq none hs =
    let a : p ≡ e2 = hp ∙ rw hs refl in
    let b : q ≡ e3 = hq ∙ rw hs refl in
    let c : end ≡ e4 = he ∙ rw hs refl in
    rw c (pushed_then out o (pos 23 ∷ []) m1 (o + 1) (encode_bool C ++ (encode_int T ++ encode_int E)) m4 e4 w1 (pushed_then m1 (o + 1) (encode_bool C) m2 e2 (encode_int T ++ encode_int E) m4 e4 w2 (pushed_then m2 e2 (encode_int T) m3 e3 (encode_int E) m4 e4 (rw a at w3) (rw b at w4))))
picked out o m1 m2 e2 m3 p e3 m4 q e4 end s i C T E w1 w2 w3 w4 hp hq he lo lq (some true) hs =
    let a : p ≡ o = hp ∙ rw hs refl in
    let b : q ≡ e3 = hq ∙ rw hs refl in
    let c : end ≡ e3 = he ∙ rw hs refl in
    let v = pushed_over out o _ m2 e2 o (encode_int T) m3 e3 (pushed_then out o (pos 23 ∷ []) m1 (o + 1) (encode_bool C) m2 e2 w1 w2) (omega arith) lo (rw a at w3) in
    rw c (record { end = v.end; words = pushed_below m3 e3 (encode_int E) m4 e4 e3 (rw b at w4) (omega arith) (rw b at lq) ∙ v.words })
picked out o m1 m2 e2 m3 p e3 m4 q e4 end s i C T E w1 w2 w3 w4 hp hq he lo lq (some false) hs =
    let a : p ≡ o = hp ∙ rw hs refl in
    let b : q ≡ o = hq ∙ rw hs refl in
    let c : end ≡ e4 = he ∙ rw hs refl in
    let v = pushed_over out o _ m2 e2 o (encode_int T) m3 e3 (pushed_then out o (pos 23 ∷ []) m1 (o + 1) (encode_bool C) m2 e2 w1 w2) (omega arith) lo (rw a at w3) in
    rw c (pushed_over out o (encode_int T) m3 e3 o (encode_int E) m4 e4 v (omega arith) lo (rw b at w4))

module _ (ws : List ℤ) (d at : ℕ) (out : List ℤ) (o : ℕ) (hw : get_or ws at (pos 0) ≡ pos 23) where
  -- the If, and where its parts stand
  the_if : {X : Type 0} (ni : ℕ) (e : IntExpr) → ReadsInt ni ws at e
      → ((i : IfIsRead) (c : BoolExpr) (t f : IntExpr) → e ≡ If i c t f → Reads ni ws (at + 1) c → ReadsInt ni ws (at + 1 + length (encode_bool c)) t → ReadsInt ni ws (at + 1 + length (encode_bool c) + length (encode_int t)) f → X) → X
  unfolding encode_int EveryIntOf
  the_if ni e r go =
      if_inv e (code_is ws d at out o 23 hw ni e r) λ i c t f x.
      let g = rw x at r in
      let h = has_rest ws at (pos 23) (encode_bool c ++ (encode_int t ++ encode_int f)) g.words in
      let k = has_back ws (at + 1) (encode_bool c) (encode_int t ++ encode_int f) h in
      go i c t f x
      (record { words = has_front ws (at + 1) (encode_bool c) (encode_int t ++ encode_int f) h; vars = g.vars.0 })
      (record { words = has_front ws (at + 1 + length (encode_bool c)) (encode_int t) (encode_int f) k; vars = g.vars.1.0 })
      (record { words = has_back ws (at + 1 + length (encode_bool c)) (encode_int t) (encode_int f) k; vars = g.vars.1.1 })

  module _ (m1 : List ℤ) (h1 : m1 ≡ set out o (pos 23)) where
    same_room : length m1 ≡ length out
    same_room = ap length h1 ∙ length-set out o (pos 23)

    pub condition_ready : ReadyInt ws d at out o → Ready ws d (at + 1) m1 (o + 1)
    condition_ready r =
        the_if _ r.it r.reads λ i c t f x rc rt rf.
        let z : o + length (encode_int (If i c t f)) ≤ length out = rw x at r.room in
        let low : max_bools ≤ o = r.low in
        record { ds = r.ds; domains = r.domains; it = c; reads = rc; low = omega arith; room = omega (arith, if_length i c t f, same_room) }

    module _ (m2 : List ℤ) (n2 e2 : ℕ) (s : Option Bool) (p2 : FoldPost ws d (at + 1) m1 (o + 1) m2 n2 e2 s) (l2 : length m2 ≡ length m1) (p : ℕ) (hp : p ≡ cond (is_open s) e2 o) where
      pub then_ready : ReadyInt ws d at out o → ReadyInt ws d n2 m2 p × (at + 1 < n2)
      then_ready r =
          the_if _ r.it r.reads λ i c t f x rc rt rf.
          let z : o + length (encode_int (If i c t f)) ≤ length out = rw x at r.room in
          let low : max_bools ≤ o = r.low in
          let y = p2 r.ds c r.domains rc in
          let n : n2 ≡ at + 1 + length (encode_bool c) = y.nexts in
          let e : e2 ≡ o + 1 + length (encode_bool (constant_folding_bool r.ds (fixed_in m1) c)) = y.pushed.end in
          let b = place (is_open s) e2 o p o (o + 1 + length (encode_bool c)) hp (omega arith) (omega (arith, fold_size r.ds (fixed_in m1) c)) (omega arith) (omega arith) in
          (record { ds = r.ds; domains = r.domains; it = t; reads = rw n rt; low = omega (arith, b.0); room = omega (arith, b.1, if_length i c t f, same_room) }, omega (arith, reads_long _ ws (at + 1) c rc))

      module _ (m3 : List ℤ) (n3 e3 : ℕ) (p3 : IntPost ws d n2 m2 p m3 n3 e3) (l3 : length m3 ≡ length m2) (q : ℕ) (hq : q ≡ cond (is_value false s) o e3) where
        pub else_ready : ReadyInt ws d at out o → ReadyInt ws d n3 m3 q × (at + 1 < n3)
        else_ready r =
            the_if _ r.it r.reads λ i c t f x rc rt rf.
            let z : o + length (encode_int (If i c t f)) ≤ length out = rw x at r.room in
            let low : max_bools ≤ o = r.low in
            let y = p2 r.ds c r.domains rc in
            let n : n2 ≡ at + 1 + length (encode_bool c) = y.nexts in
            let e : e2 ≡ o + 1 + length (encode_bool (constant_folding_bool r.ds (fixed_in m1) c)) = y.pushed.end in
            let b = place (is_open s) e2 o p o (o + 1 + length (encode_bool c)) hp (omega arith) (omega (arith, fold_size r.ds (fixed_in m1) c)) (omega arith) (omega arith) in
            let y' = p3 r.ds t r.domains (rw n rt) in
            let n' : n3 ≡ n2 + length (encode_int t) = y'.nexts in
            let n'' : n3 ≡ at + 1 + length (encode_bool c) + length (encode_int t) = omega arith in
            let e' : e3 ≡ p + length (encode_int (constant_folding_int r.ds (fixed_in m2) t)) = y'.pushed.end in
            let b' = place (is_value false s) o e3 q o (p + length (encode_int t)) hq (omega arith) (omega (arith, b.0)) (omega (arith, b.0)) (omega (arith, fold_int_size r.ds (fixed_in m2) t)) in
            (record { ds = r.ds; domains = r.domains; it = f; reads = rw n'' rf; low = omega (arith, b'.0); room = omega (arith, b.1, b'.1, if_length i c t f, same_room) }, omega (arith, int_long t))

        pub if_folds : (m4 : List ℤ) (n4 e4 : ℕ) → IntPost ws d n3 m3 q m4 n4 e4 → (end : ℕ) → end ≡ cond (is_value true s) e3 e4 → ReadyInt ws d at out o → IntPost ws d at out o m4 n4 end
        unfolding constant_folding_int
        if_folds m4 n4 e4 p4 end he rd ds e hd r =
            the_if _ e r λ i c t f x rc rt rf.
            let low : max_bools ≤ o = rd.low in
            let lo : o + 2 ≤ length out = (int_inside ws d at out o rd).1 in
            let lp : p ≤ length m2 = omega (arith, (then_ready rd).0.room) in
            let lq : q ≤ length m3 = omega (arith, (else_ready rd).0.room) in
            let w1 : Stored out o (pos 23 ∷ []) m1 (o + 1) = rw h1 (stored_one out o (pos 23) (omega arith)) in
            let f1 : fixed_in m1 ≡ fixed_in out = same_fixed out m1 (pushed_below out o (pos 23 ∷ []) m1 (o + 1) max_bools w1.pushed low (omega arith)) in
            let C = constant_folding_bool ds (fixed_in out) c in
            let T = constant_folding_int ds (fixed_in out) t in
            let E = constant_folding_int ds (fixed_in out) f in
            let y2 = p2 ds c hd rc in
            let n : n2 ≡ at + 1 + length (encode_bool c) = y2.nexts in
            let w2 : Pushed m1 (o + 1) (encode_bool C) m2 e2 = rw f1 at y2.pushed in
            let s2 : s ≡ is_const C = rw f1 at y2.states in
            let g2 : e2 ≡ o + 1 + length (encode_bool C) = w2.end in
            let f2 : fixed_in m2 ≡ fixed_in out = same_fixed m1 m2 (pushed_below m1 (o + 1) (encode_bool C) m2 e2 max_bools w2 (omega arith) (omega (arith, same_room))) ∙ f1 in
            let b = place (is_open s) e2 o p o (o + 1 + length (encode_bool c)) hp (omega arith) (omega (arith, fold_size ds (fixed_in out) c)) (omega arith) (omega arith) in
            let y3 = p3 ds t hd (rw n rt) in
            let n' : n3 ≡ n2 + length (encode_int t) = y3.nexts in
            let n'' : n3 ≡ at + 1 + length (encode_bool c) + length (encode_int t) = omega arith in
            let w3 : Pushed m2 p (encode_int T) m3 e3 = rw f2 at y3.pushed in
            let g3 : e3 ≡ p + length (encode_int T) = w3.end in
            let f3 : fixed_in m3 ≡ fixed_in out = same_fixed m2 m3 (pushed_below m2 p (encode_int T) m3 e3 max_bools w3 (omega (arith, b.0)) lp) ∙ f2 in
            let b' = place (is_value false s) o e3 q o (p + length (encode_int t)) hq (omega arith) (omega (arith, b.0)) (omega (arith, b.0)) (omega (arith, fold_int_size ds (fixed_in out) t)) in
            let y4 = p4 ds f hd (rw n'' rf) in
            let n4' : n4 ≡ n3 + length (encode_int f) = y4.nexts in
            let w4 : Pushed m3 q (encode_int E) m4 e4 = rw f3 at y4.pushed in
            let L = o + length (encode_int (If i c t f)) in
            rw x (record {
              nexts = omega (arith, if_length i c t f);
              pushed = picked out o m1 m2 e2 m3 p e3 m4 q e4 end s i C T E w1.pushed w2 w3 w4 hp hq he (omega arith) lq (is_const C) s2;
              above = drop_up (q + length (encode_int f)) L m4 m3 y4.above (omega (arith, b.1, b'.1, if_length i c t f))
                  ∙ drop_up (p + length (encode_int t)) L m3 m2 y3.above (omega (arith, b.1, if_length i c t f))
                  ∙ drop_up (o + 1 + length (encode_bool c)) L m2 m1 y2.above (omega (arith, if_length i c t f))
                  ∙ drop_up (o + 1) L m1 out w1.above (omega (arith, if_length i c t f));
            })
