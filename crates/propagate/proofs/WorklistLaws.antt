-- Steps of single statements between the passes, over variables: any number of them leads to the same end. Assumes nothing.
use Prim.Native.Nat.{ℕ, zero, suc, ◌+◌, ◌-◌, ◌≤◌, ◌<◌}
use mathlib.Core.Path.{◌≡◌, refl, sym, ap, ◌∙◌, subst}
use mathlib.Core.Bool.{Bool, true, false}
use mathlib.Core.List.{List, [], ◌∷◌, ◌++◌, map}
use native.Mathlib.Omega.{arith}
use lib.Dec.{eqb, ltb}
use borrow.Author.Tests.{eqb-true, eqb-false, ltb-true, ltb-false}
use lib.IntN.{ℤ, pos, negsuc}
use lib.ListN.{length, replicate, take, drop, get_or, set, length-append}
use lib.Seq.{set_out, get_or-take, get_or-set_same, get_or-set_other}
use Rattle.laws.specs.Lists.{flat}
use Rattle.laws.specs.Ints.{pos_eq}
use Rattle.laws.specs.Slices.{has_front, has_back, Pushed, pushed_below, pushed_has, drop_up}
use Rattle.syntax.specs.Words.{max_bools}
use Rattle.syntax.specs.Syntax.{Domain, Stmt, encode_stmt}
use Rattle.fold.specs.Fold.{Fixed, constant_folding_stmt}
use Rattle.fold.specs.Optimize.{Status, unsatisfiable, updated, Outcome, inconsistent, passes}
use Rattle.fold.proofs.Refold.{Extends}
use Rattle.fold.proofs.Ahead.{prop_stmt, Below, NoRest, step_below, step_none, passes_ahead, passes_none}
use Rattle.fold.proofs.Ends.{opens_extends}
use Rattle.fold.proofs.Kept.{fold_stmt_size}
use Rattle.folding.specs.Steps.{fixed_in}
use Rattle.memory.specs.Number.{nat}
use Rattle.domains.specs.Declared.{Domains}
use Rattle.passes.specs.Want.{status_num, Values, Propagates}
use Rattle.passes.specs.Statements.{DeclaredStmts, ReadsStmt, ReadsStmts, StmtPost, StandsStmt, PropStmtPost}
use Rattle.propagate.specs.Passes.{stmts_every, stmt_kept, open_count}
use Rattle.propagate.specs.Optimized.{outcome, ReadyPasses, Settles}
use Rattle.propagate.specs.Worklist.{Only, Place, PlaceIn, Places, ReadyStep, StepsTo, StepPost, NextPost, Advanced, WorklistPost, ReadyWorklist, Moves, AfterPost}
use Rattle.propagate.proofs.PassLaws.{values_fixed, Going, Between}

-- ---- numbers kept in arrays

pub number_at : (z : ℤ) (n : ℕ) → n ≡ nat z → (n ≡ 0 → ⊥) → z ≡ pos n
unfolding nat
number_at (pos n) m e z = ap pos (sym e)
number_at (negsuc n) m e z = absurd (z e)

pub only_set : (n : ℕ) (a b : List ℤ) (i : ℕ) → b ≡ set a i (pos n) → Only n a b
only_set n a b i e = record { others = λ j p z k h. go j p z k h (eqb j i) (ltb i (length a)) refl refl }
  where
    go : (j p : ℕ) → (p ≡ 0 → ⊥) → (p ≡ n → ⊥) → get_or b j (pos 0) ≡ pos p → (t u : Bool) → eqb j i ≡ t → ltb i (length a) ≡ u → get_or a j (pos 0) ≡ pos p
    go j p z k h true false q l = sym (ap (λ (x : List ℤ). get_or x j (pos 0)) (set_out a i (pos n) (ltb-false i (length a) l))) ∙ (rw e at h)
    go j p z k h false u q l = sym (get_or-set_other a i j (pos n) (pos 0) (eqb-false j i q)) ∙ (rw e at h)
    go j p z k h true true q l =
        let ji : j ≡ i = eqb-true j i q in
        let s : get_or (set a i (pos n)) j (pos 0) ≡ pos n = rw ji (get_or-set_same a i (pos n) (pos 0) (ltb-true i (length a) l)) in
        let w : get_or (set a i (pos n)) j (pos 0) ≡ pos p = rw e at h in
        absurd (k (pos_eq _ _ _ w s))

-- ---- places

module _ (ws : List ℤ) (at n : ℕ) where
  places_only : (m : ℕ) (a b : List ℤ) → Only m a b → ((m ≡ 0 → ⊥) → PlaceIn ws at n m) → Places ws at n a → Places ws at n b
  places_only m a b o pm pa = record { each = λ i p z h. go i p z h (eqb p m) refl }
    where
      go : (i p : ℕ) → (p ≡ 0 → ⊥) → get_or b i (pos 0) ≡ pos p → (t : Bool) → eqb p m ≡ t → PlaceIn ws at n p
      go i p z h true q = let e : p ≡ m = eqb-true p m q in subst (λ (k : ℕ). PlaceIn ws at n k) (sym e) (pm (λ y. z (e ∙ y)))
      go i p z h false q = pa.each i p z (o.others i p z (eqb-false p m q) h)

front_reads : (ni : ℕ) (ws : List ℤ) (at n : ℕ) (front : List Stmt) (s : Stmt) (back : List Stmt) → ReadsStmts ni ws at n (front ++ (s ∷ back)) → ReadsStmt ni ws (at + length (flat (map encode_stmt front))) s
unfolding DeclaredStmts
front_reads ni ws at n [] s back r = let z : at + 0 ≡ at = omega arith in rw z (record { words = has_front ws at (encode_stmt s) (flat (map encode_stmt back)) r.words; vars = r.vars.0 })
front_reads ni ws at n (x ∷ front) s back r =
    let k : n ≡ suc (length (front ++ (s ∷ back))) = r.size in
    let g : ReadsStmt ni ws (at + length (encode_stmt x) + length (flat (map encode_stmt front))) s = front_reads ni ws (at + length (encode_stmt x)) (n - 1) front s back (record { words = has_back ws at (encode_stmt x) (flat (map encode_stmt (front ++ (s ∷ back)))) r.words; vars = r.vars.1; size = omega arith }) in
    let e : at + length (encode_stmt x ++ flat (map encode_stmt front)) ≡ at + length (encode_stmt x) + length (flat (map encode_stmt front)) = omega (arith, length-append (encode_stmt x) (flat (map encode_stmt front))) in
    rw e g

front_size : (front : List Stmt) (s : Stmt) (back : List Stmt) → length (encode_stmt s) ≤ length (flat (map encode_stmt (front ++ (s ∷ back))))
front_size [] s back = omega (arith, length-append (encode_stmt s) (flat (map encode_stmt back)))
front_size (x ∷ front) s back = omega (arith, front_size front s back, length-append (encode_stmt x) (flat (map encode_stmt (front ++ (s ∷ back)))))

module _ (ni : ℕ) (ws : List ℤ) (at n : ℕ) (ss : List Stmt) (p : ℕ) (x : Place at ss p) where
  place_reads : ReadsStmts ni ws at n ss → ReadsStmt ni ws p x.it
  place_reads r = rw x.is (front_reads ni ws at n x.front x.it x.back (rw x.split at r))

  place_size : length (encode_stmt x.it) ≤ length (flat (map encode_stmt ss))
  place_size = rw x.split (front_size x.front x.it x.back)

-- the first i statements end at p
pub record Reach (at : ℕ) (ss : List Stmt) (i p : ℕ) : Type 0 where
  pub front : List Stmt
  pub back : List Stmt
  pub split : ss ≡ front ++ back
  pub many : i ≡ length front
  pub is : p ≡ at + length (flat (map encode_stmt front))

one_more : (front : List Stmt) (s : Stmt) (back : List Stmt) → (front ++ (s ∷ back) ≡ (front ++ (s ∷ [])) ++ back) × (length (front ++ (s ∷ [])) ≡ suc (length front)) × (length (flat (map encode_stmt (front ++ (s ∷ [])))) ≡ length (flat (map encode_stmt front)) + length (encode_stmt s))
one_more [] s back = (refl, refl, omega (arith, length-append (encode_stmt s) []))
one_more (x ∷ front) s back =
    let r = one_more front s back in
    (ap (λ (l : List Stmt). x ∷ l) r.0, ap suc r.1, omega (arith, r.2, length-append (encode_stmt x) (flat (map encode_stmt (front ++ (s ∷ [])))), length-append (encode_stmt x) (flat (map encode_stmt front))))

module _ (ws : List ℤ) (at n : ℕ) where
  abbrev pub Reached : ℕ → ℕ → Type 0
  Reached i p = (ds : List Domain) (ss : List Stmt) → Domains ws 2 ds → ReadsStmts (length ds) ws at n ss → Reach at ss i p

  reached_none : Reached 0 at
  reached_none ds ss hd r = record { front = []; back = ss; split = refl; many = refl; is = omega arith }

  module _ (i p : ℕ) (l : i < n) (h : Reached i p) where
    reach_inv : {X : Type 0} (ds : List Domain) (ss : List Stmt) → Domains ws 2 ds → ReadsStmts (length ds) ws at n ss → ((front : List Stmt) (s : Stmt) (back : List Stmt) → ss ≡ front ++ (s ∷ back) → i ≡ length front → p ≡ at + length (flat (map encode_stmt front)) → X) → X
    reach_inv {X} ds ss hd r go = let x = h ds ss hd r in pick x.front x.back x.split x.many x.is
      where
        pick : (front back : List Stmt) → ss ≡ front ++ back → i ≡ length front → p ≡ at + length (flat (map encode_stmt front)) → X
        pick front [] e m k = absurd (let z : n ≡ length ss = r.size in omega (arith, ap length e, length-append front []))
        pick front (s ∷ back) e m k = go front s back e m k

    reached_place : PlaceIn ws at n p
    reached_place ds ss hd r = reach_inv ds ss hd r λ front s back e m k. record { front = front; it = s; back = back; split = e; is = k }

    reached_next : (next : ℕ) → NextPost ws p next → Reached (i + 1) next
    reached_next next q ds ss hd r =
        reach_inv ds ss hd r λ front s back e m k.
        let o = one_more front s back in
        let z : next ≡ p + length (encode_stmt s) = q ds s hd (place_reads (length ds) ws at n ss p (record { front = front; it = s; back = back; split = e; is = k }) r) in
        record { front = front ++ (s ∷ []); back = back; split = e ∙ o.0; many = omega (arith, o.1); is = omega (arith, o.2) }

-- ---- `step`

place_ready : (ws : List ℤ) (at n : ℕ) (out : List ℤ) (p : ℕ) → PlaceIn ws at n p → ReadyPasses ws at n out → ReadyStep ws p out
place_ready ws at n out p h rp =
    let r = rp.ready in
    let x = h r.ds r.them r.domains r.reads in
    record {
      fixed = rp.fixed;
      values = rp.values;
      ready = record { ds = r.ds; domains = r.domains; it = x.it; reads = place_reads (length r.ds) ws at n r.them p x r.reads; low = omega arith; room = omega (arith, r.room, place_size (length r.ds) ws at n r.them p x) };
    }

module _ (ws : List ℤ) (at : ℕ) (out mid : List ℤ) (next end : ℕ) (q : StmtPost ws 2 at out max_bools mid next end) (l : length mid ≡ length out) where
  -- the folded statement stands above the fixed values, which are kept
  record StandsFolded (ni : ℕ) (f : Fixed) (F : Stmt) (size : ℕ) : Type 0 where
    pub values : Values mid f
    pub reads : ReadsStmt ni mid max_bools F
    pub fits : end ≤ max_bools + size
    pub above : drop (max_bools + size) mid ≡ drop (max_bools + size) out

  stands_folded : (ds : List Domain) (s : Stmt) (f : Fixed) → Domains ws 2 ds → ReadsStmt (length ds) ws at s → max_bools + length (encode_stmt s) ≤ length out → Values out f → StandsFolded (length ds) f (constant_folding_stmt ds f s) (length (encode_stmt s))
  stands_folded ds s f hd r room vs =
      let lo : max_bools ≤ length out = omega arith in
      let y = q ds s hd r in
      let e : fixed_in out ≡ f = values_fixed out f vs lo in
      let w : Pushed out max_bools (encode_stmt (constant_folding_stmt ds f s)) mid end = rw e at y.pushed in
      let en : end ≡ max_bools + length (encode_stmt (constant_folding_stmt ds f s)) = w.end in
      let sz = fold_stmt_size ds f s in
      let t : take max_bools mid ≡ take max_bools out = pushed_below out max_bools _ mid end max_bools w (omega arith) lo in
      record {
        values = record { cells = λ v h. sym (get_or-take max_bools mid v (pos 0) h) ∙ ap (λ k. get_or k v (pos 0)) t ∙ get_or-take max_bools out v (pos 0) h ∙ vs.cells v h; others = vs.others };
        reads = record { words = pushed_has out max_bools _ mid end w lo (omega arith); vars = stmt_kept max_bools (length ds) ds f s r.vars };
        fits = omega arith;
        above = y.above;
      }

  pub step_stands : ReadyStep ws at out → StandsStmt mid max_bools
  step_stands rs =
      let r = rs.ready in
      let g = stands_folded r.ds r.it rs.fixed r.domains r.reads r.room rs.values in
      record { fixed = rs.fixed; values = g.values; ints = length r.ds; it = constant_folding_stmt r.ds rs.fixed r.it; reads = g.reads; low = omega arith }

  pub stepped : (out' : List ℤ) (next' status : ℕ) → PropStmtPost mid max_bools out' next' status → StepPost ws at out out' end status × NextPost ws at next
  stepped out' next' status pp = (
    λ ds s f hd r room vs.
        let g = stands_folded ds s f hd r room vs in
        let m = pp (length ds) f (constant_folding_stmt ds f s) g.values g.reads (omega arith) in
        record {
          fits = g.fits;
          folded = mid;
          props = m.props;
          above = drop_up max_bools (max_bools + length (encode_stmt s)) out' mid m.props.high (omega arith) ∙ g.above;
        },
    λ ds s hd r. (q ds s hd r).nexts,
  )

step_fits : (ws : List ℤ) (at : ℕ) (out out' : List ℤ) (end status : ℕ) → ReadyStep ws at out → StepPost ws at out out' end status → length out' ≡ length out → end ≤ length out'
step_fits ws at out out' end status s q l =
    let k = s.ready in
    omega (arith, (q k.ds k.it s.fixed k.domains k.reads k.room s.values).fits, k.room)

-- ---- any number of steps

module _ (ws : List ℤ) (at n : ℕ) where
  advanced_none : (out : List ℤ) (status : ℕ) → (status ≡ 2 → ⊥) → WorklistPost ws at n out out status
  advanced_none out status h ds ss f hd r room vs = record { now = f; values = vs; ahead = λ k. (λ v b e. e, λ g e a. e); no_rest = λ k. absurd (h k); above = refl }

  advanced_then : (out mid out' : List ℤ) (a b : ℕ) → (a ≡ 2 → ⊥) → length mid ≡ length out → WorklistPost ws at n out mid a → WorklistPost ws at n mid out' b → WorklistPost ws at n out out' b
  advanced_then out mid out' a b na l p q ds ss f hd r room vs =
      let x = p ds ss f hd r room vs in
      let y = q ds ss x.now hd r (omega arith) x.values in
      let xe = x.ahead na in
      record {
        now = y.now;
        values = y.values;
        ahead = λ nb. (λ v c e. (y.ahead nb).0 v c (xe.0 v c e), λ g e k. (y.ahead nb).1 g (xe.1 g e k) k);
        no_rest = λ eb g e k. y.no_rest eb g (xe.1 g e k) k;
        above = y.above ∙ x.above;
      }

  advanced_as : (out out' : List ℤ) (a b : ℕ) → (a ≡ 2 → ⊥) → (b ≡ 2 → ⊥) → WorklistPost ws at n out out' a → WorklistPost ws at n out out' b
  advanced_as out out' a b na nb p ds ss f hd r room vs =
      let x = p ds ss f hd r room vs in
      record { now = x.now; values = x.values; ahead = λ k. x.ahead na; no_rest = λ k. absurd (nb k); above = x.above }

  advanced_step : (out out' : List ℤ) (p end status : ℕ) → PlaceIn ws at n p → StepPost ws p out out' end status → WorklistPost ws at n out out' status
  advanced_step out out' p end status h q ds ss f hd r room vs =
      let x = h ds ss hd r in
      let sz = place_size (length ds) ws at n ss p x in
      let y = q ds x.it f hd (place_reads (length ds) ws at n ss p x r) (omega arith) vs in
      let ab = drop_up (max_bools + length (encode_stmt x.it)) (max_bools + length (flat (map encode_stmt ss))) out' out y.above (omega arith) in
      rw x.split (go x y (prop_stmt (constant_folding_stmt ds f x.it) f) refl y.props (rw x.split at ab))
    where
      go : (x : Place at ss p) (y : StepsTo ds x.it f out out' end status) (t : Status) → prop_stmt (constant_folding_stmt ds f x.it) f ≡ t → Propagates t y.folded out' status → drop (max_bools + length (flat (map encode_stmt (x.front ++ (x.it ∷ x.back))))) out' ≡ drop (max_bools + length (flat (map encode_stmt (x.front ++ (x.it ∷ x.back))))) out → Advanced ds (x.front ++ (x.it ∷ x.back)) f out out' status
      go x y unsatisfiable e pr ab =
          let s2 : status ≡ 2 = pr.statuses in
          record { now = pr.after; values = pr.values; ahead = λ k. absurd (k s2); no_rest = λ k. step_none ds x.front x.it x.back f f (λ g d a. d) e; above = ab }
      go x y (updated c g) e pr ab =
          let st : status ≡ status_num (updated c g) = pr.statuses in
          let sm : pr.after ≡ g = pr.same c g refl in
          let below = step_below ds x.front x.it x.back f f g c (λ g d a. d) e in
          record { now = g; values = rw sm at pr.values; ahead = λ k. below; no_rest = λ k. absurd (low c (sym st ∙ k)); above = ab }
        where
          low : (c : Bool) → status_num (updated c g) ≡ 2 → ⊥
          low true h = absurd (omega arith)
          low false h = absurd (omega arith)

  -- what is fixed now
  ready_now : (out out' : List ℤ) (status : ℕ) → WorklistPost ws at n out out' status → length out' ≡ length out → ReadyPasses ws at n out → ReadyPasses ws at n out'
  ready_now out out' status p l rp =
      let r = rp.ready in
      let y = p r.ds r.them rp.fixed r.domains r.reads r.room rp.values in
      record { fixed = y.now; values = y.values; ready = record { ds = r.ds; domains = r.domains; them = r.them; reads = r.reads; low = r.low; room = omega (arith, r.room) } }

-- ---- `sweep`

pub record Sweeping (ws : List ℤ) (at n : ℕ) (out₀ out places : List ℤ) (next i count : ℕ) : Type 0 where
  pub few : i ≤ n
  pub short : count ≤ 2048
  pub size : length out ≡ length out₀
  pub ready : ReadyPasses ws at n out
  pub advanced : WorklistPost ws at n out₀ out 0
  pub placed : Places ws at n places
  pub reached : Reached ws at n i next

module _ (ws : List ℤ) (at n : ℕ) where
  pub sweep_first : (out places : List ℤ) → ReadyPasses ws at n out → Places ws at n places → Sweeping ws at n out out places at 0 0
  sweep_first out places r p = record { few = omega arith; short = omega arith; size = refl; ready = r; advanced = advanced_none ws at n out 0 (omega arith); placed = p; reached = reached_none ws at n }

  module _ (out₀ out places : List ℤ) (p i count : ℕ) (l : i < n) (w : Sweeping ws at n out₀ out places p i count) where
    pub sweep_ready : ReadyStep ws p out
    sweep_ready = place_ready ws at n out p (reached_place ws at n i p l w.reached) w.ready

    module _ (out' : List ℤ) (next end status : ℕ) (q : StepPost ws p out out' end status × NextPost ws p next) where
      sweep_step : WorklistPost ws at n out₀ out' status
      sweep_step = advanced_then ws at n out₀ out out' 0 status (omega arith) w.size w.advanced (advanced_step ws at n out out' p end status (reached_place ws at n i p l w.reached) q.0)

      pub sweep_stop : WorklistPost ws at n out₀ out' status × Places ws at n places × (0 ≤ 2048)
      sweep_stop = (sweep_step, w.placed, omega arith)

      pub sweep_fits : length out' ≡ length out → end ≤ length out'
      sweep_fits lo = step_fits ws p out out' end status sweep_ready q.0 lo

      pub sweep_next : (status ≡ 2 → ⊥) → length out' ≡ length out → (places' : List ℤ) → Only p places places' → (count' : ℕ) → count' ≤ 2048 → Sweeping ws at n out₀ out' places' next (i + 1) count'
      sweep_next h lo places' o count' lc =
          let x = reached_place ws at n i p l w.reached in
          record {
            few = omega arith;
            short = lc;
            size = lo ∙ w.size;
            ready = ready_now ws at n out out' status (advanced_step ws at n out out' p end status x q.0) lo w.ready;
            advanced = advanced_as ws at n out₀ out' status 0 h (omega arith) sweep_step;
            placed = places_only ws at n p places places' o (λ z. x) w.placed;
            reached = reached_next ws at n i p l w.reached next q.1;
          }

-- ---- `again`, `run_queue`

module _ (ws : List ℤ) where
  pub moves_none : (out places : List ℤ) (status : ℕ) → (status ≡ 2 → ⊥) → Moves ws out places out places status
  moves_none out places status h at n p = (advanced_none ws at n out status h, p)

  moves_then : (out₀ places₀ out places out' places' : List ℤ) (a b : ℕ) → (a ≡ 2 → ⊥) → length out ≡ length out₀ → Moves ws out₀ places₀ out places a → Moves ws out places out' places' b → Moves ws out₀ places₀ out' places' b
  moves_then out₀ places₀ out places out' places' a b na l p q at n r =
      let x = p at n r in
      let y = q at n x.1 in
      (advanced_then ws at n out₀ out out' a b na l x.0 y.0, y.1)

  pub moves_as : (out places out' places' : List ℤ) (a b : ℕ) → (a ≡ 2 → ⊥) → (b ≡ 2 → ⊥) → Moves ws out places out' places' a → Moves ws out places out' places' b
  moves_as out places out' places' a b na nb p at n r = let x = p at n r in (advanced_as ws at n out out' a b na nb x.0, x.1)

  moved_ready : (out places out' places' : List ℤ) (a : ℕ) → Moves ws out places out' places' a → length out' ≡ length out → ReadyWorklist ws out places → ReadyWorklist ws out' places'
  moved_ready out places out' places' a p l r =
      let x = p r.at r.count r.placed in
      record { at = r.at; count = r.count; ready = ready_now ws r.at r.count out out' a x.0 l r.ready; placed = x.1 }

  module _ (out places : List ℤ) (i p : ℕ) (z : p ≡ 0 → ⊥) (h : get_or places i (pos 0) ≡ pos p) where
    pub again_ready : ReadyWorklist ws out places → ReadyStep ws p out
    again_ready r = place_ready ws r.at r.count out p (r.placed.each i p z h) r.ready

    module _ (out' : List ℤ) (end status : ℕ) (q : StepPost ws p out out' end status) where
      pub again_moves : (places' : List ℤ) → Only 0 places places' → Moves ws out places out' places' status
      again_moves places' o at n r = (advanced_step ws at n out out' p end status (r.each i p z h) q, places_only ws at n 0 places places' o (λ k. absurd (k refl)) r)

      pub again_fits : ReadyWorklist ws out places → length out' ≡ length out → end ≤ length out'
      again_fits r l = step_fits ws p out out' end status (again_ready r) q l

-- after some steps, none of them unsatisfiable; count: how many statements were set aside
pub record Moving (ws out₀ places₀ out places : List ℤ) (count : ℕ) : Type 0 where
  pub few : count ≤ 2048
  pub size : length out ≡ length out₀
  pub ready : ReadyWorklist ws out places
  pub moves : Moves ws out₀ places₀ out places 0

module _ (ws : List ℤ) where
  pub moving_first : (out places : List ℤ) (count : ℕ) → count ≤ 2048 → ReadyWorklist ws out places → Moving ws out places out places count
  moving_first out places count l r = record { few = l; size = refl; ready = r; moves = moves_none ws out places 0 (omega arith) }

  module _ (out₀ places₀ out places : List ℤ) (count : ℕ) (m : Moving ws out₀ places₀ out places count) (out' places' : List ℤ) (status count' : ℕ) (q : Moves ws out places out' places' status × (count' ≤ 2048)) where
    all_moves : Moves ws out₀ places₀ out' places' status
    all_moves = moves_then ws out₀ places₀ out places out' places' 0 status (omega arith) m.size m.moves q.0

    pub moving_stop : status ≡ 2 → Moves ws out₀ places₀ out' places' 2
    moving_stop h = subst (λ (x : ℕ). Moves ws out₀ places₀ out' places' x) h all_moves

    pub moving_next : (status ≡ 2 → ⊥) → length out' ≡ length out → Moving ws out₀ places₀ out' places' count'
    moving_next h l = record { few = q.1; size = l ∙ m.size; ready = moved_ready ws out places out' places' status q.0 l m.ready; moves = moves_as ws out₀ places₀ out' places' status 0 h (omega arith) all_moves }

-- ---- `run_worklist`

zeros_at : (m i : ℕ) → get_or (replicate m (pos 0)) i (pos 0) ≡ pos 0
zeros_at zero i = refl
zeros_at (suc m) zero = refl
zeros_at (suc m) (suc i) = zeros_at m i

pub places_none : (ws : List ℤ) (at n m : ℕ) → Places ws at n (replicate m (pos 0))
places_none ws at n m = record { each = λ i p z e. absurd (z (pos_eq _ _ _ e (zeros_at m i))) }

module _ (ws : List ℤ) (at n : ℕ) (out mid places : List ℤ) (s count : ℕ) where
  pub run_worklist_stop : s ≡ 2 → WorklistPost ws at n out mid s × Places ws at n places × (count ≤ 2048) → WorklistPost ws at n out mid 2
  run_worklist_stop h p = subst (λ (x : ℕ). WorklistPost ws at n out mid x) h p.0

  pub run_worklist_ready : WorklistPost ws at n out mid s × Places ws at n places × (count ≤ 2048) → length mid ≡ length out → ReadyPasses ws at n out → ReadyWorklist ws mid places
  run_worklist_ready p l r = record { at = at; count = n; ready = ready_now ws at n out mid s p.0 l r; placed = p.1 }

  pub run_worklist_end : (s ≡ 2 → ⊥) → WorklistPost ws at n out mid s × Places ws at n places × (count ≤ 2048) → length mid ≡ length out → (out' places' : List ℤ) (t : ℕ) → Moves ws mid places out' places' t → WorklistPost ws at n out out' t
  run_worklist_end h p l out' places' t q = advanced_then ws at n out mid out' s t h l p.0 (q at n p.1).0

-- ---- after a pass

module _ (ws : List ℤ) (at n : ℕ) (out : List ℤ) (status end : ℕ) where
  pub after_none : AfterPost ws at n out status end out status end
  after_none = record { advanced = λ h. advanced_none ws at n out status (omega arith); go_on = λ h. (refl, refl); stop = λ h k. absurd (omega arith); same = λ h. (refl, refl, refl) }

  pub after_stop : (out' : List ℤ) (s : ℕ) → status ≡ 1 → s ≡ 2 → WorklistPost ws at n out out' s → AfterPost ws at n out status end out' 2 max_bools
  after_stop out' s h k p = record { advanced = λ e. subst (λ (x : ℕ). WorklistPost ws at n out out' x) k p; go_on = λ e. absurd (e refl); stop = λ e d. refl; same = λ e. absurd (e h) }

  pub after_run_worklist : (out' : List ℤ) (s : ℕ) → status ≡ 1 → (s ≡ 2 → ⊥) → WorklistPost ws at n out out' s → AfterPost ws at n out status end out' status end
  after_run_worklist out' s h k p = record { advanced = λ e. advanced_as ws at n out out' s status k (omega arith) p; go_on = λ e. (refl, refl); stop = λ e d. absurd (omega arith); same = λ e. absurd (e h) }

-- ---- the passes go on from there

-- steps open no variable
open_less : (f h : Fixed) → Extends f h → open_count h ≤ open_count f
unfolding open_count
open_less f h e = opens_extends max_bools f h e

module _ (ni : ℕ) (ds : List Domain) (ss : List Stmt) (d : DeclaredStmts max_bools ni ss) (n : ℕ) (f : Fixed) (l : open_count f < n) where
  pass_ahead : (h : Fixed) → Extends f h × Below ds ss f h → passes ds n f ss ≡ passes ds n h ss
  unfolding open_count
  pass_ahead h x = passes_ahead max_bools (λ v. v < ni) ds ss (stmts_every max_bools ni ss d) n f h l x.0 x.1

  pass_none : NoRest ds ss f → passes ds n f ss ≡ inconsistent
  unfolding open_count
  pass_none x = passes_none max_bools (λ v. v < ni) ds ss (stmts_every max_bools ni ss d) n f l x

between_same : (ws : List ℤ) (at n : ℕ) (out₀ out out' : List ℤ) (status end status' end' : ℕ) → (out' ≡ out) × (status' ≡ status) × (end' ≡ end) → Between ws at n out₀ out status end → Between ws at n out₀ out' status' end'
between_same ws at n out₀ out out' status end status' end' e b = rw (e.0, e.1, e.2) b

module _ (ws : List ℤ) (at n : ℕ) (out : List ℤ) (status end : ℕ) (out' : List ℤ) (status' end' : ℕ) (a : AfterPost ws at n out status end out' status' end') (l : length out' ≡ length out) where
  -- a pass that fixed nothing more is followed by no steps
  fixed_before : (status' ≡ 2 → ⊥) → status' ≡ 1 → status ≡ 1
  fixed_before n2 h = sym (a.go_on n2).0 ∙ h

  opens_after : ReadyPasses ws at n out → status' ≡ 1 → open_count (fixed_in out') ≤ open_count (fixed_in out)
  opens_after rp h =
      let n2 : status' ≡ 2 → ⊥ = omega arith in
      let r = rp.ready in
      let y = a.advanced (fixed_before n2 h) r.ds r.them rp.fixed r.domains r.reads r.room rp.values in
      let e : fixed_in out ≡ rp.fixed = values_fixed out rp.fixed rp.values (omega (arith, r.room)) in
      let e' : fixed_in out' ≡ y.now = values_fixed out' y.now y.values (omega (arith, r.room)) in
      rw (e, e') (open_less rp.fixed y.now (y.ahead n2).0)

  pub falls_after : ReadyPasses ws at n out → (k : ℕ) → (status ≡ 1 → open_count (fixed_in out) < k) → status' ≡ 1 → open_count (fixed_in out') < k
  falls_after rp k f h = omega (arith, opens_after rp h, f (fixed_before (omega arith) h))

  module _ (out₀ : List ℤ) (b : Between ws at n out₀ out status end) where
    module _ (ds : List Domain) (ss : List Stmt) (before : Outcome) (hd : Domains ws 2 ds) (rd : ReadsStmts (length ds) ws at n ss) (room : max_bools + length (flat (map encode_stmt ss)) ≤ length out₀) (g : Going ds ss before out₀ out) where
      steps : status ≡ 1 → Advanced ds ss g.now out out' status'
      steps h = a.advanced h ds ss g.now hd rd (omega (arith, b.size)) g.values

      go_on : status ≡ 1 → (status' ≡ 2 → ⊥) → Going ds ss before out₀ out'
      go_on h n2 =
          let y = steps h in
          let x = y.ahead n2 in
          record {
            now = y.now;
            left = g.left;
            values = y.values;
            enough = omega (arith, g.enough, open_less g.now y.now x.0);
            same = g.same ∙ pass_ahead (length ds) ds ss rd.vars (suc g.left) g.now (omega (arith, g.enough)) y.now x;
            above = y.above ∙ g.above;
          }

      stop : status ≡ 1 → status' ≡ 2 → Settles before (length (flat (map encode_stmt ss))) out₀ out' status' end'
      stop h h2 =
          let y = steps h in
          let e : end' ≡ max_bools = a.stop h h2 in
          record {
            fixed = y.now;
            folded = [];
            is = g.same ∙ pass_none (length ds) ds ss rd.vars (suc g.left) g.now (omega (arith, g.enough)) (y.no_rest h2) ∙ sym (ap (λ (k : ℕ). outcome k y.now []) h2);
            values = y.values;
            words = refl;
            ends = omega arith;
            fits = omega arith;
            above = y.above ∙ g.above;
          }

    pub between_after : Between ws at n out₀ out' status' end'
    between_after = by (eqb status 1) refl
      where
        by : (t : Bool) → eqb status 1 ≡ t → Between ws at n out₀ out' status' end'
        by false t = between_same ws at n out₀ out out' status end status' end' (a.same (eqb-false status 1 t)) b
        by true t =
            let h : status ≡ 1 = eqb-true status 1 t in
            record {
              size = l ∙ b.size;
              ready = ready_now ws at n out out' status' (a.advanced h) l b.ready;
              going = λ k ds ss f fuel hd rd room vs en. go_on ds ss (passes ds (suc fuel) f ss) hd rd room (b.going h ds ss f fuel hd rd room vs en) h (omega arith);
              ended = λ k ds ss f fuel hd rd room vs en. stop ds ss (passes ds (suc fuel) f ss) hd rd room (b.going h ds ss f fuel hd rd room vs en) h (stopped (eqb status' 2) refl h k);
            }
          where
            stopped : (u : Bool) → eqb status' 2 ≡ u → status ≡ 1 → (status' ≡ 1 → ⊥) → status' ≡ 2
            stopped true u h k = eqb-true status' 2 u
            stopped false u h k = absurd (k ((a.go_on (eqb-false status' 2 u)).0 ∙ h))
