-- What the passes and the whole of optimize ask and give at each step, over variables. Assumes nothing.
use Prim.Native.Nat.{ℕ, zero, suc, ◌+◌, ◌-◌, ◌≤◌, ◌<◌}
use mathlib.Core.Path.{◌≡◌, refl, sym, ap, ◌∙◌}
use mathlib.Core.Bool.{Bool, true, false, cond}
use mathlib.Core.Option.{none}
use mathlib.Core.List.{List, [], ◌∷◌, ◌++◌, map}
use native.Mathlib.Omega.{arith}
use lib.Dec.{eqb, ltb}
use borrow.Author.Tests.{eq-eqb, eqb-true, ltb-true, ltb-false}
use lib.IntN.{ℤ, pos}
use lib.ListN.{length, replicate, take, drop, get_or, length-append, get_or-append}
use Rattle.std.proofs.lemmas.List.{length-replicate, get_or-replicate, drop_at}
use lib.Seq.{length-take-le, take_all, get_or-take}
use Rattle.laws.specs.Lists.{flat}
use Rattle.laws.specs.Slices.{Has, has_fits, has_front, has_back, has_word, has_rest, Pushed, pushed_below, pushed_has, drop_up}
use Rattle.laws.specs.Ints.{pos_eq}
use Rattle.syntax.specs.Words.{max_bools, max_set_words, min_work_words}
use Rattle.syntax.specs.Syntax.{Domain, Stmt, Problem, encode_domain, encode_stmt, encode}
use Rattle.read.specs.WellFormed.{WellFormed}
use Rattle.fold.specs.Fold.{Fixed, constant_folding_stmt}
use Rattle.fold.specs.Optimize.{Status, unsatisfiable, updated, constant_prop_stmts, Outcome, passes, optimize}
use Rattle.fold.proofs.Ends.{optimize_more}
use Rattle.fold.proofs.Kept.{fold_stmts_size}
use Rattle.domains.specs.Declared.{Plain, Domains, DomainAt}
use Rattle.folding.specs.Steps.{state_of, fixed_of, fixed_in}
use Rattle.folding.proofs.BoolLaws.{fixed_at}
use Rattle.passes.specs.Want.{Values, Propagates}
use Rattle.passes.specs.Statements.{DeclaredStmts, ReadsStmts, StmtsPost, StandStmts, PropStmtsPost}
use Rattle.propagate.specs.Passes.{stmts_every, stmts_kept, stmts_length, open_count, open_most, open_fewer, pass_unsatisfiable, pass_settled, pass_again}
use Rattle.propagate.specs.Optimized.{SomeDomains, DomainsEndPost, Opened, ReadyPasses, Settles, PassesPost}
use Rattle.propagate.specs.WellDeclared.{well_stmts}
use Rattle.passes.proofs.PropLaws.{state_back}

-- ---- the fixed values as a function

fun_ext : (f g : Fixed) → ((v : ℕ) → f v ≡ g v) → f ≡ g
fun_ext f g h = λ i. λ v. h v i

getD_out : (n : ℕ) (l : List ℤ) (v : ℕ) (d : ℤ) → n ≤ v → get_or (take n l) v d ≡ d
getD_out zero l v d h = refl
getD_out (suc n) [] v d h = refl
getD_out (suc n) (x ∷ l) zero d h = absurd (omega arith)
getD_out (suc n) (x ∷ l) (suc v) d h = getD_out n l v d (omega arith)

high_open : (out : List ℤ) (v : ℕ) → max_bools ≤ v → fixed_in out v ≡ none
unfolding fixed_in fixed_of state_of
high_open out v h = ap state_of (getD_out max_bools out v (pos 2) h)

pub values_fixed : (out : List ℤ) (f : Fixed) → Values out f → max_bools ≤ length out → fixed_in out ≡ f
values_fixed out f vs l = fun_ext (fixed_in out) f (λ v. go v (ltb v max_bools) refl)
  where
    go : (v : ℕ) (t : Bool) → ltb v max_bools ≡ t → fixed_in out v ≡ f v
    go v true h = fixed_at out v (ltb-true v max_bools h) l ∙ ap state_of (vs.cells v (ltb-true v max_bools h)) ∙ state_back (f v)
    go v false h = high_open out v (ltb-false v max_bools h) ∙ sym (vs.others v (ltb-false v max_bools h))

-- ---- `fill_open`

-- as many twos in place of the first words
pub opened : (out part : List ℤ) → max_bools ≤ length out → part ≡ replicate (length (take max_bools out)) (pos 2) → Opened out (part ++ drop max_bools out)
opened out part h e =
    let n : length (take max_bools out) ≡ max_bools = length-take-le max_bools out h in
    let f : part ≡ replicate max_bools (pos 2) = rw n at e in
    let l : length part ≡ max_bools = ap length f ∙ length-replicate max_bools (pos 2) in
    record {
      cells = λ v k. get_or-append part (drop max_bools out) (pos 0) v (omega arith) ∙ ap (λ (x : List ℤ). get_or x v (pos 0)) f ∙ get_or-replicate max_bools v (pos 2) (pos 0) k;
      high = drop_at part (drop max_bools out) max_bools l;
    }

opened_values : (out out' : List ℤ) → Opened out out' → Values out' (λ v. none)
opened_values out out' o = record { cells = λ v h. o.cells v h; others = λ v h. refl }

-- ---- `domains_end`

pub domains_none : (ws : List ℤ) (d n : ℕ) → n ≡ 0 → DomainsEndPost ws d n d
domains_none ws d n h [] hd e = omega arith
domains_none ws d n h (x ∷ ds) hd e = absurd (omega arith)

module _ (ws : List ℤ) (d n : ℕ) (z : n ≡ 0 → ⊥) where
  domains_inv : {X : Type 0} (ds : List Domain) → Domains ws d ds → n ≡ length ds → ((x : Domain) (es : List Domain) → ds ≡ x ∷ es → Has ws d (encode_domain x) → Domains ws (d + length (encode_domain x)) es → n - 1 ≡ length es → X) → X
  domains_inv [] hd e go = absurd (z e)
  domains_inv (x ∷ es) hd e go = go x es refl (has_front ws d (encode_domain x) (flat (map encode_domain es)) hd.words) (record { words = has_back ws d (encode_domain x) (flat (map encode_domain es)) hd.words }) (omega arith)

  pub domain_stands : SomeDomains ws d n → DomainAt ws d
  domain_stands s = domains_inv s.ds s.domains s.size λ x es q h hd e. record { it = x; words = h }

  module _ (m : ℕ) (p : (dm : Domain) → Has ws d (encode_domain dm) → m ≡ d + length (encode_domain dm)) where
    pub domains_stand : SomeDomains ws d n → SomeDomains ws m (n - 1)
    domains_stand s = domains_inv s.ds s.domains s.size λ x es q h hd e. record { ds = es; domains = rw (p x h) hd; size = e }

    pub domains_more : (r : ℕ) → DomainsEndPost ws m (n - 1) r → DomainsEndPost ws d n r
    domains_more r q ds hd e =
        domains_inv ds hd e λ x es k h hx ex.
        let pm : m ≡ d + length (encode_domain x) = p x h in
        let y : r ≡ m + length (flat (map encode_domain es)) = q es (rw pm hx) ex in
        rw k (omega (arith, length-append (encode_domain x) (flat (map encode_domain es))))

-- ---- one pass

module _ (ws : List ℤ) (at n : ℕ) (out mid : List ℤ) (next end : ℕ) (p : StmtsPost ws 2 at n out max_bools mid next end) (l : length mid ≡ length out) where
  -- the folded statements stand above the fixed values, which are kept
  pub record Folded (ni : ℕ) (f : Fixed) (F : List Stmt) (size : ℕ) : Type 0 where
    pub values : Values mid f
    pub reads : ReadsStmts ni mid max_bools n F
    pub ends : end ≡ max_bools + length (flat (map encode_stmt F))
    pub fits : end ≤ max_bools + size
    pub above : drop (max_bools + size) mid ≡ drop (max_bools + size) out

  folded : (ds : List Domain) (ss : List Stmt) (f : Fixed) → Domains ws 2 ds → ReadsStmts (length ds) ws at n ss → max_bools + length (flat (map encode_stmt ss)) ≤ length out → Values out f → Folded (length ds) f (map (constant_folding_stmt ds f) ss) (length (flat (map encode_stmt ss)))
  folded ds ss f hd r room vs =
      let lo : max_bools ≤ length out = omega arith in
      let y = p ds ss hd r in
      let e : fixed_in out ≡ f = values_fixed out f vs lo in
      let F = map (constant_folding_stmt ds f) ss in
      let w : Pushed out max_bools (flat (map encode_stmt F)) mid end = rw e at y.pushed in
      let en : end ≡ max_bools + length (flat (map encode_stmt F)) = w.end in
      let sz = fold_stmts_size ds f ss in
      let t : take max_bools mid ≡ take max_bools out = pushed_below out max_bools _ mid end max_bools w (omega arith) lo in
      record {
        values = record { cells = λ v h. sym (get_or-take max_bools mid v (pos 0) h) ∙ ap (λ k. get_or k v (pos 0)) t ∙ get_or-take max_bools out v (pos 0) h ∙ vs.cells v h; others = vs.others };
        reads = record { words = pushed_has out max_bools _ mid end w lo (omega arith); vars = stmts_kept max_bools (length ds) ds f ss r.vars; size = r.size ∙ sym (stmts_length ds f ss) };
        ends = en;
        fits = omega arith;
        above = y.above;
      }

  pub stand_folded : ReadyPasses ws at n out → StandStmts mid max_bools n
  stand_folded rp =
      let r = rp.ready in
      let g = folded r.ds r.them rp.fixed r.domains r.reads r.room rp.values in
      record { fixed = rp.fixed; values = g.values; ints = length r.ds; them = map (constant_folding_stmt r.ds rp.fixed) r.them; reads = g.reads; low = omega arith }

  module _ (out' : List ℤ) (status : ℕ) (q : PropStmtsPost mid max_bools n out' status) where
    propagated : (ds : List Domain) (ss : List Stmt) (f : Fixed) → Domains ws 2 ds → ReadsStmts (length ds) ws at n ss → max_bools + length (flat (map encode_stmt ss)) ≤ length out → Values out f → Propagates (constant_prop_stmts (map (constant_folding_stmt ds f) ss) f) mid out' status
    propagated ds ss f hd r room vs = let g = folded ds ss f hd r room vs in q (length ds) f (map (constant_folding_stmt ds f) ss) g.values g.reads (omega arith)

    -- what is fixed now
    pub values_now : ReadyPasses ws at n out → length out' ≡ length mid → ReadyPasses ws at n out'
    values_now rp l' =
        let r = rp.ready in
        let g = propagated r.ds r.them rp.fixed r.domains r.reads r.room rp.values in
        record { fixed = g.after; values = g.values; ready = record { ds = r.ds; domains = r.domains; them = r.them; reads = r.reads; low = r.low; room = omega (arith, r.room) } }

    pub falls : ReadyPasses ws at n out → length out' ≡ length mid → status ≡ 1 → open_count (fixed_in out') < open_count (fixed_in out)
    falls rp l' h =
        let r = rp.ready in
        let f = rp.fixed in
        let lo : max_bools ≤ length out = omega (arith, r.room) in
        let F = map (constant_folding_stmt r.ds f) r.them in
        let g = propagated r.ds r.them f r.domains r.reads r.room rp.values in
        let e : fixed_in out ≡ f = values_fixed out f rp.values lo in
        let e' : fixed_in out' ≡ g.after = values_fixed out' g.after g.values (omega arith) in
        rw (e, e') (changed r.ds f F (stmts_kept max_bools (length r.ds) r.ds f r.them r.reads.vars) (constant_prop_stmts F f) refl g)
      where
        changed : (ds : List Domain) (f : Fixed) (F : List Stmt) → DeclaredStmts max_bools (length ds) F → (s : Status) → constant_prop_stmts F f ≡ s → (g : Propagates s mid out' status) → open_count g.after < open_count f
        changed ds f F hF unsatisfiable es g = absurd (let x : status ≡ 2 = g.statuses in omega arith)
        changed ds f F hF (updated false k) es g = absurd (let x : status ≡ 0 = g.statuses in omega arith)
        changed ds f F hF (updated true k) es g = let x : g.after ≡ k = g.same true k refl in rw x (open_fewer (length ds) F f k hF es)

-- ---- between passes

pub record Going (ds : List Domain) (ss : List Stmt) (before : Outcome) (out₀ out : List ℤ) : Type 0 where
  pub now : Fixed
  pub left : ℕ
  pub values : Values out now
  pub enough : open_count now ≤ left
  pub same : before ≡ passes ds (suc left) now ss
  pub above : drop (max_bools + length (flat (map encode_stmt ss))) out ≡ drop (max_bools + length (flat (map encode_stmt ss))) out₀

pub record Between (ws : List ℤ) (at n : ℕ) (out₀ out : List ℤ) (status end : ℕ) : Type 0 where
  pub size : length out ≡ length out₀
  pub ready : ReadyPasses ws at n out
  pub going : status ≡ 1 → (ds : List Domain) (ss : List Stmt) (f : Fixed) (fuel : ℕ) → Domains ws 2 ds → ReadsStmts (length ds) ws at n ss → max_bools + length (flat (map encode_stmt ss)) ≤ length out₀ → Values out₀ f → open_count f ≤ fuel → Going ds ss (passes ds (suc fuel) f ss) out₀ out
  pub ended : (status ≡ 1 → ⊥) → PassesPost ws at n out₀ out status end

pub between_first : (ws : List ℤ) (at n : ℕ) (out : List ℤ) (end : ℕ) → ReadyPasses ws at n out → Between ws at n out out 1 end
between_first ws at n out end r = record {
  size = refl;
  ready = r;
  going = λ e ds ss f fuel hd rd room vs en. record { now = f; left = fuel; values = vs; enough = en; same = refl; above = refl };
  ended = λ e. absurd (e refl);
}

module _ (ws : List ℤ) (at n : ℕ) (out₀ out mid : List ℤ) (next end : ℕ) (p : StmtsPost ws 2 at n out max_bools mid next end) (l : length mid ≡ length out) (out' : List ℤ) (status : ℕ) (q : PropStmtsPost mid max_bools n out' status) where
  module _ (ds : List Domain) (ss : List Stmt) (before : Outcome) (hd : Domains ws 2 ds) (rd : ReadsStmts (length ds) ws at n ss) (room : max_bools + length (flat (map encode_stmt ss)) ≤ length out) (g : Going ds ss before out₀ out) where
    abbrev F : List Stmt
    F = map (constant_folding_stmt ds g.now) ss

    there : Folded ws at n out mid next end p l (length ds) g.now F (length (flat (map encode_stmt ss)))
    there = folded ws at n out mid next end p l ds ss g.now hd rd room g.values

    above_now : drop max_bools out' ≡ drop max_bools mid → drop (max_bools + length (flat (map encode_stmt ss))) out' ≡ drop (max_bools + length (flat (map encode_stmt ss))) out₀
    above_now h = drop_up max_bools (max_bools + length (flat (map encode_stmt ss))) out' mid h (omega arith) ∙ there.above ∙ g.above

    go_on : (s : Status) → constant_prop_stmts F g.now ≡ s → Propagates s mid out' status → status ≡ 1 → Going ds ss before out₀ out'
    go_on unsatisfiable es r h = absurd (let x : status ≡ 2 = r.statuses in omega arith)
    go_on (updated false k) es r h = absurd (let x : status ≡ 0 = r.statuses in omega arith)
    go_on (updated true k) es r h = spent g.left refl
      where
        spent : (m : ℕ) → g.left ≡ m → Going ds ss before out₀ out'
        spent zero e = absurd (omega (arith, g.enough, open_fewer (length ds) F g.now k there.reads.vars es))
        spent (suc m) e =
            let x : r.after ≡ k = r.same true k refl in
            let sm : before ≡ passes ds (suc (suc m)) g.now ss = rw e at g.same in
            record { now = k; left = m; values = rw x at r.values; enough = omega (arith, g.enough, open_fewer (length ds) F g.now k there.reads.vars es); same = sm ∙ pass_again ds m g.now ss k es; above = above_now r.high }

    stop : (s : Status) → constant_prop_stmts F g.now ≡ s → Propagates s mid out' status → (status ≡ 1 → ⊥) → Settles before (length (flat (map encode_stmt ss))) out₀ out' status end
    stop unsatisfiable es r h =
        let x : status ≡ 2 = r.statuses in
        record { fixed = r.after; folded = F; is = rw x (g.same ∙ pass_unsatisfiable ds g.left g.now ss es); values = r.values; words = words_now r.high; ends = there.ends; fits = there.fits; above = above_now r.high }
      where
        words_now : drop max_bools out' ≡ drop max_bools mid → Has out' max_bools (flat (map encode_stmt F))
        words_now e = rw e there.reads.words
    stop (updated false k) es r h =
        let x : status ≡ 0 = r.statuses in
        let y : r.after ≡ k = r.same false k refl in
        record { fixed = r.after; folded = F; is = rw (x, y) (g.same ∙ pass_settled ds g.left g.now ss k es); values = r.values; words = words_now r.high; ends = there.ends; fits = there.fits; above = above_now r.high }
      where
        words_now : drop max_bools out' ≡ drop max_bools mid → Has out' max_bools (flat (map encode_stmt F))
        words_now e = rw e there.reads.words
    stop (updated true k) es r h = absurd (h r.statuses)

  pub between_next : (s₀ e₀ : ℕ) → length out' ≡ length mid → s₀ ≡ 1 → Between ws at n out₀ out s₀ e₀ → Between ws at n out₀ out' status end
  between_next s₀ e₀ l' h b =
      let lo : length out ≡ length out₀ = b.size in
      record {
        size = l' ∙ l ∙ lo;
        ready = values_now ws at n out mid next end p l out' status q b.ready l';
        going = λ e ds ss f fuel hd rd room vs en.
            let g = b.going h ds ss f fuel hd rd room vs en in
            let r = propagated ws at n out mid next end p l out' status q ds ss g.now hd rd (omega arith) g.values in
            go_on ds ss (passes ds (suc fuel) f ss) hd rd (omega arith) g _ refl r e;
        ended = λ e ds ss f fuel hd rd room vs en.
            let g = b.going h ds ss f fuel hd rd room vs en in
            let r = propagated ws at n out mid next end p l out' status q ds ss g.now hd rd (omega arith) g.values in
            stop ds ss (passes ds (suc fuel) f ss) hd rd (omega arith) g _ refl r e;
      }

pub less : (a b s t : ℕ) → s ≡ 1 → (t ≡ 1 → b < a) → cond (eqb t 1) (b + 1) 0 < cond (eqb s 1) (a + 1) 0
less a b s t h f = rw (eq-eqb s 1 h) (go (eqb t 1) refl)
  where
    go : (c : Bool) → eqb t 1 ≡ c → cond c (b + 1) 0 < a + 1
    go true e = omega (arith, f (eqb-true t 1 e))
    go false e = omega arith

-- ---- `optimize`

module _ (words : List ℤ) (p : Problem) (is : words ≡ encode p) (well : WellFormed p) where
  -- how many words the domains and the statements have
  abbrev domain_words : List ℤ
  domain_words = flat (map encode_domain p.domains)

  abbrev stmt_words : List ℤ
  stmt_words = flat (map encode_stmt p.stmts)

  parts : Has words 2 (domain_words ++ (pos (length p.stmts) ∷ stmt_words)) × (get_or words 1 (pos 0) ≡ pos (length p.domains))
  unfolding encode
  parts = rw is (has_whole p)
    where
      has_whole : (p : Problem) → Has (encode p) 2 (flat (map encode_domain p.domains) ++ (pos (length p.stmts) ∷ flat (map encode_stmt p.stmts))) × (get_or (encode p) 1 (pos 0) ≡ pos (length p.domains))
      has_whole p = (let rest : List ℤ = flat (map encode_domain p.domains) ++ (pos (length p.stmts) ∷ flat (map encode_stmt p.stmts)) in take_all (length rest) rest (omega arith), refl)

  domains_here : Domains words 2 p.domains
  domains_here = record { words = has_front words 2 domain_words (pos (length p.stmts) ∷ stmt_words) parts.0 }

  behind : Has words (2 + length domain_words) (pos (length p.stmts) ∷ stmt_words)
  behind = has_back words 2 domain_words (pos (length p.stmts) ∷ stmt_words) parts.0

  set_fits : 2 + length domain_words + suc (length stmt_words) ≤ length words
  set_fits = has_fits words (2 + length domain_words) (pos (length p.stmts) ∷ stmt_words) behind (omega arith)

  pub ints_word : Plain words 1
  ints_word = record { inside = omega (arith, set_fits); value = length p.domains; is = parts.1 }

  module _ (ni : ℕ) (hi : get_or words 1 (pos 0) ≡ pos ni) where
    ints_is : ni ≡ length p.domains
    ints_is = pos_eq _ _ _ hi parts.1

    pub some_domains : SomeDomains words 2 ni
    some_domains = record { ds = p.domains; domains = domains_here; size = ints_is }

    module _ (at : ℕ) (pa : DomainsEndPost words 2 ni at) where
      at_is : at ≡ 2 + length domain_words
      at_is = pa p.domains domains_here ints_is

      count_here : get_or words at (pos 0) ≡ pos (length p.stmts)
      count_here = rw at_is (has_word words (2 + length domain_words) _ _ (pos 0) behind)

      pub count_word : Plain words at
      count_word = record { inside = omega (arith, at_is, set_fits); value = length p.stmts; is = count_here }

      pub at_fits : at + 1 ≤ length words
      at_fits = omega (arith, at_is, set_fits)

      module _ (count : ℕ) (hc : get_or words at (pos 0) ≡ pos count) where
        stmts_here : ReadsStmts (length p.domains) words (at + 1) count p.stmts
        stmts_here = record { words = rw at_is (has_rest words (2 + length domain_words) (pos (length p.stmts)) stmt_words behind); vars = well_stmts p well max_bools well.few_bools; size = pos_eq _ _ _ hc count_here }

        pub passes_ready : (work mid : List ℤ) → length words ≤ max_set_words → min_work_words ≤ length work → length mid ≡ length work → Opened work mid → ReadyPasses words (at + 1) count mid
        passes_ready work mid s r l o = record { fixed = λ v. none; values = opened_values work mid o; ready = record { ds = p.domains; domains = domains_here; them = p.stmts; reads = stmts_here; low = omega arith; room = omega (arith, set_fits) } }

        pub optimized : (work mid work' : List ℤ) (status end : ℕ) → length words ≤ max_set_words → min_work_words ≤ length work → length mid ≡ length work → Opened work mid → PassesPost words (at + 1) count mid work' status end → Settles (optimize p) max_set_words work work' status end
        optimized work mid work' status end s r l o q =
            let g = q p.domains p.stmts (λ v. none) max_bools domains_here stmts_here (omega (arith, set_fits)) (opened_values work mid o) (open_most (λ v. none)) in
            let e : optimize p ≡ passes p.domains (suc max_bools) (λ v. none) p.stmts = sym (optimize_more p (stmts_every p.bools (length p.domains) p.stmts (well_stmts p well p.bools (omega arith))) (suc max_bools) (omega (arith, well.few_bools))) in
            record {
              fixed = g.fixed;
              folded = g.folded;
              is = e ∙ g.is;
              values = g.values;
              words = g.words;
              ends = g.ends;
              fits = omega (arith, g.fits, set_fits);
              above = drop_up (max_bools + length stmt_words) (max_bools + max_set_words) work' mid g.above (omega (arith, set_fits)) ∙ drop_up max_bools (max_bools + max_set_words) mid work o.high (omega arith);
            }
