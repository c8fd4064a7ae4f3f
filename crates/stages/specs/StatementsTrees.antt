-- A rule or a pair of an AllDifferent as a part: its splitting takes its numbers, then its trees are met and written one after another.
use Rattle.std.specs.Prelude.{◌≡◌, Bool, false, List, [], ℕ, ◌+◌, ◌≤◌, ◌<◌, ℤ, ltb}
use Rattle.std.proofs.Common.{sym, ap, ◌∙◌, subst, arith}
use Rattle.std.proofs.Math.Option.{Option}
use Rattle.memory.specs.Places.{folded, limit}
use Rattle.syntax.specs.Syntax.{Domain, IntExpr, BoolExpr}
use Rattle.clauses.specs.Log.{Log, next_bool}
use Rattle.clauses.specs.Normalize.{register}
use Rattle.clauses.specs.Split.{tseitin_transformation_bool as cut, normalize_and_register_expr}
use Rattle.walk.specs.declared.Counters.{Counters}
use Rattle.walk.proofs.Grow.{Grows, then}
use Rattle.walks.specs.Tree.{Place, Tree, var, num, cmp, conj, disj, cross, tied, Trees, nil, cons, IntTree, const, ivar, sum, choice, TermTrees, none as no_terms, term, below, splits, run, run_int, runs}
use Rattle.walks.specs.Resolve.{split_sided, rule_trees, rule_runs}
use Rattle.walks.specs.Item.{has_ifs, more_bools as more-counted, items, counts}
use Rattle.walks.specs.Placed.{Placed, PlacedAll, PlacedInt, PlacedTerms}
use Rattle.walks.specs.Meet.{State, counters_of, more_bools, meets}
use Rattle.walks.specs.Grow.{registers_grow}
use Rattle.walks.specs.Implements.{Ready, Registers}
use Rattle.walks.specs.Written.{written, written_lines, PlacedRegisters}
use Rattle.walks.specs.Plain.{PlainInt}
use Rattle.walks.specs.Constant.{Named}
use Rattle.walks.specs.Cells.{Places}
use Rattle.walks.specs.Leaves.{words_of}
use Rattle.walks.specs.Visit.{meets_spends, same_later, full, good, good_ready}
use Rattle.walks.specs.Walked.{fixed, names}
use Rattle.walks.specs.Keys.{Key, Every, every_map, Within, Written, Choices, ChoicesAll, ChoicesInt, ChoicesTerms}
use Rattle.walks.specs.KeyPlaces.{every_both}
use Rattle.walks.specs.LowIfs.{LowIfs}
use Rattle.walks.specs.Next.{Ahead}
use Rattle.walks.specs.Reach.{rule_light}
use Rattle.walks.specs.Rule.{Writes as TreesWrite, OutcomeFor}
use Rattle.stages.specs.LegalKeys.{LegalKey}
use Rattle.stages.specs.StatementsParts.{Part, Stage, Stays, NoIfs, Standing, Passed, full as passed_full, good as passed-good, Again, Walks, counters_are}

-- ---- where no If stands, nothing is to be placed

-- no If at all
abbrev pub Never : Place → IntExpr → Tree → Tree → IntTree → IntTree → Type 0
Never p e c d t f = ⊥

module _ (w : List ℤ) (ds : List Domain) where
  mutual
    unfolding Choices Placed

    placed : (t : Tree) → Choices Never t → (s : Log) → Placed w ds t s
    placed (var v g) h s = tt
    placed (num n g) h s = tt
    placed (cmp o a b g) h s = (placed_int a h.0 s, placed_int b h.1 (run_int ds a s).1)
    placed (conj ts) h s = placed_all ts h s
    placed (disj ts) h s = placed_all ts h s
    placed (cross ts us) h s = (placed_all ts h.0 s, placed_all us h.1 (runs ds ts s).1)
    placed (tied v t u) h s = (placed t h.0 s, placed u h.1 (run ds t s).1)

    placed_all : (ts : Trees) → ChoicesAll Never ts → (s : Log) → PlacedAll w ds ts s
    placed_all nil h s = tt
    placed_all (cons t ts) h s = (placed t h.0 s, placed_all ts h.1 (run ds t s).1)

    placed_int : (e : IntTree) → ChoicesInt Never e → (s : Log) → PlacedInt w ds e s
    placed_int (const c) h s = tt
    placed_int (ivar v) h s = tt
    placed_int (sum ts) h s = placed_terms ts h s
    placed_int (choice i p e c d t f) h s = absurd h.0

    placed_terms : (ts : TermTrees) → ChoicesTerms Never ts → (s : Log) → PlacedTerms w ds ts s
    placed_terms no_terms h s = tt
    placed_terms (term k e ts) h s = (placed_int e h.0 s, placed_terms ts h.1 (run_int ds e s).1)

  pub placed_registers : (ts : Trees) → ChoicesAll Never ts → (s : Log) → PlacedRegisters w ds ts s
  unfolding Choices PlacedRegisters
  placed_registers nil h s = tt
  placed_registers (cons t ts) h s = (placed t h.0 s, placed_registers ts h.1 (register (run ds t s)))

-- the keys of what stands from `at` to `stop`
pub no_keys : (F : List ℤ) (b : ℕ) → NoIfs F b → {at stop n next size : ℕ} {xs : List Key} → Every (Within at stop n next size) xs → Every (Written F) xs → Every LegalKey xs → folded ≤ at → stop ≤ b → Every (λ x. ⊥) xs
no_keys F b none h k p l m = every_map (λ x y. none x.place.at x.written y.1.1 y.1.0.stands (omega (arith, y.0.from)) (omega (arith, y.0.to))) (every_both h (every_both k p))

-- ---- the log behind a rule

split_grows : (e : BoolExpr) (s : Log) → Grows s (cut e false s).log
split_grows e s = let d = split_sided e false s in record { bools = omega (arith, d.bools); ints = omega (arith, d.ints); keep = λ v n h. d.keep v ∙ h; keep_int = λ v n h. d.keep_int v ∙ h; top = d.top }

module _ (ds : List Domain) where
  pub rule_grows : (e : BoolExpr) (s : Log) → Grows s (normalize_and_register_expr ds e s)
  rule_grows e s = let ts = rule_trees e 0 (next_bool s) in rw (rule_runs ds e 0 s) (then (split_grows e s) (registers_grow ds ts (cut e false s).log))

  -- the numbers of the splitting
  pub splits_within : (e : BoolExpr) (s : Log) → next_bool s + splits e below ≤ next_bool (normalize_and_register_expr ds e s)
  splits_within e s = let ts = rule_trees e 0 (next_bool s) in rw (rule_runs ds e 0 s) (omega (arith, (split_sided e false s).bools, (registers_grow ds ts (cut e false s).log).bools))

-- ---- the part

-- trees: by the splitting's first number; clear: what is done before
module _ (ds : List Domain) (rec cap : ℕ) (e : BoolExpr) (trees : ℕ → Trees) (clear : ℕ → State → State) where
  abbrev pub meet_trees : ℕ → State → State
  meet_trees n st = meets ds rec cap (trees n) (more_bools (splits e below) (clear n st))

  abbrev pub trees_part : Part
  trees_part = record {
    meet = λ st. meet_trees st.bools st;
    text = λ w n. written (items ds (trees n.bools)) w (more-counted (splits e below) n);
    lines = λ w n. written_lines (items ds (trees n.bools)) w (more-counted (splits e below) n);
    behind = λ w n. counts (items ds (trees n.bools)) w (more-counted (splits e below) n);
  }

  -- cells before past stay to the end; the rest as in Parts
  abbrev pub trees_stage : ℕ → ℕ → ℕ → ℕ → ℕ → Stage
  trees_stage room start past from to = record { part = trees_part; step = normalize_and_register_expr ds e; owns = λ s. []; knows = []; room = room; start = start; past = past; from = from; to = to }

  module _ (F : List ℤ) (parted : ℕ → Bool) (with_ifs : Bool) (before : List ℤ) (low : cap < limit) where
    abbrev behind : Log → Log
    behind s = normalize_and_register_expr ds e s

    -- the second walk by the slice w
    abbrev pub Wrote : List ℤ → Log → Type 0
    Wrote w s = TreesWrite ds (trees (next_bool s)) w (splits e below) s (behind s)

    -- the first walk from the state st of the log s
    pub record Visited (n start to : ℕ) (st : State) (s : Log) : Type 0 where
      pub key : ℕ → Option IntExpr
      pub places : Places ds F PlainInt parted key (fixed ds)
      pub outcome : OutcomeFor ds F parted rec cap with_ifs before low key 0 n (λ w. Ready w (behind s) → Wrote w s) (clear (next_bool s) st) (meet_trees (next_bool s) st) (behind s)
      pub ahead : Ahead F to (meet_trees (next_bool s) st).work
      pub stays : Stays start st.work (meet_trees (next_bool s) st).work

    pub record Facts (room start from to : ℕ) : Type 0 where
      pub ifs : (s : Log) → LowIfs (next_bool s) s → LowIfs (next_bool (behind s)) (behind s)
      pub clears : (n : ℕ) (st : State) → (clear n st).used ≡ st.used
      pub without : NoIfs F to → (n : ℕ) → ChoicesAll Never (trees n)
      pub writes : (w : List ℤ) (s : Log) → next_bool s + splits e below ≤ limit → Ready w (behind s) → PlacedRegisters w ds (trees (next_bool s)) (cut e false s).log → Wrote w s
      pub visits : (n : ℕ) (st : State) (s : Log) → Standing ds F parted rec cap with_ifs before low from (room + n) st s → st.used ≤ words_of s → Visited n start to st s

    module _ (room start past from to : ℕ) (facts : Facts room start from to) where
      abbrev stage : Stage
      stage = trees_stage room start past from to

      first_passed : (n : ℕ) (st : State) (s : Log) → Standing ds F parted rec cap with_ifs before low from (room + n) st s → st.used ≤ words_of s → Passed ds F parted rec cap with_ifs before low to n (Again ds F parted rec cap with_ifs before low stage st s) (stage.part.meet st) (behind s)
      first_passed n st s h u = go v.outcome
        where
          v : Visited n start to st s
          v = facts.visits n st s h u

          same : stage.part.meet st ≡ meet_trees (next_bool s) st
          same = ap (λ k. meet_trees k st) h.state.bools

          again : has_ifs (meet_trees (next_bool s) st).work ≡ with_ifs → Wrote (meet_trees (next_bool s) st).work s → Again ds F parted rec cap with_ifs before low stage st s
          again i x =
              let w = (meet_trees (next_bool s) st).work in
              let c = counters_are ds F parted rec cap with_ifs before low h w i in
              let y : Registers (stage.part.text w (counters_of st)) (stage.part.lines w (counters_of st)) s (behind s) = subst (λ (n : Counters). Registers (stage.part.text w n) (stage.part.lines w n) s (behind s)) (sym c) x.adds in
              record {
                adds = subst (λ (z : State). Registers (stage.part.text z.work (counters_of st)) (stage.part.lines z.work (counters_of st)) s (behind s)) (sym same) y;
                owned = tt;
                stays = rw same v.stays;
              }

          go : OutcomeFor ds F parted rec cap with_ifs before low v.key 0 n (λ w. Ready w (behind s) → Wrote w s) (clear (next_bool s) st) (meet_trees (next_bool s) st) (behind s) → Passed ds F parted rec cap with_ifs before low to n (Again ds F parted rec cap with_ifs before low stage st s) (stage.part.meet st) (behind s)
          go (full x y) = subst (λ (z : State). Passed ds F parted rec cap with_ifs before low to n (Again ds F parted rec cap with_ifs before low stage st s) z (behind s)) (sym same) (passed_full x (omega (arith, y)))
          go (good g y r q) =
              let d = good_ready ds F PlainInt parted v.key (fixed ds) rec cap with_ifs before (Named ds) (names ds) v.places low n (meet_trees (next_bool s) st) (behind s) g in
              subst (λ (z : State). Passed ds F parted rec cap with_ifs before low to n (Again ds F parted rec cap with_ifs before low stage st s) z (behind s)) (sym same)
              (passed-good (record { key = v.key; places = v.places; state = g; ifs = facts.ifs s h.ifs; light = rule_light ds e s h.light; ahead = v.ahead }) (omega (arith, y)) (again g.word (q (meet_trees (next_bool s) st).work (same_later ds F PlainInt parted v.key (fixed ds) (meet_trees (next_bool s) st).work) d)))

      pub trees_walk : start ≤ past → Walks ds F parted rec cap with_ifs before low stage
      trees_walk o = record {
        ordered = o;
        grows = rule_grows ds e;
        owned_in = λ s. tt;
        spends = λ st f. let c = facts.clears st.bools st in meets_spends ds rec cap (trees st.bools) (more_bools (splits e below) (clear st.bools st)) (ap (ltb cap) c ∙ f) ∙ c;
        first = λ n st s k h u. first_passed n st s h u;
        second = λ i w s k r x.
            let b = splits_within ds e s in
            let y = facts.writes w s (omega (arith, b, r.fit.small)) r (placed_registers w ds (trees (next_bool s)) (facts.without i (next_bool s)) (cut e false s).log) in
            record { adds = y.adds; behind = y.behind };
      }
