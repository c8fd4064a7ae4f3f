-- A rule as a part of the walks (`rule_stage`, `rule_stage_walks`): legal, or true; parted: the places of Ifs with split parts in the folded words F.
use Rattle.std.specs.Prelude.{◌≡◌, Bool, true, ℕ, ◌+◌, ◌≤◌, ◌<◌, ℤ}
use Rattle.std.proofs.Math.Path.{refl}
use mathlib.Core.List.{List, [], ◌∷◌, append-nil}
use Rattle.std.proofs.Common.{inl}
use native.Mathlib.Omega.{arith}
use Rattle.std.proofs.Math.ListN.{length}
use Rattle.laws.specs.Slices.{Has}
use Rattle.memory.specs.Places.{folded, folded_end, limit}
use Rattle.syntax.specs.Syntax.{Domain, BoolExpr, Const, encode_bool}
use Rattle.clauses.specs.Log.{added, Log, next_bool, get_if, clauses_of}
use Rattle.clauses.specs.Normalize.{register, normalize_bool_expr}
use Rattle.clauses.specs.Split.{unsplit, register_each, tseitin_transformation_bool as cut, normalize_and_register_expr}
use Rattle.walk.specs.Item.{bump, lines_of}
use Rattle.walks.specs.Tree.{Trees, below, splits, resolve, ties}
use Rattle.walks.specs.Form.{forms}
use Rattle.walks.specs.Resolve.{rule_trees}
use Rattle.walks.specs.Item.{form_items, conj_item, counts, texts, regs, reg_lines, all_lines}
use Rattle.walks.specs.Meet.{State, more_bools, form_meet}
use Rattle.walks.specs.Implements.{registers_same}
use Rattle.walks.specs.Written.{written, written_lines}
use Rattle.walks.specs.Plain.{PlainInt}
use Rattle.walks.specs.Constant.{Named}
use Rattle.walks.specs.Good.{good_less}
use Rattle.walks.specs.Legal.{Legal, LegalRule, true_rule, legal_rule, legal_bound, legal_plain}
use Rattle.walks.specs.Leaves.{words_of, weights}
use Rattle.walks.specs.Walked.{fixed}
use Rattle.walks.specs.Keys.{keys, Every, keys_within, keys_written, Choices}
use Rattle.walks.specs.KeyAt.{rule_choices}
use Rattle.walks.specs.KeyPlaces.{AgreesWith, parted_agrees, rule_places}
use Rattle.walks.specs.LowIfs.{rule_low}
use Rattle.walks.specs.Near.{forms_near, rule_inside}
use Rattle.walks.specs.Next.{ahead_more}
use Rattle.walks.specs.Rule.{Writes, rule_key, rule_written, rule_walks, rule_ahead, true_walks}
use Rattle.stages.specs.Room.{splits_low, rule_room, rule_weight}
use Rattle.stages.specs.StatementsParts.{Stage, Standing, Walks}
use Rattle.stages.specs.LegalKeys.{keys_legal}
use Rattle.stages.specs.StatementsTrees.{Never, no_keys, trees_stage, Visited, Facts, trees_walk}

-- nothing is done before
abbrev pub as_is : ℕ → State → State
as_is n st = st

-- the rule e at p
abbrev pub rule_stage : List Domain → ℕ → ℕ → BoolExpr → ℕ → Stage
rule_stage ds rec cap e p = let b = p + length (encode_bool e) in trees_stage ds rec cap e (rule_trees e p) as_is (rule_room e) p b p b

module _ (ds : List Domain) (F : List ℤ) (parted : ℕ → Bool) (rec cap : ℕ) (with_ifs : Bool) (before : List ℤ) (low : cap < limit) where
  -- ---- legal

  module _ (e : BoolExpr) (p : ℕ) (legal : Legal e 64) (words : Has F p (encode_bool e)) (from : folded ≤ p) (to : p + length (encode_bool e) ≤ folded_end) (agree : (n : ℕ) → Every (AgreesWith parted with_ifs) (keys e below p n)) where
    abbrev stop : ℕ
    stop = p + length (encode_bool e)

    visits : (n : ℕ) (st : State) (s : Log) → Standing ds F parted rec cap with_ifs before low p (rule_room e + n) st s → st.used ≤ words_of s → Visited ds rec cap e (rule_trees e p) as_is F parted with_ifs before low n p stop st s
    visits n st s h u =
        let m = next_bool s in
        let i : m + splits e below ≤ limit = omega (arith, h.state.room, h.state.bools, splits_low e below) in
        let x = rule_weight ds e 64 p m legal i in
        let g = good_less ds F PlainInt parted h.key (fixed ds) rec cap with_ifs before (Named ds) (rule_room e + n) (splits e below + (weights ds (rule_trees e p m) + n)) st s (omega (arith, x)) h.state in
        let a = more_bools (splits e below) st in
        record {
          key = rule_key ds F parted rec cap with_ifs before low e 64 p legal words from to s (agree m);
          places = rule_places ds F parted (fixed ds) e p m (legal_plain e 64 legal) words from to (parted_agrees parted with_ifs (agree m));
          outcome = rule_walks ds F parted rec cap with_ifs before low e 64 p legal words from to s (agree m) h.key 0 n st h.ahead h.ifs g (omega (arith, u));
          ahead = rule_ahead ds F parted rec cap with_ifs before low e 64 p legal words from to s (agree m) i a (ahead_more F p stop st.work (omega arith) h.ahead);
          stays = λ q l k. forms_near ds rec cap p stop q (l, inl k) (forms (rule_trees e p m)) (rule_inside e 64 p m legal i) a;
        }

    legal_facts : Facts ds rec cap e (rule_trees e p) as_is F parted with_ifs before low (rule_room e) p p stop
    legal_facts = record {
      ifs = λ s h. rule_low ds e s (legal_bound e 64 legal) h;
      clears = λ n st. refl;
      without = λ none n. rule_choices Never (λ x. ⊥) (λ i c t f m at k h. h) e p n (no_keys F stop none (keys_within e below p n (legal_bound e 64 legal)) (keys_written F e below p n words) (keys_legal e below p n legal) from (omega arith));
      writes = λ w s i r h. rule_written ds F parted rec cap with_ifs before low e 64 p legal words from to s (agree (next_bool s)) w i r h;
      visits = visits;
    }

  -- ---- the rule that is true

  module _ (p : ℕ) where
    abbrev one : BoolExpr
    one = Const true

    abbrev one_trees : ℕ → Trees
    one_trees n = rule_trees one p n

    true_log : (s : Log) → normalize_and_register_expr ds one s ≡ added [] ∷ s
    unfolding normalize_and_register_expr register_each register normalize_bool_expr cut unsplit
    true_log s = refl

    true_written : (w : List ℤ) (s : Log) → next_bool s ≤ limit → Writes ds (one_trees (next_bool s)) w 0 s (normalize_and_register_expr ds one s)
    unfolding resolve ties forms form_items conj_item written written_lines counts texts regs reg_lines all_lines lines_of clauses_of
    true_written w s h =
        let b : bump (next_bool s) 0 ≡ next_bool s = omega arith in
        rw (true_log s) (record { adds = registers_same s (added [] ∷ s) (append-nil (clauses_of s)); behind = rw b refl })

    true_facts : Facts ds rec cap one one_trees as_is F parted with_ifs before low (rule_room one) p p (p + length (encode_bool one))
    unfolding splits resolve ties forms form_meet Choices
    true_facts = record {
      ifs = λ s h. rw (true_log s) (unfold get_if in h);
      clears = λ n st. refl;
      without = λ none n. (tt, tt);
      writes = λ w s i r h. true_written w s (omega (arith, i));
      visits = λ n st s h u. record {
        key = h.key;
        places = h.places;
        outcome = true_walks ds p s F parted h.key rec cap with_ifs before h.places low 0 n st (good_less ds F PlainInt parted h.key (fixed ds) rec cap with_ifs before (Named ds) (rule_room one + n) n st s (omega arith) h.state) (omega (arith, u));
        ahead = ahead_more F p (p + length (encode_bool one)) st.work (omega arith) h.ahead;
        stays = λ q l k. refl;
      };
    }

  pub rule_stage_walks : (e : BoolExpr) (p : ℕ) → LegalRule e 64 → Has F p (encode_bool e) → folded ≤ p → p + length (encode_bool e) ≤ folded_end → ((n : ℕ) → Every (AgreesWith parted with_ifs) (keys e below p n)) → Walks ds F parted rec cap with_ifs before low (rule_stage ds rec cap e p)
  rule_stage_walks e p (true_rule x) words from to agree = let b = p + length (encode_bool e) in trees_walk ds rec cap e (rule_trees e p) as_is F parted with_ifs before low (rule_room e) p b p b (true_facts p) (omega arith)
  rule_stage_walks e p (legal_rule x) words from to agree = let b = p + length (encode_bool e) in trees_walk ds rec cap e (rule_trees e p) as_is F parted with_ifs before low (rule_room e) p b p b (legal_facts e p x words from to agree) (omega arith)
