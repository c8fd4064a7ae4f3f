-- The state of the first walk before a statement stands in words below the table's place: it is that of the same log in any other slice with the same words
-- there (`standing_same`).
use Rattle.std.specs.Prelude.{◌≡◌, Bool, List, ℕ, ◌+◌, ◌<◌, ℤ}
use Rattle.std.proofs.Common.{sym, ap, ◌∙◌, arith}
use Rattle.std.proofs.Math.Option.{Option}
use Rattle.laws.specs.Ints.{is_zero}
use Rattle.memory.specs.Places.{folded_end, bool_map, int_map, limit}
use Rattle.syntax.specs.Syntax.{Domain, IntExpr}
use Rattle.syntax.specs.Words.{max_bools, max_ints}
use Rattle.clauses.specs.Log.{Log}
use Rattle.walks.specs.Item.{cell, seen_in}
use Rattle.walks.specs.Plain.{PlainInt}
use Rattle.walks.specs.Cells.{Key, whole, own, Cells, Places}
use Rattle.walks.specs.Good.{blanks, blanks_same, no_int}
use Rattle.walks.specs.Walked.{fixed}
use Rattle.stages.specs.StatementsParts.{Standing}
use Rattle.numbering.specs.declared.Progress.{Progress}
use Rattle.numbering.specs.Task.{state_of}
use Rattle.setwriter.specs.Same.{Same, word_same, part_same, ifs_same, cell_same, bool_same, int_same}

-- ---- cells; as in walks

module _ (ds : List Domain) (F : List ℤ) (parted : ℕ → Bool) (K : ℕ → Option IntExpr) (P : Places ds F PlainInt parted K (fixed ds)) {w w' : List ℤ} (same : Same w w') where
  key_inside : (q : ℕ) (e : IntExpr) → Key ds F PlainInt parted K (fixed ds) q e → q < folded_end
  key_inside q e (whole s i) = s.high
  key_inside q e (own h) = (P.stand q e h).high

  seen_same : (q : ℕ) → q < folded_end → seen_in (cell w' (q + 1)) ≡ seen_in (cell w (q + 1))
  seen_same q l = ap seen_in (cell_same same (q + 1) (omega arith))

  cells_same : (s : Log) → Cells ds F PlainInt parted K (fixed ds) w s → Cells ds F PlainInt parted K (fixed ds) w' s
  cells_same s c = record {
    number = λ q e v b k h.
        let l = key_inside q e k in
        let i = c.number q e v b k (sym (seen_same q l) ∙ h) in
        record { found = i.found; low = cell_same same (q + 2) (omega (arith, l)) ∙ i.low; high = cell_same same (q + 3) (omega (arith, l)) ∙ i.high };
    const = λ q e k h. c.const q e k (sym (seen_same q (key_inside q e k)) ∙ h);
    fresh = λ q e k h. c.fresh q e k (sym (seen_same q (P.stand q e k).high) ∙ h);
    complete = λ e v p h.
        let x = c.complete e v p h in
        record { place = x.place; stands = x.stands; whole = x.whole; shared = seen_same x.place x.stands.high ∙ x.shared };
    unshared = λ q e v h p k. c.unshared q e v h p (sym (seen_same q h.high) ∙ k);
  }

-- ---- as in stages

module _ (ds : List Domain) (F : List ℤ) (parted : ℕ → Bool) (rec cap : ℕ) (with_ifs : Bool) (before : List ℤ) (low : cap < limit) where
  pub standing_same : {w w' : List ℤ} → Same w w' → (from n : ℕ) (out : List ℤ) (c : Progress) (s : Log) → Standing ds F parted rec cap with_ifs before low from n (state_of w out c) s → Standing ds F parted rec cap with_ifs before low from n (state_of w' out c) s
  standing_same {w} {w'} same from n out c s h =
      let g = h.state in
      let a : blanks is_zero w' bool_map max_bools ≡ blanks is_zero w bool_map max_bools = blanks_same is_zero w bool_map w' max_bools (λ v l. word_same same (bool_map + v) (omega arith)) in
      let b : blanks no_int w' int_map max_ints ≡ blanks no_int w int_map max_ints = blanks_same no_int w int_map w' max_ints (λ v l. word_same same (int_map + v) (omega arith)) in
      record {
        key = h.key;
        places = h.places;
        state = record {
          map = λ v l. bool_same same v l ∙ g.map v l;
          map_int = λ v l. int_same same v l ∙ g.map_int v l;
          bools = g.bools;
          ints = g.ints;
          low = g.low;
          low_int = g.low_int;
          size = omega (arith, same.size, g.size);
          words = part_same same ∙ g.words;
          word = ifs_same same ∙ g.word;
          records = g.records;
          cells = cells_same ds F parted h.key h.places same s g.cells;
          below = g.below;
          opens = g.opens;
          named = g.named;
          used = g.used;
          room = omega (arith, a, b, g.room);
        };
        ifs = h.ifs;
        light = h.light;
        ahead = λ q e i t m l k. ap seen_in (cell_same same (q + 1) (omega arith)) ∙ h.ahead q e i t m l k;
      }
