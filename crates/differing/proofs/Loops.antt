-- The pairs one after the other: whatever writes the clauses of the pairs left writes those of all. Assumes nothing.
use mathlib.Core.Path.{◌≡◌, refl, sym, ◌∙◌}
use mathlib.Core.List.{List, [], ◌++◌}
use Prim.Native.Nat.{ℕ, zero, suc, ◌+◌, ◌-◌, ◌≤◌, ◌<◌}
use native.Mathlib.Omega.{arith}
use native.Mathlib.Numerals.{sub-one}
use lib.IntN.{ℤ}
use lib.ListN.{length}
use Rattle.laws.specs.Writes.{cap, wrote_length, wrote_low, wrote_none, wrote_then, wrote_to, sets_out}
use Rattle.memory.specs.Places.{folded_end}
use Rattle.syntax.specs.Syntax.{Domain}
use Rattle.walk.specs.Decode.{read_part}
use Rattle.walk.specs.declared.Counters.{Counters}
use Rattle.scan.specs.Skip.{split_by, IntSkips}
use Rattle.rows.specs.Emit.{clauses_words, Clauses, Behind}
use Rattle.differing.specs.Pair.{pair_words, pair_words_are, Pair, Paired}
use Rattle.differing.specs.Rows.{Puts, end_at, row_words, RowFits, Row, PutRow, pairs_words, PairsFit, Pairs, pair_count, PutPairs}

-- ---- where an expression ends

pub end_is : (w : List ℤ) (p : ℕ) {q b : ℕ} → IntSkips (read_part w) 64 (split_by 0) p 0 q b → (q ≡ end_at w p) × (q ≤ folded_end)
unfolding split_by
end_is w p s = (s.end, s.inside)

-- ---- clauses one after another

pub puts_none : {out : List ℤ} {o c : ℕ} → Behind out o c → Puts out o c [] 0 out o c
puts_none {out} {o} b = record { words = wrote_none out o b.room.low; count = λ l. omega arith; low = b.low }

pub puts_then : {out a b us ws : List ℤ} {o p q c d e i j : ℕ} → length out ≤ cap → Puts out o c us i a p d → Puts a p d ws j b q e → Puts out o c (us ++ ws) (i + j) b q e
puts_then l x y = record { words = wrote_then l x.words y.words; count = λ m. omega (arith, x.count (omega (arith, y.words.at)), y.count m); low = y.low }

pub puts_to : {out out' us ws : List ℤ} {o o' c c' i j : ℕ} → us ≡ ws → i ≡ j → Puts out o c us i out' o' c' → Puts out o c ws j out' o' c'
puts_to e f x = record { words = wrote_to e x.words; count = λ m. omega (arith, f, x.count m); low = x.low }

-- nothing is written behind the longest answer
pub puts_stop : {out : List ℤ} {o c : ℕ} → Behind out o c → o ≡ cap → (ws : List ℤ) (i : ℕ) → Puts out o c ws i out o c
puts_stop {out} {o} b e ws i = record { words = record { words = sym (sets_out out o ws (omega (arith, b.room.room))); at = omega arith }; count = λ m. absurd (omega arith); low = b.low }

pub puts_clauses : {out out' : List ℤ} {o o' c c' : ℕ} {cs : _} → Clauses out o c cs out' o' c' → Puts out o c (clauses_words cs) (length cs) out' o' c'
puts_clauses x = record { words = x.words; count = x.count; low = x.low }

module _ (w : List ℤ) (n : Counters) (a b : ℕ) {out out' : List ℤ} {q q' c : ℕ} (h : Behind out q c) (not_full : q ≡ cap → ⊥) (x : Paired w n a b out q out' q') where
  longer : q < q'
  longer = let y = wrote_to (pair_words_are w n a b []) (x.wrote []) in omega (arith, y.at, h.room.low)

  pub pair_behind : Behind out' q' (c + 1)
  pair_behind = let y = x.wrote [] in record { room = record { low = wrote_low y; room = omega (arith, wrote_length y, h.room.room) }; low = omega (arith, h.low, longer) }

  pub pair_puts : (ds : List Domain) → Puts out q c (pair_words w n a b ds) 1 out' q' (c + 1)
  pair_puts ds = record { words = x.wrote ds; count = λ m. refl; low = omega (arith, h.low, longer) }

-- ---- a row

pair_of : (w : List ℤ) (n : Counters) (a b rest : ℕ) → Row w n a b rest → (rest ≡ 0 → ⊥) → Pair w n a b
unfolding RowFits
pair_of w n a b zero r z = absurd (z refl)
pair_of w n a b (suc i) r z = record { size = r.size; low = r.low; first = r.first; second = r.place; fits = r.fits.0 }

pub record Going (w : List ℤ) (n : Counters) (a p count : ℕ) (out₀ : List ℤ) (o k : ℕ) (out : List ℤ) (b q c rest : ℕ) : Type 0 where
  pub left : Row w n a b rest
  pub behind : Behind out q c
  pub same : length out ≡ length out₀
  pub to : (ds : List Domain) (out' : List ℤ) (q' c' : ℕ) → Puts out q c (row_words w n ds a b rest) rest out' q' c' → Puts out₀ o k (row_words w n ds a p count) count out' q' c'

module _ (w : List ℤ) (n : Counters) (a p count : ℕ) (out₀ : List ℤ) (o k : ℕ) where
  pub going_start : Row w n a p count → Behind out₀ o k → Going w n a p count out₀ o k out₀ p o k count
  going_start r v = record { left = r; behind = v; same = refl; to = λ ds out' q' c' x. x }

  module _ {out : List ℤ} {b q c : ℕ} where
    pub going_pair : {rest : ℕ} → Going w n a p count out₀ o k out b q c rest → (rest ≡ 0 → ⊥) → Pair w n a b
    going_pair {rest} g z = pair_of w n a b rest g.left z

    pub going_next : {out' : List ℤ} {b' q' : ℕ} (rest : ℕ) → Going w n a p count out₀ o k out b q c rest → (rest ≡ 0 → ⊥) → (q ≡ cap → ⊥) → Paired w n a b out q out' q' → b' ≡ end_at w b → b' ≤ folded_end → Going w n a p count out₀ o k out' b' q' (c + 1) (rest - 1)
    unfolding RowFits row_words
    going_next zero g z f x e l = absurd (z refl)
    going_next {out'} {b'} {q'} (suc i) g z f x e l = rw (sub-one (suc i), e) (record {
      left = record { size = g.left.size; low = g.left.low; first = g.left.first; place = rw (← e) l; fits = g.left.fits.1 };
      behind = pair_behind w n a b g.behind f x;
      same = wrote_length (x.wrote []) ∙ g.same;
      to = λ ds out'' q'' c'' y. g.to ds out'' q'' c'' (puts_to refl (omega arith) (puts_then g.behind.room.room (pair_puts w n a b g.behind f x ds) y));
    })

    pub going_end : (rest : ℕ) → Going w n a p count out₀ o k out b q c rest → rest ≡ 0 → PutRow w n a p count out₀ o k out q c
    unfolding row_words
    going_end zero g z = record { puts = λ ds. g.to ds out q c (puts_none g.behind); behind = g.behind }
    going_end (suc i) g z = absurd (omega arith)

    pub going_stop : {rest : ℕ} → Going w n a p count out₀ o k out b q c rest → q ≡ cap → PutRow w n a p count out₀ o k out q c
    going_stop {rest} g e = record { puts = λ ds. g.to ds out q c (puts_stop g.behind e _ rest); behind = g.behind }

-- ---- all rows

pub record Rows (w : List ℤ) (n : Counters) (at count : ℕ) (out₀ : List ℤ) (o k : ℕ) (out : List ℤ) (p q c rest : ℕ) : Type 0 where
  pub left : Pairs w n p rest
  pub behind : Behind out q c
  pub same : length out ≡ length out₀
  pub to : (ds : List Domain) (out' : List ℤ) (q' c' : ℕ) → Puts out q c (pairs_words w n ds p rest) (pair_count rest) out' q' c' → Puts out₀ o k (pairs_words w n ds at count) (pair_count count) out' q' c'

module _ (w : List ℤ) (n : Counters) (at count : ℕ) (out₀ : List ℤ) (o k : ℕ) where
  pub rows_start : Pairs w n at count → Behind out₀ o k → Rows w n at count out₀ o k out₀ at o k count
  rows_start r v = record { left = r; behind = v; same = refl; to = λ ds out' q' c' x. x }

  module _ {out : List ℤ} {p q c : ℕ} where
    pub rows_row : {next : ℕ} (rest : ℕ) → Rows w n at count out₀ o k out p q c rest → (rest ≡ 0 → ⊥) → next ≡ end_at w p → next ≤ folded_end → Row w n p next (rest - 1)
    unfolding PairsFit
    rows_row zero g z e l = absurd (z refl)
    rows_row (suc i) g z e l = rw (sub-one (suc i), e) (record { size = g.left.size; low = g.left.low; first = g.left.place; place = rw (← e) l; fits = g.left.fits.0 })

    pub rows_next : {out' : List ℤ} {next q' c' : ℕ} (rest : ℕ) → Rows w n at count out₀ o k out p q c rest → (rest ≡ 0 → ⊥) → next ≡ end_at w p → next ≤ folded_end → PutRow w n p next (rest - 1) out q c out' q' c' → Rows w n at count out₀ o k out' next q' c' (rest - 1)
    unfolding PairsFit pairs_words pair_count
    rows_next zero g z e l x = absurd (z refl)
    rows_next {out'} {next} {q'} {c'} (suc i) g z e l x =
        let y : PutRow w n p (end_at w p) i out q c out' q' c' = rw (← e) (rw (sub-one (suc i)) at x) in
        rw (sub-one (suc i), e) (record {
          left = record { size = g.left.size; low = g.left.low; place = rw (← e) l; fits = g.left.fits.1 };
          behind = y.behind;
          same = wrote_length (y.puts []).words ∙ g.same;
          to = λ ds out'' q'' c'' u. g.to ds out'' q'' c'' (puts_then g.behind.room.room (y.puts ds) u);
        })

    pub rows_end : (rest : ℕ) → Rows w n at count out₀ o k out p q c rest → rest ≡ 0 → PutPairs w n at count out₀ o k out q c
    unfolding pairs_words pair_count
    rows_end zero g z = record { puts = λ ds. g.to ds out q c (puts_none g.behind); behind = g.behind }
    rows_end (suc i) g z = absurd (omega arith)

    pub rows_stop : {rest : ℕ} → Rows w n at count out₀ o k out p q c rest → q ≡ cap → PutPairs w n at count out₀ o k out q c
    rows_stop {rest} g e = record { puts = λ ds. g.to ds out q c (puts_stop g.behind e _ (pair_count rest)); behind = g.behind }
