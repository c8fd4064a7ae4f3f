-- The work slice before merging, with empty maps, and the words of maps.
use Rattle.std.specs.Prelude.{◌≡◌, refl, Bool, List, [], map, ℕ, zero, suc, ◌+◌, ◌≤◌, ◌<◌, ℤ, pos, length}
use Rattle.std.proofs.Common.{sym, arith}
use Rattle.std.proofs.Math.Option.{Option, none, some}
use Rattle.laws.specs.Lists.{from}
use Rattle.syntax.specs.Syntax.{Stmt}
use Rattle.syntax.specs.Words.{max_bools, min_work_words, max_ints}
use Rattle.clauses.specs.Clause.{BoolLit}
use Rattle.clauses.specs.Log.{get_bool_var, get_int_var, clauses_of}
use Rattle.clauses.proofs.MergeLaws.{merged_no_clauses}
use Rattle.answer.specs.Answer.{map_word, bool_word, start_log}
use Rattle.answer.proofs.Start.{start_well}
use Rattle.walk.specs.Item.{bool_at, int_entry, State}
use Rattle.walk.proofs.Num.{code, Numbered}

pub record Empty (w : List ℤ) : Type 0 where
  pub bools : (v : ℕ) → v < max_bools → bool_at w v ≡ pos 0
  pub ints : (v : ℕ) → v < max_ints → int_entry w v ≡ 0
  pub size : min_work_words ≤ length w

-- n: how many Booleans have a number already
abbrev pub start : List ℤ → ℕ → State
start w n = record { work = w; bools = n; ints = 0 }

pub start_numbered : (w : List ℤ) → Empty w → Numbered (start w 0) []
unfolding get_bool_var get_int_var
start_numbered w h = record {
  map = λ v k. h.bools v k;
  map_int = λ v k. h.ints v k;
  bools = refl;
  low = λ v n e. absurd (let z : ◌≡◌ {A = ℕ} 0 1 = cc in omega arith);
  size = h.size;
}

-- ---- the words of the maps

map_code : (o : Option ℕ) → map_word o ≡ pos (code o)
map_code none = refl
map_code (some n) = refl

-- the words of the integer map, from its entries
pub entries : (entry : ℕ → ℕ) (look : ℕ → Option ℕ) (i n : ℕ) → ((v : ℕ) → v < i + n → entry v ≡ code (look v)) → map map_word (map look (from i n)) ≡ map (λ v. pos (entry v)) (from i n)
entries entry look i zero h = refl
entries entry look i (suc n) h = rw (map_code (look i), sym (h i (omega arith)), entries entry look (suc i) n (λ v k. h v (omega arith))) refl

-- the words of the Boolean map
pub words_at : (word : ℕ → ℤ) (look : ℕ → Option BoolLit) (i n : ℕ) → ((v : ℕ) → v < i + n → word v ≡ bool_word (look v)) → map bool_word (map look (from i n)) ≡ map word (from i n)
words_at word look i zero h = refl
words_at word look i (suc n) h = rw (sym (h i (omega arith)), words_at word look (suc i) n (λ v k. h v (omega arith))) refl

-- before any clause
pub start_none : (m : Bool) (ss : List Stmt) → clauses_of (start_log m ss) ≡ []
start_none m ss = merged_no_clauses (start_log m ss) (start_well m ss)
