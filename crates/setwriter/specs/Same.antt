-- Writing a table's clauses changes words of the work slice from its table's place on alone: what the second walk by final maps asks of a slice holds of any
-- other with the same words below it.
use Rattle.std.specs.Prelude.{◌≡◌, refl, Bool, ℕ, ◌+◌, ◌*◌, ◌≤◌, ◌<◌, ℤ, pos, get_or, take}
use Rattle.std.proofs.Math.Path.{sym, ap}
use Rattle.std.proofs.Common.{◌∙◌, arith, get_or-take}
use Rattle.std.proofs.Math.Bool.{not}
use Rattle.std.proofs.Math.Option.{some}
use mathlib.Core.List.{List, [], ◌∷◌}
use Rattle.std.proofs.Math.ListN.{length}
use Rattle.std.proofs.Math.Seq.{take-take}
use Rattle.laws.specs.Ints.{is_zero}
use Rattle.memory.specs.Places.{folded_end, bool_map, int_map, cells, ifs_word, declared_domains, table as table-place, limit}
use Rattle.memory.specs.Number.{nat}
use Rattle.syntax.specs.Syntax.{Domain, IntExpr, encode_int, Stmt, Rule, Table, AllDifferent, encode_stmt}
use Rattle.syntax.specs.Words.{max_bools, max_ints}
use Rattle.clauses.specs.Clause.{BoolLit}
use Rattle.clauses.specs.Log.{Log, get_bool_var, get_int_var}
use Rattle.different.specs.Different.{values_used_up}
use Rattle.walk.specs.Item.{bool_at, int_entry}
use Rattle.walk.specs.Decode.{read_part}
use Rattle.walks.specs.Item.{has_ifs, cell}
use Rattle.walks.specs.Implements.{at, Ready}
use Rattle.declared.specs.DomainTable.{Declares, word_at}
use Rattle.stages.specs.StatementsParts.{Stage, Owned, Own, OwnedIn, AllOwn, AllWalk}
use Rattle.stages.specs.TableStage.{table_stage}
use Rattle.stages.specs.Pairs.{row_stages, pairs_stages}
use Rattle.stages.specs.Different.{values_stages, different_stages}
use Rattle.stages.specs.Statements.{stmt_stages}

pub record Same (w w' : List ℤ) : Type 0 where
  pub below : take table-place w' ≡ take table-place w
  pub size : length w' ≡ length w

pub same_none : (w : List ℤ) → Same w w
same_none w = record { below = refl; size = refl }

pub same_then : {a b c : List ℤ} → Same a b → Same b c → Same a c
same_then x y = record { below = y.below ∙ x.below; size = y.size ∙ x.size }

-- a log's maps are those of declared variables
pub record Declared (s : Log) : Type 0 where
  pub bools : (v : ℕ) (l : BoolLit) → get_bool_var v s ≡ some l → v < max_bools
  pub ints : (v n : ℕ) → get_int_var v s ≡ some n → v < max_ints

module _ {w w' : List ℤ} (same : Same w w') where
  pub word_same : (k : ℕ) → k < table-place → get_or w' k (pos 0) ≡ get_or w k (pos 0)
  word_same k h = sym (get_or-take table-place w' k (pos 0) h) ∙ ap (λ (x : List ℤ). get_or x k (pos 0)) same.below ∙ get_or-take table-place w k (pos 0) h

  pub part_same : read_part w' ≡ read_part w
  unfolding read_part
  part_same = sym (take-take folded_end table-place w' (omega arith)) ∙ ap (take folded_end) same.below ∙ take-take folded_end table-place w (omega arith)

  pub ifs_same : has_ifs w' ≡ has_ifs w
  unfolding has_ifs
  ifs_same = ap (λ (z : ℤ). not (is_zero z)) (word_same ifs_word (omega arith))

  pub cell_same : (p : ℕ) → p ≤ folded_end + 3 → cell w' p ≡ cell w p
  unfolding cell
  cell_same p h = word_same (cells + p) (omega arith)

  pub bool_same : (v : ℕ) → v < max_bools → bool_at w' v ≡ bool_at w v
  unfolding bool_at
  bool_same v h = word_same (bool_map + v) (omega arith)

  pub int_same : (v : ℕ) → v < max_ints → int_entry w' v ≡ int_entry w v
  unfolding int_entry
  int_same v h = ap nat (word_same (int_map + v) (omega arith))

  told_same : (v k : ℕ) → v < max_ints → k < 3 → word_at w' v k ≡ word_at w v k
  unfolding word_at
  told_same v k h i = word_same (declared_domains + 3 * v + k) (omega arith)

  pub declares_same : (ds : List Domain) → Declares ds w → Declares ds w'
  declares_same ds h v i = rw (told_same v 0 i (omega arith), told_same v 1 i (omega arith), told_same v 2 i (omega arith)) (h v i)

  pub ready_same : (s : Log) → Declared s → Ready w s → Ready w' s
  ready_same s d r = record {
    fit = record {
      agree = λ v l h. bool_same v (d.bools v l h) ∙ r.fit.agree v l h;
      agree_int = λ v n h. int_same v (d.ints v n h) ∙ r.fit.agree_int v n h;
      small = r.fit.small;
    };
    ints = r.ints;
  }

  pub at_same : (s : Log) → at w' s ≡ at w s
  at_same s = rw ifs_same refl

  own_same : (a : ℕ) → a ≤ folded_end → (os : List Owned) → OwnedIn a os → Own w os → Own w' os
  own_same a l [] i o = tt
  own_same a l (x ∷ os) i o = (cell_same x.place (omega (arith, i.0.1)) ∙ o.0, own_same a l os i.1 o.1)

-- ---- an AllDifferent has no cells of its own

module _ (ds : List Domain) (rec cap : ℕ) (w : List ℤ) where
  abbrev NoOwn : List Stage → Type 0
  NoOwn xs = (s : Log) → AllOwn w xs s

  row_none : (stop : ℕ) (a : IntExpr) (p : ℕ) (bs : List IntExpr) (q : ℕ) (xs : List Stage) → NoOwn xs → NoOwn (row_stages ds rec cap stop a p bs q xs)
  unfolding row_stages AllOwn
  row_none stop a p [] q xs h s = h s
  row_none stop a p (b ∷ bs) q xs h s = (tt, row_none stop a p bs (q + length (encode_int b)) xs h _)

  pairs_none : (stop : ℕ) (es : List IntExpr) (p : ℕ) (xs : List Stage) → NoOwn xs → NoOwn (pairs_stages ds rec cap stop es p xs)
  unfolding pairs_stages
  pairs_none stop [] p xs h = h
  pairs_none stop (e ∷ es) p xs h = let q = p + length (encode_int e) in row_none stop e p es q (pairs_stages ds rec cap stop es q xs) (pairs_none stop es q xs h)

  values_none : (es : List IntExpr) (stop : ℕ) (vs : List ℤ) → NoOwn (values_stages ds es stop [] vs)
  unfolding values_stages AllOwn
  values_none es stop [] s = tt
  values_none es stop (v ∷ vs) s = (tt, values_none es stop vs _)

  different_none : (es : List IntExpr) (p stop : ℕ) → NoOwn (different_stages ds rec cap es p stop [])
  unfolding different_stages
  different_none es p stop = pairs_none stop es p (values_stages ds es stop [] (values_used_up ds es)) (values_none es stop (values_used_up ds es))

-- the own cells of a statement at q
module _ (ds : List Domain) (F : List ℤ) (parted : ℕ → Bool) (rec cap : ℕ) (with_ifs : Bool) (before : List ℤ) (low : cap < limit) {w w' : List ℤ} (same : Same w w') where
  pub owned_same : (q : ℕ) (t : Stmt) → q + length (encode_stmt t) ≤ folded_end → AllWalk ds F parted rec cap with_ifs before low (stmt_stages ds rec cap F q t []) → (s : Log) → AllOwn w (stmt_stages ds rec cap F q t []) s → AllOwn w' (stmt_stages ds rec cap F q t []) s
  unfolding stmt_stages AllOwn
  owned_same q (Rule e) l k s o = (tt, tt)
  owned_same q (Table es rows) l k s o = (own_same same (q + length (encode_stmt (Table es rows))) l ((table_stage ds rec cap F es rows q).owns s) (k.0.owned_in s) o.0, tt)
  owned_same q (AllDifferent es) l k s o = different_none ds rec cap w' es (q + 2) (q + length (encode_stmt (AllDifferent es))) s
