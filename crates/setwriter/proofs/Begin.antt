-- A slice whose maps and cells are empty again: merging asks no more of it, and what it leaves is where the walks begin.
use mathlib.Core.Path.{◌≡◌, refl, sym, ap, ◌∙◌, subst}
use mathlib.Core.Bool.{Bool, not}
use mathlib.Core.List.{List, [], ◌∷◌, ◌++◌, append_assoc}
use Prim.Native.Nat.{ℕ, suc, ◌+◌, ◌-◌, ◌≤◌, ◌<◌}
use native.Mathlib.Omega.{arith}
use lib.IntN.{ℤ, pos}
use lib.ListN.{length, get_or, take, drop, set, length-replicate, get_or-replicate}
use lib.Seq.{sets, sets-eq, length-sets, length-take-le, get_or-take, get_or-set_other, take-append_seam}
use Rattle.laws.specs.Ints.{is_zero}
use Rattle.laws.specs.Slices.{zeros, has_sets, has_nth}
use Rattle.memory.specs.Places.{folded as folded-place, folded_end, bool_map, int_map, cells, ifs_word}
use Rattle.memory.specs.Cleared.{cleared}
use Rattle.memory.specs.Number.{nat}
use Rattle.syntax.specs.Syntax.{Stmt, Problem}
use Rattle.syntax.specs.Words.{max_bools, min_work_words}
use Rattle.fold.specs.Fold.{Fixed}
use Rattle.answer.specs.Answer.{start_log}
use Rattle.answer.proofs.Start.{start_well}
use Rattle.walk.specs.Item.{bool_at, int_entry}
use Rattle.walk.specs.Decode.{read_part}
use Rattle.walks.specs.Item.{has_ifs, cell}
use Rattle.statements.specs.Stages.{Folded, SomeFolded}
use Rattle.stages.specs.Start.{Begun}
use Rattle.stages.specs.StartTies.{tied_begun}
use Rattle.merging.specs.Merging.{MergedAll}
use Rattle.setwriter.specs.Begin.{Settles, Begins}

sets_behind : (out : List ℤ) (o : ℕ) (us : List ℤ) (j : ℕ) → o + length us ≤ j → get_or (sets out o us) j (pos 0) ≡ get_or out j (pos 0)
sets_behind out o [] j h = refl
sets_behind out o (u ∷ us) j h = sets_behind (set out o u) (suc o) us j (omega arith) ∙ get_or-set_other out o j u (pos 0) (λ e. omega arith)

module _ (w : List ℤ) (long : min_work_words ≤ length w) where
  abbrev blank : List ℤ
  blank = sets w bool_map (zeros (ifs_word - bool_map))

  abbrev many : length (zeros (ifs_word - bool_map)) ≡ 4868
  many = length-replicate 4868 (pos 0)

  pub blank_size : length blank ≡ length w
  blank_size = length-sets w bool_map (zeros (ifs_word - bool_map))

  is_blank : cleared w bool_map ifs_word ≡ blank
  unfolding cleared
  is_blank = refl

  part : read_part blank ≡ read_part w
  unfolding read_part
  part =
      let n : length (take folded_end w) ≡ folded_end = length-take-le folded_end w (omega (arith, long)) in
      let none : List ℤ = zeros (ifs_word - bool_map) in
      let last : List ℤ = drop (bool_map + length none) w in
      let rest : List ℤ = none ++ last in
      ap (take folded_end) (sets-eq none w bool_map (omega (arith, many, long)) ∙ append_assoc (take folded_end w) none last) ∙ ap (λ (k : ℕ). take k (take folded_end w ++ rest)) (sym n) ∙ take-append_seam (take folded_end w) rest

  word_low : (k : ℕ) → k < folded_end → get_or blank k (pos 0) ≡ get_or w k (pos 0)
  unfolding read_part
  word_low k h = sym (get_or-take folded_end blank k (pos 0) h) ∙ ap (λ (x : List ℤ). get_or x k (pos 0)) part ∙ get_or-take folded_end w k (pos 0) h

  word_none : (i : ℕ) → i < 4868 → get_or blank (bool_map + i) (pos 0) ≡ pos 0
  word_none i h =
      has_nth blank bool_map (zeros (ifs_word - bool_map)) i (pos 0) (has_sets w bool_map (zeros (ifs_word - bool_map)) (omega (arith, many, long))) (omega (arith, many))
      ∙ get_or-replicate 4868 i (pos 0) (pos 0) h

  word_behind : (k : ℕ) → ifs_word ≤ k → get_or blank k (pos 0) ≡ get_or w k (pos 0)
  word_behind k h = sets_behind w bool_map (zeros (ifs_word - bool_map)) k (omega (arith, many))

  module _ (p : Problem) (f : Fixed) (ss : List Stmt) (end : ℕ) (h : Settles p f ss w end) where
    folded : Folded p f ss blank
    unfolding bool_at int_entry nat
    folded = record {
      set = h.set;
      values = λ v l. word_low v (omega arith) ∙ h.values v l;
      stands = rw part h.stands;
      empty = record {
        bools = λ v l. word_none v (omega arith);
        ints = λ v l.
            let e : int_map + v ≡ bool_map + (max_bools + v) = omega arith in
            ap nat (ap (λ (k : ℕ). get_or blank k (pos 0)) e ∙ word_none (max_bools + v) (omega arith));
        size = omega (arith, blank_size, long);
      };
    }

    pub some_folded : SomeFolded (cleared w bool_map ifs_word) end
    some_folded = subst (λ (l : List ℤ). SomeFolded l end) (sym is_blank) (record { it = p; fixed = f; stmts = ss; folded = folded; ends = h.ends })

    module _ (merge : Bool) (w' : List ℤ) (n : ℕ) (m : MergedAll merge blank end w' n) where
      no_cell : (k : ℕ) → folded-place < k → k ≤ folded_end → cell w' k ≡ pos 0
      unfolding cell
      no_cell k a b =
          let e : cells + k ≡ bool_map + (256 + k) = omega arith in
          m.aside.behind (cells + k) (omega arith) ∙ ap (λ (j : ℕ). get_or blank j (pos 0)) e ∙ word_none (256 + k) (omega arith)

      same_word : has_ifs w' ≡ has_ifs w
      unfolding has_ifs
      same_word = ap (λ (z : ℤ). not (is_zero z)) (m.aside.behind ifs_word (omega arith) ∙ word_behind ifs_word (omega arith))

      begun_there : Begun (read_part w) (has_ifs w) w' n (start_log merge ss)
      begun_there = tied_begun (read_part w) (has_ifs w) w' n (start_log merge ss) (start_well merge ss) (m.started p f ss folded h.ends).numbered (record { words = m.aside.part ∙ part; word = same_word; cells = no_cell })

  -- x: the slice between
  pub begins : {x : List ℤ} {end : ℕ} {merge : Bool} {w' : List ℤ} {n : ℕ} → x ≡ cleared w bool_map ifs_word → MergedAll merge x end w' n → Begins merge w end w' n
  begins {x} {end} {merge} {w'} {n} e y =
      let m : MergedAll merge blank end w' n = subst (λ (l : List ℤ). MergedAll merge l end w' n) (e ∙ is_blank) y in
      record {
        begun = λ p f ss h. begun_there p f ss end h merge w' n m;
        part = m.aside.part ∙ part;
        behind = λ k l. m.aside.behind k (omega arith) ∙ word_behind k l;
        size = m.aside.size ∙ blank_size;
      }
