-- Trees whose clauses are added one after another: the words that the second walk writes of them, what their Ifs add before each tree's own, are those of
-- the clauses that the log has more. w: a work slice with the maps of the log behind them and the Ifs' numbers by place.
use Rattle.std.specs.Prelude.{◌≡◌, List, [], ◌∷◌, ◌++◌, ℕ, ℤ}
use Rattle.std.proofs.Math.Path.{refl, ap}
use Rattle.std.proofs.Common.{◌∙◌}
use Rattle.syntax.specs.Syntax.{Domain}
use Rattle.clauses.specs.Log.{Log, clauses_of}
use Rattle.clauses.specs.Normalize.{register}
use Rattle.walk.specs.Item.{bump}
use Rattle.walk.specs.declared.Counters.{Counters}
use Rattle.walks.specs.Tree.{Tree, Trees, nil, cons, run, registers}
use Rattle.walks.specs.Form.{form}
use Rattle.walks.specs.Item.{form_item, Item, counts, block_words, block_lines, items, item}
use Rattle.walks.specs.Placed.{Placed}
use Rattle.walks.specs.Grow.{register_grow}
use Rattle.walks.specs.Implements.{Proper, Propers, at, Ready, ready_back, Registers, registers_same, registers_after, ImplementsAt, block_adds, item_good}

unfoldable pub written : List Item → List ℤ → Counters → List ℤ
written [] w n = []
written (i ∷ is) w n = block_words i w n ++ written is w (i.count w n)

unfoldable pub written_lines : List Item → List ℤ → Counters → ℕ
written_lines [] w n = 0
written_lines (i ∷ is) w n = bump (block_lines i w n) (written_lines is w (i.count w n))

-- ds: the declared domains
module _ (w : List ℤ) (ds : List Domain) where
  -- each tree at the log where its run starts
  unfoldable pub PlacedRegisters : Trees → Log → Type 0
  PlacedRegisters nil s = Unit {0}
  PlacedRegisters (cons t ts) s = Placed w ds t s × PlacedRegisters ts (register (run ds t s))

  -- the first of them
  first_at : (t : Tree) (ts : Trees) → Propers (cons t ts) → (s : Log) → Ready w (registers ds (cons t ts) s) → PlacedRegisters (cons t ts) s → ImplementsAt w (item ds t) s (run ds t s)
  unfolding Proper PlacedRegisters
  first_at t ts p s r n = (item_good w ds t p.0).from s (ready_back (register_grow ds t ts s) r) n.0

  pub written_counts : (ts : Trees) → Propers ts → (s : Log) → Ready w (registers ds ts s) → PlacedRegisters ts s → counts (items ds ts) w (at w s) ≡ at w (registers ds ts s)
  unfolding Proper PlacedRegisters form_item form counts registers register
  written_counts nil p s r n = refl
  written_counts (cons t ts) p s r n = ap (counts (items ds ts) w) (first_at t ts p s r n).count ∙ written_counts ts p.1 (register (run ds t s)) r n.1

  pub written_adds : (ts : Trees) → Propers ts → (s : Log) → Ready w (registers ds ts s) → PlacedRegisters ts s
      → Registers (written (items ds ts) w (at w s)) (written_lines (items ds ts) w (at w s)) s (registers ds ts s)
  unfolding Proper PlacedRegisters form_item form written written_lines registers register clauses_of
  written_adds nil p s r n = registers_same s s refl
  written_adds (cons t ts) p s r n =
      let x = first_at t ts p s r n in
      registers_after (written (items ds ts) w) (written_lines (items ds ts) w) x.count (block_adds w {t = register (run ds t s)} x refl) (written_adds ts p.1 (register (run ds t s)) r n.1)
