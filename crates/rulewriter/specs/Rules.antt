-- The rule of an expression: what is written of it are the words and the clauses of its trees, whatever the declared domains (stages' `rule_stage`).
use Rattle.std.specs.Prelude.{◌≡◌, false, List, [], ℕ, ◌+◌, ◌≤◌, ℤ, length}
use Rattle.std.proofs.Common.{sym, ap, ◌∙◌, subst, arith}
use Rattle.laws.specs.Slices.{Has}
use Rattle.memory.specs.Places.{limit}
use Rattle.syntax.specs.Syntax.{Domain, BoolExpr, encode_bool}
use Rattle.walk.specs.Item.{bump}
use Rattle.walk.specs.Decode.{read_part}
use Rattle.walk.specs.declared.Counters.{Counters}
use Rattle.walks.specs.Tree.{below, splits}
use Rattle.walks.specs.Form.{Forms, forms}
use Rattle.walks.specs.Resolve.{rule_trees}
use Rattle.walks.specs.Legal.{LegalRule}
use Rattle.walks.specs.Item.{Item, counters, more_bools, form_items, items}
use Rattle.walks.specs.DecodeExact.{rule_at, RuleStands, rule_stands}
use Rattle.walks.specs.SumsFit.{FormsFit}
use Rattle.scan.specs.Skip.{Skips}
use Rattle.rulewriter.specs.Domains.{same_items}
use Rattle.rulewriter.specs.Places.{AllFit}
use Rattle.rulewriter.specs.Making.{Listed}
use Rattle.rulewriter.specs.Ties.{Blocks, behind_rule}
use Rattle.rulewriter.specs.declared.Tied.{Tied}

module _ (w : List ℤ) (e : BoolExpr) (at : ℕ) (n : Counters) (legal : LegalRule e 64) (words : Has (read_part w) at (encode_bool e)) (room : n.bools + splits e below ≤ limit) where
  abbrev trees : Forms
  trees = forms (rule_trees e at n.bools)

  stands : RuleStands e (read_part w) 64 at n.bools
  stands = rule_stands e (read_part w) 64 at n.bools legal words room

  same_counters : behind_rule w at n ≡ more_bools (splits e below) n
  same_counters =
      let x : n.bools + splits e below ≡ bump n.bools (splits e below) = omega (arith, room) in
      ap (λ (k : ℕ). counters k n.ints) (stands.next ∙ x)

  -- what is asked of its sums
  pub rule_asked : (ds : List Domain) → FormsFit ds trees → AllFit (rule_at (read_part w) 64 at n.bools)
  rule_asked ds h = record { domains = ds; fits = subst (λ (ts : Forms). FormsFit ds ts) (sym stands.trees) h }

  -- text, clauses and counters of its part
  pub rule_listed : (ds : List Domain) {out out' : List ℤ} {o : ℕ} (r : Tied) → Blocks w (rule_at (read_part w) 64 at n.bools) (behind_rule w at n) out o out' r
      → Listed w (items ds (rule_trees e at n.bools)) (more_bools (splits e below) n) out o out' r.n r.lines r.o
  rule_listed ds {out} {out'} {o} r x =
      let k = more_bools (splits e below) n in
      let a = subst (λ (ts : Forms). Listed w (form_items [] ts) (behind_rule w at n) out o out' r.n r.lines r.o) stands.trees x.listed in
      let b = subst (λ (c : Counters). Listed w (form_items [] trees) c out o out' r.n r.lines r.o) same_counters a in
      subst (λ (is : List Item). Listed w is k out o out' r.n r.lines r.o) (same_items [] ds trees) b

  -- where its words end
  pub rule_ends : (q b : ℕ) → Skips (read_part w) 64 below at n.bools q b → q ≡ at + length (encode_bool e)
  rule_ends q b s = s.end false ∙ stands.end
