-- The statement at q by the final maps, where no If stands: what writing it asks, and from what is written to the log behind it. Assumes nothing.
use mathlib.Core.Path.{◌≡◌, refl, sym, ap, ◌∙◌, subst}
use mathlib.Core.Bool.{false}
use mathlib.Core.List.{List, [], ◌++◌, append-nil}
use Prim.Native.Nat.{ℕ, ◌+◌, ◌≤◌}
use native.Mathlib.Omega.{arith}
use lib.IntN.{ℤ}
use lib.ListN.{length}
use Rattle.laws.specs.Bools.{never}
use Rattle.laws.specs.Writes.{wrote_to}
use Rattle.memory.specs.Places.{folded, folded_end}
use Rattle.syntax.specs.Syntax.{Domain, IntExpr, BoolExpr, Stmt, Rule, Table, AllDifferent, encode_stmt}
use Rattle.clauses.specs.Log.{Log, next_bool}
use Rattle.clauses.proofs.Since.{clauses_since, since_is}
use Rattle.answer.specs.Answer.{normalize_stmt}
use Rattle.walk.specs.Item.{bump}
use Rattle.walk.specs.Decode.{word, read_part}
use Rattle.walk.specs.declared.Counters.{Counters}
use Rattle.walk.proofs.Grow.{Grows}
use Rattle.walks.specs.Tree.{below, splits}
use Rattle.walks.specs.Implements.{at, Ready, ready_back, Registers, registers_to}
use Rattle.scan.specs.IfLaws.{Low}
use Rattle.stages.specs.StatementsParts.{Stage, parts, parts_text, parts_lines, NoIfs}
use Rattle.stages.specs.StatementsPlaces.{parted_of}
use Rattle.stages.specs.StatementsTrees.{splits_within}
use Rattle.stages.specs.StatementsEach.{parts_behind, stmt_written}
use Rattle.stages.specs.Statements.{stmt_stages}
use Rattle.stages.specs.StartFits.{StmtWithin}
use Rattle.stmtwords.specs.Stands.{Stands as StmtStands, StmtEnds}
use Rattle.stmtwords.proofs.Words.{DifferentWords}
use Rattle.differing.specs.Rows.{Puts}
use Rattle.differing.specs.Values.{Over}
use Rattle.differing.specs.Different.{different_words, different_lines, SomeDifferent, PutDifferent}
use Rattle.differing.specs.Text.{Sides, sides, different_text, different_part_lines, different_behind, different_asked}
use Rattle.tablewriter.proofs.Tables.{registers_clauses}
use Rattle.rows.specs.Emit.{Clauses}
use Rattle.rows.proofs.Looping.{clauses_to}
use Rattle.setwriter.specs.Statements.{first_grows}
use Rattle.setwriter.specs.Same.{same_none}
use Rattle.setwriter.specs.Step.{Place, after, Mapped, Did}
use Rattle.setwriter.specs.One.{rule_part, RuleAt, OneAt, Counted, DidOne}
use Rattle.setwriter.specs.TableAsks.{mapped_table}
use Rattle.setwriter.proofs.Places.{inside, stops, words, stands, is_different, not_different, different_stands, different_places, different_stops, different_over}

-- words and the count of m clauses
puts_clauses : {ws : List ℤ} {m : ℕ} {s t : Log} (r : Registers (ws ++ []) (bump m 0) s t) → {out out' : List ℤ} {o k o' k' : ℕ} → k ≤ o → Puts out o k ws m out' o' k' → Clauses out o k r.cs out' o' k'
puts_clauses {ws} r {o' = o'} b p =
    let x = registers_clauses r b (wrote_to (sym (append-nil ws)) p.words) _ refl in
    record { words = x.words; count = λ l. omega (arith, p.count l, p.low, x.count l); low = p.low }

module _ {x : Place} {set w : List ℤ} {q : ℕ} {n : Counters} (h : Mapped x set w q n) where
  abbrev ds : List Domain
  ds = x.problem.domains

  abbrev F : List ℤ
  F = read_part w

  abbrev s : Log
  s = x.before

  pub mapped_stands : StmtStands w q x.stmt
  mapped_stands = stands x set w q false h.stands

  no_ifs : NoIfs (read_part w) x.end
  no_ifs p e i k l m = never (h.stands.lent.marked p e i k l m)

  grows : Grows s (normalize_stmt ds x.stmt s)
  grows = first_grows x.merge x.problem x.fixed x.stmts set F x.end false h.stands.lent q s x.stmt x.later h.stands.left

  -- ---- its stages; what is written is stated for a statement t

  abbrev stages : Stmt → List Stage
  stages t = stmt_stages ds h.rec h.cap F q t []

  abbrev Adds : Stmt → Type 0
  Adds t = Registers (parts_text (parts (stages t)) w (at w s)) (parts_lines (parts (stages t)) w (at w s)) s (normalize_stmt ds t s)

  abbrev Counts : Stmt → Type 0
  Counts t = parts_behind (parts (stages t)) w (at w s) ≡ at w (normalize_stmt ds t s)

  written : Adds x.stmt × Counts x.stmt
  written =
      let l = h.stands.left in
      let m = h.stands.lent.marked in
      let y = stmt_written ds F (parted_of folded x.stmts) h.rec h.cap false [] h.low x.end (inside x set w q false h.stands) m q x.stmt x.later l.legal l.parted (words x set w q false h.stands) l.from (stops x set w q false h.stands) no_ifs w s h.ready h.owned in
      (y.adds, y.behind)

  -- ---- a rule or a table

  rule_adds : (e : BoolExpr) → Adds (Rule e) → Registers ((rule_part ds e q).text w (at w s) ++ []) (bump ((rule_part ds e q).lines w (at w s)) 0) s (normalize_stmt ds (Rule e) s)
  unfolding stmt_stages parts_text parts_lines
  rule_adds e a = a

  rule_counts : (e : BoolExpr) → Counts (Rule e) → (rule_part ds e q).behind w (at w s) ≡ at w (normalize_stmt ds (Rule e) s)
  unfolding stmt_stages parts_behind
  rule_counts e b = b

  mapped_rule : (e : BoolExpr) → x.stmt ≡ Rule e → RuleAt ds e s w q n
  mapped_rule e i =
      let r : Ready w (normalize_stmt ds (Rule e) s) = subst (λ (t : Stmt). Ready w (normalize_stmt ds t s)) i h.ready in
      let v : next_bool s + splits e below ≤ next_bool (normalize_stmt ds (Rule e) s) = unfold normalize_stmt in splits_within ds e s in
      subst (λ (m : Counters). RuleAt ds e s w q m) (sym h.counters) (record {
        stands = subst (λ (t : Stmt). StmtStands w q t) i mapped_stands;
        within = subst (λ (t : Stmt). StmtWithin ds t) i h.stands.left.within.0;
        room = omega (arith, v, r.fit.small);
        ints = rw h.stands.word (omega arith);
        size = omega (arith, h.stands.size);
        adds = rule_adds e (subst Adds i written.0);
      })

  pub mapped_one : (word (read_part w) q ≡ 3 → ⊥) → OneAt x.problem.domains x.before set w q n x.stmt
  mapped_one z = go x.stmt refl
    where
      go : (t : Stmt) → x.stmt ≡ t → OneAt ds s set w q n t
      go (Rule e) i = mapped_rule e i
      go (Table es rows) i = mapped_table x es rows i set w q n h
      go (AllDifferent es) i = not_different x set w q false h.stands z es i

  one_counters : (word F q ≡ 3 → ⊥) → (t : Stmt) → x.stmt ≡ t → {m : Counters} → Counted ds s w q n m t → m ≡ at w (after x)
  one_counters z (Rule e) i c =
      c ∙ ap ((rule_part ds e q).behind w) h.counters ∙ rule_counts e (subst Counts i written.1) ∙ ap (λ (t : Stmt). at w (normalize_stmt ds t s)) (sym i)
  one_counters z (Table es rows) i c = c ∙ ap (λ (t : Stmt). at w (normalize_stmt ds t s)) (sym i)
  one_counters z (AllDifferent es) i c = not_different x set w q false h.stands z es i

  pub mapped_did : (word (read_part w) q ≡ 3 → ⊥) → {out w' out' : List ℤ} {o k next : ℕ} {m : Counters} {o' k' : ℕ} → DidOne x.problem.domains x.stmt x.before w q n out o k w' out' next m o' k' → Did x w q out o k w' out' next m o' k'
  mapped_did z d = record { next_is = d.next_is; counters = one_counters z x.stmt refl d.counters; clauses = d.clauses; same = d.same }

  -- ---- an AllDifferent

  module _ (es : List IntExpr) (i : x.stmt ≡ AllDifferent es) where
    abbrev stop : ℕ
    stop = q + length (encode_stmt (AllDifferent es))

    places : DifferentWords F q es
    places = different_places x set w q false h.stands es i

    ends : stop ≤ x.end
    ends = different_stops x set w q false h.stands es i

    over : Over set w (q + 2) (length es) ds es
    over = different_over x set w q false h.stands es i

    low : Low (at w s)
    low = let r = ready_back grows h.ready in (r.fit.small, rw h.stands.word (omega arith))

    sides_here : Sides w (q + 2) es
    sides_here = sides w x.end no_ifs es (q + 2) (length es) over.standing (omega (arith, h.stands.left.from)) (omega (arith, places.size, ends))

    mapped_asked : SomeDifferent set w n (q + 2) (length es)
    mapped_asked =
        let y = subst (λ (t : Stmt). StmtWithin ds t) i h.stands.left.within.0 in
        subst (λ (m : Counters). SomeDifferent set w m (q + 2) (length es)) (sym h.counters)
        (different_asked w h.stands.word ds (at w s) low set es (q + 2) (length es) x.end over no_ifs (omega (arith, h.stands.left.from)) (omega (arith, places.size, ends)) (inside x set w q false h.stands) y)

    -- the words as they are written
    adds : Registers (different_words ds w (at w s) (q + 2) es ++ []) (bump (different_lines ds es) 0) s (normalize_stmt ds (AllDifferent es) s)
    unfolding stmt_stages parts_text parts_lines
    adds =
        let a : Adds (AllDifferent es) = subst Adds i written.0 in
        let t = different_text w h.stands.word ds (at w s) low h.rec h.cap stop es (q + 2) [] sides_here in
        let z : parts_lines (parts []) w (at w s) ≡ 0 = refl in
        let l = different_part_lines w h.stands.word ds (at w s) low h.rec h.cap stop es (q + 2) [] sides_here (omega (arith, z)) in
        registers_to (sym t) (sym l) a

    still : at w s ≡ at w (normalize_stmt ds (AllDifferent es) s)
    unfolding stmt_stages
    still =
        let b : Counts (AllDifferent es) = subst Counts i written.1 in
        sym (different_behind w h.stands.word ds (at w s) low h.rec h.cap stop es (q + 2) sides_here) ∙ b

    mapped_different : {out out' : List ℤ} {o k next o' k' : ℕ} → PutDifferent set w n (q + 2) (length es) out o k out' o' k' → k ≤ o → next ≡ q + length (encode_stmt (AllDifferent es)) → Did x w q out o k w out' next n o' k'
    mapped_different {out} {out'} {o} {k} {next} {o'} {k'} p b e =
        let t = AllDifferent es in
        let a : Registers (different_words ds w n (q + 2) es ++ []) (bump (different_lines ds es) 0) s (normalize_stmt ds t s) = subst (λ (m : Counters). Registers (different_words ds w m (q + 2) es ++ []) (bump (different_lines ds es) 0) s (normalize_stmt ds t s)) (sym h.counters) adds in
        let c : Clauses out o k (clauses_since s (normalize_stmt ds t s)) out' o' k' = clauses_to (sym (since_is s (normalize_stmt ds t s) a.cs a.eq)) (puts_clauses a b (p.puts ds es over)) in
        record {
          next_is = e ∙ ap (λ (u : Stmt). q + length (encode_stmt u)) (sym i);
          counters = h.counters ∙ still ∙ ap (λ (u : Stmt). at w (normalize_stmt ds u s)) (sym i);
          clauses = subst (λ (u : Stmt). Clauses out o k (clauses_since s (normalize_stmt ds u s)) out' o' k') (sym i) c;
          same = same_none w;
        }

  -- ---- an AllDifferent by its first word; c: how many expressions, as read

  module _ (z : word (read_part w) q ≡ 3) where
    pub mapped_inside : q + 2 ≤ folded_end
    mapped_inside = is_different x set w q false h.stands z (λ es i. omega (arith, (places es i).inside, (places es i).size))

    pub mapped_some : {c : ℕ} → c ≡ word (read_part w) (q + 1) → SomeDifferent set w n (q + 2) c
    mapped_some e = is_different x set w q false h.stands z (λ es i. subst (λ (c : ℕ). SomeDifferent set w n (q + 2) c) (sym (e ∙ (places es i).count)) (mapped_asked es i))

    pub mapped_done : {c : ℕ} → c ≡ word (read_part w) (q + 1) → {out out' : List ℤ} {o k next o' k' : ℕ} → PutDifferent set w n (q + 2) c out o k out' o' k' → k ≤ o → StmtEnds w q next → Did x w q out o k w out' next n o' k'
    mapped_done e {out} {out'} {o} {k} {next} {o'} {k'} p b f =
        is_different x set w q false h.stands z (λ es i. mapped_different es i (subst (λ (c : ℕ). PutDifferent set w n (q + 2) c out o k out' o' k') (e ∙ (places es i).count) p) b (f (AllDifferent es) (different_stands x set w q false h.stands es i)))
