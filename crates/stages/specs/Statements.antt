-- The folded statements as parts that both walks take one after another (`stmts_stages`): their log is that of `normalize_stmts` (`stmts_steps`), and each
-- part holds what the walks ask (`stmts_walk`, `stmts_known`, `stmts_chains`, `stmts_rooms`). F: the folded words, in which they stand from a place on.
use Rattle.std.specs.Prelude.{◌≡◌, Bool, ℕ, ◌+◌, ◌*◌, ◌≤◌, ◌<◌, ℤ}
use Rattle.std.proofs.Math.Path.{refl}
use Rattle.std.proofs.Common.{◌∙◌}
use mathlib.Core.List.{List, [], ◌∷◌}
use native.Mathlib.Omega.{arith}
use Rattle.std.proofs.Math.Nat.{mul-le-mul_right}
use Rattle.std.proofs.Math.IntN.{pos}
use Rattle.std.proofs.Math.ListN.{length, length-append}
use Rattle.laws.specs.Slices.{Has, has_front, has_back, has_rest}
use Rattle.memory.specs.Places.{folded, folded_end, limit}
use Rattle.syntax.specs.Syntax.{Domain, IntExpr, encode_int, encode_bool, Stmt, Rule, Table, AllDifferent, encode_stmt}
use Rattle.syntax.specs.Lengths.{int_long}
use Rattle.words.specs.Exact.{Each}
use Rattle.clauses.specs.Log.{Log}
use Rattle.answer.specs.Answer.{normalize_stmt, normalize_stmts}
use Rattle.statements.specs.Statements.{table_words, table_length}
use Rattle.stages.specs.StatementsParts.{Stage, steps, rooms, AllKnown, Chains, chains_less, chains_more, UpTo, AllWalk}
use Rattle.stages.specs.StatementsPlaces.{stmts_words, LegalStmt, PartedFrom, parted_rest, Marked, rule_agrees, sides_agree, columns_agree_here}
use Rattle.stages.specs.StatementsRules.{rule_stage, rule_stage_walks}
use Rattle.stages.specs.TableRoom.{table_room}
use Rattle.stages.specs.TableStage.{table_stage, table_stage_walks}
use Rattle.stages.specs.Pairs.{sides_words}
use Rattle.stages.specs.Different.{different_stages, different_steps, different_known, different_chains, different_up_to, different_rooms, different_walk}

-- ---- the parts

-- ds: the declared domains, rec: where the records begin, cap: the longest answer
module _ (ds : List Domain) (rec cap : ℕ) (F : List ℤ) where
  -- the statement at a place, in front of the stages xs
  unfoldable pub stmt_stages : ℕ → Stmt → List Stage → List Stage
  stmt_stages at (Rule e) xs = rule_stage ds rec cap e (at + 1) ∷ xs
  stmt_stages at (Table es rows) xs = table_stage ds rec cap F es rows at ∷ xs
  stmt_stages at (AllDifferent es) xs = different_stages ds rec cap es (at + 2) (at + length (encode_stmt (AllDifferent es))) xs

  unfoldable pub stmts_stages : ℕ → List Stmt → List Stage
  stmts_stages at [] = []
  stmts_stages at (t ∷ ts) = stmt_stages at t (stmts_stages (at + length (encode_stmt t)) ts)

  -- ---- their log

  pub stmt_steps : (at : ℕ) (t : Stmt) (xs : List Stage) (s : Log) → steps (stmt_stages at t xs) s ≡ steps xs (normalize_stmt ds t s)
  unfolding stmt_stages steps normalize_stmt
  stmt_steps at (Rule e) xs s = refl
  stmt_steps at (Table es rows) xs s = refl
  stmt_steps at (AllDifferent es) xs s = different_steps ds rec cap es (at + 2) (at + length (encode_stmt (AllDifferent es))) xs s

  pub stmts_steps : (at : ℕ) (ts : List Stmt) (s : Log) → steps (stmts_stages at ts) s ≡ normalize_stmts ds ts s
  unfolding stmts_stages normalize_stmts
  stmts_steps at [] s = unfold steps in refl
  stmts_steps at (t ∷ ts) s = let b = at + length (encode_stmt t) in stmt_steps at t (stmts_stages b ts) s ∙ stmts_steps b ts (normalize_stmt ds t s)

  pub stmt_known : (at : ℕ) (t : Stmt) (xs : List Stage) (s : Log) → AllKnown xs (normalize_stmt ds t s) → AllKnown (stmt_stages at t xs) s
  unfolding stmt_stages AllKnown normalize_stmt
  stmt_known at (Rule e) xs s h = (tt, h)
  stmt_known at (Table es rows) xs s h = (tt, h)
  stmt_known at (AllDifferent es) xs s h = different_known ds rec cap es (at + 2) (at + length (encode_stmt (AllDifferent es))) xs s h

  pub stmts_known : (at : ℕ) (ts : List Stmt) (s : Log) → AllKnown (stmts_stages at ts) s
  unfolding stmts_stages
  stmts_known at [] s = unfold AllKnown in tt
  stmts_known at (t ∷ ts) s = let b = at + length (encode_stmt t) in stmt_known at t (stmts_stages b ts) s (stmts_known b ts (normalize_stmt ds t s))

  -- ---- their places

  pub stmt_chains : (at : ℕ) (t : Stmt) (xs : List Stage) → let b = at + length (encode_stmt t) in Chains b b xs → Chains at at (stmt_stages at t xs)
  unfolding stmt_stages encode_stmt
  stmt_chains at (Rule e) xs h = let x = rule_stage ds rec cap e (at + 1) in chains_less (at + 1) (at + 1) at at (x ∷ xs) (omega arith) (omega arith) (chains_more x xs (chains_less _ _ x.past x.to xs (omega arith) (omega arith) h))
  stmt_chains at (Table es rows) xs h = chains_more (table_stage ds rec cap F es rows at) xs h
  stmt_chains at (AllDifferent es) xs h =
      let b = at + length (encode_stmt (AllDifferent es)) in
      chains_less (at + 2) b at at (different_stages ds rec cap es (at + 2) b xs) (omega arith) (omega arith) (different_chains ds rec cap es (at + 2) b xs (omega arith) h)

  pub stmts_chains : (at : ℕ) (ts : List Stmt) → Chains at at (stmts_stages at ts)
  unfolding stmts_stages
  stmts_chains at [] = λ i j l m. tt
  stmts_chains at (t ∷ ts) = let b = at + length (encode_stmt t) in stmt_chains at t (stmts_stages b ts) (stmts_chains b ts)

  pub stmt_up_to : (b at : ℕ) (t : Stmt) (xs : List Stage) → at + length (encode_stmt t) ≤ b → UpTo b xs → UpTo b (stmt_stages at t xs)
  unfolding stmt_stages
  stmt_up_to b at (Rule e) xs l h = (unfold encode_stmt in omega (arith, l), h)
  stmt_up_to b at (Table es rows) xs l h = (l, h)
  stmt_up_to b at (AllDifferent es) xs l h = different_up_to ds rec cap es (at + 2) (at + length (encode_stmt (AllDifferent es))) xs b l h

  pub stmts_up_to : (b at : ℕ) (ts : List Stmt) → at + length (stmts_words ts) ≤ b → UpTo b (stmts_stages at ts)
  unfolding stmts_stages
  stmts_up_to b at [] l = tt
  stmts_up_to b at (t ∷ ts) l =
      let n = length-append (encode_stmt t) (stmts_words ts) in
      let rest = at + length (encode_stmt t) in
      stmt_up_to b at t (stmts_stages rest ts) (omega (arith, n)) (stmts_up_to b rest ts (omega (arith, n)))

  -- ---- their room: the expressions of an AllDifferent are as many as its words at most

  sides_few : (es : List IntExpr) → length es ≤ length (sides_words es)
  sides_few [] = omega arith
  sides_few (e ∷ es) = omega (arith, int_long e, sides_few es, length-append (encode_int e) (sides_words es))

  pub stmt_rooms : (at : ℕ) (t : Stmt) (xs : List Stage) → length (encode_stmt t) ≤ 4096 → rooms (stmt_stages at t xs) ≤ 49152 * length (encode_stmt t) + rooms xs
  unfolding stmt_stages rooms
  stmt_rooms at (Rule e) xs l = unfold encode_stmt in omega arith
  stmt_rooms at (Table es rows) xs l = omega (arith, table_room es rows)
  stmt_rooms at (AllDifferent es) xs l =
      let n : length (encode_stmt (AllDifferent es)) ≡ 2 + length (sides_words es) = unfold encode_stmt in omega arith in
      let m : length es * length (sides_words es) ≤ 4096 * length (sides_words es) = mul-le-mul_right (length (sides_words es)) (omega (arith, sides_few es, n)) in
      omega (arith, different_rooms ds rec cap es (at + 2) (at + length (encode_stmt (AllDifferent es))) xs, n, m)

  pub stmts_rooms : (at : ℕ) (ts : List Stmt) → length (stmts_words ts) ≤ 4096 → rooms (stmts_stages at ts) ≤ 49152 * length (stmts_words ts)
  unfolding stmts_stages
  stmts_rooms at [] l = unfold rooms in omega arith
  stmts_rooms at (t ∷ ts) l =
      let b = at + length (encode_stmt t) in
      let n = length-append (encode_stmt t) (stmts_words ts) in
      omega (arith, n, stmt_rooms at t (stmts_stages b ts) (omega (arith, n)), stmts_rooms b ts (omega (arith, n)))

-- ---- both walks over each; as in walks' Rule

module _ (ds : List Domain) (F : List ℤ) (parted : ℕ → Bool) (rec cap : ℕ) (with_ifs : Bool) (before : List ℤ) (low : cap < limit) (b : ℕ) (inside : b ≤ folded_end) (marked : Marked F b with_ifs) where
  abbrev AllWalkHere : List Stage → Type 0
  AllWalkHere = AllWalk ds F parted rec cap with_ifs before low

  pub stmt_walk : (at : ℕ) (t : Stmt) (ts : List Stmt) → Each LegalStmt (t ∷ ts) → PartedFrom parted at (t ∷ ts) → Has F at (encode_stmt t) → folded ≤ at → at + length (encode_stmt t) ≤ b → (xs : List Stage) → AllWalkHere xs → AllWalkHere (stmt_stages ds rec cap F at t xs)
  unfolding stmt_stages
  stmt_walk at (Rule e) ts h k d l m xs w =
      let n : length (encode_stmt (Rule e)) ≡ 1 + length (encode_bool e) = unfold encode_stmt in omega arith in
      let c : Has F (at + 1) (encode_bool e) = unfold encode_stmt in has_rest F at (pos 1) (encode_bool e) d in
      (rule_stage_walks ds F parted rec cap with_ifs before low e (at + 1) h.0 c (omega arith) (omega (arith, n)) (rule_agrees F b with_ifs marked parted at ts e h k c l (omega (arith, n))), w)
  stmt_walk at (Table es rows) ts h k d l m xs w =
      let n = table_length es rows in
      (table_stage_walks ds F parted rec cap with_ifs before low es rows at d l (omega arith) h.0 (columns_agree_here F b with_ifs marked parted at ts es rows h k (table_words F at es rows d) l (omega (arith, n)) m), w)
  stmt_walk at (AllDifferent es) ts h k d l m xs w =
      let stop = at + length (encode_stmt (AllDifferent es)) in
      let n : length (encode_stmt (AllDifferent es)) ≡ 2 + length (sides_words es) = unfold encode_stmt in omega arith in
      let c : Has F (at + 2) (sides_words es) = unfold encode_stmt in has_back F at (pos 3 ∷ pos (length es) ∷ []) (sides_words es) d in
      different_walk ds rec cap es (at + 2) stop xs F parted with_ifs before low (omega arith)
      (record { legal = h.0; words = c; from = omega arith; to = omega (arith, n); agree = sides_agree F b with_ifs marked parted at ts es h k c l (omega (arith, n)) }) w

  pub stmts_walk : (at : ℕ) (ts : List Stmt) → Each LegalStmt ts → PartedFrom parted at ts → Has F at (stmts_words ts) → folded ≤ at → at + length (stmts_words ts) ≤ b → AllWalkHere (stmts_stages ds rec cap F at ts)
  unfolding stmts_stages
  stmts_walk at [] h k d l m = tt
  stmts_walk at (t ∷ ts) h k d l m =
      let rest = at + length (encode_stmt t) in
      let n = length-append (encode_stmt t) (stmts_words ts) in
      stmt_walk at t ts h k (has_front F at (encode_stmt t) (stmts_words ts) d) l (omega (arith, n)) (stmts_stages ds rec cap F rest ts)
      (stmts_walk rest ts h.1 (parted_rest parted at t ts h k) (has_back F at (encode_stmt t) (stmts_words ts) d) (omega arith) (omega (arith, n)))
