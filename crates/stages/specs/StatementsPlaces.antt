-- The Ifs with split parts of the folded statements: those of rules and of an AllDifferent's expressions, by place (`parted_of`). What the walks ask of this:
-- it says of each If whether its splitting takes numbers (`rule_agrees`, `sides_agree`), and none in a table's columns is split (`columns_agree_here`).
use Rattle.std.specs.Prelude.{◌≡◌, refl, Bool, true, false, not, ◌||◌, ℕ, ◌+◌, ◌≤◌, ◌<◌, ℤ}
use Rattle.std.proofs.Common.{ap, ◌∙◌, arith, ne_eqb}
use mathlib.Core.List.{List, [], ◌∷◌, ◌++◌, map}
use Rattle.std.proofs.Math.ListN.{length, length-append}
use Rattle.laws.specs.Lists.{flat}
use Rattle.laws.specs.Slices.{Has, has_front, has_back}
use Rattle.memory.specs.Places.{folded}
use Rattle.syntax.specs.Syntax.{IntExpr, encode_int, BoolExpr, encode_bool, Cell, Stmt, Rule, Table, AllDifferent, encode_stmt}
use Rattle.words.specs.Exact.{Each}
use Rattle.walks.specs.Tree.{below, here}
use Rattle.walks.specs.Legal.{LegalInt, LegalRule, true_rule, legal_rule, legal_bound, legal_int_bound}
use Rattle.walks.specs.Keys.{Key, keys, keys_int, Every, every_none, every_more, every_map, every_append, every_found, Distinct, Within, Written, keys_within, keys_int_within, keys_distinct, keys_int_distinct, keys_written, keys_int_written}
use Rattle.walks.specs.KeyAt.{is_parted, parted_in, places, found_parted, same_places}
use Rattle.walks.specs.KeyPlaces.{AgreesWith, every_both}
use Rattle.stages.specs.LegalKeys.{LegalIf, LegalKey, keys_legal, keys_int_legal}
use Rattle.stages.specs.Columns.{columns_keys, columns_words}
use Rattle.stages.specs.ColumnsAgree.{columns_agree}
use Rattle.stages.specs.Pairs.{sides_words, sides_keys, agrees_same}

-- ---- the statements' keys

abbrev pub stmts_words : List Stmt → List ℤ
stmts_words ts = flat (map encode_stmt ts)

-- nothing of a column is split
unfoldable pub stmt_keys : ℕ → Stmt → List Key
stmt_keys at (Rule e) = keys e below (at + 1) 0
stmt_keys at (Table es rows) = []
stmt_keys at (AllDifferent es) = sides_keys es (at + 2)

unfoldable pub stmts_keys : ℕ → List Stmt → List Key
stmts_keys at [] = []
stmts_keys at (t ∷ ts) = stmt_keys at t ++ stmts_keys (at + length (encode_stmt t)) ts

unfoldable pub parted_of : ℕ → List Stmt → ℕ → Bool
parted_of at ts q = parted_in (places (stmts_keys at ts)) q

abbrev pub LegalStmt : Stmt → Type 0
LegalStmt (Rule e) = LegalRule e 64
LegalStmt (Table es rows) = Each (λ e. LegalInt e 64) es
LegalStmt (AllDifferent es) = Each (λ e. LegalInt e 64) es

-- ---- keys by place

abbrev Span : ℕ → ℕ → Key → Type 0
Span a b x = (a ≤ x.place.at) × (x.place.at < b)

wider : {a b c d : ℕ} {xs : List Key} → Every (Span a b) xs → c ≤ a → b ≤ d → Every (Span c d) xs
wider {a} {b} {c} {d} h i j = every_map (λ x k. (omega (arith, k.0), omega (arith, k.1))) h

parted_append : (xs ys : List Key) (q : ℕ) → parted_in (places (xs ++ ys)) q ≡ parted_in (places xs) q || parted_in (places ys) q
unfolding parted_in
parted_append [] ys q = refl
parted_append (x ∷ xs) ys q = ap (λ (b : Bool). is_parted x.place q || b) (parted_append xs ys q) ∙ or_assoc (is_parted x.place q) (parted_in (places xs) q) (parted_in (places ys) q)
  where
    or_assoc : (a b c : Bool) → a || (b || c) ≡ (a || b) || c
    or_assoc true b c = refl
    or_assoc false b c = refl

-- a place outside
parted_below : {a b : ℕ} {xs : List Key} (q : ℕ) → Every (Span a b) xs → q < a → parted_in (places xs) q ≡ false
unfolding parted_in
parted_below q every_none l = refl
parted_below q (every_more {x} h hs) l = rw (ne_eqb x.place.at q (λ e. omega (arith, h.0, e))) (parted_below q hs l)

parted_above : {a b : ℕ} {xs : List Key} (q : ℕ) → Every (Span a b) xs → b ≤ q → parted_in (places xs) q ≡ false
unfolding parted_in
parted_above q every_none l = refl
parted_above q (every_more {x} h hs) l = rw (ne_eqb x.place.at q (λ e. omega (arith, h.1, e))) (parted_above q hs l)

or_front : (a b c : Bool) → c ≡ a || b → b ≡ false → c ≡ a
or_front true b c h i = h
or_front false b c h i = h ∙ i

or_back : (a b c : Bool) → c ≡ a || b → a ≡ false → c ≡ b
or_back true b c h i = absurd (let z : ◌≡◌ {A = ℕ} 0 1 = cc in omega arith)
or_back false b c h i = h

-- ---- one list says of each of its keys whether it is whole

abbrev Agreed : (ℕ → Bool) → List Key → Type 0
Agreed parted xs = Every (λ x. parted x.place.at ≡ not x.place.whole) xs

distinct_agreed : (xs : List Key) → Distinct xs → Agreed (parted_in (places xs)) xs
distinct_agreed xs d = every_map (λ x f. found_parted x.place x.key d f) (every_found xs)

-- the same where the keys stand
agreed_where : {a b : ℕ} {xs : List Key} (f g : ℕ → Bool) → ((q : ℕ) → a ≤ q → q < b → g q ≡ f q) → Every (Span a b) xs → Agreed f xs → Agreed g xs
agreed_where f g same h k = every_map (λ x y. same x.place.at y.0.0 y.0.1 ∙ y.1) (every_both h k)

sides_span : (es : List IntExpr) (p : ℕ) → Each (λ e. LegalInt e 64) es → Every (Span p (p + length (sides_words es))) (sides_keys es p)
unfolding sides_keys
sides_span [] p h = every_none
sides_span (e ∷ es) p h =
    let q = p + length (encode_int e) in
    let l = length-append (encode_int e) (sides_words es) in
    every_append (wider (every_map (λ x k. (k.from, k.to)) (keys_int_within e here p 0 (legal_int_bound e 64 h.0))) (omega arith) (omega (arith, l))) (wider (sides_span es q h.1) (omega arith) (omega (arith, l)))

sides_agreed : (es : List IntExpr) (p : ℕ) → Each (λ e. LegalInt e 64) es → Agreed (parted_in (places (sides_keys es p))) (sides_keys es p)
unfolding sides_keys
sides_agreed [] p h = every_none
sides_agreed (e ∷ es) p h =
    let q = p + length (encode_int e) in
    let xs = keys_int e here p 0 in
    let ys = sides_keys es q in
    let b = legal_int_bound e 64 h.0 in
    let s : Every (Span p q) xs = every_map (λ x k. (k.from, k.to)) (keys_int_within e here p 0 b) in
    let t = sides_span es q h.1 in
    every_append (agreed_where (parted_in (places xs)) (parted_in (places (xs ++ ys))) (λ r i j. or_front _ _ _ (parted_append xs ys r) (parted_below r t j)) s (distinct_agreed xs (keys_int_distinct e here p 0 b)))
    (agreed_where (parted_in (places ys)) (parted_in (places (xs ++ ys))) (λ r i j. or_back _ _ _ (parted_append xs ys r) (parted_above r s i)) t (sides_agreed es q h.1))

-- ---- one statement

rule_span : (e : BoolExpr) (p : ℕ) → LegalRule e 64 → Every (Span p (p + length (encode_bool e))) (keys e below p 0)
unfolding keys
rule_span e p (true_rule x) = every_none
rule_span e p (legal_rule x) = every_map (λ y k. (k.from, k.to)) (keys_within e below p 0 (legal_bound e 64 x))

rule_agreed : (e : BoolExpr) (p : ℕ) → LegalRule e 64 → Agreed (parted_in (places (keys e below p 0))) (keys e below p 0)
unfolding keys
rule_agreed e p (true_rule x) = every_none
rule_agreed e p (legal_rule x) = distinct_agreed (keys e below p 0) (keys_distinct e below p 0 (legal_bound e 64 x))

stmt_span : (at : ℕ) (t : Stmt) → LegalStmt t → Every (Span at (at + length (encode_stmt t))) (stmt_keys at t)
unfolding stmt_keys encode_stmt
stmt_span at (Rule e) h = wider (rule_span e (at + 1) h) (omega arith) (omega arith)
stmt_span at (Table es rows) h = every_none
stmt_span at (AllDifferent es) h = wider (sides_span es (at + 2) h) (omega arith) (omega arith)

stmt_agreed : (at : ℕ) (t : Stmt) → LegalStmt t → Agreed (parted_in (places (stmt_keys at t))) (stmt_keys at t)
unfolding stmt_keys
stmt_agreed at (Rule e) h = rule_agreed e (at + 1) h
stmt_agreed at (Table es rows) h = every_none
stmt_agreed at (AllDifferent es) h = sides_agreed es (at + 2) h

stmts_span : (at : ℕ) (ts : List Stmt) → Each LegalStmt ts → Every (Span at (at + length (stmts_words ts))) (stmts_keys at ts)
unfolding stmts_keys
stmts_span at [] h = every_none
stmts_span at (t ∷ ts) h =
    let l = length-append (encode_stmt t) (stmts_words ts) in
    every_append (wider (stmt_span at t h.0) (omega arith) (omega (arith, l))) (wider (stmts_span (at + length (encode_stmt t)) ts h.1) (omega arith) (omega (arith, l)))

-- ---- as the walks ask it, statement by statement

-- parted is that of the statements from `at` on
abbrev pub PartedFrom : (ℕ → Bool) → ℕ → List Stmt → Type 0
PartedFrom parted at ts = (q : ℕ) → at ≤ q → parted q ≡ parted_of at ts q

module _ (parted : ℕ → Bool) (at : ℕ) (t : Stmt) (ts : List Stmt) (legal : Each LegalStmt (t ∷ ts)) (here_on : PartedFrom parted at (t ∷ ts)) where
  abbrev rest : ℕ
  rest = at + length (encode_stmt t)

  -- among the statement's words
  within : (q : ℕ) → at ≤ q → q < rest → parted q ≡ parted_in (places (stmt_keys at t)) q
  unfolding parted_of stmts_keys
  within q i j = or_front _ _ _ (here_on q i ∙ parted_append (stmt_keys at t) (stmts_keys rest ts) q) (parted_below q (stmts_span rest ts legal.1) j)

  pub parted_rest : PartedFrom parted rest ts
  unfolding parted_of stmts_keys
  parted_rest q i = or_back _ _ _ (here_on q (omega arith) ∙ parted_append (stmt_keys at t) (stmts_keys rest ts) q) (parted_above q (stmt_span at t legal.0) i)

  agreed : Agreed parted (stmt_keys at t)
  agreed = agreed_where (parted_in (places (stmt_keys at t))) parted within (stmt_span at t legal.0) (stmt_agreed at t legal.0)

-- a legal If that stands in the folded words F before b is marked
abbrev pub Marked : List ℤ → ℕ → Bool → Type 0
Marked F b with_ifs = (q : ℕ) (e : IntExpr) → LegalIf e → Has F q (encode_int e) → folded ≤ q → q < b → with_ifs ≡ true

module _ (F : List ℤ) (b : ℕ) (with_ifs : Bool) (marked : Marked F b with_ifs) where
  abbrev Marks : List Key → Type 0
  Marks xs = Every (λ x. with_ifs ≡ true) xs

  keys_marked : {at stop n next size : ℕ} {xs : List Key} → Every (Within at stop n next size) xs → Every (Written F) xs → Every LegalKey xs → folded ≤ at → stop ≤ b → Marks xs
  keys_marked h k p l m = every_map (λ x y. marked x.place.at x.written y.1.1 y.1.0.stands (omega (arith, y.0.from)) (omega (arith, y.0.to))) (every_both h (every_both k p))

  rule_marked : (e : BoolExpr) (p : ℕ) → LegalRule e 64 → Has F p (encode_bool e) → folded ≤ p → p + length (encode_bool e) ≤ b → Marks (keys e below p 0)
  unfolding keys
  rule_marked e p (true_rule x) h l m = every_none
  rule_marked e p (legal_rule x) h l m = keys_marked (keys_within e below p 0 (legal_bound e 64 x)) (keys_written F e below p 0 h) (keys_legal e below p 0 x) l m

  sides_marked : (es : List IntExpr) (p : ℕ) → Each (λ e. LegalInt e 64) es → Has F p (sides_words es) → folded ≤ p → p + length (sides_words es) ≤ b → Marks (sides_keys es p)
  unfolding sides_keys
  sides_marked [] p h k l m = every_none
  sides_marked (e ∷ es) p h k l m =
      let n = length-append (encode_int e) (sides_words es) in
      every_append (keys_marked (keys_int_within e here p 0 (legal_int_bound e 64 h.0)) (keys_int_written F e here p 0 (has_front F p (encode_int e) (sides_words es) k)) (keys_int_legal e here p 0 h.0) l (omega (arith, n)))
      (sides_marked es (p + length (encode_int e)) h.1 (has_back F p (encode_int e) (sides_words es) k) (omega arith) (omega (arith, n)))

  module _ (parted : ℕ → Bool) (at : ℕ) (ts : List Stmt) where
    pub rule_agrees : (e : BoolExpr) → Each LegalStmt (Rule e ∷ ts) → PartedFrom parted at (Rule e ∷ ts) → Has F (at + 1) (encode_bool e) → folded ≤ at → at + 1 + length (encode_bool e) ≤ b → (n : ℕ) → Every (AgreesWith parted with_ifs) (keys e below (at + 1) n)
    rule_agrees e h k d l m n = agrees_same parted with_ifs (same_places e below (at + 1) 0 n) (every_both (unfold stmt_keys in agreed parted at (Rule e) ts h k) (rule_marked e (at + 1) h.0 d (omega arith) m))

    pub sides_agree : (es : List IntExpr) → Each LegalStmt (AllDifferent es ∷ ts) → PartedFrom parted at (AllDifferent es ∷ ts) → Has F (at + 2) (sides_words es) → folded ≤ at → at + 2 + length (sides_words es) ≤ b → Every (AgreesWith parted with_ifs) (sides_keys es (at + 2))
    sides_agree es h k d l m = every_both (unfold stmt_keys in agreed parted at (AllDifferent es) ts h k) (sides_marked es (at + 2) h.0 d (omega arith) m)

    -- the columns of a table, which stand somewhere in its words
    pub columns_agree_here : (es : List IntExpr) (rows : List (List Cell)) → Each LegalStmt (Table es rows ∷ ts) → PartedFrom parted at (Table es rows ∷ ts) → Has F (at + 3) (columns_words es) → folded ≤ at → at + 3 + length (columns_words es) ≤ at + length (encode_stmt (Table es rows)) → at + length (encode_stmt (Table es rows)) ≤ b
        → Every (AgreesWith parted with_ifs) (columns_keys es (at + 3))
    unfolding stmt_keys parted_in
    columns_agree_here es rows h k d l m n = columns_agree F parted with_ifs b marked es (at + 3) h.0 d (omega arith) (omega arith) (λ q i j. within parted at (Table es rows) ts h k q (omega arith) (omega arith))
