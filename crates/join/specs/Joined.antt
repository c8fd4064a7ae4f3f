-- What two sets that agree are, and the theorem of the join: the joined set is accepted and says the first set's statements, then the second's. Assumes nothing.
use Rattle.std.specs.Prelude.{◌≡◌, refl, Bool, true, false, cond, List, [], ◌∷◌, ◌++◌, map, ℕ, zero, suc, ◌≤◌, ℤ, pos, ltb, length}
use Rattle.std.proofs.Common.{sym, ap, ◌∙◌, arith, length-append, ltb-false, le-ltb}
use Rattle.laws.specs.Same.{same_words, same_is}
use Rattle.laws.specs.Ints.{apart}
use Rattle.laws.specs.Lists.{any, flat, counted, any_append}
use Rattle.syntax.specs.Words.{min_work_words, max_set_words}
use Rattle.syntax.specs.Syntax.{Problem, Domain, Stmt, Rule, Table, AllDifferent, encode_domain, encode_stmt, encode}
use Rattle.words.specs.Parse.{Parsed, ok, refuse, parse_then}
use Rattle.words.specs.Exact.{Each}
use Rattle.read.specs.Read.{read_set}
use Rattle.read.specs.WellFormed.{WellStmt, WellFormed}
use Rattle.read.proofs.Exact.{set_sound, set_complete, set_unique}
use Rattle.limits.specs.Limits.{heavy, check, heavy_stmt, many_stmt, wide_stmt}
use Rattle.limits.specs.Admitted.{limited, admitted}
use Rattle.join.specs.Join.{declaration_words, both, Agreement, agreed, refusal, compared, agree_read, agreement, joined, refused, sized, join}

-- ---- the same words

-- ---- an admitted set: its words are those of a well-formed set that no limit refuses

pub record Admitted (n : ℕ) (ws : List ℤ) (p : Problem) : Type 0 where
  pub enough : ltb n min_work_words ≡ false
  pub short : ltb max_set_words (length ws) ≡ false
  pub says : read_set ws ≡ ok p []
  pub unrefused : check p ≡ 0
  pub well : WellFormed p
  pub words : ws ≡ encode p

pub admitted_is : (n : ℕ) (ws : List ℤ) (p : Problem) (r : List ℤ) → admitted n ws ≡ ok p r → Admitted n ws p
unfolding admitted limited
admitted_is n ws p r = go (ltb n min_work_words) refl (ltb max_set_words (length ws)) refl (read_set ws) refl
  where
    last : (q : Problem) (s : List ℤ) → read_set ws ≡ ok q s → ltb n min_work_words ≡ false → ltb max_set_words (length ws) ≡ false → (m : ℕ) → check q ≡ m → limited m q s ≡ ok p r → Admitted n ws p
    last q s e a b (suc m) c h = apart (cc)
    last q s e a b zero c h =
        let z : q ≡ p = cc in
        let i = set_sound ws q s e in
        rw (← z) (record { enough = a; short = b; says = e ∙ ap (ok q) (sym i.2); unrefused = c; well = i.1; words = i.0 })

    go : (s : Bool) → ltb n min_work_words ≡ s → (t : Bool) → ltb max_set_words (length ws) ≡ t → (q : Parsed Problem) → read_set ws ≡ q
        → cond s (refuse 1) (cond t (refuse 2) (parse_then q (λ p. limited (check p) p))) ≡ ok p r → Admitted n ws p
    go true a t b q e h = apart (cc)
    go false a true b q e h = apart (cc)
    go false a false b (refuse k) e h = apart (cc)
    go false a false b (ok q s) e h = last q s e a b (check q) refl h

pub is_admitted : (n : ℕ) (ws : List ℤ) (p : Problem) → ltb n min_work_words ≡ false → ltb max_set_words (length ws) ≡ false → read_set ws ≡ ok p [] → check p ≡ 0 → admitted n ws ≡ ok p []
unfolding admitted limited
is_admitted n ws p a b e c = rw (a, b, e, c) refl

-- ---- declarations

pub encode_parts : (p : Problem) → encode p ≡ declaration_words p ++ counted encode_stmt p.stmts
unfolding encode declaration_words
encode_parts p = refl

abbrev pub bare : Problem → Problem
bare p = record { bools = p.bools; domains = p.domains; stmts = [] }

bare_well : (p : Problem) → WellFormed p → WellFormed (bare p)
bare_well p w = record { few_bools = w.few_bools; few_ints = w.few_ints; few_stmts = omega arith; domains_well = w.domains_well; stmts_well = tt }

bare_words : (p : Problem) → encode (bare p) ≡ declaration_words p ++ (pos 0 ∷ [])
unfolding encode declaration_words
bare_words p = refl

-- the same words declare the same
same_declared : (p q : Problem) → WellFormed p → WellFormed q → declaration_words p ≡ declaration_words q → bare p ≡ bare q
same_declared p q a b e = set_unique (bare p) (bare q) (bare_well p a) (bare_well q b) (bare_words p ∙ ap (λ (l : List ℤ). l ++ (pos 0 ∷ [])) e ∙ sym (bare_words q))

-- ---- two sets that agree

pub record Agrees (n : ℕ) (first second : List ℤ) (p q : Problem) : Type 0 where
  pub left : Admitted n first p
  pub right : Admitted n second q
  pub declarations : declaration_words p ≡ declaration_words q
  pub same : bare p ≡ bare q
  pub short : length (encode (both p q)) ≤ max_set_words

pub agreement_is : (n : ℕ) (first second : List ℤ) (p q : Problem) → agreement first second n ≡ agreed p q → Agrees n first second p q
unfolding agreement agree_read compared
agreement_is n first second p q = go (admitted n first) refl (admitted n second) refl
  where
    fit : (u v : Problem) (r s : List ℤ) → admitted n first ≡ ok u r → admitted n second ≡ ok v s → (a b : Bool) → same_words (declaration_words u) (declaration_words v) ≡ a → ltb max_set_words (length (encode (both u v))) ≡ b
        → cond a (cond b (refusal 17) (agreed u v)) (refusal 16) ≡ agreed p q → Agrees n first second p q
    fit u v r s x y false b c d h = apart (cc)
    fit u v r s x y true true c d h = apart (cc)
    fit u v r s x y true false c d h =
        let e : u ≡ p = cc in
        let f : v ≡ q = cc in
        let i = admitted_is n first u r x in
        let j = admitted_is n second v s y in
        let w = same_is (declaration_words u) (declaration_words v) c in
        rw (← e, ← f) (record { left = i; right = j; declarations = w; same = same_declared u v i.well j.well w; short = ltb-false max_set_words (length (encode (both u v))) d })

    go : (x : Parsed Problem) → admitted n first ≡ x → (y : Parsed Problem) → admitted n second ≡ y → agree_read x y ≡ agreed p q → Agrees n first second p q
    go (refuse j) a y b h = apart (cc)
    go (ok u r) a (refuse j) b h = apart (cc)
    go (ok u r) a (ok v s) b h = fit u v r s a b (same_words (declaration_words u) (declaration_words v)) (ltb max_set_words (length (encode (both u v)))) refl refl h

-- ---- the joined set: no limit refuses it

abbrev pub limit_of : Bool → Bool → Bool → ℕ
limit_of heavy many wide = cond heavy 9 (cond many 10 (cond wide 11 0))

pub no_limit : (heavy many wide : Bool) → limit_of heavy many wide ≡ 0 → (heavy ≡ false) × (many ≡ false) × (wide ≡ false)
no_limit true m w h = absurd (omega arith)
no_limit false true w h = absurd (omega arith)
no_limit false false true h = absurd (omega arith)
no_limit false false false h = (refl, refl, refl)

abbrev heavy_in : List Domain → List Stmt → Bool
heavy_in ds ss = any (heavy_stmt ds) ss

abbrev many_in : List Stmt → Bool
many_in ss = any many_stmt ss

abbrev wide_in : List Domain → List Stmt → Bool
wide_in ds ss = any (wide_stmt ds) ss

check_parts : (p : Problem) → check p ≡ limit_of (heavy_in p.domains p.stmts) (many_in p.stmts) (wide_in p.domains p.stmts)
unfolding check
check_parts p = refl

check_both : (p q : Problem) → q.domains ≡ p.domains → check p ≡ 0 → check q ≡ 0 → check (both p q) ≡ 0
check_both p q d a b =
    let x = no_limit (heavy_in p.domains p.stmts) (many_in p.stmts) (wide_in p.domains p.stmts) (sym (check_parts p) ∙ a) in
    let y = no_limit (heavy_in q.domains q.stmts) (many_in q.stmts) (wide_in q.domains q.stmts) (sym (check_parts q) ∙ b) in
    let h : heavy_in p.domains q.stmts ≡ false = rw (← d) y.0 in
    let w : wide_in p.domains q.stmts ≡ false = rw (← d) y.2 in
    check_parts (both p q)
    ∙ rw (
      any_append (heavy_stmt p.domains) p.stmts q.stmts,
      any_append many_stmt p.stmts q.stmts,
      any_append (wide_stmt p.domains) p.stmts q.stmts,
      x.0,
      x.1,
      x.2,
      h,
      y.1,
      w,
    ) refl

-- ---- and it is well-formed

pub each_append : {A : Type 0} (P : A → Type 0) (xs ys : List A) → Each P xs → Each P ys → Each P (xs ++ ys)
each_append P [] ys a b = b
each_append P (x ∷ xs) ys a b = (a.0, each_append P xs ys a.1 b)

-- a statement has words
pub stmt_long : (t : Stmt) → 1 ≤ length (encode_stmt t)
unfolding encode_stmt
stmt_long (Rule e) = omega arith
stmt_long (Table es rows) = omega arith
stmt_long (AllDifferent es) = omega arith

stmts_long : (ss : List Stmt) → length ss ≤ length (flat (map encode_stmt ss))
stmts_long [] = omega arith
stmts_long (t ∷ ts) = omega (arith, stmt_long t, stmts_long ts, length-append (encode_stmt t) (flat (map encode_stmt ts)))

both_well : (p q : Problem) → WellFormed p → WellFormed q → bare p ≡ bare q → length (encode (both p q)) ≤ max_set_words → WellFormed (both p q)
unfolding encode
both_well p q a b e l =
    let z : q.bools ≡ p.bools = ap (λ (x : Problem). x.bools) (sym e) in
    let d : q.domains ≡ p.domains = ap (λ (x : Problem). x.domains) (sym e) in
    let y : Each (WellStmt p.bools (length p.domains)) q.stmts = rw (z, d) at b.stmts_well in
    record {
      few_bools = a.few_bools;
      few_ints = a.few_ints;
      few_stmts = omega (arith, l, stmts_long (p.stmts ++ q.stmts), length-append (counted encode_domain p.domains) (counted encode_stmt (p.stmts ++ q.stmts)));
      domains_well = a.domains_well;
      stmts_well = each_append (WellStmt p.bools (length p.domains)) p.stmts q.stmts a.stmts_well y;
    }

-- ---- the theorem

pub record JoinOf (buffer-length work_length : ℕ) (first second ws : List ℤ) : Type 0 where
  pub left : Problem
  pub right : Problem
  pub agrees : Agrees work_length first second left right
  pub words : ws ≡ encode (both left right)
  pub fits : length ws ≤ buffer-length
  -- refusals 1 to 11 let the joined set through
  pub accepted : admitted work_length ws ≡ ok (both left right) []

pub join_is : (first second : List ℤ) (buffer-length work_length : ℕ) (ws : List ℤ) → join first second buffer-length work_length ≡ joined ws → JoinOf buffer-length work_length first second ws
unfolding join sized
join_is first second n k ws = go (agreement first second k) refl
  where
    fit : (p q : Problem) → Agrees k first second p q → (s : Bool) → ltb n (length (encode (both p q))) ≡ s → cond s (refused 17) (joined (encode (both p q))) ≡ joined ws → JoinOf n k first second ws
    fit p q a true x h = apart (cc)
    fit p q a false x h =
        let m : encode (both p q) ≡ ws = cc in
        let d : q.domains ≡ p.domains = ap (λ (z : Problem). z.domains) (sym a.same) in
        let w : WellFormed (both p q) = both_well p q a.left.well a.right.well a.same a.short in
        rw (← m) (record {
          left = p;
          right = q;
          agrees = a;
          words = refl;
          fits = ltb-false n (length (encode (both p q))) x;
          accepted = is_admitted k (encode (both p q)) (both p q) a.left.enough (le-ltb max_set_words (length (encode (both p q))) a.short) (set_complete (both p q) w) (check_both p q d a.left.unrefused a.right.unrefused);
        })

    go : (x : Agreement) → agreement first second k ≡ x → sized n x ≡ joined ws → JoinOf n k first second ws
    go (refusal j) a h = apart (cc)
    go (agreed p q) a h = fit p q (agreement_is k first second p q a) (ltb n (length (encode (both p q)))) refl h
