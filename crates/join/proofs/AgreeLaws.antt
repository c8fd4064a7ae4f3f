-- Two accepted sets compared: their declarations, and the words of the joined set. Assumes nothing.
use mathlib.Core.Path.{◌≡◌, refl, sym, ap, ◌∙◌, subst}
use mathlib.Core.Bool.{Bool, true, false, cond}
use mathlib.Core.List.{List, [], ◌∷◌, ◌++◌, map, map-append}
use Prim.Native.Nat.{ℕ, ◌+◌, ◌-◌, ◌≤◌, ◌<◌}
use native.Mathlib.Omega.{arith}
use lib.IntN.{ℤ, pos}
use lib.Dec.{ltb}
use lib.ListN.{length, take, length-append}
use lib.Seq.{take-append_seam, length-sets}
use borrow.Author.Tests.{lt-ltb, le-ltb, ltb-false}
use Rattle.laws.specs.Same.{same_words, same_is}
use Rattle.laws.specs.Ints.{apart}
use Rattle.laws.specs.Lists.{flat, counted, flat_append}
use Rattle.memory.specs.Places.{bounds}
use Rattle.syntax.specs.Words.{min_work_words, max_set_words}
use Rattle.syntax.specs.Syntax.{Problem, encode_stmt, encode}
use Rattle.words.specs.Parse.{Parsed, ok, refuse}
use Rattle.read.specs.Read.{read_set}
use Rattle.limits.specs.Admitted.{limited, admitted}
use Rattle.reader.specs.declared.Declared.{Declared}
use Rattle.domains.specs.Declared.{bounds_words}
use Rattle.accept.specs.Walk.{Bounds}
use Rattle.accept.specs.Accepted.{accepted, table_read, table_after}
use Rattle.accept.specs.Taken.{Taken, accepted_ok, accepted_refused, taken_set, taken_bounds, declared_is}
use Rattle.join.specs.Join.{declaration_words, both, Agreement, agreed, refusal, compared, agree_read, agreement}
use Rattle.join.specs.Joined.{is_admitted, encode_parts, agreement_is}
use Rattle.join.specs.Steps.{pair_of, agreed_of, ReadyBoth, ComparePost, AgreePost}
use Rattle.join.specs.declared.Pair.{Pair}
use Rattle.std.specs.Prelude.{Result, Ok, Err}

-- ---- the words of two sets together

pub both_words : (p q : Problem) → encode (both p q) ≡ declaration_words p ++ (pos (length p.stmts + length q.stmts) ∷ (flat (map encode_stmt p.stmts) ++ flat (map encode_stmt q.stmts)))
unfolding declaration_words
both_words p q =
    encode_parts (both p q)
    ∙ rw (length-append p.stmts q.stmts, map-append encode_stmt p.stmts q.stmts, flat_append (map encode_stmt p.stmts) (map encode_stmt q.stmts)) refl

pub both_length : (p q : Problem) → length (encode (both p q)) ≡ length (declaration_words p) + 1 + length (flat (map encode_stmt p.stmts)) + length (flat (map encode_stmt q.stmts))
both_length p q =
    let us : List ℤ = flat (map encode_stmt p.stmts) in
    let vs : List ℤ = flat (map encode_stmt q.stmts) in
    omega (arith, ap length (both_words p q), length-append (declaration_words p) (pos (length p.stmts + length q.stmts) ∷ (us ++ vs)), length-append us vs)

-- ---- where an accepted set's parts stand

record Shape (ws : List ℤ) (d : Declared) (p : Problem) : Type 0 where
  pub place : d.at ≡ length (declaration_words p) + 1
  pub ints_are : d.ints ≡ length p.domains
  pub stmts_are : d.stmts ≡ length p.stmts
  pub size : length ws ≡ length (declaration_words p) + 1 + length (flat (map encode_stmt p.stmts))
  pub low : take (length (declaration_words p)) ws ≡ declaration_words p
  pub short : length ws ≤ 4096

shape : (n : ℕ) (ws : List ℤ) (d : Declared) (t : Taken n ws d) → Shape ws d t.it
unfolding declaration_words
shape n ws d t =
    let e : ws ≡ declaration_words t.it ++ counted encode_stmt t.it.stmts = (taken_set n ws d t).words ∙ encode_parts t.it in
    let z = declared_is n ws d t in
    record {
      place = ap (λ (x : Declared). x.at) z ∙ omega arith;
      ints_are = ap (λ (x : Declared). x.ints) z;
      stmts_are = ap (λ (x : Declared). x.stmts) z;
      size = omega (arith, ap length e, length-append (declaration_words t.it) (counted encode_stmt t.it.stmts));
      low = ap (take (length (declaration_words t.it))) e ∙ take-append_seam (declaration_words t.it) (counted encode_stmt t.it.stmts);
      short = ltb-false max_set_words (length ws) t.short;
    }

-- ---- `compare`

not_same : (xs ys : List ℤ) → (length xs ≡ length ys → ⊥) → same_words xs ys ≡ false
not_same xs ys h = go (same_words xs ys) refl
  where
    go : (b : Bool) → same_words xs ys ≡ b → b ≡ false
    go false e = refl
    go true e = absurd (h (ap length (same_is xs ys e)))

compared_16 : (p q : Problem) → same_words (declaration_words p) (declaration_words q) ≡ false → Err 16 ≡ agreed_of (compared p q)
unfolding compared agreed_of
compared_16 p q e = rw e refl

declared_some : (p : Problem) → 1 ≤ length (declaration_words p)
unfolding declaration_words
declared_some p = omega arith

module _ (first second : List ℤ) (d e : Declared) where
  -- the words before both counts
  pub compare_inside : ReadyBoth first second d e → d.at ≡ e.at → (2 ≤ d.at) × (d.at - 1 ≤ length first) × (d.at - 1 ≤ length second)
  compare_inside y g =
      let a = shape y.size first d y.left in
      let b = shape y.size second e y.right in
      (omega (arith, a.place, declared_some y.left.it), omega (arith, a.place, a.size), omega (arith, b.place, b.size))

  pub compare_room : ReadyBoth first second d e → d.at ≤ length first
  compare_room y = let a = shape y.size first d y.left in omega (arith, a.place, a.size)

  pub compare_apart : (d.at ≡ e.at → ⊥) → ComparePost first second d e (Err 16)
  compare_apart h n a b =
      let x = shape n first d a in
      let y = shape n second e b in
      compared_16 a.it b.it (not_same (declaration_words a.it) (declaration_words b.it) (λ l. h (omega (arith, l, x.place, y.place))))

  module _ (g : d.at ≡ e.at) where
    -- what was compared are the declarations
    seen : (n : ℕ) (a : Taken n first d) (b : Taken n second e) (t : Bool) → t ≡ same_words (take (d.at - 1) first) (take (d.at - 1) second) → same_words (declaration_words a.it) (declaration_words b.it) ≡ t
    seen n a b t h =
        let x = shape n first d a in
        let y = shape n second e b in
        let i : d.at - 1 ≡ length (declaration_words a.it) = omega (arith, x.place) in
        let j : d.at - 1 ≡ length (declaration_words b.it) = omega (arith, y.place, g) in
        let u : take (d.at - 1) first ≡ declaration_words a.it = rw i x.low in
        let v : take (d.at - 1) second ≡ declaration_words b.it = rw j y.low in
        sym (rw (u, v) at h)

    pub compare_differ : false ≡ same_words (take (d.at - 1) first) (take (d.at - 1) second) → ComparePost first second d e (Err 16)
    compare_differ h n a b = compared_16 a.it b.it (seen n a b false h)

    module _ (h : true ≡ same_words (take (d.at - 1) first) (take (d.at - 1) second)) where
      words_are : (n : ℕ) (a : Taken n first d) (b : Taken n second e) → length first + length second - d.at ≡ length (encode (both a.it b.it))
      words_are n a b =
          let x = shape n first d a in
          let y = shape n second e b in
          omega (arith, x.place, y.place, g, x.size, y.size, both_length a.it b.it)

      pub compare_long : 4096 < length first + length second - d.at → ComparePost first second d e (Err 17)
      unfolding compared agreed_of
      compare_long l n a b =
          let m = words_are n a b in
          let o : ltb max_set_words (length (encode (both a.it b.it))) ≡ true = lt-ltb max_set_words (length (encode (both a.it b.it))) (omega arith) in
          rw (seen n a b true h, o) refl

      pub compare_ok : length first + length second - d.at ≤ 4096
          → ComparePost first second d e (Ok (record { ints = d.ints; at = d.at; first = d.stmts; second = e.stmts; words = length first + length second - d.at }))
      unfolding compared agreed_of
      compare_ok l n a b =
          let m = words_are n a b in
          let x = shape n first d a in
          let y = shape n second e b in
          let o : ltb max_set_words (length (encode (both a.it b.it))) ≡ false = le-ltb max_set_words (length (encode (both a.it b.it))) (omega arith) in
          rw (seen n a b true h, o, x.ints_are, x.place, x.stmts_are, y.stmts_are) (rw (rw x.place at m) refl)

-- ---- `agree`

taken_admitted : (n : ℕ) (ws : List ℤ) (d : Declared) (t : Taken n ws d) → admitted n ws ≡ ok t.it []
taken_admitted n ws d t = is_admitted n ws t.it t.enough t.short t.says t.unrefused

refused_admitted : (n : ℕ) (ws : List ℤ) (k : ℕ) → accepted n ws ≡ Err k → admitted n ws ≡ refuse k
unfolding admitted limited
refused_admitted n ws k h =
    accepted_refused n ws k h
    (λ a e. rw (a, e) refl)
    (λ a b e. rw (a, b, e) refl)
    (λ a b e. rw (a, b, e) refl)
    (λ p r m a b e c f. rw (a, b, e, c, f) refl)

table_length : (ws work : List ℤ) → length (table_after ws work) ≡ length work
unfolding table_after table_read
table_length ws work = go (ltb (length work) min_work_words) (ltb max_set_words (length ws)) (read_set ws)
  where
    go : (s t : Bool) (q : Parsed Problem) → length (cond s work (cond t work (table_read q work))) ≡ length work
    go true t q = refl
    go false true q = refl
    go false false (refuse k) = refl
    go false false (ok p r) = length-sets work bounds (bounds_words p.domains)

module _ (first second work : List ℤ) where
  -- a refusal of either set
  refused_post : (k : ℕ) (work' : List ℤ) → agreement first second (length work) ≡ refusal k → AgreePost first second work work' (Err k)
  unfolding agreed_of
  refused_post k work' e = record { answer = rw e refl; bounds = λ p q f. apart (let g : refusal k ≡ agreed p q = sym e ∙ f in cc) }

  pub agree_first : (k : ℕ) (work' : List ℤ) → accepted (length work) first ≡ Err k → AgreePost first second work work' (Err k)
  unfolding agreement agree_read
  agree_first k work' h = refused_post k work' (rw (refused_admitted (length work) first k h) refl)

  -- the second set, after what the first left in the work slice
  module _ (work₁ : List ℤ) (left : work₁ ≡ table_after first work) where
    l : length work₁ ≡ length work
    l = ap length left ∙ table_length first work

    pub agree_second : (d : Declared) (k : ℕ) (work' : List ℤ) → Taken (length work) first d → accepted (length work₁) second ≡ Err k → AgreePost first second work work' (Err k)
    unfolding agreement agree_read
    agree_second d k work' t h = refused_post k work' (rw (taken_admitted (length work) first d t, refused_admitted (length work) second k (ap (λ n. accepted n second) (sym l) ∙ h)) refl)

    module _ (d e : Declared) (a : Taken (length work) first d) (h : accepted (length work₁) second ≡ Ok e) where
      taken_second : Taken (length work) second e
      taken_second = accepted_ok (length work) second e (ap (λ n. accepted n second) (sym l) ∙ h)

      pub agree_ready : ReadyBoth first second d e
      agree_ready = record { size = length work; left = a; right = taken_second }

      agreement_compared : agreement first second (length work) ≡ compared a.it taken_second.it
      unfolding agreement agree_read
      agreement_compared = rw (taken_admitted (length work) first d a, taken_admitted (length work) second e taken_second) refl

      pub agree_both : (work' : List ℤ) → work' ≡ table_after second work₁ → (r : Result Pair ℕ) → ComparePost first second d e r → AgreePost first second work work' r
      agree_both work' w r c = record {
        answer = c (length work) a taken_second ∙ sym (ap agreed_of agreement_compared);
        bounds = λ p q f.
            let i = agreement_is (length work) first second p q f in
            let u : ok taken_second.it [] ≡ ok q [] = sym taken_second.says ∙ i.right.says in
            let v : taken_second.it ≡ q = cc in
            let o : taken_second.it.domains ≡ p.domains = ap (λ (x : Problem). x.domains) v ∙ sym (ap (λ (x : Problem). x.domains) i.same) in
            subst (λ (x : List ℤ). Bounds x p.domains) (sym w) (rw o at (taken_bounds (length work) second e taken_second work₁ l));
      }

-- ---- what the answer says

pub refused_is : (a : Agreement) (k : ℕ) → agreed_of a ≡ Err k → a ≡ refusal k
unfolding agreed_of
refused_is (agreed p q) k h = apart (cc)
refused_is (refusal j) k h = cc

pub agreed_is : {X : Type 0} (a : Agreement) (d : Pair) → agreed_of a ≡ Ok d → ((p q : Problem) → a ≡ agreed p q → d ≡ pair_of p q → X) → X
unfolding agreed_of
agreed_is (agreed p q) d h go = go p q refl (cc)
agreed_is (refusal j) d h go = apart (cc)
