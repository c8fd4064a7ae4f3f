-- Where a joined statement stands: at its place in the set it came from; and looked up in order, they are the joined set's statements. Assumes nothing.
use Rattle.std.specs.Prelude.{◌≡◌, refl, List, [], ◌∷◌, ◌++◌, map, ℕ, zero, suc, ◌+◌, ◌≤◌, ℤ, length, take, get_or}
use Rattle.std.proofs.Common.{sym, ap, ◌∙◌, arith, ltb-false}
use Rattle.std.proofs.lemmas.List.{map-append}
use Rattle.std.proofs.Math.Seq.{take-length}
use Rattle.laws.specs.Lists.{flat, counted}
use Rattle.laws.specs.Slices.{Has, has_fits, has_front, has_back, has_rest}
use Rattle.syntax.specs.Words.{max_set_words}
use Rattle.syntax.specs.Syntax.{Problem, Stmt, encode_stmt, encode}
use Rattle.words.specs.Exact.{Each}
use Rattle.join.specs.Join.{declaration_words, both, Agreement, agreed, refusal, agreement, Found, in_first, in_second, nowhere, placed, statements_place, statements_of, statement_at, words_of}
use Rattle.join.specs.Joined.{encode_parts, each_append, stmt_long, agreement_is}

-- an encoded set's statements stand behind its declarations and their count
stmts_stand : (ws : List ℤ) (p : Problem) → ws ≡ encode p → Has ws (statements_place p) (flat (map encode_stmt p.stmts))
stmts_stand ws p e =
    let us : List ℤ = declaration_words p ++ counted encode_stmt p.stmts in
    let h : Has ws 0 us = ap (take (length us)) (e ∙ encode_parts p) ∙ take-length us in
    let e : 0 + length (declaration_words p) ≡ length (declaration_words p) = omega arith in
    has_rest ws (length (declaration_words p)) _ _ (rw e at (has_back ws 0 (declaration_words p) (counted encode_stmt p.stmts) h))

-- ---- a joined statement stands in the set it came from

abbrev pub Stands : (first second : List ℤ) → Found → Type 0
Stands first second (in_first at t) = Has first at (encode_stmt t)
Stands first second (in_second at t) = Has second at (encode_stmt t)
Stands first second nowhere = Unit {0}

placed_stand : (P : Found → Type 0) (f : ℕ → Stmt → Found) (ws : List ℤ) → ((at : ℕ) (t : Stmt) → Has ws at (encode_stmt t) → P (f at t))
    → (at : ℕ) (ss : List Stmt) → Has ws at (flat (map encode_stmt ss)) → Each P (placed f at ss)
unfolding placed
placed_stand P f ws to at [] h = tt
placed_stand P f ws to at (t ∷ ts) h =
    (to at t (has_front ws at (encode_stmt t) (flat (map encode_stmt ts)) h), placed_stand P f ws to (at + length (encode_stmt t)) ts (has_back ws at (encode_stmt t) (flat (map encode_stmt ts)) h))

each_at : {A : Type 0} (P : A → Type 0) (d : A) → P d → (xs : List A) → Each P xs → (k : ℕ) → P (get_or xs k d)
each_at P d z [] h k = z
each_at P d z (x ∷ xs) h zero = h.0
each_at P d z (x ∷ xs) h (suc k) = each_at P d z xs h.1 k

-- what holds of every statement that stands in a set of at most 4096 words holds of a joined statement
module _ (first second : List ℤ) (P : Found → Type 0) (other : P nowhere)
    (one : (at : ℕ) (t : Stmt) → length first ≤ max_set_words → Has first at (encode_stmt t) → P (in_first at t))
    (two : (at : ℕ) (t : Stmt) → length second ≤ max_set_words → Has second at (encode_stmt t) → P (in_second at t)) where
  statement_is : (work_length number : ℕ) → P (statement_at first second work_length number)
  unfolding statement_at statements_of
  statement_is n k = each_at P nowhere other (nowhere ∷ statements_of (agreement first second n)) (other, go (agreement first second n) refl) k
    where
      go : (a : Agreement) → agreement first second n ≡ a → Each P (statements_of a)
      go (refusal j) e = tt
      go (agreed p q) e =
          let h = agreement_is n first second p q e in
          each_append P (placed in_first (statements_place p) p.stmts) (placed in_second (statements_place q) q.stmts)
          (placed_stand P in_first first (λ at t. one at t (ltb-false max_set_words (length first) h.left.short)) (statements_place p) p.stmts (stmts_stand first p h.left.words))
          (placed_stand P in_second second (λ at t. two at t (ltb-false max_set_words (length second) h.right.short)) (statements_place q) q.stmts (stmts_stand second q h.right.words))

pub statement_stands : (first second : List ℤ) (work_length number : ℕ) → Stands first second (statement_at first second work_length number)
statement_stands first second n k = statement_is first second (Stands first second) tt (λ at t l h. h) (λ at t l h. h) n k

-- its end is within 4096 words
abbrev pub Ends : Found → Type 0
Ends (in_first at t) = at + length (encode_stmt t) ≤ max_set_words
Ends (in_second at t) = at + length (encode_stmt t) ≤ max_set_words
Ends nowhere = Unit {0}

pub statement_ends : (first second : List ℤ) (work_length number : ℕ) → Ends (statement_at first second work_length number)
statement_ends first second n k =
    statement_is first second Ends tt
    (λ at t l h. omega (arith, l, has_fits first at (encode_stmt t) h (omega (arith, stmt_long t))))
    (λ at t l h. omega (arith, l, has_fits second at (encode_stmt t) h (omega (arith, stmt_long t)))) n k

-- ---- in order

placed_words : (f : ℕ → Stmt → Found) → ((at : ℕ) (t : Stmt) → words_of (f at t) ≡ encode_stmt t) → (at : ℕ) (ss : List Stmt) → map words_of (placed f at ss) ≡ map encode_stmt ss
unfolding placed
placed_words f e at [] = refl
placed_words f e at (t ∷ ts) = rw (e at t, placed_words f e (at + length (encode_stmt t)) ts) refl

pub statements_are : (p q : Problem) → map words_of (statements_of (agreed p q)) ≡ map encode_stmt (both p q).stmts
unfolding statements_of words_of
statements_are p q =
    map-append words_of (placed in_first (statements_place p) p.stmts) (placed in_second (statements_place q) q.stmts)
    ∙ rw (placed_words in_first (λ a t. refl) (statements_place p) p.stmts, placed_words in_second (λ a t. refl) (statements_place q) q.stmts) (sym (map-append encode_stmt p.stmts q.stmts))
