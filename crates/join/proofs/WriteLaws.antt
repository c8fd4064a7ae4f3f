-- The joined words in the buffer: the first set, its count of statements stored anew, the second set's statements behind it. Assumes nothing.
use mathlib.Core.Path.{◌≡◌, refl, sym, ap, ◌∙◌}
use mathlib.Core.List.{List, [], ◌∷◌, ◌++◌, map, append_assoc}
use Prim.Native.Nat.{ℕ, ◌+◌, ◌-◌, ◌≤◌, ◌<◌}
use native.Mathlib.Omega.{arith}
use lib.IntN.{ℤ, pos}
use lib.ListN.{length, drop, set, length-append, length-set, length-drop, take}
use lib.Seq.{sets, drop-append-add, take-length}
use Rattle.std.proofs.lemmas.List.{take_rest}
use Rattle.laws.specs.Slices.{Stored}
use Rattle.laws.specs.Lists.{flat, counted}
use Rattle.laws.specs.Writes.{sets_append}
use Rattle.syntax.specs.Syntax.{Problem, encode_stmt, encode}
use Rattle.words.specs.Parse.{ok}
use Rattle.join.specs.Join.{declaration_words, both, agreed, agreement, statements_place}
use Rattle.join.specs.Joined.{encode_parts, agreement_is}
use Rattle.join.specs.Steps.{ReadyWrite, WritePost}
use Rattle.join.specs.declared.Pair.{Pair}
use Rattle.join.proofs.WordLaws.{stored_anew, copied}
use Rattle.join.proofs.AgreeLaws.{both_words, both_length}

-- two sets that agree, by their words
record Words (first second : List ℤ) (p q : Problem) : Type 0 where
  left : first ≡ declaration_words p ++ counted encode_stmt p.stmts
  right : second ≡ declaration_words p ++ counted encode_stmt q.stmts
  left_size : length first ≡ statements_place p + length (flat (map encode_stmt p.stmts))
  right_size : length second ≡ statements_place p + length (flat (map encode_stmt q.stmts))
  few : length p.stmts + length q.stmts ≤ 8192
  last : drop (statements_place p) second ≡ flat (map encode_stmt q.stmts)

words_of_both : (n : ℕ) (first second : List ℤ) (p q : Problem) → agreement first second n ≡ agreed p q → Words first second p q
words_of_both n first second p q e =
    let i = agreement_is n first second p q e in
    let a : first ≡ declaration_words p ++ counted encode_stmt p.stmts = i.left.words ∙ encode_parts p in
    let b : second ≡ declaration_words p ++ counted encode_stmt q.stmts = i.right.words ∙ encode_parts q ∙ ap (λ (l : List ℤ). l ++ counted encode_stmt q.stmts) (sym i.declarations) in
    record {
      left = a;
      right = b;
      left_size = omega (arith, ap length a, length-append (declaration_words p) (counted encode_stmt p.stmts));
      right_size = omega (arith, ap length b, length-append (declaration_words p) (counted encode_stmt q.stmts));
      few = omega (arith, i.left.well.few_stmts, i.right.well.few_stmts);
      last = ap (drop (statements_place p)) b ∙ drop-append-add (declaration_words p) (counted encode_stmt q.stmts) 1;
    }

module _ (first second : List ℤ) (d : Pair) (buffer : List ℤ) (y : ReadyWrite first second d buffer) where
  ws : Words first second y.left y.right
  ws = words_of_both y.size first second y.left y.right y.agrees

  place : d.at ≡ statements_place y.left
  place = ap (λ (x : Pair). x.at) y.pair_is

  pub write_first : length first ≤ length buffer
  write_first = omega (arith, y.room, both_length y.left y.right, ws.left_size)

  pub write_few : d.first + d.second ≤ 8192
  write_few = omega (arith, ws.few, ap (λ (x : Pair). x.first) y.pair_is, ap (λ (x : Pair). x.second) y.pair_is)

  pub write_place : (1 ≤ d.at) × (d.at - 1 < length first) × (d.at ≤ length second)
  write_place = (omega (arith, place), omega (arith, place, ws.left_size), omega (arith, place, ws.right_size))

  -- once the first set stands in the buffer
  pub write_second : (b₁ : List ℤ) (x : ℤ) → length b₁ ≡ length buffer → (d.at + (length second - d.at) ≤ length second) × (length first + (length second - d.at) ≤ length (set b₁ (d.at - 1) x))
  write_second b₁ x e = (omega (arith, write_place.2), omega (arith, y.room, both_length y.left y.right, ws.left_size, ws.right_size, place, e, length-set b₁ (d.at - 1) x))

  module _ (b₁ : List ℤ) (x : ℤ) (b₂ : List ℤ) (r₁ r₂ : ℕ) (s₁ : Stored buffer 0 (take (length first) first) b₁ r₁) (ex : x ≡ pos (d.first + d.second)) (s₂ : Stored (set b₁ (d.at - 1) x) (length first) (take (length second - d.at) (drop d.at second)) b₂ r₂) (l₁ : length b₁ ≡ length buffer) where
    e₁ : b₁ ≡ sets buffer 0 first
    e₁ = copied buffer 0 first b₁ r₁ (omega (arith, write_first)) (rw (take-length first) at s₁)

    e₂ : b₂ ≡ sets (set b₁ (d.at - 1) x) (length first) (drop d.at second)
    e₂ = copied (set b₁ (d.at - 1) x) (length first) (drop d.at second) b₂ r₂ (omega (arith, length-drop d.at second, (write_second b₁ x l₁).1)) (rw (take_rest second d.at) at s₂)

    stored : b₂ ≡ sets buffer 0 (encode (both y.left y.right))
    stored =
        let us : List ℤ = declaration_words y.left in
        let xs : List ℤ = flat (map encode_stmt y.left.stmts) in
        let zs : List ℤ = flat (map encode_stmt y.right.stmts) in
        let c : ℤ = pos (length y.left.stmts + length y.right.stmts) in
        let i : d.at - 1 ≡ length us = omega (arith, place) in
        let m : length first ≡ 0 + length (us ++ (c ∷ xs)) = omega (arith, ws.left_size, length-append us (c ∷ xs)) in
        let k : x ≡ c = ex ∙ rw y.pair_is refl in
        let f : drop d.at second ≡ zs = ap (λ n. drop n second) place ∙ ws.last in
        let g : b₁ ≡ sets buffer 0 (us ++ (pos (length y.left.stmts) ∷ xs)) = e₁ ∙ ap (sets buffer 0) ws.left in
        e₂
        ∙ rw (f, i, k, m, g, stored_anew buffer us (pos (length y.left.stmts)) c xs) (sym (sets_append buffer 0 (us ++ (c ∷ xs)) zs))
        ∙ ap (sets buffer 0) (append_assoc us (c ∷ xs) zs ∙ sym (both_words y.left y.right))

    pub write_post : WritePost first second buffer b₂
    write_post n p q e =
        let i = agreement_is n first second p q e in
        let j = agreement_is y.size first second y.left y.right y.agrees in
        let a : ok y.left [] ≡ ok p [] = sym j.left.says ∙ i.left.says in
        let b : ok y.right [] ≡ ok q [] = sym j.right.says ∙ i.right.says in
        let u : y.left ≡ p = cc in
        let v : y.right ≡ q = cc in
        stored ∙ rw (u, v) refl
