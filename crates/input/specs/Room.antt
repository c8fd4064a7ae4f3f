-- A text has at least two bytes for each of its words: 32768 words have room for those of any text. Assumes nothing.
use Rattle.std.specs.Prelude.{◌≡◌, Bool, true, false, cond, ℕ, ◌+◌, ◌*◌, ◌≤◌, ◌<◌, ℤ, eqb, ltb}
use Rattle.std.proofs.Math.Path.{refl}
use Rattle.std.proofs.Common.{sym, ap, ◌∙◌, arith, length-append, ltb-false}
use mathlib.Core.List.{List, [], ◌∷◌, ◌++◌}
use Rattle.std.proofs.Math.Option.{Option, none, some}
use Rattle.std.proofs.Math.ListN.{length}
use Rattle.decimal.specs.Bytes.{comma, line_feed, bools_key, ints_key, int_key, statements_key, statement_key}
use Rattle.decimal.specs.Decimal.{read_number}
use Rattle.input.specs.ReadText.{onto, split, after, join, single, read_numbers, Reader, one_number, count_line, line_or, lines, end, read_lines, max_bytes, read_text}

differ : {X : Type 0} → ◌≡◌ {A = ℕ} 0 1 → X
differ z = absurd (omega arith)

-- the bytes of parts, with one behind each
sized : List (List ℕ) → ℕ
sized [] = 0
sized (p ∷ ps) = length p + 1 + sized ps

onto_sized : (b : ℕ) (ps : List (List ℕ)) → 0 < sized ps → sized (onto b ps) ≡ sized ps + 1
unfolding sized
onto_sized b [] h = absurd (omega arith)
onto_sized b (p ∷ ps) h = omega arith

split_sized : (s : ℕ) (bs : List ℕ) → sized (split s bs) ≡ length bs + 1
unfolding split sized
split_sized s [] = refl
split_sized s (b ∷ bs) = go (eqb b s) (split_sized s bs)
  where
    go : (t : Bool) → sized (split s bs) ≡ length bs + 1 → sized (cond t ([] ∷ split s bs) (onto b (split s bs))) ≡ length (b ∷ bs) + 1
    go true h = omega (arith, h)
    go false h = onto_sized b (split s bs) (omega (arith, h)) ∙ omega (arith, h)

-- ---- what is joined

module _ {X : Type 0} where
  joined : (a b : Option (List ℤ)) (ws : List ℤ) → join a b ≡ some ws → ((xs ys : List ℤ) → a ≡ some xs → b ≡ some ys → length ws ≡ length xs + length ys → X) → X
  joined none b ws h k = differ (cc)
  joined (some xs) none ws h k = differ (cc)
  joined (some xs) (some ys) ws h k = let e : xs ++ ys ≡ ws = cc in k xs ys refl refl (sym (ap length e) ∙ length-append xs ys)

single_one : (o : Option ℤ) (xs : List ℤ) → single o ≡ some xs → length xs ≡ 1
single_one none xs h = differ (cc)
single_one (some z) xs h = let e : z ∷ [] ≡ xs = cc in sym (ap length e)

-- ---- numbers and lines

number_some : (p : List ℕ) (xs : List ℤ) → single (read_number p) ≡ some xs → (length xs ≡ 1) × (0 < length p)
unfolding read_number
number_some [] xs h = differ (cc)
number_some (b ∷ bs) xs h = (single_one (unfold read_number in read_number (b ∷ bs)) xs h, omega arith)

numbers_few : (ps : List (List ℕ)) (ws : List ℤ) → read_numbers ps ≡ some ws → 2 * length ws ≤ sized ps
unfolding read_numbers sized
numbers_few [] ws h = let e : [] ≡ ws = cc in omega (arith, ap length e)
numbers_few (p ∷ ps) ws h = joined (single (read_number p)) (read_numbers ps) ws h (λ xs ys a b e. let q = number_some p xs a in let u = q.0 in let v = q.1 in let w = numbers_few ps ys b in omega arith)

after_length : (key line r : List ℕ) → after key line ≡ some r → length line ≡ length key + length r
unfolding after
after_length [] line r h = let e : line ≡ r = cc in omega (arith, ap length e)
after_length (k ∷ key) [] r h = differ (cc)
after_length (k ∷ key) (b ∷ line) r h = go (eqb b k) h (λ q. after_length key line r q)
  where
    go : (t : Bool) → cond t (after key line) none ≡ some r → (after key line ≡ some r → length line ≡ length key + length r) → length (b ∷ line) ≡ length (k ∷ key) + length r
    go true q f = let l = f q in omega arith
    go false q f = differ (cc)

-- a reader that finds no more words than half the bytes
abbrev Few : Reader → Type 0
Few next = (ps : List (List ℕ)) (ws : List ℤ) → next ps ≡ some ws → 2 * length ws ≤ sized ps

module _ (key : List ℕ) (filled : 0 < length key) (next : Reader) (few : Few next) where
  count_few : Few (count_line key next)
  unfolding count_line sized
  count_few [] ws h = differ (cc)
  count_few (p ∷ ps) ws h = joined (one_number (after key p)) (next ps) ws h (λ xs ys a b e. let c = one (after key p) refl xs a in let u = c.0 in let v = c.1 in let w = few ps ys b in omega arith)
    where
      one : (o : Option (List ℕ)) → after key p ≡ o → (xs : List ℤ) → one_number o ≡ some xs → (length xs ≡ 1) × (0 < length p)
      one none e xs h = differ (cc)
      one (some r) e xs h = (single_one (read_number r) xs h, omega (arith, after_length key p r e))

  lines_few : Few (lines key next)
  unfolding lines sized
  lines_few [] ws h = few [] ws h
  lines_few (p ∷ ps) ws h = go (after key p) refl h (λ ys q. lines_few ps ys q)
    where
      go : (o : Option (List ℕ)) → after key p ≡ o → line_or o (lines key next ps) (next (p ∷ ps)) ≡ some ws → ((ys : List ℤ) → lines key next ps ≡ some ys → 2 * length ys ≤ sized ps) → 2 * length ws ≤ length p + 1 + sized ps
      go none e q f = unfold sized in few (p ∷ ps) ws q
      go (some r) e q f = joined (read_numbers (split comma r)) (lines key next ps) ws q (λ xs ys a b d. let u = numbers_few (split comma r) xs a in let v = split_sized comma r in let w = f ys b in omega (arith, after_length key p r e))

end_few : Few end
unfolding end
end_few [] ws h = differ (cc)
end_few ([] ∷ []) ws h = let e : [] ≡ ws = cc in omega (arith, ap length e)
end_few ([] ∷ p ∷ ps) ws h = differ (cc)
end_few ((b ∷ bs) ∷ ps) ws h = differ (cc)

lines_all_few : Few read_lines
unfolding read_lines
lines_all_few =
    count_few bools_key (omega arith) _ (count_few ints_key (omega arith) _ (lines_few int_key (omega arith) _ (count_few statements_key (omega arith) _ (lines_few statement_key (omega arith) end end_few))))

text_words : (t : List ℕ) (ws : List ℤ) → read_text t ≡ some ws → 2 * length ws ≤ length t + 1
unfolding read_text
text_words t ws h = go (ltb max_bytes (length t)) h
  where
    go : (b : Bool) → cond b none (read_lines (split line_feed t)) ≡ some ws → 2 * length ws ≤ length t + 1
    go true q = differ (cc)
    go false q = let u = lines_all_few (split line_feed t) ws q in omega (arith, split_sized line_feed t)

pub few_words : (t : List ℕ) (ws : List ℤ) → read_text t ≡ some ws → length ws ≤ 32768
unfolding read_text
few_words t ws h = go (ltb max_bytes (length t)) refl h
  where
    go : (b : Bool) → ltb max_bytes (length t) ≡ b → cond b none (read_lines (split line_feed t)) ≡ some ws → length ws ≤ 32768
    go true e q = differ (cc)
    go false e q = let l = ltb-false max_bytes (length t) e in let u = text_words t ws h in omega arith
