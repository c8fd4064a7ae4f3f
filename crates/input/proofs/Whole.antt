-- Laws for the loops over lines and for the whole text, over variables. Assumes nothing.
use mathlib.Core.Path.{◌≡◌, refl, sym, ap, ◌∙◌, subst}
use mathlib.Core.Bool.{Bool, true, false, cond}
use mathlib.Core.List.{List, [], ◌∷◌}
use mathlib.Core.Option.{Option, none, some}
use Rattle.std.specs.Prelude.{Some, None, is_some}
use Rattle.std.specs.Prelude as code
use Prim.Native.Nat.{ℕ, ◌+◌, ◌≤◌, ◌<◌}
use native.Mathlib.Omega.{arith}
use lib.IntN.{ℤ, pos}
use lib.Dec.{eqb}
use lib.ListN.{length, replicate, length-replicate, drop_of_length-le}
use lib.Seq.{sets}
use borrow.Author.Tests.{lt-ltb, le-ltb}
use Rattle.decimal.specs.Bytes.{line_feed, bools_key, ints_key, int_key, statements_key, statement_key}
use Rattle.input.specs.ReadText.{Reader, onto, split, count_line, lines, end, read_lines, read_text}
use Rattle.input.specs.Input.{fill, filled, left_at, left_step, left_line, InStep, InLine, Filled, Stepped, Lined, Inside, head, tail, words_of, words_after}
use Rattle.decimal.specs.Puts.{cons_at}
use Rattle.input.proofs.Reading.{lines_end, step_stop, step_then}

differ : {X : Type 0} → ◌≡◌ {A = ℕ} 0 1 → X
differ z = absurd (omega arith)

-- ---- every line with a key: out, i and n are where the loop is

module _ (key text : List ℕ) (out₀ : List ℤ) (at k : ℕ) (out : List ℤ) (i n : ℕ) (size : length out ≡ length out₀)
    (inv : (next : Reader) → next [] ≡ none → left_at (lines key next) text out₀ at k ≡ left_at (lines key next) text out i n) where
  pub lines_done : 0 < length key → i ≤ length text → n ≤ i → length text ≤ i → Stepped (lines key) text out₀ at k out (Some (i, n))
  unfolding left_step
  lines_done h a b l = record { inside = (a, b); size = size; left = λ next z. inv next z ∙ lines_end text key next out i n h l }

  module _ (out' : List ℤ) (r : code.Option (code.Option (ℕ × ℕ))) (s : Lined key text out i n out' r) where
    pub lines_unread : r ≡ None → Stepped (lines key) text out₀ at k out' None
    unfolding left_line left_step
    lines_unread u = record { inside = tt; size = s.size ∙ size; left = λ next z. inv next z ∙ s.left next z ∙ ap (left_line (lines key next) next text out' i n) u }

    pub lines_other : r ≡ (Some None) → i ≤ length text → n ≤ i → Stepped (lines key) text out₀ at k out' (Some (i, n))
    unfolding left_line left_step
    lines_other u a b = record { inside = (a, b); size = s.size ∙ size; left = λ next z. inv next z ∙ s.left next z ∙ ap (left_line (lines key next) next text out' i n) u }

    module _ (j m : ℕ) (u : r ≡ Some (Some (j, m))) where
      pub lines_in : (i < j) × ((j ≤ length text) × (m ≤ j))
      lines_in = subst (λ (l : code.Option (code.Option (ℕ × ℕ))). InLine text i l) u s.inside

      pub lines_again : (j ≤ length text) × (m ≤ j) × (length out' ≡ length out₀) × ((next : Reader) → next [] ≡ none → left_at (lines key next) text out₀ at k ≡ left_at (lines key next) text out' j m)
      unfolding left_line
      lines_again = (lines_in.1.0, lines_in.1.1, s.size ∙ size, λ next z. inv next z ∙ s.left next z ∙ ap (left_line (lines key next) next text out' i n) u)

-- ---- readers one after another

pub inside_next : (text : List ℕ) (r : code.Option (ℕ × ℕ)) (a m : ℕ) → length text ≤ 65536 → InStep text r → r ≡ Some (a, m) → Inside text a m
inside_next text r a m h i e = let p : (a ≤ length text) × (m ≤ a) = subst (λ (s : code.Option (ℕ × ℕ)). InStep text s) e i in record { short = h; place = p.0; count = p.1 }

count_ends : (key : List ℕ) (f : Reader → Reader) (next : Reader) → next [] ≡ none → count_line key (f next) [] ≡ none
unfolding count_line
count_ends key f next z = refl

lines_ends : (key : List ℕ) (next : Reader) → next [] ≡ none → lines key next [] ≡ none
unfolding lines
lines_ends key next z = z

module _ (text : List ℕ) (out : List ℤ) (at k : ℕ) (f : Reader → Reader) (mid : List ℤ) (r : code.Option (ℕ × ℕ)) (s : Stepped f text out at k mid r) where
  at_unread : r ≡ None → Stepped f text out at k mid None
  at_unread e = subst (λ (q : code.Option (ℕ × ℕ)). Stepped f text out at k mid q) e s

  at_step : (a m : ℕ) → r ≡ Some (a, m) → Stepped f text out at k mid (Some (a, m))
  at_step a m e = subst (λ (q : code.Option (ℕ × ℕ)). Stepped f text out at k mid q) e s

module _ (text : List ℕ) (out : List ℤ) (out₁ : List ℤ) (r₁ : code.Option (ℕ × ℕ)) (s₁ : Stepped (count_line bools_key) text out 0 0 out₁ r₁) where
  pub head_one : r₁ ≡ None → Stepped head text out 0 0 out₁ None
  unfolding head
  head_one e = step_stop text out out₁ 0 0 (count_line bools_key) (λ next. count_line ints_key (lines int_key next)) (count_ends ints_key (lines int_key)) (at_unread text out 0 0 (count_line bools_key) out₁ r₁ s₁ e)

  module _ (a j : ℕ) (e₁ : r₁ ≡ Some (a, j)) (out₂ : List ℤ) (r₂ : code.Option (ℕ × ℕ)) where
    then_one : (g : Reader → Reader) → ((next : Reader) → next [] ≡ none → g next [] ≡ none) → Stepped g text out₁ a j out₂ r₂ → Stepped (λ next. count_line bools_key (g next)) text out 0 0 out₂ r₂
    then_one g h t = step_then text out out₁ 0 0 (count_line bools_key) g a j out₂ r₂ h (at_step text out 0 0 (count_line bools_key) out₁ r₁ s₁ a j e₁) t

  module _ (a j : ℕ) (e₁ : r₁ ≡ Some (a, j)) (out₂ : List ℤ) (r₂ : code.Option (ℕ × ℕ)) (s₂ : Stepped (count_line ints_key) text out₁ a j out₂ r₂) where
    pub head_two : r₂ ≡ None → Stepped head text out 0 0 out₂ None
    unfolding head
    head_two e = then_one a j e₁ out₂ None (λ next. count_line ints_key (lines int_key next)) (count_ends ints_key (lines int_key))
        (step_stop text out₁ out₂ a j (count_line ints_key) (lines int_key) (lines_ends int_key) (at_unread text out₁ a j (count_line ints_key) out₂ r₂ s₂ e))

    pub head_three : (b k : ℕ) (e₂ : r₂ ≡ Some (b, k)) (out₃ : List ℤ) (r₃ : code.Option (ℕ × ℕ)) → Stepped (lines int_key) text out₂ b k out₃ r₃ → Stepped head text out 0 0 out₃ r₃
    unfolding head
    head_three b k e₂ out₃ r₃ s₃ = then_one a j e₁ out₃ r₃ (λ next. count_line ints_key (lines int_key next)) (count_ends ints_key (lines int_key))
        (step_then text out₁ out₂ a j (count_line ints_key) (lines int_key) b k out₃ r₃ (lines_ends int_key) (at_step text out₁ a j (count_line ints_key) out₂ r₂ s₂ b k e₂) s₃)

module _ (text : List ℕ) (out : List ℤ) (at k : ℕ) (out₁ : List ℤ) (r₁ : code.Option (ℕ × ℕ)) (s₁ : Stepped (count_line statements_key) text out at k out₁ r₁) where
  pub tail_one : r₁ ≡ None → Stepped tail text out at k out₁ None
  unfolding tail
  tail_one e = step_stop text out out₁ at k (count_line statements_key) (lines statement_key) (lines_ends statement_key) (at_unread text out at k (count_line statements_key) out₁ r₁ s₁ e)

  pub tail_two : (a n : ℕ) → r₁ ≡ Some (a, n) → (out₂ : List ℤ) (r₂ : code.Option (ℕ × ℕ)) → Stepped (lines statement_key) text out₁ a n out₂ r₂ → Stepped tail text out at k out₂ r₂
  unfolding tail
  tail_two a n e out₂ r₂ s₂ = step_then text out out₁ at k (count_line statements_key) (lines statement_key) a n out₂ r₂ (lines_ends statement_key) (at_step text out at k (count_line statements_key) out₁ r₁ s₁ a n e) s₂

-- ---- the end of the text

end_onto : (b : ℕ) (ps : List (List ℕ)) → end (onto b ps) ≡ none
unfolding end
end_onto b [] = refl
end_onto b (p ∷ ps) = refl

end_cons : (b : ℕ) (ps : List (List ℕ)) → end ([] ∷ onto b ps) ≡ none
unfolding end
end_cons b [] = refl
end_cons b (p ∷ ps) = refl

end_more : (s : ℕ) (bs : List ℕ) → end ([] ∷ split s bs) ≡ none
unfolding split end
end_more s [] = refl
end_more s (b ∷ bs) = go (eqb b s)
  where
    go : (t : Bool) → end ([] ∷ cond t ([] ∷ split s bs) (onto b (split s bs))) ≡ none
    go true = refl
    go false = end_cons b (split s bs)

not_end : (s b : ℕ) (bs : List ℕ) → end (split s (b ∷ bs)) ≡ none
unfolding split
not_end s b bs = go (eqb b s)
  where
    go : (t : Bool) → end (cond t ([] ∷ split s bs) (onto b (split s bs))) ≡ none
    go true = end_more s bs
    go false = end_onto b (split s bs)

-- ---- the whole

pub text_long : (text : List ℕ) (out : List ℤ) → 65536 < length text → Filled out 0 (read_text text) 65536 out None
unfolding read_text fill filled
text_long text out h = record { size = refl; words = rw (lt-ltb 65536 (length text) h) refl; few = tt }

module _ (text : List ℕ) (short : length text ≤ 65536) (out out₁ : List ℤ) (r₁ : code.Option (ℕ × ℕ)) (s₁ : Stepped head text out 0 0 out₁ r₁) where
  whole : fill out 0 (read_text text) ≡ left_at (head (tail end)) text out 0 0
  unfolding read_text read_lines left_at head tail
  whole = rw (le-ltb 65536 (length text) short) refl

  tail_ends : tail end [] ≡ none
  unfolding tail count_line
  tail_ends = refl

  pub whole_head : r₁ ≡ None → Filled out 0 (read_text text) 65536 out₁ None
  unfolding left_step filled
  whole_head e = record { size = s₁.size; words = whole ∙ s₁.left (tail end) tail_ends ∙ ap (left_step (tail end) text out₁) e; few = tt }

  module _ (a k : ℕ) (e₁ : r₁ ≡ Some (a, k)) (out₂ : List ℤ) (r₂ : code.Option (ℕ × ℕ)) (s₂ : Stepped tail text out₁ a k out₂ r₂) where
    end_ends : end [] ≡ none
    unfolding end
    end_ends = refl

    both : fill out 0 (read_text text) ≡ left_step end text out₂ r₂
    unfolding left_step
    both = whole ∙ s₁.left (tail end) tail_ends ∙ ap (left_step (tail end) text out₁) e₁ ∙ s₂.left end end_ends

    pub whole_tail : r₂ ≡ None → Filled out 0 (read_text text) 65536 out₂ None
    unfolding left_step filled
    whole_tail e = record { size = s₂.size ∙ s₁.size; words = both ∙ ap (left_step end text out₂) e; few = tt }

    module _ (e n : ℕ) (e₂ : r₂ ≡ Some (e, n)) where
      pub whole_more : e < length text → Filled out 0 (read_text text) 65536 out₂ None
      unfolding left_step left_at filled fill
      whole_more h = record { size = s₂.size ∙ s₁.size; words = both ∙ ap (left_step end text out₂) e₂ ∙ rw (cons_at text e h, not_end line_feed _ _) refl; few = tt }

      pub whole_end : length text ≤ e → Filled out 0 (read_text text) 65536 out₂ (Some n)
      unfolding left_step left_at filled fill end split
      whole_end h =
          let p : (e ≤ length text) × (n ≤ e) = subst (λ (s : code.Option (ℕ × ℕ)). InStep text s) e₂ s₂.inside in
          record {
            size = s₂.size ∙ s₁.size;
            words = both ∙ ap (left_step end text out₂) e₂ ∙ rw (drop_of_length-le text h) (let z : n + 0 ≡ n = omega arith in ap (λ j. some (out₂, j)) z);
            few = let q = p.0 in let v = p.1 in omega arith;
          }

-- the words are cleared first, and cleared again if the text is unread
module _ (out₀ out : List ℤ) (zeros : out ≡ replicate (length out₀) (pos 0)) (o : Option (List ℤ)) (out₁ : List ℤ) (r : code.Option ℕ) (s : Filled out 0 o 65536 out₁ r) where
  pub whole_count : is_some r ≡ true → (r ≡ words_of o) × (out₁ ≡ words_after (length out₀) o)
  unfolding words_of words_after filled fill
  whole_count n = elim r as (λ r. is_some r ≡ true → fill out 0 o ≡ filled out₁ r → (r ≡ words_of o) × (out₁ ≡ words_after (length out₀) o)) [ None ↦ λ e h. cc | Some n ↦ λ e h. go n o h ] n s.words
    where
      go : (n : ℕ) (q : Option (List ℤ)) → fill out 0 q ≡ filled out₁ (Some n) → (Some n ≡ words_of q) × (out₁ ≡ words_after (length out₀) q)
      go n none h = differ (cc)
      go n (some zs) h =
          let p : ◌≡◌ {A = List ℤ × ℕ} (sets out 0 zs, 0 + length zs) (out₁, n) = cc in
          let z : length zs ≡ n = let y : 0 + length zs ≡ n = ap (λ (q : List ℤ × ℕ). q.1) p in omega arith in
          (ap Some (sym z), sym (ap (λ (q : List ℤ × ℕ). q.0) p) ∙ ap (λ l. sets l 0 zs) zeros)

  pub whole_unread : (out₂ : List ℤ) → is_some r ≡ false → out₂ ≡ replicate (length out₁) (pos 0) → (r ≡ words_of o) × (out₂ ≡ words_after (length out₀) o)
  unfolding words_of words_after filled fill
  whole_unread out₂ e z = elim r as (λ r. is_some r ≡ false → fill out 0 o ≡ filled out₁ r → (r ≡ words_of o) × (out₂ ≡ words_after (length out₀) o)) [ None ↦ λ e h. go o h | Some n ↦ λ e h. cc ] e s.words
    where
      go : (q : Option (List ℤ)) → fill out 0 q ≡ filled out₁ None → (None ≡ words_of q) × (out₂ ≡ words_after (length out₀) q)
      go none h = (refl, z ∙ ap (λ n. replicate n (pos 0)) (s.size ∙ ap length zeros ∙ length-replicate (length out₀) (pos 0)))
      go (some zs) h = differ (cc)
