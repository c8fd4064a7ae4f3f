-- The records of an answer are sound: lowest is not above highest; a literal is an emitted one and its two values rise.
use Rattle.std.specs.Prelude.{◌≡◌, Bool, true, ◌&&◌, List, [], ◌∷◌, ◌++◌, ℕ, ◌≤◌, ℤ}
use Rattle.std.proofs.Math.Path.{refl}
use Rattle.std.proofs.Common.{◌∙◌, arith, lt-ltb}
use Rattle.std.specs.Int.Signed.{le_z, lt_z}
use Rattle.laws.specs.Bools.{and_l, and_r, and_i}
use Rattle.laws.specs.Order.{leZ_trans}
use Rattle.laws.specs.Lists.{all, all_append}
use Rattle.syntax.specs.Syntax.{Domain, lower_bound, upper_bound, domain_of}
use Rattle.syntax.specs.Satisfies.{Val, IVal}
use Rattle.sums.proofs.Domain.{between}
use Rattle.clauses.specs.Clause.{lit}
use Rattle.clauses.specs.Log.{declared, aux, side, MadeInt, declared_int, column, chosen, binary, bool, merged, int, added, defined, known, Log, next_bool, next_int, made_ints, domain_made, emitted_domains}
use Rattle.clauses.proofs.Grow.{Legal, Extends, same, grow}
use Rattle.clauses.proofs.Emitted.{new_domain}
use Rattle.clauses.specs.Merge.{WellMerged}
use Rattle.clauses.proofs.Entries.{MadeWell, WellMade}
use Rattle.clauses.proofs.Ranges.{Within}
use Rattle.answer.specs.Answer.{Emitted, ranging, following, emitted_of, emitted}
use Rattle.answer.specs.Passes.{lit_emitted}
use Rattle.answer.proofs.Records.{emitted_more, within_before}

-- lowest is not above highest
abbrev pub sound_bounds : Domain → Bool
sound_bounds d = le_z (lower_bound d) (upper_bound d)

-- bools: how many Booleans are emitted
abbrev pub sound_record : ℕ → Emitted → Bool
sound_record bools (ranging d) = sound_bounds d
sound_record bools (following l a b) = lit_emitted bools l && lt_z a b

-- some value lies between
value_between : (d : Domain) (x : ℤ) → between d x ≡ true → sound_bounds d ≡ true
value_between d x h = leZ_trans (lower_bound d) x (upper_bound d) (and_l (le_z (lower_bound d) x) _ h) (and_r (le_z (lower_bound d) x) _ h)

module _ (ds : List Domain) (P Q : ℕ → Type 0) (δ : Val) (ε : IVal) (ρ : Val) (ι : IVal) (k : ℕ) where
  made_sound : (m : MadeInt) (s : Log) → Legal true δ ε (int m) s → next_bool s ≤ k → MadeWell ds P Q (int m) s → between (domain_made ds m) (ι (next_int s)) ≡ true → sound_record k (emitted_of ds m) ≡ true
  made_sound (declared_int v) s l q w h = value_between (domain_of ds v) (ι (next_int s)) h
  made_sound (column x d) s l q w h = value_between d (ι (next_int s)) h
  made_sound (chosen i e p r d) s l q w h = value_between d (ι (next_int s)) h
  made_sound (binary i (lit n g) a b) s l q w h = and_i (lit_emitted k (lit n g)) (lt_z a b) (lt-ltb n k (omega (arith, l))) w

  one_more : (e : Emitted) (es : List Emitted) → all (sound_record k) es ≡ true → sound_record k e ≡ true → all (sound_record k) (es ++ (e ∷ [])) ≡ true
  one_more e es h j = all_append (sound_record k) es (e ∷ []) ∙ and_i (all (sound_record k) es) _ h (and_i (sound_record k e) true j refl)

  pub log_sound : {s0 s : Log} → Extends δ ε s0 s → emitted ds s0 ≡ [] → next_bool s ≤ k → WellMade ds P Q s → Within ds ι s → all (sound_record k) (emitted ds s) ≡ true
  unfolding emitted made_ints emitted_domains
  log_sound same z q w h = rw z refl
  log_sound (grow (bool m) l g) z q w h = log_sound g z (omega arith) w.1 h
  log_sound (grow (merged u v p) l g) z q w h = absurd l
  log_sound (grow {t} (int m) l g) z q w h =
      rw (emitted_more ds m t) (one_more (emitted_of ds m) (emitted ds t) (log_sound g z q w.1 (within_before ds ρ ι m t h)) (made_sound m t l q w.0 (rw (new_domain ds m t) at (h (next_int t) (omega arith)))))
  log_sound (grow (added cs) l g) z q w h = log_sound g z q w.1 h
  log_sound (grow (defined cs) l g) z q w h = log_sound g z q w.1 h
  log_sound (grow (known e v) l g) z q w h = log_sound g z q w.1 h

-- merging emits no integer
pub merged_no_records : (ds : List Domain) (s : Log) → WellMerged s → emitted ds s ≡ []
unfolding emitted made_ints
merged_no_records ds [] w = refl
merged_no_records ds (bool (declared v) ∷ s) w = merged_no_records ds s w.1
merged_no_records ds (bool (aux cs) ∷ s) w = absurd w
merged_no_records ds (bool (side e) ∷ s) w = absurd w
merged_no_records ds (merged v u g ∷ s) w = merged_no_records ds s w.1.1
merged_no_records ds (int m ∷ s) w = absurd w
merged_no_records ds (added cs ∷ s) w = absurd w
merged_no_records ds (defined cs ∷ s) w = absurd w
merged_no_records ds (known e v ∷ s) w = absurd w
