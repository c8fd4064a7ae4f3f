-- What a turn of `write_domains` leaves to do, and its end. Assumes nothing.
use mathlib.Core.Path.{◌≡◌, refl, ap, ◌∙◌}
use mathlib.Core.List.{List, [], ◌∷◌, map}
use Prim.Native.Nat.{ℕ, suc, ◌+◌, ◌-◌, ◌*◌, ◌≤◌, ◌<◌}
use native.Mathlib.Omega.{arith}
use lib.IntN.{ℤ, pos, nat_abs, ◌+ℤ◌, ◌-ℤ◌, -ℤ-+ℤ_cancel}
use lib.ListN.{length, set, length-set}
use mir.Syntax.{w32}
use mir.Val.{SFits}
use Rattle.laws.specs.Ints.{natAbs_add, sfits_natAbs}
use Rattle.laws.specs.Lists.{flat}
use Rattle.laws.specs.Slices.{Has, has_front, has_back}
use Rattle.syntax.specs.Syntax.{Domain, encode_domain, lower_bound, upper_bound, num_candidates}
use Rattle.domains.proofs.Laws.{sized_at}
use Rattle.domains.specs.Declared.{DomainAt, DomainSizedAt, Domains}
use Rattle.declared.specs.DomainTable.{SizeFits, TableRoom, TablePost}

-- the number of values fits where one less does
count_fits : (d : Domain) → SizeFits d → nat_abs (num_candidates d) < 2147483648
count_fits d h =
    let e : (num_candidates d -ℤ pos 1) +ℤ pos 1 ≡ num_candidates d = -ℤ-+ℤ_cancel (num_candidates d) (pos 1) in
    omega (arith, natAbs_add (num_candidates d -ℤ pos 1) (pos 1), ap nat_abs e)

module _ (ws : List ℤ) (d n : ℕ) (z : n ≡ 0 → ⊥) where
  split : {X : Type 0} (ds : List Domain) → n ≡ length ds → Domains ws d ds
      → ((x : Domain) (xs : List Domain) → ds ≡ x ∷ xs → Has ws d (encode_domain x) → Domains ws (d + length (encode_domain x)) xs → n - 1 ≡ length xs → X) → X
  split [] e h go = absurd (z e)
  split (x ∷ xs) e h go = go x xs refl (has_front ws d (encode_domain x) (flat (map encode_domain xs)) h.words) (record { words = has_back ws d (encode_domain x) (flat (map encode_domain xs)) h.words }) (omega arith)

  module _ (out : List ℤ) (o : ℕ) where
    pub first_sized : TableRoom ws d n out o → DomainSizedAt ws d
    first_sized r = split r.ds r.size r.domains λ x xs q h t e. record { it = x; words = h; fits = count_fits x ((rw q at r.fits) 0) }

    pub first_at : TableRoom ws d n out o → DomainAt ws d
    first_at r = sized_at ws d (first_sized r)

    pub less_fits : TableRoom ws d n out o → (m : ℤ) → ((dm : Domain) → Has ws d (encode_domain dm) → m ≡ num_candidates dm) → SFits w32 (m -ℤ pos 1)
    less_fits r m e = split r.ds r.size r.domains λ x xs q h t l. rw (e x h) (sfits_natAbs w32 (num_candidates x -ℤ pos 1) (omega (arith, (rw q at r.fits) 0)))

    module _ (e : ℕ) (end : (dm : Domain) → Has ws d (encode_domain dm) → e ≡ d + length (encode_domain dm)) (a b k : ℤ) where
      pub table_rest : TableRoom ws d n out o → TableRoom ws e (n - 1) (set (set (set out o a) (o + 1) b) (o + 2) k) (o + 3)
      table_rest r =
          split r.ds r.size r.domains λ x xs q h t l.
          let m : o + 3 * n ≤ length out = r.room in
          record {
            ds = xs;
            domains = rw (end x h) t;
            size = l;
            fits = λ v. (rw q at r.fits) (suc v);
            room = omega (arith, length-set (set (set out o a) (o + 1) b) (o + 2) k, length-set (set out o a) (o + 1) b, length-set out o a);
          }

      pub table_more : ((dm : Domain) → Has ws d (encode_domain dm) → a ≡ lower_bound dm) → ((dm : Domain) → Has ws d (encode_domain dm) → b ≡ upper_bound dm) → ((dm : Domain) → Has ws d (encode_domain dm) → k ≡ num_candidates dm -ℤ pos 1)
          → (out' : List ℤ) → TablePost ws e (n - 1) (set (set (set out o a) (o + 1) b) (o + 2) k) (o + 3) out' → TablePost ws d n out o out'
      table_more low high many out' p ds h s =
          split ds s h λ x xs q g t l.
          let y = p xs (rw (end x g) t) l in
          let m1 : o + 1 ≡ suc o = omega arith in
          let m2 : o + 2 ≡ suc (suc o) = omega arith in
          let m3 : o + 3 ≡ suc (suc (suc o)) = omega arith in
          rw q (y ∙ rw (m1, m2, m3, low x g, high x g, many x g) refl)

pub table_none : (ws : List ℤ) (d n : ℕ) (out : List ℤ) (o : ℕ) → n ≡ 0 → TablePost ws d n out o out
table_none ws d n out o z [] h s = refl
table_none ws d n out o z (x ∷ ds) h s = absurd (omega arith)
