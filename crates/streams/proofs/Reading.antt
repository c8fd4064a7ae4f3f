-- A read in place: the front that was read before stays, and what was read stands behind it.
use Rattle.std.proofs.Common.{◌≡◌, ℕ, ◌+◌, List, ◌++◌, IfOk, None, Some, length, take, drop, refl, sym, ap, subst, ◌∙◌, drop_at, append_assoc}
use Rattle.std.proofs.Math.Seq.{take-append-le, take-add}
use Rattle.std.specs.declared.option.Option.{Option}
use Rattle.std.specs.declared.result.Result.{Result}
use Rattle.std.specs.declared.result.Result.TheVariants.{Ok, Err}
use Rattle.std.specs.Io.{ReadsAtMost}
use Rattle.std.specs.Io.KnownBytes.{Consumes, ReadConsumes}

pub consumes_nothing : (a : Option (List ℕ)) (xs : List ℕ) → Consumes a a (take 0 xs)
consumes_nothing None xs = tt
consumes_nothing (Some x) xs = refl

pub consumes_both : (a b c : Option (List ℕ)) (bs cs : List ℕ) → Consumes a b bs → Consumes b c cs → Consumes a c (bs ++ cs)
consumes_both None b c bs cs p q = tt
consumes_both (Some x) None c bs cs p q = absurd p
consumes_both (Some x) (Some y) None bs cs p q = absurd q
consumes_both (Some x) (Some y) (Some z) bs cs p q = p ∙ ap (λ l. bs ++ l) q ∙ sym (append_assoc bs cs z)

pub bytes_read : {E : Type 0} (a b : Option (List ℕ)) (r : Result ℕ E) (part : List ℕ) → ReadConsumes a b r part → IfOk r (λ n. Consumes a b (take n part))
bytes_read a b (Ok n) part h = h.0
bytes_read a b (Err e) part h = tt

-- what was read into the part stands behind the front
pub consumes_in_place : {E : Type 0} (a b : Option (List ℕ)) (r : Result ℕ E) (front part rest : List ℕ) (at : ℕ) → length front ≡ at → ReadsAtMost r part → IfOk r (λ n. Consumes a b (take n part)) → IfOk r (λ n. Consumes a b (take n (drop at (front ++ (part ++ rest)))))
consumes_in_place a b (Ok n) front part rest at long fits read = subst (Consumes a b) (sym (ap (take n) (drop_at front (part ++ rest) at long) ∙ take-append-le n part rest fits.0)) read
consumes_in_place a b (Err e) front part rest at long fits read = tt

-- xs was filled up to f, and ys has that front and n bytes more
pub filled_more : (a b c : Option (List ℕ)) (xs ys : List ℕ) (f n : ℕ) → take f ys ≡ take f xs → Consumes a b (take f xs) → Consumes b c (take n (drop f ys)) → Consumes a c (take (f + n) ys)
filled_more a b c xs ys f n front before read =
    let h : Consumes a b (take f ys) = subst (Consumes a b) (sym front) before in
    subst (Consumes a c) (sym (take-add f n ys)) (consumes_both a b c _ _ h read)
