-- Bytes with zeros behind their end, and others written into them.
use Rattle.std.proofs.Common.{◌≡◌, ℕ, zero, suc, ◌+◌, ◌-◌, ◌≤◌, List, [], ◌∷◌, ◌++◌, length, take, drop, replicate, ap, arith, append-nil}
use Rattle.std.proofs.Math.Nat.{sub-zero, zero-sub}
use Rattle.std.proofs.Math.Seq.{take-nil, drop-nil, take-append_seam}
use Rattle.std.proofs.lemmas.List.{take-replicate, drop-replicate}
use Rattle.ec_volume.specs.Image.{overwritten}

take-filled : (n e : ℕ) (bs : List ℕ) → n ≤ e → take n (bs ++ replicate (e - length bs) 0) ≡ take n bs ++ replicate (n - length bs) 0
take-filled n e [] le = rw (sub-zero e, sub-zero n, take-nil {A = ℕ} n) (take-replicate n e 0 le)
take-filled zero e (b ∷ bs) le = rw (zero-sub (suc (length bs)))
take-filled (suc n) zero (b ∷ bs) le = absurd (omega arith)
take-filled (suc n) (suc e) (b ∷ bs) le =
    let p : suc e - suc (length bs) ≡ e - length bs = omega arith in
    let q : suc n - suc (length bs) ≡ n - length bs = omega arith in
    rw (p, q) (ap (λ xs. b ∷ xs) (take-filled n e bs (omega arith)))

drop-filled : (e : ℕ) (bs : List ℕ) → drop e (bs ++ replicate (e - length bs) 0) ≡ drop e bs
drop-filled e [] =
    let none : e - e ≡ 0 = omega arith in
    rw (sub-zero e, drop-nil {A = ℕ} e, drop-replicate {X = ℕ} e e 0, none)
drop-filled zero (b ∷ bs) = rw (zero-sub (suc (length bs))) (append-nil (b ∷ bs))
drop-filled (suc e) (b ∷ bs) =
    let p : suc e - suc (length bs) ≡ e - length bs = omega arith in
    rw p (drop-filled e bs)

pub overwritten_filled : (at : ℕ) (new bs ys : List ℕ) → ys ≡ bs ++ replicate (at + length new - length bs) 0 → take at ys ++ new ++ drop (at + length new) ys ≡ overwritten at new bs
overwritten_filled at new bs ys e = rw (e, take-filled at (at + length new) bs (omega arith), drop-filled (at + length new) bs)

pub whole : (xs ys : List ℕ) (n : ℕ) → length xs ≡ n → take n (xs ++ drop (length xs) ys) ≡ xs
whole xs ys n e = rw (← e) (take-append_seam xs (drop (length xs) ys))
