-- The volume behind the first operations, at a call and at a loss.
use Rattle.std.proofs.Common.{◌≡◌, refl, sym, ap, subst, ◌∙◌, arith, ◌<◌, ◌≤◌, ◌+◌, ℕ, zero, suc, Bool, true, false, not, ◌||◌, cond, List, [], ◌∷◌, ◌++◌, length, take, get_or}
use Rattle.std.specs.List.{filter, list_any}
use Rattle.std.proofs.lemmas.Bool.{true≢false}
use Rattle.std.proofs.lemmas.List.{take_more, take_all}
use Rattle.std.proofs.lemmas.List.Folds.{list_any-append}
use Rattle.ec_volume.specs.Volume.{Images, images, formatted, after, Fits}
use Rattle.ec_volume.specs.declared.image.Image.{Image}
use Rattle.ec_pending.specs.OfOverlay.Shown.{shown}
use Rattle.ec_history.specs.History.{Op, updates, is_one_of}
use Rattle.ec_judge.specs.declared.carried.Kept.{Kept}
use Rattle.ec_judge.specs.declared.carried.Firm.{Firm}
use Rattle.ec_judge.specs.Carried.{op_of, ops_of, is_among, AreLaid, IsFrontKept, IsFirm, IsBehind, IsLeft}

-- two tests that agree on the first operations
front-same : (q r : Op → Bool) (ks js : List Kept) (n : ℕ) (v : Images) → filter r (ops_of (take n js)) ≡ filter q (ops_of (take n ks)) → IsFrontKept q ks n v → IsFrontKept r js n v
front-same q r ks js n v e h = record {
  fits = subst (λ l. Fits formatted (updates l)) (sym e) h.fits;
  same = λ o. h.same o ∙ ap (λ l. after formatted (updates l) o) (sym e);
}

-- another volume of the same images
pub front-shown : (q : Op → Bool) (ks : List Kept) (n : ℕ) (v w : Images) → ((o : ℕ) → w o ≡ v o) → IsFrontKept q ks n v → IsFrontKept q ks n w
front-shown q ks n v w e h = record { fits = h.fits; same = λ o. e o ∙ h.same o }

pub front-begins : (q : Op → Bool) (ks : List Kept) (n : ℕ) (v : Images) → n ≡ 0 → ((o : ℕ) → v o ≡ formatted o) → IsFrontKept q ks n v
front-begins q ks n v e h = subst (λ n. IsFrontKept q ks n v) (sym e) (record { fits = λ o. tt; same = h })

pub firm-new : (n : ℕ) (v : Images) (ks : List Kept) → ks ≡ [] → n ≡ 0 → ((o : ℕ) → v o ≡ formatted o) → IsFirm ks n v
firm-new n v ks none e h = record { within = omega (arith, e); front = front-begins (λ k. true) ks n v e h }

take-front : (ks js : List Kept) (n : ℕ) → n ≤ length ks → take n (ks ++ js) ≡ take n ks
take-front ks js zero l = refl
take-front [] js (suc n) l = absurd (omega (arith, l))
take-front (k ∷ ks) js (suc n) l = ap (λ l. k ∷ l) (take-front ks js n (omega (arith, l)))

length-front : (ks js : List Kept) → length ks ≤ length (ks ++ js)
length-front [] js = omega arith
length-front (k ∷ ks) js =
    let rest = length-front ks js in
    omega (arith, rest)

-- more operations
pub firm-more : (ks js : List Kept) (n : ℕ) (v : Images) → IsFirm ks n v → IsFirm (ks ++ js) n v
firm-more ks js n v h =
    let more = length-front ks js in
    let old = h.within in
    record {
      within = omega (arith, more, old);
      front = front-same (λ k. true) (λ k. true) ks (ks ++ js) n v (ap (λ l. filter (λ k. true) (ops_of l)) (take-front ks js n old)) h.front;
    }

-- what doesn't hold of the first ones doesn't of fewer of them
any-fewer : (p : Kept → Bool) (ks : List Kept) (m n : ℕ) → m ≤ n → list_any p (take n ks) ≡ false → list_any p (take m ks) ≡ false
any-fewer p ks zero n l e = refl
any-fewer p [] (suc m) n l e = refl
any-fewer p (k ∷ ks) (suc m) zero l e = absurd (omega (arith, l))
any-fewer p (k ∷ ks) (suc m) (suc n) l e = go (p k) e (any-fewer p ks m n (omega (arith, l)))
  where
    go : (x : Bool) → (x || list_any p (take n ks)) ≡ false → (list_any p (take n ks) ≡ false → list_any p (take m ks) ≡ false) → (x || list_any p (take m ks)) ≡ false
    go true d f = absurd (true≢false d)
    go false d f = f d

module _ (c b : ℕ) (ns : List ℕ) where
  abbrev q : Op → Bool
  q k = not (is_one_of c b ns k)

  -- none of the operations is lost
  unlost-filter : (ks : List Kept) → list_any (is_among c b ns) ks ≡ false → filter q (ops_of ks) ≡ filter (λ k. true) (ops_of ks)
  unlost-filter [] e = refl
  unlost-filter (k ∷ ks) e = go (is_among c b ns k) e (unlost-filter ks)
    where
      go : (x : Bool) → (x || list_any (is_among c b ns) ks) ≡ false → (list_any (is_among c b ns) ks ≡ false → filter q (ops_of ks) ≡ filter (λ k. true) (ops_of ks)) → cond (not x) (op_of k ∷ filter q (ops_of ks)) (filter q (ops_of ks)) ≡ op_of k ∷ filter (λ k. true) (ops_of ks)
      go true d f = absurd (true≢false d)
      go false d f = ap (λ l. op_of k ∷ l) (f d)

  -- the first operations are those of what the loss leaves
  unlost-take : (ks : List Kept) (n : ℕ) → n ≤ length ks → list_any (is_among c b ns) (take n ks) ≡ false → (take n (filter (λ k. not (is_among c b ns k)) ks) ≡ take n ks) × (n ≤ length (filter (λ k. not (is_among c b ns k)) ks))
  unlost-take ks zero l e = (refl, omega arith)
  unlost-take [] (suc n) l e = absurd (omega (arith, l))
  unlost-take (k ∷ ks) (suc n) l e = go (is_among c b ns k) e (unlost-take ks n (omega (arith, l)))
    where
      go : (x : Bool) → (x || list_any (is_among c b ns) (take n ks)) ≡ false → (list_any (is_among c b ns) (take n ks) ≡ false → (take n (filter (λ k. not (is_among c b ns k)) ks) ≡ take n ks) × (n ≤ length (filter (λ k. not (is_among c b ns k)) ks)))
          → (take (suc n) (cond (not x) (k ∷ filter (λ k. not (is_among c b ns k)) ks) (filter (λ k. not (is_among c b ns k)) ks)) ≡ k ∷ take n ks) × (suc n ≤ length (cond (not x) (k ∷ filter (λ k. not (is_among c b ns k)) ks) (filter (λ k. not (is_among c b ns k)) ks)))
      go true d f = absurd (true≢false d)
      go false d f =
          let r = f d in
          let below = r.1 in
          (ap (λ l. k ∷ l) r.0, omega (arith, below))

  -- the volume below is behind operations before the index
  pub behind-kept : (ks : List Kept) (from n : ℕ) (v : Images) → IsFirm ks n v → n ≤ from → list_any (is_among c b ns) (take from ks) ≡ false → IsBehind c b ns ks n v
  behind-kept ks from n v h l none =
      let e = any-fewer (is_among c b ns) ks n from l none in
      record { within = h.within; front = front-same (λ k. true) q ks ks n v (unlost-filter (take n ks) e) h.front; unlost = e }

  pub behind-begins : (ks : List Kept) (n : ℕ) (v : Images) → n ≡ 0 → ((o : ℕ) → v o ≡ formatted o) → IsBehind c b ns ks n v
  behind-begins ks n v e h = record { within = omega (arith, e); front = front-begins q ks n v e h; unlost = ap (λ n. list_any (is_among c b ns) (take n ks)) e }

  -- one operation more
  pub unlost-more : (ks : List Kept) (i : ℕ) (k : Kept) → i < length ks → k ≡ get_or ks i k → list_any (is_among c b ns) (take i ks) ≡ false → is_among c b ns k ≡ false → list_any (is_among c b ns) (take (i + 1) ks) ≡ false
  unlost-more ks i k within is e d = ap (list_any (is_among c b ns)) (take_more ks i k within ∙ ap (λ z. take i ks ++ z ∷ []) (sym is)) ∙ list_any-append (is_among c b ns) (take i ks) (k ∷ []) ∙ ap (λ z. z || (is_among c b ns k || false)) e ∙ ap (λ z. z || false) d

  -- behind the loss
  firm-left : (ks : List Kept) (n : ℕ) (v : Images) → IsBehind c b ns ks n v → IsFirm (filter (λ k. not (is_among c b ns k)) ks) n v
  firm-left ks n v h =
      let left = unlost-take ks n h.within h.unlost in
      record { within = left.1; front = front-same q (λ k. true) ks (filter (λ k. not (is_among c b ns k)) ks) n v (ap (λ l. filter (λ k. true) (ops_of l)) left.0 ∙ sym (unlost-filter (take n ks) h.unlost)) h.front }

  pub left-all : (ks : List Kept) (f : Firm) (n : ℕ) (under : List (ℕ × Image)) → IsFrontKept q ks (length ks) (shown f.volume) → IsBehind c b ns ks n (images under) → f.count ≡ n → f.volume.under ≡ under
      → AreLaid (filter (λ k. not (is_among c b ns k)) ks) f.count f.volume → IsLeft c b ns ks f
  left-all ks f n under a h count-is under-is laid =
      let whole = take_all (length ks) ks (omega arith) in
      record {
        fits = subst (λ l. Fits formatted (updates (filter q (ops_of l)))) whole a.fits;
        volume = λ o. a.same o ∙ ap (λ l. after formatted (updates (filter q (ops_of l))) o) whole;
        firm = subst (λ m. IsFirm (filter (λ k. not (is_among c b ns k)) ks) m (images f.volume.under)) (sym count-is) (subst (λ u. IsFirm (filter (λ k. not (is_among c b ns k)) ks) n (images u)) (sym under-is) (firm-left ks n (images under) h));
        laid = laid;
      }
